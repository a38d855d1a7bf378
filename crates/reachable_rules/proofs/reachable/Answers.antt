-- The set first, then its rules.
use mathlib.Core.Path.{sym, subst}
use Prim.Native.Nat.{ℕ}
use Rattle.grammar.specs.Content.{rules_of}
use Rattle.reachable_rules.specs.Steps.{Picked}
use Rattle.reachable_rules.proofs.PickLaws.{picked_all}
use Rattle.reachable_rules.proofs.reachable.Goals as goal

pub returns : goal.returns
returns c =
    let p = c.pick in
    let g = c.args.g in (
      picked_all c.reached-set.ensures
          (subst (λ (i : ℕ). Picked (rules_of g) c.reached-set.result i (rules_of p.result))
          (sym c.requires.whole) p.ensures.0),
      p.ensures.1,
    )
