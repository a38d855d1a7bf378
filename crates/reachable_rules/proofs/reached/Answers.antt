-- `reached` meets its contract: a closed set has all that 0 reaches, but 0 itself.
use mathlib.Core.Path.{sym, subst}
use Prim.Native.Nat.{ℕ}
use Rattle.acyclic.specs.Exact.{Exactly}
use Rattle.grammar.specs.Content.{rules_of}
use Rattle.reachable_rules.specs.Reach.{Reached}
use Rattle.reachable_rules.proofs.ReachLaws.{reach_exact}
use Rattle.reachable_rules.proofs.reached.Goals as goal

pub returns : goal.returns
returns c =
    subst (λ (s : ℕ). Exactly s (Reached (rules_of c.args.g))) (sym c.with.ensures)
    (reach_exact c.closed.ensures.shut c.closed.ensures.sound)
