use mathlib.Core.Path.{subst}
use native.Mathlib.Omega.{arith}
use Rattle.std.proofs.lemmas.List.{take_all}
use Rattle.grammar.specs.Trees.{Rules}
use Rattle.grammar.specs.Content.{rules_of, SmallRule}
use Rattle.grammar.proofs.Lists.{every_at}
use Rattle.dominance.specs.Dominance.{Lefts}
use Rattle.dominance.proofs.LeftSets.{lefts_none, lefts_step}
use Rattle.dominance.proofs.lefts.Goals as goal

pub loop-r-init : goal.loop-r-init
loop-r-init c = lefts_none c.args.a

pub with_left-set-requires : goal.with_left-set-requires
with_left-set-requires c = every_at SmallRule _ _ c.requires.small _ c.loop-r-test.true

pub loop-r-preserved : goal.loop-r-preserved
loop-r-preserved c =
    lefts_step _ _ _ _ _ _ c.loop-r-test.true c.loop-r.invariant c.with_left-set.ensures

pub returns : goal.returns
returns c =
    subst (λ (r : Rules). Lefts r c.args.a c.loop-r.set)
    (take_all _ (rules_of c.args.g) (omega arith)) c.loop-r.invariant
