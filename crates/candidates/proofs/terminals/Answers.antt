use native.Mathlib.Omega.{arith}
use mathlib.Core.Path.{subst}
use Rattle.std.proofs.lemmas.List.{take_all}
use Rattle.grammar.specs.Trees.{Rules}
use Rattle.grammar.specs.Content.{rules_of}
use Rattle.candidates.specs.Terminals.{Terminals}
use Rattle.candidates.proofs.TerminalSets.{terminals_none, terminals_step, small_at}
use Rattle.candidates.proofs.terminals.Goals as goal

pub loop-r-init : goal.loop-r-init
loop-r-init c = terminals_none

pub with_terminal-set-requires : goal.with_terminal-set-requires
with_terminal-set-requires c = small_at c.requires _ _ c.loop-r-test.true

pub loop-r-preserved : goal.loop-r-preserved
loop-r-preserved c =
    terminals_step _ _ _ _ _ c.loop-r-test.true c.loop-r.invariant c.with_terminal-set.ensures

pub returns : goal.returns
returns c =
    subst (λ (r : Rules). Terminals r c.loop-r.set)
    (take_all _ (rules_of c.args.g) (omega arith)) c.loop-r.invariant
