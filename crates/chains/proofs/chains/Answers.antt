use mathlib.Core.Path.{sym, ◌∙◌}
use native.Mathlib.Omega.{arith}
use Rattle.grammar.specs.Content.{rules_of}
use Rattle.chains.proofs.ChainLaws.{upto_none, upto_all}
use Rattle.chains.proofs.chains.Goals as goal

pub loop-l-init : goal.loop-l-init
loop-l-init c = upto_none (rules_of c.args.g) c.args.e c.args.table.now c.requires.table_len

pub next_level-requires : goal.next_level-requires
next_level-requires c =
    record { l_bound = c.loop-l-test.true; formed = c.requires.formed; upto = c.loop-l.invariant }

pub loop-l-smaller : goal.loop-l-smaller
loop-l-smaller c = omega (arith, c.loop-l-test.true)

pub loop-l-preserved : goal.loop-l-preserved
loop-l-preserved c = c.next_level.ensures

pub shape_of-table : goal.shape_of-table
shape_of-table c = c.loop-l.invariant.size ∙ sym c.requires.table_len

pub returns : goal.returns
returns c = upto_all (omega (arith, c.loop-l-test.false)) c.loop-l.invariant
