use native.Mathlib.Omega.{arith}
use Rattle.candidates.proofs.Spelling.{spelled_none, spelled_turn, spelled_whole}
use Rattle.candidates.proofs.Spelling.{step_low}
use Rattle.candidates.proofs.Candidate.tokens.Goals as goal

pub loop-i-init : goal.loop-i-init
loop-i-init g c = spelled_none g.row.N c.args.self c.args.n c.requires.2

pub overflow_add-line : goal.overflow_add-line
overflow_add-line g c =
    let k = step_low g.row.N c.args.self _ _ _ _ c.loop-i-test.true
    c.requires.1 c.loop-i.invariant _ c.cell-d.ensures in
    omega (arith, k, c.loop-i.invariant.low, c.loop-i-test.true, c.requires.0)

pub loop-i-preserved : goal.loop-i-preserved
loop-i-preserved g c =
    spelled_turn g.row.N c.args.self _ _ _ _ c.loop-i-test.true c.requires.1 c.loop-i.invariant _
    c.cell-d.ensures

pub returns : goal.returns
returns g c = spelled_whole _ _ _ _ _ _ c.loop-i-test.false c.loop-i.invariant
