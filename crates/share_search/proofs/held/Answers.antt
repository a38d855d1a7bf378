-- `share_search::held` meets its contract: the block's least number is compared, cell by cell.
use native.Mathlib.Omega.{arith}
use Rattle.share_search.proofs.held.Goals as goal

pub block_of-k-requires : goal.block_of-k-requires
block_of-k-requires c = record {
  few = c.requires.few;
  candidate = c.requires.candidate;
  b_le_n = omega (arith, c.requires.b_le_n, c.loop-h-test.true);
}

pub loop-h-preserved : goal.loop-h-preserved
loop-h-preserved c = omega (arith, c.loop-h-test.true)
