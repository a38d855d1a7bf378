-- What was read stands behind what stood there.
use Rattle.std.proofs.Common.{rules, subst}
use Rattle.std.specs.Io.KnownBytes.{Consumes}
use Rattle.std.proofs.KnownBytes.{Consumes-trans}
use Rattle.streams.proofs.Parts.{take-put_mid}
use Rattle.streams.proofs.read_full.Goals as goal

pub loop-done-preserved : goal.loop-done-preserved
loop-done-preserved g c = (
  search rules,
  search rules,
  subst (Consumes _ _)
      (take-put_mid c.loop-done.done c.in_ok-n.n c.loop-done.buf c.read_once.new.buf
      c.loop-done.invariant.0 (search rules))
      (Consumes-trans _ _ _ _ _ c.loop-done.invariant.2 c.in_ok-n.ensures.bytes.0),
)
