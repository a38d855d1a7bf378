-- `run` meets its contract: what the answer puts lies within the output.
use native.Mathlib.Omega.{arith}
use mathlib.Core.Path.{sym}
use Rattle.std.proofs.lemmas.List.{length-take-le}
use Rattle.streams.proofs.run.Goals as goal

pub slice_bounds-out-end : goal.slice_bounds-out-end
slice_bounds-out-end g c =
    omega (arith, c.requires.inside _ _ _ _ c.answer-r.ensures, c.answer-r.array_long)

pub slice_bounds-write_output-end : goal.slice_bounds-write_output-end
slice_bounds-write_output-end g c =
    sym (length-take-le _ _
    (omega (arith, c.requires.inside _ _ _ _ c.answer-r.ensures, c.answer-r.array_long)))
