-- `put_changed` meets its contract: three parts, put one after the other, are the changed sheet.
use mathlib.Core.Path.{sym}
use native.Mathlib.Omega.{arith}
use lib.Seq.{length-take-le}
use Rattle.mark_change.proofs.Putting.{lay_rises, lay_within, gives_changed}
use Rattle.mark_change.proofs.put_changed.Goals as goal

pub slice_bounds-head-end : goal.slice_bounds-head-end
slice_bounds-head-end c =
    let z = c.args in
    sym (length-take-le _ _ (omega (
      arith,
      c.lay_at-f.ensures.0,
      lay_rises z.s.now z.p c.requires.0 c.requires.1,
      lay_within z.s.now z.p c.requires.0 c.requires.1,
    )))

pub slice_bounds-tail-count : goal.slice_bounds-tail-count
slice_bounds-tail-count c =
    omega (
      arith,
      c.lay_at-f.ensures.1,
      lay_within c.args.s.now c.args.p c.requires.0 c.requires.1,
    )

pub slice_bounds-tail-start : goal.slice_bounds-tail-start
slice_bounds-tail-start c =
    omega (
      arith,
      c.lay_at-f.ensures.1,
      lay_within c.args.s.now c.args.p c.requires.0 c.requires.1,
    )

pub slice_bounds-tail-end : goal.slice_bounds-tail-end
slice_bounds-tail-end c =
    omega (
      arith,
      c.lay_at-f.ensures.1,
      lay_within c.args.s.now c.args.p c.requires.0 c.requires.1,
    )

pub returns : goal.returns
returns c =
    let z = c.args in
    gives_changed z.s.now z.p z.lay.now c.lay_at-f.ensures.0
    c.lay_at-f.ensures.1
    (c.finish.ensures.gives (c.put-c.ensures.puts
    (c.put-b.ensures.puts (c.put-a.ensures.puts (c.begin.ensures.puts _)))))
