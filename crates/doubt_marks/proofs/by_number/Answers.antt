-- `doubt_marks::by_number` meets its contract.
use mathlib.Core.Path.{sym, ap, ◌∙◌}
use native.Mathlib.Omega.{arith}
use Rattle.pair_offsets.specs.declared.Frame.{Frame}
use Rattle.pair_offsets.proofs.ListLaws.{listed}
use Rattle.doubt_marks.proofs.GrowLaws.{frame_still, frame_grows, evens_taken}
use borrow.Author.Rules.{rules}
use Rattle.doubt_marks.proofs.by_number.Goals as goal

pub returns-then-not-ranked : goal.returns-then-not-ranked
returns-then-not-ranked g c =
    frame_still c.span_frame-f.ensures (c.ranked.ensures.isnt c.if-not-ranked.true)

pub list_from_one-end-requires : goal.list_from_one-end-requires
list_from_one-end-requires g c =
    let e = c.span_frame-f.ensures in
    (search rules, ap (λ (f : Frame). f.start) e ∙ sym (ap (λ (f : Frame). f.begin) e))

pub over_frame-requires : goal.over_frame-requires
over_frame-requires g c =
    let l = c.list_from_one-end.ensures in record {
      evens = evens_taken (omega (arith, l.1, l.0.size)) (listed l.0);
      in_bounds = c.requires.1;
    }

pub returns : goal.returns
returns g c =
    frame_grows c.span_frame-f.ensures (c.ranked.ensures.is c.if-not-ranked.false)
    c.over_frame.ensures
