-- The marks of the span are worked out once.
use mathlib.Core.Path.{ap, subst}
use Prim.Native.Nat.{ℕ}
use native.Mathlib.Omega.{arith}
use lib.ListN.{set}
use Rattle.marks.specs.Drafts.{drafted}
use Rattle.marks.specs.Marked.{Marked}
use Rattle.spans.proofs.Places.{pair_at_below, pairs_few}
use Rattle.contained_spans.proofs.WorkLaws.{known_room}
use Rattle.contained_spans.proofs.spread_span.Goals as goal

pub span_marks-k-requires : goal.span_marks-k-requires
span_marks-k-requires c = let s = c.requires.space.0 in record { few = s.few; fits = s.fits }

pub pair_at-p-requires : goal.pair_at-p-requires
pair_at-p-requires c = let s =
    c.requires.space.0 in (s.few, s.fits)

pub work_off-requires : goal.work_off-requires
work_off-requires c =
    let s = c.requires.space.0 in record {
      room = (known_room c.requires.known.0 c.args.start c.args.len s.fits, s);
      formed = (c.requires.known.1, c.requires.known.2);
      ready = c.requires.ready;
    }

pub offset_bounds-parts-p : goal.offset_bounds-parts-p
offset_bounds-parts-p c =
    let s = c.requires.space.0 in
    let n = c.args.d.count in
    omega (
      arith,
      c.pair_at-p.ensures,
      pairs_few n s.few,
      pair_at_below n c.args.start c.args.len s.fits,
    )

pub bounds-parts-p : goal.bounds-parts-p
bounds-parts-p c =
    let s = c.requires.space in
    let n = c.args.d.count in
    omega (
      arith,
      c.pair_at-p.ensures,
      s.1.enough,
      pair_at_below n c.args.start c.args.len s.0.fits,
    )

pub returns : goal.returns
returns c =
    let a = c.args in
    let k = c.requires.known.0 in
    let o = c.work_off in
    record {
      long = o.ensures.long;
      seen = o.ensures.seen;
      word = o.result;
      wrote = ap (λ (p : ℕ). set a.parts.now p o.result)
          c.pair_at-p.ensures;
      spreads = o.ensures.spreads (drafted a.d) k.long k.sheet
          (subst (λ (x : ℕ). Marked (record { word = drafted a.d; known = x }) a.start
          a.len
          c.span_marks-k.result)
          k.known c.span_marks-k.ensures);
    }
