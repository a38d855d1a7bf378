-- `settle` meets its contract: the splits once, then passes until nothing falls.
use mathlib.Core.Path.{sym, subst}
use Prim.Native.Nat.{ℕ}
use Rattle.marks.specs.Drafts.{drafted}
use Rattle.marks.specs.Marked.{Marked}
use Rattle.heights.specs.Tall.{Room}
use Rattle.heights.proofs.FallLaws.{falls_room}
use Rattle.heights.proofs.RowLaws.{lefts_formed, shut_by}
use Rattle.heights.proofs.settle.Lts
use Rattle.heights.proofs.settle.Reads
use Rattle.heights.proofs.settle.Tie
use Rattle.heights.proofs.settle.Goals as goal

pub span_marks-k-requires : goal.span_marks-k-requires
span_marks-k-requires c = record { few = c.requires.0.draft.few; fits = c.requires.0.fits }

room : (c : Lts.Start Tie.the-claims Reads.Pre Reads.Post)
    → Room c.args.hs.now c.args.d.count c.args.start c.args.len
room c = record { few = c.requires.0.draft.few; fits = c.requires.0.fits; long = c.requires.0.long }

pub lower_inner-fell-requires : goal.lower_inner-fell-requires
lower_inner-fell-requires c = (room c.before.before.before, c.requires.1)

pub lower_on-requires : goal.lower_on-requires
lower_on-requires c = (
  falls_room (lefts_formed c.requires.1)
      (room c.before.before.before.before.before.before.before) c.lower_inner-fell.ensures.falls,
  c.requires.1,
)

pub returns : goal.returns
returns c =
    let a = c.args in
    let m = subst (λ (x : ℕ). Marked (record { word = drafted a.d; known = x }) a.start
    a.len c.span_marks-k.result) c.requires.0.draft.known c.span_marks-k.ensures in
    shut_by (drafted a.d) c.span_marks-k.result a.d.count a.g.count
    c.requires.0.draft.whole (sym c.requires.1.whole) (lefts_formed c.requires.1)
    (room c.before.before.before.before.before.before.before.before.before.before.before) m
    c.lower_inner-fell.ensures c.lower_on.ensures
