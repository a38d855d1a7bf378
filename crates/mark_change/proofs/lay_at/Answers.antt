-- `lay_at` meets its contract: the rule's line, then its fifth field.
use mathlib.Core.Path.{◌≡◌, ap, ◌∙◌}
use mathlib.Core.List.{List}
use Prim.Native.Nat.{ℕ}
use native.Mathlib.Omega.{arith}
use lib.ListN.{length}
use Rattle.fields.specs.Pieces.{pieces}
use Rattle.sheets.specs.RefusedLines.{piece_start}
use Rattle.mark_change.specs.Changed.{line_of}
use Rattle.mark_change.proofs.Putting.{start_in, line_ends, line_starts, line_within}
use Rattle.mark_change.proofs.Putting.{line_bytes, lay_rises, lay_within}
use Rattle.mark_change.proofs.lay_at.Goals.{After-piece_start-k}
use Rattle.mark_change.proofs.lay_at.Goals as goal

pub line-c-requires : goal.line-c-requires
line-c-requires c =
    omega (arith, c.piece_start-at.ensures, start_in c.args.s.now c.args.p c.requires.0)

pub slice_bounds-line-count : goal.slice_bounds-line-count
slice_bounds-line-count c = line_starts c.args.s.now c.args.p c.requires.0 c.piece_start-at.ensures
    c.line-c.ensures

pub slice_bounds-line-start : goal.slice_bounds-line-start
slice_bounds-line-start c =
    omega (
      arith,
      line_starts c.args.s.now c.args.p c.requires.0
          c.piece_start-at.ensures c.line-c.ensures,
      line_within c.args.s.now
          c.args.p c.requires.0 c.piece_start-at.ensures c.line-c.ensures,
    )

pub slice_bounds-line-end : goal.slice_bounds-line-end
slice_bounds-line-end c =
    omega (
      arith,
      line_starts c.args.s.now c.args.p c.requires.0
          c.piece_start-at.ensures c.line-c.ensures,
      line_within c.args.s.now
          c.args.p c.requires.0 c.piece_start-at.ensures c.line-c.ensures,
    )

pub piece_start-k-requires : goal.piece_start-k-requires
piece_start-k-requires c =
    let same = ap (λ (x : List ℕ). length (pieces 32 x))
    (line_bytes c.args.s.now c.args.p c.requires.0 c.piece_start-at.ensures c.line-c.ensures) in
    omega (arith, same, c.requires.1)

-- where the lay begins in its line
inner : (c : After-piece_start-k)
    → c.piece_start-k.result ≡ piece_start (pieces 32 (line_of c.args.s.now c.args.p)) 4
inner c =
    c.piece_start-k.ensures ∙ ap (λ (x : List ℕ). piece_start (pieces 32 x) 4)
    (line_bytes c.args.s.now c.args.p c.requires.0
    c.piece_start-at.ensures c.line-c.ensures)

pub overflow_add-result : goal.overflow_add-result
overflow_add-result c =
    omega (
      arith,
      inner c,
      c.piece_start-at.ensures,
      lay_rises
          c.args.s.now c.args.p c.requires.0 c.requires.1,
      lay_within c.args.s.now
          c.args.p c.requires.0 c.requires.1,
      c.well_formed,
    )

pub returns : goal.returns
returns c = (
  omega (arith, inner c, c.piece_start-at.ensures),
  line_ends
      c.args.s.now c.args.p c.requires.0
      c.piece_start-at.ensures c.line-c.ensures,
)
