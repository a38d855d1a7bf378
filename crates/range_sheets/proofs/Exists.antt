-- A refusal's line is a line of the range sheet, or 0.
use mathlib.Core.Path.{◌≡◌, refl}
use mathlib.Core.Bool.{Bool, true, false, cond}
use mathlib.Core.List.{List, []}
use Prim.Native.Nat.{ℕ, ◌≤◌}
use native.Mathlib.Omega.{arith}
use lib.Dec.{leb}
use lib.ListN.{length}
use Rattle.sets.proofs.Basics.{clash}
use Rattle.fields.specs.Pieces.{pieces}
use Rattle.sheets.specs.Items.{Reading, accepted, refused, items_from, with_names}
use Rattle.sheets.proofs.Accepted.{items_line}
use Rattle.sheets.proofs.Walks.{names_line, first_line}
use Rattle.column_ranges.specs.declared.RangeToken.{RangeToken}
use Rattle.column_ranges.specs.Ranges.{choice_count, choice_limit}
use Rattle.range_sheets.specs.RangeSheets.{range_step, few_choices, range_names, range_sheet}

counted_line : (x : Reading (List RangeToken)) (n : ℕ) (f : ℕ) (l : ℕ)
    → ((g : ℕ) (m : ℕ) → x ≡ refused g m → m ≤ n) → few_choices x ≡ refused f l → l ≤ n
counted_line (accepted w) n f l h e = go (leb (choice_count w) choice_limit) e
  where
    go : (b : Bool) → cond b (accepted w) (refused 49 0) ≡ refused f l → l ≤ n
    go true e = absurd (clash cc)
    go false e = let j : ◌≡◌ {A = ℕ} 0 l = cc in omega arith
counted_line (refused g m) n f l h e = let j : m ≡ l = cc in omega (arith, h g m refl)

pub range_exists : (s : List ℕ) (f : ℕ) (l : ℕ) → range_sheet s ≡ refused f l
    → l ≤ length (pieces 10 s)
range_exists s f l = counted_line read (length (pieces 10 s)) f l lines
  where
    read : Reading (List RangeToken)
    read = with_names (refused 11 1) range_names (pieces 10 s) (items_from range_step [])

    lines : (g : ℕ) (m : ℕ) → with_names (refused 11 1) range_names (pieces 10 s)
        (items_from range_step []) ≡ refused g m → m ≤ length (pieces 10 s)
    lines g m = names_line (refused 11 1) range_names (items_from range_step [])
        (λ ps f l e. omega (arith, items_line range_step [] ps f l e)) (pieces 10 s) g m
        (first_line 11 s g m)
