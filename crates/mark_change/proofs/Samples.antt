-- The changed sheet, computed: a longer mark, a shorter one, bytes that would add a line, and a
-- mark that the kind does not take.
use mathlib.Core.Path.{◌≡◌, refl}
use mathlib.Core.List.{List, [], ◌∷◌}
use Prim.Native.Nat.{ℕ}
use Rattle.sheets.specs.Items.{refused}
use Rattle.mark_change.specs.Changed.{changed, changed_sheet}

-- 0 B 0 0 none, 0 A 0 - none
sheet : List ℕ
sheet = (108 ∷ 101 ∷ 102 ∷ 116 ∷ 32 ∷ 107 ∷ 105 ∷ 110 ∷ 100 ∷ 32 ∷ 102 ∷ 105 ∷ 114 ∷ 115 ∷ 116 ∷ 32
    ∷ 115 ∷ 101 ∷ 99 ∷ 111 ∷ 110 ∷ 100 ∷ 32 ∷ 108 ∷ 97 ∷ 121 ∷ 10 ∷ 48 ∷ 32 ∷ 66 ∷ 32 ∷ 48 ∷ 32 ∷ 48
    ∷ 32 ∷ 110 ∷ 111 ∷ 110 ∷ 101 ∷ 10 ∷ 48 ∷ 32 ∷ 65 ∷ 32 ∷ 48 ∷ 32 ∷ 45 ∷ 32 ∷ 110 ∷ 111 ∷ 110
    ∷ 101 ∷ 10 ∷ [])

-- the first rule with align, and back
longer : List ℕ
longer = (108 ∷ 101 ∷ 102 ∷ 116 ∷ 32 ∷ 107 ∷ 105 ∷ 110 ∷ 100 ∷ 32 ∷ 102 ∷ 105 ∷ 114 ∷ 115 ∷ 116 ∷ 32
    ∷ 115 ∷ 101 ∷ 99 ∷ 111 ∷ 110 ∷ 100 ∷ 32 ∷ 108 ∷ 97 ∷ 121 ∷ 10 ∷ 48 ∷ 32 ∷ 66 ∷ 32 ∷ 48 ∷ 32 ∷ 48
    ∷ 32 ∷ 97 ∷ 108 ∷ 105 ∷ 103 ∷ 110 ∷ 10 ∷ 48 ∷ 32 ∷ 65 ∷ 32 ∷ 48 ∷ 32 ∷ 45 ∷ 32 ∷ 110 ∷ 111
    ∷ 110 ∷ 101 ∷ 10 ∷ [])

to_align : changed sheet 1 (97 ∷ 108 ∷ 105 ∷ 103 ∷ 110 ∷ []) ≡ longer
unfolding sheet longer
to_align = refl

to_none : changed longer 1 (110 ∷ 111 ∷ 110 ∷ 101 ∷ []) ≡ sheet
unfolding sheet longer
to_none = refl

-- `none`, a byte 10 and a whole rule are no word of lay: 2 in the rule's line
added : changed_sheet sheet 1 (110 ∷ 111 ∷ 110 ∷ 101 ∷ 10 ∷ 49 ∷ 32 ∷ 69 ∷ 32 ∷ 45 ∷ 32 ∷ 45 ∷ 32
    ∷ 110 ∷ 111 ∷ 110 ∷ 101 ∷ []) ≡ refused 2 2
added = refl

-- an A rule takes none only: 4 in its line
not_taken : changed_sheet sheet 2 (97 ∷ 108 ∷ 105 ∷ 103 ∷ 110 ∷ []) ≡ refused 4 3
unfolding sheet
not_taken = refl
