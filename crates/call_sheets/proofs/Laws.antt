-- Bytes that are one field, and what is left of a call sheet's line.
use mathlib.Core.Path.{◌≡◌, refl}
use mathlib.Core.Bool.{Bool, true, false}
use mathlib.Core.List.{List, [], ◌∷◌}
use Rattle.std.specs.Prelude.{None}
use Prim.Native.Nat.{ℕ, ◌+◌, ◌-◌, ◌≤◌}
use native.Mathlib.Omega.{arith}
use borrow.Author.Tests.{leb-true}
use lib.Dec.{eqb, leb}
use lib.ListN.{length}
use Rattle.fields.specs.Pieces.{pieces, onto}
use Rattle.call_sheets.specs.declared.TwoSheets.TheVariants as TwoSheets
use Rattle.call_sheets.specs.CallSheets.{on_two}
use Rattle.call_sheets.specs.CallSheets.{begins_with, broken, change_end}
use Rattle.call_sheets.specs.OneField.{one_field_of}

-- 1. one field left

-- not exactly one field, or one with a byte 10
abbrev bad : List (List ℕ) → Bool
bad [] = true
bad (f ∷ []) = broken f
bad (f ∷ g ∷ fs) = true

pub end_not : (m u r : ℕ) (fs : List (List ℕ)) → bad fs ≡ true → change_end m u r fs ≡ None
end_not m u r [] e = refl
end_not m u r (f ∷ []) e = rw e
end_not m u r (f ∷ g ∷ fs) e = refl

-- a byte put before the first of the fields
onto_break : (x : ℕ) (fs : List (List ℕ)) → eqb x 10 ≡ true → bad (onto x fs) ≡ true
onto_break x [] h = rw h
onto_break x (f ∷ []) h = rw h
onto_break x (f ∷ g ∷ fs) h = refl

onto_bad : (x : ℕ) (f : List ℕ) (fs : List (List ℕ)) → eqb x 10 ≡ false → bad (f ∷ fs) ≡ true
    → bad (onto x (f ∷ fs)) ≡ true
onto_bad x f [] h e = rw h e
onto_bad x f (g ∷ fs) h e = refl

-- there is always a piece
record First (fs : List (List ℕ)) : Type 0 where
  head : List ℕ
  rest : List (List ℕ)
  is : fs ≡ head ∷ rest

first_piece : (t : List ℕ) → First (pieces 32 t)
first_piece [] = record { head = []; rest = []; is = refl }
first_piece (x ∷ t) = go (eqb x 32) refl (first_piece t)
  where
    go : (b : Bool) → eqb x 32 ≡ b → First (pieces 32 t) → First (pieces 32 (x ∷ t))
    go true h q = record { head = []; rest = pieces 32 t; is = rw h }
    go false h q = record { head = x ∷ q.head; rest = q.rest; is = rw (h, q.is) }

pub left_bad : (t : List ℕ) → one_field_of t ≡ false → bad (pieces 32 t) ≡ true
left_bad [] e = let z : ◌≡◌ {A = ℕ} 0 1 = cc in absurd (omega arith)
left_bad (x ∷ t) e = go (eqb x 32) refl (eqb x 10) refl (first_piece t) (left_bad t)
  where
    go : (b : Bool) → eqb x 32 ≡ b → (d : Bool) → eqb x 10 ≡ d → First (pieces 32 t)
        → (one_field_of t ≡ false → bad (pieces 32 t) ≡ true) → bad (pieces 32 (x ∷ t)) ≡ true
    go true h d k q r = rw (h, q.is)
    go false h true k q r = rw h (onto_break x (pieces 32 t) k)
    go false h false k q r =
        let o : one_field_of t ≡ false = rw (h, k) at e in
        rw (h, q.is) (onto_bad x q.head q.rest k (rw q.is at (r o)))

pub left_one : (t : List ℕ) → one_field_of t ≡ true → (pieces 32 t ≡ t ∷ []) × (broken t ≡ false)
left_one [] e = (refl, refl)
left_one (x ∷ t) e = go (eqb x 32) refl (eqb x 10) refl (left_one t)
  where
    go : (b : Bool) → eqb x 32 ≡ b → (d : Bool) → eqb x 10 ≡ d
        → (one_field_of t ≡ true → (pieces 32 t ≡ t ∷ []) × (broken t ≡ false))
        → (pieces 32 (x ∷ t) ≡ (x ∷ t) ∷ []) × (broken (x ∷ t) ≡ false)
    go true h d k r = let f : ◌≡◌ {A = Bool} false true = rw h at e in let z : ◌≡◌ {A = ℕ} 0 1 =
        cc in absurd (omega arith)
    go false h true k r = let f : ◌≡◌ {A = Bool} false true = rw (h, k) at e in
        let z : ◌≡◌ {A = ℕ} 0 1 = cc in absurd (omega arith)
    go false h false k r =
        let q = r (rw (h, k) at e) in
        (rw (h, q.0), rw (k, q.1))

-- exactly one field left, which has no byte 10
pub end_one : (m u r : ℕ) (t : List ℕ) → one_field_of t ≡ true
    → change_end m u r (pieces 32 t) ≡ on_two (TwoSheets.Change u r (m - 1 - length t))
end_one m u r t e = let q = left_one t e in rw (q.0, q.1)

-- 2. a sheet that begins so is longer than its beginning

pub begins_long : (start s : List ℕ) → begins_with start s ≡ true → length start + 1 ≤ length s
begins_long start s e = go (leb (length start + 1) (length s)) refl
  where
    go : (b : Bool) → leb (length start + 1) (length s) ≡ b → length start + 1 ≤ length s
    go true h = leb-true (length start + 1) (length s) h
    go false h = let f : ◌≡◌ {A = Bool} false true = rw h at e in let z : ◌≡◌ {A = ℕ} 0 1 = cc in
        absurd (omega arith)
