-- A cursor's field methods against the fields of its line.
use mathlib.Core.Path.{◌≡◌, refl, sym, ap, ◌∙◌}
use mathlib.Core.List.{List, [], ◌∷◌}
use mathlib.Core.Bool.{Bool, true, false}
use Rattle.std.specs.Prelude.{Option, Some, None}
use Prim.Native.Nat.{ℕ, ◌+◌, ◌-◌, ◌≤◌, ◌<◌}
use native.Mathlib.Omega.{arith}
use lib.ListN.{length, take, drop, length-drop}
use lib.Seq.{length-take-le}
use lib.Dec.{leb}
use borrow.Author.Tests.{lt-leb, leb-true}
use Rattle.fields.specs.declared.Cursor.{Cursor}
use Rattle.fields.specs.Pieces.{before}
use Rattle.fields.specs.Fields.{on_value, with_field, at_end_of}
use Rattle.fields.proofs.Pieces.{from_step, before_le, cut_high, cut_step}
use Rattle.fields.specs.Cursors.{pieces_from, fields_left, FirstField, with_cursor, read_field}

-- a cursor c of the sheet s whose line ends in the sheet
module _ (s : List ℕ) (c : Cursor) (inside : c.end ≤ length s) where
  pub line_long : length (take c.end s) ≡ c.end
  line_long = length-take-le c.end s inside

  pub left_none : c.end < c.at → fields_left s c ≡ []
  left_none h = rw (lt-leb c.at (length (take c.end s)) (omega (arith, line_long)))

  -- a field that ends at e, as `piece_end` finds it
  module _ (e : ℕ) (low : c.at ≤ c.end)
      (ends : e ≡ c.at + length (before 32 (drop c.at (take c.end s)))) where
    at_line : c.at ≤ length (take c.end s)
    at_line = omega (arith, line_long)

    pub field_high : e ≤ length (take c.end s)
    field_high = cut_high 32 (take c.end s) c.at e at_line ends

    pub first_field : FirstField s c (take (e - c.at) (drop c.at (take c.end s)))
    first_field = record {
      fits = omega (
        arith,
        length-take-le (e - c.at) (drop c.at (take c.end s))
            (omega (arith, length-drop c.at (take c.end s), field_high)),
        field_high,
        line_long,
        before_le 32 (drop c.at (take c.end s)),
      );
      rest = pieces_from 32 (take c.end s) (e + 1);
      here = cut_step 32 (take c.end s) c.at e at_line ends;
    }

-- what a field method answers, at a reader of fields that goes on with k
module _ {R X : Type 0} (bad : R) (read : List ℕ → Option X) (k : X → List (List ℕ) → R) where
  pub with_bad : (c : Cursor) (fs : List (List ℕ)) → None ≡ read_field read c fs
      → with_field bad read fs k ≡ bad
  with_bad c [] e = refl
  with_bad c (f ∷ fs) e = go (read f) e
    where
      go : (o : Option X) → None ≡ with_cursor o (record { at = c.at + length f + 1; end = c.end })
          → on_value bad o (λ v. k v fs) ≡ bad
      go (Some v) e = let z : ◌≡◌ {A = ℕ} 0 1 = cc in absurd (omega arith)
      go None e = refl

  with_first : (c d : Cursor) (f : List ℕ) (fs : List (List ℕ)) (v : X)
      → Some (v, d) ≡ read_field read c (f ∷ fs)
      → (with_field bad read (f ∷ fs) k ≡ k v fs)
      × (d ≡ record { at = c.at + length f + 1; end = c.end })
  with_first c d f fs v e = go (read f) e
    where
      go : (o : Option X) → Some (v, d) ≡ with_cursor o
          (record { at = c.at + length f + 1; end = c.end })
          → (on_value bad o (λ w. k w fs) ≡ k v fs)
          × (d ≡ record { at = c.at + length f + 1; end = c.end })
      go (Some w) e =
          let p : ◌≡◌ {A = X × Cursor} (w, record { at = c.at + length f + 1; end = c.end })
          (v, d) = cc in
          (ap (λ (x : X × Cursor). k x.0 fs) p, ap (λ (x : X × Cursor). x.1) (sym p))
      go None e = let z : ◌≡◌ {A = ℕ} 0 1 = cc in absurd (omega arith)

  pub with_good : (s : List ℕ) (c d : Cursor) (v : X)
      → Some (v, d) ≡ read_field read c (fields_left s c)
      → (with_field bad read (fields_left s c) k ≡ k v (fields_left s d)) × (d.end ≡ c.end)
  with_good s c d v e = go (leb c.at (length (take c.end s))) refl
    where
      go : (t : Bool) → leb c.at (length (take c.end s)) ≡ t
          → (with_field bad read (fields_left s c) k ≡ k v (fields_left s d)) × (d.end ≡ c.end)
      go true h =
          let t = from_step 32 (take c.end s) c.at
          (leb-true c.at (length (take c.end s)) h) in
          let p = with_first c d (before 32 (drop c.at (take c.end s))) _ v (rw t at e) in (
            rw t (p.0 ∙ ap (λ (x : Cursor). k v (fields_left s x)) (sym p.1)),
            ap
                (λ (x : Cursor). x.end) p.1,
          )
      go false h =
          let b : read_field read c (fields_left s c) ≡ None = rw h in
          let z : ◌≡◌ {A = ℕ} 0 1 = cc in absurd (omega arith)

-- no field is left, and one is
module _ {R : Type 0} (bad r : R) (s : List ℕ) (c : Cursor) (inside : c.end ≤ length s) where
  pub end_good : c.end < c.at → at_end_of bad (fields_left s c) r ≡ r
  end_good h = rw (left_none s c inside h)

  pub end_bad : c.at ≤ c.end → at_end_of bad (fields_left s c) r ≡ bad
  end_bad h = rw (from_step 32 (take c.end s) c.at (omega (arith, line_long s c inside)))

-- Q holds of what is said of a line's fields if it holds of `bad` and of what k says
module _ {R : Type 0} (Q : R → Type 0) (bad : R) (none_of : Q bad) where
  pub with_holds : {X : Type 0} (read : List ℕ → Option X) (k : X → List (List ℕ) → R)
      → ((v : X) (fs : List (List ℕ)) → Q (k v fs)) → (fs : List (List ℕ))
      → Q (with_field bad read fs k)
  with_holds read k h [] = none_of
  with_holds {X} read k h (f ∷ fs) = go (read f)
    where
      go : (o : Option X) → Q (on_value bad o (λ v. k v fs))
      go (Some v) = h v fs
      go None = none_of

  pub end_holds : (r : R) → Q r → (fs : List (List ℕ)) → Q (at_end_of bad fs r)
  end_holds r q [] = q
  end_holds r q (f ∷ fs) = none_of
