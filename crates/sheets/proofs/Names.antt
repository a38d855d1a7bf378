-- A sheet's first line, as the cursor has it, against the definition.
use mathlib.Core.Path.{◌≡◌, refl, sym, ap, ◌∙◌}
use mathlib.Core.List.{List, [], ◌∷◌}
use mathlib.Core.Bool.{Bool, true, false, not, cond, ◌&&◌}
use Prim.Native.Nat.{ℕ, ◌+◌, ◌-◌, ◌≤◌, ◌<◌, zero-le}
use native.Mathlib.Nat.{sub-zero}
use lib.ListN.{length, take, drop}
use lib.Dec.{ltb}
use borrow.Author.Tests.{lt-ltb, le-ltb}
use Rattle.fields.specs.declared.Cursor.{Cursor}
use Rattle.std.specs.Prelude.{Some, None}
use Rattle.sets.proofs.Basics.{clash}
use Rattle.fields.specs.Pieces.{pieces, is_empty, same_bytes}
use Rattle.fields.proofs.Pieces.{from_zero}
use Rattle.fields.proofs.Lines.{line_step, more_left}
use Rattle.sheets.specs.Items.{Reading, accepted, refused, with_names}
use Rattle.sheets.specs.Names.{Behind}
use Rattle.fields.specs.Cursors.{pieces_from, line_at}

module _ {A : Type 0} (bad : Reading A) (names s : List ℕ) (k : List (List ℕ) → Reading A) where
  abbrev tried : Cursor → Reading A
  tried c = cond (ltb c.end (length s) && same_bytes (take (c.end - c.at) (drop c.at s))
      names) (k (pieces_from 10 s (c.end + 1))) bad

  at_line : with_names bad names (pieces 10 s) k ≡ tried (line_at s 0)
  at_line = rw (← from_zero 10 s, line_step s 0 zero-le, more_left 10 s (line_at s 0).end) refl

  module _ (c : Cursor) (is : c ≡ line_at s 0) where
    first : with_names bad names (pieces 10 s) k ≡ cond
        (ltb c.end (length s) && same_bytes (take c.end s) names)
        (k (pieces_from 10 s (c.end + 1))) bad
    first =
        let z : c.at ≡ 0 = ap (λ (x : Cursor). x.at) is in
        at_line ∙ ap tried (sym is) ∙ rw (z, sub-zero c.end) refl

    pub names_good : c.end < length s → true ≡ same_bytes (take c.end s) names
        → k (pieces_from 10 s (c.end + 1)) ≡ with_names bad names (pieces 10 s) k
    names_good h t = sym (first ∙ rw (lt-ltb c.end (length s) h, ← t) refl)

    pub names_other : c.end < length s → false ≡ same_bytes (take c.end s) names
        → bad ≡ with_names bad names (pieces 10 s) k
    names_other h t = sym (first ∙ rw (lt-ltb c.end (length s) h, ← t) refl)

    pub names_open : length s ≤ c.end → bad ≡ with_names bad names (pieces 10 s) k
    names_open h = sym (first ∙ rw (le-ltb c.end (length s) h) refl)

-- what is said of the lines behind the names, by where they begin
module _ {A : Type 0} (bad : Reading A) (names : List ℕ) (k : List (List ℕ) → Reading A) where
  named : (ps qs : List (List ℕ)) → with_names (refused 0 0) names ps accepted ≡ accepted qs
      → k qs ≡ with_names bad names ps k
  named [] qs e = absurd (clash cc)
  named (h ∷ ps) qs e = go (not (is_empty ps) && same_bytes h names) e
    where
      go : (b : Bool) → cond b (accepted ps) (refused 0 0) ≡ accepted qs → k qs ≡ cond b (k ps) bad
      go true e = let j : qs ≡ ps = cc in ap k j
      go false e = absurd (clash cc)

  unnamed : (ps : List (List ℕ)) → with_names (refused 0 0) names ps accepted ≡ refused 0 0
      → bad ≡ with_names bad names ps k
  unnamed [] e = refl
  unnamed (h ∷ ps) e = go (not (is_empty ps) && same_bytes h names) e
    where
      go : (b : Bool) → cond b (accepted ps) (refused 0 0) ≡ refused 0 0 → bad ≡ cond b (k ps) bad
      go true e = absurd (clash cc)
      go false e = refl

  pub behind_some : (s : List ℕ) {at : ℕ} → Behind s names (Some at)
      → k (pieces_from 10 s at) ≡ with_names bad names (pieces 10 s) k
  behind_some s {at} h = named (pieces 10 s) (pieces_from 10 s at) h.2

  pub behind_none : (s : List ℕ) → Behind s names None → bad ≡ with_names bad names (pieces 10 s) k
  behind_none s h = unnamed (pieces 10 s) h
