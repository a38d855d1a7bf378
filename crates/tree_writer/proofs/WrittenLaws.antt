-- What both memories hold, from what `write` and `clear` leave in each.
use mathlib.Core.Path.{◌≡◌, refl, sym, ap, ap₂, ◌∙◌}
use mathlib.Core.Bool.{Bool, true, false}
use mathlib.Core.List.{List}
use mathlib.Core.Logic.{◌⊎◌, inl, inr, ⊎_elim}
use mathlib.Core.Option.{Option, none, some}
use Rattle.std.specs.Prelude.{Option as Maybe, Some, None}
use Rattle.std.proofs.lemmas.Option.{none-some, same_Some}
use Prim.Native.Nat.{ℕ, ◌-◌, ◌≤◌, ◌<◌}
use native.Mathlib.Omega.{arith}
use native.Mathlib.Decide.{dec_le}
use lib.ListN.{length, replicate}
use Rattle.sets.proofs.Says.{true_not_false}
use Rattle.grammar.specs.Layout.{Word}
use Rattle.grammar.specs.Trees.{Tree, Rules}
use Rattle.grammar.specs.Choices.{SecondTree}
use Rattle.tree_writer.specs.Written.{Display, seen_by, row_room, count_of, filled}
use Rattle.tree_writer.specs.RowsWritten.{RowsWritten}
use Rattle.tree_view.specs.Shown.{View, shown_count}
use Rattle.tree_writer.specs.Memories.{SecondIf, second, no_second, Written}

module _ (sees : View) (t u : Option Tree) {l₁ l₂ m₁ m₂ : List ℕ} where
  pub written_fits : {r₁ r₂ : ℕ} → count_of (seen_by sees) t ≤ row_room l₁
      → count_of (seen_by sees) u ≤ row_room l₂ → m₁ ≡ filled (seen_by sees) l₁ t
      → m₂ ≡ filled (seen_by sees) l₂ u → r₁ ≡ count_of (seen_by sees) t
      → r₂ ≡ count_of (seen_by sees) u → Written (seen_by sees) t u l₁ l₂ m₁ m₂
      (Some (record { first = r₁; second = r₂ }))
  written_fits h k e f a b = record {
    fits = λ _ _. (e, f, ap₂ (λ (p q : ℕ). Some (record { first = p; second = q })) a b);
    short = λ z. ⊎_elim (λ x. absurd (omega arith)) (λ x. absurd (omega arith)) z;
  }

  pub written_short : (row_room l₁ < count_of (seen_by sees) t)
      ⊎ (row_room l₂ < count_of (seen_by sees) u) → m₁ ≡ filled (seen_by sees) l₁ none
      → m₂ ≡ filled (seen_by sees) l₂ none
      → Written (seen_by sees) t u l₁ l₂ m₁ m₂
      None
  written_short z e f = record {
    fits = λ h k. ⊎_elim (λ x. absurd (omega arith))
        (λ x. absurd (omega arith)) z;
    short = λ _. (e, f, refl);
  }

-- whether there is a number of rows says whether they fit
module _ (sees : View) (t : Tree) {l m : List ℕ} {r : Maybe ℕ} (x : RowsWritten sees t l m r) where
  laid_none : r ≡ None → row_room l < shown_count sees t
  laid_none e = go (dec_le (shown_count sees t) (row_room l))
    where
      go : Dec (shown_count sees t ≤ row_room l) → row_room l < shown_count sees t
      go (yes h) = absurd (none-some _ (sym e ∙ (x.enough h).1))
      go (no h) = omega arith

  laid_some : {n : ℕ} → r ≡ Some n → (shown_count sees t ≤ row_room l)
      × (m ≡ filled (seen_by sees) l (some t)) × (n ≡ shown_count sees t)
  laid_some {n} f = go (dec_le (shown_count sees t) (row_room l))
    where
      go : Dec (shown_count sees t ≤ row_room l) → (shown_count sees t ≤ row_room l)
          × (m ≡ filled (seen_by sees) l (some t)) × (n ≡ shown_count sees t)
      go (yes h) = (h, (x.enough h).0, same_Some _ _ (sym f ∙ (x.enough h).1))
      go (no h) = absurd (none-some _ (sym (x.short (omega arith)).1 ∙ f))

-- the first tree, and the second where there are two
module _ (sees : View) (t : Tree) {l₁ l₂ m₁ m₂ : List ℕ} {r : Maybe ℕ}
    (x : RowsWritten sees t l₁ m₁ r) where
  pub first_short : (u : Option Tree) → r ≡ None → m₂ ≡ filled (seen_by sees) l₂ none
      → Written (seen_by sees) (some t) u l₁ l₂ m₁ m₂ None
  first_short u z e = let h = laid_none sees t x z in
      written_short sees (some t) u (inl h) (x.short h).0 e

  pub first_done : {g : Rules} {A : ℕ} {w : Word} {two : Bool} {u : Option Tree} {n : ℕ}
      → two ≡ false → SecondIf g A w two u → r ≡ Some n → m₂ ≡ filled (seen_by sees) l₂ none
      → Written (seen_by sees) (some t) u l₁ l₂ m₁ m₂ (Some (record { first = n; second = 0 }))
  first_done d (second q) z e = absurd (true_not_false d)
  first_done d no_second z e = let h = laid_some sees t x z in
      written_fits sees (some t) none h.0 (omega arith) h.1 e h.2 refl

  -- what is written of each second tree
  module _ {g : Rules} {A : ℕ} {w : Word} {r₂ : Maybe ℕ}
      (y : (v : Tree) → SecondTree g A w v → RowsWritten sees v l₂ m₂ r₂) where
    pub second_short : {m₁' : List ℕ} {two : Bool} {u : Option Tree} → two ≡ true
        → SecondIf g A w two u → r₂ ≡ None → length m₁ ≡ length l₁
        → m₁' ≡ filled (seen_by sees) m₁ none
        → Written (seen_by sees) (some t) u l₁ l₂ m₁' m₂ None
    second_short d (second {u = v} q) z n e =
        let h = laid_none sees v (y v q) z in
        written_short sees (some t) (some v) (inr h) (e ∙ ap (λ (k : ℕ). replicate (k - 0) 0) n)
        ((y v q).short h).0
    second_short d no_second z n e = absurd (true_not_false (sym d))

    pub second_done : {two : Bool} {u : Option Tree} {n n' : ℕ} → two ≡ true → SecondIf g A w two u
        → r ≡ Some n → r₂ ≡ Some n' → Written (seen_by sees) (some t) u l₁ l₂ m₁ m₂
        (Some (record { first = n; second = n' }))
    second_done d (second {u = v} q) f k =
        let h = laid_some sees t x f in
        let j = laid_some sees v (y v q) k in
        written_fits sees (some t) (some v) h.0 j.0 h.1 j.1 h.2 j.2
    second_done d no_second f k = absurd (true_not_false (sym d))

-- neither tree
pub none_written : (dis : Display) {l₁ l₂ m₁ m₂ : List ℕ} → m₁ ≡ filled dis l₁ none
    → m₂ ≡ filled dis l₂ none → Written dis none none l₁ l₂ m₁ m₂
    (Some (record { first = 0; second = 0 }))
none_written dis e f = record {
  fits = λ _ _. (e, f, refl);
  short = λ z. ⊎_elim
      (λ x. absurd (omega arith)) (λ x. absurd (omega arith)) z;
}
