-- For the same sentence, another mark in the place of `none` never leads from none to another
-- verdict or from one to two.
use mathlib.Core.Path.{◌≡◌, refl, sym, ◌∙◌}
use mathlib.Core.Logic.{◌⊎◌, inl, inr, ⊎_elim}
use mathlib.Core.List.Memᴰ
use mathlib.Core.List.{◌∷◌, Memᴰ}
use Prim.Native.Nat.{ℕ}
use Rattle.grammar.proofs.Unmarked.{none_unary, none_binary}
use Rattle.grammar.specs.declared.Rule.{Rule}
use Rattle.grammar.specs.declared.UnaryMark.{UnaryMark}
use Rattle.grammar.specs.declared.BinaryMark.{BinaryMark}
use Rattle.grammar.specs.declared.Clause.{Clause}
use Rattle.grammar.specs.Layout.{Word}
use Rattle.grammar.specs.Trees.{Rules, Tree, word, Valid, valid_empty, valid_leaf, valid_unary}
use Rattle.grammar.specs.Trees.{valid_binary, Witness, NoTree, OneTree, TwoTrees}
use Rattle.tree_view.specs.Stricter.{StricterClause, same, unary, binary, Stricter, none_left}
use Rattle.tree_view.specs.Stricter.{more}

-- 1. a rule of h stands in g, with the same mark or with none

-- the rule of g that stands where the rule s of h stands
abbrev Before : Rules → Rule → Type 0
Before g s =
    (r : Rule) × Memᴰ r g × (r.left ≡ s.left) × StricterClause r.clause s.clause

pub found : {g h : Rules} → Stricter g h → {s : Rule} → Memᴰ s h → Before g s
found none_left m = absurd (Memᴰ.not-nil m)
found (more {r = r} {s = q} {g = g} {h = h} e c x) {s} m =
    go (λ n. found x n) (Memᴰ.cases_cons m)
  where
    go : (Memᴰ s h → Before g s) → (s ≡ q) ⊎ Memᴰ s h → Before (r ∷ g) s
    go again (inl z) = (r, Memᴰ.head refl, rw z e, rw z c)
    go again (inr n) = let f = again n in (f.0, Memᴰ.tail f.1, f.2, f.3)

from_empty : {c : Clause} → StricterClause c Clause.Empty → c ≡ Clause.Empty
from_empty same = refl

from_atom : {c : Clause} {a b : ℕ} → StricterClause c (Clause.Atom a b) → c ≡ Clause.Atom a b
from_atom same = refl

from_unary : {c : Clause} {B : ℕ} {m : UnaryMark} → StricterClause c (Clause.Unary B m)
    → (c ≡ Clause.Unary B m) ⊎ (c ≡ Clause.Unary B UnaryMark.None)
from_unary same = inl refl
from_unary (unary m) = inr refl

from_binary : {c : Clause} {B C : ℕ} {m : BinaryMark} → StricterClause c (Clause.Binary B C m)
    → (c ≡ Clause.Binary B C m) ⊎ (c ≡ Clause.Binary B C BinaryMark.None)
from_binary same = inl refl
from_binary (binary m) = inr refl

-- a rule by its left and its clause
stands : {g : Rules} {r : Rule} {A : ℕ} {c : Clause} → Memᴰ r g → r.left ≡ A → r.clause ≡ c
    → Memᴰ (record { left = A; clause = c }) g
stands {g} {r} {A} {c} m e f = let z : r ≡ record { left = A; clause = c } =
    λ i. record { left = e i; clause = f i } in rw z at m

-- 2. what is valid under h is valid under g

module _ {g h : Rules} (x : Stricter g h) where
  pub stricter_valid : {t : Tree} → Valid h t → Valid g t
  stricter_valid (valid_empty {A = A} m) = let f = found x m in
      valid_empty (stands f.1 f.2 (from_empty f.3))
  stricter_valid (valid_leaf {A = A} {t = t} m) =
      let f = found x m.rule in
      valid_leaf (record {
        low = m.low;
        high = m.high;
        rule = stands f.1 f.2
            (from_atom f.3);
        covers = m.covers;
      })
  stricter_valid (valid_unary {A = A} {t = t} m r y v) =
      let i = stricter_valid v in
      let f = found x r in
      ⊎_elim (λ e. valid_unary m (stands f.1 f.2 e) y i)
      (λ e. valid_unary UnaryMark.None (stands f.1 f.2 e) (none_unary (word t)) i)
      (from_unary f.3)
  stricter_valid (valid_binary {A = A} {s = s} {t = t} m r y u v) =
      let i = stricter_valid u in
      let j = stricter_valid v in
      let f = found x r in
      ⊎_elim (λ e. valid_binary m (stands f.1 f.2 e) y i j)
      (λ e. valid_binary BinaryMark.None (stands f.1 f.2 e)
      (none_binary (word s) (word t)) i j) (from_binary f.3)

  stricter_witness : {A : ℕ} {w : Word} {t : Tree} → Witness h A w t → Witness g A w t
  stricter_witness y =
      record { rooted = y.rooted; spelled = y.spelled; valid = stricter_valid y.valid }

  -- none stays none
  pub stays_none : {A : ℕ} {w : Word} → NoTree g A w → NoTree h A w
  stays_none n = record { absent = λ t y. n.absent t (stricter_witness y) }

  -- one never becomes two
  pub never_two : {A : ℕ} {w : Word} → OneTree g A w → TwoTrees h A w → ⊥
  never_two o t = t.differ (o.only t.first (stricter_witness t.witness₁)
      ∙ sym (o.only t.second (stricter_witness t.witness₂)))
