-- What the paper's definitions yield: Lemma 4.3, dissimilar trees and choices, Theorem 4.5. Nothing
-- is said of cycles.
use mathlib.Core.Path.{◌≡◌, refl, sym, ap, ap₂, ◌∙◌, subst, subst₂}
use mathlib.Core.Logic.{◌⊎◌, inl, inr, ⊎_elim, ◌↔◌}
use mathlib.Core.List.{[], ◌∷◌, ◌++◌}
use Prim.Native.Nat.{ℕ}
use native.Mathlib.Omega.{arith}
use native.Mathlib.Decide.{ℕ_discrete}
use lib.ListN.{length}
use Rattle.grammar.specs.declared.Token.{Token}
use Rattle.grammar.specs.declared.Rule.{Rule}
use Rattle.grammar.specs.declared.Clause.{Clause}
use Rattle.grammar.specs.declared.UnaryMark.{UnaryMark}
use Rattle.grammar.specs.declared.BinaryMark.{BinaryMark}
use Rattle.grammar.specs.Layout.{Word}
use Rattle.grammar.specs.Layout as Mark
use Rattle.grammar.specs.Trees.{Tree, empty, leaf, unary, binary, root, word, Rules, Covers}
use Rattle.grammar.specs.Trees.{HasUnary, HasBinary, Valid, valid_unary, valid_binary, Witness}
use Rattle.grammar.specs.Trees.{Derives, TwoTrees}
use Rattle.grammar.specs.Choices.{Top, Takes, Same}
use Rattle.grammar.proofs.ChoiceLaws.{takes_of, append_inj}
use Rattle.grammar.proofs.ByKind.{derives_of, top_left}
use Rattle.places.specs.LocalAmbiguity as Pl
use Rattle.places.specs.LocalAmbiguity.{OneStep, by_unary, by_left, by_right, Reaches, stay}
use Rattle.places.specs.LocalAmbiguity.{step, Within, SubDerivation, Similar, Dissimilar}
use Rattle.places.specs.LocalAmbiguity.{LocallyAmbiguous}
use Rattle.places.specs.Places.{Several}
use Rattle.grammar.specs.Distinct.{Alike, Distinct}

-- 1. one step up: a tree over a tree

pub over_unary : {g : Rules} {A B : ℕ} {w : Word} (m : UnaryMark) → HasUnary g A B m
    → Mark.Unary m w → (t : Tree) → Witness g B w t → Witness g A w (unary A t)
over_unary {A = A} m h x t y =
    record {
      rooted = refl;
      spelled = y.spelled;
      valid =
          valid_unary {A = A} {t = t} m (rw y.rooted h) (rw y.spelled x) y.valid;
    }

pub over_binary : {g : Rules} {A B C : ℕ} {u v : Word} (m : BinaryMark) → HasBinary g A B C m
    → Mark.Binary m u v → (s t : Tree) → Witness g B u s
    → Witness g C v t → Witness g A (u ++ v) (binary A s t)
over_binary {A = A} m h x s t y z =
    record {
      rooted = refl;
      spelled = rw (y.spelled, z.spelled) refl;
      valid = valid_binary {A = A} {s = s} {t = t} m (rw (y.rooted, z.rooted) h)
          (rw (y.spelled, z.spelled) x) y.valid z.valid;
    }

-- 2. Lemma 4.3

within_trans : {r s : Tree} (T : Tree) → Within r s → Within s T → Within r T
within_trans T x Pl.here = x
within_trans T x (Pl.below {s = s} y) = Pl.below (within_trans s x y)
within_trans T x (Pl.left {u = u} y) = Pl.left (within_trans u x y)
within_trans T x (Pl.right {v = v} y) = Pl.right (within_trans v x y)

step_sub : {g : Rules} {A B : ℕ} {w v : Word} → OneStep g A w B v → SubDerivation g A w B v
step_sub (by_unary {A = A} m h x) =
    record { extend = λ t y. (unary A t, over_unary m h x t y, Pl.below Pl.here) }
step_sub (by_left {A = A} m h x d e) = record {
  extend = λ t y. (
    binary A t d.tree,
    rw e (over_binary m h x t d.tree y d.witness),
    Pl.left Pl.here,
  );
}
step_sub (by_right {A = A} m h x d e) = record {
  extend = λ t y. (
    binary A d.tree t,
    rw e (over_binary m h x d.tree t d.witness y),
    Pl.right Pl.here,
  );
}

pub reaches_sub : {g : Rules} {A B : ℕ} {w v : Word} → Reaches g A w B v → SubDerivation g A w B v
reaches_sub stay = record { extend = λ t y. (t, y, Pl.here) }
reaches_sub (step s r) =
    record {
      extend = λ t y. let a = (reaches_sub r).extend t y in let b =
          (step_sub s).extend a.0 a.1 in (b.0, b.1, within_trans b.0 a.2 b.2);
    }

pub within_reaches : {g : Rules} {t T : Tree} → Within t T → Valid g T
    → Reaches g (root T) (word T) (root t) (word t) × Valid g t
within_reaches Pl.here v = (stay, v)
within_reaches (Pl.below x) (valid_unary m h y v) = let r = within_reaches x v in
    (step (by_unary m h y) r.0, r.1)
within_reaches (Pl.left x) (valid_binary m h y a b) = let r = within_reaches x a in
    (step (by_left m h y (derives_of b) refl) r.0, r.1)
within_reaches (Pl.right x) (valid_binary m h y a b) = let r = within_reaches x b in
    (step (by_right m h y (derives_of a) refl) r.0, r.1)

pub sub_reaches : {g : Rules} {A B : ℕ} {w v : Word} → Derives g B v → SubDerivation g A w B v
    → Reaches g A w B v
sub_reaches {g} {A} {B} {w} {v} d s =
    let T = s.extend d.tree d.witness in
    let r = (within_reaches T.2 T.1.valid).0 in
    let r₁ : Reaches g A w (root d.tree) (word d.tree) = subst₂
    (λ (X : ℕ) (x : Word). Reaches g X x (root d.tree) (word d.tree)) T.1.rooted
    T.1.spelled r in
    subst₂ (λ (X : ℕ) (x : Word). Reaches g A w X x) d.witness.rooted d.witness.spelled r₁

-- LEMMA 4.3
pub lemma_4_3 : {g : Rules} {A B : ℕ} {w v : Word} → Derives g B v
    → Reaches g A w B v ↔ SubDerivation g A w B v
lemma_4_3 d = (reaches_sub, sub_reaches d)

-- 3. two or more choices, and two dissimilar trees

-- two rules that stand in the sheet, of one left, with clauses that are alike, are one
one_rule : {g : Rules} → Distinct g
    → {t u : Tree} {p k q l : ℕ} (a : Takes g t p k) (b : Takes g u q l) → root t ≡ root u
    → Alike a.rule.clause b.rule.clause → p ≡ q
one_rule d {t} {u} {p} {k} {q} {l} a b e h =
    let left = top_left t a.rule k a.top ∙ e ∙ sym (top_left u b.rule l b.top) in
    d.one p q a.rule b.rule a.stands b.stands left h

similar_same : {g : Rules} → Distinct g → (t u : Tree) {p k q l : ℕ} → Takes g t p k → Takes g u q l
    → Similar t u → Same p k q l
similar_same {g = g} d (empty A) (leaf B y) {p = p} {k = k} {q = q} {l = l} a b s = elim s [ ]
similar_same {g = g} d (empty A) (unary B t) {p = p} {k = k} {q = q} {l = l} a b s = elim s [ ]
similar_same {g = g} d (empty A) (binary B t u) {p = p} {k = k} {q = q} {l = l} a b s = elim s [ ]
similar_same {g = g} d (leaf A x) (empty B) {p = p} {k = k} {q = q} {l = l} a b s = elim s [ ]
similar_same {g = g} d (leaf A x) (unary B t) {p = p} {k = k} {q = q} {l = l} a b s = elim s [ ]
similar_same {g = g} d (leaf A x) (binary B t u) {p = p} {k = k} {q = q} {l = l} a b s = elim s [ ]
similar_same {g = g} d (unary A s) (empty B) {p = p} {k = k} {q = q} {l = l} a b e = elim e [ ]
similar_same {g = g} d (unary A s) (leaf B y) {p = p} {k = k} {q = q} {l = l} a b e = elim e [ ]
similar_same {g = g} d (unary A s) (binary B t u) {p = p} {k = k} {q = q} {l = l} a b e = elim e [ ]
similar_same {g = g} d (binary A r s) (empty B) {p = p} {k = k} {q = q} {l = l} a b e = elim e [ ]
similar_same {g = g} d (binary A r s) (leaf B y) {p = p} {k = k} {q = q} {l = l} a b e = elim e [ ]
similar_same {g = g} d (binary A r s) (unary B t) {p = p} {k = k} {q = q} {l = l} a b e = elim e [ ]
similar_same d (empty A) (empty B) a b s =
    (one_rule d a b s (rw (a.top.0, b.top.0) tt), a.top.1 ∙ sym b.top.1)
similar_same d (leaf A x) (leaf B y) a b s =
    let e : x.terminal ≡ y.terminal = ap (λ z. z.terminal) s.1 in
    let c : Covers b.top.0 b.top.1 x.terminal = rw e b.top.3 in (
      one_rule d a b s.0 (rw (a.top.2, b.top.2) (x.terminal, a.top.3, c)),
      a.top.4
          ∙ sym b.top.4,
    )
similar_same d (unary A s) (unary B t) a b e =
    (one_rule d a b e.0 (rw (a.top.1, b.top.1) e.1), a.top.2 ∙ sym b.top.2)
similar_same d (binary A r s) (binary B t u) a b e = (
  one_rule d a b e.0 (rw (a.top.1, b.top.1) (e.1, e.3)),
  a.top.2 ∙ ap length e.2
      ∙ sym b.top.2,
)

pub several_dissimilar : {g : Rules} {A : ℕ} {w : Word} → Distinct g → Several g A w
    → Dissimilar g A w
several_dissimilar d s =
    record {
      first = s.choice₁.tree;
      second = s.choice₂.tree;
      witness₁ = s.choice₁.witness;
      witness₂ = s.choice₂.witness;
      differ = λ e. s.differ (similar_same d s.choice₁.tree s.choice₂.tree
          s.choice₁.takes s.choice₂.takes e);
    }

-- the number of a clause's kind, and of a tree's
abbrev kind_of : Clause → ℕ
kind_of Clause.Empty = 0
kind_of (Clause.Atom a b) = 1
kind_of (Clause.Unary B m) = 2
kind_of (Clause.Binary B C m) = 3

abbrev tree_kind : Tree → ℕ
tree_kind (empty A) = 0
tree_kind (leaf A t) = 1
tree_kind (unary A t) = 2
tree_kind (binary A s t) = 3

top_kind : (t : Tree) (r : Rule) (k : ℕ) → Top r k t → kind_of r.clause ≡ tree_kind t
top_kind (empty A) r k e = ap (λ (x : Rule). kind_of x.clause) e.0
top_kind (leaf A t) r k e = ap (λ (x : Rule). kind_of x.clause) e.2
top_kind (unary A t) r k e = ap (λ (x : Rule). kind_of x.clause) e.1
top_kind (binary A s t) r k e = ap (λ (x : Rule). kind_of x.clause) e.1

-- trees at one choice of one word are similar
module _ (r : Rule) (k : ℕ) where
  roots : (t u : Tree) → Top r k t → Top r k u → root t ≡ root u
  roots t u x y = sym (top_left t r k x) ∙ top_left u r k y

  one_clause : {c d : Clause} {A B : ℕ} → r ≡ record { left = A; clause = c }
      → r ≡ record { left = B; clause = d } → c ≡ d
  one_clause x y = ap (λ (z : Rule). z.clause) (sym x ∙ y)

  alike_tops : (t u : Tree) → tree_kind t ≡ tree_kind u → Top r k t → Top r k u → word t ≡ word u
      → Similar t u
  alike_tops (empty A) (empty B) h x y e = roots (empty A) (empty B) x y
  alike_tops (leaf A m) (leaf B n) h x y e = (roots (leaf A m) (leaf B n) x y, cc)
  alike_tops (unary A s) (unary B t) h x y e =
      let c = one_clause x.1 y.1 in
      (roots (unary A s) (unary B t) x y, cc, e)
  alike_tops (binary A m o) (binary B v w) h x y e =
      let q = append_inj (word m) (word v) (word o) (word w) (sym x.2 ∙ y.2) e in
      let c = one_clause x.1 y.1 in
      (roots (binary A m o) (binary B v w) x y, cc, q.0, cc, q.1)
  alike_tops (empty A) (leaf B n) h x y e = absurd (omega arith)
  alike_tops (empty A) (unary B t) h x y e = absurd (omega arith)
  alike_tops (empty A) (binary B t u) h x y e = absurd (omega arith)
  alike_tops (leaf A m) (empty B) h x y e = absurd (omega arith)
  alike_tops (leaf A m) (unary B t) h x y e = absurd (omega arith)
  alike_tops (leaf A m) (binary B t u) h x y e = absurd (omega arith)
  alike_tops (unary A s) (empty B) h x y e = absurd (omega arith)
  alike_tops (unary A s) (leaf B n) h x y e = absurd (omega arith)
  alike_tops (unary A s) (binary B t u) h x y e = absurd (omega arith)
  alike_tops (binary A m o) (empty B) h x y e = absurd (omega arith)
  alike_tops (binary A m o) (leaf B n) h x y e = absurd (omega arith)
  alike_tops (binary A m o) (unary B t) h x y e = absurd (omega arith)

same_similar : {g : Rules} (t u : Tree) (p k : ℕ) → Takes g t p k → Takes g u p k → word t ≡ word u
    → Similar t u
same_similar t u p k a b e =
    let y : Top a.rule k u = rw same_rule b.top in
    alike_tops a.rule k t u (sym (top_kind t a.rule k a.top) ∙ top_kind u a.rule k y)
    a.top y e
  where
    same_rule : a.rule ≡ b.rule
    same_rule = let x = a.stands in let y = b.stands in cc

pub dissimilar_several : {g : Rules} {A : ℕ} {w : Word} → Dissimilar g A w → Several g A w
dissimilar_several {g} {A} {w} d =
    let a = takes_of d.witness₁.valid in
    let b = takes_of d.witness₂.valid in
    record {
      place₁ = a.0;
      split₁ = a.1;
      place₂ = b.0;
      split₂ = b.1;
      choice₁ = record { tree = d.first; witness = d.witness₁; takes = a.2 };
      choice₂ = record { tree = d.second; witness = d.witness₂; takes = b.2 };
      differ =
          λ e. d.differ (same_similar d.first d.second a.0 a.1 a.2
          (rw (e.0, e.1) b.2) (d.witness₁.spelled ∙ sym d.witness₂.spelled));
    }

-- 4. Theorem 4.5

pub similar_refl : (t : Tree) → Similar t t
similar_refl (empty A) = refl
similar_refl (leaf A x) = (refl, refl)
similar_refl (unary A s) = (refl, refl, refl)
similar_refl (binary A s t) = (refl, refl, refl, refl, refl)

pub several_two : {g : Rules} {A : ℕ} {w : Word} → Distinct g → Several g A w → TwoTrees g A w
several_two d s =
    let x = several_dissimilar d s in
    record {
      first = x.first;
      second = x.second;
      witness₁ = x.witness₁;
      witness₂ = x.witness₂;
      differ = λ e. x.differ (subst (Similar x.first) e (similar_refl x.first));
    }

step_two : {g : Rules} {A B : ℕ} {w v : Word} → OneStep g A w B v → TwoTrees g B v → TwoTrees g A w
step_two (by_unary {A = A} m h x) t =
    record {
      first = unary A t.first;
      second = unary A t.second;
      witness₁ = over_unary m h x t.first t.witness₁;
      witness₂ = over_unary m h x t.second t.witness₂;
      differ = λ e. t.differ (cc);
    }
step_two (by_left {A = A} m h x d e) t =
    record {
      first = binary A t.first d.tree;
      second = binary A t.second d.tree;
      witness₁ = rw e (over_binary m h x t.first d.tree t.witness₁ d.witness);
      witness₂ = rw e (over_binary m h x t.second d.tree t.witness₂ d.witness);
      differ = λ q. t.differ (cc);
    }
step_two (by_right {A = A} m h x d e) t =
    record {
      first = binary A d.tree t.first;
      second = binary A d.tree t.second;
      witness₁ = rw e (over_binary m h x d.tree t.first d.witness t.witness₁);
      witness₂ = rw e (over_binary m h x d.tree t.second d.witness t.witness₂);
      differ = λ q. t.differ (cc);
    }

pub reaches_two : {g : Rules} {A B : ℕ} {w v : Word} → Reaches g A w B v → TwoTrees g B v
    → TwoTrees g A w
reaches_two stay t = t
reaches_two (step s r) t = step_two s (reaches_two r t)

-- a signature that is reached and has two or more choices
pub record Found (g : Rules) (A : ℕ) (w : Word) : Type 0 where
  pub nonterminal : ℕ
  pub part : Word
  pub reached : Reaches g A w nonterminal part
  pub several : Several g nonterminal part

found_step : {g : Rules} {A B : ℕ} {w v : Word} → OneStep g A w B v → Found g B v → Found g A w
found_step s f = record {
  nonterminal = f.nonterminal;
  part = f.part;
  reached = step s
      f.reached;
  several = f.several;
}

-- the tops of two trees are similar, or there are two choices
tops : {g : Rules} (t u : Tree) → Valid g t → Valid g u → root t ≡ root u → word t ≡ word u
    → Similar t u ⊎ Found g (root t) (word t)
tops {g} t u v v' e f = go (ℕ_discrete a.0 b.0) (ℕ_discrete a.1 b.1)
  where
    a : (p : ℕ) × (k : ℕ) × Takes g t p k
    a = takes_of v

    b : (p : ℕ) × (k : ℕ) × Takes g u p k
    b = takes_of v'

    apart : (Same a.0 a.1 b.0 b.1 → ⊥) → Found g (root t) (word t)
    apart n =
        record {
          nonterminal = root t;
          part = word t;
          reached = stay;
          several =
              record {
                place₁ = a.0;
                split₁ = a.1;
                place₂ = b.0;
                split₂ = b.1;
                choice₁ = record {
                  tree = t;
                  witness = record
                      { rooted = refl; spelled = refl; valid = v };
                  takes = a.2;
                };
                choice₂ = record {
                  tree = u;
                  witness = record
                      { rooted = sym e; spelled = sym f; valid = v' };
                  takes = b.2;
                };
                differ = n;
              };
        }

    go : Dec (a.0 ≡ b.0) → Dec (a.1 ≡ b.1) → Similar t u ⊎ Found g (root t) (word t)
    go (yes x) (yes y) = inl (same_similar t u a.0 a.1 a.2 (rw (x, y) b.2) f)
    go (yes x) (no y) = inr (apart (λ z. y z.1))
    go (no x) y = inr (apart (λ z. x z.0))

abbrev Differs : Rules → Tree → Type 0
Differs g t =
    (u : Tree) → Valid g u → root t ≡ root u → word t ≡ word u → (t ≡ u) ⊎ Found g (root t) (word t)

differs_empty : (g : Rules) (A : ℕ) (u : Tree) → Similar (empty A) u → (empty A ≡ u) ⊎ Found g A []
differs_empty g A (empty B) s = inl (ap empty s)
differs_empty g A (leaf B x) s = absurd s
differs_empty g A (unary B x) s = absurd s
differs_empty g A (binary B x y) s = absurd s

differs_leaf : (g : Rules) (A : ℕ) (x : Token) (u : Tree) → Similar (leaf A x) u
    → (leaf A x ≡ u) ⊎ Found g A (x ∷ [])
differs_leaf g A x (empty B) s = absurd s
differs_leaf g A x (leaf B y) s = inl (ap₂ leaf s.0 s.1)
differs_leaf g A x (unary B y) s = absurd s
differs_leaf g A x (binary B y z) s = absurd s

differs_unary : (g : Rules) (A : ℕ) (t : Tree) (m : UnaryMark) → HasUnary g A (root t) m
    → Mark.Unary m (word t) → Differs g t
    → (u : Tree) → Valid g u → Similar (unary A t) u → (unary A t ≡ u) ⊎ Found g A (word t)
differs_unary g A t m h x i (empty B) v s = absurd s
differs_unary g A t m h x i (leaf B y) v s = absurd s
differs_unary g A t m h x i (unary B y) (valid_unary m' h' x' v) s =
    ⊎_elim (λ e. inl (ap₂ unary s.0 e)) (λ f. inr (found_step (by_unary m h x) f))
    (i y v s.1 s.2)
differs_unary g A t m h x i (binary B y z) v s = absurd s

differs_binary : (g : Rules) (A : ℕ) (r t : Tree) (m : BinaryMark)
    → HasBinary g A (root r) (root t) m → Mark.Binary m (word r) (word t) → Valid g r → Valid g t
    → Differs g r → Differs g t
    → (u : Tree) → Valid g u → Similar (binary A r t) u
    → (binary A r t ≡ u) ⊎ Found g A (word r ++ word t)
differs_binary g A r t m h x vr vt i j (empty B) v s = absurd s
differs_binary g A r t m h x vr vt i j (leaf B y) v s = absurd s
differs_binary g A r t m h x vr vt i j (unary B y) v s = absurd s
differs_binary g A r t m h x vr vt i j (binary B y z) (valid_binary m' h' x' a b) s =
    ⊎_elim (λ e. ⊎_elim (λ f. inl (same s.0 e f))
    (λ f. inr (found_step (by_right m h x (derives_of vr) refl) f)) (j z b s.3 s.4))
    (λ f. inr (found_step (by_left m h x (derives_of vt) refl) f)) (i y a s.1 s.2)
  where
    same : A ≡ B → r ≡ y → t ≡ z → binary A r t ≡ binary B y z
    same p q w = cc

-- two trees are one, or differ at a signature that is reached and has two or more choices
pub differs : {g : Rules} (t : Tree) → Valid g t → Differs g t
differs {g} (empty A) v u v' e f = ⊎_elim (differs_empty g A u) inr (tops (empty A) u v v' e f)
differs {g} (leaf A x) v u v' e f = ⊎_elim (differs_leaf g A x u) inr (tops (leaf A x) u v v' e f)
differs {g} (unary A t) (valid_unary m h x v) u v' e f =
    ⊎_elim (differs_unary g A t m h x (differs t v) u v') inr
    (tops (unary A t) u (valid_unary m h x v) v' e f)
differs {g} (binary A r t) (valid_binary m h x a b) u v' e f =
    ⊎_elim (differs_binary g A r t m h x a b (differs r a) (differs t b) u v') inr
    (tops (binary A r t) u (valid_binary m h x a b) v' e f)

pub two_found : {g : Rules} {A : ℕ} {w : Word} → TwoTrees g A w → Found g A w
two_found {g} {A} {w} t =
    ⊎_elim (λ e. absurd (t.differ e))
    (λ f. subst₂ (Found g) t.witness₁.rooted t.witness₁.spelled f)
    (differs t.first t.witness₁.valid t.second t.witness₂.valid
    (t.witness₁.rooted ∙ sym t.witness₂.rooted)
    (t.witness₁.spelled ∙ sym t.witness₂.spelled))

-- THEOREM 4.5
pub theorem_4_5 : {g : Rules} {A : ℕ} {w : Word} → Distinct g
    → LocallyAmbiguous g A w ↔ TwoTrees g A w
theorem_4_5 d = (
  λ a. reaches_two a.reached (several_two d (dissimilar_several a.two)),
  λ t. let f = two_found t in record {
    nonterminal = f.nonterminal;
    part = f.part;
    reached = f.reached;
    two =
        several_dissimilar d f.several;
  },
)
