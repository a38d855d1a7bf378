-- Laws of words with members put in.
use mathlib.Core.Path.{◌≡◌, refl, sym, ap, ◌∙◌, subst}
use mathlib.Core.Logic.{◌⊎◌, inl, inr, ⊎_elim}
use mathlib.Core.List.{List}
use Prim.Native.Nat.{ℕ, ◌<◌}
use native.Mathlib.Decide.{ℕ_discrete}
use lib.Bits.{bit_or}
use lib.ListN.{length, get_or, set, length-set}
use lib.Seq.{get_or-set_same, get_or-set_other}
use Rattle.sets.proofs.Bits.{in_or}
use Rattle.sets.specs.Sets.{In}
use Rattle.sets.specs.Insertion.{insert}
use Rattle.sets.proofs.Sets.{insert_same, insert_keeps, insert_only}
use Rattle.cuts.specs.Joining.{Joins}

-- nothing is put in
pub joins_none : (rs : List ℕ) → Joins (λ q B. ⊥) rs rs
joins_none rs =
    record { long = refl; keeps = λ q B h. h; only = λ q B h. inl h; all = λ q B h. absurd h }

-- a word changed, by what it has then
changed : (rs : List ℕ) (p v : ℕ) (P : ℕ → Type 0) → p < length rs
    → ((B : ℕ) → In (get_or rs p 0) B → In v B) → ((B : ℕ) → In v B → In (get_or rs p 0) B ⊎ P B)
    → ((B : ℕ) → P B → In v B) → Joins (λ q B. (q ≡ p) × P B) rs (set rs p v)
changed rs p v P h f o a = record {
  long = length-set rs p v;
  keeps = λ q B x. keep q B x (ℕ_discrete q p);
  only = λ q B x. once q B x (ℕ_discrete q p);
  all = λ q B x. subst (λ (s : ℕ). In s B) (sym (at q x.0)) (a B x.1);
}
  where
    at : (q : ℕ) → q ≡ p → get_or (set rs p v) q 0 ≡ v
    at q e = ap (λ (x : ℕ). get_or (set rs p v) x 0) e ∙ get_or-set_same rs p v 0 h

    keep : (q B : ℕ) → In (get_or rs q 0) B → Dec (q ≡ p) → In (get_or (set rs p v) q 0) B
    keep q B x (yes e) =
        subst (λ (s : ℕ). In s B) (sym (at q e)) (f B (subst (λ (y : ℕ). In (get_or rs y 0) B) e x))
    keep q B x (no e) = subst (λ (s : ℕ). In s B) (sym (get_or-set_other rs p q v 0 e)) x

    once : (q B : ℕ) → In (get_or (set rs p v) q 0) B → Dec (q ≡ p)
        → In (get_or rs q 0) B ⊎ ((q ≡ p) × P B)
    once q B x (yes e) = ⊎_elim (λ y. inl (subst (λ (z : ℕ). In (get_or rs z 0) B) (sym e) y))
        (λ y. inr (e, y)) (o B (subst (λ (s : ℕ). In s B) (at q e) x))
    once q B x (no e) = inl (subst (λ (s : ℕ). In s B) (get_or-set_other rs p q v 0 e) x)

-- one member
pub joins_set : (rs : List ℕ) (p a : ℕ) → p < length rs
    → Joins (λ q B. (q ≡ p) × (B ≡ a)) rs (set rs p (insert (get_or rs p 0) a))
joins_set rs p a h =
    changed rs p (insert (get_or rs p 0) a) (λ B. B ≡ a) h (λ B. insert_keeps (get_or rs p 0) a)
    (insert_only (get_or rs p 0) a)
    (λ B e. subst (In (insert (get_or rs p 0) a)) (sym e) (insert_same (get_or rs p 0) a))

-- the members of a set
pub joins_or : (rs : List ℕ) (p s : ℕ) → p < length rs
    → Joins (λ q B. (q ≡ p) × In s B) rs (set rs p (bit_or (get_or rs p 0) s))
joins_or rs p s h =
    changed rs p (bit_or (get_or rs p 0) s) (In s) h (λ B x. (in_or (get_or rs p 0) s B).1 (inl x))
    (λ B. (in_or (get_or rs p 0) s B).0) (λ B x. (in_or (get_or rs p 0) s B).1 (inr x))

-- one after the other
pub joins_then : {P Q : ℕ → ℕ → Type 0} {rs rs' rs'' : List ℕ} → Joins P rs rs' → Joins Q rs' rs''
    → Joins (λ q B. P q B ⊎ Q q B) rs rs''
joins_then a b = record {
  long = b.long ∙ a.long;
  keeps = λ q B x. b.keeps q B (a.keeps q B x);
  only = λ q B x. ⊎_elim (λ y. ⊎_elim inl (λ z. inr (inl z)) (a.only q B y)) (λ y. inr (inr y))
      (b.only q B x);
  all = λ q B x. ⊎_elim (λ y. b.keeps q B (a.all q B y)) (λ y. b.all q B y) x;
}

-- the same members, said otherwise
pub joins_as : {P Q : ℕ → ℕ → Type 0} {rs rs' : List ℕ} → ((q B : ℕ) → P q B → Q q B)
    → ((q B : ℕ) → Q q B → P q B) → Joins P rs rs' → Joins Q rs rs'
joins_as f g a =
    record {
      long = a.long;
      keeps = a.keeps;
      only = λ q B x. ⊎_elim inl (λ y. inr (f q B y))
          (a.only q B x);
      all = λ q B x. a.all q B (g q B x);
    }
