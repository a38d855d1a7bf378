-- The rules picked, one place after the other.
use mathlib.Core.Path.{◌≡◌, refl, sym, ap, ◌∙◌, subst}
use mathlib.Core.Logic.{◌⊎◌, inl, inr, ⊎_elim}
use mathlib.Core.List.{[], ◌∷◌, ◌++◌, Memᴰ}
use mathlib.Core.Option.{some}
use Prim.Native.Nat.{ℕ, ◌+◌, ◌≤◌, ◌<◌}
use native.Mathlib.Omega.{arith}
use native.Mathlib.Decide.{dec_lt}
use lib.ListN.{length, get_or, length-append, get_or-append}
use lib.Seq.{get_or-append_seam}
use Rattle.sets.specs.Sets.{In}
use Rattle.grammar.specs.declared.Rule.{Rule}
use Rattle.grammar.specs.Layout.{Every}
use Rattle.grammar.specs.Trees.{Rules}
use Rattle.acyclic.specs.Exact.{Exactly}
use Rattle.tables.specs.Tables.{no_rule}
use Rattle.tables.proofs.Places.{place, member, there, from_there}
use Rattle.reachable_rules.specs.Reach.{Reached, Trimmed}
use Rattle.reachable_rules.specs.Steps.{Picked}
use Rattle.grammar.specs.Distinct.{Distinct}

pub picked_none : (g : Rules) (s : ℕ) → Picked g s 0 []
picked_none g s = record {
  of = λ p h. absurd (omega arith);
  keeps = λ q h. absurd (omega arith);
  distinct =
      λ d. record { one = λ p q r t e. absurd (let z = (from_there [] p r e).0 in omega arith) };
}

module _ {g : Rules} {s i : ℕ} {out : Rules} (f : Picked g s i out) where
  -- a rule whose left is not in the set
  pub picked_skip : (In s (get_or g i no_rule).left → ⊥) → Picked g s (i + 1) out
  picked_skip non = record {
    of = λ p h. let x = f.of p h in (x.0, omega (arith, x.1), x.2, x.3);
    keeps = λ q h m. go q h m (dec_lt q i);
    distinct = f.distinct;
  }
    where
      go : (q : ℕ) → q < i + 1 → In s (get_or g q no_rule).left → Dec (q < i)
          → (p : ℕ) × (p < length out) × (get_or out p no_rule ≡ get_or g q no_rule)
      go q h m (yes l) = f.keeps q l m
      go q h m (no l) = absurd (non (subst (λ (x : ℕ). In s (get_or g x no_rule).left)
          (let z : q ≡ i = omega arith in z) m))

  -- one whose left is
  pub picked_more : i < length g → In s (get_or g i no_rule).left
      → Picked g s (i + 1) (out ++ (get_or g i no_rule ∷ []))
  picked_more h m = record { of = of; keeps = keeps; distinct = distinct }
    where
      r : Rule
      r = get_or g i no_rule

      more : Rules
      more = out ++ (r ∷ [])

      long : length more ≡ length out + 1
      long = length-append out (r ∷ [])

      old : (p : ℕ) → p < length out → get_or more p no_rule ≡ get_or out p no_rule
      old p l = get_or-append out (r ∷ []) no_rule p l

      new : get_or more (length out) no_rule ≡ r
      new = get_or-append_seam out r [] no_rule

      -- a place of the new list is an old one or the last
      last : (p : ℕ) → p < length more → (p < length out) ⊎ (p ≡ length out)
      last p l = go (dec_lt p (length out))
        where
          go : Dec (p < length out) → (p < length out) ⊎ (p ≡ length out)
          go (yes x) = inl x
          go (no x) = inr (omega (arith, long))

      of : (p : ℕ) → p < length more → (q : ℕ) × (q < i + 1)
          × (get_or more p no_rule ≡ get_or g q no_rule) × In s (get_or g q no_rule).left
      of p l = ⊎_elim (λ x. let y = f.of p x in (y.0, omega (arith, y.1), old p x ∙ y.2, y.3))
          (λ x. (i, omega arith, ap (λ (z : ℕ). get_or more z no_rule) x ∙ new, m)) (last p l)

      keeps : (q : ℕ) → q < i + 1 → In s (get_or g q no_rule).left
          → (p : ℕ) × (p < length more) × (get_or more p no_rule ≡ get_or g q no_rule)
      keeps q l k = go (dec_lt q i)
        where
          go : Dec (q < i) → (p : ℕ) × (p < length more)
              × (get_or more p no_rule ≡ get_or g q no_rule)
          go (yes x) = let y = f.keeps q x k in
              (y.0, omega (arith, y.1, long), old y.0 y.1 ∙ y.2)
          go (no x) = (
            length out,
            omega (arith, long),
            new
                ∙ ap (λ (z : ℕ). get_or g z no_rule) (let z : i ≡ q = omega arith in z),
          )

      -- of two that are alike both are old, or both the last: an old one stands at another place of
      -- g
      distinct : Distinct g → Distinct more
      distinct d = record {
        one = λ p q a b e k l v.
            let x = from_there more p a e in
            let y = from_there more q b k in
            ⊎_elim
            (λ pl. ⊎_elim
            (λ ql. (f.distinct d).one p q a b (there out p pl ∙ ap some (sym (old p pl) ∙ x.1))
            (there out q ql ∙ ap some (sym (old q ql) ∙ y.1)) l v)
            (λ qe. absurd (let o = f.of p pl in
            let z = d.one o.0 i a b (there g o.0 (omega (arith, o.1))
            ∙ ap some (sym o.2 ∙ sym (old p pl) ∙ x.1))
            (there g i h ∙ ap some (sym new ∙ ap (λ (u : ℕ). get_or more u no_rule) (sym qe)
            ∙ y.1)) l v in
            omega (arith, o.1))) (last q y.0))
            (λ pe. ⊎_elim
            (λ ql. absurd (let o = f.of q ql in
            let z = d.one i o.0 a b (there g i h ∙ ap some
            (sym new ∙ ap (λ (u : ℕ). get_or more u no_rule) (sym pe) ∙ x.1))
            (there g o.0 (omega (arith, o.1))
            ∙ ap some (sym o.2 ∙ sym (old q ql) ∙ y.1)) l v in
            omega (arith, o.1)))
            (λ qe. pe ∙ sym qe) (last q y.0)) (last p x.0);
      }

-- each rule picked is one of g
pub picked_of : {g : Rules} {s i : ℕ} {out : Rules} → i ≤ length g → Picked g s i out → (r : Rule)
    → Memᴰ r out → Memᴰ r g
picked_of {g} {out = out} h f r m =
    let p = place out m in
    let y = f.of p.0 p.1 in
    subst (λ (z : Rule). Memᴰ z g) (sym y.2 ∙ p.2) (member g y.0 (omega (arith, y.1)))

-- all rules are passed
pub picked_all : {g : Rules} {s : ℕ} {out : Rules} → Exactly s (Reached g)
    → Picked g s (length g) out → Trimmed g out
picked_all {g} {s} {out} x f = record {
  keeps = λ r m h.
      let p = place g m in
      let y = f.keeps p.0 p.1 (subst (λ (z : Rule). In s z.left) (sym p.2)
      (x.all r.left h)) in
      subst (λ (z : Rule). Memᴰ z out) (y.2 ∙ p.2) (member out y.0 y.1);
  of = picked_of (omega arith) f;
  only = λ r m.
      let p = place out m in
      let y = f.of p.0 p.1 in
      x.is r.left (subst (λ (z : Rule). In s z.left) (sym y.2 ∙ p.2) y.3);
  distinct = f.distinct;
}

-- what all members have
pub every_member : {P : Rule → Type 0} (g : Rules) → ((r : Rule) → Memᴰ r g → P r) → Every P g
every_member [] f = tt
every_member (x ∷ g) f = (f x (Memᴰ.head refl), every_member g (λ r m. f r (Memᴰ.tail m)))
