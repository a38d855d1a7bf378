-- Whether a nonterminal derives a word is decided, for any sheet: a word after its shorter words,
-- its nonterminals by saturation.
use mathlib.Core.Path.{◌≡◌, refl, sym, ap, subst}
use mathlib.Core.List.{List, [], ◌∷◌, ◌++◌, map, Memᴰ}
use mathlib.Core.Logic.{◌⊎◌, inl, inr, ⊎_elim}
use mathlib.Core.Option.{Option, none, some}
use Prim.Native.Nat.{ℕ, zero, suc, ◌<◌}
use native.Mathlib.Omega.{arith}
use native.Mathlib.Decide.{dec_lt, ℕ_discrete}
use lib.ListN.{length, get_elem?, take, drop, length-append}
use Rattle.sets.proofs.Basics.{clash}
use Rattle.grammar.specs.declared.Rule.{Rule}
use Rattle.grammar.specs.Layout.{Word, Every}
use Rattle.grammar.specs.Trees.{Tree, root, word, Rules, Valid, valid_empty, valid_leaf}
use Rattle.grammar.specs.Trees.{valid_unary, valid_binary, Derives}
use Rattle.grammar.specs.Choices.{Choice}
use Rattle.grammar.proofs.Lists.{eq?, both?, map?, some?, Some, mem?, mem_every, mem_map}
use Rattle.grammar.proofs.Marks.{word?}
use Rattle.grammar.proofs.ChoiceLaws.{place_of, member_at, takes_of}
use Rattle.grammar.proofs.ByKind.{derives_of, top_left, choice_can, can_choice}
use Rattle.grammar.proofs.CanBy.{CanBy, can_by, by_can, can_map, KidsBy, kids_can, can?}
use Rattle.grammar.proofs.CanBy.{some_can?}
use Rattle.grammar.proofs.Saturation.{Saturated, saturate}

-- a part of a word is shorter, or all of it
left_part : (u v : Word) → (length u < length (u ++ v)) ⊎ (u ≡ u ++ v)
left_part [] [] = inr refl
left_part [] (b ∷ v) = inl (omega arith)
left_part (a ∷ u) v =
    ⊎_elim (λ h. inl (omega arith)) (λ e. inr (ap (λ (x : Word). a ∷ x) e)) (left_part u v)

right_part : (u v : Word) → (length v < length (u ++ v)) ⊎ (v ≡ u ++ v)
right_part [] v = inr refl
right_part (a ∷ u) v = inl (let e = length-append u v in omega arith)

module _ (g : Rules) where
  module _ (w : Word) (short : (B : ℕ) (v : Word) → length v < length w → Dec (Derives g B v)) where
    -- B has a tree of v, as far as is known: v is shorter, or w itself and B among those found
    abbrev Near : List ℕ → ℕ → Word → Type 0
    Near S B v = ((length v < length w) × Derives g B v) ⊎ ((v ≡ w) × Memᴰ B S)

    near? : (S : List ℕ) (B : ℕ) (v : Word) → Dec (Near S B v)
    near? S B v = go (dec_lt (length v) (length w)) (λ h. short B v h)
      where
        at : (length v < length w → ⊥) → Dec (v ≡ w) → Dec (Memᴰ B S) → Dec (Near S B v)
        at n (yes e) (yes m) = yes (inr (e, m))
        at n (yes e) (no m) = no (⊎_elim (λ x. n x.0) (λ x. m x.1))
        at n (no e) d = no (⊎_elim (λ x. n x.0) (λ x. e x.0))

        less : length v < length w → Dec (Derives g B v) → Dec (Near S B v)
        less h (yes d) = yes (inl (h, d))
        less h (no d) = no (⊎_elim (λ x. d x.1) (λ x. omega (arith, ap length x.0)))

        go : Dec (length v < length w) → (length v < length w → Dec (Derives g B v))
            → Dec (Near S B v)
        go (yes h) f = less h (f h)
        go (no n) f = at n (word? v w) (mem? B S)

    -- the members S add A: a rule of A can stand over w
    abbrev Adds : List ℕ → ℕ → Type 0
    Adds S A = Some (λ (r : Rule). (r.left ≡ A) × ((k : ℕ) × CanBy (Near S) w r.clause k)) g

    adds? : (S : List ℕ) (A : ℕ) → Dec (Adds S A)
    adds? S A = some? (λ r. both? (eq? r.left A) (some_can? (Near S) w r.clause (near? S))) g

    abbrev Has : ℕ → Type 0
    Has A = Derives g A w

    sound : (S : List ℕ) → Every Has S → (A : ℕ) → Adds S A → Has A
    sound S e A a =
        let k = a.2.1.0 in
        let c = can_map (Near S) (Derives g) known w a.0.clause k a.2.1.1 in
        let p = place_of a.1 in
        let x = can_choice g p.0 a.0.left a.0.clause w k p.1
        (by_can g w a.0.clause k c) in
        subst Has a.2.0 (record { tree = x.tree; witness = x.witness })
      where
        known : (B : ℕ) (v : Word) → Near S B v → Derives g B v
        known B v (inl x) = x.1
        known B v (inr x) = subst (Derives g B) (sym x.0) (mem_every Has S e x.1)

    found : Saturated Adds adds? Has sound (map (λ r. r.left) g)
    found = saturate Adds adds? Has sound (map (λ r. r.left) g)

    kept : {t : Tree} → Valid g t → word t ≡ w → KidsBy (Near found.members) t
        → Memᴰ (root t) found.members
    kept {t} v e k =
        let x = takes_of v in
        let c = kids_can (Near found.members) t k x.2.rule x.1 x.2.top in
        let l = top_left t x.2.rule x.1 x.2.top in
        let m = member_at g x.0 x.2.stands in
        found.shut (root t) (subst (λ (A : ℕ). Memᴰ A (map (λ r. r.left) g)) l
        (mem_map (λ r. r.left) g m)) (x.2.rule, m, (l, (x.1, rw e at c)))

    near_of : {t : Tree} → Valid g t → (length (word t) < length w) ⊎ (word t ≡ w)
        → (word t ≡ w → Memᴰ (root t) found.members)
        → Near found.members (root t) (word t)
    near_of v (inl h) f = inl (h, derives_of v)
    near_of v (inr e) f = inr (e, f e)

    complete : {t : Tree} → Valid g t → word t ≡ w → Memᴰ (root t) found.members
    complete (valid_empty h) e = kept (valid_empty h) e tt
    complete (valid_leaf h) e = kept (valid_leaf h) e tt
    complete (valid_unary m h x v) e = kept (valid_unary m h x v) e (near_of v (inr e) (complete v))
    complete (valid_binary {s = s} {t = t} m h x u v) e =
        kept (valid_binary m h x u v) e (
          near_of u (rw e at (left_part (word s) (word t))) (complete u),
          near_of v (rw e at (right_part (word s) (word t))) (complete v),
        )

    derives_by : (A : ℕ) → Dec (Derives g A w)
    derives_by A =
        map? (mem? A found.members) (λ m. mem_every Has found.members found.all m)
        (λ d. rw d.witness.rooted at (complete d.witness.valid d.witness.spelled))

  derives_below : (n A : ℕ) (w : Word) → length w < n → Dec (Derives g A w)
  derives_below zero A w h = absurd (omega arith)
  derives_below (suc n) A w h = derives_by w (λ B v l. derives_below n B v (omega arith)) A

  -- THE DECISION, with and without a loop
  pub derives? : (A : ℕ) (w : Word) → Dec (Derives g A w)
  derives? A w = derives_below (suc (length w)) A w (omega arith)

  pub choice? : (A : ℕ) (w : Word) (p k : ℕ) → Dec (Choice g A w p k)
  choice? A w p k = go (get_elem? g p) refl
    where
      back : (r : Rule) → get_elem? g p ≡ some r → Choice g A w p k
          → CanBy (Derives g) w r.clause k
      back r e c = let x = choice_can c in let y = x.1 in let q : x.0.clause ≡ r.clause = cc in
          can_by g w r.clause k (rw q at x.3)

      named : (r : Rule) → get_elem? g p ≡ some r → Dec (r.left ≡ A) → Dec (Choice g A w p k)
      named r e (no f) = no (λ c. let x = choice_can c in let y = x.1 in let z = x.2 in f (cc))
      named r e (yes f) =
          let st : get_elem? g p ≡ some (record { left = A; clause = r.clause }) = rw f at e in
          map? (can? (Derives g) w r.clause k (λ B. derives? B w) (λ B. derives? B (take k w))
          (λ B. derives? B (drop k w)))
          (λ x. can_choice g p A r.clause w k st (by_can g w r.clause k x)) (back r e)

      go : (o : Option Rule) → get_elem? g p ≡ o → Dec (Choice g A w p k)
      go none e = no (λ c. let x = (choice_can c).1 in clash cc)
      go (some r) e = named r e (ℕ_discrete r.left A)
