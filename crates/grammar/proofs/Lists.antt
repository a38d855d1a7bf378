-- Decisions that compute, and lists built by `collect` and `keep`, whose members can be told.
use mathlib.Core.Path.{◌≡◌, refl, sym, subst, subst⁻¹, ap}
use mathlib.Core.Logic.{◌⊎◌, inl, inr, ⊎_elim}
use mathlib.Core.Bool.{Bool, true, false}
use mathlib.Core.List.Memᴰ
use mathlib.Core.List.{List, [], ◌∷◌, ◌++◌, Memᴰ}
use mathlib.Core.List.{map}
use Prim.Native.Nat.{ℕ, ◌≤◌, ◌<◌, zero, suc}
use lib.Dec.{T, eqb, leb, eqb→eq, eqb_refl, leb→le, le→leb}
use lib.ListN.{take, get_elem?, length, get_or}
use mathlib.Core.Option.{some}
use native.Mathlib.Nat.{not-suc-le-zero, le_of_suc-le-suc}
use Rattle.sets.proofs.Basics.{clash}
use Rattle.sets.proofs.Basics.{clash}
use Rattle.grammar.specs.Layout.{Every}

-- a test with its two lemmas is a decision; what the lemmas say stays shut, so only the test is
-- computed
abbrev pub test : {P : Type 0} (b : Bool) → (T b → P) → (P → T b) → Dec P
test true f g = yes (f tt)
test false f g = no g

pub eq→eqb : (m n : ℕ) → m ≡ n → T (eqb m n)
eq→eqb m n e = subst (λ (k : ℕ). T (eqb m k)) e (eqb_refl m)

pub le→test : (m n : ℕ) → m ≤ n → T (leb m n)
le→test m n h = le→leb m n h

abbrev pub eq? : (m n : ℕ) → Dec (m ≡ n)
eq? m n = test (eqb m n) (eqb→eq m n) (eq→eqb m n)

abbrev pub le? : (m n : ℕ) → Dec (m ≤ n)
le? m n = test (leb m n) (leb→le m n) (le→test m n)

abbrev pub both? : {P Q : Type 0} → Dec P → Dec Q → Dec (P × Q)
both? (yes p) (yes q) = yes (p, q)
both? (yes p) (no n) = no (λ x. n x.1)
both? (no n) d = no (λ x. n x.0)

abbrev pub or? : {P Q : Type 0} → Dec P → Dec Q → Dec (P ⊎ Q)
or? (yes p) d = yes (inl p)
or? (no n) (yes q) = yes (inr q)
or? (no n) (no m) = no (⊎_elim n m)

abbrev pub map? : {P Q : Type 0} → Dec P → (P → Q) → (Q → P) → Dec Q
map? (yes p) f g = yes (f p)
map? (no n) f g = no (λ q. n (g q))

abbrev pub imp? : {P Q : Type 0} → Dec P → Dec Q → Dec (P → Q)
imp? (yes p) (yes q) = yes (λ x. q)
imp? (yes p) (no n) = no (λ f. n (f p))
imp? (no n) d = yes (λ x. absurd (n x))

-- a decision as a test
abbrev pub holds : {P : Type 0} → Dec P → Bool
holds (yes p) = true
holds (no n) = false

pub holds_yes : {P : Type 0} (d : Dec P) → T (holds d) → P
holds_yes (yes p) t = p
holds_yes (no n) t = absurd t

-- `and a b` reads b only where a is true, if b is bound by a let
abbrev pub and : Bool → Bool → Bool
and true b = b
and false b = false

pub and_left : (a b : Bool) → T (and a b) → T a
and_left true b t = tt
and_left false b t = t

pub and_right : (a b : Bool) → T (and a b) → T b
and_right true b t = t
and_right false b t = absurd t

module _ {A : Type 0} where
  abbrev pub all : (A → Bool) → List A → Bool
  all p [] = true
  all p (a ∷ l) = let r = all p l in and (p a) r

  pub all_every : {P : A → Type 0} (p : A → Bool) → ((a : A) → T (p a) → P a) → (l : List A)
      → T (all p l) → Every P l
  all_every p h [] t = tt
  all_every p h (a ∷ l) t =
      (h a (and_left (p a) (all p l) t), all_every p h l (and_right (p a) (all p l) t))

  pub cons_path : {a b : A} {l m : List A} → (a ≡ b) × (l ≡ m) → a ∷ l ≡ b ∷ m
  cons_path p = λ i. p.0 i ∷ p.1 i

  pub cons_parts : {a b : A} {l m : List A} → a ∷ l ≡ b ∷ m → (a ≡ b) × (l ≡ m)
  cons_parts p = (cc, cc)

  pub nil≢cons : {a : A} {l : List A} → [] ≡ a ∷ l → ⊥
  nil≢cons p = clash cc

  abbrev pub list? : Discrete A → (l m : List A) → Dec (l ≡ m)
  list? d [] [] = yes refl
  list? d [] (b ∷ m) = no nil≢cons
  list? d (a ∷ l) [] = no (λ p. nil≢cons (sym p))
  list? d (a ∷ l) (b ∷ m) = let r = list? d l m in map? (both? (d a b) r) cons_path cons_parts

  abbrev pub every? : {P : A → Type 0} → ((a : A) → Dec (P a)) → (l : List A) → Dec (Every P l)
  every? d [] = yes tt
  every? d (a ∷ l) = let r = every? d l in both? (d a) r

  pub every_append : (P : A → Type 0) (l m : List A) → Every P l → Every P m → Every P (l ++ m)
  every_append P [] m e f = f
  every_append P (a ∷ l) m e f = (e.0, every_append P l m e.1 f)

  pub mem_every : (P : A → Type 0) {a : A} (l : List A) → Every P l → Memᴰ a l → P a
  mem_every P {a = a} [] e x'' = elim x'' [ ]
  mem_every P (b ∷ l) e (Memᴰ.head p) = subst⁻¹ P p e.0
  mem_every P (b ∷ l) e (Memᴰ.tail m) = mem_every P l e.1 m

  -- l where P holds, and nothing where it does not. Bind l by a let: then it is read only where P
  -- holds
  abbrev pub keep : {P : Type 0} → Dec P → List A → List A
  keep (yes p) l = l
  keep (no n) l = []

  pub every_keep : (Q : A → Type 0) {P : Type 0} (d : Dec P) (l : List A) → (P → Every Q l)
      → Every Q (keep d l)
  every_keep Q (yes p) l h = h p
  every_keep Q (no n) l h = tt

  pub mem_keep : {a : A} {P : Type 0} (d : Dec P) {l : List A} → P → Memᴰ a l
      → Memᴰ a (keep d l)
  mem_keep (yes p) q m = m
  mem_keep (no n) q m = absurd (n q)

module _ {A B : Type 0} where
  abbrev pub collect : (A → List B) → List A → List B
  collect f [] = []
  collect f (a ∷ l) = f a ++ collect f l

  pub every_collect : (P : B → Type 0) (f : A → List B) (l : List A)
      → ((a : A) → Memᴰ a l → Every P (f a)) → Every P (collect f l)
  every_collect P f [] h = tt
  every_collect P f (a ∷ l) h = every_append P (f a) (collect f l) (h a (Memᴰ.head refl))
      (every_collect P f l (λ b m. h b (Memᴰ.tail m)))

  pub mem_collect : {a : A} {b : B} (f : A → List B) (l : List A) → Memᴰ a l
      → Memᴰ b (f a) → Memᴰ b (collect f l)
  mem_collect {a = a} {b = b} f [] x'' m = elim x'' [ ]
  mem_collect {b} f (x ∷ l) (Memᴰ.head p) m =
      Memᴰ.append_left (collect f l) (subst (λ (y : A). Memᴰ b (f y)) p m)
  mem_collect f (x ∷ l) (Memᴰ.tail n) m = Memᴰ.append_right (f x) (mem_collect f l n m)

module _ {A : Type 0} where
  -- some member of l has P
  abbrev pub Some : (A → Type 0) → List A → Type 0
  Some P l = (a : A) × Memᴰ a l × P a

  pub some_cons : {P : A → Type 0} {a : A} {l : List A} → P a ⊎ Some P l → Some P (a ∷ l)
  some_cons {a = a} (inl p) = (a, Memᴰ.head refl, p)
  some_cons (inr s) = (s.0, Memᴰ.tail s.1, s.2)

  pub some_cases : {P : A → Type 0} {a : A} {l : List A} → Some P (a ∷ l) → P a ⊎ Some P l
  some_cases {P} s =
      ⊎_elim (λ e. inl (subst P e s.2)) (λ m. inr (s.0, m, s.2)) (Memᴰ.cases_cons s.1)

  abbrev pub some? : {P : A → Type 0} → ((a : A) → Dec (P a)) → (l : List A) → Dec (Some P l)
  some? d [] = no (λ s. Memᴰ.not-nil s.1)
  some? d (a ∷ l) = let r = some? d l in map? (or? (d a) r) some_cons some_cases

pub mem? : (b : ℕ) (l : List ℕ) → Dec (Memᴰ b l)
mem? b l = map? (some? (λ a. eq? b a) l) (λ s. subst⁻¹ (λ (x : ℕ). Memᴰ x l) s.2 s.1)
    (λ m. (b, m, refl))

pub mem_map : {A B : Type 0} {a : A} (f : A → B) (l : List A) → Memᴰ a l
    → Memᴰ (f a) (map f l)
mem_map {A = A} {B = B} {a = a} f [] x' = elim x' [ ]
mem_map f (x ∷ l) (Memᴰ.head e) = Memᴰ.head (ap f e)
mem_map f (x ∷ l) (Memᴰ.tail m) = Memᴰ.tail (mem_map f l m)

pub get_elem?_take : {A : Type 0} (l : List A) (n p : ℕ) {x : A} → get_elem? (take n l) p ≡ some x
    → get_elem? l p ≡ some x
get_elem?_take l zero p {x} e = absurd (clash cc)
get_elem?_take [] (suc n) p {x} e = e
get_elem?_take (y ∷ l) (suc n) zero e = e
get_elem?_take (y ∷ l) (suc n) (suc p) e = get_elem?_take l n p e

pub every_at : {A : Type 0} (P : A → Type 0) (d : A) (l : List A) → Every P l → (i : ℕ)
    → i < length l → P (get_or l i d)
every_at P d [] e i h = absurd (not-suc-le-zero h)
every_at P d (x ∷ l) e zero h = e.0
every_at P d (x ∷ l) e (suc i) h = every_at P d l e.1 i (le_of_suc-le-suc h)
