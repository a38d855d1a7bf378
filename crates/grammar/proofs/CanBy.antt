-- What a clause asks of a word, over any notion D of "B has a tree of v": of all trees, of trees of
-- some height, of those found so far.
use mathlib.Core.Path.{◌≡◌, refl, sym}
use mathlib.Core.List.{[], ◌∷◌}
use mathlib.Core.Logic.{◌⊎◌, inl, inr}
use Prim.Native.Nat.{ℕ, suc, ◌≤◌, ◌<◌}
use native.Mathlib.Omega.{arith}
use native.Mathlib.Decide.{dec_le, ℕ_discrete}
use lib.ListN.{length, take, drop, length-append}
use lib.Seq.{take_at, drop_at}
use Rattle.sets.proofs.Basics.{clash}
use Rattle.grammar.specs.declared.Token.{Token}
use Rattle.grammar.specs.declared.Rule.{Rule}
use Rattle.grammar.specs.declared.Clause.{Clause}
use Rattle.grammar.specs.Layout.{Word}
use Rattle.grammar.specs.Layout as Mark
use Rattle.grammar.specs.Trees.{Tree, empty, leaf, unary, binary, root, word, Rules, Covers}
use Rattle.grammar.specs.Trees.{Derives}
use Rattle.grammar.specs.Choices.{Top}
use Rattle.grammar.proofs.Lists.{both?}
use Rattle.grammar.proofs.Marks.{unary?, binary?}
use Rattle.grammar.proofs.ByKind.{Can}
use Rattle.grammar.proofs.Least.{Least, seek}

abbrev pub CanBy : (ℕ → Word → Type 0) → Word → Clause → ℕ → Type 0
CanBy D w Clause.Empty k = (w ≡ []) × (k ≡ 0)
CanBy D w (Clause.Atom a b) k = (t : Token) × (w ≡ t ∷ []) × Covers a b t.terminal × (k ≡ 0)
CanBy D w (Clause.Unary B m) k = D B w × Mark.Unary m w × (k ≡ 0)
CanBy D w (Clause.Binary B C m) k =
    (k ≤ length w) × D B (take k w) × D C (drop k w) × Mark.Binary m (take k w) (drop k w)

-- over all trees it is what a choice asks
pub can_by : (g : Rules) (w : Word) (c : Clause) (k : ℕ) → Can g w c k → CanBy (Derives g) w c k
can_by g w Clause.Empty k e = e
can_by g w (Clause.Atom a b) k e = e
can_by g w (Clause.Unary B m) k e = e
can_by g w (Clause.Binary B C m) k e = e

pub by_can : (g : Rules) (w : Word) (c : Clause) (k : ℕ) → CanBy (Derives g) w c k → Can g w c k
by_can g w Clause.Empty k e = e
by_can g w (Clause.Atom a b) k e = e
by_can g w (Clause.Unary B m) k e = e
by_can g w (Clause.Binary B C m) k e = e

pub can_map : (D E : ℕ → Word → Type 0) → ((B : ℕ) (v : Word) → D B v → E B v)
    → (w : Word) (c : Clause) (k : ℕ) → CanBy D w c k → CanBy E w c k
can_map D E f w Clause.Empty k e = e
can_map D E f w (Clause.Atom a b) k e = e
can_map D E f w (Clause.Unary B m) k e = (f B w e.0, e.1, e.2)
can_map D E f w (Clause.Binary B C m) k e =
    (e.0, f B (take k w) e.1, f C (drop k w) e.2, e.3)

can_le : (D : ℕ → Word → Type 0) (w : Word) (c : Clause) (k : ℕ) → CanBy D w c k → k ≤ length w
can_le D w Clause.Empty k e = omega (arith, e.1)
can_le D w (Clause.Atom a b) k e = omega (arith, e.3)
can_le D w (Clause.Unary B m) k e = omega (arith, e.2)
can_le D w (Clause.Binary B C m) k e = e.0

-- what holds of the children of a tree
abbrev pub KidsBy : (ℕ → Word → Type 0) → Tree → Type 0
KidsBy D (empty A) = Unit {0}
KidsBy D (leaf A t) = Unit {0}
KidsBy D (unary A t) = D (root t) (word t)
KidsBy D (binary A s t) = D (root s) (word s) × D (root t) (word t)

-- a tree shows what its top asks
pub kids_can : (D : ℕ → Word → Type 0) (t : Tree) → KidsBy D t → (r : Rule) (k : ℕ) → Top r k t
    → CanBy D (word t) r.clause k
kids_can D (empty A) d r k e = rw e.0 (refl, e.1)
kids_can D (leaf A t) d r k e = rw e.2 (t, refl, e.3, e.4)
kids_can D (unary A t) d r k e = rw e.1 (d, e.3, e.2)
kids_can D (binary A s t) d r k e =
    rw (e.1, take_at (word s) (word t) k (sym e.2), drop_at (word s) (word t) k (sym e.2))
    (omega (arith, e.2, length-append (word s) (word t)), d.0, d.1, e.3)

-- decided where D is: of the word and its two parts

nil? : (w : Word) → Dec (w ≡ [])
nil? [] = yes refl
nil? (t ∷ w) = no (λ e. clash cc)

atom? : (a b k : ℕ) (w : Word) → Dec
    ((t : Token) × (w ≡ t ∷ []) × Covers a b t.terminal × (k ≡ 0))
atom? a b k [] = no (λ h. let e = h.1 in clash cc)
atom? a b k (t ∷ []) = go (dec_le a t.terminal) (dec_le t.terminal b) (ℕ_discrete k 0)
  where
    of : (t' : Token) → t ∷ [] ≡ t' ∷ [] → Covers a b t'.terminal → Covers a b t.terminal
    of t' e h = let x : t ≡ t' = cc in rw x h

    go : Dec (a ≤ t.terminal) → Dec (t.terminal ≤ b) → Dec (k ≡ 0)
        → Dec ((t' : Token) × (t ∷ [] ≡ t' ∷ []) × Covers a b t'.terminal × (k ≡ 0))
    go (yes d) (yes e) (yes f) = yes (t, refl, record { low = d; high = e }, f)
    go (yes d) (yes e) (no f) = no (λ h. f h.3)
    go (yes d) (no e) f = no (λ h. e (of h.0 h.1 h.2).high)
    go (no d) e f = no (λ h. d (of h.0 h.1 h.2).low)
atom? a b k (t ∷ u ∷ w) = no (λ h. let e = h.1 in clash cc)

both₃? : {A B C : Type 0} → Dec A → Dec B → Dec C → Dec (A × B × C)
both₃? (yes a) (yes b) (yes c) = yes (a, b, c)
both₃? (yes a) (yes b) (no f) = no (λ h. f h.2)
both₃? (yes a) (no f) d = no (λ h. f h.1)
both₃? (no f) d e = no (λ h. f h.0)

both₄? : {A B C D : Type 0} → Dec A → Dec B → Dec C → Dec D → Dec (A × B × C × D)
both₄? (yes a) (yes b) (yes c) (yes d) = yes (a, b, c, d)
both₄? (yes a) (yes b) (yes c) (no f) = no (λ h. f h.3)
both₄? (yes a) (yes b) (no f) d = no (λ h. f h.2)
both₄? (yes a) (no f) c d = no (λ h. f h.1)
both₄? (no f) b c d = no (λ h. f h.0)

pub can? : (D : ℕ → Word → Type 0) (w : Word) (c : Clause) (k : ℕ)
    → ((B : ℕ) → Dec (D B w)) → ((B : ℕ) → Dec (D B (take k w))) → ((B : ℕ) → Dec (D B (drop k w)))
    → Dec (CanBy D w c k)
can? D w Clause.Empty k d e f = both? (nil? w) (ℕ_discrete k 0)
can? D w (Clause.Atom a b) k d e f = atom? a b k w
can? D w (Clause.Unary B m) k d e f = both₃? (d B) (unary? m w) (ℕ_discrete k 0)
can? D w (Clause.Binary B C m) k d e f =
    both₄? (dec_le k (length w)) (e B) (f C) (binary? m (take k w) (drop k w))

-- with some left length
pub some_can? : (D : ℕ → Word → Type 0) (w : Word) (c : Clause) → ((B : ℕ) (v : Word) → Dec (D B v))
    → Dec ((k : ℕ) × CanBy D w c k)
some_can? D w c d = go (seek (CanBy D w c)
    (λ k. can? D w c k (λ B. d B w) (λ B. d B (take k w)) (λ B. d B (drop k w))) (suc (length w)))
  where
    go : Least (CanBy D w c) ⊎ ((j : ℕ) → j < suc (length w) → CanBy D w c j → ⊥)
        → Dec ((k : ℕ) × CanBy D w c k)
    go (inl l) = yes (l.at, l.holds)
    go (inr f) = no (λ x. f x.0 (omega (arith, can_le D w c x.0 x.1)) x.1)
