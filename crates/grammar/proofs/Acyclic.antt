-- Nullable nonterminals, edges, chains and cyclic sheets are decided; a sheet that is not cyclic
-- has a rank that falls along each edge.
use mathlib.Core.Path.{◌≡◌, refl, subst}
use mathlib.Core.Logic.{◌⊎◌, inl, inr}
use mathlib.Core.List.{List, [], ◌∷◌, ◌++◌, map, Memᴰ}
use Prim.Native.Nat.{ℕ, ◌+◌, ◌≤◌, ◌<◌}
use native.Mathlib.Omega.{arith}
use lib.ListN.{length}
use Rattle.sets.proofs.Basics.{clash}
use Rattle.grammar.specs.declared.Rule.{Rule}
use Rattle.grammar.specs.declared.Clause.{Clause}
use Rattle.grammar.specs.Layout.{Word, Every}
use Rattle.grammar.specs.Trees.{Tree, empty, unary, binary, root, word, Rules, Valid}
use Rattle.grammar.specs.Trees.{valid_empty, valid_leaf, valid_unary, valid_binary}
use Rattle.grammar.specs.Cycles.{Nullable, Edge, by_unary, by_left, by_right, Chain, one}
use Rattle.grammar.specs.Cycles.{more, Cyclic}
use Rattle.grammar.proofs.Lists.{eq?, both?, or?, map?, some?, Some, mem?, mem_every}
use Rattle.grammar.proofs.Lists.{collect, mem_collect, mem_map}
use Rattle.grammar.proofs.Saturation.{Saturated, saturate}

-- 1. nullable nonterminals

-- members of S make the clause's word empty
abbrev Ready : List ℕ → Clause → Type 0
Ready S Clause.Empty = Unit {0}
Ready S (Clause.Atom a b) = ⊥
Ready S (Clause.Unary B m) = Memᴰ B S
Ready S (Clause.Binary B C m) = Memᴰ B S × Memᴰ C S

ready? : (S : List ℕ) (c : Clause) → Dec (Ready S c)
ready? S Clause.Empty = yes tt
ready? S (Clause.Atom a b) = no (λ x. x)
ready? S (Clause.Unary B m) = mem? B S
ready? S (Clause.Binary B C m) = both? (mem? B S) (mem? C S)

pub no_parts : (u v : Word) → u ++ v ≡ [] → (u ≡ []) × (v ≡ [])
no_parts [] v e = (refl, e)
no_parts (a ∷ u) v e = absurd (clash cc)

module _ (g : Rules) where
  abbrev lefts : List ℕ
  lefts = map (λ r. r.left) g

  left_mem : {A : ℕ} {c : Clause} → Memᴰ (record { left = A; clause = c }) g
      → Memᴰ A lefts
  left_mem m = mem_map (λ r. r.left) g m

  -- a rule of A whose word the members make empty
  abbrev AddsNull : List ℕ → ℕ → Type 0
  AddsNull S A = Some (λ (r : Rule). (r.left ≡ A) × Ready S r.clause) g

  adds_null? : (S : List ℕ) (A : ℕ) → Dec (AddsNull S A)
  adds_null? S A = some? (λ r. both? (eq? r.left A) (ready? S r.clause)) g

  null_by : (S : List ℕ) → Every (Nullable g) S → (A : ℕ) (c : Clause)
      → Memᴰ (record { left = A; clause = c }) g → Ready S c → Nullable g A
  null_by S e A Clause.Empty m r = record
      { tree = empty A; witness = record { rooted = refl; spelled = refl; valid = valid_empty m } }
  null_by S e A (Clause.Atom a b) m r = absurd r
  null_by S e A (Clause.Unary B k) m r =
      let n = mem_every (Nullable g) S e r in
      record {
        tree = unary A n.tree;
        witness = record {
          rooted = refl;
          spelled = n.witness.spelled;
          valid = valid_unary {A = A} {t = n.tree} k (rw n.witness.rooted m)
              (rw n.witness.spelled tt) n.witness.valid;
        };
      }
  null_by S e A (Clause.Binary B C k) m r =
      let n = mem_every (Nullable g) S e r.0 in
      let o = mem_every (Nullable g) S e r.1 in
      record {
        tree = binary A n.tree o.tree;
        witness = record {
          rooted = refl;
          spelled = rw n.witness.spelled o.witness.spelled;
          valid =
              valid_binary {A = A} {s = n.tree} {t = o.tree} k
              (rw (n.witness.rooted, o.witness.rooted) m)
              (rw n.witness.spelled tt) n.witness.valid o.witness.valid;
        };
      }

  null_sound : (S : List ℕ) → Every (Nullable g) S → (A : ℕ) → AddsNull S A → Nullable g A
  null_sound S e A a =
      subst (Nullable g) a.2.0 (null_by S e a.0.left a.0.clause a.1 a.2.1)

  nulls : Saturated AddsNull adds_null? (Nullable g) null_sound lefts
  nulls = saturate AddsNull adds_null? (Nullable g) null_sound lefts

  null_member : {A : ℕ} {c : Clause} → Memᴰ (record { left = A; clause = c }) g
      → Ready nulls.members c → Memᴰ A nulls.members
  null_member {A} {c} m r =
      nulls.shut A (left_mem m) (record { left = A; clause = c }, m, (refl, r))

  null_complete : {t : Tree} → Valid g t → word t ≡ [] → Memᴰ (root t) nulls.members
  null_complete (valid_empty m) e = null_member m tt
  null_complete (valid_leaf m) e = absurd (clash cc)
  null_complete (valid_unary {t = t} k m h v) e = null_member m (null_complete v e)
  null_complete (valid_binary {s = s} {t = t} k m h u v) e =
      let p = no_parts (word s) (word t) e in
      null_member m (null_complete u p.0, null_complete v p.1)

  pub nullable? : (A : ℕ) → Dec (Nullable g A)
  nullable? A =
      map? (mem? A nulls.members) (λ m. mem_every (Nullable g) nulls.members nulls.all m)
      (λ d. rw d.witness.rooted at (null_complete d.witness.valid d.witness.spelled))

  -- 2. edges

  -- a rule with this clause has an edge to Y
  abbrev Leads : Clause → ℕ → Type 0
  Leads Clause.Empty Y = ⊥
  Leads (Clause.Atom a b) Y = ⊥
  Leads (Clause.Unary B m) Y = B ≡ Y
  Leads (Clause.Binary B C m) Y = ((B ≡ Y) × Nullable g C) ⊎ ((C ≡ Y) × Nullable g B)

  leads? : (c : Clause) (Y : ℕ) → Dec (Leads c Y)
  leads? Clause.Empty Y = no (λ x. x)
  leads? (Clause.Atom a b) Y = no (λ x. x)
  leads? (Clause.Unary B m) Y = eq? B Y
  leads? (Clause.Binary B C m) Y =
      or? (both? (eq? B Y) (nullable? C)) (both? (eq? C Y) (nullable? B))

  abbrev EdgeBy : ℕ → ℕ → Type 0
  EdgeBy A Y = Some (λ (r : Rule). (r.left ≡ A) × Leads r.clause Y) g

  edge_by : (A : ℕ) (c : Clause) (Y : ℕ) → Memᴰ (record { left = A; clause = c }) g → Leads c Y
      → Edge g A Y
  edge_by A Clause.Empty Y m h = elim h [ ]
  edge_by A (Clause.Atom _ _) Y m h = elim h [ ]
  edge_by A (Clause.Unary B k) Y m h = rw h at (by_unary k m)
  edge_by A (Clause.Binary B C k) Y m (inl h) = rw h.0 at (by_left C k m h.1)
  edge_by A (Clause.Binary B C k) Y m (inr h) = rw h.0 at (by_right B k m h.1)

  edge_of : (A Y : ℕ) → EdgeBy A Y → Edge g A Y
  edge_of A Y s = subst (λ (x : ℕ). Edge g x Y) s.2.0
      (edge_by s.0.left s.0.clause Y s.1 s.2.1)

  of_edge : {A Y : ℕ} → Edge g A Y → EdgeBy A Y
  of_edge (by_unary k m) = (_, m, (refl, refl))
  of_edge (by_left C k m n) = (_, m, (refl, inl (refl, n)))
  of_edge (by_right B k m n) = (_, m, (refl, inr (refl, n)))

  edge? : (A Y : ℕ) → Dec (Edge g A Y)
  edge? A Y =
      map? (some? (λ r. both? (eq? r.left A) (leads? r.clause Y)) g) (edge_of A Y) of_edge

  -- 3. chains

  -- what a clause can lead to
  abbrev targets_of : Clause → List ℕ
  targets_of Clause.Empty = []
  targets_of (Clause.Atom a b) = []
  targets_of (Clause.Unary B m) = B ∷ []
  targets_of (Clause.Binary B C m) = B ∷ C ∷ []

  abbrev targets : List ℕ
  targets = collect (λ (r : Rule). targets_of r.clause) g

  target_mem : {A Y : ℕ} → Edge g A Y → Memᴰ Y targets
  target_mem (by_unary k m) =
      mem_collect (λ (r : Rule). targets_of r.clause) g m (Memᴰ.head refl)
  target_mem (by_left C k m n) =
      mem_collect (λ (r : Rule). targets_of r.clause) g m (Memᴰ.head refl)
  target_mem (by_right B k m n) =
      mem_collect (λ (r : Rule). targets_of r.clause) g m (Memᴰ.tail (Memᴰ.head refl))

  snoc : {A B C : ℕ} → Chain g A B → Edge g B C → Chain g A C
  snoc (one e) f = more e (one f)
  snoc (more e c) f = more e (snoc c f)

  module _ (A : ℕ) where
    -- an edge from A or from a member
    abbrev AddsChain : List ℕ → ℕ → Type 0
    AddsChain S Y = Edge g A Y ⊎ Some (λ (X : ℕ). Edge g X Y) S

    adds_chain? : (S : List ℕ) (Y : ℕ) → Dec (AddsChain S Y)
    adds_chain? S Y = or? (edge? A Y) (some? (λ X. edge? X Y) S)

    chain_sound : (S : List ℕ) → Every (Chain g A) S → (Y : ℕ) → AddsChain S Y → Chain g A Y
    chain_sound S e Y (inl f) = one f
    chain_sound S e Y (inr s) = snoc (mem_every (Chain g A) S e s.1) s.2

    reached : Saturated AddsChain adds_chain? (Chain g A) chain_sound targets
    reached = saturate AddsChain adds_chain? (Chain g A) chain_sound targets

    chain_member : {X Y : ℕ} → (X ≡ A) ⊎ Memᴰ X reached.members → Edge g X Y
        → Memᴰ Y reached.members
    chain_member {X} {Y} (inl e) f = reached.shut Y (target_mem f) (inl (rw e at f))
    chain_member {X} {Y} (inr m) f = reached.shut Y (target_mem f) (inr (X, m, f))

    chain_complete : {X B : ℕ} → Chain g X B → (X ≡ A) ⊎ Memᴰ X reached.members
        → Memᴰ B reached.members
    chain_complete (one f) h = chain_member h f
    chain_complete (more f c) h = chain_complete c (inr (chain_member h f))

    pub chain? : (B : ℕ) → Dec (Chain g A B)
    chain? B =
        map? (mem? B reached.members)
        (λ m. mem_every (Chain g A) reached.members reached.all m)
        (λ c. chain_complete c (inl refl))

  chain_left : {A B : ℕ} → Chain g A B → Some (λ (r : Rule). r.left ≡ A) g
  chain_left (one f) = let s = of_edge f in (s.0, s.1, s.2.0)
  chain_left (more f c) = let s = of_edge f in (s.0, s.1, s.2.0)

  -- 4. cyclic sheets

  pub cyclic? : Dec (Cyclic g)
  cyclic? =
      map? (some? (λ (r : Rule). chain? r.left r.left) g)
      (λ s. record { start = s.0.left; returns = s.2 })
      (λ c. let s = chain_left c.returns in (s.0, s.1, rw s.2 c.returns))

-- 5. ranks

-- a number for each nonterminal that falls along each edge
pub record Ranked (g : Rules) : Type 0 where
  pub rank : ℕ → ℕ
  pub bound : ℕ
  pub small : (A : ℕ) → rank A ≤ bound
  pub falls : {A B : ℕ} → Edge g A B → rank B < rank A

pub one_if : {P : Type 0} → Dec P → ℕ
one_if (yes p) = 1
one_if (no n) = 0

pub one_if_le : {P Q : Type 0} (d : Dec P) (e : Dec Q) → (P → Q) → one_if d ≤ one_if e
unfolding one_if
one_if_le (yes p) (yes q) f = omega arith
one_if_le (yes p) (no k) f = absurd (k (f p))
one_if_le (no h) (yes q) f = omega arith
one_if_le (no h) (no k) f = omega arith

pub one_if_lt : {P Q : Type 0} (d : Dec P) (e : Dec Q) → (P → ⊥) → Q → one_if d < one_if e
unfolding one_if
one_if_lt (yes p) e f q = absurd (f p)
one_if_lt (no h) (yes k) f q = omega arith
one_if_lt (no h) (no k) f q = absurd (k q)

pub one_if_one : {P : Type 0} (d : Dec P) → one_if d ≤ 1
unfolding one_if
one_if_one (yes p) = omega arith
one_if_one (no h) = omega arith

-- how many of a list's members have P
count : {P : ℕ → Type 0} → ((b : ℕ) → Dec (P b)) → List ℕ → ℕ
count d [] = 0
count d (b ∷ l) = one_if (d b) + count d l

count_le : {P : ℕ → Type 0} (d : (b : ℕ) → Dec (P b)) (l : List ℕ) → count d l ≤ length l
unfolding count
count_le d [] = omega arith
count_le d (b ∷ l) = omega (arith, count_le d l, one_if_one (d b))

module _ {P Q : ℕ → Type 0} (d : (b : ℕ) → Dec (P b)) (e : (b : ℕ) → Dec (Q b))
    (f : (b : ℕ) → P b → Q b) where
  count_sub : (l : List ℕ) → count d l ≤ count e l
  unfolding count
  count_sub [] = omega arith
  count_sub (b ∷ l) = omega (arith, count_sub l, one_if_le (d b) (e b) (f b))

  count_lt : {b : ℕ} (l : List ℕ) → Memᴰ b l → (P b → ⊥) → Q b → count d l < count e l
  unfolding count
  count_lt {b = b} [] x3 n y = elim x3 [ ]
  count_lt {b} (x ∷ l) (Memᴰ.head q) n y =
      omega (arith, count_sub l, one_if_lt (d x) (e x) (rw q at n) (rw q at y))
  count_lt (x ∷ l) (Memᴰ.tail m) n y =
      omega (arith, count_lt l m n y, one_if_le (d x) (e x) (f x))

-- of a sheet that is not cyclic: the rank is how many of the nonterminals at the right chains lead
-- to
pub ranked : (g : Rules) → (Cyclic g → ⊥) → Ranked g
ranked g acyclic =
    record {
      rank = λ A. count (chain? g A) (targets g);
      bound = length (targets g);
      small = λ A. count_le (chain? g A) (targets g);
      falls =
          λ {A} {B} e. count_lt (chain? g B) (chain? g A) (λ i c. more e c) (targets g)
          (target_mem g e) (λ c. acyclic (record { start = B; returns = c })) (one e);
    }
