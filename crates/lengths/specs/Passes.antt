-- Predicates of inner functions only: what a rule gives to an index, and a pass over the rules.
use Rattle.std.specs.Prelude.{◌≡◌, ◌⊎◌, ◌↔◌, ℕ, ◌+◌, ◌-◌, ◌≤◌, ◌<◌, length}
use mathlib.Core.List.{List, [], ◌∷◌, Memᴰ}
use Rattle.std.proofs.Math.Option.{some}
use Rattle.std.proofs.Math.ListN.{get_elem?}
use Rattle.grammar.specs.declared.Grammar.{Grammar}
use Rattle.grammar.specs.Layout.{Every}
use Rattle.grammar.specs.Content.{rules_of, SmallRule}
use Rattle.sets.specs.Sets.{In}
use Rattle.grammar.specs.declared.Rule.{Rule}
use Rattle.grammar.specs.declared.Clause.{Clause}
use Rattle.grammar.specs.Trees.{Rules, HasEmpty, HasAtom, HasUnary, HasBinary}
use Rattle.grammar.specs.declared.UnaryMark.{UnaryMark}
use Rattle.grammar.specs.declared.BinaryMark.{BinaryMark}
use Rattle.lengths.specs.declared.Index.{Index}
use Rattle.lengths.specs.declared.Growth.{Growth}
use Rattle.lengths.specs.Indexes.{at, Shaped}

-- the sum of the numbers
abbrev pub weigh : List ℕ → ℕ
weigh [] = 0
weigh (a ∷ l) = a + weigh l

-- n is a member of s that is below i, and one of t
pub record SumTo (s t i n : ℕ) : Type 0 where
  pub part : ℕ
  pub below : part < i
  pub left : In s part
  pub fits : part ≤ n
  pub right : In t (n - part)
  pub small : n < 8

-- the set r has just the numbers with P, and they are below 8
pub record Has (P : ℕ → Type 0) (r : ℕ) : Type 0 where
  pub small : r < 256
  pub is : (n : ℕ) → In r n ↔ P n

-- the first and the second nonterminal of a clause, 0 where it has none
abbrev pub first_of : Clause → ℕ
first_of Clause.Empty = 0
first_of (Clause.Atom a b) = 0
first_of (Clause.Unary B m) = B
first_of (Clause.Binary B C m) = B

abbrev pub second_of : Clause → ℕ
second_of Clause.Empty = 0
second_of (Clause.Atom a b) = 0
second_of (Clause.Unary B m) = 0
second_of (Clause.Binary B C m) = C

-- a clause gives length n, where its nonterminals have the lengths s and t
abbrev pub Makes : ℕ → ℕ → Clause → ℕ → Type 0
Makes s t Clause.Empty n = n ≡ 0
Makes s t (Clause.Atom a b) n = (n ≡ 1) × (a ≤ b)
Makes s t (Clause.Unary B m) n = In s n
Makes s t (Clause.Binary B C m) n = SumTo s t 8 n

-- the same, by the lengths that the index has for them
abbrev pub GivesByIndex : Index → Clause → ℕ → Type 0
GivesByIndex x Clause.Empty n = n ≡ 0
GivesByIndex x (Clause.Atom a b) n = (n ≡ 1) × (a ≤ b)
GivesByIndex x (Clause.Unary B m) n = In (at x B) n
GivesByIndex x (Clause.Binary B C m) n = SumTo (at x B) (at x C) 8 n

-- y is x with what the rule gives besides
pub record Applied (x : Index) (r : Rule) (y : Index) : Type 0 where
  pub shaped : Shaped y
  pub more : (A : ℕ) → at x A ≤ at y A
  pub keeps : (A n : ℕ) → In (at x A) n → In (at y A) n
  pub adds : (n : ℕ) → GivesByIndex x r.clause n → In (at y r.left) n
  pub only : (A n : ℕ) → In (at y A) n
      → In (at x A) n ⊎ ((r.left ≡ A) × GivesByIndex x r.clause n)

-- A can have length n, by the rules: `CanHave` without its tree
pub data Possible (g : Rules) : ℕ → ℕ → Type 0 where
  by_empty : {A : ℕ} → HasEmpty g A → Possible g A 0
  by_atom : {A : ℕ} (a : ℕ) → HasAtom g A a → Possible g A 1
  by_unary : {A n : ℕ} (B : ℕ) (m : UnaryMark) → HasUnary g A B m → Possible g B n → Possible g A n
  by_binary : {A n : ℕ} (B C i j : ℕ) (m : BinaryMark) → HasBinary g A B C m → Possible g B i
      → Possible g C j → n ≡ i + j → Possible g A n

-- all that x has is possible
pub record Sound (g : Rules) (x : Index) : Type 0 where
  pub shaped : Shaped x
  pub is : (A n : ℕ) → In (at x A) n → Possible g A n

-- the first p rules led from x to y, which has what they give to x; other sets than those of
-- `grown` are the same, and where there are some y is heavier
pub record LengthsPassed (g : Rules) (p : ℕ) (x y : Index) (grown : ℕ) : Type 0 where
  pub sound : Sound g y
  pub more : (A : ℕ) → at x A ≤ at y A
  pub keeps : (A n : ℕ) → In (at x A) n → In (at y A) n
  pub gave : (q : ℕ) → q < p → (r : Rule) → get_elem? g q ≡ some r → (n : ℕ)
      → GivesByIndex x r.clause n → In (at y r.left) n
  pub same : (A : ℕ) → (In grown A → ⊥) → at y A ≡ at x A
  pub heavier : (grown ≡ 0 → ⊥) → weigh x.sets < weigh y.sets

-- the rule gives x nothing that x lacks
pub record Idle (x : Index) (r : Rule) : Type 0 where
  pub has : (n : ℕ) → GivesByIndex x r.clause n → In (at x r.left) n

-- the clause names a member; one that names no nonterminal names 0
abbrev pub Named : ℕ → Clause → Type 0
Named set k = In set (first_of k) ⊎ In set (second_of k)

-- rules that name no member of the set give x nothing
pub record Open (g : Rules) (x : Index) (set : ℕ) : Type 0 where
  pub idle : (r : Rule) → Memᴰ r g → (Named set r.clause → ⊥) → Idle x r

-- u is w with what the rule gives besides; other sets than those of `grown` are the same, and where
-- there is a new one it is heavier
pub record Widens (w : Growth) (r : Rule) (u : Growth) : Type 0 where
  pub applied : Applied w.index r u.index
  pub kept : (A : ℕ) → In w.grown A → In u.grown A
  pub same : (A : ℕ) → (In u.grown A → ⊥) → at u.index A ≡ at w.index A
  pub heavier : (u.grown ≡ w.grown)
      ⊎ (weigh w.index.sets < weigh u.index.sets)

-- a grammar of at most 128 rules, their numbers in range
pub record Held (g : Grammar) : Type 0 where
  pub few : g.count ≤ 128
  pub whole : length (rules_of g) ≡ g.count
  pub small : Every SmallRule (rules_of g)
