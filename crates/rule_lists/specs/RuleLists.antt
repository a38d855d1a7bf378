-- The rules of each nonterminal as a list of places (inner: contracts of the functions that go
-- along it).
use Rattle.std.specs.Prelude.{◌≡◌, List, ℕ, ◌+◌, ◌≤◌, ◌<◌, length, get_or}
use Rattle.grammar.specs.Trees.{Rules}
use Rattle.tables.specs.Tables.{rule}

-- r is the place of the first rule of A from `from` on, or past all rules
pub record FirstOf (g : Rules) (A from r : ℕ) : Type 0 where
  pub low : from ≤ r
  pub skips : (i : ℕ) → from ≤ i → i < r → i < length g → (rule g i).left ≡ A → ⊥
  pub is : r < length g → (rule g r).left ≡ A

-- the nonterminals below m have the place of their first rule
pub record Firsts (g : Rules) (m : ℕ) (l : List ℕ) : Type 0 where
  pub first : (A : ℕ) → A < m → FirstOf g A 0 (get_or l A 0)

-- the rules before m have the place of the next rule with the same left
pub record Nexts (g : Rules) (m : ℕ) (l : List ℕ) : Type 0 where
  pub next : (i : ℕ) → i < m → FirstOf g (rule g i).left (i + 1) (get_or l (64 + i) 0)

pub record Listed (g : Rules) (l : List ℕ) : Type 0 where
  pub long : length l ≡ 192
  pub firsts : Firsts g 64 l
  pub nexts : Nexts g (length g) l

-- the rule at i, where there is one, is one of A
abbrev pub IsOf : Rules → ℕ → ℕ → Type 0
IsOf g A i = i < length g → (rule g i).left ≡ A
