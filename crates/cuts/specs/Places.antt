-- The places of the B rules (inner).
use Rattle.std.specs.Prelude.{◌≡◌, ◌⊎◌, ℕ, ◌+◌, ◌<◌, length}
use Rattle.sets.specs.Sets.{In}
use Rattle.grammar.specs.declared.Clause.{Clause}
use Rattle.grammar.specs.Trees.{Rules}
use Rattle.tables.specs.Tables.{rule}
use Rattle.cuts.specs.declared.BinaryRules.{BinaryRules}

abbrev pub IsBinary : Clause → Type 0
IsBinary Clause.Empty = ⊥
IsBinary (Clause.Atom a b) = ⊥
IsBinary (Clause.Unary B m) = ⊥
IsBinary (Clause.Binary B C m) = Unit {0}

-- r has what the set has, and i if the clause is binary
pub record WithPlace (set i : ℕ) (c : Clause) (r : ℕ) : Type 0 where
  pub keeps : (j : ℕ) → In set j → In r j
  pub has : IsBinary c → In r i
  pub only : (j : ℕ) → In r j → In set j ⊎ ((j ≡ i) × IsBinary c)

-- the set has the places of the B rules among the m from base on, counted from there, and places of
-- B rules alone
pub record PlacedAt (g : Rules) (base m set : ℕ) : Type 0 where
  pub all : (i : ℕ) → i < m → IsBinary (rule g (base + i)).clause → In set i
  pub within : (i : ℕ) → In set i → base + i < length g
  pub binary : (i : ℕ) → In set i → IsBinary (rule g (base + i)).clause

-- lefts has the left of the rule at each of these places
pub record LeftsAt (g : Rules) (base set lefts : ℕ) : Type 0 where
  pub each : (i : ℕ) → In set i → In lefts (rule g (base + i)).left

-- of all B rules
pub record Placed (g : Rules) (b : BinaryRules) : Type 0 where
  pub low : PlacedAt g 0 64 b.low
  pub high : PlacedAt g 64 64 b.high
  pub lows : LeftsAt g 0 b.low b.lows
  pub highs : LeftsAt g 64 b.high b.highs
