-- The rules that may have a whole span on one side, picked out once (inner).
use Rattle.std.specs.Prelude.{◌≡◌, ℕ, ◌+◌, ◌≤◌, ◌<◌, length}
use Rattle.sets.specs.Sets.{In}
use Rattle.grammar.specs.declared.Clause.{Clause}
use Rattle.grammar.specs.declared.Grammar.{Grammar}
use Rattle.grammar.specs.Trees.{Rules}
use Rattle.grammar.specs.Content.{rules_of, SmallRule}
use Rattle.tables.specs.Tables.{rule}

-- a clause never has a span of a token or more on one side: it is neither unary nor binary with a
-- side that has a tree of the empty word (one: what has one)
abbrev pub Idle : ℕ → Clause → Type 0
Idle one Clause.Empty = Unit {0}
Idle one (Clause.Atom a b) = Unit {0}
Idle one (Clause.Unary B m) = ⊥
Idle one (Clause.Binary B C m) = (In one B → ⊥) × (In one C → ⊥)

-- the first m of w are the first i of g but for idle ones
pub data Thinned (one : ℕ) (g w : Rules) : ℕ → ℕ → Type 0 where
  thin_none : Thinned one g w 0 0
  thin_keep : {i m : ℕ} → Thinned one g w i m → rule w m ≡ rule g i
      → Thinned one g w (i + 1) (m + 1)
  thin_drop : {i m : ℕ} → Thinned one g w i m → Idle one (rule g i).clause
      → Thinned one g w (i + 1) m

-- at most 128 rules, their numbers in range
pub record Ruled (w : Grammar) : Type 0 where
  pub few : w.count ≤ 128
  pub whole : length (rules_of w) ≡ w.count
  pub small : (i : ℕ) → i < w.count → SmallRule (rule (rules_of w) i)

-- w is g but for the idle rules
pub record LinkRules (one : ℕ) (g w : Grammar) : Type 0 where
  pub ruled : Ruled w
  pub thinned : Thinned one (rules_of g) (rules_of w) g.count w.count
