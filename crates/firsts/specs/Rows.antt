-- Tables of 64 sets: the nonterminals by the terminal that they begin with, and the terminals by
-- nonterminal.
use Rattle.std.specs.Prelude.{List, ℕ, ◌<◌, get_or}
use Rattle.sets.specs.Sets.{In}
use Rattle.grammar.specs.Trees.{Rules}
use Rattle.acyclic.specs.Exact.{Exactly}
use Rattle.pairs.specs.Survey.{CanBegin}

-- of the first n terminals
pub record ByTerminal (g : Rules) (n : ℕ) (t : List ℕ) : Type 0 where
  pub each : (x : ℕ) → x < n → Exactly (get_or t x 0) (λ A. CanBegin g A x)

-- of the first n nonterminals
pub record ByNonterminal (g : Rules) (n : ℕ) (t : List ℕ) : Type 0 where
  pub each : (A : ℕ) → A < n → Exactly (get_or t A 0) (CanBegin g A)

-- r has those below n whose sets have A
pub record RowOf (t : List ℕ) (A n r : ℕ) : Type 0 where
  pub below : (x : ℕ) → In r x → x < n
  pub is : (x : ℕ) → In r x → In (get_or t x 0) A
  pub all : (x : ℕ) → x < n → In (get_or t x 0) A → In r x

-- each of the first n sets is the row of its number
pub record TakesRows (t : List ℕ) (n : ℕ) (u : List ℕ) : Type 0 where
  pub each : (A : ℕ) → A < n → RowOf t A 64 (get_or u A 0)
