-- The terminals that candidates carry, as a 64-bit set, and T: docs/FORMAT.md, "The sweep", first
-- two sentences.
use Rattle.std.specs.Prelude.{◌≡◌, true, ◌⊎◌, ◌↔◌, ℕ, ◌≤◌, ◌<◌}
use Rattle.std.specs.Int.Count.{ones}
use Rattle.sets.specs.Sets.{In}
use Rattle.grammar.specs.declared.Clause.{Clause}
use Rattle.grammar.specs.Trees.{Rules, Covers}
use Rattle.grammar.specs.Candidates.{Terminal}
use Rattle.grammar.specs.Sweeps.{is_atom_of, terminal_count}

-- x is one of the terminals of the set s
abbrev pub Among : ℕ → ℕ → Type 0
Among s x = (x < 64) × In s x

-- low is the least terminal of s
pub record Lowest (s low : ℕ) : Type 0 where
  pub there : Among s low
  pub least : (x : ℕ) → Among s x → low ≤ x

-- s is the set of the terminals that the sheet's A rules cover
abbrev pub Terminals : Rules → ℕ → Type 0
Terminals g s = (x : ℕ) → In s x ↔ Terminal g x

-- u is the set s with the numbers from a to b besides
pub record Ranging (s a b u : ℕ) : Type 0 where
  pub is : (x : ℕ) → In u x ↔ (In s x ⊎ Covers a b x)

-- u is the set s with a clause's terminals besides, if it is of kind A
pub record Widened (s : ℕ) (k : Clause) (u : ℕ) : Type 0 where
  pub is : (x : ℕ) → In u x ↔ (In s x ⊎ (is_atom_of x k ≡ true))

-- t counts the ones of s: where s is the set of a sheet's terminals, t is its T
pub record CountsOnes (s t : ℕ) : Type 0 where
  pub ones : t ≡ ones s
  pub few : t ≤ 64
  pub terminals : (g : Rules) → Terminals g s → t ≡ terminal_count g
