-- What a sweep answers: "The answer is `two` with the first candidate that has two trees, or
-- `clear`".
use Rattle.std.specs.Prelude.{◌≡◌, List, ◌++◌, ◌↔◌, ℕ, ◌-◌, ◌≤◌, ◌<◌, length, replicate}
use Rattle.std.specs.Prelude.{Option, Some, None}
use Rattle.grammar.specs.declared.Cell.{Cell}
use Rattle.grammar.specs.declared.Sentence.{Sentence}
use Rattle.grammar.specs.Trees.{Rules}
use Rattle.grammar.specs.Candidates.{sentence}
use Rattle.grammar.specs.Sweeps.{Clear, FirstTwo, terminal_count, arrangements}
use Rattle.grammar.specs.Sweeps as Sweeps
use Rattle.sets.specs.Sets.{In}
use Rattle.counting.specs.Counts.{HowMany}
use Rattle.lengths.specs.Lengths.{CanHave}
use Rattle.candidates.specs.Arrays.{cells}
use Rattle.tried_count.specs.declared.Hit.{Hit}
use Rattle.sweeping.specs.Cleared.{TriedBy}
use Rattle.grammar.specs.Sentences.{no_token}

-- s is the set of the lengths 0 to 7 that nonterminal 0 can have when all marks are ignored
pub record LengthsOf (g : Rules) (s : ℕ) : Type 0 where
  pub is : (n : ℕ) → n < 8 → In s n ↔ CanHave g 0 n

-- a bound that 23 and 24 are not given for
pub record Bounded (g : Rules) (k : ℕ) : Type 0 where
  pub low : 1 ≤ k
  pub high : k ≤ 7
  pub few : arrangements (terminal_count g) k ≤ 4294967296

-- r has the first candidate that has two trees, and no shorter sequence has two. m is how many
-- candidates were tried. "The answer's token places past that sentence are 0"
pub record SweptTwo (g : Rules) (k : ℕ) (r : Sentence) (m : ℕ) : Type 0 where
  pub found : List Cell
  pub first : FirstTwo g k found
  pub shorter : Clear g (length found - 1)
  pub count : r.count ≡ length found
  pub tokens : r.tokens ≡ sentence found ++ replicate (64 - length found) no_token
  pub tried : HowMany (TriedBy g k (Sweeps.found found)) m

-- the answer up to k: such a sentence, or clear
abbrev pub Swept : Rules → ℕ → Option Sentence → ℕ → Type 0
Swept g k (Some r) m = SweptTwo g k r m
Swept g k None m = Clear g k × HowMany (TriedBy g k Sweeps.clear) m

-- what was found before it is spelled: the first candidate that has two trees, or nothing
abbrev pub Found : Rules → ℕ → Option Hit → Type 0
Found g k (Some h) = FirstTwo g k (cells h.candidate 0 h.length)
Found g k None = Clear g k
