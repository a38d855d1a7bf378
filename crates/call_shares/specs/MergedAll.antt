-- What all reports come to, merged one after the other: "otherwise the lowest number from the
-- shortest reporting length is the sweep's sentence".
use Rattle.std.specs.Prelude.{◌≡◌, List, [], ◌∷◌, ℕ, length}
use Rattle.call_shares.specs.Merge.{Merged, Refuses}
use Rattle.grammar.specs.Trees.{Rules}
use Rattle.call_shares.specs.Share.{ShareResult, ShareOn, share_told, share_number, share_sentence}
use Rattle.sweep_answers.specs.Sweep.{padded}
use Rattle.grammar.specs.declared.Cell.{Cell}
use Rattle.grammar.specs.Candidates.{sentence}
use Rattle.grammar.specs.Sweeps.{Clear, FirstTwo}
use Rattle.arrangement_numbers.specs.Numbers.{number}
use Rattle.sheets.specs.declared.Answer.{Answer}

-- a merged with each of the reports in turn
abbrev pub MergedAll : ShareResult → List ShareResult → ShareResult → Type 0
MergedAll a [] r = r ≡ a
MergedAll a (b ∷ rs) r = (m : ShareResult) × Merged a b m × MergedAll m rs r

-- r is the reply of share i of p over n tokens, whatever words were lent
pub record Answered (g : Rules) (n p i : ℕ) (r : ShareResult) : Type 0 where
  pub words : List ℕ
  pub after : List ℕ
  pub on : ShareOn g n p i words after r

-- what reports of the lengths 1 to k come to: a refusal of a share, or the sweep's answer
pub data Sweeps (g : Rules) (k : ℕ) (r : ShareResult) : Type 0 where
  some_refused : Refuses r → Sweeps g k r
  all_clear : Clear g k → share_told r ≡ Answer.Clear → (share_sentence r).count ≡ 0 → Sweeps g k r
  first_found : {cs : List Cell} → FirstTwo g k cs → share_told r ≡ Answer.Two
      → share_number r ≡ number g (length cs) cs
      → share_sentence r ≡ padded (sentence cs) → Sweeps g k r
