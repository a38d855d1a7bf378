-- What the reader of range sheets promises.
use Rattle.std.specs.Prelude.{◌≡◌, ◌≤◌, List, Result}
use Rattle.sheets.specs.declared.Refusal.{Refusal}
use Rattle.sheets.specs.Items.{Reading, accepted}
use Rattle.sheets.specs.Promises.{ReadAs}
use Rattle.column_ranges.specs.declared.RangeSentence.{RangeSentence}
use Rattle.column_ranges.specs.declared.RangeToken.{RangeToken}
use Rattle.column_ranges.specs.Ranges.{choice_count, choice_limit}
use Rattle.column_ranges.specs.RangeSentences.{ranges_of, Spread}

-- the wanted tokens are accepted: they have their ends in order, and few enough choices
pub record RangesGiven (s : RangeSentence) (want : Reading (List RangeToken)) : Type 0 where
  pub is : want ≡ accepted (ranges_of s)
  pub spread : Spread s
  pub few : choice_count (ranges_of s) ≤ choice_limit

abbrev pub RangesRead : Result RangeSentence Refusal → Reading (List RangeToken) → Type 0
RangesRead = ReadAs RangesGiven
