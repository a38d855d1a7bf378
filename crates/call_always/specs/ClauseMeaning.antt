-- What the reply says of the readings under the clauses of the very sheet, without the expansion.
use Rattle.std.specs.Prelude.{List, ℕ}
use Rattle.grammar.specs.Layout.{Word}
use Rattle.grammar.specs.Candidates.{Wide, Rising}
use Rattle.clauses.specs.Clauses.{Clauses}
use Rattle.clauses.specs.Readings.{TwoReadings}
use Rattle.clause_sheets.specs.Own.{OwnClauses}

-- no sequence of tokens of any length, none at all included, has two readings, whatever its
-- terminals, lines, columns and widths
pub record ClearAlwaysReadings (c : Clauses) : Type 0 where
  pub absent : (w : Word) → Rising w → Wide w → TwoReadings c 0 w → ⊥

-- so it is with the clauses of the sheet
pub record ClearSheet (clauses : List ℕ) : Type 0 where
  pub own : Clauses
  pub are : OwnClauses clauses own
  pub clear : ClearAlwaysReadings own
