-- A sheet read line by line: what each line gives, and what the sheet gives. docs/FORMAT.md,
-- "Bytes, lines, fields, numbers" and "Refusals".
use Rattle.std.specs.Prelude.{ℕ, ◌+◌, List, [], ◌∷◌, ◌++◌, Bool, not, cond, ◌&&◌, length}
use Rattle.fields.specs.Pieces.{is_empty, same_bytes}
use Rattle.lines.specs.declared.Turn.{Turn}
use Rattle.lines.specs.Turns.{turn_of}

-- a sheet gives what it holds, or a refusal: its number, and its line
pub data Reading (A : Type 0) : Type 0 where
  accepted : A → Reading A
  refused : ℕ → ℕ → Reading A

-- a line gives one more item, or a refusal by its number, or the sheet's end
pub data Step (A : Type 0) : Type 0 where
  next : A → Step A
  stop : ℕ → Step A
  end : Step A

module _ {A : Type 0} where
  -- what a line gives by what it is: `many` and `form` are the numbers of the sheet's refusals,
  -- `said` what its fields say
  abbrev pub step_at_of : ℕ → ℕ → Step A → Turn → Step A
  step_at_of many form said Turn.End = end
  step_at_of many form said Turn.Many = stop many
  step_at_of many form said Turn.Open = stop form
  step_at_of many form said Turn.Whole = said

  -- a line of a sheet of at most `most` items, of which the items seen are read; `says` is what a
  -- whole line says
  abbrev pub line_step_of : ℕ → ℕ → ℕ → (List A → List ℕ → Step A) → List A → List ℕ → Bool → Step A
  line_step_of most many form says seen line ended =
      step_at_of many form (says seen line) (turn_of most (length seen) line ended)

  -- each line after the names gives an item, so the line after the items seen has the number that
  -- is 2 more than theirs
  abbrev pub on_step : List A → Step A → (A → Reading (List A)) → Reading (List A)
  on_step seen (next t) k = k t
  on_step seen (stop f) k = refused f (length seen + 2)
  on_step seen end k = accepted seen

  -- the rest of a sheet of which the items seen are read, by its pieces; all of them but the last
  -- are ended by a byte 10
  abbrev pub items_from : (List A → List ℕ → Bool → Step A) → List A → List (List ℕ)
      → Reading (List A)
  items_from step seen [] = accepted seen
  items_from step seen (p ∷ ps) =
      on_step seen (step seen p (not (is_empty ps))) (λ t. items_from step (seen ++ t ∷ []) ps)

  -- the first line is the names, so ended: what k says of the pieces behind it
  abbrev pub with_names : Reading A → List ℕ → List (List ℕ) → (List (List ℕ) → Reading A)
      → Reading A
  with_names bad names [] k = bad
  with_names bad names (h ∷ ps) k = cond (not (is_empty ps) && same_bytes h names) (k ps) bad
