-- The promise of the call `trees`: docs/FORMAT.md, "Trees and choices" and "Refusals". What it says
-- of trees that are read serves the call `show` too: `trees` is the case in which all rows are
-- seen.
use Rattle.std.specs.Prelude.{◌≡◌, ◌⊎◌, List, ℕ, Result, Ok, ◌≤◌, ◌<◌, length}
use Rattle.std.proofs.Math.Option.{none, some}
use Rattle.grammar.specs.Layout.{Word}
use Rattle.grammar.specs.Trees.{Tree, Rules, NoTree, OneTree, TwoTrees}
use Rattle.grammar.specs.Choices.{FirstTree, SecondTree}
use Rattle.tree_writer.specs.Written.{Display, in_full_of, row_room, filled}
use Rattle.sheets.specs.Items.{accepted}
use Rattle.sheets.specs.declared.Fault.{Fault}
use Rattle.sheets.specs.Refusals.{number_of, RefusedAs}
use Rattle.sheets.specs.declared.Refusal.{Refusal}
use Rattle.sheets.specs.Results.{refusal}
use Rattle.grammar.specs.declared.Verdict.{Verdict}
use Rattle.answering.specs.declared.TreeRows.{TreeRows}
use Rattle.answering.specs.Answers.{Sheets, sheets}
use Rattle.answering.specs.Verdict.{needed, SheetFilled}

-- the verdict, with the rows of each tree
abbrev pub trees_reply_of : Verdict → ℕ → ℕ → Result TreeRows Refusal
trees_reply_of v m n = Ok (record { verdict = v; first = m; second = n })

-- what the answer on an accepted sentence says of its trees, and what stands in both tree memories
-- then, where trees are written so
pub data Shown (dis : Display) (g : Rules) (w : Word) (one one' two two' : List ℕ)
    (r : Result TreeRows Refusal) : Type 0 where
  -- none: both memories 0
  treeless : NoTree g 0 w
      → r ≡ trees_reply_of Verdict.None 0 0 → one' ≡ filled dis one none
      → two' ≡ filled dis two none
      → Shown dis g w one one' two two' r
  -- one: the first tree, and the second memory 0
  single : {t : Tree} → OneTree g 0 w → FirstTree g 0 w t → dis.number t ≤ row_room one
      → r ≡ trees_reply_of Verdict.One (dis.number t) 0 → one' ≡ filled dis one (some t)
      → two' ≡ filled dis two none → Shown dis g w one one' two two' r
  -- two: the first and the second tree, even where they are shown alike: the verdict is open to all
  both : {t u : Tree} → TwoTrees g 0 w → FirstTree g 0 w t → SecondTree g 0 w u
      → dis.number t ≤ row_room one → dis.number u ≤ row_room two
      → r ≡ trees_reply_of Verdict.Two (dis.number t) (dis.number u)
      → one' ≡ filled dis one (some t) → two' ≡ filled dis two (some u)
      → Shown dis g w one one' two two' r
  -- a tree of the answer has more rows than its memory has whole four-byte places: both memories 0
  large_one : {t : Tree} {f : Fault} → OneTree g 0 w → FirstTree g 0 w t
      → row_room one < dis.number t → number_of f ≡ 22
      → r ≡ refusal f 0 → one' ≡ filled dis one none
      → two' ≡ filled dis two none → Shown dis g w one one' two two' r
  large_two : {t u : Tree} {f : Fault} → TwoTrees g 0 w → FirstTree g 0 w t → SecondTree g 0 w u
      → (row_room one < dis.number t) ⊎ (row_room two < dis.number u) → number_of f ≡ 22
      → r ≡ refusal f 0 → one' ≡ filled dis one none
      → two' ≡ filled dis two none → Shown dis g w one one' two two' r

-- the answer on rules and a word that both sheets give
pub data TreesOn (dis : Display) (g : Rules) (w : Word) (words words' one one' two two' : List ℕ)
    (r : Result TreeRows Refusal) : Type 0 where
  -- too few words: nothing changes
  short : {f : Fault} → length words < needed w → number_of f ≡ 21
      → r ≡ refusal f 0 → words' ≡ words → one' ≡ one → two' ≡ two
      → TreesOn dis g w words words' one one' two two' r
  -- otherwise the span sheet is filled, and the trees of the answer are shown, if they fit
  showing : SheetFilled g w words words' → Shown dis g w one one' two two' r
      → TreesOn dis g w words words' one one' two two' r

-- what a call answers where both sheets give this, and what it leaves of the lent words and of both
-- tree memories
pub data TreesBy (given : Sheets) (words words' one one' two two' : List ℕ)
    (r : Result TreeRows Refusal) : Type
    0 where
  -- a refused sheet: nothing changes
  refusing : {f : Fault} {l : ℕ} → RefusedAs given f l
      → r ≡ refusal f l → words' ≡ words → one' ≡ one → two' ≡ two
      → TreesBy given words words' one one' two two' r
  reading : {g : Rules} {w : Word} → given ≡ accepted (g, w)
      → TreesOn in_full_of g w words words' one one' two two' r
      → TreesBy given words words' one one' two two' r

-- the call on a rule sheet and a token sheet
abbrev pub TreesOf : (rules tokens words words' one one' two two' : List ℕ)
    (r : Result TreeRows Refusal)
    → Type 0
TreesOf rules tokens = TreesBy (sheets rules tokens)
