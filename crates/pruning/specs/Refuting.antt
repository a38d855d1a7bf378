-- What is known while a block of candidates is refuted: first the terminals of the tokens from the
-- last one backward to token b, all positions from b on being open, then the positions from b on
-- (inner: only the proofs of the search need it).
use Rattle.std.specs.Prelude.{◌≡◌, Bool, true, false, List, [], ◌∷◌, ℕ, zero, suc, ◌+◌, ◌*◌, ◌/◌}
use Rattle.std.specs.Prelude.{◌%◌, ◌≤◌, ◌<◌, length, get_or, take}
use Rattle.grammar.specs.declared.Cell.{Cell}
use Rattle.grammar.specs.Trees.{Rules, TwoTrees}
use Rattle.grammar.specs.Candidates.{Candidate, sentence}
use Rattle.candidates.specs.Arrays.{no_cell}
use Rattle.candidates.specs.Terminals.{Among}
use Rattle.candidates.specs.Succession.{Shares}
use Rattle.equivalents.specs.Twins.{Twin}
use Rattle.spans.specs.Changes.{Past}
use Rattle.grammar.specs.SpanSheet.{pairs}
use Rattle.chart.specs.Openness.{Open}
use Rattle.chart.specs.Sheets.{Exact}
use Rattle.chart.specs.Leaves.{LeafAt, May}

-- the terminal of the cell at i
abbrev pub terminal_at_of : List Cell → ℕ → ℕ
terminal_at_of cs i = (get_or cs i no_cell).terminal

-- ds has cs's terminals from j on
pub record Spelt (n j : ℕ) (ds cs : List Cell) : Type 0 where
  pub same : (i : ℕ) → j ≤ i → i < n → terminal_at_of ds i ≡ terminal_at_of cs i

-- each candidate that shares cs's first b cells, and has its terminals from j on, has a twin that
-- shares its first h cells, if it has two trees
pub record Twinned (g : Rules) (s n h b j : ℕ) (cs : List Cell) : Type 0 where
  pub twin : (ds : List Cell) → Candidate (Among s) n ds → Shares b ds cs → Spelt n j ds cs
      → TwoTrees g 0 (sentence ds) → Twin g s n h ds

-- the words are right for cs's first b cells; the tokens from j on have the pairs of cs's
-- terminals, those between allow for all of the set s; and the spans of two tokens or more from j
-- on have what can stand over open tokens
pub record TerminalsFilled (g : Rules) (s n b j : ℕ) (cs : List Cell) (ws : List ℕ) : Type 0 where
  pub right : Exact g (sentence cs) n ws b
  pub beyond : Open g n ws j
  pub fixed : (i : ℕ) → j ≤ i → i < n → LeafAt g n ws i (terminal_at_of cs i)
  pub free : (i : ℕ) → b ≤ i → i < j → (x : ℕ) → Among s x → May g n ws i x

-- the same when all terminals are fixed and the first i positions: of the spans past them nothing
-- is asked
pub record PositionsFilled (g : Rules) (n i : ℕ) (cs : List Cell) (ws : List ℕ) : Type 0 where
  pub right : Exact g (sentence cs) n ws i
  pub fixed : (k : ℕ) → i ≤ k → k < n → LeafAt g n ws k (terminal_at_of cs k)

-- ---- by terminals

-- cs' has the terminal x at j, and cs's cells before it and terminals behind it
pub record TerminalChanged (j x : ℕ) (cs cs' : List Cell) : Type 0 where
  pub size : length cs' ≡ length cs
  pub kept : (b : ℕ) → b ≤ j → take b cs' ≡ take b cs
  pub terminal : terminal_at_of cs' j ≡ x
  pub rest : (i : ℕ) → j < i → terminal_at_of cs' i ≡ terminal_at_of cs i

-- of those with cs's terminals past j, the ones with a terminal below m at j have twins
pub record TerminalsTwinned (g : Rules) (s n h b j m : ℕ) (cs : List Cell) : Type 0 where
  pub twin : (ds : List Cell) → Candidate (Among s) n ds → Shares b ds cs → Spelt n (j + 1) ds cs
      → terminal_at_of ds j < m → TwoTrees g 0 (sentence ds) → Twin g s n h ds

-- ---- by positions

-- cs' has at i the line step k / n and the column k % n + 1, and else cs's cells before it and
-- terminals
pub record Moved (n i k : ℕ) (cs cs' : List Cell) : Type 0 where
  pub size : length cs' ≡ length cs
  pub kept : (b : ℕ) → b ≤ i → take b cs' ≡ take b cs
  pub step : (get_or cs' i no_cell).step ≡ k / n
  pub column : (get_or cs' i no_cell).column ≡ k % n + 1
  pub terminals : (q : ℕ) → terminal_at_of cs' q ≡ terminal_at_of cs q

-- of those with cs's terminals from i on, the ones whose position at i is one of the first m have
-- twins
pub record PositionsTwinned (g : Rules) (s n h i m : ℕ) (cs : List Cell) : Type 0 where
  pub twin : (ds : List Cell) → Candidate (Among s) n ds → Shares i ds cs → Spelt n i ds cs
      → (get_or ds i no_cell).step * n + (get_or ds i no_cell).column ≤ m
      → TwoTrees g 0 (sentence ds)
      → Twin g s n h ds

-- the column of the cell before i, which is p before the first
abbrev pub prior : ℕ → List Cell → ℕ → ℕ
prior p cs zero = p
prior p [] (suc i) = 0
prior p (c ∷ cs) (suc i) = prior c.column cs i

-- the largest step of the cell at i, which is m for the first
abbrev pub most : ℕ → ℕ → ℕ
most m zero = m
most m (suc i) = 2

-- the cell at i comes after the one before
pub record Rises (cs : List Cell) (i : ℕ) : Type 0 where
  pub after : (get_or cs i no_cell).step ≡ 0 → prior 0 cs i < (get_or cs i no_cell).column
  pub step : (get_or cs i no_cell).step ≤ most 0 i

-- the same while terminals are tried at j: of its pair nothing is said
pub record TerminalOpen (g : Rules) (s n b j : ℕ) (cs : List Cell) (ws : List ℕ) : Type 0 where
  pub right : Exact g (sentence cs) n ws b
  pub beyond : Open g n ws (j + 1)
  pub fixed : (i : ℕ) → j < i → i < n → LeafAt g n ws i (terminal_at_of cs i)
  pub free : (i : ℕ) → b ≤ i → i < j → (x : ℕ) → Among s x → May g n ws i x

-- a position is tried: it is refuted, and the words stand as before; or they stand with it
pub record PositionTried (r : Bool) (g : Rules) (n h i : ℕ) (cs : List Cell)
    (ws ws' : List ℕ) : Type 0 where
  pub out : r ≡ true → (s : ℕ) → Twinned g s n h (i + 1) (i + 1) cs
  pub stays : r ≡ true → PositionsFilled g n i cs ws'
  pub on : r ≡ false → PositionsFilled g n (i + 1) cs ws'
  pub past : Past (2 * pairs n) ws ws'

-- all positions from i on are tried: false, and they are refuted
pub record PositionsSearched (r : Bool) (g : Rules) (n h i : ℕ) (cs : List Cell)
    (ws ws' : List ℕ) : Type
    0 where
  pub out : r ≡ false → (s : ℕ) → Twinned g s n h i i cs
  pub stays : r ≡ false → PositionsFilled g n i cs ws'
  pub past : Past (2 * pairs n) ws ws'

-- all positions are tried, and the words are poised for terminals again
pub record AllPositionsSearched (r : Bool) (g : Rules) (n h b : ℕ) (cs : List Cell)
    (ws ws' : List ℕ) : Type
    0 where
  pub out : r ≡ false → (s : ℕ) → Twinned g s n h b b cs
  pub stays : r ≡ false → (s : ℕ) → TerminalsFilled g s n b b cs ws'
  pub past : Past (2 * pairs n) ws ws'

-- the terminal of cs at j is tried: true, it is refuted, whatever is held; the words are poised
-- with it
pub record TerminalTried (r : Bool) (g : Rules) (s n b j : ℕ) (cs : List Cell)
    (ws ws' : List ℕ) : Type
    0 where
  pub out : r ≡ true → (h : ℕ) → Twinned g s n h b j cs
  pub stays : TerminalsFilled g s n b j cs ws'
  pub past : Past (2 * pairs n) ws ws'

-- all terminals of the tokens from b to below j, and all positions, are tried: false, and they are
-- refuted
pub record Done (r : Bool) (g : Rules) (s n h b j : ℕ) (cs : List Cell) (ws ws' : List ℕ) : Type
    0 where
  pub out : r ≡ false → Twinned g s n h b j cs
  pub stays : r ≡ false → TerminalsFilled g s n b j cs ws'
  pub past : Past (2 * pairs n) ws ws'
