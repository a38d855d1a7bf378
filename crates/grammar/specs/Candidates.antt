-- Rising sequences, the sweep's candidates and their order: docs/FORMAT.md, "The token sheet" and
-- "The sweep".
use Rattle.std.specs.Prelude.{◌≡◌, List, [], ◌∷◌, ◌⊎◌, ℕ, ◌+◌, ◌≤◌, ◌<◌, length}
use Rattle.grammar.specs.declared.Token.{Token}
use Rattle.grammar.specs.declared.Cell.{Cell}
use Rattle.grammar.specs.Layout.{Word, line, col, width, past, Every}
use Rattle.grammar.specs.Trees.{Rules, HasAtom}

-- b comes after a: a later line, or the same line and a column at or past a's column plus width
abbrev pub After : Token → Token → Type 0
After a b = (line a < line b) ⊎ ((line a ≡ line b) × (past a ≤ col b))

-- each token comes after the one before, and the first after a
abbrev pub RisingFrom : Token → Word → Type 0
RisingFrom a [] = Unit {0}
RisingFrom a (b ∷ w) = After a b × RisingFrom b w

-- each token comes after the one before
abbrev pub Rising : Word → Type 0
Rising [] = Unit {0}
Rising (a ∷ w) = RisingFrom a w

-- each token has a width of 1 or more
abbrev pub Wide : Word → Type 0
Wide w = Every (λ t. 1 ≤ width t) w

-- a cell's token on line l; its width is 1
abbrev pub token : ℕ → Cell → Token
token l c = record {
  terminal = c.terminal;
  line = record { 0 = l };
  column = record
      { 0 = c.column };
  width = record { 0 = 1 };
}

-- the tokens of cells, the token before them being on line l: each line is the one before and the
-- line step
abbrev pub placed : ℕ → List Cell → Word
placed l [] = []
placed l (c ∷ cs) = token (l + c.step) c ∷ placed (l + c.step) cs

-- the sentence of cells: the first token, whose step is 0, is on line 1
abbrev pub sentence : List Cell → Word
sentence cs = placed 1 cs

-- a is one of the terminals that the sheet's A rules cover
abbrev pub Terminal : Rules → ℕ → Type 0
Terminal g a = (A : ℕ) × HasAtom g A a

-- a cell of an arrangement of length n: a terminal with Q, a line step of at most m, a column from
-- 1 to n
pub record Ranged (Q : ℕ → Type 0) (n m : ℕ) (c : Cell) : Type 0 where
  pub terminal : Q c.terminal
  pub step : c.step ≤ m
  pub low : 1 ≤ c.column
  pub high : c.column ≤ n

-- the first cell's step is at most m, and each next line 0, 1 or 2 further
abbrev pub Cells : (ℕ → Type 0) → ℕ → ℕ → List Cell → Type 0
Cells Q n m [] = Unit {0}
Cells Q n m (c ∷ cs) = Ranged Q n m c × Cells Q n 2 cs

-- an arrangement of length n over the terminals with Q, whether its positions rise or not
pub record Arrangement (Q : ℕ → Type 0) (n : ℕ) (cs : List Cell) : Type 0 where
  pub size : length cs ≡ n
  pub cells : Cells Q n 0 cs

-- a candidate of length n: an arrangement whose positions rise
pub record Candidate (Q : ℕ → Type 0) (n : ℕ) (cs : List Cell) : Type 0 where
  pub arranged : Arrangement Q n cs
  pub rising : Rising (sentence cs)

-- a token comes first by its terminal, then its line step, then its column, the lesser first
abbrev pub CellBefore : Cell → Cell → Type 0
CellBefore a b =
    (a.terminal < b.terminal)
    ⊎ ((a.terminal ≡ b.terminal) × (a.step < b.step))
    ⊎ ((a.terminal ≡ b.terminal) × (a.step ≡ b.step) × (a.column < b.column))

-- within a length, compare token by token
abbrev pub CellsBefore : List Cell → List Cell → Type 0
CellsBefore [] ds = ⊥
CellsBefore (c ∷ cs) [] = ⊥
CellsBefore (c ∷ cs) (d ∷ ds) = CellBefore c d ⊎ ((c ≡ d) × CellsBefore cs ds)

-- shorter ones come first
abbrev pub Earlier : List Cell → List Cell → Type 0
Earlier cs ds = (length cs < length ds) ⊎ ((length cs ≡ length ds) × CellsBefore cs ds)
