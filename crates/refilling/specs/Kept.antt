-- What is kept beside a span sheet that is filled more than once, from one filling to the next
-- (inner): from 0 on the table of chains, at 512 the places of the B rules, from 514 on the B
-- rules,
-- 4 words each, and from 1026 on the columns and rows of cuts, 128 words an end and 128 a start.
use Rattle.std.specs.Prelude.{◌≡◌, List, ℕ, ◌+◌, ◌-◌, ◌*◌, ◌≤◌, ◌<◌, length, get_or, take, drop}
use Rattle.grammar.specs.declared.Rule.{Rule}
use Rattle.grammar.specs.declared.Clause.{Clause}
use Rattle.grammar.specs.declared.BinaryMark.{BinaryMark}
use Rattle.grammar.specs.Trees.{Rules}
use Rattle.tables.specs.Tables.{One, Two, rule}
use Rattle.cuts.specs.declared.Pair.{Pair}
use Rattle.cuts.specs.Cuts.{WordsSay, Ends, Starts}
use Rattle.cuts.specs.Places.{IsBinary, PlacedAt}
use Rattle.chains.specs.Chains.{Chains}
use Rattle.chart.specs.Leaves.{EmptyPair}
use Rattle.filling.specs.Closing.{Begins}

-- where the words of the rule at i stand
abbrev pub rule_at_of : ℕ → ℕ
rule_at_of i = 514 + 4 * i

-- where the column of the end j does
abbrev pub column_at : ℕ → ℕ
column_at j = 1026 + 256 * j

-- where the rows of the start s do
abbrev pub row_at : ℕ → ℕ
row_at s = 1154 + 256 * s

-- how many words are kept for n tokens
abbrev pub kept_for : ℕ → ℕ
kept_for n = 1026 + 256 * (n + 1)

-- the number of a mark
abbrev pub mark_number : BinaryMark → ℕ
mark_number BinaryMark.None = 0
mark_number BinaryMark.Align = 1
mark_number BinaryMark.Indent = 2

-- the words from p on are those of a B rule: its left, both sides and its mark
abbrev pub ClauseWords : List ℕ → ℕ → Clause → Type 0
ClauseWords ws p Clause.Empty = ⊥
ClauseWords ws p (Clause.Atom a b) = ⊥
ClauseWords ws p (Clause.Unary B m) = ⊥
ClauseWords ws p (Clause.Binary B C m) =
    (get_or ws (p + 1) 0 ≡ B) × (get_or ws (p + 2) 0 ≡ C) × (get_or ws (p + 3) 0 ≡ mark_number m)

pub record RuleWords (ws : List ℕ) (p : ℕ) (r : Rule) : Type 0 where
  pub left : get_or ws p 0 ≡ r.left
  pub clause : ClauseWords ws p r.clause

-- the rows of the start s
abbrev pub start_rows : List ℕ → ℕ → List ℕ
start_rows kept s = take 128 (drop (row_at s) kept)

-- the kept words from such a place on that the column of the end j stands at 128 * j, as it does
-- among the columns of one filling
abbrev pub end_columns : List ℕ → ℕ → List ℕ
end_columns kept j = drop (1026 + 128 * j) kept

-- the table of chains
abbrev pub chains_of : List ℕ → List ℕ
chains_of kept = take 512 kept

-- the kept words have each B rule of g
pub record KeptRules (g : Rules) (kept : List ℕ) : Type 0 where
  pub size : 1026 ≤ length kept
  pub few : length g ≤ 128
  pub each : (i : ℕ) → i < length g → IsBinary (rule g i).clause
      → RuleWords kept (rule_at_of i) (rule g i)

-- they are made for the rules g
pub record Prepared (g : Rules) (kept : List ℕ) : Type 0 where
  pub empty : Pair
  pub right : EmptyPair g empty.one empty.two
  pub chains : Chains g empty (chains_of kept)
  pub low : PlacedAt g 0 64 (get_or kept 512 0)
  pub high : PlacedAt g 64 64 (get_or kept 513 0)
  pub rules : KeptRules g kept

-- rows and columns say of each span of the sheet ws of n tokens what has a tree, and what has two
pub record Mirror (ws : List ℕ) (n : ℕ) (kept : List ℕ) : Type 0 where
  pub long : kept_for n ≤ length kept
  pub row : (s : ℕ) → s < n → WordsSay kept (row_at s)
      (λ c A. Ends s (n + 1) c × One ws n s (c - s) A)
      (λ c A. Ends s (n + 1) c × Two ws n s (c - s) A)
  pub column : (j : ℕ) → j ≤ n → WordsSay kept (column_at j)
      (λ c A. Starts 0 j c × One ws n c (j - c) A) (λ c A. Starts 0 j c × Two ws n c (j - c) A)

-- the kept words go with the sheet
pub record Mirrored (g : Rules) (n : ℕ) (ws kept : List ℕ) : Type 0 where
  pub prepared : Prepared g kept
  pub mirror : Mirror ws n kept

-- so does the table of chains with the pair of the empty word that stands in the sheet
pub record Suits (g : Rules) (ws kept : List ℕ) : Type 0 where
  pub empty : Pair
  pub begins : Begins ws empty
  pub chains : Chains g empty (chains_of kept)
