-- The table of chains: for each level of a span and each nonterminal what follows over such a span
-- from that one alone (inner).
use Rattle.std.specs.Prelude.{◌≡◌, List, ◌↔◌, ℕ, ◌+◌, ◌*◌, ◌≤◌, ◌<◌, length, get_or}
use Rattle.grammar.specs.declared.Clause.{Clause}
use Rattle.grammar.specs.declared.UnaryMark.{UnaryMark}
use Rattle.grammar.specs.Trees.{Rules}
use Rattle.marks.specs.declared.SpanMarks.{SpanMarks}
use Rattle.marks.specs.Marked.{UnaryBy}
use Rattle.tables.specs.Tables.{rule}
use Rattle.cuts.specs.declared.Pair.{Pair}
use Rattle.cuts.specs.Cuts.{words_of_of}
use Rattle.cuts.specs.Closure.{ChainEntry}
use Rattle.chains.specs.SpanLinks.{span_links}

-- the least level of a span at which a mark holds: 3 all of its tokens on one line, 2 offside, 1
-- offalign, 0 any
abbrev pub rank : UnaryMark → ℕ
rank UnaryMark.None = 0
rank UnaryMark.Offalign = 1
rank UnaryMark.Offside = 2
rank UnaryMark.Single = 3

-- the marks that hold at the level l
abbrev pub HoldsAt : ℕ → UnaryMark → Type 0
HoldsAt l m = rank m ≤ l

-- l is the level of a span with the marks k, of which single has offside with it
pub record Leveled (k : SpanMarks) (l : ℕ) : Type 0 where
  pub small : l < 4
  pub holds : (UnaryBy k UnaryMark.Single → UnaryBy k UnaryMark.Offside) → (m : UnaryMark)
      → HoldsAt l m ↔ UnaryBy k m

-- the words are the entries of the level l
pub record Level (g : Rules) (e : Pair) (l : ℕ) (ups : List ℕ) : Type 0 where
  pub size : length ups ≡ 128
  pub entry : (B : ℕ) → B < 64 → ChainEntry (span_links g (HoldsAt l) e.one e.two) B
      (words_of_of ups 0 B)

-- the table has the entries of the levels below l; e is the pair of the empty word
pub record Upto (g : Rules) (e : Pair) (table : List ℕ) (l : ℕ) : Type 0 where
  pub size : length table ≡ 512
  pub entry : (i B : ℕ) → i < l → B < 64
      → ChainEntry (span_links g (HoldsAt i) e.one e.two) B (words_of_of table (128 * i) B)

-- all of them
pub record Chains (g : Rules) (e : Pair) (table : List ℕ) : Type 0 where
  pub size : length table ≡ 512
  pub entry : (i B : ℕ) → i < 4 → B < 64
      → ChainEntry (span_links g (HoldsAt i) e.one e.two) B (words_of_of table (128 * i) B)

-- a clause is unary, and l is the least level at which its mark holds
abbrev pub Ranked : ℕ → Clause → Type 0
Ranked l Clause.Empty = ⊥
Ranked l (Clause.Atom a b) = ⊥
Ranked l (Clause.Unary C m) = rank m ≡ l
Ranked l (Clause.Binary C D m) = ⊥

-- none of the first m rules is so
pub record Unranked (l : ℕ) (g : Rules) (m : ℕ) : Type 0 where
  pub absent : (i : ℕ) → i < m → Ranked l (rule g i).clause → ⊥

-- the first m words of the level l are those of ups; those of the levels below are as they were
pub record Stored (ups ws ws' : List ℕ) (l m : ℕ) : Type 0 where
  pub size : length ws' ≡ length ws
  pub here : (i : ℕ) → i < m → get_or ws' (128 * l + i) 0 ≡ get_or ups i 0
  pub else : (q : ℕ) → q < 128 * l → get_or ws' q 0 ≡ get_or ws q 0

-- the first m words of the level l stand at the level past it too; those before are as they were
pub record Copied (ws ws' : List ℕ) (l m : ℕ) : Type 0 where
  pub size : length ws' ≡ length ws
  pub here : (i : ℕ) → i < m → get_or ws' (128 * l + i + 128) 0 ≡ get_or ws (128 * l + i) 0
  pub else : (q : ℕ) → q < 128 * l + 128 → get_or ws' q 0 ≡ get_or ws q 0
