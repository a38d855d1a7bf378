-- Tables of (span, nonterminal), and the rules that stand over a span by such a table (inner: what
-- a pass over a span computes).
use Rattle.std.specs.Prelude.{◌≡◌, List, ◌⊎◌, ℕ, ◌+◌, ◌-◌, ◌*◌, ◌≤◌, ◌<◌, length, get_or}
use Rattle.sets.specs.Sets.{In}
use Rattle.grammar.specs.declared.Rule.{Rule}
use Rattle.grammar.specs.declared.Clause.{Clause}
use Rattle.grammar.specs.declared.UnaryMark.{UnaryMark}
use Rattle.grammar.specs.declared.BinaryMark.{BinaryMark}
use Rattle.grammar.specs.Trees.{Rules}
use Rattle.grammar.specs.Choices.{Same}
use Rattle.grammar.specs.SpanSheet.{pairs, first_word, second_word}
use Rattle.marks.specs.declared.SpanMarks.{SpanMarks}
use Rattle.marks.specs.Half.{Half, MayBe, MayKeep, MayPair}
use Rattle.marks.specs.Marked.{AtomBy, UnaryBy, BinaryBy}

-- what stands past the last rule
abbrev pub no_rule : Rule
no_rule = record { left = 0; clause = Clause.Empty }

-- the rule at place i, counted from 0
abbrev pub rule : Rules → ℕ → Rule
rule g i = get_or g i no_rule

-- which nonterminals a span has: start, length, nonterminal
abbrev pub Table : Type 1
Table = ℕ → ℕ → ℕ → Type 0

-- the tables of the first and of the second words of a span sheet of n tokens
abbrev pub One : List ℕ → ℕ → Table
One ws n s len A = In (first_word ws n s len) A

abbrev pub Two : List ℕ → ℕ → Table
Two ws n s len A = In (second_word ws n s len) A

-- the span of len tokens from s on lies among n tokens, and the words are enough for their span
-- sheet
pub record Room (ws : List ℕ) (n s len : ℕ) : Type 0 where
  pub few : n ≤ 64
  pub fits : s + len ≤ n
  pub enough : 2 * pairs n ≤ length ws

-- what the tokens of a span leave to a clause: to the terminals from a to b, to a unary mark, to a
-- binary mark with l tokens on its left
pub record Leave : Type 1 where
  pub atom : ℕ → ℕ → Type 0
  pub unary : UnaryMark → Type 0
  pub binary : BinaryMark → ℕ → Type 0

-- by the definitions, of the span of len tokens from s on
abbrev pub by_tokens : Half → ℕ → ℕ → Leave
by_tokens h s len = record {
  atom = λ a b. MayBe h s a b;
  unary = λ m. MayKeep m h s len;
  binary =
      λ m l. MayPair m h s l (len - l);
}

-- by the marks that were worked out
abbrev pub by_marks : SpanMarks → ℕ → Leave
by_marks k len = record {
  atom = λ a b. AtomBy k a b;
  unary = λ m. UnaryBy k m;
  binary = λ m l.
      BinaryBy k len m l;
}

-- a clause fits the span of len tokens from s on, its left word l tokens long (0 where there is
-- none)
abbrev pub Fits : Table → Leave → ℕ → ℕ → Clause → ℕ → Type 0
Fits one v s len Clause.Empty l = (len ≡ 0) × (l ≡ 0)
Fits one v s len (Clause.Atom a b) l = (len ≡ 1) × (l ≡ 0) × v.atom a b
Fits one v s len (Clause.Unary B m) l = one s len B × v.unary m × (l ≡ 0)
Fits one v s len (Clause.Binary B C m) l =
    (l ≤ len) × one s l B × one (s + l) (len - l) C × v.binary m l

-- the longest left word that a clause can have over len tokens
abbrev pub lefts : Clause → ℕ → ℕ
lefts Clause.Empty len = 0
lefts (Clause.Atom a b) len = 0
lefts (Clause.Unary B m) len = 0
lefts (Clause.Binary B C m) len = len

-- the rule at i stands over the span for A, with l tokens on its left
pub record Stand (one : Table) (g : Rules) (v : Leave) (s len A i l : ℕ) : Type 0 where
  pub within : i < length g
  pub left : (rule g i).left ≡ A
  pub fits : Fits one v s len (rule g i).clause l

-- a word below a clause is in the table two
abbrev pub Below : Table → ℕ → ℕ → Clause → ℕ → Type 0
Below two s len Clause.Empty l = ⊥
Below two s len (Clause.Atom a b) l = ⊥
Below two s len (Clause.Unary B m) l = two s len B
Below two s len (Clause.Binary B C m) l = two s l B ⊎ two (s + l) (len - l) C

-- two rules stand over the span, or one with a word below that has two trees
pub data Again (one two : Table) (g : Rules) (v : Leave) (s len A : ℕ) : Type 0 where
  apart : (i l j k : ℕ) → Stand one g v s len A i l → Stand one g v s len A j k → (Same i l j k → ⊥)
      → Again one two g v s len A
  below : (i l : ℕ) → Stand one g v s len A i l → Below two s len (rule g i).clause l
      → Again one two g v s len A
