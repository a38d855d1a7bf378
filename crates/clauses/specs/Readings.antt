-- The readings of a sentence under the clauses, defined without the expansion. docs/FORMAT.md, "The
-- clause sheet".
use Rattle.std.specs.Prelude.{◌≡◌, [], ◌∷◌, ◌++◌, ℕ}
use Rattle.grammar.specs.declared.Token.{Token}
use Rattle.grammar.specs.declared.UnaryMark.{UnaryMark}
use Rattle.grammar.specs.declared.BinaryMark.{BinaryMark}
use Rattle.grammar.specs.Layout.{Word}
use Rattle.grammar.specs.Layout as Mark
use Rattle.clauses.specs.Clauses.{Sort, item, made, alternatives, AtLeast, from_one}
use Rattle.clauses.specs.Clauses.{from_zero, Expr, nonterminal, a_part, terminal, group, mark}
use Rattle.clauses.specs.Clauses.{pair, optional, repeated, only, or, Clauses, a_line}

-- a line of the sheet, with its left and its alternatives
pub data ClausePlace : Clauses → Type 0 where
  here : {A : ℕ} {e : Expr alternatives} {c : Clauses} → ClausePlace (a_line A e c)
  later : {A : ℕ} {e : Expr alternatives} {c : Clauses} → ClausePlace c → ClausePlace (a_line A e c)

abbrev pub left : {c : Clauses} → ClausePlace c → ℕ
left (here {A = A}) = A
left (later p) = left p

abbrev pub right : {c : Clauses} → ClausePlace c → Expr alternatives
right (here {e = e}) = e
right (later p) = right p

-- What someone who reads a part of a sentence by an expression decides: a line for a nonterminal,
-- one of the alternatives, the items of a sequence, whether an optional item is there, and which
-- items a repeat has. A repeat is read item after item: what was read so far, and one more.
pub data ClauseReading (c : Clauses) : (s : Sort) → Expr s → Type 0 where
  clause : {A : ℕ} (p : ClausePlace c) → left p ≡ A → ClauseReading c alternatives (right p)
      → ClauseReading c item (nonterminal A)
  itself : {e : Expr made} → ClauseReading c made e → ClauseReading c item (a_part e)
  a_token : {a : ℕ} (t : Token) → t.terminal ≡ a → ClauseReading c made (terminal a)
  within : {e : Expr alternatives} → ClauseReading c alternatives e → ClauseReading c made (group e)
  marked : {m : UnaryMark} {e : Expr item} → ClauseReading c item e
      → ClauseReading c made (mark m e)
  both : {m : BinaryMark} {e f : Expr item} → ClauseReading c item e → ClauseReading c item f
      → ClauseReading c made (pair m e f)
  present : {e : Expr item} → ClauseReading c item e → ClauseReading c made (optional e)
  absent : {e : Expr item} → ClauseReading c made (optional e)
  nothing : {m : BinaryMark} {e : Expr item} → ClauseReading c made (repeated from_zero m e)
  first : {m : BinaryMark} {e : Expr item} → ClauseReading c item e
      → ClauseReading c made (repeated from_one m e)
  more : {q : AtLeast} {m : BinaryMark} {e : Expr item} → ClauseReading c made (repeated q m e)
      → ClauseReading c item e → ClauseReading c made (repeated q m e)
  sole : {e : Expr made} → ClauseReading c made e → ClauseReading c alternatives (only e)
  this : {e : Expr made} {f : Expr alternatives} → ClauseReading c made e
      → ClauseReading c alternatives (or e f)
  other : {e : Expr made} {f : Expr alternatives} → ClauseReading c alternatives f
      → ClauseReading c alternatives (or e f)

-- the tokens read
abbrev pub spells : {c : Clauses} {s : Sort} {e : Expr s} → ClauseReading c s e → Word
spells (clause p h r) = spells r
spells (itself r) = spells r
spells (a_token t h) = t ∷ []
spells (within r) = spells r
spells (marked r) = spells r
spells (both r s) = spells r ++ spells s
spells (present r) = spells r
spells absent = []
spells nothing = []
spells (first r) = spells r
spells (more r s) = spells r ++ spells s
spells (sole r) = spells r
spells (this r) = spells r
spells (other r) = spells r

-- the marks hold of the words read
abbrev pub MarksKept : {c : Clauses} {s : Sort} {e : Expr s} → ClauseReading c s e → Type 0
MarksKept (clause p h r) = MarksKept r
MarksKept (itself r) = MarksKept r
MarksKept (a_token t h) = Unit {0}
MarksKept (within r) = MarksKept r
MarksKept (marked {m = m} r) = Mark.Unary m (spells r) × MarksKept r
MarksKept (both {m = m} r s) = Mark.Binary m (spells r) (spells s) × (MarksKept r × MarksKept s)
MarksKept (present r) = MarksKept r
MarksKept absent = Unit {0}
MarksKept nothing = Unit {0}
MarksKept (first r) = MarksKept r
MarksKept (more {m = m} r s) = Mark.Binary m (spells r) (spells s) × (MarksKept r × MarksKept s)
MarksKept (sole r) = MarksKept r
MarksKept (this r) = MarksKept r
MarksKept (other r) = MarksKept r

-- r is a reading of w as the nonterminal A
pub record Reads (c : Clauses) (A : ℕ) (w : Word) (r : ClauseReading c item (nonterminal A)) : Type
    0 where
  pub spelled : spells r ≡ w
  pub kept : MarksKept r

-- w has no reading as L, just one, or more than one
abbrev pub NoReading : Clauses → ℕ → Word → Type 0
NoReading c L w = (r : ClauseReading c item (nonterminal L)) → Reads c L w r → ⊥

pub record OneReading (c : Clauses) (L : ℕ) (w : Word) : Type 0 where
  pub reading : ClauseReading c item (nonterminal L)
  pub reads : Reads c L w reading
  pub only_one : (r : ClauseReading c item (nonterminal L)) → Reads c L w r → r ≡ reading

pub record TwoReadings (c : Clauses) (L : ℕ) (w : Word) : Type 0 where
  pub first_one : ClauseReading c item (nonterminal L)
  pub second_one : ClauseReading c item (nonterminal L)
  pub reads₁ : Reads c L w first_one
  pub reads₂ : Reads c L w second_one
  pub differ : first_one ≡ second_one → ⊥
