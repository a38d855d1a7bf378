-- How expressions are written, by lexemes, and how deep groups are nested. docs/FORMAT.md, "The
-- clause sheet".
use Rattle.std.specs.Prelude.{List, [], ◌∷◌, ◌++◌, ℕ, suc, max}
use Rattle.grammar.specs.declared.UnaryMark.{UnaryMark}
use Rattle.grammar.specs.declared.BinaryMark.{BinaryMark}
use Rattle.clauses.specs.Clauses.{Sort, item, made, alternatives, AtLeast, Expr, nonterminal}
use Rattle.clauses.specs.Clauses.{a_part, terminal, group, mark, pair, optional, repeated}
use Rattle.clauses.specs.Clauses.{only, or}

-- what may stand after an item: ?, + * +:align *:align, and after a group :offside :offalign
-- :single
pub data Suffix : Type 0 where
  maybe : Suffix
  repeats : AtLeast → BinaryMark → Suffix
  marks : UnaryMark → Suffix

-- n4, t2, (, ), ` | `, what stands after an item, and what stands between two: a blank, or :align:
-- or :indent: with a blank on either side
pub data Lex : Type 0 where
  n t : ℕ → Lex
  opening closing bar : Lex
  suffix : Suffix → Lex
  join : BinaryMark → Lex

-- what is written: an item without what stands after it, an item, the items of a sequence from one
-- on, an alternative, alternatives
pub data Phrase : Type 0 where
  an_atom an_item a_row : Expr item → Phrase
  one : Expr made → Phrase
  many : Expr alternatives → Phrase

-- a part is written so; nothing is empty
pub data WrittenAs : Phrase → List Lex → Type 0 where
  -- an item is `n4`, `t2` or a group in parentheses
  nonterminal_text : {a : ℕ} → WrittenAs (an_atom (nonterminal a)) (n a ∷ [])
  terminal_text : {a : ℕ} → WrittenAs (an_atom (a_part (terminal a))) (t a ∷ [])
  group_text : {e : Expr alternatives} {l : List Lex} → WrittenAs (many e) l
      → WrittenAs (an_atom (a_part (group e))) (opening ∷ (l ++ (closing ∷ [])))
  -- after an item may stand one of ?, +, *, +:align, *:align or, after a group, :offside,
  -- :offalign, :single
  bare_text : {e : Expr item} {l : List Lex} → WrittenAs (an_atom e) l → WrittenAs (an_item e) l
  optional_text : {e : Expr item} {l : List Lex} → WrittenAs (an_atom e) l
      → WrittenAs (an_item (a_part (optional e))) (l ++ (suffix maybe ∷ []))
  repeated_text : {q : AtLeast} {m : BinaryMark} {e : Expr item} {l : List Lex}
      → WrittenAs (an_atom e) l
      → WrittenAs (an_item (a_part (repeated q m e))) (l ++ (suffix (repeats q m) ∷ []))
  marked_text : {m : UnaryMark} {e : Expr alternatives} {l : List Lex}
      → WrittenAs (an_atom (a_part (group e))) l
      → WrittenAs (an_item (a_part (mark m (a_part (group e))))) (l ++ (suffix (marks m) ∷ []))
  -- items follow one another with one blank, or with :align: or :indent: between them, which binds
  -- the left one to all that follows it
  last_text : {e : Expr item} {l : List Lex} → WrittenAs (an_item e) l → WrittenAs (a_row e) l
  then_text : {m : BinaryMark} {e f : Expr item} {k l : List Lex} → WrittenAs (an_item e) k
      → WrittenAs (a_row f) l → WrittenAs (a_row (a_part (pair m e f))) (k ++ (join m ∷ l))
  -- an alternative holds one item, or several
  single_text : {e : Expr item} {l : List Lex} → WrittenAs (an_item e) l
      → WrittenAs (one (mark UnaryMark.None e)) l
  several_text : {m : BinaryMark} {e f : Expr item} {k l : List Lex} → WrittenAs (an_item e) k
      → WrittenAs (a_row f) l → WrittenAs (one (pair m e f)) (k ++ (join m ∷ l))
  -- alternatives are parted by ` | `
  only_text : {e : Expr made} {l : List Lex} → WrittenAs (one e) l → WrittenAs (many (only e)) l
  or_text : {e : Expr made} {f : Expr alternatives} {k l : List Lex} → WrittenAs (one e) k
      → WrittenAs (many f) l → WrittenAs (many (or e f)) (k ++ (bar ∷ l))

-- how many levels of groups an expression has
abbrev pub depth : {s : Sort} → Expr s → ℕ
depth (nonterminal a) = 0
depth (a_part e) = depth e
depth (terminal a) = 0
depth (group e) = suc (depth e)
depth (mark m e) = depth e
depth (pair m e f) = max (depth e) (depth f)
depth (optional e) = depth e
depth (repeated q m e) = depth e
depth (only e) = depth e
depth (or e f) = max (depth e) (depth f)

-- lexemes say an expression if one is written so
pub record IsExpression (l : List Lex) : Type 0 where
  pub expr : Expr alternatives
  pub written : WrittenAs (many expr) l
