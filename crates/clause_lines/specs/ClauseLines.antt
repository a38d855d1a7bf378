-- What a clause line says: a left and an expression, or 41, or 42. docs/FORMAT.md, "The clause
-- sheet".
use Rattle.std.specs.Prelude.{ℕ, ◌+◌, List, cond, length, drop, leb}
use Rattle.std.specs.Prelude.{Option, None, Some}
use Rattle.fields.specs.Pieces.{before}
use Rattle.fields.specs.Words.{numeral_of}
use Rattle.clauses.specs.Clauses.{Expr, alternatives}
use Rattle.clauses.specs.Text.{Lex, IsExpression, depth}
use Rattle.clauses.proofs.Deciding.{says?}
use Rattle.lexemes.specs.Lexemes.{lexemes}

-- a line's left and its expression
pub record ClauseLine : Type 0 where
  pub left : ℕ
  pub expr : Expr alternatives

-- 41: not so written, depth aside; 42: nested deeper than sixteen
pub data Said (A : Type 0) : Type 0 where
  good : A → Said A
  unwritten : Said A
  deep : Said A

-- the expression that lexemes say, by the decision whether they say one
abbrev pub shallow_only : {l : List Lex} → Dec (IsExpression l) → Said (Expr alternatives)
shallow_only (yes s) = cond (leb (depth s.expr) 16) (good s.expr) deep
shallow_only (no n) = unwritten

abbrev pub lexemes_say : Option (List Lex) → Said (Expr alternatives)
lexemes_say (Some l) = shallow_only (says? l)
lexemes_say None = unwritten

-- an expression's bytes
abbrev pub expression : List ℕ → Said (Expr alternatives)
expression s = lexemes_say (lexemes s)

abbrev pub with_left : ℕ → Said (Expr alternatives) → Said ClauseLine
with_left l (good e) = good (record { left = l; expr = e })
with_left l unwritten = unwritten
with_left l deep = deep

-- a nonterminal number 0 to 63 as in rule sheets
abbrev pub left_says : Option ℕ → Said (Expr alternatives) → Said ClauseLine
left_says (Some l) e = cond (leb l 63) (with_left l e) unwritten
left_says None e = unwritten

-- a nonterminal number, a blank, and an expression; the line's bytes without its byte 10
abbrev pub clause_line : List ℕ → Said ClauseLine
clause_line line =
    left_says (numeral_of (before 32 line)) (expression (drop (length (before 32 line) + 1) line))
