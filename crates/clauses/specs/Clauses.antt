-- Clauses as people write them: expressions and clause sheets. docs/FORMAT.md, "The clause sheet".
use Rattle.std.specs.Prelude.{ℕ}
use Rattle.grammar.specs.declared.UnaryMark.{UnaryMark}
use Rattle.grammar.specs.declared.BinaryMark.{BinaryMark}

-- a group holds alternatives, an alternative holds items, and an item may be a group again.
-- `item`: an `n` item, which stands for itself, or a made part; `made`: a part that gets a
-- nonterminal of its own when the sheet is expanded; `alternatives`: one alternative or more, each
-- a made part
pub data Sort : Type 0 where
  item made alternatives : Sort

-- `+` repeats from one on, `*` from zero on
pub data AtLeast : Type 0 where
  from_one from_zero : AtLeast

pub data Expr : Sort → Type 0 where
  -- n4
  nonterminal : ℕ → Expr item
  -- any other item, and a rest of two or more items
  a_part : Expr made → Expr item
  -- t2
  terminal : ℕ → Expr made
  -- (a | b)
  group : Expr alternatives → Expr made
  -- a group with a mark behind it; with the mark none, an alternative of a single item
  mark : UnaryMark → Expr item → Expr made
  -- an alternative or a rest of two or more items: its first item, what binds it, and all that
  -- follows it in the sequence
  pair : BinaryMark → Expr item → Expr item → Expr made
  -- an item with `?` behind it
  optional : Expr item → Expr made
  -- an item with `+` or `*` behind it, or, with align, `+:align` or `*:align`
  repeated : AtLeast → BinaryMark → Expr item → Expr made
  -- the last alternative, and one that others follow
  only : Expr made → Expr alternatives
  or : Expr made → Expr alternatives → Expr alternatives

-- a clause sheet: each line gives a nonterminal, its left, and an expression; several lines may
-- have one left
pub data Clauses : Type 0 where
  no_line : Clauses
  a_line : ℕ → Expr alternatives → Clauses → Clauses
