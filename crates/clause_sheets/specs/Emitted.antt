-- For inner functions: the rules of a sheet as its lines are read, and how they are put in order.
use Rattle.std.specs.Prelude.{[], ◌++◌, ℕ, ◌+◌}
use Rattle.grammar.specs.Trees.{Rules}
use Rattle.clauses.specs.Clauses as C
use Rattle.clauses.specs.Clauses.{Clauses, a_line}
use Rattle.clauses.specs.Expansion.{size}
use Rattle.clauses.specs.Emission.{emit}

-- the first new nonterminal is n
abbrev pub emit_all : Clauses → ℕ → Rules
emit_all C.no_line n = []
emit_all (a_line l e c) n = emit e l n ++ emit_all c (n + size e)
