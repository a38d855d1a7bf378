-- For inner functions: what the first walk over the lines finds.
use Rattle.std.specs.Prelude.{◌≡◌, List, [], ℕ, ◌+◌, ◌≤◌, max, length, Result, Ok, Err}
use Rattle.grammar.specs.declared.Grammar.{Grammar}
use Rattle.grammar.specs.Trees.{Rules}
use Rattle.grammar.specs.Content.{rules_of}
use Rattle.clauses.specs.Expansion.{past_expr, past_all, size, size_all}
use Rattle.clauses.specs.Clauses.{Expr, alternatives}
use Rattle.clauses.specs.Emission.{emit}
use Rattle.rule_output.specs.Emitting.{Emit, Adds}
use Rattle.clause_lines.specs.ClauseLines.{ClauseLine, Said, good, unwritten, deep, clause_line}
use Rattle.sheets.specs.declared.Fault.{Fault}
use Rattle.sheets.specs.Items.{accepted, items_from}
use Rattle.clause_sheets.specs.ClauseSheets.{clause_step, clauses_of}
use Rattle.clause_sheets.specs.Emitted.{emit_all}
use Rattle.fields.specs.Cursors.{pieces_from}

-- one past the largest nonterminal of a line
abbrev pub line_checked : Said ClauseLine → Result ℕ Fault
line_checked (good c) = Ok (max (c.left + 1) (past_expr c.expr))
line_checked unwritten = Err Fault.ClauseForm
line_checked deep = Err Fault.ClauseDeep

-- the same by the left, which is below `least`
abbrev pub expression_checked : ℕ → Said (Expr alternatives) → Result ℕ Fault
expression_checked least (good e) = Ok (max least (past_expr e))
expression_checked least unwritten = Err Fault.ClauseForm
expression_checked least deep = Err Fault.ClauseDeep

-- the first walk has come to a place
pub record Passing (s : List ℕ) (start n p at : ℕ) : Type 0 where
  pub low : at ≤ length s
  pub few : n ≤ at
  pub seen : List ClauseLine
  pub count : length seen ≡ n
  pub same : items_from clause_step [] (pieces_from 10 s start)
      ≡ items_from clause_step seen (pieces_from 10 s at)
  pub most : p ≡ past_all (clauses_of seen)

-- the rules of one line, where it is so written
pub record LineEmitted (line : List ℕ) (out r : Emit) : Type 0 where
  pub adds : (c : ClauseLine) → clause_line line ≡ good c
      → Adds out r (emit c.expr c.left out.next) (size c.expr)

-- the rules of all lines, where all are so written
pub record LinesEmitted (lines : List (List ℕ)) (out r : Emit) : Type 0 where
  pub adds : (l : List ClauseLine) → items_from clause_step [] lines ≡ accepted l
      → Adds out r (emit_all (clauses_of l) out.next) (size_all (clauses_of l))

-- the second walk has come to a place
pub record Emitting (s : List ℕ) (start : ℕ) (out r : Emit) (at : ℕ) : Type 0 where
  pub low : at ≤ length s
  pub adds : (l : List ClauseLine) → items_from clause_step [] (pieces_from 10 s start) ≡ accepted l
      → (seen : List ClauseLine) × (items_from clause_step seen (pieces_from 10 s at) ≡ accepted l)
      × Adds out r (emit_all (clauses_of seen) out.next) (size_all (clauses_of seen))

-- r has just these rules, where there is room for all
pub record RulesTaken (new : Rules) (r : Grammar) : Type 0 where
  pub count : length new ≤ 128 → r.count ≡ length new
  pub rules : length new ≤ 128 → rules_of r ≡ new
