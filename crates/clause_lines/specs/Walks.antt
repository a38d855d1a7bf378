-- For inner functions: the flat walk over an expression's lexemes.
use Rattle.std.specs.Prelude.{ℕ, ◌+◌, ◌-◌, max, List, Bool, true, false, cond, not, ◌&&◌, ◌||◌}
use Rattle.std.specs.Prelude.{drop, leb, eqb}
use Rattle.std.specs.Prelude.{Option, None, Some}
use Rattle.clauses.specs.Expansion.{past_expr}
use Rattle.clauses.specs.Clauses.{Expr, alternatives}
use Rattle.clauses.specs.Text.{Lex}
use Rattle.clauses.specs.Flat as F
use Rattle.lexemes.specs.declared.Lexeme.{Lexeme}
use Rattle.lexemes.specs.Lexemes.{lexemes}
use Rattle.clause_lines.specs.declared.State.{State}
use Rattle.clause_lines.specs.declared.Walk.{Walk}
use Rattle.std.specs.Prelude.{Result, Ok, Err}
use Rattle.clause_lines.specs.declared.ExpressionFault.{ExpressionFault}
use Rattle.clause_lines.specs.ClauseLines.{Said, good, unwritten, deep}

abbrev pub state_of : State → F.State
state_of State.Due = F.due
state_of State.Plain = F.plain
state_of State.Grouped = F.grouped
state_of State.Suffixed = F.suffixed

abbrev pub is_due_of : State → Bool
is_due_of State.Due = true
is_due_of State.Plain = false
is_due_of State.Grouped = false
is_due_of State.Suffixed = false

-- ? and the like may stand after n, t and a group, :offside and the like after a group
abbrev pub takes_repeat : State → Bool
takes_repeat State.Due = false
takes_repeat State.Plain = true
takes_repeat State.Grouped = true
takes_repeat State.Suffixed = false

abbrev pub takes_mark : State → Bool
takes_mark State.Due = false
takes_mark State.Plain = false
takes_mark State.Grouped = true
takes_mark State.Suffixed = false

abbrev pub is_end : Lexeme → Bool
is_end Lexeme.End = true
is_end (Lexeme.Nonterminal a) = false
is_end (Lexeme.Terminal a) = false
is_end Lexeme.Open = false
is_end Lexeme.Close = false
is_end Lexeme.Bar = false
is_end (Lexeme.Join m) = false
is_end Lexeme.Maybe = false
is_end (Lexeme.Plus m) = false
is_end (Lexeme.Star m) = false
is_end (Lexeme.Marked m) = false
is_end Lexeme.Not = false

-- may the lexeme stand here, with so many parentheses open?
abbrev pub may : State → ℕ → Lexeme → Bool
may s d (Lexeme.Nonterminal a) = is_due_of s
may s d (Lexeme.Terminal a) = is_due_of s
may s d Lexeme.Open = is_due_of s
may s d Lexeme.Close = not (eqb d 0) && not (is_due_of s)
may s d Lexeme.Bar = not (is_due_of s)
may s d (Lexeme.Join m) = not (is_due_of s)
may s d Lexeme.Maybe = takes_repeat s
may s d (Lexeme.Plus m) = takes_repeat s
may s d (Lexeme.Star m) = takes_repeat s
may s d (Lexeme.Marked m) = takes_mark s
may s d Lexeme.End = false
may s d Lexeme.Not = false

-- what stands just before, once the lexeme is passed
abbrev pub state_after : Lexeme → State
state_after (Lexeme.Nonterminal a) = State.Plain
state_after (Lexeme.Terminal a) = State.Plain
state_after Lexeme.Open = State.Due
state_after Lexeme.Close = State.Grouped
state_after Lexeme.Bar = State.Due
state_after (Lexeme.Join m) = State.Due
state_after Lexeme.Maybe = State.Suffixed
state_after (Lexeme.Plus m) = State.Suffixed
state_after (Lexeme.Star m) = State.Suffixed
state_after (Lexeme.Marked m) = State.Suffixed
state_after Lexeme.End = State.Due
state_after Lexeme.Not = State.Due

-- the walk behind a lexeme that ends at e
abbrev pub stepped : Walk → Lexeme → ℕ → Walk
stepped w (Lexeme.Nonterminal a) e = record
    { at = e; state = State.Plain; deep = w.deep; over = w.over; past = max w.past (a + 1) }
stepped w (Lexeme.Terminal a) e =
    record { at = e; state = State.Plain; deep = w.deep; over = w.over; past = w.past }
stepped w Lexeme.Open e = record {
  at = e;
  state = State.Due;
  deep = w.deep + 1;
  over = w.over || leb 16 w.deep;
  past = w.past;
}
stepped w Lexeme.Close e =
    record { at = e; state = State.Grouped; deep = w.deep - 1; over = w.over; past = w.past }
stepped w Lexeme.Bar e =
    record { at = e; state = State.Due; deep = w.deep; over = w.over; past = w.past }
stepped w (Lexeme.Join m) e =
    record { at = e; state = State.Due; deep = w.deep; over = w.over; past = w.past }
stepped w Lexeme.Maybe e =
    record { at = e; state = State.Suffixed; deep = w.deep; over = w.over; past = w.past }
stepped w (Lexeme.Plus m) e =
    record { at = e; state = State.Suffixed; deep = w.deep; over = w.over; past = w.past }
stepped w (Lexeme.Star m) e =
    record { at = e; state = State.Suffixed; deep = w.deep; over = w.over; past = w.past }
stepped w (Lexeme.Marked m) e =
    record { at = e; state = State.Suffixed; deep = w.deep; over = w.over; past = w.past }
stepped w Lexeme.End e =
    record { at = e; state = State.Due; deep = w.deep; over = w.over; past = w.past }
stepped w Lexeme.Not e =
    record { at = e; state = State.Due; deep = w.deep; over = w.over; past = w.past }

-- the answer from lexemes on that are still to come
abbrev pub answer : Option (List Lex) → F.State → ℕ → Bool → ℕ → Result ℕ ExpressionFault
answer None s d b p = Err ExpressionFault.Unwritten
answer (Some l) s d b p = cond (F.run l s d)
    (cond (not b && F.shallow 16 l d) (Ok (max p (F.past_lexes l))) (Err ExpressionFault.Deep))
    (Err ExpressionFault.Unwritten)

abbrev pub answer_at : List ℕ → Walk → Result ℕ ExpressionFault
answer_at s w = answer (lexemes (drop w.at s)) (state_of w.state) w.deep w.over w.past

-- at the end
abbrev pub closing : Walk → Result ℕ ExpressionFault
closing w = cond (not (is_due_of w.state) && eqb w.deep 0)
    (cond w.over (Err ExpressionFault.Deep) (Ok w.past)) (Err ExpressionFault.Unwritten)

-- what an expression says, and one past its largest nonterminal
abbrev pub checked_of : Said (Expr alternatives) → Result ℕ ExpressionFault
checked_of (good e) = Ok (past_expr e)
checked_of unwritten = Err ExpressionFault.Unwritten
checked_of deep = Err ExpressionFault.Deep

-- where the walk begins
abbrev pub begun : Walk
begun = record { at = 0; state = State.Due; deep = 0; over = false; past = 0 }
