-- `lexeme_at` meets its contract.
use mathlib.Core.Path.{sym, ap, subst, ◌∙◌}
use native.Mathlib.Omega.{arith}
use Rattle.std.specs.Prelude.{Option, unwrap_or}
use Rattle.lexemes.specs.declared.Lexeme.{Lexeme}
use Rattle.lexemes.specs.declared.Lexed.{Lexed}
use Rattle.lexemes.specs.Answers.{Lexes}
use Rattle.lexemes.proofs.Laws.{found_tells, lexed_or}
use Rattle.lexemes.proofs.lexeme_at.Goals as goal

pub returns : goal.returns
returns c =
    let a = c.args in
    subst (λ (r : Lexed). Lexes a.s.now a.at r)
    (sym (c.unwrap_or.ensures
    ∙ ap (λ (o : Option Lexed). unwrap_or o (record { lexeme = Lexeme.Not; end = a.at }))
    c.sign_at.ensures ∙ lexed_or a.at _))
    (found_tells a.s.now a.at (omega (arith, c.if-at-s.false)))
