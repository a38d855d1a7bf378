-- `binding` meets its contract.
use mathlib.Core.Path.{◌≡◌, sym, ◌∙◌}
use Rattle.grammar.specs.declared.BinaryMark.{BinaryMark}
use Rattle.lexemes.specs.declared.Lexeme.TheVariants as Lexeme
use Rattle.clause_rules.proofs.binding.Goals as goal

same_join : {a m : BinaryMark} → Lexeme.Join a ≡ Lexeme.Join m → a ≡ m
same_join e = cc

pub returns-in-Join : goal.returns-in-Join
returns-in-Join c m e = same_join (sym c.in-Join.is ∙ e)

pub returns-in_default : goal.returns-in_default
returns-in_default c m e = absurd (c.in_default.not-Join m e)
