-- `word_of` meets its contract, clause by clause.
use mathlib.Core.Path.{◌≡◌, sym, ◌∙◌}
use Rattle.grammar.specs.declared.Rule.{Rule}
use Rattle.grammar.specs.declared.Clause.{Clause}
use Rattle.rule_words.specs.Words.{clause_of_of}
use Rattle.rule_words.proofs.word_of.Goals as goal

-- a rule by its left and what its clause is
as_said : (r : Rule) (k : Clause) → r.clause ≡ k → record { left = r.left; clause = k } ≡ r
as_said r k e i = record { left = r.left; clause = sym e i }

pub returns-in-Empty : goal.returns-in-Empty
unfolding clause_of_of
returns-in-Empty c = c.joined.ensures ∙ as_said _ _ c.in-Empty.is

pub returns-in-Atom : goal.returns-in-Atom
unfolding clause_of_of
returns-in-Atom c = c.joined-in-Atom.ensures ∙ as_said _ _ c.in-Atom.is

pub returns-in-Unary : goal.returns-in-Unary
returns-in-Unary c =
    c.joined-in-Unary.ensures ∙ as_said _ _
    (c.in-Unary.is ∙ sym (c.unary_kind.ensures _ _))

pub returns-in-Binary : goal.returns-in-Binary
returns-in-Binary c =
    c.joined-in-Binary.ensures ∙ as_said _ _
    (c.in-Binary.is ∙ sym (c.binary_kind.ensures _ _))
