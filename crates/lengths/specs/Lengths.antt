-- Which lengths a nonterminal can have when all marks are ignored: docs/FORMAT.md, "The sweep".
use Rattle.std.specs.Prelude.{◌≡◌, [], ◌∷◌, ℕ, length}
use Rattle.grammar.specs.declared.Rule.{Rule}
use Rattle.grammar.specs.declared.Clause.{Clause}
use Rattle.grammar.specs.declared.UnaryMark.TheVariants as UnaryMark
use Rattle.grammar.specs.declared.BinaryMark.TheVariants as BinaryMark
use Rattle.grammar.specs.Layout.{Word}
use Rattle.grammar.specs.Trees.{Rules, Derives}

-- a clause with its mark read as none
abbrev pub unmarked_clause : Clause → Clause
unmarked_clause Clause.Empty = Clause.Empty
unmarked_clause (Clause.Atom a b) = Clause.Atom a b
unmarked_clause (Clause.Unary B m) = Clause.Unary B UnaryMark.None
unmarked_clause (Clause.Binary B C m) = Clause.Binary B C BinaryMark.None

abbrev pub unmarked_rule : Rule → Rule
unmarked_rule r = record { left = r.left; clause = unmarked_clause r.clause }

-- the rules with every mark read as none
abbrev pub unmarked : Rules → Rules
unmarked [] = []
unmarked (r ∷ g) = unmarked_rule r ∷ unmarked g

-- A can have length n when all marks are ignored: under the rules so read it has a valid tree of
-- some word of n tokens
pub record CanHave (g : Rules) (A n : ℕ) : Type 0 where
  pub word : Word
  pub size : length word ≡ n
  pub derives : Derives (unmarked g) A word
