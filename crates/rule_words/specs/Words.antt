-- For inner functions: a rule as a word. Its bytes, from the lowest: the left, the kind with the
-- mark, the first and the second number.
use Rattle.std.specs.Prelude.{List, [], ◌∷◌, ℕ, ◌/◌, ◌%◌, get_or}
use Rattle.grammar.specs.declared.Rule.{Rule}
use Rattle.grammar.specs.declared.UnaryMark.TheVariants as UnaryMark
use Rattle.grammar.specs.declared.BinaryMark.TheVariants as BinaryMark
use Rattle.grammar.specs.declared.Clause.{Clause}
use Rattle.grammar.specs.declared.Clause.TheVariants.{Empty, Atom, Unary, Binary}

-- the clauses by their kinds, 0 to 7
abbrev pub clauses : ℕ → ℕ → List Clause
clauses a b =
    Empty ∷ Atom a b ∷ Unary a UnaryMark.None ∷ Unary a UnaryMark.Offside
    ∷ Unary a UnaryMark.Offalign ∷ Unary a UnaryMark.Single ∷ Binary a b BinaryMark.None
    ∷ Binary a b BinaryMark.Align ∷ []

-- a further kind is a B rule with `indent`
unfoldable pub clause_of_of : ℕ → ℕ → ℕ → Clause
clause_of_of k a b = get_or (clauses a b) k (Binary a b BinaryMark.Indent)

unfoldable pub word_rule : ℕ → Rule
word_rule w =
    record {
      left = w % 256;
      clause = clause_of_of (w / 256 % 256) (w / 65536 % 256) (w / 16777216 % 256);
    }
