-- A rule sheet's bytes for given rules: docs/FORMAT.md, "Bytes, lines, fields, numbers", with
-- numbers written plainly, terminals in `second`.
use Rattle.std.specs.Prelude.{cond, List, [], ◌∷◌, ◌++◌, ℕ, eqb}
use Rattle.grammar.specs.declared.UnaryMark.{UnaryMark}
use Rattle.grammar.specs.declared.BinaryMark.{BinaryMark}
use Rattle.grammar.specs.declared.Rule.{Rule}
use Rattle.grammar.specs.declared.Clause.{Clause}
use Rattle.grammar.specs.Trees.{Rules}
use Rattle.printing.specs.Printing.{field}

-- the lay of a U rule and the line's end: none, offside, offalign, single
unfoldable pub unary_lay_of : UnaryMark → List ℕ
unary_lay_of UnaryMark.None = 110 ∷ 111 ∷ 110 ∷ 101 ∷ 10 ∷ []
unary_lay_of UnaryMark.Offside = 111 ∷ 102 ∷ 102 ∷ 115 ∷ 105 ∷ 100 ∷ 101 ∷ 10 ∷ []
unary_lay_of UnaryMark.Offalign = 111 ∷ 102 ∷ 102 ∷ 97 ∷ 108 ∷ 105 ∷ 103 ∷ 110 ∷ 10 ∷ []
unary_lay_of UnaryMark.Single = 115 ∷ 105 ∷ 110 ∷ 103 ∷ 108 ∷ 101 ∷ 10 ∷ []

-- the lay of a B rule and the line's end: none, align, indent
unfoldable pub binary_lay_of : BinaryMark → List ℕ
binary_lay_of BinaryMark.None = 110 ∷ 111 ∷ 110 ∷ 101 ∷ 10 ∷ []
binary_lay_of BinaryMark.Align = 97 ∷ 108 ∷ 105 ∷ 103 ∷ 110 ∷ 10 ∷ []
binary_lay_of BinaryMark.Indent = 105 ∷ 110 ∷ 100 ∷ 101 ∷ 110 ∷ 116 ∷ 10 ∷ []

-- `-` and a blank
abbrev pub dash : List ℕ
dash = 45 ∷ 32 ∷ []

-- the last terminal of an A rule, or `-` where the first stands alone
abbrev pub last_terminal_of : ℕ → ℕ → List ℕ
last_terminal_of a b = cond (eqb a b) dash (field b)

-- kind, first, second and lay: E, A, U, B
unfoldable pub clause_text : Clause → List ℕ
clause_text Clause.Empty = 69 ∷ 32 ∷ (dash ++ (dash ++ unary_lay_of UnaryMark.None))
clause_text (Clause.Atom a b) =
    65 ∷ 32 ∷ (field a ++ (last_terminal_of a b ++ unary_lay_of UnaryMark.None))
clause_text (Clause.Unary a m) = 85 ∷ 32 ∷ (field a ++ (dash ++ unary_lay_of m))
clause_text (Clause.Binary a b m) = 66 ∷ 32 ∷ (field a ++ (field b ++ binary_lay_of m))

-- a rule's line
abbrev pub rule_text_of : Rule → List ℕ
rule_text_of r = field r.left ++ clause_text r.clause

-- the lines of rules
abbrev pub rules_text : Rules → List ℕ
rules_text [] = []
rules_text (r ∷ g) = rule_text_of r ++ rules_text g
