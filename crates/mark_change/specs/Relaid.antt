-- Which marks a rule may have, and a rule with another mark (for inner functions and laws).
use Rattle.std.specs.Prelude.{ℕ, List, [], get_or, Bool, true, false}
use Rattle.fields.specs.Pieces.{pieces}
use Rattle.mark_change.specs.Changed.{line_of}
use Rattle.grammar.specs.declared.Clause.{Clause}
use Rattle.fields.specs.declared.Lay.{Lay}
use Rattle.std.specs.Prelude.{Result}
use Rattle.lines.specs.declared.RuleFault.{RuleFault}
use Rattle.grammar.specs.declared.Rule.{Rule}
use Rattle.lines.specs.RuleLines.{plain_rule, unary_rule, binary_rule}

-- the bytes of a rule's lay
abbrev pub lay_field : List ℕ → ℕ → List ℕ
lay_field s p = get_or (pieces 32 (line_of s p)) 4 []

-- (for the code) does the clause take a mark of one word, or of two?
abbrev pub one_word : Clause → Bool
one_word Clause.Empty = false
one_word (Clause.Atom a b) = false
one_word (Clause.Unary B m) = true
one_word (Clause.Binary B C m) = false

abbrev pub two_words : Clause → Bool
two_words Clause.Empty = false
two_words (Clause.Atom a b) = false
two_words (Clause.Unary B m) = false
two_words (Clause.Binary B C m) = true

-- may a rule with this clause have the lay?
abbrev pub fits_lay : Clause → Lay → Bool
fits_lay c Lay.None = true
fits_lay c Lay.Offside = one_word c
fits_lay c Lay.Offalign = one_word c
fits_lay c Lay.Single = one_word c
fits_lay c Lay.Align = two_words c
fits_lay c Lay.Indent = two_words c

-- (for the laws) a rule with another lay, or 4
abbrev pub relaid : ℕ → Clause → Lay → Result Rule RuleFault
relaid l Clause.Empty y = plain_rule l Clause.Empty y
relaid l (Clause.Atom a b) y = plain_rule l (Clause.Atom a b) y
relaid l (Clause.Unary a m) y = unary_rule l a y
relaid l (Clause.Binary a b m) y = binary_rule l a b y
