-- The numbers of a rule that a line gives are below 64.
use mathlib.Core.Path.{◌≡◌}
use mathlib.Core.Bool.{true}
use mathlib.Core.List.{List}
use Prim.Native.Nat.{ℕ, ◌<◌}
use native.Mathlib.Omega.{arith}
use borrow.Author.Tests.{leb-true}
use lib.Dec.{leb}
use Rattle.grammar.specs.declared.Rule.{Rule}
use Rattle.grammar.specs.declared.Clause.{Clause}
use Rattle.grammar.specs.Content.{SmallClause, SmallRule}
use Rattle.fields.specs.declared.Kind.{Kind}
use Rattle.fields.specs.declared.Lay.{Lay}
use Rattle.fields.specs.Words.{numeral_of, kind_of, operand_of, lay_of}
use Rattle.fields.specs.Pieces.{pieces}
use Rattle.fields.proofs.Pick.{either}
use Rattle.fields.proofs.Fields.{with_holds, end_holds}
use Rattle.std.specs.Prelude.{Option, Result, Ok, Err}
use Rattle.lines.specs.declared.RuleFault.{RuleFault}
use Rattle.lines.specs.declared.RuleFault.TheVariants.{Form}
use Rattle.lines.specs.RuleLines.{shape, plain_rule, atom_rule, from_of, up_to, unary_rule}
use Rattle.lines.specs.RuleLines.{binary_rule}
use Rattle.lines.specs.RuleLines.{lay_rule, rule_of_of, after_lay, after_second, after_first}
use Rattle.lines.specs.RuleLines.{after_kind, after_left, rule_fields, rule_line_of}

-- a rule that is given is small
abbrev Fine : Result Rule RuleFault → Type 0
Fine (Ok r) = SmallRule r
Fine (Err f) = Unit {0}

plain_fine : (l : ℕ) (c : Clause) → l < 64 → SmallClause c → (y : Lay) → Fine (plain_rule l c y)
plain_fine l c h k Lay.None = record { left = h; clause = k }
plain_fine l c h k Lay.Offside = tt
plain_fine l c h k Lay.Offalign = tt
plain_fine l c h k Lay.Single = tt
plain_fine l c h k Lay.Align = tt
plain_fine l c h k Lay.Indent = tt

atom_fine : (l a b : ℕ) → l < 64 → a < 64 → b < 64 → (y : Lay) → Fine (atom_rule l a b y)
atom_fine l a b h i j Lay.None =
    either Fine (leb a b) (λ e. record { left = h; clause = (i, j) }) (λ e. tt)
atom_fine l a b h i j Lay.Offside = tt
atom_fine l a b h i j Lay.Offalign = tt
atom_fine l a b h i j Lay.Single = tt
atom_fine l a b h i j Lay.Align = tt
atom_fine l a b h i j Lay.Indent = tt

unary_fine : (l a : ℕ) → l < 64 → a < 64 → (y : Lay) → Fine (unary_rule l a y)
unary_fine l a h k Lay.None = record { left = h; clause = k }
unary_fine l a h k Lay.Offside = record { left = h; clause = k }
unary_fine l a h k Lay.Offalign = record { left = h; clause = k }
unary_fine l a h k Lay.Single = record { left = h; clause = k }
unary_fine l a h k Lay.Align = tt
unary_fine l a h k Lay.Indent = tt

binary_fine : (l a b : ℕ) → l < 64 → a < 64 → b < 64 → (y : Lay) → Fine (binary_rule l a b y)
binary_fine l a b h j k Lay.None = record { left = h; clause = (j, k) }
binary_fine l a b h j k Lay.Offside = tt
binary_fine l a b h j k Lay.Offalign = tt
binary_fine l a b h j k Lay.Single = tt
binary_fine l a b h j k Lay.Align = record { left = h; clause = (j, k) }
binary_fine l a b h j k Lay.Indent = record { left = h; clause = (j, k) }

lay_fine : (l : ℕ) (k : Kind) (a b : ℕ) → l < 64 → a < 64 → b < 64 → (y : Lay)
    → Fine (lay_rule l k a b y)
lay_fine l Kind.E a b h i j y = plain_fine l Clause.Empty h tt y
lay_fine l Kind.A a b h i j y = atom_fine l a b h i j y
lay_fine l Kind.U a b h i j y = unary_fine l a h i y
lay_fine l Kind.B a b h i j y = binary_fine l a b h i j y

below : (n : ℕ) → leb n 63 ≡ true → n < 64
below n e = omega (arith, leb-true n 63 e)

of_fine : (l : ℕ) (k : Kind) (a b : Option ℕ) (y : Lay) → Fine (rule_of_of l k a b y)
of_fine l k a b y =
    either Fine (shape k a b)
    (λ e. either Fine (leb l 63)
    (λ h. either Fine (leb (from_of a) 63)
    (λ i. either Fine (leb (up_to a b) 63)
    (λ j. lay_fine l k (from_of a) (up_to a b) (below l h) (below (from_of a) i)
    (below (up_to a b) j) y) (λ j. tt)) (λ i. tt)) (λ h. tt)) (λ e. tt)

fields_fine : (fs : List (List ℕ)) → Fine (rule_fields fs)
fields_fine =
    with_holds Fine (Err Form) tt numeral_of after_left
    (λ l. with_holds Fine (Err Form) tt kind_of (after_kind l)
    (λ k. with_holds Fine (Err Form) tt operand_of (after_first l k)
    (λ a. with_holds Fine (Err Form) tt operand_of (after_second l k a)
    (λ b. with_holds Fine (Err Form) tt lay_of (after_lay l k a b)
    (λ y. end_holds Fine (Err Form) tt (rule_of_of l k a b y) (of_fine l k a b y))))))

pub line_small : (line : List ℕ) (r : Rule) → rule_line_of line ≡ Ok r → SmallRule r
line_small line r e = rw e at (fields_fine (pieces 32 line))
