-- What a rule line says: docs/FORMAT.md, "The rule sheet", and refusals 2, 3, 4 and 44.
use Rattle.std.specs.Prelude.{ℕ, List, Bool, cond, ◌&&◌, leb, Option, is_none, is_some, unwrap_or}
use Rattle.std.specs.Prelude.{Result, Ok, Err}
use Rattle.grammar.specs.declared.Rule.{Rule}
use Rattle.grammar.specs.declared.Clause.{Clause}
use Rattle.grammar.specs.declared.UnaryMark.TheVariants as UnaryMark
use Rattle.grammar.specs.declared.BinaryMark.TheVariants as BinaryMark
use Rattle.fields.specs.declared.Kind.{Kind}
use Rattle.fields.specs.declared.Lay.{Lay}
use Rattle.fields.specs.Pieces.{pieces}
use Rattle.fields.specs.Words.{numeral_of, kind_of, operand_of, lay_of}
use Rattle.fields.specs.Fields.{with_field, at_end_of}
use Rattle.lines.specs.declared.RuleFault.{RuleFault}
use Rattle.lines.specs.declared.RuleFault.TheVariants.{Form, Range, Unfit, Reversed}

-- which of first and second are `-`, by the kind; the second of an A rule may be either
abbrev pub shape : Kind → Option ℕ → Option ℕ → Bool
shape Kind.E a b = is_none a && is_none b
shape Kind.A a b = is_some a
shape Kind.U a b = is_some a && is_none b
shape Kind.B a b = is_some a && is_some b

-- 4: lay not allowed for the kind. E: none
abbrev pub plain_rule : ℕ → Clause → Lay → Result Rule RuleFault
plain_rule l c Lay.None = Ok (record { left = l; clause = c })
plain_rule l c Lay.Offside = Err Unfit
plain_rule l c Lay.Offalign = Err Unfit
plain_rule l c Lay.Single = Err Unfit
plain_rule l c Lay.Align = Err Unfit
plain_rule l c Lay.Indent = Err Unfit

-- A: none; then 44: second below first
abbrev pub atom_rule : ℕ → ℕ → ℕ → Lay → Result Rule RuleFault
atom_rule l a b Lay.None =
    cond (leb a b) (Ok (record { left = l; clause = Clause.Atom a b })) (Err Reversed)
atom_rule l a b Lay.Offside = Err Unfit
atom_rule l a b Lay.Offalign = Err Unfit
atom_rule l a b Lay.Single = Err Unfit
atom_rule l a b Lay.Align = Err Unfit
atom_rule l a b Lay.Indent = Err Unfit

-- U: none, offside, offalign, single
abbrev pub unary_rule : ℕ → ℕ → Lay → Result Rule RuleFault
unary_rule l a Lay.None = Ok (record { left = l; clause = Clause.Unary a UnaryMark.None })
unary_rule l a Lay.Offside = Ok (record { left = l; clause = Clause.Unary a UnaryMark.Offside })
unary_rule l a Lay.Offalign = Ok (record { left = l; clause = Clause.Unary a UnaryMark.Offalign })
unary_rule l a Lay.Single = Ok (record { left = l; clause = Clause.Unary a UnaryMark.Single })
unary_rule l a Lay.Align = Err Unfit
unary_rule l a Lay.Indent = Err Unfit

-- B: none, align, indent
abbrev pub binary_rule : ℕ → ℕ → ℕ → Lay → Result Rule RuleFault
binary_rule l a b Lay.None = Ok (record { left = l; clause = Clause.Binary a b BinaryMark.None })
binary_rule l a b Lay.Offside = Err Unfit
binary_rule l a b Lay.Offalign = Err Unfit
binary_rule l a b Lay.Single = Err Unfit
binary_rule l a b Lay.Align =
    Ok (record { left = l; clause = Clause.Binary a b BinaryMark.Align })
binary_rule l a b Lay.Indent =
    Ok (record { left = l; clause = Clause.Binary a b BinaryMark.Indent })

abbrev pub lay_rule : ℕ → Kind → ℕ → ℕ → Lay → Result Rule RuleFault
lay_rule l Kind.E a b y = plain_rule l Clause.Empty y
lay_rule l Kind.A a b y = atom_rule l a b y
lay_rule l Kind.U a b y = unary_rule l a y
lay_rule l Kind.B a b y = binary_rule l a b y

-- where the range of an A rule begins; of `-` the number is 0
abbrev pub from_of : Option ℕ → ℕ
from_of a = unwrap_or a 0

-- where it ends: `-` means first alone
abbrev pub up_to : Option ℕ → Option ℕ → ℕ
up_to a b = unwrap_or b (from_of a)

-- 2: `-` where a number belongs or the reverse; then 3: a number above 63; then 4 and 44
abbrev pub rule_of_of : ℕ → Kind → Option ℕ → Option ℕ → Lay → Result Rule RuleFault
rule_of_of l k a b y =
    cond (shape k a b)
    (cond (leb l 63) (cond (leb (from_of a) 63)
    (cond (leb (up_to a b) 63) (lay_rule l k (from_of a) (up_to a b) y)
    (Err Range)) (Err Range)) (Err Range))
    (Err Form)

-- 2: not five fields, a word unknown, a number not of one to five digits
abbrev pub after_lay : ℕ → Kind → Option ℕ → Option ℕ → Lay → List (List ℕ) → Result Rule RuleFault
after_lay l k a b y fs = at_end_of (Err Form) fs (rule_of_of l k a b y)

abbrev pub after_second : ℕ → Kind → Option ℕ → Option ℕ → List (List ℕ) → Result Rule RuleFault
after_second l k a b fs = with_field (Err Form) lay_of fs (after_lay l k a b)

abbrev pub after_first : ℕ → Kind → Option ℕ → List (List ℕ) → Result Rule RuleFault
after_first l k a fs = with_field (Err Form) operand_of fs (after_second l k a)

abbrev pub after_kind : ℕ → Kind → List (List ℕ) → Result Rule RuleFault
after_kind l k fs = with_field (Err Form) operand_of fs (after_first l k)

abbrev pub after_left : ℕ → List (List ℕ) → Result Rule RuleFault
after_left l fs = with_field (Err Form) kind_of fs (after_kind l)

abbrev pub rule_fields : List (List ℕ) → Result Rule RuleFault
rule_fields fs = with_field (Err Form) numeral_of fs after_left

-- the line's bytes without its byte 10, parted by blanks
abbrev pub rule_line_of : List ℕ → Result Rule RuleFault
rule_line_of line = rule_fields (pieces 32 line)
