-- What refusal 5 compares: left, kind, first and second of a rule, under any lay; of A rules the
-- terminals from first to second.
use Rattle.std.specs.Prelude.{ℕ, Bool, cond, ◌&&◌, eqb, leb}
use Rattle.fields.specs.declared.Kind.{Kind}
use Rattle.grammar.specs.declared.Rule.{Rule}
use Rattle.grammar.specs.declared.Clause.{Clause}
use Rattle.lines.specs.declared.Key.{Key}

abbrev pub unary_key : ℕ → ℕ → Key
unary_key l a = record { left = l; kind = Kind.U; first = a; second = 0 }

abbrev pub key_with_of : ℕ → Clause → Key
key_with_of l Clause.Empty = record { left = l; kind = Kind.E; first = 0; second = 0 }
key_with_of l (Clause.Atom a b) = record { left = l; kind = Kind.A; first = a; second = b }
key_with_of l (Clause.Unary a m) = unary_key l a
key_with_of l (Clause.Binary a b m) = record { left = l; kind = Kind.B; first = a; second = b }

abbrev pub key_of : Rule → Key
key_of r = key_with_of r.left r.clause

-- no terminal from first to second is shared where one ends before the other begins
abbrev pub meets : Key → Key → Bool
meets a b = leb a.first b.second && leb b.first a.second

abbrev pub same_operands : Key → Key → Bool
same_operands a b = eqb a.first b.first && eqb a.second b.second

-- a kind's number: E 0, A 1, U 2, B 3
abbrev pub kind_number : Kind → ℕ
kind_number Kind.E = 0
kind_number Kind.A = 1
kind_number Kind.U = 2
kind_number Kind.B = 3

-- 5: the same left and kind, and of kind A a shared terminal, of the others the same first and
-- second
abbrev pub same_key_of : Key → Key → Bool
same_key_of a b = eqb a.left b.left && (eqb (kind_number a.kind) (kind_number b.kind)
    && cond (eqb (kind_number a.kind) 1) (meets a b) (same_operands a b))
