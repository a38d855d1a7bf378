use mathlib.Core.Path.{refl}
use Rattle.refilling.proofs.KeptLaws.{set_binary, set_no}
use Rattle.refilling.proofs.set_rule.Goals as goal

pub returns-in-Empty : goal.returns-in-Empty
returns-in-Empty c = set_no _ _ _ _ c.in-Empty.is (λ b. b)

pub returns-in-Atom : goal.returns-in-Atom
returns-in-Atom c = set_no _ _ _ _ c.in-Atom.is (λ b. b)

pub returns-in-Unary : goal.returns-in-Unary
returns-in-Unary c = set_no _ _ _ _ c.in-Unary.is (λ b. b)

pub returns-in-Binary : goal.returns-in-Binary
returns-in-Binary c = let a = c.args in
    set_binary a.i a.r _ c.write.ensures c.write-in-Binary.ensures refl
    c.in-Binary.is c.mark_number.ensures
