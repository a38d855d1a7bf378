-- A role by its number.
use mathlib.Core.Path.{◌≡◌, refl, sym, ap, ◌∙◌}
use Prim.Native.Nat.{ℕ, zero, suc}
use Rattle.clause_rules.specs.declared.Role.{Role}
use Rattle.clause_rules.specs.Roles.{role_number}

abbrev named : ℕ → Role
named zero = Role.Leaf
named (suc zero) = Role.Open
named (suc (suc zero)) = Role.Close
named (suc (suc (suc zero))) = Role.Bar
named (suc (suc (suc (suc zero)))) = Role.Join
named (suc (suc (suc (suc (suc zero))))) = Role.Suffix
named (suc (suc (suc (suc (suc (suc k)))))) = Role.End

named_number : (s : Role) → named (role_number s) ≡ s
named_number Role.Leaf = refl
named_number Role.Open = refl
named_number Role.Close = refl
named_number Role.Bar = refl
named_number Role.Join = refl
named_number Role.Suffix = refl
named_number Role.End = refl

-- with the number of another it is the other
pub same_role : (s t : Role) → role_number s ≡ role_number t → s ≡ t
same_role s t e = sym (named_number s) ∙ ap named e ∙ named_number t
