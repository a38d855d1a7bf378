-- For inner functions: the sorts of lexemes by their numbers.
use Rattle.std.specs.Prelude.{ℕ}
use Rattle.clause_rules.specs.declared.Role.{Role}

abbrev pub role_number : Role → ℕ
role_number Role.Leaf = 0
role_number Role.Open = 1
role_number Role.Close = 2
role_number Role.Bar = 3
role_number Role.Join = 4
role_number Role.Suffix = 5
role_number Role.End = 6
