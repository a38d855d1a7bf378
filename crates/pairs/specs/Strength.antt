-- Unary marks by their strength. For laws and the contracts of inner functions only.
use Rattle.std.specs.Prelude.{ℕ}
use Rattle.grammar.specs.declared.UnaryMark.{UnaryMark}

-- the stronger the higher: a word that keeps one keeps each lower one
abbrev pub rank : UnaryMark → ℕ
rank UnaryMark.None = 0
rank UnaryMark.Offalign = 1
rank UnaryMark.Offside = 2
rank UnaryMark.Single = 3
