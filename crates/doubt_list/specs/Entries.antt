-- A doubt as an entry of a list in lent bytes.
use Rattle.std.specs.Prelude.{List, [], ◌∷◌, ℕ, ◌+◌}
use Rattle.pairs.specs.Doubts.{Doubt, why_code}

-- an entry is four bytes: nonterminal, first rule, second rule, by their places from 1, and why
abbrev pub doubt_bytes : Doubt → List ℕ
doubt_bytes d = d.nonterminal ∷ (d.first + 1) ∷ (d.second + 1) ∷ why_code d.why ∷ []
