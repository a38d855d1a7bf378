-- The order of tokens as the code tests it (for inner functions): `after-says` in
-- `proofs/Accepted.antt` says that it is `After`, `order-computed` that refusal 15 is given by it.
use Rattle.std.specs.Prelude.{[], ◌∷◌, Bool, true, ◌&&◌, ◌||◌, eqb, ltb, leb}
use Rattle.grammar.specs.declared.Token.{Token}
use Rattle.grammar.specs.Layout.{Word, line, col, past, last}

-- b comes after a
abbrev pub after : Token → Token → Bool
after a b = ltb (line a) (line b) || (eqb (line a) (line b) && leb (past a) (col b))

-- t comes after the last of the tokens seen
abbrev pub follows : Word → Token → Bool
follows [] t = true
follows (a ∷ w) t = after (last a w) t
