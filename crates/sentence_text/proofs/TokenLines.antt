-- Token lines, line by line.
use mathlib.Core.Path.{◌≡◌, sym, ap, ◌∙◌}
use mathlib.Core.List.{List, [], ◌∷◌, ◌++◌, append-nil, append_assoc}
use Prim.Native.Nat.{ℕ, ◌+◌, ◌<◌}
use native.Mathlib.Numerals.{add-one}
use lib.ListN.{length, take, get_or}
use lib.Seq.{take-suc}
use Rattle.grammar.specs.declared.Token.{Token}
use Rattle.grammar.specs.Layout.{Word}
use Rattle.printing.specs.Printing.{token_text_of, token_lines}

-- one token more
tokens_snoc : (w : Word) (t : Token)
    → token_lines (w ++ (t ∷ [])) ≡ token_lines w ++ token_text_of t
tokens_snoc [] t = append-nil (token_text_of t)
tokens_snoc (a ∷ w) t = ap (λ (l : List ℕ). token_text_of a ++ l) (tokens_snoc w t)
    ∙ sym (append_assoc (token_text_of a) (token_lines w) (token_text_of t))

pub tokens_more : (w : Word) (i : ℕ) (d : Token) → i < length w
    → token_lines (take (i + 1) w) ≡ token_lines (take i w) ++ token_text_of (get_or w i d)
tokens_more w i d h = rw (add-one i, take-suc w i d h) (tokens_snoc (take i w) (get_or w i d))
