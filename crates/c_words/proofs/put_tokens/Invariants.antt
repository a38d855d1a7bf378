-- `c_words::put_tokens` meets its contract. The loop's invariant: the words of the first `i` tokens
-- are put.
use mathlib.Core.Path.{◌≡◌}
use Prim.Native.Nat.{◌+◌, ◌*◌}
use lib.ListN.{take}
use Rattle.printing.specs.Printing.{Wrote}
use Rattle.c_words.specs.Words.{token_words}
use Rattle.c_words.proofs.put_tokens.Given as goal

abbrev pub invariant-loop-t : goal.invariant-loop-t
invariant-loop-t l =
    (l.next ≡ l.at + 3 * l.t-index) × Wrote l.initial.found l.found l.at
    (token_words (take l.t-index l.fn.s.tokens)) l.next
