-- `sentence_text::put_tokens` meets its contract. The loop's invariant: the lines of the first `i`
-- tokens are put.
use Prim.Native.Nat.{◌+◌, ◌*◌, ◌≤◌}
use lib.ListN.{take}
use Rattle.printing.specs.Printing.{Wrote, token_lines}
use Rattle.sentence_text.proofs.put_tokens.Given as goal

abbrev pub invariant-loop-t : goal.invariant-loop-t
invariant-loop-t l =
    (l.next ≤ l.at + 18 * l.t-index) × Wrote l.initial.out l.out l.at
    (token_lines (take l.t-index l.fn.s.tokens)) l.next
