-- `put_found_sentence` meets its contract, by the number of lent words.
use mathlib.Core.Path.{◌≡◌, refl}
use native.Mathlib.Omega.{arith}
use lib.ListN.{length}
use Rattle.c_words.specs.Words.{few, written}
use Rattle.c_words.proofs.Words.{sentence_length, wrote_front}
use borrow.Author.Rules.{rules}
use Rattle.c_words.proofs.put_found_sentence.Goals as goal

pub returns-then-found-ge22 : goal.returns-then-found-ge22
returns-then-found-ge22 c =
    let n : length c.args.s.tokens ≡ 64 = c.well_formed.1.0.1.1.0.1.0.1 in
    written (search rules) (wrote_front (sentence_length c.args.s (omega (arith, n)))
    c.put_sentence.ensures)

pub returns-else-found-ge22 : goal.returns-else-found-ge22
returns-else-found-ge22 c = few (search rules) refl
