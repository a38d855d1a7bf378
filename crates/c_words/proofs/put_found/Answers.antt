-- `c_words::put_found` meets its contract, by the number of lent words.
use mathlib.Core.Path.{◌≡◌, refl}
use native.Mathlib.Omega.{arith}
use lib.ListN.{length}
use Rattle.printing.proofs.Writing.{wrote_then}
use Rattle.c_words.specs.Words.{few, written}
use Rattle.c_words.proofs.Words.{sentence_length, found_length, wrote_front}
use borrow.Author.Rules.{rules}
use Rattle.c_words.proofs.put_found.Goals as goal

pub put_word-requires : goal.put_word-requires
put_word-requires c =
    let l : length c.args.s.tokens ≡ 64 = c.well_formed.1.0.1.1.0.1.0.1 in
    let n = sentence_length c.args.s (omega (arith, l)) in
    omega (
      arith,
      c.put_sentence-next.ensures.next,
      c.put_sentence-next.ensures.long,
      n,
      c.if-found-ge23.true,
    )

pub returns-then-found-ge23 : goal.returns-then-found-ge23
returns-then-found-ge23 c =
    let l : length c.args.s.tokens ≡ 64 = c.well_formed.1.0.1.1.0.1.0.1 in
    let n = found_length c.args.s c.args.tried (omega (arith, l)) in
    written (search rules) (wrote_front n
    (wrote_then c.put_sentence-next.ensures c.put_word.ensures))

pub returns-else-found-ge23 : goal.returns-else-found-ge23
returns-else-found-ge23 c = few (search rules) refl
