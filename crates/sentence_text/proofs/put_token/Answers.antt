-- `sentence_text::put_token` meets its contract, part by part.
use native.Mathlib.Omega.{arith}
use Rattle.printing.specs.Printing.{token_text_of}
use Rattle.printing.proofs.Writing.{wrote_then}
use Rattle.sentence_text.proofs.put_token.Goals as goal

pub returns : goal.returns
unfolding token_text_of
returns c = record {
  wrote = wrote_then c.put_ended-a.ensures.wrote
      (wrote_then c.put_ended-b.ensures.wrote c.put_ended.ensures.wrote);
  upper_bound = omega (
    arith,
    c.put_ended-a.ensures.upper_bound,
    c.put_ended-b.ensures.upper_bound,
    c.put_ended.ensures.upper_bound,
  );
}
