-- `sentence_text::put_sentence` meets its contract: in each arm the answer is known.
use Rattle.printing.proofs.Writing.{wrote_none, wrote_then}
use Rattle.sentence_text.proofs.put_sentence.Goals as goal

pub returns-in-None : goal.returns-in-None
returns-in-None c = rw c.in-None.is (wrote_none _ _)

pub returns-in-One : goal.returns-in-One
returns-in-One c = rw c.in-One.is (wrote_none _ _)

pub returns-in-Two : goal.returns-in-Two
returns-in-Two c =
    rw c.in-Two.is
    (wrote_then c.put_bytes-next.ensures c.put_tokens.ensures.wrote)

pub returns-in-Clear : goal.returns-in-Clear
returns-in-Clear c = rw c.in-Clear.is (wrote_none _ _)

pub returns-in-Given : goal.returns-in-Given
returns-in-Given c = rw c.in-Given.is (wrote_none _ _)

pub returns-in-Refused : goal.returns-in-Refused
returns-in-Refused c = rw c.in-Refused.is (wrote_none _ _)
