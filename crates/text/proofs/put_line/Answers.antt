-- `text::put_line` meets its contract, part by part.
use native.Mathlib.Omega.{arith}
use Rattle.printing.proofs.Writing.{wrote_then}
use Rattle.printing.proofs.Decimals.{decimal_length}
use borrow.Author.Rules.{rules}
use Rattle.text.proofs.put_line.Goals as goal

pub put_number-b-requires : goal.put_number-b-requires
put_number-b-requires c =
    omega (
      arith,
      c.put_byte-a.ensures.next,
      c.put_byte-a.ensures.long,
      decimal_length 20
          c.args.line (omega arith) (search rules),
      c.requires,
    )

pub put_byte-requires : goal.put_byte-requires
put_byte-requires c =
    omega (
      arith,
      c.put_byte-a.ensures.next,
      c.put_byte-a.ensures.long,
      c.put_number-b.ensures.next,
      c.put_number-b.ensures.long,
      decimal_length 20 c.args.line (omega arith)
          (search rules),
      c.requires,
    )

pub returns : goal.returns
returns c = record {
  wrote = wrote_then c.put_byte-a.ensures
      (wrote_then c.put_number-b.ensures c.put_byte.ensures);
  upper_bound = omega (
    arith,
    c.put_byte-a.ensures.next,
    c.put_number-b.ensures.next,
    c.put_byte.ensures.next,
    decimal_length 20 c.args.line (omega arith) (search rules),
  );
}
