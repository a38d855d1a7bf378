-- `put_value` meets its contract: a number of at most twenty digits.
use native.Mathlib.Omega.{arith}
use Rattle.printing.proofs.Writing.{wrote_then}
use Rattle.printing.proofs.Decimals.{decimal_length}
use borrow.Author.Rules.{rules}
use Rattle.share_text.proofs.put_value.Goals as goal

pub put_number-next-requires : goal.put_number-next-requires
put_number-next-requires c =
    omega (arith, decimal_length 20 c.args.v (omega arith) (search rules), c.requires)

pub put_byte-requires : goal.put_byte-requires
put_byte-requires c = omega (
  arith,
  decimal_length 20 c.args.v (omega arith) (search rules),
  c.requires,
  c.put_number-next.ensures.next,
  c.put_number-next.ensures.long,
)

pub returns : goal.returns
returns c =
    let w = wrote_then c.put_number-next.ensures
    c.put_byte.ensures in record {
      wrote = w;
      upper_bound = omega (
        arith,
        decimal_length 20 c.args.v (omega arith) (search rules),
        c.put_number-next.ensures.next,
        c.put_byte.ensures.next,
      );
    }
