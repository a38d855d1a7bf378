-- `printing::put_ended` meets its contract: a number of at most five digits, then a byte.
use native.Mathlib.Omega.{arith}
use Rattle.printing.proofs.Writing.{wrote_then}
use Rattle.printing.proofs.Decimals.{decimal_length}
use Rattle.printing.proofs.put_ended.Goals as goal

pub put_number-next-requires : goal.put_number-next-requires
put_number-next-requires c =
    omega (arith, decimal_length 5 c.args.v (omega arith) (omega (arith, c.requires)), c.requires)

pub put_byte-requires : goal.put_byte-requires
put_byte-requires c =
    omega (
      arith,
      c.put_number-next.ensures.next,
      c.put_number-next.ensures.long,
      decimal_length 5 c.args.v (omega arith)
          (omega (arith, c.requires)),
      c.requires,
    )

pub returns : goal.returns
returns c =
    record {
      wrote = wrote_then c.put_number-next.ensures c.put_byte.ensures;
      upper_bound = omega (
        arith,
        c.put_number-next.ensures.next,
        c.put_byte.ensures.next,
        decimal_length 5 c.args.v (omega arith) (omega (arith, c.requires)),
      );
    }
