-- `text::put_refused` meets its contract: eight bytes, then a number of at most two digits.
use native.Mathlib.Omega.{arith}
use Rattle.printing.proofs.Writing.{wrote_then}
use Rattle.printing.proofs.Decimals.{decimal_length}
use borrow.Author.Rules.{rules}
use Rattle.text.proofs.put_refused.Goals as goal

pub put_number-requires : goal.put_number-requires
put_number-requires c =
    omega (
      arith,
      c.put_bytes-next.ensures.next,
      c.put_bytes-next.ensures.long,
      decimal_length 2
          c.args.n (omega arith) (search rules),
      c.requires,
    )

pub returns : goal.returns
returns c =
    let v = c.args.n in record {
      wrote = wrote_then c.put_bytes-next.ensures c.put_number.ensures;
      upper_bound = omega (
        arith,
        c.put_bytes-next.ensures.next,
        c.put_number.ensures.next,
        decimal_length 2 v
            (omega arith) (search rules),
      );
    }
