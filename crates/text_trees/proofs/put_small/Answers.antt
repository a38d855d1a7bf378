-- `put_small` meets its contract: a number of at most three digits, then a byte.
use native.Mathlib.Omega.{arith}
use Rattle.printing.proofs.Writing.{wrote_then}
use Rattle.printing.proofs.Decimals.{decimal_length}
use borrow.Author.Rules.{rules}
use Rattle.text_trees.proofs.put_small.Goals as goal

pub put_number-next-requires : goal.put_number-next-requires
put_number-next-requires c =
    omega (arith, decimal_length 3 c.args.v (omega arith) (search rules), c.requires)

pub put_byte-requires : goal.put_byte-requires
put_byte-requires c =
    omega (
      arith,
      c.put_number-next.ensures.next,
      c.put_number-next.ensures.long,
      decimal_length 3
          c.args.v (omega arith) (search rules),
      c.requires,
    )

pub returns : goal.returns
returns c = record {
  wrote = wrote_then c.put_number-next.ensures c.put_byte.ensures;
  upper_bound = omega (
    arith,
    c.put_number-next.ensures.next,
    c.put_byte.ensures.next,
    decimal_length 3
        c.args.v (omega arith) (search rules),
  );
}
