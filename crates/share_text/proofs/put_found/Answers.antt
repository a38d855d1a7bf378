-- `put_found` meets its contract: a number of at most twenty digits, or a byte.
use native.Mathlib.Omega.{arith}
use Rattle.printing.proofs.Decimals.{decimal_length}
use borrow.Author.Rules.{rules}
use Rattle.share_text.proofs.put_found.Goals as goal

pub put_number-requires : goal.put_number-requires
put_number-requires c =
    omega (arith, decimal_length 20 c.in-Some.n (omega arith) (search rules), c.requires)

pub returns-in-Some : goal.returns-in-Some
returns-in-Some c = record {
  wrote = rw c.in-Some.is c.put_number.ensures;
  upper_bound = omega (
    arith,
    decimal_length 20 c.in-Some.n (omega arith) (search rules),
    c.put_number.ensures.next,
  );
}

pub returns-in-None : goal.returns-in-None
returns-in-None c = record {
  wrote = rw c.in-None.is c.put_byte.ensures;
  upper_bound = omega (arith, c.put_byte.ensures.next);
}
