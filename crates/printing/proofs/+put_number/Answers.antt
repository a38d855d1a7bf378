-- `printing::put_number` meets its contract, by the laws of `decimal`.
use mathlib.Core.Path.{ap}
use native.Mathlib.Omega.{arith}
use borrow.Author.Rules.{rules}
use lib.ListN.{length}
use Rattle.printing.proofs.Writing.{wrote_then}
use Rattle.printing.proofs.Decimals.{decimal_one, decimal_more, decimal_longer}
use Rattle.printing.proofs.+put_number.Goals as goal

pub put_byte-requires : goal.put_byte-requires
put_byte-requires t c = omega (arith, ap length (decimal_one c.args.v (search rules)))

pub returns-then-v-lt10 : goal.returns-then-v-lt10
returns-then-v-lt10 t c = rw (decimal_one c.args.v (search rules)) c.put_byte.ensures

pub put_number-next-requires : goal.put_number-next-requires
put_number-next-requires t c =
    (search rules, omega (arith, decimal_longer c.args.v (search rules)))

pub put_byte-requires-2 : goal.put_byte-requires-2
put_byte-requires-2 t c = omega (arith, decimal_longer c.args.v (search rules))

pub returns : goal.returns
returns t c =
    rw (decimal_more c.args.v (search rules))
    (wrote_then c.put_number-next.ensures c.put_byte-2.ensures)
