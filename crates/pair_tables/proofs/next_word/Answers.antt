use mathlib.Core.Path.{refl}
use Rattle.pair_tables.proofs.next_word.Goals as goal

pub returns : goal.returns
returns c =
    rw (c.order_code-c.ensures.code, c.order_code-d.ensures.code) refl
