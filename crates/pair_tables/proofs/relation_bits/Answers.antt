use mathlib.Core.Path.{refl}
use Rattle.pair_tables.proofs.relation_bits.Goals as goal

pub returns : goal.returns
returns c = rw (c.order_code-o.ensures.code, c.order_code-p.ensures.code) refl
