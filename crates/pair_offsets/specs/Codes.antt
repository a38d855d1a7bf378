-- Orders, offsets and relations as numbers. For the contracts of inner functions only.
use Rattle.std.specs.Prelude.{ℕ, zero, suc, ◌+◌, ◌*◌}
use Rattle.pairs.specs.Relations.{Order, less, equal, more, Offset, beside, below, Relation}

abbrev pub order_code : Order → ℕ
order_code less = 0
order_code equal = 1
order_code more = 2

abbrev pub offset_code : Offset → ℕ
offset_code beside = 0
offset_code (below o) = 1 + order_code o

-- the offset of a code
abbrev pub offset_of : ℕ → Offset
offset_of zero = beside
offset_of (suc zero) = below less
offset_of (suc (suc zero)) = below equal
offset_of (suc (suc (suc n))) = below more

-- the bit of a relation, below 36
abbrev pub bit_of : Relation → ℕ
bit_of r = 12 * order_code r.starts + 4 * order_code r.stops + offset_code r.offset
