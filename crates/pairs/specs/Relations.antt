-- How two nodes of two trees over one sentence lie against one another.
use Rattle.std.specs.Prelude.{◌≡◌, Bool, true, false, ℕ, ltb}

-- the order of two numbers
pub data Order : Type 0 where
  less : Order
  equal : Order
  more : Order

abbrev order_by : Bool → Bool → Order
order_by true c = less
order_by false true = more
order_by false false = equal

unfoldable pub order : ℕ → ℕ → Order
order m n = order_by (ltb m n) (ltb n m)

-- how a token lies against one before it: on its line; or on a later line, in a column that is
-- less, equal or more
pub data Offset : Type 0 where
  beside : Offset
  below : Order → Offset

-- the orders of the nodes' starts and stops, and how the later start lies against the other
pub record Relation : Type 0 where
  pub starts : Order
  pub stops : Order
  pub offset : Offset

-- the columns of y against x and of z against y, and what then that of z against x can be
abbrev pub Chained : Order → Order → Order → Type 0
Chained equal p q = q ≡ p
Chained less less q = q ≡ less
Chained less equal q = q ≡ less
Chained less more q = Unit {0}
Chained more less q = Unit {0}
Chained more equal q = q ≡ more
Chained more more q = q ≡ more

abbrev pub IsBelow : Offset → (Order → Type 0) → Type 0
IsBelow beside P = ⊥
IsBelow (below o) P = P o

-- three tokens, each behind the one before: the second against the first, the third against the
-- second and the third against the first; on one line columns rise
abbrev pub Tri : Offset → Offset → Offset → Type 0
Tri beside beside z = z ≡ beside
Tri beside (below p) z = IsBelow z (Chained more p)
Tri (below o) beside z = IsBelow z (Chained o more)
Tri (below o) (below p) z = IsBelow z (Chained o p)
