-- `under` meets its contract, by the kind.
use Prim.Native.Nat.{◌+◌}
use native.Mathlib.Omega.{arith}
use Rattle.grammar.specs.Rows.{row_count}
use Rattle.row_counts.proofs.CappedLaws.{capped_le}
use Rattle.row_counts.proofs.SecondLaws.{children, children_there, no_children, one_sum, two_sum}
use Rattle.row_counts.proofs.SecondLaws.{one_capped}
use Rattle.row_counts.proofs.under.Goals as goal

pub count_first-requires : goal.count_first-requires
count_first-requires c =
    let r = c.requires in
    let o = children_there r.ready.0 r.ready.1 r.parted_there _ c.in-Unary.is in
    record {
      ready = (r.ready.0, o.small, r.ready.1);
      nulls = r.nulls;
      first_there = record { tree = o.tree; first = o.first };
    }

pub add-requires : goal.add-requires
add-requires c =
    let r = c.requires in
    let o = children_there r.ready.0 r.ready.1 r.parted_there _ c.in-Unary.is in
    (omega arith, omega (arith, c.count_first.ensures o.tree o.first, capped_le (row_count o.tree)))

pub returns-in-Unary : goal.returns-in-Unary
returns-in-Unary c =
    let r = c.requires in
    λ u p. let o = children r.ready.0 r.ready.1 u p _ c.in-Unary.is in
    one_sum _ _ (row_count o.tree) (c.count_first.ensures o.tree o.first) c.add.ensures
    (row_count u) o.rows

pub count_first-x-requires : goal.count_first-x-requires
count_first-x-requires c =
    let r = c.requires in
    let o = children_there r.ready.0 r.ready.1 r.parted_there _ c.in-Binary.is in
    record {
      ready = (r.ready.0, o.small.0, omega (arith, o.split, r.ready.1));
      nulls = r.nulls;
      first_there = record { tree = o.left; first = o.first };
    }

pub overflow_add-i : goal.overflow_add-i
overflow_add-i c =
    let r = c.requires in
    let o = children_there r.ready.0 r.ready.1 r.parted_there _ c.in-Binary.is in
    omega (arith, o.split, r.ready.1, r.ready.0.positioned.few)

pub overflow_sub-l : goal.overflow_sub-l
overflow_sub-l c =
    let r = c.requires in
    let o = children_there r.ready.0 r.ready.1 r.parted_there _ c.in-Binary.is in
    o.split

pub count_first-y-requires : goal.count_first-y-requires
count_first-y-requires c =
    let r = c.requires in
    let o = children_there r.ready.0 r.ready.1 r.parted_there _ c.in-Binary.is in
    record {
      ready = (r.ready.0, o.small.1, omega (arith, o.split, r.ready.1));
      nulls = r.nulls;
      first_there = record { tree = o.right; first = o.second };
    }

pub add-requires-in-Binary : goal.add-requires-in-Binary
add-requires-in-Binary c =
    let r = c.requires in
    let o = children_there r.ready.0 r.ready.1 r.parted_there _ c.in-Binary.is in (
      omega (arith, c.count_first-x.ensures o.left o.first, capped_le (row_count o.left)),
      omega (arith, c.count_first-y.ensures o.right o.second, capped_le (row_count o.right)),
    )

pub add-requires-in-Binary-2 : goal.add-requires-in-Binary-2
add-requires-in-Binary-2 c = (
  omega arith,
  omega (
    arith,
    c.add-in-Binary.ensures,
    capped_le (c.count_first-x.result + c.count_first-y.result),
  ),
)

pub returns-in-Binary : goal.returns-in-Binary
returns-in-Binary c =
    let r = c.requires in
    λ u p. let o = children r.ready.0 r.ready.1 u p _ c.in-Binary.is in
    two_sum _ _ _ _ (row_count o.left) (row_count o.right) (row_count u)
    (c.count_first-x.ensures o.left o.first) (c.count_first-y.ensures o.right o.second)
    c.add-in-Binary.ensures c.add-in-Binary-2.ensures o.rows

pub returns-in-Empty : goal.returns-in-Empty
returns-in-Empty c =
    let r = c.requires in
    λ u p. one_capped (row_count u) (no_children r.ready.0 r.ready.1 u p c.in-Empty.is)
