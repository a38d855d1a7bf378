-- `tried_count::cell_rank` meets its contract.
use Prim.Native.Nat.{◌+◌, ◌*◌, ◌≤◌}
use mathlib.Core.Path.{ap₂, ◌∙◌}
use native.Mathlib.Omega.{arith}
use Rattle.tried_count.proofs.Members.{members_le, ones_below}
use Rattle.tried_count.proofs.Columns.{ways_small, lesser_small, share_small}
use Rattle.tried_count.proofs.cell_rank.Goals.{After-lesser_at-l}
use Rattle.tried_count.proofs.cell_rank.Goals as goal

-- the cells with lesser terminals are few
share : (c : After-lesser_at-l)
    → c.members_below-b.result * c.ways_at-w.result ≤ 5772436045824
share c =
    let w = c.ways_at-w in
    share_small c.members_below-b.result w.result
    (omega (
      arith,
      c.members_below-b.ensures,
      ones_below c.args.set c.args.d.terminal,
      members_le c.args.set c.args.d.terminal,
      c.requires.terminal_bound.0,
    ))
    (omega (
      arith,
      w.ensures,
      ways_small c.args.row c.args.n c.args.m c.args.p
          c.requires.n_bound.2 c.requires.n_bound.0 c.requires.n_bound.1,
    ))

pub overflow_mul-result : goal.overflow_mul-result
overflow_mul-result c = omega (arith, share c)

pub overflow_add-result : goal.overflow_add-result
overflow_add-result c =
    omega (
      arith,
      share c,
      c.lesser_at-l.ensures,
      lesser_small c.args.row c.args.n
          c.args.p c.args.d.step c.args.d.column c.requires.n_bound.2 c.requires.n_bound.0
          c.requires.terminal_bound.1 c.requires.terminal_bound.3,
    )

pub returns : goal.returns
returns c = ap₂ ◌+◌ (ap₂ ◌*◌ (c.members_below-b.ensures ∙ ones_below _ _)
    c.ways_at-w.ensures) c.lesser_at-l.ensures
