-- With some tokens on the left, with none, and with all.
use Prim.Native.Nat.{◌<◌}
use native.Mathlib.Omega.{arith}
use Rattle.contained_spans.proofs.CountLaws.{plus_few}
use Rattle.contained_spans.proofs.SeeLaws.{bounded}
use Rattle.contained_spans.proofs.SpreadLaws.{tried_at, spread_empty, spread-binary}
use Rattle.contained_spans.proofs.spread_binary.Goals as goal

pub returns-then-len-eq0 : goal.returns-then-len-eq0
returns-then-len-eq0 c =
    spread_empty c.if-len-eq0.true
    c.requires.ready.long
    (tried_at 0 c.try_left.ensures (omega arith))

pub spread_cuts-some-requires : goal.spread_cuts-some-requires
spread_cuts-some-requires c =
    let r = c.requires.ready in
    let pos : 0 < c.args.len = omega (arith, c.if-len-eq0.false) in
    record {
      b_bound = (c.requires.b_bound.0, c.requires.b_bound.1, pos, bounded (r.table pos));
      space = (c.requires.room.1, r.seen pos);
    }

pub spread_ends-ends-requires : goal.spread_ends-ends-requires
spread_ends-ends-requires c =
    let s = c.requires.room.1 in record {
      room = (
        c.requires.room.0,
        record {
          few = s.few;
          fits = s.fits;
          enough = omega (
            arith,
            s.enough,
            c.spread_cuts-some.ensures.joins.long,
          );
        },
      );
      b_bound = c.requires.b_bound;
    }

pub plus-requires : goal.plus-requires
plus-requires c = (
  c.spread_cuts-some.ensures.tells.few,
  plus_few c.spread_ends-ends.ensures.plus,
)

pub returns : goal.returns
returns c =
    let pos : 0 < c.args.len = omega (
      arith,
      c.if-len-eq0.false,
    ) in
    spread-binary c.requires.room.0.few c.requires.b_bound.0 c.requires.b_bound.1 pos
    c.requires.room.0.fits
    (c.requires.ready.table pos) c.spread_cuts-some.ensures c.spread_ends-ends.ensures
    c.plus.ensures
