use mathlib.Core.Path.{◌≡◌, refl, sym, ◌∙◌}
use native.Mathlib.Omega.{arith}
use Rattle.contained_spans.proofs.SeeLaws.{seen_cleared}
use Rattle.contained_spans.proofs.WorkLaws.{known_room}
use Rattle.contained_spans.proofs.DoneLaws.{span_wide, done_step, start_first, start_last}
use Rattle.contained_spans.proofs.spread_start.Goals as goal

pub begin_row-requires : goal.begin_row-requires
begin_row-requires c = (
  known_room c.requires.known.0 c.args.start 1 (omega (arith, c.requires.start_lt_count.0)),
  c.requires.start_lt_count.1,
)

pub clear-requires : goal.clear-requires
clear-requires c = omega (
  arith,
  c.requires.seen_columns.long,
)

pub loop-len-init : goal.loop-len-init
loop-len-init c = (
  omega (arith, c.requires.start_lt_count.0),
  c.begin_row.ensures,
  seen_cleared c.requires.seen_columns c.clear.ensures,
  start_first c.requires.done,
  refl,
  refl,
)

pub spread_span-requires : goal.spread_span-requires
spread_span-requires c =
    let l = c.loop-len in
    let k = c.requires.known.0.few in record {
      known = c.requires.known;
      space = (
        record { few = k; fits = l.invariant.0; enough = l.invariant.3.long },
        record { few = k; fits = l.invariant.0; enough = l.invariant.3.wide },
      );
      ready = record {
        long = l.invariant.2.columns.long;
        table = λ p. l.invariant.1;
        seen = λ p. l.invariant.2;
      };
    }

pub loop-len-preserved : goal.loop-len-preserved
loop-len-preserved c =
    let l = c.loop-len in
    let x = c.spread_span.ensures in
    let pos = c.loop-len-test.true in (
      omega (arith, l.invariant.0),
      l.invariant.1,
      x.seen pos,
      done_step _ _ _ _ _ _ _ _ _ _ l.invariant.0 l.invariant.3.wide x pos l.invariant.3,
      x.spreads.long ∙ l.invariant.4,
      span_wide x ∙ l.invariant.5,
    )

pub shape_of-cuts : goal.shape_of-cuts
shape_of-cuts c = c.loop-len.invariant.1.columns.long ∙ sym
    c.requires.start_lt_count.1.long

pub shape_of-seen : goal.shape_of-seen
shape_of-seen c = c.loop-len.invariant.2.columns.long
    ∙ sym c.requires.seen_columns.long

pub shape_of-reach : goal.shape_of-reach
shape_of-reach c = c.loop-len.invariant.4

pub shape_of-parts : goal.shape_of-parts
shape_of-parts c = c.loop-len.invariant.5

pub returns : goal.returns
returns c =
    let l = c.loop-len in
    record {
      columns = l.invariant.1.columns;
      seen = l.invariant.2.columns;
      done = start_last (let e : l.len ≡ 0 = omega (arith, c.loop-len-test.false) in e)
          l.invariant.3;
    }
