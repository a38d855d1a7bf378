use borrow.Author.Rules.{rules}
use mathlib.Core.Path.{sym, ◌∙◌, subst, subst₂}
use Prim.Native.Nat.{ℕ, ◌^◌, ◌<◌}
use native.Mathlib.Omega.{arith}
use lib.ListN.{get_or}
use Rattle.std.specs.Prelude.{Option, Some, None}
use Rattle.grammar.specs.SpanSheet.{pair_at}
use Rattle.grammar.specs.Content.{rules_of, SmallRule}
use Rattle.spans.proofs.Places.{pair_at_below, pairs_few}
use Rattle.tables.proofs.RulePlaces.{small_at, rule_read}
use Rattle.contained_spans.specs.Joining.{Fresh}
use Rattle.contained_spans.specs.Spreading.{Works}
use Rattle.contained_spans.proofs.JoinLaws.{insert_more}
use Rattle.contained_spans.proofs.SpreadLaws.{spread_rule}
use Rattle.contained_spans.proofs.WorkLaws.{working_end}
use Rattle.contained_spans.proofs.TurnLaws.{trying_long, trying_few, trying_start}
use Rattle.contained_spans.proofs.TurnLaws.{trying_begin, trying_turn, trying_end}
use Rattle.contained_spans.proofs.work_off.Goals as goal

pub pair_at-p-requires : goal.pair_at-p-requires
pair_at-p-requires c = (c.requires.room.0.few, c.requires.room.0.fits)

pub loop-i-init : goal.loop-i-init
loop-i-init c =
    let f = c.requires.formed.0 in (
      trying_start _ _ _ _ _ _ _ _ _ (omega (arith, f.few, f.whole)),
      omega arith,
      c.requires.ready.long,
      c.requires.ready.seen,
    )

pub offset_bounds-g-i : goal.offset_bounds-g-i
offset_bounds-g-i c = omega (
  arith,
  c.requires.formed.0.few,
  c.if-i-g.true,
)

pub bounds-g-i : goal.bounds-g-i
bounds-g-i c = omega (
  arith,
  c.requires.formed.0.few,
  c.if-i-g.true,
)

pub spread_clause-more-requires : goal.spread_clause-more-requires
spread_clause-more-requires c =
    let g = c.args.g in
    let l = c.loop-i in
    let s = c.requires.room.1 in
    let f = c.requires.formed.0 in
    let h : l.i < g.count = c.if-i-g.true in record {
      room = (
        c.requires.room.0,
        record {
          few = s.few;
          fits = s.fits;
          enough = omega (arith, s.enough, trying_long l.invariant.0);
        },
      );
      small_clause = (subst SmallRule (rule_read g l.i h) (small_at f l.i (omega (arith, f.whole)))
          ).clause;
      ready = record { long = l.invariant.2; table = c.requires.ready.table; seen = l.invariant.3 };
    }

pub plus-count-requires : goal.plus-count-requires
plus-count-requires c = (
  trying_few
      c.loop-i.invariant.0,
  c.spread_clause-more.ensures.tells.few,
)

pub overflow_add-i : goal.overflow_add-i
overflow_add-i c = omega (
  arith,
  c.requires.formed.0.few,
  c.if-i-g.true,
)

pub offset_bounds-lists-i : goal.offset_bounds-lists-i
offset_bounds-lists-i c = omega (
  arith,
  c.requires.formed.0.few,
  c.if-i-g.true,
)

pub bounds-lists-i : goal.bounds-lists-i
bounds-lists-i c =
    omega (
      arith,
      c.requires.formed.0.few,
      c.requires.formed.1.long,
      c.if-i-g.true,
    )

pub loop-i-smaller-then-i-g : goal.loop-i-smaller-then-i-g
loop-i-smaller-then-i-g c =
    let l = c.loop-i in
    let f = c.requires.formed.0 in
    let x = c.requires.formed.1.nexts.next l.i
    (omega (
      arith,
      c.if-i-g.true,
      f.whole,
    )) in
    omega (
      arith,
      x.low,
      c.if-i-g.true,
      f.few,
    )

pub loop-i-preserved-then-i-g : goal.loop-i-preserved-then-i-g
loop-i-preserved-then-i-g c =
    let g = c.args.g in
    let l = c.loop-i in
    let f = c.requires.formed.0 in
    let h = c.if-i-g.true in
    let x = c.spread_clause-more.ensures in (
      trying_turn (omega (arith, h, f.whole)) c.requires.formed.1 l.invariant.0
          (spread_rule (sym (rule_read g l.i h)) x) c.plus-count.ensures,
      l.invariant.1,
      x.long,
      x.seen,
    )

pub noted-parted-requires : goal.noted-parted-requires
noted-parted-requires c = c.loop-i.invariant.1

pub offset_bounds-reach-p : goal.offset_bounds-reach-p
offset_bounds-reach-p c =
    let a = c.args in
    omega (
      arith,
      c.pair_at-p.ensures,
      pairs_few a.n c.requires.room.0.few,
      pair_at_below a.n a.start a.len c.requires.room.0.fits,
    )

pub bounds-reach-p : goal.bounds-reach-p
bounds-reach-p c =
    let a = c.args in
    omega (
      arith,
      c.pair_at-p.ensures,
      c.requires.room.1.enough,
      trying_long c.loop-i.invariant.0,
      pair_at_below a.n a.start a.len c.requires.room.0.fits,
    )

pub shape_of-seen-in-None : goal.shape_of-seen-in-None
shape_of-seen-in-None c = c.loop-i.invariant.2
    ∙ sym c.requires.ready.long

pub shape_of-reach-in-None : goal.shape_of-reach-in-None
shape_of-reach-in-None c = trying_long c.loop-i.invariant.0

pub returns-in-None : goal.returns-in-None
returns-in-None c =
    let z : Works c.args.words.now (rules_of c.args.g) c.args.n c.args.start c.args.len c.args.k
    c.args.reach.now c.loop-i.reach c.loop-i.done c.noted-parted.result =
    trying_end (small_at c.requires.formed.0) c.requires.room.0.fits
    (omega (arith, c.if-i-g.false, c.requires.formed.0.whole))
    c.loop-i.invariant.0 c.noted-parted.ensures in
    let l = c.loop-i in
    let a = c.args in
    let x : Fresh (get_or l.reach (pair_at a.n a.start a.len) 0) l.done None =
    subst₂ (λ (p : ℕ) (m : Option ℕ). Fresh (get_or l.reach p 0) l.done m)
    c.pair_at-p.ensures
    c.in-None.is c.fresh-m.ensures in
    record {
      long = l.invariant.2;
      seen = l.invariant.3;
      spreads = λ w e y m. working_end (rules_of a.g) w a.n a.start a.len a.reach.now
          l.reach l.done c.noted-parted.result
          (small_at c.requires.formed.0)
          (z.working w e y m) x;
    }

pub with-done-requires : goal.with-done-requires
with-done-requires c =
    let y : Fresh (get_or c.loop-i.reach (pair_at c.args.n c.args.start c.args.len) 0) c.loop-i.done
    (Some c.in-Some.b) =
    subst₂ (λ (p : ℕ) (m : Option ℕ). Fresh (get_or c.loop-i.reach p 0) c.loop-i.done m)
    c.pair_at-p.ensures c.in-Some.is c.fresh-m.ensures in
    y.0

pub overflow_cast-i : goal.overflow_cast-i
overflow_cast-i c =
    let y : Fresh (get_or c.loop-i.reach (pair_at c.args.n c.args.start c.args.len) 0) c.loop-i.done
    (Some c.in-Some.b) =
    subst₂ (λ (p : ℕ) (m : Option ℕ). Fresh (get_or c.loop-i.reach p 0) c.loop-i.done m)
    c.pair_at-p.ensures c.in-Some.is c.fresh-m.ensures in
    omega (arith, y.0)

pub offset_bounds-lists-b : goal.offset_bounds-lists-b
offset_bounds-lists-b c =
    let y : Fresh (get_or c.loop-i.reach (pair_at c.args.n c.args.start c.args.len) 0) c.loop-i.done
    (Some c.in-Some.b) =
    subst₂ (λ (p : ℕ) (m : Option ℕ). Fresh (get_or c.loop-i.reach p 0) c.loop-i.done m)
    c.pair_at-p.ensures c.in-Some.is c.fresh-m.ensures in
    omega (arith, y.0)

pub bounds-lists-b : goal.bounds-lists-b
bounds-lists-b c =
    let y : Fresh (get_or c.loop-i.reach (pair_at c.args.n c.args.start c.args.len) 0) c.loop-i.done
    (Some c.in-Some.b) =
    subst₂ (λ (p : ℕ) (m : Option ℕ). Fresh (get_or c.loop-i.reach p 0) c.loop-i.done m)
    c.pair_at-p.ensures c.in-Some.is c.fresh-m.ensures in
    omega (
      arith,
      y.0,
      c.requires.formed.1.long,
    )

pub loop-i-smaller : goal.loop-i-smaller
loop-i-smaller c =
    let y : Fresh (get_or c.loop-i.reach (pair_at c.args.n c.args.start c.args.len) 0) c.loop-i.done
    (Some c.in-Some.b) =
    subst₂ (λ (p : ℕ) (m : Option ℕ). Fresh (get_or c.loop-i.reach p 0) c.loop-i.done m)
    c.pair_at-p.ensures c.in-Some.is c.fresh-m.ensures in
    let l = c.loop-i in
    let bound : c.with-done.result < 2 ^ 64 = search rules in
    omega (
      arith,
      c.with-done.ensures,
      insert_more l.done _
          y.2,
      bound,
    )

pub loop-i-preserved : goal.loop-i-preserved
loop-i-preserved c =
    let z : Works c.args.words.now (rules_of c.args.g) c.args.n c.args.start c.args.len c.args.k
    c.args.reach.now c.loop-i.reach c.loop-i.done c.noted-parted.result =
    trying_end (small_at c.requires.formed.0) c.requires.room.0.fits
    (omega (arith, c.if-i-g.false, c.requires.formed.0.whole))
    c.loop-i.invariant.0 c.noted-parted.ensures in
    let y : Fresh (get_or c.loop-i.reach (pair_at c.args.n c.args.start c.args.len) 0) c.loop-i.done
    (Some c.in-Some.b) =
    subst₂ (λ (p : ℕ) (m : Option ℕ). Fresh (get_or c.loop-i.reach p 0) c.loop-i.done m)
    c.pair_at-p.ensures c.in-Some.is c.fresh-m.ensures in
    let a = c.args in
    let l = c.loop-i in (
      rw c.with-done.ensures
          (trying_begin a.words.now (rules_of a.g) a.n a.start a.len a.k
          c.in-Some.b y.0 c.requires.formed.1
          z
          y.1),
      y.0,
      l.invariant.2,
      l.invariant.3,
    )
