use native.Mathlib.Omega.{arith}
use Rattle.cut_tables.proofs.TurnLaws.{joins_least, joins_gone}
use Rattle.contained_spans.proofs.add_cuts.Invariants.{Cut}
use Rattle.contained_spans.proofs.add_cuts.Goals as goal

-- the cut lies within the span
pub overflow_sub-cut : goal.overflow_sub-cut
overflow_sub-cut c =
    let h = c.requires.space.1 _ (c.loop-cut.invariant.1 _ c.in-Some.ensures.steps.0.member) in
    omega (arith, h.0)

pub add_kids-requires : goal.add_kids-requires
add_kids-requires c =
    let l = c.loop-cut in
    let s = c.requires.space.0 in
    let h = c.requires.space.1 _ (l.invariant.1 _ c.in-Some.ensures.steps.0.member) in
    record {
      space = (
        record { few = s.few; fits = s.fits; enough = omega (arith, s.enough, l.invariant.0.long) },
        omega (arith, h.0, h.1),
      );
      small_clause = c.requires.small_clause;
    }

pub loop-cut-preserved : goal.loop-cut-preserved
loop-cut-preserved c =
    let a = c.args in
    let l = c.loop-cut in
    let m = c.in-Some.ensures.steps in
    rw m.1 (
      joins_least (Cut a.n a.start a.len a.c) a.set _ c.in-Some.cut m.0
          l.invariant.1 l.invariant.0
          c.add_kids.ensures,
      λ k i. l.invariant.1 k ((m.0.others k).0 i).0,
    )

pub shape_of-reach : goal.shape_of-reach
shape_of-reach c = c.loop-cut.invariant.0.long

pub returns : goal.returns
returns c = joins_gone _ _ _ c.in-None.ensures.steps.0 c.loop-cut.invariant.0
