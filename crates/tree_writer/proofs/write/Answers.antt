use mathlib.Core.Path.{refl}
use native.Mathlib.Omega.{arith}
use Rattle.rows.proofs.StepLaws.{kids_le}
use Rattle.tree_writer.proofs.Turn.{running_start, running_over, running_done}
use Rattle.tree_writer.proofs.Turn.{laid_none, popped, within, has_choice}
use Rattle.tree_writer.proofs.Turn.{chosen_split, chosen_turn, chosen_over}
use Rattle.tree_writer.proofs.write.Goals as goal

pub returns-then-places-eq0 : goal.returns-then-places-eq0
returns-then-places-eq0 c = λ u _. laid_none _ _ _ c.if-places-eq0.true
    c.clear.ensures u

pub overflow_cast-s : goal.overflow_cast-s
overflow_cast-s c =
    omega (arith, c.requires.ready.positioned.few)

pub loop-top-init : goal.loop-top-init
loop-top-init c = running_start c.requires.ready c.requires.wanted _ _ _ (omega arith) (omega arith)
    c.put.ensures

pub look-st-requires : goal.look-st-requires
look-st-requires c = record {
  ready = (
    c.requires.ready,
    omega (
      arith,
      within (popped c.requires.ready c.loop-top.invariant c.loop-top-test.true),
      c.requires.ready.positioned.whole,
    ),
  );
  has_choice = has_choice
      (popped c.requires.ready c.loop-top.invariant c.loop-top-test.true);
}

pub overflow_add-n : goal.overflow_add-n
overflow_add-n c = omega (
  arith,
  c.kids-more.ensures,
  kids_le c.look-st.result.kind,
  c.loop-top.invariant.state.room,
  c.loop-top-test.true,
  c.well_formed,
)

pub returns-then-top-n : goal.returns-then-top-n
returns-then-top-n c =
    let h = chosen_over (popped c.requires.ready c.loop-top.invariant c.loop-top-test.true)
    c.requires.ready.formed.distinct
    c.look-st.ensures
    (omega (
      arith,
      c.if-top-n.true,
      c.kids-more.ensures,
    )) in
    running_over c.requires.ready c.loop-top.invariant h _ _ c.put.auto.out refl
    c.clear-then-top-n.ensures

pub overflow_mul-n : goal.overflow_mul-n
overflow_mul-n c =
    omega (arith, c.loop-top.invariant.state.room, c.loop-top-test.true, c.well_formed)

pub overflow_add-top : goal.overflow_add-top
overflow_add-top c = omega (arith, c.loop-top-test.true, c.well_formed)

pub branch-top-requires : goal.branch-top-requires
branch-top-requires c =
    record {
      within = omega (
        arith,
        c.put-in-loop-top.auto.out,
        c.loop-top.invariant.state.within,
        c.loop-top-test.true,
      );
      room = omega (
        arith,
        c.if-top-n.false,
        c.kids-more.ensures,
      );
      part = omega (
        arith,
        within (popped c.requires.ready c.loop-top.invariant
            c.loop-top-test.true),
        c.requires.ready.positioned.few,
        c.requires.ready.positioned.whole,
      );
      less = chosen_split (popped c.requires.ready c.loop-top.invariant c.loop-top-test.true)
          c.requires.ready.formed.distinct c.look-st.ensures;
    }

pub loop-top-preserved : goal.loop-top-preserved
loop-top-preserved c =
    record {
      tree = c.loop-top.invariant.tree;
      goal = c.loop-top.invariant.goal;
      state =
          chosen_turn (popped c.requires.ready c.loop-top.invariant c.loop-top-test.true)
          c.requires.ready.formed.distinct
          c.look-st.ensures (omega (
            arith,
            c.if-top-n.false,
            c.kids-more.ensures,
          )) _ _ _
          (rw (c.from-kind.ensures, c.start_of.ensures) at c.put-in-loop-top.ensures)
          c.branch-top.ensures;
      same = omega (
        arith,
        c.branch-top.auto,
        c.put-in-loop-top.auto,
        c.loop-top.invariant.same,
      );
    }

pub returns : goal.returns
returns c = running_done c.requires.ready
    c.loop-top.invariant
    c.loop-top-test.false _ _
    c.put.auto.out c.clear-2.ensures
