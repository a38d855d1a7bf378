use mathlib.Core.Path.{◌≡◌, sym, subst}
use mathlib.Core.Bool.{true}
use Prim.Native.Nat.{ℕ, ◌*◌, ◌≤◌}
use native.Mathlib.Omega.{arith}
use lib.ListN.{length}
use borrow.Author.Tests.{not-true, not-false}
use Rattle.grammar.specs.Rows.{row_count}
use Rattle.grammar.specs.Content.{rules_of}
use Rattle.grammar.specs.SpanSheet.{part, pairs}
use Rattle.rows.specs.declared.Step.{Step}
use Rattle.tree_choices.specs.Picks.{PickedStep}
use Rattle.row_counts.specs.declared.Way.{Way}
use Rattle.row_counts.specs.Seconds.{Onward}
use Rattle.row_counts.proofs.CappedLaws.{capped_le}
use Rattle.row_counts.proofs.SizeLaws.{chosen_small}
use Rattle.row_counts.proofs.WalkLaws.{less_left}
use Rattle.row_counts.proofs.SecondLaws.{SecondGoing, Onway, second_start, second_choice}
use Rattle.row_counts.proofs.SecondLaws.{here_parted, here_end, split_le, onway, no_leaf}
use Rattle.row_counts.proofs.SecondLaws.{beside_some}
use Rattle.row_counts.proofs.SecondLaws.{second_all, second_large}
use Rattle.grammar.specs.Sentences.{spelled}
use Rattle.row_counts.proofs.walk_second.Lts
use Rattle.row_counts.proofs.walk_second.Reads
use Rattle.row_counts.proofs.walk_second.Tie
use Rattle.row_counts.proofs.walk_second.Goals as goal

-- what the way is for
way : (z : Lts.Start Tie.the-claims Reads.Pre Reads.Post goal.the-invariant-loop-total
    goal.the-decreases-loop-total Tie.handed_clauses) (b i l total : ℕ)
    (v : SecondGoing (rules_of z.args.g) (spelled z.args.s) b i l total) (st : Step)
    → PickedStep (rules_of z.args.g) b (part (spelled z.args.s) i l) true st
    → st.seeking ≡ true
    → (d : Way) → Onward z.args.words.now z.args.s.count st.kind i l d
    → Onway (rules_of z.args.g) (spelled z.args.s) (row_count v.wanted.tree) total d
way z b i l total v st c e d o =
    let p = z.requires.ready in
    onway p.formed v.walk st c e z.args.words.now p.sheet d
    (subst (λ (n : ℕ). Onward z.args.words.now n st.kind i l d) (sym p.positioned.whole) o)

pub overflow_cast-l : goal.overflow_cast-l
overflow_cast-l c = omega (arith, c.requires.ready.positioned.few)

pub loop-total-init : goal.loop-total-init
loop-total-init c =
    let a = c.args in
    second_start (rules_of a.g) (spelled a.s) a.s.count c.requires.ready.positioned.whole
    c.requires.wanted

pub choose-st-requires : goal.choose-st-requires
choose-st-requires c =
    let a = c.args in
    let v = c.loop-total.invariant in record {
      ready = (c.requires.ready, omega (arith, v.walk.fits, c.requires.ready.positioned.whole));
      has_choice = second_choice
          c.requires.ready.formed v.walk;
    }

pub under-requires : goal.under-requires
under-requires c =
    let loop = c.loop-total in
    let choose = c.choose-st in
    let a = c.args in
    let v = loop.invariant in record {
      ready = (c.requires.ready, omega (arith, v.walk.fits, c.requires.ready.positioned.whole));
      nulls = c.requires.nulls;
      parted_there = record {
        tree = v.walk.second;
        parted = here_parted c.requires.ready.formed
            v.walk choose.result choose.ensures (not-true _ c.if-not-st.true);
      };
    }

pub add-requires : goal.add-requires
add-requires c =
    let loop = c.loop-total in
    let choose = c.choose-st in
    let a = c.args in
    let v = loop.invariant in (
      v.walk.few,
      omega (
        arith,
        c.under.ensures v.walk.second
            (here_parted c.requires.ready.formed v.walk choose.result choose.ensures
            (not-true _ c.if-not-st.true)),
        capped_le (row_count v.walk.second),
      ),
    )

pub returns-then-not-st : goal.returns-then-not-st
returns-then-not-st c =
    let loop = c.loop-total in
    let choose = c.choose-st in
    let if1 = c.if-not-st in
    let v = loop.invariant in
    second_all c.requires.ready.formed.distinct v.wanted _
    (here_end c.requires.ready.formed v.walk choose.result choose.ensures
    c.under.result c.add.result (not-true _ if1.true)
    c.under.ensures c.add.ensures)

pub onward-d-requires : goal.onward-d-requires
onward-d-requires c =
    let loop = c.loop-total in
    let choose = c.choose-st in
    let a = c.args in
    let v = loop.invariant in
    let p = c.requires.ready in
    record {
      few = p.positioned.few;
      fits = omega (arith, v.walk.fits, p.positioned.whole);
      enough = subst (λ (n : ℕ). 2 * pairs n ≤ length a.words.now) p.positioned.whole
          p.sheet.enough;
      small = chosen_small p.formed choose.ensures;
      split = split_le p.formed v.walk choose.result choose.ensures;
      inner = no_leaf p.formed v.walk choose.result choose.ensures
          (not-false _ c.if-not-st.false) a.words.now p.sheet;
    }

pub beside-requires : goal.beside-requires
beside-requires c =
    let loop = c.loop-total in
    let choose = c.choose-st in
    let a = c.args in
    let v = loop.invariant in record {
      ready = c.requires.ready;
      nulls = c.requires.nulls;
      beside_there = (way c.before.before.before.before.before.before.before.before.before.before
          loop.a loop.i loop.l loop.total v choose.result
          choose.ensures (not-false _ c.if-not-st.false) c.onward-d.result
          c.onward-d.ensures).beside;
    }

pub add-total-requires : goal.add-total-requires
add-total-requires c =
    let loop = c.loop-total in
    let choose = c.choose-st in
    let if1 = c.if-not-st in
    let a = c.args in
    let v = loop.invariant in
    let w = way c.before.before.before.before.before.before.before.before.before.before.before
    loop.a loop.i loop.l loop.total v choose.result choose.ensures
    (not-false _ if1.false) c.onward-d.result c.onward-d.ensures in
    (v.walk.few, (beside_some _ _ _ _ w.beside c.beside.ensures).1)

pub loop-total-smaller : goal.loop-total-smaller
loop-total-smaller c =
    let loop = c.loop-total in
    let loop-test = c.loop-total-test in
    let choose = c.choose-st in
    let if1 = c.if-not-st in
    let onward = c.onward-d in
    let a = c.args in
    let v = loop.invariant in
    let w = way
    c.before.before.before.before.before.before.before.before.before.before.before.before loop.a
    loop.i loop.l loop.total v choose.result choose.ensures
    (not-false _ if1.false) onward.result onward.ensures in
    less_left loop.total c.beside.result c.add-total.result loop-test.true
    (beside_some _ _ _ _ w.beside c.beside.ensures).0 c.add-total.ensures

pub loop-total-preserved : goal.loop-total-preserved
loop-total-preserved c =
    let loop = c.loop-total in
    let choose = c.choose-st in
    let if1 = c.if-not-st in
    let onward = c.onward-d in
    let a = c.args in
    let v = loop.invariant in
    let w = way
    c.before.before.before.before.before.before.before.before.before.before.before.before loop.a
    loop.i loop.l loop.total v choose.result choose.ensures
    (not-false _ if1.false) onward.result onward.ensures in
    record {
      wanted = v.wanted;
      walk = w.on c.beside.result c.add-total.result
          c.beside.ensures c.add-total.ensures;
    }

pub returns : goal.returns
returns c =
    let a = c.args in
    let v = c.loop-total.invariant in
    second_all c.requires.ready.formed.distinct v.wanted _
    (second_large v.walk (λ h. omega (arith, c.loop-total-test.false)))
