use native.Mathlib.Omega.{arith}
use Rattle.pair_entries.proofs.EntryLaws.{preparing, prepared, prepares}
use Rattle.pair_entries.proofs.prepare.Goals as goal

pub loop-s-init : goal.loop-s-init
loop-s-init c = preparing _ _ c.requires.1

pub add_starts-s-requires : goal.add_starts-s-requires
add_starts-s-requires c =
    let v = c.loop-s.invariant in record {
      search_words_in_bounds = (omega (arith, v.same.size, c.requires.0), v.most, v.few);
      le_free = (v.low, v.high);
    }

pub shape_of-words-then-s-eq-STARTS : goal.shape_of-words-then-s-eq-STARTS
shape_of-words-then-s-eq-STARTS c = (prepared c.loop-s.invariant
    c.add_starts-s.ensures).same.size

pub returns-then-s-eq-STARTS : goal.returns-then-s-eq-STARTS
returns-then-s-eq-STARTS c = prepared c.loop-s.invariant
    c.add_starts-s.ensures

pub shape_of-words-then-s-gt-FEW : goal.shape_of-words-then-s-gt-FEW
shape_of-words-then-s-gt-FEW c = (prepared c.loop-s.invariant c.add_starts-s.ensures).same.size

pub returns-then-s-gt-FEW : goal.returns-then-s-gt-FEW
returns-then-s-gt-FEW c = prepared c.loop-s.invariant c.add_starts-s.ensures

pub shape_of-words-then-s-gt-LAST_LIST : goal.shape_of-words-then-s-gt-LAST_LIST
shape_of-words-then-s-gt-LAST_LIST c =
    (prepared c.loop-s.invariant c.add_starts-s.ensures).same.size

pub returns-then-s-gt-LAST_LIST : goal.returns-then-s-gt-LAST_LIST
returns-then-s-gt-LAST_LIST c = prepared c.loop-s.invariant c.add_starts-s.ensures

pub loop-s-smaller : goal.loop-s-smaller
loop-s-smaller c = omega (
  arith,
  c.loop-s.invariant.most,
  c.add_starts-s.ensures.next,
)

pub loop-s-preserved : goal.loop-s-preserved
loop-s-preserved c = prepares (prepared
    c.loop-s.invariant
    c.add_starts-s.ensures)
    c.if-s-eq-STARTS.false (omega arith) (omega arith)
