use mathlib.Core.Path.{◌≡◌}
use native.Mathlib.Omega.{arith}
use borrow.Author.Rules.{rules}
use Rattle.pair_entries.proofs.EntryLaws.{lists_same, list_of, entered_zero, entered_more}
use Rattle.pair_entries.proofs.enter_all.Goals as goal

pub loop-s-init : goal.loop-s-init
loop-s-init c = (entered_zero _ _ _ _, omega arith)

pub enter-m-requires : goal.enter-m-requires
enter-m-requires c =
    let v = c.loop-s.invariant.0 in
    let r = c.requires in record {
      search_words_in_bounds = (
        omega (arith, v.size, r.search_words_in_bounds.0),
        omega
            (arith, v.high, r.search_words_in_bounds.1),
        omega (arith, r.search_words_in_bounds.2),
      );
      lists_evens = (
        list_of _ _ (omega arith) (omega arith)
            (lists_same (λ i h k. v.behind i (omega (arith, r.lists_evens.1))) r.lists_evens.0),
        r.lists_evens.1,
      );
    }

pub loop-s-preserved : goal.loop-s-preserved
loop-s-preserved c = (
  entered_more _ c.loop-s.invariant.0
      c.enter-m.ensures,
  search rules,
)

pub shape_of-words : goal.shape_of-words
shape_of-words c = c.loop-s.invariant.0.size

pub returns : goal.returns
returns c =
    let e : c.loop-s.s ≡ 36 = omega arith in
    rw e at c.loop-s.invariant.0
