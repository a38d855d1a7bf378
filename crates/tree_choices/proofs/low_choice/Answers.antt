use native.Mathlib.Omega.{arith}
use Rattle.grammar.proofs.Lists.{get_elem?_take}
use Rattle.grammar.specs.Content.{rules_of}
use Rattle.grammar.specs.SpanSheet.{part}
use Rattle.grammar.specs.Sentences.{spelled}
use Rattle.tree_choices.proofs.PickLaws.{choice_near, charted, next_some, next_at}
use Rattle.tree_choices.proofs.LowLaws.{higher_none, low_step, low_there}
use Rattle.tree_choices.proofs.LowLaws.{step_inside, rank_less}
use Rattle.tree_choices.proofs.low_choice.Goals as goal

pub search-init : goal.search-init
search-init c =
    let a = c.args in
    let r = c.requires.ready.0 in (
      omega arith,
      omega arith,
      higher_none c.requires.height_sheet a.a a.start
          a.len (omega (arith, c.requires.ready.1, r.positioned.whole)),
    )

pub unwrap-found-requires : goal.unwrap-found-requires
unwrap-found-requires c =
    let a = c.args in
    next_some _ _ _ _ _ c.next_choice.result c.next_choice.ensures
    (low_there c.requires.height_sheet a.a a.start a.len
    (omega (arith, c.requires.ready.1, c.requires.ready.0.positioned.whole))
    c.search.from.rule c.search.from.left c.requires.has_choice c.search.invariant.2)

pub step_of-st-requires : goal.step_of-st-requires
step_of-st-requires c =
    let a = c.args in
    let r = c.requires.ready.0 in
    let x = next_at (rules_of a.g) a.a (part (spelled a.s) a.start a.len) c.search.from.rule
    c.search.from.left _ _ c.next_choice.ensures c.unwrap-found.ensures in
    choice_near (charted r) a.a a.start a.len _ _ c.requires.ready.1 x.choice

pub height_of-requires : goal.height_of-requires
height_of-requires c =
    let a = c.args in
    let r = c.requires.ready.0 in
    let x = next_at (rules_of a.g) a.a (part (spelled a.s) a.start a.len) c.search.from.rule
    c.search.from.left _ _ c.next_choice.ensures c.unwrap-found.ensures in
    let e = c.step_of-st.ensures x.choice.takes.rule
    (get_elem?_take a.g.rules a.g.count _ x.choice.takes.stands) in
    let i = step_inside r.formed (spelled a.s) a.a a.start a.len _ _ x.choice c.step_of-st.result
    e in
    record {
      few = r.positioned.few;
      fits = c.requires.ready.1;
      long = c.requires.height_sheet.long;
      small = i.0;
      split = i.1;
    }

pub returns-then-height_of-least : goal.returns-then-height_of-least
returns-then-height_of-least c =
    let a = c.args in
    let r = c.requires.ready.0 in
    let x = next_at (rules_of a.g) a.a (part (spelled a.s) a.start a.len) c.search.from.rule
    c.search.from.left _ _ c.next_choice.ensures c.unwrap-found.ensures in
    let e = c.step_of-st.ensures x.choice.takes.rule
    (get_elem?_take a.g.rules a.g.count _ x.choice.takes.stands) in
    (low_step c.requires.height_sheet a.a a.start a.len
    (omega (arith, c.requires.ready.1, r.positioned.whole)) a.s.count r.positioned.whole
    c.search.from.rule c.search.from.left c.unwrap-found.result.rule c.unwrap-found.result.left
    c.search.invariant.2 x c.step_of-st.result e c.height_of.result c.high-least.result
    c.height_of.ensures c.high-least.ensures).0
    c.if-height_of-least.true

pub overflow_add-from : goal.overflow_add-from
overflow_add-from c =
    let a = c.args in
    let r = c.requires.ready.0 in
    let x = next_at (rules_of a.g) a.a (part (spelled a.s) a.start a.len) c.search.from.rule
    c.search.from.left _ _ c.next_choice.ensures c.unwrap-found.ensures in
    omega (arith, choice_near (charted r) a.a a.start a.len _ _ c.requires.ready.1 x.choice)

pub search-smaller : goal.search-smaller
search-smaller c =
    let a = c.args in
    let r = c.requires.ready.0 in
    let x = next_at (rules_of a.g) a.a (part (spelled a.s) a.start a.len) c.search.from.rule
    c.search.from.left _ _ c.next_choice.ensures c.unwrap-found.ensures in
    let d = choice_near (charted r) a.a a.start a.len _ _ c.requires.ready.1 x.choice in
    rank_less _ _ _ _ c.search.invariant.0 c.search.invariant.1 d.0 d.1 x.late

pub search-preserved : goal.search-preserved
search-preserved c =
    let a = c.args in
    let r = c.requires.ready.0 in
    let x = next_at (rules_of a.g) a.a (part (spelled a.s) a.start a.len) c.search.from.rule
    c.search.from.left _ _ c.next_choice.ensures c.unwrap-found.ensures in
    let e = c.step_of-st.ensures x.choice.takes.rule
    (get_elem?_take a.g.rules a.g.count _ x.choice.takes.stands) in
    let d = choice_near (charted r) a.a a.start a.len _ _ c.requires.ready.1 x.choice in (
      omega (arith, d.0),
      omega (arith, d.1),
      (low_step c.requires.height_sheet a.a a.start a.len
          (omega (arith, c.requires.ready.1, r.positioned.whole)) a.s.count r.positioned.whole
          c.search.from.rule c.search.from.left c.unwrap-found.result.rule
          c.unwrap-found.result.left
          c.search.invariant.2 x c.step_of-st.result e c.height_of.result c.high-least.result
          c.height_of.ensures c.high-least.ensures).1
          (λ h. omega (arith, c.if-height_of-least.false)),
    )
