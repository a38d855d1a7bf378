use mathlib.Core.Path.{◌≡◌, sym, ◌∙◌, subst}
use mathlib.Core.List.{[], ◌∷◌, ◌++◌}
use Prim.Native.Nat.{ℕ, ◌+◌, ◌<◌}
use native.Mathlib.Omega.{arith}
use native.Mathlib.Numerals.{add-one}
use lib.ListN.{length, get_or, set, take, length-set}
use lib.Seq.{get_or-take, length-take-le, take-suc-set}
use Rattle.sets.specs.Sets.{In}
use Rattle.grammar.specs.declared.Grammar.{Grammar}
use Rattle.grammar.specs.declared.Rule.{Rule}
use Rattle.grammar.specs.Content.{rules_of, SmallRule}
use Rattle.grammar.proofs.Lists.{mem_every}
use Rattle.acyclic.proofs.Growth.{rule_at, small_at}
use Rattle.tables.specs.Tables.{no_rule}
use Rattle.reachable_rules.specs.Steps.{Picked}
use Rattle.reachable_rules.proofs.PickLaws.{picked_none, picked_skip, picked_more, picked_of}
use Rattle.reachable_rules.proofs.PickLaws.{every_member}
use Rattle.reachable_rules.proofs.pick.Goals as goal

-- the rule at a place
read : (g : Grammar) (i : ℕ) → i < g.count
    → get_or (rules_of g) i no_rule ≡ get_or g.rules i no_rule
read g i h = get_or-take g.count g.rules i no_rule h

pub loop-i-init : goal.loop-i-init
loop-i-init c = (omega arith, omega arith, c.well_formed.0.1.1.0.1.0.1, picked_none _ _)

pub offset_bounds-g-i : goal.offset_bounds-g-i
offset_bounds-g-i c = omega (arith, c.requires.few)

pub bounds-g-i : goal.bounds-g-i
bounds-g-i c = omega (arith, c.requires.few)

pub has-requires : goal.has-requires
has-requires c =
    (small_at c.requires _ (rule_at c.args.g c.loop-i.i no_rule
    c.well_formed.0.1.1.0.1.0.1 c.requires.few
    c.loop-i-test.true)).left

pub loop-i-preserved-then-not-has : goal.loop-i-preserved-then-not-has
loop-i-preserved-then-not-has c =
    let l = c.loop-i in
    let set = c.args.set in (
      omega arith,
      omega (arith, l.invariant.1),
      l.invariant.2,
      picked_skip l.invariant.3
          (λ m. c.has.ensures.isnt c.if-not-has.true
          (subst (λ (r : Rule). In set r.left) (read c.args.g l.i c.loop-i-test.true) m)),
    )

pub offset_bounds-rules-m : goal.offset_bounds-rules-m
offset_bounds-rules-m c =
    omega (arith, c.loop-i.invariant.1, c.requires.few)

pub bounds-rules-m : goal.bounds-rules-m
bounds-rules-m c =
    omega (arith, c.loop-i.invariant.1, c.requires.few)

pub loop-i-preserved : goal.loop-i-preserved
loop-i-preserved c =
    let l = c.loop-i in
    let room : l.m < length l.rules =
    omega (arith, l.invariant.1, l.invariant.2, c.requires.few, c.loop-i-test.true) in
    let kept : In c.args.set (get_or (rules_of c.args.g) l.i no_rule).left = subst
    (λ (r : Rule). In c.args.set r.left) (sym (read c.args.g l.i c.loop-i-test.true))
    (c.has.ensures.is c.if-not-has.false) in
    let stored : take (l.m + 1) (set l.rules l.m (get_or c.args.g.rules l.i no_rule))
    ≡ take l.m l.rules ++ (get_or (rules_of c.args.g) l.i no_rule ∷ []) =
    rw (add-one l.m, read c.args.g l.i c.loop-i-test.true) (take-suc-set l.rules l.m _ room) in (
      omega arith,
      omega (arith, l.invariant.1),
      length-set l.rules l.m _ ∙ l.invariant.2,
      subst (Picked (rules_of c.args.g) c.args.set (l.i + 1)) (sym stored)
          (picked_more l.invariant.3 (omega (arith, c.requires.whole, c.loop-i-test.true)) kept),
    )

pub returns : goal.returns
returns c =
    let l = c.loop-i in
    let g = c.args.g in
    let e : l.i ≡ g.count = omega (arith, l.invariant.0, c.loop-i-test.false) in
    let f = subst (λ (i : ℕ). Picked (rules_of g) c.args.set i (take l.m l.rules)) e
    l.invariant.3 in (
      f,
      record {
        few = omega (arith, l.invariant.1, e, c.requires.few);
        whole = length-take-le l.m l.rules
            (omega (arith, l.invariant.1, l.invariant.2, e, c.requires.few));
        small = every_member _ (λ r m. mem_every SmallRule (rules_of g) c.requires.small
            (picked_of (omega (arith, c.requires.whole)) f r m));
        distinct = f.distinct c.requires.distinct;
      },
    )
