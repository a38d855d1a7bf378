use mathlib.Core.Path.{◌≡◌, sym, ◌∙◌, subst}
use Prim.Native.Nat.{ℕ, ◌<◌}
use native.Mathlib.Omega.{arith}
use lib.Seq.{get_or-take}
use Rattle.grammar.proofs.Lists.{every_at}
use Rattle.grammar.specs.declared.Rule.{Rule}
use Rattle.grammar.specs.Content.{rules_of, SmallRule}
use Rattle.tables.specs.Tables.{no_rule}
use Rattle.chains.specs.Chains.{HoldsAt}
use Rattle.chains.specs.Reaching.{RuleCounted, Branches}
use Rattle.chains.proofs.CountLaws.{branches_none, branches_more}
use Rattle.chains.proofs.counts.Goals as goal

pub selves-requires : goal.selves-requires
selves-requires c = c.requires.seen_len.0

pub clear-requires : goal.clear-requires
clear-requires c =
    omega (arith, c.requires.seen_len.1)

pub loop-i-init : goal.loop-i-init
loop-i-init c = let a = c.args in let k = c.clear.ensures in (
  omega arith,
  branches_none (rules_of a.g) (HoldsAt a.l) a.e a.base.now
      c.selves.ensures
      (k.past.long ∙ c.requires.seen_len.1) k.zeros,
)

pub bounds-g-i : goal.bounds-g-i
bounds-g-i c = omega (
  arith,
  c.requires.formed.few,
  c.loop-i-test.true,
)

pub count_rule-requires : goal.count_rule-requires
count_rule-requires c = let g = c.args.g in
    let l = c.loop-i in
    let h : l.i < g.count = c.loop-i-test.true in record {
      small_rule = subst SmallRule (get_or-take g.count g.rules l.i no_rule h)
          (every_at SmallRule no_rule (rules_of g) c.requires.formed.small l.i
          (omega (arith, c.requires.formed.whole)));
      seen_len = (l.invariant.1.wide, l.invariant.1.wide₂, c.requires.seen_len.2);
    }

pub loop-i-smaller : goal.loop-i-smaller
loop-i-smaller c = omega (
  arith,
  c.loop-i-test.true,
)

pub loop-i-preserved : goal.loop-i-preserved
loop-i-preserved c = let a = c.args in
    let g = a.g in
    let l = c.loop-i in
    let k = c.count_rule in
    let h : l.i < g.count =
    c.loop-i-test.true in (
      omega arith,
      branches_more (rules_of g) (HoldsAt a.l) a.e a.base.now l.i
          (omega (arith, c.requires.formed.whole))
          (subst (λ (r : Rule). RuleCounted (HoldsAt a.l) a.e.one a.e.two a.base.now
          r.left r.clause l.seen k.new.seen l.twice k.new.twice)
          (sym (get_or-take g.count g.rules l.i no_rule h)) k.ensures)
          l.invariant.1,
    )

pub shape_of-seen : goal.shape_of-seen
shape_of-seen c = c.loop-i.invariant.1.wide ∙ sym
    c.requires.seen_len.0

pub shape_of-twice : goal.shape_of-twice
shape_of-twice c = c.loop-i.invariant.1.wide₂ ∙ sym
    c.requires.seen_len.1

pub returns : goal.returns
returns c = let l = c.loop-i in
    let a = c.args in
    subst (λ (x : ℕ). Branches (rules_of a.g) (HoldsAt a.l) a.e a.base.now x l.seen
    l.twice) (let z : l.i ≡ a.g.count = omega (arith, l.invariant.0, c.loop-i-test.false) in
    z) l.invariant.1
