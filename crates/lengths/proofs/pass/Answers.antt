use mathlib.Core.Path.{◌≡◌}
use mathlib.Core.Option.{some}
use native.Mathlib.Omega.{arith}
use lib.ListN.{length, get_or, get_elem?}
use Rattle.grammar.specs.declared.Rule.{Rule}
use Rattle.grammar.specs.declared.Clause.TheVariants.{Empty}
use Rattle.grammar.specs.Content.{rules_of, SmallRule}
use Rattle.grammar.proofs.ChoiceLaws.{member_at}
use Rattle.acyclic.proofs.Growth.{rule_at}
use Rattle.lengths.proofs.Growing.{passed_none, passed_idle, passed_more, named_more}
use Rattle.lengths.proofs.Growing.{small_here}
use Rattle.lengths.proofs.pass.Lts
use Rattle.lengths.proofs.pass.Reads
use Rattle.lengths.proofs.pass.Tie
use Rattle.lengths.proofs.pass.Goals as goal

-- what is read where there is no rule: never met
abbrev blank : Rule
blank = record { left = 0; clause = Empty }

array : (c : Lts.Start Tie.the-claims Reads.Pre Reads.Post goal.the-invariant-loop-p
    goal.the-decreases-loop-p) → length c.args.g.rules ≡ 128
array c = c.well_formed.0.1.1.0.1.0.1

-- the rule at the loop's place
abbrev here : (c : Lts.In-loop Tie.the-claims Reads.Pre Reads.Post goal.the-invariant-loop-p
    goal.the-decreases-loop-p) → Rule
here c = get_or c.args.g.rules c.loop-p.p blank

rule : (c : Lts.In-loop Tie.the-claims Reads.Pre Reads.Post goal.the-invariant-loop-p
    goal.the-decreases-loop-p)
    → get_elem? (rules_of c.args.g) c.loop-p.p
    ≡ some (get_or c.args.g.rules c.loop-p.p blank)
rule c = rule_at c.args.g c.loop-p.p blank
    (array c.before.before) c.requires.0.few c.loop-p-test.true

-- and its numbers are in range
small : (c : Lts.In-loop Tie.the-claims Reads.Pre Reads.Post goal.the-invariant-loop-p
    goal.the-decreases-loop-p)
    → SmallRule (get_or c.args.g.rules c.loop-p.p blank)
small c = small_here c.requires.0 _ (rule c)

pub loop-p-init : goal.loop-p-init
loop-p-init c = (omega arith, passed_none c.requires.1)

pub offset_bounds-g-p : goal.offset_bounds-g-p
offset_bounds-g-p c = omega (arith, c.requires.0.few, c.loop-p-test.true)

pub bounds-g-p : goal.bounds-g-p
bounds-g-p c = omega (arith, c.requires.0.few, c.loop-p-test.true)

pub names-requires : goal.names-requires
names-requires c = (small c.before.before).clause

-- a rule that names nothing new gives nothing
pub loop-p-preserved-then-not-names : goal.loop-p-preserved-then-not-names
loop-p-preserved-then-not-names c =
    let l = c.loop-p in
    let n = c.names.ensures.isnt c.if-not-names.true in (
      omega (arith, c.loop-p-test.true),
      passed_idle (here c.before.before.before.before) (rule c.before.before.before.before)
          (c.requires.2.idle (here c.before.before.before.before)
          (member_at (rules_of c.args.g) l.p (rule c.before.before.before.before))
          (λ k. n (named_more c.args.new l.w.grown (here c.before.before.before.before).clause k)))
          l.invariant.1,
    )

pub grow-w-requires : goal.grow-w-requires
grow-w-requires c =
    (c.loop-p.invariant.1.sound.shaped, small c.before.before.before.before)

pub loop-p-preserved : goal.loop-p-preserved
loop-p-preserved c = (
  omega (arith, c.loop-p-test.true),
  passed_more (here c.before.before.before.before.before) c.requires.1.shaped
      (rule c.before.before.before.before.before) c.loop-p.invariant.1
      c.grow-w.ensures,
)

pub returns : goal.returns
returns c = let e : c.loop-p.p ≡ c.args.g.count =
    omega (arith, c.loop-p-test.false, c.loop-p.invariant.0) in rw e at c.loop-p.invariant.1
