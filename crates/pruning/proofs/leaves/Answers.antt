use mathlib.Core.Path.{◌≡◌, subst}
use Prim.Native.Nat.{ℕ}
use native.Mathlib.Omega.{arith}
use Rattle.pruning.specs.Tables.{Gathered}
use Rattle.pruning.proofs.TableLaws.{gathered_none, gathered_skip, gathered_more}
use Rattle.pruning.proofs.TableLaws.{united_or}
use Rattle.grammar.specs.Content.{rules_of}
use Rattle.pruning.proofs.leaves.Goals as goal

pub loop-x-init : goal.loop-x-init
loop-x-init c = (omega arith, gathered_none _ _ _)

pub has-requires : goal.has-requires
has-requires c = c.loop-x-test.true

pub loop-x-preserved-then-not-has : goal.loop-x-preserved-then-not-has
loop-x-preserved-then-not-has c = (
  omega (arith, c.loop-x-test.true),
  gathered_skip
      c.loop-x.invariant.1
      (c.has.ensures.isnt c.if-not-has.true),
)

pub leaf_pair-l-requires : goal.leaf_pair-l-requires
leaf_pair-l-requires c = record { formed = c.requires.formed; empty_pair = c.requires.empty_pair }

pub write-requires : goal.write-requires
write-requires c = omega (
  arith,
  c.loop-x-test.true,
  c.loop-x.invariant.1.past.long,
  c.requires.table_len,
)

pub loop-x-preserved : goal.loop-x-preserved
loop-x-preserved c = (
  omega (
    arith,
    c.loop-x-test.true,
  ),
  gathered_more
      c.loop-x.invariant.1 c.loop-x-test.true c.leaf_pair-l.ensures c.write.ensures
      (united_or _ _) (united_or _ _),
)

pub shape_of-table : goal.shape_of-table
shape_of-table c = c.loop-x.invariant.1.past.long

pub returns : goal.returns
returns c =
    let a = c.args in
    let l = c.loop-x in
    let e : l.x ≡ 64 = omega (arith, l.invariant.0, c.loop-x-test.false) in
    subst (λ (x : ℕ). Gathered (rules_of a.g) a.set x a.table.now l.table l.any
    l.twice) e l.invariant.1
