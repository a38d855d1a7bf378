use Prim.Native.Nat.{ℕ}
use native.Mathlib.Omega.{arith}
use mathlib.Core.Path.{◌≡◌, ap, subst}
use lib.ListN.{length, length-replicate}
use Rattle.cuts.specs.Joining.{Joins}
use Rattle.cut_tables.specs.Tables.{EndBits, StartBits}
use Rattle.cut_tables.proofs.TurnLaws.{joins_zero, joins_next}
use Rattle.cut_tables.proofs.TableLaws.{columns_made}
use Rattle.cut_tables.proofs.load_columns.Goals as goal

pub loop-start-init : goal.loop-start-init
loop-start-init c = let a = c.args in
    (omega arith, joins_zero (EndBits a.words.now a.n) _)

pub load_ends-requires : goal.load_ends-requires
load_ends-requires c = (
  record {
    few = c.requires.0.few;
    fits = omega (arith, c.loop-start-test.true);
    enough = c.requires.0.enough;
  },
  omega (
    arith,
    c.loop-start.invariant.1.long,
    ap length c.requires.1,
    length-replicate
        {A = ℕ} 4160 0,
  ),
)

pub loop-start-preserved : goal.loop-start-preserved
loop-start-preserved c =
    let a = c.args in
    let l = c.loop-start in (
      omega (arith, c.loop-start-test.true),
      joins_next (EndBits a.words.now a.n) l.start l.invariant.1
          c.load_ends.ensures,
    )

pub shape_of-cuts : goal.shape_of-cuts
shape_of-cuts c = c.loop-start.invariant.1.long

pub returns : goal.returns
returns c =
    let l = c.loop-start in
    let e : l.start ≡ c.args.n = omega (arith, l.invariant.0, c.loop-start-test.false) in
    columns_made _ _ _ _ c.requires.1
    (subst (λ (m : ℕ). Joins (StartBits c.args.words.now c.args.n m) c.args.cuts.now
    l.cuts) e l.invariant.1)
