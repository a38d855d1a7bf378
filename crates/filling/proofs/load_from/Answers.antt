use borrow.Author.Rules.{rules}
use mathlib.Core.Path.{◌≡◌, refl, sym, ◌∙◌, subst}
use Prim.Native.Nat.{ℕ, ◌+◌, ◌-◌}
use native.Mathlib.Omega.{arith}
use Rattle.filling.specs.Closing.{Columns}
use Rattle.filling.proofs.load_from.Goals as goal

-- src/lib.rt:180:5
pub loop-start-init : goal.loop-start-init
loop-start-init c = (
  omega (arith, c.requires.room.fits),
  omega arith,
  c.requires.rows_len,
  c.requires.columns,
  refl,
)

-- src/lib.rt:181:9
-- src/lib.rt:182:9
pub load_start-requires : goal.load_start-requires
load_start-requires c =
    let l = c.loop-start in
    let e : l.start ≡ l.start - 1 + 1 = omega (arith, c.loop-start-test.true) in record {
      room = record {
        few = c.requires.room.few;
        fits = omega (arith, l.invariant.1, c.loop-start-test.true);
        enough = c.requires.room.enough;
      };
      rows_len = l.invariant.2;
      columns = subst
          (λ (x : ℕ). Columns c.args.words.now c.args.n x l.cols) e l.invariant.3;
    }

-- src/lib.rt:180:5
pub loop-start-smaller : goal.loop-start-smaller
loop-start-smaller c =
    omega (arith, c.loop-start-test.true)

-- src/lib.rt:180:5
pub loop-start-preserved : goal.loop-start-preserved
loop-start-preserved c = let l = c.loop-start.invariant in (
  omega (
    arith,
    c.loop-start-test.true,
  ),
  omega (arith, l.1),
  search rules,
  c.load_start.ensures,
  c.load_start.auto.cols ∙ l.4,
)

-- src/lib.rt:173:1
pub shape_of-rows : goal.shape_of-rows
shape_of-rows c = c.loop-start.invariant.2 ∙ sym c.requires.rows_len

-- src/lib.rt:173:1
pub shape_of-cols : goal.shape_of-cols
shape_of-cols c = c.loop-start.invariant.4

-- src/lib.rt:173:1
pub returns : goal.returns
returns c =
    let a = c.args in
    let l = c.loop-start in
    let e : l.start ≡ a.to = omega (arith, c.loop-start-test.false, l.invariant.0) in
    subst (λ (x : ℕ). Columns a.words.now a.n x l.cols) e l.invariant.3
