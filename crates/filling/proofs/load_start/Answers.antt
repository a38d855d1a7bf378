use mathlib.Core.Path.{refl, sym, ◌∙◌}
use native.Mathlib.Omega.{arith}
use Rattle.filling.proofs.ClosingLaws.{ending}
use Rattle.filling.proofs.load_start.Goals as goal

-- src/lib.rt:164:5
pub begin-requires : goal.begin-requires
begin-requires c =
    record { room = c.requires.room; rows_len = c.requires.rows_len; columns = c.requires.columns }

-- src/lib.rt:166:5
pub loop-len-init : goal.loop-len-init
loop-len-init c = (
  omega arith,
  omega (
    arith,
    c.requires.room.fits,
  ),
  c.begin.ensures,
  refl,
)

-- src/lib.rt:167:9
pub load-requires : goal.load-requires
load-requires c =
    let l = c.loop-len.invariant in record {
      room = (
        record {
          few = c.requires.room.few;
          fits = omega (arith, c.loop-len-test.true);
          enough = c.requires.room.enough;
        },
        omega
            (arith, l.0),
      );
      mirrors = l.2;
    }

-- src/lib.rt:166:5
pub loop-len-preserved : goal.loop-len-preserved
loop-len-preserved c = let l = c.loop-len.invariant in (
  omega (arith, l.0),
  omega
      (arith, c.loop-len-test.true),
  c.load.ensures,
  c.load.auto.cols ∙ l.3,
)

-- src/lib.rt:158:1
pub shape_of-rows : goal.shape_of-rows
shape_of-rows c = c.loop-len.invariant.2.wide ∙ sym
    c.requires.rows_len

-- src/lib.rt:158:1
pub shape_of-cols : goal.shape_of-cols
shape_of-cols c = c.loop-len.invariant.3 ∙ c.begin.auto.cols

-- src/lib.rt:158:1
pub returns : goal.returns
returns c = ending (omega (arith, c.loop-len-test.false)) c.loop-len.invariant.2
