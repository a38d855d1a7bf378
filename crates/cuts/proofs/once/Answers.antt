use mathlib.Core.Path.{refl}
use Rattle.cuts.proofs.once.Goals as goal

-- src/lib.rt:83:9
pub returns-then-has : goal.returns-then-has
returns-then-has c =
    record {
      one = c.with-one.ensures;
      met = λ m. c.with.ensures;
      new = λ n. absurd (n (c.has.ensures.is c.if-has.true));
    }

-- src/lib.rt:77:1
pub returns : goal.returns
returns c =
    record {
      one = c.with-one.ensures;
      met = λ m. absurd (c.has.ensures.isnt c.if-has.false m);
      new = λ n. refl;
    }
