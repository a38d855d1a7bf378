-- `pair_nodes::tip_node` meets its contract.
use mathlib.Core.Path.{refl}
use native.Mathlib.Omega.{arith}
use Rattle.pair_nodes.proofs.PutLaws.{mask_any}
use borrow.Author.Rules.{rules}
use Rattle.pair_nodes.proofs.tip_node.Goals as goal

pub returns : goal.returns
returns c =
    record {
      kids = refl;
      sort = refl;
      first = refl;
      second = refl;
      keep = mask_any;
      join = mask_any;
      apart = mask_any;
      begin = λ g h. c.range-begin.ensures;
      next = λ g h j. absurd (omega (arith, j));
      fits =
          record {
            kids = omega arith;
            sort = c.requires.0;
            first = omega arith;
            second = omega arith;
            keep = omega arith;
            join = omega arith;
            apart = omega arith;
          };
      low = (search rules, omega arith);
    }
