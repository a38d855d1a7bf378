-- `pair_nodes::two_node` meets its contract.
use mathlib.Core.Path.{refl}
use native.Mathlib.Omega.{arith}
use lib.Bits.{and_le_r}
use Rattle.pair_nodes.proofs.PutLaws.{mask_four, begin_of}
use Rattle.pair_nodes.proofs.two_node.Goals as goal

pub returns : goal.returns
returns c =
    let k = c.keep_mask-keep in
    let l = c.join_mask-join in
    let m = c.part_mask-apart in
    record {
      kids = refl;
      sort = refl;
      first = refl;
      second = refl;
      keep = mask_four k.result k.ensures;
      join = mask_four l.result l.ensures;
      apart = mask_four m.result m.ensures;
      begin = begin_of c.requires.2;
      next = λ g h j. begin_of c.requires.3 g h;
      fits =
          record {
            kids = omega arith;
            sort = c.requires.1;
            first = c.requires.2;
            second = c.requires.3;
            keep = omega (arith, and_le_r k.result 15);
            join = omega (arith, and_le_r l.result 15);
            apart = omega (arith, and_le_r m.result 15);
          };
      low = (
        omega (arith, c.type_inv.begins c.args.c),
        omega
            (arith, c.type_inv.begins c.args.d),
      );
    }
