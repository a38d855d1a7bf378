-- `pair_nodes::one_node` meets its contract.
use mathlib.Core.Path.{refl}
use Prim.Native.Nat.{ℕ}
use native.Mathlib.Omega.{arith}
use lib.Bits.{bit_and, and_le_r}
use Rattle.pair_nodes.proofs.PutLaws.{mask_any, mask_four, mask_both, begin_of}
use Rattle.pair_nodes.proofs.one_node.Goals as goal

pub returns : goal.returns
returns c =
    let k = c.keep_mask-inherited in
    let l = c.keep_mask-own in
    let m : ℕ = bit_and k.result l.result in
    record {
      kids = refl;
      sort = refl;
      first = refl;
      second = refl;
      keep = mask_four m (mask_both k.result l.result k.ensures l.ensures);
      join = mask_any;
      apart = mask_any;
      begin = begin_of c.requires.2;
      next = λ g h j. absurd (omega (arith, j));
      fits =
          record {
            kids = omega arith;
            sort = c.requires.1;
            first = c.requires.2;
            second = omega arith;
            keep = omega (arith, and_le_r m 15);
            join = omega arith;
            apart = omega arith;
          };
      low = (omega (arith, c.type_inv.begins c.args.c), omega arith);
    }
