use mathlib.Core.Path.{subst}
use Prim.Native.Nat.{ℕ}
use native.Mathlib.Omega.{arith}
use Rattle.spans.specs.Changes.{WrotePair}
use Rattle.spans.proofs.Places.{pair_at_below}
use Rattle.filling.proofs.ClosingLaws.{found_joins, closing}
use Rattle.filling.proofs.close.Goals as goal

-- src/lib.rt:78:9
pub find-t-requires : goal.find-t-requires
find-t-requires c =
    let m = c.requires.mirrors in record {
      formed = c.requires.formed;
      len_nonzero =
          (c.requires.room.1, omega (arith, c.requires.room.0.few, c.requires.room.0.fits));
      rows_len = (m.wide, omega (arith, m.long, c.requires.room.0.fits));
      table_len = c.requires.begins.1.size;
    }

-- src/lib.rt:80:5
pub write-requires : goal.write-requires
write-requires c = omega (
  arith,
  c.pair_at-q.ensures,
  c.requires.room.0.enough,
  pair_at_below
      c.args.n c.args.start c.args.len c.requires.room.0.fits,
)

-- src/lib.rt:85:5
pub put-requires : goal.put-requires
put-requires c =
    let m = c.requires.mirrors in record {
      start_lt_end = (
        omega (arith, c.requires.room.1),
        omega
            (arith, c.requires.room.0.few, c.requires.room.0.fits),
      );
      rows_len = (m.wide, omega (arith, m.long, c.requires.room.0.fits));
    }

-- src/lib.rt:56:1
pub returns : goal.returns
returns c =
    let a = c.args in
    let t = c.find-t.result in
    let m = c.requires.mirrors in
    let wrote = subst (λ (x : ℕ). WrotePair a.words.now c.write.new.words x t.one t.two)
    c.pair_at-q.ensures c.write.ensures in
    let few = c.requires.room.0.few in
    let fit = c.requires.room.0.fits in record {
      cut_joins =
          found_joins few fit c.requires.formed.0.small m c.requires.begins.0 c.requires.begins.1
          c.find-t.ensures wrote;
      mirrors_2 = closing a.words.now c.write.new.words a.n a.start a.len a.rows.now
          a.cols.now c.put.new.rows c.put.new.cols t few fit c.requires.room.1 wrote
          c.put.ensures.put_row c.put.ensures.put_pair m;
    }
