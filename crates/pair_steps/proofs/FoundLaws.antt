-- The offsets that two nodes over a frame can have.
use mathlib.Core.Path.{◌≡◌}
use mathlib.Core.List.{List}
use Prim.Native.Nat.{ℕ, ◌/◌, ◌%◌}
use native.Mathlib.Omega.{arith}
use lib.ListN.{get_or}
use Rattle.sets.specs.Sets.{In}
use Rattle.sets.proofs.Sets.{in_zero}
use Rattle.pair_offsets.specs.declared.Frame.{Frame}
use Rattle.pair_offsets.specs.declared.Masks.{Masks}
use Rattle.pair_offsets.specs.Lists.{Held, OffsetsLeft}
use Rattle.pair_steps.specs.declared.Node.{Node}
use Rattle.pair_steps.specs.declared.Words.{Words}
use Rattle.pair_steps.specs.Leaving.{Narrowed, StartsLeave, StartCutLeave, CutStartLeave}
use Rattle.pair_steps.specs.Leaving.{CutsLeave}
use Rattle.pair_steps.specs.Leaving.{OwnLeave, first_stop_of, second_stop, LeavesBy, Leaves}
use Rattle.pair_steps.specs.Leaving.{StartsMost, OffsetsFound}
use Rattle.pair_steps.proofs.NarrowLaws.{fifteen}

module _ (f : Frame) (x y : Node) (w : Words) (list : List ℕ) (from end : ℕ) where
  -- nothing is left to two starts
  none_left : (n : ℕ → ℕ) → ((z : ℕ) → Leaves f x y w z → In 0 (n z))
      → OffsetsFound f x y w list from end 0
  none_left n h =
      record {
        all = λ k e.
            absurd (in_zero (n (get_or list e.place 0)) (h (get_or list e.place 0) e.leaves));
        only = λ k i. absurd (in_zero k i);
      }

  module _ {t v u s : ℕ} (et : t ≡ first_stop_of x.kids f.cut f.stop)
      (ev : v ≡ first_stop_of y.kids f.split f.end) (eu : u ≡ second_stop x.kids f.stop)
      (es : s ≡ second_stop y.kids f.end) where
    leaves_by : (n : ℕ) → Leaves f x y w n → LeavesBy f x y w t v u s n
    leaves_by n e = rw (et, ev, eu, es) e

    by_leaves : (n : ℕ) → LeavesBy f x y w t v u s n → Leaves f x y w n
    by_leaves n e = rw (et, ev, eu, es) at e

    pub found_all : (m : Masks) {r : ℕ} → Narrowed 15 (StartsLeave f x y t v w) m.ac
        → Narrowed 15 (StartCutLeave f x y t s w) m.an
        → Narrowed 15 (CutStartLeave f x y u v w) m.mc
        → Narrowed 15 (CutsLeave f x y u s w) m.mn
        → Narrowed 15 (OwnLeave f.start f.cut f.stop x) m.am
        → Narrowed 15 (OwnLeave f.begin f.split f.end y) m.cn
        → OffsetsLeft list from end m r → OffsetsFound f x y w list from end r
    found_all m {r} ac an mc mn am cn o =
        record {
          all = λ k e.
              o.all k
              (record {
                place = e.place;
                low = e.low;
                high = e.high;
                held = to (get_or list e.place 0) (leaves_by (get_or list e.place 0) e.leaves);
                starts = e.starts;
              });
          only = λ k i.
              let e = o.only k i in
              record {
                place = e.place;
                low = e.low;
                high = e.high;
                leaves = by_leaves (get_or list e.place 0) (of (get_or list e.place 0) e.held);
                starts = e.starts;
              };
        }
      where
        to : (n : ℕ) → LeavesBy f x y w t v u s n → Held m n
        to n e =
            record {
              ac = ac.keeps (n % 4) (fifteen (n % 4) (omega arith)) e.ac;
              an = an.keeps (n / 4 % 4) (fifteen (n / 4 % 4) (omega arith)) e.an;
              mc = mc.keeps (n / 16 % 4) (fifteen (n / 16 % 4) (omega arith)) e.mc;
              mn = mn.keeps (n / 64 % 4) (fifteen (n / 64 % 4) (omega arith)) e.mn;
              am = am.keeps (n / 256 % 4) (fifteen (n / 256 % 4) (omega arith)) e.am;
              cn = cn.keeps (n / 1024 % 4) (fifteen (n / 1024 % 4) (omega arith)) e.cn;
            }

        of : (n : ℕ) → Held m n → LeavesBy f x y w t v u s n
        of n h =
            record {
              ac = (ac.only (n % 4) h.ac).1;
              an = (an.only (n / 4 % 4) h.an).1;
              mc = (mc.only (n / 16 % 4) h.mc).1;
              mn = (mn.only (n / 64 % 4) h.mn).1;
              am = (am.only (n / 256 % 4) h.am).1;
              cn = (cn.only (n / 1024 % 4) h.cn).1;
            }

  pub none_ac : {t v ac : ℕ} → t ≡ first_stop_of x.kids f.cut f.stop
      → v ≡ first_stop_of y.kids f.split f.end → Narrowed 15 (StartsLeave f x y t v w) ac
      → ac ≡ 0 → OffsetsFound f x y w list from end 0
  none_ac et ev n z =
      none_left (λ n. n % 4)
      (λ k e. rw z at (n.keeps (k % 4) (fifteen (k % 4) (omega arith)) (rw (et, ev) e.ac)))

  pub none_an : {t s an : ℕ} → t ≡ first_stop_of x.kids f.cut f.stop
      → s ≡ second_stop y.kids f.end
      → Narrowed 15 (StartCutLeave f x y t s w) an → an ≡ 0 → OffsetsFound f x y w list from end 0
  none_an et es n z =
      none_left (λ n. n / 4 % 4)
      (λ k e. rw z at (n.keeps (k / 4 % 4) (fifteen (k / 4 % 4) (omega arith))
      (rw (et, es) e.an)))

  pub none_mc : {u v mc : ℕ} → u ≡ second_stop x.kids f.stop
      → v ≡ first_stop_of y.kids f.split f.end
      → Narrowed 15 (CutStartLeave f x y u v w) mc → mc ≡ 0 → OffsetsFound f x y w list from end 0
  none_mc eu ev n z =
      none_left (λ n. n / 16 % 4)
      (λ k e. rw z at (n.keeps (k / 16 % 4) (fifteen (k / 16 % 4) (omega arith))
      (rw (eu, ev) e.mc)))

-- at most
pub starts-most : {f : Frame} {x y : Node} {w : Words} {t v r : ℕ}
    → t ≡ first_stop_of x.kids f.cut f.stop
    → v ≡ first_stop_of y.kids f.split f.end → Narrowed 15 (StartsLeave f x y t v w) r
    → StartsMost f x y w r
starts-most et ev n = record { has = λ k h p. n.keeps k (fifteen k h) (rw (et, ev) p) }
