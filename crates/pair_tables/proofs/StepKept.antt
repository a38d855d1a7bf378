-- WHERE A STEP ADDS NOTHING, the table has what may be of its nodes over its frame.
use mathlib.Core.Path.{◌≡◌, sym, ap, ◌∙◌, subst}
use mathlib.Core.Bool.{Bool, true}
use mathlib.Core.List.{List}
use Prim.Native.Nat.{ℕ, ◌+◌, ◌*◌, ◌/◌, ◌%◌, ◌^◌, ◌≤◌, ◌<◌, min}
use native.Mathlib.Omega.{arith}
use native.Mathlib.Nat.{div-div-eq-div-mul, mod-eq_of_lt, mul-le-mul_right}
use lib.Bits.{bit_and, and_le_r}
use lib.Pow.{pow-add, pow_mono, shl-shr}
use lib.ListN.{get_or}
use Rattle.sets.specs.Sets.{In}
use Rattle.sets.proofs.Sets.{in_zero}
use Rattle.sets.proofs.Bits.{in_and}
use Rattle.grammar.specs.Trees.{Rules}
use Rattle.pairs.specs.Shapes.{Head}
use Rattle.pairs.specs.Relations.{Order, less, equal, more, order, Offset}
use Rattle.pairs.specs.Settings.{Corner, start₁, start₂, Point, setting}
use Rattle.pair_offsets.specs.declared.Frame.{Frame}
use Rattle.pair_offsets.specs.Frames.{rank_of}
use Rattle.pair_offsets.specs.Codes.{order_code, offset_code}
use Rattle.pair_offsets.specs.Lists.{ListsEvens}
use Rattle.pair_offsets.proofs.SayLaws.{offset_low}
use Rattle.pair_steps.specs.declared.Node.{Node}
use Rattle.pair_steps.specs.declared.Words.{Words}
use Rattle.pair_steps.specs.Nodes.{NodeOf, shape_number}
use Rattle.pair_steps.specs.Leaving.{Leaves, StartsMost, OffsetsFound}
use Rattle.pair_steps.specs.Tokens.{PointsHave, TokensFound}
use Rattle.pair_steps.specs.Tables.{LowTable, WordsOf, NextsOf}
use Rattle.pair_steps.specs.Closing.{ToldBy, Kept}
use Rattle.pair_steps.proofs.NarrowLaws.{fifteen}
use Rattle.pair_steps.proofs.CompleteLaws.{Found, found}
use Rattle.pair_tables.specs.Stepping.{Put, relation_bits, next_place, HasAll, Stepped, has_all}
use Rattle.pair_tables.specs.Stepping.{no_offsets, no_terminals, puts}

-- 1. bits moved up

pub code_low : (o : Order) → order_code o ≤ 2
code_low less = omega arith
code_low equal = omega arith
code_low more = omega arith

in_shl : (y b k : ℕ) → y ≤ 15 → b ≤ 32 → In y k → In ((y * 2 ^ b) % 2 ^ 64) (b + k)
in_shl y b k h l i =
    let m : 2 ^ b ≤ 2 ^ 32 = pow_mono l in
    let p : y * 2 ^ b ≤ 15 * 2 ^ b = mul-le-mul_right (2 ^ b) h in
    let q : y * 2 ^ b < 2 ^ 64 = omega arith in
    let e : y * 2 ^ b / 2 ^ (b + k) ≡ y / 2 ^ k =
    ap (λ (n : ℕ). y * 2 ^ b / n) (pow-add 2 b k)
    ∙ sym (div-div-eq-div-mul (y * 2 ^ b) (2 ^ b) (2 ^ k))
    ∙ ap (λ (n : ℕ). n / 2 ^ k) (shl-shr y b) in
    record {
      digit =
          ap (λ (n : ℕ). n / 2 ^ (b + k) % 2) (mod-eq_of_lt q) ∙ ap (λ (n : ℕ). n % 2) e ∙ i.digit;
    }

bits_in : (f : Frame) (r k : ℕ) → k < 4 → In r k
    → In (relation_bits f r)
    (12 * order_code (order f.start f.begin) + 4 * order_code (order f.stop f.end) + k)
bits_in f r k h i =
    in_shl (bit_and r 15) (12 * order_code (order f.start f.begin)
    + 4 * order_code (order f.stop f.end)) k (and_le_r r 15)
    (omega (arith, code_low (order f.start f.begin), code_low (order f.stop f.end)))
    ((in_and r 15 k).1 (i, fifteen k h))

-- 2. the step

module _ (g : Rules) (t : List ℕ) (low : LowTable t) (f : Frame) (hx hy : Head) (x y : Node)
    (nx : NodeOf g hx x)
    (ny : NodeOf g hy y) {i j : ℕ} (ix : i ≡ shape_number hx.shape)
    (iy : j ≡ shape_number hy.shape)
    (list : List ℕ) (from end : ℕ) (listed : ListsEvens f list from end)
    (l : Corner → Corner → Offset) (z : Point → ℕ)
    (told : ToldBy g t (setting (rank_of f) l z) hx hy) where
  module _ (w n : Words) (ws : WordsOf t x y (shape_number hx.shape) (shape_number hy.shape) w)
      (ns : NextsOf t f x y n) where
    fd : Found g t low f hx hy x y nx ny w ws n ns l z
    fd =
        found g t low f hx hy x y nx ny w ws n ns l z
        (record { fit = told.fit; lies = told.lies; goes = told.goes })

    offset_found : (r : ℕ) → OffsetsFound f x y w list from end r
        → In r (offset_code (l start₁ start₂))
    offset_found r o =
        let p = listed.all fd.six fd.low_six fd.even in
        o.all (offset_code (l start₁ start₂))
        (record {
          place = p.0;
          low = p.1;
          high = p.2;
          leaves = subst (Leaves f x y w) (sym p.3) fd.leaves;
          starts = ap (λ (k : ℕ). k % 4) p.3 ∙ fd.starts;
        })

    have : PointsHave f x y n
    have =
        record {
          start = record {
            terminal = fd.val f.start;
            low = fd.small f.start;
            leaves = fd.good f.start;
          };
          cut = record {
            terminal = fd.val f.cut;
            low = fd.small f.cut;
            leaves = fd.good
                f.cut;
          };
          begin = record {
            terminal = fd.val f.begin;
            low = fd.small f.begin;
            leaves = fd.good f.begin;
          };
          split = record {
            terminal = fd.val f.split;
            low = fd.small f.split;
            leaves = fd.good f.split;
          };
          stop = record {
            terminal = fd.val f.stop;
            low = fd.small f.stop;
            leaves = fd.good
                f.stop;
          };
          end = record {
            terminal = fd.val f.end;
            low = fd.small f.end;
            leaves = fd.good
                f.end;
          };
        }

    terminal_found : (q : ℕ) → TokensFound f x y n q → In q (fd.val (min f.stop f.end))
    terminal_found q o =
        let m = min f.stop f.end in
        o.all have (fd.val m) (fd.small m) (fd.good m)

  as_words : {w : Words} → WordsOf t x y i j w
      → WordsOf t x y (shape_number hx.shape) (shape_number hy.shape) w
  as_words v = rw (ix, iy) at v

  put_kept : {u : List ℕ} {w n : Words} {r q : ℕ} {b : Bool} → WordsOf t x y i j w
      → OffsetsFound f x y w list from end r → NextsOf t f x y n → TokensFound f x y n q
      → Put t u (64 * i + y.sort) (24576 + (64 * x.sort + y.sort))
      (next_place f x.sort y.sort)
      (relation_bits f r) (relation_bits f r) q b → b ≡ true
      → Kept t (setting (rank_of f) l z) hx hy
  put_kept {u} {w} {n} {r} {q} ws o ns v p e =
      let s = as_words ws in
      let d = p.still e in
      let k = offset_found w n s ns r o in
      let c = bits_in f r (offset_code (l start₁ start₂))
      (omega (arith, offset_low (l start₁ start₂))) k in
      let e₁ : get_or u (64 * i + y.sort) 0 ≡ get_or t (64 * shape_number hx.shape + hy.sort) 0 =
      λ a. get_or (d a) (64 * ix a + ny.sort a) 0 in
      let e₂ : get_or u (24576 + (64 * x.sort + y.sort)) 0
      ≡ get_or t (24576 + (64 * hx.sort + hy.sort)) 0 =
      λ a. get_or (d a) (24576 + (64 * nx.sort a + ny.sort a)) 0 in
      let e₃ : get_or u (next_place f x.sort y.sort) 0
      ≡ get_or t (next_place f hx.sort hy.sort) 0 =
      λ a. get_or (d a) (next_place f (nx.sort a) (ny.sort a)) 0 in
      let bit : ℕ =
      12 * order_code (order f.start f.begin) + 4 * order_code (order f.stop f.end)
      + offset_code (l start₁ start₂) in
      let m = (fd w n s ns).val (min f.stop f.end) in
      record {
        node = subst (λ (a : ℕ). In a bit) e₁ (p.has₁ bit c);
        sort = subst (λ (a : ℕ). In a bit) e₂ (p.has₂ bit c);
        next = λ a.
            subst (In (get_or t (next_place f hx.sort hy.sort) 0)) ((fd w n s ns).next a)
            (subst (λ (b : ℕ). In b m) e₃ (p.has₃ m (terminal_found w n s ns q v)));
      }

  has_kept : {w : Words} {m : ℕ} → WordsOf t x y i j w → StartsMost f x y w m → HasAll f x y i m t
      → Kept t (setting (rank_of f) l z) hx hy
  has_kept {w} {m} ws s h =
      let d = fd w h.nexts (as_words ws) h.read in
      let k = offset_code (l start₁ start₂) in
      let lo : k < 4 = omega (arith, offset_low (l start₁ start₂)) in
      let c =
      bits_in f m k lo
      (subst (In m) d.starts (s.has (d.six % 4) (omega arith) d.leaves.ac)) in
      let bit : ℕ = 12 * order_code (order f.start f.begin)
      + 4 * order_code (order f.stop f.end) + k in
      let e₁ : get_or t (64 * i + y.sort) 0 ≡ get_or t (64 * shape_number hx.shape + hy.sort) 0 =
      λ a. get_or t (64 * ix a + ny.sort a) 0 in
      let e₂ : get_or t (24576 + (64 * x.sort + y.sort)) 0
      ≡ get_or t (24576 + (64 * hx.sort + hy.sort)) 0 =
      λ a. get_or t (24576 + (64 * nx.sort a + ny.sort a)) 0 in
      let e₃ : get_or t (next_place f x.sort y.sort) 0
      ≡ get_or t (next_place f hx.sort hy.sort) 0 =
      λ a. get_or t (next_place f (nx.sort a) (ny.sort a)) 0 in
      let p = min f.stop f.end in
      record {
        node = subst (λ (a : ℕ). In a bit) e₁ (h.node bit c);
        sort = subst (λ (a : ℕ). In a bit) e₂ (h.sort bit c);
        next = λ a.
            subst (In (get_or t (next_place f hx.sort hy.sort) 0)) (d.next a)
            (subst (λ (b : ℕ). In b (d.val p)) e₃ (h.next (d.val p) (d.small p) (d.good p)));
      }

  -- A STEP THAT ADDS NOTHING
  pub step_kept : {u : List ℕ} {b : Bool} → Stepped f x y i j list from end t u b → b ≡ true
      → (n : Words) → NextsOf t f x y n → Kept t (setting (rank_of f) l z) hx hy
  step_kept (has_all ws s h) e n ns = has_kept ws s h
  step_kept (no_offsets {w = w} ws o) e n ns =
      absurd (in_zero (offset_code (l start₁ start₂)) (offset_found w n (as_words ws) ns 0 o))
  step_kept (no_terminals {w = w} {n} ws o ns v) e m ms =
      absurd
      (in_zero ((fd w n (as_words ws) ns).val (min f.stop f.end))
      (terminal_found w n (as_words ws) ns 0 v))
  step_kept (puts ws o z ns v y p) e m ms = put_kept ws o ns v p e
