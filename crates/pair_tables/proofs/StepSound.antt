-- WHAT A STEP PUTS INTO A SOUND TABLE MAY BE.
use mathlib.Core.Path.{◌≡◌, refl, sym, ap, ◌∙◌, subst}
use mathlib.Core.Logic.{◌⊎◌, inl, inr}
use mathlib.Core.List.{List}
use Prim.Native.Nat.{ℕ, suc, ◌+◌, ◌-◌, ◌*◌, ◌/◌, ◌%◌, ◌^◌, ◌≤◌, ◌<◌, min}
use native.Mathlib.Omega.{arith}
use native.Mathlib.Nat.{div-div-eq-div-mul, mod-eq_of_lt, mul-le-mul_right, mul-mod_left}
use native.Mathlib.Nat.{div-eq_of_lt}
use native.Mathlib.Decide.{dec_lt, ℕ_discrete}
use lib.Bits.{bit_and, and_le_r}
use lib.Pow.{pow-add, pow_mono, shl-shr}
use Rattle.pair_steps.proofs.ShapeNumbers.{shape_one, shape_low}
use Rattle.sets.specs.Sets.{In}
use Rattle.sets.proofs.Bits.{in_and}
use Rattle.grammar.specs.Trees.{Rules}
use Rattle.pairs.specs.Shapes.{Shape, rule_of_shape, Head}
use Rattle.pairs.specs.Relations.{Order, less, equal, more, order, Offset, Relation}
use Rattle.pairs.specs.Settings.{Point, at, start₁, cut₁, start₂, cut₂, stop₁, stop₂, setting}
use Rattle.pairs.specs.Settings.{next_by}
use Rattle.pairs.specs.Facts.{Fact, stand, against, sorts, behind, Might, of_node, of_sorts}
use Rattle.pairs.specs.Facts.{of_next}
use Rattle.pairs.proofs.OffsetLaws.{is_order}
use mathlib.Core.Bool.{Bool}
use Rattle.pair_offsets.specs.declared.Frame.{Frame}
use Rattle.pair_offsets.specs.Frames.{rank_of}
use Rattle.pair_offsets.specs.Codes.{order_code, offset_code, offset_of, bit_of}
use Rattle.pair_offsets.proofs.SayLaws.{code-of, offset_low}
use Rattle.pair_offsets.proofs.EvenLaws.{six_code}
use lib.ListN.{get_or}
use Rattle.pair_offsets.specs.Evens.{six_of}
use Rattle.pair_offsets.specs.Lists.{ListsEvens}
use Rattle.pair_steps.specs.declared.Node.{Node}
use Rattle.pair_steps.specs.declared.Words.{Words}
use Rattle.pair_steps.specs.Nodes.{NodeOf, shape_number}
use Rattle.pair_steps.specs.Leaving.{OffsetsFound}
use Rattle.pair_steps.specs.Tokens.{TokensLeave, SomeAt, PointsHave, TokensFound}
use Rattle.pair_steps.specs.Tables.{Proper, InTable, next_word, SoundTable, WordsOf, NextsOf}
use Rattle.pair_steps.specs.Suiting.{Suits}
use Rattle.pair_steps.proofs.StepLaws.{may_stand}
use Rattle.pair_steps.proofs.TokenLaws.{some_in}
use Rattle.pair_tables.specs.Stepping.{Put, relation_bits, next_place, Stepped, has_all}
use Rattle.pair_tables.specs.Stepping.{no_offsets, no_terminals, puts}
use Rattle.pair_tables.proofs.StepKept.{code_low}

-- 1. bits moved up, read back

four : (k : ℕ) → In 15 k → k < 4
four k i = by (dec_lt k 4)
  where
    by : Dec (k < 4) → k < 4
    by (yes h) = h
    by (no h) =
        let p : 4 ≤ k = omega arith in
        let q : 2 ^ 4 ≤ 2 ^ k = pow_mono p in
        let e : 15 / 2 ^ k ≡ 0 = div-eq_of_lt (omega arith) in
        absurd (omega (arith, i.digit, ap (λ (n : ℕ). n % 2) e))

pub record Moved (r b z : ℕ) : Type 0 where
  pub offset : ℕ
  pub low : offset < 4
  pub has : In r offset
  pub is : z ≡ b + offset

moved : (r b z : ℕ) → b ≤ 32 → In ((bit_and r 15 * 2 ^ b) % 2 ^ 64) z → Moved r b z
moved r b z l i = by (dec_lt z b)
  where
    y : ℕ
    y = bit_and r 15

    small : bit_and r 15 * 2 ^ b < 2 ^ 64
    small =
        let m : 2 ^ b ≤ 2 ^ 32 = pow_mono l in
        let p : bit_and r 15 * 2 ^ b ≤ 15 * 2 ^ b = mul-le-mul_right (2 ^ b) (and_le_r r 15) in
        omega arith

    digit : bit_and r 15 * 2 ^ b / 2 ^ z % 2 ≡ 1
    digit = sym (ap (λ (n : ℕ). n / 2 ^ z % 2) (mod-eq_of_lt small)) ∙ i.digit

    by : Dec (z < b) → Moved r b z
    by (yes h) =
        let e : b ≡ (b - suc z) + 1 + z = omega arith in
        let f : bit_and r 15 * 2 ^ b ≡ bit_and r 15 * 2 ^ (b - suc z) * 2 * 2 ^ z =
        ap (λ (n : ℕ). bit_and r 15 * 2 ^ n) e
        ∙ (ap (λ (n : ℕ). bit_and r 15 * n)
        (pow-add 2 ((b - suc z) + 1) z ∙ ap (λ (n : ℕ). n * 2 ^ z) (pow-add 2 (b - suc z) 1))
        ∙ omega arith) in
        let k : bit_and r 15 * 2 ^ b / 2 ^ z % 2 ≡ 0 =
        ap (λ (n : ℕ). n / 2 ^ z % 2) f
        ∙ (ap (λ (n : ℕ). n % 2) (shl-shr (bit_and r 15 * 2 ^ (b - suc z) * 2) z)
        ∙ mul-mod_left (bit_and r 15 * 2 ^ (b - suc z)) 2) in
        absurd (omega (arith, digit, k))
    by (no h) =
        let e : z ≡ b + (z - b) = omega arith in
        let d : In (bit_and r 15) (z - b) =
        record {
          digit =
              sym
              (ap (λ (n : ℕ). bit_and r 15 * 2 ^ b / 2 ^ n % 2) e
              ∙ (ap (λ (n : ℕ). bit_and r 15 * 2 ^ b / n % 2) (pow-add 2 b (z - b))
              ∙ (ap (λ (n : ℕ). n % 2) (sym (div-div-eq-div-mul (bit_and r 15 * 2 ^ b) (2 ^ b)
              (2 ^ (z - b)))) ∙ ap (λ (n : ℕ). n / 2 ^ (z - b) % 2) (shl-shr (bit_and r 15) b))))
              ∙ digit;
        } in
        let q = (in_and r 15 (z - b)).0 d in
        record { offset = z - b; low = four (z - b) q.1; has = q.0; is = e }

pub bits_moved : (f : Frame) (r z : ℕ) → In (relation_bits f r) z
    → Moved r (12 * order_code (order f.start f.begin)
    + 4 * order_code (order f.stop f.end)) z
bits_moved f r z i =
    moved r (12 * order_code (order f.start f.begin)
    + 4 * order_code (order f.stop f.end)) z
    (omega (arith, code_low (order f.start f.begin), code_low (order f.stop f.end))) i

-- 2. a terminal at each number, z at the stop that comes first

module _ (f : Frame) (x y : Node) (n : Words) (h : PointsHave f x y n) (z : ℕ)
    (e : TokensLeave f x y n (min f.stop f.end) z) where
  record Chosen (r : ℕ) : Type 0 where
    terminal : ℕ
    first : r ≡ min f.stop f.end → terminal ≡ z
    good : (p : Point) → r ≡ rank_of f p → TokensLeave f x y n r terminal

  some_at : (p : Point) → SomeAt f x y n (rank_of f p)
  some_at (at start₁) = h.start
  some_at (at cut₁) = h.cut
  some_at (at start₂) = h.begin
  some_at (at cut₂) = h.split
  some_at stop₁ = h.stop
  some_at stop₂ = h.end

  here : (p : Point) (r : ℕ) → (r ≡ min f.stop f.end → ⊥) → r ≡ rank_of f p → Chosen r
  here p r m k =
      record {
        terminal = (some_at p).terminal;
        first = λ q. absurd (m q);
        good = λ q j. subst (λ (s : ℕ). TokensLeave f x y n s (some_at p).terminal) (sym k)
            (some_at p).leaves;
      }

  choose : (r : ℕ) → Chosen r
  choose r =
      by (ℕ_discrete r (min f.stop f.end)) (ℕ_discrete r f.start) (ℕ_discrete r f.cut)
      (ℕ_discrete r f.begin) (ℕ_discrete r f.split) (ℕ_discrete r f.stop)
      (ℕ_discrete r f.end)
    where
      by : Dec (r ≡ min f.stop f.end) → Dec (r ≡ f.start) → Dec (r ≡ f.cut)
          → Dec (r ≡ f.begin)
          → Dec (r ≡ f.split) → Dec (r ≡ f.stop) → Dec (r ≡ f.end) → Chosen r
      by (yes k) a b c d g i =
          record {
            terminal = z;
            first = λ q. refl;
            good = λ q j. subst (λ (s : ℕ). TokensLeave f x y n s z) (sym k) e;
          }
      by (no m) (yes k) b c d g i = here (at start₁) r m k
      by (no m) (no a) (yes k) c d g i = here (at cut₁) r m k
      by (no m) (no a) (no b) (yes k) d g i = here (at start₂) r m k
      by (no m) (no a) (no b) (no c) (yes k) g i = here (at cut₂) r m k
      by (no m) (no a) (no b) (no c) (no d) (yes k) i = here stop₁ r m k
      by (no m) (no a) (no b) (no c) (no d) (no g) (yes k) = here stop₂ r m k
      by (no m) (no a) (no b) (no c) (no d) (no g) (no i) =
          record { terminal = 0; first = λ q. absurd (m q); good = none }
        where
          none : (p : Point) → r ≡ rank_of f p → TokensLeave f x y n r 0
          none (at start₁) k = absurd (a k)
          none (at cut₁) k = absurd (b k)
          none (at start₂) k = absurd (c k)
          none (at cut₂) k = absurd (d k)
          none stop₁ k = absurd (g k)
          none stop₂ k = absurd (i k)

  pub value : ℕ → ℕ
  value r = (choose r).terminal

  pub value_first : value (min f.stop f.end) ≡ z
  unfolding value
  value_first = (choose (min f.stop f.end)).first refl

  pub value_good : (p : Point) → TokensLeave f x y n (rank_of f p) (value (rank_of f p))
  unfolding value
  value_good p = (choose (rank_of f p)).good p refl

-- 3. orders and relations by their codes

order_one : (a b : Order) → order_code a ≡ order_code b → a ≡ b
order_one less less e = refl
order_one less equal e = absurd (omega arith)
order_one less more e = absurd (omega arith)
order_one equal less e = absurd (omega arith)
order_one equal equal e = refl
order_one equal more e = absurd (omega arith)
order_one more less e = absurd (omega arith)
order_one more equal e = absurd (omega arith)
order_one more more e = refl

relation_one : (r : Relation) (o p : Order) (c : Offset)
    → bit_of r ≡ 12 * order_code o + 4 * order_code p + offset_code c
    → r ≡ record { starts = o; stops = p; offset = c }
relation_one r o p c e =
    let a = code_low r.starts in
    let b = code_low r.stops in
    let d = offset_low r.offset in
    let o' = code_low o in
    let p' = code_low p in
    let c' = offset_low c in
    let x : order_code r.starts ≡ order_code o = omega arith in
    let y : order_code r.stops ≡ order_code p = omega arith in
    let z : offset_code r.offset ≡ offset_code c = omega arith in
    let u = order_one r.starts o x in
    let v = order_one r.stops p y in
    let w : r.offset ≡ c = sym (code-of r.offset) ∙ (ap offset_of z ∙ code-of c) in
    λ i. record { starts = u i; stops = v i; offset = w i }

-- 4. the step

module _ (g : Rules) (t : List ℕ) (so : SoundTable g t) (f : Frame) (hx hy : Head) (x y : Node)
    (nx : NodeOf g hx x)
    (ny : NodeOf g hy y) {i j : ℕ} (ix : i ≡ shape_number hx.shape)
    (iy : j ≡ shape_number hy.shape)
    (su : Suits f x.kids y.kids) (list : List ℕ) (from end : ℕ)
    (listed : ListsEvens f list from end)
    (w n : Words) (ws : WordsOf t x y (shape_number hx.shape) (shape_number hy.shape) w)
    (ns : NextsOf t f x y n)
    (r q : ℕ) (o : OffsetsFound f x y w list from end r) (v : TokensFound f x y n q) where
  record Stands (k z : ℕ) : Type 0 where
    six : ℕ
    val : ℕ → ℕ
    code : offset_code (six_of six start₁ start₂) ≡ k
    first : val (min f.stop f.end) ≡ z
    may : Might g (stand (setting (rank_of f) (six_of six) (λ p. val (rank_of f p))) hx hy)

  stands : (k z : ℕ) → In r k → In q z → Stands k z
  stands k z a b =
      let e = o.only k a in
      let d = v.only z b in
      record {
        six = get_or list e.place 0;
        val = value f x y n d.0 z d.2;
        code = (six_code (get_or list e.place 0)).0 ∙ e.starts;
        first = value_first f x y n d.0 z d.2;
        may =
            may_stand g t f hx hy x y nx ny w ws n ns so su (get_or list e.place 0)
            (listed.only e.place e.low e.high) e.leaves (value f x y n d.0 z d.2)
            (value_good f x y n d.0 z d.2);
      }

  next_is : (val : ℕ → ℕ) (z : ℕ) → val (min f.stop f.end) ≡ z
      → next_by (order f.stop f.end) (val f.stop) (val f.end) ≡ z
  next_is val z e = by (dec_lt f.stop f.end) (dec_lt f.end f.stop)
    where
      by : Dec (f.stop < f.end) → Dec (f.end < f.stop)
          → next_by (order f.stop f.end) (val f.stop) (val f.end) ≡ z
      by (yes h) k =
          let d : min f.stop f.end ≡ f.stop = omega arith in
          rw (is_order less f.stop f.end h) (ap val (sym d) ∙ e)
      by (no h) (yes k) =
          let d : min f.stop f.end ≡ f.end = omega arith in
          rw (is_order more f.stop f.end k) (ap val (sym d) ∙ e)
      by (no h) (no k) =
          let c : f.stop ≡ f.end = omega arith in
          let d : min f.stop f.end ≡ f.stop = omega arith in
          rw (is_order equal f.stop f.end c) (ap val (sym d) ∙ e)

  module _ (r_some : r ≡ 0 → ⊥) (q-some : q ≡ 0 → ⊥) where
    -- a bit that the step put into a word of relations
    relation_of : (rl : Relation) → In (relation_bits f r) (bit_of rl)
        → (m : ℕ) × (val : ℕ → ℕ) × (rl ≡ record {
          starts = order f.start f.begin;
          stops = order f.stop f.end;
          offset = six_of
              m start₁ start₂;
        }) × Might g (stand
        (setting (rank_of f) (six_of m) (λ p. val (rank_of f p))) hx hy)
    relation_of rl h =
        let mv = bits_moved f r (bit_of rl) h in
        let z = some_in q q-some in
        let s = stands mv.offset z.0 mv.has z.1 in (
          s.six,
          s.val,
          relation_one rl (order f.start f.begin) (order f.stop f.end)
              (six_of s.six start₁ start₂)
              (mv.is ∙ ap (λ (k : ℕ). 12 * order_code (order f.start f.begin)
              + 4 * order_code (order f.stop f.end) + k) (sym s.code)),
          s.may,
        )

    sort_low : (x.sort < 64) × (y.sort < 64)
    sort_low = (nx.small.0, ny.small.0)

    i_low : i < 384
    i_low = rw ix (shape_low hx.shape nx.place)

    put_sound : {u : List ℕ} {b : Bool}
        → Put t u (64 * i + y.sort) (24576 + (64 * x.sort + y.sort))
        (next_place f x.sort y.sort)
        (relation_bits f r) (relation_bits f r) q b → SoundTable g u
    put_sound {u} p = record { sound = all_sound }
      where
        node : (s : Shape) (B : ℕ) (rl : Relation) → (rule_of_shape s < 128) × (B < 64)
            → In (get_or t (64 * shape_number s + B) 0) (bit_of rl)
            ⊎ ((64 * shape_number s + B ≡ 64 * i + y.sort) × In (relation_bits f r) (bit_of rl))
            ⊎ ((64 * shape_number s + B ≡ 24576 + (64 * x.sort + y.sort))
            × In (relation_bits f r) (bit_of rl))
            ⊎ ((64 * shape_number s + B ≡ next_place f x.sort y.sort) × In q (bit_of rl))
            → Might g (against s B rl)
        node s B rl pr (inl h) = so.sound (against s B rl) pr h
        node s B rl pr (inr (inl h)) =
            let e = h.0 in
            let c = sort_low.1 in
            let d = pr.1 in
            let a : shape_number s ≡ i = omega arith in
            let b : B ≡ y.sort = omega arith in
            let m = relation_of rl h.1 in
            let u₁ = shape_one s hx.shape pr.0 nx.place (a ∙ ix) in
            let u₂ = b ∙ ny.sort in
            subst (Might g) (λ z. against (sym u₁ z) (sym u₂ z) (sym m.2 z)) (of_node m.3)
        node s B rl pr (inr (inr (inl h))) =
            absurd (omega (arith, h.0, shape_low s pr.0, pr.1))
        node s B rl pr (inr (inr (inr h))) =
            absurd (omega (arith, h.0, shape_low s pr.0, pr.1))

        both : (A B : ℕ) (rl : Relation) → (A < 64) × (B < 64)
            → In (get_or t (24576 + (64 * A + B)) 0) (bit_of rl)
            ⊎ ((24576 + (64 * A + B) ≡ 64 * i + y.sort) × In (relation_bits f r) (bit_of rl))
            ⊎ ((24576 + (64 * A + B) ≡ 24576 + (64 * x.sort + y.sort))
            × In (relation_bits f r) (bit_of rl))
            ⊎ ((24576 + (64 * A + B) ≡ next_place f x.sort y.sort) × In q (bit_of rl))
            → Might g (sorts A B rl)
        both A B rl pr (inl h) = so.sound (sorts A B rl) pr h
        both A B rl pr (inr (inl h)) = absurd (omega (arith, h.0, i_low, sort_low.1))
        both A B rl pr (inr (inr (inl h))) =
            let e = h.0 in
            let c = sort_low.1 in
            let d = pr.1 in
            let a : A ≡ x.sort = omega arith in
            let b : B ≡ y.sort = omega arith in
            let m = relation_of rl h.1 in
            let u₁ = a ∙ nx.sort in
            let u₂ = b ∙ ny.sort in
            subst (Might g) (λ z. sorts (sym u₁ z) (sym u₂ z) (sym m.2 z)) (of_sorts m.3)
        both A B rl pr (inr (inr (inr h))) = absurd (omega (arith, h.0, pr.0, pr.1))

        next : (A B : ℕ) (a b : Order) (z : ℕ) → (A < 64) × (B < 64)
            → In (next_word t A B a b) z
            ⊎ ((28672 + (9 * (64 * A + B) + (3 * order_code a + order_code b)) ≡ 64 * i + y.sort)
            × In (relation_bits f r) z)
            ⊎ ((28672 + (9 * (64 * A + B) + (3 * order_code a + order_code b)) ≡ 24576
            + (64 * x.sort + y.sort)) × In (relation_bits f r) z)
            ⊎ ((28672 + (9 * (64 * A + B) + (3 * order_code a + order_code b))
            ≡ next_place f x.sort y.sort) × In q z) → Might g (behind A B a b z)
        next A B a b z pr (inl h) = so.sound (behind A B a b z) pr h
        next A B a b z pr (inr (inl h)) = absurd (omega (arith, h.0, i_low, sort_low.1))
        next A B a b z pr (inr (inr (inl h))) =
            absurd (omega (arith, h.0, sort_low.0, sort_low.1))
        next A B a b z pr (inr (inr (inr h))) =
            let e = h.0 in
            let c₁ = code_low a in
            let c₂ = code_low b in
            let c₃ = code_low (order f.start f.begin) in
            let c₄ = code_low (order f.stop f.end) in
            let c₅ = sort_low.1 in
            let c₆ = pr.1 in
            let k : 64 * A + B ≡ 64 * x.sort + y.sort = omega arith in
            let k₁ : A ≡ x.sort = omega arith in
            let k₂ : B ≡ y.sort = omega arith in
            let k₃ : order_code a ≡ order_code (order f.start f.begin) = omega arith in
            let k₄ : order_code b ≡ order_code (order f.stop f.end) = omega arith in
            let u₁ = k₁ ∙ nx.sort in
            let u₂ = k₂ ∙ ny.sort in
            let u₃ = order_one a (order f.start f.begin) k₃ in
            let u₄ = order_one b (order f.stop f.end) k₄ in
            let o = some_in r r_some in
            let s = stands o.0 z o.1 h.1 in
            let u₅ = next_is s.val z s.first in
            subst (Might g) (λ y. behind (sym u₁ y) (sym u₂ y) (sym u₃ y) (sym u₄ y) (u₅ y))
            (of_next s.may)

        all_sound : (a : Fact) → Proper a → InTable u a → Might g a
        all_sound (stand σ x y) pr h = absurd pr
        all_sound (against s B rl) pr h =
            node s B rl pr (p.only (64 * shape_number s + B) (bit_of rl) h)
        all_sound (sorts A B rl) pr h = both A B rl pr (p.only (24576 + (64 * A + B)) (bit_of rl) h)
        all_sound (behind A B a b z) pr h =
            next A B a b z pr (p.only (28672
            + (9 * (64 * A + B) + (3 * order_code a + order_code b))) z h)

-- A STEP KEEPS A TABLE SOUND
pub step_sound : (g : Rules) (t : List ℕ) → SoundTable g t → (f : Frame) (hx hy : Head) (x y : Node)
    → NodeOf g hx x
    → NodeOf g hy y → {i j : ℕ} → i ≡ shape_number hx.shape → j ≡ shape_number hy.shape
    → Suits f x.kids y.kids → (list : List ℕ) (from end : ℕ) → ListsEvens f list from end
    → {u : List ℕ} {b : Bool} → Stepped f x y i j list from end t u b → SoundTable g u
step_sound g t so f hx hy x y nx ny ix iy su list from end l (has_all ws m h) = so
step_sound g t so f hx hy x y nx ny ix iy su list from end l (no_offsets ws o) = so
step_sound g t so f hx hy x y nx ny ix iy su list from end l (no_terminals ws o ns v) = so
step_sound g t so f hx hy x y nx ny ix iy su list from end l
    (puts {w = w} {n} {r} {q} ws o rs ns v qs p) =
    put_sound g t so f hx hy x y nx ny ix iy su list from end l w n (rw (ix, iy) at ws) ns r q o v
    rs qs p
