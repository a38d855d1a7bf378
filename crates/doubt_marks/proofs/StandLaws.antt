-- What the test of two nodes says: what it finds may stand, and what may stand it finds.
use mathlib.Core.Path.{◌≡◌, refl, sym, ap, ◌∙◌, subst}
use mathlib.Core.Bool.{Bool}
use mathlib.Core.List.{List, Memᴰ}
use Prim.Native.Nat.{ℕ, ◌+◌, ◌*◌, ◌/◌, ◌%◌, ◌≤◌, ◌<◌, min}
use native.Mathlib.Omega.{arith}
use native.Mathlib.Decide.{dec_lt}
use lib.ListN.{get_or}
use borrow.Author.Tests.{lt-ltb, le-ltb}
use Rattle.sets.specs.Says.{Says}
use Rattle.sets.proofs.Sets.{in_zero}
use Rattle.sets.proofs.Says.{says_iff}
use Rattle.grammar.specs.declared.UnaryMark.{UnaryMark}
use Rattle.grammar.specs.Trees.{Rules}
use Rattle.pairs.specs.Survey.{Inherits}
use Rattle.pairs.specs.Shapes.{Form, tip, one, two, Shape, rule_of_shape, Head, children}
use Rattle.pairs.specs.Relations.{equal, order, Offset}
use Rattle.pairs.specs.Settings.{Corner, start₁, cut₁, start₂, cut₂, Point, at, stop₁, stop₂}
use Rattle.pairs.specs.Settings.{Setting, setting}
use Rattle.pairs.specs.Facts.{stand, Might}
use Rattle.pairs.proofs.OffsetLaws.{is_order, is_of}
use Rattle.pair_offsets.specs.declared.Frame.{Frame}
use Rattle.pair_offsets.specs.Frames.{rank_of}
use Rattle.pair_offsets.specs.Codes.{offset_of}
use Rattle.pair_offsets.specs.Evens.{EvenOffsets, six_of, EvenSix}
use Rattle.pair_offsets.specs.Lists.{ListsEvens}
use Rattle.pair_steps.specs.declared.Node.{Node}
use Rattle.pair_steps.specs.declared.Words.{Words}
use Rattle.pair_steps.specs.Nodes.{kid_count, first_of, second_of, NodeOf, shape_number}
use Rattle.pair_steps.specs.Leaving.{StartsLeave, StartCutLeave, CutStartLeave, CutsLeave, OwnLeave}
use Rattle.pair_steps.specs.Leaving.{LeavesBy, Leaves, OffsetsFound}
use Rattle.pair_steps.specs.Tokens.{SomeAt, PointsHave, TokensFound}
use Rattle.pair_steps.specs.Tables.{LowTable, SoundTable, WordsOf, NextsOf}
use Rattle.pair_steps.specs.Suiting.{Placed, Suits}
use Rattle.pair_steps.specs.Ranks.{Ranked}
use Rattle.pair_steps.specs.Closing.{ClosedTable}
use Rattle.pair_steps.proofs.StepLaws.{may_stand}
use Rattle.pair_steps.proofs.TokenLaws.{some_in, min_low, min_high}
use Rattle.pair_steps.proofs.CompleteLaws.{Found, found}
use Rattle.pair_steps.proofs.ClosedLaws.{Least, ToldRanked, told_ranked}
use Rattle.pair_tables.proofs.StepSound.{value, value_good}
use Rattle.pair_nodes.specs.Slots.{node_at, Present, SlotOf}
use Rattle.pair_nodes.specs.Putting.{NodesMade}
use Rattle.doubt_marks.specs.Standing.{span_frame, words_at, nexts_at, StandsBy, MayOver}
use Rattle.doubt_marks.specs.Marking.{ChildOf}
use mathlib.Core.Logic.{inl, inr, ⊎_elim}

-- 1. the words of two nodes

words_one : {t : List ℕ} {x y : Node} {i j : ℕ} {w : Words} → WordsOf t x y i j w
    → w ≡ words_at t x y i j
words_one o = λ a.
    record {
      yc = o.yc a;
      yd = o.yd a;
      xc = o.xc a;
      xd = o.xd a;
      cc = o.cc a;
      cd = o.cd a;
      dc = o.dc a;
      dd = o.dd a;
    }

words_are : (t : List ℕ) (x y : Node) (i j : ℕ) → WordsOf t x y i j (words_at t x y i j)
words_are t x y i j =
    record {
      yc = refl;
      yd = refl;
      xc = refl;
      xd = refl;
      cc = refl;
      cd = refl;
      dc = refl;
      dd = refl;
    }

nexts_one : (t : List ℕ) (f : Frame) (x y : Node) {n : Words} → NextsOf t f x y n
    → n ≡ nexts_at t f x y
nexts_one t f x y o = λ a.
    record {
      yc = o.yc a;
      yd = o.yd a;
      xc = o.xc a;
      xd = o.xd a;
      cc = o.cc a;
      cd = o.cd a;
      dc = o.dc a;
      dd = o.dd a;
    }

nexts_are : (t : List ℕ) (f : Frame) (x y : Node) → NextsOf t f x y (nexts_at t f x y)
nexts_are t f x y =
    record {
      yc = refl;
      yd = refl;
      xc = refl;
      xd = refl;
      cc = refl;
      cd = refl;
      dc = refl;
      dd = refl;
    }

-- 2. a six of offsets below 4096

module _ (n : ℕ) where
  d₀ : n % 4096 % 4 ≡ n % 4
  d₀ = omega arith

  d₁ : n % 4096 / 4 % 4 ≡ n / 4 % 4
  d₁ = omega arith

  d₂ : n % 4096 / 16 % 4 ≡ n / 16 % 4
  d₂ = omega arith

  d₃ : n % 4096 / 64 % 4 ≡ n / 64 % 4
  d₃ = omega arith

  d₄ : n % 4096 / 256 % 4 ≡ n / 256 % 4
  d₄ = omega arith

  d₅ : n % 4096 / 1024 % 4 ≡ n / 1024 % 4
  d₅ = omega arith

  six_same : (c d : Corner) → six_of (n % 4096) c d ≡ six_of n c d
  six_same start₁ start₁ = refl
  six_same start₁ cut₁ = ap offset_of d₄
  six_same start₁ start₂ = ap offset_of d₀
  six_same start₁ cut₂ = ap offset_of d₁
  six_same cut₁ start₁ = ap offset_of d₄
  six_same cut₁ cut₁ = refl
  six_same cut₁ start₂ = ap offset_of d₂
  six_same cut₁ cut₂ = ap offset_of d₃
  six_same start₂ start₁ = ap offset_of d₀
  six_same start₂ cut₁ = ap offset_of d₂
  six_same start₂ start₂ = refl
  six_same start₂ cut₂ = ap offset_of d₅
  six_same cut₂ start₁ = ap offset_of d₁
  six_same cut₂ cut₁ = ap offset_of d₃
  six_same cut₂ start₂ = ap offset_of d₅
  six_same cut₂ cut₂ = refl

  low_even : {f : Frame} → EvenSix f n → EvenSix f (n % 4096)
  low_even {f} e =
      record { even = subst (EvenOffsets (rank_of f)) (λ i c d. sym (six_same c d) i) e.even }

  low_leaves : {f : Frame} {x y : Node} {w : Words} {t v u s : ℕ} → LeavesBy f x y w t v u s n
      → LeavesBy f x y w t v u s (n % 4096)
  low_leaves {f} {x} {y} {w} {t} {v} {u} {s} l =
      record {
        ac = subst (StartsLeave f x y t v w) (sym d₀) l.ac;
        an = subst (StartCutLeave f x y t s w) (sym d₁) l.an;
        mc = subst (CutStartLeave f x y u v w) (sym d₂) l.mc;
        mn = subst (CutsLeave f x y u s w) (sym d₃) l.mn;
        am = subst (OwnLeave f.start f.cut f.stop x) (sym d₄) l.am;
        cn = subst (OwnLeave f.begin f.split f.end y) (sym d₅) l.cn;
      }

-- 3. the test

first_some : {f : Frame} {x y : Node} {n : Words} → PointsHave f x y n → SomeAt f x y n
    (min f.stop f.end)
first_some {f} {x} {y} {n} p = by (dec_lt f.stop f.end)
  where
    by : Dec (f.stop < f.end) → SomeAt f x y n (min f.stop f.end)
    by (yes h) = subst (SomeAt f x y n) (min_low f.stop f.end h) p.stop
    by (no h) = subst (SomeAt f x y n) (min_high f.stop f.end h) p.end

module _ {t : List ℕ} {f : Frame} {x y : Node} {i j : ℕ} {list : List ℕ} {end : ℕ}
    (listed : ListsEvens f list 0 end)
    {w : Words} (ws : WordsOf t x y i j w) {r : ℕ} (o : OffsetsFound f x y w list 0 end r) where
  pub no_offset : r ≡ 0 → StandsBy t f x y i j → ⊥
  no_offset e s =
      let p = listed.all s.six s.low s.even in
      in_zero (s.six % 4)
      (rw e at
      (o.all (s.six % 4)
      (record {
        place = p.0;
        low = p.1;
        high = p.2;
        leaves =
            subst (Leaves f x y w) (sym p.3)
            (subst (λ (v : Words). Leaves f x y v s.six) (sym (words_one ws)) s.leaves);
        starts = ap (λ (k : ℕ). k % 4) p.3;
      })))

  module _ {n : Words} (ns : NextsOf t f x y n) {q : ℕ} (v : TokensFound f x y n q) where
    pub no_terminal : q ≡ 0 → StandsBy t f x y i j → ⊥
    no_terminal e s =
        let p = subst (PointsHave f x y) (sym (nexts_one t f x y ns)) s.points in
        let z = first_some p in
        in_zero z.terminal (rw e at (v.all p z.terminal z.low z.leaves))

    pub both_found : (r ≡ 0 → ⊥) → (q ≡ 0 → ⊥) → StandsBy t f x y i j
    both_found a b =
        let k = some_in r a in
        let e = o.only k.0 k.1 in
        let z = some_in q b in
        let d = v.only z.0 z.1 in
        record {
          six = get_or list e.place 0 % 4096;
          low = omega arith;
          even = low_even (get_or list e.place 0) (listed.only e.place e.low e.high);
          leaves =
              low_leaves (get_or list e.place 0)
              (subst (λ (u : Words). Leaves f x y u (get_or list e.place 0)) (words_one ws)
              e.leaves);
          points = subst (PointsHave f x y) (nexts_one t f x y ns) d.0;
        }

-- two nodes read at their numbers
module _ {ns t : List ℕ} {f : Frame} {i j : ℕ} {x y : Node} (e : x ≡ node_at ns i)
    (d : y ≡ node_at ns j) where
  pub other_sort : (x.sort ≡ y.sort → ⊥) → MayOver ns t f i j → ⊥
  other_sort h m =
      h (ap (λ (v : Node). v.sort) e ∙ (m.sort ∙ sym (ap (λ (v : Node). v.sort) d)))

  pub other_frame : (Suits f x.kids y.kids → ⊥) → MayOver ns t f i j → ⊥
  other_frame h m =
      h
      (subst (λ (v : Node). Suits f v.kids y.kids) (sym e)
      (subst (λ (v : Node). Suits f (node_at ns i).kids v.kids) (sym d) m.suits))

  pub may_says : Present ns i → Present ns j → x.sort ≡ y.sort → Suits f x.kids y.kids
      → {b : Bool}
      → Says b (StandsBy t f x y i j) → Says b (MayOver ns t f i j)
  may_says p q s u v =
      says_iff
      (λ z.
      record {
        there₁ = p;
        there₂ = q;
        sort = sym (ap (λ (v : Node). v.sort) e) ∙ (s ∙ ap (λ (v : Node). v.sort) d);
        suits =
            subst (λ (v : Node). Suits f v.kids (node_at ns j).kids) e
            (subst (λ (v : Node). Suits f x.kids v.kids) d u);
        stands =
            subst (λ (v : Node). StandsBy t f v (node_at ns j) i j) e
            (subst (λ (v : Node). StandsBy t f x v i j) d z);
      })
      (λ m.
      subst (λ (v : Node). StandsBy t f v y i j) (sym e)
      (subst (λ (v : Node). StandsBy t f (node_at ns i) v i j) (sym d) m.stands)) v

-- 4. what is found may stand

pub record MayStand (g : Rules) (f : Frame) (x y : Head) : Type 0 where
  pub offset : Corner → Corner → Offset
  pub next : Point → ℕ
  pub may : Might g (stand (setting (rank_of f) offset next) x y)

pub standing : {g : Rules} {ns t : List ℕ} {f : Frame} {i j : ℕ} → SoundTable g t →
    (a : SlotOf g ns i)
    (b : SlotOf g ns j) → MayOver ns t f i j → MayStand g f a.head b.head
standing {g} {ns} {t} {f} {i} {j} so a b m =
    record {
      offset = six_of s.six;
      next = λ p. val (rank_of f p);
      may =
          may_stand g t f a.head b.head (node_at ns i) (node_at ns j) a.node b.node
          (words_at t (node_at ns i) (node_at ns j) i j) ws
          (nexts_at t f (node_at ns i) (node_at ns j))
          (nexts_are t f (node_at ns i) (node_at ns j)) so m.suits s.six s.even
          s.leaves val
          (value_good f (node_at ns i) (node_at ns j) (nexts_at t f (node_at ns i) (node_at ns j))
          s.points
          z.terminal z.leaves);
    }
  where
    s : StandsBy t f (node_at ns i) (node_at ns j) i j
    s = m.stands

    ws : WordsOf t (node_at ns i) (node_at ns j) (shape_number a.head.shape)
        (shape_number b.head.shape)
        (words_at t (node_at ns i) (node_at ns j) i j)
    ws = rw (a.number, b.number) (words_are t (node_at ns i) (node_at ns j) i j)

    z : SomeAt f (node_at ns i) (node_at ns j) (nexts_at t f (node_at ns i) (node_at ns j))
        (min f.stop f.end)
    z = first_some s.points

    val : ℕ → ℕ
    val =
        value f (node_at ns i) (node_at ns j) (nexts_at t f (node_at ns i) (node_at ns j)) s.points
        z.terminal
        z.leaves

-- 5. frames over one span, numbered by rank

record Span (f : Frame) : Type 0 where
  start : f.start ≡ 0
  begin : f.begin ≡ 0
  stop : f.stop ≡ 4
  end : f.end ≡ 4
  cut : f.cut < 4
  split : f.split < 4

cut_in : {f : Frame} {k i m j : ℕ} → i < j → Placed f k i m j → (i ≤ m) × (m < j)
cut_in {k = k} {i} {m} {j} l p = by (dec_lt k 2)
  where
    by : Dec (k < 2) → (i ≤ m) × (m < j)
    by (yes h) = (omega (arith, p.one h), omega (arith, p.one h))
    by (no h) = let q = p.two (omega arith) in (omega (arith, q.0), q.1)

span : (f : Frame) {kx ky : ℕ} → Ranked (rank_of f) → Suits f kx ky → f.start ≡ f.begin
    → f.stop ≡ f.end → Span f
span f r s e d =
    let p = cut_in s.nonempty₁ s.placed₁ in
    let q = cut_in s.nonempty₂ s.placed₂ in
    let a : f.start ≡ 0 =
    sym (r.rank (at start₁))
    ∙ rw (
      le-ltb f.start f.start (omega arith),
      le-ltb f.cut f.start p.0,
      le-ltb f.begin f.start (omega arith),
      le-ltb f.split f.start (omega arith),
      le-ltb f.stop f.start (omega (arith, s.nonempty₁)),
      le-ltb f.end f.start
          (omega (arith, s.nonempty₁)),
    ) refl in
    let b : f.stop ≡ 4 =
    sym (r.rank stop₁)
    ∙ rw (
      lt-ltb f.start f.stop s.nonempty₁,
      lt-ltb f.cut f.stop p.1,
      lt-ltb f.begin f.stop s.behind,
      lt-ltb f.split f.stop (omega arith),
      le-ltb f.stop f.stop (omega arith),
      le-ltb f.end f.stop (omega arith),
    ) refl in
    record {
      start = a;
      begin = sym e ∙ a;
      stop = b;
      end = sym d ∙ b;
      cut = omega (arith, p.1, b);
      split = omega (arith, q.1, b);
    }

span_number : (f : Frame) → Span f → f ≡ span_frame (4 * f.cut + f.split)
span_number f s =
    let c : f.cut ≡ (4 * f.cut + f.split) / 4 = omega (arith, s.split) in
    let d : f.split ≡ (4 * f.cut + f.split) % 4 = omega (arith, s.split) in
    λ i. record {
      start = s.start i;
      cut = c i;
      stop = s.stop i;
      begin = s.begin i;
      split = d i;
      end = s.end i;
    }

-- 6. what may stand is found

pub record OverSpan (ns t : List ℕ) (σ : Setting) (i j : ℕ) : Type 0 where
  pub number : ℕ
  pub low : number < 16
  pub ranked : Ranked (rank_of (span_frame number))
  pub may : MayOver ns t (span_frame number) i j
  pub cuts : number / 4 ≡ number % 4 → σ.order (at cut₁) (at cut₂) ≡ equal

-- a child of a head is one of its node
child_in : (h : Form) (v : Node) {C : ℕ} → v.kids ≡ kid_count h → v.first ≡ first_of h
    → v.second ≡ second_of h
    → Memᴰ C (children h) → ChildOf v C
child_in (tip _ _) v {C = C} e a b x6 = elim x6 [ ]
child_in (one B l k) v {C = C} e a b (mathlib.Core.List.Memᴰ.tail x9) = elim x9 [ ]
child_in (two B D k l) v {C = C} e a b
    (mathlib.Core.List.Memᴰ.tail (mathlib.Core.List.Memᴰ.tail x14)) = elim x14 [ ]
child_in (one B l k) v e a b (Memᴰ.head d) = inl (omega arith, a ∙ sym d)
child_in (two B D k l) v e a b (Memᴰ.head d) = inl (omega arith, a ∙ sym d)
child_in (two B D k l) v e a b (Memᴰ.tail (Memᴰ.head d)) = inr (omega arith, b ∙ sym d)

in_child : (h : Form) (v : Node) {C : ℕ} → v.kids ≡ kid_count h → v.first ≡ first_of h
    → v.second ≡ second_of h
    → ChildOf v C → Memᴰ C (children h)
in_child (tip a b) v e f s c = ⊎_elim (λ h. absurd (omega (arith, h.0)))
    (λ h. absurd (omega (arith, h.0))) c
in_child (one B l k) v e f s c =
    ⊎_elim (λ h. Memᴰ.head (sym h.1 ∙ f)) (λ h. absurd (omega (arith, h.0))) c
in_child (two B D k l) v e f s c =
    ⊎_elim (λ h. Memᴰ.head (sym h.1 ∙ f))
    (λ h. Memᴰ.tail (Memᴰ.head (sym h.1 ∙ s))) c

pub child_of : {g : Rules} {x : Head} {v : Node} {C : ℕ} → NodeOf g x v → ChildOf v C → Memᴰ C
    (children x.form)
child_of {x = x} {v} n c = in_child x.form v n.kids n.first n.second c

module _ {g : Rules} {ns t : List ℕ} (made : NodesMade g ns) (closed : ClosedTable g t)
    (low : LowTable t) where
  level : (A : ℕ) (l : UnaryMark) → Inherits g A l → Least g A
  level A l i =
      let w = made.marks A l i in
      record { mark = w.mark; inherits = w.weakest.inherits; least = w.weakest.least }

  module _ {σ : Setting} {x y : Head} (h : Might g (stand σ x y)) where
    r : ToldRanked g t σ x y
    r = told_ranked g t level closed h

    n₁ : Present ns (shape_number r.left.shape) × NodeOf g r.left
        (node_at ns (shape_number r.left.shape))
    n₁ = made.nodes.all r.left r.told.fit.looks₁ r.lowered₁.weakest

    n₂ : Present ns (shape_number r.right.shape) × NodeOf g r.right
        (node_at ns (shape_number r.right.shape))
    n₂ = made.nodes.all r.right r.told.fit.looks₂ r.lowered₂.weakest

    same_number : shape_number r.left.shape ≡ shape_number x.shape
    same_number = ap shape_number r.lowered₁.shape

    pub sort_of : (node_at ns (shape_number x.shape)).sort ≡ x.sort
    sort_of =
        ap (λ (n : ℕ). (node_at ns n).sort) (sym same_number) ∙ (n₁.1.sort ∙ r.lowered₁.sort)

    pub there : Present ns (shape_number x.shape)
    there = subst (Present ns) same_number n₁.0

    pub place₁ : rule_of_shape x.shape < 128
    place₁ = subst (λ (s : Shape). rule_of_shape s < 128) r.lowered₁.shape n₁.1.place

    pub place₂ : rule_of_shape y.shape < 128
    place₂ = subst (λ (s : Shape). rule_of_shape s < 128) r.lowered₂.shape n₂.1.place

    pub has_child : {C : ℕ} → Memᴰ C (children x.form) → ChildOf
        (node_at ns (shape_number x.shape)) C
    has_child {C} m =
        subst (λ (n : ℕ). ChildOf (node_at ns n) C) same_number
        (child_in r.left.form (node_at ns (shape_number r.left.shape)) n₁.1.kids
        n₁.1.first n₁.1.second
        (subst (Memᴰ C) (sym r.lowered₁.kids) m))

    abbrev vx : Node
    vx = node_at ns (shape_number r.left.shape)

    abbrev vy : Node
    vy = node_at ns (shape_number r.right.shape)

    -- the step finds them
    fd : Found g t low r.frame r.left r.right vx vy n₁.1 n₂.1
        (words_at t vx vy (shape_number r.left.shape) (shape_number r.right.shape))
        (words_are t vx vy (shape_number r.left.shape) (shape_number r.right.shape))
        (nexts_at t r.frame vx vy) (nexts_are t r.frame vx vy) r.offset r.next
    fd =
        found g t low r.frame r.left r.right vx vy n₁.1 n₂.1
        (words_at t vx vy (shape_number r.left.shape) (shape_number r.right.shape))
        (words_are t vx vy (shape_number r.left.shape) (shape_number r.right.shape))
        (nexts_at t r.frame vx vy) (nexts_are t r.frame vx vy) r.offset r.next
        (record { fit = r.told.fit; lies = r.told.lies; goes = r.told.goes })

    some_at : (n : ℕ) → SomeAt r.frame vx vy (nexts_at t r.frame vx vy) n
    some_at n = record { terminal = fd.val n; low = fd.small n; leaves = fd.good n }

    stands : StandsBy t r.frame vx vy (shape_number r.left.shape)
        (shape_number r.right.shape)
    stands =
        record {
          six = fd.six;
          low = fd.low_six;
          even = fd.even;
          leaves = fd.leaves;
          points =
              record {
                start = some_at r.frame.start;
                cut = some_at r.frame.cut;
                begin = some_at r.frame.begin;
                split = some_at r.frame.split;
                stop = some_at r.frame.stop;
                end = some_at r.frame.end;
              };
        }

    module _ (sorts : x.sort ≡ y.sort) (starts : σ.order (at start₁) (at start₂) ≡ equal)
        (stops : σ.order stop₁ stop₂ ≡ equal) where
      may_frame : MayOver ns t r.frame (shape_number r.left.shape)
          (shape_number r.right.shape)
      may_frame =
          record {
            there₁ = n₁.0;
            there₂ = n₂.0;
            sort =
                n₁.1.sort
                ∙ (r.lowered₁.sort ∙ (sorts ∙ (sym r.lowered₂.sort ∙ sym n₂.1.sort)));
            suits = fd.suits;
            stands = stands;
          }

      ordered : (p q : Point) → σ.order p q ≡ order (rank_of r.frame p) (rank_of r.frame q)
      ordered p q = ap (λ (τ : Setting). τ.order p q) r.same

      over : Span r.frame
      over =
          span r.frame r.by_rank fd.suits
          (is_of r.frame.start r.frame.begin equal
          (sym (ordered (at start₁) (at start₂)) ∙ starts))
          (is_of r.frame.stop r.frame.end equal (sym (ordered stop₁ stop₂) ∙ stops))

      over_left : OverSpan ns t σ (shape_number r.left.shape) (shape_number r.right.shape)
      over_left =
          let e = span_number r.frame over in
          record {
            number = 4 * r.frame.cut + r.frame.split;
            low = omega (arith, over.cut, over.split);
            ranked = subst (λ (f : Frame). Ranked (rank_of f)) e r.by_rank;
            may =
                subst
                (λ (f : Frame). MayOver ns t f (shape_number r.left.shape)
                (shape_number r.right.shape))
                e may_frame;
            cuts = λ d.
                ordered (at cut₁) (at cut₂)
                ∙ is_order equal r.frame.cut r.frame.split
                (omega (arith, d, over.cut, over.split));
          }

      -- WHAT MAY STAND OVER ONE SPAN IS FOUND
      pub over_span : OverSpan ns t σ (shape_number x.shape) (shape_number y.shape)
      over_span =
          subst (λ (s : Shape). OverSpan ns t σ (shape_number x.shape) (shape_number s))
          r.lowered₂.shape
          (subst (λ (s : Shape). OverSpan ns t σ (shape_number s) (shape_number r.right.shape))
          r.lowered₁.shape
          over_left)
