-- What may be by the table, a step finds.
use mathlib.Core.Path.{◌≡◌, refl, sym, ap, subst}
use mathlib.Core.List.{List, [], ◌∷◌, Memᴰ}
use Prim.Native.Nat.{ℕ, ◌%◌, ◌^◌, ◌≤◌, ◌<◌, min}
use native.Mathlib.Omega.{arith}
use native.Mathlib.Decide.{dec_lt, ℕ_discrete}
use Rattle.sets.specs.Sets.{In}
use Rattle.grammar.specs.Layout.{Every}
use Rattle.grammar.specs.Trees.{Rules}
use Rattle.pairs.specs.Shapes.{Form, tip, one, two, Head}
use Rattle.pairs.specs.Relations.{less, equal, more, order, Offset}
use Rattle.pairs.specs.Settings.{Corner, start₁, cut₁, start₂, cut₂, Point, at, stop₁, stop₂}
use Rattle.pairs.specs.Settings.{points}
use Rattle.pairs.specs.Settings.{Setting, setting, Even, MeetIn, InsideIn, FitIn, whole₁, whole₂}
use Rattle.pairs.specs.Settings.{relation_in, next_in}
use Rattle.pairs.specs.Facts.{Couple, couples, behind_in}
use Rattle.pairs.proofs.OffsetLaws.{is_order, is_of}
use Rattle.pair_offsets.specs.declared.Frame.{Frame}
use Rattle.pair_offsets.specs.Frames.{rank_of}
use Rattle.pair_offsets.specs.Codes.{offset_code}
use Rattle.pair_offsets.specs.Evens.{EvenOffsets, six_code_of, six_of, EvenSix}
use Rattle.pair_offsets.proofs.EvenLaws.{six_path, six_low, six_even, six_code}
use Rattle.pair_steps.specs.declared.Node.{Node}
use Rattle.pair_steps.specs.declared.Words.{Words}
use Rattle.pair_steps.specs.Nodes.{kid_count, NodeOf, shape_number}
use Rattle.pair_steps.specs.Leaving.{first_stop_of, second_stop, Leaves}
use Rattle.pair_steps.specs.Tokens.{TokensLeave}
use Rattle.pair_steps.specs.Tables.{InTable, LowTable, WordsOf, NextsOf}
use Rattle.pair_steps.specs.Suiting.{Placed, Suits}
use Rattle.pair_steps.proofs.TokenLaws.{in_low}
use Rattle.pair_steps.proofs.SideLaws.{PlacedIn, Parts, parts_of}
use Rattle.pair_steps.proofs.CoupleLaws.{Related, Followed, relations_of, Terminals}
use Rattle.pair_steps.proofs.CoupleLaws.{terminals_of}
use Rattle.pair_steps.proofs.OffsetSteps.{leaves_of}
use Rattle.pair_steps.proofs.TokenSteps.{AskedTokens, tokens_of}
use Rattle.pair_steps.proofs.StepLaws.{in_placed}

-- 1. the terminal at a number: that of the first point that has it

module _ (f : Frame) (n : Point → ℕ) where
  abbrev look_by : {P : Type 0} → Dec P → ℕ → ℕ → ℕ
  look_by (yes h) a b = a
  look_by (no h) a b = b

  look : List Point → ℕ → ℕ
  look [] r = 0
  look (q ∷ l) r = look_by (ℕ_discrete r (rank_of f q)) (n q) (look l r)

  module _ (alike : (p q : Point) → rank_of f p ≡ rank_of f q → n p ≡ n q) where
    looked : (l : List Point) (p : Point) → Memᴰ p l → n p ≡ look l (rank_of f p)
    unfolding look
    looked [] p m = elim m [ ]
    looked (q ∷ l) p m = by m (λ k. looked l p k) (ℕ_discrete (rank_of f p) (rank_of f q))
      where
        by : Memᴰ p (q ∷ l) → (Memᴰ p l → n p ≡ look l (rank_of f p))
            → (d : Dec (rank_of f p ≡ rank_of f q)) → n p ≡ look_by d (n q) (look l (rank_of f p))
        by k h (yes e) = alike p q e
        by (Memᴰ.head e) h (no z) = absurd (z (ap (rank_of f) e))
        by (Memᴰ.tail k) h (no z) = h k

member : (p : Point) → Memᴰ p points
member (at start₁) = Memᴰ.head refl
member (at cut₁) = Memᴰ.tail (Memᴰ.head refl)
member (at start₂) = Memᴰ.tail (Memᴰ.tail (Memᴰ.head refl))
member (at cut₂) = Memᴰ.tail (Memᴰ.tail (Memᴰ.tail (Memᴰ.head refl)))
member stop₁ =
    Memᴰ.tail (Memᴰ.tail (Memᴰ.tail (Memᴰ.tail (Memᴰ.head refl))))
member stop₂ =
    Memᴰ.tail (Memᴰ.tail (Memᴰ.tail
    (Memᴰ.tail (Memᴰ.tail (Memᴰ.head refl)))))

-- 2. terminals below 64

abbrev clamp_by : (z : ℕ) → Dec (z < 64) → ℕ
clamp_by z (yes h) = z
clamp_by z (no h) = 0

clamp : ℕ → ℕ
clamp z = clamp_by z (dec_lt z 64)

clamp_low : (z : ℕ) → clamp z < 64
unfolding clamp
clamp_low z = by (dec_lt z 64)
  where
    by : (d : Dec (z < 64)) → clamp_by z d < 64
    by (yes h) = h
    by (no h) = omega arith

clamp_same : (z : ℕ) → z < 64 → z ≡ clamp z
unfolding clamp
clamp_same z h = by (dec_lt z 64)
  where
    by : (d : Dec (z < 64)) → z ≡ clamp_by z d
    by (yes k) = refl
    by (no k) = absurd (k h)

every_member : {A : Type 0} (P : A → Type 0) (l : List A) → ((a : A) → Memᴰ a l → P a)
    → Every P l
every_member P [] h = tt
every_member P (a ∷ l) h =
    (h a (Memᴰ.head refl), every_member P l (λ b m. h b (Memᴰ.tail m)))

-- 3. what may be by the table

module _ (g : Rules) (m : List ℕ) (low : LowTable m) (f : Frame) (x y : Head) (vx vy : Node)
    (nx : NodeOf g x vx)
    (ny : NodeOf g y vy) (w : Words)
    (ws : WordsOf m vx vy (shape_number x.shape) (shape_number y.shape) w)
    (n : Words) (ns : NextsOf m f vx vy n) where
  -- two nodes fit, and the table has what they ask of their children
  pub record Told (l : Corner → Corner → Offset) (z : Point → ℕ) : Type 0 where
    pub fit : FitIn g (setting (rank_of f) l z) x y
    pub lies : (c : Couple) → Memᴰ c (couples x y)
        → MeetIn (setting (rank_of f) l z) c.left c.right
        → InTable m (c.fact (relation_in (setting (rank_of f) l z) c.left c.right))
    pub goes : (c : Couple) → Memᴰ c (couples x y)
        → MeetIn (setting (rank_of f) l z) c.left c.right
        → ((relation_in (setting (rank_of f) l z) c.left c.right).stops ≡ equal → ⊥)
        → InTable m (behind_in (setting (rank_of f) l z) c.left c.right)

  -- then the step finds them: a six of offsets, and a terminal at each number
  pub record Found (l : Corner → Corner → Offset) (z : Point → ℕ) : Type 0 where
    pub six : ℕ
    pub val : ℕ → ℕ
    pub suits : Suits f vx.kids vy.kids
    pub low_six : six < 4096
    pub even : EvenSix f six
    pub leaves : Leaves f vx vy w six
    pub starts : six % 4 ≡ offset_code (l start₁ start₂)
    pub good : (r : ℕ) → TokensLeave f vx vy n r (val r)
    pub small : (r : ℕ) → val r < 64
    pub next : (order f.stop f.end ≡ equal → ⊥)
        → val (min f.stop f.end) ≡ next_in (setting (rank_of f) l z) (whole₁ x) (whole₂ y)

  module _ (t : ℕ) (val : ℕ → ℕ) (told : Told (six_of t) (λ p. val (rank_of f p))) where
    σ : Setting
    σ = setting (rank_of f) (six_of t) (λ p. val (rank_of f p))

    parts₁ : Parts g (setting (rank_of f) (six_of t) (λ p. val (rank_of f p))) x.form start₁ cut₁
        stop₁
    parts₁ =
        parts_of g (setting (rank_of f) (six_of t) (λ p. val (rank_of f p))) start₁ cut₁ stop₁
        x.form told.fit.sits₁

    parts₂ : Parts g (setting (rank_of f) (six_of t) (λ p. val (rank_of f p))) y.form start₂ cut₂
        stop₂
    parts₂ =
        parts_of g (setting (rank_of f) (six_of t) (λ p. val (rank_of f p))) start₂ cut₂ stop₂
        y.form told.fit.sits₂

    inner : (i j p : Point) → rank_of f i < rank_of f p → rank_of f p < rank_of f j
        → InsideIn (setting (rank_of f) (six_of t) (λ p. val (rank_of f p))) i j p
    inner i j p h k =
        record {
          low = is_order less (rank_of f i) (rank_of f p) h;
          high = is_order less (rank_of f p) (rank_of f j) k;
        }

    suits : Suits f vx.kids vy.kids
    suits =
        record {
          nonempty₁ = is_of f.start f.stop less told.fit.nonempty₁;
          nonempty₂ = is_of f.begin f.end less told.fit.nonempty₂;
          before = is_of f.start f.end less told.fit.meet.before;
          behind = is_of f.begin f.stop less told.fit.meet.behind;
          placed₁ =
              subst (λ (k : ℕ). Placed f k f.start f.cut f.stop) (sym nx.kids)
              (in_placed g f (six_of t) (λ p. val (rank_of f p)) x.form start₁ cut₁ stop₁
              parts₁.placed);
          placed₂ =
              subst (λ (k : ℕ). Placed f k f.begin f.split f.end) (sym ny.kids)
              (in_placed g f (six_of t) (λ p. val (rank_of f p)) y.form start₂ cut₂ stop₂
              parts₂.placed);
        }

    leaves : Leaves f vx vy w t
    leaves =
        leaves_of g m f x y vx vy nx ny w ws (λ p. val (rank_of f p)) t
        (record {
          relations =
              relations_of m f (six_of t) (λ p. val (rank_of f p)) x y
              (every_member (Related m f (six_of t) (λ p. val (rank_of f p)) x y) (couples x y)
              (λ c h. record { related = told.lies c h }));
          keep₁ = λ c p q. parts₁.keep c (inner (at start₁) stop₁ (at c) p q);
          keep₂ = λ c p q. parts₂.keep c (inner (at start₂) stop₂ (at c) p q);
          join₁ = parts₁.join;
          join₂ = parts₂.join;
          part₁ = λ c p. parts₁.part c (is_order less (rank_of f (at c)) f.cut p);
          part₂ = λ c p. parts₂.part c (is_order less (rank_of f (at c)) f.split p);
        })

    asked : AskedTokens g m f (six_of t) x y vx vy nx ny n ns val
    asked =
        record {
          begin₁ = nx.begin.has (val f.start) parts₁.begin;
          next₁ = λ k. (nx.next k).has (val f.cut) parts₁.next;
          begin₂ = ny.begin.has (val f.begin) parts₂.begin;
          next₂ = λ k. (ny.next k).has (val f.split) parts₂.next;
          terminals =
              terminals_of m f (six_of t) val x y
              (every_member (Followed m f (six_of t) val x y) (couples x y)
              (λ c h. record { followed = told.goes c h }));
        }

    -- a terminal that is in a word is below 64
    kept : {W : ℕ} (r : ℕ) → W < 2 ^ 64 → In W (val r) → In W (clamp (val r))
    kept {W} r b i = subst (In W) (clamp_same (val r) (in_low W (val r) b i)) i

    follow : {a b c d W : ℕ} → W < 2 ^ 64
        → (a < d → c < b → (b < d → In W (val b)) × (d < b → In W (val d)))
        → a < d → c < b → (b < d → In W (clamp (val b))) × (d < b → In W (clamp (val d)))
    follow {a} {b} {c} {d} h k i j = (λ o. kept b h ((k i j).0 o), λ o. kept d h ((k i j).1 o))

    clamped : AskedTokens g m f (six_of t) x y vx vy nx ny n ns (λ r. clamp (val r))
    clamped =
        let a = asked.terminals in
        record {
          begin₁ = kept f.start nx.low.0 asked.begin₁;
          next₁ = λ k. kept f.cut nx.low.1 (asked.next₁ k);
          begin₂ = kept f.begin ny.low.0 asked.begin₂;
          next₂ = λ k. kept f.split ny.low.1 (asked.next₂ k);
          terminals =
              record {
                xc = follow (low.low _) a.xc;
                xd = follow (low.low _) a.xd;
                yc = follow (low.low _) a.yc;
                yd = follow (low.low _) a.yd;
                cc = follow (low.low _) a.cc;
                cd = follow (low.low _) a.cd;
                dc = follow (low.low _) a.dc;
                dd = follow (low.low _) a.dd;
              };
        }

    abbrev Follows : ℕ → ℕ → ℕ → ℕ → ℕ → Type 0
    Follows a b c d W = a < d → c < b → (b < d → In W (val b)) × (d < b → In W (val d))

    -- where the first node stops inside the second, a terminal is asked
    inside₁ : (h : Form) (W W' : ℕ) → W < 2 ^ 64 → W' < 2 ^ 64
        → PlacedIn g (setting (rank_of f) (six_of t) (λ p. val (rank_of f p))) h start₂ cut₂ stop₂
        → Follows f.start f.stop f.begin (first_stop_of (kid_count h) f.split f.end) W
        → Follows f.start f.stop f.split (second_stop (kid_count h) f.end) W'
        → (2 ≤ kid_count h → In vy.next (val f.split)) → f.stop < f.end → val f.stop < 64
    inside₁ (tip a b) W W' i i' p u v k lt =
        absurd (p.0 stop₁ (inner (at start₂) stop₂ stop₁ suits.behind lt))
    inside₁ (one C a b) W W' i i' p u v k lt =
        in_low W (val f.stop) i ((u suits.before suits.behind).0 lt)
    inside₁ (two C D a b) W W' i i' p u v k lt =
        by (dec_lt f.stop f.split) (dec_lt f.split f.stop)
      where
        by : Dec (f.stop < f.split) → Dec (f.split < f.stop) → val f.stop < 64
        by (yes h) z =
            in_low W (val f.stop) i ((u (omega (arith, suits.nonempty₁)) suits.behind).0 h)
        by (no h) (yes z) = in_low W' (val f.stop) i' ((v suits.before z).0 lt)
        by (no h) (no z) =
            let e : f.split ≡ f.stop = omega arith in
            subst (λ (r : ℕ). val r < 64) e
            (in_low vy.next (val f.split) ny.low.1 (k (omega arith)))

    inside₂ : (h : Form) (W W' : ℕ) → W < 2 ^ 64 → W' < 2 ^ 64
        → PlacedIn g (setting (rank_of f) (six_of t) (λ p. val (rank_of f p))) h start₁ cut₁ stop₁
        → Follows f.begin f.end f.start (first_stop_of (kid_count h) f.cut f.stop) W
        → Follows f.begin f.end f.cut (second_stop (kid_count h) f.stop) W'
        → (2 ≤ kid_count h → In vx.next (val f.cut)) → f.end < f.stop → val f.end < 64
    inside₂ (tip a b) W W' i i' p u v k lt =
        absurd (p.0 stop₂ (inner (at start₁) stop₁ stop₂ suits.before lt))
    inside₂ (one C a b) W W' i i' p u v k lt =
        in_low W (val f.end) i ((u suits.behind suits.before).0 lt)
    inside₂ (two C D a b) W W' i i' p u v k lt =
        by (dec_lt f.end f.cut) (dec_lt f.cut f.end)
      where
        by : Dec (f.end < f.cut) → Dec (f.cut < f.end) → val f.end < 64
        by (yes h) z =
            in_low W (val f.end) i ((u (omega (arith, suits.nonempty₂)) suits.before).0 h)
        by (no h) (yes z) = in_low W' (val f.end) i' ((v suits.behind z).0 lt)
        by (no h) (no z) =
            let e : f.cut ≡ f.end = omega arith in
            subst (λ (r : ℕ). val r < 64) e
            (in_low vx.next (val f.cut) nx.low.1 (k (omega arith)))

    first_stop : (order f.stop f.end ≡ equal → ⊥)
        → clamp (val (min f.stop f.end))
        ≡ next_in (setting (rank_of f) (six_of t) (λ p. val (rank_of f p))) (whole₁ x) (whole₂ y)
    first_stop d = by (dec_lt f.stop f.end) (dec_lt f.end f.stop)
      where
        a : Terminals m f (six_of t) val x y
        a = asked.terminals

        by : Dec (f.stop < f.end) → Dec (f.end < f.stop)
            → clamp (val (min f.stop f.end))
            ≡ next_in (setting (rank_of f) (six_of t) (λ p. val (rank_of f p))) (whole₁ x)
            (whole₂ y)
        by (yes h) z =
            let e : min f.stop f.end ≡ f.stop = omega arith in
            let q =
            inside₁ y.form _ _ (low.low _) (low.low _) parts₂.placed a.xc a.xd
            (λ k. asked.next₂ (rw ny.kids k)) h in
            rw (is_order less f.stop f.end h, e) (sym (clamp_same (val f.stop) q))
        by (no h) (yes z) =
            let e : min f.stop f.end ≡ f.end = omega arith in
            let q =
            inside₂ x.form _ _ (low.low _) (low.low _) parts₁.placed a.yc a.yd
            (λ k. asked.next₁ (rw nx.kids k)) z in
            rw (is_order more f.stop f.end z, e) (sym (clamp_same (val f.end) q))
        by (no h) (no z) =
            absurd (d (is_order equal f.stop f.end
            (let e : f.stop ≡ f.end = omega arith in e)))

    found_six : t < 4096 → EvenSix f t → Found (six_of t) (λ p. val (rank_of f p))
    found_six b e =
        record {
          six = t;
          low_six = b;
          val = λ r. clamp (val r);
          suits = suits;
          even = e;
          leaves = leaves;
          starts = sym (six_code t).0;
          good = tokens_of g m f (six_of t) x y vx vy nx ny n ns (λ r. clamp (val r)) clamped;
          small = λ r. clamp_low (val r);
          next = first_stop;
        }

  -- WHAT MAY BE BY THE TABLE IS FOUND
  pub found : (l : Corner → Corner → Offset) (z : Point → ℕ) → Told l z → Found l z
  found l z t =
      let v : EvenOffsets (rank_of f) l =
      record { same = k.same; alike = k.alike; turn = k.turn; three = k.three } in
      let p : l ≡ six_of (six_code_of l) = six_path f l v in
      let q : z ≡ (λ r. look f z points (rank_of f r)) = λ i r. is r i in
      let t' : Told (six_of (six_code_of l)) (λ r. look f z points (rank_of f r)) =
      subst (λ (u : Point → ℕ). Told (six_of (six_code_of l)) u) q
      (subst (λ (j : Corner → Corner → Offset). Told j z) p t) in
      let r = found_six (six_code_of l) (look f z points) t' (six_low f l v) (six_even f l v) in
      subst (λ (j : Corner → Corner → Offset). Found j z) (sym p)
      (subst (λ (u : Point → ℕ). Found (six_of (six_code_of l)) u) (sym q) r)
    where
      k : Even (setting (rank_of f) l z)
      k = t.fit.even

      is : (r : Point) → z r ≡ look f z points (rank_of f r)
      is r =
          looked f z (λ a b e. k.token a b (is_order equal (rank_of f a) (rank_of f b) e)) points r
          (member r)
