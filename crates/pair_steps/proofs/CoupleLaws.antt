-- What a table says of the couples of two nodes over a frame, word by word.
use mathlib.Core.Path.{◌≡◌, refl, sym, subst}
use mathlib.Core.List.{List}
use Prim.Native.Nat.{ℕ, ◌<◌}
use native.Mathlib.Omega.{arith}
use native.Mathlib.Decide.{dec_lt}
use Rattle.sets.specs.Sets.{In}
use Rattle.grammar.specs.Layout.{Every}
use Rattle.pairs.specs.Shapes.{Head}
use Rattle.pairs.specs.Relations.{less, equal, more, order, Offset}
use Rattle.pairs.specs.Settings.{Corner, start₁, cut₁, start₂, cut₂, Point, at, stop₁, stop₂}
use Rattle.pairs.specs.Settings.{Setting, setting}
use Rattle.pairs.specs.Settings.{Side, whole₁, whole₂, sides₁, sides₂, MeetIn, relation_in, next_by}
use Rattle.pairs.specs.Settings.{next_in}
use Rattle.pairs.specs.Facts.{against, sorts, Couple, with_each, crossed, couples, behind_in}
use Rattle.pairs.proofs.Every.{every_map}
use Rattle.pairs.proofs.OffsetLaws.{is_order, is_of}
use Rattle.pairs.proofs.PairLaws.{every_with, every_crossed}
use Rattle.pair_offsets.specs.declared.Frame.{Frame}
use Rattle.pair_offsets.specs.Frames.{rank_of}
use Rattle.pair_offsets.specs.Codes.{offset_code}
use Rattle.pair_steps.specs.Nodes.{kid_count, first_of, second_of, shape_number}
use Rattle.pair_steps.specs.Leaving.{Narrows, first_stop_of, second_stop}
use Rattle.pair_steps.specs.Tables.{shape_word, sort_word, next_word, InTable}
use Rattle.pair_steps.proofs.SideLaws.{with_every, crossed_every, each_both, both_each}

-- 1. each couple of two nodes, by their children

-- Q of the one node and a child of the other, of the other node and a child of the one, and of two
-- children, each by nonterminal, start and the number of the stop
module _ (f : Point → ℕ) (x y : Head) (P : Couple → Type 0)
    (Q₁ Q₂ : ℕ → Corner → ℕ → Type 0) (Q₃ : ℕ → Corner → ℕ → ℕ → Corner → ℕ → Type 0) where
  pub record EachChild : Type 0 where
    pub xc : Q₁ (first_of y.form) start₂ (first_stop_of (kid_count y.form) (f (at cut₂)) (f stop₂))
    pub xd : Q₁ (second_of y.form) cut₂ (second_stop (kid_count y.form) (f stop₂))
    pub yc : Q₂ (first_of x.form) start₁ (first_stop_of (kid_count x.form) (f (at cut₁)) (f stop₁))
    pub yd : Q₂ (second_of x.form) cut₁ (second_stop (kid_count x.form) (f stop₁))
    pub cc : Q₃ (first_of x.form) start₁ (first_stop_of (kid_count x.form) (f (at cut₁)) (f stop₁))
        (first_of y.form) start₂ (first_stop_of (kid_count y.form) (f (at cut₂)) (f stop₂))
    pub cd : Q₃ (first_of x.form) start₁ (first_stop_of (kid_count x.form) (f (at cut₁)) (f stop₁))
        (second_of y.form) cut₂ (second_stop (kid_count y.form) (f stop₂))
    pub dc : Q₃ (second_of x.form) cut₁ (second_stop (kid_count x.form) (f stop₁))
        (first_of y.form) start₂ (first_stop_of (kid_count y.form) (f (at cut₂)) (f stop₂))
    pub dd : Q₃ (second_of x.form) cut₁ (second_stop (kid_count x.form) (f stop₁))
        (second_of y.form) cut₂ (second_stop (kid_count y.form) (f stop₂))

  abbrev Q₄ : ℕ → Corner → ℕ → Type 0
  Q₄ C c e =
      Q₃ C c e (first_of y.form) start₂ (first_stop_of (kid_count y.form) (f (at cut₂)) (f stop₂))
      × Q₃ C c e (second_of y.form) cut₂ (second_stop (kid_count y.form) (f stop₂))

  pub each_child : ((C : ℕ) (c : Corner) → Q₁ C c 0) → ((C : ℕ) (c : Corner) → Q₂ C c 0)
      → ((C D : ℕ) (c d : Corner) (e : ℕ) → Q₃ C c 0 D d e)
      → ((C D : ℕ) (c d : Corner) (e : ℕ) → Q₃ C c e D d 0)
      → ((k : Side) → P (record { left = whole₁ x; right = k; fact = against x.shape k.sort })
      → Q₁ k.sort k.from (f k.till))
      → ((k : Side) → P (record { left = whole₂ y; right = k; fact = against y.shape k.sort })
      → Q₂ k.sort k.from (f k.till))
      → ((k j : Side) → P (record { left = k; right = j; fact = sorts k.sort j.sort })
      → Q₃ k.sort k.from (f k.till) j.sort j.from (f j.till))
      → Every P (couples x y) → EachChild
  each_child z₁ z₂ z₃ z₄ h₁ h₂ h₃ e =
      let a =
      with_every P (whole₁ x) (against x.shape) (sides₂ y)
      (with_each (whole₂ y) (against y.shape) (sides₁ x) (crossed (sides₁ x) (sides₂ y))) e in
      let b =
      with_every P (whole₂ y) (against y.shape) (sides₁ x) (crossed (sides₁ x) (sides₂ y))
      a.1 in
      let p = each_both f Q₁ z₁ y.form start₂ cut₂ stop₂ (every_map h₁ (sides₂ y) a.0) in
      let q = each_both f Q₂ z₂ x.form start₁ cut₁ stop₁ (every_map h₂ (sides₁ x) b.0) in
      let r =
      each_both f Q₄ (λ C c. (z₃ C _ c _ _, z₃ C _ c _ _)) x.form start₁ cut₁ stop₁
      (every_map
      (λ k i.
      each_both f (Q₃ k.sort k.from (f k.till)) (λ C c. z₄ _ C _ c _) y.form start₂ cut₂
      stop₂ (every_map (λ j u. h₃ k j u) (sides₂ y) i))
      (sides₁ x) (crossed_every P (sides₁ x) (sides₂ y) b.1)) in
      record {
        xc = p.0;
        xd = p.1;
        yc = q.0;
        yd = q.1;
        cc = r.0.0;
        cd = r.0.1;
        dc = r.1.0;
        dd = r.1.1;
      }

  pub child_each :
      ((k : Side) → Q₁ k.sort k.from (f k.till)
      → P (record { left = whole₁ x; right = k; fact = against x.shape k.sort }))
      → ((k : Side) → Q₂ k.sort k.from (f k.till)
      → P (record { left = whole₂ y; right = k; fact = against y.shape k.sort }))
      → ((k j : Side) → Q₃ k.sort k.from (f k.till) j.sort j.from (f j.till)
      → P (record { left = k; right = j; fact = sorts k.sort j.sort }))
      → EachChild → Every P (couples x y)
  child_each h₁ h₂ h₃ e =
      every_with P (whole₁ x) (against x.shape) (sides₂ y)
      (with_each (whole₂ y) (against y.shape) (sides₁ x) (crossed (sides₁ x) (sides₂ y)))
      (every_map h₁ (sides₂ y) (both_each f Q₁ y.form start₂ cut₂ stop₂ (e.xc, e.xd)))
      (every_with P (whole₂ y) (against y.shape) (sides₁ x) (crossed (sides₁ x) (sides₂ y))
      (every_map h₂ (sides₁ x) (both_each f Q₂ x.form start₁ cut₁ stop₁ (e.yc, e.yd)))
      (every_crossed P (sides₁ x) (sides₂ y)
      (every_map
      (λ k i.
      every_map (λ j u. h₃ k j u) (sides₂ y)
      (both_each f (Q₃ k.sort k.from (f k.till)) y.form start₂ cut₂ stop₂ i))
      (sides₁ x)
      (both_each f Q₄ x.form start₁ cut₁ stop₁ ((e.cc, e.cd), (e.dc, e.dd))))))

-- 2. relations of couples

module _ (m : List ℕ) (f : Frame) (l : Corner → Corner → Offset) (n : Point → ℕ) (x y : Head) where
  abbrev σ : Setting
  σ = setting (rank_of f) l n

  met : (k j : Side) → rank_of f (at k.from) < rank_of f j.till
      → rank_of f (at j.from) < rank_of f k.till → MeetIn σ k j
  met k j p q =
      record {
        before = is_order less (rank_of f (at k.from)) (rank_of f j.till) p;
        behind = is_order less (rank_of f (at j.from)) (rank_of f k.till) q;
      }

  meet₁ : (k j : Side) → MeetIn σ k j → rank_of f (at k.from) < rank_of f j.till
  meet₁ k j s = is_of (rank_of f (at k.from)) (rank_of f j.till) less s.before

  meet₂ : (k j : Side) → MeetIn σ k j → rank_of f (at j.from) < rank_of f k.till
  meet₂ k j s = is_of (rank_of f (at j.from)) (rank_of f k.till) less s.behind

  -- the couple's relation is in the table
  pub record Related (c : Couple) : Type 0 where
    pub related : MeetIn σ c.left c.right
        → InTable m (c.fact (relation_in σ c.left c.right))

  abbrev R₁ : ℕ → Corner → ℕ → Type 0
  R₁ C c e =
      Narrows f.start f.stop (rank_of f (at c)) e (shape_word m (shape_number x.shape) C)
      (offset_code (l start₁ c))

  abbrev R₂ : ℕ → Corner → ℕ → Type 0
  R₂ C c e =
      Narrows f.begin f.end (rank_of f (at c)) e (shape_word m (shape_number y.shape) C)
      (offset_code (l start₂ c))

  abbrev R₃ : ℕ → Corner → ℕ → ℕ → Corner → ℕ → Type 0
  R₃ C c e D d o =
      Narrows (rank_of f (at c)) e (rank_of f (at d)) o (sort_word m C D) (offset_code (l c d))

  abbrev pub Relations : Type 0
  Relations = EachChild (rank_of f) x y Related R₁ R₂ R₃

  pub relations_of : Every Related (couples x y) → Relations
  relations_of e =
      each_child (rank_of f) x y Related R₁ R₂ R₃ (λ C c p q. absurd (omega arith))
      (λ C c p q. absurd (omega arith))
      (λ C D c d e p q. absurd (omega arith)) (λ C D c d e p q. absurd (omega arith))
      (λ k r p q. r.related (met (whole₁ x) k p q)) (λ k r p q. r.related (met (whole₂ y) k p q))
      (λ k j r p q. r.related (met k j p q)) e

  pub of_relations : Relations → Every Related (couples x y)
  of_relations e =
      child_each (rank_of f) x y Related R₁ R₂ R₃
      (λ k r. record { related = λ s. r (meet₁ (whole₁ x) k s) (meet₂ (whole₁ x) k s) })
      (λ k r. record { related = λ s. r (meet₁ (whole₂ y) k s) (meet₂ (whole₂ y) k s) })
      (λ k j r. record { related = λ s. r (meet₁ k j s) (meet₂ k j s) }) e

-- 3. terminals of couples

next_less : (a b u v : ℕ) → a < b → next_by (order a b) u v ≡ u
next_less a b u v h = rw (is_order less a b h) refl

next_more : (a b u v : ℕ) → b < a → next_by (order a b) u v ≡ v
next_more a b u v h = rw (is_order more a b h) refl

apart_less : (a b : ℕ) → a < b → order a b ≡ equal → ⊥
apart_less a b h e = let z : a ≡ b = is_of a b equal e in omega arith

apart_more : (a b : ℕ) → b < a → order a b ≡ equal → ⊥
apart_more a b h e = let z : a ≡ b = is_of a b equal e in omega arith

-- the terminal at a number
module _ (m : List ℕ) (f : Frame) (l : Corner → Corner → Offset) (val : ℕ → ℕ) (x y : Head) where
  abbrev τ : Setting
  τ = setting (rank_of f) l (λ p. val (rank_of f p))

  -- the terminal where the one ends and the other goes on is in the table
  pub record Followed (c : Couple) : Type 0 where
    pub followed : MeetIn τ c.left c.right
        → ((relation_in τ c.left c.right).stops ≡ equal → ⊥)
        → InTable m (behind_in τ c.left c.right)

  -- pieces from a to b and from c to d, and the word of their nonterminals
  abbrev pub Follows : ℕ → ℕ → ℕ → ℕ → ℕ → Type 0
  Follows a b c d W = a < d → c < b → (b < d → In W (val b)) × (d < b → In W (val d))

  abbrev pub T₁ : ℕ → Corner → ℕ → Type 0
  T₁ C c e =
      Follows f.start f.stop (rank_of f (at c)) e
      (next_word m x.sort C (order f.start (rank_of f (at c))) (order f.stop e))

  abbrev pub T₂ : ℕ → Corner → ℕ → Type 0
  T₂ C c e =
      Follows f.begin f.end (rank_of f (at c)) e
      (next_word m y.sort C (order f.begin (rank_of f (at c))) (order f.end e))

  abbrev pub T₃ : ℕ → Corner → ℕ → ℕ → Corner → ℕ → Type 0
  T₃ C c e D d o =
      Follows (rank_of f (at c)) e (rank_of f (at d)) o
      (next_word m C D (order (rank_of f (at c)) (rank_of f (at d))) (order e o))

  abbrev pub Terminals : Type 0
  Terminals = EachChild (rank_of f) x y Followed T₁ T₂ T₃

  follows_of : (k j : Side) (W : ℕ)
      → (MeetIn τ k j → ((relation_in τ k j).stops ≡ equal → ⊥) → In W (next_in τ k j))
      → Follows (rank_of f (at k.from)) (rank_of f k.till) (rank_of f (at j.from))
      (rank_of f j.till) W
  follows_of k j W r p q =
      let b = rank_of f k.till in
      let d = rank_of f j.till in
      let s = met m f l (λ p. val (rank_of f p)) x y k j p q in (
        λ h. subst (In W) (next_less b d (val b) (val d) h) (r s (apart_less b d h)),
        λ h. subst (In W) (next_more b d (val b) (val d) h) (r s (apart_more b d h)),
      )

  of_follows : (k j : Side) (W : ℕ)
      → Follows (rank_of f (at k.from)) (rank_of f k.till) (rank_of f (at j.from))
      (rank_of f j.till) W
      → MeetIn τ k j → ((relation_in τ k j).stops ≡ equal → ⊥) → In W (next_in τ k j)
  of_follows k j W r s u =
      by (dec_lt (rank_of f k.till) (rank_of f j.till))
      (dec_lt (rank_of f j.till) (rank_of f k.till))
    where
      b : ℕ
      b = rank_of f k.till

      d : ℕ
      d = rank_of f j.till

      t : (b < d → In W (val b)) × (d < b → In W (val d))
      t =
          r (meet₁ m f l (λ p. val (rank_of f p)) x y k j s)
          (meet₂ m f l (λ p. val (rank_of f p)) x y k j s)

      by : Dec (rank_of f k.till < rank_of f j.till)
          → Dec (rank_of f j.till < rank_of f k.till) → In W (next_in τ k j)
      by (yes h) z = subst (In W) (sym (next_less b d (val b) (val d) h)) (t.0 h)
      by (no h) (yes z) = subst (In W) (sym (next_more b d (val b) (val d) z)) (t.1 z)
      by (no h) (no z) = absurd (u (is_order equal b d (let e : b ≡ d = omega arith in e)))

  pub terminals_of : Every Followed (couples x y) → Terminals
  terminals_of e =
      each_child (rank_of f) x y Followed T₁ T₂ T₃ (λ C c p q. absurd (omega arith))
      (λ C c p q. absurd (omega arith))
      (λ C D c d e p q. absurd (omega arith)) (λ C D c d e p q. absurd (omega arith))
      (λ k r. follows_of (whole₁ x) k _ r.followed)
      (λ k r. follows_of (whole₂ y) k _ r.followed)
      (λ k j r. follows_of k j _ r.followed) e

  pub of_terminals : Terminals → Every Followed (couples x y)
  of_terminals e =
      child_each (rank_of f) x y Followed T₁ T₂ T₃
      (λ k r. record { followed = of_follows (whole₁ x) k _ r })
      (λ k r. record { followed = of_follows (whole₂ y) k _ r })
      (λ k j r. record { followed = of_follows k j _ r }) e
