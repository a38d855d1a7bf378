-- A STEP IS EXACT: what it finds may be, and what may be by the table it finds.
use mathlib.Core.Path.{refl, ap, subst}
use mathlib.Core.List.{List}
use Prim.Native.Nat.{ℕ, ◌≤◌, ◌<◌}
use native.Mathlib.Omega.{arith}
use Rattle.grammar.specs.Layout.{Every}
use Rattle.grammar.specs.Trees.{Rules}
use Rattle.grammar.proofs.Lists.{mem_every}
use Rattle.pairs.specs.Shapes.{Form, tip, one, two, Head}
use Rattle.pairs.specs.Relations.{less, equal, Offset}
use Rattle.pairs.specs.Settings.{Corner, start₁, cut₁, start₂, cut₂, Point, at, stop₁, stop₂}
use Rattle.pairs.specs.Settings.{Setting, setting, InsideIn, FitIn, relation_in}
use Rattle.pairs.specs.Facts.{stand, couples, behind_in, Might, two_nodes}
use Rattle.pairs.proofs.OffsetLaws.{is_order, is_of}
use Rattle.pair_offsets.specs.declared.Frame.{Frame}
use Rattle.pair_offsets.specs.Frames.{rank_of}
use Rattle.pair_offsets.specs.Evens.{six_of, EvenSix}
use Rattle.pair_steps.specs.declared.Node.{Node}
use Rattle.pair_steps.specs.declared.Words.{Words}
use Rattle.pair_steps.specs.Nodes.{kid_count, NextAsked, NodeOf, shape_number}
use Rattle.pair_steps.specs.Leaving.{Leaves}
use Rattle.pair_steps.specs.Tokens.{TokensLeave}
use Rattle.pair_steps.specs.Tables.{SoundTable, WordsOf, NextsOf}
use Rattle.pair_steps.specs.Suiting.{Placed, Suits}
use Rattle.pair_steps.proofs.SideLaws.{PlacedIn, Parts, of_parts, ProperCouple}
use Rattle.pair_steps.proofs.SideLaws.{proper_couples}
use Rattle.pair_steps.proofs.CoupleLaws.{Related, Followed, of_relations, of_terminals}
use Rattle.pair_steps.proofs.OffsetSteps.{Asked, of_leaves}
use Rattle.pair_steps.proofs.TokenSteps.{AskedTokens, of_tokens}

-- 1. how nodes lie

module _ (g : Rules) (f : Frame) (l : Corner → Corner → Offset) (n : Point → ℕ) where
  abbrev σ : Setting
  σ = setting (rank_of f) l n

  pub inside : (i j p : Point) → InsideIn σ i j p
      → (rank_of f i < rank_of f p) × (rank_of f p < rank_of f j)
  inside i j p h = (
    is_of (rank_of f i) (rank_of f p) less h.low,
    is_of (rank_of f p) (rank_of f j) less h.high,
  )

  placed_in : (h : Form) (i m : Corner) (j : Point)
      → Placed f (kid_count h) (rank_of f (at i)) (rank_of f (at m)) (rank_of f j)
      → PlacedIn g σ h i m j
  placed_in (tip a b) i m j p = (
    λ q h. let k = inside (at i) j q h in p.leaf refl q k.0 k.1,
    is_order equal (rank_of f (at i)) (rank_of f (at m)) (p.one (omega arith)),
  )
  placed_in (one C k o) i m j p =
      is_order equal (rank_of f (at i)) (rank_of f (at m)) (p.one (omega arith))
  placed_in (two C D k o) i m j p =
      let q = p.two (omega arith) in (
        is_order less (rank_of f (at i)) (rank_of f (at m)) q.0,
        is_order less (rank_of f (at m))
            (rank_of f j) q.1,
      )

  pub in_placed : (h : Form) (i m : Corner) (j : Point) → PlacedIn g σ h i m j
      → Placed f (kid_count h) (rank_of f (at i)) (rank_of f (at m)) (rank_of f j)
  in_placed (tip a b) i m j p =
      record {
        two = λ k. absurd (omega arith);
        one = λ k. is_of (rank_of f (at i)) (rank_of f (at m)) equal p.1;
        leaf = λ k q u v.
            p.0 q
            (record {
              low = is_order less (rank_of f (at i)) (rank_of f q) u;
              high = is_order less (rank_of f q) (rank_of f j) v;
            });
      }
  in_placed (one C k o) i m j p =
      record {
        two = λ k. absurd (omega arith);
        one = λ k. is_of (rank_of f (at i)) (rank_of f (at m)) equal p;
        leaf = λ k. absurd (omega arith);
      }
  in_placed (two C D k o) i m j p =
      record {
        two = λ k. (
          is_of (rank_of f (at i)) (rank_of f (at m)) less p.0,
          is_of (rank_of f (at m)) (rank_of f j) less p.1,
        );
        one = λ k. absurd (omega arith);
        leaf = λ k. absurd (omega arith);
      }

next_asked : (g : Rules) (h : Form) (z : ℕ) → (2 ≤ kid_count h → NextAsked g h z) → NextAsked g h z
next_asked g (tip a b) z f = tt
next_asked g (one C l k) z f = tt
next_asked g (two C D k l) z f = f (omega arith)

module _ (g : Rules) (m : List ℕ) (f : Frame) (x y : Head) (vx vy : Node) (nx : NodeOf g x vx)
    (ny : NodeOf g y vy) (w : Words)
    (ws : WordsOf m vx vy (shape_number x.shape) (shape_number y.shape) w)
    (n : Words) (ns : NextsOf m f vx vy n) where
  -- 2. what is found may be

  pub may_stand : SoundTable g m → Suits f vx.kids vy.kids → (t : ℕ) → EvenSix f t
      → Leaves f vx vy w t
      → (val : ℕ → ℕ) → ((p : Point) → TokensLeave f vx vy n (rank_of f p) (val (rank_of f p)))
      → Might g (stand (setting (rank_of f) (six_of t) (λ p. val (rank_of f p))) x y)
  may_stand so su t ev le val good =
      two_nodes (rank_of f) (six_of t) (λ p. val (rank_of f p)) x y fit
      (λ c h k.
      so.sound (c.fact (relation_in (setting (rank_of f) (six_of t) (λ p. val (rank_of f p)))
      c.left c.right))
      ((mem_every ProperCouple (couples x y) (proper_couples nx ny) h).fact _)
      ((mem_every (Related m f (six_of t) (λ p. val (rank_of f p)) x y) (couples x y) related h
      ).related k)) (λ c h k d.
      let q = mem_every ProperCouple (couples x y) (proper_couples nx ny) h in
      so.sound (behind_in (setting (rank_of f) (six_of t) (λ p. val (rank_of f p))) c.left
      c.right)
      (q.left, q.right) ((mem_every (Followed m f (six_of t) val x y) (couples x y) followed h
      ).followed k d))
    where
      asked : Asked g m f x y vx vy nx ny w ws (λ p. val (rank_of f p)) t
      asked = of_leaves g m f x y vx vy nx ny w ws (λ p. val (rank_of f p)) t le

      tokens : AskedTokens g m f (six_of t) x y vx vy nx ny n ns val
      tokens = of_tokens g m f (six_of t) x y vx vy nx ny n ns val good

      related : Every (Related m f (six_of t) (λ p. val (rank_of f p)) x y) (couples x y)
      related = of_relations m f (six_of t) (λ p. val (rank_of f p)) x y asked.relations

      followed : Every (Followed m f (six_of t) val x y) (couples x y)
      followed = of_terminals m f (six_of t) val x y tokens.terminals

      parts₁ : Parts g (setting (rank_of f) (six_of t) (λ p. val (rank_of f p))) x.form start₁ cut₁
          stop₁
      parts₁ =
          record {
            placed =
                placed_in g f (six_of t) (λ p. val (rank_of f p)) x.form start₁ cut₁ stop₁
                (subst (λ (k : ℕ). Placed f k f.start f.cut f.stop) nx.kids
                su.placed₁);
            keep = λ c h.
                let k = inside g f (six_of t) (λ p. val (rank_of f p)) (at start₁) stop₁ (at c) h in
                asked.keep₁ c k.0 k.1;
            join = asked.join₁;
            part = λ c h. asked.part₁ c (is_of (rank_of f (at c)) f.cut less h);
            begin = nx.begin.only (val f.start) tokens.begin₁;
            next =
                next_asked g x.form (val f.cut)
                (λ k.
                let j : 2 ≤ vx.kids = rw nx.kids k in
                (nx.next j).only (val f.cut) (tokens.next₁ j));
          }

      parts₂ : Parts g (setting (rank_of f) (six_of t) (λ p. val (rank_of f p))) y.form start₂ cut₂
          stop₂
      parts₂ =
          record {
            placed =
                placed_in g f (six_of t) (λ p. val (rank_of f p)) y.form start₂ cut₂ stop₂
                (subst (λ (k : ℕ). Placed f k f.begin f.split f.end) ny.kids
                su.placed₂);
            keep = λ c h.
                let k = inside g f (six_of t) (λ p. val (rank_of f p)) (at start₂) stop₂ (at c) h in
                asked.keep₂ c k.0 k.1;
            join = asked.join₂;
            part = λ c h. asked.part₂ c (is_of (rank_of f (at c)) f.split less h);
            begin = ny.begin.only (val f.begin) tokens.begin₂;
            next =
                next_asked g y.form (val f.split)
                (λ k.
                let j : 2 ≤ vy.kids = rw ny.kids k in
                (ny.next j).only (val f.split) (tokens.next₂ j));
          }

      fit : FitIn g (setting (rank_of f) (six_of t) (λ p. val (rank_of f p))) x y
      fit =
          record {
            looks₁ = nx.looks;
            looks₂ = ny.looks;
            even =
                record {
                  same = ev.even.same;
                  alike = ev.even.alike;
                  turn = ev.even.turn;
                  three = ev.even.three;
                  token = λ p q e. ap val (is_of (rank_of f p) (rank_of f q) equal e);
                };
            nonempty₁ = is_order less f.start f.stop su.nonempty₁;
            nonempty₂ = is_order less f.begin f.end su.nonempty₂;
            sits₁ =
                of_parts g (setting (rank_of f) (six_of t) (λ p. val (rank_of f p))) start₁ cut₁
                stop₁
                x.form parts₁;
            sits₂ =
                of_parts g (setting (rank_of f) (six_of t) (λ p. val (rank_of f p))) start₂ cut₂
                stop₂
                y.form parts₂;
            meet =
                record {
                  before = is_order less f.start f.end su.before;
                  behind = is_order less f.begin f.stop su.behind;
                };
          }
