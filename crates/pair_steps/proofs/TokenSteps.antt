-- Terminals at the points of a frame are as two nodes ask exactly if they are left by what a table
-- says of them.
use mathlib.Core.Path.{◌≡◌, refl, ap, ◌∙◌, subst}
use mathlib.Core.List.{List}
use Prim.Native.Nat.{ℕ, zero, suc, ◌≤◌, ◌<◌}
use native.Mathlib.Omega.{arith}
use Rattle.sets.specs.Sets.{In}
use Rattle.grammar.specs.Trees.{Rules}
use Rattle.pairs.specs.Shapes.{Head}
use Rattle.pairs.specs.Relations.{Offset, order}
use Rattle.pairs.specs.Settings.{Corner, start₁, cut₁, start₂, cut₂, Point, at, stop₁, stop₂}
use Rattle.pair_offsets.specs.declared.Frame.{Frame}
use Rattle.pair_offsets.specs.Frames.{rank_of}
use Rattle.pair_steps.specs.declared.Node.{Node}
use Rattle.pair_steps.specs.declared.Words.{Words}
use Rattle.pair_steps.specs.Nodes.{kid_count, first_of, second_of, NodeOf}
use Rattle.pair_steps.specs.Leaving.{first_stop_of, second_stop}
use Rattle.pair_steps.specs.Tokens.{AtStop, TokensLeave}
use Rattle.pair_steps.specs.Tables.{next_word, NextsOf}
use Rattle.pair_steps.proofs.CoupleLaws.{Terminals}

module _ (g : Rules) (m : List ℕ) (f : Frame) (l : Corner → Corner → Offset) (x y : Head)
    (vx vy : Node)
    (nx : NodeOf g x vx) (ny : NodeOf g y vy) (n : Words) (ns : NextsOf m f vx vy n)
    (val : ℕ → ℕ) where
  abbrev Follows : ℕ → ℕ → ℕ → ℕ → ℕ → Type 0
  Follows a b c d W = a < d → c < b → (b < d → In W (val b)) × (d < b → In W (val d))

  -- what the two nodes ask of the terminals
  pub record AskedTokens : Type 0 where
    pub begin₁ : In vx.begin (val f.start)
    pub next₁ : 2 ≤ vx.kids → In vx.next (val f.cut)
    pub begin₂ : In vy.begin (val f.begin)
    pub next₂ : 2 ≤ vy.kids → In vy.next (val f.split)
    pub terminals : Terminals m f l val x y

  at_by : {a b b' c d d' W W' r : ℕ} → b ≡ b' → d ≡ d' → W ≡ W' → Follows a b' c d' W'
      → AtStop a b c d r W (val r)
  at_by {a} {b} {b'} {c} {d} {d'} {W} p q s h =
      let k : Follows a b c d W = rw (p, q, s) h in
      λ i j. (
        λ o e. subst (λ (z : ℕ). In W (val z)) e ((k i j).0 o),
        λ o e. subst (λ (z : ℕ). In W (val z)) e ((k i j).1 o),
      )

  by_at : {a b b' c d d' W W' : ℕ} → b ≡ b' → d ≡ d' → W ≡ W' → (0 < b → AtStop a b c d b W (val b))
      → (0 < d → AtStop a b c d d W (val d)) → Follows a b' c d' W'
  by_at {a} {b} {b'} {c} {d} {d'} {W} p q s h k =
      let z : Follows a b c d W =
      λ i j. (λ o. (h (omega arith) i j).0 o refl, λ o. (k (omega arith) i j).1 o refl) in
      rw (← p, ← q, ← s) z

  t₁ : first_stop_of vx.kids f.cut f.stop ≡ first_stop_of (kid_count x.form) f.cut f.stop
  t₁ = ap (λ (k : ℕ). first_stop_of k f.cut f.stop) nx.kids

  t₂ : first_stop_of vy.kids f.split f.end ≡ first_stop_of (kid_count y.form) f.split f.end
  t₂ = ap (λ (k : ℕ). first_stop_of k f.split f.end) ny.kids

  u₁ : second_stop vx.kids f.stop ≡ second_stop (kid_count x.form) f.stop
  u₁ = ap (λ (k : ℕ). second_stop k f.stop) nx.kids

  u₂ : second_stop vy.kids f.end ≡ second_stop (kid_count y.form) f.end
  u₂ = ap (λ (k : ℕ). second_stop k f.end) ny.kids

  -- the words, by the forms
  yc : n.yc
      ≡ next_word m y.sort (first_of x.form) (order f.begin f.start)
      (order f.end (first_stop_of (kid_count x.form) f.cut f.stop))
  yc = ns.yc ∙ (λ i. next_word m (ny.sort i) (nx.first i) (order f.begin f.start)
      (order f.end (t₁ i)))

  yd : n.yd
      ≡ next_word m y.sort (second_of x.form) (order f.begin f.cut)
      (order f.end (second_stop (kid_count x.form) f.stop))
  yd = ns.yd ∙ (λ i. next_word m (ny.sort i) (nx.second i) (order f.begin f.cut)
      (order f.end (u₁ i)))

  xc : n.xc
      ≡ next_word m x.sort (first_of y.form) (order f.start f.begin)
      (order f.stop (first_stop_of (kid_count y.form) f.split f.end))
  xc = ns.xc ∙ (λ i. next_word m (nx.sort i) (ny.first i) (order f.start f.begin)
      (order f.stop (t₂ i)))

  xd : n.xd
      ≡ next_word m x.sort (second_of y.form) (order f.start f.split)
      (order f.stop (second_stop (kid_count y.form) f.end))
  xd = ns.xd ∙ (λ i. next_word m (nx.sort i) (ny.second i) (order f.start f.split)
      (order f.stop (u₂ i)))

  kcc : n.cc
      ≡ next_word m (first_of x.form) (first_of y.form) (order f.start f.begin)
      (order (first_stop_of (kid_count x.form) f.cut f.stop)
      (first_stop_of (kid_count y.form) f.split f.end))
  kcc = ns.cc ∙ (λ i. next_word m (nx.first i) (ny.first i) (order f.start f.begin)
      (order (t₁ i) (t₂ i)))

  kcd : n.cd
      ≡ next_word m (first_of x.form) (second_of y.form) (order f.start f.split)
      (order (first_stop_of (kid_count x.form) f.cut f.stop)
      (second_stop (kid_count y.form) f.end))
  kcd = ns.cd ∙ (λ i. next_word m (nx.first i) (ny.second i) (order f.start f.split)
      (order (t₁ i) (u₂ i)))

  kdc : n.dc
      ≡ next_word m (second_of x.form) (first_of y.form) (order f.cut f.begin)
      (order (second_stop (kid_count x.form) f.stop)
      (first_stop_of (kid_count y.form) f.split f.end))
  kdc = ns.dc ∙ (λ i. next_word m (nx.second i) (ny.first i) (order f.cut f.begin)
      (order (u₁ i) (t₂ i)))

  kdd : n.dd
      ≡ next_word m (second_of x.form) (second_of y.form) (order f.cut f.split)
      (order (second_stop (kid_count x.form) f.stop) (second_stop (kid_count y.form) f.end))
  kdd = ns.dd ∙ (λ i. next_word m (nx.second i) (ny.second i) (order f.cut f.split)
      (order (u₁ i) (u₂ i)))

  pub tokens_of : AskedTokens → (r : ℕ) → TokensLeave f vx vy n r (val r)
  tokens_of a r =
      let t = a.terminals in
      record {
        begins = (
          λ e. subst (λ (z : ℕ). In vx.begin (val z)) e a.begin₁,
          λ k e. subst (λ (z : ℕ). In vx.next (val z)) e (a.next₁ k),
          λ e. subst (λ (z : ℕ). In vy.begin (val z)) e a.begin₂,
          λ k e. subst (λ (z : ℕ). In vy.next (val z)) e (a.next₂ k),
        );
        nodes = (
          at_by refl t₁ yc t.yc,
          at_by refl u₁ yd t.yd,
          at_by refl t₂ xc t.xc,
          at_by refl u₂ xd t.xd,
        );
        kids = (
          at_by t₁ t₂ kcc t.cc,
          at_by t₁ u₂ kcd t.cd,
          at_by u₁ t₂ kdc t.dc,
          at_by u₁ u₂ kdd t.dd,
        );
      }

  abbrev pub Good : ℕ → Type 0
  Good r = TokensLeave f vx vy n r (val r)

  pub of_tokens : ((p : Point) → Good (rank_of f p)) → AskedTokens
  of_tokens h =
      record {
        begin₁ = (h (at start₁)).begins.0 refl;
        next₁ = λ k. (h (at cut₁)).begins.1 k refl;
        begin₂ = (h (at start₂)).begins.2 refl;
        next₂ = λ k. (h (at cut₂)).begins.3 k refl;
        terminals =
            record {
              yc = by_at refl t₁ yc (λ z. (h stop₂).nodes.0) (λ z. (first₁ vx.kids z).nodes.0);
              yd = by_at refl u₁ yd (λ z. (h stop₂).nodes.1) (λ z. (second₁ vx.kids z).nodes.1);
              xc = by_at refl t₂ xc (λ z. (h stop₁).nodes.2) (λ z. (first₂ vy.kids z).nodes.2);
              xd = by_at refl u₂ xd (λ z. (h stop₁).nodes.3) (λ z. (second₂ vy.kids z).nodes.3);
              cc = by_at t₁ t₂ kcc (λ z. (first₁ vx.kids z).kids.0)
                  (λ z. (first₂ vy.kids z).kids.0);
              cd = by_at t₁ u₂ kcd (λ z. (first₁ vx.kids z).kids.1)
                  (λ z. (second₂ vy.kids z).kids.1);
              dc = by_at u₁ t₂ kdc (λ z. (second₁ vx.kids z).kids.2)
                  (λ z. (first₂ vy.kids z).kids.2);
              dd = by_at u₁ u₂ kdd (λ z. (second₁ vx.kids z).kids.3)
                  (λ z. (second₂ vy.kids z).kids.3);
            };
      }
    where
      first₁ : (k : ℕ) → 0 < first_stop_of k f.cut f.stop → Good (first_stop_of k f.cut f.stop)
      first₁ zero z = absurd (omega arith)
      first₁ (suc zero) z = h stop₁
      first₁ (suc (suc k)) z = h (at cut₁)

      first₂ : (k : ℕ) → 0 < first_stop_of k f.split f.end
          → Good (first_stop_of k f.split f.end)
      first₂ zero z = absurd (omega arith)
      first₂ (suc zero) z = h stop₂
      first₂ (suc (suc k)) z = h (at cut₂)

      second₁ : (k : ℕ) → 0 < second_stop k f.stop → Good (second_stop k f.stop)
      second₁ zero z = absurd (omega arith)
      second₁ (suc zero) z = absurd (omega arith)
      second₁ (suc (suc k)) z = h stop₁

      second₂ : (k : ℕ) → 0 < second_stop k f.end → Good (second_stop k f.end)
      second₂ zero z = absurd (omega arith)
      second₂ (suc zero) z = absurd (omega arith)
      second₂ (suc (suc k)) z = h stop₂
