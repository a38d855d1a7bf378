-- A six of offsets is as two nodes ask exactly if it is left by what a table says of them.
use mathlib.Core.Path.{◌≡◌, refl, sym, ap, ap₂, ◌∙◌, subst}
use mathlib.Core.List.{List}
use Prim.Native.Nat.{ℕ, ◌/◌, ◌%◌, ◌<◌}
use native.Mathlib.Omega.{arith}
use Rattle.sets.specs.Sets.{In}
use Rattle.grammar.specs.Trees.{Rules}
use Rattle.pairs.specs.Shapes.{Head}
use Rattle.pairs.specs.Relations.{Offset}
use Rattle.pairs.specs.Settings.{Corner, start₁, cut₁, start₂, cut₂, Point, at}
use Rattle.pair_offsets.specs.declared.Frame.{Frame}
use Rattle.pair_offsets.specs.Frames.{rank_of}
use Rattle.pair_offsets.specs.Codes.{offset_code}
use Rattle.pair_offsets.specs.Evens.{six_of}
use Rattle.pair_offsets.proofs.EvenLaws.{six_code}
use Rattle.pair_steps.specs.declared.Node.{Node}
use Rattle.pair_steps.specs.declared.Words.{Words}
use Rattle.pair_steps.specs.Nodes.{kid_count, KeepAsked, JoinAsked, PartAsked, Mask, NodeOf}
use Rattle.pair_steps.specs.Nodes.{shape_number}
use Rattle.pair_steps.specs.Leaving.{Narrows, first_stop_of, second_stop, Leaves}
use Rattle.pair_steps.specs.Tables.{shape_word, sort_word, WordsOf}
use Rattle.pair_steps.proofs.CoupleLaws.{Relations}

narrows_by : {a b b' c d d' W W' k k' : ℕ} → b ≡ b' → d ≡ d' → W ≡ W' → k' ≡ k
    → Narrows a b' c d' W' k' → Narrows a b c d W k
narrows_by p q r s h = rw (p, q, r, ← s) h

by_narrows : {a b b' c d d' W W' k k' : ℕ} → b ≡ b' → d ≡ d' → W ≡ W' → k' ≡ k → Narrows a b c d W k
    → Narrows a b' c d' W' k'
by_narrows p q r s h = rw (← p, ← q, ← r, s) h

mask_in : {r k : ℕ} {P : Offset → Type 0} → Mask r P → (o : Offset) → offset_code o ≡ k → P o
    → In r k
mask_in {r} m o e p = subst (In r) e (m.has o p)

in_mask : {r k : ℕ} {P : Offset → Type 0} → Mask r P → (o : Offset) → offset_code o ≡ k → In r k
    → P o
in_mask {r} m o e i = m.only o (subst (In r) (sym e) i)

module _ (g : Rules) (m : List ℕ) (f : Frame) (x y : Head) (vx vy : Node) (nx : NodeOf g x vx)
    (ny : NodeOf g y vy) (w : Words)
    (ws : WordsOf m vx vy (shape_number x.shape) (shape_number y.shape) w)
    (n : Point → ℕ) (t : ℕ) where
  -- what the two nodes ask of the six of t
  pub record Asked : Type 0 where
    pub relations : Relations m f (six_of t) n x y
    pub keep₁ : (c : Corner) → f.start < rank_of f (at c) → rank_of f (at c) < f.stop
        → KeepAsked x.form (six_of t start₁ c)
    pub keep₂ : (c : Corner) → f.begin < rank_of f (at c) → rank_of f (at c) < f.end
        → KeepAsked y.form (six_of t start₂ c)
    pub join₁ : JoinAsked x.form (six_of t start₁ cut₁)
    pub join₂ : JoinAsked y.form (six_of t start₂ cut₂)
    pub part₁ : (c : Corner) → rank_of f (at c) < f.cut → PartAsked x.form (six_of t c cut₁)
    pub part₂ : (c : Corner) → rank_of f (at c) < f.split → PartAsked y.form (six_of t c cut₂)

  -- where the children stop
  t₁ : first_stop_of vx.kids f.cut f.stop ≡ first_stop_of (kid_count x.form) f.cut f.stop
  t₁ = ap (λ (k : ℕ). first_stop_of k f.cut f.stop) nx.kids

  t₂ : first_stop_of vy.kids f.split f.end ≡ first_stop_of (kid_count y.form) f.split f.end
  t₂ = ap (λ (k : ℕ). first_stop_of k f.split f.end) ny.kids

  u₁ : second_stop vx.kids f.stop ≡ second_stop (kid_count x.form) f.stop
  u₁ = ap (λ (k : ℕ). second_stop k f.stop) nx.kids

  u₂ : second_stop vy.kids f.end ≡ second_stop (kid_count y.form) f.end
  u₂ = ap (λ (k : ℕ). second_stop k f.end) ny.kids

  abbrev I : ℕ
  I = shape_number x.shape

  abbrev J : ℕ
  J = shape_number y.shape

  pub leaves_of : Asked → Leaves f vx vy w t
  leaves_of a =
      let d = six_code t in
      let r = a.relations in
      record {
        ac = (
          narrows_by refl t₁ (ws.yc ∙ ap (shape_word m J) nx.first) d.0 r.yc,
          narrows_by refl t₂ (ws.xc ∙ ap (shape_word m I) ny.first) d.0 r.xc,
          narrows_by t₁ t₂ (ws.cc ∙ ap₂ (sort_word m) nx.first ny.first) d.0 r.cc,
          λ p q. mask_in nx.keep (six_of t start₁ start₂) d.0 (a.keep₁ start₂ p q),
          λ p q. mask_in ny.keep (six_of t start₂ start₁) d.0 (a.keep₂ start₁ p q),
        );
        an = (
          narrows_by refl u₂ (ws.xd ∙ ap (shape_word m I) ny.second) d.1 r.xd,
          narrows_by t₁ u₂ (ws.cd ∙ ap₂ (sort_word m) nx.first ny.second) d.1 r.cd,
          λ p q. mask_in nx.keep (six_of t start₁ cut₂) d.1 (a.keep₁ cut₂ p q),
          λ p. mask_in ny.apart (six_of t start₁ cut₂) d.1 (a.part₂ start₁ p),
        );
        mc = (
          narrows_by refl u₁ (ws.yd ∙ ap (shape_word m J) nx.second) d.2 r.yd,
          narrows_by u₁ t₂ (ws.dc ∙ ap₂ (sort_word m) nx.second ny.first) d.2 r.dc,
          λ p q. mask_in ny.keep (six_of t start₂ cut₁) d.2 (a.keep₂ cut₁ p q),
          λ p. mask_in nx.apart (six_of t start₂ cut₁) d.2 (a.part₁ start₂ p),
        );
        mn = (
          narrows_by u₁ u₂ (ws.dd ∙ ap₂ (sort_word m) nx.second ny.second) d.3 r.dd,
          λ p. mask_in nx.apart (six_of t cut₂ cut₁) d.3 (a.part₁ cut₂ p),
          λ p. mask_in ny.apart (six_of t cut₁ cut₂) d.3 (a.part₂ cut₁ p),
        );
        am = (
          λ p q. mask_in nx.keep (six_of t start₁ cut₁) d.4 (a.keep₁ cut₁ p q),
          mask_in nx.join (six_of t start₁ cut₁) d.4 a.join₁,
          λ p. mask_in nx.apart (six_of t start₁ cut₁) d.4 (a.part₁ start₁ p),
        );
        cn = (
          λ p q. mask_in ny.keep (six_of t start₂ cut₂) d.5 (a.keep₂ cut₂ p q),
          mask_in ny.join (six_of t start₂ cut₂) d.5 a.join₂,
          λ p. mask_in ny.apart (six_of t start₂ cut₂) d.5 (a.part₂ start₂ p),
        );
      }

  pub of_leaves : Leaves f vx vy w t → Asked
  of_leaves e =
      record {
        relations =
            record {
              yc = by_narrows refl t₁ (ws.yc ∙ ap (shape_word m J) nx.first) d.0 e.ac.0;
              xc = by_narrows refl t₂ (ws.xc ∙ ap (shape_word m I) ny.first) d.0 e.ac.1;
              cc = by_narrows t₁ t₂ (ws.cc ∙ ap₂ (sort_word m) nx.first ny.first) d.0
                  e.ac.2;
              xd = by_narrows refl u₂ (ws.xd ∙ ap (shape_word m I) ny.second) d.1 e.an.0;
              cd = by_narrows t₁ u₂ (ws.cd ∙ ap₂ (sort_word m) nx.first ny.second) d.1
                  e.an.1;
              yd = by_narrows refl u₁ (ws.yd ∙ ap (shape_word m J) nx.second) d.2 e.mc.0;
              dc = by_narrows u₁ t₂ (ws.dc ∙ ap₂ (sort_word m) nx.second ny.first) d.2
                  e.mc.1;
              dd = by_narrows u₁ u₂ (ws.dd ∙ ap₂ (sort_word m) nx.second ny.second) d.3
                  e.mn.0;
            };
        keep₁ = keep₁;
        keep₂ = keep₂;
        join₁ = in_mask nx.join (six_of t start₁ cut₁) d.4 e.am.1;
        join₂ = in_mask ny.join (six_of t start₂ cut₂) d.5 e.cn.1;
        part₁ = part₁;
        part₂ = part₂;
      }
    where
      d : (offset_code (six_of t start₁ start₂) ≡ t % 4)
          × (offset_code (six_of t start₁ cut₂) ≡ t / 4 % 4)
          × (offset_code (six_of t cut₁ start₂) ≡ t / 16 % 4)
          × (offset_code (six_of t cut₁ cut₂) ≡ t / 64 % 4)
          × (offset_code (six_of t start₁ cut₁) ≡ t / 256 % 4)
          × (offset_code (six_of t start₂ cut₂) ≡ t / 1024 % 4)
      d = six_code t

      keep₁ : (c : Corner) → f.start < rank_of f (at c) → rank_of f (at c) < f.stop
          → KeepAsked x.form (six_of t start₁ c)
      keep₁ start₁ p q = absurd (omega arith)
      keep₁ cut₁ p q = in_mask nx.keep (six_of t start₁ cut₁) d.4 (e.am.0 p q)
      keep₁ start₂ p q = in_mask nx.keep (six_of t start₁ start₂) d.0 (e.ac.3 p q)
      keep₁ cut₂ p q = in_mask nx.keep (six_of t start₁ cut₂) d.1 (e.an.2 p q)

      keep₂ : (c : Corner) → f.begin < rank_of f (at c) → rank_of f (at c) < f.end
          → KeepAsked y.form (six_of t start₂ c)
      keep₂ start₁ p q = in_mask ny.keep (six_of t start₂ start₁) d.0 (e.ac.4 p q)
      keep₂ cut₁ p q = in_mask ny.keep (six_of t start₂ cut₁) d.2 (e.mc.2 p q)
      keep₂ start₂ p q = absurd (omega arith)
      keep₂ cut₂ p q = in_mask ny.keep (six_of t start₂ cut₂) d.5 (e.cn.0 p q)

      part₁ : (c : Corner) → rank_of f (at c) < f.cut → PartAsked x.form (six_of t c cut₁)
      part₁ start₁ p = in_mask nx.apart (six_of t start₁ cut₁) d.4 (e.am.2 p)
      part₁ cut₁ p = absurd (omega arith)
      part₁ start₂ p = in_mask nx.apart (six_of t start₂ cut₁) d.2 (e.mc.3 p)
      part₁ cut₂ p = in_mask nx.apart (six_of t cut₂ cut₁) d.3 (e.mn.1 p)

      part₂ : (c : Corner) → rank_of f (at c) < f.split → PartAsked y.form (six_of t c cut₂)
      part₂ start₁ p = in_mask ny.apart (six_of t start₁ cut₂) d.1 (e.an.3 p)
      part₂ cut₁ p = in_mask ny.apart (six_of t cut₁ cut₂) d.3 (e.mn.2 p)
      part₂ start₂ p = in_mask ny.apart (six_of t start₂ cut₂) d.5 (e.cn.2 p)
      part₂ cut₂ p = absurd (omega arith)
