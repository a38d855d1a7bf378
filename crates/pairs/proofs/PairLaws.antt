-- The pair lemma: two nodes of two trees over one rising sentence that share a token may stand so.
use mathlib.Core.Path.{subst}
use mathlib.Core.List.{List, [], ◌∷◌}
use Prim.Native.Nat.{ℕ, zero, suc, ◌+◌, ◌<◌}
use native.Mathlib.Omega.{arith}
use Rattle.grammar.specs.Layout.{Word, Every}
use Rattle.grammar.specs.Trees.{Rules}
use Rattle.grammar.specs.Candidates.{Rising, Wide}
use Rattle.grammar.proofs.Lists.{mem_every}
use Rattle.pairs.specs.Relations.{order, Relation}
use Rattle.pairs.specs.Settings.{start₁, cut₁, stop₁, start₂, cut₂, stop₂, Setting, Side}
use Rattle.pairs.specs.Settings.{whole₁, whole₂, sides₁, sides₂, MeetIn, relation_in}
use Rattle.pairs.specs.Facts.{Fact, stand, against, sorts, behind, Couple, with_each, crossed}
use Rattle.pairs.specs.Facts.{couples}
use Rattle.pairs.specs.Facts.{behind_in, Might, two_nodes, of_node, of_sorts, of_next}
use Rattle.pairs.proofs.Every.{every_map}
use Rattle.pairs.proofs.Nodes.{Piece, Meet, relation, next_at, Spot, head_of}
use Rattle.pairs.proofs.Nodes.{point, offsets, terminals, setting_of, piece_of}
use Rattle.pairs.proofs.NodeLaws.{TreeOver, Rooted, topped}
use Rattle.pairs.proofs.SettingLaws.{fit_in, each_side, meets}

-- 1. what holds of each couple

pub every_with : (P : Couple → Type 0) (x : Side) (a : ℕ → Relation → Fact) (l : List Side)
    (rest : List Couple)
    → Every (λ k. P (record { left = x; right = k; fact = a k.sort })) l → Every P rest
    → Every P (with_each x a l rest)
every_with P x a [] rest e f = f
every_with P x a (k ∷ l) rest e f = (e.0, every_with P x a l rest e.1 f)

pub every_crossed : (P : Couple → Type 0) (ks ls : List Side)
    → Every (λ k. Every (λ j. P (record { left = k; right = j; fact = sorts k.sort j.sort }))
    ls) ks → Every P (crossed ks ls)
every_crossed P [] ls e = tt
every_crossed P (k ∷ ks) ls e =
    every_with P k (sorts k.sort) ls (crossed ks ls) e.0 (every_crossed P ks ls e.1)

abbrev behind_at : Word → Piece → Piece → Fact
behind_at w p q =
    behind p.sort q.sort (order p.start q.start) (order p.stop q.stop)
    (next_at w p q)

module _ (g : Rules) (w : Word) (rise : Rising w) (wide : Wide w) where
  record Told (σ : Setting) (c : Couple) : Type 0 where
    told : MeetIn σ c.left c.right
        → Might g (c.fact (relation_in σ c.left c.right))
        × Might g (behind_in σ c.left c.right)

  -- 2. the lemma for smaller nodes

  abbrev Smaller : ℕ → Type 0
  Smaller n =
      (i j : ℕ) (x y : Spot) → i + j < n → Rooted g w i x → Rooted g w j y
      → Meet x.whole y.whole → Might g (stand (setting_of w x y) (head_of x) (head_of y))

  -- a node and a child of the other
  down : (i j : ℕ) (x : Spot) (k : Piece) → Smaller (i + j) → Rooted g w i x → TreeOver g w j k
      → Meet x.whole k
      → Might g (against x.shape k.sort (relation w x.whole k))
      × Might g (behind_at w x.whole k)
  down i j x k ih r t =
      let z = topped g w t in
      subst
      (λ (q : Piece). Meet x.whole q
      → Might g (against x.shape q.sort (relation w x.whole q))
      × Might g (behind_at w x.whole q)) z.is
      (λ m. let s = ih i z.size x z.spot (omega (arith, z.less)) r z.rooted m in
      (of_node s, of_next s))

  -- two children
  across : (i j : ℕ) (k l : Piece) → Smaller (i + j) → TreeOver g w i k → TreeOver g w j l
      → Meet k l
      → Might g (sorts k.sort l.sort (relation w k l)) × Might g (behind_at w k l)
  across i j k l ih t u =
      let x = topped g w t in
      let y = topped g w u in
      subst
      (λ (p : Piece). Meet p l → Might g (sorts p.sort l.sort (relation w p l))
      × Might g (behind_at w p l)) x.is (subst (λ (q : Piece). Meet x.spot.whole q
      → Might g (sorts x.spot.whole.sort q.sort (relation w x.spot.whole q))
      × Might g (behind_at w x.spot.whole q)) y.is
      (λ m.
      let s =
      ih x.size y.size x.spot y.spot (omega (arith, x.less, y.less)) x.rooted
      y.rooted m in (of_sorts s, of_next s)))

  module _ (i j : ℕ) (x y : Spot) (ih : Smaller (i + j)) (r : Rooted g w i x)
      (q : Rooted g w j y) where
    grown₁ : Every (λ k. TreeOver g w i (piece_of x y k)) (sides₁ (head_of x))
    grown₁ = each_side x y (TreeOver g w i) x.form start₁ cut₁ stop₁ r.below

    grown₂ : Every (λ k. TreeOver g w j (piece_of x y k)) (sides₂ (head_of y))
    grown₂ = each_side x y (TreeOver g w j) y.form start₂ cut₂ stop₂ q.below

    every_told : Every (Told (setting_of w x y)) (couples (head_of x) (head_of y))
    every_told =
        every_with (Told (setting_of w x y)) (whole₁ (head_of x)) (against x.shape)
        (sides₂ (head_of y))
        (with_each (whole₂ (head_of y)) (against y.shape) (sides₁ (head_of x))
        (crossed (sides₁ (head_of x)) (sides₂ (head_of y))))
        (every_map
        (λ k t.
        record {
          told =
              λ m. down i j x (piece_of x y k) ih r t (meets w x y (whole₁ (head_of x)) k m);
        })
        (sides₂ (head_of y)) grown₂)
        (every_with (Told (setting_of w x y)) (whole₂ (head_of y)) (against y.shape)
        (sides₁ (head_of x)) (crossed (sides₁ (head_of x)) (sides₂ (head_of y))) (every_map (λ k t.
        record {
          told = λ m.
              down j i y (piece_of x y k) (λ i' j' x' y' l. ih i' j' x' y' (omega arith)) q t
              (meets w x y (whole₂ (head_of y)) k m);
        }) (sides₁ (head_of x)) grown₁)
        (every_crossed (Told (setting_of w x y)) (sides₁ (head_of x)) (sides₂ (head_of y))
        (every_map
        (λ k t.
        every_map
        (λ l u. record {
          told = λ m. across i j (piece_of x y k) (piece_of x y l) ih t u
              (meets w x y k l m);
        }) (sides₂ (head_of y)) grown₂) (sides₁ (head_of x)) grown₁)))

    step : Meet x.whole y.whole → Might g (stand (setting_of w x y) (head_of x) (head_of y))
    step m =
        two_nodes (point x y) (offsets w x y) (terminals w x y) (head_of x) (head_of y)
        (fit_in g w rise wide x y r.fits q.fits m)
        (λ c h k. ((mem_every (Told (setting_of w x y)) (couples (head_of x) (head_of y)) every_told
        h
        ).told k).0)
        (λ c h k d. ((mem_every (Told (setting_of w x y)) (couples (head_of x) (head_of y))
        every_told h
        ).told k).1)

  smaller : (n : ℕ) → Smaller n
  smaller zero i j x y h = absurd (omega arith)
  smaller (suc n) i j x y h = step i j x y (λ i' j' x' y' l. smaller n i' j' x' y' (omega arith))

  -- THE PAIR LEMMA
  pub pair : (i j : ℕ) (x y : Spot) → Rooted g w i x → Rooted g w j y → Meet x.whole y.whole
      → Might g (stand (setting_of w x y) (head_of x) (head_of y))
  pair i j x y = smaller (suc (i + j)) i j x y (omega arith)
