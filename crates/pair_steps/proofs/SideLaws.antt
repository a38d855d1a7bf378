-- Nodes and their children in a setting, by their parts.
use mathlib.Core.Path.{◌≡◌}
use mathlib.Core.List.{List, [], ◌∷◌}
use Prim.Native.Nat.{ℕ, ◌<◌}
use native.Mathlib.Omega.{arith}
use Rattle.grammar.specs.declared.UnaryMark.{UnaryMark}
use Rattle.grammar.specs.declared.BinaryMark.{BinaryMark}
use Rattle.grammar.specs.Layout.{Every}
use Rattle.grammar.specs.Trees.{Rules}
use Rattle.pairs.specs.Shapes.{Form, tip, one, two, Head}
use Rattle.pairs.specs.Relations.{less, equal, beside}
use Rattle.pairs.specs.Settings.{Corner, start₁, cut₁, start₂, cut₂, Point, at, stop₁, stop₂}
use Rattle.pairs.specs.Settings.{corners, points}
use Rattle.pairs.specs.Settings.{Setting, Side, sides_of, whole₁, whole₂, sides₁, sides₂, InsideIn}
use Rattle.pairs.specs.Settings.{AllowsOffset, JoinsIn, SitsIn}
use Rattle.pairs.specs.Facts.{Couple, Fact, with_each, crossed, couples, against, sorts}
use Rattle.pairs.proofs.Every.{every_map}
use Rattle.pairs.proofs.PairLaws.{every_with, every_crossed}
use Rattle.pairs.specs.Relations.{Relation}
use Rattle.pair_steps.specs.Nodes.{kid_count, first_of, second_of, Joint, Parted, KeepAsked}
use Rattle.pair_steps.specs.Nodes.{JoinAsked, PartAsked}
use Rattle.pair_steps.specs.Nodes.{BeginAsked, NextAsked, NodeOf}
use Rattle.pair_steps.specs.declared.Node.{Node}
use Rattle.pair_steps.specs.Tables.{Proper}
use Rattle.pair_steps.specs.Leaving.{first_stop_of, second_stop}

-- 1. corners and points

pub corner_of : (P : Corner → Type 0) → Every P corners → (c : Corner) → P c
corner_of P e start₁ = e.0
corner_of P e cut₁ = e.1.0
corner_of P e start₂ = e.1.1.0
corner_of P e cut₂ = e.1.1.1.0

of_corner : (P : Corner → Type 0) → ((c : Corner) → P c) → Every P corners
of_corner P f = (f start₁, (f cut₁, (f start₂, (f cut₂, tt))))

point_of : (P : Point → Type 0) → Every P points → (p : Point) → P p
point_of P e (at start₁) = e.0
point_of P e (at cut₁) = e.1.0
point_of P e (at start₂) = e.1.1.0
point_of P e (at cut₂) = e.1.1.1.0
point_of P e stop₁ = e.1.1.1.1.0
point_of P e stop₂ = e.1.1.1.1.1.0

of_point : (P : Point → Type 0) → ((p : Point) → P p) → Every P points
of_point P f =
    (f (at start₁), (f (at cut₁), (f (at start₂), (f (at cut₂), (f stop₁, (f stop₂, tt))))))

-- 2. what a node asks where it sits

module _ (g : Rules) (σ : Setting) where
  -- how it lies, by how many children it has
  abbrev pub PlacedIn : Form → Corner → Corner → Point → Type 0
  PlacedIn (tip a b) i m j =
      ((p : Point) → InsideIn σ (at i) j p → ⊥) × (σ.order (at i) (at m) ≡ equal)
  PlacedIn (one C l k) i m j = σ.order (at i) (at m) ≡ equal
  PlacedIn (two C D k l) i m j = (σ.order (at i) (at m) ≡ less) × (σ.order (at m) j ≡ less)

  pub record Parts (h : Form) (i m : Corner) (j : Point) : Type 0 where
    pub placed : PlacedIn h i m j
    pub keep : (c : Corner) → InsideIn σ (at i) j (at c) → KeepAsked h (σ.offset i c)
    pub join : JoinAsked h (σ.offset i m)
    pub part : (c : Corner) → σ.order (at c) (at m) ≡ less → PartAsked h (σ.offset c m)
    pub begin : BeginAsked g h (σ.next (at i))
    pub next : NextAsked g h (σ.next (at m))

  abbrev Apart : Corner → Corner → Type 0
  Apart m c = σ.order (at c) (at m) ≡ less → σ.offset c m ≡ beside → ⊥

  joint : (k : BinaryMark) (i m : Corner) → JoinsIn k σ i m → Joint k (σ.offset i m)
  joint BinaryMark.None i m j = tt
  joint BinaryMark.Align i m j = j
  joint BinaryMark.Indent i m j = j.0

  parted : (k : BinaryMark) (i m : Corner) → JoinsIn k σ i m → (c : Corner)
      → σ.order (at c) (at m) ≡ less → Parted k (σ.offset c m)
  parted BinaryMark.None i m j c h = tt
  parted BinaryMark.Align i m j c h = tt
  parted BinaryMark.Indent i m j c h = corner_of (Apart m) j.1 c h

  joins : (k : BinaryMark) (i m : Corner) → Joint k (σ.offset i m)
      → ((c : Corner) → σ.order (at c) (at m) ≡ less → Parted k (σ.offset c m)) → JoinsIn k σ i m
  joins BinaryMark.None i m j p = tt
  joins BinaryMark.Align i m j p = j
  joins BinaryMark.Indent i m j p = (j, of_corner (Apart m) p)

  module _ (i m : Corner) (j : Point) where
    abbrev Keep : UnaryMark → Corner → Type 0
    Keep l c = InsideIn σ (at i) j (at c) → AllowsOffset l (σ.offset i c)

    pub parts_of : (h : Form) → SitsIn g σ h i m j → Parts h i m j
    parts_of (tip a b) s =
        record {
          placed = (point_of (λ p. InsideIn σ (at i) j p → ⊥) s.0, s.1);
          keep = λ c h. tt;
          join = tt;
          part = λ c h. tt;
          begin = s.2;
          next = tt;
        }
    parts_of (one C l k) s =
        record {
          placed = s.2;
          keep = λ c h. (corner_of (Keep l) s.0 c h, corner_of (Keep k) s.1 c h);
          join = tt;
          part = λ c h. tt;
          begin = s.3;
          next = tt;
        }
    parts_of (two C D k l) s =
        record {
          placed = (s.0, s.1);
          keep = λ c h. corner_of (Keep l) s.3 c h;
          join = joint k i m s.2;
          part = parted k i m s.2;
          begin = s.4;
          next = s.5;
        }

    pub of_parts : (h : Form) → Parts h i m j → SitsIn g σ h i m j
    of_parts (tip a b) p = (
      of_point (λ p. InsideIn σ (at i) j p → ⊥) p.placed.0,
      p.placed.1,
      p.begin,
    )
    of_parts (one C l k) p = (
      of_corner (Keep l) (λ c h. (p.keep c h).0),
      of_corner (Keep k) (λ c h. (p.keep c h).1),
      p.placed,
      p.begin,
    )
    of_parts (two C D k l) p = (
      p.placed.0,
      p.placed.1,
      joins k i m p.join p.part,
      of_corner (Keep l) p.keep,
      p.begin,
      p.next,
    )

-- 3. couples, side by side

pub with_every : (P : Couple → Type 0) (x : Side) (a : ℕ → Relation → Fact) (l : List Side)
    (rest : List Couple) → Every P (with_each x a l rest)
    → Every (λ k. P (record { left = x; right = k; fact = a k.sort })) l × Every P rest
with_every P x a [] rest e = (tt, e)
with_every P x a (k ∷ l) rest e =
    let r = with_every P x a l rest e.1 in ((e.0, r.0), r.1)

pub crossed_every : (P : Couple → Type 0) (ks ls : List Side) → Every P (crossed ks ls)
    → Every (λ k. Every (λ j. P (record { left = k; right = j; fact = sorts k.sort j.sort }))
    ls) ks
crossed_every P [] ls e = tt
crossed_every P (k ∷ ks) ls e =
    let r = with_every P k (sorts k.sort) ls (crossed ks ls) e in
    (r.0, crossed_every P ks ls r.1)

-- what is asked of each child, by its nonterminal, its start and the number of its stop: nothing,
-- if that is 0
module _ (f : Point → ℕ) (Q : ℕ → Corner → ℕ → Type 0) where
  abbrev Each : Form → Corner → Corner → Point → Type 0
  Each h i m j = Every (λ s. Q s.sort s.from (f s.till)) (sides_of h i m j)

  abbrev Both : Form → Corner → Corner → Point → Type 0
  Both h i m j =
      Q (first_of h) i (first_stop_of (kid_count h) (f (at m)) (f j))
      × Q (second_of h) m (second_stop (kid_count h) (f j))

  pub each_both : ((C : ℕ) (c : Corner) → Q C c 0) → (h : Form) (i m : Corner) (j : Point)
      → Each h i m j → Both h i m j
  each_both z (tip a b) i m j e = (z 0 i, z 0 m)
  each_both z (one C l k) i m j e = (e.0, z 0 m)
  each_both z (two C D k l) i m j e = (e.0, e.1.0)

  pub both_each : (h : Form) (i m : Corner) (j : Point) → Both h i m j → Each h i m j
  both_each (tip a b) i m j e = tt
  both_each (one C l k) i m j e = (e.0, tt)
  both_each (two C D k l) i m j e = (e.0, (e.1, tt))

-- 4. nonterminals below 64

small_sides : (h : Form) (i m : Corner) (j : Point) → first_of h < 64 → second_of h < 64
    → Every (λ s. s.sort < 64) (sides_of h i m j)
small_sides (tip a b) i m j p q = tt
small_sides (one C l k) i m j p q = (p, tt)
small_sides (two C D k l) i m j p q = (p, (q, tt))

-- the facts of a couple have places of their own
pub record ProperCouple (c : Couple) : Type 0 where
  pub fact : (r : Relation) → Proper (c.fact r)
  pub left : c.left.sort < 64
  pub right : c.right.sort < 64

pub proper_couples : {g : Rules} {x y : Head} {vx vy : Node} → NodeOf g x vx → NodeOf g y vy
    → Every ProperCouple (couples x y)
proper_couples {g} {x} {y} {vx} {vy} nx ny =
    every_with ProperCouple (whole₁ x) (against x.shape) (sides₂ y)
    (with_each (whole₂ y) (against y.shape) (sides₁ x) (crossed (sides₁ x) (sides₂ y)))
    (every_map (λ s h. record {
      fact = λ r. (nx.place, h);
      left = omega
          (arith, nx.sort, nx.small.0);
      right = h;
    }) (sides₂ y) small₂)
    (every_with ProperCouple (whole₂ y) (against y.shape) (sides₁ x)
    (crossed (sides₁ x) (sides₂ y))
    (every_map (λ s h. record {
      fact = λ r. (ny.place, h);
      left = omega
          (arith, ny.sort, ny.small.0);
      right = h;
    }) (sides₁ x) small₁)
    (every_crossed ProperCouple (sides₁ x) (sides₂ y)
    (every_map
    (λ s h. every_map (λ u k. record { fact = λ r. (h, k); left = h; right = k }) (sides₂ y) small₂)
    (sides₁ x) small₁)))
  where
    small₁ : Every (λ s. s.sort < 64) (sides₁ x)
    small₁ =
        small_sides x.form start₁ cut₁ stop₁ (omega (arith, nx.first, nx.small.1))
        (omega (arith, nx.second, nx.small.2))

    small₂ : Every (λ s. s.sort < 64) (sides₂ y)
    small₂ =
        small_sides y.form start₂ cut₂ stop₂ (omega (arith, ny.first, ny.small.1))
        (omega (arith, ny.second, ny.small.2))
