-- Two nodes that stand over a sentence and share a token fit in their setting.
use mathlib.Core.Path.{◌≡◌, sym, ap, subst}
use mathlib.Core.List.{[], ◌∷◌}
use Prim.Native.Nat.{ℕ, ◌+◌, ◌-◌, ◌≤◌, ◌<◌}
use native.Mathlib.Omega.{arith}
use lib.ListN.{length}
use lib.Seq.{slice, length-slice}
use Rattle.grammar.specs.declared.Token.{Token}
use Rattle.grammar.specs.declared.UnaryMark.{UnaryMark}
use Rattle.grammar.specs.declared.BinaryMark.{BinaryMark}
use Rattle.grammar.specs.Layout.{Word, Every, Keeps, Pairs, line}
use Rattle.grammar.specs.Layout as Mark
use Rattle.grammar.specs.Trees.{Rules}
use Rattle.grammar.specs.SpanSheet.{part}
use Rattle.grammar.specs.Candidates.{Rising, Wide}
use Rattle.marks.specs.Half.{token_at}
use Rattle.marks.proofs.Words.{unary_span, binary_span}
use Rattle.pairs.specs.Shapes.{Form, tip, one, two}
use Rattle.pairs.specs.Relations.{Order, less, equal, order, beside}
use Rattle.pairs.specs.Settings.{Corner, start₁, cut₁, start₂, cut₂, Point, at, stop₁, stop₂}
use Rattle.pairs.specs.Settings.{corners, points}
use Rattle.pairs.specs.Settings.{Even, Side, sides_of, MeetIn, InsideIn, AllowsOffset, KeepsIn}
use Rattle.pairs.specs.Settings.{JoinsIn, SitsIn, FitIn}
use Rattle.pairs.proofs.Every.{every_all}
use Rattle.pairs.proofs.Nodes.{offset_at, terminal_at_of, Piece, Meet, Spot, head_of, kids_of_of}
use Rattle.pairs.proofs.Nodes.{Sits}
use Rattle.pairs.proofs.Nodes.{Fits}
use Rattle.pairs.proofs.Nodes.{corner, point, setting_of, piece_of}
use Rattle.pairs.proofs.NodeLaws.{slice_part}
use Rattle.pairs.proofs.OffsetLaws.{Is, is_order, is_of, LiesBy, lies_at, offset_same}
use Rattle.pairs.proofs.OffsetLaws.{offset_turn, lines_rise}
use Rattle.pairs.proofs.OffsetLaws.{align_offset, indent_offset, tri, keeps_allows}

-- 1. marks over a part of the sentence, at its points

module _ (w : Word) (rise : Rising w) (wide : Wide w) where
  slice_as : (i j : ℕ) → i ≤ j → slice i j w ≡ part w i (j - i)
  slice_as i j h =
      let e : i + (j - i) ≡ j = omega arith in
      subst (λ (z : ℕ). slice i z w ≡ part w i (j - i)) e (slice_part i (j - i) w)

  keeps_at : (m : UnaryMark) (i j x : ℕ) → j ≤ length w → Mark.Unary m (slice i j w) → i < x → x < j
      → Keeps m (token_at w i) (token_at w x)
  keeps_at m i j x f u h k =
      let z : i + (x - i) ≡ x = omega arith in
      subst (λ (z : ℕ). Keeps m (token_at w i) (token_at w z)) z
      (unary_span m w i (j - i) (omega arith) (rw (slice_as i j (omega arith)) at u) (x - i)
      (omega arith))

  pairs_at : (k : BinaryMark) (i m j : ℕ) → i < m → m < j → j ≤ length w
      → Mark.Binary k (slice i m w) (slice m j w)
      → Pairs k (token_at w i) (token_at w (m - 1)) (token_at w m)
  pairs_at k i m j h l f u =
      let e : i + (m - i) ≡ m = omega arith in
      let p = slice_as i m (omega arith) in
      let q : slice m j w ≡ part w (i + (m - i)) (j - m) =
      subst (λ (z : ℕ). slice m j w ≡ part w z (j - m)) (sym e) (slice_as m j (omega arith)) in
      let r = (binary_span k w i (m - i) (j - m) (omega arith) (omega arith) (omega arith)).1
      (rw (p, q) at u) in
      subst (λ (z : ℕ). Pairs k (token_at w i) (token_at w (z - 1)) (token_at w z)) e r

-- 2. the setting of two nodes

module _ (g : Rules) (w : Word) (rise : Rising w) (wide : Wide w) (x y : Spot) (fx : Fits g w x)
    (fy : Fits g w y) where
  cut_inside : (z : Spot) → Fits g w z → (z.whole.start ≤ z.cut) × (z.cut < z.whole.stop)
  cut_inside z f = by z.form f.sits
    where
      by : (h : Form) → Sits g w h z.whole.start z.cut z.whole.stop
          → (z.whole.start ≤ z.cut) × (z.cut < z.whole.stop)
      by (tip a b) s = (omega (arith, s.2), omega (arith, s.2, f.nonempty))
      by (one C l k) s = (omega (arith, s.2), omega (arith, s.2, f.nonempty))
      by (two C D k l) s = (omega (arith, s.0), omega (arith, s.1))

  corner_inside : (c : Corner) → corner x y c < length w
  corner_inside start₁ = omega (arith, fx.nonempty, fx.inside)
  corner_inside cut₁ = omega (arith, (cut_inside x fx).1, fx.inside)
  corner_inside start₂ = omega (arith, fy.nonempty, fy.inside)
  corner_inside cut₂ = omega (arith, (cut_inside y fy).1, fy.inside)

  lies : (c d : Corner) → corner x y c < corner x y d
      → LiesBy (token_at w (corner x y c)) (token_at w (corner x y d))
      (offset_at w (corner x y c) (corner x y d))
  lies c d h = lies_at w rise wide (corner x y c) (corner x y d) h (corner_inside d)

  is : (p q : Point) (o : Order) → order (point x y p) (point x y q) ≡ o
      → Is o (point x y p) (point x y q)
  is p q o e = is_of (point x y p) (point x y q) o e

  even : Even (setting_of w x y)
  even =
      record {
        same = λ c d e. offset_same w (corner x y c) (corner x y d) (is (at c) (at d) equal e);
        alike = λ c d e h. ap (λ (z : ℕ). offset_at w z (corner x y e)) (is (at c) (at d) equal h);
        turn = λ c d. offset_turn w (corner x y c) (corner x y d);
        three = λ c d e h k.
            let a : corner x y c < corner x y d = is (at c) (at d) less h in
            let b : corner x y d < corner x y e = is (at d) (at e) less k in
            let z : corner x y c < corner x y e = omega arith in
            tri (token_at w (corner x y c)) (token_at w (corner x y d)) (token_at w (corner x y e))
            (offset_at w (corner x y c) (corner x y d)) (offset_at w (corner x y d) (corner x y e))
            (offset_at w (corner x y c) (corner x y e)) (lies c d a) (lies d e b) (lies c e z);
        token = λ p q e. ap (terminal_at_of w) (is p q equal e);
      }

  keeps_in : (m : UnaryMark) (i : Corner) (j : Point) → point x y j ≤ length w
      → Mark.Unary m (slice (corner x y i) (point x y j) w) → KeepsIn m (setting_of w x y) i j
  keeps_in m i j f u =
      every_all
      {P = λ c. InsideIn (setting_of w x y) (at i) j (at c)
      → AllowsOffset m (offset_at w (corner x y i) (corner x y c))}
      one corners
    where
      one : (c : Corner) → InsideIn (setting_of w x y) (at i) j (at c)
          → AllowsOffset m (offset_at w (corner x y i) (corner x y c))
      one c h =
          let a : corner x y i < corner x y c = is (at i) (at c) less h.low in
          let b : corner x y c < point x y j = is (at c) j less h.high in
          keeps_allows m (token_at w (corner x y i)) (token_at w (corner x y c))
          (offset_at w (corner x y i) (corner x y c)) (lies i c a)
          (keeps_at w rise wide m (corner x y i) (point x y j) (corner x y c) f u a b)

  joins_in : (k : BinaryMark) (i m : Corner) → corner x y i < corner x y m
      → Pairs k (token_at w (corner x y i)) (token_at w (corner x y m - 1))
      (token_at w (corner x y m))
      → JoinsIn k (setting_of w x y) i m
  joins_in BinaryMark.None i m h p = tt
  joins_in BinaryMark.Align i m h p =
      align_offset (token_at w (corner x y i)) (token_at w (corner x y m))
      (offset_at w (corner x y i) (corner x y m)) (lies i m h) p
  joins_in BinaryMark.Indent i m h p = (
    indent_offset (token_at w (corner x y i)) (token_at w (corner x y m))
        (offset_at w (corner x y i) (corner x y m)) (lies i m h) (up i h) p.0,
    every_all
        {P = λ c. order (corner x y c) (corner x y m) ≡ less
        → offset_at w (corner x y c) (corner x y m) ≡ beside → ⊥}
        apart corners,
  )
    where
      up : (c : Corner) → corner x y c < corner x y m
          → line (token_at w (corner x y c)) < line (token_at w (corner x y m))
      up c l =
          let r =
          lines_rise w rise wide (corner x y c) (corner x y m - 1) (omega arith)
          (omega (arith, corner_inside m)) in
          omega (arith, p.1, r)

      apart : (c : Corner) → order (corner x y c) (corner x y m) ≡ less
          → offset_at w (corner x y c) (corner x y m) ≡ beside → ⊥
      apart c l e =
          let a : corner x y c < corner x y m = is (at c) (at m) less l in
          let z : LiesBy (token_at w (corner x y c)) (token_at w (corner x y m)) beside =
          subst (LiesBy (token_at w (corner x y c)) (token_at w (corner x y m))) e (lies c m a) in
          omega (arith, up c a, z.0)

  nothing_inside : (i : Corner) (j p : Point) (t : Token) → point x y j ≤ length w
      → slice (corner x y i) (point x y j) w ≡ t ∷ [] → InsideIn (setting_of w x y) (at i) j p → ⊥
  nothing_inside i j p t k e h =
      let a : corner x y i < point x y p = is (at i) p less h.low in
      let b : point x y p < point x y j = is p j less h.high in
      omega (arith, ap length e, length-slice (corner x y i) (point x y j) w k)

  sits_in : (f : Form) (i m : Corner) (j : Point) → corner x y i < point x y j
      → point x y j ≤ length w
      → Sits g w f (corner x y i) (corner x y m) (point x y j) → SitsIn g (setting_of w x y) f i m j
  sits_in (tip a b) i m j h k s = (
    every_all {P = λ p. InsideIn (setting_of w x y) (at i) j p → ⊥}
        (λ p. nothing_inside i j p s.0 k s.1) points,
    is_order equal (corner x y i) (corner x y m) (sym s.2),
    s.3,
  )
  sits_in (one C l n) i m j h k s = (
    keeps_in l i j k s.0,
    keeps_in n i j k s.1,
    is_order equal (corner x y i) (corner x y m) (sym s.2),
    s.3,
  )
  sits_in (two C D n l) i m j h k s = (
    is_order less (corner x y i) (corner x y m) s.0,
    is_order less (corner x y m) (point x y j) s.1,
    joins_in n i m s.0
        (pairs_at w rise wide n (corner x y i) (corner x y m) (point x y j) s.0 s.1 k s.2),
    keeps_in l i j k s.3,
    s.4,
    s.5,
  )

  pub fit_in : Meet x.whole y.whole → FitIn g (setting_of w x y) (head_of x) (head_of y)
  fit_in m =
      record {
        looks₁ = fx.looks;
        looks₂ = fy.looks;
        even = even;
        nonempty₁ = is_order less x.whole.start x.whole.stop fx.nonempty;
        nonempty₂ = is_order less y.whole.start y.whole.stop fy.nonempty;
        sits₁ = sits_in x.form start₁ cut₁ stop₁ fx.nonempty fx.inside fx.sits;
        sits₂ = sits_in y.form start₂ cut₂ stop₂ fy.nonempty fy.inside fy.sits;
        meet =
            record {
              before = is_order less x.whole.start y.whole.stop m.before;
              behind = is_order less y.whole.start x.whole.stop m.behind;
            };
      }

-- 3. the children

pub each_side : (x y : Spot) (P : Piece → Type 0) (f : Form) (i m : Corner) (j : Point)
    → Every P (kids_of_of f (corner x y i) (corner x y m) (point x y j))
    → Every (λ k. P (piece_of x y k)) (sides_of f i m j)
each_side x y P (tip a b) i m j e = e
each_side x y P (one C l k) i m j e = e
each_side x y P (two C D l k) i m j e = e

pub meets : (w : Word) (x y : Spot) (k l : Side) → MeetIn (setting_of w x y) k l
    → Meet (piece_of x y k) (piece_of x y l)
meets w x y k l m =
    record {
      before = is_of (corner x y k.from) (point x y l.till) less m.before;
      behind = is_of (corner x y l.from) (point x y k.till) less m.behind;
    }
