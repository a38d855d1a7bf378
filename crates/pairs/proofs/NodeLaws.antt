-- The nodes of valid trees of 0 over a sentence.
use mathlib.Core.Path.{◌≡◌, refl, sym, ap, ◌∙◌, subst}
use mathlib.Core.List.{[], ◌∷◌, ◌++◌, Memᴰ}
use mathlib.Core.Option.{some}
use Prim.Native.Nat.{ℕ, zero, suc, ◌+◌, ◌-◌, ◌≤◌, ◌<◌}
use native.Mathlib.Omega.{arith}
use lib.ListN.{length, length-append, get_elem?, take}
use lib.Seq.{slice, take-nil}
use Rattle.grammar.specs.declared.Token.{Token}
use Rattle.grammar.specs.declared.UnaryMark.{UnaryMark}
use Rattle.grammar.specs.declared.Clause.TheVariants as Clause
use Rattle.grammar.specs.Layout.{Word, Every}
use Rattle.grammar.specs.Trees.{Tree, empty, leaf, unary, binary, root, word, Rules, Covers}
use Rattle.grammar.specs.Trees.{Valid, valid_unary, valid_binary}
use Rattle.grammar.specs.Choices.{Takes}
use Rattle.grammar.specs.Rows.{row_count}
use Rattle.grammar.specs.SpanSheet.{part}
use Rattle.grammar.proofs.ChoiceLaws.{takes_of}
use Rattle.marks.specs.Half.{token_at}
use Rattle.marks.proofs.Words.{part_at}
use Rattle.places.proofs.PlaceLaws.{Lies, lies_left, lies_right}
use Rattle.pairs.specs.Survey.{CanBegin}
use Rattle.pairs.specs.Shapes.{Form, tip, one, two, children, Shape, all, first, second}
use Rattle.pairs.specs.Shapes.{rule_of_shape}
use Rattle.pairs.specs.Shapes.{tips, units, twos, firsts, seconds}
use Rattle.pairs.proofs.LevelLaws.{no_mark, Stock, bare, full, stock, null_of, productive}
use Rattle.pairs.proofs.LevelLaws.{begins}
use Rattle.pairs.proofs.LevelLaws.{Kept, kept_below, kept_first, kept_second}
use Rattle.pairs.proofs.Nodes.{terminal_at_of, Piece, Spot, kids, Fits}

-- 1. a node's word as a part of the sentence

pub slice_part : (a n : ℕ) (w : Word) → slice a (a + n) w ≡ part w a n
slice_part zero n w = let e : 0 + n ≡ n = omega arith in ap (λ (k : ℕ). take k w) e
slice_part (suc a) n [] = let e : suc a + n ≡ suc (a + n) = omega arith in rw e (sym (take-nil n))
slice_part (suc a) n (t ∷ w) = let e : suc a + n ≡ suc (a + n) = omega arith in
    rw e (slice_part a n w)

lies_word : (w : Word) (t : Tree) (a : ℕ) → Lies w t a → word t ≡ slice a (a + length (word t)) w
lies_word w t a l = l.spelled ∙ sym (slice_part a (length (word t)) w)

-- its first token
lies_first : (w : Word) (t : Tree) (a : ℕ) → Lies w t a → 1 ≤ length (word t)
    → token_at (word t) 0 ≡ token_at w a
lies_first w t a l h =
    ap (λ (v : Word). token_at v 0) l.spelled
    ∙ (part_at w a (length (word t)) 0 h ∙ ap (token_at w) (let e : a + 0 ≡ a = omega arith in e))

abbrev pub piece : Tree → ℕ → Piece
piece t a = record { sort = root t; start = a; stop = a + length (word t) }

piece_path : {A a b c d : ℕ} → a ≡ b → c ≡ d
    → ◌≡◌ {A = Piece} (record { sort = A; start = a; stop = c })
    (record { sort = A; start = b; stop = d })
piece_path {A} p q = λ i. record { sort = A; start = p i; stop = q i }

-- the length of the left word, read from a node
abbrev pub split_of : Shape → ℕ → ℕ → ℕ → ℕ
split_of (all p) i m j = m - i
split_of (first p) i m j = j - i
split_of (second p) i m j = 0

-- the form has among its children each child of the tree's top that has tokens
abbrev pub Heirs : Tree → Form → Type 0
Heirs (empty A) f = Unit {0}
Heirs (leaf A t) f = Unit {0}
Heirs (unary A t) f = Memᴰ (root t) (children f)
Heirs (binary A r t) f =
    (1 ≤ length (word r) → Memᴰ (root r) (children f))
    × (1 ≤ length (word t) → Memᴰ (root t) (children f))

module _ (g : Rules) (w : Word) where
  -- 2. from trees to nodes with trees below

  -- a piece of the sentence over which a tree stands, of fewer than n nodes
  pub record TreeOver (n : ℕ) (x : Piece) : Type 0 where
    pub tree : Tree
    pub start : ℕ
    pub is : x ≡ piece tree start
    pub valid : Valid g tree
    pub lies : Lies w tree start
    pub full : 1 ≤ length (word tree)
    pub kept : Kept g (root tree) (word tree)
    pub small : row_count tree < n

  -- the top of a tree at a that takes the choice (p, k)
  pub record Sprout (t : Tree) (a p k : ℕ) : Type 0 where
    pub spot : Spot
    pub is : spot.whole ≡ piece t a
    pub fits : Fits g w spot
    pub below : Every (TreeOver (row_count t)) (kids spot)
    pub heirs : Heirs t spot.form
    pub place : rule_of_shape spot.shape ≡ p
    pub split : split_of spot.shape a spot.cut (a + length (word t)) ≡ k

  -- the first terminal of a subtree that has tokens
  begins_at : {t : Tree} {a : ℕ} → Valid g t → Lies w t a → 1 ≤ length (word t)
      → CanBegin g (root t) (terminal_at_of w a)
  begins_at {t} {a} v l f =
      subst (λ (z : Token). CanBegin g (root t) z.terminal) (lies_first w t a l f) (begins g v f)

  pub sprout : (t : Tree) (a p k : ℕ) → Valid g t → Takes g t p k → Lies w t a → 1 ≤ length (word t)
      → Kept g (root t) (word t) → Sprout t a p k
  sprout (empty A) a p k v c l f h = absurd (omega arith)
  sprout (leaf A x) a p k v c l f h =
      record {
        spot =
            record {
              whole = piece (leaf A x) a;
              shape = all p;
              form = tip c.top.0 c.top.1;
              cut = a;
            };
        is = refl;
        fits =
            record {
              looks = tips (h.marked f).inherits (c.stands ∙ ap some c.top.2);
              nonempty = omega arith;
              inside = l.fits;
              sits = (
                x,
                sym (lies_word w (leaf A x) a l),
                refl,
                subst (λ (z : Token). Covers c.top.0 c.top.1 z.terminal)
                    (lies_first w (leaf A x) a l f) c.top.3,
              );
            };
        below = tt;
        heirs = tt;
        place = refl;
        split = omega (arith, c.top.4);
      }
  sprout (unary A t) a p k (valid_unary m' h' x' v) c l f h =
      let e = lies_word w (unary A t) a l in
      let q = h.marked f in
      let low : Lies w t a = record { fits = l.fits; spelled = l.spelled } in
      record {
        spot =
            record {
              whole = piece (unary A t) a;
              shape = all p;
              form = one (root t) q.mark c.top.0;
              cut = a;
            };
        is = refl;
        fits =
            record {
              looks = units q.inherits (c.stands ∙ ap some c.top.1) (productive g v f);
              nonempty = omega arith;
              inside = l.fits;
              sits = (rw e at q.keeps, rw e at c.top.3, refl, begins_at v low f);
            };
        below = (
          record {
            tree = t;
            start = a;
            is = refl;
            valid = v;
            lies = low;
            full = f;
            kept = kept_below g m' h' v x' h;
            small = omega arith;
          },
          tt,
        );
        heirs = Memᴰ.head refl;
        place = refl;
        split = omega (arith, c.top.2);
      }
  sprout (binary A r t) a p k (valid_binary m' h' x' v v') c l f h = by (stock g v) (stock g v')
    where
      low : Lies w r a
      low = lies_left w r t a A l

      high : Lies w t (a + length (word r))
      high = lies_right w r t a A l

      kept₁ : Kept g (root r) (word r)
      kept₁ = kept_first g m' h' v v' h

      kept₂ : Kept g (root t) (word t)
      kept₂ = kept_second g m' h' v v' h

      e : word r ++ word t ≡ slice a (a + length (word r ++ word t)) w
      e = lies_word w (binary A r t) a l

      n : length (word r ++ word t) ≡ length (word r) + length (word t)
      n = length-append (word r) (word t)

      stands : get_elem? g p ≡ some (record
          { left = A; clause = Clause.Binary (root r) (root t) c.top.0 })
      stands = c.stands ∙ ap some c.top.1

      grown₁ : (z : ℕ) → a + length (word r) ≡ z → 1 ≤ length (word r)
          → TreeOver (row_count (binary A r t)) (record { sort = root r; start = a; stop = z })
      grown₁ z q f =
          record {
            tree = r;
            start = a;
            is = piece_path refl (sym q);
            valid = v;
            lies = low;
            full = f;
            kept = kept₁;
            small = omega arith;
          }

      grown₂ : (y z : ℕ) → a + length (word r) ≡ y → a + length (word r ++ word t) ≡ z
          → 1 ≤ length (word t)
          → TreeOver (row_count (binary A r t)) (record { sort = root t; start = y; stop = z })
      grown₂ y z o q f =
          record {
            tree = t;
            start = a + length (word r);
            is = piece_path (sym o) (omega (arith, n));
            valid = v';
            lies = high;
            full = f;
            kept = kept₂;
            small = omega arith;
          }

      by : Stock g r → Stock g t → Sprout (binary A r t) a p k
      by (bare x) (bare y) = absurd (omega (arith, n, ap length x, ap length y))
      by (bare x) (full y q) =
          let z = h.marked f in
          let o : a + length (word r) ≡ a = omega (arith, ap length x) in
          record {
            spot =
                record {
                  whole = piece (binary A r t) a;
                  shape = second p;
                  form = one (root t) z.mark UnaryMark.None;
                  cut = a;
                };
            is = refl;
            fits =
                record {
                  looks = seconds z.inherits stands (null_of g v x) q;
                  nonempty = omega (arith, n);
                  inside = l.fits;
                  sits = (
                    rw e at z.keeps,
                    no_mark (slice a (a + length (word r ++ word t)) w),
                    refl,
                    subst (λ (i : ℕ). CanBegin g (root t) (terminal_at_of w i)) o
                        (begins_at v' high y),
                  );
                };
            below = (grown₂ a (a + length (word r ++ word t)) o refl y, tt);
            heirs = (λ i. absurd (omega (arith, ap length x)), λ i. Memᴰ.head refl);
            place = refl;
            split = omega (arith, ap length x, c.top.2);
          }
      by (full x q) (bare y) =
          let z = h.marked f in
          record {
            spot =
                record {
                  whole = piece (binary A r t) a;
                  shape = first p;
                  form = one (root r) z.mark UnaryMark.None;
                  cut = a;
                };
            is = refl;
            fits =
                record {
                  looks = firsts z.inherits stands q (null_of g v' y);
                  nonempty = omega (arith, n);
                  inside = l.fits;
                  sits = (
                    rw e at z.keeps,
                    no_mark (slice a (a + length (word r ++ word t)) w),
                    refl,
                    begins_at v low x,
                  );
                };
            below = (grown₁ (a + length (word r ++ word t)) (omega (arith, n, ap length y)) x, tt);
            heirs = (λ i. Memᴰ.head refl, λ i. absurd (omega (arith, ap length y)));
            place = refl;
            split = omega (arith, n, ap length y, c.top.2);
          }
      by (full x q) (full y q') =
          let z = h.marked f in
          record {
            spot =
                record {
                  whole = piece (binary A r t) a;
                  shape = all p;
                  form = two (root r) (root t) c.top.0 z.mark;
                  cut = a + length (word r);
                };
            is = refl;
            fits =
                record {
                  looks = twos z.inherits stands q q';
                  nonempty = omega (arith, n);
                  inside = l.fits;
                  sits = (
                    omega arith,
                    omega (arith, n),
                    rw (lies_word w r a low, f₂) at c.top.3,
                    rw e at z.keeps,
                    begins_at v low x,
                    begins_at v' high y,
                  );
                };
            below = (
              grown₁ (a + length (word r)) refl x,
              (grown₂ (a + length (word r)) (a + length (word r ++ word t)) refl refl y, tt),
            );
            heirs = (λ i. Memᴰ.head refl, λ i. Memᴰ.tail (Memᴰ.head refl));
            place = refl;
            split = omega (arith, n, c.top.2);
          }
        where
          f₂ : word t ≡ slice (a + length (word r)) (a + length (word r ++ word t)) w
          f₂ =
              let z : a + length (word r) + length (word t) ≡ a + length (word r ++ word t) =
              omega (arith, n) in
              rw z at (lies_word w t (a + length (word r)) high)

  -- 3. nodes whose children's trees have fewer than n nodes each

  pub record Rooted (n : ℕ) (x : Spot) : Type 0 where
    pub fits : Fits g w x
    pub below : Every (TreeOver n) (kids x)

  pub record Topped (n : ℕ) (k : Piece) : Type 0 where
    pub spot : Spot
    pub is : spot.whole ≡ k
    pub size : ℕ
    pub less : size < n
    pub rooted : Rooted size spot

  pub topped : {n : ℕ} {k : Piece} → TreeOver n k → Topped n k
  topped {n} {k} t =
      let c = takes_of t.valid in
      let y = sprout t.tree t.start c.0 c.1 t.valid c.2 t.lies t.full
      t.kept in
      record {
        spot = y.spot;
        is = y.is ∙ sym t.is;
        size = row_count t.tree;
        less = t.small;
        rooted = record { fits = y.fits; below = y.below };
      }
