-- THE THEOREM: a sheet that passes the test is clear at every length.
use mathlib.Core.Path.{◌≡◌, refl, sym, ap, ◌∙◌, subst}
use mathlib.Core.List.{[], ◌++◌, Memᴰ}
use Prim.Native.Nat.{ℕ, ◌+◌, ◌≤◌, ◌<◌}
use native.Mathlib.Omega.{arith}
use native.Mathlib.Decide.{dec_lt}
use lib.ListN.{length, length-append}
use Rattle.grammar.specs.declared.UnaryMark.TheVariants as UnaryMark
use Rattle.grammar.specs.Layout.{Word}
use Rattle.grammar.specs.Trees.{Tree, unary, binary, root, word, Rules, Valid, valid_unary}
use Rattle.grammar.specs.Trees.{valid_binary}
use Rattle.grammar.specs.Trees.{Witness, TwoTrees}
use Rattle.grammar.specs.Choices.{Choice, Same}
use Rattle.grammar.specs.Rows.{row_count}
use Rattle.grammar.specs.Candidates.{Rising, Wide}
use Rattle.grammar.specs.Sweeps.{Clear}
use Rattle.grammar.proofs.ChoiceLaws.{takes_of}
use Rattle.grammar.proofs.ByKind.{inside}
use Rattle.places.specs.LocalAmbiguity as Paper
use Rattle.places.specs.LocalAmbiguity.{Within}
use Rattle.places.proofs.PaperLaws.{reaches_sub, two_found, Found}
use Rattle.places.proofs.PlaceLaws.{Lies, lies_left, lies_right, lies_whole}
use Rattle.pairs.specs.Always.{AlwaysClear, PassesTest}
use Rattle.pairs.specs.Survey.{at_top, none_at_top, Occurs}
use Rattle.pairs.specs.Shapes.{Form, children, rule_of_shape}
use Rattle.pairs.specs.Relations.{equal}
use Rattle.pairs.specs.Doubts.{OneSpan, Seen, seen_top, seen_child, TwoNodes, two_rules}
use Rattle.pairs.specs.Doubts.{two_cuts, two_empty}
use Rattle.pairs.proofs.LevelLaws.{no_mark, Stock, bare, full, stock, Kept, kept_below}
use Rattle.pairs.proofs.LevelLaws.{kept_first, kept_second}
use Rattle.pairs.proofs.OffsetLaws.{is_order, is_of}
use Rattle.pairs.proofs.Nodes.{Piece, Meet, head_of, setting_of}
use Rattle.pairs.proofs.NodeLaws.{piece, Sprout, Heirs, sprout}
use Rattle.pairs.proofs.PairLaws.{pair}

module _ (g : Rules) (w : Word) (rise : Rising w) (wide : Wide w) where
  -- 1. nodes over one word

  one_span : {t u : Tree} {a p k q l : ℕ} (x : Sprout g w t a p k) (y : Sprout g w u a q l)
      → x.spot.whole ≡ y.spot.whole
      → OneSpan g (setting_of w x.spot y.spot) (head_of x.spot) (head_of y.spot)
  one_span {t} {u} x y i =
      let m : Meet x.spot.whole y.spot.whole =
      subst (Meet x.spot.whole) i
      (record { before = x.fits.nonempty; behind = x.fits.nonempty }) in
      record {
        may =
            pair g w rise wide (row_count t) (row_count u) x.spot y.spot
            (record { fits = x.fits; below = x.below })
            (record { fits = y.fits; below = y.below }) m;
        starts =
            is_order equal x.spot.whole.start y.spot.whole.start
            (ap (λ (z : Piece). z.start) i);
        stops = is_order equal x.spot.whole.stop y.spot.whole.stop
            (ap (λ (z : Piece). z.stop) i);
      }

  -- 2. each node with tokens of a tree of 0 is seen

  pub record Spread (t : Tree) : Type 0 where
    pub start : ℕ
    pub lies : Lies w t start
    pub kept : Kept g (root t) (word t)
    pub seen : 1 ≤ length (word t) → Seen g (root t)

  heir : {T : Tree} {C : ℕ} (a : ℕ) → Valid g T → Lies w T a → Kept g (root T) (word T)
      → 1 ≤ length (word T) → Seen g (root T) → ((f : Form) → Heirs T f → Memᴰ C (children f))
      → Seen g C
  heir {T} a v l k n s m =
      let c = takes_of v in
      let x = sprout g w T a c.0 c.1 v c.2 l n k in
      seen_child (subst (λ (z : Piece). Seen g z.sort) (sym x.is) s) (one_span x x refl)
      (m x.spot.form x.heirs)

  descend : {t : Tree} (T : Tree) (a : ℕ) → Within t T → Valid g T → Lies w T a
      → Kept g (root T) (word T) → (1 ≤ length (word T) → Seen g (root T)) → Spread t
  descend T a Paper.here v l k s = record { start = a; lies = l; kept = k; seen = s }
  descend (unary A t) a (Paper.below x) (valid_unary m h y v) l k s =
      descend t a x v (record { fits = l.fits; spelled = l.spelled }) (kept_below g m h v y k)
      (λ n. heir {T = unary A t} a (valid_unary m h y v) l k n (s n) (λ f e. e))
  descend (binary A r t) a (Paper.left x) (valid_binary m h y v v') l k s =
      descend r a x v (lies_left w r t a A l) (kept_first g m h v v' k)
      (λ n.
      let o : 1 ≤ length (word r ++ word t) = omega (arith, length-append (word r) (word t)) in
      heir {T = binary A r t} a (valid_binary m h y v v') l k o (s o) (λ f e. e.0 n))
  descend (binary A r t) a (Paper.right x) (valid_binary m h y v v') l k s =
      descend t (a + length (word r)) x v' (lies_right w r t a A l) (kept_second g m h v v' k)
      (λ n.
      let o : 1 ≤ length (word r ++ word t) = omega (arith, length-append (word r) (word t)) in
      heir {T = binary A r t} a (valid_binary m h y v v') l k o (s o) (λ f e. e.1 n))

  top_kept : {T : Tree} → Witness g 0 w T → Kept g (root T) (word T)
  top_kept {T} x =
      record {
        occurs = rw x.rooted at_top;
        marked = λ n. record {
          mark = UnaryMark.None;
          inherits = rw x.rooted none_at_top;
          keeps =
              no_mark (word T);
        };
      }

  spread : {A : ℕ} {v : Word} {t : Tree} → Paper.Reaches g 0 w A v → Witness g A v t → Spread t
  spread {t = t} r x =
      let T = (reaches_sub r).extend t x in
      let y = T.1 in
      descend T.0 0 T.2 y.valid (lies_whole y) (top_kept y) (λ n. rw y.rooted seen_top)

  -- 3. the first difference of two trees

  module _ (pass : PassesTest g) where
    -- two trees of one nonterminal over one word, in trees of 0, take the same choice
    no_two : {t u : Tree} {p k q l : ℕ} (a : ℕ) → Sprout g w t a p k → Sprout g w u a q l
        → piece t a ≡ piece u a → Seen g (root t) → (Same p k q l → ⊥) → ⊥
    no_two {t} {u} {p} {k} {q} {l} a x y e s d = by (dec_lt p q) (dec_lt q p)
      where
        i : x.spot.whole ≡ y.spot.whole
        i = x.is ∙ e ∙ sym y.is

        nodes : TwoNodes g (root t) p q
        nodes =
            record {
              σ = setting_of w x.spot y.spot;
              x = head_of x.spot;
              y = head_of y.spot;
              sort₁ = ap (λ (z : Piece). z.sort) x.is;
              sort₂ = ap (λ (z : Piece). z.sort) (sym i ∙ x.is);
              rule₁ = x.place;
              rule₂ = y.place;
              over = one_span x y i;
              differ = λ h c.
                  let b : x.spot.cut ≡ y.spot.cut =
                  is_of x.spot.cut y.spot.cut equal c in
                  let j = ap (λ (z : Piece). z.stop) e in
                  d (
                    sym x.place ∙ ap rule_of_shape h ∙ y.place,
                    sym x.split ∙ cc (h, b, j)
                        ∙ y.split,
                  );
            }

        back : TwoNodes g (root t) q p
        back =
            record {
              σ = setting_of w y.spot x.spot;
              x = head_of y.spot;
              y = head_of x.spot;
              sort₁ = nodes.sort₂;
              sort₂ = nodes.sort₁;
              rule₁ = y.place;
              rule₂ = x.place;
              over = one_span y x (sym i);
              differ = λ h c.
                  let b : y.spot.cut ≡ x.spot.cut =
                  is_of y.spot.cut x.spot.cut equal c in
                  nodes.differ (sym h) (is_order equal x.spot.cut y.spot.cut (sym b));
            }

        by : Dec (p < q) → Dec (q < p) → ⊥
        by (yes h) z =
            pass.passes (record { nonterminal = root t; first = p; second = q; why = two_rules })
            (s, h, nodes)
        by (no h) (yes z) =
            pass.passes (record { nonterminal = root t; first = q; second = p; why = two_rules })
            (s, z, back)
        by (no h) (no z) =
            let o : p ≡ q = omega arith in
            pass.passes (record { nonterminal = root t; first = p; second = q; why = two_cuts })
            (s, o, nodes)

    -- two rules for the empty word
    no_empty : {A p q : ℕ} → Occurs g A → Choice g A [] p 0 → Choice g A [] q 0 → (p ≡ q → ⊥) → ⊥
    no_empty {A} {p} {q} o x y d = by (dec_lt p q) (dec_lt q p)
      where
        by : Dec (p < q) → Dec (q < p) → ⊥
        by (yes h) z =
            pass.passes (record { nonterminal = A; first = p; second = q; why = two_empty })
            (o, h, x, y)
        by (no h) (yes z) =
            pass.passes (record { nonterminal = A; first = q; second = p; why = two_empty })
            (o, z, y, x)
        by (no h) (no z) = d (omega arith)

    pub unambiguous : TwoTrees g 0 w → ⊥
    unambiguous t = go (two_found t)
      where
        go : Found g 0 w → ⊥
        go f = by (stock g x.witness.valid)
          where
            A : ℕ
            A = f.nonterminal

            x : Choice g f.nonterminal f.part f.several.place₁ f.several.split₁
            x = f.several.choice₁

            y : Choice g f.nonterminal f.part f.several.place₂ f.several.split₂
            y = f.several.choice₂

            o : Spread x.tree
            o = spread f.reached x.witness

            roots : root x.tree ≡ root y.tree
            roots = x.witness.rooted ∙ sym y.witness.rooted

            words : word x.tree ≡ word y.tree
            words = x.witness.spelled ∙ sym y.witness.spelled

            piece_of : root x.tree ≡ root y.tree → word x.tree ≡ word y.tree
                → piece x.tree o.start ≡ piece y.tree o.start
            piece_of h k = cc

            kept : Kept g (root y.tree) (word y.tree)
            kept = rw (roots, words) at o.kept

            by : Stock g x.tree → ⊥
            by (full n p) =
                let m : 1 ≤ length (word y.tree) = rw words at n in
                no_two o.start
                (sprout g w x.tree o.start f.several.place₁ f.several.split₁
                x.witness.valid x.takes o.lies n o.kept)
                (sprout g w y.tree o.start f.several.place₂ f.several.split₂
                y.witness.valid y.takes
                (record {
                  fits = rw words at o.lies.fits;
                  spelled =
                      rw words at o.lies.spelled;
                }) m kept)
                (piece_of roots words) (o.seen n) f.several.differ
            by (bare n) =
                let z : f.part ≡ [] = sym x.witness.spelled ∙ n in
                let h : Occurs g f.nonterminal = rw x.witness.rooted at o.kept.occurs in
                let i = (inside f.nonterminal f.part f.several.place₁ f.several.split₁
                x).1 in
                let j = (inside f.nonterminal f.part f.several.place₂ f.several.split₂
                y).1 in
                let a : f.several.split₁ ≡ 0 = omega (arith, i, ap length z) in
                let b : f.several.split₂ ≡ 0 = omega (arith, j, ap length z) in
                no_empty h (rw (z, a) at x) (rw (z, b) at y)
                (λ e. f.several.differ (e, a ∙ sym b))

pub passes_clear : {g : Rules} → PassesTest g → AlwaysClear g
passes_clear {g} p = record { clear = λ w rise wide. unambiguous g w rise wide p }

-- then every sweep is clear, whatever its bound
pub always_sweeps : {g : Rules} → AlwaysClear g → (k : ℕ) → Clear g k
always_sweeps a k = record { absent = λ w wide rise low high. a.clear w rise wide }
