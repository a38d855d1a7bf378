-- Every rising word with two trees has a candidate of its length with two trees.
use mathlib.Core.Path.{◌≡◌, refl, sym, ◌∙◌, ap, subst}
use mathlib.Core.List.{List, [], ◌∷◌, map}
use mathlib.Core.Logic.{◌⊎◌, inl, inr, ⊎_elim, ◌↔◌}
use Prim.Native.Nat.{ℕ, suc, ◌+◌, ◌-◌, ◌*◌, ◌≤◌, ◌<◌, min}
use native.Mathlib.Omega.{arith}
use native.Mathlib.Decide.{dec_le}
use lib.ListN.{length}
use Rattle.grammar.specs.declared.Token.{Token}
use Rattle.grammar.specs.declared.Cell.{Cell}
use Rattle.grammar.specs.Layout.{Word, line, col, width, Every}
use Rattle.grammar.specs.Trees.{Tree, empty, leaf, unary, binary, word, Rules, Valid}
use Rattle.grammar.specs.Trees.{valid_empty, valid_leaf, valid_unary, valid_binary, TwoTrees}
use Rattle.grammar.proofs.Transfer.{KeepsOrders, Alike, same_atoms, two_keeps, every_join}
use Rattle.grammar.proofs.Transfer.{keeps_line_le}
use Rattle.grammar.specs.Candidates.{After, RisingFrom, Rising, Wide, placed, sentence}
use Rattle.grammar.specs.Candidates.{Terminal, Cells, Candidate}

abbrev In : Token → Word → Type 0
In t [] = ⊥
In t (b ∷ w) = (t ≡ b) ⊎ In t w

-- ---- columns: the number of tokens in a lesser column

abbrev rank : Word → ℕ → ℕ
rank [] c = 0
rank (a ∷ w) c = min 1 (c - col a) + rank w c

rank_mono : (w : Word) (c d : ℕ) → c ≤ d → rank w c ≤ rank w d
rank_mono [] c d h = omega arith
rank_mono (a ∷ w) c d h = omega (arith, rank_mono w c d h)

rank_size : (w : Word) (c : ℕ) → rank w c ≤ length w
rank_size [] c = omega arith
rank_size (a ∷ w) c = omega (arith, rank_size w c)

rank_strict : (w : Word) (t : Token) (d : ℕ) → In t w → col t < d → rank w (col t) < rank w d
rank_strict [] t d i h = absurd i
rank_strict (a ∷ w) t d (inl e) h = omega (arith, ap col e, rank_mono w (col t) d (omega arith))
rank_strict (a ∷ w) t d (inr i) h = omega (arith, rank_strict w t d i h)

rank_below : (w : Word) (t : Token) → In t w → rank w (col t) < length w
rank_below [] t i = absurd i
rank_below (a ∷ w) t (inl e) = omega (arith, ap col e, rank_size w (col t))
rank_below (a ∷ w) t (inr i) = omega (arith, rank_below w t i)

-- ---- lines: the gaps up to a line, each counted as 2 at most

-- how far b is past p, at most 2
gap : ℕ → ℕ → ℕ
gap p b = min 2 (b - p)

gap_two : (p b : ℕ) → gap p b ≤ 2
unfolding gap
gap_two p b = omega arith

gap_most : (p b : ℕ) → gap p b ≤ b - p
unfolding gap
gap_most p b = omega arith

gap_self : (b : ℕ) → gap b b ≡ 0
unfolding gap
gap_self b = omega arith

gap_three : (p b c : ℕ) → p ≤ b → b ≤ c → gap p c ≤ gap p b + gap b c
unfolding gap
gap_three p b c h k = omega arith

gap_one : (p b : ℕ) → p < b → 1 ≤ gap p b
unfolding gap
gap_one p b h = omega arith

-- that, where b is no later than l
shown : ℕ → ℕ → ℕ → ℕ
unfolding gap
shown l p b = min (2 * (suc l - b)) (gap p b)

shown_in : (l p b : ℕ) → b ≤ l → shown l p b ≡ gap p b
unfolding gap shown
shown_in l p b h = omega arith

shown_out : (l p b : ℕ) → l < b → shown l p b ≡ 0
unfolding shown
shown_out l p b h = omega arith

abbrev climb : ℕ → Word → ℕ → ℕ
climb p [] l = 0
climb p (b ∷ w) l = shown l p (line b) + climb (line b) w l

abbrev Sorted : ℕ → Word → Type 0
Sorted p [] = Unit {0}
Sorted p (b ∷ w) = (p ≤ line b) × Sorted (line b) w

sorted_in : (p : ℕ) (w : Word) (t : Token) → Sorted p w → In t w → p ≤ line t
sorted_in p [] t s i = absurd i
sorted_in p (b ∷ w) t s (inl e) = omega (arith, ap line e)
sorted_in p (b ∷ w) t s (inr i) = omega (arith, sorted_in (line b) w t s.1 i)

climb_zero : (p : ℕ) (w : Word) (l : ℕ) → Sorted p w → l ≤ p → climb p w l ≡ 0
climb_zero p [] l s h = refl
climb_zero p (b ∷ w) l s h =
    let r = climb_zero (line b) w l s.1 (omega arith) in
    elim (dec_le (line b) l) [
      | yes k ↦ omega (arith, shown_in l p (line b) k, gap_most p (line b))
      | no k ↦ omega (arith, shown_out l p (line b) (omega arith))
    ]

climb_from : (p : ℕ) (w : Word) (t : Token) → Sorted p w → In t w
    → gap p (line t) ≤ climb p w (line t)
climb_from p [] t s i = absurd i
climb_from p (b ∷ w) t s (inl e) = rw e (omega (arith, shown_in (line b) p (line b) (omega arith)))
climb_from p (b ∷ w) t s (inr i) =
    let k = sorted_in (line b) w t s.1 i in
    let r = climb_from (line b) w t s.1 i in
    omega (arith, shown_in (line t) p (line b) k, gap_three p (line b) (line t) s.0 k)

climb_to : (p : ℕ) (w : Word) (l : ℕ) → Sorted p w → climb p w l ≤ l - p
climb_to p [] l s = omega arith
climb_to p (b ∷ w) l s =
    elim (dec_le (line b) l) [
      | yes h ↦ omega (
        arith,
        shown_in l p (line b) h,
        gap_most p (line b),
        climb_to (line b) w l
            s.1,
      )
      | no h ↦ omega (
        arith,
        shown_out l p (line b) (omega arith),
        climb_zero (line b) w l s.1
            (omega arith),
      )
    ]

climb_gap : (p : ℕ) (w : Word) (t u : Token) → Sorted p w → In t w → In u w → line t ≤ line u
    → climb p w (line t) + gap (line t) (line u) ≤ climb p w (line u)
climb_gap p [] t u s i j h = absurd i
climb_gap p (b ∷ w) t u s (inl d) (inl e) h = rw (d, e) (omega (arith, gap_self (line b)))
climb_gap p (b ∷ w) t u s (inl d) (inr j) h =
    let k = sorted_in (line b) w u s.1 j in
    rw d (omega (
      arith,
      shown_in (line b) p (line b) (omega arith),
      shown_in (line u) p (line b) k,
      climb_zero (line b) w (line b) s.1 (omega arith),
      climb_from (line b) w u s.1 j,
    ))
climb_gap p (b ∷ w) t u s (inr i) (inl e) h =
    let k = sorted_in (line b) w t s.1 i in
    let same : line t ≡ line u = omega (arith, ap line e) in
    rw same (omega (arith, gap_self (line u)))
climb_gap p (b ∷ w) t u s (inr i) (inr j) h =
    let k = sorted_in (line b) w t s.1 i in
    omega (
      arith,
      climb_gap (line b) w t u s.1 i j h,
      shown_in (line t) p (line b) k,
      shown_in
          (line u) p (line b) (omega arith),
    )

climb_near : (p : ℕ) (w : Word) (t : Token) (l : ℕ) → Sorted p w → In t w → line t ≤ l
    → climb p w l ≤ climb p w (line t) + (l - line t)
climb_near p [] t l s i h = absurd i
climb_near p (b ∷ w) t l s (inl e) h =
    let q : line b ≤ l = omega (arith, ap line e) in
    rw e (omega (
      arith,
      climb_to (line b) w l s.1,
      shown_in l p (line b) q,
      shown_in (line b) p
          (line b) (omega arith),
    ))
climb_near p (b ∷ w) t l s (inr i) h =
    let k = sorted_in (line b) w t s.1 i in
    omega (
      arith,
      climb_near (line b) w t l s.1 i h,
      shown_in l p (line b) (omega arith),
      shown_in (line t) p (line b) k,
    )

-- ---- the new tokens, each of width 1

abbrev moved : ℕ → Word → Token → Token
moved p w t = record {
  terminal = t.terminal;
  line = record { 0 = 1 + climb p w (line t) };
  column = record { 0 = rank w (col t) + 1 };
  width = record { 0 = 1 };
}

module _ (p : ℕ) (w : Word) (s : Sorted p w) where
  moved_keeps : (a b : Token) → In a w → In b w → KeepsOrders (moved p w) a b
  moved_keeps a b i j =
      elim (dec_le (line a) (line b)) [
        | yes h ↦
            let u = climb_gap p w a b s i j h in
            let v = climb_near p w a (line b) s i h in
            record {
              columns = columns;
              lines = (λ k. omega (arith, gap_one (line a) (line b) k), λ k. omega arith);
            }
        | no h ↦
            let u = climb_gap p w b a s j i (omega arith) in
            let v = climb_near p w b (line a) s j (omega arith) in
            record {
              columns = columns;
              lines = (λ k. absurd (omega arith), λ k. absurd (omega arith));
            }
      ]
    where
      columns : (col a < col b) ↔ (rank w (col a) + 1 < rank w (col b) + 1)
      columns = (
        λ k. omega (arith, rank_strict w a (col b) i k),
        λ k. elim (dec_le (col b) (col a))
            [ yes h ↦ absurd (omega (arith, rank_mono w (col b) (col a) h)) | no h ↦ omega arith ],
      )

  moved_alike : (g : Rules) → Alike g (λ t. In t w) (moved p w)
  moved_alike g = record { atoms = λ a i. same_atoms g a (moved p w a) refl; keeps = moved_keeps }

every_in : (w v : Word) → ((t : Token) → In t v → In t w) → Every (λ t. In t w) v
every_in w [] k = tt
every_in w (a ∷ v) k = (k a (inl refl), every_in w v (λ t i. k t (inr i)))

-- ---- the candidate

-- the cells of w, over a map of columns, the token before being on line p
abbrev cells_of : (ℕ → ℕ) → ℕ → Word → List Cell
cells_of C p [] = []
cells_of C p (b ∷ w) = record {
  terminal = b.terminal;
  step = gap p (line b);
  column = C (col b)
      + 1;
} ∷ cells_of C (line b) w

abbrev spot : ℕ → ℕ → ℕ → Token
spot a l c = record {
  terminal = a;
  line = record { 0 = l };
  column = record { 0 = c };
  width =
      record { 0 = 1 };
}

-- its sentence, the token before being on line l: on each line, l and the gaps up to there
placed_cells : (C : ℕ → ℕ) (l p : ℕ) (w : Word) → Sorted p w
    → placed l (cells_of C p w) ≡ map
    (λ t. spot t.terminal (l + climb p w (line t)) (C (col t) + 1)) w
placed_cells C l p [] s = refl
placed_cells C l p (b ∷ w) s =
    let here : climb p (b ∷ w) (line b) ≡ gap p (line b) = omega (
      arith,
      shown_in (line b) p (line b) (omega arith),
      climb_zero (line b) w (line b) s.1
          (omega arith),
    ) in
    rw here (ap (λ v. spot b.terminal (l + gap p (line b)) (C (col b) + 1) ∷ v)
    (placed_cells C (l + gap p (line b)) (line b) w s.1 ∙ rest w (λ t i. i)))
  where
    rest : (v : Word) → ((t : Token) → In t v → In t w)
        → map (λ t. spot t.terminal (l + gap p (line b) + climb (line b) w (line t))
        (C (col t) + 1)) v ≡ map (λ t. spot t.terminal (l + climb p (b ∷ w) (line t))
        (C (col t) + 1)) v
    rest [] k = refl
    rest (a ∷ v) k =
        let later = sorted_in (line b) w a s.1 (k a (inl refl)) in
        let e : l + gap p (line b) + climb (line b) w (line a) ≡ l
        + (shown (line a) p (line b) + climb (line b) w (line a)) =
        omega (arith, shown_in (line a) p (line b) later) in
        cc (rest v (λ t i. k t (inr i)))

cells_size : (C : ℕ → ℕ) (p : ℕ) (w : Word) → length (cells_of C p w) ≡ length w
cells_size C p [] = refl
cells_size C p (b ∷ w) = ap suc (cells_size C (line b) w)

cells_ranged : (Q : ℕ → Type 0) (C : ℕ → ℕ) (n p : ℕ) (w : Word) → Every (λ t. C (col t) < n) w
    → Every (λ t. Q t.terminal) w → Cells Q n 2 (cells_of C p w)
cells_ranged Q C n p [] h q = tt
cells_ranged Q C n p (b ∷ w) h q = (
  record {
    terminal = q.0;
    step = gap_two p (line b);
    low = omega arith;
    high =
        omega (arith, h.0);
  },
  cells_ranged Q C n (line b) w h.1 q.1,
)

-- where the first step is 0
cells_first : (Q : ℕ → Type 0) (C : ℕ → ℕ) (n : ℕ) (a : Token) (w : Word)
    → Every (λ t. C (col t) < n) (a ∷ w) → Every (λ t. Q t.terminal) (a ∷ w)
    → Cells Q n 0 (cells_of C (line a) (a ∷ w))
cells_first Q C n a w h q = (
  record {
    terminal = q.0;
    step = omega (arith, gap_self (line a));
    low = omega arith;
    high =
        omega (arith, h.0);
  },
  cells_ranged Q C n (line a) w h.1 q.1,
)

-- ---- what rises still does, where every width becomes 1

module _ (g : Rules) (P : Token → Type 0) (f : Token → Token) (k : Alike g P f)
    (thin : (t : Token) → width (f t) ≡ 1) where
  after_keeps : (a b : Token) → P a → P b → 1 ≤ width a → After a b → After (f a) (f b)
  after_keeps a b p q s (inl h) = inl ((k.keeps a b p q).lines.0 h)
  after_keeps a b p q s (inr h) =
      inr (
        omega (
          arith,
          keeps_line_le g P f k a b p q (omega arith),
          keeps_line_le g P f k b a q p
              (omega arith),
        ),
        omega (
          arith,
          thin a,
          (k.keeps a b p q).columns.0
              (omega (arith, h.1, s)),
        ),
      )

  rising_keeps : (a : Token) (w : Word) → P a → Every P w → Wide (a ∷ w) → RisingFrom a w
      → RisingFrom (f a) (map f w)
  rising_keeps a [] p q s r = tt
  rising_keeps a (b ∷ w) p q s r =
      (after_keeps a b p q.0 s.0 r.0, rising_keeps b w q.0 q.1 s.1 r.1)

rising_sorted : (a : Token) (w : Word) → RisingFrom a w → Sorted (line a) w
rising_sorted a [] r = tt
rising_sorted a (b ∷ w) r =
    (⊎_elim (λ h. omega arith) (λ h. omega arith) r.0, rising_sorted b w r.1)

-- ---- the leaves' terminals stand in A rules

valid_terminals : (g : Rules) (t : Tree) → Valid g t
    → Every (λ x. Terminal g x.terminal) (word t)
valid_terminals g (empty A) (valid_empty r) = tt
valid_terminals g (leaf A t) (valid_leaf r) = ((A, r), tt)
valid_terminals g (unary A t) (valid_unary m r h v) = valid_terminals g t v
valid_terminals g (binary A s t) (valid_binary m r h u v) =
    every_join (λ x. Terminal g x.terminal) (word s) (word t) (valid_terminals g s u)
    (valid_terminals g t v)

every_map_in : (R : Token → Type 0) (w v : Word) → ((t : Token) → In t w → R t)
    → ((t : Token) → In t v → In t w) → Every R v
every_map_in R w [] h k = tt
every_map_in R w (a ∷ v) h k = (h a (k a (inl refl)), every_map_in R w v h (λ t i. k t (inr i)))

-- ---- the theorem

pub record Normal (g : Rules) (A n : ℕ) : Type 0 where
  pub cells : List Cell
  pub candidate : Candidate (Terminal g) n cells
  pub two : TwoTrees g A (sentence cells)

pub normal : (g : Rules) (A : ℕ) (w : Word) → 1 ≤ length w → Wide w → Rising w → TwoTrees g A w
    → Normal g A (length w)
normal g A [] l s r h = absurd (omega arith)
normal g A (a ∷ u) l s r h = record {
  cells = cs;
  candidate = record {
    arranged = record {
      size = cells_size (rank w) (line a) w;
      cells = cells_first (Terminal g)
          (rank w) (length w) a u (every_map_in (λ t. rank w (col t) < length w) w w
          (λ t i. rank_below w t i) (λ t i. i)) terminals;
    };
    rising = subst (λ (v : Word). Rising v) (sym same)
        (rising_keeps g (λ t. In t w) f alike (λ t. refl) a u (inl refl) every.1 s r);
  };
  two = subst (λ (v : Word). TwoTrees g A v) (sym same)
      (two_keeps g (λ t. In t w) f alike A w every h);
}
  where
    w : Word
    w = a ∷ u

    sorted : Sorted (line a) w
    sorted = (omega arith, rising_sorted a u r)

    f : Token → Token
    f = moved (line a) w

    alike : Alike g (λ t. In t w) f
    alike = moved_alike (line a) w sorted g

    every : Every (λ t. In t w) w
    every = every_in w w (λ t i. i)

    cs : List Cell
    cs = cells_of (rank w) (line a) w

    same : sentence cs ≡ map f w
    same = placed_cells (rank w) 1 (line a) w sorted

    terminals : Every (λ t. Terminal g t.terminal) w
    terminals = subst (λ (v : Word). Every (λ t. Terminal g t.terminal) v) h.witness₁.spelled
        (valid_terminals g h.first h.witness₁.valid)
