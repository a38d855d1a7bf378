-- The words while a block is refuted: what a write and a fill keep.
use mathlib.Core.Path.{◌≡◌, refl, sym, ap, ◌∙◌, subst, subst₂}
use mathlib.Core.List.{List}
use Prim.Native.Nat.{ℕ, ◌+◌, ◌≤◌, ◌<◌}
use native.Mathlib.Omega.{arith}
use native.Mathlib.Decide.{dec_lt}
use lib.ListN.{length, take}
use Rattle.grammar.specs.declared.Cell.{Cell}
use Rattle.grammar.specs.Layout.{Word}
use Rattle.grammar.specs.Trees.{Rules}
use Rattle.grammar.specs.Candidates.{sentence}
use Rattle.grammar.specs.SpanSheet.{pair_at, first_word, second_word}
use Rattle.grammar.proofs.SweepLaws.{sentence_length}
use Rattle.marks.specs.Half.{token_at}
use Rattle.spans.specs.Changes.{Kept}
use Rattle.chart.specs.Filling.{Given}
use Rattle.chart.specs.Openness.{Open}
use Rattle.chart.specs.Sheets.{Exact, Ready}
use Rattle.chart.proofs.FillLaws.{open_kept, first_kept, second_kept}
use Rattle.chart.proofs.OpenLaws.{open_none, open_less}
use Rattle.candidates.specs.Terminals.{Among}
use Rattle.candidates.proofs.Spelling.{sentence_shares}
use Rattle.chart.specs.Leaves.{Leaf, Allows, LeafAt, May}
use Rattle.chart.proofs.ExactLaws.{exact_less, exact_front, exact_words}
use Rattle.chart.proofs.LeafLaws.{exact_leaf}
use Rattle.pruning.specs.Refuting.{terminal_at_of, TerminalsFilled, TerminalOpen, PositionsFilled}
use Rattle.pruning.specs.Refuting.{TerminalChanged, Moved}
use Rattle.pruning.proofs.TableLaws.{other_pair}
use Rattle.pruning.proofs.RefutingLaws.{placed_terminal}

-- a pair that is as it was has, and allows for, what it did
leaf_as : (g : Rules) (n : ℕ) (ws ws' : List ℕ) (i x : ℕ)
    → first_word ws' n i 1 ≡ first_word ws n i 1
    → second_word ws' n i 1 ≡ second_word ws n i 1 → LeafAt g n ws i x → LeafAt g n ws' i x
leaf_as g n ws ws' i x e f m = subst₂ (Leaf g x) (sym e) (sym f) m

may_as : (g : Rules) (n : ℕ) (ws ws' : List ℕ) (i x : ℕ)
    → first_word ws' n i 1 ≡ first_word ws n i 1
    → second_word ws' n i 1 ≡ second_word ws n i 1 → May g n ws i x → May g n ws' i x
may_as g n ws ws' i x e f m = subst₂ (Allows g x) (sym e) (sym f) m

leaf_given : (g : Rules) {n : ℕ} {ws ws' : List ℕ} (i x : ℕ) → Given ws ws' n → i < n
    → LeafAt g n ws i x → LeafAt g n ws' i x
leaf_given g {n} {ws} {ws'} i x v l m = leaf_as g n ws ws' i x (v.first i l) (v.second i l) m

pub may_given : (g : Rules) {n : ℕ} {ws ws' : List ℕ} (i x : ℕ) → Given ws ws' n → i < n
    → May g n ws i x → May g n ws' i x
may_given g {n} {ws} {ws'} i x v l m = may_as g n ws ws' i x (v.first i l) (v.second i l) m

-- what is right of cs's first tokens has the pairs of their terminals
pub right_leaf : {g : Rules} {n to : ℕ} {ws : List ℕ} (cs : List Cell) → length cs ≡ n → to ≤ n
    → Exact g (sentence cs) n ws to → (i : ℕ) → i < to → LeafAt g n ws i (terminal_at_of cs i)
right_leaf {g} {n} {to} {ws} cs size far x i h =
    let z : i < length cs = omega arith in
    subst (LeafAt g n ws i) (placed_terminal 1 cs i z)
    (exact_leaf i h (omega (arith, sentence_length 1 cs)) x)

-- and as a half-known word asks for them
pub leaves_of : (g : Rules) (n : ℕ) (ws : List ℕ) (cs : List Cell) {known : ℕ} {w : Word}
    → length cs ≡ n → known ≤ n → w ≡ sentence cs
    → ((i : ℕ) → i < known → LeafAt g n ws i (terminal_at_of cs i)) → (i : ℕ) → i < known
    → LeafAt g n ws i (token_at w i).terminal
leaves_of g n ws cs size far e f i h =
    let z : i < length cs = omega arith in
    subst (LeafAt g n ws i) (sym (placed_terminal 1 cs i z)
    ∙ ap (λ (v : Word). (token_at v i).terminal) (sym e)) (f i h)

-- ---- by positions

module _ {g : Rules} {n i : ℕ} {cs : List Cell} (h : i < n) (size : length cs ≡ n) where
  -- the words are ready for the token at i
  pub standing_ready : {w : Word} {ws : List ℕ} → w ≡ sentence cs → PositionsFilled g n i cs ws
      → Ready g (record { word = w; known = i + 1 }) n ws i n
  standing_ready {w} {ws} e st = record {
    low = omega arith;
    high = omega arith;
    within = omega arith;
    right = subst (λ (v : Word). Exact g v n ws i) (sym e) st.right;
    leaves = leaves_of g n ws cs size (omega arith) e (λ k l. go k l (dec_lt k i));
    beyond = open_none g n ws n (omega arith);
  }
    where
      go : (k : ℕ) → k < i + 1 → Dec (k < i) → LeafAt g n ws k (terminal_at_of cs k)
      go k l (yes x) = right_leaf cs size (omega arith) st.right k x
      go k l (no x) = st.fixed k (omega arith) (omega arith)

  -- on: its position is known
  pub standing_on : {w : Word} {ws ws' : List ℕ} → w ≡ sentence cs → PositionsFilled g n i cs ws
      → Exact g w n ws' (i + 1) → Given ws ws' n → PositionsFilled g n (i + 1) cs ws'
  standing_on {w} {ws} {ws'} e st x v = record {
    right = subst (λ (u : Word). Exact g u n ws' (i + 1)) e x;
    fixed = λ k a b. leaf_given g k (terminal_at_of cs k) v b (st.fixed k (omega arith) b);
  }

  -- and back
  pub standing_back : {ws : List ℕ} → PositionsFilled g n (i + 1) cs ws
      → PositionsFilled g n i cs ws
  standing_back {ws} st = record {
    right = exact_less i (omega arith) st.right;
    fixed = λ k a b.
        go k a b (dec_lt i k);
  }
    where
      go : (k : ℕ) → i ≤ k → k < n → Dec (i < k) → LeafAt g n ws k (terminal_at_of cs k)
      go k a b (yes l) = st.fixed k (omega arith) b
      go k a b (no l) = right_leaf cs size (omega arith) st.right k (omega arith)

-- another position at i: the same words stand
pub standing_moved : {g : Rules} {n i m : ℕ} {cs cs' : List Cell} {ws : List ℕ} → Moved n i m cs cs'
    → PositionsFilled g n i cs ws → PositionsFilled g n i cs' ws
standing_moved {g} {n} {i} {m} {cs} {cs'} {ws} mv st = record {
  right = exact_front (sentence cs') (sentence_shares i cs' cs (mv.kept i (omega arith)))
      st.right;
  fixed = λ k a b. subst (LeafAt g n ws k) (sym (mv.terminals k)) (st.fixed k a b);
}

pub standing_unmoved : {g : Rules} {n i m : ℕ} {cs cs' : List Cell} {ws : List ℕ}
    → Moved n i m cs cs' → PositionsFilled g n i cs' ws → PositionsFilled g n i cs ws
standing_unmoved {g} {n} {i} {m} {cs} {cs'} {ws} mv st = record {
  right = exact_front (sentence cs) (sym (sentence_shares i cs' cs (mv.kept i (omega arith))))
      st.right;
  fixed = λ k a b. subst (LeafAt g n ws k) (mv.terminals k) (st.fixed k a b);
}

-- ---- by terminals

with_terminal_front : {b j x : ℕ} {cs cs' : List Cell} → b ≤ j → TerminalChanged j x cs cs'
    → take b (sentence cs') ≡ take b (sentence cs)
with_terminal_front {b} {j} {x} {cs} {cs'} low t = sentence_shares b cs' cs (t.kept b low)

module _ {g : Rules} {s n b j : ℕ} {cs : List Cell} (low : b ≤ j) (h : j < n) where
  pub poised_loose : {ws : List ℕ} → TerminalsFilled g s n b (j + 1) cs ws
      → TerminalOpen g s n b j cs ws
  poised_loose p = record {
    right = p.right;
    beyond = p.beyond;
    fixed = λ i a l. p.fixed i
        (omega arith) l;
    free = λ i a l. p.free i a (omega arith);
  }

  -- a write of the pair of the token at j
  pub loose_kept : {ws ws' : List ℕ} → Kept ws ws' (pair_at n j 1) → TerminalOpen g s n b j cs ws
      → TerminalOpen g s n b j cs ws'
  loose_kept {ws} {ws'} k p = record {
    right = exact_words ws' (λ a c fit. (
      first_kept ws ws' n (pair_at n j 1) k a c
          (other_pair n j a c h (omega arith) (λ x y. omega arith)),
      second_kept ws ws' n
          (pair_at n j 1) k a c (other_pair n j a c h (omega arith) (λ x y. omega arith)),
    ))
        p.right;
    beyond = open_kept ws' k (λ a c x fit. other_pair n j a c h fit (λ y z. omega arith))
        p.beyond;
    fixed = λ i a l. leaf_as g n ws ws' i (terminal_at_of cs i)
        (first_kept ws ws' n (pair_at n j 1) k i 1
        (other_pair n j i 1 h (omega arith) (λ y z. omega arith)))
        (second_kept ws ws' n (pair_at n j 1) k i 1
        (other_pair n j i 1 h (omega arith) (λ y z. omega arith))) (p.fixed i a l);
    free = λ i a l x m. may_as g n ws ws' i x
        (first_kept ws ws' n (pair_at n j 1) k i 1
        (other_pair n j i 1 h (omega arith) (λ y z. omega arith)))
        (second_kept ws ws' n (pair_at n j 1) k i 1
        (other_pair n j i 1 h (omega arith) (λ y z. omega arith))) (p.free i a l x m);
  }

  -- the pair of the whole set: the token is as free as those before it
  pub loose_free : {ws : List ℕ} → ((x : ℕ) → Among s x → May g n ws j x)
      → TerminalOpen g s n b j cs ws
      → TerminalsFilled g s n b (j + 1) cs ws
  loose_free {ws} m p = record {
    right = p.right;
    beyond = p.beyond;
    fixed = λ i a l. p.fixed i
        (omega arith) l;
    free = λ i a l. go i a l (dec_lt i j);
  }
    where
      go : (i : ℕ) → b ≤ i → i < j + 1 → Dec (i < j) → (x : ℕ) → Among s x → May g n ws i x
      go i a l (yes k) = p.free i a k
      go i a l (no k) = let e : j ≡ i = omega arith in
          λ x q. subst (λ (y : ℕ). May g n ws y x) e (m x q)

  module _ {x : ℕ} {cs' : List Cell} (t : TerminalChanged j x cs cs') where
    -- the words are ready, with the terminal x at j
    pub loose_ready : {w : Word} {ws : List ℕ} → length cs' ≡ n → w ≡ sentence cs'
        → TerminalOpen g s n b j cs ws → Ready g (record { word = w; known = b }) n ws b (j + 1)
    loose_ready {w} {ws} size e p = record {
      low = omega arith;
      high = omega arith;
      within = omega arith;
      right = subst (λ (v : Word). Exact g v n ws b) (sym e)
          (exact_front (sentence cs') (with_terminal_front low t) p.right);
      leaves = leaves_of g n ws cs' size (omega arith) e
          (right_leaf cs' size (omega arith)
          (exact_front (sentence cs') (with_terminal_front low t) p.right));
      beyond = p.beyond;
    }

    pub loose_fixed : {ws : List ℕ} → LeafAt g n ws j x → TerminalOpen g s n b j cs ws → (i : ℕ)
        → j ≤ i
        → i < n → LeafAt g n ws i (terminal_at_of cs' i)
    loose_fixed {ws} m p i a l = go (dec_lt j i)
      where
        go : Dec (j < i) → LeafAt g n ws i (terminal_at_of cs' i)
        go (yes k) = subst (LeafAt g n ws i) (sym (t.rest i k)) (p.fixed i k l)
        go (no k) = let e : j ≡ i = omega arith in
            subst₂ (LeafAt g n ws) e (sym t.terminal ∙ ap (terminal_at_of cs') e) m

    -- filled: poised for the token before
    pub loose_filled : {w : Word} {ws ws' : List ℕ} → w ≡ sentence cs' → LeafAt g n ws j x
        → TerminalOpen g s n b j cs ws → Exact g w n ws' b → Open g n ws' b → Given ws ws' n
        → TerminalsFilled g s n b j cs' ws'
    loose_filled {w} {ws} {ws'} e m p y o v = record {
      right = subst (λ (u : Word). Exact g u n ws' b) e y;
      beyond = open_less j low o;
      fixed = λ i a l. leaf_given g i (terminal_at_of cs' i) v l (loose_fixed m p i a l);
      free = λ i a l z q. may_given g i z v (omega arith) (p.free i a l z q);
    }

    -- and back
    pub poised_back : {ws : List ℕ} → TerminalsFilled g s n b j cs' ws
        → TerminalOpen g s n b j cs ws
    poised_back {ws} p = record {
      right = exact_front (sentence cs) (sym (with_terminal_front low t)) p.right;
      beyond = open_less (j + 1) (omega arith) p.beyond;
      fixed = λ i a l. subst (LeafAt g n ws i) (t.rest i a) (p.fixed i (omega arith) l);
      free = p.free;
    }

-- all terminals fixed: to the positions, and back after a fill of all spans past the first b tokens
pub poised_standing : {g : Rules} {s n b : ℕ} {cs : List Cell} {ws : List ℕ}
    → TerminalsFilled g s n b b cs ws → PositionsFilled g n b cs ws
poised_standing p = record { right = p.right; fixed = p.fixed }

pub standing_poised : {g : Rules} {s n b : ℕ} {cs : List Cell} {w : Word} {ws ws' : List ℕ}
    → w ≡ sentence cs → PositionsFilled g n b cs ws → Exact g w n ws' b → Open g n ws' b
    → Given ws ws' n
    → TerminalsFilled g s n b b cs ws'
standing_poised {g} {n = n} {b} {cs} {ws' = ws'} e st x o v = record {
  right = subst (λ (u : Word). Exact g u n ws' b) e x;
  beyond = o;
  fixed = λ i a l. leaf_given g i (terminal_at_of cs i) v l (st.fixed i a l);
  free = λ i a l. absurd (omega arith);
}

-- cs has its own terminal at j
pub with_terminal_self : (j : ℕ) (cs : List Cell) → TerminalChanged j (terminal_at_of cs j) cs cs
with_terminal_self j cs =
    record { size = refl; kept = λ b h. refl; terminal = refl; rest = λ i h. refl }

-- another terminal at j: the same words are loose
pub loose_with_terminal : {g : Rules} {s n b j x : ℕ} {cs cs' : List Cell} {ws : List ℕ} → b ≤ j
    → TerminalChanged j x cs cs' → TerminalOpen g s n b j cs ws → TerminalOpen g s n b j cs' ws
loose_with_terminal {g} {s} {n} {b} {j} {x} {cs} {cs'} {ws} low t p = record {
  right = exact_front (sentence cs') (with_terminal_front low t) p.right;
  beyond = p.beyond;
  fixed = λ i a l. subst (LeafAt g n ws i) (sym (t.rest i a)) (p.fixed i a l);
  free = p.free;
}
