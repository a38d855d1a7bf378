-- The order of candidates is total, a sweep has one answer, and what is so of all candidates is so
-- of all rising sequences.
use mathlib.Core.Path.{◌≡◌, refl, sym, ap}
use mathlib.Core.Logic.{◌⊎◌, inl, inr, ⊎_elim}
use mathlib.Core.List.{List, [], ◌∷◌}
use Prim.Native.Nat.{ℕ, suc, ◌+◌, ◌-◌, ◌≤◌, ◌<◌}
use native.Mathlib.Omega.{arith}
use native.Mathlib.Decide.{dec_lt}
use lib.ListN.{length}
use Rattle.grammar.specs.declared.Cell.{Cell}
use Rattle.grammar.specs.Layout.{Word, Every, width}
use Rattle.grammar.specs.Trees.{Rules, TwoTrees}
use Rattle.grammar.specs.Candidates.{Rising, Wide, placed, sentence, Terminal, Candidate}
use Rattle.grammar.specs.Candidates.{CellBefore, CellsBefore, Earlier}
use Rattle.grammar.specs.Sweeps.{Clear, FirstTwo, SweepAnswer, clear, found}
use Rattle.grammar.proofs.Normalization.{Normal, normal}
use Rattle.grammar.specs.SweepAnswers.{Answers}

pub cell_path : {c d : Cell} → c.terminal ≡ d.terminal → c.step ≡ d.step → c.column ≡ d.column
    → c ≡ d
cell_path a s k = λ i. record { terminal = a i; step = s i; column = k i }

-- of two numbers one is less, or they are the same
pub compare : (a b : ℕ) → (a < b) ⊎ ((a ≡ b) ⊎ (b < a))
compare a b = go (dec_lt a b) (dec_lt b a)
  where
    go : Dec (a < b) → Dec (b < a) → (a < b) ⊎ ((a ≡ b) ⊎ (b < a))
    go (yes l) r = inl l
    go (no l) (yes r) = inr (inr r)
    go (no l) (no r) = inr (inl (omega arith))

pub cell_total : (c d : Cell) → CellBefore c d ⊎ ((c ≡ d) ⊎ CellBefore d c)
cell_total c d = by_terminal (compare c.terminal d.terminal)
  where
    by_column : c.terminal ≡ d.terminal → c.step ≡ d.step
        → (c.column < d.column) ⊎ ((c.column ≡ d.column) ⊎ (d.column < c.column))
        → CellBefore c d ⊎ ((c ≡ d) ⊎ CellBefore d c)
    by_column t s (inl l) = inl (inr (inr (t, s, l)))
    by_column t s (inr (inl k)) = inr (inl (cell_path t s k))
    by_column t s (inr (inr l)) = inr (inr (inr (inr (sym t, sym s, l))))

    by_step : c.terminal ≡ d.terminal
        → (c.step < d.step) ⊎ ((c.step ≡ d.step) ⊎ (d.step < c.step))
        → CellBefore c d ⊎ ((c ≡ d) ⊎ CellBefore d c)
    by_step t (inl l) = inl (inr (inl (t, l)))
    by_step t (inr (inl s)) = by_column t s (compare c.column d.column)
    by_step t (inr (inr l)) = inr (inr (inr (inl (sym t, l))))

    by_terminal : (c.terminal < d.terminal)
        ⊎ ((c.terminal ≡ d.terminal) ⊎ (d.terminal < c.terminal))
        → CellBefore c d ⊎ ((c ≡ d) ⊎ CellBefore d c)
    by_terminal (inl l) = inl (inl l)
    by_terminal (inr (inl t)) = by_step t (compare c.step d.step)
    by_terminal (inr (inr l)) = inr (inr (inl l))

pub before_total : (cs ds : List Cell) → length cs ≡ length ds
    → CellsBefore cs ds ⊎ ((cs ≡ ds) ⊎ CellsBefore ds cs)
before_total [] [] e = inr (inl refl)
before_total [] (d ∷ ds) e = absurd (omega arith)
before_total (c ∷ cs) [] e = absurd (omega arith)
before_total (c ∷ cs) (d ∷ ds) e = go (cell_total c d) (before_total cs ds (omega arith))
  where
    go : CellBefore c d ⊎ ((c ≡ d) ⊎ CellBefore d c)
        → CellsBefore cs ds ⊎ ((cs ≡ ds) ⊎ CellsBefore ds cs)
        → CellsBefore (c ∷ cs) (d ∷ ds) ⊎ ((c ∷ cs ≡ d ∷ ds) ⊎ CellsBefore (d ∷ ds) (c ∷ cs))
    go (inl l) r = inl (inl l)
    go (inr (inr l)) r = inr (inr (inl l))
    go (inr (inl q)) (inl l) = inl (inr (q, l))
    go (inr (inl q)) (inr (inl r)) = inr (inl (λ i. q i ∷ r i))
    go (inr (inl q)) (inr (inr l)) = inr (inr (inr (sym q, l)))

pub earlier_total : (cs ds : List Cell) → Earlier cs ds ⊎ ((cs ≡ ds) ⊎ Earlier ds cs)
earlier_total cs ds = go (compare (length cs) (length ds))
  where
    go : (length cs < length ds) ⊎ ((length cs ≡ length ds) ⊎ (length ds < length cs))
        → Earlier cs ds ⊎ ((cs ≡ ds) ⊎ Earlier ds cs)
    go (inl l) = inl (inl l)
    go (inr (inr l)) = inr (inr (inl l))
    go (inr (inl e)) = ⊎_elim (λ l. inl (inr (e, l)))
        (λ r. inr (⊎_elim inl (λ l. inr (inr (sym e, l))) r)) (before_total cs ds e)

pub sentence_length : (l : ℕ) (cs : List Cell) → length (placed l cs) ≡ length cs
sentence_length l [] = refl
sentence_length l (c ∷ cs) = ap suc (sentence_length (l + c.step) cs)

-- a candidate's tokens have width 1
pub sentence_wide : (l : ℕ) (cs : List Cell) → Wide (placed l cs)
sentence_wide l [] = tt
sentence_wide l (c ∷ cs) = (omega arith, sentence_wide (l + c.step) cs)

module _ {g : Rules} where
  -- where no candidate of 1 to k tokens has two trees, no rising sequence has
  pub clear_of : (k : ℕ) → ((cs : List Cell) → 1 ≤ length cs → length cs ≤ k
      → Candidate (Terminal g) (length cs) cs → TwoTrees g 0 (sentence cs) → ⊥) → Clear g k
  clear_of k none = record { absent = λ w s r l u two. go w (normal g 0 w l s r two) l u }
    where
      go : (w : Word) → Normal g 0 (length w) → 1 ≤ length w → length w ≤ k → ⊥
      go w n l u =
          let e : length n.cells ≡ length w = n.candidate.arranged.size in
          none n.cells (omega arith) (omega arith) (rw e n.candidate) n.two

  -- no sequence shorter than the first candidate with two trees has two
  pub shorter_clear : {k : ℕ} {cs : List Cell} → FirstTwo g k cs → Clear g (length cs - 1)
  shorter_clear {k} {cs} f =
      clear_of (length cs - 1) (λ ds l u c two. f.earlier ds l c (inl (omega (arith, f.low))) two)

  first_same : {k : ℕ} {cs ds : List Cell} → FirstTwo g k cs → FirstTwo g k ds → cs ≡ ds
  first_same {k} {cs} {ds} a b =
      ⊎_elim (λ e. absurd (b.earlier cs a.low a.candidate e a.two))
      (λ r. ⊎_elim (λ q. q) (λ e. absurd (a.earlier ds b.low b.candidate e b.two)) r)
      (earlier_total cs ds)

  never_both : {k : ℕ} {cs : List Cell} → FirstTwo g k cs → Clear g k → ⊥
  never_both {k} {cs} f c =
      let e = sentence_length 1 cs in
      c.absent (sentence cs) (sentence_wide 1 cs) f.candidate.rising (omega (arith, f.low))
      (omega (arith, f.high)) f.two

-- a sweep has only one answer
pub answer_unique : (g : Rules) (k : ℕ) (a b : SweepAnswer) → Answers g k a → Answers g k b → a ≡ b
answer_unique g k clear clear x y = refl
answer_unique g k clear (found ds) x y = absurd (never_both y x)
answer_unique g k (found cs) clear x y = absurd (never_both x y)
answer_unique g k (found cs) (found ds) x y = ap found (first_same x y)

-- clear speaks of every width: any sequence of 1 to k tokens with rising positions, each token one
-- column wide or wider
pub clear_of_widths : {g : Rules} {k : ℕ} → Clear g k
    → (w : Word) → Every (λ t. 1 ≤ width t) w → Rising w → 1 ≤ length w → length w ≤ k
    → TwoTrees g 0 w → ⊥
clear_of_widths c w widths rising low high two = c.absent w widths rising low high two
