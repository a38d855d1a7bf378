-- Writing a candidate's sentence token by token, and what its token places hold.
use mathlib.Core.Path.{◌≡◌, refl, sym, ◌∙◌, ap}
use mathlib.Core.List.{List, [], ◌∷◌, ◌++◌, append-nil}
use Prim.Native.Nat.{ℕ, zero, suc, ◌+◌, ◌-◌, ◌*◌, ◌≤◌, ◌<◌}
use native.Mathlib.Omega.{arith}
use native.Mathlib.Numerals.{add-one}
use native.Mathlib.Nat.{sub-zero}
use lib.ListN.{length, get_or, take, drop, set, replicate, length-set, length-replicate}
use lib.Seq.{take-suc-set, drop-set-lt, append_snoc, drop-cons}
use Rattle.grammar.specs.declared.Cell.{Cell}
use Rattle.grammar.specs.declared.Token.{Token}
use Rattle.grammar.specs.declared.Sentence.{Sentence}
use Rattle.grammar.specs.Layout.{Word}
use Rattle.grammar.specs.Content.{Positioned}
use Rattle.grammar.specs.Candidates.{token, placed, sentence, Cells}
use Rattle.grammar.specs.Candidates as Of
use Rattle.grammar.proofs.SweepLaws.{sentence_length}
use Rattle.candidates.specs.declared.Candidate.{Candidate}
use Rattle.candidates.specs.Arrays.{cell_at, cells}
use Rattle.candidates.specs.Succession.{Shares}
use Rattle.candidates.specs.Spelling.{LowSteps, Placed, Spells}
use Rattle.candidates.proofs.Windows.{cells_turn, cells_end}
use Rattle.grammar.specs.Sentences.{spelled, no_token}

-- a candidate's steps are at most 2
pub low_steps : {Q : ℕ → Type 0} {n : ℕ} {cs : List Cell} → Of.Candidate Q n cs → LowSteps cs
low_steps {Q} {n} {cs} k = go 0 cs (omega arith) k.arranged.cells
  where
    go : (m : ℕ) (cs : List Cell) → m ≤ 2 → Cells Q n m cs → LowSteps cs
    go m [] h k = tt
    go m (c ∷ cs) h k = (omega (arith, k.0.step), go 2 cs (omega arith) k.1)

-- of m places for tokens the first i are written, and the last is on that line
pub record Spelling (m : ℕ) (c : Candidate) (n : ℕ) (tokens : List Token) (line i : ℕ)
    : Type 0 where
  pub size : length tokens ≡ m
  pub at : i ≤ n
  pub low : line ≤ 1 + 2 * i
  pub steps : LowSteps (cells c i (n - i))
  pub front : take i tokens ++ placed line (cells c i (n - i)) ≡ sentence (cells c 0 n)
  pub past : drop i tokens ≡ replicate (m - i) no_token

pub spelled_none : (m : ℕ) (c : Candidate) (n : ℕ) → LowSteps (cells c 0 n)
    → Spelling m c n (replicate m no_token) 1 0
spelled_none m c n s = record {
  size = length-replicate m no_token;
  at = omega arith;
  low = omega arith;
  steps = rw
      (sub-zero n) s;
  front = rw (sub-zero n);
  past = rw (sub-zero m);
}

module _ (m : ℕ) (c : Candidate) (n : ℕ) (tokens : List Token) (line i : ℕ) (h : i < n) (l : n ≤ m)
    (s : Spelling m c n tokens line i) where
  low_here : LowSteps (cell_at c i ∷ cells c (i + 1) (n - (i + 1)))
  low_here = rw (cells_turn n i c h) at s.steps

  pub step_low : (d : Cell) → d ≡ cell_at c i → d.step ≤ 2
  step_low d e = omega (arith, ap (λ (x : Cell). x.step) e, low_here.0)

  pub spelled_turn : (d : Cell) → d ≡ cell_at c i
      → Spelling m c n (set tokens i (token (line + d.step) d)) (line + d.step) (i + 1)
  spelled_turn d e = record {
    size = length-set tokens i t ∙ s.size;
    at = omega arith;
    low = omega (arith, s.low, step_low d e);
    steps = low_here.1;
    front = rw (add-one i, take-suc-set tokens i t inside)
        (append_snoc (take i tokens) t (placed (line + d.step) (cells c (suc i) (n - suc i)))
        ∙ spelled);
    past = rw (add-one i) (drop-set-lt (suc i) tokens i t (omega arith) ∙ rest);
  }
    where
      t : Token
      t = token (line + d.step) d

      inside : i < length tokens
      inside = omega (arith, s.size)

      spelled : take i tokens ++ (t ∷ placed (line + d.step) (cells c (suc i) (n - suc i)))
          ≡ sentence (cells c 0 n)
      spelled = ap (λ (x : Cell). take i tokens
          ++ (token (line + x.step) x ∷ placed (line + x.step) (cells c (suc i) (n - suc i)))) e
          ∙ (rw (cells_turn n i c h, add-one i) at s.front)

      rest : drop (suc i) tokens ≡ replicate (m - suc i) no_token
      rest =
          let k : m - i ≡ suc (m - suc i) = omega arith in
          let p : drop i tokens ≡ no_token ∷ replicate (m - suc i) no_token = rw k at s.past in
          let q : drop i tokens ≡ get_or tokens i no_token ∷ drop (suc i) tokens =
          drop-cons tokens i no_token inside in
          cc

spelled_front : (m : ℕ) (c : Candidate) (n : ℕ) (tokens : List Token) (line i : ℕ) → n ≤ i
    → Spelling m c n tokens line i → take n tokens ≡ sentence (cells c 0 n)
spelled_front m c n tokens line i h s =
    let e : i ≡ n = omega (arith, s.at) in
    let f : take i tokens ++ [] ≡ sentence (cells c 0 n) = rw (cells_end n i c h) at s.front in
    rw (e, append-nil) at f

pub spelled_whole : (m : ℕ) (c : Candidate) (n : ℕ) (tokens : List Token) (line i : ℕ) → n ≤ i
    → Spelling m c n tokens line i → Placed (cells c 0 n) n m tokens
spelled_whole m c n tokens line i h s =
    let e : i ≡ n = omega (arith, s.at) in
    record { front = spelled_front m c n tokens line i h s; past = rw e at s.past }

-- ---- what a caller reads off

module _ {cs : List Cell} {n : ℕ} {r : Sentence} (x : Spells cs n r) where
  -- the word is the candidate's sentence
  pub spelled_is : spelled r ≡ sentence cs
  spelled_is = ap (λ (k : ℕ). take k r.tokens) x.count ∙ x.front

  -- so it is a sentence as the token sheet's reader would give
  pub positioned : {Q : ℕ → Type 0} → n ≤ 7 → Of.Candidate Q n cs → Positioned r
  positioned h k = record {
    few = omega (arith, x.count);
    whole = ap length spelled_is ∙ sentence_length 1 cs ∙ k.arranged.size ∙ sym x.count;
    rising = rw spelled_is k.rising;
  }

placed_take : (b l : ℕ) (cs : List Cell) → take b (placed l cs) ≡ placed l (take b cs)
placed_take zero l cs = refl
placed_take (suc b) l [] = refl
placed_take (suc b) l (c ∷ cs) =
    ap (λ (w : Word). token (l + c.step) c ∷ w) (placed_take b (l + c.step) cs)

-- what shares cells shares tokens
pub sentence_shares : (b : ℕ) (ds cs : List Cell) → Shares b ds cs
    → take b (sentence ds) ≡ take b (sentence cs)
sentence_shares b ds cs e = placed_take b 1 ds ∙ ap (placed 1) e ∙ sym (placed_take b 1 cs)
