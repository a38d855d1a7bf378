-- From call to call: where the sweep of k is answered, no share of the lengths 1 to k is refused,
-- and the merged reports have the sweep's answer and sentence.
use mathlib.Core.Path.{◌≡◌, sym, ap, ◌∙◌, subst}
use mathlib.Core.Logic.{◌⊎◌, inl, inr, ⊎_elim}
use mathlib.Core.List.Memᴰ
use mathlib.Core.List.{List, [], ◌∷◌, Memᴰ}
use Prim.Native.Nat.{ℕ, zero, suc, ◌-◌, ◌^◌, ◌≤◌, ◌<◌}
use native.Mathlib.Omega.{arith}
use native.Mathlib.Nat.{pow-suc, pow-le-pow_left, pow-le-pow_right, mul-le-mul, mul-zero, zero-mul}
use native.Mathlib.Nat.{le_trans}
use Rattle.sets.proofs.Basics.{clash}
use Rattle.sweep_answers.proofs.SweepSettled.{never_both}
use Rattle.grammar.specs.declared.Cell.{Cell}
use Rattle.grammar.specs.Trees.{Rules}
use Rattle.grammar.specs.Sweeps.{Clear, FirstTwo, found, terminal_count, arrangements}
use Rattle.grammar.specs.Candidates as Candidates
use Rattle.grammar.proofs.SweepLaws.{answer_unique}
use Rattle.sheets.specs.declared.Fault.{Fault}
use Rattle.sheets.specs.Items.{accepted}
use Rattle.sheets.proofs.Once.{apart}
use Rattle.sheets.specs.RuleSheets.{rule_sheet}
use Rattle.std.specs.Prelude.{None, Some, Result}
use Rattle.sheets.specs.declared.Answer.{Answer}
use Rattle.sheets.specs.declared.Refusal.{Refusal}
use Rattle.sheets.specs.Results.{refusal, told_line}
use Rattle.sweep_answers.specs.declared.Swept.{Swept}
use Rattle.sweep_answers.specs.Sweep.{sweep_limit, no_sentence, SweepTaken, SweepOf}
use Rattle.sweep_answers.specs.Sweep.{sweep_told, sweep_sentence}
use Rattle.sweep_answers.specs.Sweep as Sweep
use Rattle.call_shares.specs.Share.{ShareResult, share_told, share_sentence}
use Rattle.call_shares.specs.Share.{ShareOn, bound, many, racks, beyond, short, clear, two}
use Rattle.call_shares.specs.Share.{ShareOf, refusing, reading}
use Rattle.call_shares.specs.Merge.{Refuses, Merged, first_refuses, second_refuses, second}
use Rattle.call_shares.specs.Merge.{first}
use Rattle.call_shares.specs.MergedAll.{MergedAll, Answered, some_refused, all_clear}
use Rattle.call_shares.specs.MergedAll.{first_found}
use Rattle.call_shares.specs.MergedAll as MergedAll
use Rattle.call_shares.specs.Asked.{Asked}
use Rattle.call_shares.proofs.ShareSettled.{small_terminals, off}
use Rattle.call_shares.proofs.Merging.{clear_not, two_not, merged_sweep}

-- 1. fewer tokens have no more arrangements: an answered sweep of k leaves no 24 for a length up to
-- k

pub arrangements_less : (t n k : ℕ) → 1 ≤ n → n ≤ k → arrangements t n ≤ arrangements t k
unfolding arrangements
arrangements_less t zero k l h = absurd (omega arith)
arrangements_less zero (suc n) k l h =
    let e : arrangements 0 (suc n) ≡ 0 =
    rw (pow-suc 0 n, mul-zero (0 ^ n), zero-mul (3 ^ (suc n - 1)), zero-mul (suc n ^ suc n)) in
    omega arith
arrangements_less (suc t) (suc n) k l h =
    mul-le-mul (mul-le-mul (pow-le-pow_right (omega arith) h)
    (pow-le-pow_right (omega arith) {i = suc n - 1} {j = k - 1} (omega arith)))
    (le_trans (pow-le-pow_left h (suc n)) (pow-le-pow_right (omega arith) h))

pub shorter_few : {g : Rules} {n k : ℕ} {words : List ℕ} → SweepTaken g k words → 1 ≤ n → n ≤ k
    → arrangements (terminal_count g) n ≤ sweep_limit
shorter_few {g} {n} {k} t l h = le_trans (arrangements_less (terminal_count g) n k l h) t.few

-- 2. what a share replies then

data Kept (r : ShareResult) : Type 0 where
  nothing : share_told r ≡ Answer.Clear → told_line r ≡ 0 → share_sentence r ≡ no_sentence → Kept r
  lowest : share_told r ≡ Answer.Two → told_line r ≡ 0 → Kept r

kept_not : {r : ShareResult} → Kept r → Refuses r → ⊥
kept_not {r} (nothing e l z) x = clear_not r e x
kept_not {r} (lowest e l) x = two_not r e x

module _ {rules : List ℕ} {g : Rules} (e : rule_sheet rules ≡ accepted g) {n p i : ℕ}
    {r : ShareResult} (x : Asked rules n p i r) where
  answered : Answered g n p i r
  answered = go x.replied
    where
      go : ShareOf rules n p i x.words x.after r → Answered g n p i r
      go (refusing d y h) = absurd (apart d e)
      go (reading {g = g'} d y) = let z : g' ≡ g = cc in
          record { words = x.words; after = x.after; on = rw z at y }

  kept : {k : ℕ} {words : List ℕ} → SweepTaken g k words → 1 ≤ n → n ≤ k → 1 ≤ p → p ≤ 64 → i < p
      → Kept r
  kept t l u a b c = go x.replied
    where
      on : ShareOn g n p i x.words x.after r → Kept r
      on (bound q m y h) = absurd (off q l (omega (arith, t.high)))
      on (many q v m o y h) = absurd (omega (arith, m, shorter_few t l u))
      on (racks q m o y h) = absurd (off m a b)
      on (beyond q v m o w y h) = absurd (omega arith)
      on (short q v m o w z y h) = absurd (omega (arith, x.enough))
      on (clear q m y h) = nothing (ap share_told y)
          (ap told_line y) (ap share_sentence y)
      on (two q m y h) =
          lowest (ap share_told y) (ap told_line y)

      go : ShareOf rules n p i x.words x.after r → Kept r
      go (refusing d y h) = absurd (apart d e)
      go (reading {g = g'} d y) = let z : g' ≡ g = cc in on (rw z at y)

-- the merged report is one of them
merged_one : {a b m : ShareResult} → Merged a b m → (m ≡ a) ⊎ (m ≡ b)
merged_one (first_refuses x e) = inl e
merged_one (second_refuses n x e) = inr e
merged_one (second n x l e) = inr e
merged_one (first n x l e) = inl e

pub merged_member : (a : ShareResult) (rs : List ShareResult) (m : ShareResult) → MergedAll a rs m
    → Memᴰ m (a ∷ rs)
merged_member a [] m e = Memᴰ.head e
merged_member a (b ∷ rs) m q = ⊎_elim here (λ h. Memᴰ.tail (Memᴰ.tail h))
    (Memᴰ.cases_cons (merged_member q.0 rs m q.2))
  where
    here : m ≡ q.0 → Memᴰ m (a ∷ b ∷ rs)
    here e = ⊎_elim (λ d. Memᴰ.head (e ∙ d)) (λ d. Memᴰ.tail (Memᴰ.head (e ∙ d)))
        (merged_one q.1)

-- 3. the merged report and the sweep

-- the same answer, line and sentence
pub record SameAnswer (m : ShareResult) (s : Result Swept Refusal) : Type 0 where
  pub answer : share_told m ≡ sweep_told s
  pub line : told_line m ≡ told_line s
  pub sentence : share_sentence m ≡ sweep_sentence s

kept_line : {r : ShareResult} → Kept r → told_line r ≡ 0
kept_line (nothing e l z) = l
kept_line (lowest e l) = l

kept_clear : {r : ShareResult} → Kept r → share_told r ≡ Answer.Clear
    → share_sentence r ≡ no_sentence
kept_clear (nothing e l z) d = z
kept_clear (lowest e l) d = absurd (clash cc)

clear_same : {g : Rules} {k : ℕ} {m : ShareResult} {s : Result Swept Refusal} {j : ℕ} → Kept m
    → MergedAll.Sweeps g k m → Clear g k → s ≡ Sweep.sweep_reply_of None j
    → SameAnswer m s
clear_same y (some_refused x) c e = absurd (kept_not y x)
clear_same y (all_clear d x z) c e =
    record {
      answer = x ∙ sym (ap sweep_told e);
      line = kept_line y ∙ sym (ap told_line e);
      sentence = kept_clear y x ∙ sym (ap sweep_sentence e);
    }
clear_same y (first_found f x v w) c e = absurd (never_both c f)

two_same : {g : Rules} {k : ℕ} {m : ShareResult} {s : Result Swept Refusal} {cs : List Cell} {j : ℕ}
    → Kept m
    → MergedAll.Sweeps g k m → FirstTwo g k cs
    → s ≡ Sweep.sweep_reply_of (Some (Candidates.sentence cs)) j → SameAnswer m s
two_same y (some_refused x) f e = absurd (kept_not y x)
two_same y (all_clear d x z) f e = absurd (never_both d f)
two_same {g} {k} {m} {s} {cs} y (first_found {cs = ds} d x v w) f e =
    let z : found ds ≡ found cs = answer_unique g k (found ds) (found cs) d f in
    let q : ds ≡ cs = cc in
    record {
      answer = x ∙ sym (ap sweep_told e);
      line = kept_line y ∙ sym (ap told_line e);
      sentence = w ∙ rw q (sym (ap sweep_sentence e));
    }

-- whatever their order: the replies of all shares of the lengths 1 to k, each asked for with words
-- enough, p n racks for the length n
pub merged_is_sweep : (rules : List ℕ) (k : ℕ) (p : ℕ → ℕ) → ((n : ℕ) → 1 ≤ p n)
    → ((n : ℕ) → p n ≤ 64) → (a : ShareResult) (rs : List ShareResult) {m : ShareResult}
    → ((n i : ℕ) → 1 ≤ n → n ≤ k → i < p n
    → (r : ShareResult) × Memᴰ r (a ∷ rs) × Asked rules n (p n) i r)
    → ((r : ShareResult) → Memᴰ r (a ∷ rs)
    → (n : ℕ) × (i : ℕ) × (1 ≤ n) × (n ≤ k) × (i < p n) × Asked rules n (p n) i r)
    → MergedAll a rs m → {words words' : List ℕ} {s : Result Swept Refusal}
    → SweepOf rules k words words' s
    → (Refuses s → ⊥) → SameAnswer m s
merged_is_sweep rules k p pos most a rs {m} each only q {words} {words'} {s} y ok = go y
  where
    never : {f : Fault} {l : ℕ} → s ≡ refusal f l → SameAnswer m s
    never e = absurd (ok (subst Refuses (sym e) tt))

    sweeps : {g : Rules} → rule_sheet rules ≡ accepted g → MergedAll.Sweeps g k m
    sweeps {g} e =
        merged_sweep g (small_terminals rules g e) k p pos a rs
        (λ n i l u h. let z = each n i l u h in (z.0, z.1, answered e z.2))
        (λ r h. let z = only r h in (z.0, z.1, z.2, z.3, z.4, answered e z.5)) q

    own : {g : Rules} → rule_sheet rules ≡ accepted g → SweepTaken g k words → Kept m
    own e t = let z = only m (merged_member a rs m q) in
        kept e z.5 t z.2 z.3 (pos z.0) (most z.0) z.4

    go : SweepOf rules k words words' s → SameAnswer m s
    go (Sweep.refusing e x h) = never x
    go (Sweep.reading e (Sweep.bound l n x h)) = never x
    go (Sweep.reading e (Sweep.many l u o n x h)) = never x
    go (Sweep.reading e (Sweep.short l u o v n x h)) = never x
    go (Sweep.reading e (Sweep.clear t c v x h)) = clear_same (own e t) (sweeps e) c x
    go (Sweep.reading e (Sweep.two t c o v x h)) = two_same (own e t) (sweeps e) c x
