-- What `teplonga_merge` answers of two reports that `teplonga_share` handed over is what `merge`
-- promises; and it is settled.
use mathlib.Core.Path.{◌≡◌, sym, ap, ◌∙◌}
use Prim.Native.Nat.{ℕ, zero, suc, ◌/◌, ◌≤◌, ◌<◌}
use native.Mathlib.Omega.{arith}
use Rattle.std.specs.Prelude.{Option, None, Some, Ok, Err}
use Rattle.grammar.specs.declared.Sentence.{Sentence}
use Rattle.sheets.specs.Results.{told_line}
use Rattle.sweep_answers.specs.Sweep.{found_answer}
use Rattle.c_words.specs.Codes.{code_of, packed}
use Rattle.c_words.proofs.Unpacking.{code-of}
use Rattle.call_shares.specs.Share.{ShareResult, share_told, share_sentence, share_number}
use Rattle.call_shares.specs.Merge.{Refuses, Merged, first_refuses, second_refuses, second, first}
use Rattle.c_interface.specs.Merge.{MergeWord, one_refuses, two_refuses, two_leads, one_stays}

pub merge_word_settled : {a N n b M m r s : ℕ} → MergeWord a N n b M m r → MergeWord a N n b M m s
    → r ≡ s
merge_word_settled (one_refuses h e) (one_refuses k d) = e ∙ sym d
merge_word_settled (one_refuses h e) (two_refuses k l d) = absurd (omega arith)
merge_word_settled (one_refuses h e) (two_leads k l x d) = absurd (omega arith)
merge_word_settled (one_refuses h e) (one_stays k l x d) = absurd (omega arith)
merge_word_settled (two_refuses h j e) (one_refuses k d) = absurd (omega arith)
merge_word_settled (two_refuses h j e) (two_refuses k l d) = e ∙ sym d
merge_word_settled (two_refuses h j e) (two_leads k l x d) = absurd (omega arith)
merge_word_settled (two_refuses h j e) (one_stays k l x d) = absurd (omega arith)
merge_word_settled (two_leads h j y e) (one_refuses k d) = absurd (omega arith)
merge_word_settled (two_leads h j y e) (two_refuses k l d) = absurd (omega arith)
merge_word_settled (two_leads h j y e) (two_leads k l x d) = e ∙ sym d
merge_word_settled (two_leads h j y e) (one_stays k l x d) = absurd (x y)
merge_word_settled (one_stays h j y e) (one_refuses k d) = absurd (omega arith)
merge_word_settled (one_stays h j y e) (two_refuses k l d) = absurd (omega arith)
merge_word_settled (one_stays h j y e) (two_leads k l x d) = absurd (y x)
merge_word_settled (one_stays h j y e) (one_stays k l x d) = e ∙ sym d

-- a reply as these numbers
pub record Handed (x : ShareResult) (a N n : ℕ) : Type 0 where
  pub answer : a ≡ packed (share_told x) (told_line x)
  pub number : N ≡ share_number x
  pub length : n ≡ (share_sentence x).count

-- a report's code is below those of refusals
small : (o : Option Sentence) → code_of (found_answer o) < 100
small None = omega arith
small (Some s) = omega arith

refusing : (x : ShareResult) → 100 ≤ code_of (share_told x) → Refuses x
refusing (Ok s) h = absurd (omega (arith, small s.sentence))
refusing (Err e) h = tt

taken : (x : ShareResult) → code_of (share_told x) < 100 → Refuses x → ⊥
taken (Ok s) h x = x
taken (Err e) h x = omega arith

code : {x : ShareResult} {a N n : ℕ} → Handed x a N n → a / 4294967296 ≡ code_of (share_told x)
code {x} h = ap (λ (v : ℕ). v / 4294967296) h.answer ∙ code-of (share_told x) (told_line x)

-- the first of two replies for 0, else the second
abbrev pub chosen : ℕ → ShareResult → ShareResult → ShareResult
chosen zero x y = x
chosen (suc r) x y = y

pub merge_word_merged : {x y : ShareResult} {a N n b M m r : ℕ} → Handed x a N n → Handed y b M m
    → MergeWord a N n b M m r → Merged x y (chosen r x y)
merge_word_merged {x} {y} p q (one_refuses h e) =
    first_refuses (refusing x (omega (arith, code p))) (ap (λ (v : ℕ). chosen v x y) e)
merge_word_merged {x} {y} p q (two_refuses h k e) =
    second_refuses (taken x (omega (arith, code p)))
    (refusing y (omega (arith, code q))) (ap (λ (v : ℕ). chosen v x y) e)
merge_word_merged {x} {y} p q (two_leads h k l e) =
    second (taken x (omega (arith, code p))) (taken y (omega (arith, code q)))
    (rw (p.number, p.length, q.number, q.length) at l) (ap (λ (v : ℕ). chosen v x y) e)
merge_word_merged {x} {y} p q (one_stays h k f e) =
    first (taken x (omega (arith, code p))) (taken y (omega (arith, code q)))
    (λ l. f (rw (p.number, p.length, q.number, q.length) l))
    (ap (λ (v : ℕ). chosen v x y) e)
