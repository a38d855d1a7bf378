-- The answer of a share, by what is found.
use mathlib.Core.Path.{◌≡◌, sym, ap, ◌∙◌}
use mathlib.Core.List.{List, ◌++◌}
use Prim.Native.Nat.{ℕ, suc, ◌+◌, ◌-◌, ◌/◌, ◌%◌, ◌^◌, ◌<◌}
use native.Mathlib.Numerals.{add-one}
use lib.Count.{ones}
use lib.ListN.{length, replicate}
use Rattle.grammar.specs.declared.Cell.{Cell}
use Rattle.grammar.specs.declared.Sentence.{Sentence}
use Rattle.grammar.specs.Trees.{Rules}
use Rattle.grammar.specs.Candidates.{sentence}
use Rattle.grammar.specs.Sweeps.{arrangements}
use Rattle.grammar.proofs.SweepLaws.{sentence_length}
use Rattle.candidates.specs.Terminals.{Terminals}
use Rattle.candidates.proofs.Counting.{counted}
use Rattle.arrangement_numbers.specs.Numbers.{number}
use Rattle.arrangement_numbers.specs.Shares.{first_of_share, total, NoneIn}
use Rattle.share_search.specs.Sharing.{SharedTwo}
use Rattle.std.specs.Prelude.{None, Some, Ok}
use Rattle.call_shares.specs.Share.{ShareResult, share_reply_of, ShareTaken, ShareOn, clear, two}
use Rattle.grammar.specs.Sentences.{no_token}
use Rattle.sweeping.specs.Cleared.{cleared}

-- M, by the set of the terminals
pub total_of : (g : Rules) (s n : ℕ) → s < 2 ^ 64 → Terminals g s
    → arrangements (ones s) n ≡ total g n
total_of g s n h t = ap (λ (x : ℕ). arrangements x n) ((counted s h).terminals g t)

abbrev with : ℕ → ℕ → ℕ → Sentence → ShareResult
with N q r s = Ok (record { number = N; quotient = q; remainder = r; sentence = Some s })

module _ {g : Rules} {n p i : ℕ} {ws ws' : List ℕ} (t : ShareTaken g n p i ws)
    (h : ws' ≡ cleared n ws) {m lo hi : ℕ} (em : m ≡ total g n)
    (el : lo ≡ first_of_share m p i) (eh : hi ≡ first_of_share m p (i + 1)) where
  low : lo ≡ first_of_share (total g n) p i
  low = el ∙ ap (λ (y : ℕ). first_of_share y p i) em

  high : hi ≡ first_of_share (total g n) p (suc i)
  high = eh ∙ ap (λ (y : ℕ). first_of_share y p (i + 1)) em
      ∙ ap (first_of_share (total g n) p) (add-one i)

  pub shared_clear : NoneIn g n lo hi
      → ShareOn g n p i ws ws' (share_reply_of 0 (m / p) (m % p) None)
  shared_clear y =
      clear t (rw (← low, ← high) y) (λ j. share_reply_of 0 (em j / p) (em j % p) None) h

  pub shared_two : {N : ℕ} {s : Sentence} → SharedTwo g n lo hi N s
      → ShareOn g n p i ws ws' (with N (m / p) (m % p) s)
  shared_two {N} {s} y = two {cs = cs} t (rw (← low, ← high) y.lowest) whole h
    where
      cs : List Cell
      cs = y.found

      k : n ≡ length (sentence cs)
      k = sym y.lowest.candidate.arranged.size ∙ sym (sentence_length 1 cs)

      whole : with N (m / p) (m % p) s ≡ share_reply_of (number g n cs)
          (total g n / p) (total g n % p) (Some (sentence cs))
      whole = λ j. with (y.number j) (em j / p) (em j % p)
          (record {
            tokens = (y.tokens ∙ ap (λ (v : ℕ). sentence cs ++ replicate (64 - v) no_token) k) j;
            count = (y.count ∙ k) j;
          })
