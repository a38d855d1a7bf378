-- The sweep's answer, by what the search finds.
use mathlib.Core.Path.{◌≡◌, refl, sym, ap, ◌∙◌}
use mathlib.Core.List.{List, ◌++◌}
use Prim.Native.Nat.{ℕ, ◌-◌}
use lib.ListN.{length, replicate}
use Rattle.std.specs.Prelude.{Option, None, Some, Result, Ok}
use Rattle.grammar.specs.declared.Cell.{Cell}
use Rattle.grammar.specs.declared.Sentence.{Sentence}
use Rattle.grammar.specs.Trees.{Rules}
use Rattle.grammar.specs.Candidates.{sentence}
use Rattle.grammar.specs.Sentences.{no_token}
use Rattle.grammar.proofs.SweepLaws.{sentence_length}
use Rattle.sheets.specs.declared.Refusal.{Refusal}
use Rattle.sweeping.specs.Cleared.{cleared}
use Rattle.sweeping.specs.Swept.{Bounded}
use Rattle.sweeping.specs.Swept as Found
use Rattle.sweep_answers.specs.declared.Swept.{Swept}
use Rattle.sweep_answers.specs.Sweep.{sweep_reply_of, SweepTaken, clear, two}
use Rattle.sweep_answers.specs.SweepReplies.{SweepOn}

-- a sweep that is taken on is bounded
pub bounded : {g : Rules} {k : ℕ} {ws : List ℕ} → SweepTaken g k ws → Bounded g k
bounded t = record { low = t.low; high = t.high; few = t.few }

abbrev with : Option Sentence → ℕ → Result Swept Refusal
with o m = Ok (record { found = o; tried = m })

-- what was found is what is told: none, clear; a sentence, two
pub swept_on : {g : Rules} {k m : ℕ} {ws ws' : List ℕ} (o : Option Sentence) → SweepTaken g k ws
    → Found.Swept g k o m → ws' ≡ cleared k ws → SweepOn g k ws ws' (with o m)
swept_on None t x h = clear t x.0 x.1 refl h
swept_on {m = m} (Some r) t x h = two t x.first x.shorter x.tried whole h
  where
    cs : List Cell
    cs = x.found

    n : length cs ≡ length (sentence cs)
    n = sym (sentence_length 1 cs)

    whole : with (Some r) m ≡ sweep_reply_of (Some (sentence cs)) m
    whole = λ i. with (Some (record {
      tokens = (x.tokens ∙ ap (λ (y : ℕ). sentence cs ++ replicate (64 - y) no_token) n) i;
      count = (x.count ∙ n) i;
    })) m
