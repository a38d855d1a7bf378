-- The sweep without the index of lengths (for laws), which tries every length. All else in it must
-- equal the sweep with the index.
use Rattle.std.specs.Prelude.{List, ℕ, Result, Ok, Err}
use Rattle.grammar.specs.Candidates.{Terminal}
use Rattle.tried_count.specs.Tried.{Tried}
use Rattle.sheets.specs.RuleSheets.{rule_sheet}
use Rattle.sheets.specs.declared.Refusal.{Refusal}
use Rattle.sweep_answers.specs.declared.Swept.{Swept}
use Rattle.sweep_answers.specs.Sweep.{Tries, SweepReading}

-- no length is passed over
abbrev pub TriedAll : Tries
TriedAll g k a = Tried (λ (n : ℕ). Unit {0}) (Terminal g) k a

-- the call that passes over none
abbrev pub PlainSweepOf : (rules : List ℕ) (k : ℕ) (words words' : List ℕ)
    (r : Result Swept Refusal) → Type 0
PlainSweepOf rules = SweepReading TriedAll (rule_sheet rules)

-- all in an answer but the count of candidates tried
abbrev pub untold : Result Swept Refusal → Result Swept Refusal
untold (Ok s) = Ok (record { found = s.found; tried = 0 })
untold (Err e) = Err e
