-- What the result of a call tells: an answer and a line, and what it has on a refusal.
use Rattle.std.specs.Prelude.{ℕ, Result, Ok, Err}
use Rattle.grammar.specs.declared.Verdict.{Verdict}
use Rattle.sheets.specs.declared.Fault.{Fault}
use Rattle.sheets.specs.declared.Refusal.{Refusal}
use Rattle.sheets.specs.declared.Answer.{Answer}

-- the answer that a verdict is
abbrev pub verdict_answer : Verdict → Answer
verdict_answer Verdict.None = Answer.None
verdict_answer Verdict.One = Answer.One
verdict_answer Verdict.Two = Answer.Two

-- a refused call
abbrev pub refusal : {A : Type 0} → Fault → ℕ → Result A Refusal
refusal f l = Err (record { fault = f; line = l })

module _ {A : Type 0} where
  -- the answer, where an answered call's value has this one
  abbrev pub told_answer : (A → Answer) → Result A Refusal → Answer
  told_answer answer (Ok x) = answer x
  told_answer answer (Err e) = Answer.Refused e.fault

  -- the refused line, or 0
  abbrev pub told_line : Result A Refusal → ℕ
  told_line (Ok x) = 0
  told_line (Err e) = e.line

  -- what f takes from an answered call's value, d where the call is refused
  abbrev pub told_value : {B : Type 0} → (A → B) → B → Result A Refusal → B
  told_value f d (Ok x) = f x
  told_value f d (Err e) = d
