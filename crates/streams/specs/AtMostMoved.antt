-- What is known of a count of moved bytes (inner).
use Rattle.std.specs.Prelude.{ℕ, ◌≤◌, Result, IfOk}

-- at most n bytes were moved, or a call failed
abbrev pub AtMostMoved : {E : Type 0} → ℕ → Result ℕ E → Type 0
AtMostMoved n r = IfOk r (λ k. k ≤ n)
