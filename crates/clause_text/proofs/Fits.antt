-- The number of bytes that `expand` answers is at most that of the lent bytes.
use mathlib.Core.List.{List}
use Prim.Native.Nat.{ℕ, ◌≤◌}
use native.Mathlib.Omega.{arith}
use lib.ListN.{length}
use Rattle.std.specs.Prelude.{Result}
use Rattle.sheets.specs.declared.Refusal.{Refusal}
use Rattle.list_answers.specs.Lists.{entry_count}
use Rattle.list_answers.proofs.ListSettled.{count_of, list_count}
use Rattle.call_clauses.specs.Expand.{ExpandOf, refusing, giving}

pub expand_count : {clauses out out' : List ℕ} {r : Result ℕ Refusal} → ExpandOf clauses out out' r
    → entry_count r ≤ length out
expand_count (refusing e x h) = count_of x (omega arith)
expand_count (giving e l) = list_count l
