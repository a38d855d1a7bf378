-- The words that end 0, and promises by what a reader answered.
use mathlib.Core.Path.{◌≡◌, sym, ap, ◌∙◌}
use mathlib.Core.List.{List, ◌++◌}
use Prim.Native.Nat.{ℕ, ◌≤◌}
use native.Mathlib.Omega.{arith}
use lib.ListN.{length, drop, replicate, take-append-drop}
use Rattle.grammar.specs.Trees.{Rules}
use Rattle.sheets.specs.Items.{Reading}
use Rattle.spans.specs.Changes.{Past, Cleared}
use Rattle.spans.proofs.ChangeLaws.{past_then, past_drop, zeroed}
use Rattle.lists.proofs.Settled.{gives_map}
use Rattle.doubt_list.specs.Given.{DoubtsGiven}
use Rattle.std.specs.Prelude.{Option, Result}
use Rattle.sheets.specs.declared.Refusal.{Refusal}
use Rattle.call_always.specs.declared.Told.{Told}
use Rattle.call_always.specs.Always.{AlwaysBy}
use Rattle.call_always.specs.Replying.{replied, DoubtsTold}

-- the words that a call changed, and then cleared
pub all_emptied : (m : ℕ) {ws ws' ws'' : List ℕ} → m ≤ length ws → Past m ws ws'
    → Cleared ws' ws'' m
    → ws'' ≡ replicate m 0 ++ drop m ws
all_emptied m {ws} {ws'} {ws''} h p c =
    sym (take-append-drop m ws'')
    ∙ ap (λ (l : List ℕ). l ++ drop m ws'')
    (zeroed m ws' ws'' (omega (arith, p.long, c.past.long)) c)
    ∙ ap (λ (l : List ℕ). replicate m 0 ++ l) (past_drop (past_then p c.past))

-- a promise by what the reader answered is one by the sheet
pub always_by : {o o' : Reading Rules} → o ≡ o'
    → {words words' list list' : List ℕ} {r : Result Told Refusal}
    → AlwaysBy o words words' list list' r → AlwaysBy o' words words' list list' r
always_by e x = rw e at x

-- the reply on the list of all doubts tells them
pub doubts_told : {g : Rules} {lent lent' : List ℕ} {l : Option ℕ} {r : Result Told Refusal}
    → r ≡ replied l
    → DoubtsGiven g lent lent' l → DoubtsTold g lent lent' r
doubts_told e x =
    record {
      entries = x.entries;
      doubts = x.doubts;
      gives = rw e (gives_map replied x.gives);
    }
