-- The promise of `calls_text` settles the whole output: two outputs for the same input are the
-- same.
use mathlib.Core.Path.{◌≡◌, sym, ◌∙◌}
use mathlib.Core.List.{List}
use Prim.Native.Nat.{ℕ}
use Rattle.std.specs.Prelude.{Option, Some, None}
use native.Mathlib.Omega.{arith}
use Rattle.always_text.proofs.Settled.{always_text_settled}
use Rattle.call_sheets.specs.CallSheets.{call_of}
use Rattle.call_sheets.specs.declared.Call.{Call}
use Rattle.call_sheets.specs.declared.Sheets.TheVariants as Sheets
use Rattle.call_sheets.specs.declared.OneSheet.{OneSheet}
use Rattle.call_sheets.specs.declared.TwoSheets.{TwoSheets}
use Rattle.call_clauses.proofs.Settled.{clauses_apart}
use Rattle.clause_text.proofs.Settled.{expand_text_settled}
use Rattle.column_text.proofs.Settled.{columns_text_settled}
use Rattle.reports.proofs.Settled.{merge_text_settled}
use Rattle.share_text.proofs.Settled.{share_text_settled}
use Rattle.text.specs.Printed.{Printed}
use Rattle.text.proofs.Settled.{never_none, same_some, printed_settled}
use Rattle.check_text.proofs.Settled.{trees_text_settled}
use Rattle.sweep_text.proofs.Settled.{sweep_text_settled}
use Rattle.text_trees.proofs.Settled.{rows_text_settled, places_text_settled}
use Rattle.rights_text.proofs.Settled.{show_text_settled, change_text_settled}
use Rattle.calling.specs.Calls.{OnTwoSheets, two, OneText, TwoText, CallText, CallsOf}
use Rattle.calling.specs.Calls.{long, whole, called}
use Rattle.calling.specs.Calls as Calls

two_settled : {Of : List ℕ → List ℕ → List ℕ → Type 0}
    → ((s t a b : List ℕ) → Of s t a → Of s t b → a ≡ b)
    → {behind a b : List ℕ} → OnTwoSheets Of behind a → OnTwoSheets Of behind b → a ≡ b
two_settled same (Calls.fewer e x) (Calls.fewer d y) = x ∙ sym y
two_settled same (Calls.fewer e x) (two d y) = absurd (never_none e d)
two_settled same (two d y) (Calls.fewer e x) = absurd (never_none e d)
two_settled same {a = a} {b = b} (two {p = p} e x) (two d y) =
    same p.before p.behind a b x (rw (← same_some e d) at y)

one_text_settled : (c : OneSheet) (s a b : List ℕ) → OneText c s a → OneText c s b → a ≡ b
one_text_settled (OneSheet.ClausesSweep k) s a b x y = sweep_text_settled x y
one_text_settled OneSheet.Expand s a b x y = expand_text_settled x y
one_text_settled (OneSheet.Share n p i) s a b x y = share_text_settled x y

two_text_settled : (call : List ℕ) (c : TwoSheets) (s t a b : List ℕ) → TwoText call c s t a
    → TwoText call c s t b → a ≡ b
two_text_settled call TwoSheets.Clauses s t a b x y = trees_text_settled (clauses_apart s t) x y
two_text_settled call TwoSheets.Rows s t a b x y = rows_text_settled x y
two_text_settled call TwoSheets.Merge s t a b x y = merge_text_settled x y
two_text_settled call TwoSheets.Columns s t a b x y = columns_text_settled x y
two_text_settled call TwoSheets.Places s t a b x y = places_text_settled x y
two_text_settled call (TwoSheets.Show u) s t a b x y =
    two_settled (λ _ _ _ _. show_text_settled) x y
two_text_settled call (TwoSheets.Change u r at) s t a b x y = change_text_settled x y

call_settled : (sheet : List ℕ) (c : Option Call) (behind : List ℕ) {a b : List ℕ}
    → CallText sheet c behind a → CallText sheet c behind b → a ≡ b
call_settled sheet (Some Call.Always) behind x y = always_text_settled x y
call_settled sheet (Some Call.ClausesAlways) behind x y = always_text_settled x y
call_settled sheet (Some (Call.On (Sheets.One c))) behind x y = one_text_settled c behind _ _ x y
call_settled sheet (Some (Call.On (Sheets.Two c))) behind x y =
    two_settled (two_text_settled sheet c) x y
call_settled sheet None behind x y = x ∙ sym y

pub calls_settled : (input : List ℕ) {a b : List ℕ} → CallsOf input a → CallsOf input b → a ≡ b
calls_settled input (long l x) (long m y) = x ∙ sym y
calls_settled input (long l x) (whole m e y) = absurd (omega arith)
calls_settled input (long l x) (called m e y) = absurd (omega arith)
calls_settled input (whole m e y) (long l x) = absurd (omega arith)
calls_settled input (whole l e x) (whole m d y) = x ∙ sym y
calls_settled input (whole l e x) (called m d y) = absurd (never_none e d)
calls_settled input (called m e y) (long l x) = absurd (omega arith)
calls_settled input (called m d y) (whole l e x) = absurd (never_none e d)
calls_settled input (called {p = p} l e x) (called {p = q} m d y) =
    let z : p ≡ q = same_some e d in
    call_settled p.before (call_of p.before) p.behind x (rw (← z) at y)

pub calls_text_settled : {input out x y : List ℕ} {r s : ℕ} → Printed CallsOf input out x r
    → Printed CallsOf input out y s → (r ≡ s) × (x ≡ y)
calls_text_settled {input} p q = printed_settled (λ a b. calls_settled input {a = a} {b = b}) p q
