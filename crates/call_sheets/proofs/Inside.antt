-- The new mark of a change begins within the call sheet.
use mathlib.Core.Path.{◌≡◌, refl}
use mathlib.Core.Bool.{Bool, true, false, cond}
use mathlib.Core.List.{List, [], ◌∷◌}
use Rattle.std.specs.Prelude.{Option, None, Some}
use Prim.Native.Nat.{ℕ, ◌-◌, ◌<◌}
use native.Mathlib.Omega.{arith}
use lib.ListN.{length}
use Rattle.fields.specs.Pieces.{pieces, same_bytes}
use Rattle.fields.specs.Words.{numeral_of}
use Rattle.fields.proofs.Fields.{with_holds, end_holds}
use Rattle.call_sheets.specs.declared.Call.{Call}
use Rattle.call_sheets.specs.declared.TwoSheets.TheVariants as TwoSheets
use Rattle.call_sheets.specs.declared.OneSheet.TheVariants as OneSheet
use Rattle.call_sheets.specs.Inside.{Inside}
use Rattle.call_sheets.specs.CallSheets.{on_one, on_two}
use Rattle.call_sheets.specs.CallSheets.{clauses_sheet, expand_sheet, rows_sheet, columns_sheet}
use Rattle.call_sheets.specs.CallSheets.{places_sheet, merge_sheet, bound_start, share_start}
use Rattle.call_sheets.specs.CallSheets.{show_start, change_start, begins_with, values}
use Rattle.call_sheets.specs.CallSheets.{with_number, share_end, share_third, share_second}
use Rattle.call_sheets.specs.CallSheets.{share_call_of, broken, change_end, change_second}
use Rattle.call_sheets.specs.CallSheets.{change_call_of, always_call, numbered_call, call_of}
use Rattle.call_sheets.specs.CallSheets.{always_sheet, clauses_always_sheet, sweep_call}
use Rattle.call_sheets.specs.CallSheets.{show_call_of}
use Rattle.call_sheets.proofs.Laws.{begins_long}

module _ (m : ℕ) where
  either : (b : Bool) (x y : Option Call) → Inside m x → Inside m y → Inside m (cond b x y)
  either true x y p q = p
  either false x y p q = q

  numbered : (o : Option ℕ) (k : ℕ → Option Call) → ((v : ℕ) → Inside m (k v))
      → Inside m (with_number o k)
  numbered (Some v) k h = h v
  numbered None k h = tt

  share_inside : (fs : List (List ℕ)) → Inside m (share_call_of fs)
  share_inside =
      with_holds (Inside m) None tt numeral_of share_second
      (λ n. with_holds (Inside m) None tt numeral_of (share_third n)
      (λ p. with_holds (Inside m) None tt numeral_of (share_end n p)
      (λ i. end_holds (Inside m) None tt (on_one (OneSheet.Share n p i)) tt)))

  end_inside : 0 < m → (u r : ℕ) (fs : List (List ℕ)) → Inside m (change_end m u r fs)
  end_inside h u r [] = tt
  end_inside h u r (f ∷ []) =
      either (broken f) None (on_two (TwoSheets.Change u r (m - 1 - length f))) tt (omega arith)
  end_inside h u r (f ∷ g ∷ fs) = tt

  change_inside : 0 < m → (fs : List (List ℕ)) → Inside m (change_call_of m fs)
  change_inside h = with_holds (Inside m) None tt numeral_of (change_second m)
      (λ u. with_holds (Inside m) None tt numeral_of (change_end m u) (end_inside h u))

always_inside : (m : ℕ) (s : List ℕ) → Inside m (always_call s)
always_inside m s =
    either m (same_bytes s always_sheet) (Some Call.Always) _ tt
    (either m (same_bytes s clauses_always_sheet) (Some Call.ClausesAlways) None tt tt)

numbered_inside : (s : List ℕ) → Inside (length s) (numbered_call s)
numbered_inside s =
    either m (begins_with bound_start s)
    (with_number (numeral_of (values bound_start s)) sweep_call) _
    (numbered m (numeral_of (values bound_start s)) sweep_call (λ v. tt))
    (either m (begins_with show_start s)
    (with_number (numeral_of (values show_start s)) show_call_of) _
    (numbered m (numeral_of (values show_start s)) show_call_of (λ v. tt))
    (either m (begins_with share_start s)
    (share_call_of (pieces 32 (values share_start s))) _
    (share_inside m (pieces 32 (values share_start s)))
    (go (begins_with change_start s) refl)))
  where
    m : ℕ
    m = length s

    go : (b : Bool) → begins_with change_start s ≡ b
        → Inside (length s) (cond b (change_call_of (length s) (pieces 32 (values change_start s)))
        (always_call s))
    go true e = change_inside (length s) (omega (arith, begins_long change_start s e))
        (pieces 32 (values change_start s))
    go false e = always_inside (length s) s

pub call_inside : (s : List ℕ) → Inside (length s) (call_of s)
call_inside s =
    let m = length s in
    either m (same_bytes s clauses_sheet) (on_two TwoSheets.Clauses) _ tt
    (either m (same_bytes s expand_sheet) (on_one OneSheet.Expand) _ tt
    (either m (same_bytes s rows_sheet) (on_two TwoSheets.Rows) _ tt
    (either m (same_bytes s columns_sheet) (on_two TwoSheets.Columns) _ tt
    (either m (same_bytes s places_sheet) (on_two TwoSheets.Places) _ tt
    (either m (same_bytes s merge_sheet) (on_two TwoSheets.Merge) _ tt (numbered_inside s))))))
