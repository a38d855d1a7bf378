-- The promise settles the answer, both counts and the lent words: two results that meet it are the
-- same.
use mathlib.Core.Path.{◌≡◌, sym, ap, ◌∙◌}
use mathlib.Core.List.{List}
use Prim.Native.Nat.{ℕ}
use native.Mathlib.Omega.{arith}
use lib.ListN.{length}
use Rattle.grammar.specs.Layout.{Word}
use Rattle.grammar.specs.Trees.{Rules}
use Rattle.sheets.specs.declared.Fault.{Fault}
use Rattle.sheets.proofs.Numbers.{same_fault}
use Rattle.std.specs.Prelude.{Option, Result}
use Rattle.grammar.specs.declared.Verdict.{Verdict}
use Rattle.grammar.specs.Verdicts.{Holds}
use Rattle.grammar.proofs.VerdictLaws.{verdict_same}
use Rattle.sheets.specs.declared.Refusal.{Refusal}
use Rattle.sheets.specs.Results.{refusal}
use Rattle.sheets.proofs.Once.{apart, same_refusal}
use Rattle.answering.proofs.Settled.{Words, filled_same, same_sheets, sheets_apart}
use Rattle.row_counts.specs.RowCounts.{Counted, Tells}
use Rattle.row_counts.proofs.RowCountLaws.{counted_unique, tells_one}
use Rattle.call_rows.specs.declared.CountedRows.{CountedRows}
use Rattle.call_rows.specs.Rows.{rows_reply_of, RowsOn, short, counting, RowsOf, refusing}
use Rattle.call_rows.specs.Rows.{reading}
use Rattle.grammar.specs.Distinct.{Distinct}

-- the verdict and both counts
counted_reply : (g : Rules) (w : Word) {v v' : Verdict} {m n m' n' : ℕ} {e f e' f' : Option ℕ}
    {r s : Result CountedRows Refusal} → Distinct g
    → Holds v g 0 w → Counted g w m n → Tells e m → Tells f n → r ≡ rows_reply_of v e f
    → Holds v' g 0 w → Counted g w m' n' → Tells e' m' → Tells f' n' → s ≡ rows_reply_of v' e' f'
    → r ≡ s
counted_reply g w {v} {v'} {m} {n} {e = e} {f} {e'} {f'} d x c t u p y c' t' u' q =
    let z = counted_unique d c c' in
    let verdict : v ≡ v' = verdict_same g 0 w v v' x y in
    let first : e ≡ e' = tells_one e e' m t (rw z.0 t') in
    let second : f ≡ f' = tells_one f f' n u (rw z.1 u') in
    p ∙ (λ i. rows_reply_of (verdict i) (first i) (second i)) ∙ sym q

rows_on : (g : Rules) (w : Word) {ws a b : List ℕ} {r s : Result CountedRows Refusal} → Distinct g
    → Words a
    → Words b → RowsOn g w ws a r → RowsOn g w ws b s → (r ≡ s) × (a ≡ b)
rows_on g w d p q (short {f = f} l n x h) (short {f = f'} m o y k) =
    let z : f ≡ f' = same_fault f f' 21 n o in
    (x ∙ ap (λ (e : Fault). refusal e 0) z ∙ sym y, h ∙ sym k)
rows_on g w d p q (short l n x h) (counting y c t u q' k) =
    absurd (omega (arith, k.sheet.enough, k.long))
rows_on g w d p q (counting y c t u q' k) (short l n x h) =
    absurd (omega (arith, k.sheet.enough, k.long))
rows_on g w d p q (counting x c t u z h) (counting y e t' u' o k) =
    (counted_reply g w d x c t u z y e t' u' o, filled_same p q h k)

pub rows_settled : {rules tokens ws a b : List ℕ} {r s : Result CountedRows Refusal} → Words a
    → Words b
    → RowsOf rules tokens ws a r → RowsOf rules tokens ws b s → (r ≡ s) × (a ≡ b)
rows_settled p q (refusing e x h) (refusing d y k) =
    let z = same_refusal e d in
    (x ∙ rw (z.0, z.1) (sym y), h ∙ sym k)
rows_settled p q (refusing e x h) (reading d y) = absurd (apart e d)
rows_settled p q (reading d y) (refusing e x h) = absurd (apart e d)
rows_settled {rules} {tokens} p q (reading {g = g} {w = w} e x) (reading d y) =
    let z = same_sheets e d in
    rows_on g w ((sheets_apart rules tokens).distinct g w e) p q x (rw (← z.0, ← z.1) at y)

-- of the lent words only their number counts: the reply is the same whatever stood there before
module _ {ws vs : List ℕ} (e : length ws ≡ length vs) {a b : List ℕ}
    {r s : Result CountedRows Refusal} where
  rows_on_reply : (g : Rules) (w : Word) → Distinct g → RowsOn g w ws a r → RowsOn g w vs b s
      → r ≡ s
  rows_on_reply g w d (short {f = f} l n x h) (short {f = f'} m o y k) =
      x ∙ ap (λ (z : Fault). refusal z 0) (same_fault f f' 21 n o) ∙ sym y
  rows_on_reply g w d (short l n x h) (counting y c t u q' k) =
      absurd (omega (arith, k.sheet.enough, k.long))
  rows_on_reply g w d (counting y c t u q' k) (short l n x h) =
      absurd (omega (arith, k.sheet.enough, k.long))
  rows_on_reply g w d (counting x c t u z h) (counting y c' t' u' o k) =
      counted_reply g w d x c t u z y c' t' u' o

  pub rows_reply : {rules tokens : List ℕ} → RowsOf rules tokens ws a r → RowsOf rules tokens vs b s
      → r ≡ s
  rows_reply (refusing p x h) (refusing d y k) = let z = same_refusal p d in
      x ∙ rw (z.0, z.1) (sym y)
  rows_reply (refusing p x h) (reading d y) = absurd (apart p d)
  rows_reply (reading d y) (refusing p x h) = absurd (apart p d)
  rows_reply {rules} {tokens} (reading {g = g} {w = w} p x) (reading d y) =
      let z = same_sheets p d in
      rows_on_reply g w ((sheets_apart rules tokens).distinct g w p) x (rw (← z.0, ← z.1) at y)
