-- The promise settles the whole answer and the lent words.
use mathlib.Core.Path.{◌≡◌, refl, sym, ap, ◌∙◌}
use mathlib.Core.Bool.{Bool, true, false}
use mathlib.Core.List.{List}
use Prim.Native.Nat.{ℕ}
use native.Mathlib.Omega.{arith}
use lib.ListN.{length}
use denote.Ref.{Bor}
use Rattle.sheets.specs.RuleSheets.{rule_sheet}
use Rattle.sheets.specs.RefusedLines.{held_by, Hands}
use Rattle.sheets.proofs.Settled.{SamePart, held_settled}
use Rattle.range_sheets.specs.RangeSheets.{range_sheet}
use Rattle.sets.specs.Says.{Says}
use Rattle.grammar.specs.Trees.{Rules}
use Rattle.column_search.specs.declared.Flags.{Flags}
use Rattle.grammar.specs.declared.Verdict.TheVariants as Verdict
use Rattle.column_search.specs.Answers.{FlagsSay}
use Rattle.sheets.proofs.Numbers.{same_fault}
use Rattle.column_ranges.specs.Ranges.{Ranges}
use Rattle.sheets.specs.declared.Fault.{Fault}
use Rattle.std.specs.Prelude.{Result, Ok}
use Rattle.sheets.specs.declared.Refusal.{Refusal}
use Rattle.sheets.specs.Results.{refusal}
use Rattle.sheets.proofs.Once.{apart, same_items, same_refusal}
use Rattle.call_columns.specs.Columns.{ColumnsOn, short, given, ColumnsOf}
use Rattle.call_columns.specs.Columns.{bad_rules, bad_ranges, reading}

-- two bools that say the same thing are the same
says_same : {P : Type 0} (a b : Bool) → Says a P → Says b P → a ≡ b
says_same true true s t = refl
says_same true false s t = absurd (t.isnt refl (s.is refl))
says_same false true s t = absurd (s.isnt refl (t.is refl))
says_same false false s t = refl

pub flags_same : {g : Rules} {rs : Ranges} (f f' : Flags) → FlagsSay g rs f → FlagsSay g rs f'
    → f ≡ f'
flags_same f f' s t =
    let a = says_same f.none f'.none (s.says Verdict.None) (t.says Verdict.None) in
    let b = says_same f.one f'.one (s.says Verdict.One) (t.says Verdict.One) in
    let c = says_same f.two f'.two (s.says Verdict.Two) (t.says Verdict.Two) in
    λ i. record { none = a i; one = b i; two = c i }

pub columns_on : (g : Rules) (rs : Ranges) {ws a b : List ℕ} {r s : Result Flags Refusal}
    → ColumnsOn g rs ws a r → ColumnsOn g rs ws b s → (r ≡ s) × (a ≡ b)
columns_on g rs (short {f = f} l n x h) (short {f = f'} m o y k) =
    (x ∙ ap (λ (z : Fault). refusal z 0) (same_fault f f' 21 n o) ∙ sym y, h ∙ sym k)
columns_on g rs (short l n x h) (given m o y k) = absurd (omega (arith, l, m))
columns_on g rs (given m o y k) (short l n x h) = absurd (omega (arith, l, m))
columns_on g rs (given {f = f} l n x h) (given {f = f'} m o y k) = (
  x ∙ ap (λ (z : Flags). Ok z)
      (flags_same f f' n o) ∙ sym y,
  h ∙ sym k,
)

-- ---- the whole promise

refusals : {f f' : Fault} {l l' : ℕ} {ws a b : List ℕ} {r s : Result Flags Refusal}
    → (f ≡ f') × (l ≡ l')
    → r ≡ refusal f l → s ≡ refusal f' l' → a ≡ ws → b ≡ ws → (r ≡ s) × (a ≡ b)
refusals z x y h k = (x ∙ (λ i. refusal (z.0 i) (z.1 i)) ∙ sym y, h ∙ sym k)

pub columns_settled : (rules ranges : List ℕ) {ws a b : List ℕ} {r s : Result Flags Refusal}
    → ColumnsOf rules ranges ws a r → ColumnsOf rules ranges ws b s → (r ≡ s) × (a ≡ b)
columns_settled rules ranges (bad_rules e x h) (bad_rules d y k) =
    refusals (same_refusal e d) x y h k
columns_settled rules ranges (bad_rules e x h) (bad_ranges d m y k) = absurd (apart e d)
columns_settled rules ranges (bad_rules e x h) (reading d m y) = absurd (apart e d)
columns_settled rules ranges (bad_ranges d m y k) (bad_rules e x h) = absurd (apart e d)
columns_settled rules ranges (bad_ranges e m x h) (bad_ranges d n y k) =
    refusals (same_refusal m n) x y h k
columns_settled rules ranges (bad_ranges e m x h) (reading d n y) = absurd (apart m n)
columns_settled rules ranges (reading d n y) (bad_rules e x h) = absurd (apart e d)
columns_settled rules ranges (reading d n y) (bad_ranges e m x h) = absurd (apart m n)
columns_settled rules ranges (reading {g = g} {rs = rs} e m x) (reading d n y) =
    columns_on g rs x (rw (← same_items e d, ← same_items m n) at y)

-- of the lent words only their number counts: the reply is the same whatever stood there before
pub columns_reply : (rules ranges : List ℕ) {ws vs a b : List ℕ} {r s : Result Flags Refusal}
    → length ws ≡ length vs → ColumnsOf rules ranges ws a r → ColumnsOf rules ranges vs b s → r ≡ s
columns_reply rules ranges e (bad_rules d x h) y =
    (columns_settled rules ranges (bad_rules d x refl) y).0
columns_reply rules ranges e (bad_ranges d m x h) y =
    (columns_settled rules ranges (bad_ranges d m x refl) y).0
columns_reply rules ranges e (reading d m (short l n x h)) y =
    (columns_settled rules ranges (reading d m (short (omega arith) n x refl)) y).0
columns_reply rules ranges e (reading d m (given l n x h)) y =
    (columns_settled rules ranges (reading d m (given (omega arith) n x refl)) y).0

-- ---- the refused line

pub columns_refused_line_settled : (rules ranges r s : Bor (List ℕ))
    → Hands rules ranges r (held_by (rule_sheet rules.now) (range_sheet ranges.now))
    → Hands rules ranges s (held_by (rule_sheet rules.now) (range_sheet ranges.now))
    → SamePart r s
columns_refused_line_settled rules ranges r s =
    held_settled rules ranges r s (rule_sheet rules.now) (range_sheet ranges.now)
