-- The sheet that `expand` gives is read back to the expansion's rules: a clause sheet's answers are
-- those of that rule sheet.
use mathlib.Core.Path.{◌≡◌, refl, sym, ap, ◌∙◌}
use mathlib.Core.List.{List, [], ◌∷◌}
use Prim.Native.Nat.{ℕ, ◌-◌}
use lib.ListN.{length, take, replicate}
use lib.Seq.{take_at}
use Rattle.sets.proofs.Basics.{clash}
use Rattle.grammar.specs.Layout.{Every}
use Rattle.grammar.specs.Trees.{Rules}
use Rattle.grammar.specs.Content.{SmallRule}
use Rattle.lines.proofs.KeyLaws.{Forward}
use Rattle.lists.specs.Lists.{GivesList, fits, large}
use Rattle.sheets.specs.declared.Fault.{Fault}
use Rattle.sheets.specs.Items.{accepted}
use Rattle.sheets.specs.RuleSheets.{rule_sheet}
use Rattle.clause_sheets.specs.ClauseSheets.{clause_sheet}
use Rattle.clause_sheets.proofs.Good.{sheet_good, sheet_forward}
use Rattle.std.specs.Prelude.{Result, Ok, Err}
use Rattle.grammar.specs.declared.Verdict.{Verdict}
use Rattle.sheets.specs.declared.Refusal.{Refusal}
use Rattle.sheets.specs.Results.{refusal}
use Rattle.answering.specs.declared.TreeRows.{TreeRows}
use Rattle.sweep_answers.specs.declared.Swept.{Swept}
use Rattle.list_answers.specs.Lists.{list_reply, entry_count}
use Rattle.answering.specs.Verdict.{VerdictOf}
use Rattle.answering.specs.Trees.{TreesOf}
use Rattle.sweep_answers.specs.Sweep.{SweepOf}
use Rattle.answering.proofs.Readings.{verdict_by, trees_by}
use Rattle.sweep_answers.proofs.Readings.{sweep_by}
use Rattle.call_clauses.specs.Calls.{ClauseVerdict, ClauseTrees, ClauseSweep}
use Rattle.call_clauses.specs.Expand.{sheet_text, ExpandOf, refusing, giving}
use Rattle.call_clauses.proofs.ReadBack.{Legible, reads_back}

legible : (g : Rules) → Every SmallRule g → Every (λ r. Forward r.clause) g → Every Legible g
legible [] s f = tt
legible (r ∷ g) s f = (record { small = s.0; forward = f.0 }, legible g s.1 f.1)

module _ (s : List ℕ) (g : Rules) (e : clause_sheet s ≡ accepted g) where
  pub expansion_reads_back : rule_sheet (sheet_text g) ≡ accepted g
  expansion_reads_back = let x = sheet_good s g e in
      reads_back g x (legible g x.small (sheet_forward s g e))

  -- both sheets give the same
  pub same_sheet : clause_sheet s ≡ rule_sheet (sheet_text g)
  same_sheet = e ∙ sym expansion_reads_back

  pub expanded_verdict : (tokens : List ℕ) {ws ws' : List ℕ} {r : Result Verdict Refusal}
      → ClauseVerdict s tokens ws ws' r → VerdictOf (sheet_text g) tokens ws ws' r
  expanded_verdict tokens x = verdict_by same_sheet tokens x

  pub expanded_trees : (tokens : List ℕ) {ws ws' one one' two two' : List ℕ}
      {r : Result TreeRows Refusal}
      → ClauseTrees s tokens ws ws' one one' two two' r
      → TreesOf (sheet_text g) tokens ws ws' one one' two two' r
  expanded_trees tokens x = trees_by same_sheet tokens x

  pub expanded_sweep : {k : ℕ} {ws ws' : List ℕ} {r : Result Swept Refusal}
      → ClauseSweep s k ws ws' r
      → SweepOf (sheet_text g) k ws ws' r
  expanded_sweep x = sweep_by same_sheet x

-- an answered call is not refused
not_both : {n : ℕ} {e : Refusal} → ◌≡◌ {A = Result ℕ Refusal} (Err e) (Ok n) → ⊥
not_both e = clash cc

-- the bytes that the call gives
given_bytes : {bytes out out' : List ℕ} {f : Fault} {r : Result ℕ Refusal} {n : ℕ} → r ≡ Ok n
    → GivesList list_reply (refusal f 0) bytes (length bytes) out out' r → take n out' ≡ bytes
given_bytes {bytes} {out} a (fits h x p) = (λ i. take (entry_count ((sym a ∙ x) i)) (p i))
    ∙ take_at bytes (replicate (length out - length bytes) 0) (length bytes) refl
given_bytes a (large h x p) = absurd (not_both (sym x ∙ a))

pub expand_reads_back : {s out out' : List ℕ} {r : Result ℕ Refusal} {n : ℕ} → ExpandOf s out out' r
    → r ≡ Ok n → rule_sheet (take n out') ≡ clause_sheet s
expand_reads_back (refusing e x h) a = absurd (not_both (sym x ∙ a))
expand_reads_back {s} {out} {out'} {n = n} (giving {g = g} e l) a =
    let b : take n out' ≡ sheet_text g = given_bytes a l.gives in
    ap rule_sheet b ∙ sym (same_sheet s g e)
