-- The promises of the calls for clause sheets settle the answer and the lent memory: two results
-- that meet a promise are the same. Of the verdict, the sweep and the refused line this is what
-- `verdict-settled`, `sweep-settled` and `held-settled` say of any sheets.
use mathlib.Core.Path.{◌≡◌, sym, ◌∙◌, subst}
use mathlib.Core.List.{List}
use Prim.Native.Nat.{ℕ}
use lib.ListN.{length}
use Rattle.sheets.proofs.Once.{apart, same_items, same_refusal}
use denote.Ref.{Bor}
use Rattle.sheets.specs.TokenSheets.{token_sheet}
use Rattle.sheets.specs.RefusedLines.{held_by, Hands}
use Rattle.sheets.proofs.Settled.{SamePart, held_settled}
use Rattle.clauses.proofs.Apart.{expansion_distinct}
use Rattle.clause_sheets.specs.ClauseSheets.{clause_sheet}
use Rattle.clause_sheets.proofs.Meaning.{meant}
use Rattle.std.specs.Prelude.{Result}
use Rattle.grammar.specs.declared.Verdict.{Verdict}
use Rattle.sheets.specs.declared.Refusal.{Refusal}
use Rattle.answering.specs.declared.TreeRows.{TreeRows}
use Rattle.sweep_answers.specs.declared.Swept.{Swept}
use Rattle.answering.proofs.Settled.{Words, Apart, apart_of, verdict_settled, trees_settled}
use Rattle.sweep_answers.proofs.SweepSettled.{sweep_settled}
use Rattle.list_answers.proofs.ListSettled.{list_settled}
use Rattle.list_answers.proofs.ListSettled.{SameBytes, bytes_same, refusal_bytes, list_moved}
use Rattle.call_clauses.specs.Calls.{clause_sheets_of, ClauseVerdict, ClauseTrees, ClauseSweep}
use Rattle.call_clauses.specs.Expand.{ExpandOf, refusing, giving}
use Rattle.grammar.specs.Distinct.{Distinct}

-- the rules of an expansion are distinct
pub clauses_apart : (clauses tokens : List ℕ) → Apart (clause_sheets_of clauses tokens)
clauses_apart clauses tokens = apart_of (clause_sheet clauses) tokens
    (λ g e. let m = meant clauses g e in
    subst Distinct (sym m.rules) (expansion_distinct m.clauses))

module _ (clauses : List ℕ) where
  pub clause_verdict_settled : (tokens : List ℕ) {ws a b : List ℕ} {r s : Result Verdict Refusal}
      → Words a → Words b
      → ClauseVerdict clauses tokens ws a r → ClauseVerdict clauses tokens ws b s
      → (r ≡ s) × (a ≡ b)
  clause_verdict_settled tokens p q x y = verdict_settled p q x y

  pub clause_trees_settled : (tokens : List ℕ) {ws a b one two m m' n n' : List ℕ}
      {r s : Result TreeRows Refusal} → Words a → Words b
      → ClauseTrees clauses tokens ws a one m two n r
      → ClauseTrees clauses tokens ws b one m' two n' s
      → (a ≡ b) × ((r ≡ s) × ((m ≡ m') × (n ≡ n')))
  clause_trees_settled tokens p q x y = trees_settled (clauses_apart clauses tokens) p q x y

  pub clause_sweep_settled : {k : ℕ} {ws a b : List ℕ} {r s : Result Swept Refusal}
      → ClauseSweep clauses k ws a r → ClauseSweep clauses k ws b s → (r ≡ s) × (a ≡ b)
  clause_sweep_settled x y = sweep_settled x y

-- the refused line
pub clause_refused_line_settled : (clauses tokens r s : Bor (List ℕ))
    → Hands clauses tokens r (held_by (clause_sheet clauses.now) (token_sheet tokens.now))
    → Hands clauses tokens s (held_by (clause_sheet clauses.now) (token_sheet tokens.now))
    → SamePart r s
clause_refused_line_settled clauses tokens r s =
    held_settled clauses tokens r s (clause_sheet clauses.now) (token_sheet tokens.now)

-- expand
pub expand_settled : {clauses out a b : List ℕ} {r s : Result ℕ Refusal} → ExpandOf clauses out a r
    → ExpandOf clauses out b s → (r ≡ s) × (a ≡ b)
expand_settled (refusing e x h) (refusing d y k) = let z = same_refusal e d in
    (x ∙ rw (z.0, z.1) (sym y), h ∙ sym k)
expand_settled (refusing e x h) (giving d y) = absurd (apart e d)
expand_settled (giving d y) (refusing e x h) = absurd (apart e d)
expand_settled (giving e x) (giving d y) =
    let z = same_items e d in
    list_settled x (rw (← z) at y)

-- of the lent bytes only their number counts: the reply, and the bytes that it counts, are the same
-- whatever stood there before
pub expand_reply : {clauses out other a b : List ℕ} {r s : Result ℕ Refusal}
    → length out ≡ length other
    → ExpandOf clauses out a r → ExpandOf clauses other b s → SameBytes a b r s
expand_reply {a = a} {b = b} c (refusing e x h) (refusing d y k) =
    refusal_bytes a b (same_refusal e d) x y
expand_reply c (refusing e x h) (giving d y) = absurd (apart e d)
expand_reply c (giving d y) (refusing e x h) = absurd (apart e d)
expand_reply {a = a} {b = b} c (giving e x) (giving d y) =
    let z = same_items e d in
    bytes_same a b (list_settled (list_moved c x) (rw (← z) at y))
