-- A refusal's line is a line of the clause sheet, or 0.
use mathlib.Core.Path.{◌≡◌, refl}
use mathlib.Core.Bool.{Bool, true, false, cond}
use mathlib.Core.List.{List, []}
use Prim.Native.Nat.{ℕ, ◌+◌, ◌≤◌}
use native.Mathlib.Omega.{arith}
use lib.ListN.{length}
use Rattle.sets.proofs.Basics.{clash}
use Rattle.fields.specs.Pieces.{pieces}
use Rattle.clauses.specs.Expansion.{expansion}
use Rattle.clause_lines.specs.ClauseLines.{ClauseLine}
use Rattle.sheets.specs.Items.{Reading, accepted, refused, items_from}
use Rattle.sheets.specs.RuleSheets.{finish}
use Rattle.sheets.proofs.Accepted.{items_line}
use Rattle.sheets.proofs.Walks.{names_line, first_line, finish_line}
use Rattle.clause_sheets.specs.ClauseSheets.{clause_step, clauses_of, expansion_fits, expanded}
use Rattle.clause_sheets.specs.ClauseSheets.{clauses_from, clause_names, clause_sheet}
use Rattle.grammar.specs.Trees.{Rules}

expanded_line : (x : Reading (List ClauseLine)) (n : ℕ) (f : ℕ) (l : ℕ)
    → ((g : ℕ) (m : ℕ) → x ≡ refused g m → m ≤ n) → expanded x ≡ refused f l → l ≤ n
expanded_line (refused g m) n f l h e = let j : m ≡ l = cc in omega (arith, h g m refl)
expanded_line (accepted c) n f l h e = go (expansion_fits (clauses_of c)) e
  where
    whole : Reading Rules
    whole = accepted (expansion (clauses_of c))

    go : (b : Bool) → cond b (finish whole) (refused 43 0) ≡ refused f l → l ≤ n
    go true e =
        finish_line whole n f l (λ g m k. absurd (clash cc)) e
    go false e = let j : ◌≡◌ {A = ℕ} 0 l = cc in omega arith

pub clause_exists : (s : List ℕ) (f : ℕ) (l : ℕ) → clause_sheet s ≡ refused f l
    → l ≤ length (pieces 10 s)
clause_exists s f l =
    names_line (refused 1 1) clause_names clauses_from
    (λ ps f l. expanded_line (items_from clause_step [] ps) (1 + length ps) f l
    (λ g m e. omega (arith, items_line clause_step [] ps g m e)))
    (pieces 10 s) f l (first_line 1 s f l)
