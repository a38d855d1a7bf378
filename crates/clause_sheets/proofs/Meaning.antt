-- What an accepted clause sheet means: its rules are the expansion of its own clauses, and the
-- readings of a sentence under these match the trees of the start one to one.
use mathlib.Core.Path.{◌≡◌, refl, sym, ap, ◌∙◌, subst}
use mathlib.Core.Bool.{Bool, true, false, cond, not, ◌&&◌}
use mathlib.Core.List.{List, [], ◌∷◌}
use Prim.Native.Nat.{ℕ, ◌+◌, ◌<◌, max}
use native.Mathlib.Omega.{arith}
use Rattle.sets.proofs.Basics.{clash}
use Rattle.grammar.specs.Trees.{Rules}
use Rattle.fields.specs.Pieces.{pieces, is_empty, same_bytes}
use Rattle.clauses.specs.Clauses.{Clauses}
use Rattle.clauses.specs.Expansion.{past_expr, past_all, expansion}
use Rattle.clauses.specs.Matching.{OneToOne}
use Rattle.clauses.proofs.Match.{clauses_match}
use Rattle.clauses.proofs.Sorted.{max_bounds}
use Rattle.clause_lines.specs.ClauseLines.{ClauseLine}
use Rattle.sheets.specs.Items.{Reading, accepted, refused, items_from, with_names}
use Rattle.sheets.specs.RuleSheets.{any_of, is_start, finish}
use Rattle.clause_sheets.specs.ClauseSheets.{clause_step, clauses_of, expansion_fits, expanded}
use Rattle.clause_sheets.specs.ClauseSheets.{clauses_from, clause_names, clause_sheet}
use Rattle.clause_sheets.specs.Own.{sheet_lines, ClausesBy, OwnClauses}

-- lines that were read so, and the rules that they give
pub record MeantBy (x : Reading (List ClauseLine)) (g : Rules) : Type 0 where
  pub clauses : Clauses
  pub own : ClausesBy x clauses
  pub fits : expansion_fits clauses ≡ true
  pub start : any_of is_start g ≡ true
  pub rules : g ≡ expansion clauses
  pub match : OneToOne clauses g 0

-- the sheet s gives the rules g
abbrev pub Meant : List ℕ → Rules → Type 0
Meant s g = MeantBy (sheet_lines s) g

finished_as : (v g : Rules) → finish (accepted v) ≡ accepted g
    → (g ≡ v) × (any_of is_start v ≡ true)
finished_as v g e = go (any_of is_start v) refl e
  where
    go : (b : Bool) → any_of is_start v ≡ b → cond b (accepted v) (refused 7 0) ≡ accepted g
        → (g ≡ v) × (any_of is_start v ≡ true)
    go true h q = let j : v ≡ g = cc in (sym j, h)
    go false h q = absurd (clash cc)

-- a sheet with a start has a line
some_line : (l : List ClauseLine) → any_of is_start (expansion (clauses_of l)) ≡ true
    → 0 < past_all (clauses_of l)
some_line [] e = absurd (clash cc)
some_line (c ∷ l) e =
    let x = max_bounds (max (c.left + 1) (past_expr c.expr)) (past_all (clauses_of l)) in
    let y = max_bounds (c.left + 1) (past_expr c.expr) in
    omega arith

of_lines : (x : Reading (List ClauseLine)) (g : Rules) → expanded x ≡ accepted g → MeantBy x g
of_lines (refused f n) g e = absurd (clash cc)
of_lines (accepted l) g e = go (expansion_fits (clauses_of l)) refl e
  where
    go : (b : Bool) → expansion_fits (clauses_of l) ≡ b
        → cond b (finish (accepted (expansion (clauses_of l)))) (refused 43 0) ≡ accepted g
        → MeantBy (accepted l) g
    go false k q = absurd (clash cc)
    go true k q =
        let f = finished_as (expansion (clauses_of l)) g q in
        record {
          clauses = clauses_of l;
          own = record { lines = l; given = refl; are = refl };
          fits = k;
          start = subst (λ (y : Rules). any_of is_start y ≡ true) (sym f.0) f.1;
          rules = f.0;
          match = subst (λ (y : Rules). OneToOne (clauses_of l) y 0) (sym f.0)
              (clauses_match (clauses_of l) 0 (some_line l f.1));
        }

-- the sheet is read line by line, then expanded
pub sheet_expanded : (s : List ℕ) → clause_sheet s ≡ expanded (sheet_lines s)
sheet_expanded s = go (pieces 10 s)
  where
    go : (ps : List (List ℕ)) → with_names (refused 1 1) clause_names ps clauses_from
        ≡ expanded (with_names (refused 1 1) clause_names ps (items_from clause_step []))
    go [] = refl
    go (h ∷ ps) = which (not (is_empty ps) && same_bytes h clause_names)
      where
        which : (b : Bool) → cond b (clauses_from ps) (refused 1 1)
            ≡ expanded (cond b (items_from clause_step [] ps) (refused 1 1))
        which true = refl
        which false = refl

pub meant : (s : List ℕ) (g : Rules) → clause_sheet s ≡ accepted g → Meant s g
meant s g e = of_lines (sheet_lines s) g (sym (sheet_expanded s) ∙ e)

-- a sheet's clauses are one
pub own_one : (s : List ℕ) {c d : Clauses} → OwnClauses s c → OwnClauses s d → c ≡ d
own_one s a b = let z : a.lines ≡ b.lines = cc (a.given, b.given) in
    a.are ∙ ap clauses_of z ∙ sym b.are
