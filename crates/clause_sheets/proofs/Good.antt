-- The rules of an accepted clause sheet are as those of an accepted rule sheet are: few, in range,
-- no two alike, with a start; and no range of terminals reverses.
use mathlib.Core.Path.{◌≡◌, refl, sym, subst}
use mathlib.Core.Bool.{Bool, true, false, cond, not, ◌&&◌}
use mathlib.Core.List.{List, [], ◌∷◌, Memᴰ}
use Prim.Native.Nat.{ℕ, ◌+◌, ◌≤◌}
use lib.ListN.{length}
use lib.Dec.{leb}
use borrow.Author.Tests.{leb-true}
use Rattle.sets.proofs.Basics.{clash}
use Rattle.sets.proofs.Basics.{both}
use Rattle.grammar.specs.declared.Rule.{Rule}
use Rattle.grammar.specs.declared.Clause.{Clause}
use Rattle.grammar.specs.declared.Clause.TheVariants.{Empty, Atom, Unary, Binary}
use Rattle.grammar.specs.Layout.{Every}
use Rattle.grammar.specs.Trees.{Rules}
use Rattle.fields.specs.Pieces.{pieces, is_empty, same_bytes}
use Rattle.lines.proofs.KeyLaws.{Forward}
use Rattle.clauses.specs.Clauses.{Clauses}
use Rattle.clauses.specs.Expansion.{past_all, size_all, expansion}
use Rattle.clauses.proofs.Bounds.{TermsAll, Below}
use Rattle.clauses.proofs.Range.{expansion_low}
use Rattle.clauses.proofs.Apart.{expansion_distinct}
use Rattle.clause_lines.specs.ClauseLines.{ClauseLine}
use Rattle.sheets.specs.Items.{accepted, refused, items_from, with_names}
use Rattle.sheets.specs.RuleSheets.{any_of, is_start}
use Rattle.sheets.proofs.Accepted.{GoodRules}
use Rattle.clause_sheets.specs.ClauseSheets.{clause_step, clauses_of, expansion_fits}
use Rattle.clause_sheets.specs.ClauseSheets.{clause_names, clause_sheet}
use Rattle.clause_sheets.specs.Own.{sheet_lines}
use Rattle.clause_sheets.proofs.Small.{expansion_small}
use Rattle.clause_sheets.proofs.Closing.{all_terms}
use Rattle.clause_sheets.proofs.Meaning.{Meant, meant}

-- the terminals of the sheet's clauses
sheet_terms : (s : List ℕ) (l : List ClauseLine) → sheet_lines s ≡ accepted l
    → TermsAll (clauses_of l)
sheet_terms s l e = go (pieces 10 s) e
  where
    go : (ps : List (List ℕ)) → with_names (refused 1 1) clause_names ps (items_from clause_step [])
        ≡ accepted l → TermsAll (clauses_of l)
    go [] q = absurd (clash cc)
    go (h ∷ ps) q = which (not (is_empty ps) && same_bytes h clause_names) q
      where
        which : (b : Bool) → cond b (items_from clause_step [] ps) (refused 1 1) ≡ accepted l
            → TermsAll (clauses_of l)
        which true q = all_terms ps l q
        which false q = absurd (clash cc)

own_terms : (s : List ℕ) (g : Rules) (m : Meant s g) → TermsAll m.clauses
own_terms s g m = subst TermsAll (sym m.own.are) (sheet_terms s m.own.lines m.own.given)

-- 43 was not given
room : (c : Clauses) → expansion_fits c ≡ true
    → (past_all c + size_all c ≤ 64) × (length (expansion c) ≤ 128)
room c e = let k = both (leb (past_all c + size_all c) 64) (leb (length (expansion c)) 128) e in
    (leb-true (past_all c + size_all c) 64 k.0, leb-true (length (expansion c)) 128 k.1)

pub sheet_good : (s : List ℕ) (g : Rules) → clause_sheet s ≡ accepted g → GoodRules g
sheet_good s g e =
    let m = meant s g e in
    let c = m.clauses in
    let k = room c m.fits in
    subst GoodRules (sym m.rules) (record {
      few = k.1;
      small = expansion_small c (own_terms s g m) k.0;
      distinct = expansion_distinct c;
      start = subst (λ (y : Rules). any_of is_start y ≡ true) m.rules m.start;
    })

-- ranges

forward_of : (K : ℕ) (k : Clause) → Below K k → Forward k
forward_of K Empty b = tt
forward_of K (Atom a c) b = b.2
forward_of K (Unary c m) b = tt
forward_of K (Binary c d m) b = tt

every_of : (P : Rule → Type 0) (g : Rules) → ((r : Rule) → Memᴰ r g → P r) → Every P g
every_of P [] f = tt
every_of P (r ∷ g) f = (f r (Memᴰ.head refl), every_of P g (λ s m. f s (Memᴰ.tail m)))

pub sheet_forward : (s : List ℕ) (g : Rules) → clause_sheet s ≡ accepted g
    → Every (λ r. Forward r.clause) g
sheet_forward s g e =
    let m = meant s g e in
    let c = m.clauses in
    subst (Every (λ r. Forward r.clause)) (sym m.rules)
    (every_of (λ r. Forward r.clause) (expansion c)
    (λ r i. forward_of (past_all c + size_all c) r.clause
    (expansion_low c r (own_terms s g m) i)))
