-- Nothing leaks: "Two companies share a rack and don't show each other their
-- rules", of the whole call.
use mathlib.Core.Path.{◌≡◌, sym, ap, ◌∙◌}
use mathlib.Core.List.{List}
use Prim.Native.Nat.{ℕ}
use native.Mathlib.Omega.{arith}
use lib.ListN.{length}
use Rattle.grammar.specs.Layout.{Word}
use Rattle.grammar.specs.Trees.{Tree, Rules}
use Rattle.tree_view.specs.Shown.{View, shown_rows, shown_count}
use Rattle.tree_view.specs.Beneath.{OnlyBeneath}
use Rattle.tree_view.proofs.ShownLaws.{shown_alike, length_shown}
use Rattle.tree_writer.specs.Written.{Display, seen_by}
use Rattle.sheets.specs.declared.Fault.{Fault}
use Rattle.sheets.specs.Items.{accepted}
use Rattle.sheets.proofs.Once.{apart, same_items}
use Rattle.sheets.proofs.Numbers.{same_fault}
use Rattle.rights.specs.declared.Right.{Right}
use Rattle.rights.specs.RightSheets.{rights_sheet, may_see_of}
use Rattle.std.specs.Prelude.{Result}
use Rattle.sheets.specs.declared.Refusal.{Refusal}
use Rattle.answering.specs.declared.TreeRows.{TreeRows}
use Rattle.sheets.specs.Results.{refusal}
use Rattle.answering.specs.Answers.{sheets}
use Rattle.answering.specs.Trees.{TreesOn, short, showing}
use Rattle.answering.proofs.Settled.{Same, SameTrees, same_sheets, shown_same}
use Rattle.call_rights.specs.Alike.{Alike}
use Rattle.call_rights.specs.Show.{ShowOf, refusing, barring, reading}

on_same : (dis : Display) {g g' : Rules} {w : Word} → SameTrees dis g g' w w
    → {ws vs a b one two m m' n n' : List ℕ} {r s : Result TreeRows Refusal} → length ws ≡ length vs
    → TreesOn dis g w ws a one m two n r → TreesOn dis g' w vs b one m' two n' s
    → Same m m' n n' r s
on_same dis A e (short {f = f} u v x h i j) (short {f = f'} p q y k l o) = (
  x ∙ ap (λ (z : Fault). refusal z 0) (same_fault f f' 21 v q)
      ∙ sym y,
  (i ∙ sym l, j ∙ sym o),
)
on_same dis A e (short u v x h i j) (showing k y) =
    absurd (omega (arith, k.sheet.enough, k.long))
on_same dis A e (showing k y) (short u v x h i j) =
    absurd (omega (arith, k.sheet.enough, k.long))
on_same dis A {one = one} {two = two} e (showing h x) (showing k y) = shown_same dis A one two x y

-- sentences that a user cannot tell apart have trees of the same rows
alike_trees : (sees : View) {g g' : Rules} {w w' : Word} → Alike sees g g' w w'
    → SameTrees (seen_by sees) g g' w w'
alike_trees sees A =
    record {
      no_tree = A.no_tree;
      one_tree = A.one_tree;
      two_trees = A.two_trees;
      first = λ a b. same_rows (A.first a b);
      second = λ a b. same_rows (A.second a b);
    }
  where
    same_rows : {t u : Tree} → OnlyBeneath sees t u
        → (shown_rows sees 0 t ≡ shown_rows sees 0 u) × (shown_count sees t ≡ shown_count sees u)
    same_rows {t} {u} o = let e = shown_alike sees 0 o in
        (e, omega (arith, length_shown sees t 0, length_shown sees u 0, ap length e))

-- Two rule sheets, one token sheet, one rights sheet and user, equally many words lent. Where the
-- verdict is the same and the trees differ only beneath rows that the user may not see, the reply
-- is the same, and each byte of both tree memories. Left out are the lent words, which get the span
-- sheet and are the caller's, and a refused sheet, whose number and line are told.
pub nothing_leaks : {rules rules' tokens rights : List ℕ} {user : ℕ} {g g' : Rules} {w : Word}
    {rs : List Right}
    → sheets rules tokens ≡ accepted (g, w) → sheets rules' tokens ≡ accepted (g', w)
    → rights_sheet rights ≡ accepted rs → Alike (may_see_of rs user) g g' w w
    → {ws vs a b one two m m' n n' : List ℕ} {r s : Result TreeRows Refusal} → length ws ≡ length vs
    → ShowOf rules tokens rights user ws a one m two n r
    → ShowOf rules' tokens rights user vs b one m' two n' s → Same m m' n n' r s
nothing_leaks p q t A e (refusing d x h i j) z = absurd (apart d p)
nothing_leaks p q t A e (barring d f x h i j) z = absurd (apart f t)
nothing_leaks p q t A e (reading d f x) (refusing k y h i j) = absurd (apart k q)
nothing_leaks p q t A e (reading d f x) (barring k l y h i j) = absurd (apart l t)
nothing_leaks {user = user} {rs = rs} p q t A e (reading d f x) (reading k l y) =
    let u = same_sheets p d in
    let v = same_sheets q k in
    let o = same_items t f in
    let c = same_items t l in
    on_same (seen_by (may_see_of rs user)) (alike_trees (may_see_of rs user) A) e
    (rw (← u.0, ← u.1, ← o) at x) (rw (← v.0, ← v.1, ← c) at y)
