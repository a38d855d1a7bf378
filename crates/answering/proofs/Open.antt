-- Where every nonterminal may be seen, the rows shown are all rows. Nonterminals end at 63.
use mathlib.Core.Path.{◌≡◌, ap, ◌∙◌}
use mathlib.Core.Bool.{true}
use mathlib.Core.Logic.{inl, inr, ⊎_elim}
use mathlib.Core.List.{List, ◌++◌}
use mathlib.Core.Option.{some}
use Prim.Native.Nat.{ℕ, ◌*◌, ◌-◌, ◌<◌}
use native.Mathlib.Omega.{arith}
use lib.ListN.{length, replicate}
use Rattle.grammar.specs.Content.{SmallRule}
use Rattle.grammar.specs.Layout.{Word, Every}
use Rattle.grammar.specs.Trees.{Tree, Rules, Valid}
use Rattle.grammar.specs.Rows.{row_count}
use Rattle.grammar.proofs.ChoiceLaws.{first_witness, second_witness}
use Rattle.tree_view.specs.Shown.{View, shown_count}
use Rattle.tree_view.proofs.ShownLaws.{rows_open, count_open, seen_valid}
use Rattle.tree_writer.specs.Written.{in_full_of, seen_by, filled}
use Rattle.std.specs.Prelude.{Result}
use Rattle.grammar.specs.declared.Verdict.TheVariants as Verdict
use Rattle.sheets.specs.declared.Refusal.{Refusal}
use Rattle.answering.specs.declared.TreeRows.{TreeRows}
use Rattle.answering.specs.Trees.{trees_reply_of, Shown, treeless, single, both, large_one}
use Rattle.answering.specs.Trees.{large_two, TreesOn, short, showing}

module _ (sees : View) (all : (A : ℕ) → A < 64 → sees A ≡ true) (g : Rules)
    (small : Every SmallRule g) where
  count_is : {t : Tree} → Valid g t → shown_count sees t ≡ row_count t
  count_is {t} v = count_open sees t (seen_valid sees all g small v)

  filled_is : (l : List ℕ) {t : Tree} → Valid g t
      → filled (seen_by sees) l (some t) ≡ filled in_full_of l (some t)
  filled_is l {t} v = λ i. rows_open sees 0 t (seen_valid sees all g small v) i
      ++ replicate (length l - 4 * count_is v i) 0

  open_shown : {w : Word} {one one' two two' : List ℕ} {r : Result TreeRows Refusal}
      → Shown (seen_by sees) g w one one' two two' r → Shown in_full_of g w one one' two two' r
  open_shown (treeless p x h i) = treeless p x h i
  open_shown {one = one} (single {t = t} p f l x h i) =
      let v : Valid g t = (first_witness f).valid in
      single p f (omega (arith, count_is v))
      (x ∙ ap (λ (n : ℕ). trees_reply_of Verdict.One n 0) (count_is v)) (h ∙ filled_is one v) i
  open_shown {one = one} {two = two} (both {t = t} {u = u} p f s l m x h i) =
      let v : Valid g t = (first_witness f).valid in
      let z : Valid g u = (second_witness s).valid in
      both p f s (omega (arith, count_is v)) (omega (arith, count_is z))
      (x ∙ (λ i. trees_reply_of Verdict.Two (count_is v i) (count_is z i))) (h ∙ filled_is one v)
      (i ∙ filled_is two z)
  open_shown (large_one {t = t} p f l n x h i) = let v : Valid g t = (first_witness f).valid in
      large_one p f (omega (arith, count_is v)) n x h i
  open_shown (large_two {t = t} {u = u} p f s l n x h i) =
      let v : Valid g t = (first_witness f).valid in
      let z : Valid g u = (second_witness s).valid in
      large_two p f s (⊎_elim (λ a. inl (omega (arith, count_is v)))
      (λ a. inr (omega (arith, count_is z))) l) n x h i

  pub open_trees : {w : Word} {words words' one one' two two' : List ℕ}
      {r : Result TreeRows Refusal}
      → TreesOn (seen_by sees) g w words words' one one' two two' r
      → TreesOn in_full_of g w words words' one one' two two' r
  open_trees (short l n x h i j) = short l n x h i j
  open_trees (showing f s) = showing f (open_shown s)
