-- The trees of what was read, by what the tree writer answers; that there are such trees.
use mathlib.Core.Path.{◌≡◌, refl, ap}
use mathlib.Core.Logic.{◌⊎◌, inl, inr}
use mathlib.Core.Bool.{true, false}
use mathlib.Core.List.{List}
use mathlib.Core.Option.{none, some}
use Rattle.std.specs.Prelude.{Option}
use Prim.Native.Nat.{ℕ, ◌*◌, ◌≤◌, ◌<◌}
use native.Mathlib.Omega.{arith}
use native.Mathlib.Decide.{dec_le}
use lib.ListN.{length}
use Rattle.grammar.specs.Layout.{Word}
use Rattle.grammar.specs.Trees.{Tree, Rules, NoTree, OneTree, TwoTrees}
use Rattle.grammar.specs.Choices.{FirstTree, SecondTree}
use Rattle.grammar.specs.SpanSheet.{pairs}
use Rattle.grammar.proofs.Existence.{FirstOf, first_of_derives, two_iff_second}
use Rattle.tree_writer.specs.declared.Counts.{Counts}
use Rattle.tree_choices.specs.Wanted.{Wanted}
use Rattle.tree_writer.specs.Written.{Display, row_room}
use Rattle.sheets.specs.declared.Fault.TheVariants as Fault
use Rattle.grammar.specs.declared.Verdict.TheVariants as Verdict
use Rattle.sheets.specs.Results.{refusal}
use Rattle.answering.specs.Counted.{counted}
use Rattle.answering.specs.Trees.{Shown, treeless, single, both, large_one}
use Rattle.answering.specs.Trees.{large_two, TreesOn, short}
use Rattle.grammar.specs.Distinct.{Distinct}
use Rattle.tree_writer.specs.Memories.{Written}

pub too_few : (dis : Display) (g : Rules) (w : Word) (n : ℕ) (ws one two : List ℕ) → length w ≡ n
    → length ws < 2 * pairs n → TreesOn dis g w ws ws one one two two
    (refusal Fault.FewWords 0)
too_few dis g w n ws one two e h = short (omega (arith, ap pairs e)) refl refl refl refl refl

module _ (g : Rules) (w : Word) where
  -- the trees of the answer exist
  pub first_there : OneTree g 0 w → FirstOf g 0 w
  first_there o = first_of_derives (record { tree = o.tree; witness = o.witness })

  pub second_there : Distinct g → TwoTrees g 0 w → (u : Tree) × SecondTree g 0 w u
  second_there d t = (two_iff_second d).0 t

  pub wants_first : OneTree g 0 w → Wanted g 0 w false
  wants_first o = let f = first_there o in record { tree = f.0; goal = f.1 }

  pub wants_second : Distinct g → TwoTrees g 0 w → Wanted g 0 w true
  wants_second d t = let u = second_there d t in record { tree = u.0; goal = u.1 }

  module _ (dis : Display) {one two one' two' : List ℕ} {c : Option Counts} where
    pub shown_none : NoTree g 0 w → Written dis none none one two one' two' c
        → Shown dis g w one one' two two' (counted Verdict.None c)
    shown_none p x =
        let y = x.fits (omega arith) (omega arith) in
        treeless p (ap (counted Verdict.None) y.2) y.0 y.1

    pub shown_one : {t : Tree} → OneTree g 0 w → FirstTree g 0 w t
        → Written dis (some t) none one two one' two' c
        → Shown dis g w one one' two two' (counted Verdict.One c)
    shown_one {t} p f x = go (dec_le (dis.number t) (row_room one))
      where
        go : Dec (dis.number t ≤ row_room one)
            → Shown dis g w one one' two two' (counted Verdict.One c)
        go (yes h) = let y = x.fits h (omega arith) in
            single p f h (ap (counted Verdict.One) y.2) y.0 y.1
        go (no h) =
            let l : row_room one < dis.number t = omega arith in
            let y = x.short (inl l) in
            large_one p f l refl (ap (counted Verdict.One) y.2) y.0 y.1

    pub shown_two : {t u : Tree} → TwoTrees g 0 w → FirstTree g 0 w t → SecondTree g 0 w u
        → Written dis (some t) (some u) one two one' two' c
        → Shown dis g w one one' two two' (counted Verdict.Two c)
    shown_two {t} {u} p f s x =
        go (dec_le (dis.number t) (row_room one)) (dec_le (dis.number u) (row_room two))
      where
        large : (row_room one < dis.number t) ⊎ (row_room two < dis.number u)
            → Shown dis g w one one' two two' (counted Verdict.Two c)
        large l = let y = x.short l in
            large_two p f s l refl (ap (counted Verdict.Two) y.2) y.0 y.1

        go : Dec (dis.number t ≤ row_room one) → Dec (dis.number u ≤ row_room two)
            → Shown dis g w one one' two two' (counted Verdict.Two c)
        go (yes h) (yes k) = let y = x.fits h k in
            both p f s h k (ap (counted Verdict.Two) y.2) y.0 y.1
        go (yes h) (no k) = large (inr (omega arith))
        go (no h) k = large (inl (omega arith))
