-- The places of what was read, by the list that was given.
use mathlib.Core.Path.{◌≡◌, refl, ap}
use mathlib.Core.List.{List, []}
use Prim.Native.Nat.{ℕ, ◌*◌, ◌<◌}
use native.Mathlib.Omega.{arith}
use lib.ListN.{length}
use Rattle.grammar.specs.Layout.{Word}
use Rattle.grammar.specs.Trees.{Rules, TwoTrees}
use Rattle.grammar.specs.SpanSheet.{pairs}
use Rattle.lists.proofs.Settled.{gives_map}
use Rattle.places.proofs.ListLaws.{places_none}
use Rattle.place_list.specs.Given.{PlacesGiven}
use Rattle.sheets.specs.declared.Fault.TheVariants as Fault
use Rattle.std.specs.Prelude.{Option, Result}
use Rattle.grammar.specs.declared.Verdict.{Verdict}
use Rattle.grammar.specs.Verdicts.{Holds}
use Rattle.sheets.specs.declared.Refusal.{Refusal}
use Rattle.sheets.specs.Results.{refusal}
use Rattle.answering.specs.Verdict.{SheetFilled}
use Rattle.call_places.specs.declared.ListedPlaces.{ListedPlaces}
use Rattle.call_places.specs.Places.{PlacesOn, short, listing}
use Rattle.call_places.specs.Replies.{NothingGiven, replied}
use Rattle.grammar.specs.Distinct.{Distinct}

-- 64 tokens have 2,081 pairs
module _ {g : Rules} {w : Word} where
  pub too_few : {n : ℕ} {ws l : List ℕ} {r : Result ListedPlaces Refusal} → length w ≡ n
      → length ws < 2 * pairs n
      → r ≡ refusal Fault.FewWords 0 → PlacesOn g w ws ws l l r
  too_few e h q = short (omega (arith, ap pairs e)) refl q refl refl

  -- where there are not two trees, there is no place
  pub given_none : {l l' : List ℕ} {c : Option ℕ} → Distinct g → (TwoTrees g 0 w → ⊥)
      → NothingGiven l l' c → PlacesGiven g w l l' c
  given_none d n x = record { entries = []; places = places_none d n; gives = x }

  pub placed : {ws ws' l l' : List ℕ} {c : Option ℕ} {r : Result ListedPlaces Refusal} (v : Verdict)
      → SheetFilled g w ws ws' → Holds v g 0 w → PlacesGiven g w l l' c → r ≡ replied v c
      → PlacesOn g w ws ws' l l' r
  placed v f s x e = rw e (listing s x.places refl (gives_map (replied v) x.gives) f)
