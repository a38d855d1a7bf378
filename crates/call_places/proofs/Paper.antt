-- What the list of an accepted call says, in the request's words and in the paper's.
use mathlib.Core.Path.{◌≡◌, refl, sym, ap, ◌∙◌, subst}
use mathlib.Core.Logic.{◌↔◌}
use mathlib.Core.List.{List, [], ◌∷◌, Memᴰ}
use Prim.Native.Nat.{ℕ, ◌+◌, ◌≤◌}
use native.Mathlib.Omega.{arith}
use lib.ListN.{length}
use Rattle.grammar.specs.Layout.{Word}
use Rattle.grammar.specs.Trees.{Rules, TwoTrees}
use Rattle.grammar.specs.Rows.{start_of}
use Rattle.grammar.specs.SpanSheet.{part}
use Rattle.grammar.proofs.Lists.{mem_every}
use Rattle.grammar.proofs.VerdictLaws.{none_not_two, one_not_two}
use Rattle.places.specs.LocalAmbiguity.{Reaches, Dissimilar}
use Rattle.places.specs.Places.{Entry, AllPlaces}
use Rattle.places.proofs.PaperLaws.{dissimilar_several}
use Rattle.places.proofs.PlaceLaws.{place_iff, reached_place}
use Rattle.places.proofs.ListLaws.{places_empty}
use Rattle.sheets.specs.declared.Answer.{Answer}
use Rattle.sheets.specs.Items.{accepted}
use Rattle.sheets.specs.RuleSheets.{rule_sheet}
use Rattle.sheets.proofs.Accepted.{tokens_good}
use Rattle.std.specs.Prelude.{Result}
use Rattle.grammar.specs.declared.Verdict.{Verdict}
use Rattle.grammar.specs.Verdicts.{Holds}
use Rattle.sheets.specs.declared.Refusal.{Refusal}
use Rattle.sheets.specs.Results.{verdict_answer}
use Rattle.answering.specs.Answers.{sheets}
use Rattle.sheets.specs.declared.Fault.{Fault}
use Rattle.lists.specs.Lists.{fits, large}
use Rattle.call_places.specs.declared.ListedPlaces.{ListedPlaces}
use Rattle.call_places.specs.Places.{places_told, places_count, short, listing, PlacesOf, refusing}
use Rattle.call_places.specs.Places.{reading}
use Rattle.answering.proofs.Settled.{both_sheets, sheets_apart}
use Rattle.grammar.specs.Distinct.{Distinct}
use Rattle.sets.proofs.Basics.{clash}

-- the list is empty exactly if the verdict is not two
pub count_two : (g : Rules) (w : Word) (v : Verdict) (es : List Entry) → Distinct g
    → Holds v g 0 w → AllPlaces g w es → (length es ≡ 0) ↔ (v ≡ Verdict.Two → ⊥)
count_two g w v es d s l = (
  λ n e. (places_empty d l).0 (none es n) (subst (λ (b : Verdict). Holds b g 0 w) e s),
  λ n. ap length ((places_empty d l).1 (not_two v s n)),
)
  where
    none : (es : List Entry) → length es ≡ 0 → es ≡ []
    none [] n = refl
    none (e ∷ es) n = absurd (omega arith)

    not_two : (v : Verdict) → Holds v g 0 w → (v ≡ Verdict.Two → ⊥) → TwoTrees g 0 w → ⊥
    not_two Verdict.None s n t = none_not_two s t
    not_two Verdict.One s n t = one_not_two s t
    not_two Verdict.Two s n t = n refl

-- so it is with the answer that the verdict is
two_is : (v : Verdict) → verdict_answer v ≡ Answer.Two → v ≡ Verdict.Two
two_is Verdict.None e = absurd (clash cc)
two_is Verdict.One e = absurd (clash cc)
two_is Verdict.Two e = refl

-- a nonterminal over a word is listed exactly if the start reaches it and there are two dissimilar
-- trees of it (the paper's 4.2 and 4.4)
pub listed_iff : (rules tokens : List ℕ) (g : Rules) (w : Word) (es : List Entry)
    → sheets rules tokens ≡ accepted (g, w) → AllPlaces g w es
    → (A start len : ℕ) → start + len ≤ length w → start_of start len ≡ start
    → Memᴰ (record { nonterminal = A; start = start; len = len }) es
    ↔ (Reaches g 0 w A (part w start len) × Dissimilar g A (part w start len))
listed_iff rules tokens g w es e l A start len h s =
    let t = tokens_good tokens w (both_sheets (rule_sheet rules) tokens g w e).1 in
    let p = place_iff ((sheets_apart rules tokens).distinct g w e) t.wide t.rising A start len
    h s in (λ m. p.0 (mem_every _ es l.each m), λ x. l.all A start len (p.1 x))

-- and every nonterminal and word that the start reaches and that has two dissimilar trees is in the
-- list, by a place where the word stands
pub reached_listed : (g : Rules) (w : Word) (es : List Entry) → AllPlaces g w es
    → (A : ℕ) (v : Word) → Reaches g 0 w A v → Dissimilar g A v
    → (start : ℕ) × Memᴰ (record { nonterminal = A; start = start; len = length v }) es
    × (part w start (length v) ≡ v)
reached_listed g w es l A v r d = let p = reached_place r (dissimilar_several d) in
    (p.0, l.all A p.0 (length v) p.1, p.2)

-- the reply's count is 0 exactly if the answer is not two, unless the call is refused
pub count_zero : {rules tokens words words' list list' : List ℕ} {r : Result ListedPlaces Refusal}
    → PlacesOf rules tokens words words' list list' r
    → ((f : Fault) → places_told r ≡ Answer.Refused f → ⊥)
    → (places_count r ≡ 0) ↔ (places_told r ≡ Answer.Two → ⊥)
count_zero (refusing {f = f} e x h i) n = absurd (n f (ap places_told x))
count_zero (reading e (short {f = f} l m x h i)) n =
    absurd (n f (ap places_told x))
count_zero {r = r} (reading e (listing {v = v} {f = f} s l m (large k x h) z)) n =
    absurd (n f (ap places_told x))
count_zero {rules} {tokens} {r = r}
    (reading {g = g} {w = w} e (listing {v = v} {es = es} s l m (fits k x h) z)) n =
    let c = count_two g w v es ((sheets_apart rules tokens).distinct g w e) s l in
    let p : places_count r ≡ length es = ap places_count x in
    let q : places_told r ≡ verdict_answer v = ap places_told x in
    (λ o t. c.0 (sym p ∙ o) (two_is v (sym q ∙ t)), λ o. p ∙ c.1 (λ t. o (q ∙ ap verdict_answer t)))
