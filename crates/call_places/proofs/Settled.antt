-- The promise settles the answer, the number of entries and the lent memory: two results that meet
-- it are the same.
use mathlib.Core.Path.{◌≡◌, refl, sym, ap, ◌∙◌, transport}
use mathlib.Core.List.{List}
use Prim.Native.Nat.{ℕ, ◌*◌}
use native.Mathlib.Omega.{arith}
use lib.ListN.{length, take}
use Rattle.grammar.specs.Layout.{Word}
use Rattle.grammar.specs.Trees.{Rules}
use Rattle.lists.specs.Lists.{bytes_of, GivesList}
use Rattle.lists.proofs.Settled.{gives_settled, gives_moved}
use Rattle.places.specs.Places.{Entry, entry_bytes}
use Rattle.places.proofs.ListLaws.{places_same}
use Rattle.sheets.specs.declared.Fault.{Fault}
use Rattle.sheets.proofs.Numbers.{same_fault}
use Rattle.std.specs.Prelude.{Result}
use Rattle.grammar.specs.declared.Verdict.{Verdict}
use Rattle.grammar.proofs.VerdictLaws.{verdict_same}
use Rattle.sheets.specs.declared.Refusal.{Refusal}
use Rattle.sheets.specs.Results.{refusal}
use Rattle.sheets.proofs.Once.{apart, same_refusal}
use Rattle.answering.proofs.Settled.{Words, filled_same, same_sheets}
use Rattle.call_places.specs.declared.ListedPlaces.{ListedPlaces}
use Rattle.call_places.specs.Places.{places_reply_of, places_count, PlacesOn, short, listing}
use Rattle.call_places.specs.Places.{PlacesOf, refusing, reading}

-- the same reply, the same words and the same bytes
abbrev Same : (a b c d : List ℕ) (r s : Result ListedPlaces Refusal) → Type 0
Same a b c d r s = (r ≡ s) × ((a ≡ b) × (c ≡ d))

same_list : {a b : Verdict} {f h : Fault} {es fs : List Entry} {lent l : List ℕ}
    {r : Result ListedPlaces Refusal}
    → a ≡ b → f ≡ h → es ≡ fs
    → GivesList (places_reply_of a) (refusal f 0) (bytes_of entry_bytes es) (length es) lent
    l r
    → GivesList (places_reply_of b) (refusal h 0) (bytes_of entry_bytes fs) (length fs) lent
    l
    r
same_list {lent = lent} {l} {r} p q e x =
    transport (λ i. GivesList (places_reply_of (p i)) (refusal (q i) 0)
    (bytes_of entry_bytes (e i)) (length (e i)) lent l r) x

places_on : (g : Rules) (w : Word) {ws a b l m n : List ℕ} {r s : Result ListedPlaces Refusal}
    → Words a → Words b
    → PlacesOn g w ws a l m r → PlacesOn g w ws b l n s → Same a b m n r s
places_on g w p q (short {f = f} h i x j k) (short {f = f'} h' i' y j' k') = (
  x ∙ ap (λ (z : Fault). refusal z 0) (same_fault f f' 21 i i')
      ∙ sym y,
  (j ∙ sym j', k ∙ sym k'),
)
places_on g w p q (short h i x j k) (listing s t n y f) =
    absurd (omega (arith, f.sheet.enough, f.long))
places_on g w p q (listing s t n y f) (short h i x j k) =
    absurd (omega (arith, f.sheet.enough, f.long))
places_on g w p q (listing {v = a} {f = f} s t n x u) (listing {v = a'} {f = f'} s' t' n' y u') =
    let z = gives_settled (same_list (verdict_same g 0 w a a' s s') (same_fault f f' 22 n n')
    (places_same t t') x) y in (z.0, (filled_same p q u u', z.1))

pub places_settled : {rules tokens ws a b l m n : List ℕ} {r s : Result ListedPlaces Refusal}
    → Words a → Words b
    → PlacesOf rules tokens ws a l m r → PlacesOf rules tokens ws b l n s → Same a b m n r s
places_settled p q (refusing e x h i) (refusing d y k j) =
    let z = same_refusal e d in
    (x ∙ rw (z.0, z.1) (sym y), (h ∙ sym k, i ∙ sym j))
places_settled p q (refusing e x h i) (reading d y) = absurd (apart e d)
places_settled p q (reading d y) (refusing e x h i) = absurd (apart e d)
places_settled p q (reading {g = g} {w = w} e x) (reading d y) =
    let z = same_sheets e d in
    places_on g w p q x (rw (← z.0, ← z.1) at y)

-- of what is lent only its length counts: the reply, and the entries that it counts, are the same
-- whatever stood there before
abbrev pub SameEntries : (m n : List ℕ) (r s : Result ListedPlaces Refusal) → Type 0
SameEntries m n r s = (r ≡ s) × (take (3 * places_count r) m ≡ take (3 * places_count s) n)

module _ (m n : List ℕ) {r s : Result ListedPlaces Refusal} where
  refusal_entries : {f f' : Fault} {l l' : ℕ} → (f ≡ f') × (l ≡ l') → r ≡ refusal f l
      → s ≡ refusal f' l' → SameEntries m n r s
  refusal_entries e x y = (
    x ∙ (λ i. refusal (e.0 i) (e.1 i)) ∙ sym y,
    ap (λ (z : Result ListedPlaces Refusal). take (3 * places_count z) m) x ∙ sym
        (ap (λ (z : Result ListedPlaces Refusal). take (3 * places_count z) n) y),
  )

  module _ {ws vs list other : List ℕ} (e : length ws ≡ length vs) (d : length list ≡ length other)
      {a b : List ℕ} where
    places_on_reply : (g : Rules) (w : Word) → PlacesOn g w ws a list m r
        → PlacesOn g w vs b other n s → SameEntries m n r s
    places_on_reply g w (short {f = f} h i x j k) (short {f = f'} h' i' y j' k') =
        refusal_entries (same_fault f f' 21 i i', refl) x y
    places_on_reply g w (short h i x j k) (listing p t q y f) =
        absurd (omega (arith, f.sheet.enough, f.long))
    places_on_reply g w (listing p t q y f) (short h i x j k) =
        absurd (omega (arith, f.sheet.enough, f.long))
    places_on_reply g w (listing {v = v} {f = f} p t q x u)
        (listing {v = v'} {f = f'} p' t' q' y u') =
        let z = gives_settled (gives_moved d
        (same_list (verdict_same g 0 w v v' p p') (same_fault f f' 22 q q') (places_same t t') x))
        y in (z.0, λ i. take (3 * places_count (z.0 i)) (z.1 i))

    pub places_reply : {rules tokens : List ℕ} → PlacesOf rules tokens ws a list m r
        → PlacesOf rules tokens vs b other n s → SameEntries m n r s
    places_reply (refusing p x h i) (refusing q y k j) = refusal_entries (same_refusal p q) x y
    places_reply (refusing p x h i) (reading q y) = absurd (apart p q)
    places_reply (reading q y) (refusing p x h i) = absurd (apart p q)
    places_reply (reading {g = g} {w = w} p x) (reading q y) =
        let z = same_sheets p q in
        places_on_reply g w x (rw (← z.0, ← z.1) at y)
