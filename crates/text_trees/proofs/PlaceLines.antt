-- The lines of places, line by line; how many places a call lists.
use mathlib.Core.Path.{◌≡◌, refl, sym, ap, ◌∙◌}
use mathlib.Core.List.{List, [], ◌∷◌, ◌++◌, append-nil, append_assoc}
use Prim.Native.Nat.{ℕ, zero, suc, ◌+◌, ◌*◌, ◌≤◌}
use native.Mathlib.Nat.{add-zero}
use native.Mathlib.Omega.{arith}
use lib.ListN.{length, take, drop, get_or, length-drop}
use lib.Seq.{take-add, length-take-le, get_or-drop}
use Rattle.lists.specs.Lists.{bytes_of, GivesList, fits, large}
use Rattle.lists.proofs.Entries.{bytes_length}
use Rattle.places.specs.Places.{Entry, entry_bytes}
use Rattle.std.specs.Prelude.{Result}
use Rattle.sheets.specs.declared.Refusal.{Refusal}
use Rattle.call_places.specs.declared.ListedPlaces.{ListedPlaces}
use Rattle.call_places.specs.Places.{short, listing, PlacesOf, refusing, reading, places_count}
use Rattle.text_trees.specs.Places.{place_text, place_lines}

-- whole entries before others
lines_append : (m : ℕ) (a b : List ℕ) → length a ≡ 3 * m
    → place_lines (a ++ b) ≡ place_lines a ++ place_lines b
lines_append zero [] b e = refl
lines_append zero (x ∷ a) b e = absurd (omega arith)
lines_append (suc m) (A ∷ s ∷ n ∷ a) b e =
    ap (λ (l : List ℕ). place_text A s n ++ l) (lines_append m a b (omega arith))
    ∙ sym (append_assoc (place_text A s n) (place_lines a) (place_lines b))
lines_append (suc m) [] b e = absurd (omega arith)
lines_append (suc m) (A ∷ []) b e = absurd (omega arith)
lines_append (suc m) (A ∷ s ∷ []) b e = absurd (omega arith)

-- the entry at i
three : (l : List ℕ) → 3 ≤ length l → take 3 l ≡ get_or l 0 0 ∷ get_or l 1 0 ∷ get_or l 2 0 ∷ []
three (a ∷ b ∷ c ∷ l) h = refl
three [] h = absurd (omega arith)
three (a ∷ []) h = absurd (omega arith)
three (a ∷ b ∷ []) h = absurd (omega arith)

-- one line more
pub lines_more : (i : ℕ) (l : List ℕ) → 3 * i + 3 ≤ length l
    → place_lines (take (3 * (i + 1)) l) ≡ place_lines (take (3 * i) l)
    ++ place_text (get_or l (3 * i) 0) (get_or l (3 * i + 1) 0) (get_or l (3 * i + 2) 0)
lines_more i l h =
    let e : 3 * (i + 1) ≡ 3 * i + 3 = omega arith in
    let d : 3 ≤ length (drop (3 * i) l) = omega (arith, length-drop (3 * i) l) in
    let x = get_or l (3 * i) 0 in
    let y = get_or l (3 * i + 1) 0 in
    let z = get_or l (3 * i + 2) 0 in
    let f : take 3 (drop (3 * i) l) ≡ x ∷ y ∷ z ∷ [] =
    three (drop (3 * i) l) d ∙ simp (get_or-drop, add-zero) in
    rw (e, take-add (3 * i) 3 l, f)
    (lines_append i (take (3 * i) l) (x ∷ y ∷ z ∷ []) (length-take-le (3 * i) l (omega arith))
    ∙ ap (λ (t : List ℕ). place_lines (take (3 * i) l) ++ t) (append-nil (place_text x y z)))

-- ---- the number of entries is at most the places lent

counted : {r s : Result ListedPlaces Refusal} {m : ℕ} → r ≡ s → 3 * places_count s ≤ m
    → 3 * places_count r ≤ m
counted e h = omega (arith, ap places_count e)

given_few : {given : ℕ → Result ListedPlaces Refusal} {refused : Result ListedPlaces Refusal}
    (es : List Entry)
    {lent lent' : List ℕ} {r : Result ListedPlaces Refusal} → ((n : ℕ) → places_count (given n) ≡ n)
    → places_count refused ≡ 0
    → GivesList given refused (bytes_of entry_bytes es) (length es) lent lent' r
    → 3 * places_count r ≤ length lent
given_few es g n (fits h e p) =
    counted e (omega (arith, g (length es), bytes_length entry_bytes 3 (λ a. refl) es))
given_few es g n (large h e p) = counted e (omega (arith, n))

pub places_fit : {rules tokens words words' list list' : List ℕ} {r : Result ListedPlaces Refusal}
    → PlacesOf rules tokens words words' list list' r → 3 * places_count r ≤ length list
places_fit (refusing e x h i) = counted x (omega arith)
places_fit (reading e (short l n x h i)) = counted x (omega arith)
places_fit (reading e (listing {es = es} s t n y f)) = given_few es (λ m. refl) refl y
