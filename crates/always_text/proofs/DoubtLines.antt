-- The lines of entries, line by line; how many entries a call lists.
use mathlib.Core.Path.{◌≡◌, refl, sym, ap, ◌∙◌}
use mathlib.Core.List.{List, [], ◌∷◌, ◌++◌, append-nil, append_assoc}
use Prim.Native.Nat.{ℕ, zero, suc, ◌+◌, ◌*◌, ◌≤◌}
use native.Mathlib.Nat.{add-zero}
use native.Mathlib.Omega.{arith}
use lib.ListN.{length, take, drop, get_or, replicate, length-drop, length-replicate}
use lib.Seq.{take-add, length-take-le, get_or-drop}
use Rattle.printing.proofs.Texts.{four}
use Rattle.grammar.specs.Trees.{Rules}
use Rattle.lists.specs.Lists.{bytes_of, GivesList, fits, large}
use Rattle.lists.proofs.Entries.{bytes_length}
use Rattle.sheets.specs.declared.Fault.{Fault}
use Rattle.sheets.specs.Refusals.{RefusedAs}
use Rattle.sheets.specs.Items.{Reading, accepted}
use Rattle.pairs.specs.Doubts.{Doubt}
use Rattle.doubt_list.specs.Entries.{doubt_bytes}
use Rattle.std.specs.Prelude.{Result, Err}
use Rattle.sheets.specs.declared.Refusal.{Refusal}
use Rattle.sheets.specs.Results.{refusal}
use Rattle.call_always.specs.declared.Told.{Told}
use Rattle.call_always.specs.Replying.{DoubtsTold}
use Rattle.call_always.specs.Always.{always_reply_of, always_words, emptied, always_count}
use Rattle.call_always.specs.Always.{short, listing}
use Rattle.call_always.specs.Always.{AlwaysBy, refusing, reading}
use Rattle.always_text.specs.Always.{why_text, doubt_text, doubt_lines, told_lines, doubts_lent}
use Rattle.always_text.specs.Always.{AlwaysText, answered}

-- any other number stands for the empty word
pub why_past : (y : ℕ) → (y ≡ 0 → ⊥) → (y ≡ 1 → ⊥) → why_text y ≡ why_text 2
why_past zero h k = absurd (h refl)
why_past (suc zero) h k = absurd (k refl)
why_past (suc (suc y)) h k = refl

-- whole entries before others
lines_append : (m : ℕ) (a b : List ℕ) → length a ≡ 4 * m
    → doubt_lines (a ++ b) ≡ doubt_lines a ++ doubt_lines b
lines_append zero [] b e = refl
lines_append zero (x ∷ a) b e = absurd (omega arith)
lines_append (suc m) (A ∷ p ∷ q ∷ y ∷ a) b e =
    ap (λ (l : List ℕ). doubt_text A p q y ++ l) (lines_append m a b (omega arith))
    ∙ sym (append_assoc (doubt_text A p q y) (doubt_lines a) (doubt_lines b))
lines_append (suc m) [] b e = absurd (omega arith)
lines_append (suc m) (A ∷ []) b e = absurd (omega arith)
lines_append (suc m) (A ∷ p ∷ []) b e = absurd (omega arith)
lines_append (suc m) (A ∷ p ∷ q ∷ []) b e = absurd (omega arith)

-- the line of the entry at i
abbrev pub line_at : ℕ → List ℕ → List ℕ
line_at i l =
    doubt_text (get_or l (4 * i) 0) (get_or l (4 * i + 1) 0) (get_or l (4 * i + 2) 0)
    (get_or l (4 * i + 3) 0)

-- one line more
pub lines_more : (i : ℕ) (l : List ℕ) → 4 * i + 4 ≤ length l
    → doubt_lines (take (4 * (i + 1)) l) ≡ doubt_lines (take (4 * i) l) ++ line_at i l
lines_more i l h =
    let e : 4 * (i + 1) ≡ 4 * i + 4 = omega arith in
    let d : 4 ≤ length (drop (4 * i) l) = omega (arith, length-drop (4 * i) l) in
    let x = get_or l (4 * i) 0 in
    let y = get_or l (4 * i + 1) 0 in
    let z = get_or l (4 * i + 2) 0 in
    let v = get_or l (4 * i + 3) 0 in
    let f : take 4 (drop (4 * i) l) ≡ x ∷ y ∷ z ∷ v ∷ [] =
    four (drop (4 * i) l) d ∙ simp (get_or-drop, add-zero) in
    rw (e, take-add (4 * i) 4 l, f)
    (lines_append i (take (4 * i) l) (x ∷ y ∷ z ∷ v ∷ []) (length-take-le (4 * i) l (omega arith))
    ∙ ap (λ (t : List ℕ). doubt_lines (take (4 * i) l) ++ t) (append-nil (doubt_text x y z v)))

-- ---- the number of entries is at most the places lent

counted : {r s : Result Told Refusal} {m : ℕ} → r ≡ s → 4 * always_count s ≤ m
    → 4 * always_count r ≤ m
counted e h = omega (arith, ap always_count e)

reply_count : (n : ℕ) → always_count (always_reply_of n) ≡ n
reply_count zero = refl
reply_count (suc n) = refl

given_few : {f : Fault} (ds : List Doubt) {lent lent' : List ℕ} {r : Result Told Refusal}
    → GivesList always_reply_of (refusal f 0) (bytes_of doubt_bytes ds) (length ds) lent
    lent' r
    → 4 * always_count r ≤ length lent
given_few ds (fits h e p) =
    counted e (omega (arith, reply_count (length ds), bytes_length doubt_bytes 4 (λ a. refl) ds))
given_few ds (large h e p) = counted e (omega arith)

pub doubts_fit : {given : Reading Rules} {words words' list list' : List ℕ}
    {r : Result Told Refusal}
    → AlwaysBy given words words' list list' r → 4 * always_count r ≤ length list
doubts_fit (refusing e x h i) = counted x (omega arith)
doubts_fit (reading e (short l n x h i)) = counted x (omega arith)
doubts_fit (reading e (listing {ds = ds} h t n y w)) = given_few ds y

-- ---- the promise by the parts of the test

-- the doubts of rules that were read, whatever words were lent
pub by_told : {g : Rules} {list list' : List ℕ} {r : Result Told Refusal}
    → DoubtsTold g list list' r
    → AlwaysBy (accepted g) (replicate always_words 0) (emptied (replicate always_words 0)) list
    list' r
by_told x =
    reading refl
    (listing (omega (arith, length-replicate {A = ℕ} always_words 0)) x.doubts refl x.gives
    refl)

-- a refused sheet
pub refused_text : {given : Reading Rules} {e : Refusal} → RefusedAs given e.fault e.line
    → AlwaysText given (told_lines (Err e) [])
refused_text {e = e} h =
    answered {words = replicate always_words 0} {list = replicate (4 * doubts_lent) 0}
    {list' = replicate (4 * doubts_lent) 0} {r = Err e}
    (length-replicate {A = ℕ} always_words 0)
    (length-replicate {A = ℕ} (4 * doubts_lent) 0) (refusing {f = e.fault} h refl refl refl)
    refl
