-- Laws of lexemes: each has one byte or more, and the rest of the bytes are lexemes of their own.
use mathlib.Core.Path.{◌≡◌, refl, sym, ◌∙◌, ap}
use mathlib.Core.Bool.{Bool, true, false, cond, ◌&&◌}
use mathlib.Core.List.{List, [], ◌∷◌}
use Rattle.std.specs.Prelude.{Option, None, Some}
use Prim.Native.Nat.{ℕ, zero, suc, ◌+◌, ◌-◌, ◌≤◌, ◌<◌}
use native.Mathlib.Omega.{arith}
use lib.ListN.{length, drop, take, length-drop, get_or}
use borrow.Author.Tests.{le-leb}
use lib.Seq.{drop-drop}
use lib.Dec.{leb, eqb}
use Rattle.sets.proofs.Basics.{clash}
use Rattle.sets.proofs.Basics.{both, never}
use Rattle.fields.specs.Words.{is_digit, numeral_of}
use Rattle.clauses.specs.Clauses as C
use Rattle.clauses.specs.Text.{maybe, repeats, marks, Lex, n, t, opening, closing, bar, suffix}
use Rattle.clauses.specs.Text.{join}
use Rattle.lexemes.specs.declared.Lexeme.{Lexeme}
use Rattle.lexemes.specs.Lexemes.{LexFound, starts, front_digits, ranged, numbered, items}
use Rattle.lexemes.specs.Lexemes.{Sign, signs, first_sign, lexeme, onto_lexemes, then, from}
use Rattle.lexemes.specs.Lexemes.{lexemes}
use Rattle.lexemes.specs.Answers.{lexeme_of, as_lexed, lexed_at, standing, Front, NoBytesLeft}
use Rattle.lexemes.specs.Answers.{LexemeTells}
use Rattle.lexemes.specs.Answers.{Numbers, NumberAt, Lexes}
use Rattle.fields.proofs.Pick.{hit, either}
use Rattle.std.specs.List.{starts_with}
use Rattle.std.specs.Prelude.{unwrap_or}

-- a lexeme that is found has at least one byte, and no more than there are
pub record Fits (s : List ℕ) (o : LexFound) : Type 0 where
  pub has : (x : Lex) (k : ℕ) → o ≡ Some (x, k) → (1 ≤ k) × (k ≤ length s)

starts_length : (p s : List ℕ) → starts p s ≡ true → length p ≤ length s
starts_length [] s e = omega arith
starts_length (x ∷ p) [] e = never e
starts_length (x ∷ p) (y ∷ s) e = let z = starts_length p s (both (eqb x y) (starts p s) e).1 in
    omega arith

fits_none : (s : List ℕ) → Fits s None
fits_none s = record { has = λ x k e. absurd (clash cc) }

fits_some : (s : List ℕ) (x : Lex) (k : ℕ) → 1 ≤ k → k ≤ length s → Fits s (Some (x, k))
fits_some s x k p q =
    record {
      has = λ y l e. let u : ◌≡◌ {A = Lex × ℕ} (x, k) (y, l) = cc in let z : k ≡ l =
          ap (λ (v : Lex × ℕ). v.1) u in (omega arith, omega arith);
    }

fits_cond : (s : List ℕ) (b : Bool) (o r : LexFound) → (b ≡ true → Fits s o) → Fits s r
    → Fits s (cond b o r)
fits_cond s true o r f g = f refl
fits_cond s false o r f g = g

fits_sign : (s p : List ℕ) (x : Lex) (r : LexFound) → 1 ≤ length p → Fits s r
    → Fits s (cond (starts p s) (Some (x, length p)) r)
fits_sign s p x r l g = fits_cond s (starts p s) (Some (x, length p)) r
    (λ e. fits_some s x (length p) l (starts_length p s e)) g

pub digits_length : (s : List ℕ) → length (front_digits s) ≤ length s
digits_length [] = omega arith
digits_length (b ∷ s) = go (is_digit b) (digits_length s)
  where
    go : (c : Bool) → length (front_digits s) ≤ length s
        → length (cond c (b ∷ front_digits s) []) ≤ length (b ∷ s)
    go true h = omega arith
    go false h = omega arith

fits_number : (s p : List ℕ) (f : ℕ → Lex) → length p ≡ 1 → starts p s ≡ true
    → Fits s (numbered f (drop 1 s))
fits_number s p f h e = go (numeral_of (front_digits (drop 1 s)))
  where
    bound : 1 + length (front_digits (drop 1 s)) ≤ length s
    bound = omega (arith, digits_length (drop 1 s), length-drop 1 s, starts_length p s e)

    go : (o : Option ℕ) → Fits s (ranged f (1 + length (front_digits (drop 1 s))) o)
    go None = fits_none s
    go (Some v) = fits_cond s (leb v 63) (Some (f v, 1 + length (front_digits (drop 1 s)))) None
        (λ z. fits_some s (f v) _ (omega arith) bound) (fits_none s)

fits_items : (s : List ℕ) → Fits s (items s)
fits_items s =
    fits_cond s (starts (110 ∷ []) s) (numbered n (drop 1 s)) _
    (λ e. fits_number s (110 ∷ []) n refl e)
    (fits_cond s (starts (116 ∷ []) s) (numbered t (drop 1 s)) None
    (λ e. fits_number s (116 ∷ []) t refl e) (fits_none s))

-- every sign has a byte
abbrev pub Bytes : List Sign → Type 0
Bytes [] = Unit {0}
Bytes (x ∷ l) = (1 ≤ length x.bytes) × Bytes l

fits_first : (l : List Sign) (s : List ℕ) → Bytes l → Fits s (first_sign l s)
fits_first [] s h = fits_items s
fits_first (x ∷ l) s h =
    fits_sign s x.bytes x.lex (first_sign l s) h.0 (fits_first l s h.1)

pub signs_bytes : Bytes signs
unfolding signs
signs_bytes = (
  some_byte,
  (
    some_byte,
    (
      some_byte,
      (
        some_byte,
        (
          some_byte,
          (
            some_byte,
            (
              some_byte,
              (
                some_byte,
                (
                  some_byte,
                  (some_byte, (some_byte, (some_byte, (some_byte, (some_byte, tt))))),
                ),
              ),
            ),
          ),
        ),
      ),
    ),
  ),
)
  where
    some_byte : {k : ℕ} → 1 ≤ suc k
    some_byte = omega arith

pub signs_many : length signs ≡ 14
unfolding signs
signs_many = refl

-- a number that is none of those before
pub none_before : {i k : ℕ} → k ≤ i → (i ≡ k → ⊥) → suc k ≤ i
none_before h f = omega (arith, f)

fits_lexeme : (s : List ℕ) → Fits s (lexeme s)
fits_lexeme s = fits_first signs s signs_bytes

-- a sign that stands in front of s is no longer than s
pub standing_within : (p s : List ℕ) → standing p s ≤ length s
standing_within p s = either (λ k. k ≤ length s) (starts p s) (starts_length p s) (λ e. omega arith)

-- the search for the first sign has come to the one with the number i: it stands there
pub search_stands : (l : List Sign) (s : List ℕ) (i : ℕ) (d : Sign) → i < length l
    → 0 < standing (get_or l i d).bytes s
    → first_sign (drop i l) s ≡ Some ((get_or l i d).lex, standing (get_or l i d).bytes s)
search_stands [] s i d h k = absurd (omega arith)
search_stands (x ∷ l) s (suc i) d h k = search_stands l s i d (omega arith) k
search_stands (x ∷ l) s zero d h k = go (starts x.bytes s) k
  where
    go : (b : Bool) → 0 < cond b (length x.bytes) 0
        → cond b (Some (x.lex, length x.bytes)) (first_sign l s)
        ≡ Some (x.lex, cond b (length x.bytes) 0)
    go true k = refl
    go false k = absurd (omega arith)

-- or it does not
pub search_on : (l : List Sign) (s : List ℕ) (i : ℕ) (d : Sign) → Bytes l → i < length l
    → standing (get_or l i d).bytes s ≡ 0 → first_sign (drop i l) s ≡ first_sign (drop (suc i) l) s
search_on [] s i d b h k = absurd (omega arith)
search_on (x ∷ l) s (suc i) d b h k = search_on l s i d b.1 (omega arith) k
search_on (x ∷ l) s zero d b h k = go (starts x.bytes s) k
  where
    go : (c : Bool) → cond c (length x.bytes) 0 ≡ 0
        → cond c (Some (x.lex, length x.bytes)) (first_sign l s) ≡ first_sign l s
    go true k = absurd (omega (arith, b.0))
    go false k = refl

-- bytes passed over are dropped
from_drop : (s : List ℕ) (k : ℕ) → k ≤ length s → from s k ≡ lexemes (drop k s)
from_drop [] zero h = refl
from_drop [] (suc k) h = absurd (omega arith)
from_drop (b ∷ s) zero h = refl
from_drop (b ∷ s) (suc k) h = from_drop s k (omega arith)

-- the lexemes of bytes that begin with a lexeme
front_of : (s : List ℕ) (x : Lex) (k : ℕ) → lexeme s ≡ Some (x, k) → 1 ≤ length s
    → lexemes s ≡ onto_lexemes x (lexemes (drop k s))
front_of [] x k e h = absurd (omega arith)
front_of (b ∷ s) x zero e h = let z = (fits_lexeme (b ∷ s)).has x zero e in absurd (omega arith)
front_of (b ∷ s) x (suc k) e h =
    let z = (fits_lexeme (b ∷ s)).has x (suc k) e in
    ap (λ (o : LexFound). then o (λ j. from s j)) e ∙ ap (λ (j : ℕ). onto_lexemes x (from s j))
    (less_one k) ∙ ap (onto_lexemes x) (from_drop s k (omega arith))
  where
    less_one : (j : ℕ) → suc j - 1 ≡ j
    less_one j = omega arith

front_none : (s : List ℕ) → lexeme s ≡ None → 1 ≤ length s → lexemes s ≡ None
front_none [] e h = absurd (omega arith)
front_none (b ∷ s) e h = ap (λ (o : LexFound). then o (λ j. from s j)) e

tells : (s : List ℕ) (at : ℕ) (x : Lex) (e : ℕ) → Front s at x e → LexemeTells s at (lexeme_of x) e
tells s at (n a) e f = f
tells s at (t a) e f = f
tells s at opening e f = f
tells s at closing e f = f
tells s at bar e f = f
tells s at (suffix maybe) e f = f
tells s at (suffix (repeats C.from_one m)) e f = f
tells s at (suffix (repeats C.from_zero m)) e f = f
tells s at (suffix (marks m)) e f = f
tells s at (join m) e f = f

-- what was found at a place tells of the bytes from there on
pub found_tells : (s : List ℕ) (at : ℕ) → at < length s
    → Lexes s at (as_lexed at (lexeme (drop at s)))
found_tells s at h = go (lexeme (drop at s)) refl
  where
    long : 1 ≤ length (drop at s)
    long = omega (arith, length-drop at s)

    go : (o : LexFound) → lexeme (drop at s) ≡ o → Lexes s at (as_lexed at o)
    go None e = record {
      from = omega arith;
      within = omega arith;
      tells = record
          { front = front_none (drop at s) e long };
    }
    go (Some y) e =
        let z = (fits_lexeme (drop at s)).has y.0 y.1 e in
        record {
          from = omega arith;
          within = omega (arith, length-drop at s);
          tells = tells s at y.0 (at + y.1)
              (record {
                further = omega arith;
                within = omega (arith, length-drop at s);
                front =
                    front_of (drop at s) y.0 y.1 e long
                    ∙ ap (λ (r : List ℕ). onto_lexemes y.0 (lexemes r)) (drop-drop y.1 at s);
              });
        }

pub none_left : (s : List ℕ) (at : ℕ) → at ≡ length s → NoBytesLeft s at
none_left s at h =
    record { front = ap lexemes (gone (drop at s) (omega (arith, length-drop at s))) }
  where
    gone : (r : List ℕ) → length r ≡ 0 → r ≡ []
    gone [] e = refl
    gone (x ∷ r) e = absurd (omega arith)

module _ (s : List ℕ) (at e : ℕ) (h : e ≡ at + 1 + length (front_digits (drop (at + 1) s))) where
  same_digits : take (e - (at + 1)) (drop (at + 1) s) ≡ front_digits (drop 1 (drop at s))
  same_digits =
      ap (λ (k : ℕ). take k (drop (at + 1) s))
      (let z : e - (at + 1) ≡ length (front_digits (drop (at + 1) s)) = omega arith in z)
      ∙ taken (drop (at + 1) s) ∙ ap front_digits (sym (drop-drop 1 at s))
    where
      taken : (r : List ℕ) → take (length (front_digits r)) r ≡ front_digits r
      taken [] = refl
      taken (b ∷ r) = go (is_digit b) (taken r)
        where
          go : (c : Bool) → take (length (front_digits r)) r ≡ front_digits r
              → take (length (cond c (b ∷ front_digits r) [])) (b ∷ r)
              ≡ cond c (b ∷ front_digits r) []
          go true z = ap (λ (x : List ℕ). b ∷ x) z
          go false z = refl

  place : at + (1 + length (front_digits (drop 1 (drop at s)))) ≡ e
  place = let z = ap (λ (r : List ℕ). length (front_digits r)) (drop-drop 1 at s) in omega arith

  number_of : (f : ℕ → Lex) → numbered f (drop 1 (drop at s))
      ≡ ranged f (1 + length (front_digits (drop 1 (drop at s))))
      (numeral_of (take (e - (at + 1)) (drop (at + 1) s)))
  number_of f = ap (λ (r : List ℕ). ranged f (1 + length (front_digits (drop 1 (drop at s))))
      (numeral_of r)) (sym same_digits)

  pub number_there : (v : ℕ)
      → Numbers (numeral_of (take (e - (at + 1)) (drop (at + 1) s))) (Some v)
      → NumberAt s at (Some (v, e))
  number_there v g f =
      ap (lexed_at at) (number_of f
      ∙ ap (ranged f (1 + length (front_digits (drop 1 (drop at s))))) g.1
      ∙ hit (le-leb v 63 g.0) _ _)
      ∙ ap (λ (k : ℕ). Some (record { lexeme = lexeme_of (f v); end = k })) place

  pub number_not : Numbers (numeral_of (take (e - (at + 1)) (drop (at + 1) s))) None
      → NumberAt s at None
  number_not g f = ap (lexed_at at) (number_of f ∙ g f _)

-- what stands at a place, where something or nothing was found
pub lexed_or : (at : ℕ) (o : LexFound)
    → unwrap_or (lexed_at at o) (record { lexeme = Lexeme.Not; end = at }) ≡ as_lexed at o
lexed_or at (Some y) = refl
lexed_or at None = refl

-- the bytes at the front, compared at once
pub starts_take : (p s : List ℕ) → starts_with eqb s p ≡ starts p s
starts_take [] s = refl
starts_take (x ∷ p) [] = refl
starts_take (x ∷ p) (y ∷ s) = ap (λ (b : Bool). eqb x y && b) (starts_take p s)

pub starts_one : (s : List ℕ) (at x : ℕ) → starts (x ∷ []) (drop at s) ≡ true → at < length s
starts_one s at x e = omega (arith, starts_length (x ∷ []) (drop at s) e, length-drop at s)

-- the lexeme told at a place is the first of the lexemes there, and the others stand behind it
pub record First (s : List ℕ) (at : ℕ) (l : Lexeme) (e : ℕ) (x : Lex) (k : List Lex) : Type 0 where
  pub same : l ≡ lexeme_of x
  pub rest : lexemes (drop e s) ≡ Some k
  pub further : at < e

onto_first : (y x : Lex) (o : Option (List Lex)) (k : List Lex) → onto_lexemes y o ≡ Some (x ∷ k)
    → (y ≡ x) × (o ≡ Some k)
onto_first y x None k e = absurd (clash cc)
onto_first y x (Some l) k e = let z : ◌≡◌ {A = List Lex} (y ∷ l) (x ∷ k) = cc in
    (let u : y ≡ x = cc in u, let u : l ≡ k = cc in ap Some u)

front_first : (s : List ℕ) (at : ℕ) (y : Lex) (e : ℕ) (x : Lex) (k : List Lex) → Front s at y e
    → lexemes (drop at s) ≡ Some (x ∷ k) → First s at (lexeme_of y) e x k
front_first s at y e x k f h =
    let z = onto_first y x (lexemes (drop e s)) k (sym f.front ∙ h) in
    record { same = ap lexeme_of z.0; rest = z.1; further = f.further }

pub told_first : (s : List ℕ) (at : ℕ) (l : Lexeme) (e : ℕ) (x : Lex) (k : List Lex)
    → LexemeTells s at l e → lexemes (drop at s) ≡ Some (x ∷ k) → First s at l e x k
told_first s at (Lexeme.Nonterminal a) e x k f h = front_first s at (n a) e x k f h
told_first s at (Lexeme.Terminal a) e x k f h = front_first s at (t a) e x k f h
told_first s at Lexeme.Open e x k f h = front_first s at opening e x k f h
told_first s at Lexeme.Close e x k f h = front_first s at closing e x k f h
told_first s at Lexeme.Bar e x k f h = front_first s at bar e x k f h
told_first s at Lexeme.Maybe e x k f h = front_first s at (suffix maybe) e x k f h
told_first s at (Lexeme.Plus m) e x k f h =
    front_first s at (suffix (repeats C.from_one m)) e x k f h
told_first s at (Lexeme.Star m) e x k f h =
    front_first s at (suffix (repeats C.from_zero m)) e x k f h
told_first s at (Lexeme.Marked m) e x k f h = front_first s at (suffix (marks m)) e x k f h
told_first s at (Lexeme.Join m) e x k f h = front_first s at (join m) e x k f h
told_first s at Lexeme.End e x k f h =
    absurd (let z : ◌≡◌ {A = Option (List Lex)} (Some []) (Some (x ∷ k)) = sym f.front ∙ h in
    clash cc)
told_first s at Lexeme.Not e x k f h =
    absurd (let z : ◌≡◌ {A = Option (List Lex)} None (Some (x ∷ k)) = sym f.front ∙ h in
    clash cc)

front_end : {P : Type 0} (s : List ℕ) (at : ℕ) (y : Lex) (e : ℕ) → Front s at y e
    → lexemes (drop at s) ≡ Some [] → P
front_end {P} s at y e f h = go (lexemes (drop e s)) (sym f.front ∙ h)
  where
    go : (q : Option (List Lex)) → onto_lexemes y q ≡ Some [] → P
    go None z = absurd (clash cc)
    go (Some l) z = absurd (clash cc)

-- where no lexeme is left, the end is told
pub told_end : (s : List ℕ) (at : ℕ) (l : Lexeme) (e : ℕ) → LexemeTells s at l e
    → lexemes (drop at s) ≡ Some [] → l ≡ Lexeme.End
told_end s at (Lexeme.Nonterminal a) e f h = front_end s at (n a) e f h
told_end s at (Lexeme.Terminal a) e f h = front_end s at (t a) e f h
told_end s at Lexeme.Open e f h = front_end s at opening e f h
told_end s at Lexeme.Close e f h = front_end s at closing e f h
told_end s at Lexeme.Bar e f h = front_end s at bar e f h
told_end s at Lexeme.Maybe e f h = front_end s at (suffix maybe) e f h
told_end s at (Lexeme.Plus m) e f h = front_end s at (suffix (repeats C.from_one m)) e f h
told_end s at (Lexeme.Star m) e f h = front_end s at (suffix (repeats C.from_zero m)) e f h
told_end s at (Lexeme.Marked m) e f h = front_end s at (suffix (marks m)) e f h
told_end s at (Lexeme.Join m) e f h = front_end s at (join m) e f h
told_end s at Lexeme.End e f h = refl
told_end s at Lexeme.Not e f h =
    absurd (let z : ◌≡◌ {A = Option (List Lex)} None (Some []) = sym f.front ∙ h in clash cc)
