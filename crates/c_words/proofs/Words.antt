-- Laws of the words that a sentence is handed over in.
use mathlib.Core.Path.{◌≡◌, refl, sym, ap, ◌∙◌}
use mathlib.Core.List.{List, [], ◌∷◌, ◌++◌}
use Prim.Native.Nat.{ℕ, ◌+◌, ◌*◌, ◌≤◌, ◌<◌}
use native.Mathlib.Numerals.{add-one}
use native.Mathlib.Omega.{arith}
use lib.ListN.{length, take, drop, get_or, length-append, take-append-drop}
use lib.Seq.{take-suc, length-take-le}
use Rattle.grammar.specs.declared.Token.{Token}
use Rattle.grammar.specs.declared.Sentence.{Sentence}
use Rattle.grammar.specs.Layout.{Word, line, col}
use Rattle.printing.specs.Printing.{Wrote}
use Rattle.c_words.specs.Words.{token_words, sentence_words, found_words, AtFront, few, written}

words_snoc : (w : Word) (t : Token)
    → token_words (w ++ (t ∷ [])) ≡ token_words w ++ (t.terminal ∷ line t ∷ col t ∷ [])
words_snoc [] t = refl
words_snoc (a ∷ w) t = ap (λ (l : List ℕ). a.terminal ∷ line a ∷ col a ∷ l) (words_snoc w t)

-- one more token
pub words_more : (w : Word) (i : ℕ) (d : Token) → i < length w
    → token_words (take (i + 1) w) ≡ token_words (take i w)
    ++ ((get_or w i d).terminal ∷ line (get_or w i d) ∷ col (get_or w i d) ∷ [])
words_more w i d h = rw (add-one i, take-suc w i d h) (words_snoc (take i w) (get_or w i d))

words_length : (w : Word) → length (token_words w) ≡ 3 * length w
words_length [] = refl
words_length (a ∷ w) = omega (arith, words_length w)

-- a sentence is handed over in 22 words
pub sentence_length : (s : Sentence) → 7 ≤ length s.tokens → length (sentence_words s) ≡ 22
sentence_length s h =
    omega (arith, words_length (take 7 s.tokens), length-take-le 7 s.tokens h)

-- with the number behind it, in 23
pub found_length : (s : Sentence) (m : ℕ) → 7 ≤ length s.tokens → length (found_words s m) ≡ 23
found_length s m h = omega (arith, length-append (sentence_words s) (m ∷ []), sentence_length s h)

-- what was put at the front stands before what stood behind it
pub wrote_front : {old new ws : List ℕ} {r n : ℕ} → length ws ≡ n → Wrote old new 0 ws r
    → new ≡ ws ++ drop n old
wrote_front {old} {new} {ws} {r} {n} e w =
    let k : r ≡ n = omega (arith, w.next, e) in
    let front : take n new ≡ ws = rw k at w.front in
    let rest : drop n new ≡ drop n old = rw k at w.rest in
    sym (take-append-drop n new) ∙ ap (λ (l : List ℕ). l ++ drop n new) front
    ∙ ap (λ (l : List ℕ). ws ++ l) rest

-- two memories that have the same words at the front of the same lent ones are the same
pub front_settled : {n : ℕ} {ws vs lent a b : List ℕ} → ws ≡ vs → AtFront n ws lent a
    → AtFront n vs lent b → a ≡ b
front_settled e (few l x) (few m y) = x ∙ sym y
front_settled e (few l x) (written m y) = absurd (omega arith)
front_settled e (written l x) (few m y) = absurd (omega arith)
front_settled e (written l x) (written m y) = x ∙ rw e (sym y)
