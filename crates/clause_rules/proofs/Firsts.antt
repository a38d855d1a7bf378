-- What the lexeme told at a place says of the lexemes there.
use mathlib.Core.Path.{◌≡◌, refl, ◌∙◌, ap}
use mathlib.Core.List.{List, [], ◌∷◌}
use Prim.Native.Nat.{ℕ}
use native.Mathlib.Omega.{arith}
use Rattle.clauses.specs.Clauses as C
use Rattle.clauses.specs.Text.{Suffix, maybe, repeats, marks, Lex, n, t, opening, closing, bar}
use Rattle.clauses.specs.Text.{suffix, join}
use Rattle.clauses.proofs.Legible.{NoSuffix, NoJoin, NoBar}
use Rattle.lexemes.specs.Answers.{lexeme_of, Lexes}
use Rattle.lexemes.specs.declared.Lexed.{Lexed}
use Rattle.lexemes.proofs.Laws.{First, told_first, told_end}
use Rattle.rule_output.specs.Signs.{sort_of_of}
use Rattle.clause_rules.specs.Ends.{Left}

abbrev sort_lex : Lex → ℕ
sort_lex x = sort_of_of (lexeme_of x)

suffix_sort : (q : Suffix) → sort_lex (suffix q) ≡ 5
suffix_sort maybe = refl
suffix_sort (repeats C.from_one m) = refl
suffix_sort (repeats C.from_zero m) = refl
suffix_sort (marks m) = refl

module _ (s : List ℕ) (at : ℕ) (r : Lexed) (h : Lexes s at r) where
  -- the first lexeme, the ones behind it, and its sort
  pub first : (x : Lex) (k : List Lex) → Left s at (x ∷ k) → First s at r.lexeme r.end x k
  first x k e = told_first s at r.lexeme r.end x k h.tells e.lexed

  pub behind : (x : Lex) (k : List Lex) → Left s at (x ∷ k) → Left s r.end k
  behind x k e = record { lexed = (first x k e).rest }

  pub sort_of : (x : Lex) (k : List Lex) → Left s at (x ∷ k) → sort_of_of r.lexeme ≡ sort_lex x
  sort_of x k e = ap sort_of_of (first x k e).same

  pub sort_end : Left s at [] → sort_of_of r.lexeme ≡ 6
  sort_end e = ap sort_of_of (told_end s at r.lexeme r.end h.tells e.lexed)

  -- a suffix, a binding or a bar that is told stands there
  pub no_suffix : (k : List Lex) → Left s at k → NoSuffix k → sort_of_of r.lexeme ≡ 5 → ⊥
  no_suffix [] e f z = let y = sort_end e in omega arith
  no_suffix (n a ∷ k) e f z = let y = sort_of (n a) k e in omega arith
  no_suffix (t a ∷ k) e f z = let y = sort_of (t a) k e in omega arith
  no_suffix (opening ∷ k) e f z = let y = sort_of opening k e in omega arith
  no_suffix (closing ∷ k) e f z = let y = sort_of closing k e in omega arith
  no_suffix (bar ∷ k) e f z = let y = sort_of bar k e in omega arith
  no_suffix (suffix q ∷ k) e f z = f.bars q k refl
  no_suffix (join m ∷ k) e f z = let y = sort_of (join m) k e in omega arith

  pub no_join : (k : List Lex) → Left s at k → NoJoin k → sort_of_of r.lexeme ≡ 4 → ⊥
  no_join [] e f z = let y = sort_end e in omega arith
  no_join (n a ∷ k) e f z = let y = sort_of (n a) k e in omega arith
  no_join (t a ∷ k) e f z = let y = sort_of (t a) k e in omega arith
  no_join (opening ∷ k) e f z = let y = sort_of opening k e in omega arith
  no_join (closing ∷ k) e f z = let y = sort_of closing k e in omega arith
  no_join (bar ∷ k) e f z = let y = sort_of bar k e in omega arith
  no_join (suffix q ∷ k) e f z = let y = sort_of (suffix q) k e in let w = suffix_sort q in
      omega arith
  no_join (join m ∷ k) e f z = f.bars m k refl

  pub no_bar : (k : List Lex) → Left s at k → NoBar k → sort_of_of r.lexeme ≡ 3 → ⊥
  no_bar [] e f z = let y = sort_end e in omega arith
  no_bar (n a ∷ k) e f z = let y = sort_of (n a) k e in omega arith
  no_bar (t a ∷ k) e f z = let y = sort_of (t a) k e in omega arith
  no_bar (opening ∷ k) e f z = let y = sort_of opening k e in omega arith
  no_bar (closing ∷ k) e f z = let y = sort_of closing k e in omega arith
  no_bar (bar ∷ k) e f z = f.bars k refl
  no_bar (suffix q ∷ k) e f z = let y = sort_of (suffix q) k e in let w = suffix_sort q in
      omega arith
  no_bar (join m ∷ k) e f z = let y = sort_of (join m) k e in omega arith

  pub suffix_told : (q : Suffix) (k : List Lex) → Left s at (suffix q ∷ k) → sort_of_of r.lexeme ≡ 5
  suffix_told q k e = sort_of (suffix q) k e ∙ suffix_sort q
