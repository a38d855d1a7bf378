-- The expansion of a sheet that is read is formed: nonterminals and terminals 0 to 63, no two rules
-- alike.
use mathlib.Core.Path.{◌≡◌, refl, subst}
use mathlib.Core.Logic.{⊎_elim}
use mathlib.Core.Bool.{Bool, true, false, cond}
use mathlib.Core.List.{List, [], ◌∷◌, ◌++◌, Memᴰ}
use Rattle.std.specs.Prelude.{Option, None, Some}
use Prim.Native.Nat.{ℕ, zero, suc, ◌+◌, ◌-◌, ◌≤◌, ◌<◌}
use native.Mathlib.Nat.{le_refl}
use native.Mathlib.Omega.{arith}
use lib.ListN.{length, drop}
use lib.Dec.{leb, leb→le}
use Rattle.sets.proofs.Basics.{clash}
use Rattle.grammar.specs.declared.Rule.{Rule}
use Rattle.grammar.specs.declared.Clause.{Clause}
use Rattle.grammar.specs.declared.Clause.TheVariants.{Empty, Atom, Unary, Binary}
use Rattle.grammar.specs.Layout.{Every}
use Rattle.grammar.specs.Trees.{Rules}
use Rattle.grammar.specs.Content.{SmallClause, SmallRule}
use Rattle.clauses.specs.Clauses.{alternatives, Expr, Clauses}
use Rattle.clauses.specs.Expansion.{expand_from, past_all, size_all, expansion}
use Rattle.clauses.specs.Text.{maybe, repeats, marks, Lex, n, t, opening, closing, bar, suffix}
use Rattle.clauses.specs.Text.{join, Phrase, an_atom, an_item, a_row, many, WrittenAs}
use Rattle.clauses.specs.Text.{nonterminal_text, terminal_text, group_text, bare_text}
use Rattle.clauses.specs.Text.{optional_text, repeated_text, marked_text, last_text, then_text}
use Rattle.clauses.specs.Text.{single_text, several_text, only_text, or_text}
use Rattle.clauses.specs.Text as X
use Rattle.clauses.specs.Text.{IsExpression, depth}
use Rattle.clauses.proofs.Deciding.{says?}
use Rattle.fields.proofs.Pick.{either}
use Rattle.fields.specs.Words.{numeral_of}
use Rattle.lexemes.specs.Lexemes.{LexFound, starts, front_digits, ranged, items, Sign, signs}
use Rattle.lexemes.specs.Lexemes.{first_sign, lexeme, onto_lexemes, then, from, lexemes}
use Rattle.clause_lines.specs.ClauseLines.{good, deep, shallow_only, lexemes_say, expression}
use Rattle.clauses.proofs.Bounds.{Terms, TermsAll, Below}
use Rattle.clauses.proofs.Range.{expansion_low}
use Rattle.clauses.proofs.Sorted.{rising_members, under_all}
use Rattle.clauses.proofs.Lines.{sheet_owned}

small_clause : (K : ℕ) (k : Clause) → K ≤ 64 → Below K k → SmallClause k
small_clause K Empty h b = tt
small_clause K (Atom a c) h b = (b.0, b.1)
small_clause K (Unary c m) h b = omega arith
small_clause K (Binary c d m) h b = (omega (arith, b.0), omega (arith, b.1))

every_member : (g : Rules) → ((r : Rule) → Memᴰ r g → SmallRule r) → Every SmallRule g
every_member [] f = tt
every_member (r ∷ g) f = (f r (Memᴰ.head refl), every_member g (λ s m. f s (Memᴰ.tail m)))

pub expansion_small : (c : Clauses) → TermsAll c → past_all c + size_all c ≤ 64
    → Every SmallRule (expansion c)
expansion_small c h l =
    every_member (expansion c) (λ r m.
    let j = rising_members (past_all c + size_all c) (expand_from c (past_all c)) r m in
    record {
      left = ⊎_elim (λ k. omega arith) (λ o. let a = o.below in omega arith)
          (sheet_owned c (past_all c) r (under_all c (past_all c) (le_refl _)) (le_refl _) j);
      clause = small_clause (past_all c + size_all c) r.clause l (expansion_low c r h m);
    })

-- a lexeme's terminal
abbrev TermLex : Lex → Type 0
TermLex (n a) = Unit {0}
TermLex (t a) = a < 64
TermLex opening = Unit {0}
TermLex closing = Unit {0}
TermLex bar = Unit {0}
TermLex (suffix q) = Unit {0}
TermLex (join m) = Unit {0}

split : (l k : List Lex) → Every TermLex (l ++ k) → Every TermLex l × Every TermLex k
split [] k h = (tt, h)
split (x ∷ l) k h = let z = split l k h.1 in ((h.0, z.0), z.1)

abbrev TermPart : Phrase → Type 0
TermPart (an_atom e) = Terms e
TermPart (an_item e) = Terms e
TermPart (a_row e) = Terms e
TermPart (X.one e) = Terms e
TermPart (many e) = Terms e

pub terms_written : {p : Phrase} {l : List Lex} → WrittenAs p l → Every TermLex l → TermPart p
terms_written (nonterminal_text) h = tt
terms_written (terminal_text) h = h.0
terms_written (group_text {l = l} w) h = terms_written w (split l (closing ∷ []) h.1).0
terms_written (bare_text w) h = terms_written w h
terms_written (optional_text {l = l} w) h = terms_written w (split l (suffix maybe ∷ []) h).0
terms_written (repeated_text {q = q} {m = m} {l = l} w) h =
    terms_written w (split l (suffix (repeats q m) ∷ []) h).0
terms_written (marked_text {m = m} {l = l} w) h =
    terms_written w (split l (suffix (marks m) ∷ []) h).0
terms_written (last_text w) h = terms_written w h
terms_written (then_text {m = m} {k = k} {l = l} w v) h = let z = split k (join m ∷ l) h in
    (terms_written w z.0, terms_written v z.1.1)
terms_written (single_text w) h = terms_written w h
terms_written (several_text {m = m} {k = k} {l = l} w v) h = let z = split k (join m ∷ l) h in
    (terms_written w z.0, terms_written v z.1.1)
terms_written (only_text w) h = terms_written w h
terms_written (or_text {k = k} {l = l} w v) h = let z = split k (bar ∷ l) h in
    (terms_written w z.0, terms_written v z.1.1)

-- the terminals of lexemes that are read are 0 to 63
abbrev TermFound : LexFound → Type 0
TermFound None = Unit {0}
TermFound (Some y) = TermLex y.0

ranged_term : (k : ℕ) (o : Option ℕ) → TermFound (ranged t k o)
ranged_term k None = tt
ranged_term k (Some v) =
    either TermFound (leb v 63) (λ e. let z = leb→le v 63 (rw e tt) in omega arith) (λ e. tt)

ranged_other : (k : ℕ) (o : Option ℕ) → TermFound (ranged n k o)
ranged_other k None = tt
ranged_other k (Some v) = either TermFound (leb v 63) (λ e. tt) (λ e. tt)

items_term : (s : List ℕ) → TermFound (items s)
items_term s =
    let k = 1 + length (front_digits (drop 1 s)) in
    let o = numeral_of (front_digits (drop 1 s)) in
    either TermFound (starts (110 ∷ []) s) (λ e. ranged_other k o)
    (λ e. either TermFound (starts (116 ∷ []) s) (λ e. ranged_term k o) (λ e. tt))

-- signs are no terminals
first_term : (l : List Sign) (s : List ℕ) → Every (λ (x : Sign). TermLex x.lex) l
    → TermFound (first_sign l s)
first_term [] s h = items_term s
first_term (x ∷ l) s h =
    either TermFound (starts x.bytes s) (λ e. h.0) (λ e. first_term l s h.1)

signs_term : Every (λ (x : Sign). TermLex x.lex) signs
unfolding signs
signs_term = (tt, (tt, (tt, (tt, (tt, (tt, (tt, (tt, (tt, (tt, (tt, (tt, (tt, (tt, tt))))))))))))))

lexeme_term : (s : List ℕ) → TermFound (lexeme s)
lexeme_term s = first_term signs s signs_term

every_onto : (x : Lex) (o : Option (List Lex)) (l : List Lex) → onto_lexemes x o ≡ Some l
    → TermLex x
    → ((k : List Lex) → o ≡ Some k → Every TermLex k) → Every TermLex l
every_onto x None l e h f = absurd (clash cc)
every_onto x (Some k) l e h f = let z : ◌≡◌ {A = List Lex} (x ∷ k) l = cc in
    subst (λ (y : List Lex). Every TermLex y) z (h, f k refl)

from_terms : (s : List ℕ) (k : ℕ) (l : List Lex) → from s k ≡ Some l → Every TermLex l
from_terms [] k l e = let z : ◌≡◌ {A = List Lex} [] l = cc in
    subst (λ (y : List Lex). Every TermLex y) z tt
from_terms (b ∷ s) (suc k) l e = from_terms s k l e
from_terms (b ∷ s) zero l e =
    go (lexeme (b ∷ s)) (lexeme_term (b ∷ s)) e (λ j m h. from_terms s j m h)
  where
    go : (o : LexFound) → TermFound o → then o (λ j. from s j) ≡ Some l
        → ((j : ℕ) (m : List Lex) → from s j ≡ Some m → Every TermLex m) → Every TermLex l
    go None h e f = absurd (clash cc)
    go (Some y) h e f = every_onto y.0 (from s (y.1 - 1)) l e h (f (y.1 - 1))

-- the expression that bytes say
said_terms : (l : List Lex) (d : Dec (IsExpression l)) (e : Expr alternatives) → Every TermLex l
    → shallow_only d ≡ good e → Terms e
said_terms l (no f) e h q = absurd (clash cc)
said_terms l (yes y) e h q = go (leb (depth y.expr) 16) q
  where
    go : (b : Bool) → cond b (good y.expr) deep ≡ good e → Terms e
    go true z = let j : y.expr ≡ e = cc in
        subst (λ (x : Expr alternatives). Terms x) j (terms_written y.written h)
    go false z = absurd (clash cc)

pub expression_terms : (s : List ℕ) (e : Expr alternatives) → expression s ≡ good e → Terms e
expression_terms s e h = go (lexemes s) refl h
  where
    go : (o : Option (List Lex)) → lexemes s ≡ o → lexemes_say o ≡ good e → Terms e
    go None j q = absurd (clash cc)
    go (Some l) j q = said_terms l (says? l) e (from_terms s 0 l j) q
