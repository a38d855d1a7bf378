-- The search for a closing parenthesis, lexeme by lexeme.
use mathlib.Core.Path.{◌≡◌, refl, sym, ◌∙◌, ap, subst}
use mathlib.Core.List.{List, [], ◌∷◌}
use Prim.Native.Nat.{ℕ, zero, suc, ◌+◌, ◌-◌, ◌≤◌, ◌<◌}
use native.Mathlib.Omega.{arith}
use native.Mathlib.Numerals.{add-one}
use lib.ListN.{length}
use Rattle.clauses.specs.Text.{Lex, n, t, opening, closing, bar, suffix, join}
use Rattle.clauses.specs.Flat.{closes}
use Rattle.lexemes.specs.declared.Lexeme.{Lexeme}
use Rattle.lexemes.specs.declared.Lexed.{Lexed}
use Rattle.lexemes.specs.Answers.{Lexes, LexemeTells}
use Rattle.rule_output.specs.Signs.{sort_of_of}
use Rattle.clause_rules.specs.Ends.{Left, GroupEnd}
use Rattle.clause_rules.specs.Scanning.{Scan}
use Rattle.clause_rules.proofs.Firsts.{behind, sort_of, sort_end, suffix_told}

pub scan_start : (s : List ℕ) (at : ℕ) → at ≤ length s → Scan s at at 0
scan_start s at h =
    record { from = omega arith; within = h; few = omega arith; same = λ k e. (k, e, refl) }

-- a lexeme that is one goes further
pub goes_on : (s : List ℕ) (at : ℕ) (l : Lexeme) (e : ℕ) → LexemeTells s at l e
    → (sort_of_of l ≡ 6 → ⊥)
    → at < e
goes_on s at (Lexeme.Nonterminal a) e h z = h.further
goes_on s at (Lexeme.Terminal a) e h z = h.further
goes_on s at Lexeme.Open e h z = h.further
goes_on s at Lexeme.Close e h z = h.further
goes_on s at Lexeme.Bar e h z = h.further
goes_on s at Lexeme.Maybe e h z = h.further
goes_on s at (Lexeme.Plus m) e h z = h.further
goes_on s at (Lexeme.Star m) e h z = h.further
goes_on s at (Lexeme.Marked m) e h z = h.further
goes_on s at (Lexeme.Join m) e h z = h.further
goes_on s at Lexeme.End e h z = absurd (z refl)
goes_on s at Lexeme.Not e h z = absurd (z refl)

module _ (s : List ℕ) (at i d : ℕ) (S : Scan s at i d) (x : Lexed) (X : Lexes s i x) where
  pub scan_stop : sort_of_of x.lexeme ≡ 6 → GroupEnd s at i
  scan_stop z =
      record {
        from = S.from;
        within = S.within;
        ends = λ k e. let w = S.same k e in
            subst (λ (y : List Lex). Left s i y) (sym w.2) (go w.0 w.1);
      }
    where
      go : (j : List Lex) → Left s i j → Left s i (closes j d)
      go [] e = e
      go (n a ∷ j) e = absurd (let y = sort_of s i x X (n a) j e in omega arith)
      go (t a ∷ j) e = absurd (let y = sort_of s i x X (t a) j e in omega arith)
      go (opening ∷ j) e = absurd (let y = sort_of s i x X opening j e in omega arith)
      go (closing ∷ j) e = absurd (let y = sort_of s i x X closing j e in omega arith)
      go (bar ∷ j) e = absurd (let y = sort_of s i x X bar j e in omega arith)
      go (suffix q ∷ j) e = absurd (let y = suffix_told s i x X q j e in omega arith)
      go (join m ∷ j) e = absurd (let y = sort_of s i x X (join m) j e in omega arith)

  further : (sort_of_of x.lexeme ≡ 6 → ⊥) → i < x.end
  further z = goes_on s i x.lexeme x.end X.tells z

  -- the search goes on behind the lexeme, with c further parentheses open
  step : (c : ℕ) → i < x.end → c ≤ d + 1
      → ((j : List Lex) → Left s i j → (k : List Lex) × Left s x.end k
      × (closes j d ≡ closes k c)) → Scan s at x.end c
  step c h l f =
      record {
        from = omega (arith, S.from);
        within = X.within;
        few = omega (arith, S.few);
        same = λ k e. let w = S.same k e in let v = f w.0 w.1 in
            (v.0, v.1, w.2 ∙ v.2);
      }

  pub scan_open : sort_of_of x.lexeme ≡ 1 → Scan s at x.end (d + 1)
  scan_open z = step (d + 1) (further (λ y. omega arith)) (omega arith) go
    where
      go : (j : List Lex) → Left s i j
          → (k : List Lex) × Left s x.end k × (closes j d ≡ closes k (d + 1))
      go [] e = absurd (let y = sort_end s i x X e in omega arith)
      go (n a ∷ j) e = absurd (let y = sort_of s i x X (n a) j e in omega arith)
      go (t a ∷ j) e = absurd (let y = sort_of s i x X (t a) j e in omega arith)
      go (opening ∷ j) e = (j, behind s i x X opening j e, ap (closes j) (sym (add-one d)))
      go (closing ∷ j) e = absurd (let y = sort_of s i x X closing j e in omega arith)
      go (bar ∷ j) e = absurd (let y = sort_of s i x X bar j e in omega arith)
      go (suffix q ∷ j) e = absurd (let y = suffix_told s i x X q j e in omega arith)
      go (join m ∷ j) e = absurd (let y = sort_of s i x X (join m) j e in omega arith)

  pub scan_on : (sort_of_of x.lexeme ≡ 6 → ⊥) → (sort_of_of x.lexeme ≡ 1 → ⊥)
      → (sort_of_of x.lexeme ≡ 2 → ⊥) → Scan s at x.end d
  scan_on z y w = step d (further z) (omega arith) go
    where
      go : (j : List Lex) → Left s i j
          → (k : List Lex) × Left s x.end k × (closes j d ≡ closes k d)
      go [] e = absurd (z (sort_end s i x X e))
      go (n a ∷ j) e = (j, behind s i x X (n a) j e, refl)
      go (t a ∷ j) e = (j, behind s i x X (t a) j e, refl)
      go (opening ∷ j) e = absurd (y (sort_of s i x X opening j e))
      go (closing ∷ j) e = absurd (w (sort_of s i x X closing j e))
      go (bar ∷ j) e = (j, behind s i x X bar j e, refl)
      go (suffix q ∷ j) e = (j, behind s i x X (suffix q) j e, refl)
      go (join m ∷ j) e = (j, behind s i x X (join m) j e, refl)

-- a closing parenthesis: the one looked for, or one of the further ones
pub scan_closed : (s : List ℕ) (at i d : ℕ) → Scan s at i d → (x : Lexed) → Lexes s i x
    → sort_of_of x.lexeme ≡ 2 → d ≡ 0 → GroupEnd s at x.end
scan_closed s at i d S x X z h =
    record {
      from = omega (arith, S.from, X.from);
      within = X.within;
      ends = λ k e. let w = S.same k e in
          subst (λ (y : List Lex). Left s x.end y) (sym (w.2 ∙ ap (closes w.0) h))
          (go w.0 w.1);
    }
  where
    go : (j : List Lex) → Left s i j → Left s x.end (closes j 0)
    go [] e = absurd (let y = sort_end s i x X e in omega arith)
    go (n a ∷ j) e = absurd (let y = sort_of s i x X (n a) j e in omega arith)
    go (t a ∷ j) e = absurd (let y = sort_of s i x X (t a) j e in omega arith)
    go (opening ∷ j) e = absurd (let y = sort_of s i x X opening j e in omega arith)
    go (closing ∷ j) e = behind s i x X closing j e
    go (bar ∷ j) e = absurd (let y = sort_of s i x X bar j e in omega arith)
    go (suffix q ∷ j) e = absurd (let y = suffix_told s i x X q j e in omega arith)
    go (join m ∷ j) e = absurd (let y = sort_of s i x X (join m) j e in omega arith)

pub scan_close : (s : List ℕ) (at i d : ℕ) → Scan s at i d → (x : Lexed) → Lexes s i x
    → sort_of_of x.lexeme ≡ 2 → (d ≡ 0 → ⊥) → Scan s at x.end (d - 1)
scan_close s at i zero S x X z h = absurd (h refl)
scan_close s at i (suc d) S x X z h =
    subst (λ (c : ℕ). Scan s at x.end c) (less d)
    (step s at i (suc d) S x X d (further s at i (suc d) S x X (λ y. omega arith)) (omega arith)
    go)
  where
    less : (c : ℕ) → c ≡ suc c - 1
    less c = omega arith

    go : (j : List Lex) → Left s i j
        → (k : List Lex) × Left s x.end k × (closes j (suc d) ≡ closes k d)
    go [] e = absurd (let y = sort_end s i x X e in omega arith)
    go (n a ∷ j) e = absurd (let y = sort_of s i x X (n a) j e in omega arith)
    go (t a ∷ j) e = absurd (let y = sort_of s i x X (t a) j e in omega arith)
    go (opening ∷ j) e = absurd (let y = sort_of s i x X opening j e in omega arith)
    go (closing ∷ j) e = (j, behind s i x X closing j e, refl)
    go (bar ∷ j) e = absurd (let y = sort_of s i x X bar j e in omega arith)
    go (suffix q ∷ j) e = absurd (let y = suffix_told s i x X q j e in omega arith)
    go (join m ∷ j) e = absurd (let y = sort_of s i x X (join m) j e in omega arith)

pub lexes_further : (s : List ℕ) (i : ℕ) (x : Lexed) → Lexes s i x → (sort_of_of x.lexeme ≡ 6 → ⊥)
    → i < x.end
lexes_further s i x X z = goes_on s i x.lexeme x.end X.tells z

pub one_six : ◌≡◌ {A = ℕ} 1 6 → ⊥
one_six e = omega arith

pub two_six : ◌≡◌ {A = ℕ} 2 6 → ⊥
two_six e = omega arith
