-- Token lines counted to the end of a text.
use mathlib.Core.Path.{◌≡◌, refl, sym, ap, ◌∙◌}
use mathlib.Core.Logic.{◌⊎◌, inl, inr}
use mathlib.Core.List.{List, [], ◌∷◌, ◌++◌, append-nil}
use Prim.Native.Nat.{ℕ, ◌+◌, ◌≤◌, ◌<◌}
use native.Mathlib.Omega.{arith}
use lib.ListN.{length, drop, drop_of_length-le, length-append, length-drop}
use Rattle.grammar.specs.declared.Token.{Token}
use Rattle.grammar.specs.Layout.{Word, Every}
use Rattle.printing.specs.Printing.{token_text_of, token_lines}
use Rattle.reports.specs.Reports.{ReportToken}
use Rattle.reports.specs.Rests.{TokenTo, NoToken, Tokens, Lines}
use Rattle.reports.proofs.TokenTexts.{Left, lines_left, lines_more, every_more}
use Rattle.std.specs.Prelude.{Some, None}

module _ (s : List ℕ) (at : ℕ) where
  -- n token lines stand before i
  pub record Counted (n i : ℕ) : Type 0 where
    pub inside : i ≤ length s
    pub few : n ≤ 7
    pub word : Word
    pub good : Every ReportToken word
    pub count : length word ≡ n
    pub is : drop at s ≡ token_lines word ++ drop i s

  pub counted_none : at ≤ length s → Counted 0 at
  counted_none h =
      record { inside = h; few = omega arith; word = []; good = tt; count = refl; is = refl }

  pub counted_more : {n i next : ℕ} → Counted n i → n < 7 → TokenTo s i next → Counted (n + 1) next
  counted_more {n} {i} {next} x f t =
      record {
        inside = t.inside;
        few = omega arith;
        word = x.word ++ (t.token ∷ []);
        good = every_more x.word t.token x.good t.good;
        count = omega (arith, length-append x.word (t.token ∷ []), x.count);
        is = x.is ∙ ap (λ (l : List ℕ). token_lines x.word ++ l) t.is
            ∙ sym (lines_more x.word t.token (drop next s));
      }

  -- what is left at i of lines that go on
  goes_on : {n i : ℕ} → Counted n i → (n ≡ 0) ⊎ (i < length s) → (w : Word) → Tokens w
      → drop at s ≡ token_lines w
      → (t : Token) × ReportToken t × (v : Word) × (drop i s ≡ token_text_of t ++ token_lines v)
      × (n < length w)
  goes_on {n} {i} x h w p e =
      go (lines_left x.word w (drop i s) x.good p.good (sym x.is ∙ e))
    where
      go : Left x.word (drop i s) w
          → (t : Token) × ReportToken t × (v : Word) × (drop i s ≡ token_text_of t ++ token_lines v)
          × (n < length w)
      go l = at_left l.left refl h
        where
          whole : length w ≡ length x.word + length l.left
          whole = ap length l.whole ∙ length-append x.word l.left

          at_left : (v : Word) → l.left ≡ v → (n ≡ 0) ⊎ (i < length s)
              → (t : Token) × ReportToken t × (v : Word)
              × (drop i s ≡ token_text_of t ++ token_lines v)
              × (n < length w)
          at_left [] q (inl z) = absurd (omega (arith, p.nonempty, x.count, whole, ap length q))
          at_left [] q (inr z) =
              absurd (omega (arith, length-drop i s, ap length (l.is ∙ ap token_lines q)))
          at_left (t ∷ v) q z = (
            t,
            (rw q at l.good).0,
            v,
            l.is ∙ ap token_lines q,
            omega (arith, x.count, whole, ap length q),
          )

  -- more than seven lines
  pub many : {n i : ℕ} → Counted n i → 7 ≤ n → (n ≡ 0) ⊎ (i < length s) → Lines (drop at s) None
  many x k h w p q = let g = goes_on x h w p q in omega (arith, p.few, g.4)

  -- anything else
  pub unread : {n i : ℕ} → Counted n i → (n ≡ 0) ⊎ (i < length s) → NoToken s i
      → Lines (drop at s) None
  unread x h t w p q = let g = goes_on x h w p q in t.absent g.0 (token_lines g.2) g.1 g.3

  pub all_read : {n i : ℕ} → Counted n i → 1 ≤ n → i ≡ length s → Lines (drop at s) (Some n)
  all_read {n} {i} x k h = (
    x.word,
    record {
      nonempty = omega (arith, x.count);
      few = omega (arith, x.count, x.few);
      good = x.good;
    },
    x.count,
    x.is ∙ ap (λ (l : List ℕ). token_lines x.word ++ l)
        (drop_of_length-le s {i = i} (omega arith))
        ∙ append-nil (token_lines x.word),
  )
