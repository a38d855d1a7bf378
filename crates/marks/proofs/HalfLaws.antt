-- Half-known words: what holds of a completion may hold, and among known tokens what may hold does.
use mathlib.Core.Path.{◌≡◌, refl, sym, ap, ◌∙◌, subst, subst₂, subst₃}
use mathlib.Core.List.{[], ◌∷◌}
use Prim.Native.Nat.{ℕ, ◌+◌, ◌-◌, ◌≤◌, ◌<◌}
use native.Mathlib.Omega.{arith}
use native.Mathlib.Decide.{ℕ_discrete}
use lib.ListN.{length}
use Rattle.grammar.specs.declared.Token.{Token}
use Rattle.grammar.specs.declared.UnaryMark.{UnaryMark}
use Rattle.grammar.specs.declared.BinaryMark.{BinaryMark}
use Rattle.grammar.specs.Layout.{Word, Keeps, Pairs}
use Rattle.grammar.specs.Layout as Mark
use Rattle.grammar.specs.Trees.{Covers}
use Rattle.grammar.specs.SpanSheet.{part}
use Rattle.marks.specs.Half.{Half, token_at, Completes, MayBe, MayKeep, MayPair}
use Rattle.marks.proofs.Words.{part_length, unary_span, span_unary, no_left, no_right}
use Rattle.marks.proofs.Words.{binary_span, one_token}

-- ---- what holds of a completion may hold

module _ (h : Half) (w : Word) (c : Completes h w) where
  pub may_be : (s len a b : ℕ) (t : Token) → Covers a b t.terminal → s + len ≤ length w
      → s < h.known → part w s len ≡ t ∷ [] → MayBe h s a b
  may_be s len a b t v fit k e =
      record { terminal = subst (λ (x : Token). Covers a b x.terminal) (sym at ∙ c.same s k) v }
    where
      n : len ≡ 1
      n = sym (part_length w s len fit) ∙ ap length e

      at : token_at w s ≡ t
      at = let q : token_at w s ∷ [] ≡ t ∷ [] =
          sym (one_token w s (omega (arith, n))) ∙ ap (part w s) (sym n) ∙ e in cc

  pub may_keep : (m : UnaryMark) (s len : ℕ) → s + len ≤ length w → Mark.Unary m (part w s len)
      → MayKeep m h s len
  may_keep m s len fit u = record {
    keeps = λ i l k. subst₂ (Keeps m) (c.same s (omega arith)) (c.same (s + i) k)
        (unary_span m w s len fit u i l);
  }

  pub may_pair : (m : BinaryMark) (s l r : ℕ) → s + l + r ≤ length w
      → Mark.Binary m (part w s l) (part w (s + l) r) → MayPair m h s l r
  may_pair m s l r fit b = record {
    pairs = λ p q k. subst₃ (Pairs m) (c.same s (omega arith)) (c.same (s + l - 1) (omega arith))
        (c.same (s + l) k) ((binary_span m w s l r fit p q).1 b);
  }

-- ---- among known tokens, what may hold does

module _ (h : Half) (fits : h.known ≤ length h.word) where
  pub is_one : (s a b : ℕ) → s + 1 ≤ h.known → MayBe h s a b
      → (t : Token) × (part h.word s 1 ≡ t ∷ []) × Covers a b t.terminal
  is_one s a b k q = (token_at h.word s, one_token h.word s (omega arith), q.terminal)

  pub does_keep : (m : UnaryMark) (s len : ℕ) → s + len ≤ h.known → MayKeep m h s len
      → Mark.Unary m (part h.word s len)
  does_keep m s len k q =
      span_unary m h.word s len (omega arith) (λ i l. q.keeps i l (omega arith))

  pub does_pair : (m : BinaryMark) (s l r : ℕ) → s + l + r ≤ h.known → MayPair m h s l r
      → Mark.Binary m (part h.word s l) (part h.word (s + l) r)
  does_pair m s l r k q = go (ℕ_discrete l 0) (ℕ_discrete r 0)
    where
      go : Dec (l ≡ 0) → Dec (r ≡ 0) → Mark.Binary m (part h.word s l) (part h.word (s + l) r)
      go (yes e) d = no_left m h.word s l r (omega arith) e
      go (no n) (yes e) = no_right m h.word s l r (omega arith) e
      go (no n) (no o) = (binary_span m h.word s l r (omega arith) (omega arith) (omega arith)).0
          (q.pairs (omega arith) (omega arith) (omega arith))

pub completes_self : (h : Half) → Completes h h.word
completes_self h = record { long = refl; same = λ i l. refl }
