-- Half-known words: the tokens before `known` count, the others are open. A mark is asked of the
-- known tokens alone.
use Rattle.std.specs.Prelude.{◌≡◌, ℕ, ◌+◌, ◌-◌, ◌<◌, length, get_or}
use Rattle.grammar.specs.declared.Token.{Token}
use Rattle.grammar.specs.declared.UnaryMark.{UnaryMark}
use Rattle.grammar.specs.declared.BinaryMark.{BinaryMark}
use Rattle.grammar.specs.Layout.{Word, Keeps, Pairs}
use Rattle.grammar.specs.Trees.{Covers}
use Rattle.grammar.specs.Sentences.{no_token}

pub record Half : Type 0 where
  pub word : Word
  pub known : ℕ

-- the token at i
abbrev pub token_at : Word → ℕ → Token
token_at w i = get_or w i no_token

-- w is as long, and has the known tokens
pub record Completes (h : Half) (w : Word) : Type 0 where
  pub long : length w ≡ length h.word
  pub same : (i : ℕ) → i < h.known → token_at w i ≡ token_at h.word i

-- the token at s is one of the terminals from a to b
pub record MayBe (h : Half) (s a b : ℕ) : Type 0 where
  pub terminal : Covers a b (token_at h.word s).terminal

-- the unary mark may hold of the span of len tokens from s on
pub record MayKeep (m : UnaryMark) (h : Half) (s len : ℕ) : Type 0 where
  pub keeps : (i : ℕ) → i < len → s + i < h.known
      → Keeps m (token_at h.word s) (token_at h.word (s + i))

-- the binary mark may hold of the span of l tokens from s on and that of r tokens after it
pub record MayPair (m : BinaryMark) (h : Half) (s l r : ℕ) : Type 0 where
  pub pairs : 0 < l → 0 < r → s + l < h.known
      → Pairs m (token_at h.word s) (token_at h.word (s + l - 1)) (token_at h.word (s + l))
