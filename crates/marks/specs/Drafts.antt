-- Drafts as half-known words.
use Rattle.std.specs.Prelude.{ℕ, ◌+◌, ◌≤◌, take}
use Rattle.grammar.specs.Layout.{Word}
use Rattle.marks.specs.declared.Draft.{Draft}
use Rattle.marks.specs.Half.{Half}

-- the word of a draft: its first `count` tokens, open ones too
abbrev pub drafted : {N : ℕ} → Draft N → Word
drafted d = take d.count d.tokens

-- and how far it is known
abbrev pub half : {N : ℕ} → Draft N → Half
half d = record { word = drafted d; known = d.known }

-- the span of len tokens from start on lies in the draft
pub record SpanFits (d : Draft 64) (start len : ℕ) : Type 0 where
  pub few : d.count ≤ 64
  pub fits : start + len ≤ d.count
