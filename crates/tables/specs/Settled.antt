-- Spans of which tables have all that stands over them, and nothing that has no tree.
use Rattle.std.specs.Prelude.{◌≡◌, List, ℕ, ◌+◌, ◌≤◌, ◌<◌}
use Rattle.grammar.specs.Trees.{Rules, Derives, TwoTrees}
use Rattle.grammar.specs.SpanSheet.{part}
use Rattle.marks.specs.Half.{Half}
use Rattle.tables.specs.Tables.{Table, One, Two, by_tokens, Stand, Again}

-- the span is not one open token: the pair of such a token is given
abbrev pub Told : Half → ℕ → ℕ → Type 0
Told h s len = len ≡ 1 → s < h.known

-- what the tables have of the span has trees, where it is known, and they have all that stands over
-- it
pub record Settled (one two : Table) (g : Rules) (h : Half) (s len : ℕ) : Type 0 where
  pub derived : (A : ℕ) → s + len ≤ h.known → one s len A → Derives g A (part h.word s len)
  pub more : (A : ℕ) → s + len ≤ h.known → two s len A → TwoTrees g A (part h.word s len)
  pub each : (A i l : ℕ) → Told h s len → Stand one g (by_tokens h s len) s len A i l → one s len A
  pub again : (A : ℕ) → Told h s len → Again one two g (by_tokens h s len) s len A → two s len A

-- all shorter parts of the span are settled
pub record Ground (ws : List ℕ) (g : Rules) (h : Half) (n s len : ℕ) : Type 0 where
  pub parts : (a b : ℕ) → s ≤ a → a + b ≤ s + len → b < len → Settled (One ws n) (Two ws n) g h a b
