-- A table that is long enough, and nodes whose nonterminals have words in it. For the contracts of
-- inner functions only.
use Rattle.std.specs.Prelude.{List, ℕ, ◌≤◌, ◌<◌, length}
use Rattle.pair_steps.specs.declared.Node.{Node}

-- how many words a table has: 64 for each of 384 shapes, one for each two of 64 nonterminals, and
-- nine for each two of them
abbrev pub table_words : ℕ
table_words = 65536

pub record Room (t : List ℕ) : Type 0 where
  pub room : table_words ≤ length t

pub record Small (v : Node) : Type 0 where
  pub sort : v.sort < 64
  pub first : v.first < 64
  pub second : v.second < 64
