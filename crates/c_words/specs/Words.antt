-- Numbers in lent words: a sentence, row counts, flags and the numbers of a share as words, and
-- words at the front of the lent ones.
use Rattle.std.specs.Prelude.{Option, Some, None, ◌≡◌, Bool, true, false, List, [], ◌∷◌, ◌++◌, ℕ}
use Rattle.std.specs.Prelude.{◌≤◌, ◌<◌, length}
use Rattle.std.specs.Prelude.{take, drop}
use Rattle.grammar.specs.declared.Sentence.{Sentence}
use Rattle.grammar.specs.Layout.{Word, line, col}
use Rattle.column_search.specs.declared.Flags.{Flags}

-- n words stand at the front of the lent ones, and those past them are unchanged; fewer than n lent
-- ones are left as they were
pub data AtFront (n : ℕ) (ws lent lent' : List ℕ) : Type 0 where
  few : length lent < n → lent' ≡ lent → AtFront n ws lent lent'
  written : n ≤ length lent → lent' ≡ ws ++ drop n lent → AtFront n ws lent lent'

-- terminal, line and column of each token
abbrev pub token_words : Word → List ℕ
token_words [] = []
token_words (t ∷ w) = t.terminal ∷ line t ∷ col t ∷ token_words w

-- a sentence as 22 words: its length and the places of seven tokens
abbrev pub sentence_words : Sentence → List ℕ
sentence_words s = s.count ∷ token_words (take 7 s.tokens)

-- a sentence as these words, and behind them how many candidates were tried
abbrev pub found_words : Sentence → ℕ → List ℕ
found_words s m = sentence_words s ++ (m ∷ [])

-- the row counts of both trees as two words
abbrev pub count_words : ℕ → ℕ → List ℕ
count_words m n = m ∷ n ∷ []

-- a row count as a number: 4,294,967,296 for `more`
abbrev pub count_word : Option ℕ → ℕ
count_word (Some c) = c
count_word None = 4294967296

-- the lowest number, M ÷ p and its remainder as three words
abbrev pub share_words : ℕ → ℕ → ℕ → List ℕ
share_words N q r = N ∷ q ∷ r ∷ []

-- yes is 1, no is 0
abbrev pub flag_word : Bool → ℕ
flag_word true = 1
flag_word false = 0

-- none, one, two
abbrev pub flag_words : Flags → List ℕ
flag_words f = flag_word f.none ∷ flag_word f.one ∷ flag_word f.two ∷ []
