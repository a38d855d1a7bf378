-- What the calls that fill a span sheet promise.
use Rattle.std.specs.Prelude.{◌≡◌, Bool, true, List, ◌↔◌, ℕ, ◌+◌, ◌*◌, ◌≤◌, ◌<◌, length}
use Rattle.sets.specs.Sets.{In}
use Rattle.grammar.specs.Layout.{Word}
use Rattle.grammar.specs.Trees.{Rules, Derives, TwoTrees}
use Rattle.grammar.specs.SpanSheet.{part, pairs, first_word, second_word, SpanSheet}
use Rattle.marks.specs.Half.{Half, Completes, token_at}
use Rattle.spans.specs.Changes.{Past}
use Rattle.chart.specs.Openness.{Open}
use Rattle.chart.specs.Leaves.{LeafAt, May}
use Rattle.chart.specs.Filling.{Given}
use Rattle.grammar.specs.declared.Verdict.{Verdict}
use Rattle.grammar.specs.Verdicts.{Holds}

-- of the spans of w that end at or before token `to`, the words ws, as a span sheet of n tokens,
-- say exactly what has a valid tree and what has two
pub record Exact (g : Rules) (w : Word) (n : ℕ) (ws : List ℕ) (to : ℕ) : Type 0 where
  pub one : (s len A : ℕ) → s + len ≤ to → In (first_word ws n s len) A ↔ Derives g A (part w s len)
  pub two : (s len A : ℕ) → s + len ≤ to
      → In (second_word ws n s len) A ↔ TwoTrees g A (part w s len)

-- the pairs of the empty word and of w's single tokens are right; the words past the sheet are as
-- they were
pub record Begun (ws ws' : List ℕ) (g : Rules) (w : Word) (n : ℕ) : Type 0 where
  pub empty : Exact g w n ws' 0
  pub leaves : (i : ℕ) → i < n → LeafAt g n ws' i (token_at w i).terminal
  pub past : Past (2 * pairs n) ws ws'

-- a sheet may be filled anew but for the spans that end at or before `from` and those that begin at
-- or past `to`: these are right for h, and so are the pairs of the known tokens
pub record Ready (g : Rules) (h : Half) (n : ℕ) (ws : List ℕ) (from to : ℕ) : Type 0 where
  pub low : from ≤ h.known
  pub high : h.known ≤ to
  pub within : to ≤ n
  pub right : Exact g h.word n ws from
  pub leaves : (i : ℕ) → i < h.known → LeafAt g n ws i (token_at h.word i).terminal
  pub beyond : Open g n ws to

-- w completes h, and the pairs of h's open tokens allow for its terminals
pub record Meets (g : Rules) (h : Half) (n : ℕ) (ws : List ℕ) (w : Word) : Type 0 where
  pub completes : Completes h w
  pub allows : (i : ℕ) → h.known ≤ i → i < length w → May g n ws i (token_at w i).terminal

-- what has a tree, or two, in a word that meets h is in the words
pub record CoversMet (g : Rules) (h : Half) (n : ℕ) (ws : List ℕ) : Type 0 where
  pub one : (w : Word) → Meets g h n ws w → (s len A : ℕ) → s + len ≤ length w
      → Derives g A (part w s len) → In (first_word ws n s len) A
  pub two : (w : Word) → Meets g h n ws w → (s len A : ℕ) → s + len ≤ length w
      → TwoTrees g A (part w s len) → In (second_word ws n s len) A

-- the span sheet of a half-known word: exact as far as it is known, and missing nothing of the rest
pub record Charted (ws ws' : List ℕ) (g : Rules) (h : Half) (n : ℕ) : Type 0 where
  pub exact : Exact g h.word n ws' h.known
  pub covers : CoversMet g h n ws'
  pub given : Given ws ws' n
  pub beyond : Open g n ws' h.known
  pub past : Past (2 * pairs n) ws ws'

-- the verdict on a sentence, and its span sheet
pub record Judged (r : Verdict) (g : Rules) (w : Word) (n : ℕ) (ws ws' : List ℕ) : Type 0 where
  pub verdict : Holds r g 0 w
  pub sheet : SpanSheet g w ws'
  pub past : Past (2 * pairs n) ws ws'

-- no word that meets h by the words ws has two trees
pub record Hopeless (g : Rules) (h : Half) (n : ℕ) (ws : List ℕ) : Type 0 where
  pub absent : (w : Word) → Meets g h n ws w → TwoTrees g 0 w → ⊥

-- true: no word that meets h has two trees
pub record Settles (r : Bool) (g : Rules) (h : Half) (n : ℕ) (ws ws' : List ℕ) : Type 0 where
  pub absent : r ≡ true → Hopeless g h n ws
  pub right : Exact g h.word n ws' h.known
  pub given : Given ws ws' n
  pub beyond : Open g n ws' h.known
  pub past : Past (2 * pairs n) ws ws'
