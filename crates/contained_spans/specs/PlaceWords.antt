-- Words that say where places are: one word a pair of the span sheet.
use Rattle.std.specs.Prelude.{List, ◌↔◌, ℕ, ◌+◌, ◌≤◌, length}
use Rattle.grammar.specs.Layout.{Word}
use Rattle.grammar.specs.Trees.{Rules}
use Rattle.grammar.specs.Rows.{start_of}
use Rattle.grammar.specs.SpanSheet.{pairs}
use Rattle.places.specs.Places.{Place}
use Rattle.contained_spans.specs.Reached.{Bit}

-- bit A of a span's word is 1 exactly if A is a place of w over the span
pub record PlaceWords (g : Rules) (w : Word) (ps : List ℕ) : Type 0 where
  pub enough : pairs (length w) ≤ length ps
  pub is : (s len A : ℕ) → s + len ≤ length w
      → Bit ps (length w) s len A ↔ Place g w A (start_of s len) len
