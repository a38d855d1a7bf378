-- What an array of tokens says is as long as its count.
use mathlib.Core.Path.{◌≡◌}
use Prim.Native.Nat.{◌≤◌}
use native.Mathlib.Omega.{arith}
use lib.ListN.{length}
use lib.Seq.{length-take-le}
use Rattle.grammar.specs.Sentences.{spelled}
use Rattle.grammar.specs.declared.Sentence.{Sentence}

-- the array of tokens has 64 places
pub whole : (s : Sentence) → length s.tokens ≡ 64 → s.count ≤ 64 → length (spelled s) ≡ s.count
whole s long h = length-take-le s.count s.tokens (omega arith)
