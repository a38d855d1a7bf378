-- What stands in the lent output afterwards.
use Rattle.std.specs.Prelude.{List, ℕ}
use Rattle.printing.specs.Printing.{Wrote}

-- the first r bytes are the text for the input, and the others are as they were
pub record Printed {A : Type 0} (Of : A → List ℕ → Type 0) (input : A) (out out' : List ℕ)
    (r : ℕ) : Type 0 where
  pub text : List ℕ
  pub is : Of input text
  pub wrote : Wrote out out' 0 text r
