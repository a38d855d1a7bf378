-- What the C functions for the test at every length hand over.
use Rattle.std.specs.Prelude.{Result}
use Rattle.sheets.specs.declared.Refusal.{Refusal}
use Rattle.call_always.specs.declared.Told.{Told}
use Rattle.std.specs.Prelude.{◌≡◌, List, [], ◌∷◌, ℕ}
use Rattle.grammar.specs.Trees.{Rules}
use Rattle.sheets.specs.Items.{Reading}
use Rattle.c_words.specs.Codes.{told_packed}
use Rattle.c_words.specs.Words.{AtFront}
use Rattle.call_always.specs.Always.{AlwaysBy, always_count}

-- the function hands over what the call answers, and the number of entries in a word
pub record AlwaysWord (given : Reading Rules) (words words' list list' n n' : List ℕ) (r : ℕ)
    : Type 0 where
  pub reply : Result Told Refusal
  pub promise : AlwaysBy given words words' list list' reply
  pub entries : AtFront 1 (always_count reply ∷ []) n n'
  pub word : r ≡ told_packed reply
