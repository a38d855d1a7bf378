-- What the C function for the expanded rule sheet hands over.
use Rattle.std.specs.Prelude.{Result}
use Rattle.sheets.specs.declared.Refusal.{Refusal}
use Rattle.sheets.specs.Results.{told_line}
use Rattle.list_answers.specs.Lists.{list_told, entry_count}
use Rattle.std.specs.Prelude.{◌≡◌, List, [], ◌∷◌, ℕ}
use Rattle.c_words.specs.Codes.{packed}
use Rattle.c_words.specs.Words.{AtFront}
use Rattle.call_clauses.specs.Expand.{ExpandOf}

-- `teplonga_expand` hands over what `expand` answers, and the number of bytes in a word
pub record ExpandWord (clauses sheet sheet' count count' : List ℕ) (r : ℕ) : Type 0 where
  pub reply : Result ℕ Refusal
  pub promise : ExpandOf clauses sheet sheet' reply
  pub bytes : AtFront 1 (entry_count reply ∷ []) count count'
  pub word : r ≡ packed (list_told reply) (told_line reply)
