-- For inner functions: what a sheet with rules gives, by what its reader answered.
use Rattle.std.specs.Prelude.{Result}
use Rattle.grammar.specs.Content.{rules_of}
use Rattle.lengths.specs.declared.Book.{Book}
use Rattle.sheets.specs.declared.Refusal.{Refusal}
use Rattle.sheets.specs.Items.{Reading}
use Rattle.sheets.specs.Promises.{reading_of}
use Rattle.grammar.specs.Trees.{Rules}

abbrev pub told : Result Book Refusal → Reading Rules
told = reading_of (λ b. rules_of b.grammar)
