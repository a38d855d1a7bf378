-- What both sheets give.
use Rattle.std.specs.Prelude.{List, ℕ}
use Rattle.grammar.specs.Layout.{Word}
use Rattle.grammar.specs.Trees.{Rules}
use Rattle.sheets.specs.Items.{Reading, accepted, refused}
use Rattle.sheets.specs.RuleSheets.{rule_sheet}
use Rattle.sheets.specs.TokenSheets.{token_sheet}

-- both sheets give the rules and the word, or the first refusal, those of the rule sheet before
-- those of the token sheet
abbrev pub Sheets : Type 0
Sheets = Reading (Rules × Word)

abbrev pub with_tokens : Rules → Reading Word → Sheets
with_tokens g (accepted w) = accepted (g, w)
with_tokens g (refused n l) = refused n l

abbrev pub with_rules : Reading Rules → List ℕ → Sheets
with_rules (accepted g) tokens = with_tokens g (token_sheet tokens)
with_rules (refused n l) tokens = refused n l

abbrev pub sheets : List ℕ → List ℕ → Sheets
sheets rules tokens = with_rules (rule_sheet rules) tokens
