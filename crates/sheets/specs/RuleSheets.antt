-- What a rule sheet says: its rules, or the refusal with its line. docs/FORMAT.md, refusals 1 to 7,
-- and 44.
use Rattle.std.specs.Prelude.{ℕ, List, [], ◌∷◌, Bool, cond, eqb}
use Rattle.std.specs.List.{list_any}
use Rattle.grammar.specs.declared.Rule.{Rule}
use Rattle.grammar.specs.Trees.{Rules}
use Rattle.fields.specs.Pieces.{pieces}
use Rattle.std.specs.Prelude.{Result, Ok, Err}
use Rattle.lines.specs.declared.RuleFault.{RuleFault}
use Rattle.lines.specs.RuleLines.{rule_line_of}
use Rattle.lines.specs.declared.Key.{Key}
use Rattle.lines.specs.Keys.{key_of, same_key_of}
use Rattle.sheets.specs.Items.{Reading, accepted, refused, Step, next, stop, line_step_of}
use Rattle.sheets.specs.Items.{items_from, with_names}

-- a rule has the key
abbrev pub has_key : Key → Rule → Bool
has_key k r = same_key_of (key_of r) k

-- nonterminal 0 is the start
abbrev pub is_start : Rule → Bool
is_start r = eqb r.left 0

-- some member passes the test
abbrev pub any_of : {A : Type 0} → (A → Bool) → List A → Bool
any_of = list_any

-- 5: an earlier line has the same left, kind, first and second, under any lay; of kind A, the same
-- left and a terminal of this one
abbrev pub fresh_step : Rules → Rule → Step Rule
fresh_step seen r = cond (any_of (has_key (key_of r)) seen) (stop 5) (next r)

-- 2, 3, 4, 44, 5
abbrev pub rule_said_of : Rules → Result Rule RuleFault → Step Rule
rule_said_of seen (Err RuleFault.Form) = stop 2
rule_said_of seen (Err RuleFault.Range) = stop 3
rule_said_of seen (Err RuleFault.Unfit) = stop 4
rule_said_of seen (Err RuleFault.Reversed) = stop 44
rule_said_of seen (Ok r) = fresh_step seen r

abbrev pub rule_says : Rules → List ℕ → Step Rule
rule_says seen line = rule_said_of seen (rule_line_of line)

-- a rule line after the rules seen: 6 (a 129th rule), then 2, 3, 4, 44, 5
abbrev pub rule_step : Rules → List ℕ → Bool → Step Rule
rule_step = line_step_of 128 6 2 rule_says

-- at the end: 7 (no rule has left 0)
abbrev pub finish : Reading Rules → Reading Rules
finish (accepted w) = cond (any_of is_start w) (accepted w) (refused 7 0)
finish (refused f l) = refused f l

-- the rule lines, then the end
abbrev pub rules_from : List (List ℕ) → Reading Rules
rules_from ps = finish (items_from rule_step [] ps)

-- left kind first second lay
abbrev pub rule_names : List ℕ
rule_names =
    108 ∷ 101 ∷ 102 ∷ 116 ∷ 32 ∷ 107 ∷ 105 ∷ 110 ∷ 100 ∷ 32 ∷ 102 ∷ 105 ∷ 114 ∷ 115 ∷ 116 ∷ 32 ∷ 115
    ∷ 101 ∷ 99 ∷ 111 ∷ 110 ∷ 100 ∷ 32
    ∷ 108 ∷ 97 ∷ 121 ∷ []

-- 1, then line by line, then 7
abbrev pub rule_sheet : List ℕ → Reading Rules
rule_sheet s = with_names (refused 1 1) rule_names (pieces 10 s) rules_from
