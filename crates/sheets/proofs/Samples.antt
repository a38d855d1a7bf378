-- The definitions at sheets that are written out: they compute.
use mathlib.Core.Path.{◌≡◌, refl}
use mathlib.Core.List.{[], ◌∷◌, ◌++◌}
use Rattle.sheets.specs.Items.{accepted, refused}
use Rattle.sheets.specs.RuleSheets.{rule_names, rule_sheet}
use Rattle.sheets.specs.TokenSheets.{token_names, wide_names, token_sheet}

-- a sheet of no bytes has an empty line 1
no_rules : rule_sheet [] ≡ refused 1 1
no_rules = refl

no_tokens : token_sheet [] ≡ refused 11 1
no_tokens = refl

-- the names alone
names_alone : rule_sheet (rule_names ++ 10 ∷ []) ≡ refused 7 0
names_alone = refl

-- 2 comes before 3: a number stands where `-` belongs: 0 E 64 - none
shape : rule_sheet (rule_names ++ 10 ∷ 48 ∷ 32 ∷ 69 ∷ 32 ∷ 54 ∷ 52 ∷ 32 ∷ 45 ∷ 32 ∷ 110 ∷ 111 ∷ 110
    ∷ 101 ∷ 10 ∷ []) ≡ refused 2 2
shape = refl

-- 3 comes before 4: 64 E - - align
range : rule_sheet (rule_names ++ 10 ∷ 54 ∷ 52 ∷ 32 ∷ 69 ∷ 32 ∷ 45 ∷ 32 ∷ 45 ∷ 32 ∷ 97 ∷ 108 ∷ 105
    ∷ 103 ∷ 110 ∷ 10 ∷ []) ≡ refused 3 2
range = refl

-- lay not allowed for the kind: 0 E - - align
lay : rule_sheet (rule_names ++ 10 ∷ 48 ∷ 32 ∷ 69 ∷ 32 ∷ 45 ∷ 32 ∷ 45 ∷ 32 ∷ 97 ∷ 108 ∷ 105 ∷ 103
    ∷ 110 ∷ 10 ∷ []) ≡ refused 4 2
lay = refl

-- the same rule under another lay: 0 U 1 - none; 0 U 1 - single
twice : rule_sheet (rule_names ++ 10 ∷ 48 ∷ 32 ∷ 85 ∷ 32 ∷ 49 ∷ 32 ∷ 45 ∷ 32 ∷ 110 ∷ 111 ∷ 110 ∷ 101
    ∷ 10 ∷ 48 ∷ 32 ∷ 85 ∷ 32 ∷ 49 ∷ 32 ∷ 45 ∷ 32 ∷ 115 ∷ 105 ∷ 110 ∷ 103 ∷ 108 ∷ 101 ∷ 10 ∷ [])
    ≡ refused 5 3
twice = refl

-- numbers filled out by zeros count by their values: 0 A 0064 - none; 0 U 1 - none and 0 U 001 -
-- none; but six digits are none
padded : rule_sheet (rule_names ++ 10 ∷ 48 ∷ 32 ∷ 65 ∷ 32 ∷ 48 ∷ 48 ∷ 54 ∷ 52 ∷ 32 ∷ 45 ∷ 32 ∷ 110
    ∷ 111 ∷ 110 ∷ 101 ∷ 10 ∷ []) ≡ refused 3 2
padded = refl

padded_twice : rule_sheet (rule_names ++ 10 ∷ 48 ∷ 32 ∷ 85 ∷ 32 ∷ 49 ∷ 32 ∷ 45 ∷ 32 ∷ 110 ∷ 111
    ∷ 110
    ∷ 101 ∷ 10 ∷ 48 ∷ 32 ∷ 85 ∷ 32 ∷ 48 ∷ 48 ∷ 49 ∷ 32 ∷ 45 ∷ 32 ∷ 110 ∷ 111 ∷ 110 ∷ 101 ∷ 10 ∷ [])
    ≡ refused 5 3
padded_twice = refl

padded_much : rule_sheet (rule_names ++ 10 ∷ 48 ∷ 32 ∷ 65 ∷ 32 ∷ 48 ∷ 48 ∷ 48 ∷ 48 ∷ 48 ∷ 49 ∷ 32
    ∷ 45
    ∷ 32 ∷ 110 ∷ 111 ∷ 110 ∷ 101 ∷ 10 ∷ []) ≡ refused 2 2
padded_much = refl

-- 0064 1 1
padded_token : token_sheet (token_names ++ 10 ∷ 48 ∷ 48 ∷ 54 ∷ 52 ∷ 32 ∷ 49 ∷ 32 ∷ 49 ∷ 10 ∷ [])
    ≡ refused 13 2
padded_token = refl

-- 44: 0 A 2 1 none; but 4 comes first: 0 A 2 1 align
reversed : rule_sheet (rule_names ++ 10 ∷ 48 ∷ 32 ∷ 65 ∷ 32 ∷ 50 ∷ 32 ∷ 49 ∷ 32 ∷ 110 ∷ 111 ∷ 110
    ∷ 101 ∷ 10 ∷ []) ≡ refused 44 2
reversed = refl

reversed_lay : rule_sheet (rule_names ++ 10 ∷ 48 ∷ 32 ∷ 65 ∷ 32 ∷ 50 ∷ 32 ∷ 49 ∷ 32 ∷ 97 ∷ 108 ∷ 105
    ∷ 103 ∷ 110 ∷ 10 ∷ []) ≡ refused 4 2
reversed_lay = refl

-- a shared terminal: 0 A 1 3 none; 0 A 003 - none
shared : rule_sheet (rule_names ++ 10 ∷ 48 ∷ 32 ∷ 65 ∷ 32 ∷ 49 ∷ 32 ∷ 51 ∷ 32 ∷ 110 ∷ 111 ∷ 110
    ∷ 101
    ∷ 10 ∷ 48 ∷ 32 ∷ 65 ∷ 32 ∷ 48 ∷ 48 ∷ 51 ∷ 32 ∷ 45 ∷ 32 ∷ 110 ∷ 111 ∷ 110 ∷ 101 ∷ 10 ∷ [])
    ≡ refused 5 3
shared = refl

-- two blanks: an empty field: 0 E -  - none
parted : rule_sheet (rule_names ++ 10 ∷ 48 ∷ 32 ∷ 69 ∷ 32 ∷ 45 ∷ 32 ∷ 32 ∷ 45 ∷ 32 ∷ 110 ∷ 111 ∷ 110
    ∷ 101 ∷ 10 ∷ []) ≡ refused 2 2
parted = refl

-- the names alone: no tokens
empty : token_sheet (token_names ++ 10 ∷ []) ≡ accepted []
empty = refl

-- 0 1 1
one : token_sheet (token_names ++ 10 ∷ 48 ∷ 32 ∷ 49 ∷ 32 ∷ 49 ∷ 10 ∷ [])
    ≡ accepted (record {
      terminal = 0;
      line = record { 0 = 1 };
      column = record { 0 = 1 };
      width = record { 0 = 1 };
    } ∷ [])
one = refl

-- 0 1 1, not ended
open_line : token_sheet (token_names ++ 10 ∷ 48 ∷ 32 ∷ 49 ∷ 32 ∷ 49 ∷ []) ≡ refused 12 2
open_line = refl

-- one byte 10 too many
ten_too_many : token_sheet (token_names ++ 10 ∷ 48 ∷ 32 ∷ 49 ∷ 32 ∷ 49 ∷ 10 ∷ 10 ∷ [])
    ≡ refused 12 3
ten_too_many = refl

-- 0 0 1
low : token_sheet (token_names ++ 10 ∷ 48 ∷ 32 ∷ 48 ∷ 32 ∷ 49 ∷ 10 ∷ []) ≡ refused 13 2
low = refl

-- 0 1 2; 0 1 2
order : token_sheet (token_names ++ 10 ∷ 48 ∷ 32 ∷ 49 ∷ 32 ∷ 50 ∷ 10 ∷ 48 ∷ 32 ∷ 49 ∷ 32 ∷ 50 ∷ 10
    ∷ []) ≡ refused 15 3
order = refl

-- under the names with `width`, 0 1 1 9; 0 1 10 1: the second begins where the first ends
side_by_side : token_sheet (wide_names ++ 10 ∷ 48 ∷ 32 ∷ 49 ∷ 32 ∷ 49 ∷ 32 ∷ 57 ∷ 10 ∷ 48 ∷ 32 ∷ 49
    ∷ 32 ∷ 49 ∷ 48 ∷ 32 ∷ 49 ∷ 10 ∷ [])
    ≡ accepted (record {
      terminal = 0;
      line = record { 0 = 1 };
      column = record { 0 = 1 };
      width = record { 0 = 9 };
    } ∷ record {
      terminal = 0;
      line = record { 0 = 1 };
      column = record
          { 0 = 10 };
      width = record { 0 = 1 };
    } ∷ [])
side_by_side = refl

-- 0 1 1 9; 0 1 9 1: the first reaches into the second
overlap : token_sheet (wide_names ++ 10 ∷ 48 ∷ 32 ∷ 49 ∷ 32 ∷ 49 ∷ 32 ∷ 57 ∷ 10 ∷ 48 ∷ 32 ∷ 49 ∷ 32
    ∷ 57 ∷ 32 ∷ 49 ∷ 10 ∷ []) ≡ refused 15 3
overlap = refl

-- 47 comes before 15: 0 1 2 1; 0 1 1 0
no_width : token_sheet (wide_names ++ 10 ∷ 48 ∷ 32 ∷ 49 ∷ 32 ∷ 50 ∷ 32 ∷ 49 ∷ 10 ∷ 48 ∷ 32 ∷ 49 ∷ 32
    ∷ 49 ∷ 32 ∷ 48 ∷ 10 ∷ []) ≡ refused 47 3
no_width = refl

-- 13 comes before 47: 0 0 1 0
width_later : token_sheet (wide_names ++ 10 ∷ 48 ∷ 32 ∷ 48 ∷ 32 ∷ 49 ∷ 32 ∷ 48 ∷ 10 ∷ [])
    ≡ refused 13 2
width_later = refl

-- column plus width 65,536, then 65,537: 0 1 65281 255; 0 2 65282 255
edge : token_sheet (wide_names ++ 10 ∷ 48 ∷ 32 ∷ 49 ∷ 32 ∷ 54 ∷ 53 ∷ 50 ∷ 56 ∷ 49 ∷ 32 ∷ 50 ∷ 53
    ∷ 53
    ∷ 10 ∷ 48 ∷ 32 ∷ 50 ∷ 32 ∷ 54 ∷ 53 ∷ 50 ∷ 56 ∷ 50 ∷ 32 ∷ 50 ∷ 53 ∷ 53 ∷ 10 ∷ []) ≡ refused 47 3
edge = refl

-- three numbers under the names with `width`, and four under the old ones
few_numbers : token_sheet (wide_names ++ 10 ∷ 48 ∷ 32 ∷ 49 ∷ 32 ∷ 49 ∷ 10 ∷ []) ≡ refused 12 2
few_numbers = refl

many_numbers : token_sheet (token_names ++ 10 ∷ 48 ∷ 32 ∷ 49 ∷ 32 ∷ 49 ∷ 32 ∷ 49 ∷ 10 ∷ [])
    ≡ refused 12 2
many_numbers = refl
