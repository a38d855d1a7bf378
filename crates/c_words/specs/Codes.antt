-- Answers as numbers, and with their line.
use Rattle.std.specs.Prelude.{cond, ℕ, ◌+◌, ◌*◌, ltb, Result, Ok, Err}
use Rattle.sheets.specs.Refusals.{number_of}
use Rattle.sheets.specs.declared.Answer.{Answer}
use Rattle.sheets.specs.declared.Fault.{Fault}
use Rattle.sheets.specs.declared.Refusal.{Refusal}
use Rattle.call_always.specs.declared.Told.{Told}

-- an answer's code: 0 none, 1 one, 2 two, 3 clear, 4 given, 100 + N refused-N
abbrev pub code_of : Answer → ℕ
code_of Answer.None = 0
code_of Answer.One = 1
code_of Answer.Two = 2
code_of Answer.Clear = 3
code_of Answer.Given = 4
code_of (Answer.Refused f) = 100 + number_of f

-- the code of what the test at every length tells: 3 clear, 5 unknown, 100 + N refused-N
abbrev pub told_code : Result Told Fault → ℕ
told_code (Ok Told.Clear) = 3
told_code (Ok (Told.Unknown n)) = 5
told_code (Err f) = 100 + number_of f

-- a code times 2^32 plus a line's number; a line past the greatest number of 32 bits counts as that
unfoldable pub with_line_of : ℕ → ℕ → ℕ
with_line_of c l = c * 4294967296 + cond (ltb l 4294967295) l 4294967295

abbrev pub packed : Answer → ℕ → ℕ
packed a = with_line_of (code_of a)

abbrev pub test_packed : Result Told Fault → ℕ → ℕ
test_packed t = with_line_of (told_code t)

-- the same of a call's result: its refused line, or 0
abbrev pub told_packed : Result Told Refusal → ℕ
told_packed (Ok t) = test_packed (Ok t) 0
told_packed (Err e) = test_packed (Err e.fault) e.line
