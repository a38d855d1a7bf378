-- How a caller reads the packed number: its upper 32 bits are the code, its lower ones the line.
use mathlib.Core.Path.{◌≡◌}
use Prim.Native.Nat.{ℕ, ◌+◌, ◌*◌, ◌/◌, ◌%◌, ◌<◌}
use native.Mathlib.Omega.{arith}
use native.Mathlib.Decide.{dec_lt}
use borrow.Author.Tests.{lt-ltb, le-ltb}
use Rattle.sheets.specs.declared.Answer.{Answer}
use Rattle.c_words.specs.Codes.{code_of, with_line_of, packed}

upper : (c l : ℕ) → l < 4294967296 → (c * 4294967296 + l) / 4294967296 ≡ c
upper c l h = omega arith

pub code-of : (a : Answer) (l : ℕ) → packed a l / 4294967296 ≡ code_of a
unfolding with_line_of
code-of a l = elim (dec_lt l 4294967295) [
  | yes h ↦ rw (lt-ltb l 4294967295 h) (upper (code_of a) l (omega arith))
  | no h ↦ rw (le-ltb l 4294967295 (omega arith)) (upper (code_of a) 4294967295 (omega arith))
]

pub line_of : (a : Answer) (l : ℕ) → l < 4294967295 → packed a l % 4294967296 ≡ l
unfolding with_line_of
line_of a l h = rw (lt-ltb l 4294967295 h) (omega arith)
