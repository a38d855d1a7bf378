-- `with_line` meets its contract, by the line's size.
use mathlib.Core.Path.{refl}
use borrow.Author.Tests.{lt-ltb, le-ltb}
use Rattle.c_words.specs.Codes.{with_line_of}
use Rattle.c_words.proofs.with_line.Goals as goal

pub returns-then-line-lt4294967295 : goal.returns-then-line-lt4294967295
unfolding with_line_of
returns-then-line-lt4294967295 c = rw (lt-ltb _ _ c.if-line-lt4294967295.true) refl

pub returns : goal.returns
unfolding with_line_of
returns c = rw (le-ltb _ _ c.if-line-lt4294967295.false) refl
