-- `answered` meets its contract: 21 by the words' number, else the list of doubts.
use mathlib.Core.Path.{refl}
use native.Mathlib.Omega.{arith}
use Rattle.sheets.proofs.Exits.{no_line}
use Rattle.call_always.specs.Always.{short, listing}
use borrow.Author.Rules.{rules}
use Rattle.call_always.proofs.answered.Goals as goal

pub tell-requires : goal.tell-requires
tell-requires c = record { formed = search rules; in_bounds = omega arith }

pub returns : goal.returns
returns c =
    let x = c.tell.ensures in
    listing (omega arith) x.doubts_told.doubts refl x.doubts_told.gives x.words_after

pub returns-then-words-lt73728 : goal.returns-then-words-lt73728
returns-then-words-lt73728 c = short (omega arith) refl (no_line c.into.ensures) refl refl
