-- `call_shares::divided` meets its contract: 45, 46 and 21 by their tests, else the share.
use mathlib.Core.Path.{refl}
use mathlib.Core.Logic.{inl, inr}
use native.Mathlib.Omega.{arith}
use Rattle.sheets.proofs.Exits.{no_line}
use Rattle.call_shares.specs.Share.{racks, beyond, short}
use Rattle.call_shares.proofs.divided.Goals as goal

pub returns-then-p-eq0 : goal.returns-then-p-eq0
returns-then-p-eq0 c = racks c.requires.length (inl (omega arith)) refl
    (no_line c.into.ensures) refl

pub returns-then-p-gt64 : goal.returns-then-p-gt64
returns-then-p-gt64 c = racks c.requires.length (inr (omega arith)) refl
    (no_line c.into-then-p-gt64.ensures) refl

pub returns-then-p-i : goal.returns-then-p-i
returns-then-p-i c = beyond c.requires.length (omega arith) (omega arith)
    (omega arith) refl (no_line c.into-then-p-i.ensures) refl

pub returns-then-words-size : goal.returns-then-words-size
returns-then-words-size c =
    short c.requires.length (omega arith)
    (omega arith) (omega arith) (rw c.size.ensures at
    c.if-words-size.true) refl (no_line c.into-then-words-size.ensures) refl

pub taken-requires : goal.taken-requires
taken-requires c = record {
  formed = c.requires.formed;
  share_taken = record {
    size = c.requires.length;
    least = omega arith;
    most = omega arith;
    below = omega
        arith;
    enough = omega (arith, c.size.ensures, c.if-words-size.false);
  };
}
