-- `fields::Cursor::line` meets its contract: the line ends where the next piece does.
use mathlib.Core.Path.{ap}
use Prim.Native.Nat.{ℕ}
use Rattle.fields.specs.declared.Cursor.{Cursor}
use Rattle.fields.proofs.Cursor.line.Goals as goal

pub returns : goal.returns
returns c =
    let f : ℕ → Cursor = λ (e : ℕ). record { at = c.args.at; end = e } in
    ap f c.piece_end-end.ensures
