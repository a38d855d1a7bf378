-- `candidates::advance` meets its contract, by the laws of the next and the last cell: a column, a
-- step or a terminal further.
use Prim.Native.Nat.{ℕ, ◌+◌, ◌≤◌, ◌<◌}
use native.Mathlib.Omega.{arith}
use native.Mathlib.Decide.{dec_le}
use Rattle.std.specs.Prelude.{Some}
use Rattle.sets.specs.Firsts.{FirstFrom}
use Rattle.candidates.specs.Terminals.{Among}
use Rattle.candidates.proofs.CellOrder.{advance_column, advance_step, advance_terminal}
use Rattle.candidates.proofs.CellOrder.{last_cell}
use Rattle.candidates.proofs.advance.Goals as goal

found_at : (set t u : ℕ) → FirstFrom set (t + 1) (Some u)
    → (t < u) × Among set u × ((x : ℕ) → Among set x → x < u → x ≤ t)
found_at set t u k = (
  omega (arith, k.0),
  (k.1, k.2),
  λ x q l. elim (dec_le x t)
      [ yes y ↦ y | no y ↦ absurd (omega (arith, k.3 x q.1 (omega arith))) ],
)

pub returns-then-k-n : goal.returns-then-k-n
returns-then-k-n c = advance_column _ _ _ _ _ c.requires.fits (omega (arith, c.if-k-n.true))

pub returns-then-s-m : goal.returns-then-s-m
returns-then-s-m c = advance_step _ _ _ _ _ c.requires.fits
    (omega (arith, c.if-k-n.false)) c.if-s-m.true

pub returns-in_err-u : goal.returns-in_err-u
returns-in_err-u c = rw c.from_residual.ensures
    (last_cell _ _ _ _ _ c.requires.fits
    (omega (arith, c.if-k-n.false)) c.if-s-m.false
    (λ x q. omega (arith, c.in_err-u.ensures x q.0 q.1)))

pub returns : goal.returns
returns c =
    let h = found_at _ _ _ c.in_ok-u.ensures in
    advance_terminal _ _ _ _ _ c.requires.fits
    (omega (arith, c.if-k-n.false)) c.if-s-m.false _ _ _ h.1
    (omega (arith, h.0)) h.2 c.least_spot-w.ensures
