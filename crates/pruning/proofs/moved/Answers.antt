-- One cell is changed, and its step is at most 2.
use mathlib.Core.Path.{refl, ap}
use Prim.Native.Nat.{ℕ, ◌*◌, ◌/◌, ◌<◌}
use native.Mathlib.Omega.{arith}
use native.Mathlib.Nat.{mod-lt, div-lt_iff_lt-mul}
use Rattle.grammar.specs.declared.Cell.{Cell}
use Rattle.pruning.proofs.CellLaws.{moved_of, low_changed}
use Rattle.pruning.proofs.moved.Goals as goal

-- there are three steps, and n columns
steps : (n k : ℕ) → 0 < n → k < 3 * n → k / n < 3
steps n k pos h = (div-lt_iff_lt-mul pos).1 h

pub overflow_cast-step : goal.overflow_cast-step
overflow_cast-step c = record {
  fits =
      omega (
        arith,
        steps c.args.n c.args.k (omega (arith, c.requires.n_bound))
            c.requires.n_bound.2,
      );
}

pub overflow_add-column : goal.overflow_add-column
overflow_add-column c = record {
  fits = omega (
    arith,
    mod-lt c.args.k
        (let p : 0 < c.args.n = omega (arith, c.requires.n_bound) in p),
    c.requires.n_bound,
  );
}

pub overflow_cast-column : goal.overflow_cast-column
overflow_cast-column c = record {
  fits = omega (
    arith,
    mod-lt c.args.k
        (let p : 0 < c.args.n = omega (arith, c.requires.n_bound) in p),
    c.requires.n_bound,
  );
}

pub returns : goal.returns
returns c =
    let a = c.args in
    let ch = c.with.ensures in
    let l = steps a.n a.k (omega (arith, c.requires.n_bound)) c.requires.n_bound.2 in (
      moved_of a.c c.with.result a.n a.i _ c.requires.n_bound.1 ch a.k
          (ap (λ (x : Cell). x.terminal) c.cell.ensures) refl refl,
      low_changed a.c
          c.with.result a.n a.i _ ch (omega (arith, l)) c.requires.low_steps,
    )
