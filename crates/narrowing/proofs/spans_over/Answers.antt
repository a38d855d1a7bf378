use Prim.Native.Nat.{◌+◌, ◌-◌}
use native.Mathlib.Omega.{arith}
use native.Mathlib.Nat.{mul-le-mul}
use Rattle.narrowing.proofs.spans_over.Goals as goal

pub overflow_mul-result : goal.overflow_mul-result
overflow_mul-result c =
    record {
      fits = let m = mul-le-mul {n₁ = c.args.k + 1} {m₁ = c.args.n - c.args.k}
          {n₂ = 64} {m₂ = 64} (omega (arith, c.requires)) (omega (arith, c.requires)) in
          omega (arith, m);
    }
