-- The cases of the bound before the empty line.
use mathlib.Core.Path.{◌≡◌}
use mathlib.Core.Bool.{true, false}
use mathlib.Core.List.{List}
use Prim.Native.Nat.{ℕ, ◌-◌, ◌≤◌, ◌<◌}
use native.Mathlib.Omega.{arith}
use borrow.Author.Tests.{lt-leb, le-leb, eq-eqb, ne_eqb}
use lib.ListN.{length, get_or, take, drop}
use Rattle.std.specs.Prelude.{None}
use Rattle.fields.specs.Pieces.{same_bytes}
use Rattle.fields.specs.Words.{numeral_of}
use Rattle.sweep_text.specs.Bound.{bound_line, bound_of}

pub bound_short : (s : List ℕ) → length s < 7 → None ≡ bound_of s
bound_short s h = simp (lt-leb 7 (length s) h)

module _ (s : List ℕ) (h : 7 ≤ length s) where
  pub bound_names : same_bytes (take 6 s) bound_line ≡ false → None ≡ bound_of s
  bound_names e = simp (le-leb 7 (length s) h, e)

  pub bound_open : same_bytes (take 6 s) bound_line ≡ true → (get_or s (length s - 1) 0 ≡ 10 → ⊥)
      → None ≡ bound_of s
  bound_open e n = simp (le-leb 7 (length s) h, e, ne_eqb (get_or s (length s - 1) 0) 10 n)

  pub bound_there : same_bytes (take 6 s) bound_line ≡ true → get_or s (length s - 1) 0 ≡ 10
      → numeral_of (take (length s - 1 - 6) (drop 6 s)) ≡ bound_of s
  bound_there e n =
      let d : length s - 1 - 6 ≡ length s - 7 = omega arith in
      rw (d, le-leb 7 (length s) h, e, eq-eqb (get_or s (length s - 1) 0) 10 n)
