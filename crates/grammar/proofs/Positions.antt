-- Whether a token comes after another is decided, by a decision that antt computes.
use Prim.Native.Nat.{suc, ◌+◌}
use mathlib.Core.Logic.{inl, inr}
use mathlib.Core.Path.{◌∙◌}
use native.Mathlib.Omega.{arith}
use Rattle.grammar.specs.declared.Token.{Token}
use Rattle.grammar.specs.Layout.{line, col, width}
use Rattle.grammar.specs.Candidates.{After}
use Rattle.grammar.proofs.Lists.{eq?, le?, both?, or?}

abbrev pub after? : (a b : Token) → Dec (After a b)
after? a b = or? (le? (suc (line a)) (line b))
    (both? (eq? (line a) (line b)) (le? (col a + width a) (col b)))

pub after_then : (a b c : Token) → After a b → After b c → After a c
after_then a b c (inl x) (inl y) = inl (omega arith)
after_then a b c (inl x) (inr y) = inl (omega (arith, y.0))
after_then a b c (inr x) (inl y) = inl (omega (arith, x.0))
after_then a b c (inr x) (inr y) = inr (x.0 ∙ y.0, omega (arith, x.1, y.1))
