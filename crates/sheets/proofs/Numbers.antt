-- A refusal's number has at most two digits, and tells the refusal.
use mathlib.Core.Path.{◌≡◌, refl, sym, ap, ◌∙◌}
use mathlib.Core.Bool.{cond}
use lib.Dec.{eqb}
use Prim.Native.Nat.{ℕ, ◌<◌}
use native.Mathlib.Omega.{arith}
use Rattle.sheets.specs.declared.Fault.{Fault}
use Rattle.sheets.specs.Refusals.{number_of}

pub number_small : (f : Fault) → number_of f < 100
number_small Fault.RuleNames = omega arith
number_small Fault.RuleMany = omega arith
number_small Fault.RuleForm = omega arith
number_small Fault.RuleRange = omega arith
number_small Fault.RuleLay = omega arith
number_small Fault.RuleReversed = omega arith
number_small Fault.RuleTwice = omega arith
number_small Fault.NoStart = omega arith
number_small Fault.ClauseForm = omega arith
number_small Fault.ClauseDeep = omega arith
number_small Fault.ClauseMany = omega arith
number_small Fault.TokenNames = omega arith
number_small Fault.TokenMany = omega arith
number_small Fault.TokenForm = omega arith
number_small Fault.TokenRange = omega arith
number_small Fault.TokenWidth = omega arith
number_small Fault.TokenOrder = omega arith
number_small Fault.RangeEnds = omega arith
number_small Fault.ManyChoices = omega arith
number_small Fault.Rights = omega arith
number_small Fault.NoRight = omega arith
number_small Fault.BadBound = omega arith
number_small Fault.ManyCandidates = omega arith
number_small Fault.BadRacks = omega arith
number_small Fault.BadShare = omega arith
number_small Fault.FewWords = omega arith
number_small Fault.FewRows = omega arith

abbrev fault_of_of : ℕ → Fault
fault_of_of n =
    cond (eqb n 1) Fault.RuleNames
    (cond (eqb n 6) Fault.RuleMany
    (cond (eqb n 2) Fault.RuleForm
    (cond (eqb n 3) Fault.RuleRange
    (cond (eqb n 4) Fault.RuleLay
    (cond (eqb n 44) Fault.RuleReversed
    (cond (eqb n 5) Fault.RuleTwice
    (cond (eqb n 7) Fault.NoStart
    (cond (eqb n 41) Fault.ClauseForm
    (cond (eqb n 42) Fault.ClauseDeep
    (cond (eqb n 43) Fault.ClauseMany
    (cond (eqb n 11) Fault.TokenNames
    (cond (eqb n 14) Fault.TokenMany
    (cond (eqb n 12) Fault.TokenForm
    (cond (eqb n 13) Fault.TokenRange
    (cond (eqb n 47) Fault.TokenWidth
    (cond (eqb n 15) Fault.TokenOrder
    (cond (eqb n 48) Fault.RangeEnds
    (cond (eqb n 49) Fault.ManyChoices
    (cond (eqb n 50) Fault.Rights
    (cond (eqb n 51) Fault.NoRight
    (cond (eqb n 23) Fault.BadBound
    (cond (eqb n 24) Fault.ManyCandidates
    (cond (eqb n 45) Fault.BadRacks
    (cond (eqb n 46) Fault.BadShare
    (cond (eqb n 21) Fault.FewWords
    (Fault.FewRows))))))))))))))))))))))))))

fault_of : (f : Fault) → fault_of_of (number_of f) ≡ f
fault_of Fault.RuleNames = refl
fault_of Fault.RuleMany = refl
fault_of Fault.RuleForm = refl
fault_of Fault.RuleRange = refl
fault_of Fault.RuleLay = refl
fault_of Fault.RuleReversed = refl
fault_of Fault.RuleTwice = refl
fault_of Fault.NoStart = refl
fault_of Fault.ClauseForm = refl
fault_of Fault.ClauseDeep = refl
fault_of Fault.ClauseMany = refl
fault_of Fault.TokenNames = refl
fault_of Fault.TokenMany = refl
fault_of Fault.TokenForm = refl
fault_of Fault.TokenRange = refl
fault_of Fault.TokenWidth = refl
fault_of Fault.TokenOrder = refl
fault_of Fault.RangeEnds = refl
fault_of Fault.ManyChoices = refl
fault_of Fault.Rights = refl
fault_of Fault.NoRight = refl
fault_of Fault.BadBound = refl
fault_of Fault.ManyCandidates = refl
fault_of Fault.BadRacks = refl
fault_of Fault.BadShare = refl
fault_of Fault.FewWords = refl
fault_of Fault.FewRows = refl

pub same_fault : (f f' : Fault) (n : ℕ) → number_of f ≡ n → number_of f' ≡ n → f ≡ f'
same_fault f f' n a b = sym (fault_of f) ∙ ap fault_of_of (a ∙ sym b) ∙ fault_of f'
