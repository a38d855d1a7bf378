-- The refusals and their numbers: docs/FORMAT.md, "Refusals".
use Rattle.std.specs.Prelude.{◌≡◌, ℕ}
use Rattle.sheets.specs.declared.Fault.{Fault}
use Rattle.sheets.specs.Items.{Reading, refused}

abbrev pub number_of : Fault → ℕ
number_of Fault.RuleNames = 1
number_of Fault.RuleMany = 6
number_of Fault.RuleForm = 2
number_of Fault.RuleRange = 3
number_of Fault.RuleLay = 4
number_of Fault.RuleReversed = 44
number_of Fault.RuleTwice = 5
number_of Fault.NoStart = 7
number_of Fault.ClauseForm = 41
number_of Fault.ClauseDeep = 42
number_of Fault.ClauseMany = 43
number_of Fault.TokenNames = 11
number_of Fault.TokenMany = 14
number_of Fault.TokenForm = 12
number_of Fault.TokenRange = 13
number_of Fault.TokenWidth = 47
number_of Fault.TokenOrder = 15
number_of Fault.RangeEnds = 48
number_of Fault.ManyChoices = 49
number_of Fault.Rights = 50
number_of Fault.NoRight = 51
number_of Fault.BadBound = 23
number_of Fault.ManyCandidates = 24
number_of Fault.BadRacks = 45
number_of Fault.BadShare = 46
number_of Fault.FewWords = 21
number_of Fault.FewRows = 22

-- the code's refusal f has the number that a sheet's refusal has; l is its line
pub record RefusedAs {A : Type 0} (given : Reading A) (f : Fault) (l : ℕ) : Type 0 where
  pub is : given ≡ refused (number_of f) l
