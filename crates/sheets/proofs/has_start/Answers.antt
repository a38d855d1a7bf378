-- `sheets::has_start` meets its contract.
use Rattle.std.proofs.Common.{rules, tests}
use Rattle.std.proofs.lemmas.Iterator.{YieldsList-from_slice}
use Rattle.std.proofs.lemmas.Iterator.Search.{any_from_yields_List}
use Rattle.sheets.specs.RuleSheets.{is_start}
use Rattle.sheets.proofs.has_start.Goals as goal

pub returns : goal.returns
returns c =
    any_from_yields_List is_start _ _ _ c.any.ensures.ran
    (YieldsList-from_slice c.args.rules.now (cc)) (λ x b q k. search (rules, tests))
