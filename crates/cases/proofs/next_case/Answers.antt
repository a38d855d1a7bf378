-- Where the second read fails, the header was read and a part of the input.
use Rattle.std.proofs.Common.{rules}
use Rattle.std.proofs.KnownBytes.{Consumes-trans}
use Rattle.cases.proofs.next_case.Goals as goal

pub returns-in_err-read_full-clause-failed : goal.returns-in_err-read_full-clause-failed
returns-in_err-read_full-clause-failed g c =
    let some = c.in_err-read_full.ensures.failed in
    let read = Consumes-trans _ _ _ _ _ c.in_ok-got.ensures.bytes some.1.1 in
    search (rules, read)
