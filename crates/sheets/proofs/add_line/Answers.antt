-- `sheets::add_line` meets its contract: a rule is appended, any other line leaves the book.
use mathlib.Core.Path.{sym, ap, ◌∙◌}
use lib.ListN.{length}
use lib.Dec.{ltb}
use Rattle.std.specs.Prelude.{Ok}
use Rattle.grammar.specs.Content.{rules_of}
use Rattle.sheets.specs.Promises.{as_step}
use Rattle.sheets.proofs.Booking.{rule_fits}
use Rattle.fields.specs.Cursors.{bytes_left}
use Rattle.sheets.proofs.add_line.Goals as goal

pub append-requires : goal.append-requires
append-requires c =
    let b = c.args.book.now in
    let e = ap (λ o. as_step (Ok o)) (sym c.in-Some.is)
    ∙ rw c.requires.2.held.whole at c.in_ok-step.ensures in
    let f = rule_fits (rules_of b.grammar) b.grammar.count (bytes_left c.args.s.now c.args.c)
    (ltb c.args.c.end (length c.args.s.now)) e in (c.requires.2, f.0, f.1)
