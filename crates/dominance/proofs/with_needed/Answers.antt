-- A terminal is none of the set, or replaced, or kept.
use Rattle.grammar.specs.Content.{rules_of}
use Rattle.dominance.proofs.LeftSets.{spares_skip, spares_drop, spares_keep}
use Rattle.dominance.proofs.with_needed.Goals as goal

pub has-requires : goal.has-requires
has-requires c = c.requires.x_bound

pub returns-then-not-has : goal.returns-then-not-has
returns-then-not-has c =
    spares_skip (rules_of c.args.g) c.args.set c.args.x c.args.kept c.requires.spares
    (c.has.ensures.isnt c.if-not-has.true)

pub replaced-requires : goal.replaced-requires
replaced-requires c = record { formed = c.requires.formed; x_bound = c.requires.x_bound }

pub returns-then-replaced : goal.returns-then-replaced
returns-then-replaced c =
    spares_drop (rules_of c.args.g) c.args.set c.args.x c.args.kept c.requires.spares
    (c.replaced.ensures c.if-replaced.true)

pub with-requires : goal.with-requires
with-requires c = c.requires.x_bound

pub returns : goal.returns
returns c =
    spares_keep (rules_of c.args.g) c.args.set c.args.x c.args.kept c.requires.spares
    c.with.result (c.has.ensures.is c.if-not-has.false)
    c.with.ensures
