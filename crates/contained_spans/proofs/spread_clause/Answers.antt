-- Only a B clause has a left word.
use mathlib.Core.Path.{ap, subst}
use mathlib.Core.Logic.{⊎_elim}
use Rattle.grammar.specs.declared.Clause.{Clause}
use Rattle.grammar.specs.Content.{SmallClause}
use Rattle.tables.specs.Tables.{lefts}
use Rattle.contained_spans.proofs.SpreadLaws.{spread_once}
use Rattle.contained_spans.proofs.spread_clause.Goals as goal

pub spread_binary-requires : goal.spread_binary-requires
spread_binary-requires c =
    let h = subst SmallClause c.in-Binary.is c.requires.small_clause in
    record { room = c.requires.room; b_bound = (h.0, h.1); ready = c.requires.ready }

pub returns-in-Empty : goal.returns-in-Empty
returns-in-Empty c =
    let r = c.requires.ready in
    let f = λ (x : Clause). lefts x c.args.len in
    spread_once c.args.c
    (⊎_elim (ap f) (⊎_elim (λ e. ap f e.2) (λ e. ap f e.2)) c.in-Empty.is) r.long r.seen
    c.try_left.ensures

pub returns-in-Binary : goal.returns-in-Binary
returns-in-Binary c = rw c.in-Binary.is
    c.spread_binary.ensures
