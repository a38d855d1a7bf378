-- A rule of another kind has no left length between.
use mathlib.Core.Path.{sym, subst}
use native.Mathlib.Omega.{arith}
use Rattle.grammar.specs.declared.Clause.{Clause}
use Rattle.tables.specs.Tables.{by_marks}
use Rattle.heights.specs.Tall.{table, Lowest}
use Rattle.heights.proofs.FallLaws.{passed_lowest, split_none}
use Rattle.heights.proofs.lower_split.Goals as goal

pub lowest_cut-h-requires : goal.lowest_cut-h-requires
lowest_cut-h-requires c = record {
  room = c.requires.0;
  b_bound = rw
      c.in-Binary.is at
      c.requires.1.clause;
}

pub cell-at-requires : goal.cell-at-requires
cell-at-requires c = (
  c.requires.0.few,
  c.requires.0.fits,
  c.requires.1.left,
)

pub put_lower-requires : goal.put_lower-requires
put_lower-requires c = omega (
  arith,
  c.cell-at.ensures.1,
  c.requires.0.long,
)

pub returns-in-Empty : goal.returns-in-Empty
returns-in-Empty c = split_none c.args.r
    c.requires.1.left c.in-Empty.is tt

pub returns-in-Atom : goal.returns-in-Atom
returns-in-Atom c = split_none c.args.r
    c.requires.1.left c.in-Atom.is tt

pub returns-in-Unary : goal.returns-in-Unary
returns-in-Unary c = split_none c.args.r
    c.requires.1.left c.in-Unary.is tt

pub returns-in-Binary : goal.returns-in-Binary
returns-in-Binary c =
    let a = c.args in
    let x = subst (λ (y : Clause). Lowest (table a.hs.now a.n) (by_marks a.k a.len)
    a.start a.len y 1 a.len
    c.lowest_cut-h.result)
    (sym c.in-Binary.is) c.lowest_cut-h.ensures in
    passed_lowest a.r c.requires.1.left c.requires.0 1 a.len _ _
    c.cell-at.ensures.0 x
    c.put_lower.ensures
