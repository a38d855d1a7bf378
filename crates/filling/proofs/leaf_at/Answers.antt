use mathlib.Core.Path.{sym, ap, subst}
use Prim.Native.Nat.{ℕ, ◌+◌, ◌*◌}
use native.Mathlib.Omega.{arith}
use lib.ListN.{get_or}
use Rattle.grammar.specs.declared.Token.{Token}
use Rattle.grammar.specs.Content.{rules_of}
use Rattle.marks.specs.Half.{token_at}
use Rattle.marks.specs.Drafts.{drafted}
use Rattle.marks.proofs.DraftLaws.{drafted_at}
use Rattle.spans.proofs.Places.{pair_at_below}
use Rattle.chart.specs.Leaves.{Leaf}
use Rattle.filling.proofs.leaf_at.Goals as goal

pub first_like-j-requires : goal.first_like-j-requires
first_like-j-requires c = c.requires.i_lt_count

pub pair_at-at-requires : goal.pair_at-at-requires
pair_at-at-requires c =
    (c.requires.i_lt_count.1, omega (arith, c.if-j-i.true, c.requires.i_lt_count.0))

pub overflow_mul-at : goal.overflow_mul-at
overflow_mul-at c = omega (
  arith,
  c.pair_at-at.ensures,
  c.requires.count_in_bounds,
  pair_at_below
      c.args.d.count c.first_like-j.result 1
      (omega (arith, c.if-j-i.true, c.requires.i_lt_count.0)),
  c.well_formed.0.1,
)

pub offset_bounds-words-at : goal.offset_bounds-words-at
offset_bounds-words-at c = omega (
  arith,
  c.pair_at-at.ensures,
  c.requires.count_in_bounds,
  pair_at_below c.args.d.count
      c.first_like-j.result 1 (omega (arith, c.if-j-i.true, c.requires.i_lt_count.0)),
  c.well_formed.0.1,
)

pub bounds-words-at : goal.bounds-words-at
bounds-words-at c = omega (
  arith,
  c.pair_at-at.ensures,
  c.requires.count_in_bounds,
  pair_at_below
      c.args.d.count c.first_like-j.result 1
      (omega (arith, c.if-j-i.true, c.requires.i_lt_count.0)),
)

pub overflow_add-result : goal.overflow_add-result
overflow_add-result c = omega (
  arith,
  c.pair_at-at.ensures,
  c.requires.count_in_bounds,
  pair_at_below c.args.d.count c.first_like-j.result 1
      (omega (arith, c.if-j-i.true, c.requires.i_lt_count.0)),
  c.well_formed.0.1,
)

pub offset_bounds-words-at-then-j-i : goal.offset_bounds-words-at-then-j-i
offset_bounds-words-at-then-j-i c = omega (
  arith,
  c.pair_at-at.ensures,
  c.requires.count_in_bounds,
  pair_at_below c.args.d.count
      c.first_like-j.result 1 (omega (arith, c.if-j-i.true, c.requires.i_lt_count.0)),
  c.well_formed.0.1,
)

pub bounds-words-at-then-j-i : goal.bounds-words-at-then-j-i
bounds-words-at-then-j-i c = omega (
  arith,
  c.pair_at-at.ensures,
  c.requires.count_in_bounds,
  pair_at_below c.args.d.count
      c.first_like-j.result 1 (omega (arith, c.if-j-i.true, c.requires.i_lt_count.0)),
)

pub returns-then-j-i : goal.returns-then-j-i
returns-then-j-i c =
    let a = c.args in
    let g = rules_of a.g in
    let ws = a.words.now in
    let j = c.first_like-j.result in
    let w = drafted a.d in
    subst (λ (x : ℕ). Leaf g x (get_or ws (2 * c.pair_at-at.result) 0)
    (get_or ws (2 * c.pair_at-at.result + 1) 0)) c.first_like-j.ensures.1
    (subst (λ (q : ℕ). Leaf g (token_at w j).terminal (get_or ws (2 * q) 0)
    (get_or ws (2 * q + 1) 0))
    (sym c.pair_at-at.ensures) (c.requires.leading.leaves j c.if-j-i.true))

pub bounds-d-i : goal.bounds-d-i
bounds-d-i c = omega (arith, c.requires.i_lt_count.0, c.requires.i_lt_count.1)

pub token_pair-requires : goal.token_pair-requires
token_pair-requires c = record { formed = c.requires.formed; empty_pair = c.requires.empty_pair }

pub returns : goal.returns
returns c =
    let a = c.args in
    subst (λ (x : ℕ). Leaf (rules_of a.g) x c.token_pair.result.one
    c.token_pair.result.two)
    (ap (λ (t : Token). t.terminal) (sym (drafted_at a.d a.i c.requires.i_lt_count.0)))
    c.token_pair.ensures
