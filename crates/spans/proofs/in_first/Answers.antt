-- The pair stands among the words; its word says it.
use Prim.Native.Nat.{ℕ, ◌*◌, ◌+◌, ◌<◌}
use lib.ListN.{length, get_or}
use mathlib.Core.Path.{subst}
use native.Mathlib.Omega.{arith}
use Rattle.sets.specs.Says.{Says}
use Rattle.sets.specs.Sets.{In}
use Rattle.spans.proofs.Places.{pair_at_below}
use Rattle.spans.proofs.in_first.Goals as goal

inside : (c : goal.After-pair_at-at)
    → 2 * c.pair_at-at.result + 1 < length c.args.words.now
inside c = omega (
  arith,
  c.pair_at-at.ensures,
  pair_at_below c.args.n
      c.args.start c.args.len
      c.requires.fits,
)

pub overflow_mul-at : goal.overflow_mul-at
overflow_mul-at c = omega (arith, inside c, c.well_formed.0.1)

pub offset_bounds-words-at : goal.offset_bounds-words-at
offset_bounds-words-at c = omega (arith, inside c, c.well_formed.0.1)

pub bounds-words-at : goal.bounds-words-at
bounds-words-at c = omega (
  arith,
  c.pair_at-at.ensures,
  pair_at_below c.args.n c.args.start
      c.args.len c.requires.fits,
)

pub returns : goal.returns
returns c =
    subst (λ (x : ℕ). Says c.has.result
    (In (get_or c.args.words.now (2 * x) 0)
    c.args.a)) c.pair_at-at.ensures
    c.has.ensures
