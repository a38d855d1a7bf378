use mathlib.Core.Path.{◌≡◌, ap, subst}
use mathlib.Core.List.{List}
use Prim.Native.Nat.{ℕ, ◌+◌, ◌-◌, ◌*◌, ◌<◌}
use native.Mathlib.Omega.{arith}
use lib.ListN.{get_or}
use Rattle.grammar.specs.SpanSheet.{first_word, pair_at}
use Rattle.spans.proofs.Places.{pair_at_below, pairs_few}
use Rattle.cuts.specs.Joining.{Joins}
use Rattle.cuts.proofs.JoinLaws.{joins_as}
use Rattle.cut_tables.specs.Tables.{SetBits}
use Rattle.cut_tables.proofs.TurnLaws.{Under, joins_zero, joins_next, joins_jump}
use Rattle.cut_tables.proofs.load_ends.Invariants.{Turn}
use Rattle.cut_tables.proofs.load_ends.Lts
use Rattle.cut_tables.proofs.load_ends.Reads
use Rattle.cut_tables.proofs.load_ends.Tie
use Rattle.cut_tables.proofs.load_ends.Goals as goal

pub loop-end-init : goal.loop-end-init
loop-end-init c =
    let a = c.args in
    let T = Turn a.words.now a.n a.start in (
      omega arith,
      omega (arith, c.requires.0.fits),
      joins_jump T 0 (a.start + 1) (omega arith) (λ j q k x y t. omega (arith, t.0))
          (joins_zero T _),
    )

pub pair_at-at-requires : goal.pair_at-at-requires
pair_at-at-requires c = (
  c.requires.0.few,
  omega
      (arith, c.loop-end.invariant.0, c.loop-end-test.true),
)

-- where the pair stands
low : (c : Lts.After-pair_at Tie.the-claims Reads.Pre Reads.Post goal.the-invariant-loop-end
    goal.the-decreases-loop-end) → 2 * c.pair_at-at.result < 4162
low c =
    omega (
      arith,
      c.pair_at-at.ensures,
      pairs_few c.args.n c.requires.0.few,
      pair_at_below c.args.n c.args.start (c.loop-end.end - c.args.start)
          (omega (arith, c.loop-end.invariant.0, c.loop-end-test.true)),
    )

pub overflow_mul-at : goal.overflow_mul-at
overflow_mul-at c = omega (arith, low c.before)

pub overflow_mul-end : goal.overflow_mul-end
overflow_mul-end c = omega (
  arith,
  c.loop-end-test.true,
  c.requires.0.few,
)

pub offset_bounds-words-at : goal.offset_bounds-words-at
offset_bounds-words-at c = omega (arith, low c.before.before)

pub bounds-words-at : goal.bounds-words-at
bounds-words-at c =
    let l = c.loop-end in
    omega (
      arith,
      c.pair_at-at.ensures,
      c.requires.0.enough,
      pair_at_below c.args.n c.args.start (l.end - c.args.start)
          (omega (arith, l.invariant.0, c.loop-end-test.true)),
    )

pub overflow_cast-start : goal.overflow_cast-start
overflow_cast-start c = omega (
  arith,
  c.requires.0.few,
  c.requires.0.fits,
)

pub load_set-requires : goal.load_set-requires
load_set-requires c =
    let l = c.loop-end in (
      omega (arith, c.requires.0.few, c.requires.0.fits),
      omega (
        arith,
        c.requires.0.few,
        c.requires.1,
        l.invariant.2.long,
        c.loop-end-test.true,
      ),
    )

-- the trees up to one more end
step : (ws : List ℕ) (n start end p : ℕ) (old cuts new : List ℕ) → start < end
    → p ≡ pair_at n start (end - start) → Joins (Under (Turn ws n start) end) old cuts
    → Joins (SetBits (64 * end) (get_or ws (2 * p) 0) start) cuts new
    → Joins (Under (Turn ws n start) (end + 1)) old new
step ws n start end p old cuts new h e x y =
    let f : get_or ws (2 * p) 0 ≡ first_word ws n start (end - start) =
    ap (λ (q : ℕ). get_or ws (2 * q) 0) e in
    joins_next (Turn ws n start) end x
    (joins_as (λ q k z. (h, z)) (λ q k z. z.1)
    (subst (λ (w : ℕ). Joins (SetBits (64 * end) w start) cuts new) f y))

pub loop-end-preserved : goal.loop-end-preserved
loop-end-preserved c =
    let a = c.args in
    let l = c.loop-end in (
      omega (arith, l.invariant.0),
      omega (arith, c.loop-end-test.true),
      step a.words.now a.n a.start l.end c.pair_at-at.result a.cuts.now l.cuts c.load_set.new.cuts
          l.invariant.0 c.pair_at-at.ensures l.invariant.2 c.load_set.ensures,
    )

pub shape_of-cuts : goal.shape_of-cuts
shape_of-cuts c = c.loop-end.invariant.2.long

pub returns : goal.returns
returns c =
    let l = c.loop-end in
    joins_as (λ q k x. (x.0, (x.2.0, omega (arith, x.1, l.invariant.1), x.2.1)))
    (λ q k x. (x.0, omega (arith, x.1.1, c.loop-end-test.false), (x.1.0, x.1.2))) l.invariant.2

pub returns-2 : goal.returns-2
returns-2 c =
    let a = c.args in
    let l = c.loop-end in
    let x = step a.words.now a.n a.start l.end c.pair_at-at.result a.cuts.now l.cuts
    c.load_set.new.cuts l.invariant.0 c.pair_at-at.ensures l.invariant.2 c.load_set.ensures in
    joins_as (λ q k x. (x.0, (x.2.0, omega (arith, x.1), x.2.1)))
    (λ q k x. (x.0, omega (arith, x.1.1), (x.1.0, x.1.2))) x
