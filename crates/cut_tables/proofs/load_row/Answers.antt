use mathlib.Core.Path.{◌≡◌, ap, subst}
use Prim.Native.Nat.{ℕ, ◌+◌, ◌-◌, ◌*◌, ◌<◌}
use native.Mathlib.Omega.{arith}
use lib.ListN.{get_or}
use Rattle.grammar.specs.SpanSheet.{first_word}
use Rattle.spans.proofs.Places.{pair_at_below, pairs_few}
use Rattle.cuts.specs.Joining.{Joins}
use Rattle.cuts.proofs.JoinLaws.{joins_as}
use Rattle.cut_tables.specs.Tables.{SetBits}
use Rattle.cut_tables.proofs.TurnLaws.{joins_zero, joins_next, joins_jump}
use Rattle.cut_tables.proofs.load_row.Invariants.{Turn}
use Rattle.cut_tables.proofs.load_row.Lts
use Rattle.cut_tables.proofs.load_row.Reads
use Rattle.cut_tables.proofs.load_row.Tie
use Rattle.cut_tables.proofs.load_row.Goals as goal

pub loop-end-init : goal.loop-end-init
loop-end-init c =
    let a = c.args in
    let T = Turn a.words.now a.n a.start in (
      omega arith,
      omega (arith, c.requires.0.fits),
      joins_jump T 0 (a.start + 1) (omega arith) (λ j q k x y t. omega (arith, t.0))
          (joins_zero T _),
    )

pub pair_at-at-requires : goal.pair_at-at-requires
pair_at-at-requires c = (
  c.requires.0.few,
  omega
      (arith, c.loop-end.invariant.0, c.loop-end-test.true),
)

-- where the pair stands
low : (c : Lts.After-pair_at Tie.the-claims Reads.Pre Reads.Post goal.the-invariant-loop-end
    goal.the-decreases-loop-end) → 2 * c.pair_at-at.result < 4162
low c =
    omega (
      arith,
      c.pair_at-at.ensures,
      pairs_few c.args.n c.requires.0.few,
      pair_at_below c.args.n c.args.start (c.loop-end.end - c.args.start)
          (omega (arith, c.loop-end.invariant.0, c.loop-end-test.true)),
    )

pub overflow_mul-at : goal.overflow_mul-at
overflow_mul-at c = omega (arith, low c.before)

pub offset_bounds-words-at : goal.offset_bounds-words-at
offset_bounds-words-at c = omega (arith, low c.before.before)

pub bounds-words-at : goal.bounds-words-at
bounds-words-at c =
    let l = c.loop-end in
    omega (
      arith,
      c.pair_at-at.ensures,
      c.requires.0.enough,
      pair_at_below c.args.n c.args.start (l.end - c.args.start)
          (omega (arith, l.invariant.0, c.loop-end-test.true)),
    )

pub overflow_cast-end : goal.overflow_cast-end
overflow_cast-end c = omega (
  arith,
  c.requires.0.few,
  c.requires.0.fits,
)

pub load_set-requires : goal.load_set-requires
load_set-requires c =
    let l = c.loop-end in (
      omega (arith, c.requires.0.few, c.requires.0.fits),
      omega (
        arith,
        c.requires.0.few,
        c.requires.1,
        l.invariant.2.long,
        c.loop-end-test.true,
      ),
    )

pub loop-end-preserved : goal.loop-end-preserved
loop-end-preserved c =
    let a = c.args in
    let l = c.loop-end in
    let T = Turn a.words.now a.n a.start in
    let e : get_or a.words.now (2 * c.pair_at-at.result) 0
    ≡ first_word a.words.now a.n a.start (l.end - a.start) =
    ap (λ (p : ℕ). get_or a.words.now (2 * p) 0)
    c.pair_at-at.ensures in (
      omega (arith, l.invariant.0),
      omega (arith, c.loop-end-test.true),
      joins_next T l.end l.invariant.2
          (joins_as (λ q k x. (l.invariant.0, x)) (λ q k x. x.1)
          (subst (λ (w : ℕ). Joins (SetBits 0 w l.end) l.cuts
          c.load_set.new.cuts) e
          c.load_set.ensures)),
    )

pub shape_of-cuts : goal.shape_of-cuts
shape_of-cuts c = c.loop-end.invariant.2.long

pub returns : goal.returns
returns c =
    let l = c.loop-end in
    joins_as (λ q k x. (x.0, (x.2.0, omega (arith, x.1, l.invariant.1), x.2.1)))
    (λ q k x. (x.0, omega (arith, x.1.1, c.loop-end-test.false), (x.1.0, x.1.2))) l.invariant.2
