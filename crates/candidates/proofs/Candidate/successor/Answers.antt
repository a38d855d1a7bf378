use Prim.Native.Nat.{ℕ, ◌-◌, ◌<◌}
use mathlib.Core.Path.{◌≡◌, subst}
use native.Mathlib.Omega.{arith}
use borrow.Author.Rules.{rules}
use Rattle.candidates.proofs.Windows.{LastFrom, fits_here, last_start, last_ends}
use Rattle.candidates.proofs.Windows.{raises_follows, raises_last}
use Rattle.candidates.proofs.Candidate.successor.Goals as goal

pub loop-i-init : goal.loop-i-init
loop-i-init c = (search rules, last_start c.args.set c.args.n c.args.self c.args.b)

pub raised-requires : goal.raised-requires
raised-requires c =
    let h : c.loop-i.i - 1 < c.args.n =
    omega (arith, c.loop-i-test.true, c.loop-i.invariant.0, c.requires.le_n.2) in
    record {
      le_n = (c.requires.le_n.0, c.requires.le_n.1, h);
      lowest = c.requires.lowest;
      fits = fits_here c.args.set c.args.n c.args.self c.requires.candidate (c.loop-i.i - 1) h;
    }

pub returns-in-Some : goal.returns-in-Some
returns-in-Some c =
    raises_follows c.args.set c.args.n c.args.b c.args.self c.requires.candidate
    c.loop-i.i (omega (arith, c.loop-i-test.true)) c.loop-i.invariant.0
    c.requires.le_n.2 c.loop-i.invariant.1 c.in-Some.ensures

pub loop-i-preserved : goal.loop-i-preserved
loop-i-preserved c = (
  omega (arith, c.loop-i.invariant.0),
  raises_last c.args.set c.args.n c.args.b c.args.self c.requires.candidate
      c.loop-i.i (omega (arith, c.loop-i-test.true)) c.loop-i.invariant.0
      c.requires.le_n.2 c.loop-i.invariant.1 c.in_default.ensures,
)

pub returns : goal.returns
returns c =
    let e : c.loop-i.i ≡ 0 = omega (arith, c.loop-i-test.false) in
    last_ends c.args.set c.args.n c.args.b c.args.self c.requires.candidate
    (subst (λ (x : ℕ). LastFrom c.args.set c.args.n c.args.self c.args.b x) e
    c.loop-i.invariant.1)
