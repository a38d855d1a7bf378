-- All words 0, then the start.
use mathlib.Core.Path.{◌≡◌, sym, ◌∙◌, subst}
use Prim.Native.Nat.{◌/◌}
use native.Mathlib.Omega.{arith}
use Rattle.grammar.specs.SpanSheet.{pairs}
use Rattle.spans.specs.Changes.{Cleared}
use Rattle.spans.proofs.Places.{pair_at_below}
use Rattle.cuts.proofs.JoinLaws.{joins_as}
use Rattle.contained_spans.proofs.DoneLaws.{begun}
use Rattle.contained_spans.proofs.begin.Goals as goal

pub add-requires : goal.add-requires
add-requires c =
    let n = c.args.n in record {
      p_in_bounds = omega (
        arith,
        c.pair_at-p.ensures,
        pair_at_below n 0 n (omega arith),
        c.requires.n_in_bounds,
        c.clear.ensures.past.long,
      );
      a_bound = omega arith;
    }

pub returns : goal.returns
returns c =
    let n = c.args.n in
    let e = c.pair_at-p.ensures in
    begun n c.args.reach.now c.clear.new.words _ c.requires.n_in_bounds
    (subst (Cleared c.args.reach.now c.clear.new.words)
    (let h : c.size.result / 2 ≡ pairs n = omega (arith, c.size.ensures) in h)
    c.clear.ensures) (joins_as (λ q B x. (x.0 ∙ e, x.1))
    (λ q B x. (x.0 ∙ sym e, x.1)) c.add.ensures)
