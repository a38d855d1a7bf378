-- At the cuts that were seen all is there already.
use mathlib.Core.Path.{ap, subst₂}
use Prim.Native.Nat.{ℕ, ◌+◌, ◌*◌}
use Rattle.sets.proofs.Sets.{in_zero}
use Rattle.cuts.proofs.Bits.{in_word}
use Rattle.cuts.proofs.JoinLaws.{joins_none, joins_as}
use Rattle.contained_spans.specs.Joining.{Inner}
use Rattle.contained_spans.specs.Seeing.{Unseen}
use Rattle.contained_spans.proofs.CountLaws.{word_none}
use Rattle.contained_spans.proofs.SeeLaws.{hits_inner, joins_set, seen_after}
use Rattle.contained_spans.proofs.spread_cuts.Lts
use Rattle.contained_spans.proofs.spread_cuts.Reads
use Rattle.contained_spans.proofs.spread_cuts.Tie
use Rattle.contained_spans.proofs.spread_cuts.Goals as goal

-- at no cut there is nothing to put in
pub returns-then-set-eq0 : goal.returns-then-set-eq0
returns-then-set-eq0 c = record {
  set = c.hits-set.result;
  hits = c.hits-set.ensures;
  joins = joins_as (λ q B x. absurd x)
      (λ q B x. in_zero x.0 (in_word c.if-set-eq0.true x.1)) (joins_none _);
  seen = c.requires.space.1;
  tells = word_none _ c.if-set-eq0.true;
}

-- the cuts lie within the span
inside : (c : Lts.After-hits Tie.the-claims Reads.Pre Reads.Post Tie.handed_clauses)
    → Inner c.hits-set.result
    c.args.start c.args.len
inside c =
    hits_inner c.requires.b_bound.3 c.requires.b_bound.0 c.requires.b_bound.1 c.requires.b_bound.2
    c.requires.space.0.fits
    c.hits-set.ensures

-- those that were not in both words
rest : (c : Lts.After-unseen Tie.the-claims Reads.Pre Reads.Post Tie.handed_clauses) → Unseen
    c.args.seen.now
    c.unseen-new.new.seen c.args.b
    (64 * (c.args.start
    + c.args.len)
    + c.args.e)
    c.hits-set.result
    c.unseen-new.result
rest c =
    let a = c.args in
    subst₂ (λ (p q : ℕ). Unseen a.seen.now c.unseen-new.new.seen p q
    c.hits-set.result
    c.unseen-new.result) c.wide.ensures
    (ap (λ (x : ℕ). 64 * (a.start + a.len) + x) c.wide-2.ensures) c.unseen-new.ensures

pub add_cuts-requires : goal.add_cuts-requires
add_cuts-requires c = record {
  space = (
    c.requires.space.0,
    λ x i. inside c.before.before.before.before.before.before.before.before.before x
        (((rest c.before.before.before.before).rest x).0 i).0,
  );
  small_clause = (c.requires.b_bound.0, c.requires.b_bound.1);
}

pub returns : goal.returns
returns c =
    let p = c.requires.b_bound in
    let i = inside
    c.before.before.before.before.before.before.before.before.before.before.before.before.before in
    let u = rest c.before.before.before.before.before.before.before.before in
    let j = c.add_cuts.ensures in
    record {
      set = c.hits-set.result;
      hits = c.hits-set.ensures;
      joins = joins_set c.args.m p.0 p.1 p.2 i u c.requires.space.1 j;
      seen = seen_after c.args.m p.0 p.1 p.2 i u c.requires.space.1 j;
      tells = c.ways.ensures;
    }
