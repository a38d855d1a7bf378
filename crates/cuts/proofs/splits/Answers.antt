use mathlib.Core.Path.{subst}
use Prim.Native.Nat.{ℕ}
use native.Mathlib.Omega.{arith}
use Rattle.grammar.specs.Content.{rules_of}
use Rattle.cuts.specs.declared.Pair.{Pair}
use Rattle.cuts.specs.Cuts.{CutCounts}
use Rattle.cuts.proofs.TryLaws.{cut_none}
use Rattle.cuts.proofs.PlaceLaws.{passed_over, counts_all}
use Rattle.cuts.proofs.splits.Lts
use Rattle.cuts.proofs.splits.Reads
use Rattle.cuts.proofs.splits.Tie
use Rattle.cuts.proofs.splits.Goals as goal

-- 128 places have all rules
all : (z : Lts.Start Tie.the-claims Reads.Pre Reads.Post Tie.handed_clauses) (t : Pair)
    → CutCounts z.args.rows.now z.args.cols.now z.args.p z.args.w
    (rules_of z.args.g) 128 t
    → CutCounts z.args.rows.now z.args.cols.now z.args.p z.args.w
    (rules_of z.args.g) z.args.g.count t
all z t x = let a = z.args in
    subst (λ (n : ℕ). CutCounts a.rows.now a.cols.now a.p a.w (rules_of a.g) n t)
    z.requires.formed.0.whole
    (counts_all a.rows.now a.cols.now a.p a.w (rules_of a.g) 128 t
    (omega (arith, z.requires.formed.0.whole, z.requires.formed.0.few)) x)

pub try_places-requires : goal.try_places-requires
try_places-requires c =
    let a = c.args in record {
      formed = (c.requires.formed.0, omega arith, c.requires.formed.1.high);
      lefts_at = c.requires.formed.1.highs;
      in_bounds = c.requires.in_bounds;
      cut_counts = passed_over a.rows.now a.cols.now a.p a.w (rules_of a.g)
          c.requires.formed.1.low c.if-b-eq0.true
          (cut_none a.rows.now a.cols.now a.p a.w (rules_of a.g));
    }

pub returns-then-b-eq0 : goal.returns-then-b-eq0
returns-then-b-eq0 c =
    all c.before.before.before.before.before.before c.try_places.result
    c.try_places.ensures

pub try_places-t-requires : goal.try_places-t-requires
try_places-t-requires c =
    let a = c.args in record {
      formed = (c.requires.formed.0, omega arith, c.requires.formed.1.low);
      lefts_at = c.requires.formed.1.lows;
      in_bounds = c.requires.in_bounds;
      cut_counts = cut_none a.rows.now a.cols.now a.p a.w (rules_of a.g);
    }

pub returns-then-b-eq0-2 : goal.returns-then-b-eq0-2
returns-then-b-eq0-2 c =
    let t = c.try_places-t in
    let a = c.args in
    all c.before.before.before.before.before.before.before.before t.result
    (passed_over a.rows.now a.cols.now a.p a.w (rules_of a.g) c.requires.formed.1.high
    c.if-b-eq0-2.true t.ensures)

pub try_places-requires-2 : goal.try_places-requires-2
try_places-requires-2 c = record {
  formed = (c.requires.formed.0, omega arith, c.requires.formed.1.high);
  lefts_at = c.requires.formed.1.highs;
  in_bounds = c.requires.in_bounds;
  cut_counts = c.try_places-t.ensures;
}

pub returns : goal.returns
returns c =
    all c.before.before.before.before.before.before.before.before.before
    c.try_places-2.result c.try_places-2.ensures
