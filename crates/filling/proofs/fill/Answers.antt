use borrow.Author.Rules.{rules}
use mathlib.Core.Path.{refl}
use Prim.Native.Nat.{◌<◌}
use native.Mathlib.Omega.{arith}
use Rattle.grammar.specs.Content.{rules_of}
use Rattle.marks.specs.Drafts.{half}
use Rattle.chart.proofs.FillLaws.{whole}
use Rattle.spans.proofs.Places.{pair_at_below}
use Rattle.chart.proofs.SheetLaws.{begun, charted}
use Rattle.filling.proofs.ClosingLaws.{no_columns, few_grown}
use Rattle.filling.proofs.fill.Goals as goal

pub returns-then-n-lt2 : goal.returns-then-n-lt2
returns-then-n-lt2 c =
    let a = c.args in
    let w = whole c.args.d c.well_formed.1.0.1.1.0.1.0.1 (omega arith) c.requires.count_bound.0
    c.requires.count_bound.1 in
    let b : a.d.count < 2 = c.if-n-lt2.true in
    charted a.words.now a.words.now (rules_of a.g) (half a.d) a.d.count w.long
    w.inner a.from (few_grown b
    (begun a.words.now (rules_of a.g) (half a.d) a.d.count a.from a.to
    c.requires.formed.distinct (omega (arith, w.long, w.inner)) c.requires.ready))

pub bounds-words-0 : goal.bounds-words-0
bounds-words-0 c =
    omega (arith, c.requires.count_in_bounds, pair_at_below c.args.d.count 0 0 (omega arith))

pub bounds-words-1 : goal.bounds-words-1
bounds-words-1 c =
    omega (arith, c.requires.count_in_bounds, pair_at_below c.args.d.count 0 0 (omega arith))

pub load_from-requires : goal.load_from-requires
load_from-requires c = record {
  room = record {
    few = c.requires.count_bound.0;
    fits = omega (arith, c.requires.ready.within);
    enough = c.requires.count_in_bounds;
  };
  rows_len = refl;
  columns = no_columns c.args.words.now c.args.d.count 8320
      (omega (arith, c.requires.count_bound.0));
}

pub fill_starts-requires : goal.fill_starts-requires
fill_starts-requires c =
    let a = c.args in
    let w = whole c.args.d c.well_formed.1.0.1.1.0.1.0.1 (omega arith) c.requires.count_bound.0
    c.requires.count_bound.1 in record {
      whole = (w, c.requires.ready.within);
      count_in_bounds = c.requires.count_in_bounds;
      formed = (
        c.requires.formed,
        c.binary_rules-b.ensures,
      );
      begins = (
        record { one = refl; two = refl },
        c.chains.ensures,
      );
      rows_len = (search rules, c.load_from.ensures);
      filled = begun a.words.now (rules_of a.g)
          (half a.d) a.d.count a.from a.to
          c.requires.formed.distinct (omega (arith, w.long, w.inner))
          c.requires.ready;
    }

pub returns : goal.returns
returns c =
    let a = c.args in
    let w = whole c.args.d c.well_formed.1.0.1.1.0.1.0.1 (omega arith) c.requires.count_bound.0
    c.requires.count_bound.1 in
    charted a.words.now c.fill_starts.new.words (rules_of a.g)
    (half a.d) a.d.count w.long w.inner a.from
    c.fill_starts.ensures
