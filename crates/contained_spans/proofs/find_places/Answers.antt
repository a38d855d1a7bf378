-- From the start down, span by span.
use mathlib.Core.Path.{refl, subst}
use Prim.Native.Nat.{ℕ, ◌*◌, ◌≤◌}
use native.Mathlib.Omega.{arith}
use lib.ListN.{length, length-replicate}
use Rattle.grammar.proofs.SentenceLaws.{whole}
use Rattle.grammar.specs.Content.{rules_of}
use Rattle.grammar.specs.Sentences.{spelled}
use borrow.Author.Rules.{rules}
use Rattle.grammar.specs.SpanSheet.{pairs}
use Rattle.spans.proofs.Places.{pairs_few}
use Rattle.contained_spans.proofs.SeeLaws.{seen_none}
use Rattle.contained_spans.proofs.DoneLaws.{done_start, places}
use Rattle.contained_spans.proofs.find_places.Goals as goal

pub begin-requires : goal.begin-requires
begin-requires c = record {
  n_bound = c.requires.count_bound.0;
  n_in_bounds = omega
      (arith, pairs_few c.args.s.count c.requires.count_bound.0, length-replicate {A = ℕ} 2081 0);
}

pub load_columns-requires : goal.load_columns-requires
load_columns-requires c = (
  record {
    few = c.requires.count_bound.0;
    fits = omega arith;
    enough = subst (λ (n : ℕ). 2 * pairs n ≤ length c.args.words.now)
        (whole c.args.s (search rules) c.requires.count_bound.0)
        c.requires.span_sheet.0.enough;
  },
  refl,
)

pub spread_all-requires : goal.spread_all-requires
spread_all-requires c =
    let s = c.args.s in
    let b = c.begin in record {
      known = (
        record {
          few = c.requires.count_bound.0;
          long = whole c.args.s (search rules)
              c.requires.count_bound.0;
          known = refl;
          sheet = c.requires.span_sheet.0;
        },
        c.requires.formed,
        c.list_rules.ensures,
      );
      columns = (c.load_columns.ensures, seen_none _ _);
      done = done_start (rules_of c.args.g) (spelled s) s.count c.begin.new.reach c.args.parts.now
          (whole c.args.s (search rules) c.requires.count_bound.0) c.requires.span_sheet.1
          c.requires.count_bound.1 b.ensures;
    }

pub returns : goal.returns
returns c =
    let s = c.args.s in
    places (rules_of c.args.g) (spelled s) s.count _ _
    (whole c.args.s (search rules) c.requires.count_bound.0)
    c.spread_all.ensures
