-- All spans, from numbers that say that there is no tree.
use mathlib.Core.Path.{refl, sym, subst}
use Prim.Native.Nat.{ℕ}
use native.Mathlib.Omega.{arith}
use mathlib.Core.List.{List}
use Rattle.grammar.proofs.SentenceLaws.{whole}
use Rattle.grammar.specs.Content.{rules_of}
use Rattle.heights.specs.Filled.{Filled}
use Rattle.heights.proofs.FillLaws.{filled_start}
use Rattle.grammar.specs.Sentences.{spelled}
use borrow.Author.Rules.{rules}
use Rattle.heights.proofs.heights.Goals as goal

pub settle_all-requires : goal.settle_all-requires
settle_all-requires c =
    let a = c.args in record {
      whole = (
        record {
          few = c.requires.count_bound;
          whole = whole c.args.s (search rules)
              c.requires.count_bound;
          known = refl;
        },
        c.requires.formed,
      );
      filled = subst (λ (l : List ℕ). Filled l (rules_of a.g) (spelled a.s) 0 0)
          (sym c.requires.hs_value)
          (filled_start (rules_of a.g) (spelled a.s)
          (omega (
            arith,
            whole c.args.s (search rules) c.requires.count_bound,
            c.requires.count_bound,
          )));
    }

pub returns : goal.returns
returns c = c.settle_all.ensures
