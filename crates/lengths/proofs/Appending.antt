-- A book with one rule more.
use mathlib.Core.Path.{◌≡◌, refl}
use mathlib.Core.List.{[], ◌∷◌, ◌++◌}
use Prim.Native.Nat.{◌+◌, ◌<◌}
use native.Mathlib.Omega.{arith}
use native.Mathlib.Numerals.{add-one}
use lib.ListN.{set, length-set}
use lib.Seq.{length-take-le, take-suc-set}
use Rattle.grammar.specs.declared.Rule.{Rule}
use Rattle.grammar.specs.declared.Grammar.{Grammar}
use Rattle.grammar.specs.Content.{rules_of, SmallRule}
use Rattle.grammar.proofs.Lists.{every_append}
use Rattle.lengths.specs.declared.Index.{Index}
use Rattle.lengths.specs.declared.Book.{Book}
use Rattle.lengths.specs.declared.Growth.{Growth}
use Rattle.lengths.specs.Indexes.{Exact}
use Rattle.lengths.specs.Passes.{Sound, Held, Open, Widens}
use Rattle.lengths.specs.Books.{Booked, Appended}
use Rattle.lengths.proofs.Growing.{sound_widened, open_more}

module _ (b : Book) (r : Rule) (k : Booked b) (room : b.grammar.count < 128)
    (small : SmallRule r) where
  -- the grammar with r at its end
  abbrev pub longer : Grammar
  longer = record {
    rules = set b.grammar.rules b.grammar.count r;
    count = b.grammar.count
        + 1;
  }

  pub rules_longer : rules_of longer ≡ rules_of b.grammar ++ (r ∷ [])
  rules_longer = rw (add-one b.grammar.count)
      (take-suc-set b.grammar.rules b.grammar.count r (omega (arith, k.long)))

  pub held_longer : Held longer
  held_longer = record {
    few = omega arith;
    whole = length-take-le (b.grammar.count + 1) (set b.grammar.rules b.grammar.count r)
        (simp length-set (omega (arith, k.long)));
    small = rw rules_longer (every_append SmallRule (rules_of b.grammar) (r ∷ []) k.held.small
        (small, tt));
  }

  module _ {u : Growth} (a : Widens (record { index = b.index; grown = 0 }) r u) where
    pub sound_longer : Sound (rules_of longer) u.index
    sound_longer = rw rules_longer (sound_widened r k.exact a)

    pub open_longer : Open (rules_of longer) u.index u.grown
    open_longer = rw rules_longer (open_more r k.held.small k.exact a)

  pub appended : {x : Index} → Exact (rules_of longer) x
      → Appended b r (record { grammar = longer; index = x })
  appended e = record {
    booked = record { long = simp length-set k.long; held = held_longer; exact = e };
    count = refl;
    rules = rules_longer;
  }
