-- The nullable nonterminals: what a rule adds is nullable, and a set to which no rule adds has all
-- of them.
use mathlib.Core.Path.{◌≡◌, refl}
use mathlib.Core.List.{[], Memᴰ}
use Prim.Native.Nat.{ℕ}
use Rattle.sets.proofs.Basics.{clash}
use Rattle.grammar.proofs.Acyclic.{no_parts}
use Rattle.sets.specs.Sets.{In}
use Rattle.sets.proofs.Sets.{in_zero}
use Rattle.grammar.specs.declared.Rule.{Rule}
use Rattle.grammar.specs.Trees.{Tree, root, word, Rules, Valid, valid_empty}
use Rattle.grammar.specs.Trees.{valid_leaf, valid_unary, valid_binary}
use Rattle.grammar.specs.Cycles.{Nullable}
use Rattle.acyclic.specs.Exact.{Exactly}
use Rattle.acyclic.specs.Passes.{AddsLeft}

module _ {g : Rules} where
  pub null_none : (Y : ℕ) → In 0 Y → Nullable g Y
  null_none Y i = absurd (in_zero Y i)

  -- s is closed
  module _ (s : ℕ) (shut : (r : Rule) → Memᴰ r g → (Y : ℕ) → AddsLeft s r Y → In s Y) where
    member : {t : Tree} → Valid g t → word t ≡ [] → In s (root t)
    member (valid_empty {A = A} m) e = shut _ m A (refl, tt)
    member (valid_leaf m) e = absurd (clash cc)
    member (valid_unary {A = A} k m h v) e = shut _ m A (refl, member v e)
    member (valid_binary {A = A} {s = x} {t = y} k m h u v) e =
        let p = no_parts (word x) (word y) e in
        shut _ m A (refl, (member u p.0, member v p.1))

    pub nulls_exact : ((Y : ℕ) → In s Y → Nullable g Y) → Exactly s (Nullable g)
    nulls_exact h = record {
      is = h;
      all = λ B d. rw d.witness.rooted at
          (member d.witness.valid d.witness.spelled);
    }
