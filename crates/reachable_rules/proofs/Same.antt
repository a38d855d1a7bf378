-- Trees go by which rules there are: those of some rules are trees of more.
use mathlib.Core.List.{Memᴰ}
use Prim.Native.Nat.{ℕ}
use Rattle.grammar.specs.declared.Rule.{Rule}
use Rattle.grammar.specs.Layout.{Word}
use Rattle.grammar.specs.Trees.{Rules, Tree, Valid, valid_empty, valid_leaf, valid_unary}
use Rattle.grammar.specs.Trees.{valid_binary, Witness, TwoTrees}

-- what is valid under some rules is so under more
module _ {g g' : Rules} (more : (r : Rule) → Memᴰ r g → Memᴰ r g') where
  valid_over : {t : Tree} → Valid g t → Valid g' t
  valid_over (valid_empty r) = valid_empty (more _ r)
  valid_over (valid_leaf r) = valid_leaf
      (record { low = r.low; high = r.high; rule = more _ r.rule; covers = r.covers })
  valid_over (valid_unary m r h v) = valid_unary m (more _ r) h (valid_over v)
  valid_over (valid_binary m r h v w) = valid_binary m (more _ r) h (valid_over v) (valid_over w)

  witness_over : {A : ℕ} {w : Word} {t : Tree} → Witness g A w t → Witness g' A w t
  witness_over x =
      record { rooted = x.rooted; spelled = x.spelled; valid = valid_over x.valid }

  pub two_over : {A : ℕ} {w : Word} → TwoTrees g A w → TwoTrees g' A w
  two_over x = record {
    first = x.first;
    second = x.second;
    witness₁ = witness_over x.witness₁;
    witness₂ = witness_over x.witness₂;
    differ = x.differ;
  }
