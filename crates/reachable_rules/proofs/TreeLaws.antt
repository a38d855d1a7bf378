-- Trees of 0 have rules that it reaches alone.
use mathlib.Core.Path.{sym, subst}
use mathlib.Core.Logic.{◌↔◌}
use Rattle.grammar.specs.Layout.{Word}
use Rattle.grammar.specs.Trees.{Rules, Tree, root, Valid, valid_empty, valid_leaf, valid_unary}
use Rattle.grammar.specs.Trees.{valid_binary, Witness, TwoTrees}
use Rattle.reachable_rules.proofs.Same.{two_over}
use Rattle.reachable_rules.specs.Reach.{Reached, start, by_unary, by_left, by_right, Trimmed}

module _ {g g' : Rules} (x : Trimmed g g') where
  valid_kept : {t : Tree} → Valid g t → Reached g (root t) → Valid g' t
  valid_kept (valid_empty r) h = valid_empty (x.keeps _ r h)
  valid_kept (valid_leaf r) h = valid_leaf
      (record { low = r.low; high = r.high; rule = x.keeps _ r.rule h; covers = r.covers })
  valid_kept (valid_unary m r k v) h =
      valid_unary m (x.keeps _ r h) k (valid_kept v (by_unary m h r))
  valid_kept (valid_binary m r k v w) h = valid_binary m (x.keeps _ r h) k
      (valid_kept v (by_left _ m h r)) (valid_kept w (by_right _ m h r))

  witness_kept : {w : Word} {t : Tree} → Witness g 0 w t → Witness g' 0 w t
  witness_kept y = record {
    rooted = y.rooted;
    spelled = y.spelled;
    valid = valid_kept y.valid
        (subst (Reached g) (sym y.rooted) start);
  }

  pub two_trimmed : {w : Word} → TwoTrees g 0 w ↔ TwoTrees g' 0 w
  two_trimmed = (
    λ y. record {
      first = y.first;
      second = y.second;
      witness₁ = witness_kept y.witness₁;
      witness₂ = witness_kept y.witness₂;
      differ = y.differ;
    },
    two_over x.of,
  )
