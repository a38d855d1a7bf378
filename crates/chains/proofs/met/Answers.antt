use mathlib.Core.Path.{sym, ◌∙◌}
use mathlib.Core.Logic.{inl, ⊎_elim}
use Rattle.sets.proofs.Bits.{in_and}
use Rattle.sets.proofs.Says.{true_not_false}
use Rattle.chains.proofs.met.Goals as goal

pub returns-else-again : goal.returns-else-again
returns-else-again c = record {
  members = λ B. (
    λ x. let y = (in_and _ _ B).0 x in
        (y.0, inl y.1),
    λ x. (in_and _ _ B).1
        (x.0, ⊎_elim (λ y. y) (λ y. absurd (true_not_false (sym y ∙ c.if-again.false))) x.1),
  );
}
