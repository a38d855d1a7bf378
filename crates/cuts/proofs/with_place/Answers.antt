use mathlib.Core.Logic.{inl, inr, ⊎_elim}
use Rattle.sets.proofs.Sets.{insert_same, insert_keeps, insert_only}
use Rattle.cuts.proofs.with_place.Goals as goal

pub returns-in-Binary : goal.returns-in-Binary
returns-in-Binary c = rw (c.with.ensures, c.in-Binary.is)
    (record {
      keeps = λ j x. insert_keeps _ _ x;
      has = λ b. insert_same _ _;
      only =
          λ j x. ⊎_elim inl (λ z. inr (z, tt)) (insert_only _ _ j x);
    })
