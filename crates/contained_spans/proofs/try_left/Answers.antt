-- Nothing, or what lies beneath.
use mathlib.Core.Path.{refl, sym, ◌∙◌, subst}
use Rattle.cuts.proofs.JoinLaws.{joins_none, joins_as}
use Rattle.contained_spans.proofs.CountLaws.{tells_none, tells_one}
use Rattle.tables.specs.Tables.{One, by_marks, Fits}
use Rattle.contained_spans.proofs.try_left.Goals as goal

pub returns-then-not-clause_fits : goal.returns-then-not-clause_fits
returns-then-not-clause_fits c =
    let a = c.args in
    let none = c.clause_fits.ensures.isnt c.if-not-clause_fits.true in record {
      joins = joins_as (λ q B x. absurd x) (λ q B x. none x.0) (joins_none _);
      tells = tells_none (λ l x. none (subst (Fits (One a.words.now a.n)
          (by_marks a.k a.len) a.start a.len a.c) x.0 x.1));
    }

pub returns : goal.returns
returns c =
    let fits = c.clause_fits.ensures.is c.if-not-clause_fits.false in record {
      joins = joins_as (λ q B x. (fits, x)) (λ q B x. x.1) c.add_kids.ensures;
      tells = tells_one _ (refl, fits) (λ y z p q. p.0 ∙ sym q.0);
    }
