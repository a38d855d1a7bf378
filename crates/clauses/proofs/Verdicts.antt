-- A verdict on trees of the expansion is a verdict on readings.
use mathlib.Core.Path.{sym, ◌∙◌, ap}
use Prim.Native.Nat.{ℕ}
use Rattle.grammar.specs.Layout.{Word}
use Rattle.grammar.specs.Trees.{Rules, NoTree, OneTree, TwoTrees}
use Rattle.clauses.specs.Clauses.{Clauses}
use Rattle.clauses.specs.Readings.{NoReading, OneReading, TwoReadings}
use Rattle.clauses.specs.Matching.{OneToOne}

module _ {c : Clauses} {g : Rules} {L : ℕ} (o : OneToOne c g L) (w : Word) where
  pub no_reading : NoTree g L w → NoReading c L w
  no_reading n r k = n.absent (o.tree r) (o.sound w r k)

  pub no_tree : NoReading c L w → NoTree g L w
  no_tree n = record { absent = λ t k. let b = o.complete w t k in n b.0 b.1 }

  pub one_reading : OneTree g L w → OneReading c L w
  one_reading n =
      let b = o.complete w n.tree n.witness in
      record {
        reading = b.0;
        reads = b.1;
        only_one =
            λ r k. o.faithful r b.0 (n.only (o.tree r) (o.sound w r k) ∙ sym b.2);
      }

  pub one_tree : OneReading c L w → OneTree g L w
  one_tree n =
      record {
        tree = o.tree n.reading;
        witness = o.sound w n.reading n.reads;
        only = λ t
            k. let b = o.complete w t k in sym b.2 ∙ ap o.tree (n.only_one b.0 b.1);
      }

  pub two_readings : TwoTrees g L w → TwoReadings c L w
  two_readings n =
      let a = o.complete w n.first n.witness₁ in
      let b = o.complete w n.second n.witness₂ in
      record {
        first_one = a.0;
        second_one = b.0;
        reads₁ = a.1;
        reads₂ = b.1;
        differ =
            λ e. n.differ (sym a.2 ∙ ap o.tree e ∙ b.2);
      }

  pub two_trees : TwoReadings c L w → TwoTrees g L w
  two_trees n =
      record {
        first = o.tree n.first_one;
        second = o.tree n.second_one;
        witness₁ = o.sound
            w n.first_one n.reads₁;
        witness₂ = o.sound w n.second_one n.reads₂;
        differ =
            λ e. n.differ (o.faithful _ _ e);
      }
