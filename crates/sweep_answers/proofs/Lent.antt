-- Of the words that are lent to a sweep only their number counts.
use mathlib.Core.Path.{◌≡◌, refl}
use mathlib.Core.List.{List}
use Prim.Native.Nat.{ℕ}
use native.Mathlib.Omega.{arith}
use lib.ListN.{length}
use Rattle.grammar.specs.Trees.{Rules}
use Rattle.sheets.specs.Items.{Reading}
use Rattle.std.specs.Prelude.{Result}
use Rattle.sheets.specs.declared.Refusal.{Refusal}
use Rattle.sweep_answers.specs.declared.Swept.{Swept}
use Rattle.sweep_answers.specs.Sweep.{SweepTaken, SweepBy}
use Rattle.sweep_answers.specs.Sweep as Sweep
use Rattle.sweep_answers.proofs.SweepSettled.{sweep_settled}

module _ {ws vs : List ℕ} (e : length ws ≡ length vs) where
  taken_moved : {g : Rules} {k : ℕ} → SweepTaken g k ws → SweepTaken g k vs
  taken_moved t =
      record { low = t.low; high = t.high; few = t.few; enough = omega (arith, t.enough) }

  pub sweep_reply : {given : Reading Rules} {k : ℕ} {a b : List ℕ} {r s : Result Swept Refusal}
      → SweepBy given k ws a r → SweepBy given k vs b s → r ≡ s
  sweep_reply (Sweep.refusing d x h) y = (sweep_settled (Sweep.refusing d x refl) y).0
  sweep_reply (Sweep.reading d (Sweep.bound l n x h)) y =
      (sweep_settled (Sweep.reading d (Sweep.bound l n x refl)) y).0
  sweep_reply (Sweep.reading d (Sweep.many l u m n x h)) y =
      (sweep_settled (Sweep.reading d (Sweep.many l u m n x refl)) y).0
  sweep_reply (Sweep.reading d (Sweep.short l u m o n x h)) y =
      (sweep_settled (Sweep.reading d (Sweep.short l u m (omega arith) n x refl)) y).0
  sweep_reply (Sweep.reading d (Sweep.clear t c q x h)) y =
      (sweep_settled (Sweep.reading d (Sweep.clear (taken_moved t) c q x refl)) y).0
  sweep_reply (Sweep.reading d (Sweep.two t c o q x h)) y =
      (sweep_settled (Sweep.reading d (Sweep.two (taken_moved t) c o q x refl)) y).0
