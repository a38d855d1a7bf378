use mathlib.Core.Path.{subst}
use Prim.Native.Nat.{ℕ}
use Rattle.spans.specs.Changes.{Cleared}
use Rattle.refilling.proofs.KeptLaws.{prepared_same, open_same, mirror_open}
use Rattle.refilling.proofs.open_sheet.Goals as goal

pub returns : goal.returns
returns c = let x = subst (λ (m : ℕ). Cleared c.args.words.now
    c.clear.new.words m)
    c.size.ensures
    c.clear.ensures in
    let f = c.wipe.ensures in record {
      mirrored = record {
        prepared = prepared_same (open_same f) c.requires.prepared;
        mirror = mirror_open c.requires.n_in_bounds_2 x f;
      };
      past = x.past;
    }
