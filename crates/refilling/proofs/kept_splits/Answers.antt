use native.Mathlib.Omega.{arith}
use mathlib.Core.Path.{◌≡◌, subst}
use Prim.Native.Nat.{ℕ, ◌+◌, ◌-◌}
use lib.ListN.{take, drop}
use Rattle.grammar.specs.Content.{rules_of}
use Rattle.cuts.specs.Cuts.{CutCounts}
use Rattle.cuts.proofs.TryLaws.{cut_none}
use Rattle.cuts.proofs.PlaceLaws.{counts_all}
use Rattle.refilling.specs.Kept.{row_at, column_at, start_rows}
use Rattle.refilling.proofs.KeptLaws.{part_long}
use Rattle.refilling.proofs.kept_splits.Goals as goal

wide : (s : ℕ) → row_at s + 128 - row_at s ≡ 128
wide s = omega arith

pub try_kept-t-requires : goal.try_kept-t-requires
try_kept-t-requires c =
    let a = c.args in
    let p = c.requires.formed.1 in record {
      formed = (c.requires.formed.0, omega arith, p.low);
      kept_rules = p.rules;
      in_bounds = (
        part_long a.kept.now (row_at a.start) _ (wide a.start)
            (omega (arith, c.requires.start_lt_end.0, c.requires.start_lt_end.2)),
        omega (arith, c.requires.start_lt_end.0, c.requires.start_lt_end.2),
      );
      cut_counts = cut_none _ _ _ _ _;
    }

pub try_kept-requires : goal.try_kept-requires
try_kept-requires c =
    let a = c.args in
    let p = c.requires.formed.1 in record {
      formed = (c.requires.formed.0, omega arith, p.high);
      kept_rules = p.rules;
      in_bounds = (
        part_long a.kept.now (row_at a.start) _ (wide a.start)
            (omega (arith, c.requires.start_lt_end.0, c.requires.start_lt_end.2)),
        omega (arith, c.requires.start_lt_end.0, c.requires.start_lt_end.2),
      );
      cut_counts = c.try_kept-t.ensures;
    }

pub returns : goal.returns
returns c =
    let a = c.args in
    let k = a.kept.now in
    let g = rules_of a.g in
    let t = c.try_kept.result in
    subst (λ (x : ℕ). CutCounts (start_rows k a.start) k (column_at a.end) a.w g x t)
    c.requires.formed.0.whole
    (counts_all (start_rows k a.start) k (column_at a.end) a.w g 128 t
    (omega (arith, c.requires.formed.0.whole, c.requires.formed.0.few))
    (subst (λ (m : ℕ). CutCounts (take m (drop (row_at a.start) k)) k (column_at a.end) a.w g
    128 t)
    (wide a.start) c.try_kept.ensures))
