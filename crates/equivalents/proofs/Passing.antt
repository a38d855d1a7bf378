-- The three rules, as the code has them.
use mathlib.Core.Path.{◌≡◌, sym, ◌∙◌, ap, subst}
use mathlib.Core.Bool.{false}
use mathlib.Core.List.{List}
use Prim.Native.Nat.{ℕ, ◌-◌, ◌≤◌, ◌<◌}
use native.Mathlib.Omega.{arith}
use Rattle.sets.specs.Sets.{In}
use Rattle.grammar.specs.declared.Cell.{Cell}
use Rattle.grammar.specs.Candidates as Of
use Rattle.candidates.specs.declared.Candidate.{Candidate}
use Rattle.candidates.specs.Terminals.{Among}
use Rattle.candidates.specs.Arrays.{cell_at, cells}
use Rattle.candidates.proofs.Windows.{take_cells, fits_here}
use Rattle.equivalents.specs.Twins.{lacking, Slack, Passable}
use Rattle.equivalents.proofs.Places.{at_cells}
use Rattle.equivalents.proofs.Lowered.{step_replaceable}
use Rattle.equivalents.proofs.Renamed.{terminal_replaceable}
use Rattle.equivalents.proofs.Lacking.{gap_replaceable}

module _ (n b h : ℕ) (c : Candidate) (d : Cell) (lt : h < b) (le : b ≤ n)
    (e : d ≡ cell_at c (b - 1)) where
  pub earlier_twin_step : d.step ≡ 2 → Slack n b h (cells c 0 n)
  earlier_twin_step t = record {
    replaceable = λ g s. step_replaceable g s n b h (b - 1) (cells c 0 n) (omega arith)
        (omega arith) (at_cells (λ x. x.step ≡ 2) c (b - 1) n (omega arith)
        (ap (λ (x : Cell). x.step) (sym e) ∙ t));
  }

  module _ (s kept : ℕ) (k : Of.Candidate (Among s) n (cells c 0 n)) where
    pub among_at : Among s d.terminal
    among_at = subst (λ (x : Cell). Among s x.terminal) (sym e)
        (fits_here s n c k (b - 1) (omega arith)).ranged.terminal

    pub pass_terminal : (In kept d.terminal → ⊥) → Passable s kept n b h (cells c 0 n)
    pass_terminal o = record {
      replaceable = λ g r. terminal_replaceable g s kept n b h (b - 1) d.terminal (cells c 0 n) r
          (omega arith) (omega arith) among_at (λ m. o m.1)
          (at_cells (λ x. x.terminal ≡ d.terminal) c (b - 1) n (omega arith)
          (ap (λ (x : Cell). x.terminal) (sym e)));
    }

pub earlier_twin_gap : (n b h : ℕ) (c : Candidate) (r : ℕ) → h < b → b ≤ n
    → r ≡ lacking n false (cells c 0 h) (cells c 0 b) → n - b < r → Slack n b h (cells c 0 n)
earlier_twin_gap n b h c r lt le e l = record {
  replaceable = λ g s. gap_replaceable g s n b h (cells c 0 n) (omega arith)
      (rw (take_cells c 0 h n (omega arith), take_cells c 0 b n le) (omega (arith, e)));
}

pub pass_earlier_twin : {s kept n b h : ℕ} {cs : List Cell} → Slack n b h cs
    → Passable s kept n b h cs
pass_earlier_twin {s} x = record { replaceable = λ g r. x.replaceable g s }
