-- What `share` answers is a report, whatever it is asked; the number of a refused line is at most
-- that of the bytes.
use mathlib.Core.Path.{refl, ap}
use mathlib.Core.List.{List, [], ◌∷◌}
use Prim.Native.Nat.{ℕ, suc, ◌+◌, ◌*◌, ◌/◌, ◌%◌, ◌≤◌, ◌<◌}
use native.Mathlib.Nat.{div-le_self}
use native.Mathlib.Omega.{arith}
use lib.ListN.{length}
use Rattle.grammar.specs.declared.Cell.{Cell}
use Rattle.grammar.specs.Layout.{Every}
use Rattle.grammar.specs.Trees.{Rules}
use Rattle.grammar.specs.Candidates.{Terminal, Cells, placed, sentence}
use Rattle.grammar.proofs.SweepLaws.{sentence_length}
use Rattle.arrangement_numbers.specs.Shares.{first_of_share, total}
use Rattle.arrangement_numbers.proofs.ShareLaws.{begins_mono, begins_last, remainder_small}
use Rattle.sweep_answers.specs.Sweep.{sweep_limit}
use Rattle.call_shares.specs.Share.{ShareResult}
use Rattle.sheets.specs.Results.{told_line}
use Rattle.call_shares.specs.Share.{ShareTaken, ShareOn, bound, many, racks, beyond, short, clear}
use Rattle.call_shares.specs.Share.{two, ShareOf, refusing, reading}
use Rattle.call_shares.proofs.ShareSettled.{small_terminals}
use Rattle.reports.specs.Reports.{ReportToken, Report, a_refusal, a_clear, a_two}

-- the tokens of cells behind a token on line l
cells_good : {Q : ℕ → Type 0} → ((x : ℕ) → Q x → x < 64) → {n : ℕ} → n ≤ 7 → (l m : ℕ) → m ≤ 2
    → (cs : List Cell) → l + 2 * length cs ≤ 65535 → Cells Q n m cs
    → Every ReportToken (placed l cs)
cells_good small h l m k [] b x = tt
cells_good small h l m k (c ∷ cs) b x = (
  record {
    terminal_most = omega (arith, small c.terminal x.0.terminal);
    line_most = omega (arith, x.0.step);
    column_most = omega (arith, x.0.high);
    one = refl;
  },
  cells_good small h (l + c.step) 2 (omega arith) cs (omega (arith, x.0.step)) x.1,
)

-- the numbers of a share that is taken on
module _ {g : Rules} {n p i : ℕ} {words : List ℕ} (t : ShareTaken g n p i words) where
  quotient_small : total g n / p ≤ sweep_limit
  quotient_small = omega (arith, div-le_self (total g n) p, t.size.few)

  rest_small : total g n % p ≤ sweep_limit
  rest_small = omega (arith, remainder_small (total g n) p t.least, t.size.few)

  number_small : (N : ℕ) → N < first_of_share (total g n) p (suc i) → N ≤ sweep_limit
  number_small N h = omega (
    arith,
    begins_mono (total g n) p (suc i) p t.below,
    begins_last
        (total g n) p t.least,
    t.size.few,
  )

on_reports : {g : Rules} → ((x : ℕ) → Terminal g x → x < 64)
    → {n p i : ℕ} {words words' : List ℕ} {r : ShareResult} → ShareOn g n p i words words' r
    → Report r
on_reports small (bound l m e h) = a_refusal {l = 0} (omega arith) e
on_reports small (many k u o q e h) = a_refusal {l = 0} (omega arith) e
on_reports small (racks k o q e h) = a_refusal {l = 0} (omega arith) e
on_reports small (beyond k u o q v e h) = a_refusal {l = 0} (omega arith) e
on_reports small (short k u o q v w e h) = a_refusal {l = 0} (omega arith) e
on_reports small (clear t c e h) = a_clear (quotient_small t) (rest_small t) e
on_reports small (two {cs = cs} t c e h) =
    let a = c.candidate.arranged in
    let s = sentence_length 1 cs in
    a_two (sentence cs) (number_small t _ c.high) (quotient_small t) (rest_small t)
    (omega (arith, s, a.size, t.size.low)) (omega (arith, s, a.size, t.size.high))
    (cells_good small t.size.high 1 0 (omega arith) cs (omega (arith, a.size, t.size.high))
    a.cells) e

pub share_reports : {rules : List ℕ} {n p i : ℕ} {words words' : List ℕ} {r : ShareResult}
    → ShareOf rules n p i words words' r → told_line r ≤ sweep_limit → Report r
share_reports (refusing {l = k} x e h) l =
    a_refusal {l = k} (omega (arith, ap told_line e)) e
share_reports {rules} (reading {g = g} x s) l = on_reports (small_terminals rules g x) s
