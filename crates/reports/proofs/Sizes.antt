-- A report is short.
use mathlib.Core.Path.{refl, ap}
use mathlib.Core.List.{List, [], ◌∷◌, ◌++◌}
use Prim.Native.Nat.{ℕ, ◌+◌, ◌*◌, ◌≤◌}
use native.Mathlib.Omega.{arith}
use lib.ListN.{length, length-append, length-drop}
use Rattle.grammar.specs.Layout.{Word, Every, line, col}
use Rattle.printing.specs.Printing.{decimal, token_lines}
use Rattle.printing.proofs.Decimals.{decimal_length}
use Rattle.sheets.specs.Refusals.{number_of}
use Rattle.sheets.specs.TokenSheets.{token_names}
use Rattle.sweep_answers.specs.Sweep.{sweep_limit}
use Rattle.call_shares.specs.Share.{ShareResult}
use Rattle.reports.specs.Reports.{ReportToken, ReportOf}
use Rattle.reports.specs.Rests.{pair_text}
use Rattle.reports.proofs.Faults.{fault_most}
use Rattle.reports.proofs.TokenTexts.{token_text}
use Rattle.reports.proofs.TellLaws.{Begins, begins, with_refusal, with_clear, with_two}

digits : (n : ℕ) → n ≤ sweep_limit → length (decimal n) ≤ 10
digits n h = decimal_length 10 n (omega arith) (omega arith)

-- a number and the byte behind it
ended : (n e : ℕ) (t : List ℕ) → n ≤ sweep_limit → length (decimal n ++ (e ∷ t)) ≤ 11 + length t
ended n e t h = omega (arith, length-append (decimal n) (e ∷ t), digits n h)

lines_short : (w : Word) → Every ReportToken w → length (token_lines w) ≤ 33 * length w
lines_short [] g = omega arith
lines_short (t ∷ w) g =
    let a = ended t.terminal 32 (decimal (line t)
    ++ (32 ∷ (decimal (col t) ++ (10 ∷ token_lines w)))) (omega (arith, g.0.terminal_most)) in
    let b = ended (line t) 32 (decimal (col t) ++ (10 ∷ token_lines w))
    (omega (arith, g.0.line_most)) in
    let c = ended (col t) 10 (token_lines w) (omega (arith, g.0.column_most)) in
    omega (arith, ap length (token_text t (token_lines w)), a, b, c, lines_short w g.1)

pair_short : (q m : ℕ) (t : List ℕ) → q ≤ sweep_limit → m ≤ sweep_limit
    → length (pair_text q m t) ≤ 22 + length t
pair_short q m t h k = omega (arith, ended q 32 (decimal m ++ (32 ∷ t)) h, ended m 32 t k)

pub report_short : (s : List ℕ) {r : ShareResult} → ReportOf s r → length s ≤ 400
report_short s x = go (begins s x)
  where
    go : Begins s → length s ≤ 400
    go (with_refusal y z) =
        let a = ended (number_of z.fault) 32 (decimal z.line ++ (10 ∷ []))
        (omega (
          arith,
          fault_most (number_of z.fault)
              (record { fault = z.fault; is = refl }),
        )) in
        let b = ended z.line 10 [] z.low in
        omega (arith, length-drop 20 s, ap length z.is, a, b)
    go (with_clear y z) = omega (
      arith,
      length-drop 46 s,
      ap length z.is,
      pair_short
          z.quotient z.remainder (45 ∷ 10 ∷ []) z.low z.small,
    )
    go (with_two {N = N} y z) =
        let a = pair_short z.quotient z.remainder
        (decimal N ++ (10 ∷ (token_names ++ (10 ∷ token_lines z.word)))) z.low z.small in
        let b = ended N 10 (token_names ++ (10 ∷ token_lines z.word)) z.least in
        omega (
          arith,
          length-drop 44 s,
          ap length z.is,
          a,
          b,
          lines_short z.word
              z.tokens.good,
          z.tokens.few,
        )
