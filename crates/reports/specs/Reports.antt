-- Reports of shares as texts, and what the program `calls` writes for `merge`: one of two reports,
-- or refused-32 where one of them is not so written.
use Rattle.std.specs.Prelude.{Some, None}
use Rattle.std.specs.Prelude.{◌≡◌, List, ℕ, ◌≤◌, length}
use Rattle.grammar.specs.declared.Token.{Token}
use Rattle.grammar.specs.Layout.{Word, Every, line, col, width}
use Rattle.sheets.specs.declared.Fault.{Fault}
use Rattle.sweep_answers.specs.Sweep.{sweep_limit}
use Rattle.text.specs.Output.{refused_text_of, head}
use Rattle.call_shares.specs.Share.{ShareResult, share_reply_of}
use Rattle.sheets.specs.Results.{refusal}
use Rattle.call_shares.specs.Merge.{Merged}
use Rattle.share_text.specs.Shares.{report_text}

-- a token of a report: numbers as token sheets have them, and width 1
pub record ReportToken (t : Token) : Type 0 where
  pub terminal_most : t.terminal ≤ 63
  pub line_most : line t ≤ 65535
  pub column_most : col t ≤ 65535
  pub one : width t ≡ 1

-- a reply that is read from its text: a refusal; clear; or two, with a sentence of one to seven
-- tokens. Its numbers are at most that of refusal 24
pub data Report (r : ShareResult) : Type 0 where
  a_refusal : {f : Fault} {l : ℕ} → l ≤ sweep_limit → r ≡ refusal f l → Report r
  a_clear : {q m : ℕ} → q ≤ sweep_limit → m ≤ sweep_limit → r ≡ share_reply_of 0 q m None
      → Report r
  a_two : {N q m : ℕ} (w : Word) → N ≤ sweep_limit → q ≤ sweep_limit → m ≤ sweep_limit
      → 1 ≤ length w
      → length w ≤ 7 → Every ReportToken w → r ≡ share_reply_of N q m (Some w) → Report r

-- the text of a report
pub record ReportOf (text : List ℕ) (r : ShareResult) : Type 0 where
  pub report : Report r
  pub written : text ≡ report_text r

-- the output for two reports: refused-32 where one is not so written, else that of the merged one
pub data MergeText (one two text : List ℕ) : Type 0 where
  one_unwritten : ((r : ShareResult) → ReportOf one r → ⊥) → text ≡ head (refused_text_of 32) 0
      → MergeText one two text
  two_unwritten : ((r : ShareResult) → ReportOf two r → ⊥) → text ≡ head (refused_text_of 32) 0
      → MergeText one two text
  merging : {a b r : ShareResult} → ReportOf one a → ReportOf two b → Merged a b r
      → text ≡ report_text r → MergeText one two text
