-- The sheet is opened, and the pairs of single tokens are written.
use mathlib.Core.Path.{sym, ap, ◌∙◌}
use Prim.Native.Nat.{ℕ}
use lib.ListN.{take}
use Rattle.spans.proofs.ChangeLaws.{past_then}
use Rattle.refilling.proofs.KeptLaws.{suits}
use Rattle.column_search.proofs.Searching.{leaved_begun}
use Rattle.column_search.proofs.begin.Goals as goal

pub returns : goal.returns
returns c =
    let s = c.lowest_sentence-s in
    let b = c.put_leaves.ensures.begun in
    let m = c.put_leaves.ensures.mirrored_2 in
    let e = ap (λ (n : ℕ). take n s.result.tokens) (sym s.ensures.0) ∙ s.ensures.1 in
    record {
      leaved = leaved_begun c.requires.spread e b;
      beside = record { suits = suits m.prepared b.empty; mirrored = m };
      past = past_then c.open_sheet.ensures.past b.past;
    }
