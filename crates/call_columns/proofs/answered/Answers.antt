-- 21, or the flags of all choices.
use mathlib.Core.Path.{refl, sym, ap, ◌∙◌}
use Prim.Native.Nat.{ℕ, ◌*◌, ◌≤◌}
use native.Mathlib.Omega.{arith}
use lib.ListN.{length}
use Rattle.grammar.specs.SpanSheet.{pairs}
use Rattle.spans.proofs.ChangeLaws.{past_same}
use Rattle.sheets.proofs.Exits.{no_line}
use Rattle.sweeping.proofs.Answers.{all_cleared}
use Rattle.call_columns.specs.Columns.{short, given}
use Rattle.sweeping.specs.Cleared.{cleared}
use Rattle.call_columns.proofs.answered.Goals as goal

pub returns-then-words-size : goal.returns-then-words-size
returns-then-words-size c =
    short (omega (
      arith,
      c.if-words-size.true,
      c.size.ensures,
      ap pairs
          c.requires.spread.whole,
    )) refl (no_line c.into.ensures) refl

pub choose-requires : goal.choose-requires
choose-requires c = record {
  formed = c.requires.formed;
  spread = c.requires.spread;
  count_in_bounds = omega (arith, c.if-words-size.false, c.size.ensures);
}

pub returns : goal.returns
returns c =
    let f = c.choose.ensures in
    let e = c.requires.spread.whole in
    let h : 2 * pairs c.args.r.count ≤ length c.args.words.now = omega (
      arith,
      c.if-words-size.false,
      c.size.ensures,
    ) in
    given (omega (
      arith,
      c.if-words-size.false,
      c.size.ensures,
      ap pairs e,
    )) f.flags_say refl
    (all_cleared c.args.r.count refl h
    (past_same (2 * pairs c.args.r.count) c.args.words.now) f.cleared
    ∙ ap (λ (n : ℕ). cleared n c.args.words.now) (sym e))
