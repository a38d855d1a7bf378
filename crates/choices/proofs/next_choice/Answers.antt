-- What stands by the span sheet and the span's marks is a choice.
use mathlib.Core.Path.{subst}
use Prim.Native.Nat.{ℕ, ◌*◌, ◌≤◌}
use lib.ListN.{length}
use Rattle.grammar.proofs.SentenceLaws.{whole}
use Rattle.grammar.specs.SpanSheet.{pairs}
use Rattle.choices.proofs.PickLaws.{next_found}
use Rattle.grammar.specs.Sentences.{spelled}
use borrow.Author.Rules.{rules}
use Rattle.choices.proofs.next_choice.Goals as goal

pub next_rule-requires : goal.next_rule-requires
next_rule-requires c = record {
  room = record {
    few = c.requires.count_bound.0;
    fits = c.requires.count_bound.1;
    enough = subst
        (λ (n : ℕ). 2 * pairs n ≤ length c.args.words.now)
        (whole c.args.s (search rules) c.requires.count_bound.0)
        c.requires.span_sheet.enough;
  };
  formed = c.requires.formed;
}

pub returns : goal.returns
returns c =
    let a = c.args in
    next_found a.g (spelled a.s) a.words.now a.start a.len
    c.span_marks-k.result a.a a.from.rule a.from.left c.requires.formed a.s.count
    c.next_rule.result (whole c.args.s (search rules) c.requires.count_bound.0)
    c.requires.count_bound.1 c.requires.span_sheet
    c.span_marks-k.ensures c.next_rule.ensures
