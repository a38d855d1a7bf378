-- `push` meets its contract.
use mathlib.Core.Path.{refl, ap, ◌∙◌}
use mathlib.Core.Logic.{inl, inr}
use native.Mathlib.Omega.{arith}
use mathlib.Core.List.{[], ◌∷◌, ◌++◌, map}
use lib.ListN.{take}
use Rattle.grammar.specs.declared.Rule.{Rule}
use Rattle.rule_words.specs.Words.{word_rule}
use Rattle.rule_output.proofs.Adding.{adds_over, set_long, pushed}
use Rattle.rule_output.proofs.push.Goals as goal

pub returns-then-count-lt128 : goal.returns-then-count-lt128
returns-then-count-lt128 c =
    let o = c.args.out in
    let w = c.args.rules.now in
    record {
      why = λ z. inl z;
      count = λ z. omega arith;
      room = λ z. z;
      long = λ z. set_long w o.count c.word_of.result;
      rules = λ z h.
          pushed w o.count c.word_of.result (omega (arith, c.if-count-lt128.true))
          ∙ ap (λ (r : Rule). take o.count (map word_rule w) ++ (r ∷ [])) c.word_of.ensures;
      next = λ z. omega arith;
      low = λ z h. h;
      few = λ z h. omega arith;
    }

pub returns : goal.returns
returns c = adds_over refl (inr (inr (omega arith)))
