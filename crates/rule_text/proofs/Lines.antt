-- The lines of rules, one rule more.
use mathlib.Core.Path.{◌≡◌, sym, ap, ◌∙◌}
use mathlib.Core.List.{List, [], ◌∷◌, ◌++◌, append-nil, append_assoc}
use Prim.Native.Nat.{ℕ, ◌+◌, ◌<◌}
use native.Mathlib.Numerals.{add-one}
use lib.ListN.{length, take, get_or}
use lib.Seq.{take-suc}
use Rattle.grammar.specs.declared.Rule.{Rule}
use Rattle.grammar.specs.Trees.{Rules}
use Rattle.rule_text.specs.RuleText.{rule_text_of, rules_text}

rules_snoc : (g : Rules) (r : Rule) → rules_text (g ++ (r ∷ [])) ≡ rules_text g ++ rule_text_of r
rules_snoc [] r = append-nil (rule_text_of r)
rules_snoc (x ∷ g) r = ap (λ (l : List ℕ). rule_text_of x ++ l) (rules_snoc g r)
    ∙ sym (append_assoc (rule_text_of x) (rules_text g) (rule_text_of r))

pub rules_more : (g : Rules) (i : ℕ) (d : Rule) → i < length g
    → rules_text (take (i + 1) g) ≡ rules_text (take i g) ++ rule_text_of (get_or g i d)
rules_more g i d h = rw (add-one i, take-suc g i d h) (rules_snoc (take i g) (get_or g i d))
