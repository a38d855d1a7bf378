-- The count of a node over the empty word, as the code finds it.
use mathlib.Core.Path.{◌≡◌, refl, sym, ap, ◌∙◌, subst}
use mathlib.Core.Bool.{Bool}
use Prim.Native.Nat.{ℕ, zero, suc, ◌+◌}
use native.Mathlib.Omega.{arith}
use Rattle.grammar.specs.declared.Clause.{Clause}
use Rattle.grammar.specs.declared.Grammar.{Grammar}
use Rattle.grammar.specs.Layout.{Word}
use Rattle.grammar.specs.Content.{rules_of, SmallClause, SmallRule, Formed}
use Rattle.grammar.proofs.Lists.{mem_every}
use Rattle.grammar.proofs.ChoiceLaws.{member_at}
use Rattle.rows.specs.declared.Step.{Step}
use Rattle.rows.specs.Steps.{clause_kind, KidsSmall}
use Rattle.tree_choices.specs.Picks.{PickedStep}
use Rattle.row_counts.specs.Capped.{capped}
use Rattle.row_counts.specs.Nulls.{two_more_of}
use Rattle.row_counts.proofs.CappedLaws.{capped_suc}

pub two_some : (x y s r : ℕ) → (x ≡ 0 → ⊥) → (y ≡ 0 → ⊥) → s ≡ capped (x + y) → r ≡ capped (1 + s)
    → r ≡ two_more_of x y
two_some zero y s r h k e f = absurd (h refl)
two_some (suc x) zero s r h k e f = absurd (k refl)
two_some (suc x) (suc y) s r h k e f =
    f ∙ ap (λ (j : ℕ). capped (1 + j)) e ∙ ap capped
    (let q : 1 + capped (suc x + suc y) ≡ suc (capped (suc x + suc y)) = omega arith in q)
    ∙ capped_suc (suc x + suc y)

-- the children that a step names are nonterminals
kind_small : (c : Clause) (k : ℕ) → SmallClause c → KidsSmall (clause_kind c k)
kind_small Clause.Empty k s = tt
kind_small (Clause.Atom a b) k s = tt
kind_small (Clause.Unary B u) k s = s
kind_small (Clause.Binary B C u) k s = s

pub chosen_small : {g : Grammar} {A : ℕ} {w : Word} {s : Bool} {st : Step} → Formed g
    → PickedStep (rules_of g) A w s st → KidsSmall st.kind
chosen_small {g} {st = st} f c =
    let r = mem_every SmallRule (rules_of g) f.small (member_at (rules_of g) c.place c.stands) in
    subst (λ (y : Step). KidsSmall y.kind) (sym c.step) (kind_small c.rule.clause c.split r.clause)
