-- First trees: what is chosen at their tops, and their roots.
use mathlib.Core.Path.{◌≡◌, sym, ◌∙◌, subst}
use mathlib.Core.Bool.{false}
use mathlib.Core.List.{[]}
use Prim.Native.Nat.{ℕ, ◌<◌}
use native.Mathlib.Omega.{arith}
use lib.ListN.{length}
use lib.Seq.{take_all}
use Rattle.grammar.specs.declared.Grammar.{Grammar}
use Rattle.grammar.specs.Layout.{Word}
use Rattle.grammar.specs.Trees.{Tree, root, word, Rules}
use Rattle.grammar.specs.Choices.{AllPreferred, FirstTree, Preferred}
use Rattle.grammar.specs.Content.{rules_of, SmallRule, Formed}
use Rattle.grammar.specs.SpanSheet.{part}
use Rattle.grammar.proofs.Lists.{mem_every}
use Rattle.grammar.proofs.ByKind.{top_left}
use Rattle.grammar.proofs.ChoiceLaws.{top_of, member_at, preferred_choice}
use Rattle.rows.specs.declared.Step.{Step}
use Rattle.tree_choices.specs.Picks.{PickedStep, HasChoice}
use Rattle.tree_choices.proofs.Pending.{node_shape, aim_step}
use Rattle.row_counts.specs.Walks.{FirstThere}
use Rattle.grammar.specs.Distinct.{Distinct}

pub first_shape : {g : Rules} → Distinct g → (t : Tree) → AllPreferred g t → (A : ℕ) (w : Word)
    → root t ≡ A → word t ≡ w → (st : Step) → PickedStep g A w false st
    → st ≡ node_shape st.seeking t
first_shape d t f A w a b st c =
    c.step
    ∙ (aim_step d false (record { tree = t; start = 0 }) [] (f, tt) c.place c.split
    st.seeking (rw (a, b) c.picks) c.rule c.stands).0

pub first_choice : {g : Rules} (t : Tree) → AllPreferred g t → (A : ℕ) (w : Word) → root t ≡ A
    → word t ≡ w → HasChoice g A w
first_choice {g} t f A w a b = let n = top_of g (Preferred g) t f in
    (n.place, n.split, rw (← a, ← b) (preferred_choice g _ _ _ _ n.holds))

-- the root of a first tree is a nonterminal
pub root_small : {g : Grammar} → Formed g → (t : Tree) → AllPreferred (rules_of g) t → root t < 64
root_small {g} f t h =
    let n = top_of (rules_of g) (Preferred (rules_of g)) t h in
    let r = mem_every SmallRule (rules_of g) f.small
    (member_at (rules_of g) n.place n.takes.stands) in
    omega (arith, r.left, top_left t n.takes.rule n.split n.takes.top)

-- the whole sentence as a span
pub all_of : (w : Word) (n : ℕ) → length w ≡ n → w ≡ part w 0 n
all_of w n e = sym (take_all n w (omega arith))

module _ {g : Rules} {A : ℕ} {w : Word} (n : ℕ) (e : length w ≡ n) where
  pub spanned : {t : Tree} → FirstTree g A w t → FirstTree g A (part w 0 n) t
  spanned {t} f = subst (λ (v : Word). FirstTree g A v t) (all_of w n e) f

  pub spanned_there : {t : Tree} → FirstTree g A w t → FirstThere g A (part w 0 n)
  spanned_there {t} f = record { tree = t; first = spanned f }
