-- What is picked at a node. For the contracts of inner functions only.
use Rattle.std.specs.Prelude.{◌≡◌, Bool, true, false, ℕ}
use Rattle.std.proofs.Math.Option.{some}
use Rattle.std.proofs.Math.ListN.{get_elem?}
use Rattle.grammar.specs.declared.Rule.{Rule}
use Rattle.grammar.specs.Layout.{Word}
use Rattle.grammar.specs.Trees.{Rules, TwoTrees}
use Rattle.grammar.specs.Choices.{Choice, OnlyChoice, OtherChoice, Preferred}
use Rattle.rows.specs.declared.Step.{Step}
use Rattle.rows.specs.Steps.{step_of_clause, closed_step}
use Rattle.tree_view.specs.Shown.{View}

-- A has a choice at w
abbrev pub HasChoice : Rules → ℕ → Word → Type 0
HasChoice g A w = (p : ℕ) × (k : ℕ) × Choice g A w p k

-- (p, k) is what is picked at a node, by whether the node at which the second tree parts from the
-- first was still to come, and still is
abbrev pub Picks : Rules → ℕ → Word → Bool → ℕ → ℕ → Bool → Type 0
Picks g A w false p k false = Preferred g A w p k
Picks g A w false p k true = ⊥
Picks g A w true p k false = (q : ℕ) × (l : ℕ) × Preferred g A w q l × OtherChoice g A w q l p k
Picks g A w true p k true = OnlyChoice g A w p k

-- the step of what is picked
pub record PickedStep (g : Rules) (A : ℕ) (w : Word) (seeking : Bool) (st : Step) : Type 0 where
  pub place : ℕ
  pub split : ℕ
  pub rule : Rule
  pub stands : get_elem? g place ≡ some rule
  pub step : st ≡ step_of_clause rule.clause split st.seeking
  pub picks : Picks g A w seeking place split st.seeking

-- whether the seeking goes on behind a closed node: it ends there if the trees part beneath it,
-- that is, if A has two trees over w
abbrev pub Passes : Rules → ℕ → Word → Bool → Bool → Type 0
Passes g A w false false = Unit {0}
Passes g A w false true = ⊥
Passes g A w true false = TwoTrees g A w
Passes g A w true true = TwoTrees g A w → ⊥

-- the step of a node as it is shown: what is picked, or a closed node
pub data Looked (sees : View) (g : Rules) (A : ℕ) (w : Word) (seeking : Bool) (st : Step) : Type
    0 where
  seen : sees A ≡ true → PickedStep g A w seeking st → Looked sees g A w seeking st
  closed : sees A ≡ false → st ≡ closed_step st.seeking → Passes g A w seeking st.seeking
      → Looked sees g A w seeking st
