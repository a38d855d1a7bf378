-- The way down the second tree to the node where it parts from the first. For the contracts of
-- inner functions only.
use Rattle.std.specs.Prelude.{◌≡◌, List, ℕ, ◌+◌, ◌-◌, ◌*◌, ◌≤◌, ◌<◌, length}
use Rattle.std.specs.Prelude.{Option, Some, None}
use Rattle.sets.specs.Sets.{In}
use Rattle.grammar.specs.Layout.{Word}
use Rattle.grammar.specs.Trees.{Tree, word, Rules}
use Rattle.grammar.specs.Choices.{Beneath, Preferred, FirstTree}
use Rattle.grammar.specs.Rows.{row_count}
use Rattle.grammar.specs.SpanSheet.{part, pairs, second_word}
use Rattle.rows.specs.declared.Kind.{Kind}
use Rattle.rows.specs.declared.Step.{Step}
use Rattle.rows.specs.Steps.{KidsSmall, LeftWithin}
use Rattle.tree_choices.proofs.Pending.{node_shape}
use Rattle.row_counts.specs.declared.Part.{Part}
use Rattle.row_counts.specs.declared.Way.{Way}
use Rattle.row_counts.specs.Capped.{capped}
use Rattle.row_counts.specs.Walks.{FirstThere, Leaf}

-- u has this step at its top, over the span of l tokens from i on, and first trees beneath
pub record Parted (g : Rules) (w : Word) (st : Step) (i l : ℕ) (u : Tree) : Type 0 where
  pub shaped : st ≡ node_shape st.seeking u
  pub spelled : word u ≡ part w i l
  pub beneath : Beneath g (Preferred g) u

-- there is such a tree
pub record PartedThere (g : Rules) (w : Word) (st : Step) (i l : ℕ) : Type 0 where
  pub tree : Tree
  pub parted : Parted g w st i l tree

-- the node is no leaf, and its children lie in the span sheet of n tokens
pub record Onto (ws : List ℕ) (n : ℕ) (kind : Kind) (i l : ℕ) : Type 0 where
  pub few : n ≤ 64
  pub fits : i + l ≤ n
  pub enough : 2 * pairs n ≤ length ws
  pub small : KidsSmall kind
  pub split : LeftWithin kind l
  pub inner : Leaf kind → ⊥

-- the child in which the second tree goes on: the left one where that has two trees
pub record OnwardTwo (two : Type 0) (B C k i l : ℕ) (r : Way) : Type 0 where
  pub left : two → r ≡ record {
    on = record { name = B; start = i; long = k };
    beside = Some (record { name = C; start = i + k; long = l - k });
  }
  pub right : (two → ⊥) → r ≡ record {
    on = record { name = C; start = i + k; long = l - k };
    beside = Some (record { name = B; start = i; long = k });
  }

abbrev pub Onward : List ℕ → ℕ → Kind → ℕ → ℕ → Way → Type 0
Onward ws n Kind.Empty i l r = ⊥
Onward ws n Kind.Atom i l r = ⊥
Onward ws n (Kind.Unary B) i l r =
    r ≡ record { on = record { name = B; start = i; long = l }; beside = None }
Onward ws n (Kind.Binary B C k) i l r = OnwardTwo (In (second_word ws n i k) B) B C k i l r
Onward ws n Kind.Closed i l r = ⊥

-- a part of the word that has a first tree
pub record PartThere (g : Rules) (w : Word) (p : Part) : Type 0 where
  pub small : p.name < 64
  pub fits : p.start + p.long ≤ length w
  pub there : FirstThere g p.name (part w p.start p.long)

-- the first tree beside the way, where there is one
abbrev pub BesideThere : Rules → Word → Option Part → Type 0
BesideThere g w None = Unit {0}
BesideThere g w (Some p) = PartThere g w p

-- r is the node's own row and the rows of that tree
abbrev pub Beside : Rules → Word → Option Part → ℕ → Type 0
Beside g w None r = r ≡ 1
Beside g w (Some p) r = (t : Tree) → FirstTree g p.name (part w p.start p.long) t
    → r ≡ capped (1 + row_count t)
