-- Nodes in words, four for each shape's number. For the contracts of inner functions only.
use Rattle.std.specs.Prelude.{◌≡◌, List, ℕ, ◌+◌, ◌*◌, ◌/◌, ◌%◌, ◌≤◌, ◌<◌, length, get_or}
use Rattle.grammar.specs.Trees.{Rules}
use Rattle.pairs.specs.Shapes.{HasForm, Head}
use Rattle.pair_steps.specs.declared.Node.{Node}
use Rattle.pair_steps.specs.Nodes.{NodeOf, Weakest, shape_number}

-- the first word has the number of children and the nonterminals, the second the sets of offsets,
-- the others the terminals
abbrev pub node_at : List ℕ → ℕ → Node
node_at ns i =
    record {
      kids = get_or ns (4 * i) 0 % 4;
      sort = get_or ns (4 * i) 0 / 4 % 64;
      first = get_or ns (4 * i) 0 / 256 % 64;
      second = get_or ns (4 * i) 0 / 16384 % 64;
      keep = get_or ns (4 * i + 1) 0 % 16;
      join = get_or ns (4 * i + 1) 0 / 16 % 16;
      apart = get_or ns (4 * i + 1) 0 / 256 % 16;
      begin = get_or ns (4 * i + 2) 0;
      next = get_or ns (4 * i + 3) 0;
    }

-- there is a node with the number i: bit 20 of its first word
pub record Present (ns : List ℕ) (i : ℕ) : Type 0 where
  pub there : 1048576 ≤ get_or ns (4 * i) 0

-- it describes a head with that number, under the weakest mark
pub record SlotOf (g : Rules) (ns : List ℕ) (i : ℕ) : Type 0 where
  pub head : Head
  pub number : shape_number head.shape ≡ i
  pub node : NodeOf g head (node_at ns i)
  pub weakest : Weakest g head

-- the nodes of all shapes under the weakest marks, and no others
pub record NodesOf (g : Rules) (ns : List ℕ) : Type 0 where
  pub long : 1536 ≤ length ns
  pub only : (i : ℕ) → i < 384 → Present ns i → SlotOf g ns i
  pub all : (x : Head) → HasForm g x.sort x.shape x.form → Weakest g x
      → Present ns (shape_number x.shape) × NodeOf g x (node_at ns (shape_number x.shape))
