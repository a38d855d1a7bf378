-- Trees that differ only where nothing may be seen (for laws).
use Rattle.std.specs.Prelude.{◌≡◌, false, ℕ}
use Rattle.grammar.specs.declared.Token.{Token}
use Rattle.grammar.specs.Trees.{Tree, empty, leaf, unary, binary, root, word}
use Rattle.tree_view.specs.Shown.{View}

-- t and u differ only beneath nodes that may not be seen
pub data OnlyBeneath (sees : View) : Tree → Tree → Type 0 where
  closed : {t u : Tree} → sees (root t) ≡ false → root t ≡ root u → word t ≡ word u
      → OnlyBeneath sees t u
  same_empty : {A : ℕ} → OnlyBeneath sees (empty A) (empty A)
  same_leaf : {A : ℕ} {a : Token} → OnlyBeneath sees (leaf A a) (leaf A a)
  same_unary : {A : ℕ} {t u : Tree} → OnlyBeneath sees t u
      → OnlyBeneath sees (unary A t) (unary A u)
  same_binary : {A : ℕ} {s t u v : Tree} → OnlyBeneath sees s u → OnlyBeneath sees t v
      → OnlyBeneath sees (binary A s t) (binary A u v)
