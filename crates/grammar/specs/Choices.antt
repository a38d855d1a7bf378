-- Choices, the first tree and the second tree: docs/FORMAT.md, "Trees and choices"; on a looping
-- sheet "Looping sheets".
use Rattle.std.specs.Prelude.{◌≡◌, ◌⊎◌, ℕ, suc, ◌≤◌, ◌<◌, max, length}
use Rattle.std.proofs.Math.Option.{some}
use Rattle.std.proofs.Math.ListN.{get_elem?}
use Rattle.grammar.specs.declared.UnaryMark.{UnaryMark}
use Rattle.grammar.specs.declared.BinaryMark.{BinaryMark}
use Rattle.grammar.specs.declared.Rule.{Rule}
use Rattle.grammar.specs.declared.Clause.{Clause}
use Rattle.grammar.specs.Layout.{Word}
use Rattle.grammar.specs.Layout as Mark
use Rattle.grammar.specs.Trees.{Tree, empty, leaf, unary, binary, root, word, Rules, Covers}
use Rattle.grammar.specs.Trees.{Witness}
use Rattle.grammar.specs.Cycles.{Cyclic}

-- rule r stands at the top of t and its mark holds; k is the length of the left word, 0 but for a
-- binary node
abbrev pub Top : Rule → ℕ → Tree → Type 0
Top r k (empty A) = (r ≡ record { left = A; clause = Clause.Empty }) × (k ≡ 0)
Top r k (leaf A t) = (a : ℕ) × (b : ℕ) × (r ≡ record { left = A; clause = Clause.Atom a b })
    × Covers a b t.terminal × (k ≡ 0)
Top r k (unary A t) = (m : UnaryMark) × (r ≡ record { left = A; clause = Clause.Unary (root t) m })
    × (k ≡ 0) × Mark.Unary m (word t)
Top r k (binary A s t) =
    (m : BinaryMark)
    × (r ≡ record { left = A; clause = Clause.Binary (root s) (root t) m })
    × (k ≡ length (word s))
    × Mark.Binary m (word s) (word t)

-- the tree t takes the choice (p, k) at its top: p is the rule's place in the sheet, counted from 0
pub record Takes (g : Rules) (t : Tree) (p k : ℕ) : Type 0 where
  pub rule : Rule
  pub stands : get_elem? g p ≡ some rule
  pub top : Top rule k t

-- (p, k) is a choice of A at w: some valid tree of A over w takes it
pub record Choice (g : Rules) (A : ℕ) (w : Word) (p k : ℕ) : Type 0 where
  pub tree : Tree
  pub witness : Witness g A w tree
  pub takes : Takes g tree p k

-- choices are ordered by the rule's place in the sheet, then by the length of the left word, rising
abbrev pub ChoiceBefore : ℕ → ℕ → ℕ → ℕ → Type 0
ChoiceBefore p k q l = (p < q) ⊎ ((p ≡ q) × (k < l))

abbrev pub Same : ℕ → ℕ → ℕ → ℕ → Type 0
Same p k q l = (p ≡ q) × (k ≡ l)

-- the first choice: no choice comes before it
pub record FirstChoice (g : Rules) (A : ℕ) (w : Word) (p k : ℕ) : Type 0 where
  pub choice : Choice g A w p k
  pub least : (q l : ℕ) → Choice g A w q l → ChoiceBefore q l p k → ⊥

-- the only choice: the node has not two or more
pub record OnlyChoice (g : Rules) (A : ℕ) (w : Word) (p k : ℕ) : Type 0 where
  pub choice : Choice g A w p k
  pub only : (q l : ℕ) → Choice g A w q l → Same q l p k

-- (q, l) is the first of the choices other than (p, k): where (p, k) is the first, the second
pub record OtherChoice (g : Rules) (A : ℕ) (w : Word) (p k q l : ℕ) : Type 0 where
  pub choice : Choice g A w q l
  pub other : Same q l p k → ⊥
  pub least : (q' l' : ℕ) → Choice g A w q' l' → ChoiceBefore q' l' q l → Same q' l' p k

-- the height of a tree: how many nodes stand on its longest way down
abbrev pub height : Tree → ℕ
height (empty A) = 1
height (leaf A t) = 1
height (unary A t) = suc (height t)
height (binary A s t) = suc (max (height s) (height t))

-- (p, k) gives the height h: some valid tree of A over w that takes it is h high
pub record GivesHeight (g : Rules) (A : ℕ) (w : Word) (p k h : ℕ) : Type 0 where
  pub tree : Tree
  pub witness : Witness g A w tree
  pub takes : Takes g tree p k
  pub high : height tree ≡ h

-- the earliest choice among those giving the least height
pub record LowChoice (g : Rules) (A : ℕ) (w : Word) (p k : ℕ) : Type 0 where
  pub least : ℕ
  pub gives : GivesHeight g A w p k least
  pub lowest : (t : Tree) → Witness g A w t → least ≤ height t
  pub earliest : (q l : ℕ) → GivesHeight g A w q l least → ChoiceBefore q l p k → ⊥

-- what is asked of a node: of its nonterminal, its word, the place of its rule and its left length
abbrev pub Ask : Type 1
Ask = ℕ → Word → ℕ → ℕ → Type 0

-- the node at the top of t follows a rule whose mark holds, and P holds of it
pub record Node (g : Rules) (P : Ask) (t : Tree) : Type 0 where
  pub place : ℕ
  pub split : ℕ
  pub takes : Takes g t place split
  pub holds : P (root t) (word t) place split

-- that, of each node of t
abbrev pub Each : Rules → Ask → Tree → Type 0
Each g P (empty A) = Node g P (empty A)
Each g P (leaf A t) = Node g P (leaf A t)
Each g P (unary A t) = Node g P (unary A t) × Each g P t
Each g P (binary A s t) = Node g P (binary A s t) × (Each g P s × Each g P t)

-- that, of each node of t but its top
abbrev pub Beneath : Rules → Ask → Tree → Type 0
Beneath g P (empty A) = Unit {0}
Beneath g P (leaf A t) = Unit {0}
Beneath g P (unary A t) = Each g P t
Beneath g P (binary A s t) = Each g P s × Each g P t

-- the choice that the first tree takes at a node: the first; on a looping sheet the earliest of
-- those giving the least height
pub data Preferred (g : Rules) (A : ℕ) (w : Word) (p k : ℕ) : Type 0 where
  straight : (Cyclic g → ⊥) → FirstChoice g A w p k → Preferred g A w p k
  looping : Cyclic g → LowChoice g A w p k → Preferred g A w p k

-- t takes that choice at each node
abbrev pub AllPreferred : Rules → Tree → Type 0
AllPreferred g t = Each g (Preferred g) t

-- t is the first tree of A over w
pub record FirstTree (g : Rules) (A : ℕ) (w : Word) (t : Tree) : Type 0 where
  pub rooted : root t ≡ A
  pub spelled : word t ≡ w
  pub first : AllPreferred g t

-- u takes, at the top, the first choice that t does not, and first trees beneath
pub record Swerves (g : Rules) (t u : Tree) : Type 0 where
  pub place : ℕ
  pub split : ℕ
  pub taken : Takes g t place split
  pub rooted : root u ≡ root t
  pub spelled : word u ≡ word t
  pub node : Node g (λ A w q l. OtherChoice g A w place split q l) u
  pub beneath : Beneath g (Preferred g) u

-- u differs from t only at and beneath the first node of t that has two or more choices;
-- the walk goes node before children, left before right
pub data Second (g : Rules) : Tree → Tree → Type 0 where
  here : {t u : Tree} → Swerves g t u → Second g t u
  below : {A : ℕ} {s s' : Tree} → Node g (OnlyChoice g) (unary A s) → Second g s s'
      → Second g (unary A s) (unary A s')
  left : {A : ℕ} {s s' t : Tree} → Node g (OnlyChoice g) (binary A s t) → Second g s s'
      → Second g (binary A s t) (binary A s' t)
  right : {A : ℕ} {s t t' : Tree} → Node g (OnlyChoice g) (binary A s t) → Each g (OnlyChoice g) s
      → Second g t t' → Second g (binary A s t) (binary A s t')

-- u is the second tree of A over w
pub record SecondTree (g : Rules) (A : ℕ) (w : Word) (u : Tree) : Type 0 where
  pub tree : Tree
  pub first : FirstTree g A w tree
  pub second : Second g tree u
