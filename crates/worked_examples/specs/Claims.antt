-- What a worked example claims of sheets, and what it takes for the claim to hold.
use Rattle.std.specs.Prelude.{◌≡◌, ℕ, length}
use mathlib.Core.List.{List, map, Memᴰ}
use Rattle.grammar.specs.declared.Cell.{Cell}
use Rattle.grammar.specs.Layout.{Word, Every}
use Rattle.grammar.specs.Trees.{Tree, empty, leaf, unary, binary, word, Rules, Witness, NoTree}
use Rattle.grammar.specs.Trees.{OneTree, TwoTrees}
use Rattle.grammar.specs.Candidates.{sentence}
use Rattle.grammar.specs.Sweeps.{Clear, FirstTwo}
use Rattle.sheets.specs.Items.{Reading, accepted}
use Rattle.sheets.specs.RuleSheets.{rule_sheet}
use Rattle.sheets.specs.TokenSheets.{token_sheet}

pub data TreeCount : Type 0 where
  no_tree one_tree two_trees : TreeCount

-- A has no valid tree over w, just one, or two that differ
abbrev pub Is : TreeCount → Rules → ℕ → Word → Type 0
Is no_tree g A w = NoTree g A w
Is one_tree g A w = OneTree g A w
Is two_trees g A w = TwoTrees g A w

-- l is all of the trees of A over w
pub record Exactly (g : Rules) (A : ℕ) (w : Word) (l : List Tree) : Type 0 where
  pub sound : Every (Witness g A w) l
  pub whole : (t : Tree) → Witness g A w t → Memᴰ t l

-- the length of the left word at the top of a tree, 0 but for a binary node
abbrev pub left_length : Tree → ℕ
left_length (empty A) = 0
left_length (leaf A t) = 0
left_length (unary A t) = 0
left_length (binary A s t) = length (word s)

-- all trees of A over w, in some order, have these lengths of the left word at the top
pub record LeftLengths (g : Rules) (A : ℕ) (w : Word) (lengths : List ℕ) : Type 0 where
  pub trees : List Tree
  pub exactly : Exactly g A w trees
  pub lefts : map left_length trees ≡ lengths

-- a sheet gives something of which P holds
pub record Gives {A : Type 0} (given : Reading A) (P : A → Type 0) : Type 0 where
  pub content : A
  pub reads : given ≡ accepted content
  pub holds : P content

-- the answer of a sweep: clear, or the found sentence as a token sheet
pub data SweepClaim : Type 0 where
  clear : SweepClaim
  two_at : List ℕ → SweepClaim

-- of a rule sheet: the verdict on a token sheet and a nonterminal, and the left lengths there; the
-- answer of a sweep up to k; that any sweep is clear
pub data Claim : Type 0 where
  verdict : List ℕ → List ℕ → ℕ → TreeCount → Claim
  lefts : List ℕ → List ℕ → ℕ → List ℕ → Claim
  sweep : List ℕ → ℕ → SweepClaim → Claim
  every_sweep_clear : List ℕ → Claim

-- w is the sentence of the first candidate of 1 to k tokens that has two trees
pub record FoundAt (g : Rules) (k : ℕ) (w : Word) : Type 0 where
  pub cells : List Cell
  pub spelled : sentence cells ≡ w
  pub first : FirstTwo g k cells

abbrev pub SweepHolds : Rules → ℕ → SweepClaim → Type 0
SweepHolds g k clear = Clear g k
SweepHolds g k (two_at tokens) = Gives (token_sheet tokens) (FoundAt g k)

abbrev pub ClaimHolds : Claim → Type 0
ClaimHolds (verdict rules tokens A v) =
    Gives (rule_sheet rules) (λ (g : Rules). Gives (token_sheet tokens) (λ (w : Word). Is v g A w))
ClaimHolds (lefts rules tokens A l) = Gives (rule_sheet rules)
    (λ (g : Rules). Gives (token_sheet tokens) (λ (w : Word). LeftLengths g A w l))
ClaimHolds (sweep rules k a) = Gives (rule_sheet rules) (λ (g : Rules). SweepHolds g k a)
ClaimHolds (every_sweep_clear rules) = Gives (rule_sheet rules) (λ (g : Rules). (k : ℕ) → Clear g k)
