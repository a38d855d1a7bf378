-- The doubts of a sheet: where the test cannot tell that no word is read in two ways.
use Rattle.std.specs.Prelude.{◌≡◌, ◌⊎◌, ℕ, ◌<◌}
use mathlib.Core.List.{List, [], ◌∷◌, Memᴰ}
use Rattle.grammar.specs.Layout.{Every}
use Rattle.grammar.specs.Trees.{Rules}
use Rattle.grammar.specs.Choices.{Choice}
use Rattle.pairs.specs.Survey.{Occurs}
use Rattle.pairs.specs.Shapes.{rule_of_shape, Head, children}
use Rattle.pairs.specs.Relations.{equal}
use Rattle.pairs.specs.Settings.{start₁, cut₁, start₂, cut₂, at, stop₁, stop₂, Setting}
use Rattle.pairs.specs.Facts.{stand, Might}

-- two nodes may stand over one word
pub record OneSpan (g : Rules) (σ : Setting) (x y : Head) : Type 0 where
  pub may : Might g (stand σ x y)
  pub starts : σ.order (at start₁) (at start₂) ≡ equal
  pub stops : σ.order stop₁ stop₂ ≡ equal

-- A has tokens in a tree of 0, as far as is known: 0, and each child of a node that may stand over
-- one word with itself
pub data Seen (g : Rules) : ℕ → Type 0 where
  seen_top : Seen g 0
  seen_child : {C : ℕ} {σ : Setting} {x : Head} → Seen g x.sort → OneSpan g σ x x
      → Memᴰ C (children x.form) → Seen g C

-- nodes of A that follow the rules p and q may stand over one word, and differ in what children
-- have tokens or in where they are cut
pub record TwoNodes (g : Rules) (A p q : ℕ) : Type 0 where
  pub σ : Setting
  pub x : Head
  pub y : Head
  pub sort₁ : x.sort ≡ A
  pub sort₂ : y.sort ≡ A
  pub rule₁ : rule_of_shape x.shape ≡ p
  pub rule₂ : rule_of_shape y.shape ≡ q
  pub over : OneSpan g σ x y
  pub differ : x.shape ≡ y.shape → σ.order (at cut₁) (at cut₂) ≡ equal → ⊥

-- two rules may read one word; one rule may part a word at two places; two rules have the empty
-- word
pub data Why : Type 0 where
  two_rules : Why
  two_cuts : Why
  two_empty : Why

abbrev pub DoubtBy : Rules → ℕ → ℕ → ℕ → Why → Type 0
DoubtBy g A p q two_rules = Seen g A × (p < q) × TwoNodes g A p q
DoubtBy g A p q two_cuts = Seen g A × (p ≡ q) × TwoNodes g A p q
DoubtBy g A p q two_empty = Occurs g A × (p < q) × Choice g A [] p 0 × Choice g A [] q 0

-- an entry of the list: a nonterminal, two of its rules by their places from 0, and why
pub record Doubt : Type 0 where
  pub nonterminal : ℕ
  pub first : ℕ
  pub second : ℕ
  pub why : Why

abbrev pub Doubted : Rules → Doubt → Type 0
Doubted g d = DoubtBy g d.nonterminal d.first d.second d.why

abbrev pub why_code : Why → ℕ
why_code two_rules = 0
why_code two_cuts = 1
why_code two_empty = 2

-- by nonterminal, then first rule, then second, then why
abbrev pub DoubtBefore : Doubt → Doubt → Type 0
DoubtBefore d e =
    (d.nonterminal < e.nonterminal)
    ⊎ ((d.nonterminal ≡ e.nonterminal) × (d.first < e.first))
    ⊎ ((d.nonterminal ≡ e.nonterminal) × (d.first ≡ e.first) × (d.second < e.second))
    ⊎ ((d.nonterminal ≡ e.nonterminal) × (d.first ≡ e.first) × (d.second ≡ e.second)
    × (why_code d.why < why_code e.why))

abbrev pub DoubtsInOrder : List Doubt → Type 0
DoubtsInOrder [] = Unit {0}
DoubtsInOrder (d ∷ ds) = Every (DoubtBefore d) ds × DoubtsInOrder ds

-- ds lists every doubt of the sheet, and no more, in that order
pub record AllDoubts (g : Rules) (ds : List Doubt) : Type 0 where
  pub each : Every (Doubted g) ds
  pub all : (d : Doubt) → Doubted g d → Memᴰ d ds
  pub ordered : DoubtsInOrder ds
