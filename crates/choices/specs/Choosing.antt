-- The choices at a span in their order, read off its span sheet.
use Rattle.std.specs.Prelude.{ℕ, Option, Some, None}
use Rattle.grammar.specs.Layout.{Word}
use Rattle.grammar.specs.Trees.{Rules}
use Rattle.grammar.specs.Choices.{Choice, ChoiceBefore}
use Rattle.choices.specs.declared.Pick.{Pick}

-- (q, l) is the first choice of A at w among those that are not before (p, k)
pub record NextAt (g : Rules) (A : ℕ) (w : Word) (p k q l : ℕ) : Type 0 where
  pub choice : Choice g A w q l
  pub late : ChoiceBefore q l p k → ⊥
  pub least : (i j : ℕ) → Choice g A w i j → (ChoiceBefore i j p k → ⊥) → ChoiceBefore i j q l → ⊥

-- there is none: each choice is before (p, k)
pub record NoneFrom (g : Rules) (A : ℕ) (w : Word) (p k : ℕ) : Type 0 where
  pub early : (i j : ℕ) → Choice g A w i j → ChoiceBefore i j p k

abbrev pub NextChoice : Rules → ℕ → Word → ℕ → ℕ → Option Pick → Type 0
NextChoice g A w p k (Some x) = NextAt g A w p k x.rule x.left
NextChoice g A w p k None = NoneFrom g A w p k
