-- What is said of a capped count, and that counts are settled.
use mathlib.Core.Path.{◌≡◌, refl, sym, ap, ◌∙◌}
use Prim.Native.Nat.{ℕ, ◌≤◌, ◌<◌}
use native.Mathlib.Omega.{arith}
use Rattle.grammar.specs.Trees.{Rules}
use Rattle.grammar.specs.Layout.{Word}
use Rattle.grammar.specs.Rows.{row_count}
use Rattle.grammar.proofs.ChoiceLaws.{first_unique, second_tree_unique}
use Rattle.grammar.proofs.VerdictLaws.{none_not_one, none_not_two, one_not_two}
use Rattle.std.specs.Prelude.{Option, Some, None}
use Rattle.row_counts.specs.RowCounts.{Counted, treeless, single, both, Tells}
use Rattle.row_counts.specs.Capped.{capped}
use Rattle.grammar.specs.Distinct.{Distinct}

pub exact_of : (n c : ℕ) → n < 4294967296 → n ≡ capped c → (n ≡ c) × (c ≤ 4294967295)
unfolding capped
exact_of n c h e = (omega arith, omega arith)

pub more_of : (n c : ℕ) → (n < 4294967296 → ⊥) → n ≡ capped c → 4294967295 < c
unfolding capped
more_of n c h e = omega arith

-- ---- what is counted is settled, and so is what is said of it

pub counted_unique : {g : Rules} → Distinct g → {w : Word} {m n m' n' : ℕ} → Counted g w m n
    → Counted g w m' n' → (m ≡ m') × (n ≡ n')
counted_unique d (treeless p x y) (treeless q a b) = (omega arith, omega arith)
counted_unique d (treeless p x y) (single q f a b) = absurd (none_not_one p q)
counted_unique d (treeless p x y) (both q f s a b) = absurd (none_not_two p q)
counted_unique d (single p f x y) (treeless q a b) = absurd (none_not_one q p)
counted_unique d (single p f x y) (single q f' a b) =
    (x ∙ ap row_count (first_unique f f') ∙ sym a, omega arith)
counted_unique d (single p f x y) (both q f' s a b) = absurd (one_not_two p q)
counted_unique d (both p f s x y) (treeless q a b) = absurd (none_not_two q p)
counted_unique d (both p f s x y) (single q f' a b) = absurd (one_not_two q p)
counted_unique d (both p f s x y) (both q f' s' a b) = (
  x ∙ ap row_count (first_unique f f') ∙ sym a,
  y ∙ ap row_count (second_tree_unique d s s')
      ∙ sym b,
)

pub tells_one : (a b : Option ℕ) (n : ℕ) → Tells a n → Tells b n → a ≡ b
tells_one (Some c) (Some e) n p q = ap Some (p.0 ∙ sym q.0)
tells_one (Some c) None n p q = absurd (omega (arith, p.1))
tells_one None (Some e) n p q = absurd (omega (arith, q.1))
tells_one None None n p q = refl
