-- What chains reach: what a rule adds is reached, and a set to which no rule adds has all of it. A
-- sheet in which none reaches itself is not cyclic.
use mathlib.Core.Path.{◌≡◌, refl}
use mathlib.Core.Logic.{◌⊎◌, inl, inr}
use mathlib.Core.List.{Memᴰ}
use Prim.Native.Nat.{ℕ, ◌+◌, ◌≤◌, ◌<◌}
use native.Mathlib.Omega.{arith}
use native.Mathlib.Decide.{ℕ_discrete}
use Rattle.sets.specs.Sets.{In}
use Rattle.sets.proofs.Sets.{in_zero}
use Rattle.grammar.specs.declared.Rule.{Rule}
use Rattle.grammar.specs.declared.Grammar.{Grammar}
use Rattle.grammar.specs.Trees.{Rules}
use Rattle.grammar.specs.Cycles.{Nullable, Edge, by_unary, by_left, by_right, Chain, one, more}
use Rattle.grammar.specs.Cycles.{Cyclic}
use Rattle.grammar.specs.Content.{rules_of, SmallRule, Formed}
use Rattle.grammar.proofs.Lists.{mem_every}
use Rattle.acyclic.specs.Exact.{Exactly}
use Rattle.acyclic.specs.Passes.{LeadsTo, AddsTargets}

-- ns are the nullable nonterminals
module _ {g : Rules} {ns : ℕ} (x : Exactly ns (Nullable g)) where
  of_edge : {A Y : ℕ} → Edge g A Y
      → (r : Rule) × Memᴰ r g × (r.left ≡ A) × LeadsTo ns r.clause Y
  of_edge (by_unary k m) = (_, m, refl, refl)
  of_edge (by_left C k m n) = (_, m, refl, inl (refl, x.all C n))
  of_edge (by_right B k m n) = (_, m, refl, inr (refl, x.all B n))

  pub chain_none : (a Y : ℕ) → In 0 Y → Chain g a Y
  chain_none a Y i = absurd (in_zero Y i)

  -- s is closed
  module _ (a s : ℕ) (shut : (r : Rule) → Memᴰ r g → (Y : ℕ) → AddsTargets ns a s r Y
      → In s Y) where
    step : {X Y : ℕ} → Edge g X Y → (X ≡ a) ⊎ In s X → In s Y
    step {X} {Y} e h = let l = of_edge e in shut l.0 l.1 Y (rw l.2 h, l.3)

    member : {X B : ℕ} → Chain g X B → (X ≡ a) ⊎ In s X → In s B
    member (one e) h = step e h
    member (more e c) h = member c (inr (step e h))

    pub chains_exact : ((Y : ℕ) → In s Y → Chain g a Y) → Exactly s (Chain g a)
    chains_exact h = record { is = h; all = λ B c. member c (inl refl) }

  chain_left : {A B : ℕ} → Chain g A B → (r : Rule) × Memᴰ r g × (r.left ≡ A)
  chain_left (one e) = let l = of_edge e in (l.0, l.1, l.2)
  chain_left (more e c) = let l = of_edge e in (l.0, l.1, l.2)

-- no chain from a nonterminal below a returns
abbrev pub Apart : Rules → ℕ → Type 0
Apart g a = (A : ℕ) → A < a → Chain g A A → ⊥

pub apart_more : {g : Rules} {a s : ℕ} → Apart g a → Exactly s (Chain g a) → (In s a → ⊥)
    → Apart g (a + 1)
apart_more {g} {a} {s} x r f A h c = go (ℕ_discrete A a)
  where
    go : Dec (A ≡ a) → ⊥
    go (yes e) = f (r.all a (rw e at c))
    go (no e) = x A (omega arith) c

pub apart_all : {g : Grammar} {ns : ℕ} → Formed g → Exactly ns (Nullable (rules_of g)) → (a : ℕ)
    → 64 ≤ a → Apart (rules_of g) a → Cyclic (rules_of g) → ⊥
apart_all {g} f n a h x c =
    let l = chain_left n c.returns in
    let k = mem_every SmallRule (rules_of g) f.small l.1 in
    x c.start (omega (arith, k.left, l.2)) c.returns

pub cyclic_at : {g : Rules} {a s : ℕ} → Exactly s (Chain g a) → In s a → Cyclic g
cyclic_at {a = a} r i = record { start = a; returns = r.is a i }
