-- The level of a nonterminal is the weakest mark that it inherits.
use mathlib.Core.Path.{◌≡◌, refl, sym, ap, ◌∙◌, subst}
use Rattle.std.specs.Prelude.{Some, None}
use Prim.Native.Nat.{ℕ, zero, suc, ◌≤◌}
use native.Mathlib.Omega.{arith}
use Rattle.sets.specs.Sets.{In}
use Rattle.grammar.specs.declared.UnaryMark.{UnaryMark}
use Rattle.grammar.specs.Trees.{Rules}
use Rattle.acyclic.specs.Exact.{Exactly}
use Rattle.pairs.specs.Survey.{Inherits}
use Rattle.pairs.specs.Strength.{rank}
use Rattle.survey.specs.declared.Levels.{Levels}
use Rattle.survey.specs.Closing.{AtMost, LevelsOf, LevelIs, Weakest}
use Rattle.survey.proofs.Sources.{in_three}

-- a mark of rank k or less, and none of a lower rank
module _ {g : Rules} {s : ℕ} {A : ℕ} where
  above : (k : ℕ) → Exactly s (AtMost g k) → (In s A → ⊥) → (m : UnaryMark) → Inherits g A m
      → suc k ≤ rank m
  above k x n m i = go (rank m) (λ h. n (x.all A (record { mark = m; inherits = i; low = h })))
    where
      go : (r : ℕ) → (r ≤ k → ⊥) → suc k ≤ r
      go r h = omega (arith, h)

-- marks of one rank are the same
abbrev pub unrank : ℕ → UnaryMark
unrank zero = UnaryMark.None
unrank (suc zero) = UnaryMark.Offalign
unrank (suc (suc zero)) = UnaryMark.Offside
unrank (suc (suc (suc n))) = UnaryMark.Single

pub unrank_rank : (m : UnaryMark) → unrank (rank m) ≡ m
unrank_rank UnaryMark.None = refl
unrank_rank UnaryMark.Offalign = refl
unrank_rank UnaryMark.Offside = refl
unrank_rank UnaryMark.Single = refl

same : {g : Rules} {A : ℕ} (m : UnaryMark) (t : AtMost g (rank m) A) → rank m ≤ rank t.mark
    → Inherits g A m
same {g} {A} m t h =
    let e : rank t.mark ≡ rank m = omega (arith, h, t.low) in
    subst (Inherits g A) (sym (unrank_rank t.mark) ∙ ap unrank e ∙ unrank_rank m) t.inherits

module _ {g : Rules} {l : Levels} (x : LevelsOf g l) where
  pub level_weakest : (A : ℕ) (m : UnaryMark) → LevelIs l A (Some m) → Weakest g A m
  level_weakest A UnaryMark.None i =
      let t = x.unmarked.is A i in
      record { inherits = same UnaryMark.None t (omega arith); least = λ k j. omega arith }
  level_weakest A UnaryMark.Offalign (n, i) =
      let t = x.offalign.is A i in
      let a = above 0 x.unmarked n in
      record { inherits = same UnaryMark.Offalign t (a t.mark t.inherits); least = a }
  level_weakest A UnaryMark.Offside (n, i) =
      let t = x.offside.is A i in
      let a = above 1 x.offalign n in
      record { inherits = same UnaryMark.Offside t (a t.mark t.inherits); least = a }
  level_weakest A UnaryMark.Single (n, i) =
      let t = x.single.is A i in
      let a = above 2 x.offside n in
      record { inherits = same UnaryMark.Single t (a t.mark t.inherits); least = a }

  pub level_nothing : (A : ℕ) → LevelIs l A None → (m : UnaryMark) → Inherits g A m → ⊥
  level_nothing A n m i = n (x.single.all A (record { mark = m; inherits = i; low = in_three m }))
