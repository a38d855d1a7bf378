-- Of what is lent to a call for trees only its length counts: the reply, and the rows that it
-- counts, are the same whatever stood there before.
use mathlib.Core.Path.{◌≡◌, refl, sym, ap, ◌∙◌}
use mathlib.Core.Logic.{inl, inr, ⊎_elim}
use mathlib.Core.List.{List, ◌++◌}
use mathlib.Core.Option.{Option, none, some}
use Prim.Native.Nat.{ℕ, ◌*◌, ◌-◌}
use native.Mathlib.Omega.{arith}
use lib.ListN.{length, take, replicate}
use Rattle.grammar.specs.Layout.{Word}
use Rattle.grammar.specs.Trees.{Tree, Rules}
use Rattle.grammar.specs.Distinct.{Distinct}
use Rattle.tree_writer.specs.Written.{Display, in_full_of, rows_of, count_of, filled}
use Rattle.sheets.specs.declared.Fault.{Fault}
use Rattle.sheets.proofs.Numbers.{same_fault}
use Rattle.std.specs.Prelude.{Result}
use Rattle.sheets.specs.declared.Refusal.{Refusal}
use Rattle.sheets.specs.Results.{refusal}
use Rattle.answering.specs.declared.TreeRows.{TreeRows}
use Rattle.answering.specs.Results.{first_rows, second_rows}
use Rattle.answering.specs.Answers.{Sheets}
use Rattle.answering.specs.Trees.{Shown, treeless, single, both, large_one}
use Rattle.answering.specs.Trees.{large_two, TreesOn, short, showing, TreesBy, refusing}
use Rattle.answering.specs.Trees.{reading}
use Rattle.sheets.proofs.Once.{apart, same_refusal}
use Rattle.answering.proofs.Settled.{Apart, same_sheets, shown_settled}

-- the same reply, and the same rows, as many as it counts
abbrev pub SameRows : (m m' n n' : List ℕ) (r s : Result TreeRows Refusal) → Type 0
SameRows m m' n n' r s = (r ≡ s)
    × ((take (4 * first_rows r) m ≡ take (4 * first_rows s) m')
    × (take (4 * second_rows r) n ≡ take (4 * second_rows s) n'))

module _ (m m' n n' : List ℕ) {r s : Result TreeRows Refusal} where
  -- the same memories
  pub rows_same : (r ≡ s) × ((m ≡ m') × (n ≡ n')) → SameRows m m' n n' r s
  rows_same e = (
    e.0,
    (
      λ i. take (4 * first_rows (e.0 i)) (e.1.0 i),
      λ i. take (4 * second_rows (e.0 i))
          (e.1.1 i),
    ),
  )

  -- a refusal counts no row
  pub refusal_rows : {f f' : Fault} {l l' : ℕ} → (f ≡ f') × (l ≡ l')
      → r ≡ refusal f l → s ≡ refusal f' l'
      → SameRows m m' n n' r s
  refusal_rows e x y = (
    x ∙ (λ i. refusal (e.0 i) (e.1 i)) ∙ sym y,
    (
      ap (λ (z : Result TreeRows Refusal). take (4 * first_rows z) m) x ∙ sym
          (ap (λ (z : Result TreeRows Refusal). take (4 * first_rows z) m') y),
      ap (λ (z : Result TreeRows Refusal). take (4 * second_rows z) n) x ∙ sym
          (ap (λ (z : Result TreeRows Refusal). take (4 * second_rows z) n') y),
    ),
  )

filled_moved : (dis : Display) (one other : List ℕ) → length one ≡ length other → (t : Option Tree)
    → filled dis one t ≡ filled dis other t
filled_moved dis one other e t =
    ap (λ (k : ℕ). rows_of dis t ++ replicate (k - 4 * count_of dis t) 0) e

module _ {dis : Display} {g : Rules} {w : Word} {one one₂ two two₂ : List ℕ}
    (e : length one ≡ length one₂) (d : length two ≡ length two₂) where
  shown_moved : {a c : List ℕ} {r : Result TreeRows Refusal} → Shown dis g w one a two c r
      → Shown dis g w one₂ a two₂ c r
  shown_moved (treeless p x h i) =
      treeless p x (h ∙ filled_moved dis one one₂ e none) (i ∙ filled_moved dis two two₂ d none)
  shown_moved (single {t = t} p a l x h i) = single p a (omega arith) x
      (h ∙ filled_moved dis one one₂ e (some t)) (i ∙ filled_moved dis two two₂ d none)
  shown_moved (both {t = t} {u = u} p a b l m x h i) = both p a b (omega arith) (omega arith) x
      (h ∙ filled_moved dis one one₂ e (some t)) (i ∙ filled_moved dis two two₂ d (some u))
  shown_moved (large_one p a l n x h i) = large_one p a (omega arith) n x
      (h ∙ filled_moved dis one one₂ e none) (i ∙ filled_moved dis two two₂ d none)
  shown_moved (large_two p a b l n x h i) = large_two p a b
      (⊎_elim (λ z. inl (omega arith)) (λ z. inr (omega arith)) l) n x
      (h ∙ filled_moved dis one one₂ e none) (i ∙ filled_moved dis two two₂ d none)

module _ {ws vs one one₂ two two₂ : List ℕ} (e : length ws ≡ length vs)
    (d : length one ≡ length one₂) (c : length two ≡ length two₂) {a b m m' n n' : List ℕ}
    {r s : Result TreeRows Refusal} where
  pub trees_on_reply : (dis : Display) (g : Rules) (w : Word) → Distinct g
      → TreesOn dis g w ws a one m two n r → TreesOn dis g w vs b one₂ m' two₂ n' s
      → SameRows m m' n n' r s
  trees_on_reply dis g w D (short {f = f} u v x h i j) (short {f = f'} p q y k l o) =
      refusal_rows m m' n n' (same_fault f f' 21 v q, refl) x y
  trees_on_reply dis g w D (short u v x h i j) (showing k y) =
      absurd (omega (arith, k.sheet.enough, k.long))
  trees_on_reply dis g w D (showing k y) (short u v x h i j) =
      absurd (omega (arith, k.sheet.enough, k.long))
  trees_on_reply dis g w D (showing h x) (showing k y) =
      rows_same m m' n n' (shown_settled dis g w one₂ two₂ D (shown_moved d c x) y)

  pub trees_reply : {given : Sheets} → Apart given → TreesBy given ws a one m two n r
      → TreesBy given vs b one₂ m' two₂ n' s → SameRows m m' n n' r s
  trees_reply D (refusing p x h i j) (refusing q y k l o) =
      refusal_rows m m' n n' (same_refusal p q) x y
  trees_reply D (refusing p x h i j) (reading q y) = absurd (apart p q)
  trees_reply D (reading q y) (refusing p x h i j) = absurd (apart p q)
  trees_reply D (reading {g = g} {w = w} p x) (reading q y) =
      let z = same_sheets p q in
      trees_on_reply in_full_of g w (D.distinct g w p) x (rw (← z.0, ← z.1) at y)
