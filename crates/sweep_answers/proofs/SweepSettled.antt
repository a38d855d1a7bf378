-- The promise of the sweep settles its whole answer and the lent words.
use mathlib.Core.Path.{◌≡◌, refl, sym, ap, ◌∙◌, subst}
use mathlib.Core.Logic.{◌⊎◌, ⊎_elim}
use mathlib.Core.List.{List}
use Prim.Native.Nat.{ℕ, ◌≤◌, ◌<◌}
use native.Mathlib.Omega.{arith}
use Rattle.sets.proofs.Basics.{clash}
use Rattle.grammar.specs.declared.Cell.{Cell}
use Rattle.grammar.specs.Layout.{Word}
use Rattle.grammar.specs.Trees.{Rules}
use Rattle.grammar.specs.Candidates.{sentence}
use Rattle.grammar.specs.Sweeps.{FirstTwo, Clear, SweepAnswer, found}
use Rattle.grammar.specs.Sweeps as Sweeps
use Rattle.grammar.proofs.SweepLaws.{answer_unique}
use Rattle.counting.specs.Counts.{HowMany}
use Rattle.counting.proofs.CountLaws.{counts_unique}
use Rattle.sheets.specs.declared.Fault.{Fault}
use Rattle.sheets.specs.Refusals.{number_of}
use Rattle.sheets.specs.Items.{Reading}
use Rattle.sheets.proofs.Once.{apart, same_items, same_refusal}
use Rattle.std.specs.Prelude.{Option, None, Some, Result}
use Rattle.sheets.specs.declared.Refusal.{Refusal}
use Rattle.sheets.specs.Results.{refusal}
use Rattle.sweep_answers.specs.declared.Swept.{Swept}
use Rattle.sweep_answers.specs.Sweep.{sweep_reply_of, Tries, SweepTrying, bound, many, short}
use Rattle.sweep_answers.specs.Sweep.{clear}
use Rattle.sweep_answers.specs.Sweep.{two, SweepReading, SweepBy, refusing, reading, SweepOf}
use Rattle.sweep_answers.specs.WithoutIndex.{TriedAll, PlainSweepOf, untold}
use Rattle.sheets.proofs.Numbers.{same_fault}
use Rattle.sweeping.specs.Cleared.{TriedBy}

-- outside 1 to 7
off : {k : ℕ} → (k < 1) ⊎ (7 < k) → 1 ≤ k → k ≤ 7 → ⊥
off h l u = ⊎_elim (λ x. omega arith) (λ x. omega arith) h

pub never_both : {g : Rules} {k : ℕ} {cs : List Cell} → Clear g k → FirstTwo g k cs → ⊥
never_both {g} {k} {cs} c f =
    let z : Sweeps.clear ≡ found cs = answer_unique g k Sweeps.clear (found cs) c f in
    clash cc

-- two sweeps that may try different candidates, and what f keeps of their answers: of the counts no
-- more than is the same in both
module _ {X : Type 0} (f : Result Swept Refusal → X) (P Q : Tries) where
  abbrev Keeps : Rules → ℕ → Type 0
  Keeps g k = (x : SweepAnswer) (o : Option Word) (m n : ℕ) → HowMany (P g k x) m
      → HowMany (Q g k x) n → f (sweep_reply_of o m) ≡ f (sweep_reply_of o n)

  refusal_same : {d d' : Fault} {a b ws : List ℕ} {r s : Result Swept Refusal} (n l : ℕ)
      → number_of d ≡ n
      → number_of d' ≡ n
      → r ≡ refusal d l → s ≡ refusal d' l
      → a ≡ ws → b ≡ ws → (f r ≡ f s) × (a ≡ b)
  refusal_same {d} {d'} n l m o x y h k = (
    ap f (x ∙ ap (λ (z : Fault). refusal z l) (same_fault d d' n m o)
        ∙ sym y),
    h ∙ sym k,
  )

  sweep_on : (g : Rules) (k : ℕ) → Keeps g k → {ws a b : List ℕ} {r s : Result Swept Refusal}
      → SweepTrying P g k ws a r → SweepTrying Q g k ws b s → (f r ≡ f s) × (a ≡ b)
  sweep_on g k t (bound l n x h) (bound m o y i) = refusal_same 23 0 n o x y h i
  sweep_on g k t (bound l n x h) (many m u o p y i) = absurd (off l m u)
  sweep_on g k t (bound l n x h) (short m u o p q y i) = absurd (off l m u)
  sweep_on g k t (bound l n x h) (clear e c q' y i) = absurd (off l e.low e.high)
  sweep_on g k t (bound l n x h) (two e c o q' y i) = absurd (off l e.low e.high)
  sweep_on g k t (many m u o p y i) (bound l n x h) = absurd (off l m u)
  sweep_on g k t (many l u m n x h) (many o p q v y i) = refusal_same 24 0 n v x y h i
  sweep_on g k t (many l u m n x h) (short o p q v z y i) = absurd (omega (arith, m, q))
  sweep_on g k t (many l u m n x h) (clear e c q' y i) = absurd (omega (arith, m, e.few))
  sweep_on g k t (many l u m n x h) (two e c o q' y i) = absurd (omega (arith, m, e.few))
  sweep_on g k t (short m u o p q y i) (bound l n x h) = absurd (off l m u)
  sweep_on g k t (short o p q v z y i) (many l u m n x h) = absurd (omega (arith, m, q))
  sweep_on g k t (short l u m o n x h) (short p q v z w y i) = refusal_same 21 0 n w x y h i
  sweep_on g k t (short l u m o n x h) (clear e c q' y i) = absurd (omega (arith, o, e.enough))
  sweep_on g k t (short l u m o n x h) (two e c q q' y i) = absurd (omega (arith, o, e.enough))
  sweep_on g k t (clear e c q' y i) (bound l n x h) = absurd (off l e.low e.high)
  sweep_on g k t (clear e c q' y i) (many l u m n x h) = absurd (omega (arith, m, e.few))
  sweep_on g k t (clear e c q' y i) (short l u m o n x h) = absurd (omega (arith, o, e.enough))
  sweep_on g k t (clear d c q' x h) (clear e b p' y i) =
      (ap f x ∙ t Sweeps.clear None _ _ q' p' ∙ ap f (sym y), h ∙ sym i)
  sweep_on g k t (clear d c q' x h) (two e b o p' y i) = absurd (never_both c b)
  sweep_on g k t (two e c o q' y i) (bound l n x h) = absurd (off l e.low e.high)
  sweep_on g k t (two e c o q' y i) (many l u m n x h) = absurd (omega (arith, m, e.few))
  sweep_on g k t (two e c q q' y i) (short l u m o n x h) = absurd (omega (arith, o, e.enough))
  sweep_on g k t (two e b o p' y i) (clear d c q' x h) = absurd (never_both c b)
  sweep_on g k t (two {cs = cs} {m = m} d c o q' x h) (two {cs = cs'} {m = m'} e b p p' y i) =
      let q : found cs ≡ found cs' = answer_unique g k (found cs) (found cs') c b in
      let w : cs ≡ cs' = cc in
      let u = t (found cs) (Some (sentence cs)) m m' q'
      (subst (λ (z : List Cell). HowMany (Q g k (found z)) m') (sym w) p') in
      (ap f x ∙ u ∙ ap f (rw w (sym y)), h ∙ sym i)

  sweep_by : {given : Reading Rules} {k : ℕ} → ((g : Rules) → Keeps g k)
      → {ws a b : List ℕ} {r s : Result Swept Refusal}
      → SweepReading P given k ws a r → SweepReading Q given k ws b s → (f r ≡ f s) × (a ≡ b)
  sweep_by t (refusing e x h) (refusing d y i) = let z = same_refusal e d in
      (ap f (x ∙ rw (z.0, z.1) (sym y)), h ∙ sym i)
  sweep_by t (refusing e x h) (reading d y) = absurd (apart e d)
  sweep_by t (reading d y) (refusing e x h) = absurd (apart e d)
  sweep_by {k = k} t (reading {g = g} e x) (reading d y) =
      let z = same_items e d in
      sweep_on g k (t g) x (rw (← z) at y)

pub sweep_settled : {given : Reading Rules} {k : ℕ} {ws a b : List ℕ} {r s : Result Swept Refusal}
    → SweepBy given k ws a r → SweepBy given k ws b s → (r ≡ s) × (a ≡ b)
sweep_settled = sweep_by (λ r. r) TriedBy TriedBy
    (λ g x o m n h k. ap (sweep_reply_of o) (counts_unique h k))

-- all but the count equals the sweep without the index, on every rule sheet and
-- bound
pub without_index : (rules : List ℕ) {k : ℕ} {ws a b : List ℕ} {r s : Result Swept Refusal}
    → SweepOf rules k ws a r → PlainSweepOf rules k ws b s → (untold r ≡ untold s) × (a ≡ b)
without_index rules = sweep_by untold TriedBy TriedAll (λ g x o m n h k. refl)
