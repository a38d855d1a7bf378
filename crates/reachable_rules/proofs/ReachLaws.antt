-- What a rule adds is reached, and a set to which no rule adds has all that 0 reaches, but 0
-- itself.
use mathlib.Core.Path.{◌≡◌, refl, sym, subst}
use mathlib.Core.Logic.{◌⊎◌, inl, inr, ⊎_elim}
use mathlib.Core.List.{Memᴰ}
use Prim.Native.Nat.{ℕ}
use Rattle.sets.specs.Sets.{In}
use Rattle.sets.proofs.Sets.{insert_same, insert_keeps, insert_only}
use Rattle.grammar.specs.declared.Rule.{Rule}
use Rattle.grammar.specs.Trees.{Rules}
use Rattle.acyclic.specs.Exact.{Exactly}
use Rattle.acyclic.specs.Passes.{Extended}
use Rattle.acyclic.proofs.Growth.{grown_with, grown_both}
use Rattle.reachable_rules.specs.Reach.{Reached, start, by_unary, by_left, by_right}
use Rattle.reachable_rules.specs.Steps.{AddsParts}
use Rattle.sets.specs.Insertion.{insert}

-- s is closed
module _ {g : Rules} {s : ℕ} (shut : (r : Rule) → Memᴰ r g → (Y : ℕ) → AddsParts s r Y
    → In s Y) where
  member : {A : ℕ} → Reached g A → (A ≡ 0) ⊎ In s A
  member start = inl refl
  member (by_unary m h r) = inr (shut _ r _ (member h, refl))
  member (by_left C m h r) = inr (shut _ r _ (member h, inl refl))
  member (by_right B m h r) = inr (shut _ r _ (member h, inr refl))

  pub reach_exact : ((Y : ℕ) → In s Y → Reached g Y) → Exactly (insert s 0) (Reached g)
  reach_exact h = record {
    is = λ B m. ⊎_elim (h B) (λ e. subst (Reached g) (sym e) start) (insert_only s 0 B m);
    all = λ B r. ⊎_elim (λ e. subst (In (insert s 0)) (sym e) (insert_same s 0)) (insert_keeps s 0)
        (member r);
  }

-- ---- what a clause adds

pub parts_one : {s r : ℕ} (b : ℕ) → r ≡ insert s b → Extended (λ Y. b ≡ Y) s r
parts_one {s} b e = subst (Extended (λ Y. b ≡ Y) s) (sym e) (grown_with s b refl (λ Y p. p))

pub parts_two : {s t r : ℕ} (b d : ℕ) → t ≡ insert s b → r ≡ insert t d
    → Extended (λ Y. (b ≡ Y) ⊎ (d ≡ Y)) s r
parts_two b d e f = grown_both (parts_one b e) (parts_one d f) (λ Y p. p) (λ Y p. p)
