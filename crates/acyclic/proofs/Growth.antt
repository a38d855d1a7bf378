-- Laws of sets that grow, and of passes over the rules.
use mathlib.Core.Path.{◌≡◌, refl}
use mathlib.Core.Logic.{◌⊎◌, inl, inr, ⊎_elim}
use mathlib.Core.List.{[], ◌∷◌, Memᴰ}
use mathlib.Core.Option.{some}
use Prim.Native.Nat.{ℕ, zero, suc, ◌+◌, ◌≤◌, ◌<◌}
use native.Mathlib.Nat.{le_refl}
use native.Mathlib.Omega.{arith}
use native.Mathlib.Decide.{ℕ_discrete}
use lib.ListN.{length, get_or, get_elem?, take}
use Rattle.sets.specs.Sets.{In}
use Rattle.sets.proofs.Sets.{insert_same, insert_keeps, insert_only, insert_ge}
use Rattle.grammar.specs.declared.Rule.{Rule}
use Rattle.grammar.specs.declared.Grammar.{Grammar}
use Rattle.grammar.specs.Trees.{Rules}
use Rattle.grammar.specs.Content.{rules_of, SmallRule, Formed}
use Rattle.grammar.proofs.Lists.{mem_every}
use Rattle.grammar.proofs.ChoiceLaws.{member_at, place_of}
use Rattle.grammar.proofs.ByKind.{get_elem?_lt}
use Rattle.acyclic.specs.Passes.{Extended, RulesPassed}
use Rattle.sets.specs.Insertion.{insert}

-- nothing is added
pub grown_none : {P : ℕ → Type 0} {s : ℕ} → ((Y : ℕ) → P Y → In s Y) → Extended P s s
grown_none {s = s} h = record { more = le_refl s; keeps = λ Y i. i; adds = h; only = λ Y i. inl i }

-- a alone is added
pub grown_with : {P : ℕ → Type 0} (s a : ℕ) → P a → ((Y : ℕ) → P Y → a ≡ Y)
    → Extended P s (insert s a)
grown_with {P} s a p h =
    record {
      more = insert_ge s a;
      keeps = λ Y i. insert_keeps s a i;
      adds = λ Y q. rw (← h Y q) (insert_same s a);
      only = λ Y i. ⊎_elim inl (λ e. inr (rw e p)) (insert_only s a Y i);
    }

pub grown_both : {P Q R : ℕ → Type 0} {s t u : ℕ} → Extended P s t → Extended Q t u
    → ((Y : ℕ) → R Y → P Y ⊎ Q Y) → ((Y : ℕ) → P Y ⊎ Q Y → R Y) → Extended R s u
grown_both x y to from =
    record {
      more = omega (arith, x.more, y.more);
      keeps = λ Y i. y.keeps Y (x.keeps Y i);
      adds = λ Y r. ⊎_elim (λ p. y.keeps Y (x.adds Y p)) (λ q. y.adds Y q) (to Y r);
      only = λ Y i. ⊎_elim (λ j. ⊎_elim inl (λ p. inr (from Y (inl p))) (x.only Y j))
          (λ q. inr (from Y (inr q))) (y.only Y i);
    }

pub grown_map : {P Q : ℕ → Type 0} {s t : ℕ} → Extended P s t → ((Y : ℕ) → P Y → Q Y)
    → ((Y : ℕ) → Q Y → P Y) → Extended Q s t
grown_map x f h =
    record {
      more = x.more;
      keeps = x.keeps;
      adds = λ Y q. x.adds Y (h Y q);
      only =
          λ Y i. ⊎_elim inl (λ p. inr (f Y p)) (x.only Y i);
    }

module _ {Adds : ℕ → Rule → ℕ → Type 0} {P : ℕ → Type 0} {g : Rules} where
  pub passed_none : (s : ℕ) → RulesPassed Adds P g 0 s s
  passed_none s =
      record { more = le_refl s; sound = λ h. h; still = λ e q l r st Y a. absurd (omega arith) }

  -- one rule more: what it adds to a set whose members have P has P
  pub passed_more : ((s : ℕ) → ((Y : ℕ) → In s Y → P Y) → (r : Rule) → Memᴰ r g → (Y : ℕ)
      → Adds s r Y → P Y)
      → {p s t u : ℕ} (r : Rule) → get_elem? g p ≡ some r → RulesPassed Adds P g p s t
      → Extended (Adds t r) t u → RulesPassed Adds P g (p + 1) s u
  passed_more sound {p} {s} {t} {u} r st x y =
      record {
        more = omega (arith, x.more, y.more);
        sound = λ h Y i. ⊎_elim (x.sound h Y) (λ a. sound t (x.sound h) r (member_at g p st) Y a)
            (y.only Y i);
        still = still;
      }
    where
      still : u ≡ s → (q : ℕ) → q < p + 1 → (r' : Rule) → get_elem? g q ≡ some r' → (Y : ℕ)
          → Adds s r' Y → In s Y
      still e q l r' st' Y a = go (ℕ_discrete q p)
        where
          same : t ≡ s
          same = omega (arith, x.more, y.more)

          go : Dec (q ≡ p) → In s Y
          go (yes j) =
              let k : get_elem? g p ≡ some r' = rw j at st' in
              let n : r ≡ r' = cc in
              rw e at (y.adds Y (rw (same, n) a))
          go (no j) = x.still same q (omega arith) r' st' Y a

  -- a pass over all rules that added nothing: the set is closed
  pub passed_all : {n s t : ℕ} → RulesPassed Adds P g n s t → length g ≡ n → t ≡ s → (r : Rule)
      → Memᴰ r g → (Y : ℕ) → Adds s r Y → In s Y
  passed_all x l e r m =
      let w = place_of m in
      x.still e w.0 (omega (arith, get_elem?_lt g w.0 w.1)) r w.1

-- the rule at a place that the code reads
pub rule_at : (g : Grammar) (p : ℕ) (d : Rule) → length g.rules ≡ 128 → g.count ≤ 128
    → p < g.count → get_elem? (rules_of g) p ≡ some (get_or g.rules p d)
rule_at g p d e h l = go g.rules g.count p l (omega arith)
  where
    go : (l : Rules) (n p : ℕ) → p < n → p < length l → get_elem? (take n l) p ≡ some (get_or l p d)
    go l zero p a b = absurd (omega arith)
    go [] (suc n) p a b = absurd (omega arith)
    go (x ∷ l) (suc n) zero a b = refl
    go (x ∷ l) (suc n) (suc p) a b = go l n p (omega arith) (omega arith)

pub small_at : {g : Grammar} → Formed g → (p : ℕ) {r : Rule} → get_elem? (rules_of g) p ≡ some r
    → SmallRule r
small_at {g} f p st = mem_every SmallRule (rules_of g) f.small (member_at (rules_of g) p st)
