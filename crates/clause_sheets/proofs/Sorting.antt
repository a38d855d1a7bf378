-- The rules as met, by rising left, are the expansion; and their number.
use mathlib.Core.Path.{◌≡◌, refl, sym, ◌∙◌, ap, subst}
use mathlib.Core.Logic.{⊎_elim}
use mathlib.Core.Bool.{Bool, true, false}
use mathlib.Core.List.{[], ◌∷◌, ◌++◌, append-nil, Memᴰ}
use Prim.Native.Nat.{ℕ, zero, suc, ◌+◌, ◌-◌, ◌≤◌, ◌<◌}
use native.Mathlib.Nat.{le_refl}
use native.Mathlib.Omega.{arith}
use lib.Dec.{eqb}
use borrow.Author.Tests.{ne_eqb}
use Rattle.sets.proofs.Basics.{clash}
use Rattle.grammar.specs.declared.Rule.{Rule}
use Rattle.grammar.specs.Trees.{Rules}
use Rattle.clauses.specs.Clauses as C
use Rattle.clauses.specs.Clauses.{alternatives, Expr, only, or, Clauses, a_line}
use Rattle.clauses.specs.Expansion.{size, alternative_rules, expr_rules, expand_from, of, rising}
use Rattle.clauses.specs.Expansion.{past_all, size_all, expansion}
use Rattle.clauses.specs.Emission.{emit}
use Rattle.clauses.proofs.Bounds.{UnderAll}
use Rattle.clauses.proofs.Order.{SameByLeft, same_refl, same_append, met, same_rising}
use Rattle.clauses.proofs.Sorted.{under_all, of_members, members_of}
use Rattle.clauses.proofs.Lines.{sheet_owned}
use Rattle.clause_sheets.specs.Emitted.{emit_all}

line_same : (e : Expr alternatives) (L n : ℕ) → L < n
    → SameByLeft (emit e L n) (alternative_rules L e n ++ expr_rules e n)
line_same (only e) L n h = met (only e) L n h
line_same (or e f) L n h = met (or e f) L n h

all_same : (N : ℕ) (c : Clauses) (n : ℕ) → UnderAll N c → N ≤ n
    → SameByLeft (emit_all c n) (expand_from c n)
all_same N C.no_line n u h = same_refl
all_same N (a_line L e c) n u h = same_append (line_same e L n (let z = u.0 in omega arith))
    (all_same N c (n + size e) u.1.1 (omega arith))

pub met_all : (c : Clauses) (K : ℕ)
    → rising K (emit_all c (past_all c)) ≡ rising K (expand_from c (past_all c))
met_all c K = same_rising K (all_same (past_all c) c (past_all c)
    (under_all c (past_all c) (le_refl _)) (le_refl _))

-- no rule has left K
none_of : (K : ℕ) (g : Rules) → ((r : Rule) → Memᴰ r g → r.left ≡ K → ⊥) → of K g ≡ []
none_of K [] f = refl
none_of K (r ∷ g) f = go (eqb r.left K) (ne_eqb r.left K (f r (Memᴰ.head refl)))
    (none_of K g (λ s m. f s (Memᴰ.tail m)))
  where
    go : (b : Bool) → b ≡ false → of K g ≡ []
        → ◌≡◌ {A = Rules} (elim b [ true ↦ r ∷ of K g | false ↦ of K g ]) []
    go true e ih = absurd (clash cc)
    go false e ih = ih

rising_more : (K j : ℕ) (g : Rules) → ((r : Rule) → Memᴰ r g → r.left < K)
    → rising (j + K) g ≡ rising K g
rising_more K zero g f = ap (λ (i : ℕ). rising i g) (let z : 0 + K ≡ K = omega arith in z)
rising_more K (suc j) g f =
    ap (λ (i : ℕ). rising i g) (up j K) ∙ ap (λ (x : Rules). rising (j + K) g ++ x)
    (none_of (j + K) g (λ r m e. let z = f r m in omega arith))
    ∙ append-nil (rising (j + K) g) ∙ rising_more K j g f
  where
    up : (a b : ℕ) → suc a + b ≡ suc (a + b)
    up a b = omega arith

-- all lefts are below the sheet's bound
lefts_low : (c : Clauses) (r : Rule) → Memᴰ r (expand_from c (past_all c))
    → r.left < past_all c + size_all c
lefts_low c r m = ⊎_elim (λ k. omega arith) (λ o. let a = o.below in a)
    (sheet_owned c (past_all c) r (under_all c (past_all c) (le_refl _)) (le_refl _) m)

-- the rules as met, by lefts 0 to 63, are the expansion, if no new nonterminal is past 63
pub sorted_expansion : (c : Clauses) → past_all c + size_all c ≤ 64
    → rising 64 (emit_all c (past_all c)) ≡ expansion c
sorted_expansion c h = met_all c 64 ∙ go (64 - (past_all c + size_all c))
    (let z : 64 - (past_all c + size_all c) + (past_all c + size_all c) ≡ 64 = omega arith in z)
  where
    go : (j : ℕ) → j + (past_all c + size_all c) ≡ 64
        → rising 64 (expand_from c (past_all c)) ≡ expansion c
    go j e = ap (λ (i : ℕ). rising i (expand_from c (past_all c))) (sym e)
        ∙ rising_more (past_all c + size_all c) j (expand_from c (past_all c)) (lefts_low c)

-- the rules as met have the lefts of the expansion
same_members : (a b : Rules) → SameByLeft a b → (K : ℕ) → ((r : Rule) → Memᴰ r b → r.left < K)
    → (r : Rule) → Memᴰ r a → r.left < K
same_members a b p K f r m = f r
    (of_members r.left b r (subst (λ (x : Rules). Memᴰ r x) (p.at_left r.left)
    (members_of r.left a r refl m)))

pub met_lefts : (c : Clauses) (r : Rule) → Memᴰ r (emit_all c (past_all c))
    → r.left < past_all c + size_all c
met_lefts c r m =
    same_members (emit_all c (past_all c)) (expand_from c (past_all c))
    (all_same (past_all c) c (past_all c) (under_all c (past_all c) (le_refl _)) (le_refl _))
    (past_all c + size_all c) (lefts_low c) r m
