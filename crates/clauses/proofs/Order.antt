-- Rules as they are met, put in order, are the expansion.
use mathlib.Core.Path.{◌≡◌, refl, sym, ◌∙◌, ap}
use mathlib.Core.Logic.{◌⊎◌, inl, inr, ⊎_elim}
use mathlib.Core.List.Memᴰ
use mathlib.Core.List.{[], ◌∷◌, ◌++◌, append_assoc, append-nil, Memᴰ}
use Prim.Native.Nat.{ℕ, zero, suc, ◌+◌, ◌<◌}
use native.Mathlib.Omega.{arith}
use Rattle.grammar.specs.declared.Rule.{Rule}
use Rattle.grammar.specs.declared.UnaryMark.{UnaryMark}
use Rattle.grammar.specs.Trees.{Rules}
use Rattle.clauses.specs.Clauses.{Sort, item, made, alternatives, Expr, nonterminal, a_part}
use Rattle.clauses.specs.Clauses.{terminal, group, mark, pair, optional, repeated, only, or}
use Rattle.clauses.specs.Expansion.{E, U, B, size, name, alternative_rules, repeat_begins}
use Rattle.clauses.specs.Expansion.{expr_rules, of, rising}
use Rattle.clauses.proofs.Numbers.{owned, choices_left, begins_left}
use mathlib.Core.Bool.{Bool, true, false}
use lib.Dec.{eqb}
use Rattle.clauses.specs.Emission.{emit}
use Rattle.clauses.proofs.Sorted.{put, of_members}
use Rattle.clauses.proofs.Apart.{of_left}

-- a and b have the same rules of each left, in the same order
pub record SameByLeft (a b : Rules) : Type 0 where
  pub at_left : (K : ℕ) → of K a ≡ of K b

put_append : (b : Bool) (h : Rule) (x y : Rules) → put b h (x ++ y) ≡ put b h x ++ y
put_append true h x y = refl
put_append false h x y = refl

pub of_append : (K : ℕ) (a b : Rules) → of K (a ++ b) ≡ of K a ++ of K b
of_append K [] b = refl
of_append K (h ∷ a) b = ap (put (eqb h.left K) h) (of_append K a b)
    ∙ put_append (eqb h.left K) h (of K a) (of K b)

none_or_some : (l : Rules) → (l ≡ []) ⊎ ((r : Rule) × Memᴰ r l)
none_or_some [] = inl refl
none_or_some (r ∷ l) = inr (r, Memᴰ.head refl)

pub same_refl : {a : Rules} → SameByLeft a a
same_refl = record { at_left = λ K. refl }

pub same_trans : {a b c : Rules} → SameByLeft a b → SameByLeft b c → SameByLeft a c
same_trans p q = record { at_left = λ K. p.at_left K ∙ q.at_left K }

pub same_append : {a b c d : Rules} → SameByLeft a b → SameByLeft c d → SameByLeft (a ++ c) (b ++ d)
same_append {a} {b} {c} {d} p q = record {
  at_left =
      λ K. of_append K a c ∙ (λ i. p.at_left K i ++ q.at_left K i) ∙ sym (of_append K b d);
}

same_path : {a b : Rules} → a ≡ b → SameByLeft a b
same_path e = record { at_left = λ K. ap (of K) e }

-- rules of different lefts may change places
pub same_swap : (a b : Rules) → ((r s : Rule) → Memᴰ r a → Memᴰ s b → r.left ≡ s.left
    → ⊥) → SameByLeft (a ++ b) (b ++ a)
same_swap a b f = record {
  at_left = λ K. of_append K a b
      ∙ go K (none_or_some (of K a)) (none_or_some (of K b)) ∙ sym (of_append K b a);
}
  where
    go : (K : ℕ) → (of K a ≡ []) ⊎ ((r : Rule) × Memᴰ r (of K a))
        → (of K b ≡ []) ⊎ ((r : Rule) × Memᴰ r (of K b)) → of K a ++ of K b ≡ of K b ++ of K a
    go K (inl e) y = ap (λ (x : Rules). x ++ of K b) e ∙ sym
        (ap (λ (x : Rules). of K b ++ x) e ∙ append-nil (of K b))
    go K (inr r) (inl e) = ap (λ (x : Rules). of K a ++ x) e ∙ append-nil (of K a)
        ∙ sym (ap (λ (x : Rules). x ++ of K a) e)
    go K (inr r) (inr s) =
        absurd (f r.0 s.0 (of_members K a r.0 r.1) (of_members K b s.0 s.1)
        (of_left K a r.0 r.1 ∙ sym (of_left K b s.0 s.1)))

-- what is met after a part may stand before it, if its lefts are smaller
after_part : {s : Sort} (e : Expr s) (n : ℕ) (x y : Rules) → SameByLeft x (expr_rules e n)
    → ((r : Rule) → Memᴰ r y → r.left < n) → SameByLeft (x ++ y) (y ++ expr_rules e n)
after_part e n x y p f = same_trans (same_append p same_refl)
    (same_swap (expr_rules e n) y (λ r s i j z. let o = owned e n r i in let l = f s j in
    omega arith))

-- a part with its rules as the expansion has them
abbrev whole : {s : Sort} → Expr s → ℕ → ℕ → Rules
whole (nonterminal a) L n = []
whole (a_part e) L n = expr_rules e n
whole (terminal a) L n = expr_rules (terminal a) n
whole (group e) L n = expr_rules (group e) n
whole (mark m e) L n = expr_rules (mark m e) n
whole (pair m e f) L n = expr_rules (pair m e f) n
whole (optional e) L n = expr_rules (optional e) n
whole (repeated q m e) L n = expr_rules (repeated q m e) n
whole (only e) L n = alternative_rules L (only e) n ++ expr_rules e n
whole (or e f) L n = alternative_rules L (or e f) n ++ (expr_rules e n ++ expr_rules f (n + size e))

whole_item : (e : Expr item) (L n : ℕ) → whole e L n ≡ expr_rules e n
whole_item (nonterminal a) L n = refl
whole_item (a_part e) L n = refl

whole_made : (e : Expr made) (L n : ℕ) → whole e L n ≡ expr_rules e n
whole_made (terminal a) L n = refl
whole_made (group e) L n = refl
whole_made (mark m e) L n = refl
whole_made (pair m e f) L n = refl
whole_made (optional e) L n = refl
whole_made (repeated q m e) L n = refl

whole_many : (e : Expr alternatives) (L n : ℕ)
    → whole e L n ≡ alternative_rules L e n ++ expr_rules e n
whole_many (only e) L n = refl
whole_many (or e f) L n = refl

lefts : (h : Rule) (y : Rules) (n : ℕ) → h.left < n → ((r : Rule) → Memᴰ r y → r.left < n)
    → (r : Rule) → Memᴰ r (h ∷ y) → r.left < n
lefts h y n l f r m = ⊎_elim (λ e. let z : r.left ≡ h.left = ap (λ (x : Rule). x.left) e in
    omega arith) (f r) (Memᴰ.cases_cons m)

no_lefts : (n : ℕ) (r : Rule) → Memᴰ r [] → r.left < n
no_lefts n r m = absurd (Memᴰ.not-nil m)

pub met : {s : Sort} (e : Expr s) (L n : ℕ) → L < n → SameByLeft (emit e L n) (whole e L n)
met (nonterminal a) L n h = same_refl
met (a_part e) L n h = same_trans (met e L n h) (same_path (whole_made e L n))
met (terminal a) L n h = same_refl
met (group e) L n h =
    same_trans (met e n (n + 1) (omega arith)) (same_path (whole_many e n (n + 1)))
met (mark m e) L n h =
    after_part e (n + 1) (emit e 0 (n + 1)) (U n (name e (n + 1)) m ∷ [])
    (same_trans (met e 0 (n + 1) (omega arith)) (same_path (whole_item e 0 (n + 1))))
    (lefts _ [] (n + 1) (omega arith) (no_lefts (n + 1)))
met (pair m e f) L n h =
    let b = B n (name e (n + 1)) (name f (n + 1 + size e)) m in
    let p = same_trans (met e 0 (n + 1) (omega arith)) (same_path (whole_item e 0 (n + 1))) in
    let q = same_trans (met f 0 (n + 1 + size e) (omega arith))
    (same_path (whole_item f 0 (n + 1 + size e))) in
    same_trans (same_append p (after_part f (n + 1 + size e) (emit f 0 (n + 1 + size e)) (b ∷ []) q
    (lefts b [] (n + 1 + size e) (omega arith) (no_lefts (n + 1 + size e)))))
    (same_trans (same_path (sym (append_assoc (expr_rules e (n + 1)) (b ∷ [])
    (expr_rules f (n + 1 + size e)))))
    (same_append (after_part e (n + 1) (expr_rules e (n + 1)) (b ∷ []) same_refl
    (lefts b [] (n + 1) (omega arith) (no_lefts (n + 1)))) same_refl))
met (optional e) L n h =
    after_part e (n + 1) (emit e 0 (n + 1)) (U n (name e (n + 1)) UnaryMark.None ∷ E n ∷ [])
    (same_trans (met e 0 (n + 1) (omega arith)) (same_path (whole_item e 0 (n + 1))))
    (lefts _ _ (n + 1) (omega arith) (lefts _ [] (n + 1) (omega arith) (no_lefts (n + 1))))
met (repeated q m e) L n h =
    let z = begins_left q n (name e (n + 2)) in
    after_part e (n + 2) (emit e 0 (n + 2))
    (repeat_begins q n (name e (n + 2)) ∷ U n (n + 1) UnaryMark.None
    ∷ B (n + 1) n (name e (n + 2)) m ∷ [])
    (same_trans (met e 0 (n + 2) (omega arith)) (same_path (whole_item e 0 (n + 2))))
    (lefts _ _ (n + 2) (omega arith)
    (lefts _ _ (n + 2) (omega arith)
    (lefts _ [] (n + 2) (omega arith) (no_lefts (n + 2)))))
met (only e) L n h =
    after_part e n (emit e L n) (U L n UnaryMark.None ∷ [])
    (same_trans (met e L n h) (same_path (whole_made e L n))) (lefts _ [] n h (no_lefts n))
met (or e f) L n h =
    let k = n + size e in
    let u = U L n UnaryMark.None in
    let p = same_trans (met e L n h) (same_path (whole_made e L n)) in
    let q : SameByLeft (u ∷ emit f L k) ((u ∷ alternative_rules L f k) ++ expr_rules f k) =
    same_append {a = u ∷ []} {b = u ∷ []} same_refl
    (same_trans (met f L k (omega arith)) (same_path (whole_many f L k))) in
    same_trans (same_append p q)
    (same_trans (same_path (sym (append_assoc (expr_rules e n) (u ∷ alternative_rules L f k)
    (expr_rules f k))))
    (same_trans (same_append (same_swap (expr_rules e n) (u ∷ alternative_rules L f k)
    (λ r s i j z. let o = owned e n r i in
    let l = lefts u (alternative_rules L f k) n h
    (λ x y. let w = choices_left L f k x y in omega arith) s j in omega arith))
    same_refl) (same_path (append_assoc (u ∷ alternative_rules L f k) (expr_rules e n)
    (expr_rules f k)))))

-- the order by rising left does not see the difference
pub same_rising : {a b : Rules} (K : ℕ) → SameByLeft a b → rising K a ≡ rising K b
same_rising zero p = refl
same_rising (suc K) p = λ i. same_rising K p i ++ p.at_left K i
