-- No two rules of an expansion have the same left, kind, first and second: refusal 5 cannot arise.
use mathlib.Core.Path.{◌≡◌, refl, sym, ◌∙◌, ap}
use mathlib.Core.Logic.{inl, inr, ⊎_elim}
use mathlib.Core.List.Memᴰ
use mathlib.Core.List.{[], ◌∷◌, ◌++◌, Memᴰ}
use Prim.Native.Nat.{ℕ, zero, suc, ◌+◌, ◌≤◌, ◌<◌}
use native.Mathlib.Omega.{arith}
use Rattle.sets.proofs.Basics.{clash}
use Rattle.grammar.specs.declared.Rule.{Rule}
use Rattle.grammar.specs.declared.UnaryMark.{UnaryMark}
use Rattle.grammar.specs.Trees.{Rules}
use Rattle.clauses.specs.Clauses as C
use Rattle.clauses.specs.Clauses.{Sort, item, alternatives, AtLeast, from_one, Expr}
use Rattle.clauses.specs.Clauses.{nonterminal, a_part, terminal, group, mark, pair, optional}
use Rattle.clauses.specs.Clauses.{repeated, only, or, Clauses, a_line}
use Rattle.clauses.specs.Readings.{left, right}
use Rattle.clauses.specs.Expansion.{E, U, B, size, name, alternative_rules, repeat_begins}
use Rattle.clauses.specs.Expansion.{expr_rules, expand_from, size_all, of, rising, past_all}
use Rattle.clauses.specs.Expansion.{expansion}
use Rattle.clauses.proofs.Bounds.{Under, UnderAll, start, Clash, AllApart}
use Rattle.grammar.proofs.ChoiceLaws.{member_at}
use mathlib.Core.Option.{Option, some}
use lib.ListN.{get_elem?}
use Rattle.clauses.proofs.Numbers.{owned, choices_left, begins_left}
use Rattle.clauses.proofs.Lines.{sheet_owned, lines, choices_among, start_from, made_grows}
use Rattle.clauses.proofs.Lines.{among_range}
use mathlib.Core.Bool.{Bool, true, false}
use lib.Dec.{T, eqb, eqb→eq}
use native.Mathlib.Nat.{le_refl}
use Rattle.clauses.proofs.Sorted.{put, of_members, under_all}
use Rattle.clauses.proofs.Unique.{not_fresh}
use Rattle.grammar.specs.Distinct.{Alike, Distinct}

apart_append : (a b : Rules) → AllApart a → AllApart b
    → ((r s : Rule) → Memᴰ r a → Memᴰ s b → Clash r s → ⊥) → AllApart (a ++ b)
apart_append [] b p q f = q
apart_append (r ∷ a) b p q f = (
  (λ s m c. ⊎_elim (λ i. p.0 s i c) (λ i. f r s (Memᴰ.head refl) i c)
      (Memᴰ.append_cases a m)),
  apart_append a b p.1 q
      (λ x y i j. f x y (Memᴰ.tail i) j),
)

-- lefts that differ
apart_lefts : (a b : Rules) → AllApart a → AllApart b
    → ((r s : Rule) → Memᴰ r a → Memᴰ s b → r.left ≡ s.left → ⊥) → AllApart (a ++ b)
apart_lefts a b p q f = apart_append a b p q (λ r s i j c. f r s i j c.left)

same_target : {L K A B : ℕ} {r s : Rule} → r ≡ U L A UnaryMark.None → s ≡ U K B UnaryMark.None
    → Clash r s → A ≡ B
same_target p q c = ⊎_elim (λ k. k) sym (rw (p, q) at c.alike)

never_alike : {L K A : ℕ} {m : UnaryMark} {r s : Rule} → r ≡ E L → s ≡ U K A m → Clash r s → ⊥
never_alike p q c = ⊎_elim (λ k. k) (λ k. k) (rw (p, q) at c.alike)

turned : {r s : Rule} → Clash r s → Clash s r
turned c = record { left = sym c.left; alike = ⊎_elim inr inl c.alike }

apart_choices : (L : ℕ) (e : Expr alternatives) (n : ℕ) → AllApart (alternative_rules L e n)
apart_choices L (only e) n = ((λ s m c. Memᴰ.not-nil m), tt)
apart_choices L (or e f) n = (
  (λ s m c. let a = choices_among L f (n + size e) s m in
      let b = among_range f (n + size e) a.0 a.1 in let g = made_grows e in let t =
      same_target refl a.2 c in omega arith),
  apart_choices L f (n + size e),
)

-- the head's left is below all of the rest's
apart_head : (h : Rule) {s : Sort} (e : Expr s) (n : ℕ) → h.left < n → AllApart (expr_rules e n)
    → AllApart (h ∷ expr_rules e n)
apart_head h e n l p = ((λ s m c. let o = owned e n s m in let z = c.left in omega arith), p)

begins_apart : (q : AtLeast) (N n : ℕ) (e : Expr item) (s : Rule) → Under N e → N ≤ n
    → s ≡ U n (n + 1) UnaryMark.None → Clash (repeat_begins q n (name e (n + 2))) s → ⊥
begins_apart from_one N n e s u h q c = not_fresh N n e u h (same_target refl q c)
begins_apart C.from_zero N n e s u h q c = never_alike refl q c

apart_rules : {s : Sort} (N : ℕ) (e : Expr s) (n : ℕ) → Under N e → N ≤ n
    → AllApart (expr_rules e n)
apart_rules N (nonterminal L) n u h = tt
apart_rules N (a_part e) n u h = apart_rules N e n u h
apart_rules N (terminal a) n u h = ((λ s m c. Memᴰ.not-nil m), tt)
apart_rules N (group e) n u h =
    apart_lefts (alternative_rules n e (n + 1)) (expr_rules e (n + 1)) (apart_choices n e (n + 1))
    (apart_rules N e (n + 1) u (omega arith))
    (λ r s i j c. let z = choices_left n e (n + 1) r i in let o = owned e (n + 1) s j in
    omega arith)
apart_rules N (mark m e) n u h = apart_head (U n (name e (n + 1)) m) e (n + 1) (omega arith)
    (apart_rules N e (n + 1) u (omega arith))
apart_rules N (pair m e f) n u h = (
  (λ s i c. let z = c.left in ⊎_elim (λ j. let o = owned e (n + 1) s j in omega arith)
      (λ j. let o = owned f (n + 1 + size e) s j in omega arith)
      (Memᴰ.append_cases (expr_rules e (n + 1)) i)),
  apart_lefts (expr_rules e (n + 1)) (expr_rules f (n + 1 + size e))
      (apart_rules N e (n + 1) u.0 (omega arith))
      (apart_rules N f (n + 1 + size e) u.1 (omega arith))
      (λ r s i j c. let o = owned e (n + 1) r i in let q = owned f (n + 1 + size e) s j in
      omega arith),
)
apart_rules N (optional e) n u h = (
  (λ s i c. ⊎_elim (λ q. never_alike q refl (turned c))
      (λ j. let o = owned e (n + 1) s j in let z = c.left in omega arith)
      (Memᴰ.cases_cons i)),
  apart_head (E n) e (n + 1) (omega arith) (apart_rules N e (n + 1) u (omega arith)),
)
apart_rules N (repeated q m e) n u h = (
  (λ s i c. ⊎_elim (λ t. begins_apart q N n e s u h t c)
      (λ j. let z = c.left in let b = begins_left q n (name e (n + 2)) in
      ⊎_elim (λ t. let y : s.left ≡ n + 1 = ap (λ (x : Rule). x.left) t in omega arith)
      (λ k. let o = owned e (n + 2) s k in omega arith) (Memᴰ.cases_cons j))
      (Memᴰ.cases_cons i)),
  (
    (λ s i c. let z = c.left in
        ⊎_elim (λ t. let y : s.left ≡ n + 1 = ap (λ (x : Rule). x.left) t in
        omega arith) (λ k. let o = owned e (n + 2) s k in omega arith)
        (Memᴰ.cases_cons i)),
    apart_head (B (n + 1) n (name e (n + 2)) m) e (n + 2) (omega arith)
        (apart_rules N e (n + 2) u (omega arith)),
  ),
)
apart_rules N (only e) n u h = apart_rules N e n u h
apart_rules N (or e f) n u h =
    apart_lefts (expr_rules e n) (expr_rules f (n + size e)) (apart_rules N e n u.0 h)
    (apart_rules N f (n + size e) u.1 (omega arith))
    (λ r s i j c. let o = owned e n r i in let q = owned f (n + size e) s j in omega arith)

apart_sheet : (N : ℕ) (c : Clauses) (n : ℕ) → UnderAll N c → N ≤ n → AllApart (expand_from c n)
apart_sheet N C.no_line n u h = tt
apart_sheet N (a_line L e c) n u h =
    apart_append (alternative_rules L e n ++ expr_rules e n) (expand_from c (n + size e))
    (apart_lefts (alternative_rules L e n) (expr_rules e n) (apart_choices L e n)
    (apart_rules N e n u.1.0 h)
    (λ r s i j z. let a = choices_left L e n r i in let o = owned e n s j in let y = u.0 in
    omega arith)) (apart_sheet N c (n + size e) u.1.1 (omega arith))
    (λ r s i j z. ⊎_elim (λ k. let a = choices_among L e n r k in
    let b = among_range e n a.0 a.1 in
    let l = choices_left L e n r k in let y = u.0 in let x = z.left in
    let p = lines {N = N} c (n + size e) s u.1.1 (omega arith) (omega arith) j in
    let d = choices_among (left p.0) (right p.0) (start p.0 (n + size e)) s p.1 in
    let f = among_range (right p.0) (start p.0 (n + size e)) d.0 d.1 in
    let g = start_from p.0 (n + size e) in
    let t = same_target a.2 d.2 z in omega arith)
    (λ k. let o = owned e n r k in let x = z.left in
    ⊎_elim (λ w. omega arith) (λ w. omega arith)
    (sheet_owned {N = N} c (n + size e) s u.1.1 (omega arith) j))
    (Memᴰ.append_cases (alternative_rules L e n) i))

put_apart : (b : Bool) (h : Rule) (g f : Rules) → ((r : Rule) → Memᴰ r g → Memᴰ r f)
    → AllApart g → ((s : Rule) → Memᴰ s f → Clash h s → ⊥) → AllApart (put b h g)
put_apart true h g f i p q = ((λ s m c. q s (i s m) c), p)
put_apart false h g f i p q = p

apart_of : (L : ℕ) (g : Rules) → AllApart g → AllApart (of L g)
apart_of L [] p = tt
apart_of L (h ∷ g) p =
    put_apart (eqb h.left L) h (of L g) g (of_members L g) (apart_of L g p.1) p.0

put_left : (b : Bool) (h : Rule) (g : Rules) (L : ℕ) (r : Rule) → (T b → h.left ≡ L)
    → (Memᴰ r g → r.left ≡ L) → Memᴰ r (put b h g) → r.left ≡ L
put_left true h g L r e f m =
    ⊎_elim (λ q. ap (λ (x : Rule). x.left) q ∙ e tt) f (Memᴰ.cases_cons m)
put_left false h g L r e f m = f m

pub of_left : (L : ℕ) (g : Rules) (r : Rule) → Memᴰ r (of L g) → r.left ≡ L
of_left L [] r m = absurd (Memᴰ.not-nil m)
of_left L (h ∷ g) r m =
    put_left (eqb h.left L) h (of L g) L r (eqb→eq h.left L) (of_left L g r) m

rising_left : (K : ℕ) (g : Rules) (r : Rule) → Memᴰ r (rising K g) → r.left < K
rising_left zero g r m = absurd (Memᴰ.not-nil m)
rising_left (suc K) g r m =
    ⊎_elim (λ i. let z = rising_left K g r i in omega arith)
    (λ i. let z = of_left K g r i in omega arith) (Memᴰ.append_cases (rising K g) m)

apart_rising : (K : ℕ) (g : Rules) → AllApart g → AllApart (rising K g)
apart_rising zero g p = tt
apart_rising (suc K) g p =
    apart_lefts (rising K g) (of K g) (apart_rising K g p) (apart_of K g p)
    (λ r s i j z. let a = rising_left K g r i in let b = of_left K g s j in omega arith)

pub expansion_apart : (c : Clauses) → AllApart (expansion c)
expansion_apart c =
    apart_rising (past_all c + size_all c) (expand_from c (past_all c))
    (apart_sheet (past_all c) c (past_all c) (under_all c (past_all c) (le_refl _)) (le_refl _))

same_some : {A : Type 0} {x y : A} → ◌≡◌ {A = Option A} (some x) (some y) → x ≡ y
same_some e = cc

-- rules that are all apart are distinct, as refusal 5 keeps them
pub apart_distinct : (g : Rules) → AllApart g → Distinct g
apart_distinct g a = record { one = λ p q r s e f l k. go g a p q r s e f l k }
  where
    go : (g : Rules) → AllApart g → (p q : ℕ) (r s : Rule) → get_elem? g p ≡ some r
        → get_elem? g q ≡ some s → r.left ≡ s.left → Alike r.clause s.clause → p ≡ q
    go [] a p q r s e f l k = absurd (clash cc)
    go (h ∷ g) a zero zero r s e f l k = refl
    go (h ∷ g) a zero (suc q) r s e f l k =
        let z : Clash r s = record { left = l; alike = inl k } in
        absurd (a.0 s (member_at g q f) (rw (← same_some e) at z))
    go (h ∷ g) a (suc p) zero r s e f l k =
        let z : Clash s r = record { left = sym l; alike = inr k } in
        absurd (a.0 r (member_at g p e) (rw (← same_some f) at z))
    go (h ∷ g) a (suc p) (suc q) r s e f l k = ap suc (go g a.1 p q r s e f l k)

pub expansion_distinct : (c : Clauses) → Distinct (expansion c)
expansion_distinct c = apart_distinct (expansion c) (expansion_apart c)
