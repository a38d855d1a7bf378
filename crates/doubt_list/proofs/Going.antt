-- The list from rule to rule and from nonterminal to nonterminal: where entries are put, and where
-- there is none.
use mathlib.Core.Path.{◌≡◌, refl, sym, ◌∙◌, subst₂}
use mathlib.Core.List.{List}
use mathlib.Core.Bool.{Bool}
use Prim.Native.Nat.{ℕ, ◌+◌, ◌≤◌, ◌<◌}
use native.Mathlib.Omega.{arith}
use Rattle.sets.specs.Says.{Says}
use Rattle.grammar.specs.declared.Grammar.{Grammar}
use Rattle.grammar.specs.Content.{rules_of}
use Rattle.grammar.specs.Trees.{Rules}
use Rattle.lists.specs.declared.Listing.{Listing}
use Rattle.pairs.specs.Doubts.{Why, two_rules, two_cuts, two_empty, Doubt, Doubted, DoubtBy}
use Rattle.pairs.specs.Doubts.{why_code}
use Rattle.doubt_list.specs.declared.Sets.{Sets}
use Rattle.doubt_list.specs.Marks.{Bit, RuleOf, EmptyTwice, Ground}
use Rattle.doubt_list.specs.Steps.{at, doubt, doubt_number, four, Lists, PutIf}
use Rattle.doubt_list.proofs.Doubting.{OfRules, says_rules, says_cuts, says_empty}
use Rattle.doubt_list.proofs.ListLaws.{why_small, lists_then, lists_skip, lists_if}

lists_as : {g : Rules} {old new : List ℕ} {l r : Listing} {m n m' n' : ℕ} → m ≡ m' → n ≡ n'
    → Lists g old new l r m n → Lists g old new l r m' n'
lists_as {g} {old} {new} {l} {r} e f x = subst₂ (λ (i j : ℕ). Lists g old new l r i j) e f x

-- one rule is a doubt by its cuts alone, two rules never are
same_why : (g : Rules) (A p q : ℕ) (y : Why) → p ≡ q → DoubtBy g A p q y → why_code y ≡ 1
same_why g A p q two_rules e d = absurd (omega (arith, e, d.1))
same_why g A p q two_cuts e d = refl
same_why g A p q two_empty e d = absurd (omega (arith, e, d.1))

apart_why : (g : Rules) (A p q : ℕ) (y : Why) → p < q → DoubtBy g A p q y → why_code y ≡ 1 → ⊥
apart_why g A p q two_rules e d w = omega (arith, w)
apart_why g A p q two_cuts e d w = omega (arith, e, d.1)
apart_why g A p q two_empty e d w = omega (arith, w)

module _ {g : Grammar} {s : Sets} {t : List ℕ} (z : Ground g s t) where
  -- where p alone, or where A alone, can be meant
  pub skip_places : {old : List ℕ} {l : Listing} (A p q : ℕ) → p < 128 → l.count ≤ l.at
      → g.count ≤ q → q ≤ 128
      → Lists (rules_of g) old old l l (at A p q 0) (at A (p + 1) 0 0)
  skip_places A p q k h c b = lists_skip z.formed _ _ h (omega (arith, b)) none
    where
      none : (d : Doubt) → OfRules g d → Doubted (rules_of g) d → at A p q 0 ≤ doubt_number d
          → doubt_number d < at A (p + 1) 0 0 → ⊥
      none d o x i j =
          let a : d.nonterminal ≡ A = omega
          (arith, k, b, o.small.place, o.few, why_small d.why, i, j) in
          let e : d.first ≡ p = omega
          (arith, k, b, o.small.place, o.few, why_small d.why, i, j, a) in
          omega (arith, a, e, i, o.last, c, why_small d.why)

  pub skip_rule : {old : List ℕ} {l : Listing} (A p : ℕ) → p < 128 → l.count ≤ l.at
      → (RuleOf (rules_of g) p A → ⊥)
      → Lists (rules_of g) old old l l (at A p 0 0) (at A (p + 1) 0 0)
  skip_rule A p k h n = lists_skip z.formed _ _ h (omega arith) none
    where
      none : (d : Doubt) → OfRules g d → Doubted (rules_of g) d → at A p 0 0 ≤ doubt_number d
          → doubt_number d < at A (p + 1) 0 0 → ⊥
      none d o x i j =
          let a : d.nonterminal ≡ A = omega
          (arith, k, o.small.place, o.few, why_small d.why, i, j) in
          let e : d.first ≡ p = omega
          (arith, k, o.small.place, o.few, why_small d.why, i, j, a) in
          n (subst₂ (λ (i j : ℕ). RuleOf (rules_of g) i j) e a o.first)

  pub skip_rest : {old : List ℕ} {l : Listing} (A p : ℕ) → l.count ≤ l.at → g.count ≤ p → p ≤ 128
      → Lists (rules_of g) old old l l (at A p 0 0) (at (A + 1) 0 0 0)
  skip_rest A p h c b = lists_skip z.formed _ _ h (omega (arith, b)) none
    where
      none : (d : Doubt) → OfRules g d → Doubted (rules_of g) d → at A p 0 0 ≤ doubt_number d
          → doubt_number d < at (A + 1) 0 0 0 → ⊥
      none d o x i j =
          let a : d.nonterminal ≡ A = omega
          (arith, b, o.small.place, o.few, why_small d.why, i, j) in
          omega (arith, a, i, o.last, o.order, c, o.few, why_small d.why)

  module _ (A p : ℕ) (k : p < g.count) where
    few : p < 128
    few = omega (arith, k, z.formed.few)

    -- ---- one rule

    none_before : (d : Doubt) → OfRules g d → Doubted (rules_of g) d → at A p 0 0 ≤ doubt_number d
        → doubt_number d < at A p p 1 → ⊥
    none_before d o x i j =
        let a : d.nonterminal ≡ A = omega
        (arith, few, o.small.place, o.few, why_small d.why, i, j) in
        let e : d.first ≡ p = omega
        (arith, few, o.small.place, o.few, why_small d.why, i, j, a) in
        let q : d.second ≡ p = omega (arith, a, e, i, j, o.order) in
        omega (
          arith,
          a,
          e,
          q,
          j,
          same_why (rules_of g) d.nonterminal d.first d.second
              d.why (e ∙ sym q) x,
        )

    none_behind : (d : Doubt) → OfRules g d → Doubted (rules_of g) d → at A p p 2 ≤ doubt_number d
        → doubt_number d < at A p (p + 1) 0 → ⊥
    none_behind d o x i j =
        let a : d.nonterminal ≡ A = omega
        (arith, few, o.small.place, o.few, why_small d.why, i, j) in
        let e : d.first ≡ p = omega
        (arith, few, o.small.place, o.few, why_small d.why, i, j, a) in
        let q : d.second ≡ p = omega (arith, a, e, i, j, o.order) in
        omega (
          arith,
          a,
          e,
          q,
          i,
          same_why (rules_of g) d.nonterminal d.first d.second
              d.why (e ∙ sym q) x,
        )

    pub lists_same : {old new : List ℕ} {l k : Listing} {yes : Bool} → RuleOf (rules_of g) p A
        → l.count ≤ l.at → Says yes (Bit t p p) → PutIf yes (four A p p 1) old new l k
        → Lists (rules_of g) old new l k (at A p 0 0) (at A p (p + 1) 0)
    lists_same r h b q =
        let x = lists_if z.formed (doubt A p p two_cuts) (record { first = few; second = few })
        (says_cuts z.marked r few b) h q in
        let y = lists_as {n' = at A p p 2} refl (omega arith) x in
        lists_then z.formed
        (lists_skip z.formed (at A p 0 0) (at A p p 1) h (omega arith) none_before)
        (lists_then z.formed y (lists_skip z.formed (at A p p 2) (at A p (p + 1) 0) y.few
        (omega arith) none_behind))

    -- ---- two rules

    module _ (q : ℕ) (m : p < q) (n : q < g.count) where
      few' : q < 128
      few' = omega (arith, n, z.formed.few)

      none_between : (d : Doubt) → OfRules g d → Doubted (rules_of g) d
          → at A p q 1 ≤ doubt_number d
          → doubt_number d < at A p q 2 → ⊥
      none_between d o x i j =
          let a : d.nonterminal ≡ A = omega
          (arith, few, few', o.small.place, o.few, why_small d.why, i, j) in
          let e : d.first ≡ p = omega
          (arith, few, few', o.small.place, o.few, why_small d.why, i, j, a) in
          let f : d.second ≡ q = omega (arith, few', why_small d.why, i, j, a, e) in
          apart_why (rules_of g) d.nonterminal d.first d.second d.why
          (omega (arith, e, f, m)) x (omega (arith, a, e, f, i, j))

      pub lists_rules : {old mid : List ℕ} {l k : Listing} {yes : Bool} → RuleOf (rules_of g) p A
          → l.count ≤ l.at → Says yes (Bit t p q) → PutIf yes (four A p q 0) old mid l k
          → Lists (rules_of g) old mid l k (at A p q 0) (at A p q 2)
      lists_rules r h b x =
          let y = lists_if z.formed (doubt A p q two_rules)
          (record { first = few; second = few' }) (says_rules z.marked r m few' b) h x in
          let w = lists_as {n' = at A p q 1} refl (omega arith) y in
          lists_then z.formed w
          (lists_skip z.formed (at A p q 1) (at A p q 2) w.few (omega arith) none_between)

      pub lists_empty : {old new : List ℕ} {l k : Listing} {yes : Bool} → l.count ≤ l.at
          → Says yes (EmptyTwice (rules_of g) A p q) → PutIf yes (four A p q 2) old new l k
          → Lists (rules_of g) old new l k (at A p q 2) (at A p (q + 1) 0)
      lists_empty h b x =
          lists_as refl (omega arith)
          (lists_if z.formed (doubt A p q two_empty) (record { first = few; second = few' })
          (says_empty m b) h x)
