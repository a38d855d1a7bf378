-- What the bits and the sets say of doubts, and how large a doubt's numbers are.
use mathlib.Core.Path.{◌≡◌, refl, sym, ap, ◌∙◌, subst}
use mathlib.Core.List.{List, []}
use mathlib.Core.Option.{some}
use mathlib.Core.Bool.{Bool}
use Prim.Native.Nat.{ℕ, ◌≤◌, ◌<◌}
use native.Mathlib.Omega.{arith}
use lib.ListN.{get_elem?}
use Rattle.sets.proofs.Basics.{clash}
use Rattle.sets.specs.Says.{Says}
use Rattle.sets.proofs.Says.{says_iff}
use Rattle.grammar.specs.declared.Rule.{Rule}
use Rattle.grammar.specs.declared.Clause.{Clause}
use Rattle.grammar.specs.declared.Grammar.{Grammar}
use Rattle.grammar.specs.Content.{rules_of, Formed}
use Rattle.grammar.specs.Trees.{Rules}
use Rattle.grammar.specs.Cycles.{Nullable}
use Rattle.grammar.specs.Choices.{Choice}
use Rattle.grammar.proofs.ByKind.{Can, choice_can, can_choice, get_elem?_lt}
use Rattle.acyclic.specs.Exact.{Exactly}
use Rattle.acyclic.specs.Passes.{Ready}
use Rattle.acyclic.proofs.Growth.{small_at}
use Rattle.pairs.specs.Shapes.{Shape, Form, HasForm, tips, units, twos, firsts, seconds}
use Rattle.pairs.specs.Shapes.{rule_of_shape}
use Rattle.pairs.specs.Shapes.{Head}
use Rattle.pairs.specs.Settings.{Setting, FitIn}
use Rattle.pairs.specs.Facts.{stand, Might, two_nodes}
use Rattle.pairs.specs.Doubts.{Seen, TwoNodes, Why, two_rules, two_cuts, two_empty, Doubt, Doubted}
use Rattle.pairs.specs.Doubts.{DoubtBy}
use Rattle.doubt_list.specs.Marks.{Bit, Marked, RuleOf, EmptyTwice}
use Rattle.doubt_list.specs.Steps.{doubt}

-- ---- rules of nodes

fits : {g : Rules} {σ : Setting} {x y : Head} → Might g (stand σ x y) → FitIn g σ x y
fits (two_nodes f l n x y h a b) = h

rule_of : {g : Rules} {A : ℕ} {s : Shape} {f : Form} → HasForm g A s f
    → RuleOf g (rule_of_shape s) A
rule_of (tips i r) = record { rule = _; stands = r; left = refl }
rule_of (units i r p) = record { rule = _; stands = r; left = refl }
rule_of (twos i r p q) = record { rule = _; stands = r; left = refl }
rule_of (firsts i r p n) = record { rule = _; stands = r; left = refl }
rule_of (seconds i r n p) = record { rule = _; stands = r; left = refl }

module _ {g : Rules} {A p q : ℕ} (t : TwoNodes g A p q) where
  nodes_first : RuleOf g p A
  nodes_first =
      subst (λ (B : ℕ). RuleOf g p B) t.sort₁
      (subst (λ (i : ℕ). RuleOf g i t.x.sort) t.rule₁
      (rule_of (fits t.over.may).looks₁))

  nodes_second : RuleOf g q A
  nodes_second =
      subst (λ (B : ℕ). RuleOf g q B) t.sort₂
      (subst (λ (i : ℕ). RuleOf g i t.y.sort) t.rule₂
      (rule_of (fits t.over.may).looks₂))

pub one_left : {g : Rules} {p A B : ℕ} → RuleOf g p A → RuleOf g p B → A ≡ B
one_left x y =
    let i = x.stands in
    let j = y.stands in
    let e : x.rule ≡ y.rule = cc in
    sym x.left ∙ ap (λ (r : Rule). r.left) e ∙ y.left

choice_rule : {g : Rules} {A p : ℕ} → Choice g A [] p 0 → RuleOf g p A
choice_rule c = let x = choice_can c in record { rule = x.0; stands = x.1; left = x.2 }

-- ---- how large numbers are

-- a rule of the sheet
pub record Small (A p : ℕ) : Type 0 where
  pub left : A < 64
  pub place : p < 128

small_rule : {g : Grammar} {p A : ℕ} → Formed g → RuleOf (rules_of g) p A → Small A p
small_rule {g} {p} f r =
    record {
      left = omega (arith, (small_at f p r.stands).left, r.left);
      place = omega (arith, get_elem?_lt (rules_of g) p r.stands, f.whole, f.few);
    }

both_rules : {g : Rules} (A p q : ℕ) (y : Why) → DoubtBy g A p q y
    → RuleOf g p A × RuleOf g q A × (p ≤ q)
both_rules A p q two_rules d = (nodes_first d.2, nodes_second d.2, omega (arith, d.1))
both_rules A p q two_cuts d = (nodes_first d.2, nodes_second d.2, omega (arith, d.1))
both_rules A p q two_empty d = (choice_rule d.2, choice_rule d.3, omega (arith, d.1))

-- the rules of a doubt
pub record OfRules (g : Grammar) (d : Doubt) : Type 0 where
  pub small : Small d.nonterminal d.first
  pub last : d.second < g.count
  pub few : d.second < 128
  pub first : RuleOf (rules_of g) d.first d.nonterminal
  pub order : d.first ≤ d.second

pub doubt_rules : {g : Grammar} → Formed g → (d : Doubt) → Doubted (rules_of g) d → OfRules g d
doubt_rules {g} f d h =
    let r = both_rules d.nonterminal d.first d.second d.why h in
    record {
      small = small_rule f r.0;
      last = omega (arith, get_elem?_lt (rules_of g) d.second r.1.stands, f.whole);
      few = (small_rule f r.1).place;
      first = r.0;
      order = r.2;
    }

-- ---- what the bits say

module _ {g : Rules} {t : List ℕ} (m : Marked g t) {A p q : ℕ} (r : RuleOf g p A) (h : p ≤ q)
    (k : q < 128) where
  bit_nodes : Bit t p q → Seen g A × TwoNodes g A p q
  bit_nodes b =
      let x = (m.is p q h k).0 b in
      let e = one_left (nodes_first x.nodes) r in
      (subst (Seen g) e x.seen, subst (λ (B : ℕ). TwoNodes g B p q) e x.nodes)

  nodes_bit : Seen g A → TwoNodes g A p q → Bit t p q
  nodes_bit s n = (m.is p q h k).1 (record { left = A; seen = s; nodes = n })

pub says_rules : {g : Rules} {t : List ℕ} {A p q : ℕ} {b : Bool} → Marked g t → RuleOf g p A → p < q
    → q < 128 → Says b (Bit t p q)
    → Says b (Doubted g (doubt A p q two_rules))
says_rules {p = p} {q = q} m r h k s =
    let le : p ≤ q = omega (arith, h) in
    says_iff (λ i. let x = bit_nodes m r le k i in (x.0, h, x.1))
    (λ d. nodes_bit m r le k d.0 d.2) s

pub says_cuts : {g : Rules} {t : List ℕ} {A p : ℕ} {b : Bool} → Marked g t → RuleOf g p A → p < 128
    → Says b (Bit t p p)
    → Says b (Doubted g (doubt A p p two_cuts))
says_cuts m r k s =
    says_iff (λ i. let x = bit_nodes m r (omega arith) k i in (x.0, refl, x.1))
    (λ d. nodes_bit m r (omega arith) k d.0 d.2) s

pub says_empty : {g : Rules} {A p q : ℕ} {b : Bool} → p < q → Says b (EmptyTwice g A p q)
    → Says b (Doubted g (doubt A p q two_empty))
says_empty h s =
    says_iff (λ e. (e.occurs, h, e.first, e.second))
    (λ d. record { occurs = d.0; first = d.2; second = d.3 }) s

-- ---- rules for the empty word

module _ {g : Rules} {ns : ℕ} (x : Exactly ns (Nullable g)) where
  ready_can : (c : Clause) → Ready ns c → Can g [] c 0
  ready_can Clause.Empty r = (refl, refl)
  ready_can (Clause.Atom a b) r = absurd r
  ready_can (Clause.Unary B k) r = (x.is B r, tt, refl)
  ready_can (Clause.Binary B C k) r = (omega arith, x.is B r.0, x.is C r.1, tt)

  can_ready : (c : Clause) → Can g [] c 0 → Ready ns c
  can_ready Clause.Empty e = tt
  can_ready (Clause.Atom a b) e =
      let z = e.1 in absurd (clash cc)
  can_ready (Clause.Unary B k) e = x.all B e.0
  can_ready (Clause.Binary B C k) e = (x.all B e.1, x.all C e.2)

  pub says_choice : {p : ℕ} {b : Bool} (r : Rule) → get_elem? g p ≡ some r
      → Says b (Ready ns r.clause) → Says b (Choice g r.left [] p 0)
  says_choice {p} r st s =
      says_iff (λ h. can_choice g p r.left r.clause [] 0 st (ready_can r.clause h)) back s
    where
      back : Choice g r.left [] p 0 → Ready ns r.clause
      back c =
          let y = choice_can c in
          let a = y.1 in
          let e : y.0 ≡ r = cc in
          can_ready r.clause (subst (λ (z : Rule). Can g [] z.clause 0) e y.3)

  pub choice_left : {p A : ℕ} (r : Rule) → get_elem? g p ≡ some r → Choice g A [] p 0 → r.left ≡ A
  choice_left r st c = one_left (record { rule = r; stands = st; left = refl }) (choice_rule c)
