-- The change of a mark, by what the new mark's bytes are and by what the user may do.
use mathlib.Core.Path.{◌≡◌, refl, sym, ap, ◌∙◌}
use mathlib.Core.Logic.{◌⊎◌, inl, inr}
use mathlib.Core.Bool.{Bool, true, false}
use mathlib.Core.List.{List, [], ◌∷◌, ◌++◌}
use mathlib.Core.Option.{some}
use Rattle.std.specs.Prelude.{Option, None, Some}
use Prim.Native.Nat.{ℕ, zero, suc, ◌+◌, ◌-◌, ◌≤◌, ◌<◌}
use native.Mathlib.Omega.{arith}
use lib.ListN.{length, get_or, get_elem?}
use Rattle.sets.proofs.Basics.{clash}
use Rattle.sets.proofs.Says.{true_not_false}
use Rattle.sets.specs.Says.{Says}
use Rattle.sets.specs.Sets.{In}
use Rattle.grammar.specs.declared.Rule.{Rule}
use Rattle.grammar.specs.declared.Grammar.{Grammar}
use Rattle.grammar.specs.declared.Clause.{Clause}
use Rattle.grammar.specs.Trees.{Rules}
use Rattle.grammar.specs.Content.{rules_of, Formed, SmallRule}
use Rattle.grammar.proofs.Lists.{mem_every, get_elem?_take}
use Rattle.grammar.proofs.ByKind.{get_elem?_lt}
use Rattle.grammar.proofs.ChoiceLaws.{member_at}
use Rattle.fields.specs.declared.Lay.{Lay}
use Rattle.fields.specs.Words.{lay_of}
use Rattle.std.specs.Prelude.{Result, Ok, Err}
use Rattle.lines.specs.declared.RuleFault.{RuleFault}
use Rattle.sheets.specs.declared.Fault.TheVariants as Fault
use Rattle.sheets.specs.Items.{accepted, refused}
use Rattle.sheets.specs.RuleSheets.{rule_sheet}
use Rattle.tree_view.specs.Shown.{View}
use Rattle.tree_view.proofs.Members.{member_says}
use Rattle.mark_change.specs.Changed.{changed, changed_sheet, read_changed}
use Rattle.lists.specs.Lists.{GivesList}
use Rattle.lists.specs.Putting.{listed}
use Rattle.lists.specs.Putting as Putting
use Rattle.sheets.specs.Results.{refusal}
use Rattle.list_answers.proofs.ListSettled.{list_on}
use Rattle.mark_change.proofs.Rereading.{outcome}
use Rattle.mark_change.proofs.ChangedLaws.{ChangedAt, changed_at}
use Rattle.call_rights.specs.Change.{MayRule, ChangeDone, unfit, given}
use Rattle.call_rights.specs.Change.{ChangeOn, barred}
use Rattle.call_rights.specs.Inner.{Named}
use Rattle.tree_view.specs.Members.{member}
use Rattle.mark_change.specs.Relaid.{relaid, fits_lay}
use Rattle.list_answers.specs.ListReplies.{on_list}

-- 1. whether the lay fits

abbrev Good : Result Rule RuleFault → Type 0
Good x = (q : Rule) × (x ≡ Ok q)

relaid_good : (l : ℕ) (c : Clause) (y : Lay) → fits_lay c y ≡ true → Good (relaid l c y)
relaid_good l Clause.Empty Lay.None e = (_, refl)
relaid_good l Clause.Empty Lay.Offside e = absurd (true_not_false (sym e))
relaid_good l Clause.Empty Lay.Offalign e = absurd (true_not_false (sym e))
relaid_good l Clause.Empty Lay.Single e = absurd (true_not_false (sym e))
relaid_good l Clause.Empty Lay.Align e = absurd (true_not_false (sym e))
relaid_good l Clause.Empty Lay.Indent e = absurd (true_not_false (sym e))
relaid_good l (Clause.Atom a b) Lay.None e = (_, refl)
relaid_good l (Clause.Atom a b) Lay.Offside e = absurd (true_not_false (sym e))
relaid_good l (Clause.Atom a b) Lay.Offalign e = absurd (true_not_false (sym e))
relaid_good l (Clause.Atom a b) Lay.Single e = absurd (true_not_false (sym e))
relaid_good l (Clause.Atom a b) Lay.Align e = absurd (true_not_false (sym e))
relaid_good l (Clause.Atom a b) Lay.Indent e = absurd (true_not_false (sym e))
relaid_good l (Clause.Unary a m) Lay.None e = (_, refl)
relaid_good l (Clause.Unary a m) Lay.Offside e = (_, refl)
relaid_good l (Clause.Unary a m) Lay.Offalign e = (_, refl)
relaid_good l (Clause.Unary a m) Lay.Single e = (_, refl)
relaid_good l (Clause.Unary a m) Lay.Align e = absurd (true_not_false (sym e))
relaid_good l (Clause.Unary a m) Lay.Indent e = absurd (true_not_false (sym e))
relaid_good l (Clause.Binary a b m) Lay.None e = (_, refl)
relaid_good l (Clause.Binary a b m) Lay.Offside e = absurd (true_not_false (sym e))
relaid_good l (Clause.Binary a b m) Lay.Offalign e = absurd (true_not_false (sym e))
relaid_good l (Clause.Binary a b m) Lay.Single e = absurd (true_not_false (sym e))
relaid_good l (Clause.Binary a b m) Lay.Align e = (_, refl)
relaid_good l (Clause.Binary a b m) Lay.Indent e = (_, refl)

relaid_unfit : (l : ℕ) (c : Clause) (y : Lay) → fits_lay c y ≡ false
    → relaid l c y ≡ (Err RuleFault.Unfit)
relaid_unfit l c Lay.None e = absurd (true_not_false e)
relaid_unfit l Clause.Empty Lay.Offside e = refl
relaid_unfit l Clause.Empty Lay.Offalign e = refl
relaid_unfit l Clause.Empty Lay.Single e = refl
relaid_unfit l Clause.Empty Lay.Align e = refl
relaid_unfit l Clause.Empty Lay.Indent e = refl
relaid_unfit l (Clause.Atom a b) Lay.Offside e = refl
relaid_unfit l (Clause.Atom a b) Lay.Offalign e = refl
relaid_unfit l (Clause.Atom a b) Lay.Single e = refl
relaid_unfit l (Clause.Atom a b) Lay.Align e = refl
relaid_unfit l (Clause.Atom a b) Lay.Indent e = refl
relaid_unfit l (Clause.Unary a m) Lay.Offside e = absurd (true_not_false e)
relaid_unfit l (Clause.Unary a m) Lay.Offalign e = absurd (true_not_false e)
relaid_unfit l (Clause.Unary a m) Lay.Single e = absurd (true_not_false e)
relaid_unfit l (Clause.Unary a m) Lay.Align e = refl
relaid_unfit l (Clause.Unary a m) Lay.Indent e = refl
relaid_unfit l (Clause.Binary a b m) Lay.Offside e = refl
relaid_unfit l (Clause.Binary a b m) Lay.Offalign e = refl
relaid_unfit l (Clause.Binary a b m) Lay.Single e = refl
relaid_unfit l (Clause.Binary a b m) Lay.Align e = absurd (true_not_false e)
relaid_unfit l (Clause.Binary a b m) Lay.Indent e = absurd (true_not_false e)

-- 2. the new mark's bytes

module _ (s : List ℕ) (p : ℕ) (c : Clause) (n : Named s p c) (lay : List ℕ) where
  -- no word of lay
  pub done_form : None ≡ lay_of lay → (bytes : List ℕ)
      → ChangeDone s p lay bytes bytes (refusal Fault.RuleForm (p + 1))
  done_form e bytes =
      unfit (record { is = ap (read_changed s p lay) (sym e) }) refl refl

  module _ (y : Lay) (is : Some y ≡ lay_of lay) where
    word : lay_of lay ≡ Some y
    word = sym is

    reads : (x : Result Rule RuleFault) → relaid n.at.rule.left n.at.rule.clause y ≡ x
        → changed_sheet s p lay ≡ outcome n.at.front n.at.back x
    reads x e = ap (read_changed s p lay) word ∙ n.at.reads lay y word
        ∙ ap (outcome n.at.front n.at.back) e

    pub done_lay : fits_lay c y ≡ false → (bytes : List ℕ)
        → ChangeDone s p lay bytes bytes (refusal Fault.RuleLay (p + 1))
    done_lay e bytes =
        let f : length n.at.front + 2 ≡ p + 1 = omega (arith, n.at.place) in
        unfit (record {
          is = reads (Err RuleFault.Unfit)
              (relaid_unfit n.at.rule.left n.at.rule.clause y
              (ap (λ (x : Clause). fits_lay x y) (sym n.is) ∙ e)) ∙ ap (refused 4) f;
        }) refl
        refl

    good : fits_lay c y ≡ true → (h : Rules) × (changed_sheet s p lay ≡ accepted h)
    good e =
        let q = relaid_good n.at.rule.left n.at.rule.clause y
        (ap (λ (x : Clause). fits_lay x y) (sym n.is) ∙ e) in
        (n.at.front ++ q.0 ∷ n.at.back, reads (Ok q.0) q.1)

    pub done_listed : fits_lay c y ≡ true → (bytes bytes' : List ℕ) (l : Option ℕ)
        → GivesList listed Putting.unfit (changed s p lay) (length (changed s p lay)) bytes bytes' l
        → ChangeDone s p lay bytes bytes' (on_list l)
    done_listed e bytes bytes' l x = given (good e).1 (list_on x)

-- 3. which refusals the changed sheet can get: 2 and 4 in that rule's line, no other

lay_refused : (front back : Rules) (x : Result Rule RuleFault) (p : ℕ) → length front + 1 ≡ p
    → (Good x ⊎ (x ≡ (Err RuleFault.Unfit))) → {n l : ℕ} → outcome front back x ≡ refused n l
    → (n ≡ 4) × (l ≡ p + 1)
lay_refused front back x p h (inl q) e = absurd
    (let k = q.1 in let j : outcome front back x ≡ accepted (front ++ q.0 ∷ back) =
    ap (outcome front back) k in clash cc)
lay_refused front back x p h (inr q) {n} {l} e =
    let j : outcome front back x ≡ refused 4 (length front + 2) = ap (outcome front back) q in
    let a : ◌≡◌ {A = ℕ} 4 n = cc in
    let b : length front + 2 ≡ l = cc in
    (sym a, omega arith)

pub changed_refused : (s : List ℕ) (g : Rules) (p : ℕ) → ChangedAt s g p → (lay : List ℕ) {n l : ℕ}
    → changed_sheet s p lay ≡ refused n l → ((n ≡ 2) ⊎ (n ≡ 4)) × (l ≡ p + 1)
changed_refused s g p c lay {n} {l} e = go (lay_of lay) refl e
  where
    fits_or_not : (y : Lay) (b : Bool) → fits_lay c.rule.clause y ≡ b
        → Good (relaid c.rule.left c.rule.clause y)
        ⊎ (relaid c.rule.left c.rule.clause y ≡ (Err RuleFault.Unfit))
    fits_or_not y true h = inl (relaid_good c.rule.left c.rule.clause y h)
    fits_or_not y false h = inr (relaid_unfit c.rule.left c.rule.clause y h)

    go : (o : Option Lay) → lay_of lay ≡ o → read_changed s p lay o ≡ refused n l
        → ((n ≡ 2) ⊎ (n ≡ 4)) × (l ≡ p + 1)
    go None h e = let a : ◌≡◌ {A = ℕ} 2 n = cc in let b : p + 1 ≡ l = cc in (inl (sym a), sym b)
    go (Some y) h e =
        let r = lay_refused c.front c.back (relaid c.rule.left c.rule.clause y) p
        c.place (fits_or_not y (fits_lay c.rule.clause y) refl)
        (sym (c.reads lay y h) ∙ e) in (inr r.0, r.1)

-- 4. whether the user may

at_place : (front back : Rules) (r : Rule) (i : ℕ) → length front ≡ i
    → get_elem? (front ++ r ∷ back) i ≡ some r
at_place [] back r zero e = refl
at_place [] back r (suc i) e = absurd (omega arith)
at_place (q ∷ front) back r zero e = absurd (omega arith)
at_place (q ∷ front) back r (suc i) e = at_place front back r i (omega arith)

get_elem?_get_d : (l : Rules) (i : ℕ) (r d : Rule) → get_elem? l i ≡ some r → get_or l i d ≡ r
get_elem?_get_d [] i r d e = absurd (clash cc)
get_elem?_get_d (x ∷ l) zero r d e = cc
get_elem?_get_d (x ∷ l) (suc i) r d e = get_elem?_get_d l i r d e

pub barred_zero : (may : View) (s : List ℕ) (g : Rules) (p : ℕ) (lay bytes : List ℕ) → p ≡ 0
    → ChangeOn may s g p lay bytes bytes (refusal Fault.NoRight 0)
barred_zero may s g p lay bytes e = barred (λ m. omega (arith, m.low)) refl refl refl

module _ {g : Grammar} (f : Formed g) (s : List ℕ) (e : rule_sheet s ≡ accepted (rules_of g))
    (may : ℕ)
    (p : ℕ) (lay bytes : List ℕ) where
  pub barred_past : g.count < p → ChangeOn (member may) s (rules_of g) p lay bytes bytes
      (refusal Fault.NoRight 0)
  barred_past h = barred (λ m. let l = get_elem?_lt (rules_of g) (p - 1) m.stands in
      omega (arith, f.whole, m.low)) refl refl refl

  -- the rule that the code reads
  module _ (low : 1 ≤ p) (high : p ≤ g.count) (d : Rule) where
    pub at : ChangedAt s (rules_of g) p
    at = changed_at s (rules_of g) e p low (omega (arith, f.whole))

    stands : get_elem? (rules_of g) (p - 1) ≡ some at.rule
    stands = rw at.whole (at_place at.front at.back at.rule (p - 1)
        (omega (arith, at.place)))

    pub read_rule : get_or g.rules (p - 1) d ≡ at.rule
    read_rule = get_elem?_get_d g.rules (p - 1) at.rule d
        (get_elem?_take g.rules g.count (p - 1) stands)

    pub read_small : (get_or g.rules (p - 1) d).left < 64
    read_small = rw read_rule (mem_every SmallRule (rules_of g) f.small
        (member_at (rules_of g) (p - 1) stands)).left

    pub read_named : Named s p (get_or g.rules (p - 1) d).clause
    read_named = record { all = rules_of g; at = at; is = ap (λ (r : Rule). r.clause) read_rule }

    pub read_may : {b : Bool} → b ≡ true → Says b (In may (get_or g.rules (p - 1) d).left)
        → MayRule (member may) (rules_of g) p
    read_may h x = record {
      low = low;
      rule = at.rule;
      stands = stands;
      left = sym
          (ap (λ (r : Rule). member may r.left) read_rule) ∙ sym (member_says _ _ x) ∙ h;
    }

    same_rule : (r : Rule) → get_elem? (rules_of g) (p - 1) ≡ some r → at.rule ≡ r
    same_rule r k = let j = stands in cc

    pub read_barred : {b : Bool} → b ≡ false → Says b (In may (get_or g.rules (p - 1) d).left)
        → ChangeOn (member may) s (rules_of g) p lay bytes bytes (refusal Fault.NoRight 0)
    read_barred h x =
        barred (λ m. true_not_false (sym m.left ∙ ap (λ (r : Rule). member may r.left)
        (sym (same_rule m.rule m.stands)) ∙ sym
        (ap (λ (r : Rule). member may r.left) read_rule) ∙ sym (member_says _ _ x) ∙ h))
        refl refl refl
