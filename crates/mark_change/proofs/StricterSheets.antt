-- Two accepted sheets that differ in one mark, which was `none`: none stays none, and one never
-- becomes two.
use mathlib.Core.Path.{◌≡◌, refl, sym, ap, ◌∙◌}
use mathlib.Core.List.{List, [], ◌∷◌, ◌++◌}
use Rattle.std.specs.Prelude.{Option, Some, None}
use mathlib.Core.Bool.{Bool, true, false, cond}
use Prim.Native.Nat.{ℕ, ◌≤◌}
use lib.ListN.{length, get_or}
use lib.Dec.{leb}
use Rattle.sets.proofs.Basics.{clash}
use Rattle.grammar.specs.declared.Rule.{Rule}
use Rattle.grammar.specs.declared.Clause.{Clause}
use Rattle.grammar.specs.declared.UnaryMark.TheVariants as UnaryMark
use Rattle.grammar.specs.declared.BinaryMark.TheVariants as BinaryMark
use Rattle.grammar.specs.Layout.{Word}
use Rattle.grammar.specs.Trees.{Rules, NoTree, OneTree, TwoTrees}
use Rattle.fields.specs.declared.Kind.{Kind}
use Rattle.fields.specs.declared.Lay.{Lay}
use Rattle.fields.specs.Pieces.{pieces}
use Rattle.fields.specs.Words.{lay_of}
use Rattle.std.specs.Prelude.{Result, Ok, Err}
use Rattle.lines.specs.declared.RuleFault.{RuleFault}
use Rattle.lines.specs.RuleLines.{lay_rule, from_of, up_to}
use Rattle.sheets.specs.Items.{accepted}
use Rattle.sheets.specs.RuleSheets.{rule_sheet}
use Rattle.tree_view.specs.Stricter.{StricterClause, same, unary, binary, Stricter, none_left, more}
use Rattle.tree_view.proofs.StricterLaws.{stays_none, never_two}
use Rattle.mark_change.specs.Changed.{line_of, changed_sheet, read_changed}
use Rattle.mark_change.proofs.Relaying.{Five, five_of, laid_of}
use Rattle.mark_change.proofs.Rereading.{outcome, accepted_inj}
use Rattle.mark_change.proofs.ChangedLaws.{ChangedAt, changed_at, relaid_but, rule_inj}
use Rattle.mark_change.proofs.ChangedLaws.{unfit_not}
use Rattle.mark_change.specs.Relaid.{lay_field, relaid}

-- 1. one rule

module _ (l : ℕ) (q : Rule) where
  -- the clause with another lay
  to : (c : Clause) (x : Rule) → ◌≡◌ {A = Result Rule RuleFault} (Ok x) (Ok q)
      → StricterClause c x.clause
      → StricterClause c q.clause
  to c x e s = rw (← rule_inj x q e) s

  strict_empty : (y : Lay) → relaid l Clause.Empty y ≡ Ok q
      → StricterClause Clause.Empty q.clause
  strict_empty Lay.None e = to Clause.Empty _ e same
  strict_empty Lay.Offside e = absurd (unfit_not q e)
  strict_empty Lay.Offalign e = absurd (unfit_not q e)
  strict_empty Lay.Single e = absurd (unfit_not q e)
  strict_empty Lay.Align e = absurd (unfit_not q e)
  strict_empty Lay.Indent e = absurd (unfit_not q e)

  strict_atom : (a b : ℕ) (y : Lay) → relaid l (Clause.Atom a b) y ≡ Ok q
      → StricterClause (Clause.Atom a b) q.clause
  strict_atom a b Lay.None e = to (Clause.Atom a b) _ e same
  strict_atom a b Lay.Offside e = absurd (unfit_not q e)
  strict_atom a b Lay.Offalign e = absurd (unfit_not q e)
  strict_atom a b Lay.Single e = absurd (unfit_not q e)
  strict_atom a b Lay.Align e = absurd (unfit_not q e)
  strict_atom a b Lay.Indent e = absurd (unfit_not q e)

  strict_unary : (a : ℕ) (y : Lay) → relaid l (Clause.Unary a UnaryMark.None) y ≡ Ok q
      → StricterClause (Clause.Unary a UnaryMark.None) q.clause
  strict_unary a Lay.None e = to (Clause.Unary a UnaryMark.None) _ e same
  strict_unary a Lay.Offside e = to (Clause.Unary a UnaryMark.None) _ e (unary UnaryMark.Offside)
  strict_unary a Lay.Offalign e = to (Clause.Unary a UnaryMark.None) _ e (unary UnaryMark.Offalign)
  strict_unary a Lay.Single e = to (Clause.Unary a UnaryMark.None) _ e (unary UnaryMark.Single)
  strict_unary a Lay.Align e = absurd (unfit_not q e)
  strict_unary a Lay.Indent e = absurd (unfit_not q e)

  strict_binary : (a b : ℕ) (y : Lay)
      → relaid l (Clause.Binary a b BinaryMark.None) y ≡ Ok q
      → StricterClause (Clause.Binary a b BinaryMark.None) q.clause
  strict_binary a b Lay.None e = to (Clause.Binary a b BinaryMark.None) _ e same
  strict_binary a b Lay.Offside e = absurd (unfit_not q e)
  strict_binary a b Lay.Offalign e = absurd (unfit_not q e)
  strict_binary a b Lay.Single e = absurd (unfit_not q e)
  strict_binary a b Lay.Align e =
      to (Clause.Binary a b BinaryMark.None) _ e (binary BinaryMark.Align)
  strict_binary a b Lay.Indent e =
      to (Clause.Binary a b BinaryMark.None) _ e (binary BinaryMark.Indent)

-- the rule r of a line whose lay is none, and what it is under another
strict_rule : (l : ℕ) (k : Kind) (a b : ℕ) (r q : Rule) (y : Lay)
    → lay_rule l k a b Lay.None ≡ Ok r → relaid r.left r.clause y ≡ Ok q
    → StricterClause r.clause q.clause
strict_rule l Kind.E a b r q y e f = let j = rule_inj _ r e in
    rw (← j) (strict_empty l q y (rw (← j) at f))
strict_rule l Kind.A a b r q y e f = go (leb a b) e
  where
    go : (t : Bool) → cond t (Ok (record { left = l; clause = Clause.Atom a b }))
        (Err RuleFault.Reversed) ≡ Ok r → StricterClause r.clause q.clause
    go true e = let j = rule_inj _ r e in rw (← j) (strict_atom l q a b y (rw (← j) at f))
    go false e = absurd (clash cc)
strict_rule l Kind.U a b r q y e f = let j = rule_inj _ r e in
    rw (← j) (strict_unary l q a y (rw (← j) at f))
strict_rule l Kind.B a b r q y e f = let j = rule_inj _ r e in
    rw (← j) (strict_binary l q a b y (rw (← j) at f))

-- 2. the sheets

stricter_self : (g : Rules) → Stricter g g
stricter_self [] = none_left
stricter_self (r ∷ g) = more refl same (stricter_self g)

stricter_one : (front back : Rules) (r q : Rule) → r.left ≡ q.left
    → StricterClause r.clause q.clause → Stricter (front ++ r ∷ back) (front ++ q ∷ back)
stricter_one [] back r q e c = more e c (stricter_self back)
stricter_one (x ∷ front) back r q e c = more refl same (stricter_one front back r q e c)

some_inj : (y z : Lay) → Some y ≡ Some z → y ≡ z
some_inj y z e = cc

module _ (s : List ℕ) (g : Rules) (p : ℕ) (c : ChangedAt s g p)
    (was : lay_of (lay_field s p) ≡ Some Lay.None) where
  five : Five (pieces 32 (line_of s p)) c.rule
  five = five_of (pieces 32 (line_of s p)) c.rule c.says

  lay_none : five.lay ≡ Lay.None
  lay_none =
      let f : lay_field s p ≡ five.f₄ = ap (λ (x : List (List ℕ)). get_or x 4 []) five.are in
      some_inj five.lay Lay.None (sym five.lay_is ∙ ap lay_of (sym f) ∙ was)

  ruled : lay_rule five.left five.kind (from_of five.first) (up_to five.first five.second)
      Lay.None ≡ Ok c.rule
  ruled = rw (← lay_none) (laid_of five.left five.kind five.first five.second
      five.lay c.rule five.rule)

  by_line : (y : Lay) (x : Result Rule RuleFault) → relaid c.rule.left c.rule.clause y ≡ x
      → (h : Rules)
      → outcome c.front c.back x ≡ accepted h → Stricter g h
  by_line y (Err RuleFault.Form) i h e = absurd (clash cc)
  by_line y (Err RuleFault.Range) i h e = absurd (clash cc)
  by_line y (Err RuleFault.Unfit) i h e = absurd (clash cc)
  by_line y (Err RuleFault.Reversed) i h e = absurd (clash cc)
  by_line y (Ok q) i h e =
      let b = relaid_but c.rule.left q c.rule.clause y i in
      let j = accepted_inj (c.front ++ q ∷ c.back) h e in
      rw (c.whole, ← j) (stricter_one c.front c.back c.rule q b.left
      (strict_rule five.left five.kind (from_of five.first)
      (up_to five.first five.second) c.rule q y ruled i))

  by_lay : (lay : List ℕ) (o : Option Lay) → lay_of lay ≡ o → (h : Rules)
      → read_changed s p lay o ≡ accepted h → Stricter g h
  by_lay lay (Some y) w h e =
      by_line y (relaid c.rule.left c.rule.clause y) refl h (sym (c.reads lay y w) ∙ e)
  by_lay lay None w h e = absurd (clash cc)

-- THE LEMMA: an accepted sheet, and the same sheet with other bytes in the place of a rule's
-- `none`, accepted too
module _ (s : List ℕ) (g : Rules) (e : rule_sheet s ≡ accepted g) (p : ℕ) (low : 1 ≤ p)
    (high : p ≤ length g) (was : lay_of (lay_field s p) ≡ Some Lay.None)
    (lay : List ℕ) (h : Rules) (f : changed_sheet s p lay ≡ accepted h) where
  stricter : Stricter g h
  stricter = by_lay s g p (changed_at s g e p low high) was lay (lay_of lay) refl h f

  -- none stays none
  pub none_stays : (A : ℕ) (w : Word) → NoTree g A w → NoTree h A w
  none_stays A w n = stays_none stricter n

  -- one does not become two
  pub one_not_more : (A : ℕ) (w : Word) → OneTree g A w → TwoTrees h A w → ⊥
  one_not_more A w o t = never_two stricter o t
