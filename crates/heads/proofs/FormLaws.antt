-- The forms of a shape: those that its rule's clause gives, and no others.
use mathlib.Core.Path.{◌≡◌, refl, sym, subst}
use mathlib.Core.Option.{some}
use mathlib.Core.Bool.{Bool, true, false}
use Rattle.std.specs.Prelude.{Option, Some, None}
use Prim.Native.Nat.{ℕ, ◌<◌}
use lib.ListN.{get_elem?}
use Rattle.grammar.specs.declared.UnaryMark.{UnaryMark}
use Rattle.grammar.specs.declared.Rule.{Rule}
use Rattle.grammar.specs.declared.Clause.{Clause}
use Rattle.grammar.specs.Trees.{Rules}
use Rattle.grammar.specs.Cycles.{Nullable}
use Rattle.acyclic.specs.Exact.{Exactly}
use Rattle.pairs.specs.Survey.{Productive, Inherits}
use Rattle.pairs.specs.Shapes.{Form, tip, one, two, Shape, RuleAt, HasForm, tips, units, twos}
use Rattle.pairs.specs.Shapes.{firsts, seconds}
use Rattle.survey.specs.Closing.{Weakest}
use Rattle.heads.specs.declared.Kind.{Kind}
use Rattle.heads.specs.declared.Looks.{Looks}
use Rattle.heads.specs.Forms.{shape_by, AllForm, AloneForm, FormBy, form_of, SaysForm}
use Rattle.heads.specs.Forms.{MarkOf, LooksLike, ShapedAs}

inherits_of : {g : Rules} {A : ℕ} {s : Shape} {f : Form} → HasForm g A s f
    → (l : UnaryMark) × Inherits g A l
inherits_of (tips i r) = (_, i)
inherits_of (units i r p) = (_, i)
inherits_of (twos i r p q) = (_, i)
inherits_of (firsts i r p n) = (_, i)
inherits_of (seconds i r n p) = (_, i)

-- a form that a clause gives under l inherits l
module _ (ns ps : ℕ) (l : UnaryMark) where
  mark_all : (c : Clause) (f : Form) → AllForm ps l c f → MarkOf f l
  mark_all Clause.Empty f e = elim e [ ]
  mark_all (Clause.Atom a b) f e = subst (λ (z : Form). MarkOf z l) (sym e) tt
  mark_all (Clause.Unary C m) f (u, e) = subst (λ (z : Form). MarkOf z l) (sym e) refl
  mark_all (Clause.Binary C D m) f (u, e) = subst (λ (z : Form). MarkOf z l) (sym e) refl

  mark_alone : (b : Bool) (c : Clause) (f : Form) → AloneForm b ns ps l c f → MarkOf f l
  mark_alone b Clause.Empty f x' = elim x' [ ]
  mark_alone b (Clause.Atom _ _) f x4 = elim x4 [ ]
  mark_alone b (Clause.Unary _ _) f x5 = elim x5 [ ]
  mark_alone true (Clause.Binary C D m) f (u, e) =
      subst (λ (z : Form). MarkOf z l) (sym e) refl
  mark_alone false (Clause.Binary C D m) f (u, e) =
      subst (λ (z : Form). MarkOf z l) (sym e) refl

  mark_by : (k : Kind) (c : Clause) (f : Form) → FormBy k ns ps l c f → MarkOf f l
  mark_by Kind.All = mark_all
  mark_by Kind.First = mark_alone true
  mark_by Kind.Second = mark_alone false

module _ {g : Rules} {ns ps : ℕ} (x : Exactly ns (Nullable g)) (y : Exactly ps (Productive g)) where
  module _ (A p : ℕ) (l : UnaryMark) (i : Inherits g A l) where
    all_form : (c : Clause) (f : Form) → RuleAt g p A c → AllForm ps l c f
        → HasForm g A (shape_by Kind.All p) f
    all_form Clause.Empty f r e = elim e [ ]
    all_form (Clause.Atom a b) f r e = subst (HasForm g A (shape_by Kind.All p)) (sym e) (tips i r)
    all_form (Clause.Unary C m) f r (u, e) =
        subst (HasForm g A (shape_by Kind.All p)) (sym e) (units i r (y.is C u))
    all_form (Clause.Binary C D m) f r ((u, v), e) =
        subst (HasForm g A (shape_by Kind.All p)) (sym e) (twos i r (y.is C u) (y.is D v))

    first_form : (c : Clause) (f : Form) → RuleAt g p A c → AloneForm true ns ps l c f
        → HasForm g A (shape_by Kind.First p) f
    first_form Clause.Empty f r x3 = elim x3 [ ]
    first_form (Clause.Atom _ _) f r x6 = elim x6 [ ]
    first_form (Clause.Unary _ _) f r x7 = elim x7 [ ]
    first_form (Clause.Binary C D m) f r ((u, v), e) =
        subst (HasForm g A (shape_by Kind.First p)) (sym e) (firsts i r (y.is C u) (x.is D v))

    second_form : (c : Clause) (f : Form) → RuleAt g p A c → AloneForm false ns ps l c f
        → HasForm g A (shape_by Kind.Second p) f
    second_form Clause.Empty f r x3 = elim x3 [ ]
    second_form (Clause.Atom _ _) f r x6 = elim x6 [ ]
    second_form (Clause.Unary _ _) f r x7 = elim x7 [ ]
    second_form (Clause.Binary C D m) f r ((u, v), e) =
        subst (HasForm g A (shape_by Kind.Second p)) (sym e) (seconds i r (x.is C v) (y.is D u))

    form_has : (k : Kind) (c : Clause) (f : Form) → RuleAt g p A c → FormBy k ns ps l c f
        → HasForm g A (shape_by k p) f
    form_has Kind.All = all_form
    form_has Kind.First = first_form
    form_has Kind.Second = second_form

  -- the rule's clause gives a form under any mark
  record Given (k : Kind) (p A : ℕ) (l : UnaryMark) (r : Rule) : Type 0 where
    pub left : r.left ≡ A
    pub form : Form
    pub by : FormBy k ns ps l r.clause form

  at_rule : (k : Kind) (p A : ℕ) (l : UnaryMark) (c : Clause) (f : Form) {r : Rule}
      → get_elem? g p ≡ some r
      → RuleAt g p A c → FormBy k ns ps l c f → Given k p A l r
  at_rule k p A l c f {r} st r' h =
      let e : record { left = A; clause = c } ≡ r = cc in
      subst (Given k p A l) e (record { left = refl; form = f; by = h })

  has_form : (k : Kind) {p A : ℕ} {f : Form} (l : UnaryMark) {r : Rule} → get_elem? g p ≡ some r
      → HasForm g A (shape_by k p) f → Given k p A l r
  has_form Kind.All {p} {A} l st (tips {a = a} {b = b} i r) =
      at_rule Kind.All p A l (Clause.Atom a b) (tip a b) st r refl
  has_form Kind.All {p} {A} l st (units {C = C} {m = m} i r u) =
      at_rule Kind.All p A l (Clause.Unary C m) (one C l m) st r (y.all C u, refl)
  has_form Kind.All {p} {A} l st (twos {C = C} {D = D} {m = m} i r u v) =
      at_rule Kind.All p A l (Clause.Binary C D m) (two C D m l) st r ((y.all C u, y.all D v), refl)
  has_form Kind.First {p} {A} l st (firsts {C = C} {D = D} {m = m} i r u v) =
      at_rule Kind.First p A l (Clause.Binary C D m) (one C l UnaryMark.None) st r
      ((y.all C u, x.all D v), refl)
  has_form Kind.Second {p} {A} l st (seconds {C = C} {D = D} {m = m} i r u v) =
      at_rule Kind.Second p A l (Clause.Binary C D m) (one D l UnaryMark.None) st r
      ((y.all D v, x.all C u), refl)

  module _ (k : Kind) (p : ℕ) (r : Rule) (st : get_elem? g p ≡ some r) (small : r.left < 64) where
    -- no mark is inherited
    pub shaped_none : ((l : UnaryMark) → Inherits g r.left l → ⊥)
        → ShapedAs g (shape_by k p) (record { sort = r.left; looks = None })
    shaped_none n =
        record { small = small; says = λ f x. none r.left f x.form; absent = λ e. none }
      where
        none : (A : ℕ) (f : Form) → HasForm g A (shape_by k p) f → ⊥
        none A f h =
            let i = inherits_of h in
            let t = has_form k i.0 st h in
            n i.0 (subst (λ (B : ℕ). Inherits g B i.0) (sym t.left) i.1)

    -- under the weakest mark
    pub shaped_by : (l : UnaryMark) → Weakest g r.left l → (looks : Option Looks)
        → SaysForm looks (FormBy k ns ps l r.clause)
        → ShapedAs g (shape_by k p) (record { sort = r.left; looks = looks })
    shaped_by l w looks s =
        record {
          small = small;
          says = says looks s;
          absent = λ e. none (subst (λ (z : Option Looks). SaysForm z (FormBy k ns ps l r.clause)) e
              s);
        }
      where
        like : (f : Form) → FormBy k ns ps l r.clause f → LooksLike g r.left (shape_by k p) f
        like f h =
            record {
              mark = l;
              form = form_has r.left p l w.inherits k r.clause f st h;
              weakest = w;
              under = mark_by ns ps l k r.clause f h;
            }

        none : ((f : Form) → FormBy k ns ps l r.clause f → ⊥) → (A : ℕ) (f : Form)
            → HasForm g A (shape_by k p) f → ⊥
        none n A f h = let t = has_form k l st h in n t.form t.by

        says : (z : Option Looks) → SaysForm z (FormBy k ns ps l r.clause)
            → SaysForm z (LooksLike g r.left (shape_by k p))
        says None n = λ f x. none n r.left f x.form
        says (Some z) h = like (form_of z) h
