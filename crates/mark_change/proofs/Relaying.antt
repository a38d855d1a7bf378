-- A rule line with another lay: it says the rule with that lay, or 4.
use mathlib.Core.Path.{◌≡◌, refl, sym, ap, ◌∙◌}
use mathlib.Core.List.{List, [], ◌∷◌, ◌++◌}
use mathlib.Core.Bool.{Bool, true, false, not, cond, ◌&&◌}
use Rattle.std.specs.Prelude.{Option, None, Some}
use Prim.Native.Nat.{ℕ}
use lib.ListN.{take}
use lib.Dec.{eqb, leb, lit<}
use Rattle.sets.proofs.Basics.{clash}
use Rattle.sets.proofs.Says.{true_not_false}
use Rattle.grammar.specs.declared.Rule.{Rule}
use Rattle.grammar.specs.declared.Clause.{Clause}
use Rattle.fields.specs.declared.Kind.{Kind}
use Rattle.fields.specs.declared.Lay.{Lay}
use Rattle.fields.specs.Pieces.{pieces, same_bytes}
use Rattle.fields.specs.Words.{numeral_of, kind_of, operand_of, lay_of}
use Rattle.fields.specs.Fields.{on_value, with_field, at_end_of}
use Rattle.std.specs.Prelude.{Result, Ok, Err}
use Rattle.lines.specs.declared.RuleFault.{RuleFault}
use Rattle.lines.specs.declared.RuleFault.TheVariants.{Form, Range, Unfit, Reversed}
use Rattle.lines.specs.RuleLines.{shape, plain_rule, atom_rule, unary_rule, binary_rule, lay_rule}
use Rattle.lines.specs.RuleLines.{from_of, up_to}
use Rattle.lines.specs.RuleLines.{rule_of_of, after_lay, after_second, after_first, after_kind}
use Rattle.lines.specs.RuleLines.{after_left}
use Rattle.lines.specs.RuleLines.{rule_fields, rule_line_of}
use Rattle.sheets.specs.RefusedLines.{piece_start}
use Rattle.fields.proofs.Cuts.{FreeOf, pieces_free, same_path}
use Rattle.mark_change.proofs.Replacing.{pieces_upto}
use Rattle.mark_change.specs.Relaid.{relaid}

-- 1. a word of lay has neither byte 10 nor byte 32

abbrev free_test : ℕ → List ℕ → Bool
free_test b [] = true
free_test b (x ∷ u) = not (eqb x b) && free_test b u

free_of : (b : ℕ) (u : List ℕ) → free_test b u ≡ true → FreeOf b u
free_of b [] e = tt
free_of b (x ∷ u) e = go (λ h. free_of b u h) (eqb x b) refl e
  where
    go : (free_test b u ≡ true → FreeOf b u) → (t : Bool) → eqb x b ≡ t
        → not t && free_test b u ≡ true → (eqb x b ≡ false) × FreeOf b u
    go again true h e = absurd (true_not_false (sym e))
    go again false h e = (h, again e)

-- a choice among words, taken one by one
either : {X Q : Type 0} (t : Bool) (v : X) (rest : Option X) (y : X) → cond t (Some v) rest ≡ Some y
    → (t ≡ true → Q) → (rest ≡ Some y → Q) → Q
either true v rest y e f g = f refl
either false v rest y e f g = g e

module _ (b : ℕ) (f : List ℕ) where
  -- the word w has no b
  word_free : (w : List ℕ) → free_test b w ≡ true → same_bytes f w ≡ true → FreeOf b f
  word_free w h e = rw (same_path f w e) (free_of b w h)

  lay_free : free_test b (110 ∷ 111 ∷ 110 ∷ 101 ∷ []) ≡ true
      → free_test b (111 ∷ 102 ∷ 102 ∷ 115 ∷ 105 ∷ 100 ∷ 101 ∷ []) ≡ true
      → free_test b (111 ∷ 102 ∷ 102 ∷ 97 ∷ 108 ∷ 105 ∷ 103 ∷ 110 ∷ []) ≡ true
      → free_test b (115 ∷ 105 ∷ 110 ∷ 103 ∷ 108 ∷ 101 ∷ []) ≡ true
      → free_test b (97 ∷ 108 ∷ 105 ∷ 103 ∷ 110 ∷ []) ≡ true
      → free_test b (105 ∷ 110 ∷ 100 ∷ 101 ∷ 110 ∷ 116 ∷ []) ≡ true
      → (y : Lay) → lay_of f ≡ Some y → FreeOf b f
  lay_free w₁ w₂ w₃ w₄ w₅ w₆ y e =
      either _ _ _ y e (word_free _ w₁)
      (λ e. either _ _ _ y e (word_free _ w₂)
      (λ e. either _ _ _ y e (word_free _ w₃)
      (λ e. either _ _ _ y e (word_free _ w₄)
      (λ e. either _ _ _ y e (word_free _ w₅)
      (λ e. either _ _ None y e (word_free _ w₆)
      (λ e. absurd (clash cc)))))))

pub lay_no_line : (f : List ℕ) (y : Lay) → lay_of f ≡ Some y → FreeOf 10 f
lay_no_line f = lay_free 10 f refl refl refl refl refl refl

pub lay_no_blank : (f : List ℕ) (y : Lay) → lay_of f ≡ Some y → FreeOf 32 f
lay_no_blank f = lay_free 32 f refl refl refl refl refl refl

-- 2. the five fields of a line that says a rule

-- the first of the fields, and what is said behind it
pub record First {R X : Type 0} (read : List ℕ → Option X) (fs : List (List ℕ))
    (k : X → List (List ℕ) → R) (g : R) : Type 0 where
  pub field : List ℕ
  pub rest : List (List ℕ)
  pub value : X
  pub is : fs ≡ field ∷ rest
  pub reads : read field ≡ Some value
  pub says : k value rest ≡ g

module _ {R : Type 0} (bad g : R) (not-bad : bad ≡ g → ⊥) where
  first-of : {X : Type 0} (read : List ℕ → Option X) (k : X → List (List ℕ) → R)
      (fs : List (List ℕ)) → with_field bad read fs k ≡ g → First read fs k g
  first-of read k [] e = absurd (not-bad e)
  first-of {X} read k (f ∷ fs) e = go (read f) refl e
    where
      go : (o : Option X) → read f ≡ o → on_value bad o (λ v. k v fs) ≡ g → First read (f ∷ fs) k g
      go (Some v) h e = record { field = f; rest = fs; value = v; is = refl; reads = h; says = e }
      go None h e = absurd (not-bad e)

  at_end : (fs : List (List ℕ)) (r : R) → at_end_of bad fs r ≡ g → (fs ≡ []) × (r ≡ g)
  at_end [] r e = (refl, e)
  at_end (f ∷ fs) r e = absurd (not-bad e)

-- a rule line's five fields
pub record Five (fs : List (List ℕ)) (r : Rule) : Type 0 where
  pub f₀ : List ℕ
  pub f₁ : List ℕ
  pub f₂ : List ℕ
  pub f₃ : List ℕ
  pub f₄ : List ℕ
  pub left : ℕ
  pub kind : Kind
  pub first : Option ℕ
  pub second : Option ℕ
  pub lay : Lay
  pub are : fs ≡ f₀ ∷ f₁ ∷ f₂ ∷ f₃ ∷ f₄ ∷ []
  pub left_is : numeral_of f₀ ≡ Some left
  pub kind_is : kind_of f₁ ≡ Some kind
  pub first_is : operand_of f₂ ≡ Some first
  pub second_is : operand_of f₃ ≡ Some second
  pub lay_is : lay_of f₄ ≡ Some lay
  pub rule : rule_of_of left kind first second lay ≡ Ok r

form_not_good : (r : Rule) → (Err Form) ≡ Ok r → ⊥
form_not_good r e = clash cc

chain : {fs r₀ r₁ r₂ r₃ r₄ : List (List ℕ)} {f₀ f₁ f₂ f₃ f₄ : List ℕ} → fs ≡ f₀ ∷ r₀ → r₀ ≡ f₁ ∷ r₁
    → r₁ ≡ f₂ ∷ r₂ → r₂ ≡ f₃ ∷ r₃ → r₃ ≡ f₄ ∷ r₄ → r₄ ≡ [] → fs ≡ f₀ ∷ f₁ ∷ f₂ ∷ f₃ ∷ f₄ ∷ []
chain a b c d e f = cc

pub five_of : (fs : List (List ℕ)) (r : Rule) → rule_fields fs ≡ Ok r → Five fs r
five_of fs r e =
    let n = form_not_good r in
    let a = first-of (Err Form) (Ok r) n numeral_of after_left fs e in
    let b = first-of (Err Form) (Ok r) n kind_of (after_kind a.value) a.rest a.says in
    let c = first-of (Err Form) (Ok r) n operand_of (after_first a.value b.value) b.rest
    b.says in
    let d = first-of (Err Form) (Ok r) n operand_of (after_second a.value b.value c.value)
    c.rest c.says in
    let l = first-of (Err Form) (Ok r) n lay_of (after_lay a.value b.value c.value d.value)
    d.rest d.says in
    let z = at_end (Err Form) (Ok r) n l.rest
    (rule_of_of a.value b.value c.value d.value l.value) l.says in
    record {
      f₀ = a.field;
      f₁ = b.field;
      f₂ = c.field;
      f₃ = d.field;
      f₄ = l.field;
      left = a.value;
      kind = b.value;
      first = c.value;
      second = d.value;
      lay = l.value;
      are = chain a.is b.is c.is d.is l.is z.0;
      left_is = a.reads;
      kind_is = b.reads;
      first_is = c.reads;
      second_is = d.reads;
      lay_is = l.reads;
      rule = z.1;
    }

-- 3. another lay in their place

-- y is what the line has, z what it is to have
module _ (l : ℕ) (z : Lay) (r : Rule) where
  says : (q : Rule) → ◌≡◌ {A = Result Rule RuleFault} (Ok q) (Ok r)
      → relaid q.left q.clause z ≡ relaid r.left r.clause z
  says q e = let j : q ≡ r = cc in ap (λ (x : Rule). relaid x.left x.clause z) j

  never : (Err Unfit) ≡ Ok r → ⊥
  never e = clash cc

  empty_other : (y : Lay) → plain_rule l Clause.Empty y ≡ Ok r
      → plain_rule l Clause.Empty z ≡ relaid r.left r.clause z
  empty_other Lay.None e = says _ e
  empty_other Lay.Offside e = absurd (never e)
  empty_other Lay.Offalign e = absurd (never e)
  empty_other Lay.Single e = absurd (never e)
  empty_other Lay.Align e = absurd (never e)
  empty_other Lay.Indent e = absurd (never e)

  -- the range is not reversed, so 44 does not come
  atom_other : (a b : ℕ) (y : Lay) → atom_rule l a b y ≡ Ok r
      → atom_rule l a b z ≡ relaid r.left r.clause z
  atom_other a b Lay.None e = go (leb a b) refl e
    where
      risen : (y : Lay) → leb a b ≡ true → atom_rule l a b y ≡ plain_rule l (Clause.Atom a b) y
      risen Lay.None t = rw t
      risen Lay.Offside t = refl
      risen Lay.Offalign t = refl
      risen Lay.Single t = refl
      risen Lay.Align t = refl
      risen Lay.Indent t = refl

      go : (t : Bool) → leb a b ≡ t → cond t (Ok (record { left = l; clause = Clause.Atom a b }))
          (Err Reversed) ≡ Ok r → atom_rule l a b z ≡ relaid r.left r.clause z
      go true t e = risen z t ∙ says _ e
      go false t e = absurd (clash cc)
  atom_other a b Lay.Offside e = absurd (never e)
  atom_other a b Lay.Offalign e = absurd (never e)
  atom_other a b Lay.Single e = absurd (never e)
  atom_other a b Lay.Align e = absurd (never e)
  atom_other a b Lay.Indent e = absurd (never e)

  unary_other : (a : ℕ) (y : Lay) → unary_rule l a y ≡ Ok r
      → unary_rule l a z ≡ relaid r.left r.clause z
  unary_other a Lay.None e = says _ e
  unary_other a Lay.Offside e = says _ e
  unary_other a Lay.Offalign e = says _ e
  unary_other a Lay.Single e = says _ e
  unary_other a Lay.Align e = absurd (never e)
  unary_other a Lay.Indent e = absurd (never e)

  binary_other : (a b : ℕ) (y : Lay) → binary_rule l a b y ≡ Ok r
      → binary_rule l a b z ≡ relaid r.left r.clause z
  binary_other a b Lay.None e = says _ e
  binary_other a b Lay.Offside e = absurd (never e)
  binary_other a b Lay.Offalign e = absurd (never e)
  binary_other a b Lay.Single e = absurd (never e)
  binary_other a b Lay.Align e = says _ e
  binary_other a b Lay.Indent e = says _ e

  lay_other : (k : Kind) (a b : ℕ) (y : Lay) → lay_rule l k a b y ≡ Ok r
      → lay_rule l k a b z ≡ relaid r.left r.clause z
  lay_other Kind.E a b y e = empty_other y e
  lay_other Kind.A a b y e = atom_other a b y e
  lay_other Kind.U a b y e = unary_other a y e
  lay_other Kind.B a b y e = binary_other a b y e

  -- a test that a good line passed is passed again
  passed : (t : Bool) (x x' no' : Result Rule RuleFault) → (no' ≡ Ok r → ⊥) → cond t x no' ≡ Ok r
      → (x ≡ Ok r → x' ≡ relaid r.left r.clause z)
      → cond t x' no' ≡ relaid r.left r.clause z
  passed true x x' b n e f = f e
  passed false x x' b n e f = absurd (n e)

  range_not : (Err Range) ≡ Ok r → ⊥
  range_not e = clash cc

  rule_other : (k : Kind) (a b : Option ℕ) (y : Lay) → rule_of_of l k a b y ≡ Ok r
      → rule_of_of l k a b z ≡ relaid r.left r.clause z
  rule_other k a b y e =
      passed (shape k a b) _ _ (Err Form) (form_not_good r) e
      (λ e. passed (leb l 63) _ _ (Err Range) range_not e
      (λ e. passed (leb (from_of a) 63) _ _ (Err Range) range_not e
      (λ e. passed (leb (up_to a b) 63) _ _ (Err Range) range_not e
      (lay_other k (from_of a) (up_to a b) y))))

-- what the kind and the lay say of a good line
pub laid_of : (l : ℕ) (k : Kind) (a b : Option ℕ) (y : Lay) (r : Rule)
    → rule_of_of l k a b y ≡ Ok r
    → lay_rule l k (from_of a) (up_to a b) y ≡ Ok r
laid_of l k a b y r e =
    go (shape k a b) (leb l 63) (leb (from_of a) 63) (leb (up_to a b) 63) e
  where
    go : (p q u v : Bool) → cond p (cond q
        (cond u (cond v (lay_rule l k (from_of a) (up_to a b) y) (Err Range)) (Err Range))
        (Err Range)) (Err Form) ≡ Ok r
        → lay_rule l k (from_of a) (up_to a b) y ≡ Ok r
    go true true true true e = e
    go true true true false e = absurd (range_not l y r e)
    go true true false v e = absurd (range_not l y r e)
    go true false u v e = absurd (range_not l y r e)
    go false q u v e = absurd (form_not_good r e)

-- THE LINE: with another lay it says the same rule with that lay, or 4
module _ (line lay : List ℕ) (r : Rule) (y : Lay) (good : rule_line_of line ≡ Ok r)
    (word : lay_of lay ≡ Some y) where
  five : Five (pieces 32 line) r
  five = five_of (pieces 32 line) r good

  relaid_pieces : pieces 32 (take (piece_start (pieces 32 line) 4) line ++ lay) ≡ five.f₀ ∷ five.f₁
      ∷ five.f₂ ∷ five.f₃ ∷ lay ∷ []
  relaid_pieces =
      pieces_upto 32 4 line lay (rw five.are (lit< tt))
      ∙ rw (pieces_free 32 lay (lay_no_blank lay y word), five.are) refl

  pub line_other : rule_line_of (take (piece_start (pieces 32 line) 4) line ++ lay)
      ≡ relaid r.left r.clause y
  line_other =
      ap rule_fields relaid_pieces
      ∙ rw (five.left_is, five.kind_is, five.first_is, five.second_is, word)
      (rule_other five.left y r five.kind five.first five.second five.lay
      five.rule)
