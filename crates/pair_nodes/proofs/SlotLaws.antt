-- The node at each number is that of the shape with this number.
use mathlib.Core.Path.{◌≡◌, refl, sym, ap, ◌∙◌, subst}
use mathlib.Core.List.{List}
use Rattle.std.specs.Prelude.{Option, Some, None}
use Prim.Native.Nat.{ℕ, zero, suc, ◌+◌, ◌*◌, ◌/◌, ◌%◌, ◌≤◌, ◌<◌}
use native.Mathlib.Omega.{arith}
use native.Mathlib.Decide.{ℕ_discrete}
use lib.ListN.{length, get_or}
use Rattle.pair_steps.proofs.ShapeNumbers.{shape_one, shape_low}
use Rattle.sets.specs.Sets.{In}
use Rattle.sets.proofs.Sets.{in_dec}
use Rattle.grammar.specs.declared.UnaryMark.{UnaryMark}
use Rattle.grammar.specs.declared.BinaryMark.{BinaryMark}
use Rattle.grammar.specs.declared.Rule.{Rule}
use Rattle.grammar.specs.declared.Clause.{Clause}
use Rattle.grammar.specs.declared.Grammar.{Grammar}
use Rattle.grammar.specs.Content.{rules_of, SmallClause, Formed}
use Rattle.grammar.specs.Trees.{Rules}
use Rattle.grammar.proofs.ByKind.{get_elem?_lt}
use Rattle.acyclic.proofs.Growth.{small_at}
use Rattle.pairs.specs.Survey.{Inherits}
use Rattle.pairs.specs.Strength.{rank}
use Rattle.pairs.specs.Shapes.{Form, tip, one, two, Shape, all, first, second, rule_of_shape}
use Rattle.pairs.specs.Shapes.{RuleAt}
use Rattle.pairs.specs.Shapes.{HasForm, tips, units, twos, firsts, seconds, Head}
use Rattle.survey.specs.declared.Levels.{Levels}
use Rattle.survey.specs.Closing.{LevelsOf}
use Rattle.survey.proofs.Weakest.{level_weakest, level_nothing, unrank, unrank_rank}
use Rattle.heads.specs.declared.Kind.{Kind}
use Rattle.heads.specs.declared.Looks.{Looks}
use Rattle.heads.specs.declared.Shaped.{Shaped}
use Rattle.heads.specs.Forms.{kind_numbered, shape_by, form_of, SaysForm, MarkOf, LooksLike}
use Rattle.heads.specs.Forms.{ShapedAs}
use Rattle.firsts.specs.Rows.{ByNonterminal}
use Rattle.pair_steps.specs.Nodes.{level_of, NodeOf, Weakest, shape_number}
use Rattle.pair_nodes.specs.Slots.{node_at, Present, NodesOf}
use Rattle.pair_nodes.specs.Putting.{KeptTo, SmallIfAny, Shows, SlotBy, Slotted}
use Rattle.pair_nodes.specs.Putting.{SlotIs, SlotPut, SlotsTo, Cleared, HasWeakest}

-- 1. shapes by number

pub number_rule : (s : Shape) → rule_of_shape s < 128 → shape_number s % 128 ≡ rule_of_shape s
number_rule (all p) h = omega arith
number_rule (first p) h = omega arith
number_rule (second p) h = omega arith

rule_of_kind : (k : Kind) (p : ℕ) → rule_of_shape (shape_by k p) ≡ p
rule_of_kind Kind.All p = refl
rule_of_kind Kind.First p = refl
rule_of_kind Kind.Second p = refl

number_of_kind : (k p : ℕ) → k < 3 → shape_number (shape_by (kind_numbered k) p) ≡ 128 * k + p
number_of_kind zero p h = omega arith
number_of_kind (suc zero) p h = omega arith
number_of_kind (suc (suc zero)) p h = omega arith
number_of_kind (suc (suc (suc k))) p h = absurd (omega arith)

-- 2. one form under the weakest mark

mark_one : (l m : UnaryMark) → rank l ≤ rank m → rank m ≤ rank l → l ≡ m
mark_one l m h k =
    let e : rank l ≡ rank m = omega arith in sym (unrank_rank l) ∙ (ap unrank e ∙ unrank_rank m)

module _ (g : Rules) where
  -- the rule at a place is one
  record OneRule (A B : ℕ) (c d : Clause) : Type 0 where
    left : A ≡ B
    clause : c ≡ d

  rule_one : (p : ℕ) {A B : ℕ} {c d : Clause} → RuleAt g p A c → RuleAt g p B d → OneRule A B c d
  rule_one p {A} {B} {c} {d} r q =
      let e : ◌≡◌ {A = Rule} (record { left = A; clause = c })
      (record { left = B; clause = d }) = cc in
      record { left = ap (λ (x : Rule). x.left) e; clause = ap (λ (x : Rule). x.clause) e }

  abbrev LeastOf : ℕ → Form → Type 0
  LeastOf A f = (k : UnaryMark) → Inherits g A k → rank (level_of f) ≤ rank k

  marks_one : {A B : ℕ} {l m : UnaryMark} → A ≡ B → Inherits g A l → Inherits g B m
      → ((k : UnaryMark) → Inherits g A k → rank l ≤ rank k)
      → ((k : UnaryMark) → Inherits g B k → rank m ≤ rank k) → l ≡ m
  marks_one {A} {B} {l} {m} e i j u v =
      mark_one l m (u m (subst (λ (z : ℕ). Inherits g z m) (sym e) j))
      (v l (subst (λ (z : ℕ). Inherits g z l) e i))

  form_one : {A B : ℕ} {s : Shape} {f h : Form} → HasForm g A s f → HasForm g B s h → LeastOf A f
      → LeastOf B h → (A ≡ B) × (f ≡ h)
  form_one (tips {p = p} {a = a} {b = b} i r) (tips {a = a'} {b = b'} j q) u v =
      let o = rule_one p r q in
      let e : Clause.Atom a b ≡ Clause.Atom a' b' = o.clause in
      (o.left, cc)
  form_one (tips {p = p} {a = a} {b = b} i r) (units {C = C} {m = m} j q _) u v =
      let e : Clause.Atom a b ≡ Clause.Unary C m = (rule_one p r q).clause in
      let z : ◌≡◌ {A = ℕ} 0 1 = cc in absurd (omega arith)
  form_one (tips {p = p} {a = a} {b = b} i r) (twos {C = C} {D = D} {m = m} j q _ _) u v =
      let e : Clause.Atom a b ≡ Clause.Binary C D m = (rule_one p r q).clause in
      let z : ◌≡◌ {A = ℕ} 0 1 = cc in absurd (omega arith)
  form_one (units {p = p} {C = C} {m = m} i r _) (tips {a = a} {b = b} j q) u v =
      let e : Clause.Unary C m ≡ Clause.Atom a b = (rule_one p r q).clause in
      let z : ◌≡◌ {A = ℕ} 0 1 = cc in absurd (omega arith)
  form_one (units {p = p} {C = C} {l = l} {m = m} i r _)
      (units {C = C'} {l = l'} {m = m'} j q _) u v =
      let o = rule_one p r q in
      let e : Clause.Unary C m ≡ Clause.Unary C' m' = o.clause in
      let k : l ≡ l' = marks_one o.left i j u v in
      (o.left, cc)
  form_one (units {p = p} {C = C} {m = m} i r _) (twos {C = C'} {D = D} {m = m'} j q _ _) u v =
      let e : Clause.Unary C m ≡ Clause.Binary C' D m' = (rule_one p r q).clause in
      let z : ◌≡◌ {A = ℕ} 0 1 = cc in absurd (omega arith)
  form_one (twos {p = p} {C = C} {D = D} {m = m} i r _ _) (tips {a = a} {b = b} j q) u v =
      let e : Clause.Binary C D m ≡ Clause.Atom a b = (rule_one p r q).clause in
      let z : ◌≡◌ {A = ℕ} 0 1 = cc in absurd (omega arith)
  form_one (twos {p = p} {C = C} {D = D} {m = m} i r _ _) (units {C = C'} {m = m'} j q _) u v =
      let e : Clause.Binary C D m ≡ Clause.Unary C' m' = (rule_one p r q).clause in
      let z : ◌≡◌ {A = ℕ} 0 1 = cc in absurd (omega arith)
  form_one (twos {p = p} {C = C} {D = D} {l = l} {m = m} i r _ _)
      (twos {C = C'} {D = D'} {l = l'} {m = m'} j q _ _) u v =
      let o = rule_one p r q in
      let e : Clause.Binary C D m ≡ Clause.Binary C' D' m' = o.clause in
      let k : l ≡ l' = marks_one o.left i j u v in
      (o.left, cc)
  form_one (firsts {p = p} {C = C} {D = D} {l = l} {m = m} i r _ _)
      (firsts {C = C'} {D = D'} {l = l'} {m = m'} j q _ _) u v =
      let o = rule_one p r q in
      let e : Clause.Binary C D m ≡ Clause.Binary C' D' m' = o.clause in
      let k : l ≡ l' = marks_one o.left i j u v in
      (o.left, cc)
  form_one (seconds {p = p} {C = C} {D = D} {l = l} {m = m} i r _ _)
      (seconds {C = C'} {D = D'} {l = l'} {m = m'} j q _ _) u v =
      let o = rule_one p r q in
      let e : Clause.Binary C D m ≡ Clause.Binary C' D' m' = o.clause in
      let k : l ≡ l' = marks_one o.left i j u v in
      (o.left, cc)

  pub head_one : (x y : Head) → HasForm g x.sort x.shape x.form
      → HasForm g y.sort y.shape y.form → Weakest g x → Weakest g y → x.shape ≡ y.shape
      → x ≡ y
  head_one x y h k u v e =
      let o =
      form_one h (subst (λ (s : Shape). HasForm g y.sort s y.form) (sym e) k) u.least
      v.least in
      λ z. record { sort = o.0 z; shape = e z; form = o.1 z }

-- 3. the slots of a sheet

module _ {g : Grammar} (fo : Formed g) where
  rule_low : (p : ℕ) {A : ℕ} {c : Clause} → RuleAt (rules_of g) p A c → p < g.count
  rule_low p r = omega (arith, get_elem?_lt (rules_of g) p r, fo.whole)

  place_low : {A : ℕ} {s : Shape} {f : Form} → HasForm (rules_of g) A s f
      → rule_of_shape s < g.count
  place_low (tips {p = n} i r) = rule_low n r
  place_low (units {p = n} i r p) = rule_low n r
  place_low (twos {p = n} i r p q) = rule_low n r
  place_low (firsts {p = n} i r p q) = rule_low n r
  place_low (seconds {p = n} i r p q) = rule_low n r

  pub place : {A : ℕ} {s : Shape} {f : Form} → HasForm (rules_of g) A s f → rule_of_shape s < 128
  place h = omega (arith, place_low h, fo.few)

  small_clause : (p : ℕ) {A : ℕ} {c : Clause} → RuleAt (rules_of g) p A c → SmallClause c
  small_clause p r = (small_at fo p r).clause

  small_tip : {A a b : ℕ} {s : Shape} → HasForm (rules_of g) A s (tip a b) → b < 64
  small_tip (tips {p = n} i r) = (small_clause n r).1

  small_one : {A C : ℕ} {l k : UnaryMark} {s : Shape} → HasForm (rules_of g) A s (one C l k)
      → C < 64
  small_one (units {p = n} i r p) = small_clause n r
  small_one (firsts {p = n} i r p q) = (small_clause n r).0
  small_one (seconds {p = n} i r p q) = (small_clause n r).1

  small_two : {A C D : ℕ} {m : BinaryMark} {l : UnaryMark} {s : Shape} → HasForm (rules_of g) A s
      (two C D m l)
      → (C < 64) × (D < 64)
  small_two (twos {p = n} i r p q) = small_clause n r

  looks_small : (A : ℕ) (s : Shape) (z : Option Looks) → SaysForm z (LooksLike (rules_of g) A s)
      → SmallIfAny z
  looks_small A s None x = tt
  looks_small A s (Some (Looks.Tip a b)) x = small_tip x.form
  looks_small A s (Some (Looks.One C l k)) x = small_one x.form
  looks_small A s (Some (Looks.Two C D m l)) x = small_two x.form

  weakest_by : (f : Form) (m k : UnaryMark) → MarkOf f m → rank m ≤ rank k → rank
      (level_of f) ≤ rank k
  weakest_by (tip a b) m k e h = omega arith
  weakest_by (one C l o) m k e h = rw e h
  weakest_by (two C D o l) m k e h = rw e h

  module _ {ts ns : List ℕ} (bt : ByNonterminal (rules_of g) 64 ts) (A : ℕ) (s : Shape)
      (low : rule_of_shape s < 128) where
    shown : (f : Form) → LooksLike (rules_of g) A s f → Shows ts A f ns (shape_number s)
        → SlotIs (rules_of g) ns (shape_number s)
    shown f x w =
        let d = w.describes in
        record {
          only = λ p.
              record {
                head = record { sort = A; shape = s; form = f };
                number = refl;
                node =
                    record {
                      looks = x.form;
                      place = low;
                      kids = d.kids;
                      sort = d.sort;
                      first = d.first;
                      second = d.second;
                      keep = d.keep;
                      join = d.join;
                      apart = d.apart;
                      begin = d.begin (rules_of g) bt;
                      next = d.next (rules_of g) bt;
                      small = (d.fits.sort, d.fits.first, d.fits.second);
                      low = d.low;
                    };
                weakest = record {
                  least = λ k i. weakest_by f x.mark k x.under
                      (x.weakest.least k i);
                };
              };
          all = λ B r h k e. w.there;
        }

    slot_by : (z : Option Looks) → SaysForm z (LooksLike (rules_of g) A s)
        → (z ≡ None → (B : ℕ) (f : Form) → HasForm (rules_of g) B s f → ⊥)
        → SlotBy ts A z ns (shape_number s) → SlotIs (rules_of g) ns (shape_number s)
    slot_by None x none gone =
        record {
          only = λ p. absurd (gone p);
          all = λ B r f h e.
              absurd
              (none refl B f
              (subst (λ (t : Shape). HasForm (rules_of g) B t f) (shape_one r s (place h) low e)
              h));
        }
    slot_by (Some z) x none w = shown (form_of z) x w

  -- what `head_of` says of a number was put there
  pub slot_put : {ts old new : List ℕ} {i : ℕ} (z : Shaped) → i < 384 → i % 128 < g.count
      → ByNonterminal (rules_of g) 64 ts
      → ShapedAs (rules_of g) (shape_by (kind_numbered (i / 128)) (i % 128)) z
      → Slotted ts z.sort z.looks old new i → SlotPut (rules_of g) old new i
  slot_put {ts} {old} {new} {i} z l c bt x w =
      let s = shape_by (kind_numbered (i / 128)) (i % 128) in
      let n : shape_number (shape_by (kind_numbered (i / 128)) (i % 128)) ≡ i =
      number_of_kind (i / 128) (i % 128) (omega arith) ∙ omega arith in
      let low : rule_of_shape (shape_by (kind_numbered (i / 128)) (i % 128)) < 128 =
      rw (rule_of_kind (kind_numbered (i / 128)) (i % 128)) (omega arith) in
      record {
        before = w.before;
        slot =
            subst (SlotIs (rules_of g) new) n
            (slot_by bt z.sort s low z.looks x.says x.absent
            (subst (SlotBy ts z.sort z.looks new) (sym n) w.by));
      }

  pub looks_fit : {s : Shape} {z : Shaped} → ShapedAs (rules_of g) s z → SmallIfAny z.looks
  looks_fit {s} {z} x = looks_small z.sort s z.looks x.says

  -- there is no rule
  pub slot_none : {old new : List ℕ} {i : ℕ} → g.count ≤ i % 128 → Cleared old new i → SlotPut
      (rules_of g) old new i
  slot_none {old} {new} {i} l w =
      record {
        before = w.before;
        slot =
            record {
              only = λ p. absurd (w.gone p);
              all = λ A s f h e.
                  absurd (omega (
                    arith,
                    place_low h,
                    number_rule s (place h),
                    ap
                        (λ (n : ℕ). n % 128) e,
                  ));
            };
      }

  -- all slots
  pub nodes_of : {ns : List ℕ} → 1536 ≤ length ns → SlotsTo (rules_of g) ns 384
      → NodesOf (rules_of g) ns
  nodes_of {ns} l x =
      record { long = l; only = λ i h. (x.each i h).only; all = each }
    where
      each : (y : Head) → HasForm (rules_of g) y.sort y.shape y.form → Weakest (rules_of g) y
          → Present ns (shape_number y.shape) × NodeOf (rules_of g) y
          (node_at ns (shape_number y.shape))
      each y h w =
          let t = x.each (shape_number y.shape) (shape_low y.shape (place h)) in
          let p = t.all y.sort y.shape y.form h refl in
          let o = t.only p in
          let q = o.node.looks in
          let d = shape_one o.head.shape y.shape (place q) (place h) o.number in
          let e = head_one (rules_of g) o.head y q h o.weakest w d in (
            p,
            subst (λ (z : Head). NodeOf (rules_of g) z (node_at ns (shape_number y.shape))) e
                o.node,
          )

-- one slot more
same_slot : {g : Rules} {old new : List ℕ} {i : ℕ} → KeptTo old new i → (j : ℕ) → j < i
    → SlotIs g old j
    → SlotIs g new j
same_slot {g} {old} {new} {i} k j l x =
    record {
      only = λ p.
          let o = x.only (record { there = rw (← e₀) p.there }) in
          record {
            head = o.head;
            number = o.number;
            node = subst (NodeOf g o.head) (sym same) o.node;
            weakest = o.weakest;
          };
      all = λ A s f h e. record { there = rw e₀ (x.all A s f h e).there };
    }
  where
    e₀ : get_or new (4 * j) 0 ≡ get_or old (4 * j) 0
    e₀ = k.kept (4 * j) (omega arith)

    e₁ : get_or new (4 * j + 1) 0 ≡ get_or old (4 * j + 1) 0
    e₁ = k.kept (4 * j + 1) (omega arith)

    e₂ : get_or new (4 * j + 2) 0 ≡ get_or old (4 * j + 2) 0
    e₂ = k.kept (4 * j + 2) (omega arith)

    e₃ : get_or new (4 * j + 3) 0 ≡ get_or old (4 * j + 3) 0
    e₃ = k.kept (4 * j + 3) (omega arith)

    same : node_at new j ≡ node_at old j
    same = λ z.
        record {
          kids = e₀ z % 4;
          sort = e₀ z / 4 % 64;
          first = e₀ z / 256 % 64;
          second = e₀ z / 16384 % 64;
          keep = e₁ z % 16;
          join = e₁ z / 16 % 16;
          apart = e₁ z / 256 % 16;
          begin = e₂ z;
          next = e₃ z;
        }

pub slots_none : {g : Rules} {ns : List ℕ} → SlotsTo g ns 0
slots_none = record { each = λ i l. absurd (omega arith) }

pub slots_more : {g : Rules} {old new : List ℕ} {i : ℕ} → SlotsTo g old i → SlotPut g old new i
    → SlotsTo g new (i + 1)
slots_more {g} {old} {new} {i} x w = record { each = each }
  where
    each : (j : ℕ) → j < i + 1 → SlotIs g new j
    each j l = by (ℕ_discrete j i)
      where
        by : Dec (j ≡ i) → SlotIs g new j
        by (yes e) = subst (SlotIs g new) (sym e) w.slot
        by (no n) = same_slot w.before j (omega (arith, n)) (x.each j (omega (arith, n)))

-- 4. what inherits a mark inherits a weakest one

pub has_weakest : {g : Rules} {l : Levels} → LevelsOf g l → (A : ℕ) (m : UnaryMark) → Inherits g A m
    → HasWeakest g A
has_weakest {g} {l} x A m i =
    by (in_dec l.unmarked A) (in_dec l.offalign A) (in_dec l.offside A)
    (in_dec l.single A)
  where
    by : Dec (In l.unmarked A) → Dec (In l.offalign A) → Dec (In l.offside A) → Dec
        (In l.single A)
        → HasWeakest g A
    by (yes h) b c d = record
        { mark = UnaryMark.None; weakest = level_weakest x A UnaryMark.None h }
    by (no a) (yes h) c d =
        record { mark = UnaryMark.Offalign; weakest = level_weakest x A UnaryMark.Offalign (a, h) }
    by (no a) (no b) (yes h) d =
        record { mark = UnaryMark.Offside; weakest = level_weakest x A UnaryMark.Offside (b, h) }
    by (no a) (no b) (no c) (yes h) =
        record { mark = UnaryMark.Single; weakest = level_weakest x A UnaryMark.Single (c, h) }
    by (no a) (no b) (no c) (no d) = absurd (level_nothing x A d m i)
