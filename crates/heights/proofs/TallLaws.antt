-- A table of heights that meets three things holds the least heights. No induction on lengths and
-- no word on cycles: one induction on the tree.
use mathlib.Core.Path.{◌≡◌, refl, sym, ap, ap₂, ◌∙◌, subst, subst₂}
use mathlib.Core.Logic.{◌⊎◌, inl, inr}
use mathlib.Core.Option.{some}
use Prim.Native.Nat.{ℕ, suc, ◌+◌, ◌-◌, ◌≤◌, ◌<◌, max}
use native.Mathlib.Omega.{arith}
use native.Mathlib.Decide.{dec_lt}
use lib.ListN.{length, get_elem?}
use Rattle.grammar.specs.declared.Rule.{Rule}
use Rattle.grammar.specs.declared.Clause.{Clause}
use Rattle.grammar.specs.Layout.{Word}
use Rattle.grammar.specs.Layout as Mark
use Rattle.grammar.specs.Trees.{Rules, Tree, empty, leaf, unary, binary, root, word, Valid}
use Rattle.grammar.specs.Trees.{valid_empty, valid_leaf, valid_unary, valid_binary, Witness}
use Rattle.grammar.specs.Trees.{Derives}
use Rattle.grammar.specs.Choices.{Top, Takes, height}
use Rattle.grammar.specs.SpanSheet.{part}
use Rattle.grammar.proofs.ChoiceLaws.{member_at, takes_of}
use Rattle.grammar.proofs.ByKind.{top_left, get_elem?_lt}
use Rattle.marks.proofs.Words.{part_cut, part_length, cut}
use Rattle.tables.proofs.Places.{there}
use Rattle.tables.specs.Tables.{Leave, rule}
use Rattle.tables.proofs.Views.{Yields}
use Rattle.heights.specs.Least.{LeastHeight}
use Rattle.heights.specs.Tall.{Heights, Tall, by_word}

-- what one view leaves to a clause, another does
pub tall_view : (hs : Heights) (v v' : Leave) (s len : ℕ) (c : Clause) (l h : ℕ) → Yields v v' len
    → Tall hs v s len c l h → Tall hs v' s len c l h
tall_view hs v v' s len Clause.Empty l h f q = q
tall_view hs v v' s len (Clause.Atom a b) l h f q = (q.0, q.1, f.atom q.0 a b q.2, q.3)
tall_view hs v v' s len (Clause.Unary B m) l h f q = (f.unary m q.0, q.1, q.2)
tall_view hs v v' s len (Clause.Binary B C m) l h f q = (q.0, f.binary m l q.0 q.1, q.2)

-- by a lower table a clause stands no higher
pub tall_down : (hs hs' : Heights) (v : Leave) (s len : ℕ) → ((a b B : ℕ) → hs' a b B ≤ hs a b B)
    → (c : Clause) (l h : ℕ) → Tall hs v s len c l h → (h' : ℕ) × Tall hs' v s len c l h' × (h' ≤ h)
tall_down hs hs' v s len d Clause.Empty l h q = (h, q, omega arith)
tall_down hs hs' v s len d (Clause.Atom a b) l h q = (h, q, omega arith)
tall_down hs hs' v s len d (Clause.Unary B m) l h q =
    (suc (hs' s len B), (q.0, q.1, refl), omega (arith, q.2, d s len B))
tall_down hs hs' v s len d (Clause.Binary B C m) l h q =
    let x = d s l B in
    let y = d (s + l) (len - l) C in
    (suc (max (hs' s l B) (hs' (s + l) (len - l) C)), (q.0, q.1, refl), omega (arith, q.2))

pub tall_le : (hs : Heights) (v : Leave) (s len : ℕ) (c : Clause) (l h : ℕ) → Tall hs v s len c l h
    → l ≤ len
tall_le hs v s len Clause.Empty l h t = omega (arith, t.1)
tall_le hs v s len (Clause.Atom a b) l h t = omega (arith, t.1)
tall_le hs v s len (Clause.Unary B m) l h t = omega (arith, t.1)
tall_le hs v s len (Clause.Binary B C m) l h t = t.0

-- what stands over a span goes by the numbers of its parts alone
pub tall_by : (hs hs' : Heights) (v : Leave) (s len : ℕ) (c : Clause) (k h : ℕ)
    → ((s' len' B : ℕ) → s ≤ s' → s' + len' ≤ s + len → hs' s' len' B ≡ hs s' len' B)
    → Tall hs v s len c k h → Tall hs' v s len c k h
tall_by hs hs' v s len Clause.Empty k h e t = t
tall_by hs hs' v s len (Clause.Atom a b) k h e t = t
tall_by hs hs' v s len (Clause.Unary B m) k h e t =
    (t.0, t.1, t.2 ∙ ap suc (sym (e s len B (omega arith) (omega arith))))
tall_by hs hs' v s len (Clause.Binary B C m) k h e t =
    let f : k ≤ len = t.0 in (
      f,
      t.1,
      t.2 ∙ ap₂ (λ (x y : ℕ). suc (max x y)) (sym (e s k B (omega arith) (omega arith)))
          (sym (e (s + k) (len - k) C (omega arith) (omega arith))),
    )

-- with a token or more on either side, by those of shorter parts
pub tall_inner : (hs hs' : Heights) (v : Leave) (s len : ℕ) (c : Clause) (k h : ℕ) → 0 < k → k < len
    → ((s' len' B : ℕ) → s' + len' ≤ s + len → len' < len → hs' s' len' B ≡ hs s' len' B)
    → Tall hs v s len c k h → Tall hs' v s len c k h
tall_inner hs hs' v s len Clause.Empty k h a b e t = absurd (omega (arith, t.1))
tall_inner hs hs' v s len (Clause.Atom x y) k h a b e t = absurd (omega (arith, t.1))
tall_inner hs hs' v s len (Clause.Unary B m) k h a b e t = absurd (omega (arith, t.1))
tall_inner hs hs' v s len (Clause.Binary B C m) k h a b e t = (
  t.0,
  t.1,
  t.2 ∙ ap₂ (λ (x y : ℕ). suc (max x y)) (sym (e s k B (omega arith) (omega arith)))
      (sym (e (s + k) (len - k) C (omega arith) (omega arith))),
)

-- what the table has to meet; the numbers from `most` + 2 on say that there is no tree, and there
-- is a gap before them
pub record RightHeights (hs : Heights) (g : Rules) (w : Word) (most : ℕ) : Type 0 where
  pub sound : (s len A : ℕ) → s + len ≤ length w → hs s len A ≤ most
      → (t : Tree) × Witness g A (part w s len) t × (height t ≤ hs s len A)
  pub closed : (s len i l h : ℕ) → s + len ≤ length w → i < length g
      → Tall hs (by_word w s len) s len (rule g i).clause l h → hs s len (rule g i).left ≤ h
  pub gap : (s len A : ℕ) → s + len ≤ length w → hs s len A ≤ suc most → hs s len A ≤ most

module _ (hs : Heights) (g : Rules) (w : Word) where
  abbrev Lower : Tree → Type 0
  Lower t = (s len : ℕ) → s + len ≤ length w → word t ≡ part w s len → hs s len (root t) ≤ height t

  abbrev LowerKids : Tree → Type 0
  LowerKids (empty A) = Unit {0}
  LowerKids (leaf A t) = Unit {0}
  LowerKids (unary A t) = Lower t
  LowerKids (binary A u v) = Lower u × Lower v

  -- the rule at the top of t stands in the table, no higher than t
  tall_of : (t : Tree) → LowerKids t → (s len : ℕ) → s + len ≤ length w → word t ≡ part w s len
      → (r : Rule) (k : ℕ) → Top r k t
      → (h : ℕ) × Tall hs (by_word w s len) s len r.clause k h × (h ≤ height t)
  tall_of (empty A) i s len b e r k x =
      let z : len ≡ 0 = sym (part_length w s len b) ∙ ap length (sym e) in
      rw x.0 (1, (z, x.1, refl), omega arith)
  tall_of (leaf A t) i s len b e r k x =
      let z : len ≡ 1 = sym (part_length w s len b) ∙ ap length (sym e) in
      rw x.2 (1, (z, x.4, (t, sym e, x.3), refl), omega arith)
  tall_of (unary A t) i s len b e r k x =
      rw x.1 (suc (hs s len (root t)), (rw e at x.3, x.2, refl), omega (arith, i s len b e))
  tall_of (binary A u v) i s len b e r k x =
      let z = cut w (word u) (word v) s len b e in
      let f : k ≤ len = omega (arith, z.fits, x.2) in
      let eu : word u ≡ part w s k = rw x.2 z.front in
      let ev : word v ≡ part w (s + k) (len - k) = rw x.2 z.rest in
      let iu = i.0 s k (omega arith) eu in
      let iv = i.1 (s + k) (len - k) (omega arith) ev in
      let top : suc (max (hs s k (root u)) (hs (s + k) (len - k) (root v)))
      ≤ suc (max (height u) (height v)) = omega arith in
      rw x.1 (
        suc (max (hs s k (root u)) (hs (s + k) (len - k) (root v))),
        (f, subst₂ (Mark.Binary x.0) eu ev x.3, refl),
        top,
      )

  rule_there : (p : ℕ) {r : Rule} → get_elem? g p ≡ some r → (p < length g) × (rule g p ≡ r)
  rule_there p {r} e = let h = get_elem?_lt g p e in let z = there g p h in (h, cc)

  pub tall_at : (t : Tree) → LowerKids t → (s len : ℕ) → s + len ≤ length w → word t ≡ part w s len
      → (p k : ℕ) → Takes g t p k
      → (p < length g) × ((rule g p).left ≡ root t)
      × ((h : ℕ) × Tall hs (by_word w s len) s len (rule g p).clause k h × (h ≤ height t))
  tall_at t i s len b e p k x =
      let z = rule_there p x.stands in
      let y = tall_of t i s len b e x.rule k x.top in
      (z.0, ap (λ (r : Rule). r.left) z.1 ∙ top_left t x.rule k x.top, rw z.1 y)

  module _ (closed : (s len i l h : ℕ) → s + len ≤ length w → i < length g
      → Tall hs (by_word w s len) s len (rule g i).clause l h → hs s len (rule g i).left ≤ h) where
    low_by : (t : Tree) → Valid g t → LowerKids t → Lower t
    low_by t v i s len b e =
        let x = takes_of v in
        let y = tall_at t i s len b e x.0 x.1 x.2 in
        let c = closed s len x.0 x.1 y.2.0 b y.0 y.2.1 in
        subst (λ (A : ℕ). hs s len A ≤ height t) y.1 (omega (arith, y.2.2))

    -- the table is no higher than any tree
    pub low_of : (t : Tree) → Valid g t → Lower t
    low_of (empty A) v = low_by (empty A) v tt
    low_of (leaf A t) v = low_by (leaf A t) v tt
    low_of (unary A t) (valid_unary m q y v) = low_by (unary A t) (valid_unary m q y v) (low_of t v)
    low_of (binary A u o) (valid_binary m q y a c) =
        low_by (binary A u o) (valid_binary m q y a c) (low_of u a, low_of o c)

    pub kids_low : (t : Tree) → Valid g t → LowerKids t
    kids_low (empty A) v = tt
    kids_low (leaf A t) v = tt
    kids_low (unary A t) (valid_unary m q y v) = low_of t v
    kids_low (binary A u o) (valid_binary m q y a c) = (low_of u a, low_of o c)

-- a clause that stands low enough has a tree that is no higher
module _ (hs : Heights) (g : Rules) (w : Word) (most : ℕ)
    (sound : (s len A : ℕ) → s + len ≤ length w → hs s len A ≤ most
    → (t : Tree) × Witness g A (part w s len) t × (height t ≤ hs s len A)) where
  grow : (s len A p l h : ℕ) (c : Clause) → s + len ≤ length w
      → get_elem? g p ≡ some (record { left = A; clause = c })
      → Tall hs (by_word w s len) s len c l h
      → h ≤ suc most → (t : Tree) × Witness g A (part w s len) t × (height t ≤ h)
  grow s len A p l h Clause.Empty b st q n = (
    empty A,
    record {
      rooted = refl;
      spelled = ap (part w s) (sym q.0);
      valid = valid_empty
          (member_at g p st);
    },
    omega (arith, q.2),
  )
  grow s len A p l h (Clause.Atom a a') b st q n =
      let x = q.2 in (
        leaf A x.0,
        record {
          rooted = refl;
          spelled = sym x.1;
          valid = valid_leaf
              (record { low = a; high = a'; rule = member_at g p st; covers = x.2 });
        },
        omega
            (arith, q.3),
      )
  grow s len A p l h (Clause.Unary B m) b st q n =
      let d = sound s len B b (omega (arith, q.2)) in
      let y = d.1 in (
        unary A d.0,
        record {
          rooted = refl;
          spelled = y.spelled;
          valid = valid_unary {A = A} {t = d.0} m (rw y.rooted (member_at g p st))
              (rw y.spelled q.0) y.valid;
        },
        omega (arith, d.2, q.2),
      )
  grow s len A p l h (Clause.Binary B C m) b st q n =
      let fit : l ≤ len = q.0 in
      let two : (hs s l B ≤ most) × (hs (s + l) (len - l) C ≤ most) = omega (arith, q.2) in
      let d = sound s l B (omega arith) two.0 in
      let e = sound (s + l) (len - l) C (omega arith) two.1 in
      let y = d.1 in
      let z = e.1 in (
        binary A d.0 e.0,
        record {
          rooted = refl;
          spelled = rw (y.spelled, z.spelled) (sym (part_cut w s len l fit));
          valid = valid_binary {A = A} {s = d.0} {t = e.0} m
              (rw (y.rooted, z.rooted) (member_at g p st)) (rw (y.spelled, z.spelled) q.1)
              y.valid z.valid;
        },
        omega (arith, d.2, e.2, q.2),
      )

  -- the step of the code: what is put into the table has a tree
  pub grown : (s len i l h : ℕ) → s + len ≤ length w → i < length g
      → Tall hs (by_word w s len) s len (rule g i).clause l h → h ≤ suc most
      → (t : Tree) × Witness g (rule g i).left (part w s len) t × (height t ≤ h)
  grown s len i l h b y q n =
      grow s len (rule g i).left i l h (rule g i).clause b (there g i y) q n

module _ {hs : Heights} {g : Rules} {w : Word} {most : ℕ} (r : RightHeights hs g w most) where
  -- what is derived is low
  settled : (t : Tree) → Valid g t → (s len : ℕ) → s + len ≤ length w → word t ≡ part w s len
      → hs s len (root t) ≤ most
  settled t v s len b e = go t v s len b e
    where
      step : (t : Tree) → Valid g t → (s len : ℕ) → s + len ≤ length w → word t ≡ part w s len
          → ((x : Rule) (k h : ℕ) → Top x k t → Tall hs (by_word w s len) s len x.clause k h
          → h ≤ suc most) → hs s len (root t) ≤ most
      step t v s len b e f =
          let x = takes_of v in
          let y = tall_at hs g w t (kids_low hs g w r.closed t v) s len b e x.0 x.1
          x.2 in
          let z = rule_there hs g w x.0 x.2.stands in
          let c = r.closed s len x.0 x.1 y.2.0 b y.0 y.2.1 in
          let n = f x.2.rule x.1 y.2.0 x.2.top
          (subst (λ (q : Rule). Tall hs (by_word w s len) s len q.clause x.1 y.2.0)
          z.1 y.2.1) in
          r.gap s len (root t) b (subst (λ (A : ℕ). hs s len A ≤ suc most) y.1 (omega arith))

      go : (t : Tree) → Valid g t → (s len : ℕ) → s + len ≤ length w → word t ≡ part w s len
          → hs s len (root t) ≤ most
      go (empty A) v s len b e = step (empty A) v s len b e
          (λ x k h y q. let q' : Tall hs (by_word w s len) s len Clause.Empty k h = rw y.0 at q in
          omega (arith, q'.2))
      go (leaf A t) v s len b e = step (leaf A t) v s len b e
          (λ x k h y q. let q' : Tall hs (by_word w s len) s len (Clause.Atom y.0 y.1) k h =
          rw y.2 at q in omega (arith, q'.3))
      go (unary A t) (valid_unary m q y v) s len b e =
          step (unary A t) (valid_unary m q y v) s len b e (λ x k h y q.
          let q' : Tall hs (by_word w s len) s len (Clause.Unary (root t) y.0) k h =
          rw y.1 at q in
          omega (arith, q'.2, go t v s len b e))
      go (binary A u o) (valid_binary m q y a c) s len b e =
          step (binary A u o) (valid_binary m q y a c) s len b e (λ x k h y q.
          let q' : Tall hs (by_word w s len) s len (Clause.Binary (root u) (root o) y.0) k h =
          rw y.1 at q in
          let d = cut w (word u) (word o) s len b e in
          let f : k ≤ len = q'.0 in
          let iu = go u a s k (omega arith) (rw y.2 d.front) in
          let io = go o c (s + k) (len - k) (omega arith) (rw y.2 d.rest) in
          let two = q'.2 in omega arith)

  -- THE THEOREM: the table's number is the least height wherever there is a tree
  pub least_height : (s len A : ℕ) → s + len ≤ length w → Derives g A (part w s len)
      → LeastHeight g A (part w s len) (hs s len A)
  least_height s len A b d =
      let low : (u : Tree) → Witness g A (part w s len) u
      → hs s len A ≤ height u = λ u x. subst (λ (B : ℕ). hs s len B ≤ height u) x.rooted
      (low_of hs g w r.closed u x.valid s len b x.spelled) in
      let n : hs s len A ≤ most = subst (λ (B : ℕ). hs s len B ≤ most) d.witness.rooted
      (settled d.tree d.witness.valid s len b d.witness.spelled) in
      let t = r.sound s len A b n in
      record {
        tree = t.0;
        witness = t.1;
        high = omega (arith, t.2, low t.0 t.1);
        lowest = low;
      }

-- what stands on numbers of the span's own row and of shorter spans is small
pub tall_low : (hs : Heights) (v : Leave) (no_height s len low : ℕ)
    → ((B : ℕ) → hs s len B < no_height → hs s len B ≤ low)
    → ((s' len' B : ℕ) → s' + len' ≤ s + len → len' < len → hs s' len' B < no_height
    → hs s' len' B ≤ low)
    → (c : Clause) (l h : ℕ) → Tall hs v s len c l h → h < no_height → h ≤ suc low
tall_low hs v no_height s len low own less Clause.Empty l h q n = omega (arith, q.2)
tall_low hs v no_height s len low own less (Clause.Atom a b) l h q n = omega (arith, q.3)
tall_low hs v no_height s len low own less (Clause.Unary B m) l h q n =
    omega (arith, q.2, own B (omega (arith, q.2)))
tall_low hs v no_height s len low own less (Clause.Binary B C m) l h q n =
    let fit : l ≤ len = q.0 in
    let two : (hs s l B < no_height) × (hs (s + l) (len - l) C < no_height) = omega (arith, q.2) in
    let a = side s l B (omega arith) two.0 (first (dec_lt l len)) in
    let b = side (s + l) (len - l) C (omega arith) two.1 (rest (dec_lt 0 l)) in
    omega (arith, q.2)
  where
    fit : l ≤ len
    fit = q.0

    first : Dec (l < len) → (l < len) ⊎ ((s ≡ s) × (l ≡ len))
    first (yes x) = inl x
    first (no x) = inr (refl, omega arith)

    rest : Dec (0 < l) → (len - l < len) ⊎ ((s + l ≡ s) × (len - l ≡ len))
    rest (yes x) = inl (omega arith)
    rest (no x) = inr (omega arith, omega arith)

    side : (s' len' B : ℕ) → s' + len' ≤ s + len → hs s' len' B < no_height
        → (len' < len) ⊎ ((s' ≡ s) × (len' ≡ len)) → hs s' len' B ≤ low
    side s' len' B w x (inl y) = less s' len' B w y x
    side s' len' B w x (inr y) =
        let e : hs s' len' B ≡ hs s len B = ap₂ (λ (a b : ℕ). hs a b B) y.0 y.1 in
        omega (arith, own B (omega arith))
