-- What is held: what lies beneath a choice of it is, and words that have only such members keep so.
use mathlib.Core.Path.{◌≡◌, refl, sym, ap, ◌∙◌, subst}
use mathlib.Core.Logic.{◌⊎◌, inl, inr, ⊎_elim}
use mathlib.Core.List.{List}
use mathlib.Core.Option.{some}
use Prim.Native.Nat.{ℕ, zero, suc, ◌+◌, ◌-◌, ◌≤◌, ◌<◌}
use native.Mathlib.Omega.{arith}
use lib.ListN.{length, get_or, get_elem?}
use Rattle.sets.specs.Sets.{In}
use Rattle.grammar.specs.declared.Rule.{Rule}
use Rattle.grammar.specs.declared.Clause.{Clause}
use Rattle.grammar.specs.Layout.{Word}
use Rattle.grammar.specs.Trees.{Tree, unary, binary, word, Rules, Witness, Derives}
use Rattle.grammar.specs.Choices.{Choice}
use Rattle.grammar.specs.Rows.{start_of}
use Rattle.grammar.specs.SpanSheet.{part, pair_at}
use Rattle.grammar.proofs.ChoiceLaws.{member_at}
use Rattle.grammar.proofs.ByKind.{Can, choice_can, get_elem?_lt}
use Rattle.marks.proofs.Words.{part_length, part_cut}
use Rattle.tables.proofs.Places.{there}
use Rattle.spans.proofs.Places.{pair_at_same}
use Rattle.tables.specs.Tables.{rule}
use Rattle.choices.proofs.PickLaws.{part_take, part_drop}
use Rattle.places.specs.Places as Pl
use Rattle.places.specs.Places.{StandsIn}
use Rattle.places.proofs.PaperLaws.{over_unary, over_binary}
use Rattle.contained_spans.specs.Reached.{Bit}
use Rattle.cuts.specs.Joining.{Joins}
use Rattle.contained_spans.specs.Joining.{Kid}
use Rattle.contained_spans.specs.Spreading.{Kids, Held, Sound, SpanBefore}

-- ---- what lies beneath a choice of what is held is held

inside_then : {t s : Tree} (T : Tree) (i j k : ℕ) → StandsIn s i T j → StandsIn t j s k
    → StandsIn t i T k
inside_then T i j k Pl.top y = y
inside_then (unary A s) i j k (Pl.below x) y = Pl.below (inside_then s i j k x y)
inside_then (binary A u v) i j k (Pl.left x) y = Pl.left (inside_then u i j k x y)
inside_then (binary A u v) i j k (Pl.right x) y =
    Pl.right (inside_then v (i + length (word u)) j k x y)

start_on : (s f l m len : ℕ) → l + m ≡ len → start_of f len ≡ start_of s len
    → start_of (f + l) m ≡ start_of (s + l) m
start_on s f l zero len e h = refl
start_on s f l (suc m) zero e h = absurd (omega arith)
start_on s f l (suc m) (suc len) e h = ap (λ (x : ℕ). x + l) h

start_front : (s f l len : ℕ) → l ≤ len → start_of f len ≡ start_of s len
    → start_of f l ≡ start_of s l
start_front s f zero len e h = refl
start_front s f (suc l) zero e h = absurd (omega arith)
start_front s f (suc l) (suc len) e h = h

module _ (g : Rules) (w : Word) (s len A : ℕ) (fit : s + len ≤ length w)
    (x : Held g w s len A) where
  held_unary : (p l B : ℕ) (m : _)
      → get_elem? g p ≡ some (record { left = A; clause = Clause.Unary B m })
      → Can g (part w s len) (Clause.Unary B m) l → Held g w s len B
  held_unary p l B m st q = record {
    derives = q.0;
    extends =
        λ t y. let z =
        x.extends (unary A t) (over_unary m (member_at g p st) q.1 t y) in
        (z.0, z.1, z.2, inside_then z.0 0 z.2 z.2 z.3 (Pl.below Pl.top), z.4);
  }

  held_binary : (p l B C : ℕ) (m : _)
      → get_elem? g p ≡ some (record { left = A; clause = Clause.Binary B C m })
      → Can g (part w s len) (Clause.Binary B C m) l
      → Held g w s l B × Held g w (s + l) (len - l) C
  held_binary p l B C m st q =
      (record { derives = dl; extends = on_left }, record { derives = dr; extends = on_right })
    where
      low : l ≤ len
      low = omega (arith, part_length w s len fit, q.0)

      dl : Derives g B (part w s l)
      dl = subst (Derives g B) (part_take w s len fit l low) q.1

      dr : Derives g C (part w (s + l) (len - l))
      dr = subst (Derives g C) (part_drop w s len fit l low) q.2

      over : (t u : Tree) → Witness g B (part w s l) t → Witness g C (part w (s + l) (len - l)) u
          → Witness g A (part w s len) (binary A t u)
      over t u y z =
          subst (λ (v : Word). Witness g A v (binary A t u)) (sym (part_cut w s len l low))
          (over_binary m (member_at g p st)
          (rw (part_take w s len fit l low, part_drop w s len fit l low) at q.3) t u y z)

      on_left : (t : Tree) → Witness g B (part w s l) t
          → (T : Tree) × Witness g 0 w T × (from : ℕ) × StandsIn t 0 T from
          × (start_of from l ≡ start_of s l)
      on_left t y =
          let z = x.extends (binary A t dr.tree) (over t dr.tree y dr.witness) in (
            z.0,
            z.1,
            z.2,
            inside_then z.0 0 z.2 z.2 z.3 (Pl.left Pl.top),
            start_front
                s z.2 l len low z.4,
          )

      on_right : (t : Tree) → Witness g C (part w (s + l) (len - l)) t
          → (T : Tree) × Witness g 0 w T × (from : ℕ) × StandsIn t 0 T from
          × (start_of from (len - l) ≡ start_of (s + l) (len - l))
      on_right t y =
          let z = x.extends (binary A dl.tree t) (over dl.tree t dl.witness y) in
          let n : length (word dl.tree) ≡ l =
          ap length dl.witness.spelled ∙ part_length w s l (omega (arith, low, fit)) in
          let e : l + (len - l) ≡ len = omega (arith, low) in
          let at : StandsIn t z.2 (binary A dl.tree t) (z.2 + l) = subst
          (λ (v : ℕ). StandsIn t z.2 (binary A dl.tree t) (z.2 + v)) n
          (Pl.right Pl.top) in (
            z.0,
            z.1,
            z.2
                + l,
            inside_then z.0 0 z.2 (z.2 + l) z.3 at,
            start_on s z.2 l
                (len - l) len e z.4,
          )

  held_clause : (p l : ℕ) (c : Clause) → get_elem? g p ≡ some (record { left = A; clause = c })
      → Can g (part w s len) c l → Kids (Held g w) s len c l
  held_clause p l Clause.Empty st q = tt
  held_clause p l (Clause.Atom a b) st q = tt
  held_clause p l (Clause.Unary B m) st q = held_unary p l B m st q
  held_clause p l (Clause.Binary B C m) st q = held_binary p l B C m st q

  pub kids_held : (p l : ℕ) → Choice g A (part w s len) p l
      → Kids (Held g w) s len (rule g p).clause l
  kids_held p l c =
      let y = choice_can c in
      let h = get_elem?_lt g p y.1 in
      let e : y.0 ≡ rule g p = let a = y.1 in let b = there g p h in cc in
      let st : get_elem? g p ≡ some (record { left = A; clause = (rule g p).clause }) = there g p h
      ∙ ap (λ (B : ℕ). some (record { left = B; clause = (rule g p).clause }))
      (sym (ap (λ (r : Rule). r.left) e) ∙ y.2) in
      held_clause p l (rule g p).clause st
      (subst (λ (r : Rule). Can g (part w s len) r.clause l) e y.3)

-- ---- words that have only what is held

-- an empty word is held wherever it stands
held_empty : (g : Rules) (w : Word) (s a A : ℕ) → Held g w s 0 A → Held g w a 0 A
held_empty g w s a A x = record { derives = x.derives; extends = x.extends }

-- one pair has one word
held_at : (g : Rules) (w : Word) (n s len A : ℕ) → s + len ≤ n → Held g w s len A → (a b : ℕ)
    → a + b ≤ n → pair_at n a b ≡ pair_at n s len → Held g w a b A
held_at g w n s len A h x a b k e = go (pair_at_same n a b s len k h e)
  where
    go : (b ≡ len) × ((b ≡ 0) ⊎ (a ≡ s)) → Held g w a b A
    go (q, inl z) = subst (λ (l : ℕ). Held g w a l A) (sym z)
        (held_empty g w s a A (subst (λ (l : ℕ). Held g w s l A) (sym q ∙ z) x))
    go (q, inr z) =
        subst (λ (l : ℕ). Held g w a l A) (sym q) (subst (λ (t : ℕ). Held g w t len A) (sym z) x)

pub kid_held : (g : Rules) (w : Word) (n s len : ℕ) (c : Clause) (l : ℕ) → s + len ≤ n → l ≤ len
    → Kids (Held g w) s len c l
    → (q B : ℕ) → Kid n s len c l q B → (a b : ℕ) → a + b ≤ n → pair_at n a b ≡ q → Held g w a b B
kid_held g w n s len Clause.Empty l h k x q B z a b i e = absurd z
kid_held g w n s len (Clause.Atom t u) l h k x q B z a b i e = absurd z
kid_held g w n s len (Clause.Unary C m) l h k x q B z a b i e =
    subst (Held g w a b) (sym z.1) (held_at g w n s len C h x a b i (e ∙ z.0))
kid_held g w n s len (Clause.Binary C D m) l h k x q B (inl z) a b i e =
    subst (Held g w a b) (sym z.1) (held_at g w n s l C (omega arith) x.0 a b i (e ∙ z.0))
kid_held g w n s len (Clause.Binary C D m) l h k x q B (inr z) a b i e =
    subst (Held g w a b) (sym z.1)
    (held_at g w n (s + l) (len - l) D (omega arith) x.1 a b i (e ∙ z.0))

pub sound_joins : (g : Rules) (w : Word) (n : ℕ) {P : ℕ → ℕ → Type 0} {rs rs' : List ℕ}
    → Sound g w n rs → Joins P rs rs'
    → ((q B : ℕ) → P q B → (a b : ℕ) → a + b ≤ n → pair_at n a b ≡ q → Held g w a b B)
    → Sound g w n rs'
sound_joins g w n x j f =
    record {
      held = λ s len A h b. ⊎_elim (λ y. x.held s len A h y)
          (λ y. f (pair_at n s len) A y s len h refl) (j.only (pair_at n s len) A b);
    }

-- ---- what lies beneath a clause, by pairs

pub kids_in : (rs : List ℕ) (n s len : ℕ) (c : Clause) (l : ℕ)
    → ((q B : ℕ) → Kid n s len c l q B → In (get_or rs q 0) B) → Kids (Bit rs n) s len c l
kids_in rs n s len Clause.Empty l f = tt
kids_in rs n s len (Clause.Atom a b) l f = tt
kids_in rs n s len (Clause.Unary B m) l f = f (pair_at n s len) B (refl, refl)
kids_in rs n s len (Clause.Binary B C m) l f =
    (f (pair_at n s l) B (inl (refl, refl)), f (pair_at n (s + l) (len - l)) C (inr (refl, refl)))

pub kids_kept : (rs rs' : List ℕ) (n s len : ℕ) (c : Clause) (l : ℕ)
    → ((q B : ℕ) → In (get_or rs q 0) B → In (get_or rs' q 0) B) → Kids (Bit rs n) s len c l
    → Kids (Bit rs' n) s len c l
kids_kept rs rs' n s len Clause.Empty l f x = tt
kids_kept rs rs' n s len (Clause.Atom a b) l f x = tt
kids_kept rs rs' n s len (Clause.Unary B m) l f x = f (pair_at n s len) B x
kids_kept rs rs' n s len (Clause.Binary B C m) l f x =
    (f (pair_at n s l) B x.0, f (pair_at n (s + l) (len - l)) C x.1)

-- a part of a span is none of the spans that come before it
pub apart_from : (n s len t d a b : ℕ) → s + len ≤ n → a + b ≤ n → SpanBefore a b s len
    → s ≤ t → t + d ≤ s + len → pair_at n a b ≡ pair_at n t d → ⊥
apart_from n s len t d a b h f o i j e = go (pair_at_same n a b t d f (omega arith) e) o.1
  where
    go : (b ≡ d) × ((b ≡ 0) ⊎ (a ≡ t)) → (len ≡ 0) ⊎ (a < s) ⊎ ((a ≡ s) × (len < b)) → ⊥
    go (x, inl y) z = omega (arith, o.0)
    go (x, inr y) (inl z) = omega (arith, o.0)
    go (x, inr y) (inr (inl z)) = omega arith
    go (x, inr y) (inr (inr z)) = omega (arith, z.0, z.1)

pub kid_apart : (n s len : ℕ) (c : Clause) (l q B a b : ℕ) → s + len ≤ n → l ≤ len → a + b ≤ n
    → SpanBefore a b s len → Kid n s len c l q B → pair_at n a b ≡ q → ⊥
kid_apart n s len Clause.Empty l q B a b h k f o z e = z
kid_apart n s len (Clause.Atom t u) l q B a b h k f o z e = z
kid_apart n s len (Clause.Unary C m) l q B a b h k f o z e =
    apart_from n s len s len a b h f o (omega arith) (omega arith) (e ∙ z.0)
kid_apart n s len (Clause.Binary C D m) l q B a b h k f o (inl z) e =
    apart_from n s len s l a b h f o (omega arith) (omega arith) (e ∙ z.0)
kid_apart n s len (Clause.Binary C D m) l q B a b h k f o (inr z) e =
    apart_from n s len (s + l) (len - l) a b h f o (omega arith) (omega arith) (e ∙ z.0)
