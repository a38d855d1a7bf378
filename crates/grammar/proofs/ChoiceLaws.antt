-- What the definitions of Choices.antt yield.
use mathlib.Core.Path.{◌≡◌, refl, sym, ap, ◌∙◌, subst}
use mathlib.Core.List.{[], ◌∷◌, ◌++◌, Memᴰ}
use mathlib.Core.Logic.{◌⊎◌, inl, inr}
use mathlib.Core.Option.{some}
use Prim.Native.Nat.{ℕ, zero, suc, ◌<◌}
use native.Mathlib.Omega.{arith}
use native.Mathlib.Decide.{dec_lt}
use lib.Seq.{take_at, drop_at}
use lib.ListN.{length, get_elem?, take, drop}
use Rattle.sets.proofs.Basics.{clash}
use Rattle.grammar.specs.declared.Rule.{Rule}
use Rattle.grammar.specs.Layout.{Word}
use Rattle.grammar.specs.Trees.{Tree, empty, leaf, unary, binary, root, word, Rules, Valid}
use Rattle.grammar.specs.Trees.{valid_empty, valid_leaf, valid_unary, valid_binary, Witness}
use Rattle.grammar.specs.Trees.{OneTree, TwoTrees}
use Rattle.grammar.specs.Choices.{Takes, Choice, ChoiceBefore, Same, FirstChoice, OnlyChoice}
use Rattle.grammar.specs.Choices.{OtherChoice, LowChoice, Ask, Node, Each, Beneath, Preferred}
use Rattle.grammar.specs.Choices.{straight, looping, FirstTree, Swerves, Second, here, below}
use Rattle.grammar.specs.Choices.{left, right, SecondTree}
use Rattle.grammar.specs.Distinct.{Distinct}

-- 1. a choice is taken at one place only

pub place_of : {r : Rule} {g : Rules} → Memᴰ r g → (p : ℕ) × (get_elem? g p ≡ some r)
place_of (Memᴰ.head e) = (0, ap some (sym e))
place_of (Memᴰ.tail m) = let w = place_of m in (suc w.0, w.1)

pub member_at : (g : Rules) (p : ℕ) {r : Rule} → get_elem? g p ≡ some r → Memᴰ r g
member_at [] p {r} e = absurd (clash cc)
member_at (x ∷ g) zero {r} e = let h : r ≡ x = cc in Memᴰ.head h
member_at (x ∷ g) (suc p) e = Memᴰ.tail (member_at g p e)

pub takes_unique : {g : Rules} → Distinct g → (t : Tree) {p k q l : ℕ} → Takes g t p k
    → Takes g t q l → Same p k q l
takes_unique d (empty A) {p} {k} {q} {l} a b =
    (d.one p q a.rule b.rule a.stands b.stands (cc) (rw (a.top.0, b.top.0) tt), cc)
takes_unique d (leaf A t) {p} {k} {q} {l} a b = (
  d.one p q a.rule b.rule a.stands b.stands (cc)
      (rw (a.top.2, b.top.2) (t.terminal, a.top.3, b.top.3)),
  cc,
)
takes_unique d (unary A t) {p} {k} {q} {l} a b = (
  d.one p q a.rule b.rule a.stands b.stands (cc) (rw (a.top.1, b.top.1) refl),
  cc,
)
takes_unique d (binary A s t) {p} {k} {q} {l} a b = (
  d.one p q a.rule b.rule a.stands b.stands (cc)
      (rw (a.top.1, b.top.1) (refl, refl)),
  cc,
)

pub append_inj : (s s' t t' : Word) → length s ≡ length s' → s ++ t ≡ s' ++ t' → (s ≡ s') × (t ≡ t')
append_inj s s' t t' n e = (
  sym (take_at s t (length s) refl) ∙ ap (take (length s)) e ∙ take_at s' t' (length s) (sym n),
  sym (drop_at s t (length s) refl) ∙ ap (drop (length s)) e ∙ drop_at s' t' (length s) (sym n),
)

-- 2. two trees of one root and word whose choices agree at each node are the same

abbrev Agree : Rules → Ask → Tree → Type 0
Agree g S t = (u : Tree) → Each g S u → root t ≡ root u → word t ≡ word u → t ≡ u

abbrev AgreeBeneath : Rules → Ask → Tree → Type 0
AgreeBeneath g S (empty A) = Unit {0}
AgreeBeneath g S (leaf A x) = Unit {0}
AgreeBeneath g S (unary A t) = Agree g S t
AgreeBeneath g S (binary A s t) = Agree g S s × Agree g S t

pub top_of : (g : Rules) (P : Ask) (t : Tree) → Each g P t → Node g P t
top_of g P (empty A) n = n
top_of g P (leaf A x) n = n
top_of g P (unary A t) n = n.0
top_of g P (binary A s t) n = n.0

pub beneath_of : (g : Rules) (P : Ask) (t : Tree) → Each g P t → Beneath g P t
beneath_of g P (empty A) n = tt
beneath_of g P (leaf A x) n = tt
beneath_of g P (unary A t) n = n.1
beneath_of g P (binary A s t) n = n.1

pub each_of : (g : Rules) (P : Ask) (t : Tree) → Node g P t → Beneath g P t → Each g P t
each_of g P (empty A) n b = n
each_of g P (leaf A x) n b = n
each_of g P (unary A t) n b = (n, b)
each_of g P (binary A s t) n b = (n, b)

abbrev pub Decides : Ask → Ask → Type 0
Decides P Q = (A : ℕ) (w : Word) (p k q l : ℕ) → P A w p k → Q A w q l → Same p k q l

module _ (g : Rules) (P Q S : Ask) (same : Decides P Q) where
  same_rule : (t u : Tree) (n : Node g P t) (m : Node g Q u) → root t ≡ root u → word t ≡ word u
      → (n.takes.rule.clause ≡ m.takes.rule.clause) × (n.split ≡ m.split)
  same_rule t u n m e f =
      let h : Same n.place n.split m.place m.split =
      same (root t) (word t) _ _ _ _ n.holds (rw (e, f) m.holds) in
      let a : get_elem? g n.place ≡ some n.takes.rule = n.takes.stands in
      let b : get_elem? g m.place ≡ some m.takes.rule = m.takes.stands in
      (cc, h.1)

  agree_step : (t u : Tree) → Node g P t → AgreeBeneath g S t → Node g Q u → Beneath g S u
      → root t ≡ root u → word t ≡ word u → t ≡ u
  agree_step (empty A) (empty B) n i m j e f = cc
  agree_step (empty A) (leaf B y) n i m j e f = let h = same_rule (empty A) (leaf B y) n m e f in
      absurd (clash cc)
  agree_step (empty A) (unary B v) n i m j e f = let h = same_rule (empty A) (unary B v) n m e f in
      absurd (clash cc)
  agree_step (empty A) (binary B u v) n i m j e f = let h =
      same_rule (empty A) (binary B u v) n m e f in absurd (clash cc)
  agree_step (leaf A x) (empty B) n i m j e f = let h = same_rule (leaf A x) (empty B) n m e f in
      absurd (clash cc)
  agree_step (leaf A x) (leaf B y) n i m j e f = cc
  agree_step (leaf A x) (unary B v) n i m j e f = let h =
      same_rule (leaf A x) (unary B v) n m e f in absurd (clash cc)
  agree_step (leaf A x) (binary B u v) n i m j e f = let h =
      same_rule (leaf A x) (binary B u v) n m e f in absurd (clash cc)
  agree_step (unary A t) (empty B) n i m j e f = let h = same_rule (unary A t) (empty B) n m e f in
      absurd (clash cc)
  agree_step (unary A t) (leaf B y) n i m j e f = let h =
      same_rule (unary A t) (leaf B y) n m e f in absurd (clash cc)
  agree_step (unary A t) (unary B v) n i m j e f =
      let h = same_rule (unary A t) (unary B v) n m e f in
      let r : root t ≡ root v = cc in
      let ih : t ≡ v = i v j r f in cc
  agree_step (unary A t) (binary B u v) n i m j e f = let h =
      same_rule (unary A t) (binary B u v) n m e f in absurd (clash cc)
  agree_step (binary A s t) (empty B) n i m j e f = let h =
      same_rule (binary A s t) (empty B) n m e f in absurd (clash cc)
  agree_step (binary A s t) (leaf B y) n i m j e f = let h =
      same_rule (binary A s t) (leaf B y) n m e f in absurd (clash cc)
  agree_step (binary A s t) (unary B v) n i m j e f = let h =
      same_rule (binary A s t) (unary B v) n m e f in absurd (clash cc)
  agree_step (binary A s t) (binary B u v) n i m j e f =
      let h = same_rule (binary A s t) (binary B u v) n m e f in
      let r₁ : root s ≡ root u = cc in
      let r₂ : root t ≡ root v = cc in
      let k : length (word s) ≡ length (word u) = cc in
      let w = append_inj (word s) (word u) (word t) (word v) k f in
      let ih₁ : s ≡ u = i.0 u j.0 r₁ w.0 in
      let ih₂ : t ≡ v = i.1 v j.1 r₂ w.1 in cc

pub agree : (g : Rules) (P Q : Ask) → Decides P Q → (t u : Tree) → Each g P t → Each g Q u
    → root t ≡ root u → word t ≡ word u → t ≡ u
agree g P Q d (empty A) u n m =
    agree_step g P Q Q d (empty A) u n tt (top_of g Q u m) (beneath_of g Q u m)
agree g P Q d (leaf A x) u n m =
    agree_step g P Q Q d (leaf A x) u n tt (top_of g Q u m) (beneath_of g Q u m)
agree g P Q d (unary A t) u n m =
    agree_step g P Q Q d (unary A t) u n.0 (λ v. agree g P Q d t v n.1) (top_of g Q u m)
    (beneath_of g Q u m)
agree g P Q d (binary A s t) u n m =
    agree_step g P Q Q d (binary A s t) u n.0
    (λ v. agree g P Q d s v n.1.0, λ v. agree g P Q d t v n.1.1) (top_of g Q u m)
    (beneath_of g Q u m)

-- the same with another question at the top
module _ (g : Rules) (P Q R S : Ask) (d : Decides P Q) (e : Decides R S) where
  agree_beneath : (t : Tree) → Beneath g R t → AgreeBeneath g S t
  agree_beneath (empty A) b = tt
  agree_beneath (leaf A x) b = tt
  agree_beneath (unary A t) b = λ v. agree g R S e t v b
  agree_beneath (binary A s t) b = (λ v. agree g R S e s v b.0, λ v. agree g R S e t v b.1)

  pub agree_top : (t u : Tree) → Node g P t → Beneath g R t → Node g Q u → Beneath g S u
      → root t ≡ root u → word t ≡ word u → t ≡ u
  agree_top t u n b = agree_step g P Q S d t u n (agree_beneath t b)

-- 3. the order of choices

pub tri : (p k q l : ℕ) → ChoiceBefore p k q l ⊎ (Same p k q l ⊎ ChoiceBefore q l p k)
tri p k q l = go (dec_lt p q) (dec_lt q p) (dec_lt k l) (dec_lt l k)
  where
    go : Dec (p < q) → Dec (q < p) → Dec (k < l) → Dec (l < k)
        → ChoiceBefore p k q l ⊎ (Same p k q l ⊎ ChoiceBefore q l p k)
    go (yes a) b c d = inl (inl a)
    go (no a) (yes b) c d = inr (inr (inl b))
    go (no a) (no b) (yes c) d = inl (inr (omega arith, c))
    go (no a) (no b) (no c) (yes d) = inr (inr (inr (omega arith, d)))
    go (no a) (no b) (no c) (no d) = inr (inl (omega arith))

-- 4. the first tree is unique

pub first_same : {g : Rules} (A : ℕ) (w : Word) (p k q l : ℕ) → FirstChoice g A w p k
    → FirstChoice g A w q l → Same p k q l
first_same A w p k q l a b = go (tri p k q l)
  where
    go : ChoiceBefore p k q l ⊎ (Same p k q l ⊎ ChoiceBefore q l p k) → Same p k q l
    go (inl h) = absurd (b.least p k a.choice h)
    go (inr (inl h)) = h
    go (inr (inr h)) = absurd (a.least q l b.choice h)

-- so is the earliest choice of the least height
pub low_same : {g : Rules} (A : ℕ) (w : Word) (p k q l : ℕ) → LowChoice g A w p k
    → LowChoice g A w q l → Same p k q l
low_same {g} A w p k q l a b = go (tri p k q l)
  where
    same : a.least ≡ b.least
    same = omega (
      arith,
      a.lowest b.gives.tree b.gives.witness,
      b.lowest a.gives.tree
          a.gives.witness,
      a.gives.high,
      b.gives.high,
    )

    go : ChoiceBefore p k q l ⊎ (Same p k q l ⊎ ChoiceBefore q l p k) → Same p k q l
    go (inl h) = absurd (b.earliest p k (rw same at a.gives) h)
    go (inr (inl h)) = h
    go (inr (inr h)) = absurd (a.earliest q l (rw (← same) at b.gives) h)

-- all that the laws of trees use of what the first tree takes: it is a choice, and two such are the
-- same
pub preferred_choice : (g : Rules) (A : ℕ) (w : Word) (p k : ℕ) → Preferred g A w p k
    → Choice g A w p k
preferred_choice g A w p k (straight c a) = a.choice
preferred_choice g A w p k (looping c a) =
    record { tree = a.gives.tree; witness = a.gives.witness; takes = a.gives.takes }

pub preferred_same : (g : Rules) → Decides (Preferred g) (Preferred g)
preferred_same g A w p k q l (straight c a) (straight d b) = first_same A w p k q l a b
preferred_same g A w p k q l (straight c a) (looping d b) = absurd (c d)
preferred_same g A w p k q l (looping c a) (straight d b) = absurd (d c)
preferred_same g A w p k q l (looping c a) (looping d b) = low_same A w p k q l a b

pub first_unique : {g : Rules} {A : ℕ} {w : Word} {t u : Tree} → FirstTree g A w t
    → FirstTree g A w u → t ≡ u
first_unique {g} {A} {w} {t} {u} a b =
    agree g (Preferred g) (Preferred g) (preferred_same g) t u a.first b.first
    (a.rooted ∙ sym b.rooted) (a.spelled ∙ sym b.spelled)

-- 5. valid trees, node by node

pub takes_of : {g : Rules} {t : Tree} → Valid g t → (p : ℕ) × (k : ℕ) × Takes g t p k
takes_of (valid_empty h) = let w = place_of h in
    (w.0, 0, record { rule = _; stands = w.1; top = (refl, refl) })
takes_of (valid_leaf h) = let w = place_of h.rule in
    (w.0, 0, record { rule = _; stands = w.1; top = (h.low, h.high, refl, h.covers, refl) })
takes_of (valid_unary m h x v) = let w = place_of h in
    (w.0, 0, record { rule = _; stands = w.1; top = (m, refl, refl, x) })
takes_of (valid_binary {s = s} m h x u v) = let w = place_of h in
    (w.0, length (word s), record { rule = _; stands = w.1; top = (m, refl, refl, x) })

node_of : {g : Rules} {t : Tree} → Valid g t → Node g (Choice g) t
node_of {g} {t} v =
    let w = takes_of v in
    record {
      place = w.0;
      split = w.1;
      takes = w.2;
      holds = record
          { tree = t; witness = record { rooted = refl; spelled = refl; valid = v }; takes = w.2 };
    }

-- each node of a valid tree takes a choice
pub valid_each : {g : Rules} {t : Tree} → Valid g t → Each g (Choice g) t
valid_each (valid_empty h) = node_of (valid_empty h)
valid_each (valid_leaf h) = node_of (valid_leaf h)
valid_each (valid_unary m h x v) = (node_of (valid_unary m h x v), valid_each v)
valid_each (valid_binary m h x u v) =
    (node_of (valid_binary m h x u v), (valid_each u, valid_each v))

-- a tree whose nodes follow rules is valid
pub each_valid : (g : Rules) (P : Ask) (t : Tree) → Each g P t → Valid g t
each_valid g P (empty A) n =
    valid_empty (rw n.takes.top.0 at (member_at g n.place n.takes.stands))
each_valid g P (leaf A t) n = let e = n.takes.top in
    valid_leaf (record {
      low = e.0;
      high = e.1;
      rule = rw e.2 at
          (member_at g n.place n.takes.stands);
      covers = e.3;
    })
each_valid g P (unary A t) n =
    valid_unary n.0.takes.top.0
    (rw n.0.takes.top.1 at (member_at g n.0.place n.0.takes.stands))
    n.0.takes.top.3 (each_valid g P t n.1)
each_valid g P (binary A s t) n =
    valid_binary n.0.takes.top.0
    (rw n.0.takes.top.1 at (member_at g n.0.place n.0.takes.stands))
    n.0.takes.top.3 (each_valid g P s n.1.0) (each_valid g P t n.1.1)

-- 6. one tree or two

only_choice : {g : Rules} → Decides (OnlyChoice g) (Choice g)
only_choice A w p k q l a b = let h = a.only q l b in (sym h.0, sym h.1)

-- where each node has one choice only, the tree is the only one
pub only_tree : {g : Rules} {A : ℕ} {w : Word} {t : Tree} → FirstTree g A w t
    → Each g (OnlyChoice g) t → (u : Tree) → Witness g A w u → u ≡ t
only_tree {g} {A} {w} {t} a b u c =
    sym (agree g (OnlyChoice g) (Choice g) only_choice t u b (valid_each c.valid)
    (a.rooted ∙ sym c.rooted) (a.spelled ∙ sym c.spelled))

pub first_witness : {g : Rules} {A : ℕ} {w : Word} {t : Tree} → FirstTree g A w t → Witness g A w t
first_witness {g} {A} {w} {t} a = record
    { rooted = a.rooted; spelled = a.spelled; valid = each_valid g (Preferred g) t a.first }

pub one_tree : {g : Rules} {A : ℕ} {w : Word} {t : Tree} → FirstTree g A w t
    → Each g (OnlyChoice g) t → OneTree g A w
one_tree {t = t} a b = record { tree = t; witness = first_witness a; only = only_tree a b }

-- 7. the second tree

pub other_same : {g : Rules} (p k : ℕ)
    → Decides (λ A w q l. OtherChoice g A w p k q l) (λ A w q l. OtherChoice g A w p k q l)
other_same p k A w q l q' l' a b = go (tri q l q' l')
  where
    go : ChoiceBefore q l q' l' ⊎ (Same q l q' l' ⊎ ChoiceBefore q' l' q l) → Same q l q' l'
    go (inl h) = absurd (a.other (b.least q l a.choice h))
    go (inr (inl h)) = h
    go (inr (inr h)) = absurd (b.other (a.least q' l' b.choice h))

module _ {g : Rules} (d : Distinct g) where
  -- a node with another choice has not only one
  pub not_only : {t u : Tree} → Swerves g t u → Node g (OnlyChoice g) t → ⊥
  not_only {t} {u} a n =
      let c : Choice g (root t) (word t) a.node.place a.node.split =
      rw (← a.rooted, ← a.spelled) a.node.holds.choice in
      let h = n.holds.only _ _ c in
      let e = takes_unique d t a.taken n.takes in
      a.node.holds.other (h.0 ∙ sym e.0, h.1 ∙ sym e.1)

  swerves_unique : {t u v : Tree} → Swerves g t u → Swerves g t v → u ≡ v
  swerves_unique {t} {u} {v} a b =
      let e = takes_unique d t b.taken a.taken in
      let n : Node g (λ A w q l. OtherChoice g A w a.place a.split q l) v =
      subst (λ (k : ℕ). Node g (λ A w q l. OtherChoice g A w a.place k q l) v) e.1
      (subst (λ (p : ℕ). Node g (λ A w q l. OtherChoice g A w p b.split q l) v) e.0
      b.node) in
      agree_top g _ _ _ _ (other_same a.place a.split) (preferred_same g) u v a.node
      a.beneath n b.beneath (a.rooted ∙ sym b.rooted) (a.spelled ∙ sym b.spelled)

  pub second_not_only : {t u : Tree} → Second g t u → Each g (OnlyChoice g) t → ⊥
  second_not_only {t} (here s) e = not_only s (top_of g (OnlyChoice g) t e)
  second_not_only (below n s) e = second_not_only s e.1
  second_not_only (left n s) e = second_not_only s e.1.0
  second_not_only (right n o s) e = second_not_only s e.1.1

  pub second_unique : {t u v : Tree} → Second g t u → Second g t v → u ≡ v
  second_unique (here a) (here b) = swerves_unique a b
  second_unique (here a) (below n b) = absurd (not_only a n)
  second_unique (here a) (left n b) = absurd (not_only a n)
  second_unique (here a) (right n o b) = absurd (not_only a n)
  second_unique (below n a) (here b) = absurd (not_only b n)
  second_unique (below {A = A} n a) (below m b) = ap (unary A) (second_unique a b)
  second_unique (left n a) (here b) = absurd (not_only b n)
  second_unique (left {A = A} {t = t} n a) (left m b) =
      ap (λ (x : Tree). binary A x t) (second_unique a b)
  second_unique (left n a) (right m o b) = absurd (second_not_only a o)
  second_unique (right n o a) (here b) = absurd (not_only b n)
  second_unique (right n o a) (left m b) = absurd (second_not_only b o)
  second_unique (right {A = A} {s = s} n o a) (right m o' b) = ap (binary A s) (second_unique a b)

  pub second_differs : {t u : Tree} → Second g t u → t ≡ u → ⊥
  second_differs {t} {u} (here a) e =
      a.node.holds.other (takes_unique d t (rw e a.node.takes) a.taken)
  second_differs (below {s = s} {s' = s'} n a) e = let h : s ≡ s' = cc in second_differs a h
  second_differs (left {s = s} {s' = s'} n a) e = let h : s ≡ s' = cc in second_differs a h
  second_differs (right {t = t} {t' = t'} n o a) e = let h : t ≡ t' = cc in second_differs a h

pub second_rooted : {g : Rules} {t u : Tree} → Second g t u → root u ≡ root t
second_rooted (here a) = a.rooted
second_rooted (below n a) = refl
second_rooted (left n a) = refl
second_rooted (right n o a) = refl

pub second_spelled : {g : Rules} {t u : Tree} → Second g t u → word u ≡ word t
second_spelled (here a) = a.spelled
second_spelled (below n a) = second_spelled a
second_spelled (left {t = t} n a) = ap (λ (x : Word). x ++ word t) (second_spelled a)
second_spelled (right {s = s} n o a) = ap (λ (x : Word). word s ++ x) (second_spelled a)

-- a node keeps its rule and left length where its children keep their roots and words
pub keep_unary : {g : Rules} {P : Ask} {A : ℕ} {s s' : Tree} → root s' ≡ root s → word s' ≡ word s
    → Node g P (unary A s) → Node g P (unary A s')
keep_unary {s = s} {s' = s'} e f n =
    record {
      place = n.place;
      split = n.split;
      takes = record {
        rule = n.takes.rule;
        stands = n.takes.stands;
        top =
            (n.takes.top.0, rw e n.takes.top.1, n.takes.top.2, rw f n.takes.top.3);
      };
      holds = rw f n.holds;
    }

pub keep_binary : {g : Rules} {P : Ask} {A : ℕ} {s s' t t' : Tree} → root s' ≡ root s
    → word s' ≡ word s → root t' ≡ root t → word t' ≡ word t
    → Node g P (binary A s t) → Node g P (binary A s' t')
keep_binary e f e' f' n =
    record {
      place = n.place;
      split = n.split;
      takes = record {
        rule = n.takes.rule;
        stands = n.takes.stands;
        top = (
          n.takes.top.0,
          rw (e, e') n.takes.top.1,
          rw f n.takes.top.2,
          rw (f, f')
              n.takes.top.3,
        );
      };
      holds = rw (f, f') n.holds;
    }

abbrev Any : Ask
Any = λ A w p k. Unit {0}

forget : {g : Rules} {P : Ask} {t : Tree} → Node g P t → Node g Any t
forget n = record { place = n.place; split = n.split; takes = n.takes; holds = tt }

-- what holds of each choice at each node holds of each choice
pub each_map : (g : Rules) (P Q : Ask) → ((A : ℕ) (w : Word) (p k : ℕ) → P A w p k → Q A w p k)
    → (t : Tree) → Each g P t → Each g Q t
each_map g P Q f t n = go t n
  where
    at : (t : Tree) → Node g P t → Node g Q t
    at t n = record {
      place = n.place;
      split = n.split;
      takes = n.takes;
      holds = f _ _ _ _
          n.holds;
    }

    go : (t : Tree) → Each g P t → Each g Q t
    go (empty A) n = at (empty A) n
    go (leaf A x) n = at (leaf A x) n
    go (unary A t) n = (at (unary A t) n.0, go t n.1)
    go (binary A s t) n = (at (binary A s t) n.0, (go s n.1.0, go t n.1.1))

forget_beneath : (g : Rules) (P : Ask) (t : Tree) → Beneath g P t → Beneath g Any t
forget_beneath g P (empty A) b = tt
forget_beneath g P (leaf A x) b = tt
forget_beneath g P (unary A t) b = each_map g P Any (λ _ _ _ _ _. tt) t b
forget_beneath g P (binary A s t) b =
    (each_map g P Any (λ _ _ _ _ _. tt) s b.0, each_map g P Any (λ _ _ _ _ _. tt) t b.1)

second_each : {g : Rules} {t u : Tree} → Second g t u → Each g Any t → Each g Any u
second_each {g} {u = u} (here a) e =
    each_of g Any u (forget a.node) (forget_beneath g (Preferred g) u a.beneath)
second_each (below n a) e =
    (keep_unary (second_rooted a) (second_spelled a) e.0, second_each a e.1)
second_each (left n a) e = (
  keep_binary (second_rooted a) (second_spelled a) refl refl e.0,
  (second_each a e.1.0, e.1.1),
)
second_each (right n o a) e = (
  keep_binary refl refl (second_rooted a) (second_spelled a) e.0,
  (e.1.0, second_each a e.1.1),
)

pub second_witness : {g : Rules} {A : ℕ} {w : Word} {u : Tree} → SecondTree g A w u
    → Witness g A w u
second_witness {g} {u = u} a =
    let e = each_map g (Preferred g) Any (λ _ _ _ _ _. tt) a.tree a.first.first in
    record {
      rooted = second_rooted a.second ∙ a.first.rooted;
      spelled = second_spelled a.second ∙ a.first.spelled;
      valid = each_valid g Any u (second_each a.second e);
    }

pub second_tree_unique : {g : Rules} → Distinct g → {A : ℕ} {w : Word} {u v : Tree}
    → SecondTree g A w u → SecondTree g A w v → u ≡ v
second_tree_unique {g} d {u = u} a b =
    second_unique d a.second (rw (first_unique a.first b.first) b.second)

-- two trees exist where the second does
pub two_trees : {g : Rules} → Distinct g → {A : ℕ} {w : Word} {u : Tree} → SecondTree g A w u
    → TwoTrees g A w
two_trees d {u = u} a =
    record {
      first = a.tree;
      second = u;
      witness₁ = first_witness a.first;
      witness₂ =
          second_witness a;
      differ = second_differs d a.second;
    }

-- and only where some node of the first tree has not only one choice
pub two_not_only : {g : Rules} {A : ℕ} {w : Word} {t : Tree} → FirstTree g A w t → TwoTrees g A w
    → Each g (OnlyChoice g) t → ⊥
two_not_only a b e = b.differ (only_tree a e b.first b.witness₁
    ∙ sym (only_tree a e b.second b.witness₂))
