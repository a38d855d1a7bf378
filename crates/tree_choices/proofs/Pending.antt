-- Pending nodes of the tree writer, and what is aimed at: first trees, or the second tree of a row
-- of first trees.
use mathlib.Core.Path.{◌≡◌, refl, sym, ◌∙◌}
use mathlib.Core.Bool.{Bool, true, false, cond}
use mathlib.Core.List.{List, [], ◌∷◌, ◌++◌}
use mathlib.Core.Option.{some}
use Prim.Native.Nat.{ℕ, ◌+◌, ◌≤◌}
use lib.ListN.{length, get_elem?}
use Rattle.grammar.specs.declared.Rule.{Rule}
use Rattle.grammar.specs.Layout.{Word, Every}
use Rattle.grammar.specs.Trees.{Tree, empty, leaf, unary, binary, root, word, Rules}
use Rattle.grammar.specs.Choices.{Top, Takes, Choice, OnlyChoice, OtherChoice, Node, Each, Beneath}
use Rattle.grammar.specs.Choices.{Preferred, AllPreferred, FirstTree, SecondTree, Swerves, Second}
use Rattle.grammar.specs.Choices.{here, below, left, right}
use Rattle.tree_view.specs.Shown.{View, shown_rows}
use Rattle.grammar.specs.SpanSheet.{part}
use Rattle.grammar.proofs.ChoiceLaws.{takes_unique, other_same, not_only, top_of, beneath_of}
use Rattle.grammar.proofs.ChoiceLaws.{second_rooted, second_spelled, keep_unary, keep_binary}
use Rattle.grammar.proofs.ChoiceLaws.{two_trees, two_not_only, preferred_choice, preferred_same}
use Rattle.rows.specs.declared.Kind.{Kind}
use Rattle.rows.specs.declared.Step.{Step}
use Rattle.rows.specs.Steps.{step_of_clause}
use Rattle.tree_choices.specs.Picks.{Picks, Passes}
use Rattle.grammar.specs.Distinct.{Distinct}

-- a tree to be written, and where its word starts
pub record Pending : Type 0 where
  pub tree : Tree
  pub start : ℕ

-- the same in four bytes
abbrev pub entry : Pending → List ℕ
entry p = root p.tree ∷ p.start ∷ length (word p.tree) ∷ 0 ∷ []

abbrev pub entries : List Pending → List ℕ
entries [] = []
entries (p ∷ ps) = entry p ++ entries ps

abbrev pub rows_all : View → List Pending → List ℕ
rows_all sees [] = []
rows_all sees (p ∷ ps) = shown_rows sees p.start p.tree ++ rows_all sees ps

-- the children of a tree whose word starts at i
abbrev pub kids : Tree → ℕ → List Pending
kids (empty A) i = []
kids (leaf A t) i = []
kids (unary A t) i = record { tree = t; start = i } ∷ []
kids (binary A s t) i =
    record { tree = s; start = i } ∷ record { tree = t; start = i + length (word s) } ∷ []

-- the kind of a tree's top
abbrev pub kind_at : Tree → Kind
kind_at (empty A) = Kind.Empty
kind_at (leaf A t) = Kind.Atom
kind_at (unary A t) = Kind.Unary (root t)
kind_at (binary A s t) = Kind.Binary (root s) (root t) (length (word s))

-- what the writer has to know of a node
abbrev pub node_shape : Bool → Tree → Step
node_shape m t = record { kind = kind_at t; seeking = m }

-- the same of a node as it is shown
abbrev pub shown_kids : View → Tree → ℕ → List Pending
shown_kids sees t i = cond (sees (root t)) (kids t i) []

abbrev pub shown_kind : View → Tree → Kind
shown_kind sees t = cond (sees (root t)) (kind_at t) Kind.Closed

abbrev pub shown_shape : View → Bool → Tree → Step
shown_shape sees m t = record { kind = shown_kind sees t; seeking = m }

pub shape_of : (t : Tree) (r : Rule) (k : ℕ) (m : Bool) → Top r k t
    → step_of_clause r.clause k m ≡ node_shape m t
shape_of (empty A) r k m e = rw e.0 refl
shape_of (leaf A t) r k m e = rw e.2 refl
shape_of (unary A t) r k m e = rw e.1 refl
shape_of (binary A s t) r k m e = rw (e.1, e.2) refl

-- the tree's word stands in w where it should
pub record Sits (w : Word) (p : Pending) : Type 0 where
  pub within : p.start + length (word p.tree) ≤ length w
  pub spelled : word p.tree ≡ part w p.start (length (word p.tree))

-- one of the trees is swapped for the second tree: the first that has a node with two or more
-- choices
pub data Fork (g : Rules) : List Pending → List Pending → Type 0 where
  now : {t u : Tree} {i : ℕ} {ps : List Pending} → Second g t u
      → Fork g (record { tree = t; start = i } ∷ ps) (record { tree = u; start = i } ∷ ps)
  later : {t : Tree} {i : ℕ} {ps qs : List Pending} → Each g (OnlyChoice g) t → Fork g ps qs
      → Fork g (record { tree = t; start = i } ∷ ps) (record { tree = t; start = i } ∷ qs)

-- each is a first tree
abbrev pub AllFirst : Rules → List Pending → Type 0
AllFirst g ps = Every (λ (p : Pending). AllPreferred g p.tree) ps

-- what is aimed at: first trees, or (seeking) those but for the second tree of one
abbrev pub Aim : Rules → Bool → List Pending → Type 0
Aim g false us = AllFirst g us
Aim g true us = (ts : List Pending) × AllFirst g ts × Fork g ts us

-- what the rule at the place says of the tree
takes_shape : {g : Rules} {t : Tree} {p k : ℕ} → Takes g t p k → (r : Rule) → get_elem? g p ≡ some r
    → (m : Bool) → step_of_clause r.clause k m ≡ node_shape m t
takes_shape {g} {t} {p} {k} a r e m = let x = a.stands in let y : r ≡ a.rule = cc in
    rw y (shape_of t a.rule k m a.top)

first_kids : (g : Rules) (t : Tree) (i : ℕ) (ps : List Pending) → Beneath g (Preferred g) t
    → AllFirst g ps → AllFirst g (kids t i ++ ps)
first_kids g (empty A) i ps b a = a
first_kids g (leaf A t) i ps b a = a
first_kids g (unary A t) i ps b a = (b, a)
first_kids g (binary A s t) i ps b a = (b.0, (b.1, a))

only_no_other : {g : Rules} {A : ℕ} {w : Word} {a b p k q l : ℕ} → OnlyChoice g A w a b
    → Choice g A w p k → OtherChoice g A w p k q l → ⊥
only_no_other {p = p} {k} {q} {l} o f x =
    let e = o.only p k f in
    let h = o.only q l x.choice in
    x.other (h.0 ∙ sym e.0, h.1 ∙ sym e.1)

-- the step at a node, and what is aimed at beneath and after it
abbrev pub Stepped : Rules → Bool → ℕ → Tree → ℕ → List Pending → Rule → Type 0
Stepped g m l t i ps r = (step_of_clause r.clause l m ≡ node_shape m t) × Aim g m (kids t i ++ ps)

module _ {g : Rules} (d : Distinct g) where
  step_first : (t : Tree) (i : ℕ) (ps : List Pending) → AllPreferred g t → AllFirst g ps → (q l : ℕ)
      → Preferred g (root t) (word t) q l
      → (r : Rule) → get_elem? g q ≡ some r → Stepped g false l t i ps r
  step_first t i ps f a q l c r e =
      let n = top_of g (Preferred g) t f in
      let s = preferred_same g (root t) (word t) _ _ _ _ n.holds c in
      let k : Takes g t q l = rw (s.0, s.1) at n.takes in
      (takes_shape k r e false, first_kids g t i ps (beneath_of g (Preferred g) t f) a)

  step_other_choice : (t u : Tree) (i : ℕ) (ps : List Pending) → AllPreferred g t → AllFirst g ps
      → Swerves g t u → (p k q l : ℕ) → Preferred g (root u) (word u) p k
      → OtherChoice g (root u) (word u) p k q l → (r : Rule) → get_elem? g q ≡ some r
      → Stepped g false l u i ps r
  step_other_choice t u i ps f a sw p k q l c o r e =
      let n = top_of g (Preferred g) t f in
      let h = takes_unique d t sw.taken n.takes in
      let c' : Preferred g (root t) (word t) p k = rw (← sw.rooted, ← sw.spelled) c in
      let j = preferred_same g (root t) (word t) _ _ _ _ n.holds c' in
      let o' : OtherChoice g (root u) (word u) sw.place sw.split q l =
      rw (h.0, h.1, j.0, j.1) o in
      let s = other_same sw.place sw.split (root u) (word u) _ _ _ _ sw.node.holds o' in
      let x : Takes g u q l = rw (s.0, s.1) at sw.node.takes in
      (takes_shape x r e false, first_kids g u i ps sw.beneath a)

  step_other : {ts : List Pending} (p : Pending) (ps : List Pending) → Fork g ts (p ∷ ps)
      → AllFirst g ts → (p' k' q l : ℕ) → Preferred g (root p.tree) (word p.tree) p' k'
      → OtherChoice g (root p.tree) (word p.tree) p' k' q l → (r : Rule)
      → get_elem? g q ≡ some r → Stepped g false l p.tree p.start ps r
  step_other p ps (now {t = t} {i = i} (here sw)) a p' k' q l c o r e =
      step_other_choice t p.tree p.start ps a.0 a.1 sw p' k' q l c o r e
  step_other p ps (now (below n b)) a p' k' q l c o r e =
      let y : Node g (OnlyChoice g) p.tree = keep_unary (second_rooted b) (second_spelled b) n in
      absurd (only_no_other y.holds (preferred_choice g _ _ _ _ c) o)
  step_other p ps (now (left n b)) a p' k' q l c o r e =
      let y : Node g (OnlyChoice g) p.tree = keep_binary (second_rooted b) (second_spelled b)
      refl refl n in absurd (only_no_other y.holds (preferred_choice g _ _ _ _ c) o)
  step_other p ps (now (right n x b)) a p' k' q l c o r e =
      let y : Node g (OnlyChoice g) p.tree = keep_binary refl refl (second_rooted b)
      (second_spelled b) n in absurd (only_no_other y.holds (preferred_choice g _ _ _ _ c) o)
  step_other p ps (later x f) a p' k' q l c o r e = absurd
      (only_no_other (top_of g (OnlyChoice g) p.tree x).holds (preferred_choice g _ _ _ _ c) o)

  -- the node's only choice is the one picked
  only_takes : {t : Tree} → Node g (OnlyChoice g) t → (q l : ℕ) → OnlyChoice g (root t) (word t) q l
      → Takes g t q l
  only_takes n q l o = let s = o.only n.place n.split n.holds.choice in
      rw (s.0, s.1) at n.takes

  only_kids : (t : Tree) (i : ℕ) {ts qs : List Pending} → Each g (OnlyChoice g) t → Fork g ts qs
      → Fork g (kids t i ++ ts) (kids t i ++ qs)
  only_kids (empty A) i x f = f
  only_kids (leaf A t) i x f = f
  only_kids (unary A t) i x f = later x.1 f
  only_kids (binary A s t) i x f = later x.1.0 (later x.1.1 f)

  step_only : {ts : List Pending} (p : Pending) (ps : List Pending) → Fork g ts (p ∷ ps)
      → AllFirst g ts → (q l : ℕ) → OnlyChoice g (root p.tree) (word p.tree) q l
      → (r : Rule) → get_elem? g q ≡ some r → Stepped g true l p.tree p.start ps r
  step_only p ps (now {t = t} {i = i} (here sw)) a q l o r e =
      let n = top_of g (Preferred g) t a.0 in
      let o' : OnlyChoice g (root t) (word t) q l = rw (← sw.rooted, ← sw.spelled) o in
      let s = o'.only n.place n.split (preferred_choice g _ _ _ _ n.holds) in
      absurd (not_only d sw (record {
        place = q;
        split = l;
        takes = rw (s.0, s.1) at n.takes;
        holds = o';
      }))
  step_only p ps (now {i = i} {ps = ts} (below {A = A} {s = s} {s' = s'} n b)) a q l o r e =
      let x : Takes g (unary A s') q l =
      only_takes (keep_unary (second_rooted b) (second_spelled b) n) q l o in
      (takes_shape x r e true, (record { tree = s; start = i } ∷ ps, (a.0.1, a.1), now b))
  step_only p ps (now {i = i} (left {A = A} {s = s} {s' = s'} {t = t} n b)) a q l o r e =
      let x : Takes g (binary A s' t) q l =
      only_takes (keep_binary (second_rooted b) (second_spelled b) refl refl n) q l o in (
        takes_shape x r e true,
        (
          record { tree = s; start = i } ∷ record { tree = t; start = i + length (word s') } ∷ ps,
          (a.0.1.0, (a.0.1.1, a.1)),
          now b,
        ),
      )
  step_only p ps (now {i = i} (right {A = A} {s = s} {t = t} {t' = t'} n y b)) a q l o r e =
      let x : Takes g (binary A s t') q l =
      only_takes (keep_binary refl refl (second_rooted b) (second_spelled b) n) q l o in (
        takes_shape x r e true,
        (
          record { tree = s; start = i } ∷ record { tree = t; start = i + length (word s) } ∷ ps,
          (a.0.1.0, (a.0.1.1, a.1)),
          later y (now b),
        ),
      )
  step_only p ps (later {ps = ts} x f) a q l o r e =
      let y : Takes g p.tree q l = only_takes (top_of g (OnlyChoice g) p.tree x) q l o in (
        takes_shape y r e true,
        (
          kids p.tree p.start ++ ts,
          first_kids g p.tree p.start ts
              (beneath_of g (Preferred g) p.tree a.0) a.1,
          only_kids p.tree p.start x
              f,
        ),
      )

  -- THE STEP: what is picked at the next node is what the tree aimed at has there, and the aim goes
  -- on with its children
  pub aim_step : (s : Bool) (p : Pending) (ps : List Pending) → Aim g s (p ∷ ps)
      → (q l : ℕ) (m : Bool) → Picks g (root p.tree) (word p.tree) s q l m
      → (r : Rule) → get_elem? g q ≡ some r → Stepped g m l p.tree p.start ps r
  aim_step false p ps a q l false c r e = step_first p.tree p.start ps a.0 a.1 q l c r e
  aim_step false p ps a q l true c r e = elim c [ ]
  aim_step true p ps a q l false c r e =
      step_other p ps a.2 a.1 c.0 c.1 q l c.2 c.3 r e
  aim_step true p ps a q l true c r e = step_only p ps a.2 a.1 q l c r e

  -- A CLOSED NODE: nothing beneath it is written, and the aim goes on with what stands behind it
  pub aim_pass : (s : Bool) (p : Pending) (ps : List Pending) → Aim g s (p ∷ ps) → (m : Bool)
      → Passes g (root p.tree) (word p.tree) s m → Aim g m ps
  aim_pass false p ps a false c = a.1
  aim_pass false p ps a true c = absurd c
  aim_pass true p ps a m c = go a.2 a.1 m c
    where
      first : {t : Tree} → AllPreferred g t → FirstTree g (root t) (word t) t
      first f = record { rooted = refl; spelled = refl; first = f }

      go : {ts : List Pending} → Fork g ts (p ∷ ps) → AllFirst g ts → (m : Bool)
          → Passes g (root p.tree) (word p.tree) true m → Aim g m ps
      go (now b) f false c = f.1
      go (now {t = t} b) f true c =
          let x : SecondTree g (root t) (word t) p.tree =
          record { tree = t; first = first f.0; second = b } in
          absurd (c (rw (second_rooted b, second_spelled b) (two_trees d x)))
      go (later {t = t} x b) f false c = absurd (two_not_only {t = t} (first f.0) c x)
      go (later {ps = ts} x b) f true c = (ts, f.1, b)

-- each tree that is aimed at has a choice at its top
pub aim_choice : (g : Rules) (s : Bool) (p : Pending) (ps : List Pending) → Aim g s (p ∷ ps)
    → (q : ℕ) × (l : ℕ) × Choice g (root p.tree) (word p.tree) q l
aim_choice g false p ps a = let n = top_of g (Preferred g) p.tree a.0 in
    (n.place, n.split, preferred_choice g _ _ _ _ n.holds)
aim_choice g true p ps a = go a.2 a.1
  where
    go : {ts : List Pending} → Fork g ts (p ∷ ps) → AllFirst g ts
        → (q : ℕ) × (l : ℕ) × Choice g (root p.tree) (word p.tree) q l
    go (now {t = t} b) f =
        let n = top_of g (Preferred g) t f.0 in (
          n.place,
          n.split,
          rw (second_rooted b, second_spelled b)
              (preferred_choice g _ _ _ _ n.holds),
        )
    go (later {t = t} x b) f = let n = top_of g (Preferred g) t f.0 in
        (n.place, n.split, preferred_choice g _ _ _ _ n.holds)
