-- Each nonterminal that derives a word has a first tree of it, and a second tree exactly if it has
-- two trees, with and without a loop.
use mathlib.Core.Path.{◌≡◌, refl, ap}
use mathlib.Core.List.{◌++◌}
use mathlib.Core.Logic.{◌⊎◌, inl, inr, ◌↔◌}
use Prim.Native.Nat.{ℕ, zero, suc, ◌+◌, ◌*◌, ◌≤◌, ◌<◌}
use native.Mathlib.Nat.{mul-le-mul_right, suc-mul}
use native.Mathlib.Omega.{arith}
use native.Mathlib.Decide.{dec_lt, ℕ_discrete}
use lib.ListN.{length, length-append}
use Rattle.grammar.specs.declared.BinaryMark.{BinaryMark}
use Rattle.grammar.specs.Layout.{Word}
use Rattle.grammar.specs.Trees.{Tree, empty, leaf, unary, binary, root, word, Rules}
use Rattle.grammar.specs.Trees.{HasBinary, Valid, valid_empty, valid_leaf, valid_unary}
use Rattle.grammar.specs.Trees.{valid_binary, Derives, NoTree, OneTree, TwoTrees}
use Rattle.grammar.specs.Choices.{Choice, Same, FirstChoice, OnlyChoice, OtherChoice}
use Rattle.grammar.specs.Choices.{LowChoice, Node, Each, Preferred, straight, looping}
use Rattle.grammar.specs.Choices.{AllPreferred, FirstTree, Second, here, below, left, right}
use Rattle.grammar.specs.Choices.{SecondTree}
use Rattle.grammar.specs.Cycles.{Nullable, Edge, by_unary, by_left, by_right, Cyclic}
use Rattle.grammar.proofs.Lists.{both?}
use Rattle.grammar.proofs.ChoiceLaws.{takes_of, preferred_choice, each_map, two_not_only}
use Rattle.grammar.proofs.ChoiceLaws.{one_tree, two_trees}
use Rattle.grammar.proofs.ByKind.{derives_of, inside, no_word}
use Rattle.grammar.proofs.Least.{Least₂, seek₂}
use Rattle.grammar.proofs.Acyclic.{Ranked, ranked, cyclic?}
use Rattle.grammar.proofs.CanBy.{KidsBy}
use Rattle.grammar.proofs.Deciding.{derives?, choice?}
use Rattle.grammar.proofs.LowTrees.{TreeBy, built, grown_up, low_exists}
use Rattle.grammar.specs.Distinct.{Distinct}

abbrev pub FirstOf : Rules → ℕ → Word → Type 0
FirstOf g A w = (t : Tree) × FirstTree g A w t

-- 1. without a loop, by descent: a child has a shorter word, or the same word and a lesser rank

module _ {g : Rules} (rk : Ranked g) where
  weight : ℕ → Word → ℕ
  weight A w = length w * suc rk.bound + rk.rank A

  shorter : (A B : ℕ) (w v : Word) → length v < length w → weight B v < weight A w
  unfolding weight
  shorter A B w v h =
      let m : suc (length v) * suc rk.bound ≤ length w * suc rk.bound =
      mul-le-mul_right (suc rk.bound) h in
      let n : length v * suc rk.bound + suc rk.bound ≤ length w * suc rk.bound =
      rw suc-mul at m in
      omega (arith, rk.small B)

  lower : (A B : ℕ) (w v : Word) → length v ≡ length w → Edge g A B → weight B v < weight A w
  unfolding weight
  lower A B w v h e = omega (arith, ap (λ (n : ℕ). n * suc rk.bound) h, rk.falls e)

  nullable_of : {t : Tree} → Valid g t → length (word t) ≡ 0 → Nullable g (root t)
  nullable_of {t} v e = record {
    tree = t;
    witness = record
        { rooted = refl; spelled = no_word (word t) e; valid = v };
  }

  left_lighter : (A : ℕ) (s t : Tree) (m : BinaryMark) → HasBinary g A (root s) (root t) m
      → Valid g t → Dec (0 < length (word t))
      → weight (root s) (word s) < weight A (word s ++ word t)
  left_lighter A s t m h v (yes e) =
      shorter A (root s) (word s ++ word t) (word s) (simp length-append (omega arith))
  left_lighter A s t m h v (no e) =
      lower A (root s) (word s ++ word t) (word s) (simp length-append (omega arith))
      (by_left (root t) m h (nullable_of v (omega arith)))

  right_lighter : (A : ℕ) (s t : Tree) (m : BinaryMark) → HasBinary g A (root s) (root t) m
      → Valid g s → Dec (0 < length (word s))
      → weight (root t) (word t) < weight A (word s ++ word t)
  right_lighter A s t m h v (yes e) =
      shorter A (root t) (word s ++ word t) (word t) (simp length-append (omega arith))
  right_lighter A s t m h v (no e) =
      lower A (root t) (word s ++ word t) (word t) (simp length-append (omega arith))
      (by_right (root s) m h (nullable_of v (omega arith)))

  -- what is derived and weighs less than n
  abbrev Lighter : ℕ → ℕ → Word → Type 0
  Lighter n B v = Derives g B v × (weight B v < n)

  -- the children of a valid node weigh less
  lighter : {t : Tree} → Valid g t → KidsBy (Lighter (weight (root t) (word t))) t
  lighter (valid_empty h) = tt
  lighter (valid_leaf h) = tt
  lighter (valid_unary {A = A} {t = t} m h x v) =
      (derives_of v, lower A (root t) (word t) (word t) refl (by_unary m h))
  lighter (valid_binary {A = A} {s = s} {t = t} m h x u v) = (
    (derives_of u, left_lighter A s t m h v (dec_lt 0 (length (word t)))),
    (derives_of v, right_lighter A s t m h u (dec_lt 0 (length (word s)))),
  )

  choice_of : {A : ℕ} {w : Word} → Derives g A w → (p : ℕ) × (k : ℕ) × Choice g A w p k
  choice_of d = let t = takes_of d.witness.valid in
      (t.0, t.1, record { tree = d.tree; witness = d.witness; takes = t.2 })

  first_step : (A : ℕ) (w : Word)
      → ((B : ℕ) (v : Word) → Lighter (weight A w) B v → TreeBy g (FirstChoice g) B v)
      → Derives g A w → TreeBy g (FirstChoice g) A w
  first_step A w b d = go (seek₂ (Choice g A w) (choice? g A w) (length g) (length w) (inside A w))
    where
      go : Least₂ (Choice g A w) ⊎ ((p k : ℕ) → Choice g A w p k → ⊥) → TreeBy g (FirstChoice g) A w
      go (inl l) =
          let c = l.holds in
          let n = weight (root c.tree) (word c.tree) in
          let e : n ≡ weight A w = rw (c.witness.rooted, c.witness.spelled) refl in
          grown_up (FirstChoice g) (Lighter n) (rw e b) c (lighter c.witness.valid)
          (record { choice = c; least = l.before })
      go (inr f) = let c = choice_of d in absurd (f c.0 c.1 c.2)

  first_below : (n A : ℕ) (w : Word) → Derives g A w → weight A w < n → TreeBy g (FirstChoice g) A w
  first_below zero A w d h = absurd (omega arith)
  first_below (suc n) A w d h =
      first_step A w (λ B v l. first_below n B v l.0 (omega (arith, l.1))) d

  pub straight_exists : (A : ℕ) (w : Word) → Derives g A w → TreeBy g (FirstChoice g) A w
  straight_exists A w d = first_below (suc (weight A w)) A w d (omega arith)

-- 2. each sheet

-- t has one choice only at each node, or a second tree
abbrev Fork : Rules → Tree → Type 0
Fork g t = Each g (OnlyChoice g) t ⊎ ((u : Tree) × Second g t u)

module _ {g : Rules} where
  -- sheets without a loop keep their trees: what is preferred is the first choice
  pub keeps_first : (Cyclic g → ⊥) → {A : ℕ} {w : Word} {p k : ℕ}
      → Preferred g A w p k ↔ FirstChoice g A w p k
  keeps_first n {A} {w} {p} {k} = (to, straight n)
    where
      to : Preferred g A w p k → FirstChoice g A w p k
      to (straight c f) = f
      to (looping c f) = absurd (n c)

  pub loops_low : Cyclic g → {A : ℕ} {w : Word} {p k : ℕ}
      → Preferred g A w p k ↔ LowChoice g A w p k
  loops_low y {A} {w} {p} {k} = (to, looping y)
    where
      to : Preferred g A w p k → LowChoice g A w p k
      to (straight c f) = absurd (c y)
      to (looping c f) = f

  preferred_tree : (A : ℕ) (w : Word) → Derives g A w → TreeBy g (Preferred g) A w
  preferred_tree A w d = go (cyclic? g)
    where
      go : Dec (Cyclic g) → TreeBy g (Preferred g) A w
      go (yes c) = let x = low_exists g d in (
        x.0,
        x.1,
        x.2,
        each_map g (LowChoice g) (Preferred g) (λ _ _ _ _ y. looping c y)
            x.0 x.3,
      )
      go (no c) = let x = straight_exists (ranked g c) A w d in (
        x.0,
        x.1,
        x.2,
        each_map g (FirstChoice g) (Preferred g) (λ _ _ _ _ y. straight c y)
            x.0 x.3,
      )

  -- every nonterminal that derives w has a first tree of it
  pub first_of_derives : {A : ℕ} {w : Word} → Derives g A w → FirstOf g A w
  first_of_derives {A} {w} d = let x = preferred_tree A w d in
      (x.0, record { rooted = x.1; spelled = x.2; first = x.3 })

  -- the children of a valid tree are derived
  derived_kids : {t : Tree} → Valid g t → KidsBy (Derives g) t
  derived_kids (valid_empty h) = tt
  derived_kids (valid_leaf h) = tt
  derived_kids (valid_unary m h x v) = derives_of v
  derived_kids (valid_binary m h x u v) = (derives_of u, derives_of v)

  -- at a node: one choice only, or the first of the others
  pub only_or_other : (A : ℕ) (w : Word) (p k : ℕ) → Choice g A w p k
      → OnlyChoice g A w p k ⊎ ((q : ℕ) × (l : ℕ) × OtherChoice g A w p k q l)
  only_or_other A w p k c =
      go (seek₂ Other dec_other (length g) (length w) (λ q l o. inside A w q l o.0))
    where
      Other : ℕ → ℕ → Type 0
      Other q l = Choice g A w q l × (Same q l p k → ⊥)

      dec_not : {X : Type 0} → Dec X → Dec (X → ⊥)
      dec_not (yes x) = no (λ f. f x)
      dec_not (no f) = yes f

      dec_same : (q l : ℕ) → Dec (Same q l p k)
      dec_same q l = both? (ℕ_discrete q p) (ℕ_discrete l k)

      dec_other : (q l : ℕ) → Dec (Other q l)
      dec_other q l = both? (choice? g A w q l) (dec_not (dec_same q l))

      unless : {X : Type 0} → Dec X → ((X → ⊥) → ⊥) → X
      unless (yes x) f = x
      unless (no k) f = absurd (f k)

      go : Least₂ Other ⊎ ((q l : ℕ) → Other q l → ⊥)
          → OnlyChoice g A w p k ⊎ ((q : ℕ) × (l : ℕ) × OtherChoice g A w p k q l)
      go (inl x) =
          inr (
            x.place,
            x.split,
            record {
              choice = x.holds.0;
              other = x.holds.1;
              least =
                  λ q l c' h. unless (dec_same q l) (λ f. x.before q l (c', f) h);
            },
          )
      go (inr f) =
          inl (record { choice = c; only = λ q l c'. unless (dec_same q l) (λ n. f q l (c', n)) })

  -- at the top of t: the only choice, or another and its tree
  fork_top : (t : Tree) → Node g (Preferred g) t
      → Node g (OnlyChoice g) t ⊎ ((u : Tree) × Second g t u)
  fork_top t n = go (only_or_other (root t) (word t) n.place n.split
      (preferred_choice g _ _ _ _ n.holds))
    where
      go : OnlyChoice g (root t) (word t) n.place n.split
          ⊎ ((q : ℕ) × (l : ℕ) × OtherChoice g (root t) (word t) n.place n.split q l)
          → Node g (OnlyChoice g) t ⊎ ((u : Tree) × Second g t u)
      go (inl o) = inl (record { place = n.place; split = n.split; takes = n.takes; holds = o })
      go (inr x) =
          let c = x.2.choice in
          let y = built (Preferred g) (Derives g) preferred_tree c
          (derived_kids c.witness.valid) in
          inr (
            y.0,
            here (record {
              place = n.place;
              split = n.split;
              taken = n.takes;
              rooted = y.1;
              spelled = y.2;
              node = record {
                place = x.0;
                split = x.1;
                takes = y.3;
                holds = rw (y.1, y.2)
                    x.2;
              };
              beneath = y.4;
            }),
          )

  -- a first tree has one choice only at each node, or a second tree
  pub fork : (t : Tree) → AllPreferred g t → Fork g t
  fork (empty A) n = fork_top (empty A) n
  fork (leaf A x) n = fork_top (leaf A x) n
  fork (unary A t) n = go (fork_top (unary A t) n.0) (fork t n.1)
    where
      go : Node g (OnlyChoice g) (unary A t) ⊎ ((u : Tree) × Second g (unary A t) u) → Fork g t
          → Fork g (unary A t)
      go (inr x) f = inr x
      go (inl o) (inl f) = inl (o, f)
      go (inl o) (inr x) = inr (unary A x.0, below o x.1)
  fork (binary A s t) n = go (fork_top (binary A s t) n.0) (fork s n.1.0) (fork t n.1.1)
    where
      go : Node g (OnlyChoice g) (binary A s t) ⊎ ((u : Tree) × Second g (binary A s t) u)
          → Fork g s → Fork g t → Fork g (binary A s t)
      go (inr x) e f = inr x
      go (inl o) (inr x) f = inr (binary A x.0 t, left o x.1)
      go (inl o) (inl e) (inr x) = inr (binary A s x.0, right o e x.1)
      go (inl o) (inl e) (inl f) = inl (o, (e, f))

  second_exists : {A : ℕ} {w : Word} → TwoTrees g A w → (u : Tree) × SecondTree g A w u
  second_exists {A} {w} h =
      go (first_of_derives (record { tree = h.first; witness = h.witness₁ }))
    where
      at : (f : FirstOf g A w) → Fork g f.0 → (u : Tree) × SecondTree g A w u
      at f (inl o) = absurd (two_not_only f.1 h o)
      at f (inr x) = (x.0, record { tree = f.0; first = f.1; second = x.1 })

      go : FirstOf g A w → (u : Tree) × SecondTree g A w u
      go f = at f (fork f.0 f.1.first)

  -- two trees exist exactly if the second tree does
  pub two_iff_second : Distinct g → {A : ℕ} {w : Word}
      → TwoTrees g A w ↔ ((u : Tree) × SecondTree g A w u)
  two_iff_second d = (λ h. second_exists h, λ s. two_trees d s.1)

  -- two trees exist exactly if some node of the first tree has two or more choices
  pub two_iff_fork : Distinct g → {A : ℕ} {w : Word} {t : Tree} → FirstTree g A w t
      → TwoTrees g A w ↔ (Each g (OnlyChoice g) t → ⊥)
  two_iff_fork d {A} {w} {t} f = (λ h o. two_not_only f h o, λ n. go n (fork t f.first))
    where
      go : (Each g (OnlyChoice g) t → ⊥) → Each g (OnlyChoice g) t ⊎ ((u : Tree) × Second g t u)
          → TwoTrees g A w
      go n (inl o) = absurd (n o)
      go n (inr x) = two_trees d (record { tree = t; first = f; second = x.1 })

  -- none, one or two
  pub some_verdict : Distinct g → (A : ℕ) (w : Word)
      → NoTree g A w ⊎ (OneTree g A w ⊎ TwoTrees g A w)
  some_verdict d A w = go (derives? g A w)
    where
      at : (f : FirstOf g A w) → Fork g f.0 → NoTree g A w ⊎ (OneTree g A w ⊎ TwoTrees g A w)
      at f (inl o) = inr (inl (one_tree f.1 o))
      at f (inr x) = inr (inr (two_trees d (record { tree = f.0; first = f.1; second = x.1 })))

      go : Dec (Derives g A w) → NoTree g A w ⊎ (OneTree g A w ⊎ TwoTrees g A w)
      go (yes x) = let f = first_of_derives x in at f (fork f.0 f.1.first)
      go (no k) = inl (record { absent = λ t x. k (record { tree = t; witness = x }) })
