-- A chart that has come to rest settles whether a nonterminal has no valid tree of a word, one, or
-- two; one that has not (a loop has no end) may show two.
use mathlib.Core.Path.{◌≡◌, refl, sym, ◌∙◌, subst⁻¹}
use mathlib.Core.Bool.{Bool, true, false, not}
use mathlib.Core.List.Memᴰ
use mathlib.Core.List.{List, [], ◌∷◌, map}
use Prim.Native.Nat.{ℕ, zero, suc}
use lib.Dec.{T}
use Rattle.grammar.specs.Layout.{Word, Every}
use Rattle.grammar.specs.Trees.{Tree, root, word, Rules, Valid, Witness, TwoTrees}
use Rattle.worked_examples.specs.Claims.{TreeCount, no_tree, one_tree, two_trees, Is, Exactly}
use Rattle.worked_examples.specs.Claims.{left_length, LeftLengths}
use Rattle.grammar.proofs.Lists.{eq?, keep, collect, list?, every_keep, mem_keep, every_collect}
use Rattle.grammar.proofs.Lists.{mem_collect, mem_every, holds, holds_yes}
use Rattle.grammar.proofs.Marks.{word?}
use Rattle.worked_examples.proofs.Infixes.{Infix, infix_self}
use Rattle.worked_examples.proofs.Chart.{tree?, step, step_sound, complete}

pub data Chart : Type 0 where
  unfinished : List Tree → Chart
  finished : List Tree → Chart

-- valid trees only and, where it is finished, all of them
abbrev pub Good : Rules → Word → Chart → Type 0
Good g w (unfinished C) = Every (Valid g) C
Good g w (finished C) = Every (Valid g) C × (step g w C ≡ C)

abbrev pub rest : {P : Type 0} → Dec P → List Tree → Chart → Chart
rest (yes p) C r = finished C
rest (no n) C r = r

abbrev pub grow : ℕ → Rules → Word → List Tree → Chart
grow zero g w C = unfinished C
grow (suc n) g w C =
    let D = step g w C in
    let r = grow n g w D in
    rest (list? tree? D C) C r

rest_good : (g : Rules) (w : Word) (C : List Tree) (d : Dec (step g w C ≡ C)) (r : Chart)
    → Every (Valid g) C → Good g w r → Good g w (rest d C r)
rest_good g w C (yes p) r v h = (v, p)
rest_good g w C (no n) r v h = h

grow_good : (n : ℕ) (g : Rules) (w : Word) (C : List Tree) → Every (Valid g) C
    → Good g w (grow n g w C)
grow_good zero g w C v = v
grow_good (suc n) g w C v = rest_good g w C (list? tree? (step g w C) C) _ v
    (grow_good n g w (step g w C) (step_sound g w C v))

-- twelve steps are enough for the trees of the worked examples
abbrev pub chart : Rules → Word → Chart
chart g w = grow 12 g w []

pub chart_good : (g : Rules) (w : Word) → Good g w (chart g w)
chart_good g w = grow_good 12 g w [] tt

-- the trees of A over the whole of w
abbrev pub pick : ℕ → Word → Tree → List Tree
pick A w t = let r = keep (word? (word t) w) (t ∷ []) in keep (eq? (root t) A) r

abbrev pub trees : ℕ → Word → List Tree → List Tree
trees A w C = collect (pick A w) C

sound_trees : (g : Rules) (A : ℕ) (w : Word) (C : List Tree) → Every (Valid g) C
    → Every (Witness g A w) (trees A w C)
sound_trees g A w C h =
    every_collect (Witness g A w) (pick A w) C
    (λ t m. every_keep (Witness g A w) (eq? (root t) A) _
    (λ e. every_keep (Witness g A w) (word? (word t) w) _
    (λ f. (record { rooted = e; spelled = f; valid = mem_every (Valid g) C h m }, tt))))

pub exactly : (g : Rules) (A : ℕ) (w : Word) (C : List Tree) → Good g w (finished C)
    → Exactly g A w (trees A w C)
exactly g A w C h =
    record {
      sound = sound_trees g A w C h.0;
      whole =
          λ t k. mem_collect (pick A w) C
          (complete g w C h.1 t k.valid
          (subst⁻¹ (λ (u : Word). Infix u w) k.spelled (infix_self w)))
          (mem_keep (eq? (root t) A) k.rooted
          (mem_keep (word? (word t) w) k.spelled (Memᴰ.head refl)));
    }

-- what a list of all trees shows
abbrev pub shows : TreeCount → List Tree → Bool
shows no_tree [] = true
shows no_tree (t ∷ l) = false
shows one_tree [] = false
shows one_tree (t ∷ []) = true
shows one_tree (t ∷ s ∷ l) = false
shows two_trees [] = false
shows two_trees (t ∷ []) = false
shows two_trees (t ∷ s ∷ l) = not (holds (tree? t s))

differ : {s t : Tree} (d : Dec (s ≡ t)) → T (not (holds d)) → s ≡ t → ⊥
differ (yes p) h e = h
differ (no n) h e = n e

two_shown : (g : Rules) (A : ℕ) (w : Word) (l : List Tree) → Every (Witness g A w) l
    → T (shows two_trees l) → TwoTrees g A w
two_shown g A w [] x h = absurd h
two_shown g A w (t ∷ []) x h = absurd h
two_shown g A w (t ∷ s ∷ l) x h = record
    { first = t; second = s; witness₁ = x.0; witness₂ = x.1.0; differ = differ (tree? t s) h }

pub shown : (g : Rules) (A : ℕ) (w : Word) (v : TreeCount) (l : List Tree) → Exactly g A w l
    → T (shows v l) → Is v g A w
shown g A w no_tree [] x h = record { absent = λ t k. Memᴰ.not-nil (x.whole t k) }
shown g A w no_tree (t ∷ l) x h = absurd h
shown g A w one_tree [] x h = absurd h
shown g A w one_tree (t ∷ []) x h = record
    { tree = t; witness = x.sound.0; only = λ s k. Memᴰ.eq_of_singleton (x.whole s k) }
shown g A w one_tree (t ∷ s ∷ l) x h = absurd h
shown g A w two_trees l x h = two_shown g A w l x.sound h

-- the test of a verdict, and that it is right
abbrev pub reads : TreeCount → ℕ → Word → Chart → Bool
reads no_tree A w (unfinished C) = false
reads one_tree A w (unfinished C) = false
reads two_trees A w (unfinished C) = shows two_trees (trees A w C)
reads v A w (finished C) = shows v (trees A w C)

pub read : (g : Rules) (A : ℕ) (w : Word) (v : TreeCount) (c : Chart) → Good g w c
    → T (reads v A w c) → Is v g A w
read g A w no_tree (unfinished C) h t = absurd t
read g A w one_tree (unfinished C) h t = absurd t
read g A w two_trees (unfinished C) h t = two_shown g A w (trees A w C) (sound_trees g A w C h) t
read g A w v (finished C) h t = shown g A w v (trees A w C) (exactly g A w C h) t

-- at most one tree
abbrev pub few : List Tree → Bool
few [] = true
few (t ∷ []) = true
few (t ∷ s ∷ l) = false

few_right : (g : Rules) (A : ℕ) (w : Word) (l : List Tree) → Exactly g A w l → T (few l)
    → TwoTrees g A w → ⊥
few_right g A w [] x h k = Memᴰ.not-nil (x.whole k.first k.witness₁)
few_right g A w (t ∷ []) x h k = k.differ
    (Memᴰ.eq_of_singleton (x.whole k.first k.witness₁)
    ∙ sym (Memᴰ.eq_of_singleton (x.whole k.second k.witness₂)))
few_right g A w (t ∷ s ∷ l) x h k = absurd h

abbrev pub at_most_one : ℕ → Word → Chart → Bool
at_most_one A w (unfinished C) = false
at_most_one A w (finished C) = few (trees A w C)

pub not_two : (g : Rules) (A : ℕ) (w : Word) (c : Chart) → Good g w c → T (at_most_one A w c)
    → TwoTrees g A w → ⊥
not_two g A w (unfinished C) h t = absurd t
not_two g A w (finished C) h t = few_right g A w (trees A w C) (exactly g A w C h) t

-- the lengths of the left words of all trees
abbrev pub left_lengths : ℕ → Word → Chart → List ℕ → Bool
left_lengths A w (unfinished C) l = false
left_lengths A w (finished C) l = holds (list? eq? (map left_length (trees A w C)) l)

pub lefts_right : (g : Rules) (A : ℕ) (w : Word) (l : List ℕ) (c : Chart) → Good g w c
    → T (left_lengths A w c l) → LeftLengths g A w l
lefts_right g A w l (unfinished C) h t = absurd t
lefts_right g A w l (finished C) h t =
    record {
      trees = trees A w C;
      exactly = exactly g A w C h;
      lefts =
          holds_yes (list? eq? (map left_length (trees A w C)) l) t;
    }
