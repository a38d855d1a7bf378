-- The walk along the nodes of a first tree that have tokens: what holds between two turns, one
-- turn, and the end.
use mathlib.Core.Path.{◌≡◌, refl, sym, ap, ap₂, ◌∙◌, subst}
use mathlib.Core.Bool.{false}
use mathlib.Core.List.{List, [], ◌∷◌}
use Prim.Native.Nat.{ℕ, ◌+◌, ◌-◌, ◌≤◌, ◌<◌}
use native.Mathlib.Omega.{arith}
use native.Mathlib.Decide.{ℕ_discrete}
use lib.ListN.{length, get_or, set, length-append}
use lib.Seq.{get_or-set_same, get_or-set_other}
use Rattle.grammar.specs.declared.Grammar.{Grammar}
use Rattle.grammar.specs.Layout.{Word, Every}
use Rattle.grammar.specs.Trees.{Tree, empty, leaf, unary, binary, root, word, Rules}
use Rattle.grammar.specs.Choices.{AllPreferred, FirstTree}
use Rattle.grammar.specs.Rows.{row_count}
use Rattle.grammar.specs.Content.{rules_of, Formed}
use Rattle.grammar.specs.SpanSheet.{part}
use Rattle.grammar.proofs.ChoiceLaws.{first_unique}
use Rattle.grammar.proofs.ByKind.{no_word}
use Rattle.marks.proofs.Words.{Cut, cut, part_length}
use Rattle.std.specs.Prelude.{Some, None}
use Rattle.std.proofs.lemmas.Option.{none-some, same_Some}
use Rattle.rows.specs.declared.Kind.{Kind}
use Rattle.rows.specs.declared.Step.{Step}
use Rattle.rows.specs.Steps.{LeftWithin}
use Rattle.row_counts.specs.declared.Below.{Below}
use Rattle.row_counts.specs.declared.Child.{Child}
use Rattle.tree_choices.specs.Picks.{PickedStep}
use Rattle.tree_choices.proofs.Pending.{kind_at, node_shape}
use Rattle.row_counts.specs.Capped.{capped}
use Rattle.row_counts.specs.Nulls.{Nulls}
use Rattle.row_counts.specs.Walks.{FirstThere, Own, OwnTwo, Leaf, Under, UnderTwo}
use Rattle.row_counts.proofs.Firsts.{first_shape, root_small}
use Rattle.row_counts.proofs.CappedLaws.{capped_one, capped_same, sum_on, few_on}
use Rattle.row_counts.proofs.CappedLaws.{one_is}

-- ---- what waits

abbrev pub rows_of_all : List Tree → ℕ
rows_of_all [] = 0
rows_of_all (t ∷ ts) = row_count t + rows_of_all ts

-- no child
abbrev pub nothing : Child
nothing = record { name = 0; long = 0 }

-- the trees that wait stand one after the other from pos on, and are noted by their start
pub data TreeLine (waits : List Child) (w : Word) (end : ℕ) : ℕ → List Tree → Type 0 where
  done : {pos : ℕ} → pos ≡ end → TreeLine waits w end pos []
  next : {pos : ℕ} {t : Tree} {ts : List Tree} (n : ℕ) → word t ≡ part w pos n → 0 < n
      → pos + n ≤ end → get_or waits pos nothing ≡ record { name = root t; long = n }
      → TreeLine waits w end (pos + n) ts → TreeLine waits w end pos (t ∷ ts)

line_set : {waits : List Child} {w : Word} {end pos : ℕ} {ts : List Tree} (x : ℕ) (c : Child)
    → x < pos → TreeLine waits w end pos ts → TreeLine (set waits x c) w end pos ts
line_set x c h (done e) = done e
line_set {waits} {pos = pos} x c h (next n s p f u r) =
    next n s p f (get_or-set_other waits x pos c nothing (λ e. omega arith) ∙ u)
    (line_set x c (omega arith) r)

-- ---- between two turns

pub record Walk (g : Rules) (w : Word) (goal : ℕ) (end : ℕ) (waits : List Child)
    (a i l total : ℕ) : Type 0 where
  pub tree : Tree
  pub rest : List Tree
  pub first : AllPreferred g tree
  pub firsts : Every (AllPreferred g) rest
  pub rooted : root tree ≡ a
  pub spelled : word tree ≡ part w i l
  pub nonempty : 0 < l
  pub fits : i + l ≤ end
  pub within : end ≤ length w
  pub line : TreeLine waits w end (i + l) rest
  pub sum : capped (total + (row_count tree + rows_of_all rest)) ≡ capped goal
  pub few : total ≤ 4294967296

-- the sums
pub less_left : (total own total' : ℕ) → total < 4294967296 → 0 < own
    → total' ≡ capped (total + own) → 4294967296 - total' < 4294967296 - total
unfolding capped
less_left total own total' h k e = omega arith

-- a node's own rows
own_two : {z : List ℕ} {B C k l r : ℕ} → OwnTwo z B C k l r → (0 < r) × (r ≤ 4294967296)
unfolding capped
own_two {z} {B} {C} {k} {l} {r} o = go (ℕ_discrete k 0) (ℕ_discrete k l)
  where
    go : Dec (k ≡ 0) → Dec (k ≡ l) → (0 < r) × (r ≤ 4294967296)
    go (yes y) u = (omega (arith, o.left y), omega (arith, o.left y))
    go (no y) (yes u) =
        (omega (arith, o.right (omega arith) u), omega (arith, o.right (omega arith) u))
    go (no y) (no u) =
        (omega (arith, o.inner (omega arith) u), omega (arith, o.inner (omega arith) u))

own_some_le : (z : List ℕ) (kind : Kind) (l r : ℕ) → Own z kind l r
    → (0 < r) × (r ≤ 4294967296)
own_some_le z Kind.Empty l r o = (omega arith, omega arith)
own_some_le z Kind.Atom l r o = (omega arith, omega arith)
own_some_le z (Kind.Unary B) l r o = (omega arith, omega arith)
own_some_le z (Kind.Binary B C k) l r o = own_two o
own_some_le z Kind.Closed l r o = (omega arith, omega arith)

pub own_some : (z : List ℕ) (kind : Kind) (l r : ℕ) → Own z kind l r → 0 < r
own_some z kind l r o = (own_some_le z kind l r o).0

pub own_le : (z : List ℕ) (kind : Kind) (l r : ℕ) → Own z kind l r → r ≤ 4294967296
own_le z kind l r o = (own_some_le z kind l r o).1

module _ {g : Grammar} {w : Word} {goal end : ℕ} {waits : List Child} {a i l total : ℕ}
    (f : Formed g) (x : Walk (rules_of g) w goal end waits a i l total)
    (z : List ℕ) (nulls : Nulls (rules_of g) z) (st : Step)
    (c : PickedStep (rules_of g) a (part w i l) false st) where
  shaped : st ≡ node_shape st.seeking x.tree
  shaped = first_shape f.distinct x.tree x.first a (part w i l) x.rooted x.spelled st
      c

  long_is : length (word x.tree) ≡ l
  long_is = ap length x.spelled ∙ part_length w i l (omega (arith, x.fits, x.within))

  null_count : (t : Tree) → AllPreferred (rules_of g) t → length (word t) ≡ 0
      → get_or z (root t) 0 ≡ capped (row_count t)
  null_count t h e = nulls.count (root t) t (root_small f t h)
      (record { rooted = refl; spelled = no_word (word t) e; first = h })

  kind_is : (t : Tree) → st ≡ node_shape st.seeking t → st.kind ≡ kind_at t
  kind_is t e = ap (λ (y : Step). y.kind) e

  -- the left word lies in the span
  pub walk_split : LeftWithin st.kind l
  walk_split = subst (λ (k : Kind). LeftWithin k l) (sym (kind_is x.tree shaped))
      (go x.tree long_is)
    where
      go : (t : Tree) → length (word t) ≡ l → LeftWithin (kind_at t) l
      go (empty A) e = tt
      go (leaf A y) e = tt
      go (unary A t) e = tt
      go (binary A t u) e = omega (arith, length-append (word t) (word u))

  -- what a leaf leaves
  module _ (own total' : ℕ) (o : Own z st.kind l own) (s : total' ≡ capped (total + own))
      (k : Leaf st.kind) where
    leaf_there : (l ≡ 1) × (row_count x.tree ≡ 1) × (own ≡ 1)
    leaf_there = go x.tree shaped long_is
      where
        go : (t : Tree) → st ≡ node_shape st.seeking t → length (word t) ≡ l
            → (l ≡ 1) × (row_count t ≡ 1) × (own ≡ 1)
        go (empty A) e h = absurd (omega (arith, x.nonempty))
        go (leaf A y) e h =
            (sym h, refl, subst (λ (q : Kind). Own z q l own) (kind_is (leaf A y) e) o)
        go (unary A t) e h = absurd (subst Leaf (kind_is (unary A t) e) k)
        go (binary A t u) e h = absurd (subst Leaf (kind_is (binary A t u) e) k)

    leaf_long : l ≡ 1
    leaf_long = leaf_there.0

    leaf_sum : capped (total' + rows_of_all x.rest) ≡ capped goal
    leaf_sum =
        sum_on total own total' 0 (rows_of_all x.rest) (row_count x.tree + rows_of_all x.rest)
        goal x.sum (leaf_there.2 ∙ one_is) s (omega (arith, leaf_there.1))

    -- the walk is at its end
    pub leaf_end : i + 1 ≡ end → total' ≡ capped goal
    leaf_end e = go x.rest x.line leaf_sum
      where
        go : (ts : List Tree) → TreeLine waits w end (i + l) ts
            → capped (total' + rows_of_all ts) ≡ capped goal → total' ≡ capped goal
        go [] d q = capped_same total' goal (few_on total own total' s) q
        go (t ∷ ts) (next n b p r u q) y = absurd (omega (arith, leaf_long))

    pub leaf_next : (i + 1 ≡ end → ⊥)
        → Walk (rules_of g) w goal end waits (get_or waits (i + 1) nothing).name (i + 1)
        (get_or waits (i + 1) nothing).long total'
    leaf_next e = go x.rest x.firsts
        (subst (λ (q : ℕ). TreeLine waits w end (i + q) x.rest) leaf_long x.line)
        leaf_sum
      where
        go : (ts : List Tree) → Every (AllPreferred (rules_of g)) ts
            → TreeLine waits w end (i + 1) ts → capped (total' + rows_of_all ts) ≡ capped goal
            → Walk (rules_of g) w goal end waits (get_or waits (i + 1) nothing).name (i + 1)
            (get_or waits (i + 1) nothing).long total'
        go [] fs (done q) y = absurd (e q)
        go (t ∷ ts) fs (next n b p r u q) y =
            rw u
            (record {
              tree = t;
              rest = ts;
              first = fs.0;
              firsts = fs.1;
              rooted = refl;
              spelled = b;
              nonempty = p;
              fits = r;
              within = x.within;
              line = q;
              sum = y;
              few = few_on total own total' s;
            })

  -- what another node leaves: its first child that has tokens, and the second where both have
  module _ (own total' : ℕ) (d : Below) (o : Own z st.kind l own)
      (s : total' ≡ capped (total + own)) (dn : Under st.kind l d) where
    abbrev b : ℕ
    b = d.first.name

    abbrev n : ℕ
    n = d.first.long

    -- one child alone goes on
    one_on : (t : Tree) → AllPreferred (rules_of g) t → root t ≡ b → word t ≡ part w i l → n ≡ l
        → (e : ℕ) → own ≡ capped (1 + e)
        → row_count x.tree ≡ (1 + e) + row_count t
        → Walk (rules_of g) w goal end waits b i n total'
    one_on t h r q m e p j =
        record {
          tree = t;
          rest = x.rest;
          first = h;
          firsts = x.firsts;
          rooted = r;
          spelled = rw m q;
          nonempty = omega (arith, x.nonempty);
          fits = omega (arith, x.fits);
          within = x.within;
          line = rw m x.line;
          sum = sum_on total own total' e (row_count t + rows_of_all x.rest)
              (row_count x.tree + rows_of_all x.rest) goal x.sum p s (omega arith);
          few = few_on total own total' s;
        }

    -- the case of a tree
    abbrev Same : Type 0
    Same = d.right ≡ None → Walk (rules_of g) w goal end waits b i n total'

    abbrev Push : Type 0
    Push =
        (c : Child) → d.right ≡ Some c → (length waits ≡ 65) → (end ≤ 64)
        → Walk (rules_of g) w goal end (set waits (i + n) c) b i n total'

    on : Same × (Push × (n ≤ l))
    on = go x.tree refl shaped x.first x.spelled
      where
        go : (t : Tree) → x.tree ≡ t → st ≡ node_shape st.seeking t → AllPreferred (rules_of g) t
            → word t ≡ part w i l → Same × (Push × (n ≤ l))
        go (empty A) q e h v = absurd (subst (λ (y : Kind). Under y l d) (kind_is (empty A) e) dn)
        go (leaf A y) q e h v = absurd (subst (λ (y : Kind). Under y l d) (kind_is (leaf A y) e) dn)
        go (unary A t) q e h v =
            let k = kind_is (unary A t) e in
            let o' : own ≡ 1 = subst (λ (y : Kind). Own z y l own) k o in
            let f : d ≡ record { first = record { name = root t; long = l }; right = None } =
            subst (λ (y : Kind). Under y l d) k dn in
            let be = ap (λ (y : Below). y.first.name) f in
            let nt = ap (λ (y : Below). y.first.long) f in
            let ri = ap (λ (y : Below). y.right) f in (
              λ _. one_on t h.1 (sym be) v nt 0 (o' ∙ one_is) (rw q (omega arith)),
              (λ C m _ _. absurd (none-some C (sym ri ∙ m)), omega (arith, nt)),
            )
        go (binary A t u) q e h v =
            cases (ℕ_discrete (length (word t)) 0) (ℕ_discrete (length (word t)) l)
          where
            o' : OwnTwo z (root t) (root u) (length (word t)) l own
            o' = subst (λ (y : Kind). Own z y l own) (kind_is (binary A t u) e) o

            dn' : UnderTwo (root t) (root u) (length (word t)) l d
            dn' = subst (λ (y : Kind). Under y l d) (kind_is (binary A t u) e) dn

            cu : Cut w (word t) (word u) i l
            cu = cut w (word t) (word u) i l (omega (arith, x.fits, x.within)) v

            all : length (word t) + length (word u) ≡ l
            all = sym (length-append (word t) (word u)) ∙ ap length v
                ∙ part_length w i l (omega (arith, x.fits, x.within))

            cases : Dec (length (word t) ≡ 0) → Dec (length (word t) ≡ l) → Same × (Push × (n ≤ l))
            cases (yes m) y =
                let f = dn'.left m in
                let be = ap (λ (y : Below). y.first.name) f in
                let nt = ap (λ (y : Below). y.first.long) f in
                let ri = ap (λ (y : Below). y.right) f in
                let vu : word u ≡ part w i l = cu.rest ∙ ap₂ (part w)
                (let j : i + length (word t) ≡ i = omega arith in j)
                (let j : l - length (word t) ≡ l = omega arith in j) in
                let cnt = o'.left m ∙ ap (λ (j : ℕ). capped (1 + j)) (null_count t h.1.0 m)
                ∙ capped_one 1 (row_count t) in (
                  λ _. one_on u h.1.1 (sym be) vu (omega (arith, nt)) (row_count t) cnt
                      (rw q (omega arith)),
                  (λ C j _ _. absurd (none-some C (sym ri ∙ j)), omega (arith, nt)),
                )
            cases (no m) (yes y) =
                let f = dn'.right (omega arith) y in
                let be = ap (λ (y : Below). y.first.name) f in
                let nt = ap (λ (y : Below). y.first.long) f in
                let ri = ap (λ (y : Below). y.right) f in
                let vt : word t ≡ part w i l = cu.front ∙ ap (part w i) y in
                let cnt = o'.right (omega arith) y ∙ ap (λ (j : ℕ). capped (1 + j))
                (null_count u h.1.1 (omega (arith, all)))
                ∙ capped_one 1 (row_count u) in (
                  λ _. one_on t h.1.0 (sym be) vt (nt ∙ y) (row_count u) cnt (rw q (omega arith)),
                  (λ C j _ _. absurd (none-some C (sym ri ∙ j)), omega (arith, nt, y)),
                )
            cases (no m) (no y) =
                let f = dn'.inner (omega arith) y in
                let be = ap (λ (y : Below). y.first.name) f in
                let nt = ap (λ (y : Below). y.first.long) f in
                let ri = ap (λ (y : Below). y.right) f in (
                  λ j. absurd (none-some right (sym j ∙ ri)),
                  (
                    λ c j lw en. push nt be c (same_Some c right (sym j ∙ ri)) lw en,
                    omega (arith, nt, all),
                  ),
                )
              where
                right : Child
                right = record { name = root u; long = l - length (word t) }

                push : n ≡ length (word t) → b ≡ root t → (c : Child) → c ≡ right
                    → length waits ≡ 65 → end ≤ 64
                    → Walk (rules_of g) w goal end (set waits (i + n) c) b i n total'
                push nt be c is lw en =
                    record {
                      tree = t;
                      rest = u ∷ x.rest;
                      first = h.1.0;
                      firsts = (h.1.1, x.firsts);
                      rooted = sym be;
                      spelled = rw nt cu.front;
                      nonempty = omega arith;
                      fits = omega (arith, x.fits, all);
                      within = x.within;
                      line =
                          next {pos = i + n} {t = u} {ts = x.rest} (l - n) (rw nt cu.rest)
                          (omega (arith, all)) (omega (arith, x.fits, all))
                          (get_or-set_same waits (i + n) c nothing (omega (arith, x.fits, all))
                          ∙ is ∙ ap (λ (k : ℕ). record { name = root u; long = l - k }) (sym nt))
                          (subst (λ (p : ℕ). TreeLine (set waits (i + n) c) w end p x.rest)
                          (let p : i + l ≡ i + n + (l - n) = omega (arith, all) in p)
                          (line_set (i + n) c (omega (arith, all)) x.line));
                      sum =
                          sum_on total own total' 0 (row_count t
                          + (row_count u + rows_of_all x.rest))
                          (row_count x.tree + rows_of_all x.rest) goal x.sum
                          (o'.inner (omega arith) y ∙ one_is) s (rw q (omega arith));
                      few = few_on total own total' s;
                    }

    pub down_same : d.right ≡ None → Walk (rules_of g) w goal end waits b i n total'
    down_same = on.0

    pub down_push : (c : Child) → d.right ≡ Some c → length waits ≡ 65 → end ≤ 64
        → Walk (rules_of g) w goal end (set waits (i + n) c) b i n total'
    down_push = on.1.0

    pub down_le : n ≤ l
    down_le = on.1.1

-- the start, and the end where the count is too large
pub walk_start : (g : Rules) (w : Word) (A i l : ℕ) (waits : List Child)
    (p : FirstThere g A (part w i l)) → 0 < l → i + l ≤ length w
    → Walk g w (row_count p.tree) (i + l) waits A i l 0
walk_start g w A i l waits p h k =
    record {
      tree = p.tree;
      rest = [];
      first = p.first.first;
      firsts = tt;
      rooted = p.first.rooted;
      spelled = p.first.spelled;
      nonempty = h;
      fits = omega arith;
      within = k;
      line = done refl;
      sum = ap capped (let e : 0 + (row_count p.tree + 0) ≡ row_count p.tree = omega arith in
          e);
      few = omega arith;
    }

pub walk_large : {g : Rules} {w : Word} {goal end : ℕ} {waits : List Child} {a i l total : ℕ}
    → Walk g w goal end waits a i l total → (total < 4294967296 → ⊥) → total ≡ capped goal
unfolding capped
walk_large x h = omega (arith, x.few, x.sum)

pub walk_all : {g : Rules} {A : ℕ} {w : Word} (p : FirstThere g A w) (r : ℕ)
    → r ≡ capped (row_count p.tree) → (t : Tree) → FirstTree g A w t → r ≡ capped (row_count t)
walk_all p r e t f = e ∙ ap (λ (u : Tree). capped (row_count u)) (first_unique p.first f)

-- what holds between two turns of the loop: the rows of the wanted tree are under way
pub record Going (g : Rules) (w : Word) (A j n end : ℕ) (waits : List Child)
    (a i l total : ℕ) : Type 0 where
  pub there : FirstThere g A (part w j n)
  pub walk : Walk g w (row_count there.tree) end waits a i l total
  pub places : length waits ≡ 65
  pub low : end ≤ 64
