-- The way down the second tree: what holds between two turns, one turn, and the end.
use mathlib.Core.Path.{◌≡◌, refl, sym, ap, ◌∙◌, subst}
use mathlib.Core.Bool.{Bool, true, false}
use mathlib.Core.Logic.{◌⊎◌, ⊎_elim}
use mathlib.Core.List.{List, [], ◌∷◌, ◌++◌}
use Prim.Native.Nat.{ℕ, suc, ◌+◌, ◌-◌, ◌≤◌, ◌<◌}
use native.Mathlib.Omega.{arith}
use lib.ListN.{length, length-append}
use Rattle.sets.proofs.Basics.{clash}
use Rattle.sets.specs.Sets.{In}
use Rattle.grammar.specs.declared.Grammar.{Grammar}
use Rattle.grammar.specs.declared.Sentence.{Sentence}
use Rattle.grammar.specs.Sentences.{spelled}
use Rattle.grammar.specs.Layout.{Word}
use Rattle.grammar.specs.Trees.{Tree, empty, leaf, unary, binary, root, word, Rules}
use Rattle.grammar.specs.Choices.{AllPreferred, FirstTree, Second, SecondTree, Preferred, Beneath}
use Rattle.grammar.specs.Choices.{OnlyChoice, Each}
use Rattle.grammar.specs.Rows.{row_count}
use Rattle.grammar.specs.Content.{rules_of, Formed}
use Rattle.grammar.specs.SpanSheet.{part, second_word, SpanSheet}
use Rattle.grammar.proofs.ChoiceLaws.{second_tree_unique, second_rooted, second_spelled, two_trees}
use Rattle.grammar.proofs.ChoiceLaws.{two_not_only}
use Rattle.marks.proofs.Words.{cut, part_length}
use Rattle.std.specs.Prelude.{Option, Some, None}
use Rattle.rows.specs.declared.Kind.{Kind}
use Rattle.rows.specs.declared.Step.{Step}
use Rattle.rows.specs.Steps.{LeftWithin}
use Rattle.tree_choices.specs.Wanted.{Ready, Wanted}
use Rattle.tree_choices.specs.Picks.{PickedStep, HasChoice}
use Rattle.tree_choices.proofs.Pending.{Pending, node_shape, kind_at, kids, Fork, now, later}
use Rattle.tree_choices.proofs.Pending.{Aim, AllFirst}
use Rattle.tree_choices.proofs.Pending.{aim_step, aim_choice}
use Rattle.row_counts.specs.declared.Part.{Part}
use Rattle.row_counts.specs.declared.Way.{Way}
use Rattle.row_counts.specs.Capped.{capped}
use Rattle.row_counts.specs.Seconds.{Parted, PartedThere, Onward, OnwardTwo, BesideThere, Beside}
use Rattle.row_counts.specs.Walks.{Leaf}
use Rattle.row_counts.proofs.CappedLaws.{capped_one, sum_on, few_on, one_is}
use Rattle.row_counts.proofs.Firsts.{root_small, all_of}
use Rattle.grammar.specs.Distinct.{Distinct}

-- ---- a node with first trees beneath

-- both children of a tree u
pub record Two (g : Rules) (w : Word) (B C k i l : ℕ) (u : Tree) : Type 0 where
  pub left : Tree
  pub right : Tree
  pub first : FirstTree g B (part w i k) left
  pub second : FirstTree g C (part w (i + k) (l - k)) right
  pub rows : row_count u ≡ suc (row_count left + row_count right)
  pub small : (B < 64) × (C < 64)
  pub split : k ≤ l

-- its only child
pub record One (g : Rules) (w : Word) (B i l : ℕ) (u : Tree) : Type 0 where
  pub tree : Tree
  pub first : FirstTree g B (part w i l) tree
  pub rows : row_count u ≡ suc (row_count tree)
  pub small : B < 64

-- the children of a tree u whose top is of this kind
abbrev pub Children : Rules → Word → ℕ → ℕ → Tree → Kind → Type 0
Children g w i l u Kind.Empty = row_count u ≡ 1
Children g w i l u Kind.Atom = row_count u ≡ 1
Children g w i l u (Kind.Unary B) = One g w B i l u
Children g w i l u (Kind.Binary B C k) = Two g w B C k i l u
Children g w i l u Kind.Closed = row_count u ≡ 1

module _ {g : Grammar} (f : Formed g) (w : Word) (i l : ℕ) (fit : i + l ≤ length w) where
  children_of : (u : Tree) → word u ≡ part w i l
      → Beneath (rules_of g) (Preferred (rules_of g)) u
      → Children (rules_of g) w i l u (kind_at u)
  children_of (empty A) v b = refl
  children_of (leaf A y) v b = refl
  children_of (unary A t) v b = record {
    tree = t;
    first = record { rooted = refl; spelled = v; first = b };
    rows = refl;
    small = root_small f t b;
  }
  children_of (binary A t u) v b =
      let c = cut w (word t) (word u) i l fit v in
      record {
        left = t;
        right = u;
        first = record { rooted = refl; spelled = c.front; first = b.0 };
        second = record { rooted = refl; spelled = c.rest; first = b.1 };
        rows = refl;
        small = (root_small f t b.0, root_small f u b.1);
        split = omega (arith, c.fits);
      }

module _ {g : Grammar} {s : Sentence} {ws hs : List ℕ} (r : Ready g s ws hs) {st : Step} {i l : ℕ}
    (fit : i + l ≤ s.count) where
  pub children : (u : Tree) → Parted (rules_of g) (spelled s) st i l u → (kind : Kind)
      → st.kind ≡ kind → Children (rules_of g) (spelled s) i l u kind
  children u p kind e =
      subst (Children (rules_of g) (spelled s) i l u)
      (sym (ap (λ (y : Step). y.kind) p.shaped) ∙ e)
      (children_of r.formed (spelled s) i l (omega (arith, r.positioned.whole)) u p.spelled
      p.beneath)

  pub children_there : (x : PartedThere (rules_of g) (spelled s) st i l) (kind : Kind)
      → st.kind ≡ kind → Children (rules_of g) (spelled s) i l x.tree kind
  children_there x kind e = children x.tree x.parted kind e

  pub no_children : (u : Tree) → Parted (rules_of g) (spelled s) st i l u
      → (st.kind ≡ Kind.Empty) ⊎ ((st.kind ≡ Kind.Atom) ⊎ (st.kind ≡ Kind.Closed))
      → row_count u ≡ 1
  no_children u p k = ⊎_elim (children u p Kind.Empty)
      (⊎_elim (children u p Kind.Atom) (children u p Kind.Closed)) k

pub one_capped : (n : ℕ) → n ≡ 1 → 1 ≡ capped n
unfolding capped
one_capped n e = omega arith

pub one_sum : (x r n : ℕ) → x ≡ capped n → r ≡ capped (1 + x) → (m : ℕ) → m ≡ suc n → r ≡ capped m
one_sum x r n e f m h = f ∙ ap (λ (y : ℕ). capped (1 + y)) e ∙ capped_one 1 n
    ∙ ap capped (let q : 1 + n ≡ m = omega arith in q)

pub two_sum : (x y s r m n o : ℕ) → x ≡ capped m → y ≡ capped n → s ≡ capped (x + y)
    → r ≡ capped (1 + s) → o ≡ suc (m + n) → r ≡ capped o
unfolding capped
two_sum x y s r m n o a b c d e = omega arith

-- ---- between two turns

pub record SecondWalk (g : Rules) (w : Word) (goal a i l total : ℕ) : Type 0 where
  pub first : Tree
  pub second : Tree
  pub taken : AllPreferred g first
  pub parts : Second g first second
  pub rooted : root first ≡ a
  pub spelled : word first ≡ part w i l
  pub fits : i + l ≤ length w
  pub sum : capped (total + row_count second) ≡ capped goal
  pub few : total ≤ 4294967296

-- what the way is for: the child beside it is a first tree, and the way goes on
pub record Onway (g : Rules) (w : Word) (goal total : ℕ) (d : Way) : Type 0 where
  pub beside : BesideThere g w d.beside
  pub on : (own total' : ℕ) → Beside g w d.beside own → total' ≡ capped (total + own)
      → SecondWalk g w goal d.on.name d.on.start d.on.long total'

module _ {g : Grammar} {w : Word} {goal a i l total : ℕ} (f : Formed g)
    (x : SecondWalk (rules_of g) w goal a i l total) where
  aim : Aim (rules_of g) true (record { tree = x.second; start = i } ∷ [])
  aim = (record { tree = x.first; start = i } ∷ [], (x.taken, tt), now x.parts)

  root_is : root x.second ≡ a
  root_is = second_rooted x.parts ∙ x.rooted

  word_is : word x.second ≡ part w i l
  word_is = second_spelled x.parts ∙ x.spelled

  pub second_choice : HasChoice (rules_of g) a (part w i l)
  second_choice = rw (← root_is, ← word_is)
      (aim_choice (rules_of g) true (record { tree = x.second; start = i }) [] aim)

  module _ (st : Step) (c : PickedStep (rules_of g) a (part w i l) true st) where
    stepped : (st ≡ node_shape st.seeking x.second)
        × Aim (rules_of g) st.seeking (kids x.second i ++ [])
    stepped =
        let y = aim_step f.distinct true (record { tree = x.second; start = i }) [] aim
        c.place c.split st.seeking (rw (root_is, word_is) c.picks) c.rule
        c.stands in (c.step ∙ y.0, y.1)

    -- it parts here
    beneath_of : (u : Tree) → AllFirst (rules_of g) (kids u i ++ [])
        → Beneath (rules_of g) (Preferred (rules_of g)) u
    beneath_of (empty A) h = tt
    beneath_of (leaf A y) h = tt
    beneath_of (unary A t) h = h.0
    beneath_of (binary A t u) h = (h.0, h.1.0)

    aim_first : (m : Bool) → m ≡ false → Aim (rules_of g) m (kids x.second i ++ [])
        → AllFirst (rules_of g) (kids x.second i ++ [])
    aim_first false e h = h
    aim_first true e h = absurd (clash cc)

    pub here_parted : st.seeking ≡ false → Parted (rules_of g) w st i l x.second
    here_parted e = record {
      shaped = stepped.0;
      spelled = word_is;
      beneath = beneath_of
          x.second (aim_first st.seeking e stepped.1);
    }

    pub here_end : (r total' : ℕ) → st.seeking ≡ false
        → ((u : Tree) → Parted (rules_of g) w st i l u → r ≡ capped (row_count u))
        → total' ≡ capped (total + r) → total' ≡ capped goal
    here_end r total' e h s = s ∙ ap (λ (y : ℕ). capped (total + y)) (h x.second (here_parted e))
        ∙ capped_one total (row_count x.second) ∙ x.sum

    -- it goes on
    aim_fork : (m : Bool) → m ≡ true → Aim (rules_of g) m (kids x.second i ++ [])
        → (ts : List Pending) × AllFirst (rules_of g) ts
        × Fork (rules_of g) ts (kids x.second i ++ [])
    aim_fork true e h = h
    aim_fork false e h = absurd (clash cc)

    module _ (seek : st.seeking ≡ true) (ws : List ℕ) (sheet : SpanSheet (rules_of g) w ws) where
      two_of : {t u : Tree} (s n : ℕ) → s + n ≤ length w → AllPreferred (rules_of g) t
          → Second (rules_of g) t u → word t ≡ part w s n
          → In (second_word ws (length w) s n) (root t)
      two_of {t} s n h p q e =
          (sheet.two s n (root t) h (root_small f t p)).1
          (two_trees f.distinct (record
          { tree = t; first = record { rooted = refl; spelled = e; first = p }; second = q }))

      one_of : (t : Tree) (s n : ℕ) → s + n ≤ length w → AllPreferred (rules_of g) t
          → Each (rules_of g) (OnlyChoice (rules_of g)) t → word t ≡ part w s n
          → In (second_word ws (length w) s n) (root t) → ⊥
      one_of t s n h p q e y =
          two_not_only {t = t} (record { rooted = refl; spelled = e; first = p })
          ((sheet.two s n (root t) h (root_small f t p)).0 y) q

      going : (t u : Tree) (b s n : ℕ) → AllPreferred (rules_of g) t → Second (rules_of g) t u
          → root t ≡ b → word t ≡ part w s n → s + n ≤ length w
          → (own total' k : ℕ) → own ≡ capped (1 + k) → total' ≡ capped (total + own)
          → row_count x.second ≡ suc (k + row_count u) → SecondWalk (rules_of g) w
          goal b s n total'
      going t u b s n p q r v h own total' k e m j =
          record {
            first = t;
            second = u;
            taken = p;
            parts = q;
            rooted = r;
            spelled = v;
            fits = h;
            sum = sum_on total own total' k (row_count u) (row_count x.second) goal x.sum e m
                (omega (arith, j));
            few = few_on total own total' m;
          }

      pub onway : (d : Way) → Onward ws (length w) st.kind i l d → Onway (rules_of g) w goal total d
      onway d o = go x.second refl word_is
          (subst (λ (k : Kind). Onward ws (length w) k i l d)
          (ap (λ (y : Step). y.kind) stepped.0) o)
          (aim_fork st.seeking seek stepped.1).1
          (aim_fork st.seeking seek stepped.1).2
        where
          -- the way goes on in t, with second tree u, and the first tree t' stands beside
          both : {t u : Tree} (t' : Tree) (p q : Part) → AllPreferred (rules_of g) t
              → Second (rules_of g) t u → AllPreferred (rules_of g) t'
              → root t ≡ p.name → word t ≡ part w p.start p.long
              → p.start + p.long ≤ length w → root t' ≡ q.name → word t' ≡ part w q.start q.long
              → q.start + q.long ≤ length w → row_count x.second ≡ suc (row_count t' + row_count u)
              → Onway (rules_of g) w goal total (record { on = p; beside = Some q })
          both {t} {u} t' p q fs b fs' rt vt ft rt' vt' ft' e =
              let k : FirstTree (rules_of g) q.name (part w q.start q.long) t' =
              record { rooted = rt'; spelled = vt'; first = fs' } in
              record {
                beside = record {
                  small = rw (← rt') (root_small f t' fs');
                  fits = ft';
                  there = record { tree = t'; first = k };
                };
                on = λ own total' z s.
                    going t u p.name p.start p.long fs b rt vt ft own total' (row_count t') (z t' k)
                    s e;
              }

          go_both : (A : ℕ) (u u' : Tree) {ts : List Pending} → x.second ≡ binary A u u'
              → word (binary A u u') ≡ part w i l
              → OnwardTwo (In (second_word ws (length w) i (length (word u))) (root u)) (root u)
              (root u') (length (word u)) i l d
              → AllFirst (rules_of g) ts → Fork (rules_of g) ts (kids (binary A u u') i ++ [])
              → Onway (rules_of g) w goal total d
          go_both A u u' q v o fs (later p (later {ps = ps} _ x20)) = elim x20 [ ]
          go_both A u u' q v o fs (now {t = t} b) =
              let c = cut w (word u) (word u') i l x.fits v in
              let fl : i + length (word u) ≤ length w = omega (arith, x.fits, c.fits) in
              let fr : i + length (word u) + (l - length (word u)) ≤ length w =
              omega (arith, x.fits, c.fits) in
              let vt : word t ≡ part w i (length (word u)) = sym (second_spelled b) ∙ c.front in
              let two = subst (In (second_word ws (length w) i (length (word u))))
              (sym (second_rooted b)) (two_of i (length (word u)) fl fs.0 b vt) in
              rw (o.left two)
              (both u' _ _ fs.0 b fs.1.0 (sym (second_rooted b)) vt fl refl c.rest fr
              (rw q (omega arith)))
          go_both A u u' q v o fs (later p (now {t = t} b)) =
              let c = cut w (word u) (word u') i l x.fits v in
              let fl : i + length (word u) ≤ length w = omega (arith, x.fits, c.fits) in
              let fr : i + length (word u) + (l - length (word u)) ≤ length w =
              omega (arith, x.fits, c.fits) in
              let vt : word t ≡ part w (i + length (word u)) (l - length (word u)) =
              sym (second_spelled b) ∙ c.rest in
              rw (o.right (one_of u i (length (word u)) fl fs.0 p c.front))
              (both u _ _ fs.1.0 b fs.0 (sym (second_rooted b)) vt fr refl c.front fl
              (rw q (omega arith)))

          go : {ts : List Pending} (u : Tree) → x.second ≡ u → word u ≡ part w i l
              → Onward ws (length w) (kind_at u) i l d → AllFirst (rules_of g) ts
              → Fork (rules_of g) ts (kids u i ++ []) → Onway (rules_of g) w goal total d
          go (empty _) q v o fs y = absurd o
          go (leaf _ _) q v o fs y = absurd o
          go (unary A _) q v o fs (later {t = t} {ps = ps} p x29) = elim x29 [ ]
          go (unary A u) q v o fs (now {t = t} b) =
              rw o
              (record {
                beside = tt;
                on = λ own total' z s.
                    going t u (root u) i l fs.0 b (sym (second_rooted b))
                    (sym (second_spelled b) ∙ v) x.fits own total' 0 (z ∙ one_is) s
                    (rw q (omega arith));
              })
          go (binary A u u') q v o fs y = go_both A u u' q v o fs y

      -- it is no leaf
      pub no_leaf : Leaf st.kind → ⊥
      no_leaf k = go x.second (subst Leaf (ap (λ (y : Step). y.kind) stepped.0) k)
          (aim_fork st.seeking seek stepped.1).2
        where
          go : {ts : List Pending} (u : Tree) → Leaf (kind_at u)
              → Fork (rules_of g) ts (kids u i ++ []) → ⊥
          go {ts} (empty A) k y = elim y [ ]
          go {ts} (leaf A z) k y = elim y [ ]
          go {ts} (unary A u) k y = k
          go {ts} (binary A u u') k y = k

    -- the children of a node lie in the span
    pub split_le : LeftWithin st.kind l
    split_le = subst (λ (k : Kind). LeftWithin k l) (sym (ap (λ (y : Step). y.kind) stepped.0))
        (go x.second word_is)
      where
        go : (u : Tree) → word u ≡ part w i l → LeftWithin (kind_at u) l
        go (empty A) v = tt
        go (leaf A y) v = tt
        go (unary A u) v = tt
        go (binary A u u') v = omega (
          arith,
          length-append (word u) (word u'),
          ap length v,
          part_length w i l x.fits,
        )

-- the start, and the end where the count is too large
pub record SecondGoing (g : Rules) (w : Word) (a i l total : ℕ) : Type 0 where
  pub wanted : Wanted g 0 w true
  pub walk : SecondWalk g w (row_count wanted.tree) a i l total

pub second_start : (g : Rules) (w : Word) (n : ℕ) → length w ≡ n → Wanted g 0 w true
    → SecondGoing g w 0 0 n 0
second_start g w n e p =
    record {
      wanted = p;
      walk =
          record {
            first = p.goal.tree;
            second = p.tree;
            taken = p.goal.first.first;
            parts = p.goal.second;
            rooted = p.goal.first.rooted;
            spelled = p.goal.first.spelled ∙ all_of w n e;
            fits = omega arith;
            sum = ap capped (let q : 0 + row_count p.tree ≡ row_count p.tree = omega arith in
                q);
            few = omega arith;
          };
    }

pub second_large : {g : Rules} {w : Word} {goal a i l total : ℕ} → SecondWalk g w goal a i l total
    → (total < 4294967296 → ⊥) → total ≡ capped goal
unfolding capped
second_large x h = omega (arith, x.few, x.sum)

pub second_all : {g : Rules} {w : Word} → Distinct g → (p : Wanted g 0 w true) (r : ℕ)
    → r ≡ capped (row_count p.tree) → (u : Tree) → SecondTree g 0 w u → r ≡ capped (row_count u)
second_all d p r e u f =
    e ∙ ap (λ (v : Tree). capped (row_count v)) (second_tree_unique d p.goal f)

sum_some : (r n : ℕ) → r ≡ capped (1 + n) → 0 < r
unfolding capped
sum_some r n e = omega arith

sum_few : (r n : ℕ) → r ≡ capped (1 + n) → r ≤ 4294967296
unfolding capped
sum_few r n e = omega arith

-- the node's own row is there
pub beside_some : (g : Rules) (w : Word) (p : Option Part) (r : ℕ) → BesideThere g w p
    → Beside g w p r → (0 < r) × (r ≤ 4294967296)
beside_some g w None r b x = (omega arith, omega arith)
beside_some g w (Some p) r b x =
    let e = x b.there.tree b.there.first in
    (sum_some r (row_count b.there.tree) e, sum_few r (row_count b.there.tree) e)
