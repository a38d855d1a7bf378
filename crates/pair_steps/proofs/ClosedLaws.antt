-- A CLOSED TABLE HAS ALL THAT MAY BE.
use mathlib.Core.Path.{◌≡◌, refl, sym, ap, ◌∙◌, subst, subst⁻¹}
use mathlib.Core.List.{List, Memᴰ}
use Prim.Native.Nat.{ℕ, ◌≤◌}
use native.Mathlib.Omega.{arith}
use Rattle.grammar.specs.declared.UnaryMark.{UnaryMark}
use Rattle.grammar.specs.Layout.{Every}
use Rattle.grammar.specs.Trees.{Rules}
use Rattle.pairs.specs.Survey.{Inherits}
use Rattle.pairs.specs.Strength.{rank}
use Rattle.pairs.specs.Shapes.{Form, tip, one, two, Shape, HasForm, tips, units, twos, firsts}
use Rattle.pairs.specs.Shapes.{seconds, Head}
use Rattle.pairs.specs.Shapes.{children}
use Rattle.pairs.specs.Relations.{equal, Offset, beside, below, Relation}
use Rattle.pairs.specs.Settings.{Corner, start₁, cut₁, start₂, cut₂, Point, at, stop₁, stop₂}
use Rattle.pairs.specs.Settings.{corners, Setting, setting}
use Rattle.pairs.specs.Settings.{AllowsOffset, MeetIn, InsideIn, KeepsIn, SitsIn, FitIn, whole₁}
use Rattle.pairs.specs.Settings.{whole₂}
use Rattle.pairs.specs.Settings.{sides₁, sides₂, relation_in, next_in}
use Rattle.pairs.specs.Facts.{Fact, stand, against, sorts, behind, Couple, with_each, crossed}
use Rattle.pairs.specs.Facts.{couples, Might}
use Rattle.pairs.specs.Facts.{behind_in, two_nodes, of_node, of_sorts, of_next}
use Rattle.pairs.proofs.Every.{every_map, every_all}
use Rattle.pairs.proofs.PairLaws.{every_with, every_crossed}
use Rattle.grammar.proofs.Lists.{mem_every}
use Rattle.pair_offsets.specs.declared.Frame.{Frame}
use Rattle.pair_offsets.specs.Frames.{rank_of}
use Rattle.pair_offsets.specs.Codes.{order_code}
use Rattle.pair_steps.specs.Nodes.{level_of, Weakest}
use Rattle.pair_steps.specs.Ranks.{Ranked}
use Rattle.pair_steps.specs.Tables.{InTable}
use Rattle.pair_steps.specs.Closing.{ToldBy, Kept, ClosedTable}
use Rattle.pair_steps.proofs.RankLaws.{ranks, ranked, by_ranks}

-- 1. weaker marks allow more

weaker : (k l : UnaryMark) → rank k ≤ rank l → (o : Offset) → AllowsOffset l o → AllowsOffset k o
weaker k l h beside a = tt
weaker UnaryMark.None l h (below o) a = tt
weaker UnaryMark.Offside UnaryMark.None h (below o) a = absurd (omega arith)
weaker UnaryMark.Offside UnaryMark.Offside h (below o) a = a
weaker UnaryMark.Offside UnaryMark.Offalign h (below o) a = absurd (omega arith)
weaker UnaryMark.Offside UnaryMark.Single h (below o) a = absurd a
weaker UnaryMark.Offalign UnaryMark.None h (below o) a = absurd (omega arith)
weaker UnaryMark.Offalign UnaryMark.Offside h (below o) a =
    λ e. omega (arith, ap order_code (sym e ∙ a))
weaker UnaryMark.Offalign UnaryMark.Offalign h (below o) a = a
weaker UnaryMark.Offalign UnaryMark.Single h (below o) a = absurd a
weaker UnaryMark.Single UnaryMark.None h (below o) a = absurd (omega arith)
weaker UnaryMark.Single UnaryMark.Offside h (below o) a = absurd (omega arith)
weaker UnaryMark.Single UnaryMark.Offalign h (below o) a = absurd (omega arith)
weaker UnaryMark.Single UnaryMark.Single h (below o) a = a

-- 2. a head under another mark

abbrev under : Form → UnaryMark → Form
under (tip a b) l = tip a b
under (one C k m) l = one C l m
under (two C D m k) l = two C D m l

abbrev head_under : Head → UnaryMark → Head
head_under x l = record { sort = x.sort; shape = x.shape; form = under x.form l }

under_looks : {g : Rules} {A : ℕ} {s : Shape} {h : Form} {l : UnaryMark} → Inherits g A l
    → HasForm g A s h → HasForm g A s (under h l)
under_looks i (tips j e) = tips j e
under_looks i (units j e p) = units i e p
under_looks i (twos j e p q) = twos i e p q
under_looks i (firsts j e p q) = firsts i e p q
under_looks i (seconds j e p q) = seconds i e p q

-- the mark that a form was made under
made_under : {g : Rules} {A : ℕ} {s : Shape} {h : Form} → HasForm g A s h
    → (l : UnaryMark) × Inherits g A l
made_under (tips {l = l} j e) = (l, j)
made_under (units {l = l} j e p) = (l, j)
made_under (twos {l = l} j e p q) = (l, j)
made_under (firsts {l = l} j e p q) = (l, j)
made_under (seconds {l = l} j e p q) = (l, j)

children_under : (h : Form) (l : UnaryMark) → children (under h l) ≡ children h
children_under (tip a b) l = refl
children_under (one C k m) l = refl
children_under (two C D m k) l = refl

level_inherits : {g : Rules} {A : ℕ} {s : Shape} {h : Form} (l : UnaryMark)
    → ((k : UnaryMark) → Inherits g A k → rank l ≤ rank k) → HasForm g A s h
    → rank (level_of (under h l)) ≤ rank l
level_inherits l f (tips j e) = omega arith
level_inherits l f (units j e p) = omega arith
level_inherits l f (twos j e p q) = omega arith
level_inherits l f (firsts j e p q) = omega arith
level_inherits l f (seconds j e p q) = omega arith

keeps_under : (σ : Setting) (i : Corner) (j : Point) (k l : UnaryMark) → rank k ≤ rank l
    → KeepsIn l σ i j → KeepsIn k σ i j
keeps_under σ i j k l h e =
    every_map
    {P = λ c. InsideIn σ (at i) j (at c) → AllowsOffset l (σ.offset i c)}
    {Q = λ c. InsideIn σ (at i) j (at c) → AllowsOffset k (σ.offset i c)}
    (λ c f z. weaker k l h (σ.offset i c) (f z)) corners e

sits_under : (g : Rules) (σ : Setting) (h : Form) (i m : Corner) (j : Point) (l : UnaryMark)
    → rank (level_of (under h l)) ≤ rank (level_of h) → SitsIn g σ h i m j
    → SitsIn g σ (under h l) i m j
sits_under g σ (tip a b) i m j l r s = s
sits_under g σ (one C k o) i m j l r s = (keeps_under σ i j l k r s.0, s.1, s.2, s.3)
sits_under g σ (two C D k o) i m j l r s =
    (s.0, s.1, s.2, keeps_under σ i j l o r s.3, s.4, s.5)

couples_under : (x y : Head) (k l : UnaryMark)
    → couples (head_under x k) (head_under y l) ≡ couples x y
couples_under x y k l = by x.form y.form
  where
    by : (h j : Form)
        → couples (record { sort = x.sort; shape = x.shape; form = under h k })
        (record { sort = y.sort; shape = y.shape; form = under j l })
        ≡ couples (record { sort = x.sort; shape = x.shape; form = h })
        (record { sort = y.sort; shape = y.shape; form = j })
    by (tip a b) (tip c d) = refl
    by (tip a b) (one C m n) = refl
    by (tip a b) (two C D m n) = refl
    by (one A o p) (tip c d) = refl
    by (one A o p) (one C m n) = refl
    by (one A o p) (two C D m n) = refl
    by (two A B o p) (tip c d) = refl
    by (two A B o p) (one C m n) = refl
    by (two A B o p) (two C D m n) = refl

-- 3. points by rank as a frame

frame_of : (Point → ℕ) → Frame
frame_of f =
    record {
      start = f (at start₁);
      cut = f (at cut₁);
      stop = f stop₁;
      begin = f (at start₂);
      split = f (at cut₂);
      end = f stop₂;
    }

ranks_same : (f : Point → ℕ) (p : Point) → rank_of (frame_of f) p ≡ f p
unfolding frame_of
ranks_same f (at start₁) = refl
ranks_same f (at cut₁) = refl
ranks_same f (at start₂) = refl
ranks_same f (at cut₂) = refl
ranks_same f stop₁ = refl
ranks_same f stop₂ = refl

frame_same : (f : Point → ℕ) → rank_of (frame_of f) ≡ f
frame_same f = λ i p. ranks_same f p i

-- 4. the least family

-- the least of the marks that a nonterminal inherits
pub record Least (g : Rules) (A : ℕ) : Type 0 where
  pub mark : UnaryMark
  pub inherits : Inherits g A mark
  pub least : (k : UnaryMark) → Inherits g A k → rank mark ≤ rank k

lower_by : {g : Rules} {A : ℕ} {s : Shape} {h : Form} → HasForm g A s h → (b : Least g A)
    → rank (level_of (under h b.mark)) ≤ rank (level_of h)
lower_by (tips j e) b = omega arith
lower_by (units {l = l} j e p) b = b.least l j
lower_by (twos {l = l} j e p q) b = b.least l j
lower_by (firsts {l = l} j e p q) b = b.least l j
lower_by (seconds {l = l} j e p q) b = b.least l j

-- y is x under the weakest mark
pub record Lowered (g : Rules) (x y : Head) : Type 0 where
  pub sort : y.sort ≡ x.sort
  pub shape : y.shape ≡ x.shape
  pub kids : children y.form ≡ children x.form
  pub weakest : Weakest g y

-- two nodes under the weakest marks and over points numbered by rank: the table has what they ask
-- of their children
pub record ToldRanked (g : Rules) (m : List ℕ) (σ : Setting) (x y : Head) : Type 0 where
  pub frame : Frame
  pub offset : Corner → Corner → Offset
  pub next : Point → ℕ
  pub by_rank : Ranked (rank_of frame)
  pub same : σ ≡ setting (rank_of frame) offset next
  pub left : Head
  pub right : Head
  pub lowered₁ : Lowered g x left
  pub lowered₂ : Lowered g y right
  pub told : ToldBy g m (setting (rank_of frame) offset next) left right

module _ (g : Rules) (m : List ℕ) (level : (A : ℕ) (l : UnaryMark) → Inherits g A l → Least g A)
    (closed : ClosedTable g m) where
  best : (x : Head) → HasForm g x.sort x.shape x.form → Least g x.sort
  best x h = let i = made_under h in level x.sort i.0 i.1

  weakest : (x : Head) (h : HasForm g x.sort x.shape x.form)
      → Weakest g (head_under x (best x h).mark)
  weakest x h =
      record {
        least = λ k i.
            let p = level_inherits (best x h).mark (best x h).least h in
            omega (arith, p, (best x h).least k i);
      }

  lower_level : (x : Head) (h : HasForm g x.sort x.shape x.form)
      → rank (level_of (under x.form (best x h).mark)) ≤ rank (level_of x.form)
  lower_level x h = lower_by h (best x h)

  told_under : (σ : Setting) (x y : Head) → (t : ToldBy g m σ x y)
      → ToldBy g m σ (head_under x (best x t.fit.looks₁).mark)
      (head_under y (best y t.fit.looks₂).mark)
  told_under σ x y t =
      let h = t.fit.looks₁ in
      let j = t.fit.looks₂ in
      let e = couples_under x y (best x h).mark (best y j).mark in
      record {
        fit =
            record {
              looks₁ = under_looks (best x h).inherits h;
              looks₂ = under_looks (best y j).inherits j;
              even = t.fit.even;
              nonempty₁ = t.fit.nonempty₁;
              nonempty₂ = t.fit.nonempty₂;
              sits₁ =
                  sits_under g σ x.form start₁ cut₁ stop₁ (best x h).mark (lower_level x h)
                  t.fit.sits₁;
              sits₂ =
                  sits_under g σ y.form start₂ cut₂ stop₂ (best y j).mark (lower_level y j)
                  t.fit.sits₂;
              meet = record { before = t.fit.meet.before; behind = t.fit.meet.behind };
            };
        lies = λ c k. t.lies c (subst (Memᴰ c) e k);
        goes = λ c k. t.goes c (subst (Memᴰ c) e k);
      }

  by_frame : (f : Point → ℕ) (l : Corner → Corner → Offset) (n : Point → ℕ) → setting f l n
      ≡ setting (rank_of (frame_of (ranks f))) l n
  by_frame f l n = by_ranks f l n ∙ (λ i. setting (sym (frame_same (ranks f)) i) l n)

  lowered : (x : Head) (h : HasForm g x.sort x.shape x.form)
      → Lowered g x (head_under x (best x h).mark)
  lowered x h =
      record {
        sort = refl;
        shape = refl;
        kids = children_under x.form (best x h).mark;
        weakest = weakest x h;
      }

  by_weakest : (f : Point → ℕ) (l : Corner → Corner → Offset) (n : Point → ℕ) (x y : Head)
      → ToldBy g m (setting f l n) x y → ToldRanked g m (setting f l n) x y
  by_weakest f l n x y t =
      let e = by_frame f l n in
      let t' : ToldBy g m (setting (rank_of (frame_of (ranks f))) l n) x y =
      subst (λ (σ : Setting). ToldBy g m σ x y) e t in
      record {
        frame = frame_of (ranks f);
        offset = l;
        next = n;
        by_rank = subst⁻¹ Ranked (frame_same (ranks f)) (ranked f);
        same = e;
        left = head_under x (best x t'.fit.looks₁).mark;
        right = head_under y (best y t'.fit.looks₂).mark;
        lowered₁ = lowered x t'.fit.looks₁;
        lowered₂ = lowered y t'.fit.looks₂;
        told = told_under (setting (rank_of (frame_of (ranks f))) l n) x y t';
      }

  kept : (σ : Setting) (x y : Head) → ToldRanked g m σ x y → Kept m σ x y
  kept σ x y r =
      let k =
      closed.closed r.frame r.by_rank r.offset r.next r.left r.right
      r.lowered₁.weakest r.lowered₂.weakest r.told in
      let s : Relation =
      relation_in (setting (rank_of r.frame) r.offset r.next) (whole₁ x) (whole₂ y) in
      subst (λ (σ : Setting). Kept m σ x y) (sym r.same)
      (record {
        node =
            subst (InTable m) (λ i. against (r.lowered₁.shape i) (r.lowered₂.sort i) s)
            k.node;
        sort = subst (InTable m) (λ i. sorts (r.lowered₁.sort i) (r.lowered₂.sort i) s)
            k.sort;
        next = λ d.
            subst (InTable m)
            (λ i.
            behind (r.lowered₁.sort i) (r.lowered₂.sort i) s.starts s.stops
            (next_in (setting (rank_of r.frame) r.offset r.next) (whole₁ x) (whole₂ y)))
            (k.next d);
      })

  abbrev Has : Fact → Type 0
  Has (stand σ x y) = Kept m σ x y
  Has (against s B r) = InTable m (against s B r)
  Has (sorts A B r) = InTable m (sorts A B r)
  Has (behind A B o p z) = (p ≡ equal → ⊥) → InTable m (behind A B o p z)

  -- the facts of couples are none of terminals
  plain : (x y : Head) (c : Couple) → Memᴰ c (couples x y) → (r : Relation) → Has (c.fact r)
      → InTable m (c.fact r)
  plain x y c k =
      mem_every (λ c. (r : Relation) → Has (c.fact r) → InTable m (c.fact r)) (couples x y) all k
    where
      all : Every (λ c. (r : Relation) → Has (c.fact r) → InTable m (c.fact r)) (couples x y)
      all =
          every_with (λ c. (r : Relation) → Has (c.fact r) → InTable m (c.fact r)) (whole₁ x)
          (against x.shape)
          (sides₂ y) (with_each (whole₂ y) (against y.shape) (sides₁ x)
          (crossed (sides₁ x) (sides₂ y))) (every_all (λ s r h. h) (sides₂ y))
          (every_with (λ c. (r : Relation) → Has (c.fact r) → InTable m (c.fact r)) (whole₂ y)
          (against y.shape) (sides₁ x) (crossed (sides₁ x) (sides₂ y))
          (every_all (λ s r h. h) (sides₁ x))
          (every_crossed (λ c. (r : Relation) → Has (c.fact r) → InTable m (c.fact r)) (sides₁ x)
          (sides₂ y) (every_all (λ s. every_all (λ u r h. h) (sides₂ y)) (sides₁ x))))

  told_by : (f : Point → ℕ) (l : Corner → Corner → Offset) (n : Point → ℕ) (x y : Head)
      → FitIn g (setting f l n) x y
      → ((c : Couple) → Memᴰ c (couples x y) → MeetIn (setting f l n) c.left c.right
      → Has (c.fact (relation_in (setting f l n) c.left c.right)))
      → ((c : Couple) → Memᴰ c (couples x y) → MeetIn (setting f l n) c.left c.right
      → ((relation_in (setting f l n) c.left c.right).stops ≡ equal → ⊥)
      → InTable m (behind_in (setting f l n) c.left c.right))
      → ToldRanked g m (setting f l n) x y
  told_by f l n x y fit lies goes =
      by_weakest f l n x y
      (record {
        fit = fit;
        lies = λ c h k. plain x y c h (relation_in (setting f l n) c.left c.right)
            (lies c h k);
        goes = goes;
      })

  -- A CLOSED TABLE HAS ALL THAT MAY BE
  pub has : {a : Fact} → Might g a → Has a
  has (two_nodes f l n x y fit lies goes) =
      kept (setting f l n) x y
      (told_by f l n x y fit (λ c h k. has (lies c h k)) (λ c h k d. has (goes c h k d) d))
  has (of_node h) = (has h).node
  has (of_sorts h) = (has h).sort
  has (of_next h) = (has h).next

  -- and what two nodes that may stand ask of their children
  pub told_ranked : {σ : Setting} {x y : Head} → Might g (stand σ x y) → ToldRanked g m σ x y
  told_ranked (two_nodes f l n x y fit lies goes) =
      told_by f l n x y fit (λ c h k. has (lies c h k)) (λ c h k d. has (goes c h k d) d)
