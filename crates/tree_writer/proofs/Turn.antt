-- The tree writer's loop: what holds between two turns, where it starts, one turn, and its ends.
use mathlib.Core.Path.{◌≡◌, refl, sym, ap, ◌∙◌}
use mathlib.Core.Bool.{Bool, true, false, cond}
use mathlib.Core.List.{List, [], ◌∷◌, ◌++◌}
use mathlib.Core.Option.{none}
use Rattle.std.specs.Prelude.{Some, None}
use Prim.Native.Nat.{ℕ, ◌+◌, ◌*◌, ◌-◌, ◌≤◌, ◌<◌}
use native.Mathlib.Omega.{arith}
use lib.ListN.{length, get_or, take, replicate, length-append}
use Rattle.grammar.specs.declared.Grammar.{Grammar}
use Rattle.grammar.specs.declared.Sentence.{Sentence}
use Rattle.grammar.specs.Layout.{Word}
use Rattle.grammar.specs.Trees.{Tree, empty, leaf, unary, binary, root, word, Rules}
use Rattle.grammar.specs.Rows.{start_of}
use Rattle.tree_view.specs.Shown.{View, shown_count}
use Rattle.tree_view.proofs.ShownLaws.{some_shown}
use Rattle.grammar.specs.Content.{rules_of}
use Rattle.grammar.specs.SpanSheet.{part}
use Rattle.rows.specs.declared.Step.{Step}
use Rattle.tree_writer.specs.Written.{row_room, seen_by, filled}
use Rattle.tree_choices.specs.Wanted.{Ready, Goal, Wanted}
use Rattle.tree_writer.specs.RowsWritten.{RowsWritten}
use Rattle.rows.specs.Bytes.{splice}
use Rattle.rows.specs.declared.Kind.{Kind}
use Rattle.rows.specs.Steps.{kind_byte, kids_of, entries_of, LeftWithin, Branched}
use Rattle.tree_choices.specs.Picks.{HasChoice, Looked, seen, closed}
use Rattle.tree_choices.proofs.Pending.{kind_at, shown_kids, shown_kind, shown_shape, Aim}
use Rattle.tree_choices.proofs.Pending.{aim_step, aim_pass}
use Rattle.tree_choices.proofs.Pending.{aim_choice}
use Rattle.tree_writer.proofs.Memory.{goal_unique, State, state_start, Popped, pop, turn}
use Rattle.tree_writer.proofs.Memory.{over, laid_full, laid_short}
use Rattle.grammar.specs.Distinct.{Distinct}
use Rattle.grammar.specs.Sentences.{spelled}

kind_within : (sees : View) (t : Tree) → LeftWithin (shown_kind sees t) (length (word t))
kind_within sees t = go (sees (root t)) t
  where
    go : (b : Bool) (t : Tree) → LeftWithin (cond b (kind_at t) Kind.Closed) (length (word t))
    go true (empty A) = tt
    go true (leaf A t) = tt
    go true (unary A t) = tt
    go true (binary A s t) = omega (arith, length-append (word s) (word t))
    go false t = tt

module _ {sees : View} {g : Rules} {w : Word} {u : Tree} {s : Bool} {out : List ℕ} {cap n top : ℕ}
    (x : Popped sees g w u s out cap n top) where
  -- the bytes on top, as the code reads them
  abbrev left : ℕ
  left = get_or out (4 * top) 0

  abbrev start : ℕ
  start = get_or out (4 * top + 1) 0

  abbrev long : ℕ
  long = get_or out (4 * top + 2) 0

  word_there : word x.tree ≡ part w start long
  word_there = rw x.length_byte x.sit.spelled

  pub within : start + long ≤ length w
  within = omega (arith, x.sit.within, x.length_byte)

  pub has_choice : HasChoice g left (part w start long)
  has_choice = rw (x.left, ← word_there)
      (aim_choice g s (record { tree = x.tree; start = start }) x.others x.aim)

  module _ (d : Distinct g) {st : Step} (c : Looked sees g left (part w start long) s st) where
    looked_step : (st ≡ shown_shape sees st.seeking x.tree)
        × Aim g st.seeking (shown_kids sees x.tree start ++ x.others)
    looked_step = go c
      where
        go : Looked sees g left (part w start long) s st
            → (st ≡ shown_shape sees st.seeking x.tree)
            × Aim g st.seeking (shown_kids sees x.tree start ++ x.others)
        go (seen e c) =
            let o : sees (root x.tree) ≡ true = ap sees (sym x.left) ∙ e in
            let a = aim_step d s (record { tree = x.tree; start = start }) x.others x.aim
            c.place c.split st.seeking
            (rw (← x.left, word_there) c.picks) c.rule c.stands in
            (rw o (c.step ∙ a.0), rw o a.1)
        go (closed e f p) =
            let o : sees (root x.tree) ≡ false = ap sees (sym x.left) ∙ e in
            let a = aim_pass d s (record { tree = x.tree; start = start }) x.others x.aim
            st.seeking (rw (← x.left, word_there) p) in (rw o f, rw o a)

    chosen_shape : st ≡ shown_shape sees st.seeking x.tree
    chosen_shape = looked_step.0

    pub chosen_split : LeftWithin st.kind long
    chosen_split = rw (ap (λ (y : Step). y.kind) chosen_shape, x.length_byte)
        (kind_within sees x.tree)

    pub chosen_turn : n + kids_of st.kind ≤ top → (out₁ out₂ : List ℕ) (r : ℕ)
        → out₁ ≡ splice out (4 * n) (left ∷ kind_byte st.kind ∷ start_of start long ∷ long ∷ [])
        → Branched out₁ out₂ (top + 1) r (kids_of st.kind)
        (entries_of st.kind start long)
        → State sees g w u st.seeking out₂ cap (n + 1) r
    chosen_turn = turn x st.seeking st chosen_shape looked_step.1

    pub chosen_over : top < n + kids_of st.kind → cap < shown_count sees u
    chosen_over = over x st.seeking st chosen_shape

-- what holds between two turns of the loop: the rows of the wanted tree are under way in a memory
-- that was `long` bytes long
pub record Running (sees : View) (g : Grammar) (s : Sentence) (seeking : Bool) (long cap : ℕ)
    (out : List ℕ) (n top : ℕ) (seek : Bool) : Type 0 where
  pub tree : Tree
  pub goal : Goal (rules_of g) 0 (spelled s) seeking tree
  pub state : State sees (rules_of g) (spelled s) tree seek out cap n top
  pub same : length out ≡ long

module _ {sees : View} {g : Grammar} {s : Sentence} {ws hs : List ℕ} {seeking : Bool}
    (r : Ready g s ws hs) where
  pub running_start : Wanted (rules_of g) 0 (spelled s) seeking → (l m : List ℕ) (cap : ℕ)
      → 4 * cap ≤ length l → 0 < cap
      → m ≡ splice l (4 * (cap - 1)) (0 ∷ 0 ∷ s.count ∷ 0 ∷ [])
      → Running sees g s seeking (length m) cap m 0 (cap - 1) seeking
  running_start p l m cap h k e =
      let f : m ≡ splice l (4 * (cap - 1)) (0 ∷ 0 ∷ length (spelled s) ∷ 0 ∷ []) =
      rw r.positioned.whole e in
      record {
        tree = p.tree;
        goal = p.goal;
        state = rw f (state_start sees (rules_of g) 0 (spelled s) seeking p.tree l cap p.goal h
            k);
        same = refl;
      }

  module _ {long cap : ℕ} {out : List ℕ} {n top : ℕ} {seek : Bool}
      (x : Running sees g s seeking long cap out n top seek) where
    pub popped : top < cap → Popped sees (rules_of g) (spelled s) x.tree seek out cap n top
    popped h = pop x.state h

    -- no room for the children
    pub running_over : cap < shown_count sees x.tree → (l m : List ℕ) → long ≡ length l
        → cap ≡ row_room l
        → m ≡ filled (seen_by sees) out none → (u : Tree)
        → Goal (rules_of g) 0 (spelled s) seeking u
        → RowsWritten sees u l m None
    running_over h l m e f z u a =
        let j = goal_unique r.formed.distinct 0 (spelled s) seeking u x.tree a x.goal in
        let k : length out ≡ length l = x.same ∙ e in
        rw j (laid_short sees x.tree l m (omega arith)
        (z ∙ ap (λ (y : ℕ). replicate (y - 0) 0) k))

    -- all is written
    pub running_done : cap ≤ top → (l m : List ℕ) → long ≡ length l
        → m ≡ take (4 * n) out ++ replicate (length out - 4 * n) 0
        → (u : Tree) → Goal (rules_of g) 0 (spelled s) seeking u
        → RowsWritten sees u l m (Some n)
    running_done h l m e z u a =
        let j = goal_unique r.formed.distinct 0 (spelled s) seeking u x.tree a x.goal in
        rw j (laid_full x.state h l m (x.same ∙ e) z)

-- no place at all
pub laid_none : (sees : View) (l m : List ℕ) → row_room l ≡ 0 → m ≡ filled (seen_by sees) l none
    → (u : Tree) → RowsWritten sees u l m None
laid_none sees l m h e u = laid_short sees u l m (omega (arith, some_shown sees u)) e
