-- The lent bytes of the tree writer between two turns: rows at the front, pending nodes at the end,
-- four bytes each.
use mathlib.Core.Path.{◌≡◌, refl, sym, ap, ◌∙◌, subst}
use mathlib.Core.Bool.{Bool, true, false, cond}
use mathlib.Core.List.{List, [], ◌∷◌, ◌++◌, append_assoc, append-nil}
use mathlib.Core.Option.{none}
use Rattle.std.specs.Prelude.{Some, None}
use Prim.Native.Nat.{ℕ, ◌+◌, ◌*◌, ◌-◌, ◌≤◌, ◌<◌}
use native.Mathlib.Omega.{arith}
use lib.ListN.{length, get_or, take, drop, replicate, length-append, length-take, length-drop}
use lib.Seq.{drop-drop, take-add, get_or-drop, length-take-le, take_all}
use Rattle.grammar.specs.Layout.{Word, Every}
use Rattle.grammar.specs.Trees.{Tree, empty, leaf, unary, binary, root, word, Rules}
use Rattle.grammar.specs.Rows.{start_of}
use Rattle.tree_view.specs.Shown.{View, closed_row, shown_rows, shown_count}
use Rattle.tree_view.proofs.ShownLaws.{length_shown, some_shown}
use Rattle.grammar.proofs.ChoiceLaws.{append_inj, first_unique, second_tree_unique, second_rooted}
use Rattle.grammar.proofs.ChoiceLaws.{second_spelled}
use Rattle.rows.specs.declared.Step.{Step}
use Rattle.tree_writer.specs.Written.{row_room, seen_by, filled}
use Rattle.tree_choices.specs.Wanted.{Goal}
use Rattle.tree_writer.specs.RowsWritten.{RowsWritten}
use Rattle.rows.specs.Bytes.{splice}
use Rattle.rows.specs.declared.Kind.{Kind}
use Rattle.rows.specs.Steps.{kind_byte, kids_of, entries_of, Branched}
use Rattle.rows.proofs.BytesLaws.{length_splice, take_splice, drop_splice, drop_splice_high}
use Rattle.tree_choices.proofs.Pending.{Pending, entries, rows_all, kids, kind_at, shown_kids}
use Rattle.tree_choices.proofs.Pending.{shown_kind, shown_shape, Sits, Fork, Aim}
use Rattle.grammar.specs.Distinct.{Distinct}

-- 1. the rows shown of a tree: its own, then those of its children

module _ (sees : View) where
  abbrev pub row : Tree → ℕ → List ℕ
  row t i =
      root t ∷ kind_byte (shown_kind sees t) ∷ start_of i (length (word t)) ∷ length (word t) ∷ []

  pub rows_split : (t : Tree) (i : ℕ)
      → shown_rows sees i t ≡ row t i ++ rows_all sees (shown_kids sees t i)
  rows_split (empty A) i = go (sees A)
    where
      go : (b : Bool) → cond b (A ∷ 0 ∷ 0 ∷ 0 ∷ []) (closed_row i (empty A))
          ≡ (A ∷ kind_byte (cond b (kind_at (empty A)) Kind.Closed) ∷ 0 ∷ 0 ∷ [])
          ++ rows_all sees (cond b [] [])
      go true = refl
      go false = refl
  rows_split (leaf A t) i = go (sees A)
    where
      go : (b : Bool) → cond b (A ∷ 1 ∷ i ∷ 1 ∷ []) (closed_row i (leaf A t))
          ≡ (A ∷ kind_byte (cond b (kind_at (leaf A t)) Kind.Closed) ∷ i ∷ 1 ∷ [])
          ++ rows_all sees (cond b [] [])
      go true = refl
      go false = refl
  rows_split (unary A t) i = go (sees A)
    where
      go : (b : Bool) → cond b (A ∷ 2 ∷ start_of i (length (word t)) ∷ length (word t)
          ∷ shown_rows sees i t) (closed_row i (unary A t))
          ≡ (A ∷ kind_byte (cond b (kind_at (unary A t)) Kind.Closed)
          ∷ start_of i (length (word t)) ∷ length (word t) ∷ [])
          ++ rows_all sees (cond b (kids (unary A t) i) [])
      go true = rw append-nil refl
      go false = refl
  rows_split (binary A s t) i = go (sees A)
    where
      go : (b : Bool)
          → cond b (A ∷ 3 ∷ start_of i (length (word s ++ word t)) ∷ length (word s ++ word t)
          ∷ (shown_rows sees i s ++ shown_rows sees (i + length (word s)) t))
          (closed_row i (binary A s t)) ≡ (A ∷ kind_byte (cond b (kind_at (binary A s t))
          Kind.Closed) ∷ start_of i (length (word s ++ word t))
          ∷ length (word s ++ word t) ∷ [])
          ++ rows_all sees (cond b (kids (binary A s t) i) [])
      go true = rw (append-nil (shown_rows sees (i + length (word s)) t)) refl
      go false = refl

  pub kids_count : (t : Tree) (i : ℕ) → length (shown_kids sees t i) ≡ kids_of (shown_kind sees t)
  kids_count t i = go (sees (root t)) t
    where
      go : (b : Bool) (t : Tree) → length (cond b (kids t i) [])
          ≡ kids_of (cond b (kind_at t) Kind.Closed)
      go true (empty A) = refl
      go true (leaf A t) = refl
      go true (unary A t) = refl
      go true (binary A s t) = refl
      go false t = refl

  pub kids_entries : (t : Tree) (i : ℕ)
      → entries_of (shown_kind sees t) i (length (word t)) ≡ entries (shown_kids sees t i)
  kids_entries t i = go (sees (root t)) t
    where
      go : (b : Bool) (t : Tree) → entries_of (cond b (kind_at t) Kind.Closed) i (length (word t))
          ≡ entries (cond b (kids t i) [])
      go true (empty A) = refl
      go true (leaf A t) = refl
      go true (unary A t) = refl
      go true (binary A s t) =
          let e : length (word s ++ word t) - length (word s) ≡ length (word t) =
          omega (arith, length-append (word s) (word t)) in
          rw e refl
      go false t = refl

all_kids_sit : (w : Word) (t : Tree) (i : ℕ) (ps : List Pending)
    → Sits w (record { tree = t; start = i }) → Every (Sits w) ps → Every (Sits w) (kids t i ++ ps)
all_kids_sit w (empty A) i ps s a = a
all_kids_sit w (leaf A t) i ps s a = a
all_kids_sit w (unary A t) i ps s a = (record { within = s.within; spelled = s.spelled }, a)
all_kids_sit w (binary A u v) i ps s a =
    let n : length (word u ++ word v) ≡ length (word u) + length (word v) =
    length-append (word u) (word v) in
    let e : word u ++ word v ≡ take (length (word u)) (drop i w)
    ++ take (length (word v)) (drop (length (word u)) (drop i w)) =
    s.spelled ∙ ap (λ (k : ℕ). take k (drop i w)) n ∙ take-add (length (word u)) (length (word v))
    (drop i w) in
    let h : length (word u) ≡ length (take (length (word u)) (drop i w)) =
    simp (length-take, length-drop) (omega (arith, s.within)) in
    let x = append_inj (word u) (take (length (word u)) (drop i w)) (word v)
    (take (length (word v)) (drop (length (word u)) (drop i w))) h e in (
      record { within = omega (arith, s.within); spelled = x.0 },
      (
        record {
          within = omega (arith, s.within);
          spelled = x.1 ∙ ap (take (length (word v))) (drop-drop (length (word u)) i w);
        },
        a,
      ),
    )

pub kids_sit : (sees : View) (w : Word) (t : Tree) (i : ℕ) (ps : List Pending)
    → Sits w (record { tree = t; start = i }) → Every (Sits w) ps
    → Every (Sits w) (shown_kids sees t i ++ ps)
kids_sit sees w t i ps s a = go (sees (root t))
  where
    go : (b : Bool) → Every (Sits w) (cond b (kids t i) [] ++ ps)
    go true = all_kids_sit w t i ps s a
    go false = a

-- 2. what is asked for

pub goal_unique : {g : Rules} → Distinct g → (A : ℕ) (w : Word) (s : Bool) (u v : Tree)
    → Goal g A w s u → Goal g A w s v → u ≡ v
goal_unique d A w false u v a b = first_unique a b
goal_unique d A w true u v a b = second_tree_unique d a b

goal_rooted : (g : Rules) (A : ℕ) (w : Word) (s : Bool) (u : Tree) → Goal g A w s u → root u ≡ A
goal_rooted g A w false u a = a.rooted
goal_rooted g A w true u a = second_rooted a.second ∙ a.first.rooted

goal_spelled : (g : Rules) (A : ℕ) (w : Word) (s : Bool) (u : Tree) → Goal g A w s u → word u ≡ w
goal_spelled g A w false u a = a.spelled
goal_spelled g A w true u a = second_spelled a.second ∙ a.first.spelled

goal_aim : (g : Rules) (A : ℕ) (w : Word) (s : Bool) (u : Tree) → Goal g A w s u
    → Aim g s (record { tree = u; start = 0 } ∷ [])
goal_aim g A w false u a = (a.first, tt)
goal_aim g A w true u a =
    (record { tree = a.tree; start = 0 } ∷ [], (a.first.first, tt), Fork.now a.second)

-- 3. the bytes between two turns: n rows written, pending nodes from place top up to place cap

pub record State (sees : View) (g : Rules) (w : Word) (u : Tree) (s : Bool) (out : List ℕ)
    (cap n top : ℕ) : Type 0 where
  pub pending : List Pending
  pub rest : List ℕ
  pub aim : Aim g s pending
  pub sit : Every (Sits w) pending
  pub written : shown_rows sees 0 u ≡ take (4 * n) out ++ rows_all sees pending
  pub stacked : drop (4 * top) out ≡ entries pending ++ rest
  pub count : cap ≡ top + length pending
  pub room : n ≤ top
  pub within : 4 * cap ≤ length out

pub state_start : (sees : View) (g : Rules) (A : ℕ) (w : Word) (s : Bool) (u : Tree) (out : List ℕ)
    (cap : ℕ) → Goal g A w s u → 4 * cap ≤ length out → 0 < cap
    → State sees g w u s (splice out (4 * (cap - 1)) (A ∷ 0 ∷ length w ∷ 0 ∷ [])) cap 0 (cap - 1)
state_start sees g A w s u out cap a h k =
    let e : word u ≡ w = goal_spelled g A w s u a in
    let f : length (word u) ≡ length w = ap length e in
    let fits : 4 * (cap - 1) + 4 ≤ length out = omega arith in
    record {
      pending = record { tree = u; start = 0 } ∷ [];
      rest = drop (4 * (cap - 1) + 4) out;
      aim = goal_aim g A w s u a;
      sit = (
        record {
          within = omega arith;
          spelled = e ∙ sym
              (take_all (length (word u)) w (omega arith));
        },
        tt,
      );
      written = sym (append-nil (shown_rows sees 0 u));
      stacked = rw (goal_rooted g A w s u a, e)
          (drop_splice out (4 * (cap - 1)) (A ∷ 0 ∷ length w ∷ 0 ∷ []) fits);
      count = omega arith;
      room = omega arith;
      within = omega (arith, length_splice out (4 * (cap - 1)) (A ∷ 0 ∷ length w ∷ 0 ∷ []) fits);
    }

-- the node on top, while there is one
pub record Popped (sees : View) (g : Rules) (w : Word) (u : Tree) (s : Bool) (out : List ℕ)
    (cap n top : ℕ) : Type 0 where
  pub tree : Tree
  pub others : List Pending
  pub rest : List ℕ
  pub left : get_or out (4 * top) 0 ≡ root tree
  pub length_byte : get_or out (4 * top + 2) 0 ≡ length (word tree)
  pub aim : Aim g s (record { tree = tree; start = get_or out (4 * top + 1) 0 } ∷ others)
  pub sit : Sits w (record { tree = tree; start = get_or out (4 * top + 1) 0 })
  pub sits : Every (Sits w) others
  pub written : shown_rows sees 0 u ≡ take (4 * n) out
      ++ (shown_rows sees (get_or out (4 * top + 1) 0) tree ++ rows_all sees others)
  pub stacked : drop (4 * (top + 1)) out ≡ entries others ++ rest
  pub count : cap ≡ top + 1 + length others
  pub room : n ≤ top
  pub within : 4 * cap ≤ length out

four : (l : List ℕ) (at : ℕ) (a b c d : ℕ) (r : List ℕ) → drop at l ≡ a ∷ b ∷ c ∷ d ∷ r
    → (get_or l at 0 ≡ a) × (get_or l (at + 1) 0 ≡ b) × (get_or l (at + 2) 0 ≡ c)
    × (drop (at + 4) l ≡ r)
four l at a b c d r e =
    let z : at ≡ at + 0 = omega arith in (
      ap (λ (k : ℕ). get_or l k 0) z ∙ sym (get_or-drop at l 0 0)
          ∙ ap (λ (x : List ℕ). get_or x 0 0) e,
      sym (get_or-drop at l 1 0) ∙ ap (λ (x : List ℕ). get_or x 1 0) e,
      sym (get_or-drop at l 2 0) ∙ ap (λ (x : List ℕ). get_or x 2 0) e,
      sym (drop-drop 4 at l) ∙ ap (drop 4) e,
    )

pub pop : {sees : View} {g : Rules} {w : Word} {u : Tree} {s : Bool} {out : List ℕ} {cap n top : ℕ}
    → State sees g w u s out cap n top → top < cap → Popped sees g w u s out cap n top
pop {sees} {g} {w} {u} {s} {out} {cap} {n} {top} x h =
    go x.pending x.aim x.sit x.written x.stacked x.count
  where
    go : (ps : List Pending) → Aim g s ps → Every (Sits w) ps
        → shown_rows sees 0 u ≡ take (4 * n) out ++ rows_all sees ps
        → drop (4 * top) out ≡ entries ps ++ x.rest → cap ≡ top + length ps
        → Popped sees g w u s out cap n top
    go [] a b c d e = absurd (omega arith)
    go (p ∷ ps) a b c d e =
        let f = four out (4 * top) _ _ _ _ _ d in
        let i : p ≡ record { tree = p.tree; start = get_or out (4 * top + 1) 0 } =
        ap (λ (k : ℕ). record { tree = p.tree; start = k }) (sym f.1) in
        let j : 4 * (top + 1) ≡ 4 * top + 4 = omega arith in
        record {
          tree = p.tree;
          others = ps;
          rest = x.rest;
          left = f.0;
          length_byte = f.2;
          aim = subst (λ (q : Pending). Aim g s (q ∷ ps)) i a;
          sit = subst (Sits w) i b.0;
          sits = b.1;
          written = rw f.1 c;
          stacked = rw j f.3;
          count = omega arith;
          room = x.room;
          within = x.within;
        }

rows_join : (sees : View) (ps qs : List Pending)
    → rows_all sees (ps ++ qs) ≡ rows_all sees ps ++ rows_all sees qs
rows_join sees [] qs = refl
rows_join sees (p ∷ ps) qs = rw (rows_join sees ps qs)
    (sym (append_assoc (shown_rows sees p.start p.tree) (rows_all sees ps) (rows_all sees qs)))

entries_append : (ps qs : List Pending) → entries (ps ++ qs) ≡ entries ps ++ entries qs
entries_append [] qs = refl
entries_append (p ∷ ps) qs = rw (entries_append ps qs) refl

-- one turn: the row is written, and the children take the node's place
module _ {sees : View} {g : Rules} {w : Word} {u : Tree} {s : Bool} {out : List ℕ} {cap n top : ℕ}
    (x : Popped sees g w u s out cap n top) (m : Bool) (st : Step)
    (e : st ≡ shown_shape sees m x.tree) where
  abbrev at : ℕ
  at = get_or out (4 * top + 1) 0

  turn_kind : st.kind ≡ shown_kind sees x.tree
  turn_kind = ap (λ (y : Step). y.kind) e

  turn_kids : length (shown_kids sees x.tree at) ≡ kids_of st.kind
  turn_kids = rw turn_kind (kids_count sees x.tree at)

  turn_entries : entries_of st.kind at (get_or out (4 * top + 2) 0)
      ≡ entries (shown_kids sees x.tree at)
  turn_entries = rw (turn_kind, x.length_byte) (kids_entries sees x.tree at)

  turn_row : get_or out (4 * top) 0 ∷ kind_byte st.kind ∷ start_of at (get_or out (4 * top + 2) 0)
      ∷ get_or out (4 * top + 2) 0 ∷ [] ≡ row sees x.tree at
  turn_row = rw (turn_kind, x.length_byte, x.left) refl

  pub turn : Aim g m (shown_kids sees x.tree at ++ x.others) → n + kids_of st.kind ≤ top
      → (out₁ out₂ : List ℕ) (r : ℕ)
      → out₁ ≡ splice out (4 * n) (get_or out (4 * top) 0 ∷ kind_byte st.kind
      ∷ start_of at (get_or out (4 * top + 2) 0) ∷ get_or out (4 * top + 2) 0 ∷ [])
      → Branched out₁ out₂ (top + 1) r (kids_of st.kind)
      (entries_of st.kind at (get_or out (4 * top + 2) 0))
      → State sees g w u m out₂ cap (n + 1) r
  turn a fit out₁ out₂ r f b =
      let R = row sees x.tree at in
      let K = shown_kids sees x.tree at in
      let f' : out₁ ≡ splice out (4 * n) R = rw turn_row at f in
      let k : length K ≡ kids_of st.kind = turn_kids in
      let fits : 4 * n + 4 ≤ length out = omega (arith, x.within, x.count) in
      let long : length out₁ ≡ length out = ap length f' ∙ length_splice out (4 * n) R fits in
      let j : 4 * (n + 1) ≡ 4 * n + 4 = omega arith in
      let front : take (4 * (n + 1)) out₂ ≡ take (4 * n) out ++ R =
      b.low (n + 1) (omega (arith, b.moved)) ∙ rw (j, f') (take_splice out (4 * n) R fits) in
      let back : drop (4 * (top + 1)) out₁ ≡ entries x.others ++ x.rest =
      rw f' (drop_splice_high out (4 * n) R fits (4 * (top + 1)) (omega (arith, x.room)))
      ∙ x.stacked in
      record {
        pending = K ++ x.others;
        rest = x.rest;
        aim = a;
        sit = kids_sit sees w x.tree at x.others x.sit x.sits;
        written =
            x.written ∙ rw (front, rows_join sees K x.others, rows_split sees x.tree at)
            (simp append_assoc);
        stacked = b.high ∙ rw (back, turn_entries, entries_append K x.others)
            (sym (append_assoc (entries K) (entries x.others) x.rest));
        count = omega (arith, x.count, b.moved, length-append K x.others);
        room = omega (arith, b.moved);
        within = omega (arith, x.within, b.long);
      }

  rows_least : (ps : List Pending) → 4 * length ps ≤ length (rows_all sees ps)
  rows_least [] = omega arith
  rows_least (p ∷ ps) =
      omega (
        arith,
        rows_least ps,
        length-append (shown_rows sees p.start p.tree)
            (rows_all sees ps),
        length_shown sees p.tree p.start,
        some_shown sees p.tree,
      )

  -- where the children have no room, the tree has more rows than there are places
  pub over : top < n + kids_of st.kind → cap < shown_count sees u
  over h =
      let c = ap length x.written in
      let d = ap length (rows_split sees x.tree at) in
      omega (
        arith,
        c,
        d,
        length_shown sees u 0,
        x.count,
        x.within,
        x.room,
        turn_kids,
        length-append (take (4 * n) out) (shown_rows sees at x.tree ++ rows_all sees x.others),
        length-append (shown_rows sees at x.tree) (rows_all sees x.others),
        length-append (row sees x.tree at) (rows_all sees (shown_kids sees x.tree at)),
        rows_least x.others,
        rows_least (shown_kids sees x.tree at),
        length-take-le (4 * n) out (omega (arith, x.count, x.within, x.room)),
      )

pub done : {sees : View} {g : Rules} {w : Word} {u : Tree} {s : Bool} {out : List ℕ} {cap n top : ℕ}
    → State sees g w u s out cap n top → cap ≤ top → shown_rows sees 0 u ≡ take (4 * n) out
done {sees} {g} {w} {u} {s} {out} {cap} {n} {top} x h = go x.pending x.written x.count
  where
    go : (ps : List Pending) → shown_rows sees 0 u ≡ take (4 * n) out ++ rows_all sees ps
        → cap ≡ top + length ps → shown_rows sees 0 u ≡ take (4 * n) out
    go [] e c = e ∙ append-nil (take (4 * n) out)
    go (p ∷ ps) e c = absurd (omega arith)

-- 4. the answer

module _ {sees : View} {g : Rules} {w : Word} {u : Tree} {s : Bool} {out : List ℕ}
    {cap n top : ℕ} where
  -- all is written
  pub laid_full : State sees g w u s out cap n top → cap ≤ top → (l m : List ℕ)
      → length out ≡ length l
      → m ≡ take (4 * n) out ++ replicate (length out - 4 * n) 0 → RowsWritten sees u l m (Some n)
  laid_full x h l m e f =
      let r = done x h in
      let k : 4 * shown_count sees u ≡ 4 * n = sym (length_shown sees u 0) ∙ ap length r
      ∙ length-take-le (4 * n) out (omega (arith, x.count, x.within, x.room)) in
      let j : n ≡ shown_count sees u = omega arith in
      record {
        enough = λ _. (rw (k, r, ← e) f, ap Some j);
        short = λ h'. absurd (omega (arith, x.count, x.within, x.room));
      }

-- nothing is, for want of room
pub laid_short : (sees : View) (u : Tree) (l m : List ℕ) → row_room l < shown_count sees u
    → m ≡ filled (seen_by sees) l none → RowsWritten sees u l m None
laid_short sees u l m h f = record { enough = λ h'. absurd (omega arith); short = λ _. (f, refl) }
