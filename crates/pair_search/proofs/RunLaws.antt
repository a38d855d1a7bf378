-- Steps, one after the other.
use mathlib.Core.Path.{◌≡◌, refl, sym, ap, ◌∙◌, subst}
use mathlib.Core.Bool.{Bool, true, false, ◌&&◌}
use mathlib.Core.List.{List}
use Prim.Native.Nat.{ℕ, ◌+◌, ◌-◌, ◌*◌, ◌≤◌, ◌<◌}
use native.Mathlib.Omega.{arith}
use native.Mathlib.Decide.{dec_lt}
use lib.ListN.{length, get_or}
use Rattle.sets.proofs.Says.{true_not_false}
use Rattle.grammar.specs.Trees.{Rules}
use Rattle.pairs.specs.Shapes.{Head}
use Rattle.pairs.specs.Relations.{order, Offset}
use Rattle.pairs.specs.Settings.{Corner, Point, setting}
use Rattle.pair_offsets.specs.declared.Frame.{Frame}
use Rattle.pair_offsets.specs.Frames.{rank_of}
use Rattle.pair_offsets.specs.Lists.{ListsEvens}
use Rattle.pair_steps.specs.declared.Node.{Node}
use Rattle.pair_steps.specs.declared.Words.{Words}
use Rattle.pair_steps.specs.Nodes.{NodeOf, shape_number}
use Rattle.pair_steps.specs.Leaving.{first_stop_of, second_stop}
use Rattle.pair_steps.specs.Suiting.{Suits}
use Rattle.pair_steps.specs.Tables.{LowTable, SoundTable, WordsOf, NextsOf, shape_word, sort_word}
use Rattle.pair_steps.specs.Tables.{next_word}
use Rattle.pair_steps.specs.Closing.{ToldBy}
use Rattle.pair_steps.proofs.CompleteLaws.{found}
use Rattle.pair_tables.specs.Reading.{Small}
use Rattle.pair_tables.specs.Stepping.{word_sum, Put, next_place, Stepped, has_all, no_offsets}
use Rattle.pair_tables.specs.Stepping.{no_terminals, puts}
use Rattle.pair_tables.proofs.StepKept.{code_low, step_kept}
use Rattle.pair_tables.proofs.StepSound.{step_sound}
use Rattle.pair_nodes.specs.Slots.{node_at, Present, NodesOf}
use Rattle.pair_frames.specs.Numbering.{frame_at}
use Rattle.pair_entries.specs.Entries.{code_at}
use Rattle.pair_entries.proofs.EntryLaws.{entry_same}
use Rattle.pair_search.specs.Running.{Apt, PairOf, Settled, Ran, Ready, Met, Cell}
use Rattle.pair_search.specs.Running.{LastCells, LastRows}

-- 1. what two nodes read of a table

abbrev words_in : List ℕ → Node → Node → ℕ → ℕ → Words
words_in t x y i j =
    record {
      yc = shape_word t j x.first;
      yd = shape_word t j x.second;
      xc = shape_word t i y.first;
      xd = shape_word t i y.second;
      cc = sort_word t x.first y.first;
      cd = sort_word t x.first y.second;
      dc = sort_word t x.second y.first;
      dd = sort_word t x.second y.second;
    }

words-in : (t : List ℕ) (x y : Node) (i j : ℕ) → WordsOf t x y i j (words_in t x y i j)
words-in t x y i j =
    record {
      yc = refl;
      yd = refl;
      xc = refl;
      xd = refl;
      cc = refl;
      cd = refl;
      dc = refl;
      dd = refl;
    }

abbrev nexts_by_of : List ℕ → Frame → Node → Node → ℕ → ℕ → ℕ → ℕ → Words
nexts_by_of m f x y t v u s =
    record {
      yc = next_word m y.sort x.first (order f.begin f.start) (order f.end t);
      yd = next_word m y.sort x.second (order f.begin f.cut) (order f.end u);
      xc = next_word m x.sort y.first (order f.start f.begin) (order f.stop v);
      xd = next_word m x.sort y.second (order f.start f.split) (order f.stop s);
      cc = next_word m x.first y.first (order f.start f.begin) (order t v);
      cd = next_word m x.first y.second (order f.start f.split) (order t s);
      dc = next_word m x.second y.first (order f.cut f.begin) (order u v);
      dd = next_word m x.second y.second (order f.cut f.split) (order u s);
    }

abbrev nexts_in_of : List ℕ → Frame → Node → Node → Words
nexts_in_of m f x y =
    nexts_by_of m f x y (first_stop_of x.kids f.cut f.stop)
    (first_stop_of y.kids f.split f.end)
    (second_stop x.kids f.stop) (second_stop y.kids f.end)

nexts_in : (m : List ℕ) (f : Frame) (x y : Node) → NextsOf m f x y (nexts_in_of m f x y)
nexts_in m f x y =
    record {
      yc = refl;
      yd = refl;
      xc = refl;
      xd = refl;
      cc = refl;
      cd = refl;
      dc = refl;
      dd = refl;
    }

-- nodes that may stand by the table suit the frame
pub suits_told : {g : Rules} {t : List ℕ} {f : Frame} {hx hy : Head} {x y : Node} → LowTable t
    → NodeOf g hx x
    → NodeOf g hy y → (l : Corner → Corner → Offset) (n : Point → ℕ)
    → ToldBy g t (setting (rank_of f) l n) hx hy → Suits f x.kids y.kids
suits_told {g} {t} {f} {hx} {hy} {x} {y} low nx ny l n told =
    (found g t low f hx hy x y nx ny
    (words_in t x y (shape_number hx.shape) (shape_number hy.shape))
    (words-in t x y (shape_number hx.shape) (shape_number hy.shape)) (nexts_in_of t f x y)
    (nexts_in t f x y) l n
    (record { fit = told.fit; lies = told.lies; goes = told.goes })).suits

-- 2. one step

pub stays : {G : Rules → Type 0} {P : List ℕ → Type 0} {t : List ℕ} → P t → Ran G P t t true
stays p =
    record {
      size = refl;
      past = λ i h. refl;
      sound = λ g k s. s;
      least = omega arith;
      more = λ e. absurd (true_not_false e);
      still = λ e. refl;
      then = λ e. p;
    }

-- words past the table are not changed
put_past : (x y : Node) (i : ℕ) (f : Frame) {t u : List ℕ} {s q : ℕ} {b : Bool} → Small x → Small y
    → i < 384
    → Put t u (64 * i + y.sort) (24576 + (64 * x.sort + y.sort))
    (next_place f x.sort y.sort) s s q b → (k : ℕ) → 65536 ≤ k → get_or u k 0 ≡ get_or t k 0
put_past x y i f sx sy li p k h =
    let a = sx.sort in
    let d = sy.sort in
    let m = code_low (order f.start f.begin) in
    let n = code_low (order f.stop f.end) in
    p.other k (λ e. omega arith) (λ e. omega arith) (λ e. omega arith)

module _ {x y : Node} {i j : ℕ} {f : Frame} {t : List ℕ} (low : LowTable t) where
  pub unsuited : (Suits f x.kids y.kids → ⊥) → Settled x y i j f t
  unsuited h = record {
    settled = λ g p l n told. absurd
        (h (suits_told low p.node₁ p.node₂ l n told));
  }

  module _ (sx : Small x) (sy : Small y) (li : i < 384) (suits : Suits f x.kids y.kids)
      {from end : ℕ} (lists : ListsEvens f t from end) where
    settles : {u : List ℕ} {b : Bool} → Stepped f x y i j t from end t u b → b ≡ true
        → Settled x y i j f t
    settles st e =
        record {
          settled = λ g p l n told.
              step_kept g t low f p.head₁ p.head₂ x y p.node₁ p.node₂ p.number₁
              p.number₂ t from end
              lists l n told st e (nexts_in_of t f x y) (nexts_in t f x y);
        }

    stays_sound : {u : List ℕ} {b : Bool} → Stepped f x y i j t from end t u b → (g : Rules)
        → PairOf x y i j g → SoundTable g t → SoundTable g u
    stays_sound st g p so =
        step_sound g t so f p.head₁ p.head₂ x y p.node₁ p.node₂ p.number₁
        p.number₂ suits t from end
        lists st

    -- a step over a frame that suits
    pub step_ran : {u : List ℕ} {b : Bool} → Stepped f x y i j t from end t u b
        → Ran (PairOf x y i j) (Settled x y i j f) t u b
    step_ran (has_all ws m h) = stays (settles (has_all ws m h) refl)
    step_ran (no_offsets ws o) = stays (settles (no_offsets ws o) refl)
    step_ran (no_terminals ws o ns v) = stays (settles (no_terminals ws o ns v) refl)
    step_ran (puts ws o rn ns v qn p) =
        record {
          size = p.size;
          past = put_past x y i f sx sy li p;
          sound = stays_sound (puts ws o rn ns v qn p);
          least = p.least;
          more = p.more;
          still = p.still;
          then = settles (puts ws o rn ns v qn p);
        }

-- a frame that does not suit
pub unsuited_ran : {x y : Node} {i j : ℕ} {f : Frame} {t : List ℕ} → LowTable t
    → (Suits f x.kids y.kids → ⊥) → Ran (PairOf x y i j) (Settled x y i j f) t t true
unsuited_ran low h = stays (unsuited low h)

-- 3. one after the other

pub and_true₁ : (r s : Bool) → (r && s) ≡ true → r ≡ true
and_true₁ true s e = refl
and_true₁ false s e = e

pub and_true₂ : (r s : Bool) → (r && s) ≡ true → s ≡ true
and_true₂ true s e = e
and_true₂ false s e = absurd (true_not_false (sym e))

pub ran_then : {G : Rules → Type 0} {P Q R : List ℕ → Type 0} {t u v : List ℕ} {r s : Bool}
    → (P t → Q t → R t) → Ran G P t u r → Ran G Q u v s → Ran G R t v (r && s)
ran_then {Q = Q} {t = t} {u} {v} {r} {s} h a b =
    record {
      size = b.size ∙ a.size;
      past = λ i k. b.past i k ∙ a.past i k;
      sound = λ g k o. b.sound g k (a.sound g k o);
      least = omega (arith, a.least, b.least);
      more = grows r s a.more b.more;
      still = λ e. b.still (and_true₂ r s e) ∙ a.still (and_true₁ r s e);
      then = λ e.
          h (a.then (and_true₁ r s e)) (subst Q (a.still (and_true₁ r s e))
          (b.then (and_true₂ r s e)));
    }
  where
    grows : (r s : Bool) → (r ≡ false → word_sum t < word_sum u)
        → (s ≡ false → word_sum u < word_sum v)
        → (r && s) ≡ false → word_sum t < word_sum v
    grows true s p q e = omega (arith, a.least, q e)
    grows false s p q e = omega (arith, b.least, p refl)

pub ran_of : {G H : Rules → Type 0} {P Q : List ℕ → Type 0} {t u : List ℕ} {r : Bool}
    → ((g : Rules) → H g → G g) → (P t → Q t) → Ran G P t u r → Ran H Q t u r
ran_of f h a =
    record {
      size = a.size;
      past = a.past;
      sound = λ g k. a.sound g (f g k);
      least = a.least;
      more = a.more;
      still = a.still;
      then = λ e. h (a.then e);
    }

pub ready_same : {t u : List ℕ} {n : ℕ} → length u ≡ length t
    → ((i : ℕ) → 65536 ≤ i → get_or u i 0 ≡ get_or t i 0) → Ready t n → Ready u n
ready_same s e r =
    record {
      room = omega (arith, r.room);
      few = r.few;
      each = λ k h. entry_same (λ i p q. e i q) (λ i p q. e i (omega arith)) (omega arith)
          (r.each k h);
    }

-- 4. the loops

pub met_none : {G : Rules → Type 0} (x y : Node) (i j : ℕ) (t : List ℕ)
    → Ran G (Met x y i j 0) t t true
met_none x y i j t = stays (record { met = λ k h. absurd (omega arith) })

pub met_more : {G : Rules → Type 0} {x y : Node} {i j : ℕ} (k : ℕ) {t u v : List ℕ} {r s : Bool}
    → Ran G (Met x y i j k) t u r → Ran G (λ t. Settled x y i j (frame_at (code_at t k)) t) u v s
    → Ran G (Met x y i j (k + 1)) t v (r && s)
met_more {x = x} {y} {i} {j} k {t} a b =
    ran_then (λ p q. record { met = λ m h. by p q m h (dec_lt m k) }) a b
  where
    by : Met x y i j k t → Settled x y i j (frame_at (code_at t k)) t → (m : ℕ) → m < k + 1
        → Dec (m < k) → Settled x y i j (frame_at (code_at t m)) t
    by p q m h (yes l) = p.met m l
    by p q m h (no l) =
        let e : k ≡ m = omega arith in
        subst (λ (n : ℕ). Settled x y i j (frame_at (code_at t n)) t) e q

pub row_none : {G : Rules → Type 0} (ns : List ℕ) (i n : ℕ) (t : List ℕ)
    → Ran G (LastCells ns i n 0) t t true
row_none ns i n t = stays (record { row = λ j h k. absurd (omega arith) })

pub row_more : {G : Rules → Type 0} {ns : List ℕ} {i n j : ℕ} {t u v : List ℕ} {r s : Bool}
    → 0 < j → j ≤ 384
    → Ran G (LastCells ns i n (384 - j)) t u r → Ran G (Cell ns i (j - 1) n) u v s
    → Ran G (LastCells ns i n (384 - (j - 1))) t v (r && s)
row_more {ns = ns} {i} {n} {j} {t} l o a b =
    ran_then (λ p q. record { row = λ m h k. by p q m h k (dec_lt m j) }) a b
  where
    by : LastCells ns i n (384 - j) t → Cell ns i (j - 1) n t → (m : ℕ) → m < 384
        → 384 ≤ m + (384 - (j - 1))
        → Dec (m < j) → Cell ns i m n t
    by p q m h k (no d) = p.row m h (omega arith)
    by p q m h k (yes d) = let e : j - 1 ≡ m = omega arith in
        subst (λ (m : ℕ). Cell ns i m n t) e q

pub rows_none : {G : Rules → Type 0} (ns : List ℕ) (n : ℕ) (t : List ℕ)
    → Ran G (LastRows ns n 0) t t true
rows_none ns n t = stays (record { rows = λ i h k. absurd (omega arith) })

pub rows_more : {G : Rules → Type 0} {ns : List ℕ} {n i : ℕ} {t u v : List ℕ} {r s : Bool}
    → 0 < i → i ≤ 384
    → Ran G (LastRows ns n (384 - i)) t u r → Ran G (LastCells ns (i - 1) n 384) u v s
    → Ran G (LastRows ns n (384 - (i - 1))) t v (r && s)
rows_more {ns = ns} {n} {i} {t} l o a b =
    ran_then (λ p q. record { rows = λ m h k. by p q m h k (dec_lt m i) }) a b
  where
    by : LastRows ns n (384 - i) t → LastCells ns (i - 1) n 384 t → (m : ℕ) → m < 384
        → 384 ≤ m + (384 - (i - 1))
        → Dec (m < i) → LastCells ns m n 384 t
    by p q m h k (no d) = p.rows m h (omega arith)
    by p q m h k (yes d) = let e : i - 1 ≡ m = omega arith in
        subst (λ (m : ℕ). LastCells ns m n 384 t) e q

-- 5. nodes in their places

pub no_second : {G : Rules → Type 0} {ns : List ℕ} {i j n : ℕ} {t : List ℕ} → (Present ns j → ⊥)
    → Ran G (Cell ns i j n) t t true
no_second h = stays (record { cell = λ p q. absurd (h q) })

pub no_first : {G : Rules → Type 0} {ns : List ℕ} {i n m : ℕ} {t : List ℕ} → (Present ns i → ⊥)
    → Ran G (LastCells ns i n m) t t true
no_first h = stays (record { row = λ j k l. record { cell = λ p q. absurd (h p) } })

-- two nodes that stand there
pub pair_there : {ns : List ℕ} {i j : ℕ} {x y : Node} → i < 384 → j < 384 → Present ns i
    → Present ns j → x ≡ node_at ns i
    → y ≡ node_at ns j → (g : Rules) → NodesOf g ns → PairOf x y i j g
pair_there {ns} {i} {j} {x} {y} hi hj pi pj ex ey g o =
    let a = o.only i hi pi in
    let b = o.only j hj pj in
    record {
      head₁ = a.head;
      head₂ = b.head;
      node₁ = subst (NodeOf g a.head) (sym ex) a.node;
      node₂ = subst (NodeOf g b.head) (sym ey) b.node;
      number₁ = sym a.number;
      number₂ = sym b.number;
    }

pub cell_ran : {ns : List ℕ} {i j n : ℕ} {t u : List ℕ} {r : Bool} {x y : Node} → i < 384 → j < 384
    → Present ns i
    → Present ns j → x ≡ node_at ns i → y ≡ node_at ns j
    → Ran (PairOf x y i j) (Met x y i j n) t u r
    → Ran (λ g. NodesOf g ns) (Cell ns i j n) t u r
cell_ran {ns} {i} {j} {n} {t} {x = x} hi hj pi pj ex ey a =
    ran_of (pair_there hi hj pi pj ex ey)
    (λ m.
    record {
      cell = λ p q.
          subst (λ (v : Node). Met v (node_at ns j) i j n t) ex
          (subst (λ (v : Node). Met x v i j n t) ey m);
    }) a

pub apt : (ns : List ℕ) (i : ℕ) {x : Node} → x ≡ node_at ns i → Small x → Apt x
apt ns i e s = record { small = s; kids = omega (arith, ap (λ (v : Node). v.kids) e) }

pub exchanged : {x y : Node} {i j : ℕ} {g : Rules} → PairOf x y i j g → PairOf y x j i g
exchanged p =
    record {
      head₁ = p.head₂;
      head₂ = p.head₁;
      node₁ = p.node₂;
      node₂ = p.node₁;
      number₁ = p.number₂;
      number₂ = p.number₁;
    }
