-- Rounds of steps, and the table that they end with.
use mathlib.Core.Path.{◌≡◌, refl, sym, ap, ◌∙◌, subst}
use mathlib.Core.Bool.{Bool, true, false, ◌&&◌}
use mathlib.Core.List.{List, [], ◌∷◌, ◌++◌}
use Prim.Native.Nat.{ℕ, zero, suc, ◌+◌, ◌-◌, ◌*◌, ◌^◌, ◌≤◌, ◌<◌}
use native.Mathlib.Omega.{arith}
use native.Mathlib.Decide.{dec_lt}
use lib.ListN.{length, get_or, take, drop, length-take, length-drop}
use lib.ListN.{take-append-drop}
use lib.Seq.{get_or-take, get_or-drop, ext_get_or}
use Rattle.pair_steps.proofs.ShapeNumbers.{shape_low}
use Rattle.sets.specs.Sets.{In}
use Rattle.sets.proofs.Sets.{in_zero}
use Rattle.sets.proofs.Says.{true_not_false}
use Rattle.grammar.specs.Trees.{Rules}
use Rattle.spans.specs.Changes.{Cleared}
use Rattle.grammar.proofs.Lists.{mem_every}
use Rattle.pairs.specs.Shapes.{Head}
use Rattle.pairs.specs.Relations.{Offset}
use Rattle.pairs.specs.Settings.{Corner, Point, Setting, setting, whole₁, whole₂, relation_in}
use Rattle.pairs.specs.Facts.{Fact, stand, against, sorts, behind, couples, behind_in}
use Rattle.pair_offsets.specs.declared.Frame.{Frame}
use Rattle.pair_offsets.specs.Frames.{rank_of}
use Rattle.pair_offsets.specs.Codes.{order_code, bit_of}
use Rattle.pair_steps.specs.declared.Node.{Node}
use Rattle.pair_steps.specs.Nodes.{Weakest, shape_number}
use Rattle.pair_steps.specs.Ranks.{Ranked}
use Rattle.pair_steps.specs.Suiting.{Suits}
use Rattle.pair_steps.specs.Tables.{Proper, InTable, LowTable, SoundTable}
use Rattle.pair_steps.specs.Closing.{ToldBy, Kept, ClosedTable}
use Rattle.pair_steps.proofs.SideLaws.{ProperCouple, proper_couples}
use Rattle.pair_tables.specs.Stepping.{word_sum}
use Rattle.pair_tables.proofs.StepKept.{code_low}
use Rattle.pair_nodes.specs.Slots.{node_at, Present, NodesOf}
use Rattle.pair_frames.specs.Numbering.{frame_at}
use Rattle.pair_frames.proofs.FrameLaws.{frame_code, code_low as number-low, code_frame}
use Rattle.pair_entries.specs.declared.Stage.{Stage}
use Rattle.pair_entries.specs.Entries.{search_words, Useful, SameTable}
use Rattle.pair_entries.specs.Entering.{Prepared}
use Rattle.pair_search.specs.Filling.{FilledTable}
use Rattle.pair_search.specs.Running.{PairOf, Settled, Ran, Ready, LastRows, Quick, Rested}
use Rattle.pair_search.specs.Running.{AllTo}
use Rattle.pair_search.specs.Running.{BothSettled, at_first, later, table_sum, Round, Searched}
use Rattle.pair_search.proofs.RunLaws.{suits_told, ran_then, and_true₁, and_true₂}

-- 1. the sum of the table's words

sum_append : (a b : List ℕ) → word_sum (a ++ b) ≡ word_sum a + word_sum b
sum_append [] b = omega arith
sum_append (n ∷ a) b = omega (arith, sum_append a b)

sum_parts : (n : ℕ) (t : List ℕ) → word_sum t ≡ word_sum (take n t) + word_sum (drop n t)
sum_parts n t = sym (ap word_sum (take-append-drop n t)) ∙ sum_append (take n t) (drop n t)

drop_same : (n : ℕ) (t u : List ℕ) → length u ≡ length t
    → ((i : ℕ) → n ≤ i → get_or u i 0 ≡ get_or t i 0) → drop n u ≡ drop n t
drop_same n t u s e =
    ext_get_or 0 (drop n u) (drop n t) (omega (arith, length-drop n u, length-drop n t))
    (λ i h. get_or-drop n u i 0 ∙ (e (n + i) (omega arith) ∙ sym (get_or-drop n t i 0)))

take_same : (n : ℕ) (t u : List ℕ) → length u ≡ length t
    → ((i : ℕ) → i < n → get_or u i 0 ≡ get_or t i 0) → take n u ≡ take n t
take_same n t u s e =
    ext_get_or 0 (take n u) (take n t) (length-take n u ∙ (rw s (sym (length-take n t))))
    (λ i h.
    let k : i < n = omega (arith, length-take n u) in
    get_or-take n u i 0 k ∙ (e i k ∙ sym (get_or-take n t i 0 k)))

take_most : (n : ℕ) (t : List ℕ) → ((i : ℕ) → get_or t i 0 < 2 ^ 64)
    → word_sum (take n t) ≤ n * 2 ^ 64
take_most zero t h = omega arith
take_most (suc n) [] h = omega arith
take_most (suc n) (a ∷ t) h = omega (arith, h 0, take_most n t (λ i. h (suc i)))

pub table_least : (t u : List ℕ) → length u ≡ length t
    → ((i : ℕ) → 65536 ≤ i → get_or u i 0 ≡ get_or t i 0)
    → word_sum t ≤ word_sum u → table_sum t ≤ table_sum u
unfolding table_sum
table_least t u s e h =
    omega (arith, sum_parts 65536 t, sum_parts 65536 u, ap word_sum (drop_same 65536 t u s e))

pub table_more : (t u : List ℕ) → length u ≡ length t
    → ((i : ℕ) → 65536 ≤ i → get_or u i 0 ≡ get_or t i 0)
    → word_sum t < word_sum u → table_sum t < table_sum u
unfolding table_sum
table_more t u s e h =
    omega (arith, sum_parts 65536 t, sum_parts 65536 u, ap word_sum (drop_same 65536 t u s e))

pub table_same : {t u : List ℕ} → SameTable t u → table_sum u ≡ table_sum t
unfolding table_sum
table_same {t} {u} s = ap word_sum (take_same 65536 t u s.size s.table)

pub table_most : (t : List ℕ) → LowTable t → table_sum t ≤ 65536 * 2 ^ 64
unfolding table_sum
table_most t l = take_most 65536 t l.low

-- 2. tables with the same words

-- they have the same table
record Alike (t u : List ℕ) : Type 0 where
  word : (i : ℕ) → i < 65536 → get_or u i 0 ≡ get_or t i 0

back : {t u : List ℕ} → Alike t u → Alike u t
back e = record { word = λ i h. sym (e.word i h) }

alike : {t u : List ℕ} → SameTable t u → Alike t u
alike s = record { word = s.table }

module _ {t u : List ℕ} (e : Alike t u) where
  in_same : (a : Fact) → Proper a → InTable u a → InTable t a
  in_same (stand σ x y) p h = absurd p
  in_same (against s B r) p h =
      let k = shape_low s p.0 in
      let l = p.1 in
      subst (λ (w : ℕ). In w (bit_of r)) (e.word (64 * shape_number s + B) (omega arith)) h
  in_same (sorts A B r) p h =
      let k = p.0 in
      let l = p.1 in
      subst (λ (w : ℕ). In w (bit_of r)) (e.word (24576 + (64 * A + B)) (omega arith)) h
  in_same (behind A B o q z) p h =
      let k = p.0 in
      let l = p.1 in
      let m = code_low o in
      let n = code_low q in
      subst (λ (w : ℕ). In w z) (e.word
      (28672 + (9 * (64 * A + B) + (3 * order_code o + order_code q))) (omega arith)) h

  sound_same : {g : Rules} → SoundTable g t → SoundTable g u
  sound_same s = record { sound = λ a p h. s.sound a p (in_same a p h) }

module _ {t u : List ℕ} (e : Alike t u) where
  module _ {g : Rules} {x y : Node} {i j : ℕ} (p : PairOf x y i j g) (σ : Setting) where
    told_same : ToldBy g u σ p.head₁ p.head₂ → ToldBy g t σ p.head₁ p.head₂
    told_same told =
        record {
          fit = told.fit;
          lies = λ c m k.
              let q = mem_every ProperCouple (couples p.head₁ p.head₂)
              (proper_couples p.node₁ p.node₂) m in
              in_same e (c.fact (relation_in σ c.left c.right)) (q.fact _)
              (told.lies c m k);
          goes = λ c m k n.
              let q = mem_every ProperCouple (couples p.head₁ p.head₂)
              (proper_couples p.node₁ p.node₂) m in
              in_same e (behind_in σ c.left c.right) (q.left, q.right) (told.goes c m k n);
        }

    low₁ : p.head₁.sort < 64
    low₁ = subst (λ (n : ℕ). n < 64) p.node₁.sort p.node₁.small.0

    low₂ : p.head₂.sort < 64
    low₂ = subst (λ (n : ℕ). n < 64) p.node₂.sort p.node₂.small.0

    kept_same : Kept t σ p.head₁ p.head₂ → Kept u σ p.head₁ p.head₂
    kept_same k =
        let r = relation_in σ (whole₁ p.head₁) (whole₂ p.head₂) in
        record {
          node = in_same (back e) (against p.head₁.shape p.head₂.sort r)
              (p.node₁.place, low₂) k.node;
          sort = in_same (back e) (sorts p.head₁.sort p.head₂.sort r) (low₁, low₂)
              k.sort;
          next = λ n. in_same (back e) (behind_in σ (whole₁ p.head₁) (whole₂ p.head₂))
              (low₁, low₂) (k.next n);
        }

  settled_same : {x y : Node} {i j : ℕ} {f : Frame} → Settled x y i j f t → Settled x y i j f u
  settled_same {f = f} s =
      record {
        settled = λ g p l n told.
            kept_same p (setting (rank_of f) l n)
            (s.settled g p l n (told_same p (setting (rank_of f) l n) told));
      }

  all_same : {ns : List ℕ} {b : ℕ} → AllTo ns b t → AllTo ns b u
  all_same a = record { all = λ c h k i j p q r s. settled_same (a.all c h k i j p q r s) }

-- 3. rounds

pub round_none : (ns t : List ℕ) → Round ns (36 * 0) t t true
round_none ns t =
    record {
      size = refl;
      past = λ i h. refl;
      sound = λ g h s. s;
      least = omega arith;
      more = λ e. absurd (true_not_false e);
      all = λ e. record { all = λ c h. absurd (omega arith) };
    }

-- the entries of one batch
pub ready : {u v : List ℕ} {p : ℕ} {s : Stage} → search_words ≤ length v → Prepared u v p s
    → Ready v s.entries
ready h q =
    record {
      room = h;
      few = q.few;
      each = λ k l.
          let e = q.entries.each k l in
          record {
            kinds = e.kinds;
            lists = e.lists;
            low = e.low;
            high = omega (arith, e.high, q.high);
          };
    }

-- passes, one after the other
pub record Resting (ns old new : List ℕ) (r : Bool) : Type 0 where
  pub size : length new ≡ length old
  pub past : (i : ℕ) → 65536 ≤ i → get_or new i 0 ≡ get_or old i 0
  pub sound : (g : Rules) → NodesOf g ns → SoundTable g old → SoundTable g new
  pub least : word_sum old ≤ word_sum new
  pub more : r ≡ false → word_sum old < word_sum new
  pub still : r ≡ true → new ≡ old

pub rest_none : (ns t : List ℕ) → Resting ns t t true
rest_none ns t =
    record {
      size = refl;
      past = λ i h. refl;
      sound = λ g h s. s;
      least = omega arith;
      more = λ e. absurd (true_not_false e);
      still = λ e. refl;
    }

-- one that adds something
pub rest_more : {ns t u v : List ℕ} {P : List ℕ → Type 0} {r b : Bool} → Resting ns t u r
    → Ran (λ g. NodesOf g ns) P u v b → b ≡ false → Resting ns t v false
rest_more a o e =
    record {
      size = o.size ∙ a.size;
      past = λ i h. o.past i h ∙ a.past i h;
      sound = λ g h s. o.sound g h (a.sound g h s);
      least = omega (arith, a.least, o.least);
      more = λ d. omega (arith, a.least, o.more e);
      still = λ d. absurd (true_not_false (sym d));
    }

-- the last
pub rested : {ns t u v : List ℕ} {n : ℕ} {r b : Bool} → Resting ns t u r
    → Ran (λ g. NodesOf g ns) (LastRows ns n 384) u v b → b ≡ true → Rested ns n t v r
rested {ns} {n = n} a o e =
    record {
      size = o.size ∙ a.size;
      past = λ i h. o.past i h ∙ a.past i h;
      sound = λ g h s. o.sound g h (a.sound g h s);
      least = omega (arith, a.least, o.least);
      more = λ d. omega (arith, a.more d, o.least);
      still = λ d. o.still e ∙ a.still d;
      rows = subst (LastRows ns n 384) (sym (o.still e)) (o.then e);
    }

-- the last of quick ones, and all passes after them
pub quick_rested : {ns t u v : List ℕ} {r b : Bool} → Resting ns t u r → Quick ns u v b → b ≡ true
    → Quick ns t v r
quick_rested a o e =
    record {
      size = o.size ∙ a.size;
      past = λ i h. o.past i h ∙ a.past i h;
      sound = λ g h s. o.sound g h (a.sound g h s);
      least = omega (arith, a.least, o.least);
      more = λ d. omega (arith, a.more d, o.least);
      still = λ d. o.still e ∙ a.still d;
      then = λ d. tt;
    }

pub quick_then : {ns t u v : List ℕ} {n : ℕ} {r b : Bool} → Quick ns t u r → Rested ns n u v b
    → Rested ns n t v (r && b)
quick_then {ns} {t} {u} {v} {r = r} {b} a o =
    let q : Quick ns u v b =
    record {
      size = o.size;
      past = o.past;
      sound = o.sound;
      least = o.least;
      more = o.more;
      still = o.still;
      then = λ d. tt;
    } in
    let z : Quick ns t v (r && b) = ran_then (λ c d. tt) a q in
    record {
      size = z.size;
      past = z.past;
      sound = z.sound;
      least = z.least;
      more = z.more;
      still = z.still;
      rows = o.rows;
    }

pub rest_less : {u v : List ℕ} {G : Rules → Type 0} {P : List ℕ → Type 0} {b : Bool} → Ran G P u v b
    → b ≡ false → LowTable v → 65536 * 2 ^ 64 - table_sum v < 65536 * 2 ^ 64 - table_sum u
rest_less {u} {v} o e low =
    omega (arith, table_more u v o.size o.past (o.more e), table_most v low)

-- the frames of one batch
batch : {ns t u v : List ℕ} {p : ℕ} {s : Stage} {r : Bool} → AllTo ns (36 * p) v → Prepared t u p s
    → Rested ns s.entries u v r → AllTo ns (36 * s.starts) v
batch {ns} {u = u} {v} {p} {s} a q r =
    record { all = λ c h k i j m n o w. by c h k i j m n o w (dec_lt c (36 * p)) }
  where
    by : (c : ℕ) → c < 36 * s.starts → Useful c → (i j : ℕ) → i < 384 → j < 384 → Present ns i
        → Present ns j → Dec (c < 36 * p) → Settled (node_at ns i) (node_at ns j) i j (frame_at c) v
    by c h k i j m n o w (yes d) = a.all c d k i j m n o w
    by c h k i j m n o w (no d) =
        let z = q.entries.all c (omega arith) h k in
        let e = r.past (65536 + 4 * z.0) (omega arith) ∙ z.2 in
        subst (λ (b : ℕ). Settled (node_at ns i) (node_at ns j) i j (frame_at b) v) e
        ((((r.rows.rows i m (omega arith)).row j n (omega arith)).cell o w).met z.0 z.1)

module _ {ns t u v w : List ℕ} {p : ℕ} {s : Stage} {r b : Bool} (a : Round ns (36 * p) t u r)
    (q : Prepared u v p s) (o : Rested ns s.entries v w b) where
  grown : table_sum v ≤ table_sum w
  grown = table_least v w o.size o.past o.least

  -- the first batch: the frames before it are none
  pub round_first : p ≡ 0 → Round ns (36 * s.starts) t w true
  round_first e =
      record {
        size = o.size ∙ (q.same.size ∙ a.size);
        past = λ i h. o.past i (omega arith) ∙ (q.same.past i h ∙ a.past i h);
        sound = λ g h k. o.sound g h (sound_same (alike q.same) (a.sound g h k));
        least = omega (arith, a.least, table_same q.same, grown);
        more = λ d. absurd (true_not_false d);
        all = λ d. batch (record { all = λ c h. absurd (omega arith) }) q o;
      }

  -- another one: those before it are settled still if it adds nothing
  pub round_more : Round ns (36 * s.starts) t w (r && b)
  round_more =
      record {
        size = o.size ∙ (q.same.size ∙ a.size);
        past = λ i h. o.past i (omega arith) ∙ (q.same.past i h ∙ a.past i h);
        sound = λ g h k. o.sound g h (sound_same (alike q.same) (a.sound g h k));
        least = omega (arith, a.least, table_same q.same, grown);
        more = grows r b a.more o.more;
        all = λ e.
            batch
            (subst (AllTo ns (36 * p)) (sym (o.still (and_true₂ r b e)))
            (all_same (alike q.same) (a.all (and_true₁ r b e)))) q o;
      }
    where
      grows : (r b : Bool) → (r ≡ false → table_sum t < table_sum u)
          → (b ≡ false → word_sum v < word_sum w) → (r && b) ≡ false → table_sum t < table_sum w
      grows true b m n e =
          omega (arith, a.least, table_same q.same, table_more v w o.size o.past (n e))
      grows false b m n e = omega (arith, m refl, table_same q.same, grown)

pub round_next : {ns t u v w : List ℕ} (p : ℕ) {s : Stage} {r b c : Bool} → Round ns (36 * p) t u r
    → Prepared u v p s
    → Rested ns s.entries v w b → BothSettled p r b c → Round ns (36 * s.starts) t w c
round_next p a q o (at_first e) = round_first a q o e
round_next p a q o later = round_more a q o

-- 4. a table that a round adds nothing to

pub closed : {ns t : List ℕ} {g : Rules} → AllTo ns 46656 t → NodesOf g ns → LowTable t
    → ClosedTable g t
closed {ns} {t} {g} a o low = record { closed = by }
  where
    by : (f : Frame) → Ranked (rank_of f)
        → (l : Corner → Corner → Offset) (n : Point → ℕ) (x y : Head) → Weakest g x
        → Weakest g y → ToldBy g t (setting (rank_of f) l n) x y
        → Kept t (setting (rank_of f) l n) x y
    by f r l n x y wx wy told =
        let nx = o.all x told.fit.looks₁ wx in
        let ny = o.all y told.fit.looks₂ wy in
        let i = shape_number x.shape in
        let j = shape_number y.shape in
        let e = code_frame f r in
        let su = suits_told low nx.1 ny.1 l n told in
        let us : Useful (frame_code f) =
        record {
          ranked = subst (λ (h : Frame). Ranked (rank_of h)) (sym e) r;
          kx = (node_at ns i).kids;
          ky = (node_at ns j).kids;
          low₁ = omega arith;
          low₂ = omega arith;
          suits = subst (λ (h : Frame). Suits h (node_at ns i).kids (node_at ns j).kids) (sym e) su;
        } in
        let st =
        a.all (frame_code f) (number-low f r) us i j (shape_low x.shape nx.1.place)
        (shape_low y.shape ny.1.place) nx.0 ny.0 in
        (subst (λ (h : Frame). Settled (node_at ns i) (node_at ns j) i j h t) e st).settled g
        (record {
          head₁ = x;
          head₂ = y;
          node₁ = nx.1;
          node₂ = ny.1;
          number₁ = refl;
          number₂ = refl;
        }) l n told

-- rounds, one after the other
pub record Searching (ns old new : List ℕ) : Type 0 where
  pub size : length new ≡ length old
  pub past : (i : ℕ) → search_words ≤ i → get_or new i 0 ≡ get_or old i 0
  pub sound : (g : Rules) → NodesOf g ns → SoundTable g old → SoundTable g new

pub search_none : (ns t : List ℕ) → Searching ns t t
search_none ns t = record { size = refl; past = λ i h. refl; sound = λ g h s. s }

pub search_more : {ns t u v : List ℕ} {b : ℕ} {r : Bool} → Searching ns t u → Round ns b u v r
    → Searching ns t v
search_more a r =
    record {
      size = r.size ∙ a.size;
      past = λ i h. r.past i h ∙ a.past i h;
      sound = λ g h s. r.sound g h (a.sound g h s);
    }

pub searched : {ns t u v : List ℕ} {r : Bool} → Searching ns t u → Round ns 46656 u v r → r ≡ true
    → LowTable v → Searched ns t v
searched a r e low =
    let s = search_more a r in
    record {
      size = s.size;
      past = s.past;
      table = λ g h so. record {
        sound = s.sound g h so;
        closed = closed (r.all e) h low;
        low = low;
      };
    }

pub search_less : {ns u v : List ℕ} {b : ℕ} {r : Bool} → Round ns b u v r → r ≡ false → LowTable v
    → 65536 * 2 ^ 64 - table_sum v < 65536 * 2 ^ 64 - table_sum u
search_less {v = v} a e low = omega (arith, a.more e, table_most v low)

-- 5. the words at first

nothing : (a : Fact) → Proper a → InTable [] a → ⊥
nothing (stand σ x y) p h = p
nothing (against s B r) p h = in_zero (bit_of r) h
nothing (sorts A B r) p h = in_zero (bit_of r) h
nothing (behind A B o q z) p h = in_zero z h

pub cleared_sound : {t u : List ℕ} {g : Rules} → Cleared t u search_words → SoundTable g u
cleared_sound c =
    record {
      sound = λ a p h. absurd
          (nothing a p (in_same {t = []} (record { word = λ i l. c.zeros i (omega arith) }) a p
          h));
    }

pub filled : {ns t u v : List ℕ} → Cleared t u search_words → Searched ns u v → FilledTable ns t v
filled c s =
    record {
      size = s.size ∙ c.past.long;
      past = λ i h. s.past i h ∙ c.past.rest i h;
      table = λ g h. s.table g h (cleared_sound c);
    }
