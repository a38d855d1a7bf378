-- Laws of numbers that are lowered at one span: what one try adds, tries one after the other, the
-- end.
use mathlib.Core.Path.{◌≡◌, refl, sym, ap, ap₂, ◌∙◌, subst}
use mathlib.Core.Logic.{◌⊎◌, inl, inr, ⊎_elim}
use mathlib.Core.Bool.{Bool, true, false}
use mathlib.Core.List.{List, [], ◌∷◌}
use Prim.Native.Nat.{ℕ, zero, suc, ◌+◌, ◌-◌, ◌*◌, ◌≤◌, ◌<◌, max, min}
use native.Mathlib.Omega.{arith}
use native.Mathlib.Decide.{ℕ_discrete, dec_lt}
use lib.ListN.{length, get_or, set, length-set, get_or-eq_default}
use lib.Seq.{get_or-set_same, get_or-set_other}
use Rattle.sets.proofs.Basics.{clash}
use Rattle.sets.proofs.Basics.{lt_or_eq}
use Rattle.grammar.specs.declared.Rule.{Rule}
use Rattle.grammar.specs.declared.Clause.{Clause}
use Rattle.grammar.specs.declared.BinaryMark.{BinaryMark}
use Rattle.grammar.specs.Trees.{Rules}
use Rattle.grammar.specs.SpanSheet.{pair_at}
use Rattle.spans.proofs.Places.{pair_at_below, pair_at_empty, pair_at_shorter, pairs_few}
use Rattle.marks.specs.declared.SpanMarks.{SpanMarks}
use Rattle.tables.specs.Tables.{Leave, by_marks, rule}
use Rattle.heights.specs.Tall.{no_height, table, Tall, Measured, Lowest, Over, Room}
use Rattle.heights.specs.Falls.{Lowered, Idle, Falls, stays, put, row_sum, sum, HeightsTried}
use Rattle.heights.specs.Falls.{Between, Inner, Ends, AllEnds, Stopped, Shut}
use Rattle.sets.specs.Either.{Either}
use Rattle.heights.proofs.TallLaws.{tall_down, tall_le, tall_inner}
use Rattle.heights.proofs.Bounds.{Put, total_less}

pub inside : (n s len : ℕ) → n ≤ 64 → s + len ≤ n → pair_at n s len < 2081
inside n s len f h = omega (arith, pair_at_below n s len h, pairs_few n f)

-- what stands for the missing does not matter where nothing is missing
pub get_d_any : (l : List ℕ) (i d e : ℕ) → i < length l → get_or l i d ≡ get_or l i e
get_d_any [] i d e h = absurd (omega arith)
get_d_any (x ∷ l) zero d e h = refl
get_d_any (x ∷ l) (suc i) d e h = get_d_any l i d e (omega arith)

-- ---- one number

module _ (l : List ℕ) (n s len A h : ℕ) (few : n ≤ 64) (f : s + len ≤ n) where
  pub put_row : A < 64 → length l ≡ 133184 → h < table l n s len A
      → Put (table l n s len) (table (set l (2081 * A + pair_at n s len) h) n s len) A h
  put_row a e k =
      record {
        here = get_or-set_same l (2081 * A + pair_at n s len) h 65535
            (omega (arith, inside n s len few f));
        less = k;
        rest = λ B x. get_or-set_other l (2081 * A + pair_at n s len) (2081 * B + pair_at n s len) h
            65535 (λ q. x (omega arith));
      }

  apart : (a b i j : ℕ) → i < 2081 → j < 2081 → 2081 * b + j ≡ 2081 * a + i → j ≡ i
  apart a b i j h k e = omega arith

  pub put_rest : (s' len' B : ℕ) → s' + len' ≤ n → (pair_at n s' len' ≡ pair_at n s len → ⊥)
      → table (set l (2081 * A + pair_at n s len) h) n s' len' B ≡ table l n s' len' B
  put_rest s' len' B f' x =
      get_or-set_other l (2081 * A + pair_at n s len) (2081 * B + pair_at n s' len') h 65535
      (λ q. x (apart A B (pair_at n s len) (pair_at n s' len') (inside n s len few f)
      (inside n s' len' few f') q))

  pub put_down : (x : ℕ) → length l ≡ 133184 → A < 64 → h < table l n s len A
      → get_or (set l (2081 * A + pair_at n s len) h) x 65535 ≤ get_or l x 65535
  put_down x e a k = go (ℕ_discrete x (2081 * A + pair_at n s len))
    where
      go : Dec (x ≡ 2081 * A + pair_at n s len)
          → get_or (set l (2081 * A + pair_at n s len) h) x 65535 ≤ get_or l x 65535
      go (yes q) =
          let u : get_or (set l (2081 * A + pair_at n s len) h) x 65535
          ≡ h = ap (λ (y : ℕ). get_or (set l (2081 * A + pair_at n s len) h) y 65535) q
          ∙ get_or-set_same l (2081 * A + pair_at n s len) h 65535
          (omega (arith, inside n s len few f)) in
          let v : get_or l x 65535 ≡ table l n s len A = ap (λ (y : ℕ). get_or l y 65535) q in
          omega arith
      go (no q) = omega (arith, get_or-set_other l (2081 * A + pair_at n s len) x h 65535 q)

-- ---- numbers that fall, one after the other

total_le : (p q : ℕ → ℕ) → ((B : ℕ) → p B ≤ q B) → (k : ℕ) → row_sum p k ≤ row_sum q k
unfolding row_sum
total_le p q h zero = omega arith
total_le p q h (suc k) = omega (arith, h k, total_le p q h k)

-- the rules' left sides are nonterminals
abbrev pub Lefts : Rules → Type 0
Lefts g = (i : ℕ) → i < length g → (rule g i).left < 64

module _ {g : Rules} {v : Leave} {n start len : ℕ} (lefts : Lefts g) where
  pub falls_room : {l m : List ℕ} → Room l n start len → Falls g v n start len l m
      → Room m n start len
  falls_room r stays = r
  falls_room {l} r (put i k h b t c d f) = falls_room
      (record {
        few = r.few;
        fits = r.fits;
        long = length-set l (2081 * (rule g i).left + pair_at n start len) h ∙ r.long;
      }) f

  -- no number rises
  pub falls_down : {l m : List ℕ} → Room l n start len → Falls g v n start len l m → (x : ℕ)
      → get_or m x 65535 ≤ get_or l x 65535
  falls_down r stays x = omega arith
  falls_down {l} r (put i k h b t c d f) x =
      let r' : Room (set l (2081 * (rule g i).left + pair_at n start len) h) n start len = record {
        few = r.few;
        fits = r.fits;
        long = length-set l (2081 * (rule g i).left + pair_at n start len) h ∙ r.long;
      } in
      omega (
        arith,
        falls_down r' f x,
        put_down l n start len (rule g i).left h r.few r.fits
            x r.long (lefts i b) d,
      )

  -- other spans keep theirs
  pub falls_rest : {l m : List ℕ} → Room l n start len → Falls g v n start len l m → (a b B : ℕ)
      → a + b ≤ n → (pair_at n a b ≡ pair_at n start len → ⊥) → table m n a b B ≡ table l n a b B
  falls_rest r stays a b B q z = refl
  falls_rest {l} r (put i k h c t e d f) a b B q z =
      let r' : Room (set l (2081 * (rule g i).left + pair_at n start len) h) n start len = record {
        few = r.few;
        fits = r.fits;
        long = length-set l (2081 * (rule g i).left + pair_at n start len) h ∙ r.long;
      } in
      falls_rest r' f a b B q z ∙ put_rest l n start len (rule g i).left h r.few r.fits a b B
      q z

  pub falls_then : {l m o : List ℕ} → Falls g v n start len l m → Falls g v n start len m o
      → Falls g v n start len l o
  falls_then stays y = y
  falls_then (put i k h b t c d f) y = put i k h b t c d (falls_then f y)

  -- ---- tries

  pub passed_none : {l : List ℕ} (D : ℕ → ℕ → Type 0)
      → ((i k h : ℕ) → D i k → Tall (table l n) v start len (rule g i).clause k h → ⊥)
      → HeightsTried g v n start len D l l false
  passed_none D f = record {
    falls = stays;
    fell = λ e. absurd (clash cc);
    same = λ e. refl;
    tried = λ i k h d t. absurd (f i k h d t);
  }

  pub passed_then : {l m o : List ℕ} {a b r : Bool} (D E F : ℕ → ℕ → Type 0) → Room l n start len
      → HeightsTried g v n start len D l m a → HeightsTried g v n start len E m o b → Either a b r
      → ((i k : ℕ) → F i k → D i k ⊎ E i k) → HeightsTried g v n start len F l o r
  passed_then {l} {m} {o} {a} {b} {r} D E F room x y e f =
      record {
        falls = falls_then x.falls y.falls;
        fell = λ q. ⊎_elim (λ z. omega (
          arith,
          x.fell z,
          le y.falls
              (falls_room room x.falls),
        )) (λ z. omega (arith, y.fell z, le x.falls room))
            (e.is q);
        same = λ q. let z = e.isnt q in y.same z.1 ∙ x.same z.0;
        tried = λ i k h d t. ⊎_elim (λ z. early i k h z t) (λ z. late i k h z t) (f i k d);
      }
    where
      le : {l m : List ℕ} → Falls g v n start len l m → Room l n start len
          → sum m n start len ≤ sum l n start len
      le {l} {m} f r = total_le (table m n start len) (table l n start len)
          (λ B. falls_down r f (2081 * B + pair_at n start len)) 64

      early : (i k h : ℕ) → D i k → Tall (table l n) v start len (rule g i).clause k h
          → table o n start len (rule g i).left ≤ h
      early i k h d t = omega (
        arith,
        x.tried i k h d t,
        falls_down (falls_room room x.falls)
            y.falls (2081 * (rule g i).left + pair_at n start len),
      )

      late : (i k h : ℕ) → E i k → Tall (table l n) v start len (rule g i).clause k h
          → table o n start len (rule g i).left ≤ h
      late i k h d t =
          let z = tall_down (table l n) (table m n) v start len
          (λ a b B. falls_down room x.falls (2081 * B + pair_at n a b)) (rule g i).clause k h
          t in
          omega (arith, y.tried i k z.0 d z.1, z.2)

  pub passed_by : {l m : List ℕ} {r : Bool} (D E : ℕ → ℕ → Type 0) → ((i k : ℕ) → E i k → D i k)
      → HeightsTried g v n start len D l m r → HeightsTried g v n start len E l m r
  passed_by D E f x = record {
    falls = x.falls;
    fell = x.fell;
    same = x.same;
    tried = λ i k h d
        t. x.tried i k h (f i k d) t;
  }

-- a left length more, and a rule more
module _ {g : Rules} {v : Leave} {n start len : ℕ} {l m o : List ℕ} {a b r : Bool} (lefts : Lefts g)
    (room : Room l n start len) (i : ℕ) where
  pub inner_more : HeightsTried g v n start len (Inner len i) l m a
      → HeightsTried g v n start len (Between i 1 len) m o b → Either a b r
      → HeightsTried g v n start len (Inner len (i + 1)) l o r
  inner_more x y e = passed_then lefts _ _ _ room x y e
      (λ j q d. ⊎_elim (λ z. inl (z, d.1, d.2)) (λ z. inr (z, omega (arith, d.1), d.2))
      (lt_or_eq j i d.0))

  pub ends_both : HeightsTried g v n start len (Between i 0 1) l m a
      → HeightsTried g v n start len (Between i len (len + 1)) m o b → Either a b r
      → HeightsTried g v n start len (Ends len i) l o r
  ends_both x y e = passed_then lefts _ _ _ room x y e
      (λ j q d. ⊎_elim (λ z. inl (d.0, omega arith, omega arith))
      (λ z. inr (d.0, omega arith, omega arith)) d.1)

  pub ends_more : HeightsTried g v n start len (AllEnds len i) l m a
      → HeightsTried g v n start len (Ends len i) m o b → Either a b r
      → HeightsTried g v n start len (AllEnds len (i + 1)) l o r
  ends_more x y e = passed_then lefts _ _ _ room x y e
      (λ j q d. ⊎_elim (λ z. inl (z, d.1)) (λ z. inr (z, d.1)) (lt_or_eq j i d.0))

-- ---- the end

-- a last pass that let nothing fall
pub stopped_of : {g : Rules} {v : Leave} {n start len : ℕ} {D : ℕ → ℕ → Type 0} {e l m : List ℕ}
    {r : Bool} → Falls g v n start len e l → r ≡ false → HeightsTried g v n start len D l m r
    → Lefts g
    → Stopped g v n start len D e m
stopped_of {g} {v} {n} {start} {len} {D} {e} {l} {m} f q p lefts =
    let s = p.same q in
    record {
      falls = falls_then lefts f p.falls;
      shut = λ i k h d t. p.tried i k h d
          (subst (λ (z : List ℕ). Tall (table z n) v start len (rule g i).clause k h) s t);
    }

-- with the inner choices tried before
pub shut_of : {g : Rules} {v : Leave} {n start len : ℕ} {l m o : List ℕ} {r : Bool} → Lefts g
    → Room l n start len → HeightsTried g v n start len (Inner len (length g)) l m r
    → Stopped g v n start len (AllEnds len (length g)) m o → Shut g v n start len l o
shut_of {g} {v} {n} {start} {len} {l} {m} {o} lefts room x y =
    record {
      falls = falls_then lefts x.falls y.falls;
      closed = λ i k h b t. go i k h b t (ℕ_discrete k 0) (dec_lt k len);
    }
  where
    same : (a b B : ℕ) → a + b ≤ start + len → b < len → table o n a b B ≡ table l n a b B
    same a b B q z =
        let w : a + b ≤ n = omega (arith, room.fits) in
        falls_rest lefts room (falls_then lefts x.falls y.falls) a b B w
        (λ e. let u = pair_at_shorter n a b start len w z in omega arith)

    go : (i k h : ℕ) → i < length g → Tall (table o n) v start len (rule g i).clause k h
        → Dec (k ≡ 0) → Dec (k < len) → table o n start len (rule g i).left ≤ h
    go i k h b t (yes z) d = y.shut i k h (b, inl z) t
    go i k h b t (no z) (yes d) =
        let t' = tall_inner (table o n) (table l n) v start len (rule g i).clause k h (omega arith)
        d (λ a c B q u. sym (same a c B q u)) t in
        let c = x.tried i k h (b, omega arith, d) t' in
        omega (
          arith,
          falls_down lefts (falls_room lefts room x.falls) y.falls
              (2081 * (rule g i).left + pair_at n start len),
        )
    go i k h b t (no z) (no d) = y.shut i k h
        (b, inr (let u = tall_le (table o n) v start len (rule g i).clause k h t in omega arith)) t

-- ---- how high a clause stands

module _ {hs : ℕ → ℕ → ℕ → ℕ} {v : Leave} {s len l : ℕ} where
  pub measured_none : (c : Clause) → ((h : ℕ) → Tall hs v s len c l h → ⊥)
      → Measured hs v s len c l 65535
  measured_none c f = record { is = λ x. absurd (omega arith); low = λ h t. absurd (f h t) }

  pub measured_empty : len ≡ 0 → l ≡ 0 → Measured hs v s len Clause.Empty l 1
  measured_empty e f = record { is = λ x. (e, f, refl); low = λ h t. omega (arith, t.2) }

  pub measured_atom : (a b : ℕ) → len ≡ 1 → l ≡ 0 → v.atom a b
      → Measured hs v s len (Clause.Atom a b) l 1
  measured_atom a b e f x = record { is = λ y. (e, f, x, refl); low = λ h t. omega (arith, t.3) }

  pub measured_unary : (B : ℕ) (m : _) (a r : ℕ) → l ≡ 0 → v.unary m → a ≡ hs s len B → Over a a r
      → Measured hs v s len (Clause.Unary B m) l r
  measured_unary B m a r e h q u =
      record { is = λ x. (h, e, omega (arith, u.is x)); low = λ k t. omega (arith, u.low, t.2) }

  pub measured_binary : (B C : ℕ) (m : _) (a b r : ℕ) → l ≤ len → v.binary m l → a ≡ hs s l B
      → b ≡ hs (s + l) (len - l) C → Over a b r → Measured hs v s len (Clause.Binary B C m) l r
  measured_binary B C m a b r e h p q u = record {
    is = λ x. (e, h, u.is x ∙ ap₂ (λ (y z : ℕ). suc (max y z)) p q);
    low = λ k t. omega (arith, u.low, t.2);
  }

-- ---- the left lengths of a clause, one after the other

module _ {hs : ℕ → ℕ → ℕ → ℕ} {v : Leave} {s len : ℕ} (c : Clause) where
  pub lowest_none : (from : ℕ) → Lowest hs v s len c from from 65535
  lowest_none from =
      record { is = λ x. absurd (omega arith); low = λ l h a b t. absurd (omega arith) }

  pub lowest_one : (l : ℕ) {r : ℕ} → Measured hs v s len c l r → Lowest hs v s len c l (l + 1) r
  lowest_one l {r} m = record {
    is = λ x. (l, omega arith, omega arith, m.is x);
    low = λ q h a b t. m.low h (subst (λ (y : ℕ). Tall hs v s len c y h)
        (let z : q ≡ l = omega arith in z) t);
  }

  pub lowest_more : (from to : ℕ) {a b : ℕ} → from ≤ to → Lowest hs v s len c from to a
      → Measured hs v s len c to b → Lowest hs v s len c from (to + 1) (min a b)
  lowest_more from to {a} {b} f x m =
      record { is = λ h. is h (dec_lt a b); low = λ l h y z t. low l h y z t (dec_lt l to) }
    where
      is : min a b < no_height → Dec (a < b)
          → (l : ℕ) × (from ≤ l) × (l < to + 1) × Tall hs v s len c l (min a b)
      is h (yes d) =
          let e : min a b ≡ a = omega arith in
          let y = x.is (omega arith) in (
            y.0,
            y.1,
            omega (arith, y.2),
            subst
                (λ (r : ℕ). Tall hs v s len c y.0 r) (sym e) y.3,
          )
      is h (no d) = let e : min a b ≡ b = omega arith in (
        to,
        f,
        omega arith,
        subst (λ (r : ℕ). Tall hs v s len c to r) (sym e)
            (m.is (omega arith)),
      )

      low : (l h : ℕ) → from ≤ l → l < to + 1 → Tall hs v s len c l h → Dec (l < to) → min a b ≤ h
      low l h y z t (yes d) = omega (arith, x.low l h y d t)
      low l h y z t (no d) = omega (
        arith,
        m.low h
            (subst (λ (q : ℕ). Tall hs v s len c q h) (let e : l ≡ to = omega arith in e) t),
      )

  pub lowest_end : {r : ℕ} (to end : ℕ) → (to ≤ end) ⊎ (to ≡ 1) → end ≤ to
      → Lowest hs v s len c 1 to r → Lowest hs v s len c 1 end r
  lowest_end to end e h x = record {
    is = λ k. let y = x.is k in (
      y.0,
      y.1,
      ⊎_elim (λ z. omega (arith, y.2))
          (λ z. absurd (omega (arith, y.1, y.2))) e,
      y.3,
    );
    low = λ l k a b t. x.low l k a (omega arith) t;
  }

-- ---- a rule tried, as the code does it: a pass over that rule alone

pub lefts_one : (r : Rule) → r.left < 64 → Lefts (r ∷ [])
lefts_one r h zero b = h
lefts_one r h (suc i) b = absurd (omega arith)

cell_of : {n start len : ℕ} {l : List ℕ} (A at : ℕ) → A < 64 → Room l n start len
    → at ≡ 2081 * A + pair_at n start len → get_or l at 0 ≡ table l n start len A
cell_of {n} {start} {len} {l} A at small room p =
    get_d_any l at 0 65535 (omega (arith, inside n start len room.few room.fits, room.long))
    ∙ ap (λ (y : ℕ). get_or l y 65535) p

module _ {v : Leave} {n start len : ℕ} {l : List ℕ} (r : Rule) (small : r.left < 64)
    (room : Room l n start len) (from to h at : ℕ)
    (p : at ≡ 2081 * r.left + pair_at n start len)
    (x : Lowest (table l n) v start len r.clause from to h) where
  pub passed_lowest : {m : List ℕ} {fell : Bool} → Lowered l m at h fell
      → HeightsTried (r ∷ []) v n start len (Between 0 from to) l m fell
  passed_lowest {m} {fell} y = go fell refl
    where
      same : get_or l at 0 ≡ table l n start len r.left
      same = cell_of r.left at small room p

      lowest : (j q c : ℕ) → Between 0 from to j q
          → Tall (table l n) v start len (rule (r ∷ []) j).clause q c → h ≤ c
      lowest j q c d t = x.low q c d.1 d.2
          (subst (λ (i : ℕ). Tall (table l n) v start len (rule (r ∷ []) i).clause q c) d.0 t)

      go : (b : Bool) → fell ≡ b → HeightsTried (r ∷ []) v n start len (Between 0 from to) l m fell
      go true e =
          let z = y.lowered e in
          let here : m ≡ set l (2081 * r.left + pair_at n start len) h =
          z.2 ∙ ap (λ (i : ℕ). set l i h) p in
          let w = put_row l n start len r.left h room.few room.fits small room.long
          (omega (arith, z.0, same)) in
          let k = x.is (omega (arith, z.0, z.1)) in
          rw here (record {
            falls = put {l = l} 0 k.0 h (omega arith) k.3 (omega (arith, z.0, z.1))
                (omega (arith, z.0, same)) stays;
            fell = λ f. total_less w 64 small;
            same = λ f. absurd (clash cc);
            tried = λ j q c d t. subst (λ (i : ℕ). table
                (set l (2081 * r.left + pair_at n start len) h) n start len (rule (r ∷ []) i).left
                ≤ c) (sym d.0) (omega (arith, w.here, lowest j q c d t));
          })
      go false e =
          let z = y.kept e in
          rw z.1 (record {
            falls = stays;
            fell = λ f. absurd (clash cc);
            same = λ f. refl;
            tried = λ j q c d t. subst (λ (i : ℕ). table l n start len (rule (r ∷ []) i).left ≤ c)
                (sym d.0) (omega (arith, z.0, same, lowest j q c d t));
          })

-- as one of the rules g
module _ {g : Rules} {v : Leave} {n start len : ℕ} (r : Rule) (i : ℕ) (b : i < length g)
    (e : rule g i ≡ r) where
  falls_in : {l m : List ℕ} → Falls (r ∷ []) v n start len l m → Falls g v n start len l m
  falls_in stays = stays
  falls_in {l} {m} (put zero k h c t a d f) =
      put i k h b (subst (λ (y : Rule). Tall (table l n) v start len y.clause k h) (sym e) t) a
      (subst (λ (y : Rule). h < table l n start len y.left) (sym e) d)
      (subst (λ (y : Rule). Falls g v n start len (set l (2081 * y.left + pair_at n start len) h) m)
      (sym e) (falls_in f))
  falls_in (put (suc j) k h c t a d f) = absurd (omega arith)

  pub passed_in : {l m : List ℕ} {fell : Bool} (D E : ℕ → ℕ → Type 0)
      → ((j q : ℕ) → E j q → (j ≡ i) × D 0 q) → HeightsTried (r ∷ []) v n start len D l m fell
      → HeightsTried g v n start len E l m fell
  passed_in {l} {m} D E f x = record {
    falls = falls_in x.falls;
    fell = x.fell;
    same = x.same;
    tried = λ j q h d t.
        let y = f j q d in
        let at : rule g j ≡ r = ap (λ (z : ℕ). rule g z) y.0 ∙ e in
        subst (λ (z : Rule). table m n start len z.left ≤ h) (sym at)
        (x.tried 0 q h y.1 (subst (λ (z : Rule). Tall (table l n) v start len z.clause q
        h) at t));
  }

-- nothing stands with the empty word on one side
pub no_empty_side_none : (k : SpanMarks) {n start len : ℕ} {l : List ℕ} (r : Rule) → r.left < 64
    → Idle l n r.clause → HeightsTried (r ∷ []) (by_marks k len) n start len (Ends len 0) l l
    false
no_empty_side_none k {n} {start} {len} {l} r small x = record {
  falls = stays;
  fell = λ f. absurd (clash cc);
  same = λ f. refl;
  tried = λ j q h d t.
      subst (λ (i : ℕ). table l n start len (rule (r ∷ []) i).left ≤ h) (sym d.0)
      (x.high k start len q h r.left d.1
      (subst (λ (i : ℕ). Tall (table l n) (by_marks k len) start len (rule (r ∷ []) i).clause q
      h) d.0 t));
}

-- neither side has a height over the empty word
pub no_empty_side_binary : (l : List ℕ) (n B C : ℕ) (m : BinaryMark)
    → ((i : ℕ) → get_or l i 65535 ≤ 65535)
    → 65535 ≤ get_or l (2081 * B) 65535 → 65535 ≤ get_or l (2081 * C) 65535
    → Idle l n (Clause.Binary B C m)
no_empty_side_binary l n B C m few x y = record {
  high = λ k s len q h A e t. ⊎_elim (λ z. left k s len q h A z t)
      (λ z. right k s len q h A z t) e;
}
  where
    row : (s A : ℕ) → table l n s 0 A ≡ get_or l (2081 * A) 65535
    row s A = ap (λ (i : ℕ). get_or l i 65535)
        (let z : 2081 * A + pair_at n s 0 ≡ 2081 * A = omega (arith, pair_at_empty n s) in z)

    left : (k : SpanMarks) (s len q h A : ℕ) → q ≡ 0
        → Tall (table l n) (by_marks k len) s len (Clause.Binary B C m) q h → table l n s len A ≤ h
    left k s len q h A e t =
        let u : table l n s q B ≡ table l n s 0 B = ap (λ (i : ℕ). table l n s i B) e in
        omega (arith, t.2, few (2081 * A + pair_at n s len), row s B)

    right : (k : SpanMarks) (s len q h A : ℕ) → q ≡ len
        → Tall (table l n) (by_marks k len) s len (Clause.Binary B C m) q h → table l n s len A ≤ h
    right k s len q h A e t =
        let u : table l n (s + q) (len - q) C ≡ table l n (s + q) 0 C =
        ap (λ (i : ℕ). table l n (s + q) i C) (let z : len - q ≡ 0 = omega arith in z) in
        omega (arith, t.2, few (2081 * A + pair_at n s len), row (s + q) C)

-- a clause that is not binary stands nowhere with a token or more on either side
abbrev Whole : Clause → Type 0
Whole Clause.Empty = Unit {0}
Whole (Clause.Atom a b) = Unit {0}
Whole (Clause.Unary B m) = Unit {0}
Whole (Clause.Binary B C m) = ⊥

whole_none : (hs : ℕ → ℕ → ℕ → ℕ) (v : Leave) (s len : ℕ) (c : Clause) (q h : ℕ) → Whole c → 1 ≤ q
    → Tall hs v s len c q h → ⊥
whole_none hs v s len Clause.Empty q h w b t = omega (arith, t.1)
whole_none hs v s len (Clause.Atom x y) q h w b t = omega (arith, t.1)
whole_none hs v s len (Clause.Unary B m) q h w b t = omega (arith, t.1)
whole_none hs v s len (Clause.Binary B C m) q h w b t = w

pub split_none : {v : Leave} {n start len : ℕ} {l : List ℕ} (r : Rule) → r.left < 64 → {c : Clause}
    → r.clause ≡ c → Whole c → HeightsTried (r ∷ []) v n start len (Between 0 1 len) l l false
split_none {v} {n} {start} {len} {l} r small {c} e w =
    passed_none (lefts_one r small) _ (λ j q h d t.
    whole_none (table l n) v start len r.clause q h (subst Whole (sym e) w) d.1
    (subst (λ (i : ℕ). Tall (table l n) v start len (rule (r ∷ []) i).clause q h) d.0 t))

-- what stands for the missing is no more than a number
pub few_numbers : (l : List ℕ) → ((i : ℕ) → get_or l i 0 ≤ 65535) → (i : ℕ)
    → get_or l i 65535 ≤ 65535
few_numbers l f i = go (dec_lt i (length l))
  where
    go : Dec (i < length l) → get_or l i 65535 ≤ 65535
    go (yes h) = omega (arith, get_d_any l i 0 65535 h, f i)
    go (no h) = let h' : length l ≤ i = omega arith in
        omega (arith, get_or-eq_default l 65535 h')

-- so it is by the numbers that the code reads
pub no_empty_side_by : (l : List ℕ) (n B C : ℕ) (m : BinaryMark) (x y : ℕ) → length l ≡ 133184
    → ((i : ℕ) → get_or l i 0 ≤ 65535) → x ≡ B → y ≡ C → B < 64 → C < 64
    → 65535 ≤ get_or l (2081 * x) 0 → 65535 ≤ get_or l (2081 * y) 0 → Idle l n (Clause.Binary B C m)
no_empty_side_by l n B C m x y long few e f b c p q =
    no_empty_side_binary l n B C m (few_numbers l few) (read B x e b p) (read C y f c q)
  where
    read : (A z : ℕ) → z ≡ A → A < 64 → 65535 ≤ get_or l (2081 * z) 0
        → 65535 ≤ get_or l (2081 * A) 65535
    read A z e h p = subst (λ (u : ℕ). 65535 ≤ u)
        (ap (λ (u : ℕ). get_or l (2081 * u) 0) e ∙ get_d_any l (2081 * A) 0 65535 (omega arith)) p
