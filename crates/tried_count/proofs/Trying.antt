-- The candidates tried, length by length, and up to the found one.
use mathlib.Core.Path.{◌≡◌, refl, sym, ◌∙◌, ap, subst}
use mathlib.Core.Logic.{◌⊎◌, inl, inr, ⊎_elim, ◌↔◌}
use mathlib.Core.List.{List, [], ◌∷◌}
use Prim.Native.Nat.{ℕ, ◌+◌, ◌-◌, ◌*◌, ◌^◌, ◌≤◌, ◌<◌}
use native.Mathlib.Omega.{arith}
use native.Mathlib.Decide.{dec_lt}
use native.Mathlib.Nat.{mul-le-mul}
use lib.ListN.{length}
use lib.Count.{ones}
use Rattle.std.specs.Prelude.{Option, Some}
use Rattle.grammar.specs.declared.Cell.{Cell}
use Rattle.grammar.specs.Candidates.{Candidate, CellsBefore}
use Rattle.grammar.specs.Sweeps.{SweepAnswer, clear, found}
use Rattle.candidates.specs.Arrays.{cells}
use Rattle.candidates.specs.Terminals.{Among}
use Rattle.candidates.proofs.TerminalSets.{candidate_over}
use Rattle.counting.specs.Counts.{HowMany}
use Rattle.counting.proofs.CountLaws.{counts_none, counts_one, counts_iff, counts_plus, counts_le}
use Rattle.tried_count.specs.Ways.{ways, onward, whole_of, rank_from}
use Rattle.tried_count.specs.Rows.{Fair, Fairs, members_below_of}
use Rattle.tried_count.specs.Tried.{Sized, Tried}
use Rattle.tried_count.proofs.Sums.{ways_le}
use Rattle.tried_count.proofs.Bounds.{onward_small, fair_shorter}
use Rattle.tried_count.proofs.Members.{among_count, among_below}
use Rattle.tried_count.proofs.Going.{whole_candidates, rank_candidates}
use Rattle.tried_count.specs.Searched.{Long, Hit, Hits}
use Rattle.tried_count.specs.declared.Hit as Found

-- all candidates of a fair length are few
pub whole_small : (t n : ℕ) → Fair t n → whole_of t n ≤ 5772436045824
unfolding whole_of
whole_small t n f =
    let w = ways_le (onward t n (n - 1)) 4294967296
    (λ k. onward_small t n (n - 1) k f (omega (arith, f.low))) n 0 0 in
    let z : t * ways (onward t n (n - 1)) n 0 0 ≤ 64 * 30064771072 = mul-le-mul {n₁ = t}
    {m₁ = ways (onward t n (n - 1)) n 0 0} {n₂ = 64} {m₂ = 30064771072} f.few
    (omega (arith, w, f.high)) in
    omega (arith, z)

pub fair_all : {t k : ℕ} → Fair t k → Fairs t k
fair_all f = record { each = λ n l u. fair_shorter n l u f }

pub fairs_less : {t k : ℕ} (n : ℕ) → n ≤ k → Fairs t k → Fairs t n
fairs_less n h f = record { each = λ i l u. f.each i l (omega arith) }

module _ (L Q : ℕ → Type 0) where
  -- what a search found, where it found one
  pub hit_of : {k : ℕ} (r : Option Found.Hit) (h : Found.Hit) → r ≡ Some h → Hits L Q k r
      → Hit L Q k h.length (cells h.candidate 0 h.length)
  hit_of {k} r h e q = let z : Hits L Q k (Some h) = rw e at q in z

  pub long_all : {m : ℕ} (n : ℕ) → L n → HowMany (Candidate Q n) m → HowMany (Long L Q n) m
  long_all n l c =
      counts_iff (λ cs k. record { allowed = l; candidate = k }) (λ cs k. k.candidate) c

  pub long_none : (n : ℕ) → (L n → ⊥) → HowMany (Long L Q n) 0
  long_none n h = counts_none (λ cs k. h k.allowed)

  pub sized_none : HowMany (Sized L Q 0) 0
  sized_none = counts_none (λ cs k. omega (arith, k.low, k.high))

  -- one length more
  pub sized_more : {m x : ℕ} (n : ℕ) → 1 ≤ n → HowMany (Sized L Q (n - 1)) m
      → HowMany (Long L Q n) x
      → HowMany (Sized L Q n) (m + x)
  sized_more n low s l = counts_iff to from
      (counts_plus s l (λ cs a b. omega (arith, a.high, b.candidate.arranged.size)))
    where
      to : (cs : List Cell) → Sized L Q (n - 1) cs ⊎ Long L Q n cs → Sized L Q n cs
      to cs (inl a) = record {
        low = a.low;
        high = omega (arith, a.high);
        allowed = a.allowed;
        candidate = a.candidate;
      }
      to cs (inr b) =
          let e : length cs ≡ n = b.candidate.arranged.size in
          record {
            low = omega (arith, e);
            high = omega (arith, e);
            allowed = subst L (sym e)
                b.allowed;
            candidate = subst (λ (i : ℕ). Candidate Q i cs) (sym e) b.candidate;
          }

      from : (cs : List Cell) → Sized L Q n cs → Sized L Q (n - 1) cs ⊎ Long L Q n cs
      from cs a = elim (dec_lt (length cs) n) [
        | yes h ↦ inl (record {
          low = a.low;
          high = omega (arith, h);
          allowed = a.allowed;
          candidate = a.candidate;
        })
        | no h ↦ inr (long cs a (omega (arith, h, a.high)))
      ]
        where
          long : (cs : List Cell) → Sized L Q n cs → length cs ≡ n → Long L Q n cs
          long cs a e = record {
            allowed = subst L e a.allowed;
            candidate = subst
                (λ (i : ℕ). Candidate Q i cs) e a.candidate;
          }

  -- the shorter ones, those of the same length before the found one, and that one
  module _ (k n : ℕ) (cs : List Cell) (h : Hit L Q k n cs) where
    size : length cs ≡ n
    size = h.candidate.arranged.size

    itself : Sized L Q k cs
    itself = record {
      low = omega (arith, size, h.low);
      high = omega (arith, size, h.high);
      allowed =
          subst L (sym size) h.allowed;
      candidate =
          subst (λ (i : ℕ). Candidate Q i cs) (sym size) h.candidate;
    }

    never : (ds : List Cell) → CellsBefore ds ds → ⊥
    never [] b = b
    never (d ∷ ds) (inl (inl b)) = omega arith
    never (d ∷ ds) (inl (inr (inl b))) = omega (arith, b.1)
    never (d ∷ ds) (inl (inr (inr b))) = omega (arith, b.2)
    never (d ∷ ds) (inr b) = never ds b.1

    to : (ds : List Cell) → (Sized L Q (n - 1) ds ⊎ (Candidate Q n ds × CellsBefore ds cs))
        ⊎ (ds ≡ cs) → Tried L Q k (found cs) ds
    to ds (inl (inl a)) = (
      record {
        low = a.low;
        high = omega (arith, a.high, h.high);
        allowed =
            a.allowed;
        candidate = a.candidate;
      },
      inr (inl (omega (arith, h.low, a.high, size))),
    )
    to ds (inl (inr b)) =
        let e : length ds ≡ n = b.0.arranged.size in (
          record {
            low = omega (arith, e, h.low);
            high = omega (arith, e, h.high);
            allowed = subst L
                (sym e) h.allowed;
            candidate =
                subst (λ (i : ℕ). Candidate Q i ds) (sym e) b.0;
          },
          inr (inr (e ∙ sym size, b.1)),
        )
    to ds (inr e) = (subst (Sized L Q k) (sym e) itself, inl e)

    from : (ds : List Cell) → Tried L Q k (found cs) ds
        → (Sized L Q (n - 1) ds ⊎ (Candidate Q n ds × CellsBefore ds cs)) ⊎ (ds ≡ cs)
    from ds t = ⊎_elim (λ e. inr e)
        (λ b. ⊎_elim
        (λ l. inl (inl (record {
          low = t.0.low;
          high = omega (arith, l, size);
          allowed = t.0.allowed;
          candidate = t.0.candidate;
        })))
        (λ l. inl (inr (subst (λ (i : ℕ). Candidate Q i ds) (l.0 ∙ size) t.0.candidate, l.1)))
        b)
        t.1

    pub tried_found : {m x : ℕ} → HowMany (Sized L Q (n - 1)) m
        → HowMany (λ (ds : List Cell). Candidate Q n ds × CellsBefore ds cs) x
        → HowMany (Tried L Q k (found cs)) (m + x + 1)
    tried_found {m} {x} s b =
        counts_iff to from
        (counts_plus
        (counts_plus s b (λ ds p q. omega (arith, h.low, p.high, q.0.arranged.size)))
        (counts_one cs refl (λ ds e. e))
        (λ ds p e. apart ds p e))
      where
        apart : (ds : List Cell) → Sized L Q (n - 1) ds ⊎ (Candidate Q n ds × CellsBefore ds cs)
            → ds ≡ cs → ⊥
        apart ds (inl p) e = omega (arith, h.low, p.high, ap length e, size)
        apart ds (inr p) e = never cs (subst (λ (z : List Cell). CellsBefore z cs) e p.1)

-- ---- over the members of a set

module _ (s : ℕ) (word : s < 2 ^ 64) where
  pub whole_counts : (t n : ℕ) → t ≡ ones s → Fair (ones s) n
      → HowMany (Candidate (Among s) n) (whole_of t n)
  whole_counts t n e f = whole_candidates (Among s) n t (rw e (among_count s word)) f.low

  pub rank_counts : (t n : ℕ) (cs : List Cell) → t ≡ ones s → Candidate (Among s) n cs
      → HowMany (λ (ds : List Cell). Candidate (Among s) n ds × CellsBefore ds cs)
      (rank_from (members_below_of s) t n 0 0 cs)
  rank_counts t n cs e k = rank_candidates (Among s) n t (rw e (among_count s word))
      (members_below_of s) (λ a m. among_below s a m) cs k

  -- fewer come before one than there are
  pub rank_small : (t n : ℕ) (cs : List Cell) → t ≡ ones s → Fair (ones s) n
      → Candidate (Among s) n cs → rank_from (members_below_of s) t n 0 0 cs ≤ 5772436045824
  rank_small t n cs e f k =
      let x = counts_le (rank_counts t n cs e k) (whole_counts t n e f) (λ ds p. p.0) in
      omega (arith, x, whole_small t n (rw e f))

-- ---- other words for the same lengths and terminals

module _ {L M Q R : ℕ → Type 0} {k : ℕ} (lengths : (n : ℕ) → n ≤ k → L n ↔ M n)
    (terminals : (x : ℕ) → Q x ↔ R x) where
  sized_over : (cs : List Cell) → Sized L Q k cs → Sized M R k cs
  sized_over cs s = record {
    low = s.low;
    high = s.high;
    allowed = (lengths (length cs) s.high
        ).0 s.allowed;
    candidate = candidate_over Q R (λ x. (terminals x).0) s.candidate;
  }

  sized_back : (cs : List Cell) → Sized M R k cs → Sized L Q k cs
  sized_back cs s = record {
    low = s.low;
    high = s.high;
    allowed = (lengths (length cs) s.high
        ).1 s.allowed;
    candidate = candidate_over R Q (λ x. (terminals x).1) s.candidate;
  }

  pub tried_over : {m : ℕ} (a : SweepAnswer) → HowMany (Tried L Q k a) m → HowMany (Tried M R k a) m
  tried_over clear c = counts_iff sized_over sized_back c
  tried_over (found cs) c =
      counts_iff (λ ds t. (sized_over ds t.0, t.1)) (λ ds t. (sized_back ds t.0, t.1)) c
