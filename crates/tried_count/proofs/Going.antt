-- What the numbers of specs/Ways.antt count: the lists of cells that go on after a token, and those
-- of them before a given one.
use mathlib.Core.Path.{◌≡◌, refl, sym, ◌∙◌, ap, subst}
use mathlib.Core.Logic.{◌⊎◌, inl, inr, ⊎_elim}
use mathlib.Core.List.{List, [], ◌∷◌}
use Prim.Native.Nat.{ℕ, zero, suc, ◌+◌, ◌-◌, ◌*◌, ◌≤◌, ◌<◌}
use native.Mathlib.Omega.{arith}
use native.Mathlib.Decide.{dec_lt}
use native.Mathlib.Nat.{zero-mul, suc-mul}
use lib.ListN.{length}
use Rattle.grammar.specs.declared.Cell.{Cell}
use Rattle.grammar.specs.Candidates.{Candidate, CellBefore, CellsBefore}
use Rattle.grammar.proofs.SweepLaws.{cell_path}
use Rattle.counting.specs.Counts.{HowMany}
use Rattle.counting.proofs.CountLaws.{counts_none, counts_one, counts_iff, counts_plus, counts_map}
use Rattle.counting.proofs.CountLaws.{counts_times, Image, Belongs}
use Rattle.candidates.specs.Windows.{Fits, Fit}
use Rattle.candidates.proofs.ListOrder.{fit_candidate, candidate_fit}
use Rattle.tried_count.specs.Ways.{sum, ways, lesser, onward, whole_of, rank_from}

-- a step of at most m and a column of 1 to n, after a token in column p
record Spot (n m p : ℕ) (d : Cell) : Type 0 where
  pub step : d.step ≤ m
  pub low : 1 ≤ d.column
  pub high : d.column ≤ n
  pub after : d.step ≡ 0 → p < d.column

module _ (Q : ℕ → Type 0) (n : ℕ) where
  -- r cells that go on after a token in column p, the first with a step of at most m
  pub record Goes (m p r : ℕ) (ds : List Cell) : Type 0 where
    pub size : length ds ≡ r
    pub fit : Fit Q n m p ds

  -- a cell with H, and r cells that go on after it
  record Begins (H : Cell → Type 0) (r : ℕ) (ds : List Cell) : Type 0 where
    pub head : Cell
    pub tail : List Cell
    pub is : ds ≡ head ∷ tail
    pub has : H head
    pub rest : Goes 2 head.column r tail

  module _ (r : ℕ) where
    begins_iff : {H K : Cell → Type 0} {m : ℕ} → ((d : Cell) → H d → K d) → ((d : Cell) → K d → H d)
        → HowMany (Begins H r) m → HowMany (Begins K r) m
    begins_iff f g c = counts_iff
        (λ ds b. record {
          head = b.head;
          tail = b.tail;
          is = b.is;
          has = f b.head b.has;
          rest = b.rest;
        })
        (λ ds b. record {
          head = b.head;
          tail = b.tail;
          is = b.is;
          has = g b.head b.has;
          rest = b.rest;
        })
        c

    begins_none : {H : Cell → Type 0} → ((d : Cell) → H d → ⊥) → HowMany (Begins H r) 0
    begins_none h = counts_none (λ ds b. h b.head b.has)

    begins_plus : {H K : Cell → Type 0} {m l : ℕ} → HowMany (Begins H r) m → HowMany (Begins K r) l
        → ((d : Cell) → H d → K d → ⊥) → HowMany (Begins (λ (d : Cell). H d ⊎ K d) r) (m + l)
    begins_plus {H} {K} p q apart = counts_iff to from
        (counts_plus p q (λ ds a b. apart b.head (subst H (same ds a b) a.has) b.has))
      where
        same : (ds : List Cell) (a : Begins H r ds) (b : Begins K r ds) → a.head ≡ b.head
        same ds a b = let e : a.head ∷ a.tail ≡ b.head ∷ b.tail = sym a.is ∙ b.is in cc

        to : (ds : List Cell) → Begins H r ds ⊎ Begins K r ds
            → Begins (λ (d : Cell). H d ⊎ K d) r ds
        to ds (inl b) = record {
          head = b.head;
          tail = b.tail;
          is = b.is;
          has = inl b.has;
          rest = b.rest;
        }
        to ds (inr b) = record {
          head = b.head;
          tail = b.tail;
          is = b.is;
          has = inr b.has;
          rest = b.rest;
        }

        from : (ds : List Cell) → Begins (λ (d : Cell). H d ⊎ K d) r ds
            → Begins H r ds ⊎ Begins K r ds
        from ds b = ⊎_elim
            (λ h. inl (record {
              head = b.head;
              tail = b.tail;
              is = b.is;
              has = h;
              rest = b.rest;
            }))
            (λ h. inr (record {
              head = b.head;
              tail = b.tail;
              is = b.is;
              has = h;
              rest = b.rest;
            })) b.has

    -- one cell
    begins_cell : (c : Cell) {m : ℕ} → HowMany (Goes 2 c.column r) m
        → HowMany (Begins (λ (d : Cell). d ≡ c) r) m
    begins_cell c g = counts_iff to from (counts_map (λ (es : List Cell). c ∷ es) (λ a b e. cc) g)
      where
        to : (ds : List Cell) → Image (λ (es : List Cell). c ∷ es) (Goes 2 c.column r) ds
            → Begins (λ (d : Cell). d ≡ c) r ds
        to ds x = record { head = c; tail = x.0; is = x.2; has = refl; rest = x.1 }

        from : (ds : List Cell) → Begins (λ (d : Cell). d ≡ c) r ds
            → Image (λ (es : List Cell). c ∷ es) (Goes 2 c.column r) ds
        from ds b = (
          b.tail,
          subst (λ (d : Cell). Goes 2 d.column r b.tail) b.has
              b.rest,
          b.is ∙ ap (λ (d : Cell). d ∷ b.tail) b.has,
        )

    module _ (f : ℕ → ℕ) (on : (k : ℕ) → HowMany (Goes 2 k r) (f k)) where
      -- a cell with terminal a and step s in one of the j columns after p
      abbrev InRow : ℕ → ℕ → ℕ → ℕ → Cell → Type 0
      InRow a s p j d = (d.terminal ≡ a) × (d.step ≡ s) × (p < d.column) × (d.column ≤ p + j)

      row : (a s p j : ℕ) → HowMany (Begins (InRow a s p j) r) (sum f p j)
      unfolding sum
      row a s p zero = begins_none (λ d h. omega (arith, h.2, h.3))
      row a s p (suc j) = begins_iff to from
          (begins_plus (row a s p j) (begins_cell
          (record { terminal = a; step = s; column = p + suc j }) (on (p + suc j))) apart)
        where
          to : (d : Cell) → InRow a s p j d
              ⊎ (d ≡ record { terminal = a; step = s; column = p + suc j }) → InRow a s p (suc j) d
          to d (inl h) = (h.0, h.1, h.2, omega (arith, h.3))
          to d (inr e) = let x = ap (λ (z : Cell). z.column) e in (
            ap (λ (z : Cell). z.terminal) e,
            ap (λ (z : Cell). z.step) e,
            omega (arith, x),
            omega (arith, x),
          )

          from : (d : Cell) → InRow a s p (suc j) d
              → InRow a s p j d ⊎ (d ≡ record { terminal = a; step = s; column = p + suc j })
          from d h = elim (dec_lt d.column (p + suc j)) [
            | yes l ↦ inl (h.0, h.1, h.2, omega (arith, l))
            | no l ↦ inr (cell_path h.0 h.1 (omega (arith, l, h.3)))
          ]

          apart : (d : Cell) → InRow a s p j d
              → d ≡ record { terminal = a; step = s; column = p + suc j } → ⊥
          apart d h e = omega (arith, h.3, ap (λ (z : Cell). z.column) e)

      -- a cell with terminal a, at any spot
      abbrev WithTerminal : ℕ → ℕ → ℕ → Cell → Type 0
      WithTerminal a m p d = (d.terminal ≡ a) × Spot n m p d

      no_step : (a p : ℕ) → HowMany (Begins (WithTerminal a 0 p) r) (ways f n 0 p)
      unfolding ways
      no_step a p = subst (λ (x : ℕ). HowMany (Begins (WithTerminal a 0 p) r) x) whole
          (begins_iff to from (row a 0 p (n - p)))
        where
          whole : sum f p (n - p) ≡ sum f p (n - p) + 0 * sum f 0 n
          whole = rw (zero-mul (sum f 0 n)) (omega arith)

          to : (d : Cell) → InRow a 0 p (n - p) d → WithTerminal a 0 p d
          to d h = (
            h.0,
            record {
              step = omega (arith, h.1);
              low = omega (arith, h.2);
              high =
                  omega (arith, h.2, h.3);
              after = λ e. h.2;
            },
          )

          from : (d : Cell) → WithTerminal a 0 p d → InRow a 0 p (n - p) d
          from d h =
              let z : d.step ≡ 0 = omega (arith, h.1.step) in
              let l = h.1.after z in
              (h.0, z, l, omega (arith, l, h.1.high))

      a_step : (a m p : ℕ) → HowMany (Begins (WithTerminal a m p) r) (ways f n m p)
          → HowMany (Begins (WithTerminal a (suc m) p) r) (ways f n (suc m) p)
      unfolding ways
      a_step a m p c = subst (λ (x : ℕ). HowMany (Begins (WithTerminal a (suc m) p) r) x) whole
          (begins_iff to from (begins_plus c (row a (suc m) 0 n) apart))
        where
          whole : sum f p (n - p) + m * sum f 0 n + sum f 0 n ≡ sum f p (n - p) + suc m * sum f 0 n
          whole = rw (suc-mul m (sum f 0 n)) (omega arith)

          to : (d : Cell) → WithTerminal a m p d ⊎ InRow a (suc m) 0 n d
              → WithTerminal a (suc m) p d
          to d (inl h) = (
            h.0,
            record {
              step = omega (arith, h.1.step);
              low = h.1.low;
              high = h.1.high;
              after = h.1.after;
            },
          )
          to d (inr h) = (
            h.0,
            record {
              step = omega (arith, h.1);
              low = omega (arith, h.2);
              high = omega (arith, h.3);
              after = λ e. absurd (omega (arith, e, h.1));
            },
          )

          from : (d : Cell) → WithTerminal a (suc m) p d
              → WithTerminal a m p d ⊎ InRow a (suc m) 0 n d
          from d h = elim (dec_lt d.step (suc m)) [
            | yes l ↦ inl (
              h.0,
              record {
                step = omega (arith, l);
                low = h.1.low;
                high = h.1.high;
                after = h.1.after;
              },
            )
            | no l ↦ inr (
              h.0,
              omega (arith, l, h.1.step),
              omega (arith, h.1.low),
              omega
                  (arith, h.1.high),
            )
          ]

          apart : (d : Cell) → WithTerminal a m p d → InRow a (suc m) 0 n d → ⊥
          apart d h k = omega (arith, h.1.step, k.1)

      with-terminal : (a m p : ℕ) → HowMany (Begins (WithTerminal a m p) r) (ways f n m p)
      with-terminal a zero p = no_step a p
      with-terminal a (suc m) p = a_step a m p (with-terminal a m p)

      -- a cell with a terminal that has R, at any spot
      among : {R : ℕ → Type 0} {t : ℕ} (m p : ℕ) → HowMany R t
          → HowMany (Begins (λ (d : Cell). R d.terminal × Spot n m p d) r) (t * ways f n m p)
      among {R} {t} m p c = counts_iff to from
          (counts_times (λ (a : ℕ) (ds : List Cell). Begins (WithTerminal a m p) r ds) apart
          (ways f n m p) c (λ a x. with-terminal a m p))
        where
          to : (ds : List Cell) → Belongs R
              (λ (a : ℕ) (ds : List Cell). Begins (WithTerminal a m p) r ds) ds
              → Begins (λ (d : Cell). R d.terminal × Spot n m p d) r ds
          to ds x = let b = x.2 in record {
            head = b.head;
            tail = b.tail;
            is = b.is;
            has =
                (subst R (sym b.has.0) x.1, b.has.1);
            rest = b.rest;
          }

          from : (ds : List Cell) → Begins (λ (d : Cell). R d.terminal × Spot n m p d) r ds
              → Belongs R (λ (a : ℕ) (ds : List Cell). Begins (WithTerminal a m p) r ds) ds
          from ds b = (
            b.head.terminal,
            b.has.0,
            record {
              head = b.head;
              tail = b.tail;
              is = b.is;
              has = (refl, b.has.1);
              rest =
                  b.rest;
            },
          )

          apart : (a c : ℕ) (ds : List Cell) → Begins (WithTerminal a m p) r ds
              → Begins (WithTerminal c m p) r ds → a ≡ c
          apart a c ds x y =
              let e : x.head ∷ x.tail ≡ y.head ∷ y.tail = sym x.is ∙ y.is in
              let h : x.head ≡ y.head = cc in
              sym x.has.0 ∙ ap (λ (z : Cell). z.terminal) h ∙ y.has.0

      -- a cell with the terminal of c at a spot before c's
      abbrev Lesser : ℕ → Cell → Cell → Type 0
      Lesser p c d = (d.terminal ≡ c.terminal) × Spot n c.step p d
          × ((d.step < c.step) ⊎ ((d.step ≡ c.step) × (d.column < c.column)))

      lesser_count : (m p : ℕ) (c : Cell) → Spot n m p c
          → HowMany (Begins (Lesser p c) r) (lesser f n p c.step c.column)
      lesser_count m p c w = go c.step refl
        where
          here : c.step ≡ 0 → (d : Cell) → InRow c.terminal 0 p (c.column - 1 - p) d
              → Lesser p c d
          here e d h = (
            h.0,
            record {
              step = omega (arith, h.1);
              low = omega (arith, h.2);
              high =
                  omega (arith, h.2, h.3, w.high);
              after = λ z. h.2;
            },
            inr (h.1 ∙ sym e, omega (arith, h.2, h.3)),
          )

          back : c.step ≡ 0 → (d : Cell) → Lesser p c d
              → InRow c.terminal 0 p (c.column - 1 - p) d
          back e d h = ⊎_elim (λ l. absurd (omega (arith, l, e)))
              (λ l. let z : d.step ≡ 0 = l.0 ∙ e in let q = h.1.after z in
              (h.0, z, q, omega (arith, q, l.1))) h.2

          to : (s : ℕ) → c.step ≡ suc s → (d : Cell)
              → WithTerminal c.terminal s p d ⊎ InRow c.terminal (suc s) 0 (c.column - 1) d
              → Lesser p c d
          to s e d (inl h) = (
            h.0,
            record {
              step = omega (arith, e, h.1.step);
              low = h.1.low;
              high = h.1.high;
              after =
                  h.1.after;
            },
            inl (omega (arith, e, h.1.step)),
          )
          to s e d (inr h) = (
            h.0,
            record {
              step = omega (arith, e, h.1);
              low = omega (arith, h.2);
              high =
                  omega (arith, h.2, h.3, w.high);
              after = λ z. absurd (omega (arith, z, h.1));
            },
            inr (h.1 ∙ sym e, omega (arith, h.2, h.3)),
          )

          from : (s : ℕ) → c.step ≡ suc s → (d : Cell) → Lesser p c d
              → WithTerminal c.terminal s p d ⊎ InRow c.terminal (suc s) 0 (c.column - 1) d
          from s e d h = ⊎_elim
              (λ l. inl (
                h.0,
                record {
                  step = omega (arith, l, e);
                  low = h.1.low;
                  high = h.1.high;
                  after = h.1.after;
                },
              ))
              (λ l. inr (h.0, l.0 ∙ e, omega (arith, h.1.low), omega (arith, l.1)))
              h.2

          apart : (s : ℕ) (d : Cell) → WithTerminal c.terminal s p d
              → InRow c.terminal (suc s) 0 (c.column - 1) d → ⊥
          apart s d h k = omega (arith, h.1.step, k.1)

          go : (s : ℕ) → c.step ≡ s → HowMany (Begins (Lesser p c) r) (lesser f n p s c.column)
          go zero e = begins_iff (here e) (back e) (row c.terminal 0 p (c.column - 1 - p))
          go (suc s) e = begins_iff (to s e) (from s e)
              (begins_plus (with-terminal c.terminal s p)
              (row c.terminal (suc s) 0 (c.column - 1)) (apart s))

      -- the cells before c
      before_cell : {b : ℕ} (m p : ℕ) (c : Cell) → Fits Q n m p c
          → HowMany (λ (x : ℕ). (x < c.terminal) × Q x) b
          → HowMany (Begins (λ (d : Cell). Fits Q n m p d × CellBefore d c) r)
          (b * ways f n m p + lesser f n p c.step c.column)
      before_cell {b} m p c w q =
          begins_iff to from (begins_plus (among m p q) (lesser_count m p c spot) apart)
        where
          spot : Spot n m p c
          spot = record {
            step = w.ranged.step;
            low = w.ranged.low;
            high = w.ranged.high;
            after = w.after;
          }

          to : (d : Cell) → (((d.terminal < c.terminal) × Q d.terminal) × Spot n m p d)
              ⊎ Lesser p c d → Fits Q n m p d × CellBefore d c
          to d (inl h) = (
            record {
              ranged = record
                  { terminal = h.0.1; step = h.1.step; low = h.1.low; high = h.1.high };
              after =
                  h.1.after;
            },
            inl h.0.0,
          )
          to d (inr h) = (
            record {
              ranged = record {
                terminal = subst Q (sym h.0) w.ranged.terminal;
                step =
                    omega (arith, h.1.step, w.ranged.step);
                low = h.1.low;
                high = h.1.high;
              };
              after = h.1.after;
            },
            ⊎_elim (λ l. inr (inl (h.0, l))) (λ l. inr (inr (h.0, l.0, l.1))) h.2,
          )

          same : (d : Cell) → d.step ≤ c.step → Fits Q n m p d → Spot n c.step p d
          same d l h =
              record { step = l; low = h.ranged.low; high = h.ranged.high; after = h.after }

          split : (d : Cell) → Fits Q n m p d → CellBefore d c
              → (((d.terminal < c.terminal) × Q d.terminal) × Spot n m p d) ⊎ Lesser p c d
          split d h (inl l) = inl (
            (l, h.ranged.terminal),
            record {
              step = h.ranged.step;
              low = h.ranged.low;
              high = h.ranged.high;
              after =
                  h.after;
            },
          )
          split d h (inr (inl l)) = inr (l.0, same d (omega (arith, l.1)) h, inl l.1)
          split d h (inr (inr l)) = inr (l.0, same d (omega (arith, l.1)) h, inr (l.1, l.2))

          from : (d : Cell) → Fits Q n m p d × CellBefore d c
              → (((d.terminal < c.terminal) × Q d.terminal) × Spot n m p d) ⊎ Lesser p c d
          from d h = split d h.0 h.1

          apart : (d : Cell) → ((d.terminal < c.terminal) × Q d.terminal) × Spot n m p d
              → Lesser p c d → ⊥
          apart d h k = omega (arith, h.0.0, k.0)

      -- all that fit
      first_cell : {t : ℕ} (m p : ℕ) → HowMany Q t → HowMany (Goes m p (suc r)) (t * ways f n m p)
      first_cell m p c = counts_iff to from (among m p c)
        where
          to : (ds : List Cell) → Begins (λ (d : Cell). Q d.terminal × Spot n m p d) r ds
              → Goes m p (suc r) ds
          to ds b =
              let w = b.has.1 in
              rw b.is (record {
                size = ap suc b.rest.size;
                fit = (
                  record {
                    ranged = record
                        { terminal = b.has.0; step = w.step; low = w.low; high = w.high };
                    after =
                        w.after;
                  },
                  b.rest.fit,
                );
              })

          from : (ds : List Cell) → Goes m p (suc r) ds
              → Begins (λ (d : Cell). Q d.terminal × Spot n m p d) r ds
          from [] g = absurd (omega (arith, g.size))
          from (d ∷ ds) g =
              let h = g.fit.0 in
              record {
                head = d;
                tail = ds;
                is = refl;
                has = (
                  h.ranged.terminal,
                  record {
                    step = h.ranged.step;
                    low = h.ranged.low;
                    high = h.ranged.high;
                    after =
                        h.after;
                  },
                );
                rest = record { size = omega (arith, g.size); fit = g.fit.1 };
              }

  -- ---- the theorem: the numbers count

  module _ (t : ℕ) (terminals : HowMany Q t) where
    pub onward_counts : (r p : ℕ) → HowMany (Goes 2 p r) (onward t n r p)
    unfolding onward
    onward_counts zero p = counts_one [] (record { size = refl; fit = tt }) only
      where
        only : (ds : List Cell) → Goes 2 p 0 ds → ds ≡ []
        only [] g = refl
        only (d ∷ ds) g = absurd (omega (arith, g.size))
    onward_counts (suc r) p = first_cell r (onward t n r) (λ k. onward_counts r k) 2 p terminals

    -- ds goes on as cs does, and comes before it
    pub record GoesBefore (m p : ℕ) (cs ds : List Cell) : Type 0 where
      pub goes : Goes m p (length cs) ds
      pub before : CellsBefore ds cs

    module _ (below : ℕ → ℕ) (under : (a : ℕ) → Q a
        → HowMany (λ (x : ℕ). (x < a) × Q x) (below a)) where
      pub rank_counts : (m p : ℕ) (cs : List Cell) → Fit Q n m p cs
          → HowMany (GoesBefore m p cs) (rank_from below t n m p cs)
      rank_counts m p [] w = counts_none no_one
        where
          no_one : (ds : List Cell) → GoesBefore m p [] ds → ⊥
          no_one [] g = g.before
          no_one (d ∷ ds) g = g.before
      rank_counts m p (c ∷ cs) w =
          counts_iff to from
          (counts_plus
          (before_cell (length cs) (onward t n (length cs)) (λ k. onward_counts (length cs) k) m p c
          w.0 (under c.terminal w.0.ranged.terminal))
          (counts_map (λ (es : List Cell). c ∷ es) (λ a b e. cc)
          (rank_counts 2 c.column cs w.1))
          apart)
        where
          to : (ds : List Cell) → Begins (λ (d : Cell). Fits Q n m p d × CellBefore d c) (length cs)
              ds ⊎ Image (λ (es : List Cell). c ∷ es) (GoesBefore 2 c.column cs) ds
              → GoesBefore m p (c ∷ cs) ds
          to ds (inl b) = rw b.is (record {
            goes = record { size = ap suc b.rest.size; fit = (b.has.0, b.rest.fit) };
            before = inl b.has.1;
          })
          to ds (inr b) = rw b.2 (record {
            goes = record { size = ap suc b.1.goes.size; fit = (w.0, b.1.goes.fit) };
            before = inr (refl, b.1.before);
          })

          split : (d : Cell) (ds : List Cell) → Goes m p (suc (length cs)) (d ∷ ds)
              → CellBefore d c ⊎ ((d ≡ c) × CellsBefore ds cs)
              → Begins (λ (d : Cell). Fits Q n m p d × CellBefore d c) (length cs) (d ∷ ds)
              ⊎ Image (λ (es : List Cell). c ∷ es) (GoesBefore 2 c.column cs) (d ∷ ds)
          split d ds g (inl l) = inl (record {
            head = d;
            tail = ds;
            is = refl;
            has = (g.fit.0, l);
            rest =
                record { size = omega (arith, g.size); fit = g.fit.1 };
          })
          split d ds g (inr l) = inr (
            ds,
            record {
              goes = record {
                size = omega (arith, g.size);
                fit = subst
                    (λ (x : Cell). Fit Q n 2 x.column ds) l.0 g.fit.1;
              };
              before = l.1;
            },
            ap (λ (x : Cell). x ∷ ds) l.0,
          )

          from : (ds : List Cell) → GoesBefore m p (c ∷ cs) ds
              → Begins (λ (d : Cell). Fits Q n m p d × CellBefore d c) (length cs) ds
              ⊎ Image (λ (es : List Cell). c ∷ es) (GoesBefore 2 c.column cs) ds
          from [] g = absurd (omega (arith, g.goes.size))
          from (d ∷ ds) g = split d ds g.goes g.before

          apart : (ds : List Cell) → Begins (λ (d : Cell). Fits Q n m p d × CellBefore d c)
              (length cs) ds → Image (λ (es : List Cell). c ∷ es) (GoesBefore 2 c.column cs) ds
              → ⊥
          apart ds b x =
              let e : b.head ∷ b.tail ≡ c ∷ x.0 = sym b.is ∙ x.2 in
              let h : b.head ≡ c = cc in
              never b.head h b.has.1
            where
              never : (d : Cell) → d ≡ c → CellBefore d c → ⊥
              never d h (inl l) = omega (arith, l, ap (λ (z : Cell). z.terminal) h)
              never d h (inr (inl l)) = omega (arith, l.1, ap (λ (z : Cell). z.step) h)
              never d h (inr (inr l)) = omega (arith, l.2, ap (λ (z : Cell). z.column) h)

      -- the candidates of length n before one of them
      pub rank_candidates : (cs : List Cell) → Candidate Q n cs
          → HowMany (λ (ds : List Cell). Candidate Q n ds × CellsBefore ds cs)
          (rank_from below t n 0 0 cs)
      rank_candidates cs k = counts_iff
          (λ ds g. (
            fit_candidate Q n ds (g.goes.size ∙ k.arranged.size) g.goes.fit,
            g.before,
          ))
          (λ ds g. record {
            goes = record {
              size = g.0.arranged.size ∙ sym k.arranged.size;
              fit = candidate_fit Q n ds
                  g.0;
            };
            before = g.1;
          }) (rank_counts 0 0 cs (candidate_fit Q n cs k))

    -- all candidates of length n
    pub whole_candidates : 1 ≤ n → HowMany (Candidate Q n) (whole_of t n)
    unfolding whole_of
    whole_candidates h =
        let e : suc (n - 1) ≡ n = omega arith in
        counts_iff
        (λ ds g. fit_candidate Q n ds (g.size ∙ e) g.fit)
        (λ ds k. record { size = k.arranged.size ∙ sym e; fit = candidate_fit Q n ds k })
        (first_cell (n - 1) (onward t n (n - 1)) (λ k. onward_counts (n - 1) k) 0 0 terminals)
