-- The order of cells that come after a token in column p: the least, the next and the last of them.
use mathlib.Core.Path.{◌≡◌, refl}
use mathlib.Core.Logic.{◌⊎◌, inl, inr}
use Prim.Native.Nat.{ℕ, zero, suc, ◌+◌, ◌≤◌, ◌<◌}
use native.Mathlib.Omega.{arith}
use native.Mathlib.Decide.{dec_lt}
use Rattle.grammar.specs.declared.Cell.{Cell}
use Rattle.grammar.specs.Candidates.{CellBefore}
use Rattle.grammar.proofs.SweepLaws.{cell_path}
use Rattle.candidates.specs.Windows.{Fits, LeastSpot, LeastCell, NextCell, LastCell}

-- a cell of no greater terminal, step or column
no_later : (c d : Cell) → d.terminal ≤ c.terminal
    → (d.terminal ≡ c.terminal → d.step ≤ c.step)
    → (d.terminal ≡ c.terminal → d.step ≡ c.step → d.column ≤ c.column)
    → (d ≡ c) ⊎ CellBefore d c
no_later c d t s k = elim (dec_lt d.terminal c.terminal) [
  | yes h ↦ inr (inl h)
  | no h ↦ same (omega arith)
]
  where
    last_part : d.terminal ≡ c.terminal → d.step ≡ c.step → (d ≡ c) ⊎ CellBefore d c
    last_part e f = elim (dec_lt d.column c.column)
        [ yes h ↦ inr (inr (inr (e, f, h))) | no h ↦ inl (cell_path e f (omega (arith, k e f))) ]

    same : d.terminal ≡ c.terminal → (d ≡ c) ⊎ CellBefore d c
    same e = elim (dec_lt d.step c.step)
        [ yes h ↦ inr (inr (inl (e, h))) | no h ↦ last_part e (omega (arith, s e)) ]

-- ---- the least step and column

pub spot_here : (n m p : ℕ) → p < n → LeastSpot n m p 0 (p + 1)
spot_here n m p h = record {
  step = omega arith;
  low = omega arith;
  high = omega arith;
  after = λ z.
      omega arith;
  least_step = λ s k a b c. omega arith;
  least_column =
      λ k a b. omega (arith, b refl);
}

pub spot_next : (n m p : ℕ) → 1 ≤ n → 1 ≤ m → n ≤ p → LeastSpot n m p 1 1
spot_next n m p a b h = record {
  step = b;
  low = omega arith;
  high = a;
  after = λ z. absurd
      (omega arith);
  least_step = step;
  least_column = λ k l c. l;
}
  where
    step : (s' k' : ℕ) → s' ≤ m → k' ≤ n → (s' ≡ 0 → p < k') → 1 ≤ s'
    step zero k i j c = absurd (omega (arith, c refl))
    step (suc s) k i j c = omega arith

module _ (Q : ℕ → Type 0) (n m p : ℕ) where
  spot_fits : (t s k : ℕ) → Q t → LeastSpot n m p s k
      → Fits Q n m p (record { terminal = t; step = s; column = k })
  spot_fits t s k q h = record {
    ranged = record
        { terminal = q; step = h.step; low = h.low; high = h.high };
    after = h.after;
  }

  -- no cell with the spot's terminal is before it
  spot_least : (t s k : ℕ) (d : Cell) → LeastSpot n m p s k → Fits Q n m p d
      → ((d.terminal ≡ t) × (d.step < s)) ⊎ ((d.terminal ≡ t) × (d.step ≡ s) × (d.column < k))
      → ⊥
  spot_least t s k d h f (inl b) = omega
      (arith, h.least_step d.step d.column f.ranged.step f.ranged.high f.after)
  spot_least t s k d h f (inr b) =
      omega (arith, h.least_column d.column f.ranged.low (λ z. f.after (omega arith)))

  pub least_cell : (t s k : ℕ) → Q t → ((x : ℕ) → Q x → t ≤ x) → LeastSpot n m p s k
      → LeastCell Q n m p (record { terminal = t; step = s; column = k })
  least_cell t s k q l h = record { fits = spot_fits t s k q h; least = go }
    where
      go : (d : Cell) → Fits Q n m p d
          → CellBefore d (record { terminal = t; step = s; column = k }) → ⊥
      go d f (inl b) = omega (arith, l d.terminal f.ranged.terminal)
      go d f (inr b) = spot_least t s k d h f b

  module _ (c : Cell) (f : Fits Q n m p c) where
    -- a column further
    pub advance_column : c.column < n
        → NextCell Q n m p c (record {
          terminal = c.terminal;
          step = c.step;
          column = c.column
              + 1;
        })
    advance_column h = record {
      fits = record {
        ranged = record {
          terminal = f.ranged.terminal;
          step = f.ranged.step;
          low = omega arith;
          high =
              omega arith;
        };
        after = λ z. omega (arith, f.after z);
      };
      later = inr (inr (refl, refl, omega arith));
      gapless = go;
    }
      where
        go : (d : Cell) → Fits Q n m p d
            → CellBefore d (record {
              terminal = c.terminal;
              step = c.step;
              column = c.column
                  + 1;
            }) → (d ≡ c) ⊎ CellBefore d c
        go d g (inl b) = inr (inl b)
        go d g (inr (inl b)) = inr (inr (inl b))
        go d g (inr (inr b)) = no_later c d (omega arith) (λ e. omega arith) (λ e s. omega arith)

    module _ (full : n ≤ c.column) where
      -- a step further
      pub advance_step : c.step < m → NextCell Q n m p c
          (record { terminal = c.terminal; step = c.step + 1; column = 1 })
      advance_step h = record {
        fits = record {
          ranged = record {
            terminal = f.ranged.terminal;
            step = omega arith;
            low = omega arith;
            high = omega
                (arith, f.ranged.low, f.ranged.high);
          };
          after = λ z. absurd (omega arith);
        };
        later = inr (inl (refl, omega arith));
        gapless = go;
      }
        where
          go : (d : Cell) → Fits Q n m p d
              → CellBefore d (record { terminal = c.terminal; step = c.step + 1; column = 1 })
              → (d ≡ c) ⊎ CellBefore d c
          go d g (inl b) = inr (inl b)
          go d g (inr (inl b)) =
              no_later c d (omega arith) (λ e. omega arith) (λ e s. omega (arith, g.ranged.high))
          go d g (inr (inr b)) = absurd (omega (arith, g.ranged.low))

      module _ (top : m ≤ c.step) where
        -- a terminal further
        pub advance_terminal : (t s k : ℕ) → Q t → c.terminal < t
            → ((x : ℕ) → Q x → x < t → x ≤ c.terminal) → LeastSpot n m p s k
            → NextCell Q n m p c (record { terminal = t; step = s; column = k })
        advance_terminal t s k q h l w =
            record { fits = spot_fits t s k q w; later = inl h; gapless = go }
          where
            go : (d : Cell) → Fits Q n m p d
                → CellBefore d (record { terminal = t; step = s; column = k })
                → (d ≡ c) ⊎ CellBefore d c
            go d g (inl b) = no_later c d (l d.terminal g.ranged.terminal b)
                (λ e. omega (arith, g.ranged.step)) (λ e x. omega (arith, g.ranged.high))
            go d g (inr b) = absurd (spot_least t s k d w g b)

        -- no further
        pub last_cell : ((x : ℕ) → Q x → x ≤ c.terminal) → LastCell Q n m p c
        last_cell l = record {
          last = λ d g. no_later c d (l d.terminal g.ranged.terminal)
              (λ e. omega (arith, g.ranged.step)) (λ e x. omega (arith, g.ranged.high));
        }
