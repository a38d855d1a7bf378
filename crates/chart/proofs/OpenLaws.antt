-- A span of open tokens is settled by what can stand over them, whatever the known tokens are; one
-- open token has the pair that is given.
use mathlib.Core.Path.{◌≡◌, refl}
use mathlib.Core.List.{List}
use Prim.Native.Nat.{ℕ, ◌+◌, ◌≤◌, ◌<◌}
use native.Mathlib.Omega.{arith}
use native.Mathlib.Decide.{ℕ_discrete}
use Rattle.grammar.specs.Trees.{Rules}
use Rattle.marks.specs.Half.{Half}
use Rattle.tables.specs.Tables.{Table, One, Two, by_tokens}
use Rattle.tables.specs.Settled.{Told, Settled}
use Rattle.chart.specs.Openness.{anything, Open}
use Rattle.tables.proofs.Views.{Yields, stand_view, again_view}

-- where nothing is known, the tokens leave everything
open_yields : (h : Half) (a b : ℕ) → h.known ≤ a → 1 < b → Yields anything (by_tokens h a b) b
open_yields h a b k y = record {
  atom = λ e x z u. absurd (omega arith);
  unary = λ m u. record { keeps = λ i l q. absurd (omega arith) };
  binary = λ m l f u. record { pairs = λ x y q. absurd (omega arith) };
}

yields_open : (h : Half) (a b : ℕ) → Yields (by_tokens h a b) anything b
yields_open h a b = record { atom = λ e x y u. tt; unary = λ m u. tt; binary = λ m l f u. tt }

-- so each such span is settled
pub open_settled : {g : Rules} {n : ℕ} {ws : List ℕ} {to : ℕ} → Open g n ws to → (h : Half)
    → h.known ≤ to → (a b : ℕ) → to ≤ a → 0 < b → a + b ≤ n → Settled (One ws n) (Two ws n) g h a b
open_settled {g} {n} {ws} {to} o h k a b x y f = record {
  derived = λ A kn m. absurd (omega arith);
  more = λ A kn m. absurd (omega arith);
  each = λ A i l u c. o.each a b A i l x (long u) f
      (stand_view (One ws n) g (by_tokens h a b) anything a b A i l (yields_open h a b) c);
  again = λ A u c. o.again a b A x (long u) f
      (again_view (One ws n) (Two ws n) g (by_tokens h a b) anything a b A (yields_open h a b) c);
}
  where
    long : Told h a b → 1 < b
    long u = go (ℕ_discrete b 1)
      where
        go : Dec (b ≡ 1) → 1 < b
        go (yes e) = absurd (let z = u e in omega arith)
        go (no e) = omega arith

-- nothing is asked of one open token
pub given_settled : (one two : Table) (g : Rules) (h : Half) (s : ℕ) → h.known ≤ s
    → Settled one two g h s 1
given_settled one two g h s k = record {
  derived = λ A kn m. absurd (omega arith);
  more = λ A kn m. absurd (omega arith);
  each = λ A i l u c. absurd (let z = u refl in omega arith);
  again = λ A u c. absurd (let z = u refl in omega arith);
}

-- and where all spans are settled, those of open tokens hold for every sentence
pub settled_open : {g : Rules} {n : ℕ} {ws : List ℕ} (h : Half)
    → ((a b : ℕ) → a + b ≤ n → Settled (One ws n) (Two ws n) g h a b) → Open g n ws h.known
settled_open {g} {n} {ws} h t = record {
  each = λ a b A i l x y f c. (t a b f).each A i l (λ e. absurd (omega arith))
      (stand_view (One ws n) g anything (by_tokens h a b) a b A i l (open_yields h a b x y) c);
  again = λ a b A x y f c. (t a b f).again A (λ e. absurd (omega arith))
      (again_view (One ws n) (Two ws n) g anything (by_tokens h a b) a b A (open_yields h a b x y)
      c);
}

-- fewer spans
pub open_less : {g : Rules} {n : ℕ} {ws : List ℕ} {to : ℕ} (more : ℕ) → to ≤ more → Open g n ws to
    → Open g n ws more
open_less more h o = record {
  each = λ a b A i l x. o.each a b A i l (omega arith);
  again = λ a b A
      x. o.again a b A (omega arith);
}

-- none
pub open_none : (g : Rules) (n : ℕ) (ws : List ℕ) (to : ℕ) → n ≤ to → Open g n ws to
open_none g n ws to h = record {
  each = λ a b A i l x y f c. absurd (omega arith);
  again = λ a b A x
      y f c. absurd (omega arith);
}
