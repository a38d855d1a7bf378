-- The numbers of the arrangements of length n are 0 to M − 1, each once, in the sweep's order.
use mathlib.Core.Path.{◌≡◌, sym, ◌∙◌, ap}
use mathlib.Core.List.{List}
use mathlib.Core.Logic.{⊎_elim, ◌↔◌}
use Prim.Native.Nat.{ℕ, ◌≤◌, ◌<◌}
use native.Mathlib.Omega.{arith}
use lib.ListN.{length}
use Rattle.grammar.specs.declared.Cell.{Cell}
use Rattle.grammar.specs.Trees.{Rules}
use Rattle.grammar.specs.Candidates.{Terminal, Arrangement, CellsBefore}
use Rattle.grammar.specs.Sweeps.{terminal_count, terminals_below}
use Rattle.grammar.proofs.SweepLaws.{before_total}
use Rattle.arrangement_numbers.specs.Numbers.{number, capacity}
use Rattle.arrangement_numbers.specs.Shares.{total}
use Rattle.arrangement_numbers.proofs.NumberLaws.{number_lt, number_mono, capacity_all}
use Rattle.arrangement_numbers.proofs.NumberLaws.{unrank}
use Rattle.arrangement_numbers.proofs.TerminalPlaces.{place_rising, place_below, place_pick}

module _ (g : Rules) (n : ℕ) where
  -- every number below M is that of an arrangement
  pub number_onto : (N : ℕ) → 1 ≤ n → N < total g n
      → (cs : List Cell) × Arrangement (Terminal g) n cs × (number g n cs ≡ N)
  number_onto N h l =
      let q = unrank (terminal_count g) (terminals_below g) n (Terminal g)
      (λ i k. let z = place_pick g 64 i k in (z.0, z.1.1, z.2)) 0 n N
      (omega (arith, l, capacity_all (terminal_count g) (terminals_below g) n h)) in
      (q.cells, record { size = q.size; cells = q.ranged }, q.number)

  module _ (small : (x : ℕ) → Terminal g x → x < 64) where
    -- below M
    pub number_within : (cs : List Cell) → 1 ≤ n → Arrangement (Terminal g) n cs
        → number g n cs < total g n
    number_within cs h k =
        let b = number_lt (terminal_count g) (terminals_below g) n (Terminal g)
        (λ x t. place_below g x (small x t) t) 0 cs k.cells in
        let e : capacity (terminal_count g) (terminals_below g) n 0 (length cs) ≡ total g n =
        rw k.size (capacity_all (terminal_count g) (terminals_below g) n h) in
        omega arith

    rises : (cs ds : List Cell) → Arrangement (Terminal g) n cs → Arrangement (Terminal g) n ds
        → CellsBefore cs ds → number g n cs < number g n ds
    rises cs ds k l b = number_mono (terminal_count g) (terminals_below g) n (Terminal g)
        (λ x t. place_below g x (small x t) t) (λ x y t u h. place_rising g x y t h) 0 cs ds
        (k.size ∙ sym l.size) k.cells l.cells b

    -- the order of arrangements is that of their numbers
    pub number_order : (cs ds : List Cell) → Arrangement (Terminal g) n cs
        → Arrangement (Terminal g) n ds → CellsBefore cs ds ↔ (number g n cs < number g n ds)
    number_order cs ds k l = (
      rises cs ds k l,
      λ h. ⊎_elim (λ b. b) (λ r. ⊎_elim (λ e. absurd (omega (arith, ap (number g n) e)))
          (λ b. absurd (omega (arith, rises ds cs l k b))) r)
          (before_total cs ds (k.size ∙ sym l.size)),
    )

    -- no two have the same
    pub number_once : (cs ds : List Cell) → Arrangement (Terminal g) n cs
        → Arrangement (Terminal g) n ds → number g n cs ≡ number g n ds → cs ≡ ds
    number_once cs ds k l e = ⊎_elim (λ b. absurd (omega (arith, rises cs ds k l b)))
        (λ r. ⊎_elim (λ q. q) (λ b. absurd (omega (arith, rises ds cs l k b))) r)
        (before_total cs ds (k.size ∙ sym l.size))
