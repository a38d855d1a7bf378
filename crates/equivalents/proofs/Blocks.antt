-- Where no candidate before a block has two trees, and each in it that has two has a twin, none in
-- it has.
use mathlib.Core.Path.{◌≡◌, refl, sym, ◌∙◌}
use mathlib.Core.List.{List, [], ◌∷◌}
use mathlib.Core.Logic.{◌⊎◌, inl, inr, ⊎_elim}
use Prim.Native.Nat.{ℕ, zero, suc, ◌-◌, ◌≤◌, ◌<◌}
use native.Mathlib.Omega.{arith}
use native.Mathlib.Nat.{not-suc-le-zero}
use lib.ListN.{length, take}
use Rattle.grammar.specs.declared.Cell.{Cell}
use Rattle.grammar.specs.Trees.{Rules, TwoTrees}
use Rattle.grammar.specs.Candidates.{Candidate, CellsBefore, sentence}
use Rattle.candidates.specs.Terminals.{Among}
use Rattle.candidates.specs.Succession.{Shares}
use Rattle.candidates.proofs.Measure.{left, span, span_same, left_lt, left_falls}
use Rattle.equivalents.specs.Twins.{Replaceable}

-- what comes before a member of a block is in it, or before the whole
before_block : (b : ℕ) (xs ds cs : List Cell) → CellsBefore xs ds → Shares b ds cs
    → length ds ≡ length cs → Shares b xs cs ⊎ CellsBefore xs cs
before_block zero xs ds cs h e n = inl refl
before_block (suc b) [] ds cs h e n = absurd h
before_block (suc b) (x ∷ xs) [] cs h e n = absurd h
before_block (suc b) (x ∷ xs) (d ∷ ds) [] h e n = absurd (omega arith)
before_block (suc b) (x ∷ xs) (d ∷ ds) (c ∷ cs) h e n =
    go h (λ x y. before_block b xs ds cs x y (omega arith))
  where
    head : d ≡ c
    head = cc

    tail : take b ds ≡ take b cs
    tail = cc

    go : CellsBefore (x ∷ xs) (d ∷ ds)
        → (CellsBefore xs ds → Shares b ds cs → Shares b xs cs ⊎ CellsBefore xs cs)
        → Shares (suc b) (x ∷ xs) (c ∷ cs) ⊎ CellsBefore (x ∷ xs) (c ∷ cs)
    go (inl l) f = inr (inl (rw head at l))
    go (inr q) f = ⊎_elim (λ y. inl (let z = q.0 ∙ head in cc)) (λ y. inr (inr (q.0 ∙ head, y)))
        (f q.1 tail)

module _ {g : Rules} {s n b p : ℕ} {cs : List Cell} (few : n ≤ 7) (k : Candidate (Among s) n cs)
    (none : (ds : List Cell) → Candidate (Among s) n ds → CellsBefore ds cs
    → TwoTrees g 0 (sentence ds) → ⊥) (r : Replaceable g s n b p cs) where
  no_more : (m : ℕ) (ds : List Cell) → span ds - left ds < m → Candidate (Among s) n ds
      → Shares b ds cs → TwoTrees g 0 (sentence ds) → ⊥
  no_more zero ds h c e t = not-suc-le-zero h
  no_more (suc m) ds h c e t =
      let x = r.twin ds c e t in
      let f = left_falls s n few x.candidate c x.before in
      let q : span x.cells ≡ span ds =
      span_same x.cells ds (x.candidate.arranged.size ∙ sym c.arranged.size) in
      ⊎_elim (λ y. no_more m x.cells (omega (arith, left_lt x.cells, left_lt ds, f, q, h))
      x.candidate y x.two) (λ y. none x.cells x.candidate y x.two)
      (before_block b x.cells ds cs x.before e (c.arranged.size ∙ sym k.arranged.size))

  pub none_in_block : (ds : List Cell) → Candidate (Among s) n ds → Shares b ds cs
      → TwoTrees g 0 (sentence ds) → ⊥
  none_in_block ds = no_more (suc (span ds - left ds)) ds (omega arith)
