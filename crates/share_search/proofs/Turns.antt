-- The turns of the search from a number on, and what it finds.
use mathlib.Core.Path.{◌≡◌, refl, sym, ◌∙◌, ap}
use mathlib.Core.Logic.{⊎_elim}
use mathlib.Core.List.{List}
use Prim.Native.Nat.{ℕ, zero, suc, ◌+◌, ◌-◌, ◌^◌, ◌≤◌, ◌<◌}
use native.Mathlib.Omega.{arith}
use native.Mathlib.Nat.{mul-one}
use lib.ListN.{length}
use lib.Seq.{take_all}
use Rattle.grammar.specs.declared.Cell.{Cell}
use Rattle.grammar.specs.Trees.{Rules}
use Rattle.grammar.proofs.SweepLaws.{before_total}
use Rattle.candidates.specs.Succession.{Shares, First, Follows, Ends}
use Rattle.arrangement_numbers.specs.Blocks.{number_in, room, least}
use Rattle.arrangement_numbers.proofs.BlockLaws.{number_rises, block_low, block_high}
use Rattle.equivalents.specs.Twins.{Replaceable}
use Rattle.equivalents.proofs.Lowered.{shares_less}
use Rattle.share_search.specs.Searching.{Meets, Lowest, NoneBefore, NoneSharing}

module _ {g : Rules} {s n lo : ℕ} (small : s < 2 ^ 64) where
  -- ---- the first of those that meet it is before all others

  -- no first below hi: none below hi
  pub none_meets : (hi : ℕ) → ((ds : List Cell) → Lowest g s n lo ds → number_in s n ds < hi → ⊥)
      → (ds : List Cell) → Meets g s n lo ds → number_in s n ds < hi → ⊥
  none_meets zero h ds m l = omega arith
  none_meets (suc hi) h ds m l =
      h ds (record {
        meets = m;
        absent = λ es k b. none_meets hi (λ fs f q. h fs f (omega arith)) es k
            (omega (arith, number_rises s n small k.candidate m.candidate b));
      }) l

  -- what meets it, with no first before it, is the first
  pub first_meets : {cs : List Cell} → NoneBefore g s n lo cs → Meets g s n lo cs
      → Lowest g s n lo cs
  first_meets {cs} h m = record {
    meets = m;
    absent = λ ds k b. none_meets (number_in s n cs)
        (λ es e q. before es e q) ds k (number_rises s n small k.candidate m.candidate b);
  }
    where
      before : (es : List Cell) → Lowest g s n lo es → number_in s n es < number_in s n cs → ⊥
      before es e q =
          ⊎_elim (λ b. h.absent es e b)
          (λ r. ⊎_elim (λ z. omega (arith, ap (number_in s n) z))
          (λ b. omega (arith, number_rises s n small m.candidate e.meets.candidate b)) r)
          (before_total es cs (e.meets.candidate.arranged.size
          ∙ sym m.candidate.arranged.size))

  -- ---- where the search stands

  pub begin : {cs : List Cell} → First s n cs → NoneBefore g s n lo cs
  begin f =
      record { candidate = f.candidate; absent = λ ds d b. f.first ds d.meets.candidate b }

  pub onward : {b upto : ℕ} {cs rs : List Cell} → NoneBefore g s n lo cs → NoneSharing g s n lo b cs
      → Follows s n b cs upto rs → NoneBefore g s n lo rs
  onward h q f = record {
    candidate = f.candidate;
    absent = λ ds d e. ⊎_elim (λ x. q.absent ds d x)
        (λ x. h.absent ds d x) (f.least ds d.meets.candidate e);
  }

  -- past all candidates
  pub over : {b : ℕ} {cs : List Cell} (hi : ℕ) → NoneBefore g s n lo cs → NoneSharing g s n lo b cs
      → Ends s n b cs → (ds : List Cell) → Meets g s n lo ds → number_in s n ds < hi → ⊥
  over hi h q e = none_meets hi (λ ds d l. ⊎_elim (λ x. q.absent ds d x) (λ x. h.absent ds d x)
      (e.last ds d.meets.candidate))

  -- at the end of the share
  pub at_end : {b : ℕ} {cs : List Cell} (hi : ℕ) → b ≤ n → NoneBefore g s n lo cs
      → hi ≤ least s n b cs → (ds : List Cell) → Meets g s n lo ds → number_in s n ds < hi → ⊥
  at_end {b} {cs} hi le h l = none_meets hi (λ ds d q. go ds d q)
    where
      low : least s n b cs ≤ number_in s n cs
      low = block_low s n small b cs le h.candidate refl

      go : (ds : List Cell) → Lowest g s n lo ds → number_in s n ds < hi → ⊥
      go ds d q =
          ⊎_elim (λ b. h.absent ds d b)
          (λ r. ⊎_elim (λ z. omega (arith, ap (number_in s n) z, low))
          (λ b. omega (
            arith,
            low,
            number_rises s n small h.candidate d.meets.candidate
                b,
          )) r) (before_total ds cs (d.meets.candidate.arranged.size
          ∙ sym h.candidate.arranged.size))

  -- ---- what is passed over

  -- all numbers of the block are below lo
  pub barren_early : {b : ℕ} {cs : List Cell} → b ≤ n → least s n b cs + room s n b ≤ lo
      → NoneSharing g s n lo b cs
  barren_early {b} {cs} le l = record {
    absent = λ ds d sh. omega (
      arith,
      d.meets.from,
      block_high s n small b cs le
          d.meets.candidate sh,
    );
  }

  -- each has a twin whose number is from lo on
  pub barren_twin : {b h : ℕ} {cs : List Cell} → h ≤ b → b ≤ n → lo ≤ least s n h cs
      → Replaceable g s n b h cs → NoneSharing g s n lo b cs
  barren_twin {b} {h} {cs} hb le l r = record { absent = go }
    where
      go : (ds : List Cell) → Lowest g s n lo ds → Shares b ds cs → ⊥
      go ds d sh =
          let t = r.twin ds d.meets.candidate sh d.meets.two in
          d.absent t.cells (record {
            candidate = t.candidate;
            from = omega (
              arith,
              l,
              block_low s n small h cs (omega arith) t.candidate
                  (t.kept ∙ shares_less h b ds cs hb sh),
            );
            two = t.two;
          }) t.before

-- the number of a whole candidate is that of its block
pub whole : (s n : ℕ) (cs : List Cell) → length cs ≡ n
    → (least s n n cs ≡ number_in s n cs) × (room s n n ≡ 1)
whole s n cs e =
    let z : n - n ≡ 0 = omega arith in
    let r : room s n n ≡ 1 = rw z in
    (rw (r, take_all n cs (omega arith)) (mul-one (number_in s n cs)), r)
