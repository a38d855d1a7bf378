-- What a look tells, and where the search stands after it.
use mathlib.Core.Path.{◌≡◌, refl, sym, ◌∙◌, subst}
use mathlib.Core.Bool.{Bool, true, not}
use mathlib.Core.List.{List}
use Prim.Native.Nat.{ℕ, ◌+◌, ◌*◌, ◌≤◌, ◌<◌}
use borrow.Author.Tests.{not-true, not-false}
use native.Mathlib.Nat.{mul-le-mul}
use native.Mathlib.Omega.{arith}
use lib.Seq.{take_all}
use Rattle.sets.specs.Says.{Says}
use Rattle.sets.proofs.Says.{true_not_false}
use Rattle.grammar.specs.declared.Cell.{Cell}
use Rattle.grammar.specs.Trees.{Rules, TwoTrees}
use Rattle.grammar.specs.Candidates.{Candidate, sentence}
use Rattle.grammar.specs.SpanSheet.{pairs}
use Rattle.spans.specs.Changes.{Past}
use Rattle.spans.proofs.Places.{pairs_closed}
use Rattle.spans.proofs.ChangeLaws.{past_more, past_then}
use Rattle.candidates.specs.Terminals.{Among}
use Rattle.candidates.specs.Succession.{Shares, First, Follows}
use Rattle.candidates.proofs.Measure.{left, left_falls}
use Rattle.equivalents.specs.Twins.{Replaceable, Slack}
use Rattle.equivalents.proofs.Blocks.{none_in_block}
use Rattle.sweeping.specs.Searching.{NoneBefore, NoneSharing, Looked, SweepTurn}
use Rattle.sweeping.proofs.Turns.{begin, onward}

module _ {g : Rules} {s n b : ℕ} {cs : List Cell} where
  -- each has an earlier one, and none before the block has two trees
  twins_barren : n ≤ 7 → Replaceable g s n b 0 cs → NoneBefore g s n cs → NoneSharing g s n b cs
  twins_barren few r q = record { absent = none_in_block few q.candidate q.absent r }

  -- what reads like something earlier needs no look at a chart
  pub looked_earlier_twin : n ≤ 7 → Slack n b 0 cs → Looked true g s n b cs
  looked_earlier_twin few sl = record {
    barren = λ e. twins_barren few (sl.replaceable g s);
    two = λ e.
        absurd (true_not_false e);
  }

  -- some cells are open
  pub looked_refuted : {out : Bool} → n ≤ 7 → (b ≡ n → ⊥) → (out ≡ true → Replaceable g s n b 0 cs)
      → Looked out g s n b cs
  looked_refuted few far r =
      record { barren = λ e. twins_barren few (r e); two = λ e h. absurd (far h) }

  -- none is: what shares all cells is the candidate itself
  pub looked_whole : {two : Bool} → b ≡ n → Says two (TwoTrees g 0 (sentence cs))
      → Looked (not two) g s n b cs
  looked_whole {two} e y = record {
    barren = λ q h. record {
      absent = λ ds c sh t. y.isnt (not-true two q)
          (subst (λ (l : List Cell). TwoTrees g 0 (sentence l)) (same ds c h.candidate sh) t);
    };
    two = λ q h. y.is (not-false two q);
  }
    where
      same : (ds : List Cell) → Candidate (Among s) n ds → Candidate (Among s) n cs → Shares b ds cs
          → ds ≡ cs
      same ds c k sh =
          sym (take_all b ds (let z = c.arranged.size in omega arith)) ∙ sh
          ∙ take_all b cs (let z = k.arranged.size in omega arith)

-- at the first candidate of a length
pub turn_first : {g : Rules} {s n : ℕ} {cs : List Cell} → First s n cs → SweepTurn g s n 0 cs
turn_first f = record { before = begin f; known = omega arith }

module _ {g : Rules} {s n b : ℕ} {out : Bool} {cs : List Cell} (t : SweepTurn g s n b cs)
    (l : Looked out g s n b cs) where
  pub ruled_out : out ≡ true → NoneSharing g s n b cs
  ruled_out e = l.barren e t.before

  -- ruled out: at the least candidate past the block
  pub turn_next : {upto : ℕ} {rs : List Cell} → out ≡ true → Follows s n b cs upto rs
      → SweepTurn g s n upto rs
  turn_next e f = record {
    before = onward t.before (ruled_out e) f;
    known = omega
        (arith, f.high, t.known);
  }

-- not ruled out: a cell more
pub turn_more : {g : Rules} {s n b : ℕ} {cs : List Cell} → SweepTurn g s n b cs → (b ≡ n → ⊥)
    → SweepTurn g s n (b + 1) cs
turn_more t h = record { before = t.before; known = omega (arith, t.known, h) }

-- fewer candidates are left past a block
pub next_falls : {g : Rules} {s n b upto : ℕ} {cs rs : List Cell} → n ≤ 7 → SweepTurn g s n b cs
    → Follows s n b cs upto rs → left rs < left cs
next_falls {s = s} {n} {cs = cs} few t f = left_falls s n few t.before.candidate f.candidate
    (f.later cs t.before.candidate refl)

-- a span sheet for more tokens has at least as many pairs
pub pairs_mono : (n k : ℕ) → n ≤ k → pairs n ≤ pairs k
pairs_mono n k h =
    let m : n * (n + 1) ≤ k * (k + 1) = mul-le-mul h (let z : n + 1 ≤ k + 1 = omega arith in z) in
    omega (arith, pairs_closed n, pairs_closed k)

pub past_longer : {n : ℕ} {ws ws' : List ℕ} (k : ℕ) → n ≤ k → Past (2 * pairs n) ws ws'
    → Past (2 * pairs k) ws ws'
past_longer {n} k h p = past_more (omega (arith, pairs_mono n k h)) p

-- a length's words: as they are made open, as they were left by the looks before, and by this one
pub past_turn : {n k : ℕ} {ws ws' xs ys zs : List ℕ} → n ≤ k → Past (2 * pairs k) ws ws'
    → Past (2 * pairs n) ws' xs → Past (2 * pairs n) xs ys → Past (2 * pairs n) ys zs
    → Past (2 * pairs k) ws zs
past_turn {k = k} h p q r s = past_then p (past_longer k h (past_then q (past_then r s)))
