-- What a look tells, and where the search stands after it.
use mathlib.Core.Path.{◌≡◌, refl, sym, ap, ◌∙◌, subst}
use mathlib.Core.Bool.{Bool, true, false, not}
use mathlib.Core.List.{List}
use Prim.Native.Nat.{ℕ, ◌+◌, ◌^◌, ◌≤◌, ◌<◌}
use borrow.Author.Tests.{not-true, not-false}
use native.Mathlib.Omega.{arith}
use lib.Seq.{take_all}
use Rattle.sets.specs.Says.{Says}
use Rattle.sets.proofs.Says.{true_not_false}
use Rattle.grammar.specs.declared.Cell.{Cell}
use Rattle.grammar.specs.Trees.{Rules, TwoTrees}
use Rattle.grammar.specs.Candidates.{Candidate, sentence}
use Rattle.candidates.specs.Terminals.{Among}
use Rattle.candidates.specs.Succession.{Shares, First, Follows}
use Rattle.candidates.proofs.Measure.{left, left_falls}
use Rattle.arrangement_numbers.specs.Blocks.{number_in, room, least}
use Rattle.equivalents.specs.Twins.{Replaceable}
use Rattle.share_search.specs.Searching.{Looked, ShareTurn, Hits}
use Rattle.share_search.proofs.Turns.{begin, onward, whole, first_meets, barren_early}
use Rattle.share_search.proofs.Turns.{barren_twin}

-- ---- a look

module _ {g : Rules} {s n lo b : ℕ} {cs : List Cell} (small : s < 2 ^ 64) (le : b ≤ n) where
  -- all numbers are below the start
  pub looked_early : least s n b cs + room s n b ≤ lo → Looked true g s n lo b cs
  looked_early l =
      record { barren = λ e. barren_early small le l; meets = λ e. absurd (true_not_false e) }

  -- some are, and some are not
  pub looked_across : (b ≡ n → ⊥) → Looked false g s n lo b cs
  looked_across far =
      record { barren = λ e. absurd (true_not_false (sym e)); meets = λ e i. absurd (far i) }

  -- none is below that of the first h cells' block, and each candidate has a twin there
  pub looked_twin : {out : Bool} {h : ℕ} → (b ≡ n → ⊥) → h ≤ b → lo ≤ least s n h cs
      → (out ≡ true → Replaceable g s n b h cs) → Looked out g s n lo b cs
  looked_twin far lt l p =
      record { barren = λ e. barren_twin small lt le l (p e); meets = λ e i. absurd (far i) }

  -- all cells are known: what shares them is the candidate itself
  pub looked_whole : {two : Bool} → b ≡ n → Candidate (Among s) n cs
      → lo < least s n b cs + room s n b → Says two (TwoTrees g 0 (sentence cs))
      → Looked (not two) g s n lo b cs
  looked_whole {two} e k w y = record {
    barren = λ q. record {
      absent = λ ds d sh. y.isnt (not-true two q)
          (subst (λ (l : List Cell). TwoTrees g 0 (sentence l)) (same ds d.meets.candidate sh)
          d.meets.two);
    };
    meets = λ q i. record { candidate = k; from = from; two = y.is (not-false two q) };
  }
    where
      same : (ds : List Cell) → Candidate (Among s) n ds → Shares b ds cs → ds ≡ cs
      same ds c sh = sym (take_all b ds (let z = c.arranged.size in omega arith)) ∙ sh
          ∙ take_all b cs (let z = k.arranged.size in omega arith)

      from : lo ≤ number_in s n cs
      from =
          let q : lo < least s n n cs + room s n n =
          subst (λ (z : ℕ). lo < least s n z cs + room s n z) e w in
          let z = whole s n cs k.arranged.size in
          omega (arith, q, z.0, z.1)

-- ---- where the search stands

-- at the first candidate
pub turn_first : {g : Rules} {s n lo : ℕ} {cs : List Cell} → s < 2 ^ 64 → First s n cs
    → ShareTurn g s n lo 0 cs
turn_first small f = record { before = begin small f; known = omega arith }

-- ruled out: at the least candidate past the block
pub turn_next : {g : Rules} {s n lo b upto : ℕ} {out : Bool} {cs rs : List Cell} → s < 2 ^ 64
    → ShareTurn g s n lo b cs → Looked out g s n lo b cs → out ≡ true → Follows s n b cs upto rs
    → ShareTurn g s n lo upto rs
turn_next small t l e f = record
    { before = onward small t.before (l.barren e) f; known = omega (arith, f.high, t.known) }

-- not ruled out: a cell more
pub turn_more : {g : Rules} {s n lo b : ℕ} {cs : List Cell} → ShareTurn g s n lo b cs → (b ≡ n → ⊥)
    → ShareTurn g s n lo (b + 1) cs
turn_more t h = record { before = t.before; known = omega (arith, t.known, h) }

-- fewer candidates are left past a block
pub next_falls : {g : Rules} {s n lo b upto : ℕ} {cs rs : List Cell} → n ≤ 7
    → ShareTurn g s n lo b cs → Follows s n b cs upto rs → left rs < left cs
next_falls {s = s} {n} {cs = cs} few t f = left_falls s n few t.before.candidate f.candidate
    (f.later cs t.before.candidate refl)

-- not ruled out, and all cells looked at: it is found, and its number is its block's
pub hit_of : {g : Rules} {s n lo hi b N : ℕ} {out : Bool} {cs : List Cell} → s < 2 ^ 64
    → ShareTurn g s n lo b cs → Looked out g s n lo b cs → out ≡ false → b ≡ n → N ≡ least s n b cs
    → N < hi → Hits g s n lo hi N cs
hit_of {s = s} {n} {N = N} {cs = cs} small t l e i q h =
    let z = whole s n cs t.before.candidate.arranged.size in
    let y : N ≡ number_in s n cs = q ∙ ap (λ (x : ℕ). least s n x cs) i ∙ z.0 in
    record {
      number = y;
      high = omega (arith, y);
      lowest = first_meets small t.before (l.meets e i);
    }
