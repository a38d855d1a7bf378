-- What is found, in the words of the definition, and the answer spelled from it.
use mathlib.Core.Path.{◌≡◌, sym, ap, ◌∙◌}
use mathlib.Core.Logic.{⊎_elim, ◌↔◌}
use mathlib.Core.List.{List, ◌++◌}
use Prim.Native.Nat.{ℕ, ◌^◌, ◌≤◌, ◌<◌}
use native.Mathlib.Omega.{arith}
use lib.Count.{ones}
use lib.ListN.{drop, take-append-drop}
use Rattle.std.specs.Prelude.{Option, Some, None}
use Rattle.grammar.specs.declared.Token.{Token}
use Rattle.candidates.specs.Arrays.{cells}
use Rattle.grammar.specs.declared.Cell.{Cell}
use Rattle.grammar.specs.declared.Sentence.{Sentence}
use Rattle.grammar.specs.Layout.{Word}
use Rattle.grammar.specs.Trees.{Rules, TwoTrees}
use Rattle.grammar.specs.Candidates.{Terminal, Candidate, sentence}
use Rattle.grammar.specs.Sweeps.{arrangements, terminal_count}
use Rattle.grammar.proofs.SweepLaws.{before_total}
use Rattle.candidates.specs.Terminals as Set
use Rattle.candidates.specs.Terminals.{Among, Terminals}
use Rattle.candidates.specs.Spelling.{LowSteps, Spells}
use Rattle.candidates.proofs.Counting.{counted}
use Rattle.candidates.proofs.Spelling.{low_steps}
use Rattle.candidates.proofs.TerminalSets.{no_candidate, candidate_over}
use Rattle.arrangement_numbers.specs.Numbers.{number}
use Rattle.arrangement_numbers.specs.Shares.{NoneIn}
use Rattle.arrangement_numbers.specs.Blocks.{place_in, number_in, Few}
use Rattle.arrangement_numbers.proofs.NumberLaws.{capacity_all}
use Rattle.arrangement_numbers.proofs.SetPlaces.{number-in, place_below}
use Rattle.arrangement_numbers.proofs.BlockLaws.{number_rises}
use Rattle.share_search.specs.declared.Hit.{Hit}
use Rattle.share_search.specs.Searching.{Meets, Hits, Searched}
use Rattle.share_search.specs.Sharing.{SharedTwo, Found, FoundLowest}

-- a set with a least terminal, of a sweep that is taken on
pub few_of : (g : Rules) (s n low : ℕ) → s < 2 ^ 64 → 1 ≤ n → n ≤ 7 → Terminals g s
    → Set.Lowest s low → arrangements (terminal_count g) n ≤ 4294967296 → Few s n
few_of g s n low small l u t w h = record {
  low = l;
  high = u;
  nonempty = omega (arith, place_below s small low w.there);
  limit = omega (
    arith,
    capacity_all (ones s) (place_in s) n l,
    ap (λ (x : ℕ). arrangements x n)
        ((counted s small).terminals g t),
    h,
  );
}

module _ {g g' : Rules} (s n : ℕ) (small : s < 2 ^ 64) (t : Terminals g s)
    (same : (x : ℕ) → Among s x ↔ Terminal g x)
    (two↔ : (w : Word) → TwoTrees g 0 w ↔ TwoTrees g' 0 w) where
  to : {cs : List Cell} → Candidate (Terminal g) n cs → Candidate (Among s) n cs
  to c = candidate_over (Terminal g) (Among s) (λ x. (same x).1) c

  of : {cs : List Cell} → Candidate (Among s) n cs → Candidate (Terminal g) n cs
  of c = candidate_over (Among s) (Terminal g) (λ x. (same x).0) c

  num : (cs : List Cell) → number_in s n cs ≡ number g n cs
  num cs = number-in g s n small t cs

  lowest_of : {lo hi N : ℕ} {cs : List Cell} → Hits g' s n lo hi N cs → FoundLowest g n lo hi N cs
  lowest_of {lo} {hi} {N} {cs} x = record {
    number = x.number ∙ num cs;
    lowest = record {
      candidate = of x.lowest.meets.candidate;
      low = omega (arith, x.lowest.meets.from, num cs);
      high = omega (arith, x.high, num cs);
      two = (two↔ (sentence cs)).1 x.lowest.meets.two;
      lowest = record {
        absent = λ ds c a b two. go ds
            (record {
              candidate = to c;
              from = omega (arith, a, num ds);
              two = (two↔ (sentence ds)).0 two;
            }) (omega (arith, b, num ds, num cs));
      };
    };
  }
    where
      go : (ds : List Cell) → Meets g' s n lo ds → number_in s n ds < number_in s n cs → ⊥
      go ds m b =
          ⊎_elim (λ y. x.lowest.absent ds m y)
          (λ r. ⊎_elim (λ z. omega (arith, ap (number_in s n) z))
          (λ y. omega (arith, number_rises s n small x.lowest.meets.candidate m.candidate y)) r)
          (before_total ds cs (m.candidate.arranged.size
          ∙ sym x.lowest.meets.candidate.arranged.size))

  pub found_of : (lo hi : ℕ) (r : Option Hit) → Searched g' s n lo hi r → Found g n lo hi r
  found_of lo hi (Some h) x = lowest_of x
  found_of lo hi None x = record {
    absent = λ ds c a b two. x.absent ds
        (record {
          candidate = to c;
          from = omega (arith, a, num ds);
          two = (two↔ (sentence ds)).0 two;
        }) (omega (arith, b, num ds));
  }

-- no terminal, no candidate
pub found_none : {g : Rules} {s n lo hi : ℕ} → ((x : ℕ) → Among s x ↔ Terminal g x) → 1 ≤ n
    → ((x : ℕ) → Among s x → ⊥) → NoneIn g n lo hi
found_none {g} {s} {n} same h none = record {
  absent = λ ds c a b two. no_candidate (Terminal g) (λ x m. none x ((same x).1 m)) n ds h c;
}

-- ---- as the share's two arms have it

pub lowest_at : (g : Rules) (n lo hi : ℕ) (r : Option Hit) (h : Hit) → r ≡ Some h
    → Found g n lo hi r → FoundLowest g n lo hi h.number (cells h.candidate 0 n)
lowest_at g n lo hi r h e f = let z : Found g n lo hi (Some h) = rw e at f in z

pub none_at : (g : Rules) (n lo hi : ℕ) (r : Option Hit) → r ≡ None → Found g n lo hi r
    → NoneIn g n lo hi
none_at g n lo hi r e f = let z : Found g n lo hi None = rw e at f in z

-- what is found can be spelled
pub found_low : {g : Rules} {n lo hi N : ℕ} {cs : List Cell} → FoundLowest g n lo hi N cs
    → LowSteps cs
found_low x = low_steps x.lowest.candidate

-- and is the answer
pub shared_of : {g : Rules} {n lo hi N : ℕ} {cs : List Cell} {r : Sentence}
    → FoundLowest g n lo hi N cs → Spells cs n r → SharedTwo g n lo hi N r
shared_of {n = n} {cs = cs} {r} x z = record {
  found = cs;
  lowest = x.lowest;
  number = x.number;
  count = z.count;
  tokens = sym (take-append-drop n r.tokens)
      ∙ ap (λ (v : List Token). v ++ drop n r.tokens) z.front
      ∙ ap (λ (v : List Token). sentence cs ++ v) z.past;
}
