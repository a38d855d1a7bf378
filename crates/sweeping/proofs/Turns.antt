-- The turns of the search, and what it finds in the promise's words.
use mathlib.Core.Path.{◌≡◌, ◌∙◌, subst}
use mathlib.Core.Logic.{⊎_elim, ◌↔◌}
use mathlib.Core.List.{List}
use Prim.Native.Nat.{ℕ, ◌+◌, ◌≤◌, ◌<◌}
use native.Mathlib.Omega.{arith}
use native.Mathlib.Decide.{dec_lt}
use lib.ListN.{length}
use Rattle.sets.specs.Sets.{In}
use Rattle.grammar.specs.declared.Cell.{Cell}
use Rattle.grammar.specs.Trees.{Rules, TwoTrees}
use Rattle.grammar.specs.Candidates.{Candidate, Terminal, sentence}
use Rattle.grammar.specs.Sweeps.{Clear, FirstTwo}
use Rattle.grammar.proofs.SweepLaws.{clear_of, sentence_length}
use Rattle.candidates.specs.Terminals.{Among}
use Rattle.candidates.specs.Succession.{First, Follows, Ends}
use Rattle.candidates.proofs.TerminalSets.{candidate_over}
use Rattle.sweeping.specs.Searching.{NoneShorter, NoneLong, Admits, NoneBefore}
use Rattle.sweeping.specs.Searching.{NoneSharing, Hits}

module _ {g : Rules} {s : ℕ} where
  pub none_yet : NoneShorter g s 1
  none_yet = record { absent = λ m ds l h c t. omega arith }

  -- the first candidate of a length
  pub begin : {n : ℕ} {cs : List Cell} → First s n cs → NoneBefore g s n cs
  begin f = record { candidate = f.candidate; absent = λ ds c b t. f.first ds c b }

  -- past a block
  pub onward : {n b upto : ℕ} {cs rs : List Cell} → NoneBefore g s n cs → NoneSharing g s n b cs
      → Follows s n b cs upto rs → NoneBefore g s n rs
  onward h q f = record {
    candidate = f.candidate;
    absent = λ ds c e t. ⊎_elim
        (λ x. q.absent ds c x t) (λ x. h.absent ds c x t) (f.least ds c e);
  }

  -- at the end of a length
  pub exhausted : {n b : ℕ} {cs : List Cell} → NoneBefore g s n cs → NoneSharing g s n b cs
      → Ends s n b cs → NoneLong g s n
  exhausted k q e = record {
    absent = λ ds d t. ⊎_elim (λ y. q.absent ds d y t) (λ y. k.absent ds d y t) (e.last ds d);
  }

  -- past a length
  pub longer : {n : ℕ} → NoneShorter g s n → NoneLong g s n → NoneShorter g s (n + 1)
  longer {n} h q = record { absent = go }
    where
      go : (m : ℕ) (ds : List Cell) → 1 ≤ m → m < n + 1 → Candidate (Among s) m ds
          → TwoTrees g 0 (sentence ds) → ⊥
      go m ds l u c t = at (dec_lt m n)
        where
          at : Dec (m < n) → ⊥
          at (yes x) = h.absent m ds l x c t
          at (no x) =
              let i : m ≡ n = omega arith in
              let d : Candidate (Among s) n ds = rw i at c in
              q.absent ds d t

  -- no sentence of a length has two trees
  pub passed_over : {n l : ℕ} → Admits g l → 1 ≤ n → n ≤ 7 → (In l n → ⊥) → NoneLong g s n
  passed_over {n} {l} v low few out = record {
    absent = λ ds c t.
        let e : length (sentence ds) ≡ n = sentence_length 1 ds ∙ c.arranged.size in
        out (subst (In l) e (v.all (sentence ds) (omega (arith, e)) (omega (arith, e)) t));
  }

  module _ (same : (x : ℕ) → Among s x ↔ Terminal g x) where
    to : {n : ℕ} {cs : List Cell} → Candidate (Terminal g) n cs → Candidate (Among s) n cs
    to c = candidate_over (Terminal g) (Among s) (λ x. (same x).1) c

    -- nothing found: clear
    pub clear_found : {k : ℕ} → NoneShorter g s (k + 1) → Clear g k
    clear_found {k} h = clear_of k (λ cs l u c t. h.absent (length cs) cs l (omega arith) (to c) t)

    -- found: the first candidate that has two trees
    pub first_found : {k n : ℕ} {cs : List Cell} → Hits g s k n cs → FirstTwo g k cs
    first_found {k} {n} {cs} h =
        let e : length cs ≡ n = h.before.candidate.arranged.size in
        record {
          low = omega (arith, h.low);
          high = omega (arith, h.high);
          candidate =
              rw e (candidate_over (Among s) (Terminal g) (λ x. (same x).0) h.before.candidate);
          two = h.two;
          earlier = λ ds l c b t. ⊎_elim
              (λ x. h.shorter.absent (length ds) ds l (omega arith) (to c) t)
              (λ x. let i : length ds ≡ n = x.0 ∙ e in
              h.before.absent ds (rw i at (to c)) x.1 t)
              b;
        }
