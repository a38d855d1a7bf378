-- What is found, in the promise's words, and the answer spelled from it.
use mathlib.Core.Path.{◌≡◌, sym, ap, ◌∙◌, subst}
use mathlib.Core.Logic.{◌↔◌}
use mathlib.Core.List.{List, ◌++◌}
use Prim.Native.Nat.{ℕ, ◌-◌, ◌*◌, ◌≤◌}
use native.Mathlib.Omega.{arith}
use lib.ListN.{length, drop, replicate, take-append-drop}
use lib.Count.{ones}
use Rattle.std.specs.Prelude.{Option, Some, None}
use Rattle.sets.specs.Sets.{In}
use Rattle.grammar.specs.declared.Cell.{Cell}
use Rattle.grammar.specs.declared.Token.{Token}
use Rattle.grammar.specs.declared.Sentence.{Sentence}
use Rattle.grammar.specs.Layout.{Word}
use Rattle.grammar.specs.Trees.{Rules, TwoTrees}
use Rattle.grammar.specs.Candidates.{Terminal, Candidate, sentence}
use Rattle.grammar.specs.Sweeps.{found, clear, terminal_count, Clear, FirstTwo}
use Rattle.grammar.specs.SpanSheet.{pairs}
use Rattle.grammar.proofs.SweepLaws.{shorter_clear, sentence_length}
use Rattle.counting.specs.Counts.{HowMany}
use Rattle.lengths.specs.declared.Index.{Index}
use Rattle.lengths.specs.Indexes.{at, Exact}
use Rattle.lengths.proofs.Possibly.{derives_can}
use Rattle.tried_count.specs.Rows.{Fair}
use Rattle.spans.specs.Changes.{Past, Cleared}
use Rattle.spans.proofs.ChangeLaws.{past_then, past_drop, zeroed}
use Rattle.candidates.specs.Arrays.{cells}
use Rattle.candidates.specs.Terminals.{Among}
use Rattle.candidates.specs.Spelling.{LowSteps, Spells}
use Rattle.candidates.proofs.Spelling.{low_steps}
use Rattle.candidates.proofs.Windows.{cells_size}
use Rattle.candidates.proofs.TerminalSets.{no_candidate, candidate_over}
use Rattle.dominance.specs.Dominance.{Spared}
use Rattle.dominance.proofs.Renaming.{renamed, renamed_candidate, renamed_two, renamed_before}
use Rattle.sweeping.specs.Searching.{NoneShorter, Admits, Hits as HitsIn, Searched}
use Rattle.sweeping.specs.Swept.{LengthsOf, Bounded, SweptTwo, Found}
use Rattle.sweeping.proofs.Turns.{clear_found, first_found}
use Rattle.grammar.specs.Sentences.{no_token}
use Rattle.tried_count.specs.declared.Hit.{Hit}
use Rattle.tried_count.specs.Searched.{Hits, answer_of}
use Rattle.sweeping.specs.Cleared.{TriedBy, cleared}

-- ---- the terminals that a smaller one replaces need not be tried

module _ {g : Rules} {s kept : ℕ} (sp : Spared g s kept) where
  shorter_all : {n : ℕ} → NoneShorter g kept n → NoneShorter g s n
  shorter_all h = record {
    absent = λ m ds l u c t. h.absent m (renamed g s kept sp ds) l u
        (renamed_candidate g s kept sp m ds c) (renamed_two g s kept sp ds t);
  }

  hits_all : {k n : ℕ} {cs : List Cell} → HitsIn g kept k n cs → HitsIn g s k n cs
  hits_all {k} {n} {cs} h = record {
    low = h.low;
    high = h.high;
    before = record {
      candidate = candidate_over (Among kept) (Among s) sp.part h.before.candidate;
      absent = λ ds c b t. h.before.absent (renamed g s kept sp ds)
          (renamed_candidate g s kept sp n ds c) (renamed_before g s kept sp ds cs b)
          (renamed_two g s kept sp ds t);
    };
    two = h.two;
    shorter = shorter_all h.shorter;
  }

  pub searched_all : (k : ℕ) (r : Option Hit) → Searched g kept k r → Searched g s k r
  searched_all k (Some h) x = hits_all x
  searched_all k None x = shorter_all x

  pub none_all : ((x : ℕ) → Among kept x → ⊥) → (x : ℕ) → Among s x → ⊥
  none_all h x m = let q = sp.each x m in h q.0 q.1

-- ---- rules that have the same sentences with two trees

module _ {g g' : Rules} (s : ℕ) (same : (w : Word) → TwoTrees g 0 w ↔ TwoTrees g' 0 w) where
  shorter_over : {n : ℕ} → NoneShorter g' s n → NoneShorter g s n
  shorter_over h =
      record { absent = λ m ds l u c t. h.absent m ds l u c ((same (sentence ds)).0 t) }

  hits_over : {k n : ℕ} {cs : List Cell} → HitsIn g' s k n cs → HitsIn g s k n cs
  hits_over {cs = cs} h = record {
    low = h.low;
    high = h.high;
    before = record {
      candidate = h.before.candidate;
      absent = λ ds c b t. h.before.absent ds c b
          ((same (sentence ds)).0 t);
    };
    two = (same (sentence cs)).1 h.two;
    shorter = shorter_over h.shorter;
  }

  pub searched_over : (k : ℕ) (r : Option Hit) → Searched g' s k r → Searched g s k r
  searched_over k (Some h) x = hits_over x
  searched_over k None x = shorter_over x

pub admits_over : {g g' : Rules} {l : ℕ} → ((w : Word) → TwoTrees g 0 w ↔ TwoTrees g' 0 w)
    → Admits g l → Admits g' l
admits_over same v = record { all = λ w low high t. v.all w low high ((same w).1 t) }

-- ---- the lengths

-- the set of nonterminal 0 in a true index
pub lengths_of : {g : Rules} {x : Index} → Exact g x → LengthsOf g (at x 0)
lengths_of e = record { is = λ n h. e.is 0 n (omega arith) h }

-- a sentence with two trees has a length that nonterminal 0 can have
pub admits_of : {g : Rules} {s : ℕ} → LengthsOf g s → Admits g s
admits_of h = record {
  all = λ w low high t. (h.is (length w) (omega arith)).1
      (derives_can (record { tree = t.first; witness = t.witness₁ }));
}

-- what was found, as the count of the tried takes it
pub hit_of : {g : Rules} {s l : ℕ} (k : ℕ) (r : Option Hit) → ((x : ℕ) → Among s x ↔ Terminal g x)
    → LengthsOf g l → k ≤ 7 → Found g k r → Hits (In l) (Among s) k r
hit_of k None same h few f = tt
hit_of {g} {s} {l} k (Some r) same h few f =
    let cs : List Cell = cells r.candidate 0 r.length in
    let e : length cs ≡ r.length = cells_size r.candidate 0 r.length in
    record {
      low = omega (arith, f.low, e);
      high = omega (arith, f.high, e);
      allowed = subst (In l) (sentence_length 1 cs ∙ e)
          ((admits_of h).all (sentence cs) (omega (arith, sentence_length 1 cs, f.low))
          (omega (arith, sentence_length 1 cs, f.high)) f.two);
      candidate = subst (λ (i : ℕ). Candidate (Among s) i cs) e
          (candidate_over (Terminal g) (Among s) (λ x. (same x).1) f.candidate);
    }

-- the bound as the count takes it
pub fair_of : {g : Rules} {k : ℕ} (s : ℕ) → Bounded g k → ones s ≡ terminal_count g → ones s ≤ 64
    → Fair (ones s) k
fair_of s b e few = record { low = b.low; high = b.high; few = few; limit = rw e b.few }

-- ---- what is found

module _ {g : Rules} {s : ℕ} (same : (x : ℕ) → Among s x ↔ Terminal g x) where
  -- the search over the set of the terminals
  pub found_of : (k : ℕ) (r : Option Hit) → Searched g s k r → Found g k r
  found_of k (Some h) x = first_found same x
  found_of k None x = clear_found same x

  -- no terminal, no candidate
  pub found_none : {k : ℕ} → ((x : ℕ) → Among s x → ⊥) → Clear g k
  found_none h =
      clear_found same (record { absent = λ m ds l u c t. no_candidate (Among s) h m ds l c })

-- ---- as the sweep's two arms have it

pub first_of : (g : Rules) (k : ℕ) (r : Option Hit) (h : Hit) → r ≡ Some h → Found g k r
    → FirstTwo g k (cells h.candidate 0 h.length)
first_of g k r h e f = let z : Found g k (Some h) = rw e at f in z

pub clear_of : (g : Rules) (k : ℕ) (r : Option Hit) → r ≡ None → Found g k r → Clear g k
clear_of g k r e f = let z : Found g k None = rw e at f in z

pub tried_of : (g : Rules) (k : ℕ) {m : ℕ} (r : Option Hit) (h : Hit) → r ≡ Some h
    → HowMany (TriedBy g k (answer_of r)) m
    → HowMany (TriedBy g k (found (cells h.candidate 0 h.length))) m
tried_of g k {m} r h e f =
    subst (λ (x : Option Hit). HowMany (TriedBy g k (answer_of x)) m) e f

pub none_tried : (g : Rules) (k : ℕ) {m : ℕ} (r : Option Hit) → r ≡ None
    → HowMany (TriedBy g k (answer_of r)) m → HowMany (TriedBy g k clear) m
none_tried g k {m} r e f =
    subst (λ (x : Option Hit). HowMany (TriedBy g k (answer_of x)) m) e f

-- what is found can be spelled
pub found_low : {g : Rules} {k : ℕ} (h : Hit) → k ≤ 7 → FirstTwo g k (cells h.candidate 0 h.length)
    → (h.length ≤ 7) × LowSteps (cells h.candidate 0 h.length)
found_low h few f =
    (omega (arith, f.high, cells_size h.candidate 0 h.length), low_steps f.candidate)

-- and is the answer
pub swept_of : {g : Rules} {k m : ℕ} {r : Sentence} (h : Hit)
    → FirstTwo g k (cells h.candidate 0 h.length)
    → Spells (cells h.candidate 0 h.length) h.length r
    → HowMany (TriedBy g k (found (cells h.candidate 0 h.length))) m → SweptTwo g k r m
swept_of {r = r} h f x q =
    let cs : List Cell = cells h.candidate 0 h.length in
    let e : length cs ≡ h.length = cells_size h.candidate 0 h.length in
    record {
      found = cs;
      first = f;
      shorter = shorter_clear f;
      count = x.count ∙ sym e;
      tokens = sym (take-append-drop h.length r.tokens)
          ∙ ap (λ (l : List Token). l ++ drop h.length r.tokens) x.front
          ∙ ap (λ (l : List Token). sentence cs ++ l) x.past
          ∙ ap (λ (m : ℕ). sentence cs ++ replicate (64 - m) no_token) (sym e);
      tried = q;
    }

pub all_cleared : (k : ℕ) {m : ℕ} {ws ws' ws'' : List ℕ} → m ≡ 2 * pairs k → 2 * pairs k ≤ length ws
    → Past (2 * pairs k) ws ws' → Cleared ws' ws'' m → ws'' ≡ cleared k ws
all_cleared k {m} {ws} {ws'} {ws''} e h p d =
    let c : Cleared ws' ws'' (2 * pairs k) = rw e at d in
    sym (take-append-drop (2 * pairs k) ws'')
    ∙ ap (λ (l : List ℕ). l ++ drop (2 * pairs k) ws'')
    (zeroed (2 * pairs k) ws' ws'' (omega (arith, p.long, c.past.long)) c)
    ∙ ap (λ (l : List ℕ). replicate (2 * pairs k) 0 ++ l) (past_drop (past_then p c.past))
