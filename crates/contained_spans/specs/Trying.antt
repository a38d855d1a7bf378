-- A clause is tried over a span: what lies beneath it is put in, and its ways are counted (inner).
use Rattle.std.specs.Prelude.{◌≡◌, List, ◌⊎◌, ℕ, ◌*◌, ◌<◌, length, get_or}
use Rattle.sets.specs.Sets.{In}
use Rattle.grammar.specs.declared.BinaryMark.{BinaryMark}
use Rattle.grammar.specs.declared.Clause.{Clause}
use Rattle.marks.specs.declared.SpanMarks.{SpanMarks}
use Rattle.tables.specs.Tables.{One, by_marks, Fits}
use Rattle.cuts.specs.Joining.{Joins}
use Rattle.contained_spans.specs.Joining.{LeftKids, ClauseKids, CutKids}
use Rattle.contained_spans.specs.Counting.{CountTells, Plus}
use Rattle.contained_spans.specs.Seeing.{HitsBy, SeenAt}

-- with one left length
pub record TriedLeft (ws : List ℕ) (n s len : ℕ) (k : SpanMarks) (c : Clause) (left : ℕ)
    (rs rs' : List ℕ) (r : ℕ) : Type 0 where
  pub joins : Joins (LeftKids ws n s len k c left) rs rs'
  pub tells : CountTells (λ (l : ℕ). (l ≡ left) × Fits (One ws n) (by_marks k len) s len c l) r

-- where b has a tree at the pair p and e at q, both are put in
pub data Sides (ws : List ℕ) (p q b e : ℕ) (rs rs' : List ℕ) (r : ℕ) : Type 0 where
  both : r ≡ 1 → In (get_or ws (2 * p) 0) b → In (get_or ws (2 * q) 0) e
      → Joins (λ x B. ((x ≡ p) × (B ≡ b)) ⊎ ((x ≡ q) × (B ≡ e))) rs rs'
      → Sides ws p q b e rs rs' r
  lacks : r ≡ 0 → rs' ≡ rs → (In (get_or ws (2 * p) 0) b → In (get_or ws (2 * q) 0) e → ⊥)
      → Sides ws p q b e rs rs' r

-- a B clause with no token on its left, then with all, whatever its mark
pub record EndsSpread (ws : List ℕ) (n s len b e : ℕ) (rs rs' : List ℕ) (r : ℕ) : Type 0 where
  pub between : List ℕ
  pub first : ℕ
  pub second : ℕ
  pub none : (k : SpanMarks) (m : BinaryMark)
      → TriedLeft ws n s len k (Clause.Binary b e m) 0 rs between first
  pub all : (k : SpanMarks) (m : BinaryMark)
      → TriedLeft ws n s len k (Clause.Binary b e m) len between rs' second
  pub plus : Plus first second r

-- at the cuts at which a B clause stands
pub record CutsSpread (cs : List ℕ) (n s len : ℕ) (k : SpanMarks) (b e : ℕ) (m : BinaryMark)
    (rs rs' sn' : List ℕ) (r : ℕ) : Type 0 where
  pub set : ℕ
  pub hits : HitsBy cs b e m s len k set
  pub joins : Joins (CutKids n s len (Clause.Binary b e m) set) rs rs'
  pub seen : SeenAt n s rs' sn'
  pub tells : CountTells (In set) r

-- with all left lengths
pub record ClauseSpread (ws : List ℕ) (n s len : ℕ) (k : SpanMarks) (c : Clause)
    (rs rs' sn' : List ℕ) (r : ℕ) : Type 0 where
  pub joins : Joins (ClauseKids ws n s len k c) rs rs'
  pub long : length sn' ≡ 4160
  pub seen : 0 < len → SeenAt n s rs' sn'
  pub tells : CountTells (Fits (One ws n) (by_marks k len) s len c) r
