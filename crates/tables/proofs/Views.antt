-- A left word is no longer than the whole; and what stands by the marks that were worked out stands
-- by the definitions.
use mathlib.Core.Path.{◌≡◌}
use Prim.Native.Nat.{ℕ, ◌≤◌}
use native.Mathlib.Omega.{arith}
use Rattle.grammar.specs.declared.Clause.{Clause}
use Rattle.grammar.specs.declared.UnaryMark.{UnaryMark}
use Rattle.grammar.specs.declared.BinaryMark.{BinaryMark}
use Rattle.grammar.specs.Trees.{Rules}
use Rattle.marks.specs.declared.SpanMarks.{SpanMarks}
use Rattle.marks.specs.Half.{Half}
use Rattle.marks.specs.Marked.{Marked}
use Rattle.tables.specs.Tables.{Table, Leave, by_tokens, by_marks, Fits, lefts, Stand, Again}
use Rattle.tables.specs.Tables.{rule}
use Rattle.tables.specs.Tables.Again.{apart, below}

-- a left word is no longer than the clause allows, and than the whole
pub fits_le : (one : Table) (v : Leave) (s len : ℕ) (c : Clause) (l : ℕ) → Fits one v s len c l
    → l ≤ lefts c len
fits_le one v s len Clause.Empty l q = omega (arith, q.1)
fits_le one v s len (Clause.Atom a a') l q = omega (arith, q.1)
fits_le one v s len (Clause.Unary B m) l q = omega (arith, q.2)
fits_le one v s len (Clause.Binary B C m) l q = q.0

pub lefts_le : (c : Clause) (len : ℕ) → lefts c len ≤ len
lefts_le Clause.Empty len = omega arith
lefts_le (Clause.Atom a a') len = omega arith
lefts_le (Clause.Unary B m) len = omega arith
lefts_le (Clause.Binary B C m) len = omega arith

-- ---- by the marks, by the definitions

-- what one view leaves to a clause, another does
pub record Yields (v v' : Leave) (len : ℕ) : Type 0 where
  pub atom : len ≡ 1 → (a b : ℕ) → v.atom a b → v'.atom a b
  pub unary : (m : UnaryMark) → v.unary m → v'.unary m
  pub binary : (m : BinaryMark) (l : ℕ) → l ≤ len → v.binary m l → v'.binary m l

-- the marks of a span say what the definitions say
pub marks_tokens : (h : Half) (s len : ℕ) (k : SpanMarks) → Marked h s len k
    → Yields (by_marks k len) (by_tokens h s len) len
marks_tokens h s len k m = record {
  atom = λ e a b. (m.atom e a b).0;
  unary = λ x. (m.unary x).0;
  binary =
      λ x l f. (m.binary x l f).0;
}

pub tokens_marks : (h : Half) (s len : ℕ) (k : SpanMarks) → Marked h s len k
    → Yields (by_tokens h s len) (by_marks k len) len
tokens_marks h s len k m = record {
  atom = λ e a b. (m.atom e a b).1;
  unary = λ x. (m.unary x).1;
  binary =
      λ x l f. (m.binary x l f).1;
}

pub fits_view : (one : Table) (v v' : Leave) (s len : ℕ) (c : Clause) (l : ℕ) → Yields v v' len
    → Fits one v s len c l → Fits one v' s len c l
fits_view one v v' s len Clause.Empty l f q = q
fits_view one v v' s len (Clause.Atom a a') l f q = (q.0, q.1, f.atom q.0 a a' q.2)
fits_view one v v' s len (Clause.Unary B m) l f q = (q.0, f.unary m q.1, q.2)
fits_view one v v' s len (Clause.Binary B C m) l f q =
    (q.0, q.1, q.2, f.binary m l q.0 q.3)

pub stand_view : (one : Table) (g : Rules) (v v' : Leave) (s len A i l : ℕ) → Yields v v' len
    → Stand one g v s len A i l → Stand one g v' s len A i l
stand_view one g v v' s len A i l f c = record {
  within = c.within;
  left = c.left;
  fits =
      fits_view one v v' s len (rule g i).clause l f c.fits;
}

pub again_view : (one two : Table) (g : Rules) (v v' : Leave) (s len A : ℕ) → Yields v v' len
    → Again one two g v s len A → Again one two g v' s len A
again_view one two g v v' s len A f (apart i l j k c d n) =
    apart i l j k (stand_view one g v v' s len A i l f c) (stand_view one g v v' s len A j k f d) n
again_view one two g v v' s len A f (below i l c b) =
    below i l (stand_view one g v v' s len A i l f c) b
