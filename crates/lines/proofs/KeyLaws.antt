-- Two rules with the same left and clauses that are alike have the same key.
use mathlib.Core.Path.{◌≡◌, refl, sym}
use mathlib.Core.Bool.{true, false, ◌&&◌}
use Prim.Native.Nat.{ℕ, ◌≤◌}
use native.Mathlib.Omega.{arith}
use native.Mathlib.Decide.{dec_le}
use lib.Dec.{eqb, leb}
use borrow.Author.Tests.{eq-eqb, le-leb, eqb-true, leb-true}
use Rattle.sets.proofs.Basics.{clash}
use Rattle.sets.proofs.Basics.{both}
use Rattle.grammar.specs.declared.Rule.{Rule}
use Rattle.grammar.specs.declared.Clause.{Clause}
use Rattle.grammar.specs.Trees.{Covers}
use Rattle.lines.specs.Keys.{key_with_of, key_of, same_key_of}
use Rattle.grammar.specs.Distinct.{Alike}

alike_key : (l m : ℕ) (c d : Clause) → l ≡ m → Alike c d
    → same_key_of (key_with_of l c) (key_with_of m d) ≡ true
alike_key l m Clause.Empty Clause.Empty e a = rw (eq-eqb l m e) refl
alike_key l m Clause.Empty (Clause.Atom x y) e a = absurd a
alike_key l m Clause.Empty (Clause.Unary B n) e a = absurd a
alike_key l m Clause.Empty (Clause.Binary B C n) e a = absurd a
alike_key l m (Clause.Atom x y) Clause.Empty e a = absurd a
alike_key l m (Clause.Atom x y) (Clause.Atom v w) e a =
    let p : x ≤ w = omega (arith, a.1.low, a.2.high) in
    let q : v ≤ y = omega (arith, a.1.high, a.2.low) in
    rw (eq-eqb l m e, le-leb x w p, le-leb v y q) refl
alike_key l m (Clause.Atom x y) (Clause.Unary B n) e a = absurd a
alike_key l m (Clause.Atom x y) (Clause.Binary B C n) e a = absurd a
alike_key l m (Clause.Unary A k) Clause.Empty e a = absurd a
alike_key l m (Clause.Unary A k) (Clause.Atom x y) e a = absurd a
alike_key l m (Clause.Unary A k) (Clause.Unary B n) e a = rw (eq-eqb l m e, eq-eqb A B a) refl
alike_key l m (Clause.Unary A k) (Clause.Binary B C n) e a = absurd a
alike_key l m (Clause.Binary A D k) Clause.Empty e a = absurd a
alike_key l m (Clause.Binary A D k) (Clause.Atom x y) e a = absurd a
alike_key l m (Clause.Binary A D k) (Clause.Unary B n) e a = absurd a
alike_key l m (Clause.Binary A D k) (Clause.Binary B C n) e a =
    rw (eq-eqb l m e, eq-eqb A B a.0, eq-eqb D C a.1) refl

alike_sym : (c d : Clause) → Alike c d → Alike d c
alike_sym Clause.Empty Clause.Empty a = a
alike_sym Clause.Empty (Clause.Atom x y) a = absurd a
alike_sym Clause.Empty (Clause.Unary B n) a = absurd a
alike_sym Clause.Empty (Clause.Binary B C n) a = absurd a
alike_sym (Clause.Atom x y) Clause.Empty a = absurd a
alike_sym (Clause.Atom x y) (Clause.Atom v w) a = (a.0, a.2, a.1)
alike_sym (Clause.Atom x y) (Clause.Unary B n) a = absurd a
alike_sym (Clause.Atom x y) (Clause.Binary B C n) a = absurd a
alike_sym (Clause.Unary A k) Clause.Empty a = absurd a
alike_sym (Clause.Unary A k) (Clause.Atom x y) a = absurd a
alike_sym (Clause.Unary A k) (Clause.Unary B n) a = sym a
alike_sym (Clause.Unary A k) (Clause.Binary B C n) a = absurd a
alike_sym (Clause.Binary A D k) Clause.Empty a = absurd a
alike_sym (Clause.Binary A D k) (Clause.Atom x y) a = absurd a
alike_sym (Clause.Binary A D k) (Clause.Unary B n) a = absurd a
alike_sym (Clause.Binary A D k) (Clause.Binary B C n) a = (sym a.0, sym a.1)

-- refusal 5 sees rules that are alike, whichever stands first
pub key_same : (r s : Rule) → r.left ≡ s.left → Alike r.clause s.clause
    → same_key_of (key_of r) (key_of s) ≡ true
key_same r s e a = alike_key r.left s.left r.clause s.clause e a

pub key_back : (r s : Rule) → r.left ≡ s.left → Alike r.clause s.clause
    → same_key_of (key_of s) (key_of r) ≡ true
key_back r s e a = alike_key s.left r.left s.clause r.clause (sym e)
    (alike_sym r.clause s.clause a)

-- ranges that do not reverse meet only where they share a terminal
pub meets_shared : (a b c d : ℕ) → a ≤ b → c ≤ d → a ≤ d → c ≤ b
    → (x : ℕ) × Covers a b x × Covers c d x
meets_shared a b c d h i p q = go (dec_le a c)
  where
    go : Dec (a ≤ c) → (x : ℕ) × Covers a b x × Covers c d x
    go (yes l) = (c, record { low = l; high = q }, record { low = omega arith; high = i })
    go (no n) = (a, record { low = omega arith; high = h }, record { low = omega arith; high = p })

-- ---- and it sees no others

-- the clause is no range that reverses
abbrev pub Forward : Clause → Type 0
Forward Clause.Empty = Unit {0}
Forward (Clause.Atom a b) = a ≤ b
Forward (Clause.Unary B m) = Unit {0}
Forward (Clause.Binary B C m) = Unit {0}

never : false ≡ true → ⊥
never e = clash cc

key_with : (l m : ℕ) (c d : Clause) → Forward c → Forward d
    → same_key_of (key_with_of l c) (key_with_of m d) ≡ true → (l ≡ m) × Alike c d
key_with l m Clause.Empty Clause.Empty h i e = (eqb-true l m (both (eqb l m) true e).0, tt)
key_with l m Clause.Empty (Clause.Atom x y) h i e = absurd (never (both (eqb l m) false e).1)
key_with l m Clause.Empty (Clause.Unary B n) h i e = absurd (never (both (eqb l m) false e).1)
key_with l m Clause.Empty (Clause.Binary B C n) h i e = absurd (never (both (eqb l m) false e).1)
key_with l m (Clause.Atom x y) Clause.Empty h i e = absurd (never (both (eqb l m) false e).1)
key_with l m (Clause.Atom x y) (Clause.Atom v w) h i e =
    let k = both (eqb l m) (leb x w && leb v y) e in
    let j = both (leb x w) (leb v y) k.1 in
    (eqb-true l m k.0, meets_shared x y v w h i (leb-true x w j.0) (leb-true v y j.1))
key_with l m (Clause.Atom x y) (Clause.Unary B n) h i e = absurd (never (both (eqb l m) false e).1)
key_with l m (Clause.Atom x y) (Clause.Binary B C n) h i e =
    absurd (never (both (eqb l m) false e).1)
key_with l m (Clause.Unary A k) Clause.Empty h i e = absurd (never (both (eqb l m) false e).1)
key_with l m (Clause.Unary A k) (Clause.Atom x y) h i e = absurd (never (both (eqb l m) false e).1)
key_with l m (Clause.Unary A k) (Clause.Unary B n) h i e =
    let q = both (eqb l m) (eqb A B && eqb 0 0) e in
    (eqb-true l m q.0, eqb-true A B (both (eqb A B) (eqb 0 0) q.1).0)
key_with l m (Clause.Unary A k) (Clause.Binary B C n) h i e =
    absurd (never (both (eqb l m) false e).1)
key_with l m (Clause.Binary A D k) Clause.Empty h i e = absurd (never (both (eqb l m) false e).1)
key_with l m (Clause.Binary A D k) (Clause.Atom x y) h i e =
    absurd (never (both (eqb l m) false e).1)
key_with l m (Clause.Binary A D k) (Clause.Unary B n) h i e =
    absurd (never (both (eqb l m) false e).1)
key_with l m (Clause.Binary A D k) (Clause.Binary B C n) h i e =
    let q = both (eqb l m) (eqb A B && eqb D C) e in
    let j = both (eqb A B) (eqb D C) q.1 in
    (eqb-true l m q.0, (eqb-true A B j.0, eqb-true D C j.1))

pub key_alike : (r s : Rule) → Forward r.clause → Forward s.clause
    → same_key_of (key_of r) (key_of s) ≡ true → (r.left ≡ s.left) × Alike r.clause s.clause
key_alike r s = key_with r.left s.left r.clause s.clause
