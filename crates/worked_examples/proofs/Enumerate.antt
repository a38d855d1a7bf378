-- All arrangements of a length as a list that antt computes, and the order of candidates decided.
use mathlib.Core.Path.{◌≡◌, refl, sym, ap}
use mathlib.Core.List.{List, [], ◌∷◌, map, Memᴰ}
use mathlib.Core.Bool.{Bool, true, false}
use Prim.Native.Nat.{ℕ, zero, suc, ◌+◌, ◌-◌, ◌≤◌, ◌<◌}
use native.Mathlib.Omega.{arith}
use lib.ListN.{length}
use Rattle.grammar.specs.declared.Token.{Token}
use Rattle.grammar.specs.declared.Cell.{Cell}
use Rattle.grammar.specs.declared.Rule.{Rule}
use Rattle.grammar.specs.declared.Clause.{Clause}
use Rattle.grammar.specs.declared.Clause.TheVariants.{Empty, Atom, Unary, Binary}
use Rattle.grammar.specs.Layout.{Word}
use Rattle.grammar.specs.Trees.{Rules}
use Rattle.grammar.specs.Candidates.{RisingFrom, Rising, sentence, Terminal, Ranged, Cells}
use Rattle.grammar.specs.Candidates.{Candidate, CellBefore, CellsBefore, Earlier}
use Rattle.grammar.proofs.Positions.{after?}
use Rattle.grammar.proofs.Lists.{eq?, le?, both?, or?, map?, some?, Some, collect, mem_collect}
use Rattle.grammar.proofs.Lists.{mem_map}
use Rattle.grammar.specs.Sweeps.{is_atom_of}
use Rattle.grammar.proofs.Atoms.{covers_is, has_atom}
use Rattle.grammar.proofs.SweepLaws.{cell_path}
use Rattle.sets.proofs.Says.{true_not_false}

-- 1. decisions

abbrev pub rising_from? : (a : Token) (w : Word) → Dec (RisingFrom a w)
rising_from? a [] = yes tt
rising_from? a (b ∷ w) = let r = rising_from? b w in both? (after? a b) r

abbrev pub rising? : (w : Word) → Dec (Rising w)
rising? [] = yes tt
rising? (a ∷ w) = rising_from? a w

pub cell_parts : {c d : Cell} → c ≡ d
    → (c.terminal ≡ d.terminal) × ((c.step ≡ d.step) × (c.column ≡ d.column))
cell_parts e = (
  ap (λ (x : Cell). x.terminal) e,
  (ap (λ (x : Cell). x.step) e, ap (λ (x : Cell). x.column) e),
)

abbrev pub cell? : (c d : Cell) → Dec (c ≡ d)
cell? c d =
    let k = eq? c.column d.column in
    let r = both? (eq? c.step d.step) k in
    map? (both? (eq? c.terminal d.terminal) r) (λ p. cell_path p.0 p.1.0 p.1.1)
    cell_parts

abbrev pub both₃? : {P Q R : Type 0} → Dec P → Dec Q → Dec R → Dec (P × Q × R)
both₃? (yes p) (yes q) (yes r) = yes (p, q, r)
both₃? (yes p) (yes q) (no n) = no (λ x. n x.2)
both₃? (yes p) (no n) d = no (λ x. n x.1)
both₃? (no n) d e = no (λ x. n x.0)

abbrev pub cell_before? : (a b : Cell) → Dec (CellBefore a b)
cell_before? a b =
    or? (le? (suc a.terminal) b.terminal)
    (or? (both? (eq? a.terminal b.terminal) (le? (suc a.step) b.step))
    (both₃? (eq? a.terminal b.terminal) (eq? a.step b.step)
    (le? (suc a.column) b.column)))

abbrev pub before? : (cs ds : List Cell) → Dec (CellsBefore cs ds)
before? [] ds = no (λ x. x)
before? (c ∷ cs) [] = no (λ x. x)
before? (c ∷ cs) (d ∷ ds) = let r = before? cs ds in or? (cell_before? c d) (both? (cell? c d) r)

abbrev pub earlier? : (cs ds : List Cell) → Dec (Earlier cs ds)
earlier? cs ds = let r = before? cs ds in
    or? (le? (suc (length cs)) (length ds)) (both? (eq? (length cs) (length ds)) r)

-- 2. the terminals

abbrev pub true? : (b : Bool) → Dec (b ≡ true)
true? true = yes refl
true? false = no (λ e. true_not_false (sym e))

pub terminal_of : {g : Rules} {a : ℕ} → Some (λ (r : Rule). is_atom_of a r.clause ≡ true) g
    → Terminal g a
terminal_of {a = a} s = (s.0.left, has_atom s.0 a s.1 s.2)

pub of_terminal : {g : Rules} {a : ℕ} → Terminal g a
    → Some (λ (r : Rule). is_atom_of a r.clause ≡ true) g
of_terminal {a = a} t = let h = t.1 in (
  record { left = t.0; clause = Atom h.low h.high },
  h.rule,
  covers_is h.low h.high
      a h.covers,
)

abbrev pub terminal? : (g : Rules) (a : ℕ) → Dec (Terminal g a)
terminal? g a = map? (some? (λ (r : Rule). true? (is_atom_of a r.clause)) g) terminal_of of_terminal

-- n numbers from a upward
abbrev pub numbers_from : ℕ → ℕ → List ℕ
numbers_from a zero = []
numbers_from a (suc n) = a ∷ numbers_from (suc a) n

mem_from : (a n x : ℕ) → a ≤ x → x < a + n → Memᴰ x (numbers_from a n)
mem_from a zero x l h = absurd (omega arith)
mem_from a (suc n) x l h = go (λ p q. mem_from (suc a) n x p q) (eq? x a)
  where
    go : (suc a ≤ x → x < suc a + n → Memᴰ x (numbers_from (suc a) n)) → Dec (x ≡ a)
        → Memᴰ x (numbers_from a (suc n))
    go below (yes e) = Memᴰ.head e
    go below (no d) = Memᴰ.tail (below (omega arith) (omega arith))

abbrev atom_of : Clause → List ℕ
atom_of Empty = []
atom_of (Atom a b) = numbers_from a (suc b - a)
atom_of (Unary B m) = []
atom_of (Binary B C m) = []

abbrev pub atoms : Rules → List ℕ
atoms g = collect (λ r. atom_of r.clause) g

mem_atoms : (g : Rules) (a : ℕ) → Terminal g a → Memᴰ a (atoms g)
mem_atoms g a t =
    let h = t.1 in
    mem_collect (λ r. atom_of r.clause) g h.rule
    (mem_from h.low (suc h.high - h.low) a h.covers.low
    (omega (arith, h.covers.low, h.covers.high)))

-- 3. candidates decided

pub ranged_of : {Q : ℕ → Type 0} {n m : ℕ} {c : Cell}
    → Q c.terminal × ((c.step ≤ m) × ((1 ≤ c.column) × (c.column ≤ n))) → Ranged Q n m c
ranged_of p = record { terminal = p.0; step = p.1.0; low = p.1.1.0; high = p.1.1.1 }

abbrev pub ranged? : (g : Rules) (n m : ℕ) (c : Cell) → Dec (Ranged (Terminal g) n m c)
ranged? g n m c =
    map? (both? (terminal? g c.terminal)
    (both? (le? c.step m) (both? (le? 1 c.column) (le? c.column n))))
    ranged_of (λ r. (r.terminal, (r.step, (r.low, r.high))))

abbrev pub cells? : (g : Rules) (n m : ℕ) (cs : List Cell) → Dec (Cells (Terminal g) n m cs)
cells? g n m [] = yes tt
cells? g n m (c ∷ cs) = let r = cells? g n 2 cs in both? (ranged? g n m c) r

pub candidate_of : {Q : ℕ → Type 0} {n : ℕ} {cs : List Cell}
    → (length cs ≡ n) × (Cells Q n 0 cs × Rising (sentence cs)) → Candidate Q n cs
candidate_of p = record { arranged = record { size = p.0; cells = p.1.0 }; rising = p.1.1 }

abbrev pub candidate? : (g : Rules) (n : ℕ) (cs : List Cell) → Dec (Candidate (Terminal g) n cs)
candidate? g n cs =
    map? (both? (eq? (length cs) n) (both? (cells? g n 0 cs) (rising? (sentence cs)))) candidate_of
    (λ k. (k.arranged.size, (k.arranged.cells, k.rising)))

-- 4. all arrangements

abbrev pub cell_of : ℕ → ℕ → ℕ → Cell
cell_of a s c = record { terminal = a; step = s; column = c }

-- the cells with a step of at most m, in columns 1 to n
abbrev pub options : Rules → ℕ → ℕ → List Cell
options g n m = collect (λ a. collect (λ s. map (cell_of a s) (numbers_from 1 n))
    (numbers_from 0 (suc m))) (atoms g)

mem_options : (g : Rules) (n m : ℕ) (c : Cell) → Ranged (Terminal g) n m c
    → Memᴰ c (options g n m)
mem_options g n m c r =
    mem_collect (λ a. collect (λ s. map (cell_of a s) (numbers_from 1 n)) (numbers_from 0 (suc m)))
    (atoms g) (mem_atoms g c.terminal r.terminal)
    (mem_collect (λ s. map (cell_of c.terminal s) (numbers_from 1 n)) (numbers_from 0 (suc m))
    (mem_from 0 (suc m) c.step (omega arith) (omega (arith, r.step)))
    (mem_map (cell_of c.terminal c.step) (numbers_from 1 n)
    (mem_from 1 n c.column r.low (omega (arith, r.high)))))

-- the lists of j cells, the first with a step of at most m
abbrev pub listed : Rules → ℕ → ℕ → ℕ → List (List Cell)
listed g n m zero = [] ∷ []
listed g n m (suc j) = collect (λ c. map (λ cs. c ∷ cs) (listed g n 2 j)) (options g n m)

mem_listed : (g : Rules) (n m j : ℕ) (cs : List Cell) → length cs ≡ j → Cells (Terminal g) n m cs
    → Memᴰ cs (listed g n m j)
mem_listed g n m zero [] e k = Memᴰ.head refl
mem_listed g n m zero (c ∷ cs) e k = absurd (omega arith)
mem_listed g n m (suc j) [] e k = absurd (omega arith)
mem_listed g n m (suc j) (c ∷ cs) e k =
    mem_collect (λ c. map (λ cs. c ∷ cs) (listed g n 2 j)) (options g n m)
    (mem_options g n m c k.0)
    (mem_map (λ ds. c ∷ ds) (listed g n 2 j) (mem_listed g n 2 j cs (omega arith) k.1))

-- the arrangements of length 1 to k
abbrev pub up_to : Rules → ℕ → List (List Cell)
up_to g k = collect (λ n. listed g n 0 n) (numbers_from 1 k)

pub mem_up_to : (g : Rules) (k n : ℕ) (cs : List Cell) → 1 ≤ n → n ≤ k → Candidate (Terminal g) n cs
    → Memᴰ cs (up_to g k)
mem_up_to g k n cs l h c =
    mem_collect (λ n. listed g n 0 n) (numbers_from 1 k) (mem_from 1 k n l (omega arith))
    (mem_listed g n 0 n cs c.arranged.size c.arranged.cells)
