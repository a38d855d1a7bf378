-- The set of the terminals in a sheet's A rules, rule by rule; what its members are, and its least.
use mathlib.Core.Path.{◌≡◌, sym, subst}
use mathlib.Core.Bool.{true}
use mathlib.Core.Logic.{◌⊎◌, inl, inr, ⊎_elim, ◌↔◌}
use mathlib.Core.List.Memᴰ
use mathlib.Core.List.{List, [], ◌∷◌, ◌++◌}
use Prim.Native.Nat.{ℕ, ◌+◌, ◌≤◌, ◌<◌}
use native.Mathlib.Omega.{arith}
use native.Mathlib.Numerals.{add-one}
use native.Mathlib.Decide.{dec_lt}
use lib.ListN.{length, get_or, take}
use lib.Seq.{take-suc}
use Rattle.std.specs.Prelude.{Some, None}
use Rattle.sets.specs.Sets.{In}
use Rattle.sets.specs.Firsts.{FirstFrom}
use Rattle.sets.proofs.Sets.{in_zero, insert_same, insert_keeps, insert_only}
use Rattle.grammar.specs.declared.Cell.{Cell}
use Rattle.grammar.specs.declared.Rule.{Rule}
use Rattle.grammar.proofs.Lists.{every_at}
use Rattle.grammar.specs.declared.Clause.{Clause}
use Rattle.grammar.specs.declared.Grammar.{Grammar}
use Rattle.grammar.specs.Trees.{Rules}
use Rattle.grammar.specs.Content.{rules_of, SmallClause, SmallRule, Formed}
use Rattle.grammar.specs.Candidates.{Terminal, Cells, Candidate}
use Rattle.grammar.specs.Sweeps.{is_atom_of}
use Rattle.grammar.proofs.Lists.{mem_every}
use Rattle.grammar.proofs.Atoms.{is_covers, atom_is, atom_more, atom_here, atom_cases}
use Rattle.candidates.specs.Terminals.{Among, Lowest, Terminals, Ranging, Widened}
use Rattle.sets.specs.Insertion.{insert}

-- ---- the numbers of a range, one by one

-- u has what s has and the numbers from a to below i
pub record Reached (s a i u : ℕ) : Type 0 where
  pub is : (x : ℕ) → In u x ↔ (In s x ⊎ ((a ≤ x) × (x < i)))

pub reached_none : (s a : ℕ) → Reached s a a s
reached_none s a =
    record { is = λ x. (inl, ⊎_elim (λ m. m) (λ h. absurd (omega (arith, h.0, h.1)))) }

pub reached_more : (s a i u v : ℕ) → a ≤ i → Reached s a i u → v ≡ insert u i
    → Reached s a (i + 1) v
reached_more s a i u v l h e = subst (Reached s a (i + 1)) (sym e) (record {
  is = λ x. (
    λ m. ⊎_elim (λ k. ⊎_elim inl (λ q. inr (q.0, omega (arith, q.1))) ((h.is x).0 k))
        (λ q. inr (omega (arith, q), omega (arith, q))) (insert_only u i x m),
    ⊎_elim (λ k. insert_keeps u i ((h.is x).1 (inl k))) (λ q. go x q (dec_lt x i)),
  );
})
  where
    go : (x : ℕ) → (a ≤ x) × (x < i + 1) → Dec (x < i) → In (insert u i) x
    go x q (yes k) = insert_keeps u i ((h.is x).1 (inr (q.0, k)))
    go x q (no n) = let j : x ≡ i = omega (arith, q.1) in rw j (insert_same u i)

pub reached_all : (s a b i u : ℕ) → b < i → ((i ≡ a) ⊎ (i ≤ b + 1)) → Reached s a i u
    → Ranging s a b u
reached_all s a b i u l j h = record {
  is = λ x. (
    λ m. ⊎_elim inl (λ q. inr (record {
      low = q.0;
      high = ⊎_elim (λ e. absurd (omega (arith, q.0, q.1, e)))
          (λ e. omega (arith, q.1, e)) j;
    })) ((h.is x).0 m),
    ⊎_elim (λ k. (h.is x).1 (inl k)) (λ k. (h.is x).1 (inr (k.low, omega (arith, k.high, l)))),
  );
}

-- ---- the terminals of one rule more

pub terminals_none : Terminals [] 0
terminals_none x = (λ b. absurd (in_zero x b), λ t. absurd (Memᴰ.not-nil t.1.rule))

terminals_rule : (g : Rules) (r : Rule) (s u : ℕ) → Terminals g s → Widened s r.clause u
    → Terminals (g ++ (r ∷ [])) u
terminals_rule g r s u t w x = (
  λ b. ⊎_elim (λ c. let q = (t x).0 c in (q.0, atom_more g r q.1))
      (λ c. (r.left, atom_here g r c)) ((w.is x).0 b),
  λ b. ⊎_elim (λ c. (w.is x).1 (inl ((t x).1 (b.0, c)))) (λ c. (w.is x).1 (inr c.1))
      (atom_cases g r b.1),
)

-- the rule at i is taken in
pub terminals_step : (g : Rules) (d : Rule) (i s u : ℕ) → i < length g → Terminals (take i g) s
    → Widened s (get_or g i d).clause u → Terminals (take (i + 1) g) u
terminals_step g d i s u h t e =
    rw (add-one i, take-suc g i d) (terminals_rule (take i g) (get_or g i d) s u t e)

-- ---- what a clause adds

pub widened_none : (s : ℕ) (k : Clause) → ((x : ℕ) → is_atom_of x k ≡ true → ⊥) → Widened s k s
widened_none s k n = record { is = λ x. (inl, ⊎_elim (λ m. m) (λ e. absurd (n x e))) }

pub widened_range : (s a b u : ℕ) (k : Clause) → k ≡ Clause.Atom a b → Ranging s a b u
    → Widened s k u
widened_range s a b u k e h = record {
  is = λ x. (
    λ m. ⊎_elim inl (λ q. inr (atom_is x a b k e q)) ((h.is x).0 m),
    ⊎_elim (λ m. (h.is x).1 (inl m))
        (λ q. (h.is x).1 (inr (is_covers a b x
        (subst (λ (c : Clause). is_atom_of x c ≡ true) e q)))),
  );
}

-- ---- numbers in range

-- the clause of the rule at i is small
pub small_at : {g : Grammar} → Formed g → (d : Rule) (i : ℕ) → i < length (rules_of g)
    → SmallClause (get_or (rules_of g) i d).clause
small_at {g} f d i h = (every_at SmallRule d (rules_of g) f.small i h).clause

pub atom_small : (k : Clause) (a b : ℕ) → k ≡ Clause.Atom a b → SmallClause k → (a < 64) × (b < 64)
atom_small k a b e s = let t : SmallClause (Clause.Atom a b) = rw e at s in t

-- ---- members and terminals

-- in a formed grammar the members of the set are the terminals
pub among_terminal : (g : Grammar) (s : ℕ) → Formed g → Terminals (rules_of g) s → (x : ℕ)
    → Among s x ↔ Terminal (rules_of g) x
among_terminal g s f t x = (
  λ b. (t x).0 b.1,
  λ b. (
    let k = (mem_every SmallRule (rules_of g) f.small b.1.rule).clause in
        omega (arith, k.1, b.1.covers.high),
    (t x).1 b,
  ),
)

cells_over : (Q R : ℕ → Type 0) → ((x : ℕ) → Q x → R x) → (n m : ℕ) (cs : List Cell)
    → Cells Q n m cs → Cells R n m cs
cells_over Q R f n m [] k = tt
cells_over Q R f n m (c ∷ cs) k = (
  record {
    terminal = f c.terminal k.0.terminal;
    step = k.0.step;
    low = k.0.low;
    high = k.0.high;
  },
  cells_over Q R f n 2 cs k.1,
)

-- a candidate over some terminals is one over more
pub candidate_over : (Q R : ℕ → Type 0) → ((x : ℕ) → Q x → R x) → {n : ℕ} {cs : List Cell}
    → Candidate Q n cs → Candidate R n cs
candidate_over Q R f {n} {cs} k = record {
  arranged = record {
    size = k.arranged.size;
    cells = cells_over Q R f n 0 cs
        k.arranged.cells;
  };
  rising = k.rising;
}

-- the first member from 0 on is the least
pub lowest_of : (s u : ℕ) → FirstFrom s 0 (Some u) → Lowest s u
lowest_of s u k = record { there = (k.1, k.2); least = λ x b. k.3 x b.1 (omega arith) }

-- or there is none, and so no candidate
pub none_of : (s : ℕ) → FirstFrom s 0 None → (x : ℕ) → Among s x → ⊥
none_of s k x b = omega (arith, k x b.0 b.1)

pub no_candidate : (Q : ℕ → Type 0) → ((x : ℕ) → Q x → ⊥) → (n : ℕ) (cs : List Cell) → 1 ≤ n
    → Candidate Q n cs → ⊥
no_candidate Q h n [] l k = omega (arith, k.arranged.size)
no_candidate Q h n (c ∷ cs) l k = h c.terminal k.arranged.cells.0.terminal
