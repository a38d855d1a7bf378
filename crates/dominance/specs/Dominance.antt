-- Which terminals of a set the sweep must try: those that no smaller one replaces.
use Rattle.std.specs.Prelude.{cond, ◌↔◌, ℕ, ◌≤◌, ◌<◌}
use Rattle.sets.specs.Sets.{In}
use Rattle.grammar.specs.declared.Rule.{Rule}
use Rattle.grammar.specs.Trees.{Rules, HasAtom}
use Rattle.grammar.specs.Sweeps.{is_atom_of}
use Rattle.candidates.specs.Terminals.{Among}
use Rattle.sets.specs.Insertion.{insert}

-- y has every left that x has in A rules
pub record Replaces (g : Rules) (y x : ℕ) : Type 0 where
  pub lefts : (A : ℕ) → HasAtom g A x → HasAtom g A y

-- kept is a part of the set s, and each terminal of s is kept or replaced by a smaller one that is
pub record Spared (g : Rules) (s kept : ℕ) : Type 0 where
  pub part : (x : ℕ) → Among kept x → Among s x
  pub each : (x : ℕ) → Among s x → (y : ℕ) × Among kept y × (y ≤ x) × Replaces g y x

-- ---- inner: contracts of the functions that find them

-- the set with the rule's left besides, if its clause covers the terminal a
abbrev pub add_left : ℕ → Rule → ℕ → ℕ
add_left set r a = cond (is_atom_of a r.clause) (insert set r.left) set

-- s is the set of the lefts of the A rules that cover a
pub record Lefts (g : Rules) (a s : ℕ) : Type 0 where
  pub is : (A : ℕ) → In s A ↔ HasAtom g A a

-- each member of s is one of t
pub record Subset (s t : ℕ) : Type 0 where
  pub each : (A : ℕ) → A < 64 → In s A → In t A

-- y is kept, and has all the lefts in s
pub record Serves (g : Rules) (kept s y : ℕ) : Type 0 where
  pub held : In kept y
  pub lefts : (A : ℕ) → A < 64 → In s A → HasAtom g A y

-- a smaller terminal that is kept replaces x
pub record Replaced (g : Rules) (kept x : ℕ) : Type 0 where
  pub by : ℕ
  pub less : by < x
  pub held : In kept by
  pub replaces : Replaces g by x

-- so it is of the terminals below m
pub record Spares (g : Rules) (s m kept : ℕ) : Type 0 where
  pub part : (x : ℕ) → In kept x → In s x
  pub each : (x : ℕ) → x < m → In s x → (y : ℕ) × In kept y × (y ≤ x) × Replaces g y x
