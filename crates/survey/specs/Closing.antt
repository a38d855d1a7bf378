-- What the search for a set of nonterminals is for, and what it finds.
use Rattle.std.specs.Prelude.{ℕ, ◌≤◌, ◌⊎◌, Option, Some, None}
use mathlib.Core.List.{Memᴰ}
use Rattle.sets.specs.Sets.{In}
use Rattle.grammar.specs.declared.UnaryMark.{UnaryMark}
use Rattle.grammar.specs.declared.Rule.{Rule}
use Rattle.grammar.specs.Trees.{Rules}
use Rattle.acyclic.specs.Exact.{Exactly}
use Rattle.survey.specs.declared.Levels.{Levels}
use Rattle.survey.specs.declared.Aim.{Aim}
use Rattle.pairs.specs.Survey.{Productive, Occurs, Inherits, CanBegin, onward_mark}
use Rattle.pairs.specs.Strength.{rank}
use Rattle.survey.specs.Sources.{AddsFilled, AddsBegins, AddsStands, AddsHeads}

-- inherits a mark of rank k or less
pub record AtMost (g : Rules) (k A : ℕ) : Type 0 where
  pub mark : UnaryMark
  pub inherits : Inherits g A mark
  pub low : rank mark ≤ k

-- what is looked for
abbrev pub Aimed : Rules → Aim → ℕ → Type 0
Aimed g Aim.Filled = Productive g
Aimed g (Aim.Begins x) = λ A. CanBegin g A x
Aimed g Aim.Stands = Occurs g
Aimed g (Aim.Heads k loose) = AtMost g k

-- what a rule adds to it
abbrev pub AddsBy : Aim → ℕ → ℕ → ℕ → Rule → ℕ → Type 0
AddsBy Aim.Filled ns ps = AddsFilled ns
AddsBy (Aim.Begins x) ns ps = AddsBegins ns ps x
AddsBy Aim.Stands ns ps = AddsStands ns ps
AddsBy (Aim.Heads k loose) ns ps = AddsHeads ns ps k loose

-- `loose` is of use to those that inherit a mark of rank k or less
pub record HelpsRank (g : Rules) (k loose : ℕ) : Type 0 where
  pub sound : (A : ℕ) → In loose A → AtMost g 2 A
  pub wide : (A : ℕ) (l : UnaryMark) → Inherits g A l → rank (onward_mark l) ≤ k
      → (rank l ≤ k) ⊎ In loose A

-- what must be known beforehand
abbrev pub Prepared : Rules → Aim → ℕ → Type 0
Prepared g Aim.Filled ps = Unit {0}
Prepared g (Aim.Begins x) ps = Exactly ps (Productive g)
Prepared g Aim.Stands ps = Exactly ps (Productive g)
Prepared g (Aim.Heads k loose) ps = Exactly ps (Productive g) × HelpsRank g k loose

-- members of s have P, and no rule adds to s
pub record Shut (Adds : ℕ → Rule → ℕ → Type 0) (P : ℕ → Type 0) (g : Rules) (s : ℕ) : Type 0 where
  pub sound : (Y : ℕ) → In s Y → P Y
  pub shut : (r : Rule) → Memᴰ r g → (Y : ℕ) → Adds s r Y → In s Y

-- the sets of those that inherit a mark of at most each rank
pub record LevelsOf (g : Rules) (l : Levels) : Type 0 where
  pub unmarked : Exactly l.unmarked (AtMost g 0)
  pub offalign : Exactly l.offalign (AtMost g 1)
  pub offside : Exactly l.offside (AtMost g 2)
  pub single : Exactly l.single (AtMost g 3)

-- of these sets the first that has A
abbrev pub LevelIs : Levels → ℕ → Option UnaryMark → Type 0
LevelIs l A (Some UnaryMark.None) = In l.unmarked A
LevelIs l A (Some UnaryMark.Offalign) = (In l.unmarked A → ⊥) × In l.offalign A
LevelIs l A (Some UnaryMark.Offside) = (In l.offalign A → ⊥) × In l.offside A
LevelIs l A (Some UnaryMark.Single) = (In l.offside A → ⊥) × In l.single A
LevelIs l A None = In l.single A → ⊥

-- the weakest mark that A inherits
pub record Weakest (g : Rules) (A : ℕ) (m : UnaryMark) : Type 0 where
  pub inherits : Inherits g A m
  pub least : (k : UnaryMark) → Inherits g A k → rank m ≤ rank k
