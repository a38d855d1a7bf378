-- The programs' input: docs/FORMAT.md, "The programs".
use Rattle.std.specs.Prelude.{Bool, true, cond, ◌&&◌, List, [], ◌∷◌, ℕ, eqb}
use Rattle.std.proofs.Math.Option.{Option, none, some}

-- the longest input that is read
abbrev pub longest : ℕ
longest = 16384

-- what stands before and behind the first empty line: a byte 10 at the very start or right after a
-- byte 10
pub record Parts : Type 0 where
  pub before : List ℕ
  pub behind : List ℕ

abbrev pub onto_before : ℕ → Option Parts → Option Parts
onto_before x (some p) = some (record { before = x ∷ p.before; behind = p.behind })
onto_before x none = none

-- `begins` says that a line begins here
abbrev pub parts_from : Bool → List ℕ → Option Parts
parts_from begins [] = none
parts_from begins (x ∷ s) = cond (begins && eqb x 10) (some (record { before = []; behind = s }))
    (onto_before x (parts_from (eqb x 10) s))

-- the first empty line parts the input
abbrev pub parts : List ℕ → Option Parts
parts s = parts_from true s
