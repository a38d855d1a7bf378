-- The members of a set as a view (for inner functions).
use Rattle.std.specs.Prelude.{ℕ, ◌/◌, ◌%◌, ◌^◌, eqb}
use Rattle.tree_view.specs.Shown.{View}

-- the members of a set of numbers below 64, as a view
abbrev pub member : ℕ → View
member s A = eqb (s / 2 ^ A % 2) 1
