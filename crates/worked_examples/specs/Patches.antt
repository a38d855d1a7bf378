-- The patches P1 to P9, with their sheets as they are printed, and rules that loop, as one table.
use Rattle.std.specs.Prelude.{List, [], ◌∷◌, ◌++◌, ℕ}
use Prim.Native.String.{String}
use Rattle.worked_examples.specs.Bytes.{bytes}
use Rattle.worked_examples.specs.Claims.{Claim, verdict, lefts, sweep, every_sweep_clear}
use Rattle.worked_examples.specs.Claims.{clear, two_at, no_tree, one_tree, two_trees}

-- the lines behind a sheet's names
abbrev pub rules : String → List ℕ
rules lines = bytes "left kind first second lay\n" ++ bytes lines

abbrev pub tokens : String → List ℕ
tokens lines = bytes "term line col\n" ++ bytes lines

abbrev pub p1 : List ℕ
p1 = rules "0 B 0 0 none\n0 A 0 - none\n"

abbrev pub p2 : List ℕ
p2 = rules "0 B 0 0 align\n0 A 0 - none\n"

abbrev pub p3 : List ℕ
p3 = rules "0 B 0 0 indent\n0 A 0 - none\n"

abbrev pub p4 : List ℕ
p4 = rules "0 B 1 1 none\n1 A 0 - none\n1 E - - none\n"

abbrev pub p5 : List ℕ
p5 = rules "0 B 1 2 none\n0 U 1 - none\n1 E - - none\n2 E - - none\n"

abbrev pub p6 : List ℕ
p6 = rules "0 U 1 - offside\n1 B 2 2 none\n2 A 0 - none\n"

abbrev pub p7 : List ℕ
p7 = rules "0 U 1 - offalign\n1 B 2 2 none\n2 A 0 - none\n"

abbrev pub p8 : List ℕ
p8 = rules "0 B 1 1 indent\n1 A 0 - none\n"

abbrev pub p9 : List ℕ
p9 = rules
    "0 U 1 - single\n1 U 2 - none\n1 U 3 - none\n2 B 4 4 indent\n3 B 4 4 none\n4 A 0 - none\n"

-- rules that loop, and a loop that no tree uses
abbrev pub looping : List ℕ
looping = rules "0 U 0 - none\n0 A 0 - none\n"

abbrev pub idle : List ℕ
idle = rules "0 A 0 - none\n1 U 1 - none\n"

abbrev pub patches : List Claim
patches =
    sweep p1 2 clear
    ∷ sweep p1 3 (two_at (tokens "0 1 1\n0 1 2\n0 1 3\n"))
    ∷ sweep p2 3 (two_at (tokens "0 1 1\n0 2 1\n0 3 1\n"))
    ∷ sweep p3 3 (two_at (tokens "0 1 1\n0 2 2\n0 3 3\n"))
    ∷ verdict p4 (tokens "0 1 1\n") 0 two_trees
    ∷ lefts p4 (tokens "0 1 1\n") 0 (1 ∷ 0 ∷ [])
    ∷ verdict p5 (tokens "") 0 two_trees
    ∷ every_sweep_clear p5
    ∷ verdict p6 (tokens "0 1 3\n0 2 3\n") 0 no_tree
    ∷ verdict p6 (tokens "0 1 3\n0 2 4\n") 0 one_tree
    ∷ verdict p7 (tokens "0 1 3\n0 2 3\n") 0 one_tree
    ∷ verdict p7 (tokens "0 1 3\n0 2 2\n") 0 no_tree
    ∷ verdict p8 (tokens "0 1 1\n0 2 2\n") 0 one_tree
    ∷ verdict p8 (tokens "0 1 1\n0 3 2\n") 0 one_tree
    ∷ verdict p8 (tokens "0 1 1\n0 2 1\n") 0 no_tree
    ∷ verdict p9 (tokens "0 1 1\n0 2 2\n") 0 no_tree
    ∷ verdict p9 (tokens "0 1 1\n0 2 2\n") 1 two_trees
    ∷ verdict looping (tokens "0 1 1\n") 0 two_trees
    ∷ verdict idle (tokens "0 1 1\n") 0 one_tree
    ∷ []
