-- What holds of each member of a list, and of its parts.
use mathlib.Core.List.{List, [], ◌∷◌, ◌++◌}
use Rattle.grammar.specs.Layout.{Every}

pub every_map : {A : Type 0} {P Q : A → Type 0} → ((a : A) → P a → Q a) → (l : List A) → Every P l
    → Every Q l
every_map f [] e = tt
every_map f (a ∷ l) e = (f a e.0, every_map f l e.1)

pub every_all : {A : Type 0} {P : A → Type 0} → ((a : A) → P a) → (l : List A) → Every P l
every_all f [] = tt
every_all f (a ∷ l) = (f a, every_all f l)

pub every_front : {A : Type 0} (P : A → Type 0) (u v : List A) → Every P (u ++ v) → Every P u
every_front P [] v e = tt
every_front P (a ∷ u) v e = (e.0, every_front P u v e.1)

pub every_rest : {A : Type 0} (P : A → Type 0) (u v : List A) → Every P (u ++ v) → Every P v
every_rest P [] v e = e
every_rest P (a ∷ u) v e = every_rest P u v e.1
