-- What the search for the first empty line finds.
use Rattle.std.specs.Prelude.{◌≡◌, List, ℕ, ◌+◌, ◌<◌, length, take, drop, Option, Some, None}
use Rattle.std.proofs.Math.Option.{none, some}
use Rattle.text.specs.Input.{parts}

-- the place of its byte 10, or that there is none
abbrev pub Parted : List ℕ → Option ℕ → Type 0
Parted s (Some i) =
    (i < length s) × (parts s ≡ some (record { before = take i s; behind = drop (i + 1) s }))
Parted s None = parts s ≡ none
