-- For inner functions: the first line of a sheet, tried as the names.
use Rattle.std.specs.Prelude.{◌≡◌, ℕ, ◌+◌, ◌≤◌, List, length, Option, Some, None}
use Rattle.fields.specs.Pieces.{pieces}
use Rattle.fields.specs.Cursors.{pieces_from}
use Rattle.sheets.specs.Items.{Reading, accepted, refused, with_names}

-- the lines behind the names, where the first line is the names
abbrev pub tried : List ℕ → List ℕ → Reading (List (List ℕ))
tried s names = with_names (refused 0 0) names (pieces 10 s) accepted

-- where the lines behind the names begin
abbrev pub Behind : List ℕ → List ℕ → Option ℕ → Type 0
Behind s names (Some at) =
    (at ≤ length s) × (at ≡ length names + 1) × (tried s names ≡ accepted (pieces_from 10 s at))
Behind s names None = tried s names ≡ refused 0 0
