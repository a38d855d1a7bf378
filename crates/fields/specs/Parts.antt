-- A part of a sheet, as a reference into it.
use Rattle.std.specs.Prelude.{◌≡◌, ℕ, ◌+◌, List, take, drop}
use Rattle.std.specs.Borrow.{Bor}

-- r is the part of the sheet that begins at `from` and is `len` bytes long: it points into the
-- sheet, and holds these bytes
pub record Part (sheet : Bor (List ℕ)) (from len : ℕ) (r : Bor (List ℕ)) : Type 0 where
  pub block : r.ref_ptr.0 ≡ sheet.ref_ptr.0
  pub offset : r.ref_ptr.1 ≡ sheet.ref_ptr.1 + from
  pub holds : r.now ≡ take len (drop from sheet.now)
