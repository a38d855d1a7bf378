-- What a call that failed leaves: some of the bytes were moved before (inner).
use Rattle.std.specs.Prelude.{ℕ, ◌≤◌, List, length, take}
use Rattle.std.specs.Io.KnownBytes.{Appends, Consumes}
use Rattle.std.specs.declared.option.Option.{Option}

-- what was read before stands at the front of the buffer
abbrev pub SomeRead : Option (List ℕ) → Option (List ℕ) → List ℕ → Type 0
SomeRead old new buf = (n : ℕ) × ((n ≤ length buf) × Consumes old new (take n buf))

-- a front of the bytes was written before
abbrev pub SomeWritten : Option (List ℕ) → Option (List ℕ) → List ℕ → Type 0
SomeWritten old new buf = (n : ℕ) × ((n ≤ length buf) × Appends old new (take n buf))
