-- The least column on lines later than the first token's, carried along while a span grows by a
-- token (docs/FORMAT.md, "Layout marks").
use Rattle.std.specs.Prelude.{◌≡◌, ℕ, ◌+◌, ◌≤◌, ◌<◌, min}
use Rattle.grammar.specs.declared.Token.{Token}
use Rattle.grammar.specs.declared.Column.{Column}
use Rattle.grammar.specs.Layout.{line, col}
use Rattle.std.specs.Prelude.{Option, Some, None}
use Rattle.marks.specs.Half.{Half, token_at}

-- of the span of len tokens from s on, the token at s + i is known and stands on a line later than
-- the first token's
pub record Later (h : Half) (s len i : ℕ) : Type 0 where
  pub inside : i < len
  pub known : s + i < h.known
  pub below : line (token_at h.word s) < line (token_at h.word (s + i))

-- v is the least column of such tokens, or says that there is none
abbrev pub LeastLater : Half → ℕ → ℕ → Option Column → Type 0
LeastLater h s len None = (i : ℕ) → Later h s len i → ⊥
LeastLater h s len (Some c) =
    ((i : ℕ) × Later h s len i × (col (token_at h.word (s + i)) ≡ c.0))
    × ((i : ℕ) → Later h s len i → c.0 ≤ col (token_at h.word (s + i)))

-- the least of v and the column c
abbrev pub lesser : Option Column → Column → Option Column
lesser None c = Some c
lesser (Some l) c = Some (record { 0 = min l.0 c.0 })

-- r is v grown by the token t, the first token being a: t counts if its line is later than a's
pub record Grows (v : Option Column) (a t : Token) (r : Option Column) : Type 0 where
  pub later : line a < line t → r ≡ lesser v t.column
  pub other : line t ≤ line a → r ≡ v

-- offside and offalign, from the first token's column c and the least column v on later lines alone
abbrev pub OffsideBy : Column → Option Column → Type 0
OffsideBy c None = Unit {0}
OffsideBy c (Some l) = c.0 < l.0

abbrev pub OffalignBy : Column → Option Column → Type 0
OffalignBy c None = Unit {0}
OffalignBy c (Some l) = c.0 ≤ l.0
