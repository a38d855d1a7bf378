-- What the marks of a span say, and when they are right (inner: contracts of the functions that
-- fill the span sheet).
use Rattle.std.specs.Prelude.{◌≡◌, Bool, true, false, ◌↔◌, ℕ, ◌+◌, ◌-◌, ◌≤◌, ◌<◌}
use Rattle.sets.specs.Says.{Says}
use Rattle.sets.specs.Sets.{In}
use Rattle.grammar.specs.declared.UnaryMark.{UnaryMark}
use Rattle.grammar.specs.declared.BinaryMark.{BinaryMark}
use Rattle.grammar.specs.declared.Token.{Token}
use Rattle.grammar.specs.declared.Column.{Column}
use Rattle.grammar.specs.Layout.{Keeps, Pairs}
use Rattle.grammar.specs.Trees.{Covers}
use Rattle.std.specs.Prelude.{None}
use Rattle.marks.specs.declared.SpanMarks.{SpanMarks}
use Rattle.marks.specs.Half.{Half, token_at, MayBe, MayKeep, MayPair}
use Rattle.marks.specs.Later.{LeastLater, Grows, OffsideBy, OffalignBy}
use Rattle.sets.specs.Insertion.{insert}

-- by the marks k a span of one token is one of the terminals from a to b
abbrev pub AtomBy : SpanMarks → ℕ → ℕ → Type 0
AtomBy k a b = Covers a b k.terminal

-- a unary mark may hold of the span
abbrev pub UnaryBy : SpanMarks → UnaryMark → Type 0
UnaryBy k UnaryMark.None = Unit {0}
UnaryBy k UnaryMark.Offside = OffsideBy k.first k.least
UnaryBy k UnaryMark.Offalign = OffalignBy k.first k.least
UnaryBy k UnaryMark.Single = k.single ≡ true

-- a binary mark may hold of the span of len tokens cut after l
abbrev pub BinaryBy : SpanMarks → ℕ → BinaryMark → ℕ → Type 0
BinaryBy k len BinaryMark.None l = Unit {0}
BinaryBy k len BinaryMark.Align l = 0 < l → l < len → In k.align l
BinaryBy k len BinaryMark.Indent l = 0 < l → l < len → In k.indent l

-- r is the set, with l besides if yes is true
pub record Included (set l : ℕ) (yes : Bool) (r : ℕ) : Type 0 where
  pub is : yes ≡ true → r ≡ insert set l
  pub isnt : yes ≡ false → r ≡ set

-- r is the set, with l besides where P holds
pub record IncludedIf (set l : ℕ) (P : Type 0) (r : ℕ) : Type 0 where
  pub flag : Bool
  pub says : Says flag P
  pub included : Included set l flag r

-- r is the marks k of l tokens from a to z with the known token t after them
pub record Joined (k : SpanMarks) (l : ℕ) (a z t : Token) (r : SpanMarks) : Type 0 where
  pub first : r.first ≡ k.first
  pub least : Grows k.least a t r.least
  pub single : Says r.single ((k.single ≡ true) × Keeps UnaryMark.Single a t)
  pub align : IncludedIf k.align l (Pairs BinaryMark.Align a z t) r.align
  pub indent : IncludedIf k.indent l (Pairs BinaryMark.Indent a z t) r.indent
  pub terminal : r.terminal ≡ k.terminal

-- the marks k of l tokens with an open token after them
abbrev pub opened : SpanMarks → ℕ → SpanMarks
opened k l = record {
  first = k.first;
  least = k.least;
  single = k.single;
  align = insert
      k.align l;
  indent = insert k.indent l;
  terminal = k.terminal;
}

-- the token after them is at `at`, and is open unless it is known
pub record Advanced (k : SpanMarks) (l at known : ℕ) (a z t : Token) (r : SpanMarks) : Type 0 where
  pub counts : at < known → Joined k l a z t r
  pub open_one : known ≤ at → r ≡ opened k l

-- the marks of one token with the terminal t and the column c, or of none
abbrev pub alone : ℕ → Column → SpanMarks
alone t c =
    record { first = c; least = None; single = true; align = 0; indent = 0; terminal = t }

-- set has the left lengths from 1 to below `to` at which the mark may hold of the tokens from s on
pub record Pairing (m : BinaryMark) (h : Half) (s to set : ℕ) : Type 0 where
  pub each : (l : ℕ) → 0 < l → l < to → In set l ↔ MayPair m h s l 1
  pub only : (l : ℕ) → In set l → (0 < l) × (l < to)

-- k is the marks of len tokens from s on, as they are carried from a span to the one that has a
-- token more
pub record Carried (h : Half) (s len : ℕ) (k : SpanMarks) : Type 0 where
  pub first : k.first ≡ (token_at h.word s).column
  pub least : LeastLater h s len k.least
  pub single : Says k.single (MayKeep UnaryMark.Single h s len)
  pub align : Pairing BinaryMark.Align h s len k.align
  pub indent : Pairing BinaryMark.Indent h s len k.indent
  pub terminal : k.terminal ≡ (token_at h.word s).terminal

-- r is the marks of the first token, wherever it stands: it has the terminal x and the column c
pub record Starting (x : ℕ) (c : Column) (r : SpanMarks) : Type 0 where
  pub same : r ≡ alone x c
  pub carried : (h : Half) (s : ℕ) → x ≡ (token_at h.word s).terminal
      → c ≡ (token_at h.word s).column → Carried h s 1 r

-- r is the marks k of l tokens from a to z with the token t, at `at`, after them: if k is what is
-- carried of the l tokens, r is what is carried of one more
pub record Growing (k : SpanMarks) (l at known : ℕ) (a z t : Token) (r : SpanMarks) : Type 0 where
  pub advanced : Advanced k l at known a z t r
  pub carried : (h : Half) (s : ℕ) → 0 < l → s + l ≡ at → h.known ≡ known
      → token_at h.word s ≡ a → token_at h.word (s + l - 1) ≡ z
      → token_at h.word (s + l) ≡ t → Carried h s l k → Carried h s (l + 1) r

-- the marks k of the span of len tokens from s on are those of the definitions; where the span has
-- a token, its carried value is the least column on lines later than the first token's
pub record Marked (h : Half) (s len : ℕ) (k : SpanMarks) : Type 0 where
  pub least : 0 < len → LeastLater h s len k.least
  pub atom : len ≡ 1 → (a b : ℕ) → AtomBy k a b ↔ MayBe h s a b
  pub unary : (m : UnaryMark) → UnaryBy k m ↔ MayKeep m h s len
  pub binary : (m : BinaryMark) (l : ℕ) → l ≤ len → BinaryBy k len m l ↔ MayPair m h s l (len - l)
