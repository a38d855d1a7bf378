-- `call_sheets::change_call` meets its contract: after each number, what the sheet names is what
-- the definition says of the fields left; the bytes behind them are one field, or no call is named.
use mathlib.Core.Path.{◌≡◌, sym, ap, ◌∙◌}
use mathlib.Core.Bool.{true, false}
use mathlib.Core.List.{List}
use Prim.Native.Nat.{ℕ, ◌+◌, ◌-◌, ◌≤◌, ◌<◌}
use native.Mathlib.Omega.{arith}
use lib.ListN.{length, drop, length-drop}
use lib.Seq.{length-take-le}
use Rattle.fields.specs.declared.Cursor.{Cursor}
use Rattle.fields.specs.Pieces.{pieces}
use Rattle.fields.specs.Words.{numeral_of}
use Rattle.std.specs.Prelude.{Option, Some, None}
use Rattle.fields.specs.Cursors.{bytes_left, fields_left, read_field}
use Rattle.fields.proofs.Fields.{with_good, with_bad, left_none}
use Rattle.fields.proofs.Lines.{fields_of}
use Rattle.call_sheets.specs.declared.TwoSheets.TheVariants as TwoSheets
use Rattle.call_sheets.specs.CallSheets.{on_two}
use Rattle.call_sheets.specs.CallSheets.{change_call_of, change_second, change_end}
use Rattle.call_sheets.specs.OneField.{one_field_of}
use Rattle.call_sheets.proofs.Laws.{end_not, end_one, left_bad}
use Rattle.call_sheets.proofs.change_call.Goals as goal

-- what the method for numbers answers at a cursor
abbrev read : List ℕ → Cursor → Option (ℕ × Cursor)
read s c = read_field numeral_of c (fields_left s c)

-- what is left to say after each number
stage1 : (s : List ℕ) (a : Cursor) (u : ℕ) (d : Cursor) → Some (u, d) ≡ read s a
    → (change_call_of (length s) (fields_left s a)
    ≡ change_second (length s) u (fields_left s d)) × (d.end ≡ a.end)
stage1 s a u d p = with_good None numeral_of (change_second (length s)) s a d u p

-- after both
record Both (s : List ℕ) (a : Cursor) (u r : ℕ) (e : Cursor) : Type 0 where
  pub says : change_call_of (length s) (fields_left s a)
      ≡ change_end (length s) u r (fields_left s e)
  pub ends : e.end ≡ a.end

stage2 : (s : List ℕ) (a : Cursor) (u : ℕ) (d : Cursor) (r : ℕ) (e : Cursor)
    → Some (u, d) ≡ read s a → Some (r, e) ≡ read s d → Both s a u r e
stage2 s a u d r e p q =
    let m = stage1 s a u d p in
    let l = with_good None numeral_of (change_end (length s) u) s d e r q in
    record { says = m.0 ∙ l.0; ends = l.1 ∙ m.1 }

-- where the cursor is behind the line, no call is named
none_left : (s : List ℕ) (a : Cursor) (u r : ℕ) (e : Cursor) → a.end + 1 ≡ length s
    → Both s a u r e → e.end < e.at → None ≡ change_call_of (length s) (fields_left s a)
none_left s a u r e h b k =
    sym (b.says ∙ ap (λ (fs : List (List ℕ)). change_end (length s) u r fs)
    (left_none s e (omega (arith, b.ends)) k))

-- the bytes left are the fields left
left : (s : List ℕ) (a : Cursor) (u r : ℕ) (e : Cursor) → a.end + 1 ≡ length s
    → Both s a u r e → e.at ≤ e.end
    → change_end (length s) u r (fields_left s e)
    ≡ change_end (length s) u r (pieces 32 (bytes_left s e))
left s a u r e h b k =
    ap (λ (fs : List (List ℕ)). change_end (length s) u r fs)
    (fields_of s e k (omega (arith, b.ends)))

-- they are one field
one_left : (s : List ℕ) (a : Cursor) (u r : ℕ) (e : Cursor) → a.end + 1 ≡ length s
    → Both s a u r e → e.at ≤ e.end → one_field_of (bytes_left s e) ≡ true
    → on_two (TwoSheets.Change u r e.at) ≡ change_call_of (length s) (fields_left s a)
one_left s a u r e h b k o =
    let bytes = bytes_left s e in
    let long : length bytes ≡ e.end - e.at = length-take-le (e.end - e.at) (drop e.at s)
    (omega (arith, length-drop e.at s, b.ends)) in
    let place : length s - 1 - length bytes ≡ e.at = omega (arith, long, b.ends) in
    sym (b.says ∙ left s a u r e h b k ∙ end_one (length s) u r bytes o
    ∙ ap (λ (x : ℕ). on_two (TwoSheets.Change u r x)) place)

-- or not
not_left : (s : List ℕ) (a : Cursor) (u r : ℕ) (e : Cursor) → a.end + 1 ≡ length s
    → Both s a u r e → e.at ≤ e.end → one_field_of (bytes_left s e) ≡ false
    → None ≡ change_call_of (length s) (fields_left s a)
not_left s a u r e h b k o =
    let bytes = bytes_left s e in
    sym (b.says ∙ left s a u r e h b k ∙ end_not (length s) u r (pieces 32 bytes)
    (left_bad bytes o))

pub read-requires-2 : goal.read-requires-2
read-requires-2 c =
    let a = c.args in
    omega (arith, (stage1 a.s.now a.c _ _ c.in_ok-u.ensures).1, c.requires)

pub returns-in_err-r : goal.returns-in_err-r
returns-in_err-r c =
    let a = c.args in
    rw c.from_residual-in_err-r.ensures
    (sym ((stage1 a.s.now a.c _ _ c.in_ok-u.ensures).0
    ∙ with_bad None numeral_of (change_end (length a.s.now) c.in_ok-u.u) c.in_ok-u.d
    (fields_left a.s.now c.in_ok-u.d) c.in_err-r.ensures))

pub returns-then-end-at : goal.returns-then-end-at
returns-then-end-at c =
    let a = c.args in
    let b = stage2 a.s.now a.c _ _ _ _ c.in_ok-u.ensures c.in_ok-r.ensures in
    none_left a.s.now a.c _ _ _ c.requires b c.if-end-at.true

pub slice_bounds-one_field-end : goal.slice_bounds-one_field-end
slice_bounds-one_field-end c =
    let a = c.args in
    let b = stage2 a.s.now a.c _ _ _ _ c.in_ok-u.ensures c.in_ok-r.ensures in
    omega (arith, b.ends, c.requires)

pub returns-then-not-one_field : goal.returns-then-not-one_field
returns-then-not-one_field c =
    let a = c.args in
    let b = stage2 a.s.now a.c _ _ _ _ c.in_ok-u.ensures c.in_ok-r.ensures in
    not_left a.s.now a.c _ _ _ c.requires b c.if-end-at.false
    (sym c.one_field.ensures ∙ c.if-not-one_field.true)

pub returns : goal.returns
returns c =
    let a = c.args in
    let b = stage2 a.s.now a.c _ _ _ _ c.in_ok-u.ensures c.in_ok-r.ensures in
    one_left a.s.now a.c _ _ _ c.requires b c.if-end-at.false
    (sym c.one_field.ensures ∙ c.if-not-one_field.false)
