-- One turn of a loop over a sheet's lines that fills an array, for any kind of item.
use mathlib.Core.Path.{◌≡◌, refl, sym, ap, ◌∙◌, subst}
use mathlib.Core.List.{List, [], ◌∷◌, ◌++◌}
use mathlib.Core.Bool.{Bool, true, false, cond}
use Prim.Native.Nat.{ℕ, ◌+◌, ◌-◌, ◌≤◌, ◌<◌}
use native.Mathlib.Numerals.{add-one}
use native.Mathlib.Omega.{arith}
use lib.ListN.{length, take, set, length-set}
use lib.Seq.{length-take-le, take-suc-set}
use lib.Dec.{ltb, leb}
use borrow.Author.Tests.{leb-false, ltb-true}
use Rattle.sets.proofs.Basics.{clash}
use Rattle.fields.specs.declared.Cursor.{Cursor}
use Rattle.fields.specs.Pieces.{is_empty}
use Rattle.fields.proofs.Lines.{line_step, line_high, line_low, more_left}
use Rattle.lines.specs.declared.Turn.TheVariants as Turn
use Rattle.lines.specs.Turns.{turn_of}
use Rattle.sheets.specs.Items.{Step, next, stop, end, accepted, refused, step_at_of, line_step_of}
use Rattle.sheets.specs.Items.{on_step, items_from}
use Rattle.fields.specs.Cursors.{pieces_from, line_at, bytes_left}

-- the line that begins at a place
module _ (s : List ℕ) (at : ℕ) (low : at ≤ length s) (c : Cursor) (is : c ≡ line_at s at) where
  starts : c.at ≡ at
  starts = ap (λ (x : Cursor). x.at) is

  ends : c.end ≡ (line_at s at).end
  ends = ap (λ (x : Cursor). x.end) is

  pub line_in : (c.at ≤ c.end) × (c.end ≤ length s)
  line_in =
      (omega (arith, starts, ends, line_low s at low), omega (arith, ends, line_high s at low))

  pub line_less : at ≤ c.end
  line_less = omega (arith, ends, line_low s at low)

  pub line_cut : pieces_from 10 s at ≡ bytes_left s c ∷ pieces_from 10 s (c.end + 1)
  line_cut = subst (λ (x : Cursor). pieces_from 10 s at ≡ bytes_left s x
      ∷ pieces_from 10 s (x.end + 1)) (sym is) (line_step s at low)

module _ {A : Type 0} (most : ℕ) (many form : ℕ) where
  -- an item is taken only as one of `most`, and only from an ended line
  pub next_only : (n : ℕ) (said : Step A) (line : List ℕ) (ended : Bool) (t : A)
      → next t ≡ step_at_of many form said (turn_of most n line ended) → (n < most) × (ended ≡ true)
  next_only n said line true t e = (go (leb most n) refl e, refl)
    where
      go : (b : Bool) → leb most n ≡ b
          → next t ≡ step_at_of many form said (cond b Turn.Many Turn.Whole) → n < most
      go true h e = let z : ◌≡◌ {A = ℕ} 0 1 = cc in absurd (omega arith)
      go false h e = leb-false most n h
  next_only n said line false t e = absurd (go (is_empty line) (leb most n) e)
    where
      go : (a b : Bool) → next t ≡ step_at_of many form said
          (cond a Turn.End (cond b Turn.Many Turn.Open)) → ⊥
      go true b e = clash cc
      go false true e = clash cc
      go false false e = clash cc

-- the loop's invariant: the first n of the array are read, and the rest of the sheet says after
-- them what the sheet says
pub record Filled {A : Type 0} (most : ℕ) (many form : ℕ) (says : List A → List ℕ → Step A)
    (s : List ℕ) (start : ℕ) (arr : List A) (n at : ℕ) : Type 0 where
  pub low : at ≤ length s
  pub few : n ≤ most
  pub long : length arr ≡ most
  pub same : items_from (line_step_of most many form says) [] (pieces_from 10 s start)
      ≡ items_from (line_step_of most many form says) (take n arr) (pieces_from 10 s at)

module _ {A : Type 0} {most : ℕ} {many form : ℕ} {says : List A → List ℕ → Step A} {s : List ℕ}
    {start : ℕ} {arr : List A} {n at : ℕ} (T : Filled most many form says s start arr n at) where
  pub count : length (take n arr) ≡ n
  count = length-take-le n arr (omega (arith, T.few, T.long))

  -- a turn: c is the line at the place, and what it gives is what the code's step says
  module _ {c : Cursor} (is : c ≡ line_at s at) where
    abbrev made : Step A
    made = step_at_of many form (says (take n arr) (bytes_left s c))
        (turn_of most n (bytes_left s c) (ltb c.end (length s)))

    turn : items_from (line_step_of most many form says) [] (pieces_from 10 s start)
        ≡ on_step (take n arr) made (λ t. items_from (line_step_of most many form says)
        (take n arr ++ t ∷ []) (pieces_from 10 s (c.end + 1)))
    turn = T.same ∙ rw (line_cut s at T.low c is, more_left 10 s c.end, count) refl

    pub took : {t : A} → next t ≡ made → (n < most) × (c.end < length s)
    took {t} h =
        let p = next_only most many form n (says (take n arr) (bytes_left s c)) (bytes_left s c)
        (ltb c.end (length s)) t h in (p.0, ltb-true c.end (length s) p.1)

    -- the place moves on
    pub moved : {t : A} → next t ≡ made → length s - (c.end + 1) < length s - at
    moved h = omega (arith, (took h).1, line_less s at T.low c is)

    pub turned : {t : A} → next t ≡ made
        → Filled most many form says s start (set arr n t) (n + 1) (c.end + 1)
    turned {t} h =
        let p = took h in
        let k : n < length arr = omega (arith, T.long, p.0) in
        record {
          low = omega (arith, p.1);
          few = omega (arith, p.0);
          long = length-set arr n t ∙ T.long;
          same = turn ∙ rw (← h, add-one n, take-suc-set arr n t k) refl;
        }

    pub stopped : {f : ℕ} → stop f ≡ made
        → items_from (line_step_of most many form says) [] (pieces_from 10 s start)
        ≡ refused f (n + 2)
    stopped h = turn ∙ rw (← h, count) refl

    pub ended : end ≡ made → items_from (line_step_of most many form says) []
        (pieces_from 10 s start)
        ≡ accepted (take n arr)
    ended h = turn ∙ rw (← h) refl
