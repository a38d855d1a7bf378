-- What the definitions accept: ends in order and in bounds; and the end of the sheet.
use mathlib.Core.Path.{◌≡◌, refl, ap, subst}
use mathlib.Core.List.{List, [], ◌∷◌}
use mathlib.Core.Bool.{Bool, true, false, cond, ◌&&◌}
use Prim.Native.Nat.{ℕ, ◌≤◌, ◌<◌}
use lib.ListN.{length}
use lib.Dec.{leb}
use borrow.Author.Tests.{leb-true, le-leb, lt-leb}
use Rattle.sets.proofs.Basics.{clash}
use Rattle.grammar.specs.Layout.{Every}
use Rattle.grammar.proofs.Lists.{every_append}
use Rattle.fields.specs.Pieces.{pieces}
use Rattle.fields.specs.Words.{numeral_of}
use Rattle.fields.proofs.Fields.{with_holds, end_holds}
use Rattle.lines.specs.declared.Turn.{Turn}
use Rattle.lines.specs.Turns.{turn_of}
use Rattle.std.specs.Prelude.{Result, Ok, Err}
use Rattle.sheets.specs.declared.Fault.{Fault}
use Rattle.sheets.specs.declared.Refusal.{Refusal}
use Rattle.sheets.specs.Refusals.{RefusedAs}
use Rattle.sheets.specs.Items.{Step, next, Reading, accepted, refused, step_at_of, items_from}
use Rattle.sheets.proofs.Accepted.{items_hold}
use Rattle.column_ranges.specs.declared.RangeToken.{RangeToken}
use Rattle.column_ranges.specs.Ranges.{Ranges, choice_count, choice_limit}
use Rattle.column_ranges.specs.declared.RangeSentence.{RangeSentence}
use Rattle.sheets.specs.Promises.{reading_of}
use Rattle.sheets.proofs.Readings.{read_of, read_not, reading_is}
use Rattle.range_sheets.specs.Promises.{RangesGiven, RangesRead}
use Rattle.range_sheets.specs.RangeLines.{ends_of, range_of, range_fields, range_line}
use Rattle.range_sheets.specs.RangeLines.{after_range_terminal, after_range_line, after_range_low}
use Rattle.range_sheets.specs.RangeLines.{after_range_high}
use Rattle.range_sheets.specs.RangeSheets.{range_said_of, range_says, range_step, few_choices}
use Rattle.column_ranges.specs.RangeSentences.{ranges_of, EndsOrdered}

-- the end of a sheet
pub counted_few : (rs : Ranges) → choice_count rs ≤ choice_limit
    → few_choices (accepted rs) ≡ accepted rs
counted_few rs h =
    ap (λ (b : Bool). cond b (accepted rs) (refused 49 0)) (le-leb (choice_count rs) choice_limit h)

pub counted_many : (rs : Ranges) → choice_limit < choice_count rs
    → few_choices (accepted rs) ≡ refused 49 0
counted_many rs h =
    ap (λ (b : Bool). cond b (accepted rs) (refused 49 0)) (lt-leb (choice_count rs) choice_limit h)

-- what was read is what the sheet says
pub ranges_are : {r : Result RangeSentence Refusal} {want : Reading (List RangeToken)}
    {s : RangeSentence} → RangesRead r want → r ≡ Ok s → want ≡ accepted (ranges_of s)
ranges_are h e = (read_of RangesGiven h e).is

pub ranges_not : {r : Result RangeSentence Refusal} {want : Reading (List RangeToken)} {e : Refusal}
    → RangesRead r want → r ≡ Err e → RefusedAs want e.fault e.line
ranges_not h e = read_not RangesGiven h e

pub ranges_told : (r : Result RangeSentence Refusal) {want : Reading (List RangeToken)}
    → RangesRead r want → reading_of ranges_of r ≡ want
ranges_told r h = reading_is RangesGiven ranges_of (λ s w g. g.is) r h

-- ---- the ends of accepted tokens

-- a line's token has its ends in order
abbrev Fine : Result RangeToken Fault → Type 0
Fine (Ok r) = EndsOrdered r
Fine (Err f) = Unit {0}

ends_fine : (t l a b : ℕ) → 1 ≤ a → b ≤ 65535 → Fine (ends_of t l a b)
ends_fine t l a b h k = go (leb a b) refl
  where
    go : (x : Bool) → leb a b ≡ x → Fine
        (cond x (Ok (record {
          terminal = t;
          line = record { 0 = l };
          low = record { 0 = a };
          high =
              record { 0 = b };
        })) (Err Fault.RangeEnds))
    go true e = record { ordered = leb-true a b e; least = h; most = k }
    go false e = tt

of_fine : (t l a b : ℕ) → Fine (range_of t l a b)
of_fine t l a b =
    go (leb t 63) (leb 1 l && leb l 65535) (leb 1 a) (leb a 65535) (leb 1 b) (leb b 65535) refl refl
  where
    go : (x y p q r s : Bool) → leb 1 a ≡ p → leb b 65535 ≡ s
        → Fine (cond (x && y && (p && q) && (r && s)) (ends_of t l a b) (Err Fault.TokenRange))
    go true true true true true true e f = ends_fine t l a b (leb-true 1 a e) (leb-true b 65535 f)
    go true true true true true false e f = tt
    go true true true true false s e f = tt
    go true true true false r s e f = tt
    go true true false q r s e f = tt
    go true false p q r s e f = tt
    go false y p q r s e f = tt

fields_fine : (fs : List (List ℕ)) → Fine (range_fields fs)
fields_fine =
    with_holds Fine (Err Fault.TokenForm) tt numeral_of after_range_terminal
    (λ t. with_holds Fine (Err Fault.TokenForm) tt numeral_of (after_range_line t)
    (λ l. with_holds Fine (Err Fault.TokenForm) tt numeral_of (after_range_low t l)
    (λ a. with_holds Fine (Err Fault.TokenForm) tt numeral_of (after_range_high t l a)
    (λ b. end_holds Fine (Err Fault.TokenForm) tt (range_of t l a b) (of_fine t l a b)))))

said_ended : (line : List ℕ) (t : RangeToken) → range_says [] line ≡ next t → EndsOrdered t
said_ended line t e = go (range_line line) (fields_fine (pieces 32 line)) e
  where
    go : (x : Result RangeToken Fault) → Fine x → range_said_of x ≡ next t → EndsOrdered t
    go (Err g) f e = absurd (clash cc)
    go (Ok r) f e = let j : r ≡ t = cc in subst EndsOrdered j f

step_said : (said : Step RangeToken) (x : Turn) (t : RangeToken) → step_at_of 14 12 said x ≡ next t
    → said ≡ next t
step_said said Turn.End t e = absurd (clash cc)
step_said said Turn.Many t e = absurd (clash cc)
step_said said Turn.Open t e = absurd (clash cc)
step_said said Turn.Whole t e = e

pub ranges_ended : (ps : List (List ℕ)) (w : Ranges) → items_from range_step [] ps ≡ accepted w
    → Every EndsOrdered w
ranges_ended ps w =
    items_hold range_step (Every EndsOrdered)
    (λ seen p b t e r. every_append EndsOrdered seen (t ∷ []) r
    (said_ended p t (step_said (range_says [] p) (turn_of 64 (length seen) p b) t e), tt))
    [] ps w tt
