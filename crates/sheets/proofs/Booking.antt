-- A turn of the loop over rule lines, with the rules and their index in one book.
use mathlib.Core.Path.{◌≡◌, sym, ap, ◌∙◌}
use mathlib.Core.List.{List}
use mathlib.Core.Bool.{Bool}
use Prim.Native.Nat.{ℕ, ◌+◌, ◌≤◌, ◌<◌}
use native.Mathlib.Numerals.{add-one}
use native.Mathlib.Omega.{arith}
use lib.ListN.{length, take, set}
use lib.Seq.{take-suc-set}
use lib.Dec.{ltb}
use Rattle.grammar.specs.declared.Rule.{Rule}
use Rattle.grammar.specs.Trees.{Rules}
use Rattle.grammar.specs.Content.{rules_of, SmallRule}
use Rattle.fields.specs.declared.Cursor.{Cursor}
use Rattle.lines.specs.Turns.{turn_of}
use Rattle.lengths.specs.declared.Book.{Book}
use Rattle.lengths.specs.Indexes.{Exact}
use Rattle.lengths.specs.Books.{Booked, Appended}
use Rattle.sheets.specs.declared.Fault.{Fault}
use Rattle.std.specs.Prelude.{Option, Some, None, Result, Ok, Err}
use Rattle.sheets.specs.Items.{next, step_at_of, items_from}
use Rattle.sheets.specs.RuleSheets.{rule_says, rule_step}
use Rattle.sheets.specs.Promises.{Adds}
use Rattle.sheets.proofs.Loop.{Filled, turned, took, next_only}
use Rattle.sheets.proofs.Accepted.{rule_small}
use Rattle.fields.specs.Cursors.{pieces_from, line_at, bytes_left}

-- the loop's invariant: the book's rules are read, and its index is true
pub record Reads (s : List ℕ) (start : ℕ) (b : Book) (at : ℕ) : Type 0 where
  pub filled : Filled 128 6 2 rule_says s start b.grammar.rules b.grammar.count at
  pub booked : Booked b

-- a line that gives a rule: there is room for it, and it is in range
pub rule_fits : (seen : Rules) (n : ℕ) (line : List ℕ) (ended : Bool) {t : Rule}
    → next t ≡ step_at_of 6 2 (rule_says seen line) (turn_of 128 n line ended)
    → (n < 128) × SmallRule t
rule_fits seen n line ended {t} e = (
  (next_only 128 6 2 n (rule_says seen line) line ended t e).0,
  rule_small seen line
      (turn_of 128 n line ended) t e,
)

-- a refused rule line changes neither rules nor index (`add_line` promises `Adds`)
pub refused_line_keeps : {b x : Book} (f : Fault) → Adds b (Err f) x
    → (x.grammar ≡ b.grammar) × (x.index ≡ b.index)
refused_line_keeps f e = (ap (λ (z : Book). z.grammar) e, ap (λ (z : Book). z.index) e)

-- and the index stays true of the rules, whatever a line gives
pub index_stays_true : (b x : Book) (u : Result (Option Rule) Fault) → Booked b → Adds b u x
    → Exact (rules_of x.grammar) x.index
index_stays_true b x (Ok (Some r)) k a = a.booked.exact
index_stays_true b x (Err f) k a = rw a k.exact
index_stays_true b x (Ok None) k a = rw a k.exact

-- nothing is read yet
pub reads_none : {s : List ℕ} {start : ℕ} {b : Book} → Booked b → b.grammar.count ≡ 0
    → start ≤ length s → Reads s start b start
reads_none {s} {start} {b} k e h = record {
  filled = record {
    low = h;
    few = omega (arith, e);
    long = k.long;
    same = ap
        (λ (n : ℕ). items_from rule_step (take n b.grammar.rules) (pieces_from 10 s start))
        (sym e);
  };
  booked = k;
}

module _ {s : List ℕ} {start : ℕ} {b : Book} {at : ℕ} (T : Reads s start b at) {c : Cursor}
    (is : c ≡ line_at s at) where
  -- a rule more
  pub reads_turn : {t : Rule} {x : Book}
      → next t ≡ step_at_of 6 2 (rule_says (rules_of b.grammar) (bytes_left s c))
      (turn_of 128 b.grammar.count (bytes_left s c) (ltb c.end (length s)))
      → Appended b t x → Reads s start x (c.end + 1)
  reads_turn {t} {x} h a = record {
    filled = record {
      low = F.low;
      few = omega (arith, F.few, a.count);
      long = a.booked.long;
      same = F.same ∙ ap (λ (l : Rules). items_from rule_step l (pieces_from 10 s (c.end + 1)))
          front;
    };
    booked = a.booked;
  }
    where
      F : Filled 128 6 2 rule_says s start (set b.grammar.rules b.grammar.count t)
          (b.grammar.count + 1) (c.end + 1)
      F = turned T.filled is h

      room : b.grammar.count < length b.grammar.rules
      room = omega (arith, (took T.filled is h).0, T.filled.long)

      front : take (b.grammar.count + 1) (set b.grammar.rules b.grammar.count t)
          ≡ rules_of x.grammar
      front = ap (λ (n : ℕ). take n (set b.grammar.rules b.grammar.count t))
          (add-one b.grammar.count) ∙ take-suc-set b.grammar.rules b.grammar.count t
          room ∙ sym a.rules
