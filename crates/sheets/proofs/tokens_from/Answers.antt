use mathlib.Core.Path.{refl}
use native.Mathlib.Omega.{arith}
use borrow.Author.Rules.{rules}
use lib.Dec.{lit≤}
use Rattle.sheets.proofs.Loop.{line_in, count, took, moved, turned, stopped, ended}
use Rattle.sheets.proofs.Accepted.{tokens_placed}
use Rattle.fields.specs.Cursors.{pieces_from}
use Rattle.sheets.proofs.tokens_from.Goals as goal

pub loop-t-init : goal.loop-t-init
loop-t-init c =
    record { low = c.requires; few = lit≤ tt; long = search rules; same = refl }

pub line-c-requires : goal.line-c-requires
line-c-requires c = c.loop-t.invariant.low

pub token_step-requires : goal.token_step-requires
token_step-requires c =
    let i = line_in _ _ c.loop-t.invariant.low _ c.line-c.ensures in
    (i.0, i.1)

pub offset_bounds-tokens-n : goal.offset_bounds-tokens-n
offset_bounds-tokens-n c = omega (
  arith,
  (took c.loop-t.invariant c.line-c.ensures
      (rw (c.in-Ok-Some.field-0-is, count c.loop-t.invariant) at c.in-Ok-Some.ensures)).0,
)

pub bounds-tokens-n : goal.bounds-tokens-n
bounds-tokens-n c = (took c.loop-t.invariant c.line-c.ensures
    (rw (c.in-Ok-Some.field-0-is, count c.loop-t.invariant) at c.in-Ok-Some.ensures)).0

pub overflow_add-n : goal.overflow_add-n
overflow_add-n c = omega (
  arith,
  (took c.loop-t.invariant c.line-c.ensures
      (rw (c.in-Ok-Some.field-0-is, count c.loop-t.invariant) at c.in-Ok-Some.ensures)).0,
)

pub overflow_add-at : goal.overflow_add-at
overflow_add-at c = omega (
  arith,
  (took c.loop-t.invariant c.line-c.ensures
      (rw (c.in-Ok-Some.field-0-is, count c.loop-t.invariant) at c.in-Ok-Some.ensures)).1,
)

pub loop-t-smaller : goal.loop-t-smaller
loop-t-smaller c =
    moved c.loop-t.invariant c.line-c.ensures
    (rw (c.in-Ok-Some.field-0-is, count c.loop-t.invariant) at c.in-Ok-Some.ensures)

pub loop-t-preserved : goal.loop-t-preserved
loop-t-preserved c =
    turned c.loop-t.invariant c.line-c.ensures
    (rw (c.in-Ok-Some.field-0-is, count c.loop-t.invariant) at c.in-Ok-Some.ensures)

pub returns-in-Err : goal.returns-in-Err
returns-in-Err c = record {
  is = stopped c.loop-t.invariant c.line-c.ensures
      (rw (count c.loop-t.invariant) at c.in-Err.ensures);
}

pub returns-in-Ok-None : goal.returns-in-Ok-None
returns-in-Ok-None c =
    let T = c.loop-t.invariant in
    let b = c.args in
    let e = ended T c.line-c.ensures
    (rw (c.in-Ok-None.field-0-is, count T) at c.in-Ok-None.ensures) in
    record {
      is = e;
      positioned = record {
        few = T.few;
        whole = count T;
        rising = (tokens_placed b.wide (pieces_from 10 b.s.now b.start) _ e).rising;
      };
    }
