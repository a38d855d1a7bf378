use mathlib.Core.Path.{◌≡◌, refl, ◌∙◌, subst}
use Prim.Native.Nat.{ℕ, ◌-◌, ◌≤◌, ◌<◌}
use native.Mathlib.Omega.{arith}
use borrow.Author.Rules.{rules}
use Rattle.sets.proofs.Says.{true_not_false}
use Rattle.spans.proofs.ChangeLaws.{past_same, past_then}
use Rattle.candidates.specs.Arrays.{cells}
use Rattle.pruning.specs.Refuting.{TerminalsTwinned}
use Rattle.pruning.proofs.RefutingLaws.{below_none, below_skip, below_more}
use Rattle.pruning.proofs.WordLaws.{poised_back, loose_with_terminal}
use Rattle.pruning.proofs.Trying.{poised_down, done_of, done_full, standing_of}
use Rattle.grammar.specs.Content.{rules_of}
use Rattle.pruning.proofs.+try_terminals.Goals as goal

pub positions-requires : goal.positions-requires
positions-requires t c = record {
  n_bound = (
    c.requires.n_bound.0,
    omega (arith, c.requires.n_bound),
    c.requires.n_bound.3,
    c.requires.n_bound.4,
  );
  formed = c.requires.formed;
  n_in_bounds = c.requires.n_in_bounds;
  positions_filled = standing_of c.if-j-b.true c.requires.terminals_filled;
  mirrored = c.requires.mirrored;
}

pub shape_of-words-then-j-b : goal.shape_of-words-then-j-b
shape_of-words-then-j-b t c = c.positions.ensures.all_positions_searched.past.long

pub returns-then-j-b : goal.returns-then-j-b
returns-then-j-b t c = record {
  done = done_of c.if-j-b.true c.positions.ensures.all_positions_searched;
  mirrored_2 = c.positions.ensures.mirrored_2;
}

pub overflow_sub-i : goal.overflow_sub-i
overflow_sub-i t c = omega (arith, c.if-j-b.false, c.requires.n_bound.1)

pub loop-x-init : goal.loop-x-init
loop-x-init t c = (
  past_same _ _,
  poised_down refl c.requires.n_bound.1 c.requires.n_bound.2 c.if-j-b.false
      c.requires.terminals_filled,
  below_none,
  omega arith,
  c.requires.mirrored,
  refl,
)

pub has-requires : goal.has-requires
has-requires t c = c.loop-x-test.true

pub loop-x-smaller-then-not-has : goal.loop-x-smaller-then-not-has
loop-x-smaller-then-not-has t c = omega (arith, c.loop-x-test.true)

pub loop-x-preserved-then-not-has : goal.loop-x-preserved-then-not-has
loop-x-preserved-then-not-has t c =
    let a = c.args in
    let far = c.if-j-b.false in
    let low : a.b ≤ a.j - 1 = omega (arith, far, c.requires.n_bound.1) in
    let h : a.j - 1 < a.n = omega (arith, far, c.requires.n_bound) in
    let l = c.loop-x in (
      l.invariant.0,
      l.invariant.1,
      below_skip c.requires.n_bound.5 (omega (arith, low, c.requires.n_bound.4)) h
          (c.has.ensures.isnt c.if-not-has.true) l.invariant.2,
      omega (arith, c.loop-x-test.true),
      l.invariant.4,
      l.invariant.5,
    )

pub with_terminal-m-requires : goal.with_terminal-m-requires
with_terminal-m-requires t c =
    let h : c.args.j - 1 < c.args.n = omega (arith, c.if-j-b.false, c.requires.n_bound) in
    record { n_bound = (c.requires.n_bound.0, h); low_steps = c.requires.n_bound.3 }

pub try_terminal-requires : goal.try_terminal-requires
try_terminal-requires t c =
    let a = c.args in
    let far = c.if-j-b.false in
    let low : a.b ≤ a.j - 1 = omega (arith, far, c.requires.n_bound.1) in
    let h : a.j - 1 < a.n = omega (arith, far, c.requires.n_bound) in
    let l = c.loop-x in
    let m = c.with_terminal-m.ensures in
    let x = c.loop-x-test.true in record {
      n_bound = (c.requires.n_bound.0, low, h, m.1);
      formed = c.requires.formed;
      n_in_bounds = omega (arith, l.invariant.0.long, c.requires.n_in_bounds);
      tabled = (
        c.requires.tabled,
        c.requires.n_bound.5.part _ (x, c.has.ensures.is c.if-not-has.false),
        m.0.terminal,
      );
      terminal_open = loose_with_terminal low m.0 l.invariant.1;
      mirrored = l.invariant.4;
    }

pub loop-x-smaller-then-try_terminal : goal.loop-x-smaller-then-try_terminal
loop-x-smaller-then-try_terminal t c = omega (arith, c.loop-x-test.true)

pub loop-x-preserved-then-try_terminal : goal.loop-x-preserved-then-try_terminal
loop-x-preserved-then-try_terminal t c =
    let a = c.args in
    let far = c.if-j-b.false in
    let low : a.b ≤ a.j - 1 = omega (arith, far, c.requires.n_bound.1) in
    let h : a.j - 1 < a.n = omega (arith, far, c.requires.n_bound) in
    let l = c.loop-x in
    let m = c.with_terminal-m.ensures.0 in
    let r = c.try_terminal.ensures.terminal_tried in (
      past_then l.invariant.0 r.past,
      poised_back low h m r.stays,
      below_more low m (r.out c.if-try_terminal.true a.h) l.invariant.2,
      omega (arith, c.loop-x-test.true),
      c.try_terminal.ensures.mirrored_2,
      search rules,
    )

pub try_terminals-requires : goal.try_terminals-requires
try_terminals-requires t c =
    let a = c.args in
    let far = c.if-j-b.false in
    let low : a.b ≤ a.j - 1 = omega (arith, far, c.requires.n_bound.1) in
    let h : a.j - 1 < a.n = omega (arith, far, c.requires.n_bound) in
    let l = c.loop-x in
    let m = c.with_terminal-m.ensures in
    let r = c.try_terminal.ensures.terminal_tried in (
      omega (arith, far, c.requires.n_bound.1),
      (
        (
          c.requires.n_bound.0,
          low,
          omega (arith, h),
          m.1,
          c.requires.n_bound.4,
          c.requires.n_bound.5,
        ),
        (
          c.requires.formed,
          (
            omega (arith, r.past.long, l.invariant.0.long, c.requires.n_in_bounds),
            (c.requires.tabled, (r.stays, c.try_terminal.ensures.mirrored_2)),
          ),
        ),
      ),
    )

pub shape_of-words-then-try_terminals : goal.shape_of-words-then-try_terminals
shape_of-words-then-try_terminals t c =
    c.try_terminals.ensures.done.past.long
    ∙ c.try_terminal.ensures.terminal_tried.past.long
    ∙ c.loop-x.invariant.0.long

pub returns-then-try_terminals : goal.returns-then-try_terminals
returns-then-try_terminals t c = record {
  done = record {
    out = λ e. absurd (true_not_false e);
    stays = λ e. absurd (true_not_false e);
    past = past_then c.loop-x.invariant.0
        (past_then c.try_terminal.ensures.terminal_tried.past c.try_terminals.ensures.done.past);
  };
  mirrored_2 = c.try_terminals.ensures.mirrored_2;
}

pub loop-x-smaller : goal.loop-x-smaller
loop-x-smaller t c = omega (arith, c.loop-x-test.true)

pub loop-x-preserved : goal.loop-x-preserved
loop-x-preserved t c =
    let a = c.args in
    let far = c.if-j-b.false in
    let low : a.b ≤ a.j - 1 = omega (arith, far, c.requires.n_bound.1) in
    let h : a.j - 1 < a.n = omega (arith, far, c.requires.n_bound) in
    let l = c.loop-x in
    let m = c.with_terminal-m.ensures.0 in
    let r = c.try_terminal.ensures.terminal_tried in
    let q = c.try_terminals.ensures.done in (
      past_then l.invariant.0 (past_then r.past q.past),
      poised_back low h m (q.stays c.if-try_terminals.false),
      below_more low m (q.out c.if-try_terminals.false) l.invariant.2,
      omega (arith, c.loop-x-test.true),
      c.try_terminals.ensures.mirrored_2,
      search rules,
    )

pub bounds-table-128 : goal.bounds-table-128
bounds-table-128 t c = omega (arith, c.requires.tabled.long)

pub bounds-table-129 : goal.bounds-table-129
bounds-table-129 t c = omega (arith, c.requires.tabled.long)

pub put_leaf-requires : goal.put_leaf-requires
put_leaf-requires t c =
    let h : c.args.j - 1 < c.args.n = omega (arith, c.if-j-b.false, c.requires.n_bound) in record {
      n_bound = (omega (arith, c.requires.n_bound.0), h);
      n_in_bounds = omega (arith, c.loop-x.invariant.0.long, c.requires.n_in_bounds);
      mirrored = c.loop-x.invariant.4;
    }

pub shape_of-words : goal.shape_of-words
shape_of-words t c = c.put_leaf.ensures.wrote_pair.kept.long ∙ c.loop-x.invariant.0.long

pub returns : goal.returns
returns t c =
    let a = c.args in
    let l = c.loop-x in
    let e : l.x ≡ 64 = omega (arith, l.invariant.3, c.loop-x-test.false) in
    let below = subst (λ (x : ℕ). TerminalsTwinned (rules_of a.g) a.set a.n a.h a.b (a.j - 1) x
    (cells a.c 0 a.n)) e l.invariant.2 in record {
      done = done_full refl c.requires.n_bound.1 c.requires.n_bound.2 c.if-j-b.false l.invariant.0
          l.invariant.1 below c.put_leaf.ensures.wrote_pair c.requires.tabled.any;
      mirrored_2 = c.put_leaf.ensures.mirrored_2;
    }
