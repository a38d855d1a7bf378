use mathlib.Core.Path.{◌≡◌, refl, sym, ◌∙◌, subst}
use Prim.Native.Nat.{ℕ}
use native.Mathlib.Omega.{arith}
use Rattle.grammar.specs.Content.{rules_of}
use Rattle.marks.specs.Drafts.{drafted}
use Rattle.contained_spans.specs.Spreading.{Done}
use Rattle.contained_spans.proofs.DoneLaws.{span_wide, done_last}
use Rattle.contained_spans.proofs.spread_all.Goals as goal

pub loop-start-init : goal.loop-start-init
loop-start-init c =
    (omega arith, c.requires.columns.0, c.requires.columns.1, c.requires.done, refl, refl)

pub spread_start-requires : goal.spread_start-requires
spread_start-requires c =
    let l = c.loop-start in record {
      known = c.requires.known;
      start_lt_count = (c.loop-start-test.true, l.invariant.1);
      seen_columns = l.invariant.2;
      done = l.invariant.3;
    }

pub loop-start-preserved : goal.loop-start-preserved
loop-start-preserved c =
    let l = c.loop-start in
    let x = c.spread_start in (
      omega (
        arith,
        c.loop-start-test.true,
      ),
      x.ensures.columns,
      x.ensures.seen,
      x.ensures.done,
      x.auto.reach ∙ l.invariant.4,
      x.auto.parts ∙ l.invariant.5,
    )

pub spread_span-requires : goal.spread_span-requires
spread_span-requires c =
    let l = c.loop-start in
    let k = c.requires.known.0.few in record {
      known = c.requires.known;
      space = (
        record { few = k; fits = omega arith; enough = l.invariant.3.long },
        record { few = k; fits = omega arith; enough = l.invariant.3.wide },
      );
      ready = record {
        long = l.invariant.2.long;
        table = λ p. absurd (omega arith);
        seen = λ p. absurd (omega arith);
      };
    }

pub shape_of-cuts : goal.shape_of-cuts
shape_of-cuts c = c.loop-start.invariant.1.long ∙ sym
    c.requires.columns.0.long

pub shape_of-seen : goal.shape_of-seen
shape_of-seen c = c.spread_span.ensures.long
    ∙ sym c.requires.columns.1.long

pub shape_of-reach : goal.shape_of-reach
shape_of-reach c = c.spread_span.ensures.spreads.long ∙ c.loop-start.invariant.4

pub shape_of-parts : goal.shape_of-parts
shape_of-parts c =
    span_wide c.spread_span.ensures
    ∙ c.loop-start.invariant.5

pub returns : goal.returns
returns c =
    let a = c.args in
    let l = c.loop-start in
    let e : l.start ≡ a.d.count = omega (
      arith,
      l.invariant.0,
      c.loop-start-test.false,
    ) in
    done_last _ _ _ _ _ _ _ _ _ _ (omega arith) l.invariant.3.wide
    c.spread_span.ensures refl
    refl (subst (λ (s : ℕ). Done (rules_of a.g) (drafted a.d) a.d.count s a.d.count
    l.reach l.parts) e l.invariant.3)
