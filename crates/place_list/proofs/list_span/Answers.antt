use mathlib.Core.Path.{◌≡◌, sym, subst}
use Prim.Native.Nat.{ℕ, ◌+◌, ◌≤◌, ◌<◌}
use native.Mathlib.Omega.{arith}
use mathlib.Core.List.{List}
use lib.ListN.{length, get_or}
use Rattle.sets.specs.Sets.{In}
use Rattle.grammar.specs.declared.Grammar.{Grammar}
use Rattle.grammar.specs.declared.Sentence.{Sentence}
use Rattle.grammar.specs.Content.{rules_of}
use Rattle.grammar.specs.Sentences.{spelled}
use Rattle.grammar.specs.Rows.{start_of}
use Rattle.places.specs.Places.{Place}
use Rattle.place_list.specs.Scene.{Scene}
use Rattle.grammar.specs.SpanSheet.{pairs, pair_at}
use Rattle.spans.proofs.Places.{pair_at_below, pairs_few}
use Rattle.place_list.specs.Steps.{entry}
use Rattle.place_list.proofs.ListLaws.{lists_none, lists_then, lists_skip}
use Rattle.place_list.proofs.BitLaws.{bit_place, place_bit}
use Rattle.place_list.proofs.list_span.Goals as goal

-- the span's word is there
room : {g : Grammar} {s : Sentence} {ps : List ℕ} → Scene g s ps → (start len : ℕ)
    → start + len ≤ s.count → pair_at s.count start len < length ps
room {g} {s} {ps} r start len h =
    let e = subst (λ (x : ℕ). pairs x ≤ length ps) r.positioned.whole r.places.enough in
    omega (arith, pair_at_below s.count start len h, e)

-- and says where places are
module _ (g : Grammar) (s : Sentence) (ps : List ℕ) (r : Scene g s ps) (start len : ℕ)
    (h : start + len ≤ s.count) (f : start_of start len ≡ start) (p : ℕ)
    (e : p ≡ pair_at s.count start len) (a : ℕ) where
  is_place : In (get_or ps p 0) a → Place (rules_of g) (spelled s) a start len
  is_place b =
      bit_place (rules_of g) (spelled s) ps s.count r.positioned.whole r.places a start len h f
      (subst (λ (q : ℕ). In (get_or ps q 0) a) e b)

  no_place : (In (get_or ps p 0) a → ⊥) → Place (rules_of g) (spelled s) a start len → ⊥
  no_place n x =
      n (subst (λ (q : ℕ). In (get_or ps q 0) a) (sym e)
      (place_bit (rules_of g) (spelled s) ps s.count r.positioned.whole r.places a start len h f x))

pub pair_at-p-requires : goal.pair_at-p-requires
pair_at-p-requires c = (c.requires.scene.positioned.few, c.requires.len_bound.0)

pub offset_bounds-parts-p : goal.offset_bounds-parts-p
offset_bounds-parts-p c =
    let n = c.args.s.count in
    omega (
      arith,
      c.pair_at-p.ensures,
      pairs_few n c.requires.scene.positioned.few,
      pair_at_below n c.args.start c.args.len c.requires.len_bound.0,
    )

pub bounds-parts-p : goal.bounds-parts-p
bounds-parts-p c =
    omega (
      arith,
      room c.requires.scene c.args.start c.args.len c.requires.len_bound.0,
      c.pair_at-p.ensures,
    )

pub loop-a-init : goal.loop-a-init
loop-a-init c = (omega arith, lists_none (entry 0 c.args.start c.args.len) c.requires.count_le_at)

pub loop-a-preserved-then-not-has : goal.loop-a-preserved-then-not-has
loop-a-preserved-then-not-has c =
    let l = c.loop-a in
    let n = c.has.ensures.isnt c.if-not-has.true in (
      omega (arith, c.loop-a-test.true),
      lists_then l.invariant.1
          (lists_skip l.a c.args.start c.args.len l.invariant.1.few
          (no_place c.args.g c.args.s c.args.parts.now c.requires.scene c.args.start c.args.len
          c.requires.len_bound.0 c.requires.len_bound.1 c.pair_at-p.result
          c.pair_at-p.ensures l.a n)),
    )

pub list_one-k-requires : goal.list_one-k-requires
list_one-k-requires c =
    let l = c.loop-a in
    let b = c.has.ensures.is c.if-not-has.false in record {
      place = (
        is_place c.args.g c.args.s c.args.parts.now c.requires.scene c.args.start c.args.len
            c.requires.len_bound.0 c.requires.len_bound.1 c.pair_at-p.result
            c.pair_at-p.ensures l.a b,
        omega (arith, c.requires.len_bound.0, c.requires.scene.positioned.few),
      );
      count_le_at = l.invariant.1.few;
    }

pub loop-a-preserved : goal.loop-a-preserved
loop-a-preserved c = (
  omega (arith, c.loop-a-test.true),
  lists_then c.loop-a.invariant.1
      c.list_one-k.ensures,
)

pub shape_of-list : goal.shape_of-list
shape_of-list c = c.loop-a.invariant.1.long

pub returns : goal.returns
returns c =
    let l = c.loop-a in
    let e : l.a ≡ 64 = omega (arith, c.loop-a-test.false, l.invariant.0) in
    rw e at l.invariant.1
