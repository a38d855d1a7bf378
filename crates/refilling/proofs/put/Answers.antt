use native.Mathlib.Omega.{arith}
use mathlib.Core.Path.{◌≡◌, sym, ap, subst}
use Prim.Native.Nat.{ℕ, ◌+◌, ◌*◌, ◌<◌}
use lib.ListN.{length, get_or}
use Rattle.grammar.specs.SpanSheet.{first_word, second_word}
use Rattle.spans.specs.Changes.{WrotePair}
use Rattle.spans.proofs.Places.{pair_at_below}
use Rattle.cuts.specs.declared.Pair.{Pair}
use Rattle.refilling.proofs.KeptLaws.{row_has, column_has, mirror_put, put_same}
use Rattle.refilling.proofs.KeptLaws.{prepared_same}
use Rattle.refilling.proofs.put.Lts
use Rattle.refilling.proofs.put.Reads
use Rattle.refilling.proofs.put.Tie
use Rattle.refilling.proofs.put.Goals as goal

inside : (c : Lts.After-pair_at Tie.the-claims Reads.Pre Reads.Post Tie.handed_clauses)
    → 2 * c.pair_at-q.result + 1 < length c.args.words.now
inside c = omega (
  arith,
  c.requires.n_bound.1.enough,
  c.pair_at-q.ensures,
  pair_at_below c.args.n c.args.start c.args.len c.requires.n_bound.1.fits,
)

-- the pair as it was
abbrev was : (c : Lts.After-pair_at Tie.the-claims Reads.Pre Reads.Post Tie.handed_clauses) → Pair
was c = record {
  one = get_or c.args.words.now (2 * c.pair_at-q.result) 0;
  two = get_or c.args.words.now (2 * c.pair_at-q.result + 1) 0;
}

first : (c : Lts.After-pair_at Tie.the-claims Reads.Pre Reads.Post Tie.handed_clauses) → let a =
    c.args in
    first_word a.words.now a.n a.start a.len
    ≡ get_or a.words.now (2 * c.pair_at-q.result) 0
first c = ap (λ (x : ℕ). get_or c.args.words.now (2 * x) 0)
    (sym c.pair_at-q.ensures)

second : (c : Lts.After-pair_at Tie.the-claims Reads.Pre Reads.Post Tie.handed_clauses) → let a =
    c.args in
    second_word a.words.now a.n a.start a.len
    ≡ get_or a.words.now (2 * c.pair_at-q.result + 1) 0
second c = ap (λ (x : ℕ). get_or c.args.words.now (2 * x + 1) 0)
    (sym c.pair_at-q.ensures)

pub overflow_mul-at : goal.overflow_mul-at
overflow_mul-at c = omega (arith, inside c.before, c.well_formed.0.1)

pub offset_bounds-words-at : goal.offset_bounds-words-at
offset_bounds-words-at c = omega (arith, inside c.before, c.well_formed.0.1)

pub bounds-words-at : goal.bounds-words-at
bounds-words-at c = omega (arith, inside c.before.before)

pub overflow_add-old : goal.overflow_add-old
overflow_add-old c = omega (arith, inside c.before.before, c.well_formed.0.1)

pub offset_bounds-words-at-2 : goal.offset_bounds-words-at-2
offset_bounds-words-at-2 c = omega (arith, inside c.before.before, c.well_formed.0.1)

pub bounds-words-at-2 : goal.bounds-words-at-2
bounds-words-at-2 c = omega (arith, inside c.before.before.before)

pub turn_row-requires : goal.turn_row-requires
turn_row-requires c =
    let a = c.args in
    let fit = c.requires.n_bound.1.fits in record {
      p_in_bounds = omega (arith, fit, c.requires.n_bound.2, c.requires.mirrored.mirror.long);
      has_bits = row_has a.start a.len c.requires.n_bound.0 fit c.requires.n_bound.2
          c.requires.mirrored.mirror (was c.before.before.before.before)
          (first c.before.before.before.before) (second c.before.before.before.before);
    }

pub turn_pair-requires : goal.turn_pair-requires
turn_pair-requires c = let a = c.args in
    let t = c.turn_row.ensures in record {
      c_bound = (
        omega (arith, c.requires.n_bound.0, c.requires.n_bound.1.fits, c.requires.n_bound.2),
        omega (arith, c.requires.n_bound.1.fits, t.size, c.requires.mirrored.mirror.long),
      );
      has_bits = column_has a.start a.len c.requires.n_bound.0 c.requires.n_bound.1.fits
          c.requires.n_bound.2
          c.requires.mirrored.mirror (was c.before.before.before.before.before.before.before.before)
          t (first c.before.before.before.before.before.before.before.before)
          (second c.before.before.before.before.before.before.before.before);
    }

pub write-requires : goal.write-requires
write-requires c = omega (
  arith,
  inside
      c.before.before.before.before.before.before.before.before.before.before.before.before,
)

pub returns : goal.returns
returns c = let a = c.args in
    let t = a.t in
    let w = subst (λ (x : ℕ). WrotePair a.words.now c.write.new.words x
    t.one t.two) c.pair_at-q.ensures
    c.write.ensures in
    let r = c.turn_row.ensures in
    let q = c.turn_pair.ensures in
    let p = put_same a.start a.len c.requires.n_bound.0 c.requires.n_bound.1.fits
    c.requires.n_bound.2
    c.requires.mirrored.mirror t w r q in record {
      wrote_pair = w;
      mirrored_2 = record {
        prepared = prepared_same p c.requires.mirrored.prepared;
        mirror = mirror_put a.start a.len c.requires.n_bound.0 c.requires.n_bound.1.fits
            c.requires.n_bound.2
            c.requires.mirrored.mirror t w r q;
      };
      same_rules = p;
    }
