-- Few choices: what is kept of the sheet while the last token with several columns is narrowed.
use mathlib.Core.Path.{◌≡◌, sym, ap, ◌∙◌, subst}
use mathlib.Core.List.{List}
use Prim.Native.Nat.{ℕ, ◌+◌, ◌≤◌, ◌<◌}
use native.Mathlib.Omega.{arith}
use native.Mathlib.Decide.{dec_lt}
use lib.ListN.{length}
use Rattle.std.specs.Prelude.{Option, Some, None}
use Rattle.std.specs.Option.{unwrap_or}
use Rattle.grammar.specs.Trees.{Rules}
use Rattle.column_ranges.specs.declared.RangeSentence.{RangeSentence}
use Rattle.column_ranges.specs.Ranges.{Ranges}
use Rattle.column_ranges.specs.RangeSentences.{range, ranges_of, Spread}
use Rattle.narrowing.specs.Narrowing.{SinglesFrom, SinglesBefore, PicksFirst, Single, Narrows}
use Rattle.narrowing.proofs.Choices.{fixed_rest}
use Rattle.range_charts.specs.RangeCharts.{Behind}
use Rattle.range_charts.proofs.Unmoved.{solved_later, solved_unmoved}

-- before the first token with several columns, or before the end, each has one
pub first_before : {rs : Ranges} (o : Option ℕ) (n : ℕ) {q : ℕ} → PicksFirst rs o
    → q ≡ unwrap_or o n → SinglesBefore rs q
first_before {rs} (Some p) n f e = subst (SinglesBefore rs) (sym e) f.1
first_before None n f e = record { each = λ k h l. f.each k l }

-- a token with several columns is not before `from`
pub several_past : {rs : Ranges} {from t : ℕ} → SinglesBefore rs from → t < length rs
    → (range rs t).low.0 < (range rs t).high.0 → from ≤ t
several_past {rs} {from} {t} f h l = go (dec_lt t from)
  where
    go : Dec (t < from) → from ≤ t
    go (yes x) = absurd (omega (arith, f.each t x h))
    go (no x) = omega arith

module _ {r s : RangeSentence} {t c : ℕ} (p : Spread r) (q : Narrows r t c s) where
  -- the other tokens are as they were
  unmoved : (i : ℕ) → (i ≡ t → ⊥) → range (ranges_of s) i ≡ range (ranges_of r) i
  unmoved i d = ap (λ (x : Ranges). range x i) q.is
      ∙ fixed_rest (ranges_of r) t ((range (ranges_of r) t).low.0 + c) i d

  long : length (ranges_of s) ≡ length (ranges_of r)
  long = q.spread.whole ∙ q.count ∙ sym p.whole

  pub singles_narrowed : SinglesFrom (ranges_of r) (t + 1) → SinglesFrom (ranges_of s) (t + 1)
  singles_narrowed f = record {
    each = λ k h l. subst Single (sym (unmoved k (omega arith)))
        (f.each k h (omega (arith, long)));
  }

  module _ {from : ℕ} (before : from ≤ t) where
    pub before_narrowed : SinglesBefore (ranges_of r) from → SinglesBefore (ranges_of s) from
    before_narrowed f = record {
      each = λ k h l. subst Single (sym (unmoved k (omega arith)))
          (f.each k h (omega (arith, long)));
    }

    module _ {ws kept : List ℕ} {g : Rules} where
      pub behind_narrowed : Behind ws kept g (ranges_of r) r.count from (t + 1)
          → Behind ws kept g (ranges_of s) s.count from (t + 1)
      behind_narrowed b =
          subst (λ (n : ℕ). Behind ws kept g (ranges_of s) n from (t + 1)) (sym q.count)
          (record {
            beside = b.beside;
            solved = solved_unmoved (ranges_of r) (ranges_of s) p.whole
                (q.spread.whole ∙ q.count) (λ i h. unmoved i (omega arith))
                (λ i h. unmoved i (omega arith)) b.solved;
          })

      pub behind_widened : Behind ws kept g (ranges_of s) s.count from (t + 1)
          → Behind ws kept g (ranges_of r) r.count from (t + 1)
      behind_widened b' =
          let b = subst (λ (n : ℕ). Behind ws kept g (ranges_of s) n from (t + 1)) q.count b' in
          record {
            beside = b.beside;
            solved = solved_unmoved (ranges_of s) (ranges_of r) (q.spread.whole ∙ q.count)
                p.whole (λ i h. sym (unmoved i (omega arith)))
                (λ i h. sym (unmoved i (omega arith))) b.solved;
          }

pub behind_later : {ws kept : List ℕ} {g : Rules} {rs : Ranges} {n from a s : ℕ} → a ≤ s
    → Behind ws kept g rs n from a → Behind ws kept g rs n from s
behind_later h b = record { beside = b.beside; solved = solved_later h b.solved }
