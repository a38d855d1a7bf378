-- Rules left out change nothing: a pass over the others is a pass over all.
use mathlib.Core.Path.{◌≡◌, refl, sym, ap, ◌∙◌, subst}
use Prim.Native.Nat.{ℕ, ◌+◌, ◌≤◌, ◌<◌}
use native.Mathlib.Omega.{arith}
use native.Mathlib.Decide.{dec_lt}
use lib.ListN.{length, set, take}
use lib.Seq.{get_or-set_same, get_or-set_other, get_or-take}
use Rattle.grammar.proofs.Lists.{every_at}
use Rattle.grammar.specs.declared.Rule.{Rule}
use Rattle.grammar.specs.declared.Clause.{Clause}
use Rattle.grammar.specs.declared.Grammar.{Grammar}
use Rattle.grammar.specs.Trees.{Rules}
use Rattle.grammar.specs.Content.{rules_of, SmallRule, Formed}
use Rattle.marks.specs.declared.SpanMarks.{SpanMarks}
use Rattle.tables.specs.Tables.{no_rule, rule}
use Rattle.joins.specs.declared.Tally.{Tally}
use Rattle.joins.specs.Passes.{fell, both, WholeSide, Pass, pass_none, pass_more, Passes}
use Rattle.joins.specs.Passes.{passes_none, passes_more, Saturated}
use Rattle.joins.proofs.PassLaws.{pass_within}
use Rattle.links.specs.LinkRules.{Ruled, Idle, Thinned, thin_none, thin_keep, thin_drop}

-- a grammar that is read
pub formed_ruled : {g : Grammar} → Formed g → Ruled g
formed_ruled {g} f = record {
  few = f.few;
  whole = f.whole;
  small = λ i h. every_at SmallRule no_rule (rules_of g) f.small i (omega (arith, f.whole));
}

-- ---- picking them out

-- a rule stored past them
pub thin_set : {one : ℕ} {g w : Rules} {i m : ℕ} (q : ℕ) (r : Rule) → m ≤ q → Thinned one g w i m
    → Thinned one g (set w q r) i m
thin_set q r h thin_none = thin_none
thin_set {w = w} q r h (thin_keep {i = i} {m = m} t e) =
    thin_keep (thin_set q r (omega arith) t) (get_or-set_other w q m r no_rule (omega arith) ∙ e)
thin_set q r h (thin_drop t e) = thin_drop (thin_set q r h t) e

pub thin_more : {one : ℕ} {g w : Rules} {i m : ℕ} (r : Rule) → r ≡ rule g i → m < length w
    → Thinned one g w i m → Thinned one g (set w m r) (i + 1) (m + 1)
thin_more {w = w} {m = m} r e h t =
    thin_keep (thin_set m r (omega arith) t) (get_or-set_same w m r no_rule h ∙ e)

-- what stands past them is cut off
pub thin_take : {one : ℕ} {g w : Rules} {i m : ℕ} (n : ℕ) → m ≤ n → Thinned one g w i m
    → Thinned one g (take n w) i m
thin_take n h thin_none = thin_none
thin_take {w = w} n h (thin_keep {m = m} t e) =
    thin_keep (thin_take n (omega arith) t) (get_or-take n w m no_rule (omega arith) ∙ e)
thin_take n h (thin_drop t e) = thin_drop (thin_take n h t) e

pub thin_le : {one : ℕ} {g w : Rules} {i m : ℕ} → Thinned one g w i m → m ≤ i
thin_le thin_none = omega arith
thin_le (thin_keep t e) = let x = thin_le t in omega arith
thin_le (thin_drop t e) = let x = thin_le t in omega arith

-- each of them is a rule of g
pub thin_from : {one : ℕ} {g w : Rules} {i m : ℕ} (P : Rule → Type 0)
    → ((j : ℕ) → j < i → P (rule g j)) → Thinned one g w i m → (j : ℕ) → j < m → P (rule w j)
thin_from P f thin_none j h = absurd (omega arith)
thin_from {g = g} {w = w} P f (thin_keep {i = i} {m = m} t e) j h = let f' : (x : ℕ) → x < i
    → P (rule g x) = λ x y. f x (omega arith) in go (λ x. thin_from P f' t j x) (dec_lt j m)
  where
    go : (j < m → P (rule w j)) → Dec (j < m) → P (rule w j)
    go r (yes l) = r l
    go r (no l) = subst (λ (x : ℕ). P (rule w x)) (let z : m ≡ j = omega arith in z)
        (subst P (sym e) (f i (omega arith)))
thin_from {g = g} P f (thin_drop {i = i} t e) j h = let f' : (x : ℕ) → x < i → P (rule g x) =
    λ x y. f x (omega arith) in thin_from P f' t j h

-- ---- passes

module _ (one two : ℕ) (k : SpanMarks) (len : ℕ) (pos : 0 < len) where
  one_sided_wide : (a : ℕ) (c : Clause) (t : Tally) → Idle one c → WholeSide one two k len a c t t
  one_sided_wide a Clause.Empty t d = refl
  one_sided_wide a (Clause.Atom b e) t d = refl
  one_sided_wide a (Clause.Unary B m) t d = absurd d
  one_sided_wide a (Clause.Binary B C m) t d =
      both pos t (fell (λ q. d.0 q.0) refl) (fell (λ q. d.1 q.1) refl)

  module _ (g w : Rules) (t : Tally) where
    -- a pass over the rules of w from m on is one over the rules of g from i on
    abbrev Lifts : ℕ → ℕ → Type 0
    Lifts i m = (u : Tally) → Pass one two k len w t m u → Pass one two k len g t i u

    lift_end : Lifts (length g) (length w)
    lift_end u p = go (length w) u refl p
      where
        go : (m : ℕ) (u : Tally) → m ≡ length w → Pass one two k len w t m u
            → Pass one two k len g t (length g) u
        go m u e pass_none = pass_none
        go m u e (pass_more q x) = absurd (let y = pass_within q in omega arith)

    lift_keep : (i m : ℕ) → rule w m ≡ rule g i → m < length w → Lifts (i + 1) (m + 1) → Lifts i m
    lift_keep i m e h f u p = go m u refl p
      where
        go : (x : ℕ) (u : Tally) → x ≡ m → Pass one two k len w t x u → Pass one two k len g t i u
        go x u z pass_none = absurd (omega arith)
        go x u z (pass_more {u = v} q y) =
            pass_more (f v (subst (λ (d : ℕ). Pass one two k len w t (d + 1) v) z q))
            (subst (λ (r : Rule). WholeSide one two k len r.left r.clause v u)
            (ap (λ (d : ℕ). rule w d) z ∙ e) y)

    lift_drop : (i m : ℕ) → Idle one (rule g i).clause → Lifts (i + 1) m → Lifts i m
    lift_drop i m d f u p =
        pass_more (f u p) (one_sided_wide (rule g i).left (rule g i).clause u d)

    lifts : {i m : ℕ} → Thinned one g w i m → m ≤ length w → Lifts i m → Lifts 0 0
    lifts thin_none h f = f
    lifts (thin_keep {i = i} {m = m} c e) h f =
        lifts c (omega arith) (lift_keep i m e (omega arith) f)
    lifts (thin_drop {i = i} {m = m} c e) h f = lifts c h (lift_drop i m e f)

    pub pass_all : Thinned one g w (length g) (length w) → (u : Tally) → Pass one two k len w t 0 u
        → Pass one two k len g t 0 u
    pass_all c = lifts c (omega arith) lift_end

  pub saturated_all : {g w : Rules} {b t : Tally} → Thinned one g w (length g) (length w)
      → Saturated one two k len w b t → Saturated one two k len g b t
  saturated_all {g} {w} {b} {t} c s = record {
    passes = go s.passes;
    last = s.last;
    passed = pass_all g w
        (record { seen = b.seen; one = t.one; two = t.two }) c s.last s.passed;
    same_one = s.same_one;
    same_two = s.same_two;
  }
    where
      go : {t : Tally} → Passes one two k len w b t → Passes one two k len g b t
      go passes_none = passes_none
      go (passes_more {t = t} {u = u} q p) = passes_more (go q)
          (pass_all g w (record { seen = b.seen; one = t.one; two = t.two }) c u p)
