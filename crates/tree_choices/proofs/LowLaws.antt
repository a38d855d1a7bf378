-- The search for the earliest choice of the least height, by the least heights of all spans.
use mathlib.Core.Path.{◌≡◌, refl, sym, ap, ◌∙◌, subst}
use mathlib.Core.Bool.{Bool, false}
use mathlib.Core.List.{List}
use mathlib.Core.Logic.{◌⊎◌, inl, inr, ⊎_elim}
use mathlib.Core.Option.{some}
use Prim.Native.Nat.{ℕ, suc, ◌+◌, ◌-◌, ◌*◌, ◌≤◌, ◌<◌}
use native.Mathlib.Omega.{arith}
use native.Mathlib.Decide.{ℕ_discrete, dec_lt}
use lib.ListN.{length, get_elem?}
use Rattle.grammar.specs.declared.Rule.{Rule}
use Rattle.grammar.specs.declared.Grammar.{Grammar}
use Rattle.grammar.specs.declared.Clause.{Clause}
use Rattle.grammar.specs.Layout.{Word}
use Rattle.grammar.specs.Trees.{Tree, empty, leaf, unary, binary, root, word, Rules, Valid}
use Rattle.grammar.specs.Trees.{valid_empty, valid_leaf, valid_unary, valid_binary, Witness}
use Rattle.grammar.specs.Choices.{Top, Choice, ChoiceBefore, Same, height, GivesHeight, LowChoice}
use Rattle.grammar.specs.Content.{rules_of, SmallClause, SmallRule, Formed}
use Rattle.grammar.specs.SpanSheet.{part}
use Rattle.grammar.proofs.Lists.{mem_every}
use Rattle.grammar.proofs.ChoiceLaws.{takes_of, member_at}
use Rattle.marks.proofs.Words.{cut}
use Rattle.choices.specs.Choosing.{NextAt, NoneFrom}
use Rattle.rows.specs.declared.Step.{Step}
use Rattle.rows.specs.Steps.{clause_kind, step_of_clause, KidsSmall, LeftWithin}
use Rattle.heights.specs.Least.{LeastHeight, number_at, HeightSheet}
use Rattle.tree_choices.specs.Picks.{HasChoice}
use Rattle.tree_choices.specs.Lows.{height_by}
use Rattle.tree_choices.proofs.Pending.{kind_at, node_shape, shape_of}
use Rattle.tree_choices.proofs.PickLaws.{choice_within}

-- how high the top of t stands over children as low as can be
abbrev pub high_of : List ℕ → ℕ → Tree → ℕ → ℕ → ℕ
high_of hs n t s len = height_by hs n (kind_at t) s len

-- the choices before (p, k) are higher than the least height
pub record Higher (g : Rules) (w : Word) (hs : List ℕ) (A s len p k : ℕ) : Type 0 where
  pub each : (q l : ℕ) (c : Choice g A (part w s len) q l) → ChoiceBefore q l p k
      → number_at hs (length w) s len A < high_of hs (length w) c.tree s len

module _ {g : Rules} {w : Word} {hs : List ℕ} (sheet : HeightSheet g w hs) where
  least_of : {t : Tree} → Valid g t → (s len : ℕ) → s + len ≤ length w → word t ≡ part w s len
      → LeastHeight g (root t) (part w s len) (number_at hs (length w) s len (root t))
  least_of {t} v s len b e = sheet.least s len (root t) b
      (record { tree = t; witness = record { rooted = refl; spelled = e; valid = v } })

  -- any tree is at least so high
  high_le : {t : Tree} → Valid g t → (s len : ℕ) → s + len ≤ length w → word t ≡ part w s len
      → high_of hs (length w) t s len ≤ height t
  high_le (valid_empty h) s len b e = omega arith
  high_le (valid_leaf h) s len b e = omega arith
  high_le (valid_unary {t = t} m h x v) s len b e = omega
      (arith, (least_of v s len b e).lowest t (record { rooted = refl; spelled = e; valid = v }))
  high_le (valid_binary {s = u} {t = o} m h x v v') s len b e =
      let z = cut w (word u) (word o) s len b e in
      let f = z.fits in
      let fl : s + length (word u) ≤ length w = omega arith in
      let fr : s + length (word u) + (len - length (word u)) ≤ length w = omega arith in
      let a = (least_of v s (length (word u)) fl z.front).lowest u
      (record { rooted = refl; spelled = z.front; valid = v }) in
      let c = (least_of v' (s + length (word u)) (len - length (word u)) fr z.rest).lowest o
      (record { rooted = refl; spelled = z.rest; valid = v' }) in
      omega arith

  -- and one with the same top is just so high
  low_top : {t : Tree} → Valid g t → (s len : ℕ) → s + len ≤ length w → word t ≡ part w s len
      → (u : Tree) × (root u ≡ root t) × (word u ≡ word t) × Valid g u
      × ((r : Rule) (k : ℕ) → Top r k t → Top r k u) × (height u ≡ high_of hs (length w) t s len)
  low_top (valid_empty {A = A} h) s len b e = (empty A, refl, refl, valid_empty h, λ r k y. y, refl)
  low_top (valid_leaf {A = A} {t = t} h) s len b e =
      (leaf A t, refl, refl, valid_leaf h, λ r k y. y, refl)
  low_top (valid_unary {A = A} {t = t} m h x v) s len b e =
      let d = least_of v s len b e in
      let r = d.witness.rooted in
      let q : word d.tree ≡ word t = d.witness.spelled ∙ sym e in (
        unary A d.tree,
        refl,
        q,
        valid_unary {A = A} {t = d.tree} m (rw r h) (rw q x) d.witness.valid,
        λ y k z. (z.0, rw r z.1, z.2, rw q z.3),
        ap suc d.high,
      )
  low_top (valid_binary {A = A} {s = u} {t = o} m h x v v') s len b e =
      let z = cut w (word u) (word o) s len b e in
      let f = z.fits in
      let fl : s + length (word u) ≤ length w = omega arith in
      let fr : s + length (word u) + (len - length (word u)) ≤ length w = omega arith in
      let d = least_of v s (length (word u)) fl z.front in
      let d' = least_of v' (s + length (word u)) (len - length (word u)) fr z.rest in
      let r = d.witness.rooted in
      let r' = d'.witness.rooted in
      let q : word d.tree ≡ word u = d.witness.spelled ∙ sym z.front in
      let q' : word d'.tree ≡ word o = d'.witness.spelled ∙ sym z.rest in (
        binary A d.tree d'.tree,
        refl,
        rw (q, q') refl,
        valid_binary {A = A} {s = d.tree} {t = d'.tree} m (rw (r, r') h) (rw (q, q') x)
            d.witness.valid d'.witness.valid,
        λ y k j. (j.0, rw (r, r') j.1, rw q j.2, rw (q, q') j.3),
        rw (d.high, d'.high) refl,
      )

  module _ (A s len : ℕ) (b : s + len ≤ length w) where
    pub higher_none : Higher g w hs A s len 0 0
    higher_none =
        record { each = λ q l c h. absurd (⊎_elim (λ x. omega arith) (λ x. omega (arith, x.1)) h) }

    -- what the rule at its place says of a choice's tree
    pub high_by : (q l : ℕ) (c : Choice g A (part w s len) q l) (r : Rule) → get_elem? g q ≡ some r
        → (m : Bool) (st : Step) → st ≡ step_of_clause r.clause l m
        → height_by hs (length w) st.kind s len ≡ high_of hs (length w) c.tree s len
    high_by q l c r e m st h =
        let x = c.takes.stands in
        let y : r ≡ c.takes.rule = cc in
        let z : st ≡ node_shape m c.tree = h ∙ ap (λ (v : Rule). step_of_clause v.clause l m) y
        ∙ shape_of c.tree c.takes.rule l m c.takes.top in
        ap (λ (v : Step). height_by hs (length w) v.kind s len) z

    -- two trees of one choice stand equally high
    high_same : (q l : ℕ) (c d : Choice g A (part w s len) q l)
        → high_of hs (length w) c.tree s len ≡ high_of hs (length w) d.tree s len
    high_same q l c d = sym (high_by q l c d.takes.rule d.takes.stands false _ refl)
        ∙ high_by q l d d.takes.rule d.takes.stands false _ refl

    before_next : (i j q l : ℕ) → ChoiceBefore i j q (l + 1) → ChoiceBefore i j q l ⊎ Same i j q l
    before_next i j q l (inl x) = inl (inl x)
    before_next i j q l (inr x) = go (ℕ_discrete j l)
      where
        go : Dec (j ≡ l) → ChoiceBefore i j q l ⊎ Same i j q l
        go (yes e) = inr (x.0, e)
        go (no e) = inl (inr (x.0, omega (arith, x.1)))

    before? : (i j p k : ℕ) → Dec (ChoiceBefore i j p k)
    before? i j p k = go (dec_lt i p) (ℕ_discrete i p) (dec_lt j k)
      where
        go : Dec (i < p) → Dec (i ≡ p) → Dec (j < k) → Dec (ChoiceBefore i j p k)
        go (yes x) y z = yes (inl x)
        go (no x) (yes y) (yes z) = yes (inr (y, z))
        go (no x) (yes y) (no z) = no (⊎_elim x (λ u. z u.1))
        go (no x) (no y) z = no (⊎_elim x (λ u. y u.0))

    -- the next choice is higher too
    pub higher_next : (p k q l : ℕ) → Higher g w hs A s len p k
        → (x : NextAt g A (part w s len) p k q l)
        → number_at hs (length w) s len A < high_of hs (length w) x.choice.tree s len
        → Higher g w hs A s len q (l + 1)
    higher_next p k q l h x y = record {
      each = λ i j c z. ⊎_elim (λ u. early i j c u (before? i j p k)) (λ u. late i j c u)
          (before_next i j q l z);
    }
      where
        early : (i j : ℕ) (c : Choice g A (part w s len) i j) → ChoiceBefore i j q l
            → Dec (ChoiceBefore i j p k) → number_at hs (length w) s len A
            < high_of hs (length w) c.tree s len
        early i j c u (yes v) = h.each i j c v
        early i j c u (no v) = absurd (x.least i j c v u)

        late : (i j : ℕ) (c : Choice g A (part w s len) i j) → Same i j q l
            → number_at hs (length w) s len A < high_of hs (length w) c.tree s len
        late i j c u =
            let c' : Choice g A (part w s len) q l = rw (u.0, u.1) at c in
            omega (arith, tree_same i j c u, high_same q l c' x.choice)
          where
            tree_same : (i j : ℕ) (c : Choice g A (part w s len) i j) (u : Same i j q l)
                → high_of hs (length w) c.tree s len ≡ high_of hs (length w)
                (let c' : Choice g A (part w s len) q l = rw (u.0, u.1) at c in c').tree s
                len
            tree_same i j c u = refl

    -- a choice that is as low as can be, and none before it
    pub low_found : (p k q l : ℕ) → Higher g w hs A s len p k
        → (x : NextAt g A (part w s len) p k q l)
        → high_of hs (length w) x.choice.tree s len ≤ number_at hs (length w) s len A
        → LowChoice g A (part w s len) q l
    low_found p k q l h x y =
        let c = x.choice in
        let e : word c.tree ≡ part w s len = c.witness.spelled in
        let d = sheet.least s len A b (record { tree = c.tree; witness = c.witness }) in
        let t = low_top c.witness.valid s len b e in
        let wt : Witness g A (part w s len) t.0 =
        record { rooted = t.1 ∙ c.witness.rooted; spelled = t.2 ∙ e; valid = t.3 } in
        record {
          least = number_at hs (length w) s len A;
          gives =
              record {
                tree = t.0;
                witness = wt;
                takes = record {
                  rule = c.takes.rule;
                  stands = c.takes.stands;
                  top = t.4
                      c.takes.rule l c.takes.top;
                };
                high = omega (arith, t.5, d.lowest t.0 wt);
              };
          lowest = d.lowest;
          earliest = λ i j z u. first i j z u (before? i j p k);
        }
      where
        first : (i j : ℕ) (z : GivesHeight g A (part w s len) i j (number_at hs (length w) s len A))
            → ChoiceBefore i j q l → Dec (ChoiceBefore i j p k) → ⊥
        first i j z u (yes v) =
            omega (
              arith,
              h.each i j (record
                  { tree = z.tree; witness = z.witness; takes = z.takes }) v,
              high_le
                  z.witness.valid s len b z.witness.spelled,
              z.high,
            )
        first i j z u (no v) =
            x.least i j (record { tree = z.tree; witness = z.witness; takes = z.takes }) v u

    -- there is one
    pub low_there : (p k : ℕ) → HasChoice g A (part w s len) → Higher g w hs A s len p k
        → NoneFrom g A (part w s len) p k → ⊥
    low_there p k c h x =
        let d = sheet.least s len A b (record { tree = c.2.tree; witness = c.2.witness }) in
        let y = takes_of d.witness.valid in
        let z : Choice g A (part w s len) y.0 y.1 =
        record { tree = d.tree; witness = d.witness; takes = y.2 } in
        omega (
          arith,
          h.each y.0 y.1 z (x.early y.0 y.1 z),
          high_le
              d.witness.valid s len b d.witness.spelled,
          d.high,
        )

    -- one step of the search
    pub low_step : (n : ℕ) → length w ≡ n → (p k q l : ℕ) → Higher g w hs A s len p k
        → (x : NextAt g A (part w s len) p k q l) (st : Step)
        → st ≡ step_of_clause x.choice.takes.rule.clause l false → (h m : ℕ)
        → h ≡ height_by hs n st.kind s len
        → m ≡ number_at hs n s len A → (h ≤ m → LowChoice g A (part w s len) q l)
        × ((h ≤ m → ⊥) → Higher g w hs A s len q (l + 1))
    low_step n e p k q l y x st z h m u v =
        let u' : h ≡ high_of hs (length w) x.choice.tree s len =
        subst (λ (j : ℕ). h ≡ height_by hs j st.kind s len)
        (sym e) u
        ∙ high_by q l x.choice x.choice.takes.rule x.choice.takes.stands false st z in
        let v' : m ≡ number_at hs (length w) s len A =
        subst (λ (j : ℕ). m ≡ number_at hs j s len A) (sym e) v in
        (λ a. low_found p k q l y x (omega arith), λ a. higher_next p k q l y x (omega arith))

-- the children that a choice's step names are in reach
kind_small : (c : Clause) (k n : ℕ) → SmallClause c → k ≤ n
    → KidsSmall (clause_kind c k) × LeftWithin (clause_kind c k) n
kind_small Clause.Empty k n s h = (tt, tt)
kind_small (Clause.Atom a b) k n s h = (tt, tt)
kind_small (Clause.Unary B u) k n s h = (s, tt)
kind_small (Clause.Binary B C u) k n s h = (s, h)

pub step_inside : {g : Grammar} → Formed g
    → (w : Word) (A i n q l : ℕ) (c : Choice (rules_of g) A (part w i n) q l) (st : Step)
    → st ≡ step_of_clause c.takes.rule.clause l false
    → KidsSmall st.kind × LeftWithin st.kind n
step_inside {g} f w A i n q l c st e =
    let r = mem_every SmallRule (rules_of g) f.small (member_at (rules_of g) q c.takes.stands) in
    let y = choice_within f w A i n q l c in
    subst (λ (z : Step). KidsSmall z.kind × LeftWithin z.kind n) (sym e)
    (kind_small c.takes.rule.clause l n r.clause y.1)

-- the search goes on
pub rank : ℕ → ℕ → ℕ
rank p k = (128 - p) * 66 + (66 - k)

pub rank_less : (p k q l : ℕ) → p ≤ 128 → k ≤ 65 → q < 128 → l ≤ 64 → (ChoiceBefore q l p k → ⊥)
    → rank q (l + 1) < rank p k
unfolding rank
rank_less p k q l a b c d h = go (dec_lt p q) (ℕ_discrete p q) (dec_lt l k)
  where
    go : Dec (p < q) → Dec (p ≡ q) → Dec (l < k)
        → (128 - q) * 66 + (66 - (l + 1)) < (128 - p) * 66 + (66 - k)
    go (yes x) y z = omega arith
    go (no x) (yes y) (yes z) = absurd (h (inr (sym y, z)))
    go (no x) (yes y) (no z) = omega arith
    go (no x) (no y) z = absurd (h (inl (omega arith)))
