-- What is looked for is found: what a rule adds belongs to it, and a set to which no rule adds has
-- all of it.
use mathlib.Core.Path.{refl, sym, subst}
use mathlib.Core.Logic.{◌⊎◌, inl, inr, ⊎_elim}
use mathlib.Core.List.{Memᴰ}
use Prim.Native.Nat.{ℕ, ◌≤◌}
use native.Mathlib.Nat.{le_refl}
use native.Mathlib.Omega.{arith}
use Rattle.sets.specs.Sets.{In}
use Rattle.sets.specs.Insertion.{insert}
use Rattle.sets.proofs.Sets.{in_zero, insert_same, insert_keeps, insert_only}
use Rattle.grammar.specs.declared.UnaryMark.{UnaryMark}
use Rattle.grammar.specs.declared.Rule.{Rule}
use Rattle.grammar.specs.declared.Clause.{Clause}
use Rattle.grammar.specs.Trees.{Rules}
use Rattle.grammar.specs.Cycles.{Nullable}
use Rattle.acyclic.specs.Exact.{Exactly}
use Rattle.pairs.specs.Survey.{Productive, by_atom, by_unary, by_both, by_first, by_second, HasWord}
use Rattle.pairs.specs.Survey.{Occurs, at_top, in_unary, in_first, in_second}
use Rattle.pairs.specs.Survey.{CanBegin, with_atom, with_unary, with_first, with_second}
use Rattle.pairs.specs.Survey.{stronger, onward_mark, Inherits, none_at_top, from_unary}
use Rattle.pairs.specs.Strength.{rank}
use Rattle.pairs.specs.Survey.{to_first, to_only, to_second}
use Rattle.survey.specs.declared.Aim.{Aim}
use Rattle.survey.specs.Sources.{Worded, Under, Filled, AddsFilled, Begins, AddsBegins}
use Rattle.survey.specs.Sources.{Stands, AddsStands, Heads, Follows}
use Rattle.survey.specs.Sources.{AddsHeads}
use Rattle.survey.specs.Closing.{AtMost, Aimed, AddsBy, HelpsRank, Prepared, Shut}

-- the rule with this left and clause
abbrev Has : Rules → ℕ → Clause → Type 0
Has g A c = Memᴰ (record { left = A; clause = c }) g

-- a set with 0 besides
pub under_exact : {P : ℕ → Type 0} {s : ℕ} → P 0 → ((Y : ℕ) → In s Y → P Y)
    → ((Y : ℕ) → P Y → Under s Y) → Exactly (insert s 0) P
under_exact {P} {s} top sound all =
    record {
      is = λ B i. ⊎_elim (sound B) (λ e. subst P (sym e) top) (insert_only s 0 B i);
      all = λ B p. ⊎_elim (λ e. rw e (insert_same s 0)) (λ i. insert_keeps s 0 i) (all B p);
    }

strong_low : (l m : UnaryMark) {k : ℕ} → rank l ≤ k → rank m ≤ k → rank (stronger l m) ≤ k
strong_low UnaryMark.None m h i = i
strong_low UnaryMark.Offalign UnaryMark.None h i = h
strong_low UnaryMark.Offalign UnaryMark.Offalign h i = h
strong_low UnaryMark.Offalign UnaryMark.Offside h i = i
strong_low UnaryMark.Offalign UnaryMark.Single h i = i
strong_low UnaryMark.Offside UnaryMark.None h i = h
strong_low UnaryMark.Offside UnaryMark.Offalign h i = h
strong_low UnaryMark.Offside UnaryMark.Offside h i = h
strong_low UnaryMark.Offside UnaryMark.Single h i = i
strong_low UnaryMark.Single m h i = h

strong_high : (l m : UnaryMark) {k : ℕ} → rank (stronger l m) ≤ k → (rank l ≤ k) × (rank m ≤ k)
strong_high UnaryMark.None m h = (omega arith, h)
strong_high UnaryMark.Offalign UnaryMark.None h = (h, omega arith)
strong_high UnaryMark.Offalign UnaryMark.Offalign h = (h, h)
strong_high UnaryMark.Offalign UnaryMark.Offside h = (omega arith, h)
strong_high UnaryMark.Offalign UnaryMark.Single h = (omega arith, h)
strong_high UnaryMark.Offside UnaryMark.None h = (h, omega arith)
strong_high UnaryMark.Offside UnaryMark.Offalign h = (h, omega arith)
strong_high UnaryMark.Offside UnaryMark.Offside h = (h, h)
strong_high UnaryMark.Offside UnaryMark.Single h = (omega arith, h)
strong_high UnaryMark.Single UnaryMark.None h = (h, omega arith)
strong_high UnaryMark.Single UnaryMark.Offalign h = (h, omega arith)
strong_high UnaryMark.Single UnaryMark.Offside h = (h, omega arith)
strong_high UnaryMark.Single UnaryMark.Single h = (h, h)

onward_low : (l : UnaryMark) {k : ℕ} → rank l ≤ k → rank (onward_mark l) ≤ k
onward_low UnaryMark.None h = h
onward_low UnaryMark.Offalign h = omega arith
onward_low UnaryMark.Offside h = omega arith
onward_low UnaryMark.Single h = h

onward_loose : (l : UnaryMark) {k : ℕ} → rank l ≤ 2 → rank (onward_mark l) ≤ k
onward_loose UnaryMark.None h = omega arith
onward_loose UnaryMark.Offalign h = omega arith
onward_loose UnaryMark.Offside h = omega arith
onward_loose UnaryMark.Single h = absurd (omega arith)

module _ {g : Rules} {ns : ℕ} (x : Exactly ns (Nullable g)) where
  -- with words that have tokens
  module _ (s : ℕ) where
    filled_by : ((Y : ℕ) → In s Y → Productive g Y) → (A : ℕ) (c : Clause) → Has g A c
        → Filled ns s c → Productive g A
    filled_by h A Clause.Empty m l = elim l [ ]
    filled_by h A (Clause.Atom a b) m l =
        by_atom {x = a}
        (record { low = a; high = b; rule = m; covers = record { low = le_refl a; high = l } })
    filled_by h A (Clause.Unary B k) m i = by_unary k m (h B i)
    filled_by h A (Clause.Binary B C k) m (inl (i, inl n)) = by_first k m (h B i) (x.is C n)
    filled_by h A (Clause.Binary B C k) m (inl (i, inr j)) = by_both k m (h B i) (h C j)
    filled_by h A (Clause.Binary B C k) m (inr (n, j)) = by_second k m (x.is B n) (h C j)

    pub filled_sound : ((Y : ℕ) → In s Y → Productive g Y) → (r : Rule) → Memᴰ r g → (Y : ℕ)
        → AddsFilled ns s r Y → Productive g Y
    filled_sound h r m Y a =
        subst (Productive g) a.0 (filled_by h r.left r.clause m a.1)

    module _ (shut : (r : Rule) → Memᴰ r g → (Y : ℕ) → AddsFilled ns s r Y → In s Y) where
      pub filled_all : {A : ℕ} → Productive g A → In s A
      filled_all (by_atom a) =
          shut _ a.rule _ (refl, omega (arith, a.covers.low, a.covers.high))
      filled_all (by_unary k m p) = shut _ m _ (refl, filled_all p)
      filled_all (by_both k m p q) = shut _ m _ (refl, inl (filled_all p, inr (filled_all q)))
      filled_all (by_first {D = D} k m p n) =
          shut _ m _ (refl, inl (filled_all p, inl (x.all D n)))
      filled_all (by_second {C = C} k m n q) = shut _ m _ (refl, inr (x.all C n, filled_all q))

  module _ {ps : ℕ} (y : Exactly ps (Productive g)) where
    has_word : {A : ℕ} → Worded ns ps A → HasWord g A
    has_word {A} = ⊎_elim (λ i. inl (x.is A i)) (λ i. inr (y.is A i))

    worded : {A : ℕ} → HasWord g A → Worded ns ps A
    worded {A} = ⊎_elim (λ n. inl (x.all A n)) (λ p. inr (y.all A p))

    -- with words that begin with z
    module _ (z s : ℕ) where
      begins_by : ((Y : ℕ) → In s Y → CanBegin g Y z) → (A : ℕ) (c : Clause) → Has g A c
          → Begins ns ps z s c → CanBegin g A z
      begins_by h A Clause.Empty m v = elim v [ ]
      begins_by h A (Clause.Atom a b) m v =
          with_atom (record { low = a; high = b; rule = m; covers = v })
      begins_by h A (Clause.Unary B k) m i = with_unary k m (h B i)
      begins_by h A (Clause.Binary B C k) m (inl (i, w)) = with_first k m (h B i) (has_word w)
      begins_by h A (Clause.Binary B C k) m (inr (n, j)) = with_second k m (x.is B n) (h C j)

      pub begins_sound : ((Y : ℕ) → In s Y → CanBegin g Y z) → (r : Rule) → Memᴰ r g → (Y : ℕ)
          → AddsBegins ns ps z s r Y → CanBegin g Y z
      begins_sound h r m Y a =
          subst (λ A. CanBegin g A z) a.0 (begins_by h r.left r.clause m a.1)

      module _ (shut : (r : Rule) → Memᴰ r g → (Y : ℕ) → AddsBegins ns ps z s r Y
          → In s Y) where
        pub begins_all : {A : ℕ} → CanBegin g A z → In s A
        begins_all (with_atom a) = shut _ a.rule _ (refl, a.covers)
        begins_all (with_unary k m p) = shut _ m _ (refl, begins_all p)
        begins_all (with_first k m p w) = shut _ m _ (refl, inl (begins_all p, worded w))
        begins_all (with_second {C = C} k m n q) = shut _ m _ (refl, inr (x.all C n, begins_all q))

    -- that stand in trees of 0
    module _ (s : ℕ) where
      occurs_under : ((Y : ℕ) → In s Y → Occurs g Y) → {A : ℕ} → Under s A → Occurs g A
      occurs_under h {A} = ⊎_elim (λ e. rw e at_top) (h A)

      stands_by : (A : ℕ) (c : Clause) (Y : ℕ) → Has g A c → Occurs g A → Stands ns ps c Y
          → Occurs g Y
      stands_by A Clause.Empty Y m o x4 = elim x4 [ ]
      stands_by A (Clause.Atom _ _) Y m o x7 = elim x7 [ ]
      stands_by A (Clause.Unary B k) Y m o (w, e) = rw e at (in_unary k m o (has_word w))
      stands_by A (Clause.Binary B C k) Y m o ((v, w), inl e) =
          rw e at (in_first k m o (has_word v) (has_word w))
      stands_by A (Clause.Binary B C k) Y m o ((v, w), inr e) =
          rw e at (in_second k m o (has_word v) (has_word w))

      pub stands_sound : ((Y : ℕ) → In s Y → Occurs g Y) → (r : Rule) → Memᴰ r g → (Y : ℕ)
          → AddsStands ns ps s r Y → Occurs g Y
      stands_sound h r m Y a = stands_by r.left r.clause Y m (occurs_under h a.0) a.1

      module _ (shut : (r : Rule) → Memᴰ r g → (Y : ℕ) → AddsStands ns ps s r Y → In s Y) where
        pub stands_all : {A : ℕ} → Occurs g A → Under s A
        stands_all at_top = inl refl
        stands_all (in_unary k m o w) = inr (shut _ m _ (stands_all o, (worded w, refl)))
        stands_all (in_first k m o v w) =
            inr (shut _ m _ (stands_all o, ((worded v, worded w), inl refl)))
        stands_all (in_second k m o v w) =
            inr (shut _ m _ (stands_all o, ((worded v, worded w), inr refl)))

    -- that inherit a mark of rank at most k
    module _ {k loose : ℕ} (o : HelpsRank g k loose) (s : ℕ) where
      pub most_top : AtMost g k 0
      most_top = record { mark = UnaryMark.None; inherits = none_at_top; low = omega arith }

      most_under : ((Y : ℕ) → In s Y → AtMost g k Y) → {A : ℕ} → Under s A → AtMost g k A
      most_under h {A} = ⊎_elim (λ e. rw e most_top) (h A)

      front_by : (A : ℕ) (c : Clause) (Y : ℕ) → Has g A c → AtMost g k A → Heads ns ps k c Y
          → AtMost g k Y
      front_by A Clause.Empty Y m t x4 = elim x4 [ ]
      front_by A (Clause.Atom _ _) Y m t x7 = elim x7 [ ]
      front_by A (Clause.Unary B n) Y m t ((p, l), e) =
          subst (AtMost g k) e (record {
            mark = stronger t.mark n;
            inherits = from_unary n m
                t.inherits (y.is B p);
            low = strong_low t.mark n t.low l;
          })
      front_by A (Clause.Binary B C n) Y m t (inl ((p, w), e)) =
          subst (AtMost g k) e (record {
            mark = t.mark;
            inherits = to_first n m t.inherits
                (y.is B p) (has_word w);
            low = t.low;
          })
      front_by A (Clause.Binary B C n) Y m t (inr ((p, q), e)) =
          subst (AtMost g k) e (record {
            mark = t.mark;
            inherits = to_only n m t.inherits
                (x.is B p) (y.is C q);
            low = t.low;
          })

      -- the mark of A that is left for a part that is not the front
      record Onward (A : ℕ) : Type 0 where
        pub mark : UnaryMark
        pub inherits : Inherits g A mark
        pub low : rank (onward_mark mark) ≤ k

      onward : ((Y : ℕ) → In s Y → AtMost g k Y) → {A : ℕ} → Under s A ⊎ In loose A → Onward A
      onward h (inl u) =
          let t = most_under h u in
          record { mark = t.mark; inherits = t.inherits; low = onward_low t.mark t.low }
      onward h {A} (inr i) =
          let t = o.sound A i in record {
            mark = t.mark;
            inherits = t.inherits;
            low =
                onward_loose t.mark t.low;
          }

      follow_by : (A : ℕ) (c : Clause) (Y : ℕ) → Has g A c → Onward A → Follows ps c Y
          → AtMost g k Y
      follow_by A Clause.Empty Y m t x4 = elim x4 [ ]
      follow_by A (Clause.Atom _ _) Y m t x7 = elim x7 [ ]
      follow_by A (Clause.Unary _ _) Y m t x8 = elim x8 [ ]
      follow_by A (Clause.Binary B C n) Y m t ((p, q), e) =
          subst (AtMost g k) e (record {
            mark = onward_mark t.mark;
            inherits = to_second n m
                t.inherits (y.is B p) (y.is C q);
            low = t.low;
          })

      pub heads_sound : ((Y : ℕ) → In s Y → AtMost g k Y) → (r : Rule) → Memᴰ r g → (Y : ℕ)
          → AddsHeads ns ps k loose s r Y → AtMost g k Y
      heads_sound h r m Y (inl a) = front_by r.left r.clause Y m (most_under h a.0) a.1
      heads_sound h r m Y (inr a) = follow_by r.left r.clause Y m (onward h a.0) a.1

      module _ (shut : (r : Rule) → Memᴰ r g → (Y : ℕ) → AddsHeads ns ps k loose s r Y
          → In s Y) where
        heads_all : {A : ℕ} {l : UnaryMark} → Inherits g A l → rank l ≤ k → Under s A
        heads_all none_at_top h = inl refl
        heads_all (from_unary {C = C} {l = l} n m i p) h =
            let q = strong_high l n h in
            inr (shut _ m _ (inl (heads_all i q.0, ((y.all C p, q.1), refl))))
        heads_all (to_first {C = C} n m i p w) h =
            inr (shut _ m _ (inl (heads_all i h, inl ((y.all C p, worded w), refl))))
        heads_all (to_only {C = C} {D = D} n m i p q) h =
            inr (shut _ m _ (inl (heads_all i h, inr ((x.all C p, y.all D q), refl))))
        heads_all (to_second {A = A} {C = C} {D = D} {l = l} n m i p q) h =
            inr (shut _ m _ (inr (
              ⊎_elim (λ e. inl (heads_all i e)) (λ e. inr e) (o.wide A l i h),
              ((y.all C p, y.all D q), refl),
            )))

        pub most_all : (A : ℕ) → AtMost g k A → Under s A
        most_all A t = heads_all t.inherits t.low

-- the sets that are loose
pub in_three : (l : UnaryMark) → rank l ≤ 3
in_three UnaryMark.None = omega arith
in_three UnaryMark.Offalign = omega arith
in_three UnaryMark.Offside = omega arith
in_three UnaryMark.Single = omega arith

pub loose_three : {g : Rules} → HelpsRank g 3 0
loose_three = record { sound = λ A i. absurd (in_zero A i); wide = λ A l i h. inl (in_three l) }

in_two : (l : UnaryMark) → rank (onward_mark l) ≤ 2 → rank l ≤ 2
in_two UnaryMark.None h = omega arith
in_two UnaryMark.Offalign h = omega arith
in_two UnaryMark.Offside h = omega arith
in_two UnaryMark.Single h = h

pub loose_two : {g : Rules} → HelpsRank g 2 0
loose_two = record { sound = λ A i. absurd (in_zero A i); wide = λ A l i h. inl (in_two l h) }

not_single : (l : UnaryMark) {k : ℕ} → k ≤ 1 → rank (onward_mark l) ≤ k → rank l ≤ 2
not_single UnaryMark.None e h = omega arith
not_single UnaryMark.Offalign e h = omega arith
not_single UnaryMark.Offside e h = omega arith
not_single UnaryMark.Single e h = absurd (omega arith)

pub loose_less : {g : Rules} {s : ℕ} (k : ℕ) → k ≤ 1 → Exactly s (AtMost g 2) → HelpsRank g k s
loose_less k e x =
    record {
      sound = x.is;
      wide = λ A l i h. inr (x.all A (record { mark = l; inherits = i; low = not_single l e h }));
    }

-- what a rule adds belongs to what is looked for
pub aim_sound : {g : Rules} {ns : ℕ} → Exactly ns (Nullable g) → (a : Aim) (ps : ℕ)
    → Prepared g a ps
    → (s : ℕ) → ((Y : ℕ) → In s Y → Aimed g a Y) → (r : Rule) → Memᴰ r g →
    (Y : ℕ) → AddsBy a ns ps s r Y → Aimed g a Y
aim_sound x Aim.Filled ps p s = filled_sound x s
aim_sound x (Aim.Begins z) ps p s = begins_sound x p z s
aim_sound x Aim.Stands ps p s = stands_sound x p s
aim_sound x (Aim.Heads k loose) ps p s = heads_sound x p.0 p.1 s

module _ {g : Rules} {ns : ℕ} (x : Exactly ns (Nullable g)) where
  pub filled_exact : {s : ℕ} → Shut (AddsFilled ns) (Productive g) g s → Exactly s (Productive g)
  filled_exact {s} h = record { is = h.sound; all = λ B p. filled_all x s h.shut p }

  module _ {ps : ℕ} (y : Exactly ps (Productive g)) where
    pub begins_exact : {z s : ℕ} → Shut (AddsBegins ns ps z) (λ A. CanBegin g A z) g s
        → Exactly s (λ A. CanBegin g A z)
    begins_exact {z} {s} h = record { is = h.sound; all = λ B p. begins_all x y z s h.shut p }

    pub stands_exact : {s : ℕ} → Shut (AddsStands ns ps) (Occurs g) g s
        → Exactly (insert s 0) (Occurs g)
    stands_exact {s} h = under_exact at_top h.sound (λ B p. stands_all x y s h.shut p)

    pub most_exact : {k loose s : ℕ} → HelpsRank g k loose
        → Shut (AddsHeads ns ps k loose) (AtMost g k) g s → Exactly (insert s 0) (AtMost g k)
    most_exact {s = s} o h = under_exact (most_top x y o s) h.sound (most_all x y o s h.shut)
