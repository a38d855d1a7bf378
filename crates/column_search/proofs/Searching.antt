-- What the search finds: of one choice, of the columns of a token one after the other, of all.
use mathlib.Core.Path.{◌≡◌, refl, sym, ap, ◌∙◌, subst, subst₂}
use mathlib.Core.Bool.{Bool, true, false, not, ◌&&◌}
use mathlib.Core.List.{List}
use mathlib.Core.Logic.{◌⊎◌, inl, inr, ⊎_elim}
use Prim.Native.Nat.{ℕ, ◌+◌, ◌*◌, ◌≤◌, ◌<◌}
use native.Mathlib.Omega.{arith}
use native.Mathlib.Decide.{dec_lt, ℕ_discrete}
use lib.ListN.{length, replicate, length-replicate}
use Rattle.sets.specs.Says.{Says}
use Rattle.sets.specs.Sets.{In}
use Rattle.sets.proofs.Says.{true_not_false}
use Rattle.grammar.specs.declared.Token.{Token}
use Rattle.grammar.specs.Distinct.{Distinct}
use Rattle.grammar.proofs.VerdictLaws.{one_not_two}
use Rattle.grammar.specs.Layout.{Word, col, Every}
use Rattle.grammar.specs.Trees.{Rules, Derives, TwoTrees}
use Rattle.grammar.specs.SpanSheet.{pairs, first_word, second_word}
use Rattle.marks.specs.Half.{token_at}
use Rattle.grammar.specs.declared.Verdict.{Verdict}
use Rattle.grammar.specs.Verdicts.{Holds}
use Rattle.chart.specs.Leaves.{Leaf, LeafAt}
use Rattle.chart.specs.Sheets.{Exact, Begun}
use Rattle.chart.proofs.ExactLaws.{exact_front, exact_words}
use Rattle.grammar.proofs.VerdictLaws.{verdict_same}
use Rattle.chart.proofs.SheetLaws.{whole_part, reads_none, reads_one, reads_two}
use Rattle.spans.specs.Changes.{Past, Cleared}
use Rattle.spans.proofs.ChangeLaws.{past_same, past_then}
use Rattle.column_ranges.specs.declared.RangeSentence.{RangeSentence}
use Rattle.column_ranges.specs.declared.RangeToken.{RangeToken}
use Rattle.column_ranges.specs.Ranges.{Ranges, Chosen, SomeChoiceGives, columns}
use Rattle.column_ranges.specs.RangeSentences.{range, ranges_of, EndsOrdered, Spread}
use Rattle.narrowing.specs.Narrowing.{lowest, Singles, MayRise, fixed_at, Narrows}
use Rattle.range_marks.specs.RangeMarks.{exchanged_all}
use Rattle.refilling.specs.Kept.{kept_for}
use Rattle.range_charts.specs.RangeCharts.{SpanSolved, Small, Solves, Leaved, Beside}
use Rattle.range_charts.proofs.Solving.{small_same, small_then}
use Rattle.range_charts.proofs.Truths.{may_hold, must_hold, does_hold}
use Rattle.narrowing.proofs.Choices.{chosen_long, chosen_at, chosen_rise, fixed_here, fixed_rest}
use Rattle.narrowing.proofs.Choices.{lowest_long, lowest_at, lowest_chosen, only_lowest}
use Rattle.narrowing.proofs.Choices.{single_rising, gives_wider, gives_fixed}
use Rattle.column_search.specs.declared.Flags.{Flags}
use Rattle.column_search.specs.Answers.{flag, FlagsSay}
use Rattle.column_search.specs.Searching.{With, FlagsGiven, Finds, Leaving, Reads, Foreseen}
use Rattle.column_search.specs.Searching.{Idles}
use Rattle.column_search.specs.Searching.{Searched}
use Rattle.column_search.proofs.Flagging.{grown_none, grown_more}

-- ---- the words

pub leaving_same : (n : ℕ) (ws : List ℕ) → Leaving n ws ws
leaving_same n ws = record { small = small_same ws n; past = past_same (2 * pairs n) ws }

pub leaving_then : {n : ℕ} {ws ws' ws'' : List ℕ} → Leaving n ws ws' → Leaving n ws' ws''
    → Leaving n ws ws''
leaving_then x y =
    record { small = small_then x.small y.small; past = past_then x.past y.past }

-- the pairs of single tokens stay right
pub leaved_small : {g : Rules} {rs : Ranges} {n : ℕ} {ws ws' : List ℕ} → Small ws ws' n
    → Leaved g rs n ws → Leaved g rs n ws'
leaved_small {g} {rs} {n} {ws} {ws'} x l = record {
  empty = λ w. exact_words ws' (λ s len h.
      (x.first s len (omega arith) (omega arith), x.second s len (omega arith) (omega arith)))
      (l.empty w);
  leaves = λ i h. subst₂ (Leaf g (range rs i).terminal)
      (sym (x.first i 1 (omega arith) (omega arith)))
      (sym (x.second i 1 (omega arith) (omega arith))) (l.leaves i h);
}

-- and go by the terminals alone
leaved_as : {g : Rules} {rs rs' : Ranges} {n : ℕ} {ws : List ℕ}
    → ((i : ℕ) → i < n → (range rs' i).terminal ≡ (range rs i).terminal) → Leaved g rs n ws
    → Leaved g rs' n ws
leaved_as {g} {rs} {rs'} {n} {ws} e l = record
    { empty = l.empty; leaves = λ i h. subst (LeafAt g n ws i) (sym (e i h)) (l.leaves i h) }

pub leaved_narrowed : {g : Rules} {r s : RangeSentence} {t c : ℕ} {ws : List ℕ} → Spread r
    → t < r.count → Narrows r t c s → Leaved g (ranges_of r) r.count ws
    → Leaved g (ranges_of s) s.count ws
leaved_narrowed {g} {r} {s} {t} {c} {ws} p h q l =
    subst (λ (n : ℕ). Leaved g (ranges_of s) n ws) (sym q.count) (leaved_as terminal l)
  where
    at : (i : ℕ) → Dec (i ≡ t) → (range
        (fixed_at (ranges_of r) t ((range (ranges_of r) t).low.0 + c)) i
        ).terminal ≡ (range (ranges_of r) i).terminal
    at i (yes e) = subst (λ (j : ℕ). (range
        (fixed_at (ranges_of r) t ((range (ranges_of r) t).low.0 + c)) j).terminal
        ≡ (range (ranges_of r) j).terminal) (sym e)
        (ap (λ (x : RangeToken). x.terminal)
        (fixed_here (ranges_of r) t ((range (ranges_of r) t).low.0 + c)
        (omega (arith, p.whole))))
    at i (no d) = ap (λ (x : RangeToken). x.terminal)
        (fixed_rest (ranges_of r) t ((range (ranges_of r) t).low.0 + c) i d)

    terminal : (i : ℕ) → i < r.count
        → (range (ranges_of s) i).terminal ≡ (range (ranges_of r) i).terminal
    terminal i k = ap (λ (x : Ranges). (range x i).terminal) q.is ∙ at i (ℕ_discrete i t)

-- the start
pub leaved_begun : {g : Rules} {r : RangeSentence} {w : Word} {ws ws' : List ℕ} → Spread r
    → w ≡ lowest (ranges_of r) → Begun ws ws' g w r.count → Leaved g (ranges_of r) r.count ws'
leaved_begun {g} {r} {w} {ws} {ws'} p e b = record {
  empty = λ x. exact_front x refl b.empty;
  leaves = λ i h. subst (LeafAt g r.count ws' i)
      (ap (λ (x : Word). (token_at x i).terminal) e ∙ ap (λ (x : Token). x.terminal)
      (lowest_at (ranges_of r) i (omega (arith, p.whole)))) (b.leaves i h);
}

-- what is kept goes by the number of tokens
pub beside_as : {g : Rules} {n m : ℕ} {ws kept : List ℕ} → m ≡ n → Beside g n ws kept
    → Beside g m ws kept
beside_as {g} {n} {m} {ws} {kept} e b = subst (λ (x : ℕ). Beside g x ws kept) (sym e) b

-- an array of 17666 words has room for 64 tokens
pub room_kept : {n : ℕ} → n ≤ 64 → kept_for n ≤ length (replicate {A = ℕ} 17666 0)
room_kept {n} h = omega (arith, length-replicate {A = ℕ} 17666 0)

-- ---- what the sheet of the ranges says

-- the verdict on the one choice
pub reads_holds : {g : Rules} {rs : Ranges} {n : ℕ} {ws : List ℕ} → Distinct g → length rs ≡ n
    → Every EndsOrdered rs → Singles rs → Leaved g rs n ws
    → ((a b : ℕ) → 2 ≤ b → a + b ≤ n → SpanSolved ws g rs n a b) → (v : Verdict) → Reads ws n v
    → Holds v g 0 (lowest rs)
reads_holds {g} {rs} {n} {ws} distinct size ended single l y v h = go v h
  where
    exact : Exact g (lowest rs) n ws n
    exact = does_hold (lowest rs) distinct size (lowest_chosen rs ended) l single y

    long : length (lowest rs) ≡ n
    long = lowest_long rs ∙ size

    go : (v : Verdict) → Reads ws n v → Holds v g 0 (lowest rs)
    go Verdict.None h = reads_none long exact h
    go Verdict.One h = reads_one long exact h.0 h.1
    go Verdict.Two h = reads_two long exact h

-- what a choice may give
module _ {g : Rules} {rs : Ranges} {n : ℕ} {ws₁ ws₂ : List ℕ} (distinct : Distinct g)
    (size : length rs ≡ n) (l₁ : Leaved g rs n ws₁) (l₂ : Leaved g rs n ws₂)
    (y₁ : (a b : ℕ) → 2 ≤ b → a + b ≤ n → SpanSolved ws₁ g rs n a b)
    (y₂ : (a b : ℕ) → 2 ≤ b → a + b ≤ n → SpanSolved ws₂ g (exchanged_all rs) n a b) where
  one_may : (x : Word) → Chosen rs x → Derives g 0 x → In (first_word ws₁ n 0 n) 0
  one_may x c d = let e = chosen_long rs x c ∙ size in
      (may_hold x distinct size c l₁ y₁ 0 n (omega arith)).one 0
      (subst (Derives g 0) (sym (whole_part x n e)) d)

  two_may : (x : Word) → Chosen rs x → TwoTrees g 0 x → In (second_word ws₁ n 0 n) 0
  two_may x c d = let e = chosen_long rs x c ∙ size in
      (may_hold x distinct size c l₁ y₁ 0 n (omega arith)).two 0
      (subst (TwoTrees g 0) (sym (whole_part x n e)) d)

  one_must : (x : Word) → Chosen rs x → In (first_word ws₂ n 0 n) 0 → Derives g 0 x
  one_must x c m = let e = chosen_long rs x c ∙ size in
      subst (Derives g 0) (whole_part x n e)
      ((must_hold x distinct size c l₂ y₂ 0 n (omega arith)).one 0 m)

  two_must : (x : Word) → Chosen rs x → In (second_word ws₂ n 0 n) 0 → TwoTrees g 0 x
  two_must x c m = let e = chosen_long rs x c ∙ size in
      subst (TwoTrees g 0) (whole_part x n e)
      ((must_hold x distinct size c l₂ y₂ 0 n (omega arith)).two 0 m)

  pub foreseen : {p q u z : Bool} → Says p (In (first_word ws₁ n 0 n) 0)
      → Says q (In (second_word ws₁ n 0 n) 0) → Says u (In (first_word ws₂ n 0 n) 0)
      → Says z (In (second_word ws₂ n 0 n) 0) → (v : Verdict) → SomeChoiceGives g rs v
      → flag (record { none = not u; one = p && not z; two = q }) v ≡ true
  foreseen {p} {q} {u} {z} a b c d Verdict.None y = go u c
    where
      go : (u : Bool) → Says u (In (first_word ws₂ n 0 n) 0) → not u ≡ true
      go true c = let t = one_must y.word y.chosen (c.is refl) in
          absurd (y.verdict.absent t.tree t.witness)
      go false c = refl
  foreseen {p} {q} {u} {z} a b c d Verdict.One y = go p z a d
    where
      go : (p z : Bool) → Says p (In (first_word ws₁ n 0 n) 0)
          → Says z (In (second_word ws₂ n 0 n) 0)
          → p && not z ≡ true
      go true true a d =
          absurd (one_not_two y.verdict (two_must y.word y.chosen (d.is refl)))
      go true false a d = refl
      go false z a d = absurd (a.isnt refl
          (one_may y.word y.chosen (record
          { tree = y.verdict.tree; witness = y.verdict.witness })))
  foreseen {p} {q} {u} {z} a b c d Verdict.Two y = go q b
    where
      go : (q : Bool) → Says q (In (second_word ws₁ n 0 n) 0) → q ≡ true
      go true b = refl
      go false b = absurd (b.isnt refl (two_may y.word y.chosen y.verdict))

-- both sheets are filled and read
pub outlook_all : (x : RangeSentence) {g : Rules} {r : RangeSentence} {ws ws₁ ws₂ : List ℕ}
    {p q u z o : Bool} → Distinct g → Spread r → Leaved g (ranges_of r) r.count ws
    → Solves ws ws₁ g (ranges_of r) r.count
    → (x.count ≡ r.count) × (ranges_of x ≡ exchanged_all (ranges_of r))
    → Solves ws₁ ws₂ g (ranges_of x) x.count
    → Says p (In (first_word ws₁ r.count 0 r.count) 0)
    → Says q (In (second_word ws₁ r.count 0 r.count) 0)
    → Says u (In (first_word ws₂ r.count 0 r.count) 0)
    → Says z (In (second_word ws₂ r.count 0 r.count) 0)
    → p && not z ≡ o → Foreseen g (ranges_of r) r.count ws ws₂
    (record { none = not u; one = o; two = q })
outlook_all x {g} {r} {ws} {ws₁} {ws₂} {p} {q} {u} {z} {o} distinct s l y e y' a b c d f = record {
  finds = record {
    all = λ v i. subst (λ (o : Bool). flag (record { none = not u; one = o; two = q }) v ≡ true) f
        (foreseen distinct s.whole l₁ (leaved_small must.small l₁) y.each must.each a b
        c d v i);
  };
  leaving = leaving_then (record { small = y.small; past = y.past })
      (record { small = must.small; past = must.past });
}
  where
    must : Solves ws₁ ws₂ g (exchanged_all (ranges_of r)) r.count
    must = subst₂ (Solves ws₁ ws₂ g) e.1 e.0 y'

    l₁ : Leaved g (ranges_of r) r.count ws₁
    l₁ = leaved_small y.small l

-- ---- nothing new can come

pub searched_after : {g : Rules} {rs : Ranges} {n : ℕ} {f r : Flags} {ws ws₀ ws' : List ℕ}
    → Leaving n ws ws₀ → Searched g rs n f ws₀ ws' r → Searched g rs n f ws ws' r
searched_after x y =
    record { grown = y.grown; finds = y.finds; leaving = leaving_then x y.leaving }

pub implies_all : (o f : Flags) → (o.none ≡ true → f.none ≡ true)
    → (o.one ≡ true → f.one ≡ true) → (o.two ≡ true → f.two ≡ true) → (v : Verdict)
    → flag o v ≡ true → flag f v ≡ true
implies_all o f a b c Verdict.None = a
implies_all o f a b c Verdict.One = b
implies_all o f a b c Verdict.Two = c

pub searched_nothing_new : {g : Rules} {rs : Ranges} {n : ℕ} {f : Flags} {ws ws' : List ℕ}
    {b : Bool}
    → Idles g rs n f ws ws' b → b ≡ true → Searched g rs n f ws ws' f
searched_nothing_new {f = f} x e =
    record { grown = grown_none f; finds = x.finds e; leaving = x.leaving }

pub searched_none : {g : Rules} {rs : Ranges} {n : ℕ} {f : Flags} {ws : List ℕ}
    → ((v : Verdict) → flag f v ≡ true) ⊎ (MayRise rs → ⊥) → Searched g rs n f ws ws f
searched_none {g} {rs} {n} {f} {ws} d = record {
  grown = grown_none f;
  finds = record {
    all = λ v y. ⊎_elim (λ z. z v)
        (λ z. absurd (z (chosen_rise rs y.word y.chosen y.rising))) d;
  };
  leaving = leaving_same n ws;
}

-- ---- one choice

pub searched_one : {g : Rules} {r : RangeSentence} {w : Word} {v : Verdict} {f a : Flags}
    {ws ws' : List ℕ} → Spread r → Singles (ranges_of r) → MayRise (ranges_of r)
    → w ≡ lowest (ranges_of r) → Holds v g 0 w → With f v a → Leaving r.count ws ws'
    → Searched g (ranges_of r) r.count f ws ws' a
searched_one {g} {r} {w} {v} {f} {a} p s m e h x leaving = record {
  grown = record {
    kept = x.kept;
    given = λ u y. ⊎_elim inl (λ z. inr (gives u z)) (x.given u y);
  };
  finds = record { all = λ u y. subst (λ (z : Verdict). flag a z ≡ true) (same u y) x.set };
  leaving = leaving;
}
  where
    holds : Holds v g 0 (lowest (ranges_of r))
    holds = subst (Holds v g 0) e h

    gives : (u : Verdict) → u ≡ v → SomeChoiceGives g (ranges_of r) u
    gives u z = subst (SomeChoiceGives g (ranges_of r)) (sym z)
        (record {
          word = lowest (ranges_of r);
          chosen = lowest_chosen (ranges_of r) p.ended;
          rising = single_rising (ranges_of r) s m;
          verdict = holds;
        })

    same : (u : Verdict) → SomeChoiceGives g (ranges_of r) u → v ≡ u
    same u y = verdict_same g 0 (lowest (ranges_of r)) v u holds
        (subst (Holds u g 0) (only_lowest (ranges_of r) y.word s y.chosen) y.verdict)

-- the one choice is read
pub choice_all : {g : Rules} {r : RangeSentence} {v : Verdict} {f a : Flags} {ws ws' : List ℕ}
    → Distinct g → Spread r → Singles (ranges_of r) → MayRise (ranges_of r)
    → Leaved g (ranges_of r) r.count ws → Solves ws ws' g (ranges_of r) r.count
    → Reads ws' r.count v → With f v a → Searched g (ranges_of r) r.count f ws ws' a
choice_all {g} {r} {v} distinct s single m l y h x =
    searched_one s single m refl (reads_holds distinct s.whole s.ended single
    (leaved_small y.small l) y.each v h) x (record { small = y.small; past = y.past })

-- ---- the columns of a token

-- those before the one that stands c past its lower end are tried
pub record Turn (g : Rules) (rs : Ranges) (n t c : ℕ) (f : Flags) (ws ws' : List ℕ)
    (found : Flags) : Type 0 where
  pub grown : FlagsGiven g rs f found
  pub below : (v : Verdict) (y : SomeChoiceGives g rs v)
      → col (token_at y.word t) < (range rs t).low.0 + c → flag found v ≡ true
  pub leaving : Leaving n ws ws'

token_here : {r : RangeSentence} {t : ℕ} → Spread r → t < r.count → t < length (ranges_of r)
token_here p h = omega (arith, p.whole)

module _ {g : Rules} {r : RangeSentence} {t : ℕ} {f : Flags} {ws : List ℕ} (p : Spread r)
    (h : t < r.count) where
  pub turn_none : Turn g (ranges_of r) r.count t 0 f ws ws f
  turn_none = record {
    grown = grown_none f;
    below = λ v y l. absurd (omega (
      arith,
      (chosen_at (ranges_of r) y.word y.chosen t
          (token_here p h)).low,
    ));
    leaving = leaving_same r.count ws;
  }

  module _ {c : ℕ} {ws₁ ws₂ : List ℕ} {found next : Flags} {s : RangeSentence}
      (few : c < columns (range (ranges_of r) t))
      (u : Turn g (ranges_of r) r.count t c f ws ws₁ found) (q : Narrows r t c s)
      (x : Searched g (ranges_of s) s.count found ws₁ ws₂ next) where
    wider : (v : Verdict) → SomeChoiceGives g (ranges_of s) v → SomeChoiceGives g (ranges_of r) v
    wider v y = gives_wider t ((range (ranges_of r) t).low.0 + c) (omega arith) (omega arith)
        (subst (λ (z : Ranges). SomeChoiceGives g z v) q.is y)

    pub turn_more : Turn g (ranges_of r) r.count t (c + 1) f ws ws₂ next
    turn_more = record {
      grown = grown_more u.grown (record {
        kept = x.grown.kept;
        given = λ v e. ⊎_elim inl (λ y. inr (wider v y)) (x.grown.given v e);
      });
      below = λ v y l. go v y l (dec_lt (col (token_at y.word t))
          ((range (ranges_of r) t).low.0 + c));
      leaving = leaving_then u.leaving (subst (λ (n : ℕ). Leaving n ws₁ ws₂) q.count x.leaving);
    }
      where
        go : (v : Verdict) (y : SomeChoiceGives g (ranges_of r) v)
            → col (token_at y.word t) < (range (ranges_of r) t).low.0 + (c + 1)
            → Dec (col (token_at y.word t) < (range (ranges_of r) t).low.0 + c)
            → flag next v ≡ true
        go v y l (yes d) = x.grown.kept v (u.below v y d)
        go v y l (no d) = x.finds.all v
            (subst (λ (z : Ranges). SomeChoiceGives g z v) (sym q.is)
            (gives_fixed t ((range (ranges_of r) t).low.0 + c) (token_here p h) y (omega arith)))

  pub turn_all : {c : ℕ} {ws' : List ℕ} {found : Flags} → columns (range (ranges_of r) t) ≤ c
      → Turn g (ranges_of r) r.count t c f ws ws' found
      → Searched g (ranges_of r) r.count f ws ws' found
  turn_all all u = record {
    grown = u.grown;
    finds = record {
      all = λ v y. let w = chosen_at (ranges_of r) y.word y.chosen t
          (token_here p h) in u.below v y (omega (arith, w.high, w.low));
    };
    leaving = u.leaving;
  }

-- ---- the whole search

pub nothing_set : (v : Verdict) → flag (record { none = false; one = false; two = false }) v ≡ false
nothing_set Verdict.None = refl
nothing_set Verdict.One = refl
nothing_set Verdict.Two = refl

pub flags_say : {g : Rules} {rs : Ranges} {f r : Flags} → ((v : Verdict) → flag f v ≡ false)
    → FlagsGiven g rs f r → Finds g rs r → FlagsSay g rs r
flags_say {g} {rs} {f} {r} none x y = record {
  says = λ v. record {
    is = λ e. ⊎_elim (λ z. absurd (true_not_false (sym z ∙ none v))) (λ z. z) (x.given v e);
    isnt = λ e z. true_not_false (sym (y.all v z) ∙ e);
  };
}

pub cleared_after : {m k : ℕ} {ws ws₁ ws₂ : List ℕ} → m ≡ k → Past k ws ws₁ → Cleared ws₁ ws₂ m
    → Cleared ws ws₂ k
cleared_after {m} {k} e p d =
    let c = rw e at d in
    record { zeros = c.zeros; past = past_then p c.past }
