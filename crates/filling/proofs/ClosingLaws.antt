-- A span that is settled all cuts at once is closed, as the chart's are.
use mathlib.Core.Path.{◌≡◌, refl, sym, ◌∙◌, subst}
use mathlib.Core.List.{List}
use mathlib.Core.Logic.{inl, inr}
use Prim.Native.Nat.{ℕ, zero, suc, ◌+◌, ◌*◌, ◌≤◌, ◌<◌}
use native.Mathlib.Omega.{arith}
use lib.ListN.{length, get_or, replicate, length-replicate}
use Rattle.grammar.proofs.Lists.{every_at}
use Rattle.grammar.specs.Trees.{Rules}
use Rattle.grammar.specs.Distinct.{Distinct}
use Rattle.grammar.specs.declared.Grammar.{Grammar}
use Rattle.grammar.specs.Content.{rules_of, SmallRule, Formed}
use Rattle.grammar.specs.Layout.{Every}
use Rattle.grammar.specs.SpanSheet.{pair_at, first_word, second_word}
use Rattle.marks.specs.declared.SpanMarks.{SpanMarks}
use Rattle.marks.specs.Half.{Half}
use Rattle.marks.specs.Marked.{Marked, UnaryBy}
use Rattle.grammar.specs.declared.UnaryMark.TheVariants as UnaryMark
use Rattle.sets.specs.Sets.{In}
use Rattle.spans.specs.Changes.{Kept, WrotePair, Cleared}
use Rattle.spans.proofs.Places.{pair_at_of}
use Rattle.tables.specs.Settled.{Ground}
use Rattle.cuts.specs.declared.Pair.{Pair}
use Rattle.cuts.specs.declared.Masks.{Masks}
use Rattle.cuts.specs.Cuts.{words_of_of, Masked, CutCounts, Parted, Row, Column, Mirrors}
use Rattle.cuts.specs.Puts.{PutPair, PutRow}
use Rattle.cuts.proofs.TryLaws.{mirrored}
use Rattle.cuts.proofs.MirrorLaws.{mirrors_put, mirrors_next, mirrors_end, columns_none}
use Rattle.cuts.specs.Counts as Counts
use Rattle.cuts.specs.Closure.{Closure, ChainEntry, Unites}
use Rattle.cuts.proofs.CountLaws.{counts_nested}
use Rattle.tables.specs.Tables.{no_rule}
use Rattle.chains.specs.SpanLinks.{span_links}
use Rattle.chains.specs.Chains.{HoldsAt, Leveled, Chains}
use Rattle.chains.proofs.TableLaws.{table_span}
use Rattle.chart.specs.Filling.{Closed, Filled, FilledFrom}
use Rattle.filling.specs.Closing.{Begins, Found, CutJoins, Columns}
use Rattle.filling.proofs.SettleLaws.{closure_settled}

-- what rows and columns say of the span sheet that they mirror, as far as the span's parts go
pub found_by : {ws ws' : List ℕ} {g : Rules} {n s len : ℕ} {k : SpanMarks}
    {rows cols table : List ℕ} {e t : Pair} → n ≤ 64 → s + len ≤ n → Every SmallRule g
    → (end from : ℕ) → s + len ≤ end → from ≤ s + 1 → Row ws n s end rows
    → Column ws n from (s + len) cols → Begins ws e → Chains g e table
    → Found rows cols table g k s len t
    → WrotePair ws ws' (pair_at n s len) t.one t.two → CutJoins ws ws' g n s len k
found_by {ws} {ws'} {g} {n} {s} {len} {k} {rows} {cols} {table} {e} {t} few fit small end from far
    near row col b h f w =
    let sp = mirrored ws n s len k rows cols f.masks few fit end from far near row col
    f.masked g small f.inner f.counts in
    record {
      inner = f.inner;
      last = t;
      empty = e;
      table = table;
      level = f.level;
      splits = sp;
      begins = b;
      chains = h;
      leveled = f.leveled;
      bounded = λ B i. lefts B ((sp.one B).0 i);
      unites = f.unites;
      wrote = w;
    }
  where
    lefts : (B : ℕ) → Counts.Some (Parted ws n s len k g) B → B < 64
    lefts B q = let x = (every_at SmallRule no_rule g small q.rule q.stands.stand.within
        ).left in omega (arith, q.stands.stand.left)

-- so do those of the spans that are settled
pub found_joins : {ws ws' : List ℕ} {g : Rules} {n s len : ℕ} {k : SpanMarks}
    {rows cols table : List ℕ} {e t : Pair} → n ≤ 64 → s + len ≤ n → Every SmallRule g
    → Mirrors ws n s len rows cols → Begins ws e → Chains g e table
    → Found rows cols table g k s len t
    → WrotePair ws ws' (pair_at n s len) t.one t.two → CutJoins ws ws' g n s len k
found_joins {s = s} {len = len} few fit small m b h f w =
    found_by few fit small (s + len) (s + 1) (omega arith) (omega arith) m.row
    (m.ahead (s + len) (omega arith) fit) b h f w

-- single has offside with it
single_offside : {h : Half} {s len : ℕ} {k : SpanMarks} → Marked h s len k
    → UnaryBy k UnaryMark.Single → UnaryBy k UnaryMark.Offside
single_offside m x = (m.unary UnaryMark.Offside).1
    (record {
      keeps =
          λ i a b z. absurd (let y = ((m.unary UnaryMark.Single).0 x).keeps i a b in omega arith);
    })

-- what is written is what follows
pub cut_closure : (ws ws' : List ℕ) (g : Rules) (n s len : ℕ) (k : SpanMarks)
    → (UnaryBy k UnaryMark.Single → UnaryBy k UnaryMark.Offside) → (j : CutJoins ws ws' g n s len k)
    → Closure (span_links g (UnaryBy k) (get_or ws 0 0) (get_or ws 1 0)) j.inner j.last
cut_closure ws ws' g n s len k single j =
    table_span g (get_or ws 0 0) (get_or ws 1 0) (HoldsAt j.level) k (j.leveled.holds single)
    (words_of_of j.table (128 * j.level)) j.inner j.last entries
    (counts_nested j.splits) j.unites
  where
    entries : (B : ℕ) → In j.inner.one B
        → ChainEntry (span_links g (HoldsAt j.level) (get_or ws 0 0) (get_or ws 1 0)) B
        (words_of_of j.table (128 * j.level) B)
    entries B i = rw (j.begins.one, j.begins.two)
        (j.chains.entry j.level B j.leveled.small (j.bounded B i))

-- so it is closed
pub cut_joined : (ws ws' : List ℕ) (g : Rules) (h : Half) (n s len : ℕ) (k : SpanMarks) → Distinct g
    → h.known ≤ length h.word → s + len ≤ n → 2 ≤ len → Marked h s len k → Ground ws g h n s len
    → CutJoins ws ws' g n s len k → Closed ws ws' g h n s len
cut_joined ws ws' g h n s len k distinct known fit long marked ground j = record {
  kept = j.wrote.kept;
  settled = closure_settled ws g h n s len k j.inner distinct known fit long marked ground
      j.splits ws' j.last (cut_closure ws ws' g n s len k (single_offside marked) j)
      j.wrote;
}

-- the pair of the empty word is not written
pub empty_kept : {ws ws' : List ℕ} {e : Pair} (n s len : ℕ) → 0 < len
    → Kept ws ws' (pair_at n s len)
    → Begins ws e → Begins ws' e
empty_kept n s len pos k b = record {
  one = k.rest 0 (omega (arith, pair_at_of n s len pos)) (omega (arith, pair_at_of n s len pos))
      ∙ b.one;
  two = k.rest 1 (omega (arith, pair_at_of n s len pos)) (omega (arith, pair_at_of n s len pos))
      ∙ b.two;
}

-- ---- what the functions find

pub found_of : {rows cols table : List ℕ} {g : Grammar} {k : SpanMarks} {s len l : ℕ} {p t : Pair}
    {m : Masks} → Formed g → Masked k s m
    → CutCounts rows cols (128 * (s + len)) m (rules_of g) g.count p → Leveled k l
    → Unites (words_of_of table (128 * l)) (In p.one) (In p.two) t
    → Found rows cols table (rules_of g) k s len t
found_of {rows} {cols} {table} {g} {k} {s} {len} {l} {p} {t} {m} f mk c v u = record {
  inner = p;
  masks = m;
  level = l;
  masked = mk;
  counts = subst (λ (x : ℕ). CutCounts rows cols (128 * (s + len)) m (rules_of g) x p) (sym f.whole)
      c;
  leveled = v;
  unites = u;
}

-- a span that is settled is taken in
pub loaded : (ws : List ℕ) (n s len : ℕ) (rows cols rows' cols' : List ℕ) (t : Pair) → n ≤ 64
    → s + len ≤ n → 0 < len → first_word ws n s len ≡ t.one → second_word ws n s len ≡ t.two
    → PutRow rows rows' t (s + len) → PutPair cols cols' (128 * (s + len)) t s
    → Mirrors ws n s len rows cols → Mirrors ws n s (len + 1) rows' cols'
loaded ws n s len rows cols rows' cols' t few fit pos x y r q m =
    mirrors_put ws ws n s len rows cols rows' cols' t few fit pos
    (record { long = refl; rest = λ i a b. refl }) x y r q m

-- so is one that was just written
pub closing : (ws ws' : List ℕ) (n s len : ℕ) (rows cols rows' cols' : List ℕ) (t : Pair) → n ≤ 64
    → s + len ≤ n → 0 < len → WrotePair ws ws' (pair_at n s len) t.one t.two
    → PutRow rows rows' t (s + len) → PutPair cols cols' (128 * (s + len)) t s
    → Mirrors ws n s len rows cols → Mirrors ws' n s (len + 1) rows' cols'
closing ws ws' n s len rows cols rows' cols' t few fit pos w r q m = mirrors_put ws ws' n s len rows
    cols rows' cols' t few fit pos w.kept w.first w.second r q m

-- a start is begun
pub beginning : {ws : List ℕ} {n s : ℕ} {rows rows' cols : List ℕ} → length rows ≡ 128
    → Cleared rows rows' 128 → Columns ws n (s + 1) cols → Mirrors ws n s 1 rows' cols
beginning {ws} {n} {s} {rows} {rows'} {cols} e z c =
    mirrors_next ws n s rows' cols (z.past.long ∙ e) c.size z.zeros c.each

-- and ended
pub ending : {ws : List ℕ} {n s len : ℕ} {rows cols : List ℕ} → n < s + len
    → Mirrors ws n s len rows cols → Columns ws n s cols
ending h m = record { size = m.long; each = mirrors_end h m }

-- before all starts the columns are 0
pub no_columns : (ws : List ℕ) (n m : ℕ) → 128 * (n + 1) ≤ m → Columns ws n n (replicate m 0)
no_columns ws n m h = record {
  size = omega (arith, length-replicate {A = ℕ} m 0);
  each = columns_none ws n (replicate m 0) (zeros m);
}
  where
    zeros : (k q : ℕ) → get_or {A = ℕ} (replicate k 0) q 0 ≡ 0
    zeros zero q = refl
    zeros (suc k) zero = refl
    zeros (suc k) (suc q) = zeros k q

-- where there is one token at most, nothing is left to settle
pub few_grown : {ws : List ℕ} {g : Rules} {h : Half} {n from to : ℕ} → n < 2
    → Filled ws g h n from to (n + 1) → FilledFrom ws ws g h n from 0
few_grown b f = record {
  filled = record { done = λ s len fit p. f.done s len fit (inr (inl (omega arith))) };
  given = record { first = λ i k. refl; second = λ i k. refl };
  past = record { long = refl; rest = λ q k. refl };
}
