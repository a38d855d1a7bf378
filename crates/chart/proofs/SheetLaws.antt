-- The whole span sheet: kept spans are settled, the rows are filled one after the other, and once
-- all spans are settled the sheet is exact as far as the word is known and misses nothing of the
-- rest.
use mathlib.Core.Path.{◌≡◌, refl, sym, ◌∙◌, subst, subst₂}
use mathlib.Core.Logic.{◌⊎◌, inl, inr, ⊎_elim, ◌↔◌}
use mathlib.Core.Bool.{Bool, true, false, not}
use mathlib.Core.List.{List}
use Prim.Native.Nat.{ℕ, ◌+◌, ◌*◌, ◌≤◌, ◌<◌}
use native.Mathlib.Omega.{arith}
use native.Mathlib.Decide.{dec_lt, ℕ_discrete}
use lib.ListN.{length}
use lib.Seq.{take_all}
use Rattle.sets.specs.Says.{Says}
use Rattle.sets.specs.Sets.{In}
use Rattle.sets.proofs.Says.{true_not_false}
use Rattle.grammar.specs.Layout.{Word}
use Rattle.grammar.specs.Trees.{Rules, Tree, Tree-discrete, Witness, Derives, NoTree, OneTree}
use Rattle.grammar.specs.Trees.{TwoTrees}
use Rattle.grammar.specs.SpanSheet.{part, pairs, pair_at, first_word, second_word, SpanSheet}
use Rattle.grammar.proofs.Marks.{token?}
use Rattle.marks.specs.Half.{Half, Completes, token_at}
use Rattle.marks.proofs.HalfLaws.{completes_self}
use Rattle.spans.specs.Changes.{Past}
use Rattle.spans.proofs.Places.{pair_at_same}
use Rattle.grammar.specs.declared.Verdict.{Verdict}
use Rattle.grammar.specs.Verdicts.{Holds}
use Rattle.tables.specs.Tables.{One, Two, by_tokens, Stand, Again}
use Rattle.chart.specs.Leaves.{Allows, LeafAt, May}
use Rattle.tables.specs.Settled.{Told, Settled, Ground}
use Rattle.chart.specs.Filling.{Closed, Given, SpanPassed, Filled, FilledFrom}
use Rattle.chart.specs.Sheets.{Exact, Begun, Ready, Meets, CoversMet, Charted, Judged}
use Rattle.chart.specs.Sheets.{Hopeless, Settles}
use Rattle.tables.proofs.Completeness.{complete, same}
use Rattle.tables.proofs.Soundness.{sound_stand, sound_again}
use Rattle.chart.proofs.FillLaws.{settled_kept, settled_empty}
use Rattle.chart.proofs.ExactLaws.{exact_less, null_one, null_two}
use Rattle.chart.proofs.LeafLaws.{leaf_allows, leaf_one, leaf_more, may_one, may_two}
use Rattle.chart.proofs.OpenLaws.{open_settled, settled_open, open_none, given_settled}
use Rattle.grammar.specs.Distinct.{Distinct}

-- ---- what is kept

-- what is exact is settled: a rule over exact parts has a tree, and so is in the words
pub exact_settled : (ws : List ℕ) (g : Rules) (h : Half) (n from : ℕ) → Distinct g
    → h.known ≤ length h.word → from ≤ h.known → Exact g h.word n ws from
    → (a b : ℕ) → a + b ≤ from → Settled (One ws n) (Two ws n) g h a b
exact_settled ws g h n from distinct inner low x a b fit = record {
  derived = λ A k. (x.one a b A fit).0;
  more = λ A k. (x.two a b A fit).0;
  each = λ A i l u c. (x.one a b A fit).1
      (sound_stand (One ws n) g h inner a b (omega arith) one A i l c);
  again = λ A u q. (x.two a b A fit).1
      (sound_again (One ws n) (Two ws n) g h inner distinct a b (omega arith) one two A q);
}
  where
    one : (c d A : ℕ) → a ≤ c → c + d ≤ a + b → One ws n c d A → Derives g A (part h.word c d)
    one c d A p q = (x.one c d A (omega arith)).0

    two : (c d A : ℕ) → a ≤ c → c + d ≤ a + b → Two ws n c d A → TwoTrees g A (part h.word c d)
    two c d A p q = (x.two c d A (omega arith)).0

-- a known token whose pair is its terminal's is settled
leaf_settled : (ws : List ℕ) (g : Rules) (h : Half) (n : ℕ) → Distinct g
    → h.known ≤ length h.word → Exact g h.word n ws 0 → (i : ℕ) → i < h.known
    → LeafAt g n ws i (token_at h.word i).terminal → Settled (One ws n) (Two ws n) g h i 1
leaf_settled ws g h n distinct inner x i kn l = record {
  derived = λ A k. one i 1 A (omega arith) (omega arith);
  more = λ A k. two i 1 A (omega arith) (omega arith);
  each = λ A j m u c. may_one g w n ws i far (leaf_allows l) A
      (sound_stand (One ws n) g h inner i 1 (omega arith) one A j m c);
  again = λ A u q. may_two g w n ws i far (leaf_allows l) A
      (sound_again (One ws n) (Two ws n) g h inner distinct i 1 (omega arith) one two A q);
}
  where
    w : Word
    w = h.word

    far : i < length w
    far = omega arith

    one : (c d A : ℕ) → i ≤ c → c + d ≤ i + 1 → One ws n c d A → Derives g A (part w c d)
    one c d A p q = go (ℕ_discrete d 0)
      where
        go : Dec (d ≡ 0) → One ws n c d A → Derives g A (part w c d)
        go (yes z) =
            subst (λ (e : ℕ). One ws n c e A → Derives g A (part w c e)) (sym z) (null_one x c A)
        go (no z) = subst₂ (λ (y e : ℕ). One ws n y e A → Derives g A (part w y e))
            (let v : i ≡ c = omega arith in v) (let v : 1 ≡ d = omega arith in v)
            (leaf_one g w n ws i far l A)

    two : (c d A : ℕ) → i ≤ c → c + d ≤ i + 1 → Two ws n c d A → TwoTrees g A (part w c d)
    two c d A p q = go (ℕ_discrete d 0)
      where
        go : Dec (d ≡ 0) → Two ws n c d A → TwoTrees g A (part w c d)
        go (yes z) =
            subst (λ (e : ℕ). Two ws n c e A → TwoTrees g A (part w c e)) (sym z) (null_two x c A)
        go (no z) = subst₂ (λ (y e : ℕ). Two ws n y e A → TwoTrees g A (part w y e))
            (let v : i ≡ c = omega arith in v) (let v : 1 ≡ d = omega arith in v)
            (leaf_more g w n ws i far l A)

-- ---- the sheet, span by span

-- a sheet that is ready: the spans that begin at or past `to` are settled
pub begun : (ws : List ℕ) (g : Rules) (h : Half) (n from to : ℕ) → Distinct g
    → h.known ≤ length h.word → Ready g h n ws from to → Filled ws g h n from to (n + 1)
begun ws g h n from to distinct inner r = record { done = done }
  where
    empty : (a b : ℕ) → b ≡ 0 → Settled (One ws n) (Two ws n) g h a b
    empty a b e = subst (Settled (One ws n) (Two ws n) g h a) (sym e)
        (settled_empty ws g h n a (exact_settled ws g h n from distinct inner r.low r.right 0
        0 (omega arith)))

    beyond : (a b : ℕ) → a + b ≤ n → to ≤ a → Dec (b ≡ 0) → Settled (One ws n) (Two ws n) g h a b
    beyond a b fit x (yes e) = empty a b e
    beyond a b fit x (no e) = open_settled r.beyond h r.high a b x (omega arith) fit

    small : (a b : ℕ) → b < 2 → Dec (b ≡ 0) → Dec (a < h.known)
        → Settled (One ws n) (Two ws n) g h a b
    small a b x (yes e) k = empty a b e
    small a b x (no e) (yes k) = subst (Settled (One ws n) (Two ws n) g h a)
        (let z : 1 ≡ b = omega arith in z)
        (leaf_settled ws g h n distinct inner (exact_less 0 (omega arith) r.right) a k
        (r.leaves a k))
    small a b x (no e) (no k) = subst (Settled (One ws n) (Two ws n) g h a)
        (let z : 1 ≡ b = omega arith in z) (given_settled (One ws n) (Two ws n) g h a (omega arith))

    done : (a b : ℕ) → a + b ≤ n → SpanPassed from to (n + 1) a b
        → Settled (One ws n) (Two ws n) g h a b
    done a b fit (inl x) = exact_settled ws g h n from distinct inner r.low r.right a b x
    done a b fit (inr (inl x)) = small a b x (ℕ_discrete b 0) (dec_lt a h.known)
    done a b fit (inr (inr (inl x))) = beyond a b fit (omega arith) (ℕ_discrete b 0)
    done a b fit (inr (inr (inr x))) = beyond a b fit (omega (arith, x.0)) (ℕ_discrete b 0)

module _ (ws : List ℕ) (g : Rules) (h : Half) (n from s : ℕ) where
  -- on to the spans that begin a token earlier
  pub filled_next : Filled ws g h n from (s + 1) (n + 1) → Filled ws g h n from s 2
  filled_next f = record { done = λ a b q d. f.done a b q (go a b q d) }
    where
      above : (a : ℕ) → s < a → Dec (s + 1 < a) → (s + 1 < a) ⊎ (a ≡ s + 1)
      above a x (yes y) = inl y
      above a x (no y) = inr (omega arith)

      go : (a b : ℕ) → a + b ≤ n → SpanPassed from s 2 a b → SpanPassed from (s + 1) (n + 1) a b
      go a b q (inl x) = inl x
      go a b q (inr (inl x)) = inr (inl x)
      go a b q (inr (inr (inl x))) = ⊎_elim (λ y. inr (inr (inl y)))
          (λ y. inr (inr (inr (y, omega arith)))) (above a x (dec_lt (s + 1) a))
      go a b q (inr (inr (inr x))) = inr (inl x.1)

  -- the span that comes next is kept
  pub filled_pass : (len : ℕ) → s + len ≤ from → Filled ws g h n from s len
      → Filled ws g h n from s (len + 1)
  filled_pass len low f = record { done = λ a b q d. f.done a b q (go a b d) }
    where
      at : (a b : ℕ) → a ≡ s → b < len + 1 → Dec (b < len) → SpanPassed from s len a b
      at a b x l (yes y) = inr (inr (inr (x, y)))
      at a b x l (no y) = inl (omega arith)

      go : (a b : ℕ) → SpanPassed from s (len + 1) a b → SpanPassed from s len a b
      go a b (inl x) = inl x
      go a b (inr (inl x)) = inr (inl x)
      go a b (inr (inr (inl x))) = inr (inr (inl x))
      go a b (inr (inr (inr x))) = at a b x.0 x.1 (dec_lt b len)

  -- all spans that begin at s are settled
  pub filled_end : (len : ℕ) → n < s + len → Filled ws g h n from s len
      → Filled ws g h n from s (n + 1)
  filled_end len far f = record { done = λ a b q d. f.done a b q (go a b q d) }
    where
      go : (a b : ℕ) → a + b ≤ n → SpanPassed from s (n + 1) a b → SpanPassed from s len a b
      go a b q (inl x) = inl x
      go a b q (inr (inl x)) = inr (inl x)
      go a b q (inr (inr (inl x))) = inr (inr (inl x))
      go a b q (inr (inr (inr x))) = inr (inr (inr (x.0, omega (arith, x.0))))

  -- the parts of the next span are settled
  pub filled_ground : (len : ℕ) → s + len ≤ n → Filled ws g h n from s len → Ground ws g h n s len
  filled_ground len fit f =
      record { parts = λ a b x y l. f.done a b (omega arith) (go a b x l (ℕ_discrete a s)) }
    where
      go : (a b : ℕ) → s ≤ a → b < len → Dec (a ≡ s) → SpanPassed from s len a b
      go a b x l (yes e) = inr (inr (inr (e, l)))
      go a b x l (no e) = inr (inr (inl (omega arith)))

-- the next span is settled
pub filled_on : (ws ws' : List ℕ) (g : Rules) (h : Half) (n from s len : ℕ) → 2 ≤ len → s + len ≤ n
    → from < s + len → Filled ws g h n from s len → Closed ws ws' g h n s len
    → Filled ws' g h n from s (len + 1)
filled_on ws ws' g h n from s len long fit far f c = record { done = done }
  where
    -- a part of a span that is passed has another pair
    clear : (a b : ℕ) → a + b ≤ n → SpanPassed from s len a b → (i j : ℕ) → a ≤ i → i + j ≤ a + b
        → pair_at n i j ≡ pair_at n s len → ⊥
    clear a b q d i j x y e =
        let z = pair_at_same n i j s len (omega arith) fit e in
        ⊎_elim (λ o. omega (arith, z.0))
        (λ o. ⊎_elim (λ l. omega (arith, z.0))
        (λ l. ⊎_elim (λ m. omega (arith, z.0))
        (λ m. ⊎_elim (λ v. omega arith) (λ v. omega (arith, z.0, v.0, v.1)) m) l) d)
        z.1

    old : (a b : ℕ) → a + b ≤ n → SpanPassed from s len a b
        → Settled (One ws' n) (Two ws' n) g h a b
    old a b q d =
        settled_kept ws ws' g h n a b (pair_at n s len) c.kept (clear a b q d) (f.done a b q d)

    here : (a b : ℕ) → a + b ≤ n → a ≡ s → b < len + 1 → Dec (b < len)
        → Settled (One ws' n) (Two ws' n) g h a b
    here a b q e l (yes k) = old a b q (inr (inr (inr (e, k))))
    here a b q e l (no k) = subst₂ (Settled (One ws' n) (Two ws' n) g h) (sym e)
        (let z : len ≡ b = omega arith in z) c.settled

    done : (a b : ℕ) → a + b ≤ n → SpanPassed from s (len + 1) a b
        → Settled (One ws' n) (Two ws' n) g h a b
    done a b q (inl x) = old a b q (inl x)
    done a b q (inr (inl x)) = old a b q (inr (inl x))
    done a b q (inr (inr (inl x))) = old a b q (inr (inr (inl x)))
    done a b q (inr (inr (inr x))) = here a b q x.0 x.1 (dec_lt b len)

-- ---- the whole sheet

module _ (ws ws' : List ℕ) (g : Rules) (h : Half) (n : ℕ) (long : length h.word ≡ n)
    (inner : h.known ≤ n) where
  all_settled : (from : ℕ) → Filled ws' g h n from 0 (n + 1) → (a b : ℕ) → a + b ≤ n
      → Settled (One ws' n) (Two ws' n) g h a b
  all_settled from f a b q = f.done a b q (inr (inr (go (ℕ_discrete a 0))))
    where
      go : Dec (a ≡ 0) → (0 < a) ⊎ ((a ≡ 0) × (b < n + 1))
      go (yes e) = inr (e, omega arith)
      go (no e) = inl (omega arith)

  -- over the tokens before `upto`, where the pairs of open tokens allow for those of w, nothing is
  -- missed
  covers_to : ((a b : ℕ) → a + b ≤ n → Settled (One ws' n) (Two ws' n) g h a b) → (w : Word)
      → Completes h w → (upto : ℕ) → upto ≤ length w
      → ((i : ℕ) → h.known ≤ i → i < upto → May g n ws' i (token_at w i).terminal)
      → (s len A : ℕ) → s + len ≤ upto
      → (Derives g A (part w s len) → One ws' n s len A)
      × (TwoTrees g A (part w s len) → Two ws' n s len A)
  covers_to t w c upto far adm s len A fit = (
    λ d. subst (λ (B : ℕ). One ws' n s len B) d.witness.rooted
        (complete (One ws' n) g h each w c upto far
        (λ i B x y. may_one g w n ws' i (omega arith) (adm i x y) B) d.tree
        d.witness.valid s len fit d.witness.spelled),
    λ d. subst (λ (B : ℕ). Two ws' n s len B) d.witness₁.rooted
        (⊎_elim (λ e. absurd (d.differ e)) (λ q. q)
        (same (One ws' n) (Two ws' n) g h each again w c upto far
        (λ i B x y. may_one g w n ws' i (omega arith) (adm i x y) B)
        (λ i B x y. may_two g w n ws' i (omega arith) (adm i x y) B) d.first
        d.witness₁.valid s len fit d.second d.witness₂.valid
        (d.witness₁.rooted ∙ sym d.witness₂.rooted) d.witness₁.spelled
        d.witness₂.spelled)),
  )
    where
      each : (s len A i l : ℕ) → s + len ≤ length h.word → Told h s len
          → Stand (One ws' n) g (by_tokens h s len) s len A i l → One ws' n s len A
      each s len A i l fit u q = (t s len (omega arith)).each A i l u q

      again : (s len A : ℕ) → s + len ≤ length h.word → Told h s len
          → Again (One ws' n) (Two ws' n) g (by_tokens h s len) s len A → Two ws' n s len A
      again s len A fit u q = (t s len (omega arith)).again A u q

  pub charted : (from : ℕ) → FilledFrom ws ws' g h n from 0 → Charted ws ws' g h n
  charted from f = record {
    exact = record {
      one = λ s len A fit. ((settled s len (omega arith)).derived A fit, (self s len A fit).0);
      two = λ s len A fit. ((settled s len (omega arith)).more A fit, (self s len A fit).1);
    };
    covers = record {
      one = λ w m s len A fit. (covers_to settled w m.completes (length w) (omega arith)
          m.allows s len A fit).0;
      two = λ w m s len A fit. (covers_to settled w m.completes (length w) (omega arith)
          m.allows s len A fit).1;
    };
    given = f.given;
    beyond = settled_open h settled;
    past = f.past;
  }
    where
      settled : (a b : ℕ) → a + b ≤ n → Settled (One ws' n) (Two ws' n) g h a b
      settled = all_settled from f.filled

      self : (s len A : ℕ) → s + len ≤ h.known
          → (Derives g A (part h.word s len) → One ws' n s len A)
          × (TwoTrees g A (part h.word s len) → Two ws' n s len A)
      self = covers_to settled h.word (completes_self h) h.known (omega arith)
          (λ i x y. absurd (omega arith))

-- ---- laws of exact sheets

pub whole_part : (w : Word) (n : ℕ) → length w ≡ n → part w 0 n ≡ w
whole_part w n e = take_all n w (omega arith)

-- where all is known it is the span sheet
pub exact_sheet : {g : Rules} {w : Word} {n : ℕ} {ws : List ℕ} → length w ≡ n
    → 2 * pairs n ≤ length ws → Exact g w n ws n → SpanSheet g w ws
exact_sheet {g} {w} {n} {ws} e enough x =
    subst (λ (m : ℕ). 2 * pairs m ≤ length ws → Exact g w m ws m → SpanSheet g w ws) e
    (λ k y. record {
      enough = k;
      one = λ s len A fit small. y.one s len A fit;
      two = λ s len A fit
          small. y.two s len A fit;
    }) enough x

-- the verdict, by the pair of the whole word
module _ {g : Rules} {w : Word} {n : ℕ} {ws : List ℕ} (e : length w ≡ n)
    (x : Exact g w n ws n) where
  pub reads_none : (In (first_word ws n 0 n) 0 → ⊥) → NoTree g 0 w
  reads_none out = record {
    absent = λ t y. out
        ((x.one 0 n 0 (omega arith)).1 (subst (Derives g 0) (sym (whole_part w n e))
        (record { tree = t; witness = y })));
  }

  pub reads_second : In (second_word ws n 0 n) 0 ↔ TwoTrees g 0 w
  reads_second = subst (λ (v : Word). In (second_word ws n 0 n) 0 ↔ TwoTrees g 0 v)
      (whole_part w n e) (x.two 0 n 0 (omega arith))

  pub reads_two : In (second_word ws n 0 n) 0 → TwoTrees g 0 w
  reads_two = reads_second.0

  pub reads_one : In (first_word ws n 0 n) 0 → (In (second_word ws n 0 n) 0 → ⊥) → OneTree g 0 w
  reads_one m out =
      let d = subst (Derives g 0) (whole_part w n e) ((x.one 0 n 0 (omega arith)).0 m) in
      record {
        tree = d.tree;
        witness = d.witness;
        only =
            λ t y. go t y d.tree d.witness (Tree-discrete ℕ_discrete token? t d.tree);
      }
    where
      go : (t : Tree) → Witness g 0 w t → (u : Tree) → Witness g 0 w u → Dec (t ≡ u) → t ≡ u
      go t y u z (yes q) = q
      go t y u z (no q) = absurd (out
          ((x.two 0 n 0 (omega arith)).1 (subst (TwoTrees g 0) (sym (whole_part w n e))
          (record { first = t; second = u; witness₁ = y; witness₂ = z; differ = q }))))

-- a verdict beside the sheet that it is read off
pub judged : {r : Verdict} {g : Rules} {w : Word} {n : ℕ} {ws ws' : List ℕ} → length w ≡ n
    → 2 * pairs n ≤ length ws → Exact g w n ws' n → Past (2 * pairs n) ws ws' → Holds r g 0 w
    → Judged r g w n ws ws'
judged e enough x p h =
    record { verdict = h; sheet = exact_sheet e (omega (arith, p.long)) x; past = p }

-- with the single tokens right, the rest of the sheet may be filled
pub begun_ready : {ws ws' : List ℕ} {g : Rules} {w : Word} {n known : ℕ} → known ≡ n
    → Begun ws ws' g w n → Ready g (record { word = w; known = known }) n ws' 0 n
begun_ready {ws' = ws'} {g} {n = n} e b =
    record {
      low = omega arith;
      high = omega arith;
      within = omega arith;
      right = b.empty;
      leaves =
          λ i l. b.leaves i (omega arith);
      beyond = open_none g n ws' n (omega arith);
    }

-- a word meets h by words that have the same pairs of open tokens
meets_given : {g : Rules} {h : Half} {n : ℕ} {ws ws' : List ℕ} {w : Word} → length h.word ≡ n
    → Given ws ws' n → Meets g h n ws w → Meets g h n ws' w
meets_given {g} {h} {n} {w = w} e v m = record {
  completes = m.completes;
  allows = λ i x y.
      let z : length w ≡ n = m.completes.long ∙ e in
      subst₂ (Allows g (token_at w i).terminal) (sym (v.first i (omega arith)))
      (sym (v.second i (omega arith))) (m.allows i x y);
}

-- where the second word lacks 0 over the whole, no word that meets h has two trees
pub covers_none : {g : Rules} {h : Half} {n : ℕ} {ws ws' : List ℕ} → length h.word ≡ n
    → Given ws ws' n → CoversMet g h n ws' → (In (second_word ws' n 0 n) 0 → ⊥) → Hopeless g h n ws
covers_none {g} {h} {n} {ws} {ws'} e v k out = record {
  absent = λ w c d.
      let z : length w ≡ n = c.completes.long ∙ e in
      out (k.two w (meets_given e v c) 0 n 0 (omega arith)
      (subst (TwoTrees g 0) (sym (whole_part w n z)) d));
}

-- the answer of `hopeless`, by the second word of the whole
pub settles : {g : Rules} {h : Half} {n : ℕ} {ws ws' : List ℕ} {b : Bool} → length h.word ≡ n
    → Charted ws ws' g h n → Says b (In (second_word ws' n 0 n) 0) → Settles (not b) g h n ws ws'
settles {g} {h} {n} {ws' = ws'} {b = true} e c s = record {
  absent = λ q. absurd (true_not_false (sym q));
  right = c.exact;
  given = c.given;
  beyond = c.beyond;
  past = c.past;
}
settles {b = false} e c s = record {
  absent = λ q. covers_none e c.given c.covers (s.isnt refl);
  right = c.exact;
  given = c.given;
  beyond = c.beyond;
  past = c.past;
}
