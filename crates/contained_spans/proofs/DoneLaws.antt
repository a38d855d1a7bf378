-- The spans are worked off start by start, the longest first; when all are, the words say where
-- places are. Nothing is said of cycles.
use mathlib.Core.Path.{◌≡◌, refl, sym, ap, ◌∙◌, subst, subst₂}
use mathlib.Core.Logic.{◌⊎◌, inl, inr, ⊎_elim}
use mathlib.Core.List.{List, [], ◌++◌}
use Prim.Native.Nat.{ℕ, zero, suc, ◌+◌, ◌-◌, ◌≤◌, ◌<◌}
use native.Mathlib.Omega.{arith}
use native.Mathlib.Decide.{ℕ_discrete, dec_lt}
use lib.ListN.{length, get_or, length-append, length-set}
use lib.Seq.{get_or-set_same, get_or-set_other}
use Rattle.sets.specs.Sets.{In}
use Rattle.sets.proofs.Sets.{in_zero}
use Rattle.grammar.specs.declared.Rule.{Rule}
use Rattle.grammar.specs.declared.Clause.{Clause}
use Rattle.grammar.specs.Layout.{Word}
use Rattle.grammar.specs.Trees.{Tree, unary, binary, root, word, Rules, Valid, valid_unary}
use Rattle.grammar.specs.Trees.{valid_binary, Witness, Derives}
use Rattle.grammar.specs.Choices.{Top, Choice}
use Rattle.grammar.specs.Rows.{start_of}
use Rattle.grammar.specs.SpanSheet.{part, pairs, pair_at}
use Rattle.grammar.proofs.ChoiceLaws.{takes_of}
use Rattle.grammar.proofs.ByKind.{get_elem?_lt, inside}
use Rattle.marks.proofs.Words.{part_length}
use Rattle.tables.proofs.Places.{there}
use Rattle.spans.proofs.Places.{pair_at_same, pair_at_below}
use Rattle.spans.specs.Changes.{Cleared}
use Rattle.tables.specs.Tables.{rule}
use Rattle.places.specs.Places as Pl
use Rattle.places.specs.Places.{Several, StandsIn, Contains}
use Rattle.places.proofs.PlaceLaws.{Lies, part_whole, lies_left, lies_right, lies_whole}
use Rattle.cuts.proofs.Bits.{in_word}
use Rattle.contained_spans.specs.PlaceWords.{PlaceWords}
use Rattle.contained_spans.specs.Reached.{Bit}
use Rattle.cuts.specs.Joining.{Joins}
use Rattle.contained_spans.specs.Spreading.{Kids, Held, Spread, SpanBefore, SpanDone, Begun}
use Rattle.contained_spans.specs.Spreading.{Settled, Done, AllDone}
use Rattle.contained_spans.proofs.HeldLaws.{kids_kept, apart_from}

-- ---- the empty word has one pair

spread_empty : (g : Rules) (w : Word) (n : ℕ) (rs : List ℕ) (s a : ℕ) → Spread g w n rs s 0
    → Spread g w n rs a 0
unfolding pair_at
spread_empty g w n rs s a f A i l b c = go (rule g i).clause l (inside A [] i l c).1 (f A i l b c)
  where
    go : (e : Clause) (l : ℕ) → l ≤ 0 → Kids (Bit rs n) s 0 e l → Kids (Bit rs n) a 0 e l
    go Clause.Empty l h x = tt
    go (Clause.Atom t u) l h x = tt
    go (Clause.Unary B m) l h x = x
    go (Clause.Binary B C m) zero h x = x
    go (Clause.Binary B C m) (suc l) h x = absurd (omega arith)

settled_empty : (g : Rules) (w : Word) (n : ℕ) (rs ps : List ℕ) (s a : ℕ)
    → Settled g w n rs ps s 0 → Settled g w n rs ps a 0
unfolding pair_at
settled_empty g w n rs ps s a x =
    record { spread = spread_empty g w n rs s a x.spread; parts = x.parts }

-- ---- a span more

pub span_wide : {g : Rules} {w : Word} {n s len : ℕ} {rs rs' sn' ps ps' : List ℕ}
    → SpanDone g w n s len rs rs' sn' ps ps' → length ps' ≡ length ps
span_wide {n = n} {s} {len} {ps = ps} x = ap length x.wrote ∙ length-set ps (pair_at n s len)
    x.word

module _ (g : Rules) (w : Word) (n s len : ℕ) (rs rs' sn' ps ps' : List ℕ) (fit : s + len ≤ n)
    (wide : pairs n ≤ length ps) (x : SpanDone g w n s len rs rs' sn' ps ps') where
  -- a span that comes before stays settled
  settled_kept : (a b : ℕ) → a + b ≤ n → SpanBefore a b s len → Settled g w n rs ps a b
      → Settled g w n rs' ps' a b
  settled_kept a b h o y = record {
    spread = λ A i m z c. kids_kept rs rs' n a b (rule g i).clause m x.spreads.keeps
        (y.spread A i m (x.spreads.apart a b A h o z) c);
    parts = λ A. (
      λ i. let q = (y.parts A).0 (in_word same i) in
          (x.spreads.keeps (pair_at n a b) A q.0, q.1),
      λ q. in_word (sym same) ((y.parts A).1 (x.spreads.apart a b A h o q.0, q.1)),
    );
  }
    where
      same : get_or ps' (pair_at n a b) 0 ≡ get_or ps (pair_at n a b) 0
      same = ap (λ (l : List ℕ). get_or l (pair_at n a b) 0) x.wrote
          ∙ get_or-set_other ps (pair_at n s len) (pair_at n a b) x.word 0
          (apart_from n s len s len a b fit h o (omega arith) (omega arith))

  settled_here : Settled g w n rs' ps' s len
  settled_here = record {
    spread = x.spreads.spread;
    parts = λ A. let q = x.spreads.parts A in
        (λ i. q.0 (in_word same i), λ i. in_word (sym same) (q.1 i));
  }
    where
      same : get_or ps' (pair_at n s len) 0 ≡ x.word
      same = ap (λ (l : List ℕ). get_or l (pair_at n s len) 0) x.wrote
          ∙ get_or-set_same ps (pair_at n s len) x.word 0
          (omega (arith, pair_at_below n s len fit, wide))

  wide_kept : pairs n ≤ length ps'
  wide_kept = omega (arith, wide, span_wide x)

  pub done_step : 0 < len → Done g w n s len rs ps → Done g w n s (len - 1) rs' ps'
  done_step pos d = record {
    long = omega (arith, d.long, x.spreads.long);
    wide = wide_kept;
    begun = x.spreads.keeps (pair_at n 0 n) 0 d.begun;
    sound = x.spreads.sound d.sound;
    settled = λ a b h p o. go a b h p o (ℕ_discrete a s) (ℕ_discrete b len);
  }
    where
      old : (a b : ℕ) → a + b ≤ n → 0 < b → (a < s) ⊎ ((a ≡ s) × (len < b))
          → Settled g w n rs' ps' a b
      old a b h p o = settled_kept a b h (p, inr o) (d.settled a b h p o)

      go : (a b : ℕ) → a + b ≤ n → 0 < b → (a < s) ⊎ ((a ≡ s) × (len - 1 < b)) → Dec (a ≡ s)
          → Dec (b ≡ len) → Settled g w n rs' ps' a b
      go a b h p (inl o) e f = old a b h p (inl o)
      go a b h p (inr o) (yes e) (yes f) =
          subst₂ (λ (y z : ℕ). Settled g w n rs' ps' y z) (sym e) (sym f) settled_here
      go a b h p (inr o) (yes e) (no f) = old a b h p (inr (e, omega (arith, o.1, f, pos)))
      go a b h p (inr o) (no e) f = absurd (e o.0)

  -- the empty word comes last
  pub done_last : s ≡ 0 → len ≡ 0 → Done g w n n n rs ps → AllDone g w n rs' ps'
  done_last e z d = record {
    long = omega (arith, d.long, x.spreads.long);
    wide = wide_kept;
    begun = x.spreads.keeps (pair_at n 0 n) 0 d.begun;
    sound = x.spreads.sound d.sound;
    settled = λ a b h. go a b h (ℕ_discrete b 0);
  }
    where
      here : Settled g w n rs' ps' 0 0
      here = subst₂ (λ (y v : ℕ). Settled g w n rs' ps' y v) e z settled_here

      go : (a b : ℕ) → a + b ≤ n → Dec (b ≡ 0) → Settled g w n rs' ps' a b
      go a b h (yes f) =
          subst (λ (y : ℕ). Settled g w n rs' ps' a y) (sym f)
          (settled_empty g w n rs' ps' 0 a here)
      go a b h (no f) = settled_kept a b h (omega arith, inl z)
          (d.settled a b h (omega arith) (inl (omega arith)))

-- ---- a start more

pub start_first : {g : Rules} {w : Word} {n s : ℕ} {rs ps : List ℕ} → Done g w n s n rs ps
    → Done g w n s (n - s) rs ps
start_first {s = s} d = record {
  long = d.long;
  wide = d.wide;
  begun = d.begun;
  sound = d.sound;
  settled = λ a b h p o. d.settled a b h p (⊎_elim inl
      (λ z. absurd (omega (arith, h, z.0, z.1))) o);
}

pub start_last : {g : Rules} {w : Word} {n s len : ℕ} {rs ps : List ℕ} → len ≡ 0
    → Done g w n s len rs ps → Done g w n (s + 1) n rs ps
start_last {s = s} {len} e d = record {
  long = d.long;
  wide = d.wide;
  begun = d.begun;
  sound = d.sound;
  settled = λ a b h p o. d.settled a b h p (⊎_elim (λ z. split a b p z (dec_lt a s))
      (λ z. absurd (omega (arith, h, z.0, z.1))) o);
}
  where
    split : (a b : ℕ) → 0 < b → a < s + 1 → Dec (a < s) → (a < s) ⊎ ((a ≡ s) × (len < b))
    split a b p z (yes y) = inl y
    split a b p z (no y) = inr (omega arith, omega arith)

-- ---- at first only the whole sentence is there, with the start

pub begun : (n : ℕ) (rs rs₁ rs₂ : List ℕ) → pairs n ≤ length rs → Cleared rs rs₁ (pairs n)
    → Joins (λ q B. (q ≡ pair_at n 0 n) × (B ≡ 0)) rs₁ rs₂ → Begun n rs₂
begun n rs rs₁ rs₂ h c j = record {
  long = omega (arith, h, j.long, c.past.long);
  start = j.all (pair_at n 0 n) 0 (refl, refl);
  only = λ q B l x. ⊎_elim (λ y. absurd (in_zero B (subst (λ (s : ℕ). In s B) (c.zeros q l) y)))
      (λ y. y) (j.only q B x);
}

pub done_start : (g : Rules) (w : Word) (n : ℕ) (rs ps : List ℕ) → length w ≡ n → Derives g 0 w
    → pairs n ≤ length ps → Begun n rs → Done g w n 0 n rs ps
done_start g w n rs ps e d wide b = record {
  long = b.long;
  wide = wide;
  begun = b.start;
  sound = record {
    held = λ s len A k x. held s len A k
        (b.only (pair_at n s len) A (pair_at_below n s len k) x);
  };
  settled = λ a b k p o. absurd (⊎_elim (λ z. omega arith) (λ z. omega (arith, k, z.0, z.1)) o);
}
  where
    all : Held g w 0 (length w) 0
    all = record {
      derives = subst (Derives g 0) (sym (part_whole w)) d;
      extends = λ t x. (t, subst (λ (v : Word). Witness g 0 v t) (part_whole w) x, 0, Pl.top, refl);
    }

    here : (a b : ℕ) → a + b ≤ n → (b ≡ n) × ((b ≡ 0) ⊎ (a ≡ 0)) → Held g w a b 0
    here a b k x = subst₂ (λ (s l : ℕ). Held g w s l 0) (let y : 0 ≡ a = omega (arith, x.0) in y)
        (sym x.0) (subst (λ (x : ℕ). Held g w 0 x 0) e all)

    held : (a b A : ℕ) → a + b ≤ n → (pair_at n a b ≡ pair_at n 0 n) × (A ≡ 0) → Held g w a b A
    held a b A k x = subst (Held g w a b) (sym x.1)
        (here a b k (pair_at_same n a b 0 n k (omega arith) x.0))

-- ---- when all spans are worked off

module _ (g : Rules) (w : Word) (rs ps : List ℕ) (d : AllDone g w (length w) rs ps) where
  -- the choice at the top of a node, and what lies beneath it
  kids_of : (t : Tree) → Valid g t → (i : ℕ) → Lies w t i
      → Bit rs (length w) i (length (word t)) (root t)
      → (p : ℕ) × (k : ℕ) × (r : Rule) × Top r k t × Kids (Bit rs (length w)) i (length (word t))
      r.clause k
  kids_of t v i a b =
      let x = takes_of v in
      let y = x.2 in
      let c : Choice g (root t) (part w i (length (word t))) x.0 x.1 = record {
        tree = t;
        witness = record { rooted = refl; spelled = a.spelled; valid = v };
        takes =
            y;
      } in
      let e : rule g x.0 ≡ y.rule = let p = y.stands in let q =
      there g x.0 (get_elem?_lt g x.0 y.stands) in cc in (
        x.0,
        x.1,
        y.rule,
        y.top,
        subst (λ (r : Rule). Kids (Bit rs (length w)) i (length (word t)) r.clause x.1) e
            ((d.settled i (length (word t)) a.fits).spread (root t) x.0 x.1 b c),
      )

  below_unary : (A : ℕ) (s : Tree) → Valid g (unary A s) → (i : ℕ) → Lies w (unary A s) i
      → Bit rs (length w) i (length (word s)) A → Bit rs (length w) i (length (word s)) (root s)
  below_unary A s v i a b =
      let x = kids_of (unary A s) v i a b in
      let y : Kids (Bit rs (length w)) i (length (word s)) (Clause.Unary (root s) x.3.0)
      x.1 = subst (λ (r : Rule). Kids (Bit rs (length w)) i (length (word s)) r.clause
      x.1) x.3.1 x.4 in y

  below_binary : (A : ℕ) (u v : Tree) → Valid g (binary A u v) → (i : ℕ) → Lies w (binary A u v) i
      → Bit rs (length w) i (length (word u ++ word v)) A
      → Bit rs (length w) i (length (word u)) (root u) × Bit rs (length w) (i + length (word u))
      (length (word v)) (root v)
  below_binary A u v z i a b =
      let x = kids_of (binary A u v) z i a b in
      let n : length (word u ++ word v) ≡ length (word u) + length (word v) =
      length-append (word u) (word v) in
      let y : Kids (Bit rs (length w)) i (length (word u ++ word v))
      (Clause.Binary (root u) (root v) x.3.0) (length (word u)) =
      subst₂ (λ (r : Rule) (k : ℕ). Kids (Bit rs (length w)) i (length (word u ++ word v))
      r.clause k) x.3.1 x.3.2 x.4 in (
        y.0,
        subst (λ (l : ℕ). Bit rs (length w) (i + length (word u)) l (root v))
            (let q : length (word u ++ word v) - length (word u) ≡ length (word v) = omega arith in
            q) y.1,
      )

  -- each node of a whole tree is in the words
  node_in : {t : Tree} (T : Tree) (i j : ℕ) → StandsIn t i T j → Valid g T → Lies w T i
      → Bit rs (length w) i (length (word T)) (root T)
      → Bit rs (length w) j (length (word t)) (root t)
  node_in T i j Pl.top v a b = b
  node_in (unary A s) i j (Pl.below x) (valid_unary m h y v) a b =
      node_in s i j x v (record { fits = a.fits; spelled = a.spelled })
      (below_unary A s (valid_unary m h y v) i a b)
  node_in (binary A u z) i j (Pl.left x) (valid_binary m h y p q) a b =
      node_in u i j x p (lies_left w u z i A a)
      (below_binary A u z (valid_binary m h y p q) i a b).0
  node_in (binary A u z) i j (Pl.right x) (valid_binary m h y p q) a b =
      node_in z (i + length (word u)) j x q (lies_right w u z i A a)
      (below_binary A u z (valid_binary m h y p q) i a b).1

  start_same : (f s len A : ℕ) → start_of f len ≡ start_of s len → Bit rs (length w) f len A
      → Bit rs (length w) s len A
  unfolding pair_at
  start_same f s zero A e b = b
  start_same f s (suc l) A e b = subst (λ (x : ℕ). Bit rs (length w) x (suc l) A) e b

  contains_bit : (s len A : ℕ) → Contains g w A (start_of s len) len → Bit rs (length w) s len A
  contains_bit s len A c =
      let b = node_in c.whole 0 c.from c.inside c.witness.valid
      (lies_whole c.witness) (rw (c.witness.spelled, c.witness.rooted) d.begun) in
      start_same c.from s len A c.starts
      (subst₂ (λ (l X : ℕ). Bit rs (length w) c.from l X) c.long c.rooted b)

  bit_contains : (s len A : ℕ) → s + len ≤ length w → Bit rs (length w) s len A
      → Contains g w A (start_of s len) len
  bit_contains s len A h b =
      let x = d.sound.held s len A h b in
      let t = x.derives in
      let z = x.extends t.tree t.witness in
      record {
        whole = z.0;
        witness = z.1;
        node = t.tree;
        from = z.2;
        inside = z.3;
        rooted = t.witness.rooted;
        long = ap length t.witness.spelled ∙ part_length w s len h;
        starts = z.4;
      }

  several_start : (s len A : ℕ) → Several g A (part w s len)
      → Several g A (part w (start_of s len) len)
  several_start s zero A x = x
  several_start s (suc l) A x = x

  start_several : (s len A : ℕ) → Several g A (part w (start_of s len) len)
      → Several g A (part w s len)
  start_several s zero A x = x
  start_several s (suc l) A x = x

  pub places_whole : PlaceWords g w ps
  places_whole = record {
    enough = d.wide;
    is = λ s len A h. let q = (d.settled s len h).parts A in (
      λ i. let b = q.0 i in record {
        contained = bit_contains s len A h b.0;
        several = several_start s len A b.1;
      },
      λ x. q.1 (contains_bit s len A x.contained, start_several s len A x.several),
    );
  }

-- THE THEOREM: the words say where places are
pub places : (g : Rules) (w : Word) (n : ℕ) (rs ps : List ℕ) → length w ≡ n → AllDone g w n rs ps
    → PlaceWords g w ps
places g w n rs ps e d =
    places_whole g w rs ps (subst (λ (x : ℕ). AllDone g w x rs ps) (sym e) d)
