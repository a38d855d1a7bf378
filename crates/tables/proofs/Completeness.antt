-- Completeness: tables that have all that stands over each span have every valid tree, and tell any
-- two valid trees apart. One induction on the tree; nothing is said of cycles.
use mathlib.Core.Path.{◌≡◌, refl, sym, ap, ap₂, ◌∙◌, subst, subst₂}
use mathlib.Core.Logic.{◌⊎◌, inl, inr, ⊎_elim}
use mathlib.Core.List.{[], ◌∷◌, ◌++◌}
use Prim.Native.Nat.{ℕ, ◌+◌, ◌-◌, ◌≤◌, ◌<◌}
use native.Mathlib.Omega.{arith}
use native.Mathlib.Decide.{ℕ_discrete, dec_lt}
use lib.ListN.{length}
use Rattle.grammar.specs.declared.Rule.{Rule}
use Rattle.grammar.specs.declared.Clause.{Clause}
use Rattle.grammar.specs.declared.UnaryMark.{UnaryMark}
use Rattle.grammar.specs.declared.BinaryMark.{BinaryMark}
use Rattle.grammar.specs.Layout.{Word}
use Rattle.grammar.specs.Layout as Mark
use Rattle.grammar.proofs.Marks.{token?}
use Rattle.grammar.specs.Trees.{Rules, Tree, Tree-discrete, empty, leaf, unary, binary, root, word}
use Rattle.grammar.specs.Trees.{Valid, valid_empty, valid_leaf, valid_unary, valid_binary, Derives}
use Rattle.grammar.specs.Trees.{TwoTrees, Covers}
use Rattle.grammar.specs.SpanSheet.{part}
use Rattle.marks.specs.Half.{Half, Completes}
use Rattle.marks.proofs.Words.{part_length, cut}
use Rattle.marks.proofs.HalfLaws.{may_be, may_keep, may_pair}
use Rattle.tables.specs.Tables.{Table, by_tokens, Fits, Stand, Below, Again, rule}
use Rattle.tables.specs.Tables.Again.{apart, below}
use Rattle.grammar.specs.Choices.{Same}
use Rattle.tables.specs.Settled.{Told}
use Rattle.tables.proofs.Places.{place}

-- ---- the top of a tree

-- the tree's top node follows the clause c, with a left word of l tokens
abbrev pub Headed : Tree → Clause → ℕ → Type 0
Headed (empty A) c l = (c ≡ Clause.Empty) × (l ≡ 0)
Headed (leaf A t) c l =
    (a : ℕ) × (b : ℕ) × (c ≡ Clause.Atom a b) × Covers a b t.terminal × (l ≡ 0)
Headed (unary A t) c l = (m : UnaryMark) × (c ≡ Clause.Unary (root t) m) × (l ≡ 0)
Headed (binary A s t) c l =
    (m : BinaryMark) × (c ≡ Clause.Binary (root s) (root t) m) × (l ≡ length (word s))

-- ---- completeness: a closed table has every valid tree

-- all that stands is in the table
abbrev pub Shut : Table → Rules → Half → Type 0
Shut one g h = (s len A i l : ℕ) → s + len ≤ length h.word → Told h s len
    → Stand one g (by_tokens h s len) s len A i l → one s len A

abbrev pub Shut₂ : Table → Table → Rules → Half → Type 0
Shut₂ one two g h = (s len A : ℕ) → s + len ≤ length h.word → Told h s len
    → Again one two g (by_tokens h s len) s len A → two s len A

-- what has a tree over an open token of w before `upto` is in the table; and what has two
abbrev pub Given₁ : Table → Rules → Half → Word → ℕ → Type 0
Given₁ one g h w upto = (s A : ℕ) → h.known ≤ s → s < upto → Derives g A (part w s 1) → one s 1 A

abbrev pub Given₂ : Table → Rules → Half → Word → ℕ → Type 0
Given₂ two g h w upto = (s A : ℕ) → h.known ≤ s → s < upto → TwoTrees g A (part w s 1) → two s 1 A

-- a span is one open token or not
told? : (h : Half) (s len : ℕ) → Told h s len ⊎ ((len ≡ 1) × (h.known ≤ s))
told? h s len = go (ℕ_discrete len 1) (dec_lt s h.known)
  where
    go : Dec (len ≡ 1) → Dec (s < h.known) → Told h s len ⊎ ((len ≡ 1) × (h.known ≤ s))
    go (no n) d = inl (λ e. absurd (n e))
    go (yes e) (yes k) = inl (λ x. k)
    go (yes e) (no k) = inr (e, omega arith)

-- the rule at the top of t
pub record TopRule (one : Table) (g : Rules) (ts : Half) (s len : ℕ) (t : Tree) : Type 0 where
  pub i : ℕ
  pub l : ℕ
  pub stand : Stand one g (by_tokens ts s len) s len (root t) i l
  pub headed : Headed t (rule g i).clause l

fits_as : (one : Table) (ts : Half) (s len l : ℕ) {r r' : Rule} → r ≡ r'
    → Fits one (by_tokens ts s len) s len r'.clause l
    → Fits one (by_tokens ts s len) s len r.clause l
fits_as one ts s len l {r} {r'} e h =
    subst (λ (x : Rule). Fits one (by_tokens ts s len) s len x.clause l) (sym e) h

module _ (one : Table) (g : Rules) (hf : Half) (closed : Shut one g hf) (ts : Word)
    (cs : Completes hf ts) (upto : ℕ) (far : upto ≤ length ts)
    (given : Given₁ one g hf ts upto) where
  -- a tree of a span is in the table, if its top is found where the span is not one open token
  found : (t : Tree) → Valid g t → (s len : ℕ) → s + len ≤ upto → word t ≡ part ts s len
      → (Told hf s len → TopRule one g hf s len t) → one s len (root t)
  found t v s len h e p = ⊎_elim
      (λ k. let q = p k in
      closed s len (root t) q.i q.l (omega (arith, cs.long)) k q.stand)
      (λ o. subst (λ (m : ℕ). one s m (root t)) (sym o.0)
      (given s (root t) o.1 (omega (arith, o.0))
      (record {
        tree = t;
        witness = record
            { rooted = refl; spelled = e ∙ ap (part ts s) o.0; valid = v };
      })))
      (told? hf s len)

  -- the top of a tree of a span, and its place in the table
  both : (t : Tree) → Valid g t → (s len : ℕ) → s + len ≤ upto → word t ≡ part ts s len
      → (Told hf s len → TopRule one g hf s len t) × one s len (root t)
  both (empty A) (valid_empty mem) s len h e = let p = at in
      (p, found (empty A) (valid_empty mem) s len h e p)
    where
      at : Told hf s len → TopRule one g hf s len (empty A)
      at k =
          let q = place g mem in
          let none : len ≡ 0 = sym (part_length ts s len (omega arith)) ∙ ap length (sym e) in
          record {
            i = q.0;
            l = 0;
            stand = record {
              within = q.1;
              left = ap (λ (r : Rule). r.left) q.2;
              fits = fits_as
                  one hf s len 0 q.2 (none, refl);
            };
            headed = (ap (λ (r : Rule). r.clause) q.2, refl);
          }
  both (leaf A t) (valid_leaf mem) s len h e = let p = at in
      (p, found (leaf A t) (valid_leaf mem) s len h e p)
    where
      at : Told hf s len → TopRule one g hf s len (leaf A t)
      at k =
          let q = place g mem.rule in
          let n : len ≡ 1 = sym (part_length ts s len (omega arith)) ∙ ap length (sym e) in
          record {
            i = q.0;
            l = 0;
            stand = record {
              within = q.1;
              left = ap (λ (r : Rule). r.left) q.2;
              fits = fits_as
                  one hf s len 0 q.2 (
                    n,
                    refl,
                    may_be hf ts cs s len mem.low mem.high t
                        mem.covers (omega arith) (k n) (sym e),
                  );
            };
            headed = (mem.low, mem.high, ap (λ (r : Rule). r.clause) q.2, mem.covers, refl);
          }
  both (unary A t) (valid_unary m mem mark v) s len h e =
      let p : Told hf s len → TopRule one g hf s len (unary A t) = at (both t v s len h e).1 in
      (p, found (unary A t) (valid_unary m mem mark v) s len h e p)
    where
      at : one s len (root t) → Told hf s len → TopRule one g hf s len (unary A t)
      at b k =
          let q = place g mem in
          record {
            i = q.0;
            l = 0;
            stand = record {
              within = q.1;
              left = ap (λ (r : Rule). r.left) q.2;
              fits = fits_as
                  one hf s len 0 q.2 (
                    b,
                    may_keep hf ts cs m s len (omega arith)
                        (subst (Mark.Unary m) e mark),
                    refl,
                  );
            };
            headed = (m, ap (λ (r : Rule). r.clause) q.2, refl);
          }
  both (binary A u v) (valid_binary m mem mark vu vv) s len h e =
      let k = cut ts (word u) (word v) s len (omega arith) e in
      let fit = k.fits in
      let p : Told hf s len → TopRule one g hf s len (binary A u v) =
      at (both u vu s (length (word u)) (omega arith) k.front).1
      (both v vv (s + length (word u)) (len - length (word u)) (omega arith) k.rest).1 in
      (p, found (binary A u v) (valid_binary m mem mark vu vv) s len h e p)
    where
      at : one s (length (word u)) (root u)
          → one (s + length (word u)) (len - length (word u)) (root v) → Told hf s len
          → TopRule one g hf s len (binary A u v)
      at a b x =
          let q = place g mem in
          let k = cut ts (word u) (word v) s len (omega arith) e in
          let fit = k.fits in
          record {
            i = q.0;
            l = length (word u);
            stand = record {
              within = q.1;
              left = ap (λ (r : Rule). r.left) q.2;
              fits = fits_as
                  one hf s len (length (word u)) q.2 (
                    fit,
                    a,
                    b,
                    may_pair hf ts cs m s (length (word u)) (len - length (word u))
                        (omega arith) (subst₂ (Mark.Binary m) k.front k.rest mark),
                  );
            };
            headed = (m, ap (λ (r : Rule). r.clause) q.2, refl);
          }

  pub top : (t : Tree) → Valid g t → (s len : ℕ) → s + len ≤ upto → Told hf s len
      → word t ≡ part ts s len → TopRule one g hf s len t
  top t v s len h k e = (both t v s len h e).0 k

  -- every valid tree of a span is in the table
  pub complete : (t : Tree) → Valid g t → (s len : ℕ) → s + len ≤ upto → word t ≡ part ts s len
      → one s len (root t)
  complete t v s len h e = (both t v s len h e).1

-- ---- completeness of the second table: two valid trees of a span are one, or the table has their
-- nonterminal

module _ (one two : Table) (g : Rules) (hf : Half) (closed : Shut one g hf)
    (closed₂ : Shut₂ one two g hf) (ts : Word) (cs : Completes hf ts) (upto : ℕ)
    (far : upto ≤ length ts) (given : Given₁ one g hf ts upto)
    (given₂ : Given₂ two g hf ts upto) where
  inside₂ : (s len : ℕ) → s + len ≤ upto → s + len ≤ length hf.word
  inside₂ s len h = omega (arith, cs.long)

  -- over one open token two trees are one, or its pair has them
  apart_or : (t t' : Tree) → Valid g t → Valid g t' → (s len : ℕ) → s + len ≤ upto
      → root t ≡ root t' → word t ≡ part ts s len → word t' ≡ part ts s len
      → (Told hf s len → (t ≡ t') ⊎ two s len (root t)) → (t ≡ t') ⊎ two s len (root t)
  apart_or t t' v v' s len h r e e' f =
      ⊎_elim f (λ o. go o (Tree-discrete ℕ_discrete token? t t')) (told? hf s len)
    where
      go : (len ≡ 1) × (hf.known ≤ s) → Dec (t ≡ t') → (t ≡ t') ⊎ two s len (root t)
      go o (yes q) = inl q
      go o (no q) = inr (subst (λ (m : ℕ). two s m (root t)) (sym o.0)
          (given₂ s (root t) o.1 (omega (arith, o.0)) (record {
            first = t;
            second = t';
            witness₁ = record { rooted = refl; spelled = e ∙ ap (part ts s) o.0; valid = v };
            witness₂ = record { rooted = sym r; spelled = e' ∙ ap (part ts s) o.0; valid = v' };
            differ = q;
          })))

  -- what is known of two trees t and t' that stand at the same choice
  Agree : ℕ → ℕ → Tree → Type 0
  Agree s len t = (t' : Tree) → Valid g t' → root t ≡ root t' → word t ≡ part ts s len
      → word t' ≡ part ts s len → (t ≡ t') ⊎ two s len (root t)

  same_unary : (s len A : ℕ) (u : Tree) → s + len ≤ upto → Told hf s len → Agree s len u
      → word u ≡ part ts s len
      → (i l : ℕ) → Stand one g (by_tokens hf s len) s len A i l
      → Headed (unary A u) (rule g i).clause l
      → (t' : Tree) → Valid g t' → A ≡ root t' → word t' ≡ part ts s len
      → Headed t' (rule g i).clause l → (unary A u ≡ t') ⊎ two s len A
  unfolding Agree
  same_unary s len A u h k ih e i l c d (empty B) v r e' d' = let p = d.1 in let p' = d'.0 in
      inl (cc)
  same_unary s len A u h k ih e i l c d (leaf B t) v r e' d' = let p = d.1 in let p' = d'.2 in
      inl (cc)
  same_unary s len A u h k ih e i l c d (unary B w) (valid_unary m mem mark v) r e' d' =
      let p = d.1 in
      let p' = d'.1 in
      ⊎_elim (λ q. inl (ap₂ unary r q))
      (λ q. inr (closed₂ s len A (inside₂ s len h) k
      (below i l c (subst (λ (x : Clause). Below two s len x l) (sym p) q)))) (ih w v (cc) e e')
  same_unary s len A u h k ih e i l c d (binary B w x) v r e' d' = let p = d.1 in let p' = d'.1 in
      inl (cc)

  same_binary : (s len A : ℕ) (u v : Tree) → s + len ≤ upto → Told hf s len
      → word u ++ word v ≡ part ts s len
      → Agree s (length (word u)) u → Agree (s + length (word u)) (len - length (word u)) v
      → (i l : ℕ) → Stand one g (by_tokens hf s len) s len A i l
      → Headed (binary A u v) (rule g i).clause l
      → (t' : Tree) → Valid g t' → A ≡ root t' → word t' ≡ part ts s len
      → Headed t' (rule g i).clause l → (binary A u v ≡ t') ⊎ two s len A
  unfolding Agree
  same_binary s len A u v h o e iu iv i l c d (empty B) vt r e' d' = let p = d.1 in let p' =
      d'.0 in inl (cc)
  same_binary s len A u v h o e iu iv i l c d (leaf B t) vt r e' d' = let p = d.1 in let p' =
      d'.2 in inl (cc)
  same_binary s len A u v h o e iu iv i l c d (unary B w) vt r e' d' = let p = d.1 in let p' =
      d'.1 in inl (cc)
  same_binary s len A u v h o e iu iv i l c d (binary B w x) (valid_binary m mem mark vw vx) r e'
      d' =
      let p = d.1 in
      let p' = d'.1 in
      let k = cut ts (word u) (word v) s len (omega arith) e in
      let k' = cut ts (word w) (word x) s len (omega arith) e' in
      let n : length (word w) ≡ length (word u) = sym d'.2 ∙ d.2 in
      let ew : word w ≡ part ts s (length (word u)) = k'.front ∙ ap (part ts s) n in
      let ex : word x ≡ part ts (s + length (word u)) (len - length (word u)) =
      k'.rest ∙ ap (λ (y : ℕ). part ts (s + y) (len - y)) n in
      let again : Below two s len (rule g i).clause l → two s len A =
      λ b. closed₂ s len A (inside₂ s len h) o (below i l c b) in
      let down : two s (length (word u)) (root u) ⊎ two (s + length (word u))
      (len - length (word u)) (root v) → two s len A =
      λ b. again (subst (λ (y : Clause). Below two s len y l) (sym p)
      (subst (λ (y : ℕ). two s y (root u) ⊎ two (s + y) (len - y) (root v)) (sym d.2) b)) in
      ⊎_elim (λ q. ⊎_elim (λ q'. inl (ap₃ r q q')) (λ b. inr (down (inr b)))
      (iv x vx (cc) k.rest ex)) (λ b. inr (down (inl b))) (iu w vw (cc) k.front ew)
    where
      ap₃ : A ≡ B → u ≡ w → v ≡ x → binary A u v ≡ binary B w x
      ap₃ a b c = cc

  -- two trees of a span are one, or the table has them: by the choices at their tops
  meet : (s len : ℕ) → s + len ≤ upto → Told hf s len → (t t' : Tree) → root t ≡ root t'
      → (p : TopRule one g hf s len t) (p' : TopRule one g hf s len t')
      → (Headed t' (rule g p.i).clause p.l → (t ≡ t') ⊎ two s len (root t))
      → (t ≡ t') ⊎ two s len (root t)
  meet s len h k t t' r p p' f = go (ℕ_discrete p.i p'.i) (ℕ_discrete p.l p'.l)
    where
      other : Stand one g (by_tokens hf s len) s len (root t) p'.i p'.l
      other = subst (λ (A : ℕ). Stand one g (by_tokens hf s len) s len A p'.i p'.l) (sym r)
          p'.stand

      differ : (Same p.i p.l p'.i p'.l → ⊥) → (t ≡ t') ⊎ two s len (root t)
      differ n = inr (closed₂ s len (root t) (inside₂ s len h) k
          (apart p.i p.l p'.i p'.l p.stand other n))

      go : Dec (p.i ≡ p'.i) → Dec (p.l ≡ p'.l) → (t ≡ t') ⊎ two s len (root t)
      go (yes a) (yes b) =
          f (subst₂ (λ (i l : ℕ). Headed t' (rule g i).clause l) (sym a) (sym b) p'.headed)
      go (yes a) (no n) = differ (λ q. n q.1)
      go (no n) q = differ (λ q. n q.0)

  pub same : (t : Tree) → Valid g t → (s len : ℕ) → s + len ≤ upto
      → (t' : Tree) → Valid g t' → root t ≡ root t' → word t ≡ part ts s len
      → word t' ≡ part ts s len → (t ≡ t') ⊎ two s len (root t)
  unfolding Agree
  same (empty A) v s len h t' v' r e e' =
      apart_or (empty A) t' v v' s len h r e e'
      (λ k. let p = top one g hf closed ts cs upto far given (empty A) v s len h k e in
      meet s len h k (empty A) t' r p (top one g hf closed ts cs upto far given t' v' s len h k e')
      (λ d'. same_empty t' v' r e' d' p.headed))
    where
      same_empty : (t' : Tree) → Valid g t' → A ≡ root t' → word t' ≡ part ts s len
          → {c : Clause} {l : ℕ} → Headed t' c l → Headed (empty A) c l
          → (empty A ≡ t') ⊎ two s len A
      same_empty (empty B) w r e' d' d = inl (ap empty r)
      same_empty (leaf B x) w r e' d' d = let p = d.0 in let p' = d'.2 in inl (cc)
      same_empty (unary B x) w r e' d' d = let p = d.0 in let p' = d'.1 in inl (cc)
      same_empty (binary B x y) w r e' d' d = let p = d.0 in let p' = d'.1 in inl (cc)
  same (leaf A x) v s len h t' v' r e e' =
      apart_or (leaf A x) t' v v' s len h r e e'
      (λ k. let p = top one g hf closed ts cs upto far given (leaf A x) v s len h k e in
      meet s len h k (leaf A x) t' r p (top one g hf closed ts cs upto far given t' v' s len h k e')
      (λ d'. same_leaf t' v' r e' d' p.headed))
    where
      same_leaf : (t' : Tree) → Valid g t' → A ≡ root t' → word t' ≡ part ts s len
          → {c : Clause} {l : ℕ} → Headed t' c l → Headed (leaf A x) c l
          → (leaf A x ≡ t') ⊎ two s len A
      same_leaf (empty B) w r e' d' d = let p = d.2 in let p' = d'.0 in inl (cc)
      same_leaf (leaf B y) w r e' d' d = let q : x ∷ [] ≡ y ∷ [] = e ∙ sym e' in inl (cc)
      same_leaf (unary B y) w r e' d' d = let p = d.2 in let p' = d'.1 in inl (cc)
      same_leaf (binary B y z) w r e' d' d = let p = d.2 in let p' = d'.1 in inl (cc)
  same (unary A u) (valid_unary m mem mark v) s len h t' v' r e e' =
      let ih = same u v s len h in
      apart_or (unary A u) t' (valid_unary m mem mark v) v' s len h r e e'
      (λ k. let p = top one g hf closed ts cs upto far given (unary A u) (valid_unary m mem mark v)
      s len h k e in
      meet s len h k (unary A u) t' r p
      (top one g hf closed ts cs upto far given t' v' s len h k e')
      (λ d'. same_unary s len A u h k ih e p.i p.l p.stand p.headed t' v' r e' d'))
  same (binary A u w) (valid_binary m mem mark v x) s len h t' v' r e e' =
      let q = cut ts (word u) (word w) s len (omega arith) e in
      let fit = q.fits in
      let iu = same u v s (length (word u)) (omega arith) in
      let iw = same w x (s + length (word u)) (len - length (word u)) (omega arith) in
      apart_or (binary A u w) t' (valid_binary m mem mark v x) v' s len h r e e'
      (λ k. let p = top one g hf closed ts cs upto far given (binary A u w)
      (valid_binary m mem mark v x) s len h k e in
      meet s len h k (binary A u w) t' r p
      (top one g hf closed ts cs upto far given t' v' s len h k e')
      (λ d'. same_binary s len A u w h k e iu iw p.i p.l p.stand p.headed t' v' r e'
      d'))
