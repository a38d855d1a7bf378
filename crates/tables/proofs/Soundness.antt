-- Soundness: over sound parts, a rule that stands has a valid tree, and what the second table takes
-- in has two. That two rules give two trees rests on their being distinct (refusal 5).
use mathlib.Core.Path.{◌≡◌, refl, sym, ap, ap₂, ◌∙◌, subst, subst₂}
use mathlib.Core.Logic.{⊎_elim}
use mathlib.Core.List.{◌++◌, Memᴰ}
use Prim.Native.Nat.{ℕ, ◌+◌, ◌-◌, ◌≤◌}
use native.Mathlib.Omega.{arith}
use lib.ListN.{length}
use Rattle.grammar.specs.declared.Clause.{Clause}
use Rattle.grammar.specs.Layout.{Word}
use Rattle.grammar.specs.Layout as Mark
use Rattle.grammar.specs.Trees.{Rules, Tree, empty, leaf, unary, binary, valid_empty}
use Rattle.grammar.specs.Trees.{valid_leaf, valid_unary, valid_binary, Witness, Derives, TwoTrees}
use Rattle.grammar.specs.Choices.{Same}
use Rattle.grammar.specs.SpanSheet.{part}
use Rattle.marks.specs.Half.{Half}
use Rattle.marks.proofs.Words.{part_cut, part_length}
use Rattle.marks.proofs.HalfLaws.{is_one, does_keep, does_pair}
use Rattle.tables.specs.Tables.{Table, by_tokens, Fits, Stand, Below, Again, rule}
use Rattle.tables.specs.Tables.Again.{apart, below}
use Rattle.tables.proofs.Places.{member}
use Rattle.tables.proofs.RulePlaces.{distinct_at}
use Rattle.tables.proofs.Completeness.{Headed}
use Rattle.grammar.specs.Distinct.{Alike, Distinct}

-- one tree follows clauses that are alike, with one left length
headed_alike : (t : Tree) (c c' : Clause) (l l' : ℕ) → Headed t c l → Headed t c' l'
    → Alike c c' × (l ≡ l')
headed_alike (empty A) c c' l l' h h' =
    (subst₂ Alike (sym h.0) (sym h'.0) tt, h.1 ∙ sym h'.1)
headed_alike (leaf A t) c c' l l' h h' =
    (subst₂ Alike (sym h.2) (sym h'.2) (t.terminal, h.3, h'.3), h.4 ∙ sym h'.4)
headed_alike (unary A t) c c' l l' h h' =
    (subst₂ Alike (sym h.1) (sym h'.1) refl, h.2 ∙ sym h'.2)
headed_alike (binary A s t) c c' l l' h h' =
    (subst₂ Alike (sym h.1) (sym h'.1) (refl, refl), h.2 ∙ sym h'.2)

within_known : {k : ℕ} (s len l : ℕ) → s + len ≤ k → l ≤ len → s + l + (len - l) ≤ k
within_known s len l h f = omega arith

-- a tree whose top follows the clause c
pub record ClauseTree (g : Rules) (A : ℕ) (w : Word) (c : Clause) (l : ℕ) : Type 0 where
  pub tree : Tree
  pub witness : Witness g A w tree
  pub headed : Headed tree c l

-- what a table has of the parts of the span has trees
abbrev pub Sound : Table → Rules → Half → ℕ → ℕ → Type 0
Sound one g h s len =
    (a b A : ℕ) → s ≤ a → a + b ≤ s + len → one a b A → Derives g A (part h.word a b)

abbrev pub Sound₂ : Table → Rules → Half → ℕ → ℕ → Type 0
Sound₂ two g h s len =
    (a b A : ℕ) → s ≤ a → a + b ≤ s + len → two a b A → TwoTrees g A (part h.word a b)

module _ (one : Table) (g : Rules) (hf : Half) (inner : hf.known ≤ length hf.word) (s len : ℕ)
    (h : s + len ≤ hf.known) (sound : Sound one g hf s len) where
  grow : (A l : ℕ) (c : Clause) → Memᴰ (record { left = A; clause = c }) g
      → Fits one (by_tokens hf s len) s len c l → ClauseTree g A (part hf.word s len) c l
  grow A l Clause.Empty m q =
      record {
        tree = empty A;
        witness = record
            { rooted = refl; spelled = ap (part hf.word s) (sym q.0); valid = valid_empty m };
        headed = (refl, q.1);
      }
  grow A l (Clause.Atom a a') m q =
      let n : len ≡ 1 = q.0 in
      let d = is_one hf inner s a a' (omega arith) q.2 in
      record {
        tree = leaf A d.0;
        witness = record {
          rooted = refl;
          spelled = sym (ap (part hf.word s) n ∙ d.1);
          valid =
              valid_leaf (record { low = a; high = a'; rule = m; covers = d.2 });
        };
        headed = (a, a', refl, d.2, q.1);
      }
  grow A l (Clause.Unary B k) m q =
      let d = sound s len B (omega arith) (omega arith) q.0 in
      let w = d.witness in
      record {
        tree = unary A d.tree;
        witness = record {
          rooted = refl;
          spelled = w.spelled;
          valid = valid_unary k (subst (λ (x : ℕ). Memᴰ
              (record { left = A; clause = Clause.Unary x k }) g) (sym w.rooted) m)
              (subst (Mark.Unary k) (sym w.spelled) (does_keep hf inner k s len h q.1))
              w.valid;
        };
        headed = (k, ap (λ (x : ℕ). Clause.Unary x k) (sym w.rooted), q.2);
      }
  grow A l (Clause.Binary B C k) m q =
      let fit : l ≤ len = q.0 in
      let d = sound s l B (omega arith) (omega arith) q.1 in
      let e = sound (s + l) (len - l) C (omega arith) (omega arith) q.2 in
      let w = d.witness in
      let x = e.witness in
      let fits : s + l ≤ length hf.word = omega arith in
      record {
        tree = binary A d.tree e.tree;
        witness = record {
          rooted = refl;
          spelled = ap₂ (λ (a b : Word). a ++ b) w.spelled x.spelled
              ∙ sym (part_cut hf.word s len l fit);
          valid = valid_binary k (subst₂ (λ (a b : ℕ). Memᴰ
              (record { left = A; clause = Clause.Binary a b k }) g) (sym w.rooted)
              (sym x.rooted) m) (subst₂ (Mark.Binary k) (sym w.spelled) (sym x.spelled)
              (does_pair hf inner k s l (len - l) (within_known s len l h fit) q.3))
              w.valid x.valid;
        };
        headed = (
          k,
          ap₂ (λ (a b : ℕ). Clause.Binary a b k) (sym w.rooted) (sym x.rooted),
          sym
              (part_length hf.word s l fits) ∙ ap length (sym w.spelled),
        );
      }

  pub grown : (A i l : ℕ) → Stand one g (by_tokens hf s len) s len A i l
      → ClauseTree g A (part hf.word s len) (rule g i).clause l
  grown A i l c =
      grow A l (rule g i).clause (subst
      (λ (x : ℕ). Memᴰ (record { left = x; clause = (rule g i).clause }) g) c.left
      (member g i c.within)) c.fits

  -- a rule that stands has a tree
  pub sound_stand : (A i l : ℕ) → Stand one g (by_tokens hf s len) s len A i l
      → Derives g A (part hf.word s len)
  sound_stand A i l c = let t = grown A i l c in record { tree = t.tree; witness = t.witness }

module _ (one two : Table) (g : Rules) (hf : Half) (inner : hf.known ≤ length hf.word)
    (distinct : Distinct g) (s len : ℕ) (h : s + len ≤ hf.known) (sound : Sound one g hf s len)
    (sound₂ : Sound₂ two g hf s len) where
  -- two rules that stand have two trees
  two_apart : (A i l j k : ℕ) → Stand one g (by_tokens hf s len) s len A i l
      → Stand one g (by_tokens hf s len) s len A j k → (Same i l j k → ⊥)
      → TwoTrees g A (part hf.word s len)
  two_apart A i l j k c d n =
      let t = grown one g hf inner s len h sound A i l c in
      let u = grown one g hf inner s len h sound A j k d in
      record {
        first = t.tree;
        second = u.tree;
        witness₁ = t.witness;
        witness₂ = u.witness;
        differ = λ e.
            let a = headed_alike t.tree (rule g i).clause (rule g j).clause l k t.headed
            (subst (λ (x : Tree). Headed x (rule g j).clause k) (sym e) u.headed) in
            n (
              distinct_at distinct i j c.within d.within (c.left ∙ sym d.left) a.0,
              a.1,
            );
      }

  -- two trees below a rule have two trees above
  two_below : (A l : ℕ) (c : Clause) → Memᴰ (record { left = A; clause = c }) g
      → Fits one (by_tokens hf s len) s len c l → Below two s len c l
      → TwoTrees g A (part hf.word s len)
  two_below A l Clause.Empty m q b = absurd b
  two_below A l (Clause.Atom a a') m q b = absurd b
  two_below A l (Clause.Unary B k) m q b =
      let d = sound₂ s len B (omega arith) (omega arith) b in
      record {
        first = unary A d.first;
        second = unary A d.second;
        witness₁ = over d.first d.witness₁;
        witness₂ = over d.second d.witness₂;
        differ = λ e. d.differ (cc);
      }
    where
      over : (t : Tree) → Witness g B (part hf.word s len) t
          → Witness g A (part hf.word s len) (unary A t)
      over t w = record {
        rooted = refl;
        spelled = w.spelled;
        valid = valid_unary k (subst (λ (x : ℕ). Memᴰ
            (record { left = A; clause = Clause.Unary x k }) g) (sym w.rooted) m)
            (subst (Mark.Unary k) (sym w.spelled) (does_keep hf inner k s len h q.1))
            w.valid;
      }
  two_below A l (Clause.Binary B C k) m q b = ⊎_elim on_left on_right b
    where
      fit : l ≤ len
      fit = q.0

      over : (t u : Tree) → Witness g B (part hf.word s l) t
          → Witness g C (part hf.word (s + l) (len - l)) u
          → Witness g A (part hf.word s len) (binary A t u)
      over t u w x = record {
        rooted = refl;
        spelled = ap₂ (λ (a b : Word). a ++ b) w.spelled x.spelled
            ∙ sym (part_cut hf.word s len l fit);
        valid = valid_binary k (subst₂ (λ (a b : ℕ). Memᴰ
            (record { left = A; clause = Clause.Binary a b k }) g) (sym w.rooted)
            (sym x.rooted) m) (subst₂ (Mark.Binary k) (sym w.spelled) (sym x.spelled)
            (does_pair hf inner k s l (len - l) (within_known s len l h fit) q.3))
            w.valid x.valid;
      }

      hl : s + l ≤ s + len
      hl = omega (arith, q.0)

      hr : (s + l) + (len - l) ≤ s + len
      hr = omega (arith, q.0)

      on_left : two s l B → TwoTrees g A (part hf.word s len)
      on_left b =
          let d = sound₂ s l B (omega arith) hl b in
          let e = sound (s + l) (len - l) C (omega arith) hr q.2 in
          record {
            first = binary A d.first e.tree;
            second = binary A d.second e.tree;
            witness₁ = over d.first e.tree d.witness₁ e.witness;
            witness₂ = over d.second e.tree d.witness₂ e.witness;
            differ = λ p. d.differ (cc);
          }

      on_right : two (s + l) (len - l) C → TwoTrees g A (part hf.word s len)
      on_right b =
          let d = sound s l B (omega arith) hl q.1 in
          let e = sound₂ (s + l) (len - l) C (omega arith) hr b in
          record {
            first = binary A d.tree e.first;
            second = binary A d.tree e.second;
            witness₁ = over d.tree e.first d.witness e.witness₁;
            witness₂ = over d.tree e.second d.witness e.witness₂;
            differ = λ p. e.differ (cc);
          }

  -- what the second table takes in has two trees
  pub sound_again : (A : ℕ) → Again one two g (by_tokens hf s len) s len A
      → TwoTrees g A (part hf.word s len)
  sound_again A (apart i l j k c d n) = two_apart A i l j k c d n
  sound_again A (below i l c b) =
      two_below A l (rule g i).clause
      (subst (λ (x : ℕ). Memᴰ (record { left = x; clause = (rule g i).clause }) g) c.left
      (member g i c.within)) c.fits b
