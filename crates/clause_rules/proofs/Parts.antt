-- What each reader has written, by how its part is written.
use mathlib.Core.Path.{◌≡◌, refl, sym, ◌∙◌, ap, subst}
use mathlib.Core.Logic.{inl, ⊎_elim}
use mathlib.Core.Bool.{Bool, true, false}
use mathlib.Core.List.{List, [], ◌∷◌, ◌++◌, append_assoc}
use Rattle.std.specs.Prelude.{Some}
use Prim.Native.Nat.{ℕ, ◌+◌, ◌≤◌}
use native.Mathlib.Omega.{arith}
use lib.ListN.{length, length-append}
use Rattle.sets.proofs.Basics.{clash}
use Rattle.sets.proofs.Basics.{true_or_false}
use Rattle.grammar.specs.declared.Rule.{Rule}
use Rattle.grammar.specs.declared.UnaryMark.{UnaryMark}
use Rattle.grammar.specs.declared.BinaryMark.{BinaryMark}
use Rattle.grammar.specs.Trees.{Rules}
use Rattle.clauses.specs.Clauses as C
use Rattle.clauses.specs.Clauses.{item, made, alternatives, Expr, nonterminal, terminal, pair, or}
use Rattle.clauses.specs.Expansion.{U, B, size, name}
use Rattle.clauses.specs.Emission.{emit}
use Rattle.clauses.specs.Text.{Suffix, maybe, repeats, marks, Lex, n, t, opening, closing, bar}
use Rattle.clauses.specs.Text.{suffix, join, an_atom, an_item, a_row, one, many, WrittenAs}
use Rattle.clauses.specs.Text.{nonterminal_text, terminal_text, group_text, last_text, then_text}
use Rattle.clauses.specs.Text.{single_text, several_text, only_text, or_text}
use Rattle.clauses.specs.Flat.{closes}
use Rattle.clauses.proofs.Legible.{NoSuffix, RowStop, Stop, join_next, bar_next, closing_next}
use Rattle.clauses.proofs.Legible.{suffixed, ItemView, item_view}
use Rattle.clauses.proofs.Depth.{after_group}
use Rattle.lexemes.specs.declared.Lexeme.{Lexeme}
use Rattle.lexemes.specs.declared.Lexed.{Lexed}
use Rattle.lexemes.specs.Answers.{lexeme_of, Lexes}
use Rattle.rule_output.specs.Signs.{sort_of_of, heads_of}
use Rattle.rule_output.specs.Emitting.{Emit, PartEmit, Cause, Adds, Pushed, CountsOn, tail_rules}
use Rattle.rule_output.specs.Emitting.{LeafRead}
use Rattle.clause_rules.specs.Ends.{Left, GroupEnd, AtomEnd, ItemEnd}
use Rattle.clause_rules.specs.Reading.{Read, AtomRead, ItemRead, RestRead, SequenceRead}
use Rattle.clause_rules.specs.Reading.{AlternativesRead}
use Rattle.rule_output.proofs.Adding.{adds_over, cause_more, adds_then, adds_also, adds_same}
use Rattle.rule_output.proofs.Adding.{adds_when, adds_nothing}
use Rattle.clause_rules.proofs.Firsts.{first, behind, sort_of, no_suffix, no_join, no_bar}
use Rattle.clause_rules.proofs.Firsts.{suffix_told}

not_both : {c : Bool} → c ≡ true → c ≡ false → ⊥
not_both p q = let z = sym p ∙ q in clash cc

left_by : {s : List ℕ} {at : ℕ} {k l : List Lex} → k ≡ l → Left s at k → Left s at l
left_by e h = record { lexed = h.lexed ∙ ap Some e }

-- where atoms and items end
module _ (s : List ℕ) (at : ℕ) (x : Lexed) (X : Lexes s at x) where
  pub atom_ends_open : (r : ℕ) → sort_of_of x.lexeme ≡ 1 → GroupEnd s x.end r → AtomEnd s at r
  atom_ends_open r z g =
      record { from = omega (arith, X.from, g.from); within = g.within; ends = go }
    where
      go : (e : Expr item) (l k : List Lex) → WrittenAs (an_atom e) l → Left s at (l ++ k)
          → Left s r k
      go e l k (nonterminal_text {a = a}) h =
          absurd (let y = sort_of s at x X (n a) k h in omega arith)
      go e l k (terminal_text {a = a}) h =
          absurd (let y = sort_of s at x X (t a) k h in omega arith)
      go e l k (group_text {l = w} v) h =
          left_by (ap (λ (y : List Lex). closes y 0) (append_assoc w (closing ∷ []) k)
          ∙ after_group v k)
          (g.ends _ (behind s at x X opening ((w ++ (closing ∷ [])) ++ k) h))

  pub atom_ends_leaf : (sort_of_of x.lexeme ≡ 1 → ⊥) → AtomEnd s at x.end
  atom_ends_leaf z = record { from = X.from; within = X.within; ends = go }
    where
      go : (e : Expr item) (l k : List Lex) → WrittenAs (an_atom e) l → Left s at (l ++ k)
          → Left s x.end k
      go e l k (nonterminal_text {a = a}) h = behind s at x X (n a) k h
      go e l k (terminal_text {a = a}) h = behind s at x X (t a) k h
      go e l k (group_text {l = w} v) h =
          absurd (z (sort_of s at x X opening ((w ++ (closing ∷ [])) ++ k) h))

module _ (s : List ℕ) (at e : ℕ) (A₁ : AtomEnd s at e) (x : Lexed) (X : Lexes s e x) where
  -- the atom of an item, and what stands behind it
  pub behind_bare : (a : Expr item) (w k : List Lex) → WrittenAs (an_atom a) w → Left s at (w ++ k)
      → Left s e k
  behind_bare a w k v h = A₁.ends a w k v h

  pub behind_suffix : (a : Expr item) (w : List Lex) (q : Suffix) (k : List Lex)
      → WrittenAs (an_atom a) w → Left s at ((w ++ (suffix q ∷ [])) ++ k) → Left s e (suffix q ∷ k)
  behind_suffix a w q k v h =
      A₁.ends a w (suffix q ∷ k) v (left_by (append_assoc w (suffix q ∷ []) k) h)

  pub item_ends_suffix : sort_of_of x.lexeme ≡ 5 → ItemEnd s at x.end
  item_ends_suffix z = record {
    from = omega (arith, A₁.from, X.from);
    within = X.within;
    ends = λ f l k w p h. go f l k p h (item_view w);
  }
    where
      go : (f : Expr item) (l k : List Lex) → NoSuffix k → Left s at (l ++ k) → ItemView f l
          → Left s x.end k
      go f l k p h v = ⊎_elim
          (λ b. absurd (no_suffix s e x X k
          (behind_bare v.0 v.1 k v.2
          (left_by (ap (λ (y : List Lex). y ++ k) b.1) h)) p z))
          (λ q. behind s e x X (suffix q.0) k
          (behind_suffix v.0 v.1 q.0 k v.2
          (left_by (ap (λ (y : List Lex). y ++ k) q.2) h))) v.3

  pub item_ends_bare : (sort_of_of x.lexeme ≡ 5 → ⊥) → ItemEnd s at e
  item_ends_bare z = record {
    from = A₁.from;
    within = A₁.within;
    ends = λ f l k w p h. go f l k h
        (item_view w);
  }
    where
      go : (f : Expr item) (l k : List Lex) → Left s at (l ++ k) → ItemView f l → Left s e k
      go f l k h v = ⊎_elim
          (λ b. behind_bare v.0 v.1 k v.2
          (left_by (ap (λ (y : List Lex). y ++ k) b.1) h))
          (λ q. absurd (z (suffix_told s e x X q.0 k
          (behind_suffix v.0 v.1 q.0 k v.2
          (left_by (ap (λ (y : List Lex). y ++ k) q.2) h))))) v.3

-- ( .. )
module _ (s : List ℕ) (at : ℕ) (out : Emit) (x : Lexed) (X : Lexes s at x) where
  pub group_read : (o : Emit) (r : PartEmit) (y : Lexed) → sort_of_of x.lexeme ≡ 1
      → CountsOn out 1 o
      → AlternativesRead s x.end out.next o r → Lexes s r.at y
      → AtomRead s at out (record { at = y.end; name = out.next; out = r.out })
  group_read o r y z f g Y = record {
    from = omega (arith, X.from, g.from, Y.from);
    within = Y.within;
    room = λ u. f.room (g.room u);
    reads = go;
  }
    where
      go : (e : Expr item) (l k : List Lex) (L : ℕ) → WrittenAs (an_atom e) l → Left s at (l ++ k)
          → Read s out (record { at = y.end; name = out.next; out = r.out }) (name e out.next)
          (emit e L out.next) (size e) k
      go e l k L (nonterminal_text {a = a}) h =
          absurd (let u = sort_of s at x X (n a) k h in omega arith)
      go e l k L (terminal_text {a = a}) h =
          absurd (let u = sort_of s at x X (t a) k h in omega arith)
      go e l k L (group_text {e = i} {l = w} v) h =
          let b = behind s at x X opening ((w ++ (closing ∷ [])) ++ k) h in
          let R = g.reads i w (closing ∷ k) v (closing_next k)
          (left_by (append_assoc w (closing ∷ []) k) b) in
          record {
            adds = adds_then (λ j. emit i out.next j) f R.adds;
            left = λ u. behind s r.at y Y closing k (R.left u);
            named = λ u. refl;
          }

  pub leaf_read : (r : PartEmit) → (sort_of_of x.lexeme ≡ 1 → ⊥)
      → LeafRead x.lexeme x.end out r
      → AtomRead s at out r
  leaf_read r z f = record {
    from = omega (arith, X.from, f.at);
    within = omega
        (arith, X.within, f.at);
    room = f.room;
    reads = go;
  }
    where
      go : (e : Expr item) (l k : List Lex) (L : ℕ) → WrittenAs (an_atom e) l → Left s at (l ++ k)
          → Read s out r (name e out.next) (emit e L out.next) (size e) k
      go e l k L (nonterminal_text {a = a}) h =
          let b = first s at x X (n a) k h in
          let c = f.nonterminal a b.same in
          record {
            adds = subst (λ (p : Emit). Adds out p [] 0) (sym c.1) (adds_nothing out);
            left = λ u. subst (λ (j : ℕ). Left s j k) (sym f.at) (behind s at x X _ k h);
            named = λ u. c.0;
          }
      go e l k L (terminal_text {a = a}) h =
          let b = first s at x X (t a) k h in
          let c = f.terminal a b.same in
          record {
            adds = c.1;
            left = λ u. subst (λ (j : ℕ). Left s j k) (sym f.at)
                (behind s at x X _ k h);
            named = λ u. c.0;
          }
      go e l k L (group_text {l = w} v) h =
          absurd (z (sort_of s at x X opening ((w ++ (closing ∷ [])) ++ k) h))

-- the rules of what stands after an item
abbrev tail_of : Suffix → ℕ → ℕ → Rules
tail_of q i b = tail_rules (lexeme_of (suffix q)) i b

suffix_rules : (q : Suffix) (a : Expr item) (L i : ℕ)
    → emit (suffixed a q) L i ≡ emit a 0 (i + heads_of (lexeme_of (suffix q)))
    ++ tail_of q i (name a (i + heads_of (lexeme_of (suffix q))))
suffix_rules maybe a L i = refl
suffix_rules (repeats C.from_one m) a L i = refl
suffix_rules (repeats C.from_zero m) a L i = refl
suffix_rules (marks m) a L i = refl

suffix_size : (q : Suffix) (a : Expr item)
    → heads_of (lexeme_of (suffix q)) + size a ≡ size (suffixed a q)
suffix_size maybe a = refl
suffix_size (repeats C.from_one m) a = refl
suffix_size (repeats C.from_zero m) a = refl
suffix_size (marks m) a = refl

suffix_name : (q : Suffix) (a : Expr item) (i : ℕ) → name (suffixed a q) i ≡ i
suffix_name maybe a i = refl
suffix_name (repeats q m) a i = refl
suffix_name (marks m) a i = refl

tail_length : (l : Lexeme) (i b c : ℕ) → length (tail_rules l i b) ≡ length (tail_rules l i c)
tail_length (Lexeme.Nonterminal a) i b c = refl
tail_length (Lexeme.Terminal a) i b c = refl
tail_length Lexeme.Open i b c = refl
tail_length Lexeme.Close i b c = refl
tail_length Lexeme.Bar i b c = refl
tail_length Lexeme.Maybe i b c = refl
tail_length (Lexeme.Plus m) i b c = refl
tail_length (Lexeme.Star m) i b c = refl
tail_length (Lexeme.Marked m) i b c = refl
tail_length (Lexeme.Join m) i b c = refl
tail_length Lexeme.End i b c = refl
tail_length Lexeme.Not i b c = refl

module _ (s : List ℕ) (at e : ℕ) (A₁ : AtomEnd s at e) (x : Lexed) (X : Lexes s e x)
    (out : Emit) where
  -- an item with nothing after it
  pub bare_read : (r : PartEmit) → (sort_of_of x.lexeme ≡ 5 → ⊥) → AtomRead s at out r
      → ItemRead s at out r
  bare_read r z a = record {
    from = a.from;
    within = a.within;
    room = a.room;
    reads = λ f l k L w
        p h. go f l k L h (item_view w);
  }
    where
      go : (f : Expr item) (l k : List Lex) (L : ℕ) → Left s at (l ++ k) → ItemView f l
          → Read s out r (name f out.next) (emit f L out.next) (size f) k
      go f l k L h v = ⊎_elim
          (λ b. subst (λ (y : Expr item). Read s out r (name y out.next) (emit y L out.next)
          (size y) k) (sym b.0)
          (a.reads v.0 v.1 k L v.2 (left_by (ap (λ (y : List Lex). y ++ k) b.1) h)))
          (λ q. absurd (z (suffix_told s e x X q.0 k
          (behind_suffix s at e A₁ x X v.0 v.1 q.0 k v.2
          (left_by (ap (λ (y : List Lex). y ++ k) q.2) h))))) v.3

  -- the item's atom a, behind which the suffix q stands, and its rules after those of the atom
  abbrev wrapped : Emit → PartEmit
  wrapped p = record { at = x.end; name = out.next; out = p }

  suffix_read : (o : Emit) (a : PartEmit) (p : Emit) → CountsOn out (heads_of x.lexeme) o
      → AtomRead s at o a → Adds a.out p (tail_rules x.lexeme out.next a.name) 0
      → (b : Expr item) (w k : List Lex) (q : Suffix) (L : ℕ) → WrittenAs (an_atom b) w
      → Left s at ((w ++ (suffix q ∷ [])) ++ k)
      → Read s out (wrapped p) (name (suffixed b q) out.next) (emit (suffixed b q) L out.next)
      (size (suffixed b q)) k
  suffix_read o a p c r d b w k q L v h =
      let j = behind_suffix s at e A₁ x X b w q k v h in
      let g = first s e x X (suffix q) k (j) in
      let l = g.same in
      let i = heads_of (lexeme_of (suffix q)) in
      let R = r.reads b w (suffix q ∷ k) 0 v (left_by (append_assoc w (suffix q ∷ []) k) h) in
      let c' : CountsOn out i o = subst (λ (y : Lexeme). CountsOn out (heads_of y) o) l c in
      let d' : Adds a.out p (tail_of q out.next a.name) 0 =
      subst (λ (y : Lexeme). Adds a.out p (tail_rules y out.next a.name) 0) l d in
      let u : Adds out a.out (emit b 0 (out.next + i)) (i + size b) =
      adds_then (λ z. emit b 0 z) c' R.adds in
      let t' = adds_also u d' in
      record {
        adds = adds_same (sym (suffix_rules q b L out.next))
            (add_none (i + size b) ∙ suffix_size q b)
            (adds_when (tails_long (emit b 0 (out.next + i)) q a.name (name b (out.next + i)))
            (λ z. let y = d'.room z in ap (λ (m : ℕ). emit b 0 (out.next + i)
            ++ tail_of q out.next m) (R.named y ∙ ap (name b) (c'.next (R.adds.room y))))
            t');
        left = λ z. behind s e x X (suffix q) k j;
        named = λ z. sym (suffix_name q b out.next);
      }
    where
      add_none : (m : ℕ) → m + 0 ≡ m
      add_none m = omega arith

      tails_long : (f : Rules) (q : Suffix) (m m' : ℕ)
          → length (f ++ tail_of q out.next m) ≡ length (f ++ tail_of q out.next m')
      tails_long f q m m' =
          omega (
            arith,
            length-append f (tail_of q out.next m),
            length-append f
                (tail_of q out.next m'),
            tail_length (lexeme_of (suffix q)) out.next m m',
          )

  pub tailed_read : (o : Emit) (a : PartEmit) (p : Emit) → sort_of_of x.lexeme ≡ 5
      → CountsOn out (heads_of x.lexeme) o → AtomRead s at o a
      → Adds a.out p (tail_rules x.lexeme out.next a.name) 0
      → ItemRead s at out (wrapped p)
  tailed_read o a p z c r d =
      record {
        from = omega (arith, A₁.from, X.from);
        within = X.within;
        room = λ u. c.room
            (r.room (d.room u));
        reads = λ f l k L w i h. go f l k L i h (item_view w);
      }
    where
      go : (f : Expr item) (l k : List Lex) (L : ℕ) → NoSuffix k → Left s at (l ++ k) → ItemView f l
          → Read s out (wrapped p) (name f out.next) (emit f L out.next) (size f) k
      go f l k L i h v = ⊎_elim
          (λ b. absurd (no_suffix s e x X k
          (behind_bare s at e A₁ x X v.0 v.1 k v.2
          (left_by (ap (λ (y : List Lex). y ++ k) b.1) h)) i z))
          (λ q. subst (λ (y : Expr item). Read s out (wrapped p) (name y out.next)
          (emit y L out.next) (size y) k) (sym q.1)
          (suffix_read o a p c r d v.0 v.1 k q.0 L v.2
          (left_by (ap (λ (y : List Lex). y ++ k) q.2) h))) v.3

  -- no room for what stands after the item
  pub crowded_read : (o : Emit) (b : ℕ) → sort_of_of x.lexeme ≡ 5 → at ≤ length s
      → CountsOn out (heads_of x.lexeme) o → o.over ≡ true
      → ItemRead s at out (record { at = at; name = b; out = o })
  crowded_read o b z m c y = record {
    from = omega arith;
    within = m;
    room = c.room;
    reads = λ f l k L w i h. go f l k L i h (item_view w);
  }
    where
      go : (f : Expr item) (l k : List Lex) (L : ℕ) → NoSuffix k → Left s at (l ++ k) → ItemView f l
          → Read s out (record { at = at; name = b; out = o }) (name f out.next)
          (emit f L out.next) (size f) k
      go f l k L i h v = ⊎_elim
          (λ u. absurd (no_suffix s e x X k
          (behind_bare s at e A₁ x X v.0 v.1 k v.2
          (left_by (ap (λ (y : List Lex). y ++ k) u.1) h)) i z))
          (λ q. let g = first s e x X (suffix q.0) k
          (behind_suffix s at e A₁ x X v.0 v.1 q.0 k v.2
          (left_by (ap (λ (y : List Lex). y ++ k) q.2) h)) in
          let i' : heads_of x.lexeme ≡ heads_of (lexeme_of (suffix q.0)) =
          ap heads_of g.same in
          let j = suffix_size q.0 v.0 in
          let j' = ap size q.1 in
          record {
            adds = adds_over y (cause_more out (heads_of x.lexeme) 0 (size f)
                (length (emit f L out.next)) (omega arith) (omega arith) (c.why y));
            left = λ u. absurd (not_both y u);
            named = λ u. absurd (not_both y u);
          })
          v.3

-- no room at a step before: the rest is not looked at
crowd : {s : List ℕ} {out : Emit} {r : PartEmit} {a : ℕ} {new : Rules} {k : ℕ} {rest : List Lex}
    (q : Emit) (newq : Rules) (kq : ℕ)
    → Adds out q newq kq → (q.over ≡ false → ⊥) → (r.out.over ≡ false → q.over ≡ false) → kq ≤ k
    → length newq ≤ length new → Read s out r a new k rest
crowd {s} {out} {r} {a} {new} {k} {rest} q newq kq A₁ z g h l =
    record {
      adds = ⊎_elim (λ y. adds_over y cause) (λ y. absurd (z (g y)))
          (true_or_false r.out.over);
      left = λ u. absurd (z (g u));
      named = λ u. absurd (z (g u));
    }
  where
    cause : Cause out k (length new)
    cause = cause_more out kq (length newq) k (length new) h l
        (⊎_elim (λ y. A₁.why y) (λ y. absurd (z y)) (true_or_false q.over))

module _ (s : List ℕ) (at : ℕ) (out o : Emit) (F : CountsOn out 1 o) (i : PartEmit)
    (I : ItemRead s at o i) (x : Lexed) (X : Lexes s i.at x) where
  -- the first item of a sequence
  begun : (g : Expr item) (w k : List Lex) → WrittenAs (an_item g) w → NoSuffix k
      → Left s at (w ++ k) → Adds out i.out (emit g 0 (out.next + 1)) (1 + size g)
  begun g w k v p h = adds_then (λ z. emit g 0 z) F (I.reads g w k 0 v p h).adds

  named_first : (g : Expr item) (w k : List Lex) → WrittenAs (an_item g) w → NoSuffix k
      → Left s at (w ++ k) → i.out.over ≡ false → i.name ≡ name g (out.next + 1)
  named_first g w k v p h z = let R = I.reads g w k 0 v p h in
      R.named z ∙ ap (name g) (F.next (R.adds.room z))

  pub single_read : (p : Emit) → (sort_of_of x.lexeme ≡ 4 → ⊥)
      → Pushed i.out (U out.next i.name UnaryMark.None) p
      → SequenceRead s at out (record { at = i.at; name = out.next; out = p })
  single_read p z P = record {
    from = I.from;
    within = I.within;
    room = λ u. F.room
        (I.room (P.room u));
    reads = go;
  }
    where
      go : (e : Expr made) (l k : List Lex) (L : ℕ) → WrittenAs (one e) l → RowStop k
          → Left s at (l ++ k)
          → Read s out (record { at = i.at; name = out.next; out = p }) out.next
          (emit e L out.next) (size e) k
      go e l k L (single_text {e = g} w) c h =
          let u = adds_also (begun g l k w c.suffixes h) P in
          record {
            adds = adds_same refl (add_none (1 + size g))
                (adds_when (lengths (emit g 0 (out.next + 1)) i.name (name g (out.next + 1)))
                (λ y. ap (λ (b : ℕ). emit g 0 (out.next + 1)
                ++ (U out.next b UnaryMark.None ∷ []))
                (named_first g l k w c.suffixes h (P.room y))) u);
            left = λ y. (I.reads g l k 0 w c.suffixes h).left (P.room y);
            named = λ y. refl;
          }
        where
          add_none : (m : ℕ) → m + 0 ≡ m
          add_none m = omega arith

          lengths : (f : Rules) (b c : ℕ)
              → length (f ++ (U out.next b UnaryMark.None ∷ []))
              ≡ length (f ++ (U out.next c UnaryMark.None ∷ []))
          lengths f b c = omega (
            arith,
            length-append f (U out.next b UnaryMark.None ∷ []),
            length-append f (U out.next c UnaryMark.None ∷ []),
          )
      go e l k L (several_text {m = m} {e = g} {f = f} {k = w₁} {l = w₂} w v) c h =
          let h' = left_by (append_assoc w₁ (join m ∷ w₂) k) h in
          crowd i.out (emit g 0 (out.next + 1)) (1 + size g)
          (begun g w₁ (join m ∷ (w₂ ++ k)) w (join_next m (w₂ ++ k)) h')
          (λ y. z (sort_of s i.at x X (join m) (w₂ ++ k)
          ((I.reads g w₁ (join m ∷ (w₂ ++ k)) 0 w (join_next m (w₂ ++ k)) h').left y)))
          (λ y. P.room y) (omega arith)
          (omega (
            arith,
            length-append (emit g 0 (out.next + 1))
                (emit f 0 (out.next + 1 + size g)
                ++ (B out.next (name g (out.next + 1)) (name f (out.next + 1 + size g)) m
                ∷ [])),
          ))

  pub several_read : (r : PartEmit) (p : Emit) {β : BinaryMark} → sort_of_of x.lexeme ≡ 4
      → RestRead s x.end i.out r
      → ((m : BinaryMark) → x.lexeme ≡ Lexeme.Join m → β ≡ m)
      → Pushed r.out (B out.next i.name r.name β) p
      → SequenceRead s at out (record { at = r.at; name = out.next; out = p })
  several_read r p {β} z T G P =
      record {
        from = omega (arith, I.from, X.from, T.from);
        within = T.within;
        room = λ u. F.room (I.room (T.room (P.room u)));
        reads = go;
      }
    where
      go : (e : Expr made) (l k : List Lex) (L : ℕ) → WrittenAs (one e) l → RowStop k
          → Left s at (l ++ k)
          → Read s out (record { at = r.at; name = out.next; out = p }) out.next
          (emit e L out.next) (size e) k
      go e l k L (single_text {e = g} w) c h =
          crowd i.out (emit g 0 (out.next + 1)) (1 + size g) (begun g l k w c.suffixes h)
          (λ y. no_join s i.at x X k ((I.reads g l k 0 w c.suffixes h).left y) c.joins z)
          (λ y. T.room (P.room y)) (omega arith)
          (omega (
            arith,
            length-append (emit g 0 (out.next + 1))
                (U out.next (name g (out.next + 1)) UnaryMark.None ∷ []),
          ))
      go e l k L (several_text {m = m} {e = g} {f = f} {k = w₁} {l = w₂} w v) c h =
          ⊎_elim full room (true_or_false i.out.over)
        where
          n₁ : ℕ
          n₁ = out.next + 1

          h' : Left s at (w₁ ++ (join m ∷ (w₂ ++ k)))
          h' = left_by (append_assoc w₁ (join m ∷ w₂) k) h

          b : Adds out i.out (emit g 0 (out.next + 1)) (1 + size g)
          b = begun g w₁ (join m ∷ (w₂ ++ k)) w (join_next m (w₂ ++ k)) h'

          R : Read s o i (name g o.next) (emit g 0 o.next) (size g) (join m ∷ (w₂ ++ k))
          R = I.reads g w₁ (join m ∷ (w₂ ++ k)) 0 w (join_next m (w₂ ++ k)) h'

          full : i.out.over ≡ true
              → Read s out (record { at = r.at; name = out.next; out = p }) out.next
              (emit (pair m g f) L out.next) (size (pair m g f)) k
          full y =
              crowd i.out (emit g 0 (out.next + 1)) (1 + size g) b (λ u. not_both y u)
              (λ u. T.room (P.room u)) (omega arith)
              (omega (
                arith,
                length-append (emit g 0 (out.next + 1))
                    (emit f 0 (out.next + 1 + size g)
                    ++ (B out.next (name g (out.next + 1)) (name f (out.next + 1 + size g)) m
                    ∷ [])),
              ))

          room : i.out.over ≡ false
              → Read s out (record { at = r.at; name = out.next; out = p }) out.next
              (emit (pair m g f) L out.next) (size (pair m g f)) k
          room y =
              let q = first s i.at x X (join m) (w₂ ++ k) (R.left y) in
              let S = T.reads f w₂ k 0 v c (behind s i.at x X (join m) (w₂ ++ k) (R.left y)) in
              let u = adds_also (adds_then (λ d. emit f 0 d) b S.adds) P in
              let next : i.out.next ≡ out.next + 1 + size g =
              b.next y ∙ shift out.next (size g) in
              record {
                adds =
                    adds_same (append_assoc (emit g 0 (out.next + 1))
                    (emit f 0 (out.next + 1 + size g))
                    (B out.next (name g (out.next + 1))
                    (name f (out.next + 1 + size g)) m ∷ [])) (sizes (size g) (size f))
                    (adds_when (lengths (emit g 0 (out.next + 1))
                    (emit f 0 (out.next + (1 + size g)))
                    (emit f 0 (out.next + 1 + size g))
                    (B out.next i.name r.name
                    β) (B out.next
                    (name g (out.next + 1)) (name f
                    (out.next + 1 + size g)) m) (ap
                    (λ (d : ℕ). length (emit f 0 d))
                    (shift out.next (size g))))
                    (λ d j. (emit g 0 (out.next
                    + 1) ++ emit f 0 (shift
                    out.next (size g)
                    j)) ++ (B out.next (named_first g w₁ (join m ∷ (w₂ ++ k)) w
                    (join_next m (w₂ ++ k)) h' y j)
                    ((S.named (P.room d) ∙ ap (name f) next) j) (G m q.same j)
                    ∷ [])) u);
                left = λ d. S.left (P.room d);
                named = λ d. refl;
              }
            where
              shift : (a d : ℕ) → a + (1 + d) ≡ a + 1 + d
              shift a d = omega arith

              sizes : (a d : ℕ) → 1 + a + d + 0 ≡ 1 + (a + d)
              sizes a d = omega arith

              lengths : (a d d' : Rules) (α β : Rule) → length d ≡ length d'
                  → length ((a ++ d) ++ (α ∷ [])) ≡ length ((a ++ d') ++ (β ∷ []))
              lengths a d d' α β e = omega (
                arith,
                length-append (a ++ d) (α ∷ []),
                length-append
                    (a ++ d') (β ∷ []),
                length-append a d,
                length-append a d',
              )

-- a rest: one item, or more
module _ (s : List ℕ) (at e : ℕ) (N : ItemEnd s at e) (x : Lexed) (X : Lexes s e x) (out : Emit)
    (r : PartEmit) where
  pub rest_several : sort_of_of x.lexeme ≡ 4 → SequenceRead s at out r → RestRead s at out r
  rest_several z q = record { from = q.from; within = q.within; room = q.room; reads = go }
    where
      go : (f : Expr item) (l k : List Lex) (L : ℕ) → WrittenAs (a_row f) l → RowStop k
          → Left s at (l ++ k) → Read s out r (name f out.next) (emit f L out.next) (size f) k
      go f l k L (last_text w) c h =
          absurd (no_join s e x X k (N.ends f l k w c.suffixes h) c.joins z)
      go f l k L (then_text {m = m} {e = g} {f = j} w v) c h =
          q.reads (pair m g j) l k L (several_text w v) c h

  pub rest_single : (sort_of_of x.lexeme ≡ 4 → ⊥) → ItemRead s at out r → RestRead s at out r
  rest_single z q = record { from = q.from; within = q.within; room = q.room; reads = go }
    where
      go : (f : Expr item) (l k : List Lex) (L : ℕ) → WrittenAs (a_row f) l → RowStop k
          → Left s at (l ++ k) → Read s out r (name f out.next) (emit f L out.next) (size f) k
      go f l k L (last_text w) c h = q.reads f l k L w c.suffixes h
      go f l k L (then_text {m = m} {e = g} {f = j} {k = w₁} {l = w₂} w v) c h =
          absurd (z (sort_of s e x X (join m) (w₂ ++ k)
          (N.ends g w₁ (join m ∷ (w₂ ++ k)) w (join_next m (w₂ ++ k))
          (left_by (append_assoc w₁ (join m ∷ w₂) k) h))))

-- no room before the part
over_read : {s : List ℕ} {at : ℕ} {out : Emit} {a b : ℕ} {new : Rules} {k : ℕ} {rest : List Lex}
    → out.over ≡ true → Read s out (record { at = at; name = b; out = out }) a new k rest
over_read y = record {
  adds = adds_over y (inl y);
  left = λ u. absurd (not_both y u);
  named = λ u.
      absurd (not_both y u);
}

module _ (s : List ℕ) (at L : ℕ) (out : Emit) (a : PartEmit) (S : SequenceRead s at out a)
    (q : Emit)
    (P : Pushed a.out (U L out.next UnaryMark.None) q) (x : Lexed)
    (X : Lexes s a.at x) where
  pub last_read : (sort_of_of x.lexeme ≡ 3 → ⊥)
      → AlternativesRead s at L out (record { at = a.at; name = L; out = q })
  last_read z =
      record { from = S.from; within = S.within; room = λ u. S.room (P.room u); reads = go }
    where
      go : (e : Expr alternatives) (l k : List Lex) → WrittenAs (many e) l → Stop k
          → Left s at (l ++ k)
          → Read s out (record { at = a.at; name = L; out = q }) L (emit e L out.next) (size e)
          k
      go e l k (only_text {e = g} w) c h =
          let R = S.reads g l k L w c.row h in
          record {
            adds = adds_same refl (add_none (size g)) (adds_also R.adds P);
            left = λ y. R.left (P.room y);
            named = λ y. refl;
          }
        where
          add_none : (m : ℕ) → m + 0 ≡ m
          add_none m = omega arith
      go e l k (or_text {e = g} {f = f} {k = w₁} {l = w₂} w v) c h =
          let R = S.reads g w₁ (bar ∷ (w₂ ++ k)) L w (bar_next (w₂ ++ k))
          (left_by (append_assoc w₁ (bar ∷ w₂) k) h) in
          crowd a.out (emit g L out.next) (size g) R.adds
          (λ y. z (sort_of s a.at x X bar (w₂ ++ k) (R.left y))) (λ y. P.room y)
          (omega arith) (omega (
            arith,
            length-append (emit g L out.next)
                (U L out.next UnaryMark.None ∷ emit f L (out.next + size g)),
          ))

  pub more_read : (r : PartEmit) → sort_of_of x.lexeme ≡ 3 → AlternativesRead s x.end L q r
      → AlternativesRead s at L out r
  more_read r z T = record {
    from = omega (arith, S.from, X.from, T.from);
    within = T.within;
    room = λ u. S.room (P.room (T.room u));
    reads = go;
  }
    where
      go : (e : Expr alternatives) (l k : List Lex) → WrittenAs (many e) l → Stop k
          → Left s at (l ++ k) → Read s out r L (emit e L out.next) (size e) k
      go e l k (only_text {e = g} w) c h =
          let R = S.reads g l k L w c.row h in
          crowd a.out (emit g L out.next) (size g) R.adds
          (λ y. no_bar s a.at x X k (R.left y) c.more z) (λ y. P.room (T.room y))
          (omega arith)
          (omega (
            arith,
            length-append (emit g L out.next)
                (U L out.next UnaryMark.None ∷ []),
          ))
      go e l k (or_text {e = g} {f = f} {k = w₁} {l = w₂} w v) c h =
          ⊎_elim full room (true_or_false a.out.over)
        where
          R : Read s out a out.next (emit g L out.next) (size g) (bar ∷ (w₂ ++ k))
          R = S.reads g w₁ (bar ∷ (w₂ ++ k)) L w (bar_next (w₂ ++ k))
              (left_by (append_assoc w₁ (bar ∷ w₂) k) h)

          full : a.out.over ≡ true → Read s out r L (emit (or g f) L out.next) (size (or g f))
              k
          full y = crowd a.out (emit g L out.next) (size g) R.adds (λ u. not_both y u)
              (λ u. P.room (T.room u)) (omega arith)
              (omega (
                arith,
                length-append (emit g L out.next)
                    (U L out.next UnaryMark.None ∷ emit f L (out.next + size g)),
              ))

          room : a.out.over ≡ false → Read s out r L (emit (or g f) L out.next) (size (or g f))
              k
          room y =
              let W = T.reads f w₂ k v c (behind s a.at x X bar (w₂ ++ k) (R.left y)) in
              let u = adds_then (λ d. emit f L d)
              (adds_same refl (add_none (size g)) (adds_also R.adds P)) W.adds in
              record {
                adds = adds_same (append_assoc (emit g L out.next)
                    (U L out.next UnaryMark.None ∷ []) (emit f L (out.next + size g))) refl u;
                left = W.left;
                named = W.named;
              }
            where
              add_none : (m : ℕ) → m + 0 ≡ m
              add_none m = omega arith
