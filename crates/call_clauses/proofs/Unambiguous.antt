-- An expression is written in one way: lexemes say at most one expression, so "the expression that
-- they say" is one thing.
use mathlib.Core.Path.{◌≡◌, refl, sym, ap, ◌∙◌}
use mathlib.Core.List.{List, [], ◌∷◌, ◌++◌}
use Prim.Native.Nat.{ℕ}
use native.Mathlib.Omega.{arith}
use mathlib.Core.List.{append_assoc}
use Rattle.grammar.specs.declared.UnaryMark.{UnaryMark}
use Rattle.grammar.specs.declared.BinaryMark.{BinaryMark}
use Rattle.grammar.proofs.Lists.{cons_parts}
use Rattle.clauses.specs.Clauses.{item, made, alternatives, Expr, nonterminal, a_part, terminal}
use Rattle.clauses.specs.Clauses.{group, mark, pair, optional, repeated, only, or}
use Rattle.clauses.specs.Text.{Suffix, maybe, repeats, marks, Lex, n, t, opening, closing, bar}
use Rattle.clauses.specs.Text.{suffix, join, Phrase, an_atom, an_item, a_row, one, many, WrittenAs}
use Rattle.clauses.specs.Text.{nonterminal_text, terminal_text, group_text, bare_text}
use Rattle.clauses.specs.Text.{optional_text, repeated_text, marked_text, last_text, then_text}
use Rattle.clauses.specs.Text.{single_text, several_text, only_text, or_text}

cancel : (k : List Lex) {s u : List Lex} → k ++ s ≡ k ++ u → s ≡ u
cancel [] e = e
cancel (a ∷ k) e = cancel k (cons_parts e).1

-- what follows a part does not belong to it: no suffix, no join, no bar
abbrev suffixed : List Lex → ℕ
suffixed [] = 0
suffixed (n a ∷ l) = 0
suffixed (t a ∷ l) = 0
suffixed (opening ∷ l) = 0
suffixed (closing ∷ l) = 0
suffixed (bar ∷ l) = 0
suffixed (suffix q ∷ l) = 1
suffixed (join m ∷ l) = 0

abbrev joined : List Lex → ℕ
joined [] = 0
joined (n a ∷ l) = 0
joined (t a ∷ l) = 0
joined (opening ∷ l) = 0
joined (closing ∷ l) = 0
joined (bar ∷ l) = 0
joined (suffix q ∷ l) = 0
joined (join m ∷ l) = 1

abbrev barred : List Lex → ℕ
barred [] = 0
barred (n a ∷ l) = 0
barred (t a ∷ l) = 0
barred (opening ∷ l) = 0
barred (closing ∷ l) = 0
barred (bar ∷ l) = 1
barred (suffix q ∷ l) = 0
barred (join m ∷ l) = 0

-- the same part and the same lexemes
abbrev Both : {A : Type 0} → A → A → List Lex → List Lex → Type 0
Both a b k l = (a ≡ b) × (k ≡ l)

-- what follows two parts that are the same
rest : {A : Type 0} {a b : A} {k l s u : List Lex} → Both a b k l → k ++ s ≡ l ++ u → s ≡ u
rest {k = k} {u = u} h e = cancel k (e ∙ ap (λ (x : List Lex). x ++ u) (sym h.1))

never_suffix : {P : Type 0} {x y : List Lex} {q : Suffix} → suffixed x ≡ 0 → x ≡ suffix q ∷ y → P
never_suffix h e =
    absurd (let z = sym h ∙ ap suffixed e in let w : ◌≡◌ {A = ℕ} 0 1 = z in omega arith)

never_join : {P : Type 0} {x y : List Lex} {m : BinaryMark} → joined x ≡ 0 → x ≡ join m ∷ y → P
never_join h e = absurd (let w : ◌≡◌ {A = ℕ} 0 1 = sym h ∙ ap joined e in omega arith)

never_bar : {P : Type 0} {x y : List Lex} → barred x ≡ 0 → x ≡ bar ∷ y → P
never_bar h e = absurd (let w : ◌≡◌ {A = ℕ} 0 1 = sym h ∙ ap barred e in omega arith)

clash : {P : Type 0} → ◌≡◌ {A = ℕ} 0 1 → P
clash e = absurd (omega arith)

-- neither a suffix nor a join comes first
pub record Ends (x : List Lex) : Type 0 where
  pub no_suffix : suffixed x ≡ 0
  pub no_join : joined x ≡ 0

-- whatever else is written so, with something behind it that does not belong to it, is the same
-- part
abbrev Once : Phrase → List Lex → Type 0
Once (an_atom e) k =
    (f : Expr item) (l x y : List Lex) → WrittenAs (an_atom f) l → k ++ x ≡ l ++ y → Both e f k l
Once (an_item e) k = (f : Expr item) (l x y : List Lex) → WrittenAs (an_item f) l → suffixed x ≡ 0
    → suffixed y ≡ 0 → k ++ x ≡ l ++ y → Both e f k l
Once (a_row e) k = (f : Expr item) (l x y : List Lex) → WrittenAs (a_row f) l → Ends x → Ends y
    → k ++ x ≡ l ++ y → Both e f k l
Once (one e) k = (f : Expr made) (l x y : List Lex) → WrittenAs (one f) l → Ends x → Ends y
    → k ++ x ≡ l ++ y → Both e f k l
Once (many e) k =
    (f : Expr alternatives) (l x y : List Lex) → WrittenAs (many f) l → Ends x → Ends y
    → barred x ≡ 0 → barred y ≡ 0 → k ++ x ≡ l ++ y → Both e f k l

nonterminal_once : (a : ℕ) → Once (an_atom (nonterminal a)) (n a ∷ [])
nonterminal_once a f l x y (nonterminal_text {a = b}) h = let z : a ≡ b = cc in
    (ap nonterminal z, ap (λ (c : ℕ). n c ∷ []) z)
nonterminal_once a f l x y (terminal_text) h = clash (cc)
nonterminal_once a f l x y (group_text v) h = clash (cc)

terminal_once : (a : ℕ) → Once (an_atom (a_part (terminal a))) (t a ∷ [])
terminal_once a f l x y (nonterminal_text) h = clash (cc)
terminal_once a f l x y (terminal_text {a = b}) h = let z : a ≡ b = cc in
    (ap (λ (c : ℕ). a_part (terminal c)) z, ap (λ (c : ℕ). t c ∷ []) z)
terminal_once a f l x y (group_text v) h = clash (cc)

closed : (x : List Lex) → Ends (closing ∷ x)
closed x = record { no_suffix = refl; no_join = refl }

group_once : (e : Expr alternatives) (k : List Lex) → Once (many e) k
    → Once (an_atom (a_part (group e))) (opening ∷ (k ++ (closing ∷ [])))
group_once e k r f l x y (nonterminal_text) h = clash (cc)
group_once e k r f l x y (terminal_text) h = clash (cc)
group_once e k r f l x y (group_text {e = g} {l = j} v) h =
    let b = r g j (closing ∷ x) (closing ∷ y) v (closed x) (closed y) refl refl
    (sym (append_assoc k (closing ∷ []) x) ∙ (cons_parts h).1
    ∙ append_assoc j (closing ∷ []) y) in (
      ap (λ (e : Expr alternatives). a_part (group e)) b.0,
      ap
          (λ (z : List Lex). opening ∷ (z ++ (closing ∷ []))) b.1,
    )

-- an item is an atom, or one with a suffix behind it
abbrev with_tail : Suffix → Expr item → Expr item
with_tail maybe e = a_part (optional e)
with_tail (repeats q m) e = a_part (repeated q m e)
with_tail (marks m) e = a_part (mark m e)

pub data Tailed : Expr item → List Lex → Type 0 where
  plain : {e : Expr item} {l : List Lex} → WrittenAs (an_atom e) l → Tailed e l
  behind : {e : Expr item} {l : List Lex} (q : Suffix) → WrittenAs (an_atom e) l
      → Tailed (with_tail q e) (l ++ (suffix q ∷ []))

tailed : {e : Expr item} {l : List Lex} → WrittenAs (an_item e) l → Tailed e l
tailed (bare_text w) = plain w
tailed (optional_text w) = behind maybe w
tailed (repeated_text {q = q} {m = m} w) = behind (repeats q m) w
tailed (marked_text {m = m} w) = behind (marks m) w

bare_once : (e : Expr item) (k : List Lex) → Once (an_atom e) k → Once (an_item e) k
bare_once e k r f l x y v p q h = go (tailed v) h
  where
    go : {f : Expr item} {l : List Lex} → Tailed f l → k ++ x ≡ l ++ y → Both e f k l
    go (plain {e = g} {l = j} u) d = r g j x y u d
    go (behind {e = g} {l = j} c u) d =
        let z = d ∙ append_assoc j (suffix c ∷ []) y in
        never_suffix p (rest (r g j x (suffix c ∷ y) u z) z)

tail_once : (c : Suffix) (e : Expr item) (k : List Lex) → Once (an_atom e) k
    → Once (an_item (with_tail c e)) (k ++ (suffix c ∷ []))
tail_once c e k r f l x y v p q h = go (tailed v) (sym (append_assoc k (suffix c ∷ []) x) ∙ h)
  where
    go : {f : Expr item} {l : List Lex} → Tailed f l → k ++ (suffix c ∷ x) ≡ l ++ y
        → Both (with_tail c e) f (k ++ (suffix c ∷ [])) l
    go (plain {e = g} {l = j} u) d = never_suffix q (sym (rest (r g j (suffix c ∷ x) y u d) d))
    go (behind {e = g} {l = j} b u) d =
        let z = d ∙ append_assoc j (suffix b ∷ []) y in
        let s = r g j (suffix c ∷ x) (suffix b ∷ y) u z in
        let o = rest s z in
        let a : c ≡ b = cc in
        (λ i. with_tail (a i) (s.0 i), λ i. s.1 i ++ (suffix (a i) ∷ []))

last_once : (e : Expr item) (k : List Lex) → Once (an_item e) k → Once (a_row e) k
last_once e k r f l x y (last_text v) p q h = r f l x y v p.no_suffix q.no_suffix h
last_once e k r f l x y (then_text {m = m} {e = g} {k = i} {l = j} v u) p q h =
    let z = h ∙ append_assoc i (join m ∷ j) y in
    never_join p.no_join (rest (r g i x (join m ∷ (j ++ y)) v p.no_suffix refl z) z)

then_once : (m : BinaryMark) (e f : Expr item) (k l : List Lex) → Once (an_item e) k
    → Once (a_row f) l → Once (a_row (a_part (pair m e f))) (k ++ (join m ∷ l))
then_once m e f k l r s g j x y (last_text v) p q h =
    let z = sym (append_assoc k (join m ∷ l) x) ∙ h in
    never_join q.no_join (sym (rest (r g j (join m ∷ (l ++ x)) y v refl q.no_suffix z) z))
then_once m e f k l r s g j x y (then_text {m = o} {e = e'} {f = f'} {k = k'} {l = l'} v u) p q h =
    let z = sym (append_assoc k (join m ∷ l) x) ∙ h ∙ append_assoc k' (join o ∷ l') y in
    let b = r e' k' (join m ∷ (l ++ x)) (join o ∷ (l' ++ y)) v refl refl z in
    let c = cons_parts (rest b z) in
    let d = s f' l' x y u p q c.1 in
    let c₀ = c.0 in
    let a : m ≡ o = cc in
    (λ i. a_part (pair (a i) (b.0 i) (d.0 i)), λ i. b.1 i ++ (join (a i) ∷ d.1 i))

single_once : (e : Expr item) (k : List Lex) → Once (an_item e) k
    → Once (one (mark UnaryMark.None e)) k
single_once e k r f l x y (single_text {e = g} v) p q h = let b =
    r g l x y v p.no_suffix q.no_suffix h in (ap (mark UnaryMark.None) b.0, b.1)
single_once e k r f l x y (several_text {m = m} {e = g} {k = i} {l = j} v u) p q h =
    let z = h ∙ append_assoc i (join m ∷ j) y in
    never_join p.no_join (rest (r g i x (join m ∷ (j ++ y)) v p.no_suffix refl z) z)

several_once : (m : BinaryMark) (e f : Expr item) (k l : List Lex) → Once (an_item e) k
    → Once (a_row f) l → Once (one (pair m e f)) (k ++ (join m ∷ l))
several_once m e f k l r s g j x y (single_text {e = i} v) p q h =
    let z = sym (append_assoc k (join m ∷ l) x) ∙ h in
    never_join q.no_join (sym (rest (r i j (join m ∷ (l ++ x)) y v refl q.no_suffix z) z))
several_once m e f k l r s g j x y (several_text {m = o} {e = e'} {f = f'} {k = k'} {l = l'} v u) p
    q h =
    let z = sym (append_assoc k (join m ∷ l) x) ∙ h ∙ append_assoc k' (join o ∷ l') y in
    let b = r e' k' (join m ∷ (l ++ x)) (join o ∷ (l' ++ y)) v refl refl z in
    let c = cons_parts (rest b z) in
    let d = s f' l' x y u p q c.1 in
    let c₀ = c.0 in
    let a : m ≡ o = cc in
    (λ i. pair (a i) (b.0 i) (d.0 i), λ i. b.1 i ++ (join (a i) ∷ d.1 i))

bar_ends : (x : List Lex) → Ends (bar ∷ x)
bar_ends x = record { no_suffix = refl; no_join = refl }

only_once : (e : Expr made) (k : List Lex) → Once (one e) k → Once (many (only e)) k
only_once e k r f l x y (only_text {e = g} v) p q a b h = let c = r g l x y v p q h in
    (ap only c.0, c.1)
only_once e k r f l x y (or_text {e = g} {k = i} {l = j} v u) p q a b h =
    let z = h ∙ append_assoc i (bar ∷ j) y in
    never_bar a (rest (r g i x (bar ∷ (j ++ y)) v p (bar_ends (j ++ y)) z) z)

or_once : (e : Expr made) (f : Expr alternatives) (k l : List Lex) → Once (one e) k
    → Once (many f) l → Once (many (or e f)) (k ++ (bar ∷ l))
or_once e f k l r s g j x y (only_text {e = i} v) p q a b h =
    let z = sym (append_assoc k (bar ∷ l) x) ∙ h in
    never_bar b (sym (rest (r i j (bar ∷ (l ++ x)) y v (bar_ends (l ++ x)) q z) z))
or_once e f k l r s g j x y (or_text {e = e'} {f = f'} {k = k'} {l = l'} v u) p q a b h =
    let z = sym (append_assoc k (bar ∷ l) x) ∙ h ∙ append_assoc k' (bar ∷ l') y in
    let c = r e' k' (bar ∷ (l ++ x)) (bar ∷ (l' ++ y)) v (bar_ends (l ++ x)) (bar_ends (l' ++ y))
    z in
    let d = s f' l' x y u p q a b (cons_parts (rest c z)).1 in
    (λ i. or (c.0 i) (d.0 i), λ i. c.1 i ++ (bar ∷ d.1 i))

once : {p : Phrase} {k : List Lex} → WrittenAs p k → Once p k
once (nonterminal_text {a = a}) = nonterminal_once a
once (terminal_text {a = a}) = terminal_once a
once (group_text {e = e} {l = l} w) = group_once e l (once w)
once (bare_text {e = e} {l = l} w) = bare_once e l (once w)
once (optional_text {e = e} {l = l} w) = tail_once maybe e l (once w)
once (repeated_text {q = q} {m = m} {e = e} {l = l} w) = tail_once (repeats q m) e l (once w)
once (marked_text {m = m} {e = e} {l = l} w) = tail_once (marks m) (a_part (group e)) l (once w)
once (last_text {e = e} {l = l} w) = last_once e l (once w)
once (then_text {m = m} {e = e} {f = f} {k = k} {l = l} w v) = then_once m e f k l (once w) (once v)
once (single_text {e = e} {l = l} w) = single_once e l (once w)
once (several_text {m = m} {e = e} {f = f} {k = k} {l = l} w v) =
    several_once m e f k l (once w) (once v)
once (only_text {e = e} {l = l} w) = only_once e l (once w)
once (or_text {e = e} {f = f} {k = k} {l = l} w v) = or_once e f k l (once w) (once v)

-- lexemes say at most one expression
pub written_once : {e f : Expr alternatives} {l : List Lex} → WrittenAs (many e) l
    → WrittenAs (many f) l → e ≡ f
written_once {f = f} {l = l} w v = (once w f l [] [] v ends ends refl refl refl).0
  where
    ends : Ends []
    ends = record { no_suffix = refl; no_join = refl }
