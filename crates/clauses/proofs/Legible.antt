-- A line is written for one expression only.
use mathlib.Core.Path.{◌≡◌, refl, sym, ◌∙◌, ap}
use mathlib.Core.Logic.{◌⊎◌, inl, inr, ⊎_elim}
use mathlib.Core.List.{List, [], ◌∷◌, ◌++◌, append_assoc}
use Prim.Native.Nat.{ℕ}
use native.Mathlib.Omega.{arith}
use Rattle.sets.proofs.Basics.{clash}
use Rattle.grammar.specs.declared.UnaryMark.TheVariants as UnaryMark
use Rattle.grammar.specs.declared.BinaryMark.{BinaryMark}
use Rattle.clauses.specs.Clauses.{item, made, alternatives, Expr, nonterminal, a_part}
use Rattle.clauses.specs.Clauses.{terminal, group, mark, pair, optional, repeated, only, or}
use Rattle.clauses.specs.Text.{Suffix, maybe, repeats, marks, Lex, n, t, opening, closing}
use Rattle.clauses.specs.Text.{bar, suffix, join, Phrase, an_atom, an_item, a_row, one, many}
use Rattle.clauses.specs.Text.{WrittenAs, nonterminal_text, terminal_text, group_text}
use Rattle.clauses.specs.Text.{bare_text, optional_text, repeated_text, marked_text}
use Rattle.clauses.specs.Text.{last_text, then_text, single_text, several_text, only_text}
use Rattle.clauses.specs.Text.{or_text}

-- what may not come next
pub record NoSuffix (x : List Lex) : Type 0 where
  pub bars : (q : Suffix) (k : List Lex) → x ≡ suffix q ∷ k → ⊥

pub record NoJoin (x : List Lex) : Type 0 where
  pub bars : (m : BinaryMark) (k : List Lex) → x ≡ join m ∷ k → ⊥

pub record NoBar (x : List Lex) : Type 0 where
  pub bars : (k : List Lex) → x ≡ bar ∷ k → ⊥

pub record RowStop (x : List Lex) : Type 0 where
  pub suffixes : NoSuffix x
  pub joins : NoJoin x

pub record Stop (x : List Lex) : Type 0 where
  pub row : RowStop x
  pub more : NoBar x

pub join_next : (m : BinaryMark) (k : List Lex) → NoSuffix (join m ∷ k)
join_next m k = record { bars = λ q l e. clash cc }

pub bar_next : (k : List Lex) → RowStop (bar ∷ k)
bar_next k =
    record {
      suffixes = record { bars = λ q l e. clash cc };
      joins =
          record { bars = λ q l e. clash cc };
    }

pub closing_next : (k : List Lex) → Stop (closing ∷ k)
closing_next k =
    record {
      row = record {
        suffixes = record { bars = λ q l e. clash cc };
        joins = record
            { bars = λ q l e. clash cc };
      };
      more = record { bars = λ l e. clash cc };
    }

pub nothing_next : Stop []
nothing_next =
    record {
      row = record {
        suffixes = record { bars = λ q l e. clash cc };
        joins = record
            { bars = λ q l e. clash cc };
      };
      more = record { bars = λ l e. clash cc };
    }

abbrev DetAtom : Expr item → List Lex → Type 0
DetAtom e l = (f : Expr item) (m x y : List Lex) → WrittenAs (an_atom f) m → l ++ x ≡ m ++ y
    → (e ≡ f) × (x ≡ y)

abbrev DetItem : Expr item → List Lex → Type 0
DetItem e l = (f : Expr item) (m x y : List Lex) → WrittenAs (an_item f) m → NoSuffix x → NoSuffix y
    → l ++ x ≡ m ++ y → (e ≡ f) × (x ≡ y)

abbrev DetRow : Expr item → List Lex → Type 0
DetRow e l = (f : Expr item) (m x y : List Lex) → WrittenAs (a_row f) m → RowStop x → RowStop y
    → l ++ x ≡ m ++ y → (e ≡ f) × (x ≡ y)

abbrev DetOne : Expr made → List Lex → Type 0
DetOne e l = (f : Expr made) (m x y : List Lex) → WrittenAs (one f) m → RowStop x → RowStop y
    → l ++ x ≡ m ++ y → (e ≡ f) × (x ≡ y)

abbrev DetMany : Expr alternatives → List Lex → Type 0
DetMany e l = (f : Expr alternatives) (m x y : List Lex) → WrittenAs (many f) m → Stop x → Stop y
    → l ++ x ≡ m ++ y → (e ≡ f) × (x ≡ y)

abbrev Det : Phrase → List Lex → Type 0
Det (an_atom e) l = DetAtom e l
Det (an_item e) l = DetItem e l
Det (a_row e) l = DetRow e l
Det (one e) l = DetOne e l
Det (many e) l = DetMany e l

tails : {a b : Lex} {x y : List Lex} → a ∷ x ≡ b ∷ y → x ≡ y
tails e = cc

-- two first lexemes that differ
abbrev sort : Lex → ℕ
sort (n a) = 0
sort (t a) = 1
sort opening = 2
sort closing = 3
sort bar = 4
sort (suffix q) = 5
sort (join m) = 6

differ : {P : Type 0} {a b : Lex} {x y : List Lex} → a ∷ x ≡ b ∷ y → (sort a ≡ sort b → ⊥) → P
differ {a = a} {b = b} e f = let z : a ≡ b = cc in absurd (f (ap sort z))

number_n : {a b : ℕ} {x y : List Lex} → n a ∷ x ≡ n b ∷ y → a ≡ b
number_n e = cc

number_t : {a b : ℕ} {x y : List Lex} → t a ∷ x ≡ t b ∷ y → a ≡ b
number_t e = cc

number_s : {a b : Suffix} {x y : List Lex} → suffix a ∷ x ≡ suffix b ∷ y → a ≡ b
number_s e = cc

number_j : {a b : BinaryMark} {x y : List Lex} → join a ∷ x ≡ join b ∷ y → a ≡ b
number_j e = cc

det_n : (a : ℕ) → DetAtom (nonterminal a) (n a ∷ [])
det_n a f m x y (nonterminal_text) e = (ap nonterminal (number_n e), tails e)
det_n a f m x y (terminal_text) e = differ e (λ z. omega arith)
det_n a f m x y (group_text w) e = differ e (λ z. omega arith)

det_t : (a : ℕ) → DetAtom (a_part (terminal a)) (t a ∷ [])
det_t a f m x y (nonterminal_text) e = differ e (λ z. omega arith)
det_t a f m x y (terminal_text) e = (ap (λ (b : ℕ). a_part (terminal b)) (number_t e), tails e)
det_t a f m x y (group_text w) e = differ e (λ z. omega arith)

det_group : (e : Expr alternatives) (l : List Lex) → DetMany e l
    → DetAtom (a_part (group e)) (opening ∷ (l ++ (closing ∷ [])))
det_group e l d f m x y (nonterminal_text) q = differ q (λ z. omega arith)
det_group e l d f m x y (terminal_text) q = differ q (λ z. omega arith)
det_group e l d f m x y (group_text {e = g} {l = k} w) q =
    let r = d g k (closing ∷ x) (closing ∷ y) w (closing_next x) (closing_next y)
    (sym (append_assoc l (closing ∷ []) x) ∙ tails q ∙ append_assoc k (closing ∷ []) y) in
    (ap (λ (h : Expr alternatives). a_part (group h)) r.0, tails r.1)

abbrev pub suffixed : Expr item → Suffix → Expr item
suffixed a maybe = a_part (optional a)
suffixed a (repeats q m) = a_part (repeated q m a)
suffixed a (marks m) = a_part (mark m a)

-- an item is an atom, bare or with a suffix
abbrev pub ItemView : Expr item → List Lex → Type 0
ItemView f m =
    (a : Expr item) × (k : List Lex) × WrittenAs (an_atom a) k
    × (((f ≡ a) × (m ≡ k)) ⊎ ((q : Suffix) × (f ≡ suffixed a q) × (m ≡ k ++ (suffix q ∷ []))))

pub item_view : {f : Expr item} {m : List Lex} → WrittenAs (an_item f) m → ItemView f m
item_view (bare_text {e = a} {l = k} w) = (a, k, w, inl (refl, refl))
item_view (optional_text {e = a} {l = k} w) = (a, k, w, inr (maybe, refl, refl))
item_view (repeated_text {q = q} {m = b} {e = a} {l = k} w) =
    (a, k, w, inr (repeats q b, refl, refl))
item_view (marked_text {m = b} {e = a} {l = k} w) =
    (a_part (group a), k, w, inr (marks b, refl, refl))

det_bare : (e : Expr item) (l : List Lex) → DetAtom e l → DetItem e l
det_bare e l d f m x y w p q r = go (item_view w)
  where
    go : ItemView f m → (e ≡ f) × (x ≡ y)
    go v = ⊎_elim
        (λ b. let z = d v.0 v.1 x y v.2 (r ∙ ap (λ (h : List Lex). h ++ y) b.1) in
        (z.0 ∙ sym b.0, z.1))
        (λ s. let z = d v.0 v.1 x (suffix s.0 ∷ y) v.2
        (r ∙ ap (λ (h : List Lex). h ++ y) s.2 ∙ append_assoc v.1 (suffix s.0 ∷ [])
        y) in absurd (p.bars s.0 y z.1)) v.3

det_suffix : (e : Expr item) (l : List Lex) (b : Suffix) → DetAtom e l
    → DetItem (suffixed e b) (l ++ (suffix b ∷ []))
det_suffix e l b d f m x y w p q r = go (item_view w)
  where
    start : (l ++ (suffix b ∷ [])) ++ x ≡ l ++ (suffix b ∷ x)
    start = append_assoc l (suffix b ∷ []) x

    go : ItemView f m → (suffixed e b ≡ f) × (x ≡ y)
    go v = ⊎_elim
        (λ s. let z = d v.0 v.1 (suffix b ∷ x) y v.2
        (sym start ∙ r ∙ ap (λ (h : List Lex). h ++ y) s.1) in
        absurd (q.bars b x (sym z.1)))
        (λ s. let z = d v.0 v.1 (suffix b ∷ x) (suffix s.0 ∷ y) v.2
        (sym start ∙ r ∙ ap (λ (h : List Lex). h ++ y) s.2
        ∙ append_assoc v.1 (suffix s.0 ∷ []) y) in
        let k = number_s z.1 in ((λ i. suffixed (z.0 i) (k i)) ∙ sym s.1, tails z.1))
        v.3

det_last : (e : Expr item) (l : List Lex) → DetItem e l → DetRow e l
det_last e l d f m x y (last_text w) p q r = d f m x y w p.suffixes q.suffixes r
det_last e l d f m x y (then_text {m = b} {e = g} {f = h} {k = k} {l = j} w v) p q r =
    let z = d g k x (join b ∷ (j ++ y)) w p.suffixes (join_next b (j ++ y))
    (r ∙ append_assoc k (join b ∷ j) y) in absurd (p.joins.bars b (j ++ y) z.1)

det_then : (b : BinaryMark) (e f : Expr item) (k l : List Lex) → DetItem e k → DetRow f l
    → DetRow (a_part (pair b e f)) (k ++ (join b ∷ l))
det_then b e f k l d c g m x y (last_text w) p q r =
    let z = d g m (join b ∷ (l ++ x)) y w (join_next b (l ++ x)) q.suffixes
    (sym (append_assoc k (join b ∷ l) x) ∙ r) in
    absurd (q.joins.bars b (l ++ x) (sym z.1))
det_then b e f k l d c g m x y (then_text {m = b'} {e = e'} {f = f'} {k = k'} {l = l'} w v) p q r =
    let z = d e' k' (join b ∷ (l ++ x)) (join b' ∷ (l' ++ y)) w (join_next b (l ++ x))
    (join_next b' (l' ++ y))
    (sym (append_assoc k (join b ∷ l) x) ∙ r ∙ append_assoc k' (join b' ∷ l') y) in
    let s = c f' l' x y v p q (tails z.1) in
    let j = number_j z.1 in
    ((λ i. a_part (pair (j i) (z.0 i) (s.0 i))), s.1)

det_single : (e : Expr item) (l : List Lex) → DetItem e l → DetOne (mark UnaryMark.None e) l
det_single e l d f m x y (single_text {e = g} w) p q r =
    let z = d g m x y w p.suffixes q.suffixes r in
    (ap (λ (h : Expr item). mark UnaryMark.None h) z.0, z.1)
det_single e l d f m x y (several_text {m = b} {e = g} {f = h} {k = k} {l = j} w v) p q r =
    let z = d g k x (join b ∷ (j ++ y)) w p.suffixes (join_next b (j ++ y))
    (r ∙ append_assoc k (join b ∷ j) y) in absurd (p.joins.bars b (j ++ y) z.1)

det_several : (b : BinaryMark) (e f : Expr item) (k l : List Lex) → DetItem e k → DetRow f l
    → DetOne (pair b e f) (k ++ (join b ∷ l))
det_several b e f k l d c g m x y (single_text {e = h} w) p q r =
    let z = d h m (join b ∷ (l ++ x)) y w (join_next b (l ++ x)) q.suffixes
    (sym (append_assoc k (join b ∷ l) x) ∙ r) in
    absurd (q.joins.bars b (l ++ x) (sym z.1))
det_several b e f k l d c g m x y (several_text {m = b'} {e = e'} {f = f'} {k = k'} {l = l'} w v) p
    q r =
    let z = d e' k' (join b ∷ (l ++ x)) (join b' ∷ (l' ++ y)) w (join_next b (l ++ x))
    (join_next b' (l' ++ y))
    (sym (append_assoc k (join b ∷ l) x) ∙ r ∙ append_assoc k' (join b' ∷ l') y) in
    let s = c f' l' x y v p q (tails z.1) in
    let j = number_j z.1 in
    ((λ i. pair (j i) (z.0 i) (s.0 i)), s.1)

det_only : (e : Expr made) (l : List Lex) → DetOne e l → DetMany (only e) l
det_only e l d f m x y (only_text {e = g} w) p q r = let z = d g m x y w p.row q.row r in
    (ap only z.0, z.1)
det_only e l d f m x y (or_text {e = g} {f = h} {k = k} {l = j} w v) p q r =
    let z = d g k x (bar ∷ (j ++ y)) w p.row (bar_next (j ++ y))
    (r ∙ append_assoc k (bar ∷ j) y) in absurd (p.more.bars (j ++ y) z.1)

det_or : (e : Expr made) (f : Expr alternatives) (k l : List Lex) → DetOne e k → DetMany f l
    → DetMany (or e f) (k ++ (bar ∷ l))
det_or e f k l d c g m x y (only_text {e = h} w) p q r =
    let z = d h m (bar ∷ (l ++ x)) y w (bar_next (l ++ x)) q.row
    (sym (append_assoc k (bar ∷ l) x) ∙ r) in absurd (q.more.bars (l ++ x) (sym z.1))
det_or e f k l d c g m x y (or_text {e = e'} {f = f'} {k = k'} {l = l'} w v) p q r =
    let z = d e' k' (bar ∷ (l ++ x)) (bar ∷ (l' ++ y)) w (bar_next (l ++ x)) (bar_next (l' ++ y))
    (sym (append_assoc k (bar ∷ l) x) ∙ r ∙ append_assoc k' (bar ∷ l') y) in
    let s = c f' l' x y v p q (tails z.1) in
    ((λ i. or (z.0 i) (s.0 i)), s.1)

det : {p : Phrase} {l : List Lex} → WrittenAs p l → Det p l
det (nonterminal_text {a = a}) = det_n a
det (terminal_text {a = a}) = det_t a
det (group_text {e = e} {l = l} w) = det_group e l (det w)
det (bare_text {e = e} {l = l} w) = det_bare e l (det w)
det (optional_text {e = e} {l = l} w) = det_suffix e l maybe (det w)
det (repeated_text {q = q} {m = m} {e = e} {l = l} w) = det_suffix e l (repeats q m) (det w)
det (marked_text {m = m} {e = e} {l = l} w) = det_suffix (a_part (group e)) l (marks m) (det w)
det (last_text {e = e} {l = l} w) = det_last e l (det w)
det (then_text {m = m} {e = e} {f = f} {k = k} {l = l} w v) = det_then m e f k l (det w) (det v)
det (single_text {e = e} {l = l} w) = det_single e l (det w)
det (several_text {m = m} {e = e} {f = f} {k = k} {l = l} w v) =
    det_several m e f k l (det w) (det v)
det (only_text {e = e} {l = l} w) = det_only e l (det w)
det (or_text {e = e} {f = f} {k = k} {l = l} w v) = det_or e f k l (det w) (det v)

-- one line, one expression
pub legible : (e f : Expr alternatives) (l : List Lex) → WrittenAs (many e) l → WrittenAs (many f) l
    → e ≡ f
legible e f l w v = (det w f l [] [] v nothing_next nothing_next refl).0
