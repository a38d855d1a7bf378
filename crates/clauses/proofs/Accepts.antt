-- The flat test says yes exactly to what is written so.
use mathlib.Core.Path.{◌≡◌, refl, sym, ◌∙◌, ap, subst}
use mathlib.Core.Logic.{◌⊎◌, inl, inr}
use mathlib.Core.Bool.{Bool, true, false}
use mathlib.Core.List.{List, [], ◌∷◌, ◌++◌, append_assoc, append-nil}
use Prim.Native.Nat.{ℕ, zero, suc, ◌≤◌}
use native.Mathlib.Omega.{arith}
use lib.ListN.{length, length-append}
use Rattle.sets.proofs.Basics.{clash}
use Rattle.sets.proofs.Basics.{never}
use Rattle.grammar.specs.declared.UnaryMark.{UnaryMark}
use Rattle.grammar.specs.declared.BinaryMark.{BinaryMark}
use Rattle.clauses.specs.Clauses.{item, made, alternatives, AtLeast, Expr, nonterminal}
use Rattle.clauses.specs.Clauses.{a_part, terminal, group, mark, pair, optional, repeated}
use Rattle.clauses.specs.Clauses.{only, or}
use Rattle.clauses.specs.Text.{Suffix, maybe, repeats, marks, Lex, n, t, opening, closing}
use Rattle.clauses.specs.Text.{bar, suffix, join, Phrase, an_atom, an_item, a_row, one, many}
use Rattle.clauses.specs.Text.{WrittenAs, nonterminal_text, terminal_text, group_text}
use Rattle.clauses.specs.Text.{bare_text, optional_text, repeated_text, marked_text}
use Rattle.clauses.specs.Text.{last_text, then_text, single_text, several_text, only_text}
use Rattle.clauses.specs.Text.{or_text}
use Rattle.clauses.specs.Flat.{State, due, plain, grouped, suffixed, fits, both, is_due}
use Rattle.clauses.specs.Flat.{past_item, run}

pub both_parts : (a b : Bool) → both a b ≡ true → (a ≡ true) × (b ≡ true)
both_parts true b e = (refl, e)
both_parts false b e = absurd (clash cc)

-- how an atom leaves the state
abbrev leaves : Expr item → State
leaves (nonterminal a) = plain
leaves (a_part (terminal a)) = plain
leaves (a_part (group e)) = grouped
leaves (a_part (mark m e)) = suffixed
leaves (a_part (pair m e f)) = suffixed
leaves (a_part (optional e)) = suffixed
leaves (a_part (repeated q m e)) = suffixed

-- the rest after alternatives: nothing, or a closing parenthesis and what follows it
abbrev Ended : ℕ → List Lex → Type 0
Ended zero l = l ≡ []
Ended (suc d) l = (k : List Lex) × (l ≡ closing ∷ k) × (run k grouped d ≡ true)

pub record AtomOut (d : ℕ) (l : List Lex) : Type 0 where
  pub expr : Expr item
  pub text : List Lex
  pub rest : List Lex
  pub split : l ≡ text ++ rest
  pub written : WrittenAs (an_atom expr) text
  pub goes : run rest (leaves expr) d ≡ true
  pub took : 1 ≤ length text

pub record ItemOut (d : ℕ) (l : List Lex) : Type 0 where
  pub expr : Expr item
  pub text : List Lex
  pub rest : List Lex
  pub state : State
  pub split : l ≡ text ++ rest
  pub written : WrittenAs (an_item expr) text
  pub goes : run rest state d ≡ true
  pub blocked : (q : Suffix) (k : List Lex) → rest ≡ suffix q ∷ k → ⊥
  pub later : is_due state ≡ false
  pub took : 1 ≤ length text

pub record ManyOut (d : ℕ) (l : List Lex) : Type 0 where
  pub expr : Expr alternatives
  pub text : List Lex
  pub rest : List Lex
  pub split : l ≡ text ++ rest
  pub written : WrittenAs (many expr) text
  pub ended : Ended d rest

abbrev pub Manys : ℕ → Type 0
Manys k = (d : ℕ) (l : List Lex) → length l ≤ k → run l due d ≡ true → ManyOut d l

-- an atom, where shorter alternatives can be told
unfoldable pub atom : (k : ℕ) → Manys k → (d : ℕ) (l : List Lex) → length l ≤ suc k
    → run l due d ≡ true → AtomOut d l
atom k f d [] h r = never r
atom k f d (n a ∷ l) h r = record {
  expr = nonterminal a;
  text = n a ∷ [];
  rest = l;
  split = refl;
  written =
      nonterminal_text;
  goes = r;
  took = omega arith;
}
atom k f d (t a ∷ l) h r = record {
  expr = a_part (terminal a);
  text = t a ∷ [];
  rest = l;
  split = refl;
  written =
      terminal_text;
  goes = r;
  took = omega arith;
}
atom k f d (opening ∷ l) h r =
    let m = f (suc d) l (omega arith) r in
    let e = m.ended in
    record {
      expr = a_part (group m.expr);
      text = opening ∷ (m.text ++ (closing ∷ []));
      rest = e.0;
      split = ap (λ (x : List Lex). opening ∷ x)
          (m.split ∙ ap (λ (x : List Lex). m.text ++ x) e.1
          ∙ sym (append_assoc m.text (closing ∷ []) e.0));
      written = group_text m.written;
      goes = e.2;
      took = omega arith;
    }
atom k f zero (closing ∷ l) h r = never r
atom k f (suc d) (closing ∷ l) h r = never r
atom k f d (suffix q ∷ l) h r = never r
atom k f d (join m ∷ l) h r = never r
atom k f d (bar ∷ l) h r = never r

unfoldable pub with_suffix : (e : Expr item) (l : List Lex) (q : Suffix) → WrittenAs (an_atom e) l
    → fits (leaves e) q ≡ true → (f : Expr item) × WrittenAs (an_item f) (l ++ (suffix q ∷ []))
with_suffix e l maybe w h = (a_part (optional e), optional_text w)
with_suffix e l (repeats q m) w h = (a_part (repeated q m e), repeated_text w)
with_suffix e l (marks m) w h = go e l w h
  where
    go : (e : Expr item) (l : List Lex) → WrittenAs (an_atom e) l → fits (leaves e) (marks m) ≡ true
        → (f : Expr item) × WrittenAs (an_item f) (l ++ (suffix (marks m) ∷ []))
    go e l (nonterminal_text) h = never h
    go e l (terminal_text) h = never h
    go e l (group_text {e = f} w) h =
        (a_part (mark m (a_part (group f))), marked_text (group_text w))

pub not_due : (e : Expr item) (l : List Lex) → WrittenAs (an_atom e) l → is_due (leaves e) ≡ false
not_due e l (nonterminal_text) = refl
not_due e l (terminal_text) = refl
not_due e l (group_text w) = refl

pub no_second : (d : ℕ) (r : List Lex) → run r suffixed d ≡ true → (q : Suffix) (k : List Lex)
    → r ≡ suffix q ∷ k → ⊥
no_second d r h q k e = never (ap (λ (x : List Lex). run x suffixed d) (sym e) ∙ h)

-- an atom with its suffix, if one follows
unfoldable pub item_of : {d : ℕ} {l : List Lex} (a : AtomOut d l) (r : List Lex) → a.rest ≡ r
    → run r (leaves a.expr) d ≡ true
    → ((q : Suffix) (k : List Lex) → r ≡ suffix q ∷ k → ⊥)
    ⊎ ((q : Suffix) × (k : List Lex) × (r ≡ suffix q ∷ k)) → ItemOut d l
item_of a r e h (inl bars) =
    record {
      expr = a.expr;
      text = a.text;
      rest = r;
      state = leaves a.expr;
      split = a.split
          ∙ ap (λ (x : List Lex). a.text ++ x) e;
      written = bare_text a.written;
      goes =
          h;
      blocked = bars;
      later = not_due a.expr a.text a.written;
      took = a.took;
    }
item_of {d} {l} a r e h (inr s) =
    let q = s.0 in
    let k = s.1 in
    let p = both_parts (fits (leaves a.expr) q) (run k suffixed d)
    (ap (λ (x : List Lex). run x (leaves a.expr) d) (sym s.2) ∙ h) in
    let w = with_suffix a.expr a.text q a.written p.0 in
    record {
      expr = w.0;
      text = a.text ++ (suffix q ∷ []);
      rest = k;
      state = suffixed;
      split = a.split ∙ ap (λ (x : List Lex). a.text ++ x) (e ∙ s.2)
          ∙ sym (append_assoc a.text (suffix q ∷ []) k);
      written = w.1;
      goes = p.1;
      blocked = no_second d k p.1;
      later = refl;
      took = omega (arith, a.took, length-append a.text (suffix q ∷ []));
    }

-- does a suffix come first?
unfoldable pub first_suffix : (r : List Lex)
    → ((q : Suffix) (k : List Lex) → r ≡ suffix q ∷ k → ⊥)
    ⊎ ((q : Suffix) × (k : List Lex) × (r ≡ suffix q ∷ k))
first_suffix [] = inl (λ q k e. clash cc)
first_suffix (n a ∷ r) = inl (λ q k e. clash cc)
first_suffix (t a ∷ r) = inl (λ q k e. clash cc)
first_suffix (opening ∷ r) = inl (λ q k e. clash cc)
first_suffix (closing ∷ r) = inl (λ q k e. clash cc)
first_suffix (bar ∷ r) = inl (λ q k e. clash cc)
first_suffix (suffix q ∷ r) = inr (q, r, refl)
first_suffix (join m ∷ r) = inl (λ q k e. clash cc)

unfoldable pub item_out : {d : ℕ} {l : List Lex} → AtomOut d l → ItemOut d l
item_out a = item_of a a.rest refl a.goes (first_suffix a.rest)

-- after a row: the alternatives end, or another follows
abbrev Stopped : ℕ → List Lex → Type 0
Stopped d r = Ended d r ⊎ ((k : List Lex) × (r ≡ bar ∷ k) × (run k due d ≡ true))

pub record RowOut (d : ℕ) (l : List Lex) : Type 0 where
  pub expr : Expr item
  pub text : List Lex
  pub rest : List Lex
  pub split : l ≡ text ++ rest
  pub written : WrittenAs (a_row expr) text
  pub stopped : Stopped d rest
  pub took : 1 ≤ length text

abbrev pub Rows : ℕ → Type 0
Rows k = (d : ℕ) (l : List Lex) → length l ≤ k → run l due d ≡ true → RowOut d l

unfoldable pub ends_here : {d : ℕ} {l : List Lex} (i : ItemOut d l) (r : List Lex) → i.rest ≡ r
    → Stopped d r → RowOut d l
ends_here i r e s =
    record {
      expr = i.expr;
      text = i.text;
      rest = r;
      split = i.split
          ∙ ap (λ (x : List Lex). i.text ++ x) e;
      written = last_text i.written;
      stopped =
          s;
      took = i.took;
    }

pub refuted : {P : Type 0} (b c : Bool) → b ≡ false → both b c ≡ true → P
refuted b c e h = never (sym e ∙ (both_parts b c h).0)

unfoldable pub row_of : (k : ℕ) → Rows k → (d : ℕ) (l : List Lex) → length l ≤ suc k
    → (i : ItemOut d l) (r : List Lex) → i.rest ≡ r → run r i.state d ≡ true → RowOut d l
row_of k f zero l h i [] e g = ends_here i [] e (inl refl)
row_of k f (suc d) l h i [] e g = never (both_parts (past_item i.state) false g).1
row_of k f d l h i (n a ∷ r) e g = refuted _ _ i.later g
row_of k f d l h i (t a ∷ r) e g = refuted _ _ i.later g
row_of k f d l h i (opening ∷ r) e g = refuted _ _ i.later g
row_of k f zero l h i (closing ∷ r) e g = never g
row_of k f (suc d) l h i (closing ∷ r) e g =
    ends_here i (closing ∷ r) e (inl (r, refl, (both_parts (past_item i.state) _ g).1))
row_of k f d l h i (bar ∷ r) e g =
    ends_here i (bar ∷ r) e (inr (r, refl, (both_parts (past_item i.state) _ g).1))
row_of k f d l h i (suffix q ∷ r) e g = absurd (i.blocked q r e)
row_of k f d l h i (join m ∷ r) e g =
    let x = ap length (i.split ∙ ap (λ (y : List Lex). i.text ++ y) e) in
    let o = f d r (omega (arith, x, length-append i.text (join m ∷ r), i.took))
    (both_parts (past_item i.state) _ g).1 in
    record {
      expr = a_part (pair m i.expr o.expr);
      text = i.text ++ (join m ∷ o.text);
      rest = o.rest;
      split =
          i.split ∙ ap (λ (y : List Lex). i.text ++ y)
          (e ∙ ap (λ (y : List Lex). join m ∷ y) o.split)
          ∙ sym (append_assoc i.text (join m ∷ o.text) o.rest);
      written = then_text i.written o.written;
      stopped = o.stopped;
      took = omega (arith, i.took, length-append i.text (join m ∷ o.text));
    }

-- a row as an alternative
unfoldable pub as_one : (e : Expr item) (l : List Lex) → WrittenAs (a_row e) l
    → (f : Expr made) × WrittenAs (one f) l
as_one e l (last_text {e = g} w) = (mark UnaryMark.None g, single_text w)
as_one e l (then_text {m = m} {e = g} {f = f} w v) = (pair m g f, several_text w v)

unfoldable pub many_of : (k : ℕ) → Manys k → (d : ℕ) (l : List Lex) → length l ≤ suc k
    → (o : RowOut d l) → Stopped d o.rest → ManyOut d l
many_of k f d l h o (inl x) =
    let w = as_one o.expr o.text o.written in
    record {
      expr = only w.0;
      text = o.text;
      rest = o.rest;
      split = o.split;
      written =
          only_text w.1;
      ended = x;
    }
many_of k f d l h o (inr s) =
    let w = as_one o.expr o.text o.written in
    let x = ap length (o.split ∙ ap (λ (y : List Lex). o.text ++ y) s.1) in
    let m = f d s.0 (omega (arith, x, length-append o.text (bar ∷ s.0), o.took)) s.2 in
    record {
      expr = or w.0 m.expr;
      text = o.text ++ (bar ∷ m.text);
      rest = m.rest;
      split =
          o.split ∙ ap (λ (y : List Lex). o.text ++ y)
          (s.1 ∙ ap (λ (y : List Lex). bar ∷ y) m.split)
          ∙ sym (append_assoc o.text (bar ∷ m.text) m.rest);
      written = or_text w.1 m.written;
      ended = m.ended;
    }

unfoldable pub step_row : (k : ℕ) → Rows k → Manys k → Rows (suc k)
step_row k f g d l h r = let i = item_out (atom k g d l h r) in
    row_of k f d l h i i.rest refl i.goes

unfoldable pub step_many : (k : ℕ) → Rows (suc k) → Manys k → Manys (suc k)
step_many k f g d l h r = let o = f d l h r in many_of k g d l h o o.stopped

unfoldable pub parsed : (k : ℕ) → Rows k × Manys k
parsed zero = ((λ d l h r. none l d h r), (λ d l h r. none l d h r))
  where
    none : {P : Type 0} (l : List Lex) (d : ℕ) → length l ≤ 0 → run l due d ≡ true → P
    none [] d h r = never r
    none (x ∷ l) d h r = absurd (omega arith)
parsed (suc k) = let p = parsed k in let f = step_row k p.0 p.1 in (f, step_many k f p.1)

-- what the flat test takes is written so
unfoldable pub accepted : (l : List Lex) → run l due 0 ≡ true
    → (e : Expr alternatives) × WrittenAs (many e) l
accepted l r =
    let m = (parsed (length l)).1 0 l (omega arith) r in (
      m.expr,
      subst (λ (x : List Lex). WrittenAs (many m.expr) x)
          (sym (m.split ∙ ap (λ (x : List Lex). m.text ++ x) m.ended ∙ append-nil m.text))
          m.written,
    )

-- the flat test passes over what is written
abbrev Passes : List Lex → State → Type 0
Passes l s = (k : List Lex) (d : ℕ) → run (l ++ k) due d ≡ run k s d

abbrev Runs : Phrase → List Lex → Type 0
Runs (an_atom e) l = Passes l (leaves e)
Runs (an_item e) l = (s : State) × (past_item s ≡ true) × Passes l s
Runs (a_row e) l = (s : State) × (past_item s ≡ true) × Passes l s
Runs (one e) l = (s : State) × (past_item s ≡ true) × Passes l s
Runs (many e) l = (s : State) × (past_item s ≡ true) × Passes l s

seen : (s : State) (b : Bool) → past_item s ≡ true → both (past_item s) b ≡ b
seen s b e = rw e refl

fits_some : (e : Expr item) (l : List Lex) (b : Bool) → WrittenAs (an_atom e) l
    → (both (fits (leaves e) maybe) b ≡ b)
    × ((q : AtLeast) (m : BinaryMark) → both (fits (leaves e) (repeats q m)) b ≡ b)
    × (past_item (leaves e) ≡ true)
fits_some e l b (nonterminal_text) = (refl, (λ q m. refl), refl)
fits_some e l b (terminal_text) = (refl, (λ q m. refl), refl)
fits_some e l b (group_text w) = (refl, (λ q m. refl), refl)

after : (l x k : List Lex) (d : ℕ) (s : State) → Passes l s
    → run ((l ++ x) ++ k) due d ≡ run (x ++ k) s d
after l x k d s p = ap (λ (y : List Lex). run y due d) (append_assoc l x k) ∙ p (x ++ k) d

runs : {p : Phrase} {l : List Lex} → WrittenAs p l → Runs p l
runs (nonterminal_text) = λ k d. refl
runs (terminal_text) = λ k d. refl
runs (group_text {l = l} w) =
    let r = runs w in
    λ k d. after l (closing ∷ []) k (suc d) r.0 r.2 ∙ seen r.0 (run k grouped d) r.1
runs (bare_text {e = e} {l = l} w) = (leaves e, (fits_some e l true w).2, runs w)
runs (optional_text {e = e} {l = l} w) =
    let r = runs w in (
      suffixed,
      refl,
      λ k d. after l (suffix maybe ∷ []) k d (leaves e) r
          ∙ (fits_some e l (run k suffixed d) w).0,
    )
runs (repeated_text {q = q} {m = m} {e = e} {l = l} w) =
    let r = runs w in (
      suffixed,
      refl,
      λ k d. after l (suffix (repeats q m) ∷ []) k d (leaves e) r
          ∙ (fits_some e l (run k suffixed d) w).1 q m,
    )
runs (marked_text {m = m} {e = e} {l = l} w) = let r = runs w in
    (suffixed, refl, λ k d. after l (suffix (marks m) ∷ []) k d grouped r)
runs (last_text w) = runs w
runs (then_text {m = m} {k = x} {l = y} w v) =
    let r = runs w in let o = runs v in (
      o.0,
      o.1,
      λ k d. after x (join m ∷ y) k d r.0 r.2
          ∙ seen r.0 (run (y ++ k) due d) r.1 ∙ o.2 k d,
    )
runs (single_text w) = runs w
runs (several_text {m = m} {k = x} {l = y} w v) =
    let r = runs w in let o = runs v in (
      o.0,
      o.1,
      λ k d. after x (join m ∷ y) k d r.0 r.2
          ∙ seen r.0 (run (y ++ k) due d) r.1 ∙ o.2 k d,
    )
runs (only_text w) = runs w
runs (or_text {k = x} {l = y} w v) =
    let r = runs w in let o = runs v in (
      o.0,
      o.1,
      λ k d. after x (bar ∷ y) k d r.0 r.2
          ∙ seen r.0 (run (y ++ k) due d) r.1 ∙ o.2 k d,
    )

-- what is written so, the flat test takes
pub accepts : (e : Expr alternatives) (l : List Lex) → WrittenAs (many e) l → run l due 0 ≡ true
accepts e l w = let r = runs w in
    ap (λ (x : List Lex). run x due 0) (sym (append-nil l)) ∙ r.2 [] 0 ∙ seen r.0 true r.1
