-- Matching parentheses, and how deep they go.
use mathlib.Core.Path.{◌≡◌, refl, sym, ◌∙◌, ap}
use mathlib.Core.Logic.{◌⊎◌, inl, inr, ⊎_elim}
use mathlib.Core.Bool.{Bool, true, false}
use mathlib.Core.List.{List, [], ◌∷◌, ◌++◌, append_assoc, append-nil}
use Prim.Native.Nat.{ℕ, suc, ◌+◌, ◌≤◌, ◌<◌, max}
use native.Mathlib.Omega.{arith}
use lib.Dec.{T, ltb, ltb→lt, nltb→le, lt→ltb}
use Rattle.clauses.specs.Text.{maybe, repeats, marks, Lex, closing, bar, suffix, join, Phrase}
use Rattle.clauses.specs.Text.{WrittenAs, nonterminal_text, terminal_text, group_text}
use Rattle.clauses.specs.Text.{bare_text, optional_text, repeated_text, marked_text}
use Rattle.clauses.specs.Text.{last_text, then_text, single_text, several_text, only_text}
use Rattle.clauses.specs.Text.{or_text, depth, an_atom, an_item, a_row, one, many}
use Rattle.clauses.specs.Flat.{both, closes, shallow}
use Rattle.clauses.proofs.Sorted.{max_bounds, max_least}

-- how deep a part of a line is
abbrev pub depth_of : Phrase → ℕ
depth_of (an_atom e) = depth e
depth_of (an_item e) = depth e
depth_of (a_row e) = depth e
depth_of (one e) = depth e
depth_of (many e) = depth e

-- the search for a closing parenthesis passes over what is written
pub passed : {p : Phrase} {l : List Lex} → WrittenAs p l → (k : List Lex) (d : ℕ)
    → closes (l ++ k) d ≡ closes k d
passed (nonterminal_text) k d = refl
passed (terminal_text) k d = refl
passed (group_text {l = l} w) k d = ap (λ (y : List Lex). closes y (suc d))
    (append_assoc l (closing ∷ []) k) ∙ passed w (closing ∷ k) (suc d)
passed (bare_text w) k d = passed w k d
passed (optional_text {l = l} w) k d = ap (λ (y : List Lex). closes y d)
    (append_assoc l (suffix maybe ∷ []) k) ∙ passed w (suffix maybe ∷ k) d
passed (repeated_text {q = q} {m = m} {l = l} w) k d =
    ap (λ (y : List Lex). closes y d) (append_assoc l (suffix (repeats q m) ∷ []) k)
    ∙ passed w (suffix (repeats q m) ∷ k) d
passed (marked_text {m = m} {l = l} w) k d = ap (λ (y : List Lex). closes y d)
    (append_assoc l (suffix (marks m) ∷ []) k) ∙ passed w (suffix (marks m) ∷ k) d
passed (last_text w) k d = passed w k d
passed (then_text {m = m} {k = x} {l = y} w v) k d =
    ap (λ (z : List Lex). closes z d) (append_assoc x (join m ∷ y) k)
    ∙ passed w (join m ∷ (y ++ k)) d ∙ passed v k d
passed (single_text w) k d = passed w k d
passed (several_text {m = m} {k = x} {l = y} w v) k d =
    ap (λ (z : List Lex). closes z d) (append_assoc x (join m ∷ y) k)
    ∙ passed w (join m ∷ (y ++ k)) d ∙ passed v k d
passed (only_text w) k d = passed w k d
passed (or_text {k = x} {l = y} w v) k d = ap (λ (z : List Lex). closes z d)
    (append_assoc x (bar ∷ y) k) ∙ passed w (bar ∷ (y ++ k)) d ∙ passed v k d

-- after the opening parenthesis of a group comes its text, and after its closing one the rest
pub after_group : {p : Phrase} {l : List Lex} → WrittenAs p l → (k : List Lex)
    → closes (l ++ (closing ∷ k)) 0 ≡ k
after_group w k = passed w (closing ∷ k) 0

less : (a b : ℕ) → (a < b) ⊎ (b ≤ a)
less a b = go (ltb a b) refl
  where
    go : (c : Bool) → ltb a b ≡ c → (a < b) ⊎ (b ≤ a)
    go true e = inl (ltb→lt a b (rw e tt))
    go false e = inr (nltb→le a b (rw e tt))

truth : (b : Bool) → T b → b ≡ true
truth true h = refl
truth false h = absurd h

both_true : {a b c : Bool} → a ≡ true → b ≡ c → both a b ≡ c
both_true {a} {b} {c} e f = rw e f

both_false : (a b : Bool) → b ≡ false → both a b ≡ false
both_false true b e = e
both_false false b e = refl

-- an opening parenthesis where the count is full
full : (d m : ℕ) (b : Bool) → m ≤ d → both (ltb d m) b ≡ false
full d m b h = go (ltb d m) refl
  where
    go : (c : Bool) → ltb d m ≡ c → both c b ≡ false
    go true e = absurd (let z = ltb→lt d m (rw e tt) in omega arith)
    go false e = refl

-- the flat count stays within m exactly if the depth does
module _ (m : ℕ) where
  glue : (x y k : List Lex) (d : ℕ) (b : Bool) → shallow m (x ++ (y ++ k)) d ≡ b
      → shallow m ((x ++ y) ++ k) d ≡ b
  glue x y k d b e = ap (λ (z : List Lex). shallow m z d) (append_assoc x y k) ∙ e

  fit_in : {p : Phrase} {l : List Lex} → WrittenAs p l → (k : List Lex) (d : ℕ) → d + depth_of p ≤ m
      → shallow m (l ++ k) d ≡ shallow m k d
  fit_in (nonterminal_text) k d h = refl
  fit_in (terminal_text) k d h = refl
  fit_in (group_text {l = l} w) k d h =
      both_true (truth (ltb d m) (lt→ltb d m (omega arith)))
      (glue l (closing ∷ []) k (suc d) _ (fit_in w (closing ∷ k) (suc d) (omega arith)))
  fit_in (bare_text w) k d h = fit_in w k d h
  fit_in (optional_text {l = l} w) k d h =
      glue l (suffix maybe ∷ []) k d _ (fit_in w (suffix maybe ∷ k) d h)
  fit_in (repeated_text {q = q} {m = b} {l = l} w) k d h =
      glue l (suffix (repeats q b) ∷ []) k d _ (fit_in w (suffix (repeats q b) ∷ k) d h)
  fit_in (marked_text {m = b} {l = l} w) k d h =
      glue l (suffix (marks b) ∷ []) k d _ (fit_in w (suffix (marks b) ∷ k) d h)
  fit_in (last_text w) k d h = fit_in w k d h
  fit_in (then_text {m = b} {e = e} {f = f} {k = x} {l = y} w v) k d h =
      let z = max_bounds (depth e) (depth f) in
      glue x (join b ∷ y) k d _ (fit_in w (join b ∷ (y ++ k)) d (omega arith)
      ∙ fit_in v k d (omega arith))
  fit_in (single_text w) k d h = fit_in w k d h
  fit_in (several_text {m = b} {e = e} {f = f} {k = x} {l = y} w v) k d h =
      let z = max_bounds (depth e) (depth f) in
      glue x (join b ∷ y) k d _ (fit_in w (join b ∷ (y ++ k)) d (omega arith)
      ∙ fit_in v k d (omega arith))
  fit_in (only_text w) k d h = fit_in w k d h
  fit_in (or_text {e = e} {f = f} {k = x} {l = y} w v) k d h =
      let z = max_bounds (depth e) (depth f) in
      glue x (bar ∷ y) k d _ (fit_in w (bar ∷ (y ++ k)) d (omega arith)
      ∙ fit_in v k d (omega arith))

  -- two parts, of which one is too deep
  either : (a b d : ℕ) → m < d + max a b → (m < d + a) ⊎ ((d + a ≤ m) × (m < d + b))
  either a b d h = ⊎_elim (λ l. inl l)
      (λ l. ⊎_elim (λ r. inr (l, r)) (λ r. absurd (above r l)) (less m (d + b))) (less m (d + a))
    where
      above : d + b ≤ m → d + a ≤ m → ⊥
      above r l =
          ⊎_elim (λ q. let z = max_least a b b (omega arith) (omega arith) in omega arith)
          (λ q. let z = max_least a b a (omega arith) (omega arith) in omega arith) (less a b)

  fit_out : {p : Phrase} {l : List Lex} → WrittenAs p l → (k : List Lex) (d : ℕ) → d ≤ m
      → m < d + depth_of p → shallow m (l ++ k) d ≡ false
  fit_out (nonterminal_text) k d g h = absurd (omega arith)
  fit_out (terminal_text) k d g h = absurd (omega arith)
  fit_out (group_text {l = l} w) k d g h =
      ⊎_elim (λ q. both_false (ltb d m) _
      (glue l (closing ∷ []) k (suc d) false (fit_out w (closing ∷ k) (suc d) q (omega arith))))
      (λ q. full d m _ q) (less d m)
  fit_out (bare_text w) k d g h = fit_out w k d g h
  fit_out (optional_text {l = l} w) k d g h =
      glue l (suffix maybe ∷ []) k d false (fit_out w (suffix maybe ∷ k) d g h)
  fit_out (repeated_text {q = q} {m = b} {l = l} w) k d g h =
      glue l (suffix (repeats q b) ∷ []) k d false (fit_out w (suffix (repeats q b) ∷ k) d g h)
  fit_out (marked_text {m = b} {l = l} w) k d g h =
      glue l (suffix (marks b) ∷ []) k d false (fit_out w (suffix (marks b) ∷ k) d g h)
  fit_out (last_text w) k d g h = fit_out w k d g h
  fit_out (then_text {m = b} {e = e} {f = f} {k = x} {l = y} w v) k d g h =
      glue x (join b ∷ y) k d false
      (⊎_elim (λ q. fit_out w (join b ∷ (y ++ k)) d g q)
      (λ q. fit_in w (join b ∷ (y ++ k)) d q.0 ∙ fit_out v k d g q.1)
      (either (depth e) (depth f) d h))
  fit_out (single_text w) k d g h = fit_out w k d g h
  fit_out (several_text {m = b} {e = e} {f = f} {k = x} {l = y} w v) k d g h =
      glue x (join b ∷ y) k d false
      (⊎_elim (λ q. fit_out w (join b ∷ (y ++ k)) d g q)
      (λ q. fit_in w (join b ∷ (y ++ k)) d q.0 ∙ fit_out v k d g q.1)
      (either (depth e) (depth f) d h))
  fit_out (only_text w) k d g h = fit_out w k d g h
  fit_out (or_text {e = e} {f = f} {k = x} {l = y} w v) k d g h =
      glue x (bar ∷ y) k d false
      (⊎_elim (λ q. fit_out w (bar ∷ (y ++ k)) d g q)
      (λ q. fit_in w (bar ∷ (y ++ k)) d q.0 ∙ fit_out v k d g q.1)
      (either (depth e) (depth f) d h))

  pub shallow_in : {p : Phrase} {l : List Lex} → WrittenAs p l → depth_of p ≤ m
      → shallow m l 0 ≡ true
  shallow_in {p} {l} w h =
      ap (λ (z : List Lex). shallow m z 0) (sym (append-nil l)) ∙ fit_in w [] 0 (omega arith)

  pub shallow_out : {p : Phrase} {l : List Lex} → WrittenAs p l → m < depth_of p
      → shallow m l 0 ≡ false
  shallow_out {p} {l} w h = ap (λ (z : List Lex). shallow m z 0) (sym (append-nil l))
      ∙ fit_out w [] 0 (omega arith) (omega arith)
