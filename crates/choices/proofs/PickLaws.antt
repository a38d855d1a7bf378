-- The choices at a span: what stands by the span sheet is grammar's choice, and the search for the
-- next one.
use mathlib.Core.Path.{◌≡◌, refl, sym, ap, ◌∙◌, subst}
use mathlib.Core.Logic.{◌⊎◌, inl, inr, ⊎_elim}
use mathlib.Core.List.{List}
use Prim.Native.Nat.{ℕ, ◌+◌, ◌-◌, ◌≤◌, ◌<◌}
use native.Mathlib.Omega.{arith}
use native.Mathlib.Decide.{dec_lt}
use lib.ListN.{length, take, drop, length-take, length-drop}
use lib.Seq.{take-take, drop-drop, take-add, drop_at}
use Rattle.grammar.specs.declared.Rule.{Rule}
use Rattle.grammar.specs.declared.Grammar.{Grammar}
use Rattle.grammar.specs.declared.Clause.{Clause}
use Rattle.grammar.specs.Layout.{Word}
use Rattle.grammar.specs.Trees.{Rules}
use Rattle.grammar.specs.Choices.{Choice, FirstChoice, OnlyChoice, OtherChoice, ChoiceBefore, Same}
use Rattle.grammar.specs.Content.{rules_of, SmallClause, SmallRule, Formed}
use Rattle.grammar.specs.SpanSheet.{part, SpanSheet}
use Rattle.grammar.proofs.ByKind.{Can, choice_can, can_choice, get_elem?_lt, no_word}
use Rattle.marks.specs.declared.SpanMarks.{SpanMarks}
use Rattle.marks.specs.Half.{Half}
use Rattle.marks.specs.Marked.{Marked}
use Rattle.marks.proofs.Words.{part_length}
use Rattle.marks.proofs.HalfLaws.{may_be, may_keep, may_pair, is_one, does_keep, does_pair}
use Rattle.marks.proofs.HalfLaws.{completes_self}
use Rattle.std.specs.Prelude.{Option, Some, None}
use Rattle.choices.specs.declared.Pick.{Pick}
use Rattle.tables.specs.Tables.{One, by_tokens, by_marks, Fits, Stand, rule}
use Rattle.choices.specs.Choosing.{NextAt, NoneFrom, NextChoice}
use Rattle.choices.specs.Searches.{Serves, FirstSplit, Upon, Stood, Reached, FirstPick}
use Rattle.tables.proofs.Places.{there}
use Rattle.tables.proofs.RulePlaces.{small_at}
use Rattle.tables.proofs.Views.{stand_view, marks_tokens, tokens_marks}

-- ---- the search

module _ (ws : List ℕ) (g : Grammar) (n start len : ℕ) (m : SpanMarks) (A p k : ℕ) where
  pub reached_first : Reached ws g n start len m A p k p k
  reached_first = record { on = inr (refl, omega arith); rest = λ i l h c. h }

  pub pick_here : (i l₁ l : ℕ) → i < length (rules_of g) → Reached ws g n start len m A p k i l₁
      → FirstSplit ws n start len m A (rule (rules_of g) i) l₁ (Some l)
      → FirstPick ws g n start len m A p k (Some (record { rule = i; left = l }))
  pick_here i l₁ l h r f = (
    record {
      on = ⊎_elim inl (λ e. inr (e.0, omega (arith, e.1, f.0))) r.on;
      rest = λ j q u c.
          ⊎_elim inl (λ e. inr (e.0, go j q e.0 e.1 c (dec_lt q l))) (r.rest j q u c);
    },
    record { within = h; left = f.1.0; fits = f.1.1 },
  )
    where
      go : (j q : ℕ) → i ≡ j → l₁ ≤ q → Stood ws g n start len m A j q → Dec (q < l) → l ≤ q
      go j q e x c (yes y) = absurd (f.2 q y x
          (subst (λ (z : ℕ). Serves ws n start len m A (rule (rules_of g) z) q) (sym e)
          (c.left, c.fits)))
      go j q e x c (no y) = omega arith

  pub pick_on : (i l₁ : ℕ) → Reached ws g n start len m A p k i l₁
      → FirstSplit ws n start len m A (rule (rules_of g) i) l₁ None
      → Reached ws g n start len m A p k (i + 1) 0
  pick_on i l₁ r f = record {
    on = ⊎_elim (λ x. inl (omega arith)) (λ e. inl (omega (arith, e.0))) r.on;
    rest = λ j q u c. ⊎_elim (λ x. go j q x (dec_lt (i + 1) j))
        (λ e. absurd (f q e.1 (subst (λ (z : ℕ). Serves ws n start len m A (rule (rules_of g) z) q)
        (sym e.0) (c.left, c.fits)))) (r.rest j q u c);
  }
    where
      go : (j q : ℕ) → i < j → Dec (i + 1 < j) → Upon (i + 1) 0 j q
      go j q h (yes l) = inl l
      go j q h (no l) = inr (omega arith, omega arith)

  pub pick_none : (i l₁ : ℕ) → length (rules_of g) ≤ i → Reached ws g n start len m A p k i l₁
      → FirstPick ws g n start len m A p k None
  pick_none i l₁ h r j q u c =
      ⊎_elim (λ x. omega (arith, c.within)) (λ e. omega (arith, c.within, e.0)) (r.rest j q u c)

-- ---- what stands by the span sheet is a choice

module _ (w : Word) (i n : ℕ) (h : i + n ≤ length w) where
  pub part_take : (k : ℕ) → k ≤ n → take k (part w i n) ≡ part w i k
  part_take k e = take-take k n (drop i w) e

  pub part_drop : (k : ℕ) → k ≤ n → drop k (part w i n) ≡ part w (i + k) (n - k)
  part_drop k e =
      let j : n ≡ k + (n - k) = omega arith in
      let l : length (take k (drop i w)) ≡ k = simp (length-take, length-drop) (omega arith) in
      ap (λ (x : ℕ). drop k (take x (drop i w))) j
      ∙ ap (drop k) (take-add k (n - k) (drop i w))
      ∙ drop_at (take k (drop i w)) (take (n - k) (drop k (drop i w))) k l
      ∙ ap (take (n - k)) (drop-drop k i w)

-- all of the word is known
abbrev pub whole : Word → Half
whole w = record { word = w; known = length w }

module _ (g : Rules) (w : Word) (ws : List ℕ) (sheet : SpanSheet g w ws) (s len : ℕ)
    (fit : s + len ≤ length w) where
  fits_can : (c : Clause) → SmallClause c → (l : ℕ)
      → Fits (One ws (length w)) (by_tokens (whole w) s len) s len c l → Can g (part w s len) c l
  fits_can Clause.Empty small l q = (no_word (part w s len) (part_length w s len fit ∙ q.0), q.1)
  fits_can (Clause.Atom a a') small l q =
      let n : len ≡ 1 = q.0 in
      let d = is_one (whole w) (omega arith) s a a' (omega arith) q.2 in
      (d.0, ap (part w s) n ∙ d.1, d.2, q.1)
  fits_can (Clause.Unary B m) small l q = (
    (sheet.one s len B fit small).0 q.0,
    does_keep (whole w) (omega arith) m s len fit q.1,
    q.2,
  )
  fits_can (Clause.Binary B C m) small l q =
      let k : l ≤ len = q.0 in
      let r : s + l + (len - l) ≤ length w = omega arith in
      rw (part_take w s len fit l k, part_drop w s len fit l k) (
        omega (arith, part_length w s len fit, k),
        (sheet.one s l B (omega arith) small.0).0
            q.1,
        (sheet.one (s + l) (len - l) C r small.1).0 q.2,
        does_pair (whole w)
            (omega arith) m s l (len - l) r q.3,
      )

  can_fits : (c : Clause) → SmallClause c → (l : ℕ) → Can g (part w s len) c l
      → Fits (One ws (length w)) (by_tokens (whole w) s len) s len c l
  can_fits Clause.Empty small l q = (sym (part_length w s len fit) ∙ ap length q.0, q.1)
  can_fits (Clause.Atom a a') small l q =
      let z : len ≡ 1 = sym (part_length w s len fit) ∙ ap length q.1 in (
        z,
        q.3,
        may_be (whole w) w (completes_self (whole w)) s len a a' q.0 q.2 fit
            (omega arith) q.1,
      )
  can_fits (Clause.Unary B m) small l q = (
    (sheet.one s len B fit small).1 q.0,
    may_keep (whole w) w (completes_self (whole w)) m s
        len fit q.1,
    q.2,
  )
  can_fits (Clause.Binary B C m) small l q =
      let k : l ≤ len = omega (arith, part_length w s len fit, q.0) in
      let r : s + l + (len - l) ≤ length w = omega arith in
      let x = part_take w s len fit l k in
      let y = part_drop w s len fit l k in (
        k,
        (sheet.one s l B (omega arith) small.0).1 (rw x at q.1),
        (sheet.one (s + l) (len - l) C r small.1).1 (rw y at q.2),
        may_pair (whole w) w (completes_self (whole w)) m s l (len - l) r (rw (x, y) at q.3),
      )

  pub stand_choice : ((i : ℕ) → i < length g → SmallRule (rule g i)) → (A i l : ℕ)
      → Stand (One ws (length w)) g (by_tokens (whole w) s len) s len A i l
      → Choice g A (part w s len) i l
  stand_choice small A i l c =
      subst (λ (B : ℕ). Choice g B (part w s len) i l) c.left
      (can_choice g i (rule g i).left (rule g i).clause (part w s len) l (there g i c.within)
      (fits_can (rule g i).clause (small i c.within).clause l c.fits))

  pub choice_stand : ((i : ℕ) → i < length g → SmallRule (rule g i)) → (A i l : ℕ)
      → Choice g A (part w s len) i l
      → Stand (One ws (length w)) g (by_tokens (whole w) s len) s len A i l
  choice_stand small A i l c =
      let x = choice_can c in
      let h = get_elem?_lt g i x.1 in
      let e : x.0 ≡ rule g i = let y = x.1 in let z = there g i h in cc in
      record {
        within = h;
        left = ap (λ (r : Rule). r.left) (sym e) ∙ x.2;
        fits = can_fits (rule g i).clause (small i h).clause l
            (subst (λ (r : Rule). Can g (part w s len) r.clause l) e x.3);
      }

-- ---- the order

before_or_upon : (i j p k : ℕ) → ChoiceBefore i j p k ⊎ Upon p k i j
before_or_upon i j p k = go (dec_lt i p) (dec_lt p i) (dec_lt j k)
  where
    go : Dec (i < p) → Dec (p < i) → Dec (j < k) → ChoiceBefore i j p k ⊎ Upon p k i j
    go (yes a) b c = inl (inl a)
    go (no a) (yes b) c = inr (inl b)
    go (no a) (no b) (yes c) = inl (inr (omega arith, c))
    go (no a) (no b) (no c) = inr (inr (omega arith, omega arith))

not_both : (i j p k : ℕ) → ChoiceBefore i j p k → Upon p k i j → ⊥
not_both i j p k b u =
    ⊎_elim (λ x. ⊎_elim (λ y. omega arith) (λ y. omega (arith, y.0)) u)
    (λ x. ⊎_elim (λ y. omega (arith, x.0)) (λ y. omega (arith, x.0, x.1, y.0, y.1)) u) b

-- a choice that is not before the place after (p, k) is another one, and each one before it is (p,
-- k) or before it
after_other : (p k q l : ℕ) → (ChoiceBefore q l p (k + 1) → ⊥) → Same q l p k → ⊥
after_other p k q l n e = n (inr (e.0, omega (arith, e.1)))

before_after : (p k i j : ℕ) → ChoiceBefore i j p (k + 1) → ChoiceBefore i j p k ⊎ Same i j p k
before_after p k i j (inl a) = inl (inl a)
before_after p k i j (inr a) = go (dec_lt j k)
  where
    go : Dec (j < k) → ChoiceBefore i j p k ⊎ Same i j p k
    go (yes b) = inl (inr (a.0, b))
    go (no b) = inr (a.0, omega (arith, a.1))

-- what the search finds by the marks is grammar's next choice
module _ (g : Grammar) (w : Word) (ws : List ℕ) (s len : ℕ) (m : SpanMarks) (A p k : ℕ)
    (formed : Formed g) where
  next_whole : (r : Option Pick) → s + len ≤ length w → SpanSheet (rules_of g) w ws
      → Marked (whole w) s len m
      → FirstPick ws g (length w) s len m A p k r → NextChoice (rules_of g) A (part w s len) p k r
  next_whole r fit sheet marked = go r
    where
      to : (i l : ℕ) → Stood ws g (length w) s len m A i l
          → Choice (rules_of g) A (part w s len) i l
      to i l c =
          stand_choice (rules_of g) w ws sheet s len fit (small_at formed) A i l
          (stand_view (One ws (length w)) (rules_of g) (by_marks m len) (by_tokens (whole w) s len)
          s len
          A i l (marks_tokens (whole w) s len m marked) c)

      from : (i l : ℕ) → Choice (rules_of g) A (part w s len) i l
          → Stood ws g (length w) s len m A i l
      from i l c =
          stand_view (One ws (length w)) (rules_of g) (by_tokens (whole w) s len) (by_marks m len) s
          len
          A i l (tokens_marks (whole w) s len m marked)
          (choice_stand (rules_of g) w ws sheet s len fit (small_at formed) A i l c)

      go : (r : Option Pick) → FirstPick ws g (length w) s len m A p k r
          → NextChoice (rules_of g) A (part w s len) p k r
      go (Some x) q = record {
        choice = to x.rule x.left q.1;
        late = λ b. not_both x.rule x.left p k b q.0.on;
        least = λ a b c z y. ⊎_elim z (λ u. not_both a b x.rule x.left y
            (q.0.rest a b u (from a b c)))
            (before_or_upon a b p k);
      }
      go None q = record {
        early = λ a b c. ⊎_elim (λ x. x)
            (λ u. absurd (q a b u (from a b c))) (before_or_upon a b p k);
      }

  pub next_found : (n : ℕ) (r : Option Pick) → length w ≡ n → s + len ≤ n
      → SpanSheet (rules_of g) w ws
      → Marked (record { word = w; known = n }) s len m → FirstPick ws g n s len m A p k r
      → NextChoice (rules_of g) A (part w s len) p k r
  next_found n r e = subst
      (λ (x : ℕ). s + len ≤ x → SpanSheet (rules_of g) w ws
      → Marked (record { word = w; known = x }) s len m → FirstPick ws g x s len m A p k r
      → NextChoice (rules_of g) A (part w s len) p k r) e (next_whole r)

-- ---- first, second and only choices by the next ones

module _ {g : Rules} {A : ℕ} {w : Word} where
  -- the first choice is the next one from the beginning
  pub next_first : {p k : ℕ} → NextAt g A w 0 0 p k → FirstChoice g A w p k
  next_first x = record {
    choice = x.choice;
    least = λ i j c b. x.least i j c
        (λ y. ⊎_elim (λ z. omega arith) (λ z. omega (arith, z.1)) y) b;
  }

  pub next_none : NoneFrom g A w 0 0 → (p k : ℕ) → Choice g A w p k → ⊥
  next_none x p k c = ⊎_elim (λ z. omega arith) (λ z. omega (arith, z.1)) (x.early p k c)

  -- the second choice is the next one after the first
  pub next_other : {p k q l : ℕ} → FirstChoice g A w p k → NextAt g A w p (k + 1) q l
      → OtherChoice g A w p k q l
  next_other {p} {k} {q} {l} f x = record {
    choice = x.choice;
    other = after_other p k q l x.late;
    least = λ i j c b.
        ⊎_elim (λ y. ⊎_elim (λ z. absurd (f.least i j c z)) (λ z. z) (before_after p k i j y))
        (λ u. absurd (x.least i j c (λ y. not_both i j p (k + 1) y u) b))
        (before_or_upon i j p (k + 1));
  }

  -- where there is none, the first is the only one
  pub next_only : {p k : ℕ} → FirstChoice g A w p k → NoneFrom g A w p (k + 1)
      → OnlyChoice g A w p k
  next_only {p} {k} f x = record {
    choice = f.choice;
    only = λ i j c. ⊎_elim (λ z. absurd (f.least i j c z)) (λ z. z)
        (before_after p k i j (x.early i j c));
  }
