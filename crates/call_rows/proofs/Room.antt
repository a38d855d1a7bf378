-- A later call for the trees of the same sheets, with as many rows as were counted, is never
-- refused 22; with one fewer it is (docs/FORMAT.md, "Calls and lent memory").
use mathlib.Core.Path.{◌≡◌, sym, ap, ◌∙◌}
use mathlib.Core.Logic.{◌⊎◌, inl, inr, ⊎_elim}
use mathlib.Core.List.{List}
use Prim.Native.Nat.{ℕ, suc, ◌≤◌, ◌<◌}
use native.Mathlib.Omega.{arith}
use lib.ListN.{length}
use Rattle.sets.proofs.Basics.{clash}
use Rattle.grammar.specs.Layout.{Word}
use Rattle.grammar.specs.Trees.{Tree, Rules}
use Rattle.grammar.specs.Choices.{FirstTree, SecondTree}
use Rattle.grammar.specs.Rows.{row_count}
use Rattle.grammar.proofs.ChoiceLaws.{first_unique, second_tree_unique}
use Rattle.grammar.proofs.VerdictLaws.{none_not_one, none_not_two, one_not_two}
use Rattle.tree_writer.specs.Written.{in_full_of, row_room}
use Rattle.sheets.specs.declared.Fault.{Fault}
use Rattle.sheets.specs.Refusals.{number_of}
use Rattle.sheets.specs.declared.Answer.{Answer}
use Rattle.std.specs.Prelude.{Option, Some, Result}
use Rattle.grammar.specs.declared.Verdict.{Verdict}
use Rattle.sheets.specs.declared.Refusal.{Refusal}
use Rattle.sheets.specs.Results.{verdict_answer, refusal}
use Rattle.answering.specs.declared.TreeRows.{TreeRows}
use Rattle.answering.specs.Results.{trees_told}
use Rattle.sheets.specs.Items.{accepted}
use Rattle.sheets.proofs.Once.{apart}
use Rattle.answering.specs.Answers.{sheets}
use Rattle.answering.specs.Verdict.{needed}
use Rattle.answering.specs.Trees.{trees_reply_of, Shown, TreesOf}
use Rattle.answering.specs.Trees as Show
use Rattle.answering.proofs.Settled.{same_sheets, sheets_apart}
use Rattle.row_counts.specs.RowCounts.{Counted, treeless, single, both, Tells}
use Rattle.call_rows.specs.declared.CountedRows.{CountedRows}
use Rattle.call_rows.specs.Rows.{short, counting, RowsOf, refusing, reading}
use Rattle.call_rows.specs.Rows.{rows_told, first_count, second_count}
use Rattle.grammar.specs.Distinct.{Distinct}

-- refusal 22: a tree of the answer has more rows than its memory has places
pub record NoRoom (r : Result TreeRows Refusal) : Type 0 where
  pub fault : Fault
  pub number : number_of fault ≡ 22
  pub answer : trees_told r ≡ Answer.Refused fault

-- no verdict is a refusal
verdict_no : (v : Verdict) (f : Fault) → verdict_answer v ≡ Answer.Refused f → ⊥
verdict_no Verdict.None f e = clash cc
verdict_no Verdict.One f e = clash cc
verdict_no Verdict.Two f e = clash cc

answered : {r : Result TreeRows Refusal} {m n : ℕ} (v : Verdict) → r ≡ trees_reply_of v m n
    → NoRoom r → ⊥
answered v e x = verdict_no v x.fault (sym (ap trees_told e) ∙ x.answer)

same_first : {g : Rules} {w : Word} {t u : Tree} → FirstTree g 0 w t → FirstTree g 0 w u
    → row_count t ≡ row_count u
same_first a b = ap row_count (first_unique a b)

same_second : {g : Rules} {w : Word} {t u : Tree} → Distinct g → SecondTree g 0 w t
    → SecondTree g 0 w u → row_count t ≡ row_count u
same_second d a b = ap row_count (second_tree_unique d a b)

no_room : {r : Result TreeRows Refusal} (f : Fault) → number_of f ≡ 22 → r ≡ refusal f 0 → NoRoom r
no_room f q e = record { fault = f; number = q; answer = ap trees_told e }

short_no : (f h : Fault) → number_of f ≡ 21 → number_of h ≡ 22 → Answer.Refused f ≡ Answer.Refused h
    → ⊥
short_no f h a b e = let z : f ≡ h = cc in omega (arith, ap number_of z)

module _ {g : Rules} (d : Distinct g) {w : Word} {m n : ℕ} {one one' two two' : List ℕ}
    {r : Result TreeRows Refusal} where
  -- what was counted fits
  shown_fits : Counted g w m n → Shown in_full_of g w one one' two two' r → m ≤ row_room one
      → n ≤ row_room two → NoRoom r → ⊥
  shown_fits c (Show.treeless p e a b) h k = answered Verdict.None e
  shown_fits c (Show.single o f l e a b) h k = answered Verdict.One e
  shown_fits c (Show.both p f s l l' e a b) h k = answered Verdict.Two e
  shown_fits (treeless p x y) (Show.large_one o f l q e a b) h k = absurd (none_not_one p o)
  shown_fits (single p f' x y) (Show.large_one o f l q e a b) h k =
      absurd (omega (arith, same_first f f'))
  shown_fits (both p f' s' x y) (Show.large_one o f l q e a b) h k = absurd (one_not_two o p)
  shown_fits (treeless p x y) (Show.large_two o f s l q e a b) h k = absurd (none_not_two p o)
  shown_fits (single p f' x y) (Show.large_two o f s l q e a b) h k = absurd (one_not_two p o)
  shown_fits (both p f' s' x y) (Show.large_two o f s l q e a b) h k =
      absurd (⊎_elim (λ z. omega (arith, same_first f f')) (λ z. omega (arith, same_second d s s'))
      l)

  -- less does not
  shown_short : Counted g w m n → Shown in_full_of g w one one' two two' r
      → (row_room one < m) ⊎ (row_room two < n) → NoRoom r
  shown_short c (Show.large_one {f = f} o t l q e a b) z = no_room f q e
  shown_short c (Show.large_two {f = f} o t s l q e a b) z = no_room f q e
  shown_short (treeless p x y) (Show.treeless o e a b) z =
      absurd (⊎_elim (λ k. omega arith) (λ k. omega arith) z)
  shown_short (single p f x y) (Show.treeless o e a b) z = absurd (none_not_one o p)
  shown_short (both p f s x y) (Show.treeless o e a b) z = absurd (none_not_two o p)
  shown_short (treeless p x y) (Show.single o f l e a b) z = absurd (none_not_one p o)
  shown_short (single p f' x y) (Show.single o f l e a b) z =
      absurd (⊎_elim (λ k. omega (arith, same_first f f')) (λ k. omega arith) z)
  shown_short (both p f' s x y) (Show.single o f l e a b) z = absurd (one_not_two o p)
  shown_short (treeless p x y) (Show.both o f s l l' e a b) z = absurd (none_not_two p o)
  shown_short (single p f' x y) (Show.both o f s l l' e a b) z = absurd (one_not_two p o)
  shown_short (both p f' s' x y) (Show.both o f s l l' e a b) z = absurd
      (⊎_elim (λ k. omega (arith, same_first f f')) (λ k. omega (arith, same_second d s s')) z)

tells_exact : {c : Option ℕ} {m k : ℕ} → c ≡ Some m → Tells c k → m ≡ k
tells_exact {m = m} {k = k} e t = (rw e at t).0

-- the call for row counts was not refused, and each count is told: they are m and n
pub record Exactly (r : Result CountedRows Refusal) (m n : ℕ) : Type 0 where
  pub answered : (f : Fault) → rows_told r ≡ Answer.Refused f → ⊥
  pub first : first_count r ≡ Some m
  pub second : second_count r ≡ Some n

module _ {rules tokens ws ws' : List ℕ} {r : Result CountedRows Refusal} {m n : ℕ}
    {vs vs' one one' two two' : List ℕ} {q : Result TreeRows Refusal} where
  -- with that many rows it is never refused 22
  pub enough_rows : RowsOf rules tokens ws ws' r → Exactly r m n
      → TreesOf rules tokens vs vs' one one' two two' q → m ≤ row_room one → n ≤ row_room two
      → NoRoom q → ⊥
  enough_rows (refusing {f = f} e x h) k t a b v =
      absurd (k.answered f (ap rows_told x))
  enough_rows (reading e (short {f = f} l o x h)) k t a b v =
      absurd (k.answered f (ap rows_told x))
  enough_rows (reading e (counting y c t u o h)) k (Show.refusing d z i j l) a b v =
      absurd (apart d e)
  enough_rows (reading {g = g} {w = w} e (counting y c t u o h)) k
      (Show.reading d (Show.short {f = f} l z i j j' j'')) a b x =
      short_no f x.fault z x.number (sym (ap trees_told i) ∙ x.answer)
  enough_rows (reading {g = g} {w = w} e (counting y c t u o h)) k
      (Show.reading d (Show.showing l s)) a b v =
      let z = same_sheets d e in
      shown_fits ((sheets_apart rules tokens).distinct g w e) c (rw (z.0, z.1) at s)
      (omega (arith, tells_exact (sym (ap first_count o) ∙ k.first) t))
      (omega (arith, tells_exact (sym (ap second_count o) ∙ k.second) u)) v

  -- with words enough, and with one fewer in either memory, if that count was not 0, it is
  pub one_row_fewer : RowsOf rules tokens ws ws' r → Exactly r m n
      → TreesOf rules tokens vs vs' one one' two two' q
      → ((g : Rules) (w : Word) → sheets rules tokens ≡ accepted (g, w) → needed w ≤ length vs)
      → (suc (row_room one) ≡ m) ⊎ (suc (row_room two) ≡ n) → NoRoom q
  one_row_fewer (refusing {f = f} e x h) k t a b =
      absurd (k.answered f (ap rows_told x))
  one_row_fewer (reading e (short {f = f} l o x h)) k t a b =
      absurd (k.answered f (ap rows_told x))
  one_row_fewer (reading e (counting y c t u o h)) k (Show.refusing d z i j l) a b =
      absurd (apart d e)
  one_row_fewer (reading e (counting y c t u o h)) k
      (Show.reading {g = g} {w = w} d (Show.short {f = f} l z i j j' j'')) a b =
      absurd (omega (arith, a g w d))
  one_row_fewer (reading {g = g} {w = w} e (counting y c t u o h)) k
      (Show.reading d (Show.showing l s)) a b =
      let z = same_sheets d e in
      let i = tells_exact (sym (ap first_count o) ∙ k.first) t in
      let j = tells_exact (sym (ap second_count o) ∙ k.second) u in
      shown_short ((sheets_apart rules tokens).distinct g w e) c (rw (z.0, z.1) at s)
      (⊎_elim (λ x. inl (omega arith)) (λ x. inr (omega arith)) b)
