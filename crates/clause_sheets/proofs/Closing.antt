-- The end of a clause sheet: room for the expansion, and that it is formed.
use mathlib.Core.Path.{◌≡◌, refl, sym, ◌∙◌, ap, subst}
use mathlib.Core.Logic.{inl, inr}
use mathlib.Core.Bool.{Bool, true, false, cond, ◌&&◌}
use mathlib.Core.List.{List, [], ◌∷◌, ◌++◌, Memᴰ}
use Prim.Native.Nat.{ℕ, zero, suc, ◌+◌, ◌≤◌, ◌<◌}
use native.Mathlib.Omega.{arith}
use lib.ListN.{length, take, drop, length-append}
use lib.Dec.{leb, eqb, eqb→eq, leb→le}
use borrow.Author.Tests.{eq-eqb, ne_eqb, le-leb, lt-leb}
use Rattle.sets.proofs.Basics.{clash}
use Rattle.grammar.specs.declared.Rule.{Rule}
use Rattle.grammar.specs.declared.Grammar.{Grammar}
use Rattle.grammar.specs.Trees.{Rules}
use Rattle.grammar.specs.Content.{Formed, SmallRule}
use Rattle.grammar.specs.Layout.{Every}
use Rattle.std.specs.Prelude.{Option, None, Some, Err}
use Rattle.fields.specs.Words.{numeral_of}
use Rattle.grammar.specs.Content.{rules_of}
use Rattle.fields.specs.Pieces.{is_empty, before}
use Rattle.clauses.specs.Clauses.{Clauses}
use Rattle.clauses.specs.Expansion.{of, rising, past_all, size_all, expansion}
use Rattle.clauses.proofs.Bounds.{Terms, TermsAll}
use Rattle.clauses.proofs.Apart.{expansion_distinct}
use Rattle.rule_output.specs.Emitting.{Emit, Adds, Cause}
use Rattle.clause_lines.specs.ClauseLines.{ClauseLine, Said, good, unwritten, deep, expression}
use Rattle.clause_lines.specs.ClauseLines.{with_left, left_says, clause_line}
use Rattle.sheets.specs.declared.Fault.{Fault}
use Rattle.sheets.specs.Items.{accepted, refused, next, stop, end, items_from}
use Rattle.sheets.specs.Promises.{RulesRead}
use Rattle.sheets.specs.RuleSheets.{finish}
use Rattle.sheets.proofs.Accepted.{items_hold}
use Rattle.clause_sheets.specs.ClauseSheets.{clause_said, clause_step, clauses_of, expansion_fits}
use Rattle.clause_sheets.specs.ClauseSheets.{expanded, clauses_from}
use Rattle.clause_sheets.specs.Emitted.{emit_all}
use Rattle.clause_sheets.specs.Checks.{RulesTaken, LinesEmitted}
use Rattle.clause_sheets.specs.Ends.{AllSaid}
use Rattle.clause_sheets.proofs.Small.{expression_terms, expansion_small}
use Rattle.clause_sheets.proofs.Sorting.{sorted_expansion, met_lefts}
use Rattle.grammar.specs.Distinct.{Distinct}

abbrev put : Bool → Rule → Rules → Rules
put b h g = elim b [ true ↦ h ∷ g | false ↦ g ]

-- one rule more makes the list by rising left one longer
pub record Longer (K : ℕ) (r : Rule) (g : Rules) : Type 0 where
  pub low : r.left < K → length (rising K (r ∷ g)) ≡ suc (length (rising K g))
  pub high : K ≤ r.left → length (rising K (r ∷ g)) ≡ length (rising K g)

less : (a b : ℕ) → a < suc b → (a ≡ b → ⊥) → a < b
less a b p q = omega (arith, q)

module _ (K : ℕ) (r : Rule) (g : Rules) (ih : Longer K r g) where
  at : (b : Bool) → length (rising K (r ∷ g) ++ put b r (of K g)) ≡ length (rising K (r ∷ g))
      + length (put b r (of K g))
  at b = length-append (rising K (r ∷ g)) (put b r (of K g))

  as_test : (b : Bool) → eqb r.left K ≡ b
      → length (rising (suc K) (r ∷ g)) ≡ length (rising K (r ∷ g) ++ put b r (of K g))
  as_test b e = ap (λ (x : Bool). length (rising K (r ∷ g) ++ put x r (of K g))) e

  both : length (rising (suc K) g) ≡ length (rising K g) + length (of K g)
  both = length-append (rising K g) (of K g)

  low_step : r.left < suc K → (b : Bool) → eqb r.left K ≡ b
      → length (rising (suc K) (r ∷ g)) ≡ suc (length (rising (suc K) g))
  low_step h true e = let z = eqb→eq r.left K (rw e tt) in let y = ih.high (omega arith) in
      omega (arith, as_test true e, at true, both)
  low_step h false e =
      let y = ih.low (less r.left K h
      (λ q. let u = sym (eq-eqb r.left K q) ∙ e in clash cc)) in
      omega (arith, as_test false e, at false, both)

  longer_step : Longer (suc K) r g
  longer_step =
      record {
        low = λ h. low_step h (eqb r.left K) refl;
        high = λ h. let y = ih.high (omega arith) in
            omega (arith, as_test false (ne_eqb r.left K (λ q. omega arith)), at false, both);
      }

longer : (K : ℕ) (r : Rule) (g : Rules) → Longer K r g
longer zero r g = record { low = λ h. absurd (omega arith); high = λ h. refl }
longer (suc K) r g = longer_step K r g (longer K r g)

none_rising : (K : ℕ) → length (rising K []) ≡ 0
none_rising zero = refl
none_rising (suc K) = omega (arith, length-append (rising K []) [], none_rising K)

pub same_length : (K : ℕ) (g : Rules) → ((r : Rule) → Memᴰ r g → r.left < K)
    → length (rising K g) ≡ length g
same_length K [] f = none_rising K
same_length K (r ∷ g) f = (longer K r g).low (f r (Memᴰ.head refl))
    ∙ ap suc (same_length K g (λ s m. f s (Memᴰ.tail m)))

-- the terminals of an accepted sheet's lines
terms_snoc : (l : List ClauseLine) (c : ClauseLine) → TermsAll (clauses_of l) → Terms c.expr
    → TermsAll (clauses_of (l ++ (c ∷ [])))
terms_snoc [] c h t = (t, tt)
terms_snoc (d ∷ l) c h t = (h.0, terms_snoc l c h.1 t)

left_terms : (v : ℕ) (x : List ℕ) (c : ClauseLine) (o : Said _) → expression x ≡ o
    → with_left v o ≡ good c → Terms c.expr
left_terms v x c (good e) j q = let z : record { left = v; expr = e } ≡ c = cc in
    subst (λ (y : ClauseLine). Terms y.expr) z (expression_terms x e j)
left_terms v x c unwritten j q = absurd (clash cc)
left_terms v x c deep j q = absurd (clash cc)

line_terms : (line : List ℕ) (c : ClauseLine) → clause_line line ≡ good c → Terms c.expr
line_terms line c h = go (numeral_of (before 32 line)) h
  where
    go : (o : Option ℕ) → left_says o (expression (drop (length (before 32 line) + 1) line))
        ≡ good c
        → Terms c.expr
    go None q = absurd (clash cc)
    go (Some v) q = which (leb v 63) q
      where
        which : (b : Bool) → cond b (with_left v
            (expression (drop (length (before 32 line) + 1) line))) unwritten ≡ good c
            → Terms c.expr
        which true q = left_terms v (drop (length (before 32 line) + 1) line) c
            (expression (drop (length (before 32 line) + 1) line)) refl q
        which false q = absurd (clash cc)

-- a line that gives one more clause says it
step_good : (seen : List ClauseLine) (p : List ℕ) (b : Bool) (c : ClauseLine)
    → clause_step seen p b ≡ next c → clause_line p ≡ good c
step_good seen p true c e = go (clause_line p) e
  where
    go : (o : Said ClauseLine) → clause_said o ≡ next c → o ≡ good c
    go (good d) q = let z : d ≡ c = cc in ap good z
    go unwritten q = absurd (clash cc)
    go deep q = absurd (clash cc)
step_good seen p false c e = go (is_empty p) e
  where
    go : (a : Bool) → cond a end (stop 41) ≡ next c → clause_line p ≡ good c
    go true q = absurd (clash cc)
    go false q = absurd (clash cc)

pub all_terms : (ps : List (List ℕ)) (l : List ClauseLine)
    → items_from clause_step [] ps ≡ accepted l
    → TermsAll (clauses_of l)
all_terms ps l =
    items_hold clause_step (λ w. TermsAll (clauses_of w))
    (λ seen p b c e h. terms_snoc seen c h (line_terms p c (step_good seen p b c e))) [] ps l tt

-- the sheet's end
module _ (ps : List (List ℕ)) (p : ℕ) (W : AllSaid ps p) where
  abbrev sheet : Clauses
  sheet = clauses_of W.lines

  ends : clauses_from ps ≡ cond (expansion_fits sheet) (finish (accepted (expansion sheet)))
      (refused 43 0)
  ends = ap expanded W.said

  no_fit : expansion_fits sheet ≡ false → clauses_from ps ≡ refused 43 0
  no_fit e = ends ∙ ap (λ (b : Bool). cond b (finish (accepted (expansion sheet))) (refused 43 0)) e

  -- a new nonterminal past 63
  pub past_many : 64 < past_all sheet + size_all sheet → clauses_from ps ≡ refused 43 0
  past_many h = no_fit (ap (λ (b : Bool). b && leb (length (expansion sheet)) 128)
      (lt-leb (past_all sheet + size_all sheet) 64 h))

  same_many : past_all sheet + size_all sheet ≤ 64
      → length (expansion sheet) ≡ length (emit_all sheet (past_all sheet))
  same_many h = ap length (sym (sorted_expansion sheet h))
      ∙ same_length 64 (emit_all sheet (past_all sheet))
      (λ r m. let z = met_lefts sheet r m in omega arith)

  -- over 128 rules
  pub rules_many : 128 < length (emit_all sheet (past_all sheet)) → clauses_from ps ≡ refused 43 0
  rules_many h = go (leb (past_all sheet + size_all sheet) 64) refl
    where
      go : (b : Bool) → leb (past_all sheet + size_all sheet) 64 ≡ b
          → clauses_from ps ≡ refused 43 0
      go false e = no_fit (ap (λ (b : Bool). b && leb (length (expansion sheet)) 128) e)
      go true e =
          let z = same_many (leb→le (past_all sheet + size_all sheet) 64 (rw e tt)) in
          no_fit (ap (λ (b : Bool). b && leb (length (expansion sheet)) 128) e
          ∙ lt-leb (length (expansion sheet)) 128 (omega arith))

  pub room_for : past_all sheet + size_all sheet ≤ 64
      → length (emit_all sheet (past_all sheet)) ≤ 128
      → clauses_from ps ≡ finish (accepted (expansion sheet))
  room_for h k =
      let z = same_many h in
      ends ∙ ap (λ (b : Bool). cond b (finish (accepted (expansion sheet))) (refused 43 0))
      (ap (λ (b : Bool). b && leb (length (expansion sheet)) 128)
      (le-leb (past_all sheet + size_all sheet) 64 h) ∙ le-leb (length (expansion sheet)) 128
      (omega arith))

  -- the grammar that holds the expansion is formed
  pub formed : (g : Grammar) → past_all sheet + size_all sheet ≤ 64
      → length (emit_all sheet (past_all sheet)) ≤ 128 → g.count ≡ length (expansion sheet)
      → rules_of g ≡ expansion sheet → Formed g
  formed g h k c e =
      let z = same_many h in
      record {
        few = omega arith;
        whole = ap length e ∙ sym c;
        small = subst (λ (y : Rules). Every SmallRule y) (sym e)
            (expansion_small sheet (all_terms ps W.lines W.said) h);
        distinct = subst (λ (y : Rules). Distinct y) (sym e) (expansion_distinct sheet);
      }

-- what the second walk has written, where the first new nonterminal is at most 64
pub record Walked (ps : List (List ℕ)) (p : ℕ) (first out : Emit) : Type 0 where
  pub said : AllSaid ps p
  pub low : p ≤ 64
  pub begun : (first.count ≡ 0) × (first.next ≡ p) × (first.over ≡ false)
      × (128 ≤ length first.rules)
  pub emitted : LinesEmitted ps first out

module _ {ps : List (List ℕ)} {p : ℕ} {first out : Emit} (w : Walked ps p first out) where
  abbrev lines : Clauses
  lines = clauses_of w.said.lines

  abbrev met : Rules
  met = emit_all lines (past_all lines)

  adds : Adds first out met (size_all lines)
  adds =
      subst (λ (k : ℕ). Adds first out (emit_all lines k) (size_all lines))
      (w.begun.1 ∙ w.said.most) (w.emitted.adds w.said.lines w.said.said)

  pub out_over : out.over ≡ true → clauses_from ps ≡ refused 43 0
  out_over e = go (adds.why e)
    where
      go : Cause first (size_all lines) (length met) → clauses_from ps ≡ refused 43 0
      go (inl x) = absurd (let z = sym w.begun.2 ∙ x in clash cc)
      go (inr (inl x)) = past_many ps p w.said (omega (arith, w.begun.1, w.said.most))
      go (inr (inr x)) = rules_many ps p w.said (omega (arith, w.begun.0))

  pub out_few : out.over ≡ false → out.count ≤ 128
  out_few e = adds.few e (omega (arith, w.begun.0))

  pub out_long : out.over ≡ false → out.count ≤ length out.rules
  out_long e = omega (arith, out_few e, adds.long e, w.begun.3)

  module _ (e : out.over ≡ false) {g : Grammar}
      (taken : RulesTaken (rising 64 (take out.count out.rules)) g) where
    within : past_all lines + size_all lines ≤ 64
    within = let z = adds.low e (omega (arith, w.begun.1, w.low)) in
        omega (arith, adds.next e, w.begun.1, w.said.most)

    short : length met ≤ 128
    short = omega (arith, adds.count e, w.begun.0, out_few e)

    as_met : take out.count out.rules ≡ met
    as_met = adds.rules e w.begun.3 ∙ ap (λ (k : ℕ). take k first.rules ++ met)
        w.begun.0

    all_taken : RulesTaken (expansion lines) g
    all_taken = subst (λ (y : Rules). RulesTaken y g)
        (ap (rising 64) as_met ∙ sorted_expansion lines within) taken

    fit : length (expansion lines) ≤ 128
    fit = omega (arith, same_many ps p w.said within, short)

    holds : rules_of g ≡ expansion lines
    holds = all_taken.rules fit

    pub out_formed : Formed g
    out_formed = formed ps p w.said g within short (omega (arith, all_taken.count fit)) holds

    pub out_end : clauses_from ps ≡ finish (accepted (rules_of g))
    out_end =
        room_for ps p w.said within short ∙ ap (λ (y : Rules). finish (accepted y)) (sym holds)

pub past_far : (ps : List (List ℕ)) (p : ℕ) → AllSaid ps p → 64 < p → clauses_from ps ≡ refused 43 0
past_far ps p W h = let z = W.most in past_many ps p W (omega arith)

pub far_read : (ps : List (List ℕ)) (p : ℕ) → AllSaid ps p → 64 < p
    → RulesRead (Err (record { fault = Fault.ClauseMany; line = 0 })) (clauses_from ps)
far_read ps p W h = record { is = past_far ps p W h }
