-- One turn of each walk over a clause sheet's lines.
use mathlib.Core.Path.{◌≡◌, refl, sym, ◌∙◌, ap, subst}
use mathlib.Core.Bool.{Bool, true, false, cond, not, ◌&&◌}
use mathlib.Core.List.{List, [], ◌∷◌, ◌++◌, append_assoc, append-nil}
use Prim.Native.Nat.{ℕ, ◌+◌, ◌-◌, ◌≤◌, ◌<◌, max}
use native.Mathlib.Omega.{arith}
use lib.ListN.{length, drop, length-append, length-drop}
use lib.Seq.{length-take-le}
use lib.Dec.{ltb}
use borrow.Author.Tests.{lt-ltb, le-ltb}
use Rattle.sets.proofs.Basics.{clash}
use Rattle.fields.specs.declared.Cursor.{Cursor}
use Rattle.fields.specs.Pieces.{is_empty}
use Rattle.fields.proofs.Lines.{more_left}
use Rattle.sheets.proofs.Loop.{line_in, line_less, line_cut}
use Rattle.sheets.specs.declared.Fault.{Fault}
use Rattle.std.specs.Prelude.{Ok, Err}
use Rattle.sheets.specs.Refusals.{number_of, RefusedAs}
use Rattle.sheets.specs.Items.{Reading, accepted, refused, stop, end, on_step, items_from}
use Rattle.clauses.specs.Expansion.{past_expr, past_all, size, size_all}
use Rattle.clauses.specs.Emission.{emit}
use Rattle.clauses.proofs.Deciding.{max_is, max_assoc, max_zero}
use Rattle.rule_output.specs.Emitting.{Emit, Adds}
use Rattle.rule_output.proofs.Adding.{adds_then, adds_same, adds_nothing}
use Rattle.clause_lines.specs.ClauseLines.{ClauseLine, Said, good, unwritten, deep, clause_line}
use Rattle.clause_sheets.specs.ClauseSheets.{clause_said, clause_step, clauses_of}
use Rattle.clause_sheets.specs.Emitted.{emit_all}
use Rattle.clause_sheets.specs.Ends.{AllSaid}
use Rattle.clause_sheets.specs.Checks.{line_checked, Passing, LineEmitted}
use Rattle.clause_sheets.specs.Checks.{LinesEmitted, Emitting}
use Rattle.fields.specs.Cursors.{pieces_from, line_at, bytes_left}

zero_max : (a : ℕ) → max 0 a ≡ a
zero_max a = max_is 0 a a (omega arith) (omega arith) (λ k p q. q)

-- one line more
past_snoc : (l : List ClauseLine) (c : ClauseLine)
    → past_all (clauses_of (l ++ (c ∷ []))) ≡ max (past_all (clauses_of l))
    (max (c.left + 1) (past_expr c.expr))
past_snoc [] c = max_zero (max (c.left + 1) (past_expr c.expr))
    ∙ sym (zero_max (max (c.left + 1) (past_expr c.expr)))
past_snoc (d ∷ l) c =
    ap (max (max (d.left + 1) (past_expr d.expr))) (past_snoc l c)
    ∙ max_assoc (max (d.left + 1) (past_expr d.expr)) (past_all (clauses_of l))
    (max (c.left + 1) (past_expr c.expr))

size_snoc : (l : List ClauseLine) (c : ClauseLine)
    → size_all (clauses_of (l ++ (c ∷ []))) ≡ size_all (clauses_of l) + size c.expr
size_snoc [] c = let z : size c.expr + 0 ≡ 0 + size c.expr = omega arith in z
size_snoc (d ∷ l) c = ap (λ (k : ℕ). size d.expr + k) (size_snoc l c)
    ∙ plus (size d.expr) (size_all (clauses_of l)) (size c.expr)
  where
    plus : (a b k : ℕ) → a + (b + k) ≡ a + b + k
    plus a b k = omega arith

emit_snoc : (l : List ClauseLine) (c : ClauseLine) (n : ℕ)
    → emit_all (clauses_of (l ++ (c ∷ []))) n ≡ emit_all (clauses_of l) n
    ++ emit c.expr c.left (n + size_all (clauses_of l))
emit_snoc [] c n = append-nil (emit c.expr c.left n)
    ∙ ap (emit c.expr c.left) (let z : n ≡ n + 0 = omega arith in z)
emit_snoc (d ∷ l) c n =
    ap (λ (x : _). emit d.expr d.left n ++ x)
    (emit_snoc l c (n + size d.expr) ∙ ap
    (λ (k : ℕ). emit_all (clauses_of l) (n + size d.expr) ++ emit c.expr c.left k)
    (plus n (size d.expr) (size_all (clauses_of l))))
    ∙ sym (append_assoc (emit d.expr d.left n)
    (emit_all (clauses_of l) (n + size d.expr))
    (emit c.expr c.left (n + (size d.expr + size_all (clauses_of l)))))
  where
    plus : (a b k : ℕ) → a + b + k ≡ a + (b + k)
    plus a b k = omega arith

-- a turn at the line c of a walk that has seen some lines
module _ (s : List ℕ) (at : ℕ) (low : at ≤ length s) (c : Cursor) (is : c ≡ line_at s at)
    (seen : List ClauseLine) where
  abbrev text : List ℕ
  text = bytes_left s c

  -- the lines behind it, once it has given one more
  abbrev behind : ClauseLine → Reading (List ClauseLine)
  behind t = items_from clause_step (seen ++ t ∷ []) (pieces_from 10 s (c.end + 1))

  abbrev by : Bool → Reading (List ClauseLine)
  by ended = on_step seen (cond (not ended && is_empty text) end
      (cond ended (clause_said (clause_line text)) (stop 41))) behind

  turn : items_from clause_step seen (pieces_from 10 s at) ≡ by (ltb c.end (length s))
  turn = rw (line_cut s at low c is, more_left 10 s c.end) refl

  whole : (c.end < length s) → items_from clause_step seen (pieces_from 10 s at)
      ≡ on_step seen (clause_said (clause_line text)) behind
  whole h = turn ∙ ap by (lt-ltb c.end (length s) h)

  open_line : length s ≤ c.end → items_from clause_step seen (pieces_from 10 s at)
      ≡ on_step seen (cond (is_empty text) end (stop 41)) behind
  open_line h = turn ∙ ap by (le-ltb c.end (length s) h)

  long : length text ≡ c.end - c.at
  long = let i = line_in s at low c is in
      length-take-le (c.end - c.at) (drop c.at s)
      (omega (arith, length-drop c.at s, i.0, i.1))

  empty_line : c.at ≡ c.end → is_empty text ≡ true
  empty_line h = go text (omega (arith, long))
    where
      go : (l : List ℕ) → length l ≡ 0 → is_empty l ≡ true
      go [] e = refl
      go (x ∷ l) e = absurd (omega arith)

  some_line : (c.at ≡ c.end → ⊥) → is_empty text ≡ false
  some_line h = let i = line_in s at low c is in go text (omega (arith, long, i.0, h))
    where
      go : (l : List ℕ) → 1 ≤ length l → is_empty l ≡ false
      go [] e = absurd (omega arith)
      go (x ∷ l) e = refl

-- the first walk
pub pass_start : (s : List ℕ) (start : ℕ) → start ≤ length s → Passing s start 0 0 start
pass_start s start h =
    record { low = h; few = omega arith; seen = []; count = refl; same = refl; most = refl }

module _ {s : List ℕ} {start n p at : ℕ} (P : Passing s start n p at) {c : Cursor}
    (is : c ≡ line_at s at) where
  pub pass_good : (q p' : ℕ) → c.end < length s
      → Ok q ≡ line_checked (clause_line (bytes_left s c)) → p' ≡ max p q
      → Passing s start (n + 1) p' (c.end + 1)
  pass_good q p' h g m = go (clause_line (bytes_left s c)) refl g
    where
      go : (o : Said ClauseLine) → clause_line (bytes_left s c) ≡ o
          → Ok q ≡ line_checked o → Passing s start (n + 1) p' (c.end + 1)
      go unwritten j e = absurd (clash cc)
      go deep j e = absurd (clash cc)
      go (good k) j e =
          let u : q ≡ max (k.left + 1) (past_expr k.expr) = cc in
          record {
            low = omega arith;
            few = omega (arith, P.few, line_less s at P.low c is);
            seen = P.seen ++ (k ∷ []);
            count = omega (arith, length-append P.seen (k ∷ []), P.count);
            same =
                P.same ∙ whole s at P.low c is P.seen h
                ∙ ap (λ (o : Said ClauseLine). on_step P.seen (clause_said o)
                (λ t. items_from clause_step (P.seen ++ t ∷ []) (pieces_from 10 s (c.end + 1))))
                j;
            most = m ∙ (λ i. max (P.most i) (u i)) ∙ sym (past_snoc P.seen k);
          }

  refused_at : (f : Fault) → items_from clause_step P.seen (pieces_from 10 s at)
      ≡ refused (number_of f) (length P.seen + 2)
      → RefusedAs (items_from clause_step [] (pieces_from 10 s start)) f (n + 2)
  refused_at f e = record {
    is = P.same ∙ e ∙ ap (λ (k : ℕ). refused (number_of f) (k + 2)) P.count;
  }

  pub pass_bad : (f : Fault) → c.end < length s
      → Err f ≡ line_checked (clause_line (bytes_left s c))
      → RefusedAs (items_from clause_step [] (pieces_from 10 s start)) f (n + 2)
  pass_bad f h g =
      refused_at f (whole s at P.low c is P.seen h ∙ go (clause_line (bytes_left s c)) g)
    where
      go : (o : Said ClauseLine) → Err f ≡ line_checked o
          → on_step P.seen (clause_said o)
          (λ t. items_from clause_step (P.seen ++ t ∷ []) (pieces_from 10 s (c.end + 1)))
          ≡ refused (number_of f) (length P.seen + 2)
      go unwritten e = let z : f ≡ Fault.ClauseForm = cc in rw z
      go deep e = let z : f ≡ Fault.ClauseDeep = cc in rw z
      go (good k) e = absurd (clash cc)

  at_end : Bool → Reading (List ClauseLine)
  at_end b = on_step P.seen (cond b end (stop 41))
      (λ t. items_from clause_step (P.seen ++ t ∷ []) (pieces_from 10 s (c.end + 1)))

  pub pass_open : length s ≤ c.end → (c.at ≡ c.end → ⊥)
      → RefusedAs (items_from clause_step [] (pieces_from 10 s start)) Fault.ClauseForm (n + 2)
  unfolding at_end
  pass_open h g = refused_at Fault.ClauseForm
      (open_line s at P.low c is P.seen h ∙ ap at_end
      (some_line s at P.low c is P.seen g))

  pub pass_end : length s ≤ c.end → c.at ≡ c.end → AllSaid (pieces_from 10 s start) p
  unfolding at_end
  pass_end h g = record {
    lines = P.seen;
    said = P.same ∙ open_line s at P.low c is P.seen h
        ∙ ap at_end (empty_line s at P.low c is P.seen g);
    most = P.most;
  }

-- the second walk
pub emit_start : (s : List ℕ) (start : ℕ) (out : Emit) → start ≤ length s
    → Emitting s start out out start
emit_start s start out h = record { low = h; adds = λ l e. ([], e, adds_nothing out) }

module _ {s : List ℕ} {start at : ℕ} {out r : Emit} (M : Emitting s start out r at) {c : Cursor}
    (is : c ≡ line_at s at) where
  pub emit_on : (r' : Emit) → c.end < length s → LineEmitted (bytes_left s c) r r'
      → Emitting s start out r' (c.end + 1)
  emit_on r' h L =
      record {
        low = omega arith;
        adds = λ l e. let w = M.adds l e in
            go l w.0 w.2 (clause_line (bytes_left s c)) refl
            (sym (whole s at M.low c is w.0 h) ∙ w.1);
      }
    where
      go : (l seen : List ClauseLine)
          → Adds out r (emit_all (clauses_of seen) out.next) (size_all (clauses_of seen))
          → (o : Said ClauseLine) → clause_line (bytes_left s c) ≡ o
          → on_step seen (clause_said o) (λ t. items_from clause_step (seen ++ t ∷ [])
          (pieces_from 10 s (c.end + 1))) ≡ accepted l
          → (seen : List ClauseLine) × (items_from clause_step seen
          (pieces_from 10 s (c.end + 1)) ≡ accepted l)
          × Adds out r' (emit_all (clauses_of seen) out.next)
          (size_all (clauses_of seen))
      go l seen a unwritten j e = absurd (clash cc)
      go l seen a deep j e = absurd (clash cc)
      go l seen a (good k) j e = (
        seen ++ (k ∷ []),
        e,
        adds_same (sym (emit_snoc seen k out.next)) (sym (size_snoc seen k))
            (adds_then (λ z. emit k.expr k.left z) a (L.adds k j)),
      )

  pub emit_end : length s ≤ c.end → LinesEmitted (pieces_from 10 s start) out r
  emit_end h = record {
    adds = λ l e. let w = M.adds l e in
        go l w.0 w.2 (is_empty (bytes_left s c))
        (sym (open_line s at M.low c is w.0 h) ∙ w.1);
  }
    where
      go : (l seen : List ClauseLine)
          → Adds out r (emit_all (clauses_of seen) out.next) (size_all (clauses_of seen))
          → (b : Bool) → on_step seen (cond b end (stop 41))
          (λ t. items_from clause_step (seen ++ t ∷ []) (pieces_from 10 s (c.end + 1)))
          ≡ accepted l → Adds out r (emit_all (clauses_of l) out.next)
          (size_all (clauses_of l))
      go l seen a true e = let z : seen ≡ l = cc in
          subst (λ (y : List ClauseLine). Adds out r (emit_all (clauses_of y) out.next)
          (size_all (clauses_of y))) z a
      go l seen a false e = absurd (clash cc)
