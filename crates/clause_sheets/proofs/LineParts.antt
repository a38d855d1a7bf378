-- A clause line by its left and the bytes behind its first blank.
use mathlib.Core.Path.{◌≡◌, refl, sym, ◌∙◌, ap, subst}
use mathlib.Core.Bool.{Bool, true, false, cond}
use mathlib.Core.List.{List, [], ◌∷◌, append-nil}
use Rattle.std.specs.Prelude.{Option, None, Some}
use Prim.Native.Nat.{ℕ, zero, suc, ◌+◌, ◌-◌, ◌≤◌, ◌<◌, max}
use native.Mathlib.Omega.{arith}
use lib.ListN.{length, take, drop, length-drop, drop_of_length-le}
use lib.Seq.{length-take-le}
use lib.Dec.{leb}
use borrow.Author.Tests.{le-leb, lt-leb}
use Rattle.std.proofs.lemmas.Option.{same_Some}
use Rattle.sets.proofs.Basics.{clash}
use Rattle.fields.specs.declared.Cursor.{Cursor}
use Rattle.fields.specs.Pieces.{before}
use Rattle.fields.specs.Words.{numeral_of}
use Rattle.fields.proofs.Lines.{fields_of}
use Rattle.fields.proofs.Pieces.{pieces_first}
use Rattle.clauses.specs.Clauses.{Expr, alternatives}
use Rattle.clauses.specs.Expansion.{past_expr, size}
use Rattle.clauses.specs.Emission.{emit}
use Rattle.clauses.specs.Text.{Lex, many, WrittenAs, IsExpression, depth}
use Rattle.clauses.proofs.Legible.{nothing_next}
use Rattle.clauses.proofs.Deciding.{says?}
use Rattle.clause_lines.specs.declared.ExpressionFault.{ExpressionFault}
use Rattle.clause_lines.specs.Walks.{checked_of}
use Rattle.clauses.proofs.Accepts.{accepts}
use Rattle.lexemes.specs.Lexemes.{lexemes}
use Rattle.rule_output.specs.Emitting.{Emit, PartEmit}
use Rattle.rule_output.specs.Emitting.{Emit, Adds}
use Rattle.clause_rules.specs.Reading.{AlternativesRead}
use Rattle.clause_lines.specs.ClauseLines.{ClauseLine, Said, good, unwritten, deep, shallow_only}
use Rattle.clause_lines.specs.ClauseLines.{lexemes_say, expression, with_left, left_says}
use Rattle.clause_lines.specs.ClauseLines.{clause_line}
use Rattle.std.specs.Prelude.{Result, Ok, Err}
use Rattle.sheets.specs.declared.Fault.{Fault}
use Rattle.clause_sheets.specs.Checks.{line_checked, expression_checked, LineEmitted}
use Rattle.fields.specs.Cursors.{bytes_left, fields_left, with_cursor, read_field}

no_take : (i : ℕ) → ◌≡◌ {A = List ℕ} (take i []) []
no_take zero = refl
no_take (suc i) = refl

drop_take : (m k : ℕ) (l : List ℕ) → drop k (take m l) ≡ take (m - k) (drop k l)
drop_take m zero l = ap (λ (i : ℕ). take i l) (let z : m ≡ m - 0 = omega arith in z)
drop_take m (suc k) [] = ap (drop (suc k)) (no_take m) ∙ sym (no_take (m - suc k))
drop_take zero (suc k) (x ∷ l) =
    sym (ap (λ (i : ℕ). take i (drop k l)) (let z : 0 - suc k ≡ 0 = omega arith in z))
drop_take (suc m) (suc k) (x ∷ l) = drop_take m k l ∙ ap (λ (i : ℕ). take i (drop k l))
    (let z : m - k ≡ suc m - suc k = omega arith in z)

nothing_said : expression [] ≡ unwritten
nothing_said = go (says? [])
  where
    go : (d : Dec (IsExpression [])) → shallow_only d ≡ unwritten
    go (no f) = refl
    go (yes y) =
        absurd (let z : ◌≡◌ {A = Bool} false true = accepts y.expr [] y.written in clash cc)

drop_drop : (s : List ℕ) (a b : ℕ) → drop b (drop a s) ≡ drop (a + b) s
drop_drop s zero b = ap (λ (k : ℕ). drop k s) (let z : b ≡ 0 + b = omega arith in z)
drop_drop [] (suc a) zero = sym (drop_of_length-le [] {i = suc a + 0} (omega arith))
drop_drop [] (suc a) (suc b) = sym (drop_of_length-le [] {i = suc a + suc b} (omega arith))
drop_drop (x ∷ s) (suc a) b = drop_drop s a b ∙ ap (λ (k : ℕ). drop k (x ∷ s))
    (let z : suc (a + b) ≡ suc a + b = omega arith in z)

module _ (s : List ℕ) (c : Cursor) (low : (c.at ≤ c.end) × (c.end ≤ length s)) where
  abbrev text : List ℕ
  text = bytes_left s c

  abbrev head : List ℕ
  head = before 32 (bytes_left s c)

  read : read_field numeral_of c (fields_left s c) ≡ with_cursor (numeral_of head)
      (record { at = c.at + length head + 1; end = c.end })
  read = ap (read_field numeral_of c) (fields_of s c low.0 low.1 ∙ pieces_first 32 text)

  -- the number at the front of the line, and where the expression begins
  pub record Split (v : ℕ) (d : Cursor) : Type 0 where
    pub number : numeral_of head ≡ Some v
    pub at : d.at ≡ c.at + length head + 1
    pub end : d.end ≡ c.end

  pub split : (v : ℕ) (d : Cursor)
      → Some (v, d) ≡ read_field numeral_of c (fields_left s c) → Split v d
  split v d e = go (numeral_of head) refl (e ∙ read)
    where
      go : (o : Option ℕ) → numeral_of head ≡ o
          → Some (v, d) ≡ with_cursor o
          (record { at = c.at + length head + 1; end = c.end }) → Split v d
      go None h q = absurd (clash cc)
      go (Some w) h q =
          let k = same_Some (v, d) (w, record { at = c.at + length head + 1; end = c.end }) q in
          let j = ap (λ (x : ℕ × Cursor). x.1) k in
          record {
            number = h ∙ ap Some (sym (ap (λ (x : ℕ × Cursor). x.0) k));
            at = ap (λ (x : Cursor). x.at) j;
            end = ap (λ (x : Cursor). x.end) j;
          }

  pub unsplit : None ≡ read_field numeral_of c (fields_left s c)
      → clause_line text ≡ unwritten
  unsplit e = go (numeral_of head) refl (e ∙ read)
    where
      go : (o : Option ℕ) → numeral_of head ≡ o
          → None ≡ with_cursor o (record { at = c.at + length head + 1; end = c.end })
          → clause_line text ≡ unwritten
      go None h q = ap (λ (x : Option ℕ). left_says x (expression (drop (length head + 1) text))) h
      go (Some w) h q = absurd (clash cc)

  module _ (v : ℕ) (d : Cursor) (S : Split v d) where
    by_left : clause_line text ≡ cond (leb v 63)
        (with_left v (expression (drop (length head + 1) text))) unwritten
    by_left =
        ap (λ (x : Option ℕ). left_says x (expression (drop (length head + 1) text))) S.number

    pub too_high : 63 < v → clause_line text ≡ unwritten
    too_high h = by_left ∙ ap (λ (b : Bool). cond b
        (with_left v (expression (drop (length head + 1) text))) unwritten) (lt-leb v 63 h)

    low_left : v ≤ 63 → clause_line text ≡ with_left v (expression (drop (length head + 1) text))
    low_left h = by_left ∙ ap (λ (b : Bool). cond b
        (with_left v (expression (drop (length head + 1) text))) unwritten) (le-leb v 63 h)

    long : length text ≡ c.end - c.at
    long = length-take-le (c.end - c.at) (drop c.at s)
        (omega (arith, length-drop c.at s, low.1))

    pub no_blank : v ≤ 63 → d.end < d.at → clause_line text ≡ unwritten
    no_blank h g =
        low_left h ∙ ap (λ (x : List ℕ). with_left v (expression x))
        (drop_of_length-le text {i = length head + 1} (omega (arith, long, S.at, S.end, low.0)))
        ∙ ap (with_left v) nothing_said

    pub behind : v ≤ 63 → d.at ≤ d.end
        → clause_line text ≡ with_left v (expression (take (d.end - d.at) (drop d.at s)))
    behind h g = low_left h ∙ ap (λ (x : List ℕ). with_left v (expression x)) same
      where
        same : drop (length head + 1) text ≡ take (d.end - d.at) (drop d.at s)
        same =
            drop_take (c.end - c.at) (length head + 1) (drop c.at s)
            ∙ (λ i. take (lengths i) ((drop_drop s c.at (length head + 1)
            ∙ ap (λ (k : ℕ). drop k s) places) i))
          where
            lengths : c.end - c.at - (length head + 1) ≡ d.end - d.at
            lengths = let y = S.at in let z = S.end in omega arith

            places : c.at + (length head + 1) ≡ d.at
            places = let y = S.at in omega arith

left_checked : (v : ℕ) (e : Said (Expr alternatives))
    → expression_checked (v + 1) e ≡ line_checked (with_left v e)
left_checked v (good e) = refl
left_checked v unwritten = refl
left_checked v deep = refl

pub checked_as : (line x : List ℕ) (v : ℕ) (r : Result ℕ Fault)
    → r ≡ expression_checked (v + 1) (expression x)
    → clause_line line ≡ with_left v (expression x) → r ≡ line_checked (clause_line line)
checked_as line x v r e h = e ∙ left_checked v (expression x) ∙ ap line_checked (sym h)

pub checked_not : (line : List ℕ) → clause_line line ≡ unwritten
    → Err Fault.ClauseForm ≡ line_checked (clause_line line)
checked_not line e = ap line_checked (sym e)

-- an unwritten line has no rules
pub emitted_not : (line : List ℕ) (out : Emit) → clause_line line ≡ unwritten
    → LineEmitted line out out
emitted_not line out e =
    record {
      adds = λ c h. absurd (let z : ◌≡◌ {A = Said ClauseLine} unwritten (good c) = sym e
          ∙ h in clash cc);
    }

-- what a good expression is
pub record Says' (x : List ℕ) (e : Expr alternatives) : Type 0 where
  pub lexes : List Lex
  pub lexed : lexemes x ≡ Some lexes
  pub written : WrittenAs (many e) lexes

good_expression : (x : List ℕ) (e : Expr alternatives) → expression x ≡ good e → Says' x e
good_expression x e h = go (lexemes x) refl h
  where
    pick : (l : List Lex) → lexemes x ≡ Some l → (d : Dec (IsExpression l))
        → shallow_only d ≡ good e
        → Says' x e
    pick l j (no f) q = absurd (clash cc)
    pick l j (yes y) q = which (leb (depth y.expr) 16) q
      where
        which : (b : Bool) → cond b (good y.expr) deep ≡ good e → Says' x e
        which true z =
            let w : y.expr ≡ e = cc in
            record {
              lexes = l;
              lexed = j;
              written = subst (λ (k : Expr alternatives). WrittenAs (many k) l) w y.written;
            }
        which false z = absurd (clash cc)

    go : (o : Option (List Lex)) → lexemes x ≡ o → lexemes_say o ≡ good e → Says' x e
    go None j q = absurd (clash cc)
    go (Some l) j q = pick l j (says? l) q

emitted_line : (line x : List ℕ) (v : ℕ) (out : Emit) (r : PartEmit)
    → clause_line line ≡ with_left v (expression x) → AlternativesRead x 0 v out r
    → LineEmitted line out r.out
emitted_line line x v out r e R = record { adds = λ c h. go c (expression x) refl (sym e ∙ h) }
  where
    go : (c : ClauseLine) (o : Said (Expr alternatives)) → expression x ≡ o → with_left v o ≡ good c
        → Adds out r.out (emit c.expr c.left out.next) (size c.expr)
    go c unwritten j q = absurd (clash cc)
    go c deep j q = absurd (clash cc)
    go c (good k) j q =
        let w : record { left = v; expr = k } ≡ c = cc in
        let g = good_expression x k j in
        let A₁ = (R.reads k g.lexes [] g.written nothing_next
        (record { lexed = g.lexed ∙ ap Some (sym (append-nil g.lexes)) })).adds in
        subst (λ (y : ClauseLine). Adds out r.out (emit y.expr y.left out.next)
        (size y.expr)) w A₁

pub emitted_as : (line x : List ℕ) (v : ℕ) (out : Emit) (r : PartEmit) (p : Emit)
    → clause_line line ≡ with_left v (expression x)
    → AlternativesRead x 0 v out r → r.out ≡ p → LineEmitted line out p
emitted_as line x v out r p e R q =
    subst (λ (y : Emit). LineEmitted line out y) q (emitted_line line x v out r e R)

pub good_checked : (least p q : ℕ) (o : Said (Expr alternatives)) → checked_of o ≡ Ok p
    → q ≡ max least p → Ok q ≡ expression_checked least o
good_checked least p q (good e) h j = let z : past_expr e ≡ p = cc in
    ap Ok (j ∙ ap (max least) (sym z))
good_checked least p q unwritten h j = absurd (clash cc)
good_checked least p q deep h j = absurd (clash cc)

pub form_checked : (least : ℕ) (o : Said (Expr alternatives))
    → checked_of o ≡ Err ExpressionFault.Unwritten
    → Err Fault.ClauseForm ≡ expression_checked least o
form_checked least (good e) h = absurd (clash cc)
form_checked least unwritten h = refl
form_checked least deep h = absurd (clash cc)

pub deep_checked : (least : ℕ) (o : Said (Expr alternatives))
    → checked_of o ≡ Err ExpressionFault.Deep
    → Err Fault.ClauseDeep ≡ expression_checked least o
deep_checked least (good e) h = absurd (clash cc)
deep_checked least unwritten h = absurd (clash cc)
deep_checked least deep h = refl

pub checked_behind : (s : List ℕ) (c : Cursor) (low : (c.at ≤ c.end) × (c.end ≤ length s))
    (v : ℕ) (d : Cursor) → Split s c low v d → v ≤ 63 → d.at ≤ d.end
    → (r : Result ℕ Fault) → r ≡ expression_checked (v + 1)
    (expression (take (d.end - d.at) (drop d.at s)))
    → r ≡ line_checked (clause_line (bytes_left s c))
checked_behind s c low v d S h g r e = checked_as (bytes_left s c)
    (take (d.end - d.at) (drop d.at s)) v r e (behind s c low v d S h g)
