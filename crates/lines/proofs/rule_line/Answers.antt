-- `lines::rule_line` meets its contract: after each field, what the line says is what the
-- definition says of the fields left.
use mathlib.Core.Path.{◌≡◌, refl, sym, ◌∙◌}
use mathlib.Core.List.{List}
use Prim.Native.Nat.{ℕ}
use native.Mathlib.Omega.{arith}
use borrow.Author.Rules.{rules}
use Rattle.std.specs.Prelude.{Option, Some, None, Result, Err}
use Rattle.grammar.specs.declared.Rule.{Rule}
use Rattle.fields.specs.declared.Cursor.{Cursor}
use Rattle.fields.specs.Words.{numeral_of, kind_of, lay_of, operand_of}
use Rattle.fields.specs.Fields.{with_field}
use Rattle.fields.proofs.Fields.{with_good, with_bad, end_good, end_bad}
use Rattle.lines.specs.declared.RuleFault.{RuleFault}
use Rattle.lines.specs.declared.RuleFault.TheVariants.{Form}
use Rattle.lines.specs.RuleLines.{rule_fields, after_left, after_kind, after_first, after_second}
use Rattle.lines.specs.RuleLines.{after_lay}
use Rattle.fields.specs.Cursors.{fields_left, read_field}
use Rattle.lines.proofs.rule_line.Goals as goal

-- with the cursor d, what the line at c says is what `rest` says of the fields left; d ends where
-- the line does
record Stage (s : List ℕ) (c : Cursor) (rest : List (List ℕ) → Result Rule RuleFault)
    (d : Cursor) : Type 0 where
  pub says : rule_fields (fields_left s c) ≡ rest (fields_left s d)
  pub ends : d.end ≡ c.end

module _ {s : List ℕ} {c d : Cursor} {X : Type 0} (read : List ℕ → Option X)
    (k : X → List (List ℕ) → Result Rule RuleFault) where
  -- a field was read, and none was
  next : {v : X} {e : Cursor} {o : Option (X × Cursor)}
      → Stage s c (λ fs. with_field (Err Form) read fs k) d → o ≡ Some (v, e)
      → o ≡ read_field read d (fields_left s d) → Stage s c (k v) e
  next {v} {e} t p q =
      let g = with_good (Err Form) read k s d e v (sym p ∙ q) in
      record { says = t.says ∙ g.0; ends = g.1 ∙ t.ends }

  stop : {o : Option (X × Cursor)} → Stage s c (λ fs. with_field (Err Form) read fs k) d → o ≡ None
      → o ≡ read_field read d (fields_left s d) → rule_fields (fields_left s c) ≡ Err Form
  stop t p q = t.says ∙ with_bad (Err Form) read k d (fields_left s d) (sym p ∙ q)

first : (s : List ℕ) (c : Cursor) → Stage s c rule_fields c
first s c = record { says = refl; ends = refl }

pub returns-in_err-k : goal.returns-in_err-k
returns-in_err-k c =
    let a = c.args in
    let t = next numeral_of after_left (first a.s.now a.c) c.in_ok-l.ensures.ok_part
    c.read.ensures in
    let e = stop kind_of (after_kind c.in_ok-l.l) t c.in_err-k.ensures.ok_part c.read-2.ensures in
    search rules

pub returns-in_err-a : goal.returns-in_err-a
returns-in_err-a c =
    let a = c.args in
    let t = next numeral_of after_left (first a.s.now a.c) c.in_ok-l.ensures.ok_part
    c.read.ensures in
    let u = next kind_of (after_kind c.in_ok-l.l) t c.in_ok-k.ensures.ok_part c.read-2.ensures in
    let e = stop operand_of (after_first c.in_ok-l.l c.in_ok-k.k) u c.in_err-a.ensures.ok_part
    c.read-3.ensures in
    search rules

pub returns-in_err-b : goal.returns-in_err-b
returns-in_err-b c =
    let a = c.args in
    let t = next numeral_of after_left (first a.s.now a.c) c.in_ok-l.ensures.ok_part
    c.read.ensures in
    let u = next kind_of (after_kind c.in_ok-l.l) t c.in_ok-k.ensures.ok_part c.read-2.ensures in
    let v = next operand_of (after_first c.in_ok-l.l c.in_ok-k.k) u c.in_ok-a.ensures.ok_part
    c.read-3.ensures in
    let e = stop operand_of (after_second c.in_ok-l.l c.in_ok-k.k c.in_ok-a.a) v
    c.in_err-b.ensures.ok_part c.read-4.ensures in
    search rules

pub read-requires-4 : goal.read-requires-4
read-requires-4 c =
    let a = c.args in
    let t = next numeral_of after_left (first a.s.now a.c) c.in_ok-l.ensures.ok_part
    c.read.ensures in
    let u = next kind_of (after_kind c.in_ok-l.l) t c.in_ok-k.ensures.ok_part c.read-2.ensures in
    let v = next operand_of (after_first c.in_ok-l.l c.in_ok-k.k) u c.in_ok-a.ensures.ok_part
    c.read-3.ensures in
    omega (arith, v.ends, c.requires)

pub returns-in_err-y : goal.returns-in_err-y
returns-in_err-y c =
    let a = c.args in
    let t = next numeral_of after_left (first a.s.now a.c) c.in_ok-l.ensures.ok_part
    c.read.ensures in
    let u = next kind_of (after_kind c.in_ok-l.l) t c.in_ok-k.ensures.ok_part c.read-2.ensures in
    let v = next operand_of (after_first c.in_ok-l.l c.in_ok-k.k) u c.in_ok-a.ensures.ok_part
    c.read-3.ensures in
    let w = next operand_of (after_second c.in_ok-l.l c.in_ok-k.k c.in_ok-a.a) v
    c.in_ok-b.ensures.ok_part c.read-4.ensures in
    let e = stop lay_of (after_lay c.in_ok-l.l c.in_ok-k.k c.in_ok-a.a c.in_ok-b.b) w
    c.in_err-y.ensures.ok_part c.read-5.ensures in
    search rules

pub read-requires-5 : goal.read-requires-5
read-requires-5 c =
    let a = c.args in
    let t = next numeral_of after_left (first a.s.now a.c) c.in_ok-l.ensures.ok_part
    c.read.ensures in
    let u = next kind_of (after_kind c.in_ok-l.l) t c.in_ok-k.ensures.ok_part c.read-2.ensures in
    let v = next operand_of (after_first c.in_ok-l.l c.in_ok-k.k) u c.in_ok-a.ensures.ok_part
    c.read-3.ensures in
    let w = next operand_of (after_second c.in_ok-l.l c.in_ok-k.k c.in_ok-a.a) v
    c.in_ok-b.ensures.ok_part c.read-4.ensures in
    omega (arith, w.ends, c.requires)

pub returns-then-c5 : goal.returns-then-c5
returns-then-c5 c =
    let a = c.args in
    let t = next numeral_of after_left (first a.s.now a.c) c.in_ok-l.ensures.ok_part
    c.read.ensures in
    let u = next kind_of (after_kind c.in_ok-l.l) t c.in_ok-k.ensures.ok_part c.read-2.ensures in
    let v = next operand_of (after_first c.in_ok-l.l c.in_ok-k.k) u c.in_ok-a.ensures.ok_part
    c.read-3.ensures in
    let w = next operand_of (after_second c.in_ok-l.l c.in_ok-k.k c.in_ok-a.a) v
    c.in_ok-b.ensures.ok_part c.read-4.ensures in
    let x = next lay_of (after_lay c.in_ok-l.l c.in_ok-k.k c.in_ok-a.a c.in_ok-b.b) w
    c.in_ok-y.ensures.ok_part c.read-5.ensures in
    sym (x.says ∙ end_bad (Err Form) _ a.s.now c.in_ok-y.c5 (omega (arith, x.ends, c.requires))
    c.if-c5.true)

pub returns : goal.returns
returns c =
    let a = c.args in
    let t = next numeral_of after_left (first a.s.now a.c) c.in_ok-l.ensures.ok_part
    c.read.ensures in
    let u = next kind_of (after_kind c.in_ok-l.l) t c.in_ok-k.ensures.ok_part c.read-2.ensures in
    let v = next operand_of (after_first c.in_ok-l.l c.in_ok-k.k) u c.in_ok-a.ensures.ok_part
    c.read-3.ensures in
    let w = next operand_of (after_second c.in_ok-l.l c.in_ok-k.k c.in_ok-a.a) v
    c.in_ok-b.ensures.ok_part c.read-4.ensures in
    let x = next lay_of (after_lay c.in_ok-l.l c.in_ok-k.k c.in_ok-a.a c.in_ok-b.b) w
    c.in_ok-y.ensures.ok_part c.read-5.ensures in
    c.rule_of.ensures ∙ sym (x.says ∙ end_good (Err Form) _ a.s.now c.in_ok-y.c5
    (omega (arith, x.ends, c.requires)) c.if-c5.false)
