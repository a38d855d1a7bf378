-- Rules that are written as a rule sheet are read back: so a clause sheet's answers are those of
-- the rule sheet that `expand` gives.
use mathlib.Core.Path.{◌≡◌, refl, sym, ap, ◌∙◌}
use mathlib.Core.Bool.{Bool, true, false, not, cond, ◌&&◌, ◌||◌}
use mathlib.Core.List.{List, [], ◌∷◌, ◌++◌, append-nil, append_assoc, Memᴰ}
use mathlib.Core.Option.{some}
use Rattle.std.specs.Prelude.{Option, None, Some}
use Prim.Native.Nat.{ℕ, zero, suc, ◌≤◌, ◌<◌}
use native.Mathlib.Decide.{ℕ_discrete}
use native.Mathlib.Omega.{arith}
use lib.ListN.{length, get_elem?, length-append}
use lib.Dec.{eqb}
use borrow.Author.Tests.{eqb-true, le-leb, lt-leb}
use Rattle.sets.proofs.Basics.{clash}
use Rattle.sets.proofs.Basics.{both}
use Rattle.grammar.specs.declared.Rule.{Rule}
use Rattle.grammar.specs.declared.Clause.{Clause}
use Rattle.grammar.specs.declared.UnaryMark.{UnaryMark}
use Rattle.grammar.specs.declared.BinaryMark.{BinaryMark}
use Rattle.grammar.specs.Layout.{Every}
use Rattle.grammar.specs.Trees.{Rules}
use Rattle.grammar.specs.Content.{SmallRule}
use Rattle.grammar.specs.Distinct.{Distinct}
use Rattle.grammar.proofs.Lists.{mem_every, every_append}
use Rattle.printing.specs.Printing.{decimal, field}
use Rattle.fields.specs.declared.Kind.{Kind}
use Rattle.fields.specs.declared.Lay.{Lay}
use Rattle.fields.specs.Pieces.{pieces, is_empty, same_bytes}
use Rattle.fields.specs.Words.{numeral_of, operand_of, lay_of, number_operand_of}
use Rattle.fields.specs.Fields.{on_value}
use Rattle.fields.proofs.Cuts.{FreeOf, pieces_free, pieces_cut}
use Rattle.std.specs.Prelude.{Result, Ok, Err}
use Rattle.lines.specs.declared.RuleFault.{RuleFault}
use Rattle.lines.specs.RuleLines.{rule_of_of, rule_fields, rule_line_of}
use Rattle.lines.specs.Keys.{key_of}
use Rattle.lines.specs.declared.Turn.{Turn}
use Rattle.lines.proofs.KeyLaws.{Forward, key_alike}
use Rattle.rule_text.specs.RuleText.{unary_lay_of, binary_lay_of, dash, clause_text, rule_text_of}
use Rattle.rule_text.specs.RuleText.{rules_text}
use Rattle.sheets.specs.Items.{Step, next, stop, accepted, refused, step_at_of, on_step, items_from}
use Rattle.sheets.specs.Items.{with_names}
use Rattle.sheets.specs.RuleSheets.{has_key, any_of, rule_said_of, rule_step, finish, rules_from}
use Rattle.sheets.specs.RuleSheets.{rule_names}
use Rattle.sheets.specs.RuleSheets.{rule_sheet}
use Rattle.sheets.proofs.Accepted.{GoodRules, finish_good}
use Rattle.call_clauses.specs.Expand.{sheet_text}

-- 1. bytes without a byte b

abbrev is_free : ℕ → List ℕ → Bool
is_free b [] = true
is_free b (x ∷ u) = not (eqb x b) && is_free b u

not_true : (a : Bool) → not a ≡ true → a ≡ false
not_true true e = absurd (clash cc)
not_true false e = refl

free_of : (b : ℕ) (u : List ℕ) → is_free b u ≡ true → FreeOf b u
free_of b [] e = tt
free_of b (x ∷ u) e = let k = both (not (eqb x b)) (is_free b u) e in
    (not_true (eqb x b) k.0, free_of b u k.1)

free_then : (b : ℕ) (u v : List ℕ) → FreeOf b u → FreeOf b v → FreeOf b (u ++ v)
free_then b [] v h k = k
free_then b (x ∷ u) v h k = (h.0, free_then b u v h.1 k)

-- 2. numbers below 64, by a table

abbrev is_number : Option ℕ → ℕ → Bool
is_number (Some v) n = eqb v n
is_number None n = false

number_is : (o : Option ℕ) (n : ℕ) → is_number o n ≡ true → o ≡ Some n
number_is (Some v) n e = ap Some (eqb-true v n e)
number_is None n e = absurd (clash cc)

abbrev plain : ℕ → Bool
plain n = is_number (numeral_of (decimal n)) n
    && (not (same_bytes (decimal n) (45 ∷ []))
    && (is_free 10 (decimal n) && is_free 32 (decimal n)))

abbrev below : ℕ → (ℕ → Bool) → Bool
below zero f = true
below (suc n) f = f n && below n f

below_all : (n : ℕ) (f : ℕ → Bool) → below n f ≡ true → (a : ℕ) → a < n → f a ≡ true
below_all zero f e a h = absurd (omega arith)
below_all (suc n) f e a h = let k = both (f n) (below n f) e in
    go (λ l. below_all n f k.1 a l) k.0 (ℕ_discrete a n)
  where
    go : (a < n → f a ≡ true) → f n ≡ true → Dec (a ≡ n) → f a ≡ true
    go again k (yes j) = ap f j ∙ k
    go again k (no j) = again (omega arith)

table : below 64 plain ≡ true
unfolding decimal
table = refl

-- written plainly, it is read as itself
record Plain (n : ℕ) : Type 0 where
  number : numeral_of (decimal n) ≡ Some n
  operand : operand_of (decimal n) ≡ Some (Some n)
  line : FreeOf 10 (decimal n)
  blank : FreeOf 32 (decimal n)

plain_below : (n : ℕ) → n < 64 → Plain n
plain_below n h =
    let k = both (is_number (numeral_of (decimal n)) n)
    (not (same_bytes (decimal n) (45 ∷ [])) && (is_free 10 (decimal n) && is_free 32 (decimal n)))
    (below_all 64 plain table n h) in
    let j = both (not (same_bytes (decimal n) (45 ∷ [])))
    (is_free 10 (decimal n) && is_free 32 (decimal n)) k.1 in
    let f = both (is_free 10 (decimal n)) (is_free 32 (decimal n)) j.1 in
    let e = number_is (numeral_of (decimal n)) n k.0 in
    record {
      number = e;
      operand = ap (λ (b : Bool). cond b (Some None)
          (number_operand_of (numeral_of (decimal n))))
          (not_true (same_bytes (decimal n) (45 ∷ [])) j.0) ∙ ap number_operand_of e;
      line = free_of 10 (decimal n) f.0;
      blank = free_of 32 (decimal n) f.1;
    }

-- 3. a line of five fields

abbrev row : List ℕ → List ℕ → List ℕ → List ℕ → List ℕ → List ℕ
row a k x y w = a ++ 32 ∷ (k ++ 32 ∷ (x ++ 32 ∷ (y ++ 32 ∷ w)))

-- no blank and no line end in a field
record Field (u : List ℕ) : Type 0 where
  line : FreeOf 10 u
  blank : FreeOf 32 u

field_of : (u : List ℕ) → is_free 10 u && is_free 32 u ≡ true → Field u
field_of u e = let k = both (is_free 10 u) (is_free 32 u) e in
    record { line = free_of 10 u k.0; blank = free_of 32 u k.1 }

blank_line : eqb 32 10 ≡ false
blank_line = refl

row_line : (a k x y w : List ℕ) → Field a → Field k → Field x → Field y → Field w
    → FreeOf 10 (row a k x y w)
row_line a k x y w p q r s t =
    free_then 10 a (32 ∷ (k ++ 32 ∷ (x ++ 32 ∷ (y ++ 32 ∷ w)))) p.line (
      blank_line,
      free_then 10 k (32 ∷ (x ++ 32 ∷ (y ++ 32 ∷ w))) q.line (
        blank_line,
        free_then 10 x (32 ∷ (y ++ 32 ∷ w)) r.line
            (blank_line, free_then 10 y (32 ∷ w) s.line (blank_line, t.line)),
      ),
    )

row_fields : (a k x y w : List ℕ) → Field a → Field k → Field x → Field y → Field w
    → pieces 32 (row a k x y w) ≡ a ∷ k ∷ x ∷ y ∷ w ∷ []
row_fields a k x y w p q r s t =
    pieces_cut 32 a (k ++ 32 ∷ (x ++ 32 ∷ (y ++ 32 ∷ w))) p.blank
    ∙ ap (λ (l : List (List ℕ)). a ∷ l)
    (pieces_cut 32 k (x ++ 32 ∷ (y ++ 32 ∷ w)) q.blank
    ∙ ap (λ (l : List (List ℕ)). k ∷ l)
    (pieces_cut 32 x (y ++ 32 ∷ w) r.blank
    ∙ ap (λ (l : List (List ℕ)). x ∷ l)
    (pieces_cut 32 y w s.blank ∙ ap (λ (l : List (List ℕ)). y ∷ l)
    (pieces_free 32 w t.blank))))

row_text : (a x y w : List ℕ) (k : ℕ)
    → (a ++ (32 ∷ [])) ++ (k ∷ 32 ∷ ((x ++ (32 ∷ [])) ++ ((y ++ (32 ∷ [])) ++ (w ++ (10 ∷ [])))))
    ≡ row a (k ∷ []) x y w ++ (10 ∷ [])
row_text a x y w k = simp append_assoc

-- 4. the line of a rule

-- the lays, without the line's end
abbrev unary_word : UnaryMark → List ℕ
unary_word UnaryMark.None = 110 ∷ 111 ∷ 110 ∷ 101 ∷ []
unary_word UnaryMark.Offside = 111 ∷ 102 ∷ 102 ∷ 115 ∷ 105 ∷ 100 ∷ 101 ∷ []
unary_word UnaryMark.Offalign = 111 ∷ 102 ∷ 102 ∷ 97 ∷ 108 ∷ 105 ∷ 103 ∷ 110 ∷ []
unary_word UnaryMark.Single = 115 ∷ 105 ∷ 110 ∷ 103 ∷ 108 ∷ 101 ∷ []

abbrev binary_word : BinaryMark → List ℕ
binary_word BinaryMark.None = 110 ∷ 111 ∷ 110 ∷ 101 ∷ []
binary_word BinaryMark.Align = 97 ∷ 108 ∷ 105 ∷ 103 ∷ 110 ∷ []
binary_word BinaryMark.Indent = 105 ∷ 110 ∷ 100 ∷ 101 ∷ 110 ∷ 116 ∷ []

unary_lay : (m : UnaryMark) → unary_lay_of m ≡ unary_word m ++ (10 ∷ [])
unfolding unary_lay_of
unary_lay UnaryMark.None = refl
unary_lay UnaryMark.Offside = refl
unary_lay UnaryMark.Offalign = refl
unary_lay UnaryMark.Single = refl

binary_lay : (m : BinaryMark) → binary_lay_of m ≡ binary_word m ++ (10 ∷ [])
unfolding binary_lay_of
binary_lay BinaryMark.None = refl
binary_lay BinaryMark.Align = refl
binary_lay BinaryMark.Indent = refl

unary_field : (m : UnaryMark) → Field (unary_word m)
unary_field UnaryMark.None = field_of (unary_word UnaryMark.None) refl
unary_field UnaryMark.Offside = field_of (unary_word UnaryMark.Offside) refl
unary_field UnaryMark.Offalign = field_of (unary_word UnaryMark.Offalign) refl
unary_field UnaryMark.Single = field_of (unary_word UnaryMark.Single) refl

binary_field : (m : BinaryMark) → Field (binary_word m)
binary_field BinaryMark.None = field_of (binary_word BinaryMark.None) refl
binary_field BinaryMark.Align = field_of (binary_word BinaryMark.Align) refl
binary_field BinaryMark.Indent = field_of (binary_word BinaryMark.Indent) refl

number_field : (n : ℕ) → n < 64 → Field (decimal n)
number_field n h = let p = plain_below n h in record { line = p.line; blank = p.blank }

-- what the fields say, where the kind is k
module _ (k : Kind) where
  abbrev heard : Option ℕ → Option (Option ℕ) → Option (Option ℕ) → Option Lay
      → Result Rule RuleFault
  heard o p q z = on_value (Err RuleFault.Form) o
      (λ l. on_value (Err RuleFault.Form) p (λ a. on_value (Err RuleFault.Form) q
      (λ b. on_value (Err RuleFault.Form) z (λ y. rule_of_of l k a b y))))

-- the bytes of a rule's line, without its end
record Line (r : Rule) : Type 0 where
  bytes : List ℕ
  free : FreeOf 10 bytes
  text : rule_text_of r ≡ bytes ++ (10 ∷ [])
  says : rule_line_of bytes ≡ Ok r

dash_field : Field (45 ∷ [])
dash_field = field_of (45 ∷ []) refl

empty_line : (l : ℕ) → l < 64 → Line (record { left = l; clause = Clause.Empty })
unfolding clause_text
empty_line l h =
    let p = plain_below l h in
    let a = number_field l h in
    let k = field_of (69 ∷ []) refl in
    let w = unary_field UnaryMark.None in
    record {
      bytes = row (decimal l) (69 ∷ []) (45 ∷ []) (45 ∷ []) (unary_word UnaryMark.None);
      free = row_line (decimal l) (69 ∷ []) (45 ∷ []) (45 ∷ []) (unary_word UnaryMark.None) a k
          dash_field dash_field w;
      text = ap (λ (z : List ℕ). field l ++ (69 ∷ 32 ∷ (dash ++ (dash ++ z))))
          (unary_lay UnaryMark.None) ∙ row_text (decimal l) (45 ∷ []) (45 ∷ [])
          (unary_word UnaryMark.None) 69;
      says = ap rule_fields (row_fields (decimal l) (69 ∷ []) (45 ∷ []) (45 ∷ [])
          (unary_word UnaryMark.None) a k dash_field dash_field w)
          ∙ ap (λ (o : Option ℕ). heard Kind.E o (operand_of (45 ∷ [])) (operand_of (45 ∷ []))
          (lay_of (unary_word UnaryMark.None))) p.number ∙ rw (le-leb l 63 (omega arith));
    }

-- the second field of an A rule
abbrev second : ℕ → ℕ → Bool → List ℕ
second a b t = cond t (45 ∷ []) (decimal b)

last_terminal : (a b : ℕ) (t : Bool) → cond t dash (field b) ≡ second a b t ++ (32 ∷ [])
last_terminal a b true = refl
last_terminal a b false = refl

second_field : (a b : ℕ) (t : Bool) → b < 64 → Field (second a b t)
second_field a b true h = dash_field
second_field a b false h = number_field b h

atom_heard : (l a b : ℕ) (t : Bool) → eqb a b ≡ t → l < 64 → a < 64 → b < 64 → a ≤ b
    → heard Kind.A (Some l) (Some (Some a)) (operand_of (second a b t))
    (Some Lay.None) ≡ Ok (record { left = l; clause = Clause.Atom a b })
atom_heard l a b true e h i j k =
    let z : a ≡ b = eqb-true a b e in
    rw (le-leb l 63 (omega arith), le-leb a 63 (omega arith), le-leb a a (omega arith))
    (ap (λ (x : ℕ). Ok (record { left = l; clause = Clause.Atom a x })) z)
atom_heard l a b false e h i j k =
    ap (λ (q : Option (Option ℕ)). heard Kind.A (Some l) (Some (Some a)) q
    (Some Lay.None)) (plain_below b j).operand
    ∙ rw (
      le-leb l 63 (omega arith),
      le-leb a 63 (omega arith),
      le-leb b 63 (omega arith),
      le-leb a
          b k,
    )

atom_line : (l a b : ℕ) → l < 64 → a < 64 → b < 64 → a ≤ b
    → Line (record { left = l; clause = Clause.Atom a b })
unfolding clause_text
atom_line l a b h v j k =
    let w = unary_word UnaryMark.None in
    let y = second a b (eqb a b) in
    let f = number_field l h in
    let g = number_field a v in
    let kind = field_of (65 ∷ []) refl in
    let s = second_field a b (eqb a b) j in
    let z = unary_field UnaryMark.None in
    record {
      bytes = row (decimal l) (65 ∷ []) (decimal a) y w;
      free = row_line (decimal l) (65 ∷ []) (decimal a) y w f kind g s z;
      text =
          (λ i. field l ++ (65 ∷ 32 ∷ (field a
          ++ (last_terminal a b (eqb a b) i ++ unary_lay UnaryMark.None i))))
          ∙ row_text (decimal l) (decimal a) y w 65;
      says = ap rule_fields (row_fields (decimal l) (65 ∷ []) (decimal a) y w f kind g s z)
          ∙ (λ i. heard Kind.A ((plain_below l h).number i) ((plain_below a v).operand i)
          (operand_of y) (lay_of w)) ∙ atom_heard l a b (eqb a b) refl h v j k;
    }

unary_heard : (l a : ℕ) (m : UnaryMark) → l < 64 → a < 64
    → heard Kind.U (Some l) (Some (Some a)) (operand_of (45 ∷ []))
    (lay_of (unary_word m)) ≡ Ok (record { left = l; clause = Clause.Unary a m })
unary_heard l a UnaryMark.None h i = rw (le-leb l 63 (omega arith), le-leb a 63 (omega arith))
unary_heard l a UnaryMark.Offside h i = rw (le-leb l 63 (omega arith), le-leb a 63 (omega arith))
unary_heard l a UnaryMark.Offalign h i = rw (le-leb l 63 (omega arith), le-leb a 63 (omega arith))
unary_heard l a UnaryMark.Single h i = rw (le-leb l 63 (omega arith), le-leb a 63 (omega arith))

unary_line : (l a : ℕ) (m : UnaryMark) → l < 64 → a < 64
    → Line (record { left = l; clause = Clause.Unary a m })
unfolding clause_text
unary_line l a m h j =
    let w = unary_word m in
    let f = number_field l h in
    let g = number_field a j in
    let kind = field_of (85 ∷ []) refl in
    let z = unary_field m in
    record {
      bytes = row (decimal l) (85 ∷ []) (decimal a) (45 ∷ []) w;
      free = row_line (decimal l) (85 ∷ []) (decimal a) (45 ∷ []) w f kind g dash_field z;
      text = ap (λ (y : List ℕ). field l ++ (85 ∷ 32 ∷ (field a ++ (dash ++ y)))) (unary_lay m)
          ∙ row_text (decimal l) (decimal a) (45 ∷ []) w 85;
      says = ap rule_fields (row_fields (decimal l) (85 ∷ []) (decimal a) (45 ∷ []) w f kind g
          dash_field z)
          ∙ (λ i. heard Kind.U ((plain_below l h).number i) ((plain_below a j).operand i)
          (operand_of (45 ∷ [])) (lay_of w)) ∙ unary_heard l a m h j;
    }

binary_heard : (l a b : ℕ) (m : BinaryMark) → l < 64 → a < 64 → b < 64
    → heard Kind.B (Some l) (Some (Some a))
    (Some (Some b)) (lay_of (binary_word m))
    ≡ Ok (record { left = l; clause = Clause.Binary a b m })
binary_heard l a b BinaryMark.None h i j =
    rw (le-leb l 63 (omega arith), le-leb a 63 (omega arith), le-leb b 63 (omega arith))
binary_heard l a b BinaryMark.Align h i j =
    rw (le-leb l 63 (omega arith), le-leb a 63 (omega arith), le-leb b 63 (omega arith))
binary_heard l a b BinaryMark.Indent h i j =
    rw (le-leb l 63 (omega arith), le-leb a 63 (omega arith), le-leb b 63 (omega arith))

binary_line : (l a b : ℕ) (m : BinaryMark) → l < 64 → a < 64 → b < 64
    → Line (record { left = l; clause = Clause.Binary a b m })
unfolding clause_text
binary_line l a b m h j k =
    let w = binary_word m in
    let f = number_field l h in
    let g = number_field a j in
    let s = number_field b k in
    let kind = field_of (66 ∷ []) refl in
    let z = binary_field m in
    record {
      bytes = row (decimal l) (66 ∷ []) (decimal a) (decimal b) w;
      free = row_line (decimal l) (66 ∷ []) (decimal a) (decimal b) w f kind g s z;
      text = ap (λ (y : List ℕ). field l ++ (66 ∷ 32 ∷ (field a ++ (field b ++ y)))) (binary_lay m)
          ∙ row_text (decimal l) (decimal a) (decimal b) w 66;
      says = ap rule_fields (row_fields (decimal l) (66 ∷ []) (decimal a) (decimal b) w f kind g s
          z)
          ∙ (λ i. heard Kind.B ((plain_below l h).number i) ((plain_below a j).operand i)
          ((plain_below b k).operand i) (lay_of w)) ∙ binary_heard l a b m h j k;
    }

-- numbers in range, and no range that reverses
pub record Legible (r : Rule) : Type 0 where
  pub small : SmallRule r
  pub forward : Forward r.clause

line_of : (l : ℕ) (c : Clause) → Legible (record { left = l; clause = c })
    → Line (record { left = l; clause = c })
line_of l Clause.Empty x = empty_line l x.small.left
line_of l (Clause.Atom a b) x =
    atom_line l a b x.small.left x.small.clause.0 x.small.clause.1 x.forward
line_of l (Clause.Unary a m) x = unary_line l a m x.small.left x.small.clause
line_of l (Clause.Binary a b m) x =
    binary_line l a b m x.small.left x.small.clause.0 x.small.clause.1

rule_line : (r : Rule) → Legible r → Line r
rule_line r x = line_of r.left r.clause x

-- 5. the lines of rules, and the end behind them

rows : (g : Rules) → Every Legible g → List (List ℕ)
rows [] h = [] ∷ []
rows (r ∷ g) h = (rule_line r h.0).bytes ∷ rows g h.1

rows_some : (g : Rules) (h : Every Legible g) → is_empty (rows g h) ≡ false
unfolding rows
rows_some [] h = refl
rows_some (r ∷ g) h = refl

rules_pieces : (g : Rules) (h : Every Legible g) → pieces 10 (rules_text g) ≡ rows g h
unfolding rows
rules_pieces [] h = refl
rules_pieces (r ∷ g) h =
    let l = rule_line r h.0 in
    ap (λ (t : List ℕ). pieces 10 (t ++ rules_text g)) l.text
    ∙ ap (pieces 10) (append_assoc l.bytes (10 ∷ []) (rules_text g))
    ∙ pieces_cut 10 l.bytes (rules_text g) l.free
    ∙ ap (λ (ps : List (List ℕ)). l.bytes ∷ ps) (rules_pieces g h.1)

-- no rule before has the key
any_not : {A : Type 0} (p : A → Bool) (l : List A) → ((x : A) → Memᴰ x l → p x ≡ true → ⊥)
    → any_of p l ≡ false
any_not p [] f = refl
any_not p (a ∷ l) f = go (p a) refl (any_not p l (λ x m. f x (Memᴰ.tail m)))
  where
    go : (b : Bool) → p a ≡ b → any_of p l ≡ false → any_of p (a ∷ l) ≡ false
    go true e k = absurd (f a (Memᴰ.head refl) e)
    go false e k = ap (λ (b : Bool). b || any_of p l) e ∙ k

place_in : {s : Rule} (l m : Rules) → Memᴰ s l
    → (p : ℕ) × (p < length l) × (get_elem? (l ++ m) p ≡ some s)
place_in {s = s} [] m x' = elim x' [ ]
place_in (a ∷ l) m (Memᴰ.head e) = (0, omega arith, ap some (sym e))
place_in (a ∷ l) m (Memᴰ.tail h) = let z = place_in l m h in
    (suc z.0, omega (arith, z.1), z.2)

place_next : (l : Rules) (r : Rule) (m : Rules) → get_elem? (l ++ r ∷ m) (length l) ≡ some r
place_next [] r m = refl
place_next (a ∷ l) r m = place_next l r m

fresh : (seen : Rules) (r : Rule) (g : Rules) → Distinct (seen ++ r ∷ g) → Every Legible seen
    → Legible r → any_of (has_key (key_of r)) seen ≡ false
fresh seen r g d h x = any_not (has_key (key_of r)) seen never
  where
    never : (s : Rule) → Memᴰ s seen → has_key (key_of r) s ≡ true → ⊥
    never s m e =
        let k = key_alike s r (mem_every Legible seen h m).forward x.forward e in
        let p = place_in seen (r ∷ g) m in
        let q = d.one p.0 (length seen) s r p.2 (place_next seen r g) k.0 k.1 in
        omega (arith, p.1)

one_step : (seen : Rules) (r : Rule) (g : Rules) → length seen < 128 → Distinct (seen ++ r ∷ g)
    → Every Legible seen → (x : Legible r) → rule_step seen (rule_line r x).bytes true ≡ next r
one_step seen r g l d h x =
    ap (λ (b : Bool). step_at_of 6 2 (rule_said_of seen (rule_line_of (rule_line r x).bytes))
    (cond b Turn.Many Turn.Whole)) (lt-leb 128 (length seen) l)
    ∙ ap (rule_said_of seen) (rule_line r x).says ∙ ap (λ (b : Bool). cond b (stop 5) (next r))
    (fresh seen r g d h x)

all_items : (seen g : Rules) → length (seen ++ g) ≤ 128 → Distinct (seen ++ g) → Every Legible seen
    → (h : Every Legible g) → items_from rule_step seen (rows g h) ≡ accepted (seen ++ g)
unfolding rows
all_items seen [] l d k h = ap accepted (sym (append-nil seen))
all_items seen (r ∷ g) l d k h =
    let n : length seen < 128 = omega (arith, length-append seen (r ∷ g)) in
    let e : (seen ++ r ∷ []) ++ g ≡ seen ++ r ∷ g = append_assoc seen (r ∷ []) g in
    ap (λ (b : Bool). on_step seen (rule_step seen (rule_line r h.0).bytes (not b))
    (λ t. items_from rule_step (seen ++ t ∷ []) (rows g h.1))) (rows_some g h.1)
    ∙ ap (λ (s : Step Rule). on_step seen s
    (λ t. items_from rule_step (seen ++ t ∷ []) (rows g h.1))) (one_step seen r g n d k h.0)
    ∙ all_items (seen ++ r ∷ []) g (rw e l) (rw e d)
    (every_append Legible seen (r ∷ []) k (h.0, tt)) h.1 ∙ ap accepted e

-- 6. the sheet

-- behind the names the lines are read
names_read : (names rest : List ℕ) (ps : List (List ℕ)) → FreeOf 10 names
    → same_bytes names names ≡ true → pieces 10 rest ≡ ps → is_empty ps ≡ false
    → with_names (refused 1 1) names (pieces 10 (names ++ (10 ∷ rest))) rules_from ≡ rules_from ps
names_read names rest ps f s e n =
    ap (λ (qs : List (List ℕ)). with_names (refused 1 1) names qs rules_from)
    (pieces_cut 10 names rest f ∙ ap (λ (qs : List (List ℕ)). names ∷ qs) e)
    ∙ (λ i. cond (not (n i) && s i) (rules_from ps) (refused 1 1))

names_free : FreeOf 10 rule_names
names_free = free_of 10 rule_names refl

names_same : same_bytes rule_names rule_names ≡ true
names_same = refl

pub reads_back : (g : Rules) → GoodRules g → Every Legible g
    → rule_sheet (sheet_text g) ≡ accepted g
reads_back g x h =
    names_read rule_names (rules_text g) (rows g h) names_free names_same (rules_pieces g h)
    (rows_some g h)
    ∙ ap finish (all_items [] g x.few x.distinct tt h) ∙ finish_good g x.start
