-- What the changed sheet says: the same rules with the new mark in that one, or 4 in its line, and
-- nothing else.
use mathlib.Core.Path.{◌≡◌, refl, sym, ap, ◌∙◌}
use mathlib.Core.List.{List, [], ◌∷◌, ◌++◌, append_assoc}
use mathlib.Core.Bool.{Bool, true, false, not, cond, ◌&&◌}
use Rattle.std.specs.Prelude.{Some}
use Prim.Native.Nat.{ℕ, zero, suc, ◌+◌, ◌≤◌, ◌<◌}
use native.Mathlib.Omega.{arith}
use lib.ListN.{length, get_or, set, take, drop}
use lib.Seq.{take-add, take-append-le}
use lib.Dec.{lit<}
use Rattle.sets.proofs.Basics.{clash}
use Rattle.grammar.specs.declared.Rule.{Rule}
use Rattle.grammar.specs.declared.Clause.{Clause}
use Rattle.grammar.specs.Trees.{Rules}
use Rattle.fields.specs.declared.Lay.{Lay}
use Rattle.fields.specs.Pieces.{pieces, is_empty, same_bytes}
use Rattle.fields.specs.Words.{lay_of}
use Rattle.std.specs.Prelude.{Result, Ok, Err}
use Rattle.lines.specs.declared.RuleFault.{RuleFault}
use Rattle.lines.specs.RuleLines.{rule_line_of, plain_rule}
use Rattle.lines.specs.Keys.{key_of}
use Rattle.sheets.specs.Items.{Reading, accepted, refused, items_from, with_names}
use Rattle.sheets.specs.RuleSheets.{any_of, is_start, rule_step, finish, rules_from, rule_names}
use Rattle.sheets.specs.RuleSheets.{rule_sheet}
use Rattle.sheets.specs.RefusedLines.{piece_start}
use Rattle.sheets.proofs.Accepted.{GoodRules, rules_good, finish_good}
use Rattle.mark_change.specs.Changed.{line_of, lay_start, lay_end, changed}
use Rattle.mark_change.proofs.Replacing.{pieces_replaced, piece_at, free_take, free_join}
use Rattle.mark_change.proofs.Relaying.{five_of, line_other, lay_no_line}
use Rattle.mark_change.proofs.Rereading.{KeyKept, outcome, Changed, items_changed, empty_set}
use Rattle.mark_change.specs.Relaid.{relaid}

-- 1. an accepted sheet: its names, and the lines behind them

pub record Sheet (s : List ℕ) (g : Rules) : Type 0 where
  pub names : List ℕ
  pub lines : List (List ℕ)
  pub are : pieces 10 s ≡ names ∷ lines
  pub head : not (is_empty lines) && same_bytes names rule_names ≡ true
  pub items : items_from rule_step [] lines ≡ accepted g

finished : (x : Reading Rules) (g : Rules) → finish x ≡ accepted g → x ≡ accepted g
finished (accepted w) g e = go (any_of is_start w) e
  where
    go : (b : Bool) → cond b (accepted w) (refused 7 0) ≡ accepted g → accepted w ≡ accepted g
    go true e = e
    go false e = absurd (clash cc)
finished (refused f l) g e = absurd (clash cc)

pub sheet_of : (s : List ℕ) (g : Rules) → rule_sheet s ≡ accepted g → Sheet s g
sheet_of s g e = go (pieces 10 s) refl e
  where
    by_head : (h : List ℕ) (ps : List (List ℕ)) → pieces 10 s ≡ h ∷ ps → (b : Bool)
        → not (is_empty ps) && same_bytes h rule_names ≡ b
        → cond b (rules_from ps) (refused 1 1) ≡ accepted g → Sheet s g
    by_head h ps i true k e = record {
      names = h;
      lines = ps;
      are = i;
      head = k;
      items =
          finished (items_from rule_step [] ps) g e;
    }
    by_head h ps i false k e = absurd (clash cc)

    go : (qs : List (List ℕ)) → pieces 10 s ≡ qs
        → with_names (refused 1 1) rule_names qs rules_from ≡ accepted g → Sheet s g
    go [] i e = absurd (clash cc)
    go (h ∷ ps) i e = by_head h ps i (not (is_empty ps) && same_bytes h rule_names) refl e

-- 2. a rule with another lay: its key and its left are kept

pub rule_inj : (q r : Rule) → ◌≡◌ {A = Result Rule RuleFault} (Ok q) (Ok r) → q ≡ r
rule_inj q r e = cc

-- what is the same under any lay
pub record SameBut (r s : Rule) : Type 0 where
  pub left : r.left ≡ s.left
  pub key : key_of s ≡ key_of r

by_good : (r q s : Rule) → ◌≡◌ {A = Result Rule RuleFault} (Ok q) (Ok s) → SameBut r q → SameBut r s
by_good r q s e x = rw (← rule_inj q s e) x

pub unfit_not : (s : Rule) → (Err RuleFault.Unfit) ≡ Ok s → ⊥
unfit_not s e = clash cc

module _ (l : ℕ) (s : Rule) where
  plain_but : (c : Clause) (y : Lay) → plain_rule l c y ≡ Ok s
      → SameBut (record { left = l; clause = c }) s
  plain_but c Lay.None e = by_good _ _ s e (record { left = refl; key = refl })
  plain_but c Lay.Offside e = absurd (unfit_not s e)
  plain_but c Lay.Offalign e = absurd (unfit_not s e)
  plain_but c Lay.Single e = absurd (unfit_not s e)
  plain_but c Lay.Align e = absurd (unfit_not s e)
  plain_but c Lay.Indent e = absurd (unfit_not s e)

  pub relaid_but : (c : Clause) (y : Lay) → relaid l c y ≡ Ok s
      → SameBut (record { left = l; clause = c }) s
  relaid_but Clause.Empty y e = plain_but Clause.Empty y e
  relaid_but (Clause.Atom a b) y e = plain_but (Clause.Atom a b) y e
  relaid_but (Clause.Unary a m) Lay.None e = by_good _ _ s e (record { left = refl; key = refl })
  relaid_but (Clause.Unary a m) Lay.Offside e = by_good _ _ s e (record { left = refl; key = refl })
  relaid_but (Clause.Unary a m) Lay.Offalign e =
      by_good _ _ s e (record { left = refl; key = refl })
  relaid_but (Clause.Unary a m) Lay.Single e = by_good _ _ s e (record { left = refl; key = refl })
  relaid_but (Clause.Unary a m) Lay.Align e = absurd (unfit_not s e)
  relaid_but (Clause.Unary a m) Lay.Indent e = absurd (unfit_not s e)
  relaid_but (Clause.Binary a b m) Lay.None e = by_good _ _ s e (record { left = refl; key = refl })
  relaid_but (Clause.Binary a b m) Lay.Offside e = absurd (unfit_not s e)
  relaid_but (Clause.Binary a b m) Lay.Offalign e = absurd (unfit_not s e)
  relaid_but (Clause.Binary a b m) Lay.Single e = absurd (unfit_not s e)
  relaid_but (Clause.Binary a b m) Lay.Align e =
      by_good _ _ s e (record { left = refl; key = refl })
  relaid_but (Clause.Binary a b m) Lay.Indent e =
      by_good _ _ s e (record { left = refl; key = refl })

line_kept : (r : Rule) (x : Result Rule RuleFault) → ((s : Rule) → x ≡ Ok s → SameBut r s)
    → KeyKept x r
line_kept r (Err RuleFault.Form) f = tt
line_kept r (Err RuleFault.Range) f = tt
line_kept r (Err RuleFault.Unfit) f = tt
line_kept r (Err RuleFault.Reversed) f = tt
line_kept r (Ok s) f = (f s refl).key

-- 3. the changed bytes as lines

module _ (s : List ℕ) (p : ℕ) (lay : List ℕ) (here : p < length (pieces 10 s))
    (five : 4 < length (pieces 32 (line_of s p))) where
  abbrev line : List ℕ
  line = line_of s p

  abbrev new_line : List ℕ
  new_line = take (piece_start (pieces 32 line) 4) line ++ lay

  -- the fields before the lay are bytes of the sheet
  front_of : take (lay_start s p) s ≡ take (piece_start (pieces 10 s) p) s
      ++ take (piece_start (pieces 32 line) 4) line
  front_of =
      let a = piece_at 10 p s here in
      let f = piece_at 32 4 line five in
      take-add (piece_start (pieces 10 s) p) (piece_start (pieces 32 line) 4) s
      ∙ ap (λ (x : List ℕ). take (piece_start (pieces 10 s) p) s ++ x)
      (ap (take (piece_start (pieces 32 line) 4)) a.at
      ∙ take-append-le (piece_start (pieces 32 line) 4) line a.rest f.within)

  pub changed_lines : (y : Lay) → lay_of lay ≡ Some y
      → pieces 10 (changed s p lay) ≡ set (pieces 10 s) p new_line
  changed_lines y w =
      let a = piece_at 10 p s here in
      let X = take (piece_start (pieces 10 s) p) s in
      let Y = take (piece_start (pieces 32 line) 4) line in
      let Z = drop (lay_end s p) s in
      let j : changed s p lay ≡ X ++ ((Y ++ lay) ++ Z) = ap (λ (x : List ℕ). x ++ (lay ++ Z))
      front_of ∙ append_assoc X Y (lay ++ Z) ∙ ap (λ (x : List ℕ). X ++ x)
      (sym (append_assoc Y lay Z)) in
      ap (pieces 10) j
      ∙ pieces_replaced 10 p s (Y ++ lay)
      (free_join 10 Y lay (free_take 10 (piece_start (pieces 32 line) 4) line a.free)
      (lay_no_line lay y w)) here

-- 4. the end of the changed sheet: 7 does not come

any_one : (p : Rule → Bool) (front back : Rules) (r s : Rule) → p r ≡ p s
    → any_of p (front ++ r ∷ back) ≡ any_of p (front ++ s ∷ back)
any_one p [] back r s e = rw e
any_one p (q ∷ front) back r s e = rw (any_one p front back r s e)

finish_one : (front back : Rules) (r : Rule) → GoodRules (front ++ r ∷ back)
    → (x : Result Rule RuleFault)
    → ((s : Rule) → x ≡ Ok s → SameBut r s)
    → finish (outcome front back x) ≡ outcome front back x
finish_one front back r g (Err RuleFault.Form) f = refl
finish_one front back r g (Err RuleFault.Range) f = refl
finish_one front back r g (Err RuleFault.Unfit) f = refl
finish_one front back r g (Err RuleFault.Reversed) f = refl
finish_one front back r g (Ok s) f =
    let b = f s refl in
    finish_good (front ++ s ∷ back)
    (any_one is_start front back s r
    (ap (λ (l : ℕ). is_start (record { left = l; clause = r.clause })) (sym b.left))
    ∙ g.start)

-- 5. THE CHANGED SHEET

-- the rule at place p of an accepted sheet, and what the sheet says with another mark in it
pub record ChangedAt (s : List ℕ) (g : Rules) (p : ℕ) : Type 0 where
  pub front : Rules
  pub rule : Rule
  pub back : Rules
  pub whole : g ≡ front ++ rule ∷ back
  pub place : length front + 1 ≡ p
  pub here : p < length (pieces 10 s)
  pub says : rule_line_of (line_of s p) ≡ Ok rule
  pub five : 4 < length (pieces 32 (line_of s p))
  pub reads : (lay : List ℕ) (y : Lay) → lay_of lay ≡ Some y
      → rule_sheet (changed s p lay) ≡ outcome front back (relaid rule.left rule.clause y)

module _ (s : List ℕ) (g : Rules) (accepts : rule_sheet s ≡ accepted g) (i : ℕ)
    (low : i < length g) where
  sheet : Sheet s g
  sheet = sheet_of s g accepts

  at : Changed [] sheet.lines i g
  at = items_changed i [] sheet.lines g sheet.items (omega arith)

  line_is : line_of s (suc i) ≡ get_or sheet.lines i []
  line_is = ap (λ (x : List (List ℕ)). get_or x (suc i) []) sheet.are

  said : rule_line_of (line_of s (suc i)) ≡ Ok at.rule
  said = ap rule_line_of line_is ∙ at.says

  is_here : suc i < length (pieces 10 s)
  is_here = omega (arith, ap length sheet.are, at.there)

  has_five : 4 < length (pieces 32 (line_of s (suc i)))
  has_five = let f = five_of (pieces 32 (line_of s (suc i))) at.rule said in rw f.are (lit< tt)

  good : GoodRules (at.front ++ at.rule ∷ at.back)
  good = rw at.whole at (rules_good s g accepts)

  module _ (lay : List ℕ) (y : Lay) (word : lay_of lay ≡ Some y) where
    abbrev new : List ℕ
    new = take (piece_start (pieces 32 (line_of s (suc i))) 4) (line_of s (suc i)) ++ lay

    abbrev x : Result Rule RuleFault
    x = relaid at.rule.left at.rule.clause y

    same : (q : Rule) → x ≡ Ok q → SameBut at.rule q
    same q e = relaid_but at.rule.left q at.rule.clause y e

    from_lines : rules_from (set sheet.lines i new) ≡ outcome at.front at.back x
    from_lines =
        ap finish (at.reads new x (line_other (line_of s (suc i)) lay at.rule y said word)
        (line_kept at.rule x same))
        ∙ finish_one at.front at.back at.rule good x same

    sheet_reads : rule_sheet (changed s (suc i) lay) ≡ outcome at.front at.back x
    sheet_reads =
        ap (λ (qs : List (List ℕ)). with_names (refused 1 1) rule_names qs rules_from)
        (changed_lines s (suc i) lay is_here has_five y word
        ∙ ap (λ (qs : List (List ℕ)). set qs (suc i) new) sheet.are)
        ∙ rw (empty_set sheet.lines i new, sheet.head) from_lines

  changed_suc : ChangedAt s g (suc i)
  changed_suc = record {
    front = at.front;
    rule = at.rule;
    back = at.back;
    whole = at.whole;
    place = omega (arith, at.place);
    here = is_here;
    says = said;
    five = has_five;
    reads = sheet_reads;
  }

pub changed_at : (s : List ℕ) (g : Rules) → rule_sheet s ≡ accepted g → (p : ℕ) → 1 ≤ p
    → p ≤ length g → ChangedAt s g p
changed_at s g e zero h k = absurd (omega arith)
changed_at s g e (suc i) h k = changed_suc s g e i (omega arith)
