-- The rules of a sheet in which one line has changed, its key kept.
use mathlib.Core.Path.{◌≡◌, refl, sym, ap, ◌∙◌}
use mathlib.Core.List.{List, [], ◌∷◌, ◌++◌, append_assoc, append-nil, append_cancel_left}
use mathlib.Core.Bool.{Bool, true, false, not, cond, ◌||◌}
use Prim.Native.Nat.{ℕ, zero, suc, ◌+◌, ◌<◌}
use native.Mathlib.Nat.{add-zero}
use native.Mathlib.Omega.{arith}
use lib.ListN.{length, get_or, set, length-append}
use borrow.Author.Tests.{lt-leb}
use Rattle.sets.proofs.Basics.{clash}
use Rattle.grammar.specs.declared.Rule.{Rule}
use Rattle.grammar.specs.Trees.{Rules}
use Rattle.fields.specs.Pieces.{is_empty}
use Rattle.std.specs.Prelude.{Result, Ok, Err}
use Rattle.lines.specs.declared.RuleFault.{RuleFault}
use Rattle.lines.specs.declared.Turn.{Turn}
use Rattle.lines.specs.Turns.{turn_of}
use Rattle.lines.specs.RuleLines.{rule_line_of}
use Rattle.lines.specs.declared.Key.{Key}
use Rattle.lines.specs.Keys.{key_of}
use Rattle.sheets.specs.Items.{Step, next, stop, end, Reading, accepted, refused, step_at_of}
use Rattle.sheets.specs.Items.{on_step}
use Rattle.sheets.specs.Items.{items_from}
use Rattle.sheets.specs.RuleSheets.{has_key, any_of, rule_said_of, rule_says, rule_step}
use Rattle.sheets.proofs.Loop.{next_only}

-- 1. rules seen that have the same keys

-- as many rules, and the same keys among them
pub record SameKeys (u v : Rules) : Type 0 where
  pub count : length u ≡ length v
  pub keys : (k : Key) → any_of (has_key k) u ≡ any_of (has_key k) v

keys_self : (u : Rules) → SameKeys u u
keys_self u = record { count = refl; keys = λ k. refl }

any_snoc : (p : Rule → Bool) (u : Rules) (r : Rule) → any_of p (u ++ r ∷ []) ≡ any_of p u || p r
any_snoc p [] r = go (p r)
  where
    go : (b : Bool) → b || false ≡ b
    go true = refl
    go false = refl
any_snoc p (q ∷ u) r = rw (any_snoc p u r) (go (p q) (any_of p u) (p r))
  where
    go : (a b c : Bool) → a || (b || c) ≡ (a || b) || c
    go true b c = refl
    go false b c = refl

keys_snoc : (u v : Rules) (r s : Rule) → SameKeys u v → key_of r ≡ key_of s
    → SameKeys (u ++ r ∷ []) (v ++ s ∷ [])
keys_snoc u v r s x e = record {
  count = omega (arith, length-append u (r ∷ []), length-append v (s ∷ []), x.count);
  keys = λ k. any_snoc (has_key k) u r ∙ rw (x.keys k, e) (sym (any_snoc (has_key k) v s));
}

-- a line says the same after them
said_same : (u v : Rules) → SameKeys u v → (x : Result Rule RuleFault)
    → rule_said_of u x ≡ rule_said_of v x
said_same u v k (Err RuleFault.Form) = refl
said_same u v k (Err RuleFault.Range) = refl
said_same u v k (Err RuleFault.Unfit) = refl
said_same u v k (Err RuleFault.Reversed) = refl
said_same u v k (Ok r) = rw (k.keys (key_of r))

step_same : (u v : Rules) → SameKeys u v → (p : List ℕ) (b : Bool)
    → rule_step u p b ≡ rule_step v p b
step_same u v k p b = rw (said_same u v k (rule_line_of p), k.count)

-- the lines behind give the same rules after either
pub record Rest (u v : Rules) (ps : List (List ℕ)) (w : Rules) : Type 0 where
  pub tail : Rules
  pub whole : w ≡ u ++ tail
  pub reads : items_from rule_step v ps ≡ accepted (v ++ tail)

pub accepted_inj : (u w : Rules) → accepted u ≡ accepted w → u ≡ w
accepted_inj u w e = cc

pub rest_same : (u v : Rules) (ps : List (List ℕ)) (w : Rules) → SameKeys u v
    → items_from rule_step u ps ≡ accepted w → Rest u v ps w
rest_same u v [] w k e = record {
  tail = [];
  whole = sym (accepted_inj u w e) ∙ sym (append-nil u);
  reads = ap accepted (sym (append-nil v));
}
rest_same u v (p ∷ ps) w k e =
    go (λ t. rest_same (u ++ t ∷ []) (v ++ t ∷ []) ps w (keys_snoc u v t t k refl))
    (rule_step u p (not (is_empty ps))) refl e
  where
    go : ((t : Rule) → items_from rule_step (u ++ t ∷ []) ps ≡ accepted w
        → Rest (u ++ t ∷ []) (v ++ t ∷ []) ps w) → (x : Step Rule)
        → rule_step u p (not (is_empty ps)) ≡ x
        → on_step u x (λ t. items_from rule_step (u ++ t ∷ []) ps) ≡ accepted w
        → Rest u v (p ∷ ps) w
    go again (next t) h e =
        let r = again t e in
        record {
          tail = t ∷ r.tail;
          whole = r.whole ∙ append_assoc u (t ∷ []) r.tail;
          reads = rw (← step_same u v k p (not (is_empty ps)), h)
              (r.reads ∙ ap accepted (append_assoc v (t ∷ []) r.tail));
        }
    go again (stop f) h e = absurd (clash cc)
    go again end h e = record {
      tail = [];
      whole = sym (accepted_inj u w e) ∙ sym (append-nil u);
      reads = rw (← step_same u v k p (not (is_empty ps)), h) (ap accepted (sym (append-nil v)));
    }

-- 2. a line that gives a rule

-- what a whole line says that gives an item
step_said : (said : Step Rule) (u : Turn) (t : Rule) → step_at_of 6 2 said u ≡ next t
    → said ≡ next t
step_said said Turn.End t e = absurd (clash cc)
step_said said Turn.Many t e = absurd (clash cc)
step_said said Turn.Open t e = absurd (clash cc)
step_said said Turn.Whole t e = e

-- the line is ended, one of 128 at most, and says a rule that is fresh
pub record GivesRule (seen : Rules) (p : List ℕ) (ended : Bool) (t : Rule) : Type 0 where
  pub ends : ended ≡ true
  pub few : length seen < 128
  pub says : rule_line_of p ≡ Ok t
  pub fresh : any_of (has_key (key_of t)) seen ≡ false

next_inj : (r t : Rule) → next r ≡ next t → r ≡ t
next_inj r t e = cc

gives : (seen : Rules) (p : List ℕ) (b : Bool) (t : Rule) → rule_step seen p b ≡ next t
    → GivesRule seen p b t
gives seen p b t e =
    let n = next_only 128 6 2 (length seen) (rule_says seen p) p b t (sym e) in
    go n.1 n.0 (rule_line_of p) refl
    (step_said (rule_says seen p) (turn_of 128 (length seen) p b) t e)
  where
    fresh_of : b ≡ true → length seen < 128 → (r : Rule) → rule_line_of p ≡ Ok r
        → (f : Bool)
        → any_of (has_key (key_of r)) seen ≡ f
        → cond f (stop 5) (next r) ≡ next t → GivesRule seen p b t
    fresh_of ends few r h true k e = absurd (clash cc)
    fresh_of ends few r h false k e = let j = next_inj r t e in
        record { ends = ends; few = few; says = h ∙ ap Ok j; fresh = rw j at k }

    go : b ≡ true → length seen < 128 → (x : Result Rule RuleFault) → rule_line_of p ≡ x
        → rule_said_of seen x ≡ next t
        → GivesRule seen p b t
    go ends few (Err RuleFault.Form) h e = absurd (clash cc)
    go ends few (Err RuleFault.Range) h e = absurd (clash cc)
    go ends few (Err RuleFault.Unfit) h e = absurd (clash cc)
    go ends few (Err RuleFault.Reversed) h e = absurd (clash cc)
    go ends few (Ok r) h e =
        fresh_of ends few r h (any_of (has_key (key_of r)) seen) refl e

-- 3. one line changed

-- the line says another rule of the same key, or is refused
abbrev pub KeyKept : Result Rule RuleFault → Rule → Type 0
KeyKept (Ok s) r = key_of s ≡ key_of r
KeyKept (Err RuleFault.Form) r = Unit {0}
KeyKept (Err RuleFault.Range) r = Unit {0}
KeyKept (Err RuleFault.Unfit) r = Unit {0}
KeyKept (Err RuleFault.Reversed) r = Unit {0}

-- what the lines give then: the rules with that one in its place, or its refusal in its line
abbrev pub outcome : Rules → Rules → Result Rule RuleFault → Reading Rules
outcome front back (Ok s) = accepted (front ++ s ∷ back)
outcome front back (Err RuleFault.Form) = refused 2 (length front + 2)
outcome front back (Err RuleFault.Range) = refused 3 (length front + 2)
outcome front back (Err RuleFault.Unfit) = refused 4 (length front + 2)
outcome front back (Err RuleFault.Reversed) = refused 44 (length front + 2)

-- the rule that line n gives, and what the lines give with another in its place
pub record Changed (seen : Rules) (ps : List (List ℕ)) (n : ℕ) (w : Rules) : Type 0 where
  pub front : Rules
  pub rule : Rule
  pub back : Rules
  pub whole : w ≡ front ++ rule ∷ back
  pub place : length front ≡ length seen + n
  pub there : n < length ps
  pub says : rule_line_of (get_or ps n []) ≡ Ok rule
  pub reads : (line : List ℕ) (x : Result Rule RuleFault) → rule_line_of line ≡ x → KeyKept x rule
      → items_from rule_step seen (set ps n line) ≡ outcome front back x

module _ (seen : Rules) (ps : List (List ℕ)) (t : Rule) (few : length seen < 128)
    (fresh : any_of (has_key (key_of t)) seen ≡ false) (tail : Rules)
    (w : Rules) (more : items_from rule_step (seen ++ t ∷ []) ps ≡ accepted w)
    (whole : w ≡ (seen ++ t ∷ []) ++ tail) where
  -- the step of the changed line
  step_new : (line : List ℕ) → rule_step seen line true ≡ rule_said_of seen (rule_line_of line)
  step_new line = rw (lt-leb 128 (length seen) few)

  said_new : (x : Result Rule RuleFault) → KeyKept x t
      → on_step seen (rule_said_of seen x) (λ r. items_from rule_step (seen ++ r ∷ []) ps)
      ≡ outcome seen tail x
  said_new (Err RuleFault.Form) k = refl
  said_new (Err RuleFault.Range) k = refl
  said_new (Err RuleFault.Unfit) k = refl
  said_new (Err RuleFault.Reversed) k = refl
  said_new (Ok s) k =
      let r = rest_same (seen ++ t ∷ []) (seen ++ s ∷ []) ps w
      (keys_snoc seen seen t s (keys_self seen) (sym k)) more in
      let j : r.tail ≡ tail =
      append_cancel_left (seen ++ t ∷ []) r.tail tail (sym r.whole ∙ whole) in
      let f : any_of (has_key (key_of s)) seen ≡ false =
      ap (λ (y : Key). any_of (has_key y) seen) k ∙ fresh in
      rw f (r.reads ∙ rw j (ap accepted (append_assoc seen (s ∷ []) tail)))

  here : (line : List ℕ) (x : Result Rule RuleFault) → rule_line_of line ≡ x → KeyKept x t
      → (ended : Bool)
      → ended ≡ true
      → on_step seen (rule_step seen line ended) (λ r. items_from rule_step (seen ++ r ∷ []) ps)
      ≡ outcome seen tail x
  here line x e k ended z = rw (z, step_new line, e) (said_new x k)

-- another line in the place of one leaves as many
pub empty_set : (ps : List (List ℕ)) (n : ℕ) (line : List ℕ)
    → is_empty (set ps n line) ≡ is_empty ps
empty_set [] n line = refl
empty_set (p ∷ ps) zero line = refl
empty_set (p ∷ ps) (suc n) line = refl

-- THE LINES: line n gives a rule, and what all give with another line in its place
pub items_changed : (n : ℕ) (seen : Rules) (ps : List (List ℕ)) (w : Rules)
    → items_from rule_step seen ps ≡ accepted w → length seen + n < length w → Changed seen ps n w
items_changed n seen [] w e h = absurd (let j = accepted_inj seen w e in omega (arith, ap length j))
items_changed zero seen (p ∷ ps) w e h = go (rule_step seen p (not (is_empty ps))) refl e
  where
    go : (x : Step Rule) → rule_step seen p (not (is_empty ps)) ≡ x
        → on_step seen x (λ t. items_from rule_step (seen ++ t ∷ []) ps) ≡ accepted w
        → Changed seen (p ∷ ps) zero w
    go (next t) j e =
        let g = gives seen p (not (is_empty ps)) t j in
        let r = rest_same (seen ++ t ∷ []) (seen ++ t ∷ []) ps w (keys_self (seen ++ t ∷ [])) e in
        record {
          front = seen;
          rule = t;
          back = r.tail;
          whole = r.whole ∙ append_assoc seen (t ∷ []) r.tail;
          place = sym (add-zero (length seen));
          there = omega arith;
          says = g.says;
          reads = λ line x z k. here seen ps t g.few g.fresh r.tail w e r.whole line x z
              k (not (is_empty ps)) g.ends;
        }
    go (stop f) j e = absurd (clash cc)
    go end j e = absurd (let k = accepted_inj seen w e in omega (arith, ap length k))
items_changed (suc n) seen (p ∷ ps) w e h =
    go (λ t. items_changed n (seen ++ t ∷ []) ps w) (rule_step seen p (not (is_empty ps))) refl e
  where
    go : ((t : Rule) → items_from rule_step (seen ++ t ∷ []) ps ≡ accepted w
        → length (seen ++ t ∷ []) + n < length w → Changed (seen ++ t ∷ []) ps n w)
        → (x : Step Rule) → rule_step seen p (not (is_empty ps)) ≡ x
        → on_step seen x (λ t. items_from rule_step (seen ++ t ∷ []) ps) ≡ accepted w
        → Changed seen (p ∷ ps) (suc n) w
    go again (next t) j e =
        let c = again t e (omega (arith, length-append seen (t ∷ []))) in
        record {
          front = c.front;
          rule = c.rule;
          back = c.back;
          whole = c.whole;
          place = omega (arith, c.place, length-append seen (t ∷ []));
          there = omega (arith, c.there);
          says = c.says;
          reads = λ line x z k. rw (empty_set ps n line, j) (c.reads line x z k);
        }
    go again (stop f) j e = absurd (clash cc)
    go again end j e = absurd (let k = accepted_inj seen w e in omega (arith, ap length k))
