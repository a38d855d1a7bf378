-- What the definitions accept: rules that are small and distinct, tokens that rise. And a refused
-- line is a line of its sheet.
use mathlib.Core.Path.{◌≡◌, refl, sym, ap, ◌∙◌}
use mathlib.Core.Logic.{◌⊎◌, inl, inr, ⊎_elim}
use mathlib.Core.List.{List, [], ◌∷◌, ◌++◌}
use mathlib.Core.Bool.{Bool, true, false, not, cond, ◌&&◌, ◌||◌}
use mathlib.Core.Option.{some}
use Prim.Native.Nat.{ℕ, zero, suc, ◌+◌, ◌-◌, ◌≤◌, zero-le}
use native.Mathlib.Omega.{arith}
use lib.ListN.{length, take, get_or, get_elem?, length-append}
use lib.Seq.{take-suc}
use lib.Dec.{ltb, eqb, leb}
use borrow.Author.Tests.{ltb-true, ltb-false, eqb-true, eqb-false}
use Rattle.sets.proofs.Basics.{clash}
use Rattle.sets.specs.Says.{Says}
use Rattle.sets.proofs.Says.{holds, fails, says_iff, says_leb}
use Rattle.grammar.specs.declared.Rule.{Rule}
use Rattle.grammar.specs.declared.Token.{Token}
use Rattle.grammar.specs.Layout.{Word, Every, line, col, width, last}
use Rattle.grammar.specs.Trees.{Rules}
use Rattle.grammar.specs.Content.{SmallRule}
use Rattle.grammar.specs.Candidates.{After, RisingFrom, Rising, Wide}
use Rattle.grammar.proofs.Lists.{every_append}
use Rattle.grammar.proofs.ChoiceLaws.{member_at}
use Rattle.fields.specs.Pieces.{pieces, is_empty, same_bytes}
use Rattle.std.specs.Prelude.{Result, Ok, Err}
use Rattle.lines.specs.declared.RuleFault.{RuleFault}
use Rattle.std.specs.Prelude.{Result, Ok, Err}
use Rattle.lines.specs.declared.TokenFault.{TokenFault}
use Rattle.lines.specs.declared.Turn.{Turn}
use Rattle.lines.specs.Turns.{turn_of}
use Rattle.lines.specs.RuleLines.{rule_line_of}
use Rattle.lines.specs.TokenLines.{token_line}
use Rattle.lines.specs.Keys.{key_of, same_key_of}
use Rattle.lines.proofs.Small.{line_small}
use Rattle.lines.proofs.Widths.{line_wide}
use Rattle.lines.proofs.KeyLaws.{key_same, key_back}
use Rattle.sheets.specs.Items.{Step, next, stop, end, Reading, accepted, refused, step_at_of}
use Rattle.sheets.specs.Items.{line_step_of, on_step, items_from, with_names}
use Rattle.sheets.specs.RuleSheets.{has_key, any_of, is_start, fresh_step, rule_said_of, rule_says}
use Rattle.sheets.specs.RuleSheets.{rule_step, finish, rules_from, rule_names, rule_sheet}
use Rattle.grammar.proofs.Positions.{after?}
use Rattle.sheets.specs.Following.{after, follows}
use Rattle.sheets.specs.TokenSheets.{in_order, order_step, token_said_of, token_says, token_step}
use Rattle.sheets.specs.TokenSheets.{token_names, wide_names, wide_sheet, token_sheet}
use Rattle.sheets.proofs.AnyOf.{any_none}
use Rattle.sheets.proofs.Loop.{next_only}
use Rattle.grammar.specs.Distinct.{Alike, Distinct}

module _ {A : Type 0} (step : List A → List ℕ → Bool → Step A) where
  -- what each step keeps, the accepted items have
  pub items_hold : (Q : List A → Type 0)
      → ((seen : List A) (p : List ℕ) (b : Bool) (t : A) → step seen p b ≡ next t → Q seen
      → Q (seen ++ t ∷ [])) → (seen : List A) (ps : List (List ℕ)) (w : List A) → Q seen
      → items_from step seen ps ≡ accepted w → Q w
  items_hold Q keep seen [] w q e = let j : seen ≡ w = cc in rw j at q
  items_hold Q keep seen (p ∷ ps) w q e =
      go (λ t. items_hold Q keep (seen ++ t ∷ []) ps w) (step seen p (not (is_empty ps))) refl e
    where
      go : ((t : A) → Q (seen ++ t ∷ []) → items_from step (seen ++ t ∷ []) ps ≡ accepted w → Q w)
          → (x : Step A) → step seen p (not (is_empty ps)) ≡ x
          → on_step seen x (λ t. items_from step (seen ++ t ∷ []) ps) ≡ accepted w → Q w
      go again (next t) h e = again t (keep seen p (not (is_empty ps)) t h q) e
      go again (stop f) h e = absurd (clash cc)
      go again end h e = let j : seen ≡ w = cc in rw j at q

  -- a refusal's line is one of the lines behind the items seen
  pub items_line : (seen : List A) (ps : List (List ℕ)) (f : ℕ) (l : ℕ)
      → items_from step seen ps ≡ refused f l → l ≤ length seen + 1 + length ps
  items_line seen [] f l e = absurd (clash cc)
  items_line seen (p ∷ ps) f l e =
      go (λ t. items_line (seen ++ t ∷ []) ps f l) (step seen p (not (is_empty ps))) e
    where
      go : ((t : A) → items_from step (seen ++ t ∷ []) ps ≡ refused f l
          → l ≤ length (seen ++ t ∷ []) + 1 + length ps)
          → (x : Step A) → on_step seen x (λ t. items_from step (seen ++ t ∷ []) ps) ≡ refused f l
          → l ≤ length seen + 1 + length (p ∷ ps)
      go again (next t) e = omega (arith, again t e, length-append seen (t ∷ []))
      go again (stop g) e = let j : length seen + 2 ≡ l = cc in omega arith
      go again end e = absurd (clash cc)

-- an item is what a whole line says
step_said : {A : Type 0} (many form : ℕ) (said : Step A) (u : Turn) (t : A)
    → step_at_of many form said u ≡ next t → said ≡ next t
step_said many form said Turn.End t e = absurd (clash cc)
step_said many form said Turn.Many t e = absurd (clash cc)
step_said many form said Turn.Open t e = absurd (clash cc)
step_said many form said Turn.Whole t e = e

-- at most `most` items
items_few : {A : Type 0} (most : ℕ) (many form : ℕ) (says : List A → List ℕ → Step A)
    (ps : List (List ℕ)) (w : List A)
    → items_from (line_step_of most many form says) [] ps ≡ accepted w → length w ≤ most
items_few {A} most many form says ps w =
    items_hold (line_step_of most many form says) (λ v. length v ≤ most)
    (λ seen p b t e h. omega (
      arith,
      (next_only most many form (length seen) (says seen p) p b t
          (sym e)).0,
      length-append seen (t ∷ []),
    ))
    [] ps w zero-le

-- the lines behind the names of an accepted sheet
names_accepted : {A : Type 0} (bad : Reading A) (names : List ℕ) (k : List (List ℕ) → Reading A)
    (Q : A → Type 0) → ((w : A) → bad ≡ accepted w → Q w)
    → ((ps : List (List ℕ)) (w : A) → k ps ≡ accepted w → Q w) → (ps : List (List ℕ)) (w : A)
    → with_names bad names ps k ≡ accepted w → Q w
names_accepted bad names k Q o h [] w e = o w e
names_accepted bad names k Q o h (p ∷ ps) w e = go (not (is_empty ps) && same_bytes p names) e
  where
    go : (b : Bool) → cond b (k ps) bad ≡ accepted w → Q w
    go true e = h ps w e
    go false e = o w e

-- a refusal accepts nothing
refused_not : {A : Type 0} {f : ℕ} {l : ℕ} {w : List A} → refused f l ≡ accepted w → ⊥
refused_not e = clash cc

-- 1. rules

get_elem?_snoc : {A : Type 0} (l : List A) (x : A) (p : ℕ) {y : A}
    → get_elem? (l ++ x ∷ []) p ≡ some y → (get_elem? l p ≡ some y) ⊎ ((p ≡ length l) × (x ≡ y))
get_elem?_snoc [] x zero e = inr (refl, cc)
get_elem?_snoc [] x (suc p) {y} e = absurd (clash cc)
get_elem?_snoc (a ∷ l) x zero e = inl e
get_elem?_snoc (a ∷ l) x (suc p) e =
    ⊎_elim inl (λ h. inr (ap suc h.0, h.1)) (get_elem?_snoc l x p e)

module _ (seen : Rules) (x : Rule) (d : Distinct seen)
    (fresh : any_of (has_key (key_of x)) seen ≡ false) where
  -- no rule seen has the key of x
  apart : (p : ℕ) (r : Rule) → get_elem? seen p ≡ some r → same_key_of (key_of r) (key_of x) ≡ true
      → ⊥
  apart p r st k = any_none (has_key (key_of x)) seen fresh (member_at seen p st) k

  distinct_snoc : Distinct (seen ++ x ∷ [])
  distinct_snoc = record {
    one = λ p q r s e f h a. go p q r s (get_elem?_snoc seen x p e)
        (get_elem?_snoc seen x q f) h a;
  }
    where
      go : (p q : ℕ) (r s : Rule) → (get_elem? seen p ≡ some r) ⊎ ((p ≡ length seen) × (x ≡ r))
          → (get_elem? seen q ≡ some s) ⊎ ((q ≡ length seen) × (x ≡ s))
          → r.left ≡ s.left → Alike r.clause s.clause → p ≡ q
      go p q r s (inl e) (inl f) h a = d.one p q r s e f h a
      go p q r s (inl e) (inr f) h a = absurd
          (apart p r e (ap (λ (y : Rule). same_key_of (key_of r) (key_of y)) f.1
          ∙ key_same r s h a))
      go p q r s (inr e) (inl f) h a = absurd
          (apart q s f (ap (λ (y : Rule). same_key_of (key_of s) (key_of y)) e.1
          ∙ key_back r s h a))
      go p q r s (inr e) (inr f) h a = e.0 ∙ sym f.0

-- what a sheet's rules are
pub record Kept (w : Rules) : Type 0 where
  pub small : Every SmallRule w
  pub distinct : Distinct w

fresh_kept : (seen : Rules) (r t : Rule) → SmallRule r → Kept seen → fresh_step seen r ≡ next t
    → Kept (seen ++ t ∷ [])
fresh_kept seen r t sm k e = go (any_of (has_key (key_of r)) seen) refl e
  where
    go : (b : Bool) → any_of (has_key (key_of r)) seen ≡ b → cond b (stop 5) (next r) ≡ next t
        → Kept (seen ++ t ∷ [])
    go true h e = absurd (clash cc)
    go false h e =
        let j : r ≡ t = cc in
        rw (← j) (record {
          small = every_append SmallRule seen (r ∷ []) k.small (sm, tt);
          distinct = distinct_snoc seen r k.distinct h;
        })

said_kept : (seen : Rules) (line : List ℕ) (t : Rule) → Kept seen → rule_says seen line ≡ next t
    → Kept (seen ++ t ∷ [])
said_kept seen line t k e = go (rule_line_of line) refl e
  where
    go : (x : Result Rule RuleFault) → rule_line_of line ≡ x → rule_said_of seen x ≡ next t
        → Kept (seen ++ t ∷ [])
    go (Err RuleFault.Form) h e = absurd (clash cc)
    go (Err RuleFault.Range) h e = absurd (clash cc)
    go (Err RuleFault.Unfit) h e = absurd (clash cc)
    go (Err RuleFault.Reversed) h e = absurd (clash cc)
    go (Ok r) h e = fresh_kept seen r t (line_small line r h) k e

-- a rule that a line gives is in range
pub rule_small : (seen : Rules) (line : List ℕ) (u : Turn) (t : Rule)
    → next t ≡ step_at_of 6 2 (rule_says seen line) u → SmallRule t
rule_small seen line u t e =
    go (rule_line_of line) refl (step_said 6 2 (rule_says seen line) u t (sym e))
  where
    fresh_small : (r : Rule) → SmallRule r → (b : Bool) → cond b (stop 5) (next r) ≡ next t
        → SmallRule t
    fresh_small r sm true e = absurd (clash cc)
    fresh_small r sm false e = let j : r ≡ t = cc in rw (← j) sm

    go : (x : Result Rule RuleFault) → rule_line_of line ≡ x → rule_said_of seen x ≡ next t
        → SmallRule t
    go (Err RuleFault.Form) h e = absurd (clash cc)
    go (Err RuleFault.Range) h e = absurd (clash cc)
    go (Err RuleFault.Unfit) h e = absurd (clash cc)
    go (Err RuleFault.Reversed) h e = absurd (clash cc)
    go (Ok r) h e =
        fresh_small r (line_small line r h) (any_of (has_key (key_of r)) seen) e

pub rules_kept : (ps : List (List ℕ)) (w : Rules) → items_from rule_step [] ps ≡ accepted w → Kept w
rules_kept ps w =
    items_hold rule_step Kept
    (λ seen p b t e k. said_kept seen p t k
    (step_said 6 2 (rule_says seen p) (turn_of 128 (length seen) p b) t e))
    [] ps w (record { small = tt; distinct = record { one = λ p q r s e. absurd (clash cc) } })

-- 2. tokens

-- the test says the relation
pub after_says : (a b : Token) → Says (after a b) (After a b)
after_says a b = go (ltb (line a) (line b)) refl (eqb (line a) (line b)) refl
  where
    go : (x : Bool) → ltb (line a) (line b) ≡ x → (y : Bool) → eqb (line a) (line b) ≡ y
        → Says (x || (y && leb (col a + width a) (col b))) (After a b)
    go true h y k = holds (inl (ltb-true (line a) (line b) h))
    go false h true k =
        let l = ltb-false (line a) (line b) h in
        says_iff (λ c. inr (eqb-true (line a) (line b) k, c))
        (⊎_elim (λ c. absurd (omega arith)) (λ c. c.1)) (says_leb (col a + width a) (col b))
    go false h false k =
        let l = ltb-false (line a) (line b) h in
        fails (⊎_elim (λ c. omega arith) (λ c. eqb-false (line a) (line b) k c.0))

-- refusal 15 by the test
pub order_computed : (seen : Word) (t : Token)
    → order_step seen t ≡ cond (follows seen t) (next t) (stop 15)
order_computed [] t = refl
order_computed (a ∷ w) t = go (after? (last a w) t) (after (last a w) t) refl
  where
    go : (d : Dec (After (last a w) t)) (b : Bool) → after (last a w) t ≡ b
        → in_order d t ≡ cond b (next t) (stop 15)
    go (yes h) true e = refl
    go (yes h) false e = absurd ((after_says (last a w) t).isnt e h)
    go (no n) true e = absurd (n ((after_says (last a w) t).is e))
    go (no n) false e = refl

rising_from : (a : Token) (w : Word) (t : Token) → RisingFrom a w → After (last a w) t
    → RisingFrom a (w ++ t ∷ [])
rising_from a [] t r h = (h, tt)
rising_from a (b ∷ w) t r h = (r.0, rising_from b w t r.1 h)

rising_snoc : (w : Word) (t : Token) → Rising w → follows w t ≡ true → Rising (w ++ t ∷ [])
rising_snoc [] t r e = tt
rising_snoc (a ∷ w) t r e = rising_from a w t r ((after_says (last a w) t).is e)

-- what a sheet's tokens are
pub record Placed (w : Word) : Type 0 where
  pub wide : Wide w
  pub rising : Rising w

order_placed : (seen : Word) (u t : Token) → 1 ≤ width u → Placed seen → order_step seen u ≡ next t
    → Placed (seen ++ t ∷ [])
order_placed seen u t l r e = go (follows seen u) refl (sym (order_computed seen u) ∙ e)
  where
    go : (b : Bool) → follows seen u ≡ b → cond b (next u) (stop 15) ≡ next t
        → Placed (seen ++ t ∷ [])
    go true h e =
        let j : u ≡ t = cc in
        rw (← j) (record {
          wide = every_append (λ x. 1 ≤ width x) seen (u ∷ []) r.wide (l, tt);
          rising = rising_snoc seen u r.rising h;
        })
    go false h e = absurd (clash cc)

said_placed : (wide : Bool) (seen : Word) (line : List ℕ) (t : Token) → Placed seen
    → token_says wide seen line ≡ next t → Placed (seen ++ t ∷ [])
said_placed wide seen line t r e = go (token_line wide line) refl e
  where
    go : (x : Result Token TokenFault) → token_line wide line ≡ x → token_said_of seen x ≡ next t
        → Placed (seen ++ t ∷ [])
    go (Err TokenFault.Form) h e = absurd (clash cc)
    go (Err TokenFault.Range) h e = absurd (clash cc)
    go (Err TokenFault.Width) h e = absurd (clash cc)
    go (Ok u) h e = order_placed seen u t (line_wide wide line u h) r e

pub tokens_placed : (wide : Bool) (ps : List (List ℕ)) (w : Word)
    → items_from (token_step wide) [] ps ≡ accepted w → Placed w
tokens_placed wide ps w =
    items_hold (token_step wide) Placed
    (λ seen p b t e r. said_placed wide seen p t r
    (step_said 14 12 (token_says wide seen p) (turn_of 64 (length seen) p b) t e))
    [] ps w (record { wide = tt; rising = tt })

last_snoc : (a : Token) (w : Word) (t : Token) → last a (w ++ t ∷ []) ≡ t
last_snoc a [] t = refl
last_snoc a (b ∷ w) t = last_snoc b w t

follows_snoc : (w : Word) (t u : Token) → follows (w ++ t ∷ []) u ≡ after t u
follows_snoc [] t u = refl
follows_snoc (a ∷ w) t u = rw (last_snoc a w t)

-- the last of the first n tokens
pub follows_last : (l : Word) (n : ℕ) (d u : Token) → (n ≡ 0 → ⊥) → n ≤ length l
    → follows (take n l) u ≡ after (get_or l (n - 1) d) u
follows_last l zero d u h k = absurd (h refl)
follows_last l (suc n) d u h k =
    let e : suc n - 1 ≡ n = omega arith in
    rw (take-suc l n d (omega arith), e) (follows_snoc (take n l) (get_or l n d) u)

-- 3. the end of a rule sheet

module _ (w : Rules) where
  pub finish_good : any_of is_start w ≡ true → finish (accepted w) ≡ accepted w
  finish_good e = rw e

  pub finish_none : any_of is_start w ≡ false → finish (accepted w) ≡ refused 7 0
  finish_none e = rw e

-- 4. whole sheets

-- the rules of an accepted sheet
pub record GoodRules (w : Rules) : Type 0 where
  pub few : length w ≤ 128
  pub small : Every SmallRule w
  pub distinct : Distinct w
  pub start : any_of is_start w ≡ true

-- the end accepts what came to it
finish_kept : (x : Reading Rules) (w : Rules) → finish x ≡ accepted w
    → (x ≡ accepted w) × (any_of is_start w ≡ true)
finish_kept (accepted v) w e = go (any_of is_start v) refl e
  where
    go : (b : Bool) → any_of is_start v ≡ b → cond b (accepted v) (refused 7 0) ≡ accepted w
        → (accepted v ≡ accepted w) × (any_of is_start w ≡ true)
    go true h e = let j : v ≡ w = cc in (e, rw j at h)
    go false h e = absurd (clash cc)
finish_kept (refused f l) w e = absurd (clash cc)

pub rules_good : (s : List ℕ) (w : Rules) → rule_sheet s ≡ accepted w → GoodRules w
rules_good s w = names_accepted (refused 1 1) rule_names rules_from GoodRules
    (λ v e. absurd (refused_not e)) lines_good (pieces 10 s) w
  where
    lines_good : (ps : List (List ℕ)) (v : Rules) → rules_from ps ≡ accepted v → GoodRules v
    lines_good ps v e =
        let f = finish_kept (items_from rule_step [] ps) v e in
        let k = rules_kept ps v f.0 in
        record {
          few = items_few 128 6 2 rule_says ps v f.0;
          small = k.small;
          distinct = k.distinct;
          start = f.1;
        }

-- the tokens of an accepted sheet
pub record GoodTokens (w : Word) : Type 0 where
  pub few : length w ≤ 64
  pub wide : Wide w
  pub rising : Rising w

pub tokens_good : (s : List ℕ) (w : Word) → token_sheet s ≡ accepted w → GoodTokens w
tokens_good s w =
    names_accepted (wide_sheet s) token_names (items_from (token_step false) []) GoodTokens
    (λ v e. names_accepted (refused 11 1) wide_names (items_from (token_step true) []) GoodTokens
    (λ u d. absurd (refused_not d)) (good true) (pieces 10 s) v e) (good false) (pieces 10 s) w
  where
    good : (wide : Bool) (ps : List (List ℕ)) (v : Word)
        → items_from (token_step wide) [] ps ≡ accepted v → GoodTokens v
    good wide ps v e = record {
      few = items_few 64 14 12 (token_says wide) ps v e;
      wide = (tokens_placed wide ps v e).wide;
      rising = (tokens_placed wide ps v e).rising;
    }
