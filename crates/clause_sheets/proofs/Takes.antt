-- Rules put behind others, one left after the other.
use mathlib.Core.Path.{◌≡◌, refl, sym, ◌∙◌, ap, subst}
use mathlib.Core.Bool.{Bool, true, false}
use mathlib.Core.List.{List, [], ◌∷◌, ◌++◌, map, append_assoc, append-nil}
use Prim.Native.Nat.{ℕ, ◌+◌, ◌≤◌, ◌<◌}
use native.Mathlib.Omega.{arith}
use native.Mathlib.Numerals.{add-one}
use lib.Dec.{eqb}
use lib.ListN.{length, take, get_or, set, length-append, length-map, length-set, get_or-map}
use lib.Seq.{take-suc, take-suc-set}
use borrow.Author.Tests.{eq-eqb, ne_eqb}
use Rattle.clauses.proofs.Order.{of_append}
use Rattle.grammar.specs.declared.Rule.{Rule}
use Rattle.grammar.specs.declared.Grammar.{Grammar}
use Rattle.grammar.specs.Trees.{Rules}
use Rattle.clauses.specs.Expansion.{of, rising}
use Rattle.rule_words.specs.Words.{word_rule}
use Rattle.clause_sheets.specs.Checks.{RulesTaken}

pub taken_none : (l : Rules) → RulesTaken [] (record { rules = l; count = 0 })
taken_none l = record { count = λ h. refl; rules = λ h. refl }

-- one rule more, where there is room, or not
module _ (a : Rules) (x : Rule) where
  pub taken_one : (l : Rules) (m : ℕ) → m < length l
      → RulesTaken a (record { rules = l; count = m })
      → RulesTaken (a ++ (x ∷ [])) (record { rules = set l m x; count = m + 1 })
  taken_one l m h p =
      record {
        count = λ z. let u = p.count (omega (arith, length-append a (x ∷ []))) in
            omega (arith, length-append a (x ∷ []));
        rules = λ z. rw add-one (take-suc-set l m x h)
            ∙ ap (λ (y : Rules). y ++ (x ∷ []))
            (p.rules (omega (arith, length-append a (x ∷ []))));
      }

  pub taken_full : (g : Grammar) → 128 ≤ g.count → RulesTaken a g → RulesTaken (a ++ (x ∷ [])) g
  taken_full g h p = record { count = λ z. absurd (never z); rules = λ z. absurd (never z) }
    where
      never : length (a ++ (x ∷ [])) ≤ 128 → ⊥
      never z = let u = p.count (omega (arith, length-append a (x ∷ []))) in
          omega (arith, length-append a (x ∷ []))

pub taken_by : {a b : Rules} {g : Grammar} → a ≡ b → RulesTaken a g → RulesTaken b g
taken_by {g = g} e p = subst (λ (x : Rules). RulesTaken x g) e p

abbrev put : Bool → Rule → Rules → Rules
put b h g = elim b [ true ↦ h ∷ g | false ↦ g ]

-- one word more is looked at
module _ (K : ℕ) (w : List ℕ) (i : ℕ) (h : i < length w) where
  abbrev rule : Rule
  rule = word_rule (get_or w i 0)

  abbrev seen : Rules
  seen = take i (map word_rule w)

  one_more : take (i + 1) (map word_rule w) ≡ seen ++ (rule ∷ [])
  one_more =
      rw add-one (take-suc (map word_rule w) i (word_rule 0)
      (omega (arith, length-map w word_rule)))
      ∙ ap (λ (r : Rule). seen ++ (r ∷ [])) (get_or-map word_rule w i 0)

  of_one : (b : Bool) → eqb rule.left K ≡ b
      → of K (take (i + 1) (map word_rule w)) ≡ of K seen ++ put b rule []
  of_one b e = ap (of K) one_more ∙ of_append K seen (rule ∷ [])
      ∙ ap (λ (c : Bool). of K seen ++ put c rule []) e

-- the rules of the lefts below `left` are taken, and those of `left` among the first i
pub record Taking (w : List ℕ) (n : ℕ) (rules : Rules) (count left i : ℕ) : Type 0 where
  pub low : left ≤ 64
  pub few : i ≤ n
  pub first : 64 ≤ left → i ≡ 0
  pub long : length rules ≡ 128
  pub taken : RulesTaken (rising left (take n (map word_rule w))
      ++ of left (take i (map word_rule w)))
      (record { rules = rules; count = count })

pub taking_start : (w : List ℕ) (n : ℕ) (rules : Rules) → length rules ≡ 128
    → Taking w n rules 0 0 0
taking_start w n rules h =
    record {
      low = omega arith;
      few = omega arith;
      first = λ z. refl;
      long = h;
      taken = taken_none rules;
    }

module _ {w : List ℕ} {n : ℕ} {rules : Rules} {count left i : ℕ}
    (T : Taking w n rules count left i) where
  abbrev all : Rules
  all = take n (map word_rule w)

  pub taking_next : left < 64 → i ≡ n → Taking w n rules count (left + 1) 0
  taking_next h e =
      record {
        low = omega arith;
        few = omega arith;
        first = λ z. refl;
        long = T.long;
        taken = taken_by (ap (λ (k : ℕ). rising left all ++ of left (take k (map word_rule w))) e
            ∙ sym (ap (λ (k : ℕ). rising k all) (add-one left))
            ∙ sym (append-nil (rising (left + 1) all))) T.taken;
      }

  pub taking_end : 64 ≤ left → RulesTaken (rising 64 all) (record { rules = rules; count = count })
  taking_end h =
      let e : left ≡ 64 = omega (arith, T.low) in
      taken_by (ap (λ (k : ℕ). rising left all ++ of left (take k (map word_rule w))) (T.first h)
      ∙ append-nil (rising left all) ∙ ap (λ (k : ℕ). rising k all) e) T.taken

  module _ (l : left < 64) (h : i < n) (k : n ≤ length w) where
    abbrev looked : Rule
    looked = word_rule (get_or w i 0)

    more : (b : Bool) → eqb looked.left left ≡ b
        → (rising left all ++ of left (take i (map word_rule w))) ++ put b looked []
        ≡ rising left all ++ of left (take (i + 1) (map word_rule w))
    more b e =
        append_assoc (rising left all) (of left (take i (map word_rule w))) (put b looked [])
        ∙ ap (λ (x : Rules). rising left all ++ x) (sym (of_one left w i (omega arith) b e))

    pub taking_miss : (looked.left ≡ left → ⊥) → Taking w n rules count left (i + 1)
    taking_miss e =
        record {
          low = T.low;
          few = omega arith;
          first = λ z. absurd (omega arith);
          long = T.long;
          taken = taken_by (sym (append-nil _) ∙ more false (ne_eqb looked.left left e))
              T.taken;
        }

    pub taking_full : looked.left ≡ left → 128 ≤ count → Taking w n rules count left (i + 1)
    taking_full e z =
        record {
          low = T.low;
          few = omega arith;
          first = λ z. absurd (omega arith);
          long = T.long;
          taken = taken_by (more true (eq-eqb looked.left left e))
              (taken_full _ looked _ z T.taken);
        }

    pub taking_hit : (x : Rule) → looked.left ≡ left → count < 128 → x ≡ looked
        → Taking w n (set rules count x) (count + 1) left (i + 1)
    taking_hit x e z q =
        record {
          low = T.low;
          few = omega arith;
          first = λ z. absurd (omega arith);
          long = length-set rules count x ∙ T.long;
          taken = taken_by (ap (λ (y : Rule).
              (rising left all ++ of left (take i (map word_rule w)))
              ++ (y ∷ [])) q ∙ more true (eq-eqb looked.left left e))
              (taken_one _ x rules count (omega (arith, T.long)) T.taken);
        }
