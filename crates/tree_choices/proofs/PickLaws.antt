-- Laws of the search for a choice and of what is picked.
use mathlib.Core.Path.{◌≡◌, refl, sym, ap, ◌∙◌}
use mathlib.Core.Bool.{Bool, true, false, not, ◌&&◌}
use Rattle.std.specs.Prelude.{◌==◌}
use mathlib.Core.List.{List}
use mathlib.Core.Logic.{◌⊎◌, inl, inr, ⊎_elim}
use mathlib.Core.Option.{some}
use Prim.Native.Nat.{ℕ, ◌+◌, ◌≤◌, ◌<◌}
use native.Mathlib.Omega.{arith}
use native.Mathlib.Decide.{ℕ_discrete}
use lib.ListN.{length, get_elem?, length-take, drop}
use Rattle.grammar.specs.declared.Rule.{Rule}
use Rattle.grammar.specs.declared.Grammar.{Grammar}
use Rattle.grammar.specs.declared.Sentence.{Sentence}
use Rattle.grammar.specs.Layout.{Word}
use Rattle.grammar.specs.Trees.{Rules}
use Rattle.grammar.specs.Choices.{Choice, ChoiceBefore, Same, OnlyChoice, OtherChoice, FirstChoice}
use Rattle.grammar.specs.Content.{rules_of, Formed, SmallRule}
use Rattle.grammar.specs.SpanSheet.{part, second_word}
use Rattle.grammar.proofs.Lists.{mem_every, get_elem?_take}
use Rattle.sets.specs.Says.{Says}
use Rattle.sets.specs.Sets.{In}
use Rattle.spans.specs.Reach.{Reach}
use Rattle.grammar.proofs.ChoiceLaws.{tri, member_at}
use Rattle.grammar.proofs.ByKind.{inside, choice_can}
use Rattle.std.specs.Prelude.{Option, Some, None, IsSome}
use Rattle.choices.specs.declared.Pick.{Pick}
use Rattle.choices.specs.Choosing.{NextAt, NoneFrom, NextChoice}
use Rattle.rows.specs.declared.Step.{Step}
use Rattle.rows.specs.Steps.{step_of_clause}
use Rattle.tree_choices.specs.Wanted.{Charted, Ready}
use Rattle.tree_choices.specs.Picks.{HasChoice, Picks, PickedStep, Passes}
use Rattle.grammar.specs.Sentences.{spelled}

-- a choice's rule is one of the sheet's, and its left length one of the word's
pub choice_within : {g : Grammar} → Formed g → (w : Word) (A i n q l : ℕ)
    → Choice (rules_of g) A (part w i n) q l → (q < g.count) × (l ≤ n)
choice_within {g} f w A i n q l c =
    let x = inside A (part w i n) q l c in
    (omega (arith, x.0, f.whole), omega (arith, x.1, length-take n (drop i w)))

pub choice_near : {g : Grammar} {s : Sentence} {ws : List ℕ} → Charted g s ws → (A i n q l : ℕ)
    → i + n ≤ s.count → Choice (rules_of g) A (part (spelled s) i n) q l → (q < 128) × (l ≤ 64)
choice_near {g} {s} r A i n q l h c =
    let x = choice_within r.formed (spelled s) A i n q l c in
    (omega (arith, x.0, r.formed.few), omega (arith, x.1, r.positioned.few))

-- ---- what the search finds

module _ (g : Rules) (A : ℕ) (w : Word) (p k : ℕ) where
  -- it finds a choice where there is one
  pub next_some : (o : Option Pick) → NextChoice g A w p k o → (NoneFrom g A w p k → ⊥) → IsSome o
  next_some None x h = absurd (h x)
  next_some (Some y) x h = refl

  pub next_at : (o : Option Pick) (x : Pick) → NextChoice g A w p k o → o ≡ Some x
      → NextAt g A w p k x.rule x.left
  next_at o x n e = rw e at n

-- whether two choices are the same, as the derived comparison tells it
pub differ : (p k q l : ℕ) → not ((p == q) && (k == l)) ≡ true → Same p k q l → ⊥
differ p k q l h e = grind arith

pub agree : (p k q l : ℕ) → not ((p == q) && (k == l)) ≡ false → Same p k q l
agree p k q l h = grind arith

nothing_before : (q l : ℕ) → ChoiceBefore q l 0 0 → ⊥
nothing_before q l b = ⊎_elim (λ x. omega arith) (λ x. omega arith) b

pub first_of_next : {g : Rules} {A : ℕ} {w : Word} {p k : ℕ} → NextAt g A w 0 0 p k
    → FirstChoice g A w p k
first_of_next x =
    record { choice = x.choice; least = λ q l c b. x.least q l c (nothing_before q l) b }

not_both : (i j p k : ℕ) → ChoiceBefore i j p k → Same i j p k ⊎ ChoiceBefore p k i j → ⊥
not_both i j p k a b = ⊎_elim (λ x. ⊎_elim (λ y. omega (arith, y.0))
    (λ y. ⊎_elim (λ z. omega arith) (λ z. omega (arith, z.0)) y) b)
    (λ x. ⊎_elim (λ y. omega (arith, x.1, y.1))
    (λ y. ⊎_elim (λ z. omega (arith, x.0)) (λ z. omega (arith, x.1, z.1)) y) b) a

-- what is not after the first choice is the first choice
up_to_first : {g : Rules} {A : ℕ} {w : Word} {p k : ℕ} → FirstChoice g A w p k → (q l : ℕ)
    → Choice g A w q l → ChoiceBefore q l p (k + 1) → Same q l p k
up_to_first {g} {A} {w} {p} {k} f q l c b =
    ⊎_elim (λ x. absurd (f.least q l c (inl x))) (λ x. (x.0, at (ℕ_discrete l k) x.0 x.1)) b
  where
    at : Dec (l ≡ k) → q ≡ p → l < k + 1 → l ≡ k
    at (yes e) h y = e
    at (no e) h y = absurd (f.least q l c (inr (h, omega arith)))

pub other_of_next : {g : Rules} {A : ℕ} {w : Word} {p k q l : ℕ} → FirstChoice g A w p k
    → NextAt g A w p (k + 1) q l → OtherChoice g A w p k q l
other_of_next {g} {A} {w} {p} {k} {q} {l} f x =
    record {
      choice = x.choice;
      other = λ e. x.late (inr (e.0, omega (arith, e.1)));
      least = λ i j c b. at i j c b (tri i j p (k + 1));
    }
  where
    at : (i j : ℕ) → Choice g A w i j → ChoiceBefore i j q l
        → ChoiceBefore i j p (k + 1) ⊎ (Same i j p (k + 1) ⊎ ChoiceBefore p (k + 1) i j)
        → Same i j p k
    at i j c b (inl h) = up_to_first f i j c h
    at i j c b (inr h) = absurd (x.least i j c (λ z. not_both i j p (k + 1) z h) b)

pub only_of_none : {g : Rules} {A : ℕ} {w : Word} {p k : ℕ} → FirstChoice g A w p k
    → NoneFrom g A w p (k + 1) → OnlyChoice g A w p k
only_of_none f x =
    record { choice = f.choice; only = λ q l c. up_to_first f q l c (x.early q l c) }

-- where the first choice is another, it is the earliest that is not the one taken
pub other_of_first : {g : Rules} {A : ℕ} {w : Word} {p k q l : ℕ} → NextAt g A w 0 0 q l
    → (Same q l p k → ⊥) → OtherChoice g A w p k q l
other_of_first x n = record {
  choice = x.choice;
  other = n;
  least = λ i j c b. absurd
      (x.least i j c (nothing_before i j) b);
}

pub charted : {g : Grammar} {s : Sentence} {ws hs : List ℕ} → Ready g s ws hs → Charted g s ws
charted r = record { formed = r.formed; positioned = r.positioned; sheet = r.sheet }

pub none_of_none : {g : Rules} {A : ℕ} {w : Word} → HasChoice g A w → NoneFrom g A w 0 0 → ⊥
none_of_none h x = nothing_before h.0 h.1 (x.early h.0 h.1 h.2)

-- the step of the rule at a choice's place
pub chosen : (g : Grammar) {A : ℕ} {w : Word} {s : Bool} {p k : ℕ} (m : Bool) {st : Step}
    → Choice (rules_of g) A w p k → Picks (rules_of g) A w s p k m
    → ((x : Rule) → get_elem? g.rules p ≡ some x → st ≡ step_of_clause x.clause k m)
    → PickedStep (rules_of g) A w s st
chosen g {A} {w} {s} {p} {k} m {st} c h f =
    let e = f c.takes.rule (get_elem?_take g.rules g.count p c.takes.stands) in
    let j : st.seeking ≡ m = ap (λ (x : Step). x.seeking) e in
    record {
      place = p;
      split = k;
      rule = c.takes.rule;
      stands = c.takes.stands;
      step = e ∙ ap (λ (x : Bool). step_of_clause c.takes.rule.clause k x) (sym j);
      picks = rw j h;
    }

-- a nonterminal that has a choice is below 64
pub choice_small : {g : Grammar} → Formed g → {A : ℕ} {w : Word} → HasChoice (rules_of g) A w
    → A < 64
choice_small {g} f h =
    let x = choice_can h.2 in
    omega (
      arith,
      x.2,
      (mem_every SmallRule (rules_of g) f.small (member_at (rules_of g) h.0 x.1)
          ).left,
    )

-- what the second word of the span's pair says, where it is read while seeking and where it is not
module _ {g : Grammar} {s : Sentence} {ws : List ℕ} (r : Charted g s ws) (A i n : ℕ)
    (in_word : i + n ≤ s.count) (small : A < 64) where
  pub reach : Reach ws s.count i n A
  reach = record {
    few = r.positioned.few;
    fits = in_word;
    enough = rw (← r.positioned.whole)
        r.sheet.enough;
    small = small;
  }

  fits : i + n ≤ length (spelled s)
  fits = omega (arith, r.positioned.whole)

  -- the bit is 1, and it is 0
  pub passes_two : {b seeking : Bool} → seeking ≡ true → b ≡ true
      → Says b (In (second_word ws s.count i n) A)
      → Passes (rules_of g) A (part (spelled s) i n) seeking false
  passes_two e h x = rw e ((r.sheet.two i n A fits small).0 (rw r.positioned.whole (x.is h)))

  pub passes_one : {b seeking : Bool} → seeking ≡ true → b ≡ false
      → Says b (In (second_word ws s.count i n) A)
      → Passes (rules_of g) A (part (spelled s) i n) seeking seeking
  passes_one e h x =
      rw e (λ t. x.isnt h (rw (← r.positioned.whole) ((r.sheet.two i n A fits small).1 t)))

pub passes_plain : (g : Rules) (A : ℕ) (w : Word) {seeking : Bool} → seeking ≡ false
    → Passes g A w seeking seeking
passes_plain g A w e = rw e tt
