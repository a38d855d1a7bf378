-- Items that are no group, and what stands after an item, by the lexeme told.
use mathlib.Core.Path.{◌≡◌, refl, sym, ◌∙◌, ap, subst}
use mathlib.Core.List.{[]}
use Prim.Native.Nat.{ℕ}
use Rattle.sets.proofs.Basics.{clash}
use Rattle.grammar.specs.Trees.{Rules}
use Rattle.grammar.specs.declared.BinaryMark.{BinaryMark}
use Rattle.grammar.specs.declared.UnaryMark.{UnaryMark}
use Rattle.lexemes.specs.declared.Lexeme.{Lexeme}
use Rattle.rule_output.specs.Signs.{heads_of}
use Rattle.rule_output.specs.Emitting.{Emit, Adds, CountsOn, atom_rules, tail_rules}
use Rattle.rule_output.specs.Emitting.{LeafRead}
use Rattle.rule_output.proofs.Adding.{adds_nothing, adds_same}

-- an item that is neither a nonterminal nor a terminal
pub leaf_other : (l : Lexeme) (end : ℕ) (out : Emit) (b : ℕ)
    → ((a : ℕ) → l ≡ Lexeme.Nonterminal a → ⊥) → ((a : ℕ) → l ≡ Lexeme.Terminal a → ⊥)
    → LeafRead l end out (record { at = end; name = b; out = out })
leaf_other l end out b p q = record {
  at = refl;
  room = λ u. u;
  nonterminal = λ a e. absurd (p a e);
  terminal = λ a e. absurd (q a e);
}

apart : {P : Type 0} {l : Lexeme} {a b : ℕ} → l ≡ Lexeme.Nonterminal a → l ≡ Lexeme.Terminal b → P
apart {a = a} {b = b} p q =
    absurd (let z : Lexeme.Nonterminal a ≡ Lexeme.Terminal b = sym p ∙ q in clash cc)

pub leaf_nonterminal : (l : Lexeme) (end : ℕ) (out : Emit) (a : ℕ) → l ≡ Lexeme.Nonterminal a
    → LeafRead l end out (record { at = end; name = a; out = out })
leaf_nonterminal l end out a e =
    record {
      at = refl;
      room = λ u. u;
      nonterminal = λ b f. (
        let z : Lexeme.Nonterminal a ≡ Lexeme.Nonterminal b = sym e ∙ f in let y : a ≡ b = cc in
            y,
        refl,
      );
      terminal = λ b f. apart e f;
    }

pub leaf_terminal : (l : Lexeme) (end : ℕ) (out o : Emit) (a : ℕ) → l ≡ Lexeme.Terminal a
    → Adds out o (atom_rules out.next a) 1
    → LeafRead l end out (record { at = end; name = out.next; out = o })
leaf_terminal l end out o a e d =
    record {
      at = refl;
      room = d.room;
      nonterminal = λ b f. apart f e;
      terminal =
          λ b f. (
            refl,
            let z : Lexeme.Terminal a ≡ Lexeme.Terminal b = sym e ∙ f in let y : a ≡ b =
                cc in adds_same (ap (atom_rules out.next) y) refl d,
          );
    }

-- the rules after an item, by the lexeme told
pub tail_by : (l k : Lexeme) (o p : Emit) (i b : ℕ) → l ≡ k → Adds o p (tail_rules k i b) 0
    → Adds o p (tail_rules l i b) 0
tail_by l k o p i b e d = subst (λ (y : Lexeme). Adds o p (tail_rules y i b) 0) (sym e) d

pub tail_none : (l : Lexeme) (o : Emit) (i b : ℕ) → tail_rules l i b ≡ []
    → Adds o o (tail_rules l i b) 0
tail_none l o i b e = subst (λ (y : Rules). Adds o o y 0) (sym e) (adds_nothing o)

-- a lexeme that stands after no item
pub record Bare (l : Lexeme) : Type 0 where
  pub maybe : l ≡ Lexeme.Maybe → ⊥
  pub plus : (m : BinaryMark) → l ≡ Lexeme.Plus m → ⊥
  pub star : (m : BinaryMark) → l ≡ Lexeme.Star m → ⊥
  pub marked : (m : UnaryMark) → l ≡ Lexeme.Marked m → ⊥

-- it has no rules and no nonterminals
pub bare_none : (l : Lexeme) → Bare l → (0 ≡ heads_of l) × ((i b : ℕ) → tail_rules l i b ≡ [])
bare_none (Lexeme.Nonterminal a) k = (refl, λ i b. refl)
bare_none (Lexeme.Terminal a) k = (refl, λ i b. refl)
bare_none Lexeme.Open k = (refl, λ i b. refl)
bare_none Lexeme.Close k = (refl, λ i b. refl)
bare_none Lexeme.Bar k = (refl, λ i b. refl)
bare_none Lexeme.Maybe k = absurd (k.maybe refl)
bare_none (Lexeme.Plus m) k = absurd (k.plus m refl)
bare_none (Lexeme.Star m) k = absurd (k.star m refl)
bare_none (Lexeme.Marked m) k = absurd (k.marked m refl)
bare_none (Lexeme.Join m) k = (refl, λ i b. refl)
bare_none Lexeme.End k = (refl, λ i b. refl)
bare_none Lexeme.Not k = (refl, λ i b. refl)

-- new nonterminals after an item: none, one or two
pub heads_two : (l : Lexeme) → (heads_of l ≡ 0 → ⊥) → (heads_of l ≡ 1 → ⊥) → heads_of l ≡ 2
heads_two (Lexeme.Nonterminal a) p q = absurd (p refl)
heads_two (Lexeme.Terminal a) p q = absurd (p refl)
heads_two Lexeme.Open p q = absurd (p refl)
heads_two Lexeme.Close p q = absurd (p refl)
heads_two Lexeme.Bar p q = absurd (p refl)
heads_two Lexeme.Maybe p q = absurd (q refl)
heads_two (Lexeme.Plus m) p q = refl
heads_two (Lexeme.Star m) p q = refl
heads_two (Lexeme.Marked m) p q = absurd (q refl)
heads_two (Lexeme.Join m) p q = absurd (p refl)
heads_two Lexeme.End p q = absurd (p refl)
heads_two Lexeme.Not p q = absurd (p refl)

pub counts_by : (o p : Emit) (k j : ℕ) → k ≡ j → CountsOn o k p → CountsOn o j p
counts_by o p k j e d = subst (λ (i : ℕ). CountsOn o i p) e d
