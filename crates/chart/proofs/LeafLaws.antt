-- The pair of a single token: trees over one token carry over to any token with its terminal, so
-- its pair is its terminal's.
use mathlib.Core.Path.{◌≡◌, refl, sym, ap, ◌∙◌, subst}
use mathlib.Core.List.{List, [], ◌∷◌}
use Prim.Native.Nat.{ℕ, ◌≤◌, ◌<◌}
use native.Mathlib.Omega.{arith}
use lib.ListN.{length}
use Rattle.sets.specs.Sets.{In}
use Rattle.grammar.specs.declared.Token.{Token}
use Rattle.grammar.specs.Layout.{Word, line, col}
use Rattle.grammar.specs.Trees.{Rules, Derives, TwoTrees}
use Rattle.grammar.specs.SpanSheet.{part, first_word, second_word}
use Rattle.grammar.proofs.Transfer.{Alike, relabel, same_atoms, witness_keeps, two_keeps}
use Rattle.marks.specs.Half.{token_at}
use Rattle.marks.proofs.Words.{one_token}
use Rattle.chart.specs.Leaves.{Leaf, Allows, LeafAt, May}
use Rattle.chart.specs.Sheets.{Exact}

module _ (g : Rules) (t u : Token) (e : u.terminal ≡ t.terminal) where
  -- all tokens of the one are moved to the other
  moves : Alike g (λ a. a ≡ t) (λ a. u)
  moves = record {
    atoms = λ a p A r. same_atoms g a u (e ∙ ap (λ (x : Token). x.terminal) (sym p)) A r;
    keeps = λ a b p q.
        let c : col a ≡ col b = ap col (p ∙ sym q) in
        let l : line a ≡ line b = ap line (p ∙ sym q) in
        record {
          columns = (λ h. absurd (omega arith), λ h. absurd (omega arith));
          lines =
              (λ h. absurd (omega arith), λ h. absurd (omega arith));
        };
  }

  leaf_derives : (A : ℕ) → Derives g A (t ∷ []) → Derives g A (u ∷ [])
  leaf_derives A d = record {
    tree = relabel (λ a. u) d.tree;
    witness = witness_keeps g
        (λ a. a ≡ t) (λ a. u) moves A (t ∷ []) d.tree (refl, tt) d.witness;
  }

  leaf_two : (A : ℕ) → TwoTrees g A (t ∷ []) → TwoTrees g A (u ∷ [])
  leaf_two A d = two_keeps g (λ a. a ≡ t) (λ a. u) moves A (t ∷ []) (refl, tt) d

-- a terminal's pair allows for it
pub leaf_allows : {g : Rules} {x one two : ℕ} → Leaf g x one two → Allows g x one two
leaf_allows l = record { one = λ t e A. (l.one t e A).1; two = λ t e A. (l.two t e A).1 }

-- what is right of one token is right of its terminal
pub exact_leaf : {g : Rules} {w : Word} {n to : ℕ} {ws : List ℕ} (i : ℕ) → i < to → to ≤ length w
    → Exact g w n ws to → LeafAt g n ws i (token_at w i).terminal
exact_leaf {g} {w} {n} {to} {ws} i l far x = record {
  one = λ t e A. let q = x.one i 1 A (omega arith) in (
    λ m. leaf_derives g (token_at w i) t e A (subst (Derives g A) at (q.0 m)),
    λ d. q.1
        (subst (Derives g A) (sym at) (leaf_derives g t (token_at w i) (sym e) A d)),
  );
  two = λ t e A. let q = x.two i 1 A (omega arith) in (
    λ m. leaf_two g (token_at w i) t e A (subst (TwoTrees g A) at (q.0 m)),
    λ d. q.1
        (subst (TwoTrees g A) (sym at) (leaf_two g t (token_at w i) (sym e) A d)),
  );
}
  where
    at : part w i 1 ≡ token_at w i ∷ []
    at = one_token w i (omega arith)

-- and the other way round
module _ (g : Rules) (w : Word) (n : ℕ) (ws : List ℕ) (i : ℕ) (h : i < length w) where
  at : part w i 1 ≡ token_at w i ∷ []
  at = one_token w i (omega arith)

  pub leaf_one : LeafAt g n ws i (token_at w i).terminal → (A : ℕ) → In (first_word ws n i 1) A
      → Derives g A (part w i 1)
  leaf_one l A m = subst (Derives g A) (sym at) ((l.one (token_at w i) refl A).0 m)

  pub leaf_more : LeafAt g n ws i (token_at w i).terminal → (A : ℕ) → In (second_word ws n i 1) A
      → TwoTrees g A (part w i 1)
  leaf_more l A m = subst (TwoTrees g A) (sym at) ((l.two (token_at w i) refl A).0 m)

  -- a token whose terminal is allowed for has its trees in its pair
  pub may_one : May g n ws i (token_at w i).terminal → (A : ℕ) → Derives g A (part w i 1)
      → In (first_word ws n i 1) A
  may_one m A d = m.one (token_at w i) refl A (subst (Derives g A) at d)

  pub may_two : May g n ws i (token_at w i).terminal → (A : ℕ) → TwoTrees g A (part w i 1)
      → In (second_word ws n i 1) A
  may_two m A d = m.two (token_at w i) refl A (subst (TwoTrees g A) at d)
