-- `Possible` says what `CanHave` says, and a word with a valid tree has a possible length.
use mathlib.Core.Path.{◌≡◌, refl, sym, ◌∙◌, ap, ap₂}
use mathlib.Core.Logic.{⊎_elim}
use mathlib.Core.List.Memᴰ
use mathlib.Core.List.{[], ◌∷◌, Memᴰ}
use Prim.Native.Nat.{ℕ, ◌+◌}
use lib.ListN.{length, length-append}
use Rattle.sets.proofs.Basics.{clash}
use Rattle.grammar.proofs.Unmarked.{none_unary, none_binary}
use Rattle.grammar.specs.declared.Token.{Token}
use Rattle.grammar.specs.declared.Rule.{Rule}
use Rattle.grammar.specs.declared.Clause.{Clause}
use Rattle.grammar.specs.declared.UnaryMark.{UnaryMark}
use Rattle.grammar.specs.declared.BinaryMark.{BinaryMark}
use Rattle.grammar.specs.Layout.{Word, Every}
use Rattle.grammar.specs.Layout as Mark
use Rattle.grammar.specs.Trees.{Tree, empty, leaf, unary, binary, root, word, Rules, HasEmpty}
use Rattle.grammar.specs.Trees.{HasUnary, HasBinary, Valid, valid_empty, valid_leaf, valid_unary}
use Rattle.grammar.specs.Trees.{valid_binary, Derives}
use Rattle.lengths.specs.Lengths.{unmarked_clause, unmarked_rule, unmarked, CanHave}
use Rattle.lengths.specs.Passes.{Possible, by_empty, by_atom, by_unary, by_binary}

-- ---- a valid tree has a possible length

pub possible_tree : {g : Rules} {t : Tree} → Valid g t → Possible g (root t) (length (word t))
possible_tree (valid_empty m) = by_empty m
possible_tree (valid_leaf {t = t} m) = by_atom t.terminal m
possible_tree (valid_unary {t = t} k m h v) = by_unary (root t) k m (possible_tree v)
possible_tree (valid_binary {s = s} {t = t} k m h u v) = by_binary (root s) (root t)
    (length (word s)) (length (word t)) k m (possible_tree u) (possible_tree v)
    (length-append (word s) (word t))

pub possible_derives : {g : Rules} {A : ℕ} {w : Word} → Derives g A w → Possible g A (length w)
possible_derives {g} d =
    rw (d.witness.rooted, d.witness.spelled) at (possible_tree d.witness.valid)

-- ---- rules without their marks

unmarked_in : {r : Rule} {g : Rules} → Memᴰ r g → Memᴰ (unmarked_rule r) (unmarked g)
unmarked_in (Memᴰ.head e) = Memᴰ.head (ap unmarked_rule e)
unmarked_in (Memᴰ.tail m) = Memᴰ.tail (unmarked_in m)

-- a rule so read comes from one of the sheet
record From (g : Rules) (r : Rule) : Type 0 where
  pub rule : Rule
  pub there : Memᴰ rule g
  pub is : r ≡ unmarked_rule rule

unmarked_from : (g : Rules) {r : Rule} → Memᴰ r (unmarked g) → From g r
unmarked_from [] m = absurd (Memᴰ.not-nil m)
unmarked_from (x ∷ g) {r} m = ⊎_elim (λ e. record { rule = x; there = Memᴰ.head refl; is = e })
    (λ n. more (unmarked_from g n)) (Memᴰ.cases_cons m)
  where
    more : From g r → From (x ∷ g) r
    more f = record { rule = f.rule; there = Memᴰ.tail f.there; is = f.is }

from_empty : {g : Rules} {A : ℕ} (B : ℕ) (k : Clause)
    → Memᴰ (record { left = B; clause = k }) g → A ≡ B → Clause.Empty ≡ unmarked_clause k
    → HasEmpty g A
from_empty B Clause.Empty m e f = rw e m
from_empty B (Clause.Atom a b) m e f = absurd (clash cc)
from_empty B (Clause.Unary C n) m e f = absurd (clash cc)
from_empty B (Clause.Binary C D n) m e f = absurd (clash cc)

from_atom : {g : Rules} {A l h : ℕ} (B : ℕ) (k : Clause)
    → Memᴰ (record { left = B; clause = k }) g → A ≡ B → Clause.Atom l h ≡ unmarked_clause k
    → Memᴰ (record { left = A; clause = Clause.Atom l h }) g
from_atom B Clause.Empty m e f = absurd (clash cc)
from_atom {l = l} {h = h} B (Clause.Atom b c) m e f = let q : l ≡ b = cc in let p : h ≡ c = cc in
    rw (e, q, p) m
from_atom B (Clause.Unary C n) m e f = absurd (clash cc)
from_atom B (Clause.Binary C D n) m e f = absurd (clash cc)

from_unary : {g : Rules} {A : ℕ} {C : ℕ} {n : UnaryMark} (B : ℕ) (k : Clause)
    → Memᴰ (record { left = B; clause = k }) g → A ≡ B → Clause.Unary C n ≡ unmarked_clause k
    → (m : UnaryMark) × HasUnary g A C m
from_unary B Clause.Empty m e f = absurd (clash cc)
from_unary B (Clause.Atom a b) m e f = absurd (clash cc)
from_unary {C = C} B (Clause.Unary D n) m e f = let q : C ≡ D = cc in (n, rw (e, q) m)
from_unary B (Clause.Binary D E n) m e f = absurd (clash cc)

from_binary : {g : Rules} {A : ℕ} {C D : ℕ} {n : BinaryMark} (B : ℕ) (k : Clause)
    → Memᴰ (record { left = B; clause = k }) g → A ≡ B → Clause.Binary C D n ≡ unmarked_clause k
    → (m : BinaryMark) × HasBinary g A C D m
from_binary B Clause.Empty m e f = absurd (clash cc)
from_binary B (Clause.Atom a b) m e f = absurd (clash cc)
from_binary B (Clause.Unary D n) m e f = absurd (clash cc)
from_binary {C = C} {D = D} B (Clause.Binary E F n) m e f = let q : C ≡ E = cc in let p : D ≡ F =
    cc in (n, rw (e, q, p) m)

-- ---- from a tree under them

left_of : {g : Rules} {r : Rule} (f : From g r) → r.left ≡ f.rule.left
left_of f = ap (λ (x : Rule). x.left) f.is

clause_of : {g : Rules} {r : Rule} (f : From g r) → r.clause ≡ unmarked_clause f.rule.clause
clause_of f = ap (λ (x : Rule). x.clause) f.is

-- the mark none holds
any : (w : Word) (a : Token) → Every (Mark.Keeps UnaryMark.None a) w
any [] a = tt
any (t ∷ w) a = (tt, any w a)

-- a tree under the rules without their marks, of a word of n tokens
record Shown (g : Rules) (A n : ℕ) : Type 0 where
  pub tree : Tree
  pub rooted : root tree ≡ A
  pub size : length (word tree) ≡ n
  pub valid : Valid (unmarked g) tree

module _ {g : Rules} where
  unmarked_tree : {t : Tree} → Valid (unmarked g) t → Possible g (root t) (length (word t))
  unmarked_tree (valid_empty m) = let f = unmarked_from g m in
      by_empty (from_empty f.rule.left f.rule.clause f.there (left_of f) (clause_of f))
  unmarked_tree (valid_leaf {t = t} m) =
      let f = unmarked_from g m.rule in
      by_atom t.terminal (record {
        low = m.low;
        high = m.high;
        rule = from_atom f.rule.left
            f.rule.clause f.there (left_of f) (clause_of f);
        covers = m.covers;
      })
  unmarked_tree (valid_unary {t = t} k m h v) =
      let f = unmarked_from g m in
      let n = from_unary f.rule.left f.rule.clause f.there (left_of f) (clause_of f) in
      by_unary (root t) n.0 n.1 (unmarked_tree v)
  unmarked_tree (valid_binary {s = s} {t = t} k m h u v) =
      let f = unmarked_from g m in
      let n = from_binary f.rule.left f.rule.clause f.there (left_of f) (clause_of f) in
      by_binary (root s) (root t) (length (word s)) (length (word t)) n.0 n.1
      (unmarked_tree u) (unmarked_tree v) (length-append (word s) (word t))

  -- ---- and back to one

  shown : {A n : ℕ} → Possible g A n → Shown g A n
  shown (by_empty {A = A} m) =
      record { tree = empty A; rooted = refl; size = refl; valid = valid_empty (unmarked_in m) }
  shown (by_atom {A = A} a m) = record {
    tree = leaf A (record {
      terminal = a;
      line = record { 0 = 1 };
      column = record { 0 = 1 };
      width = record { 0 = 1 };
    });
    rooted = refl;
    size = refl;
    valid = valid_leaf
        (record {
          low = m.low;
          high = m.high;
          rule = unmarked_in m.rule;
          covers =
              m.covers;
        });
  }
  shown (by_unary {A = A} B k m p) =
      let s = shown p in
      record {
        tree = unary A s.tree;
        rooted = refl;
        size = s.size;
        valid = valid_unary {A = A} {t = s.tree} UnaryMark.None (rw s.rooted (unmarked_in m))
            (none_unary (word s.tree)) s.valid;
      }
  shown (by_binary {A = A} B C i j k m p q e) =
      let s = shown p in
      let t = shown q in
      record {
        tree = binary A s.tree t.tree;
        rooted = refl;
        size = length-append (word s.tree) (word t.tree) ∙ ap₂ ◌+◌ s.size t.size
            ∙ sym e;
        valid = valid_binary {A = A} {s = s.tree} {t = t.tree} BinaryMark.None
            (rw (s.rooted, t.rooted) (unmarked_in m))
            (none_binary (word s.tree) (word t.tree)) s.valid t.valid;
      }

  pub can_possible : {A n : ℕ} → CanHave g A n → Possible g A n
  can_possible {A} {n} c =
      let d = c.derives.witness in
      rw (d.rooted, d.spelled, c.size) at (unmarked_tree d.valid)

  pub possible_can : {A n : ℕ} → Possible g A n → CanHave g A n
  possible_can p = let s = shown p in
      record {
        word = word s.tree;
        size = s.size;
        derives = record {
          tree = s.tree;
          witness =
              record { rooted = s.rooted; spelled = refl; valid = s.valid };
        };
      }

-- the sweep may pass over the lengths that A cannot have
pub derives_can : {g : Rules} {A : ℕ} {w : Word} → Derives g A w → CanHave g A (length w)
derives_can d = possible_can (possible_derives d)
