-- Trees carry over from a word to its image under a map of tokens that keeps what the marks look
-- at.
use mathlib.Core.Path.{◌≡◌, refl, sym, ◌∙◌, ap}
use mathlib.Core.List.{[], ◌∷◌, ◌++◌, map, map-append, append_assoc, append-nil}
use mathlib.Core.Logic.{◌↔◌}
use Prim.Native.Nat.{ℕ, ◌+◌, ◌≤◌, ◌<◌}
use native.Mathlib.Omega.{arith}
use native.Mathlib.Decide.{dec_le}
use lib.ListN.{length, length-append, drop}
use lib.Seq.{drop_at}
use Rattle.grammar.specs.declared.Token.{Token}
use Rattle.grammar.specs.declared.UnaryMark.{UnaryMark}
use Rattle.grammar.specs.declared.BinaryMark.{BinaryMark}
use Rattle.grammar.specs.Layout.{Word, line, col, Every, last}
use Rattle.grammar.specs.Layout as Mark
use Rattle.grammar.specs.Trees.{Tree, empty, leaf, unary, binary, root, word, Rules, Valid}
use Rattle.grammar.specs.Trees.{valid_empty, valid_leaf, valid_unary, valid_binary, Witness}
use Rattle.grammar.specs.Trees.{TwoTrees, HasAtom}

-- the tree with each token replaced
abbrev pub relabel : (Token → Token) → Tree → Tree
relabel f (empty A) = empty A
relabel f (leaf A t) = leaf A (f t)
relabel f (unary A t) = unary A (relabel f t)
relabel f (binary A s t) = binary A (relabel f s) (relabel f t)

pub relabel_root : (f : Token → Token) (t : Tree) → root (relabel f t) ≡ root t
relabel_root f (empty A) = refl
relabel_root f (leaf A t) = refl
relabel_root f (unary A t) = refl
relabel_root f (binary A s t) = refl

pub relabel_word : (f : Token → Token) (t : Tree) → word (relabel f t) ≡ map f (word t)
relabel_word f (empty A) = refl
relabel_word f (leaf A t) = refl
relabel_word f (unary A t) = relabel_word f t
relabel_word f (binary A s t) =
    rw (relabel_word f s, relabel_word f t) (sym (map-append f (word s) (word t)))

-- the number of tokens
abbrev pub token_count : Tree → ℕ
token_count (empty A) = 0
token_count (leaf A t) = 1
token_count (unary A t) = token_count t
token_count (binary A s t) = token_count s + token_count t

-- the tree's shape, with the tokens of a word in its leaves
abbrev pub refill : Tree → Word → Tree
refill (empty A) w = empty A
refill (leaf A t) [] = empty A
refill (leaf A t) (x ∷ w) = leaf A x
refill (unary A t) w = unary A (refill t w)
refill (binary A s t) w = binary A (refill s w) (refill t (drop (token_count s) w))

relabel_size : (f : Token → Token) (t : Tree) → token_count (relabel f t) ≡ token_count t
relabel_size f (empty A) = refl
relabel_size f (leaf A t) = refl
relabel_size f (unary A t) = relabel_size f t
relabel_size f (binary A s t) = cc (relabel_size f s, relabel_size f t)

size_word : (t : Tree) → length (word t) ≡ token_count t
size_word (empty A) = refl
size_word (leaf A t) = refl
size_word (unary A t) = size_word t
size_word (binary A s t) = rw (length-append, size_word s, size_word t)

-- only the shape counts
refill_relabel : (f : Token → Token) (t : Tree) (w : Word) → refill (relabel f t) w ≡ refill t w
refill_relabel f (empty A) w = refl
refill_relabel f (leaf A t) [] = refl
refill_relabel f (leaf A t) (x ∷ w) = refl
refill_relabel f (unary A t) w = ap (unary A) (refill_relabel f t w)
refill_relabel f (binary A s t) w =
    rw (relabel_size f s, refill_relabel f s w, refill_relabel f t _)

refill_word : (t : Tree) (v : Word) → refill t (word t ++ v) ≡ t
refill_word (empty A) v = refl
refill_word (leaf A t) v = refl
refill_word (unary A t) v = ap (unary A) (refill_word t v)
refill_word (binary A s t) v =
    rw (
      append_assoc (word s) (word t) v,
      refill_word s (word t ++ v),
      drop_at (word s)
          (word t ++ v) (token_count s) (size_word s),
      refill_word t v,
    )

-- a tree is settled by its shape and its word
pub relabel_inj : (f : Token → Token) (s t : Tree) → relabel f s ≡ relabel f t → word s ≡ word t
    → s ≡ t
relabel_inj f s t e w =
    let a : refill s (word s) ≡ refill t (word t) =
    cc (refill_relabel f s (word s), refill_relabel f t (word t)) in
    let b : refill s (word s) ≡ s = rw append-nil at (refill_word s []) in
    let c : refill t (word t) ≡ t = rw append-nil at (refill_word t []) in
    sym b ∙ a ∙ c

-- ---- marks

module _ (P : Token → Type 0) where
  -- what holds of each token of a joined word holds of each of its parts
  pub every_left : (u v : Word) → Every P (u ++ v) → Every P u
  every_left [] v h = tt
  every_left (a ∷ u) v h = (h.0, every_left u v h.1)

  pub every_right : (u v : Word) → Every P (u ++ v) → Every P v
  every_right [] v h = h
  every_right (a ∷ u) v h = every_right u v h.1

  pub every_join : (u v : Word) → Every P u → Every P v → Every P (u ++ v)
  every_join [] v p q = q
  every_join (a ∷ u) v p q = (p.0, every_join u v p.1 q)

  every_last : (a : Token) (u : Word) → P a → Every P u → P (last a u)
  every_last a [] p h = p
  every_last a (b ∷ u) p h = every_last b u h.0 h.1

  pub every_over : (Q R : Token → Type 0) (f : Token → Token) → ((t : Token) → P t → Q t → R (f t))
      → (w : Word) → Every P w → Every Q w → Every R (map f w)
  every_over Q R f k [] p q = tt
  every_over Q R f k (a ∷ w) p q = (k a p.0 q.0, every_over Q R f k w p.1 q.1)

last_map : (f : Token → Token) (a : Token) (u : Word) → last (f a) (map f u) ≡ f (last a u)
last_map f a [] = refl
last_map f a (b ∷ u) = last_map f b u

-- of two tokens, f keeps what the marks look at: the orders of lines and of columns
pub record KeepsOrders (f : Token → Token) (a b : Token) : Type 0 where
  pub columns : (col a < col b) ↔ (col (f a) < col (f b))
  pub lines : (line a < line b) ↔ (line (f a) < line (f b))

-- f keeps that of any two tokens that have P, and the A rules that have a token's terminal have its
-- image's
pub record Alike (g : Rules) (P : Token → Type 0) (f : Token → Token) : Type 0 where
  pub atoms : (a : Token) → P a → (A : ℕ) → HasAtom g A a.terminal → HasAtom g A (f a).terminal
  pub keeps : (a b : Token) → P a → P b → KeepsOrders f a b

-- so it is where the terminal is the same
pub same_atoms : (g : Rules) (a b : Token) → b.terminal ≡ a.terminal → (A : ℕ)
    → HasAtom g A a.terminal → HasAtom g A b.terminal
same_atoms g a b e A r =
    record { low = r.low; high = r.high; rule = r.rule; covers = rw e r.covers }

module _ (g : Rules) (P : Token → Type 0) (f : Token → Token) (k : Alike g P f) where
  pub keeps_le : (a b : Token) → P a → P b → col a ≤ col b → col (f a) ≤ col (f b)
  keeps_le a b p q h = elim (dec_le (col (f a)) (col (f b))) [
    | yes l ↦ l
    | no n ↦ absurd (let c = (k.keeps b a q p).columns.1 (omega arith) in
        omega arith)
  ]

  pub keeps_col : (a b : Token) → P a → P b → col a ≡ col b → col (f a) ≡ col (f b)
  keeps_col a b p q h =
      omega (arith, keeps_le a b p q (omega arith), keeps_le b a q p (omega arith))

  pub keeps_line_le : (a b : Token) → P a → P b → line a ≤ line b → line (f a) ≤ line (f b)
  keeps_line_le a b p q h = elim (dec_le (line (f a)) (line (f b))) [
    | yes l ↦ l
    | no n ↦ absurd (let c = (k.keeps b a q p).lines.1 (omega arith) in omega arith)
  ]

  pub unary_keeps : (m : UnaryMark) (w : Word) → Every P w → Mark.Unary m w → Mark.Unary m (map f w)
  unary_keeps UnaryMark.None [] p h = tt
  unary_keeps UnaryMark.Offside [] p h = tt
  unary_keeps UnaryMark.Offalign [] p h = tt
  unary_keeps UnaryMark.Single [] p h = tt
  unary_keeps UnaryMark.None (a ∷ w) p h =
      every_over P (λ t. Unit {0}) (λ t. Unit {0}) f (λ t q g. tt) w p.1 h
  unary_keeps UnaryMark.Offside (a ∷ w) p h =
      every_over P (λ t. line a < line t → col a < col t)
      (λ t. line (f a) < line t → col (f a) < col t) f
      (λ t q g l. (k.keeps a t p.0 q).columns.0 (g ((k.keeps a t p.0 q).lines.1 l)))
      w p.1 h
  unary_keeps UnaryMark.Offalign (a ∷ w) p h =
      every_over P (λ t. line a < line t → col a ≤ col t)
      (λ t. line (f a) < line t → col (f a) ≤ col t) f
      (λ t q g l. keeps_le a t p.0 q (g ((k.keeps a t p.0 q).lines.1 l)))
      w p.1 h
  unary_keeps UnaryMark.Single (a ∷ w) p h =
      every_over P (λ t. line t ≡ line a) (λ t. line t ≡ line (f a)) f
      (λ t q g. omega (
        arith,
        keeps_line_le a t p.0 q (omega arith),
        keeps_line_le t a q p.0
            (omega arith),
      ))
      w p.1 h

  pub binary_keeps : (m : BinaryMark) (u v : Word) → Every P u → Every P v → Mark.Binary m u v
      → Mark.Binary m (map f u) (map f v)
  binary_keeps BinaryMark.None [] v p q h = tt
  binary_keeps BinaryMark.Align [] v p q h = tt
  binary_keeps BinaryMark.Indent [] v p q h = tt
  binary_keeps BinaryMark.None (a ∷ u) [] p q h = tt
  binary_keeps BinaryMark.Align (a ∷ u) [] p q h = tt
  binary_keeps BinaryMark.Indent (a ∷ u) [] p q h = tt
  binary_keeps BinaryMark.None (a ∷ u) (b ∷ v) p q h = tt
  binary_keeps BinaryMark.Align (a ∷ u) (b ∷ v) p q h = keeps_col a b p.0 q.0 h
  binary_keeps BinaryMark.Indent (a ∷ u) (b ∷ v) p q h = (
    (k.keeps a b p.0 q.0).columns.0 h.0,
    rw (last_map f a u) ((k.keeps (last a u) b (every_last P a u p.0 p.1) q.0).lines.0
        h.1),
  )

  pub valid_keeps : (t : Tree) → Every P (word t) → Valid g t → Valid g (relabel f t)
  valid_keeps (empty A) p (valid_empty r) = valid_empty r
  valid_keeps (leaf A t) p (valid_leaf r) = valid_leaf {A = A} {t = f t} (k.atoms t p.0 A r)
  valid_keeps (unary A t) p (valid_unary m r h v) =
      valid_unary {A = A} {t = relabel f t} m (rw relabel_root r)
      (rw relabel_word (unary_keeps m (word t) p h)) (valid_keeps t p v)
  valid_keeps (binary A s t) p (valid_binary m r h v w) =
      let ps = every_left P (word s) (word t) p in
      let pt = every_right P (word s) (word t) p in
      valid_binary {A = A} {s = relabel f s} {t = relabel f t} m
      (rw (relabel_root f s, relabel_root f t) r)
      (rw (relabel_word f s, relabel_word f t) (binary_keeps m (word s) (word t) ps pt h))
      (valid_keeps s ps v) (valid_keeps t pt w)

  pub witness_keeps : (A : ℕ) (w : Word) (t : Tree) → Every P w → Witness g A w t
      → Witness g A (map f w) (relabel f t)
  witness_keeps A w t p h = record {
    rooted = relabel_root f t ∙ h.rooted;
    spelled = relabel_word f t ∙ ap (map f) h.spelled;
    valid = valid_keeps t (rw h.spelled p) h.valid;
  }

  pub two_keeps : (A : ℕ) (w : Word) → Every P w → TwoTrees g A w → TwoTrees g A (map f w)
  two_keeps A w p h = record {
    first = relabel f h.first;
    second = relabel f h.second;
    witness₁ = witness_keeps A w h.first p h.witness₁;
    witness₂ = witness_keeps A w h.second p h.witness₂;
    differ = λ e. h.differ (relabel_inj f h.first h.second e
        (h.witness₁.spelled ∙ sym h.witness₂.spelled));
  }
