-- The tree of a reading.
use mathlib.Core.Path.{◌≡◌, refl}
use mathlib.Core.Logic.{inl, inr}
use mathlib.Core.List.Memᴰ
use mathlib.Core.List.{◌++◌, Memᴰ}
use Prim.Native.Nat.{ℕ, ◌+◌}
use native.Mathlib.Omega.{arith}
use Rattle.grammar.proofs.Unmarked.{none_unary}
use Rattle.grammar.specs.declared.Rule.{Rule}
use Rattle.grammar.specs.declared.UnaryMark.{UnaryMark}
use Rattle.grammar.specs.declared.BinaryMark.{BinaryMark}
use Rattle.grammar.specs.Layout.{Word}
use Rattle.grammar.specs.Layout as Mark
use Rattle.grammar.specs.Trees.{Rules, Covers, Tree, empty, leaf, unary, binary, root, word}
use Rattle.grammar.specs.Trees.{HasUnary, HasBinary, Valid, valid_empty, valid_leaf, valid_unary}
use Rattle.grammar.specs.Trees.{valid_binary}
use Rattle.clauses.specs.Clauses.{Sort, item, made, alternatives, Expr, Clauses}
use Rattle.clauses.specs.Readings.{ClausePlace, left, right, ClauseReading, clause, itself}
use Rattle.clauses.specs.Readings.{a_token, within, marked, both, present, absent, nothing}
use Rattle.clauses.specs.Readings.{first, more, sole, this, other, spells, MarksKept}
use Rattle.clauses.specs.Expansion.{U, B, size, name, alternative_rules, expr_rules}
use Rattle.clauses.specs.Expansion.{expand_from}
use Rattle.clauses.proofs.Bounds.{UnderAll, start, Among}
use Rattle.clauses.proofs.Placed.{Placed, in_part, in_only, in_group, in_mark, in_optional}
use Rattle.clauses.proofs.Placed.{in_repeated, in_first, in_second, in_this, in_other}
use Rattle.clauses.proofs.Lines.{placed, chosen, among_choices}

-- the tree of a reading of a part whose new nonterminals begin with n; N is the sheet's first
abbrev pub tree : {c : Clauses} {s : Sort} {e : Expr s} (N n : ℕ) → ClauseReading c s e → Tree
tree N n (clause {A = L} p h r) = unary L (tree N (start p N) r)
tree N n (itself r) = tree N n r
tree N n (a_token t h) = leaf n t
tree N n (within r) = unary n (tree N (n + 1) r)
tree N n (marked r) = unary n (tree N (n + 1) r)
tree N n (both {e = e} r s) = binary n (tree N (n + 1) r) (tree N (n + 1 + size e) s)
tree N n (present r) = unary n (tree N (n + 1) r)
tree N n absent = empty n
tree N n nothing = empty n
tree N n (first r) = unary n (tree N (n + 2) r)
tree N n (more r s) = unary n (binary (n + 1) (tree N n r) (tree N (n + 2) s))
tree N n (sole r) = tree N n r
tree N n (this r) = tree N n r
tree N n (other {e = e} r) = tree N (n + size e) r

pub tree_word : {c : Clauses} {s : Sort} {e : Expr s} (N n : ℕ) (r : ClauseReading c s e)
    → word (tree N n r) ≡ spells r
tree_word N n (clause p h r) = tree_word N (start p N) r
tree_word N n (itself r) = tree_word N n r
tree_word N n (a_token t h) = refl
tree_word N n (within r) = tree_word N (n + 1) r
tree_word N n (marked r) = tree_word N (n + 1) r
tree_word N n (both {e = e} r s) = let p = tree_word N (n + 1) r in let q =
    tree_word N (n + 1 + size e) s in λ i. p i ++ q i
tree_word N n (present r) = tree_word N (n + 1) r
tree_word N n absent = refl
tree_word N n nothing = refl
tree_word N n (first r) = tree_word N (n + 2) r
tree_word N n (more r s) = let p = tree_word N n r in let q = tree_word N (n + 2) s in
    λ i. p i ++ q i
tree_word N n (sole r) = tree_word N n r
tree_word N n (this r) = tree_word N n r
tree_word N n (other {e = e} r) = tree_word N (n + size e) r

pub root_made : {c : Clauses} {e : Expr made} (N n : ℕ) (r : ClauseReading c made e)
    → root (tree N n r) ≡ n
root_made N n (a_token t h) = refl
root_made N n (within r) = refl
root_made N n (marked r) = refl
root_made N n (both r s) = refl
root_made N n (present r) = refl
root_made N n absent = refl
root_made N n nothing = refl
root_made N n (first r) = refl
root_made N n (more r s) = refl

pub root_item : {c : Clauses} {e : Expr item} (N n : ℕ) (r : ClauseReading c item e)
    → root (tree N n r) ≡ name e n
root_item N n (clause p h r) = refl
root_item N n (itself r) = root_made N n r

pub root_among : {c : Clauses} {e : Expr alternatives} (N n : ℕ)
    (r : ClauseReading c alternatives e) → Among e n (root (tree N n r))
root_among N n (sole r) = root_made N n r
root_among N n (this r) = inl (root_made N n r)
root_among N n (other {e = e} r) = inr (root_among N (n + size e) r)

pub keeps_one : {w v : Word} (m : UnaryMark) → w ≡ v → Mark.Unary m v → Mark.Unary m w
keeps_one m e k = rw e k

pub keeps_two : {w v x y : Word} (m : BinaryMark) → w ≡ v → x ≡ y → Mark.Binary m v y
    → Mark.Binary m w x
keeps_two m e f k = rw (e, f) k

-- a unary node without a mark
over : {g : Rules} {L : ℕ} {t : Tree} → HasUnary g L (root t) UnaryMark.None → Valid g t
    → Valid g (unary L t)
over {t} h v = valid_unary UnaryMark.None h (none_unary (word t)) v

-- the grammar is the sheet's expansion
pub record Expands (c : Clauses) (N : ℕ) (g : Rules) : Type 0 where
  pub up : (r : Rule) → Memᴰ r (expand_from c N) → Memᴰ r g
  pub down : (r : Rule) → Memᴰ r g → Memᴰ r (expand_from c N)
  pub under : UnderAll N c

module _ {c : Clauses} {N : ℕ} {g : Rules} (x : Expands c N g) where
  pub at : (p : ClausePlace c) → Placed N g (right p) (start p N)
  at p = placed p N x.under (omega arith) x.up (λ r m h l. x.down r m)

  has_unary : {A B C : ℕ} {m : UnaryMark} → B ≡ C → Memᴰ (U A C m) g → HasUnary g A B m
  has_unary e h = rw e h

  has_binary : {K L P Q R : ℕ} {m : BinaryMark} → L ≡ P → Q ≡ R → Memᴰ (B K P R m) g
      → HasBinary g K L Q m
  has_binary e f h = rw (e, f) h

  pub valid : {s : Sort} {e : Expr s} (n : ℕ) (r : ClauseReading c s e) → Placed N g e n
      → MarksKept r → Valid g (tree N n r)
  valid n (clause {A = L} p h r) i k =
      let q : Memᴰ (U L (root (tree N (start p N) r)) UnaryMark.None)
      (alternative_rules (left p) (right p) (start p N)) = rw h
      (among_choices L (right p) (start p N) _ (root_among N (start p N) r)) in
      over (x.up _ (chosen p N q)) (valid (start p N) r (at p) k)
  valid n (itself r) i k = valid n r (in_part i) k
  valid n (a_token {a = a} t h) i k =
      let covers : Covers a a t.terminal = record { low = omega arith; high = omega arith } in
      valid_leaf (record { low = a; high = a; rule = i.up (Memᴰ.head refl); covers = covers })
  valid n (within {e = e} r) i k =
      over (i.up (Memᴰ.append_left (expr_rules e (n + 1))
      (among_choices n e (n + 1) _ (root_among N (n + 1) r)))) (valid (n + 1) r (in_group i) k)
  valid n (marked {m = m} r) i k =
      valid_unary m (has_unary (root_item N (n + 1) r) (i.up (Memᴰ.head refl)))
      (keeps_one m (tree_word N (n + 1) r) k.0) (valid (n + 1) r (in_mark i) k.1)
  valid n (both {m = m} {e = e} r s) i k =
      valid_binary m (has_binary (root_item N (n + 1) r) (root_item N (n + 1 + size e) s)
      (i.up (Memᴰ.head refl)))
      (keeps_two m (tree_word N (n + 1) r) (tree_word N (n + 1 + size e) s) k.0)
      (valid (n + 1) r (in_first i) k.1.0)
      (valid (n + 1 + size e) s (in_second i) k.1.1)
  valid n (present r) i k = over (has_unary (root_item N (n + 1) r) (i.up (Memᴰ.head refl)))
      (valid (n + 1) r (in_optional i) k)
  valid n absent i k = valid_empty (i.up (Memᴰ.tail (Memᴰ.head refl)))
  valid n nothing i k = valid_empty (i.up (Memᴰ.head refl))
  valid n (first r) i k = over (has_unary (root_item N (n + 2) r) (i.up (Memᴰ.head refl)))
      (valid (n + 2) r (in_repeated i) k)
  valid n (more {q = q} {m = m} {e = e} r s) i k =
      over (i.up (Memᴰ.tail (Memᴰ.head refl)))
      (valid_binary m (has_binary (root_made N n r) (root_item N (n + 2) s)
      (i.up (Memᴰ.tail (Memᴰ.tail (Memᴰ.head refl)))))
      (keeps_two m (tree_word N n r) (tree_word N (n + 2) s) k.0) (valid n r i k.1.0)
      (valid (n + 2) s (in_repeated i) k.1.1))
  valid n (sole r) i k = valid n r (in_only i) k
  valid n (this r) i k = valid n r (in_this i) k
  valid n (other {e = e} r) i k = valid (n + size e) r (in_other i) k
