-- A node of a valid tree of 0 stands there, its word keeps a mark that it inherits, and its first
-- terminal is one that can begin.
use mathlib.Core.Path.{◌≡◌, refl, sym, ap, subst}
use mathlib.Core.Logic.{◌⊎◌, inl, inr, ⊎_elim}
use mathlib.Core.List.{[], ◌∷◌, ◌++◌}
use Prim.Native.Nat.{ℕ, ◌+◌, ◌≤◌}
use native.Mathlib.Omega.{arith}
use lib.ListN.{length, length-append}
use Rattle.grammar.specs.declared.Token.{Token}
use Rattle.grammar.specs.declared.UnaryMark.{UnaryMark}
use Rattle.grammar.specs.declared.BinaryMark.{BinaryMark}
use Rattle.grammar.specs.Layout.{Word, Every, Keeps, line}
use Rattle.grammar.specs.Layout as Mark
use Rattle.grammar.specs.Trees.{Tree, binary, unary, root, word, Rules, HasUnary, HasBinary}
use Rattle.grammar.specs.Trees.{Valid, valid_empty, valid_leaf, valid_unary, valid_binary}
use Rattle.grammar.specs.Cycles.{Nullable}
use Rattle.marks.specs.Half.{token_at}
use Rattle.pairs.specs.Survey.{Productive, by_atom, by_unary, by_both, by_first, by_second}
use Rattle.pairs.specs.Survey.{HasWord}
use Rattle.pairs.specs.Survey.{Occurs, in_unary, in_first, in_second, CanBegin, with_atom}
use Rattle.pairs.specs.Survey.{with_unary}
use Rattle.pairs.specs.Survey.{with_first, with_second, stronger, onward_mark, Inherits}
use Rattle.pairs.specs.Survey.{from_unary}
use Rattle.pairs.specs.Survey.{to_first, to_only, to_second}
use Rattle.pairs.proofs.Every.{every_map, every_all, every_front, every_rest}

-- 1. marks of words and their parts

pub no_mark : (v : Word) → Mark.Unary UnaryMark.None v
no_mark [] = tt
no_mark (a ∷ v) = every_all (λ t. tt) v

stronger_one : (l m : UnaryMark) → (stronger l m ≡ l) ⊎ (stronger l m ≡ m)
stronger_one UnaryMark.None m = inr refl
stronger_one UnaryMark.Offalign UnaryMark.None = inl refl
stronger_one UnaryMark.Offalign UnaryMark.Offalign = inl refl
stronger_one UnaryMark.Offalign UnaryMark.Offside = inr refl
stronger_one UnaryMark.Offalign UnaryMark.Single = inr refl
stronger_one UnaryMark.Offside UnaryMark.None = inl refl
stronger_one UnaryMark.Offside UnaryMark.Offalign = inl refl
stronger_one UnaryMark.Offside UnaryMark.Offside = inl refl
stronger_one UnaryMark.Offside UnaryMark.Single = inr refl
stronger_one UnaryMark.Single m = inl refl

stronger_keeps : (l m : UnaryMark) (v : Word) → Mark.Unary l v → Mark.Unary m v
    → Mark.Unary (stronger l m) v
stronger_keeps l m v x y =
    ⊎_elim (λ e. subst (λ (k : UnaryMark). Mark.Unary k v) (sym e) x)
    (λ e. subst (λ (k : UnaryMark). Mark.Unary k v) (sym e) y) (stronger_one l m)

front_unary : (m : UnaryMark) (u v : Word) → Mark.Unary m (u ++ v) → Mark.Unary m u
front_unary m [] v x = tt
front_unary m (a ∷ u) v x = every_front (Keeps m a) u v x

one_line : (a : Token) (v : Word) → Every (Keeps UnaryMark.Single a) v
    → Mark.Unary UnaryMark.Single v
one_line a [] x = tt
one_line a (b ∷ v) x =
    every_map (λ t (y : line t ≡ line a). let z : line b ≡ line a = x.0 in omega arith) v x.1

rest_single : (u v : Word) → Mark.Unary UnaryMark.Single (u ++ v) → Mark.Unary UnaryMark.Single v
rest_single [] v x = x
rest_single (a ∷ u) v x = one_line a v (every_rest (Keeps UnaryMark.Single a) u v x)

rest_unary : (l : UnaryMark) (u v : Word) → Mark.Unary l (u ++ v) → Mark.Unary (onward_mark l) v
rest_unary UnaryMark.None u v x = no_mark v
rest_unary UnaryMark.Offalign u v x = no_mark v
rest_unary UnaryMark.Offside u v x = no_mark v
rest_unary UnaryMark.Single u v x = rest_single u v x

module _ (g : Rules) where
  -- 2. a valid tree has no tokens, or its nonterminal is productive

  pub data Stock (t : Tree) : Type 0 where
    bare : word t ≡ [] → Stock t
    full : 1 ≤ length (word t) → Productive g (root t) → Stock t

  pub null_of : {t : Tree} → Valid g t → word t ≡ [] → Nullable g (root t)
  null_of {t} v e = record { tree = t; witness = record { rooted = refl; spelled = e; valid = v } }

  pub some_of : {t : Tree} → Valid g t → Stock t → HasWord g (root t)
  some_of v (bare e) = inl (null_of v e)
  some_of v (full h p) = inr p

  stock_binary : {A : ℕ} {r t : Tree} (m : BinaryMark) → HasBinary g A (root r) (root t) m
      → Valid g r → Valid g t → Stock r → Stock t → Stock (binary A r t)
  stock_binary {r = r} {t} m h x y (bare e) (bare f) = bare (rw (e, f) refl)
  stock_binary {r = r} {t} m h x y (bare e) (full f p) =
      full (rw e f) (by_second m h (null_of x e) p)
  stock_binary {r = r} {t} m h x y (full e p) (bare f) =
      full (simp length-append (omega arith)) (by_first m h p (null_of y f))
  stock_binary {r = r} {t} m h x y (full e p) (full f q) =
      full (simp length-append (omega arith)) (by_both m h p q)

  pub stock : {t : Tree} → Valid g t → Stock t
  stock (valid_empty h) = bare refl
  stock (valid_leaf h) = full (omega arith) (by_atom h)
  stock (valid_unary {A = A} {t = t} m h x v) = over (stock v)
    where
      over : Stock t → Stock (unary A t)
      over (bare e) = bare e
      over (full e p) = full e (by_unary m h p)
  stock (valid_binary m h x v v') = stock_binary m h v v' (stock v) (stock v')

  pub productive : {t : Tree} → Valid g t → 1 ≤ length (word t) → Productive g (root t)
  productive {t} v f = by (stock v)
    where
      by : Stock t → Productive g (root t)
      by (bare e) = absurd (omega (arith, ap length e))
      by (full e p) = p

  -- 3. its first terminal can begin

  first-of : (u v : Word) → 1 ≤ length u → token_at (u ++ v) 0 ≡ token_at u 0
  first-of [] v h = absurd (omega arith)
  first-of (a ∷ u) v h = refl

  begins_binary : {A : ℕ} {r t : Tree} (m : BinaryMark) → HasBinary g A (root r) (root t) m
      → Valid g r → Valid g t → Stock r → 1 ≤ length (word r ++ word t)
      → (1 ≤ length (word r) → CanBegin g (root r) (token_at (word r) 0).terminal)
      → (1 ≤ length (word t) → CanBegin g (root t) (token_at (word t) 0).terminal)
      → CanBegin g A (token_at (word r ++ word t) 0).terminal
  begins_binary {A} {r} {t} m h x y (bare e) n f k =
      subst (λ (z : Word). CanBegin g A (token_at (z ++ word t) 0).terminal) (sym e)
      (with_second m h (null_of x e) (k (rw e at n)))
  begins_binary {A} {r} {t} m h x y (full e p) n f k =
      subst (λ (z : Token). CanBegin g A z.terminal) (sym (first-of (word r) (word t) e))
      (with_first m h (f e) (some_of y (stock y)))

  pub begins : {t : Tree} → Valid g t → 1 ≤ length (word t)
      → CanBegin g (root t) (token_at (word t) 0).terminal
  begins (valid_empty h) n = absurd (omega arith)
  begins (valid_leaf h) n = with_atom h
  begins (valid_unary m h x v) n = with_unary m h (begins v n)
  begins (valid_binary m h x v v') n =
      begins_binary m h v v' (stock v) n (λ k. begins v k) (λ k. begins v' k)

  -- 4. nodes of a tree of 0

  -- the word keeps a mark that A inherits
  pub record Marked (A : ℕ) (v : Word) : Type 0 where
    pub mark : UnaryMark
    pub inherits : Inherits g A mark
    pub keeps : Mark.Unary mark v

  pub record Kept (A : ℕ) (v : Word) : Type 0 where
    pub occurs : Occurs g A
    pub marked : 1 ≤ length v → Marked A v

  pub kept_below : {A : ℕ} {t : Tree} (m : UnaryMark) → HasUnary g A (root t) m → Valid g t
      → Mark.Unary m (word t) → Kept A (word t) → Kept (root t) (word t)
  kept_below {A} {t} m h v x k =
      record {
        occurs = in_unary m h k.occurs (some_of v (stock v));
        marked = λ n.
            let q = k.marked n in
            record {
              mark = stronger q.mark m;
              inherits = from_unary m h q.inherits (productive v n);
              keeps = stronger_keeps q.mark m (word t) q.keeps x;
            };
      }

  module _ {A : ℕ} {r t : Tree} (m : BinaryMark) (h : HasBinary g A (root r) (root t) m)
      (v : Valid g r) (v' : Valid g t) (k : Kept A (word r ++ word t)) where
    long : length (word r ++ word t) ≡ length (word r) + length (word t)
    long = length-append (word r) (word t)

    pub kept_first : Kept (root r) (word r)
    kept_first =
        record {
          occurs = in_first m h k.occurs (some_of v (stock v)) (some_of v' (stock v'));
          marked = λ n.
              let q = k.marked (omega (arith, long)) in
              record {
                mark = q.mark;
                inherits = to_first m h q.inherits (productive v n) (some_of v' (stock v'));
                keeps = front_unary q.mark (word r) (word t) q.keeps;
              };
        }

    pub kept_second : Kept (root t) (word t)
    kept_second =
        record {
          occurs = in_second m h k.occurs (some_of v (stock v)) (some_of v' (stock v'));
          marked = λ n. by n (stock v);
        }
      where
        by : 1 ≤ length (word t) → Stock r → Marked (root t) (word t)
        by n (bare e) =
            let q = k.marked (omega (arith, long)) in
            record {
              mark = q.mark;
              inherits = to_only m h q.inherits (null_of v e) (productive v' n);
              keeps = subst (λ (z : Word). Mark.Unary q.mark (z ++ word t)) e q.keeps;
            }
        by n (full e p) =
            let q = k.marked (omega (arith, long)) in
            record {
              mark = onward_mark q.mark;
              inherits = to_second m h q.inherits p (productive v' n);
              keeps = rest_unary q.mark (word r) (word t) q.keeps;
            }
