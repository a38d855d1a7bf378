-- All valid trees whose words stand in a given word, as a list that antt computes.
-- `step` puts each rule once on top of the trees in hand. Where a step brings nothing new, the list
-- has every valid tree (`complete`).
use mathlib.Core.Path.{◌≡◌, refl, subst}
use mathlib.Core.List.{List, [], ◌∷◌, ◌++◌, Memᴰ}
use Prim.Native.Nat.{ℕ}
use Rattle.grammar.specs.declared.UnaryMark.{UnaryMark}
use Rattle.grammar.specs.declared.BinaryMark.{BinaryMark}
use Rattle.grammar.specs.declared.Rule.{Rule}
use Rattle.grammar.specs.declared.Clause.{Clause}
use Rattle.grammar.specs.declared.Clause.TheVariants.{Empty, Atom, Unary, Binary}
use Rattle.grammar.specs.Layout.{Word, Every}
use Rattle.grammar.specs.Trees.{Tree, Tree-discrete, empty, leaf, unary, binary, root, word, Rules}
use Rattle.grammar.specs.Trees.{Covers, HasUnary, HasBinary, Valid, valid_empty, valid_leaf}
use Rattle.grammar.specs.Trees.{valid_unary, valid_binary}
use Rattle.grammar.proofs.Lists.{eq?, le?, both?, map?, keep, collect, every_keep, mem_keep}
use Rattle.grammar.proofs.Lists.{every_collect, mem_collect, mem_every}
use Rattle.grammar.proofs.Marks.{unary?, binary?, token?}
use Rattle.worked_examples.proofs.Infixes.{within?, within, Infix, infix_left, infix_right}
use Rattle.worked_examples.proofs.Infixes.{infix_mem}

abbrev pub tree? : Discrete Tree
tree? = Tree-discrete eq? token?

-- the trees that one rule makes of the tokens of w, of a tree, of two trees
abbrev pub covers? : (a b x : ℕ) → Dec (Covers a b x)
covers? a b x = map? (both? (le? a x) (le? x b)) (λ p. record { low = p.0; high = p.1 })
    (λ h. (h.low, h.high))

abbrev pub leaves : Word → ℕ → ℕ → ℕ → List Tree
leaves w A a b = collect (λ t. keep (covers? a b t.terminal) (leaf A t ∷ [])) w

abbrev pub over : ℕ → ℕ → UnaryMark → Tree → List Tree
over A B m t = let r = keep (unary? m (word t)) (unary A t ∷ []) in keep (eq? B (root t)) r

abbrev pub pair : Word → ℕ → ℕ → BinaryMark → Tree → Tree → List Tree
pair w A D m s t =
    let q = keep (binary? m (word s) (word t)) (binary A s t ∷ []) in
    let r = keep (within? (word s ++ word t) w) q in
    keep (eq? D (root t)) r

abbrev pub pairs_of : Word → List Tree → ℕ → ℕ → ℕ → BinaryMark → Tree → List Tree
pairs_of w C A B D m s = let r = collect (pair w A D m s) C in keep (eq? B (root s)) r

abbrev pub by : Word → List Tree → ℕ → Clause → List Tree
by w C A Empty = empty A ∷ []
by w C A (Atom a b) = leaves w A a b
by w C A (Unary B m) = collect (over A B m) C
by w C A (Binary B D m) = collect (pairs_of w C A B D m) C

abbrev pub rule : Word → List Tree → Rule → List Tree
rule w C r = by w C r.left r.clause

abbrev pub step : Rules → Word → List Tree → List Tree
step g w C = collect (rule w C) g

-- what a step makes of valid trees is valid
by_sound : (g : Rules) (w : Word) (C : List Tree) → Every (Valid g) C → (A : ℕ) (c : Clause)
    → Memᴰ (record { left = A; clause = c }) g → Every (Valid g) (by w C A c)
by_sound g w C v A Empty h = (valid_empty h, tt)
by_sound g w C v A (Atom a b) h =
    every_collect (Valid g) _ w (λ t m. every_keep (Valid g) (covers? a b t.terminal) _
    (λ e. (valid_leaf (record { low = a; high = b; rule = h; covers = e }), tt)))
by_sound g w C v A (Unary B m) h =
    every_collect (Valid g) _ C
    (λ t i. every_keep (Valid g) (eq? B (root t)) _
    (λ e. every_keep (Valid g) (unary? m (word t)) _
    (λ μ. (
      valid_unary m (subst (λ (x : ℕ). HasUnary g A x m) e h) μ (mem_every (Valid g) C v i),
      tt,
    ))))
by_sound g w C v A (Binary B D m) h =
    every_collect (Valid g) _ C
    (λ s i. every_keep (Valid g) (eq? B (root s)) _
    (λ e. every_collect (Valid g) _ C
    (λ t j. every_keep (Valid g) (eq? D (root t)) _
    (λ f. every_keep (Valid g) (within? (word s ++ word t) w) _
    (λ n. every_keep (Valid g) (binary? m (word s) (word t)) _
    (λ μ. (
      valid_binary m (subst (λ (x : ℕ). HasBinary g A x (root t) m) e
          (subst (λ (x : ℕ). HasBinary g A B x m) f h)) μ (mem_every (Valid g) C v i)
          (mem_every (Valid g) C v j),
      tt,
    )))))))

pub step_sound : (g : Rules) (w : Word) (C : List Tree) → Every (Valid g) C
    → Every (Valid g) (step g w C)
step_sound g w C v =
    every_collect (Valid g) (rule w C) g (λ r m. by_sound g w C v r.left r.clause m)

-- where a step brings nothing new, every valid tree whose word stands in w is there
pub complete : (g : Rules) (w : Word) (C : List Tree) → step g w C ≡ C → (t : Tree) → Valid g t
    → Infix (word t) w → Memᴰ t C
complete g w C same (empty A) (valid_empty h) i =
    subst (λ (l : List Tree). Memᴰ (empty A) l) same
    (mem_collect (rule w C) g h (Memᴰ.head refl))
complete g w C same (leaf A t) (valid_leaf h) i =
    subst (λ (l : List Tree). Memᴰ (leaf A t) l) same
    (mem_collect (rule w C) g h.rule
    (mem_collect _ w (infix_mem i) (mem_keep (covers? h.low h.high t.terminal) h.covers
    (Memᴰ.head refl))))
complete g w C same (unary A t) (valid_unary m h μ v) i =
    subst (λ (l : List Tree). Memᴰ (unary A t) l) same
    (mem_collect (rule w C) g h
    (mem_collect _ C (complete g w C same t v i)
    (mem_keep (eq? (root t) (root t)) refl (mem_keep (unary? m (word t)) μ (Memᴰ.head refl)))))
complete g w C same (binary A s t) (valid_binary m h μ v u) i =
    subst (λ (l : List Tree). Memᴰ (binary A s t) l) same
    (mem_collect (rule w C) g h
    (mem_collect (pairs_of w C A (root s) (root t) m) C
    (complete g w C same s v (infix_left (word s) (word t) i))
    (mem_keep (eq? (root s) (root s)) refl
    (mem_collect (pair w A (root t) m s) C
    (complete g w C same t u (infix_right (word s) (word t) i))
    (mem_keep (eq? (root t) (root t)) refl
    (mem_keep (within? (word s ++ word t) w) (within i)
    (mem_keep (binary? m (word s) (word t)) μ (Memᴰ.head refl))))))))
