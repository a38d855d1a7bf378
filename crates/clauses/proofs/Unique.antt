-- Two readings with the same tree are the same.
use mathlib.Core.Path.{◌≡◌, refl, sym, ◌∙◌, ap, subst}
use mathlib.Core.Logic.{◌⊎◌, inl, inr, ⊎_elim}
use Prim.Native.Nat.{ℕ, ◌+◌, ◌≤◌, ◌<◌}
use native.Mathlib.Omega.{arith}
use Rattle.grammar.specs.declared.BinaryMark.{BinaryMark}
use Rattle.grammar.specs.declared.Token.{Token}
use Rattle.grammar.specs.Trees.{Rules, Tree, empty, leaf, unary, binary, root}
use Rattle.clauses.specs.Clauses as C
use Rattle.clauses.specs.Clauses.{Sort, item, made, alternatives, AtLeast, from_one, Expr}
use Rattle.clauses.specs.Clauses.{nonterminal, a_part, terminal, group, mark, pair, optional}
use Rattle.clauses.specs.Clauses.{repeated, only, or, Clauses}
use Rattle.clauses.specs.Readings.{ClausePlace, here, later, left, right, ClauseReading}
use Rattle.clauses.specs.Readings.{clause, itself, a_token, within, marked, both, present}
use Rattle.clauses.specs.Readings.{absent, nothing, first, more, sole, this, other}
use Rattle.clauses.specs.Expansion.{size, name}
use Rattle.clauses.proofs.Bounds.{Under, start}
use Rattle.clauses.proofs.Placed.{Placed, in_part, in_only, in_group, in_mark, in_optional}
use Rattle.clauses.proofs.Placed.{in_repeated, in_first, in_second, in_this, in_other}
use Rattle.clauses.proofs.Lines.{start_from, made_grows, among_range}
use Rattle.clauses.proofs.Forward.{tree, root_made, root_item, root_among, Expands, at}
use native.Mathlib.Nat.{ℕ_set}

-- lines have numbers of their own
pub same_place : {c : Clauses} (p q : ClausePlace c) (n k : ℕ) → start p n ≤ k
    → k < start p n + size (right p) → start q n ≤ k → k < start q n + size (right q) → p ≡ q
same_place here here n k a b d f = refl
same_place (here {e = e}) (later q) n k a b d f = let z = start_from q (n + size e) in
    absurd (omega arith)
same_place (later {e = e} p) here n k a b d f = let z = start_from p (n + size e) in
    absurd (omega arith)
same_place (later {e = e} p) (later q) n k a b d f =
    ap later (same_place p q (n + size e) k a b d f)

-- an item of a repeat is not its fresh C
pub not_fresh : (N n : ℕ) (e : Expr item) → Under N e → N ≤ n → name e (n + 2) ≡ n + 1 → ⊥
not_fresh N n (nonterminal L) u h q = omega arith
not_fresh N n (a_part e) u h q = omega arith

below : {L K : ℕ} {s t : Tree} → unary L s ≡ unary K t → s ≡ t
below e = cc

sides : {L K : ℕ} {s t u v : Tree} → binary L s u ≡ binary K t v → (s ≡ t) × (u ≡ v)
sides e = (cc, cc)

tokens : {L K : ℕ} {t u : Token} → leaf L t ≡ leaf K u → t ≡ u
tokens e = cc

abbrev shape : Tree → ℕ
shape (empty L) = 0
shape (leaf L t) = 1
shape (unary L t) = 2
shape (binary L s t) = 3

token_same : {c : Clauses} {a : ℕ} (t u : Token) (h : t.terminal ≡ a) (k : u.terminal ≡ a) → t ≡ u
    → ◌≡◌ {A = ClauseReading c made (terminal a)} (a_token t h) (a_token u k)
token_same {c} {a} t u h k e =
    (subst (λ (v : Token). (l : v.terminal ≡ a)
    → ◌≡◌ {A = ClauseReading c made (terminal a)} (a_token t h) (a_token v l)) e
    (λ l. ap (λ (z : t.terminal ≡ a). a_token t z) (ℕ_set _ _ h l))) k

-- what a reading is, by its expression
abbrev View : {c : Clauses} {s : Sort} (e : Expr s) → ClauseReading c s e → Type 0
View {c} (nonterminal L) v = (p : ClausePlace c) × (h : left p ≡ L)
    × (u : ClauseReading c alternatives (right p)) × (v ≡ clause p h u)
View {c} (a_part e) v = (u : ClauseReading c made e) × (v ≡ itself u)
View {c} (terminal a) v = (t : Token) × (h : t.terminal ≡ a) × (v ≡ a_token t h)
View {c} (group e) v = (u : ClauseReading c alternatives e) × (v ≡ within u)
View {c} (mark m e) v = (u : ClauseReading c item e) × (v ≡ marked u)
View {c} (pair m e f) v =
    (u : ClauseReading c item e) × (w : ClauseReading c item f) × (v ≡ both u w)
View {c} (optional e) v = ((u : ClauseReading c item e) × (v ≡ present u)) ⊎ (v ≡ absent)
View {c} (repeated from_one m e) v = ((u : ClauseReading c item e) × (v ≡ first u))
    ⊎ ((u : ClauseReading c made (repeated from_one m e)) × (w : ClauseReading c item e)
    × (v ≡ more u w))
View {c} (repeated C.from_zero m e) v = (v ≡ nothing)
    ⊎ ((u : ClauseReading c made (repeated C.from_zero m e)) × (w : ClauseReading c item e)
    × (v ≡ more u w))
View {c} (only e) v = (u : ClauseReading c made e) × (v ≡ sole u)
View {c} (or e f) v = ((u : ClauseReading c made e) × (v ≡ this u))
    ⊎ ((u : ClauseReading c alternatives f) × (v ≡ other u))

view : {c : Clauses} {s : Sort} {e : Expr s} (v : ClauseReading c s e) → View e v
view (clause p h u) = (p, h, u, refl)
view (itself u) = (u, refl)
view (a_token t h) = (t, h, refl)
view (within u) = (u, refl)
view (marked u) = (u, refl)
view (both u w) = (u, w, refl)
view (present u) = inl (u, refl)
view absent = inr refl
view nothing = inl refl
view (first u) = inl (u, refl)
view (more {q = from_one} u w) = inr (u, w, refl)
view (more {q = C.from_zero} u w) = inr (u, w, refl)
view (sole u) = (u, refl)
view (this u) = inl (u, refl)
view (other u) = inr (u, refl)

apart : {s t : Tree} → s ≡ t → (shape s ≡ shape t → ⊥) → ⊥
apart e f = f (ap shape e)

more_same : {c : Clauses} {q : AtLeast} {m : BinaryMark} {e : Expr item}
    {r v : ClauseReading c made (repeated q m e)} {s u : ClauseReading c item e} → r ≡ v
    → s ≡ u → ◌≡◌ {A = ClauseReading c made (repeated q m e)} (more r s) (more v u)
more_same a b = λ j. more (a j) (b j)

-- alternatives have numbers of their own
other_side : {c : Clauses} (N n : ℕ) (e : Expr made) (f : Expr alternatives)
    (r : ClauseReading c made e) (v : ClauseReading c alternatives f)
    → tree N n r ≡ tree N (n + size e) v → ⊥
other_side N n e f r v d =
    let a = among_range f (n + size e) _ (root_among N (n + size e) v) in let b = root_made N n r in
    let z = ap root d in let w = made_grows e in omega arith

module _ {c : Clauses} {N : ℕ} {g : Rules} (x : Expands c N g) where
  line_same : {L : ℕ} (p q : ClausePlace c) (h : left p ≡ L) (k : left q ≡ L)
      (r : ClauseReading c alternatives (right p)) (s : ClauseReading c alternatives (right q))
      → ((v : ClauseReading c alternatives (right p)) → tree N (start p N) r ≡ tree N (start p N) v
      → r ≡ v) → tree N (start p N) r ≡ tree N (start q N) s
      → ◌≡◌ {A = ClauseReading c item (nonterminal L)} (clause p h r) (clause q k s)
  line_same {L} p q h k r s ih e =
      (subst F pq (λ l v d i. clause p (ℕ_set _ _ h l i) (ih v d i))) k s e
    where
      F : ClausePlace c → Type 0
      F y =
          (l : left y ≡ L) (v : ClauseReading c alternatives (right y))
          → tree N (start p N) r ≡ tree N
          (start y N) v → ◌≡◌ {A = ClauseReading c item (nonterminal L)} (clause p h r)
          (clause y l v)

      pq : p ≡ q
      pq =
          let a = among_range (right p) (start p N) _ (root_among N (start p N) r) in
          let b = among_range (right q) (start q N) _ (root_among N (start q N) s) in
          let z = ap root e in
          same_place p q N (root (tree N (start p N) r)) a.0 a.1 (omega arith) (omega arith)

  pub unique : {s : Sort} {e : Expr s} (n : ℕ) (r v : ClauseReading c s e) → Placed N g e n
      → tree N n r ≡ tree N n v → r ≡ v
  unique n (clause {A = L} p h r) v i d =
      let w = view v in line_same p w.0 h w.1 r w.2
      (λ u z. unique (start p N) r u (at x p) z) (below (d ∙ ap (tree N n) w.3)) ∙ sym w.3
  unique n (itself r) v i d = let w = view v in
      ap itself (unique n r w.0 (in_part i) (d ∙ ap (tree N n) w.1)) ∙ sym w.1
  unique n (a_token t h) v i d = let w = view v in
      token_same t w.0 h w.1 (tokens (d ∙ ap (tree N n) w.2)) ∙ sym w.2
  unique n (within r) v i d = let w = view v in
      ap within (unique (n + 1) r w.0 (in_group i) (below (d ∙ ap (tree N n) w.1)))
      ∙ sym w.1
  unique n (marked r) v i d = let w = view v in
      ap marked (unique (n + 1) r w.0 (in_mark i) (below (d ∙ ap (tree N n) w.1)))
      ∙ sym w.1
  unique n (both {e = e} r s) v i d =
      let w = view v in
      let z = sides (d ∙ ap (tree N n) w.2) in
      let a = unique (n + 1) r w.0 (in_first i) z.0 in
      let b = unique (n + 1 + size e) s w.1 (in_second i) z.1 in
      (λ j. both (a j) (b j)) ∙ sym w.2
  unique n (present r) v i d =
      ⊎_elim (λ w. ap present (unique (n + 1) r w.0 (in_optional i)
      (below (d ∙ ap (tree N n) w.1))) ∙ sym w.1)
      (λ w. absurd (apart (d ∙ ap (tree N n) w) (λ z. omega arith))) (view v)
  unique n absent v i d = ⊎_elim (λ w. absurd (apart (d ∙ ap (tree N n) w.1) (λ z. omega arith)))
      (λ w. sym w) (view v)
  unique n nothing v i d = ⊎_elim (λ w. sym w)
      (λ w. absurd (apart (d ∙ ap (tree N n) w.2) (λ z. omega arith))) (view v)
  unique n (first {e = e} r) v i d =
      ⊎_elim (λ w. ap first (unique (n + 2) r w.0 (in_repeated i)
      (below (d ∙ ap (tree N n) w.1))) ∙ sym w.1)
      (λ w. absurd (not_fresh N n e i.under i.above
      (sym (root_item N (n + 2) r) ∙ ap root (below (d ∙ ap (tree N n) w.2))))) (view v)
  unique n (more {q = from_one} {e = e} r s) v i d =
      ⊎_elim (λ w. absurd (not_fresh N n e i.under i.above
      (sym (root_item N (n + 2) w.0) ∙ sym (ap root (below (d ∙ ap (tree N n) w.1))))))
      (λ w. more_same (unique n r w.0 i (sides (below (d ∙ ap (tree N n) w.2))).0)
      (unique (n + 2) s w.1 (in_repeated i) (sides (below (d ∙ ap (tree N n) w.2))).1)
      ∙ sym w.2) (view v)
  unique n (more {q = C.from_zero} {e = e} r s) v i d =
      ⊎_elim (λ w. absurd (apart (d ∙ ap (tree N n) w) (λ z. omega arith)))
      (λ w. more_same (unique n r w.0 i (sides (below (d ∙ ap (tree N n) w.2))).0)
      (unique (n + 2) s w.1 (in_repeated i) (sides (below (d ∙ ap (tree N n) w.2))).1)
      ∙ sym w.2) (view v)
  unique n (sole r) v i d = let w = view v in
      ap sole (unique n r w.0 (in_only i) (d ∙ ap (tree N n) w.1)) ∙ sym w.1
  unique n (this {e = e} {f = f} r) v i d =
      ⊎_elim (λ w. ap this (unique n r w.0 (in_this i) (d ∙ ap (tree N n) w.1)) ∙ sym w.1)
      (λ w. absurd (other_side N n e f r w.0 (d ∙ ap (tree N n) w.1))) (view v)
  unique n (other {e = e} {f = f} r) v i d =
      ⊎_elim (λ w. absurd (other_side N n e f w.0 r (sym (d ∙ ap (tree N n) w.1))))
      (λ w. ap other (unique (n + size e) r w.0 (in_other i) (d ∙ ap (tree N n) w.1))
      ∙ sym w.1) (view v)
