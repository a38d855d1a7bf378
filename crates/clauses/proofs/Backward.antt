-- The reading of a valid tree.
use mathlib.Core.Path.{◌≡◌, sym, ◌∙◌, ap, subst}
use mathlib.Core.Logic.{inl, inr, ⊎_elim}
use mathlib.Core.List.{Memᴰ}
use Prim.Native.Nat.{ℕ, ◌+◌, ◌<◌}
use native.Mathlib.Omega.{arith}
use Rattle.grammar.specs.declared.Rule.{Rule}
use Rattle.grammar.specs.declared.Clause.{Clause}
use Rattle.grammar.specs.declared.UnaryMark.{UnaryMark}
use Rattle.grammar.specs.declared.BinaryMark.{BinaryMark}
use Rattle.grammar.specs.declared.Clause.TheVariants.{Empty, Atom, Unary, Binary}
use Rattle.grammar.specs.declared.Token.{Token}
use Rattle.grammar.specs.Layout as Mark
use Rattle.grammar.specs.Trees.{Rules, Covers, Tree, empty, leaf, unary, binary, root, word, Valid}
use Rattle.grammar.specs.Trees.{valid_empty, valid_leaf, valid_unary, valid_binary}
use Rattle.clauses.specs.Clauses as C
use Rattle.clauses.specs.Clauses.{Sort, item, made, alternatives, AtLeast, from_one, Expr}
use Rattle.clauses.specs.Clauses.{nonterminal, a_part, terminal, group, mark, pair, optional}
use Rattle.clauses.specs.Clauses.{repeated, only, or, Clauses}
use Rattle.clauses.specs.Readings.{ClausePlace, left, right, ClauseReading, clause, itself}
use Rattle.clauses.specs.Readings.{a_token, within, marked, both, present, absent, nothing}
use Rattle.clauses.specs.Readings.{first, more, sole, this, other, spells, MarksKept}
use Rattle.clauses.specs.Expansion.{B, size, name}
use Rattle.clauses.proofs.Bounds.{start, Among}
use Rattle.clauses.proofs.Placed.{Placed, in_part, in_only, in_group, in_mark, in_optional}
use Rattle.clauses.proofs.Placed.{in_repeated, in_first, in_second, in_this, in_other}
use Rattle.clauses.proofs.Lines.{lines, choices_among, made_grows}
use Rattle.clauses.proofs.Own.{Own, own, own_fresh, rule}
use Rattle.clauses.proofs.Forward.{tree, tree_word, Expands, at, keeps_one, keeps_two}

-- a reading of e whose tree is t
pub record Back (c : Clauses) (N : ℕ) {s : Sort} (e : Expr s) (n : ℕ) (t : Tree) : Type 0 where
  pub reading : ClauseReading c s e
  pub kept : MarksKept reading
  pub same : tree N n reading ≡ t

-- the fresh C of a repeat: what was read so far, and one more
pub record Rest (c : Clauses) (N : ℕ) (q : AtLeast) (μ : BinaryMark) (e : Expr item) (n : ℕ)
    (t : Tree) : Type 0 where
  pub before : ClauseReading c made (repeated q μ e)
  pub next : ClauseReading c item e
  pub marks : Mark.Binary μ (spells before) (spells next)
  pub kept₁ : MarksKept before
  pub kept₂ : MarksKept next
  pub same : binary (n + 1) (tree N n before) (tree N (n + 2) next) ≡ t

pub record Backs (c : Clauses) (N : ℕ) (g : Rules) (t : Tree) : Type 0 where
  pub node : (e : Expr made) (n : ℕ) → Placed N g e n → root t ≡ n → Back c N e n t
  pub written : (L n : ℕ) → L < N → root t ≡ L → Back c N (nonterminal L) n t
  pub rest : (q : AtLeast) (μ : BinaryMark) (e : Expr item) (n : ℕ) → Placed N g (repeated q μ e) n
      → root t ≡ n + 1 → Rest c N q μ e n t

abbrev kind : Clause → ℕ
kind Empty = 0
kind (Atom a b) = 1
kind (Unary B m) = 2
kind (Binary B C m) = 3

clash : {P : Type 0} (k l : Clause) → k ≡ l → (kind k ≡ kind l → ⊥) → P
clash k l e f = absurd (f (ap kind e))

same_below : {L K : ℕ} {m μ : UnaryMark} → ◌≡◌ {A = Clause} (Unary L m) (Unary K μ) → L ≡ K
same_below e = cc

same_mark : {L K : ℕ} {m μ : UnaryMark} → ◌≡◌ {A = Clause} (Unary L m) (Unary K μ) → m ≡ μ
same_mark e = cc

same_pair : {L K P Q : ℕ} {m μ : BinaryMark} → ◌≡◌ {A = Clause} (Binary L P m) (Binary K Q μ)
    → (L ≡ K) × (P ≡ Q) × (m ≡ μ)
same_pair e = (cc, cc, cc)

over_path : {n L : ℕ} {s t : Tree} → L ≡ n → s ≡ t → unary n s ≡ unary L t
over_path h q = λ i. unary (sym h i) (q i)

module _ {c : Clauses} {N : ℕ} where
  words : {s : Sort} {e : Expr s} {n : ℕ} {t : Tree} (b : Back c N e n t)
      → word t ≡ spells b.reading
  words {n = n} b = sym (ap word b.same) ∙ tree_word N n b.reading

  node_empty : (L n : ℕ) (e : Expr made) → L ≡ n → Own e n Empty → Back c N e n (empty L)
  node_empty L n (terminal a) h o = clash _ _ o (λ z. omega arith)
  node_empty L n (group e) h o = clash _ _ o.2 (λ z. omega arith)
  node_empty L n (mark μ e) h o = clash _ _ o (λ z. omega arith)
  node_empty L n (pair μ e f) h o = clash _ _ o (λ z. omega arith)
  node_empty L n (optional e) h o = record { reading = absent; kept = tt; same = ap empty (sym h) }
  node_empty L n (repeated from_one μ e) h o =
      ⊎_elim (λ q. clash _ _ q (λ z. omega arith)) (λ q. clash _ _ q (λ z. omega arith)) o
  node_empty L n (repeated C.from_zero μ e) h o =
      record { reading = nothing; kept = tt; same = ap empty (sym h) }

  node_leaf : (L n x y : ℕ) (t : Token) (e : Expr made) → Covers x y t.terminal → L ≡ n
      → Own e n (Atom x y) → Back c N e n (leaf L t)
  node_leaf L n x y t (terminal a) v h o =
      let low : x ≡ a = cc in
      let high : y ≡ a = cc in
      record {
        reading = a_token {a = a} t (omega (arith, v.low, v.high));
        kept = tt;
        same =
            ap (λ (i : ℕ). leaf i t) (sym h);
      }
  node_leaf L n x y t (group e) v h o = clash _ _ o.2 (λ z. omega arith)
  node_leaf L n x y t (mark μ e) v h o = clash _ _ o (λ z. omega arith)
  node_leaf L n x y t (pair μ e f) v h o = clash _ _ o (λ z. omega arith)
  node_leaf L n x y t (optional e) v h o =
      ⊎_elim (λ q. clash _ _ q (λ z. omega arith)) (λ q. clash _ _ q (λ z. omega arith)) o
  node_leaf L n x y t (repeated from_one μ e) v h o =
      ⊎_elim (λ q. clash _ _ q (λ z. omega arith)) (λ q. clash _ _ q (λ z. omega arith)) o
  node_leaf L n x y t (repeated C.from_zero μ e) v h o =
      ⊎_elim (λ q. clash _ _ q (λ z. omega arith)) (λ q. clash _ _ q (λ z. omega arith)) o

  -- one more of a repeat
  again : (L n : ℕ) (t : Tree) (q : AtLeast) (μ : BinaryMark) (e : Expr item) → L ≡ n
      → Rest c N q μ e n t → Back c N (repeated q μ e) n (unary L t)
  again L n t q μ e h r = record {
    reading = more r.before r.next;
    kept =
        (r.marks, (r.kept₁, r.kept₂));
    same = over_path h r.same;
  }

module _ {c : Clauses} {N : ℕ} {g : Rules} where
  pub on_item : {t : Tree} → Backs c N g t → (e : Expr item) (n : ℕ) → Placed N g e n
      → root t ≡ name e n → Back c N e n t
  on_item b (nonterminal L) n p h = b.written L n p.under h
  on_item b (a_part e) n p h = let r = b.node e n (in_part p) h in
      record { reading = itself r.reading; kept = r.kept; same = r.same }

  pub pick : {t : Tree} → Backs c N g t → (e : Expr alternatives) (n : ℕ) → Placed N g e n
      → Among e n (root t) → Back c N e n t
  pick b (only e) n p h = let r = b.node e n (in_only p) h in
      record { reading = sole r.reading; kept = r.kept; same = r.same }
  pick b (or e f) n p (inl h) = let r = b.node e n (in_this p) h in
      record { reading = this r.reading; kept = r.kept; same = r.same }
  pick b (or e f) n p (inr h) = let r = pick b f (n + size e) (in_other p) h in
      record { reading = other r.reading; kept = r.kept; same = r.same }

  node_unary : (L n : ℕ) (m : UnaryMark) (t : Tree) (e : Expr made) → L ≡ n → Placed N g e n
      → Own e n (Unary (root t) m) → Mark.Unary m (word t)
      → Backs c N g t → Back c N e n (unary L t)
  node_unary L n m t (terminal a) h p o k b = clash _ _ o (λ z. omega arith)
  node_unary L n m t (group e) h p o k b =
      let r = pick b e (n + 1) (in_group p)
      (subst (λ (i : ℕ). Among e (n + 1) i) (sym (same_below o.2)) o.1) in
      record { reading = within r.reading; kept = r.kept; same = over_path h r.same }
  node_unary L n m t (mark μ e) h p o k b =
      let r = on_item b e (n + 1) (in_mark p) (same_below o) in
      record {
        reading = marked r.reading;
        kept =
            (keeps_one μ (sym (words r)) (rw (same_mark o) at k), r.kept);
        same =
            over_path h r.same;
      }
  node_unary L n m t (pair μ e f) h p o k b = clash _ _ o (λ z. omega arith)
  node_unary L n m t (optional e) h p (inl o) k b =
      let r = on_item b e (n + 1) (in_optional p) (same_below o) in
      record { reading = present r.reading; kept = r.kept; same = over_path h r.same }
  node_unary L n m t (optional e) h p (inr o) k b = clash _ _ o (λ z. omega arith)
  node_unary L n m t (repeated from_one μ e) h p (inl o) k b =
      let r = on_item b e (n + 2) (in_repeated p) (same_below o) in
      record { reading = first r.reading; kept = r.kept; same = over_path h r.same }
  node_unary L n m t (repeated from_one μ e) h p (inr o) k b =
      again L n t from_one μ e h (b.rest from_one μ e n p (same_below o))
  node_unary L n m t (repeated C.from_zero μ e) h p (inl o) k b = clash _ _ o (λ z. omega arith)
  node_unary L n m t (repeated C.from_zero μ e) h p (inr o) k b =
      again L n t C.from_zero μ e h (b.rest C.from_zero μ e n p (same_below o))

  node_binary : (L n : ℕ) (m : BinaryMark) (t u : Tree) (e : Expr made) → L ≡ n → Placed N g e n
      → Own e n (Binary (root t) (root u) m)
      → Mark.Binary m (word t) (word u) → Backs c N g t → Backs c N g u
      → Back c N e n (binary L t u)
  node_binary L n m t u (terminal a) h p o k b d = clash _ _ o (λ z. omega arith)
  node_binary L n m t u (group e) h p o k b d = clash _ _ o.2 (λ z. omega arith)
  node_binary L n m t u (mark μ e) h p o k b d = clash _ _ o (λ z. omega arith)
  node_binary L n m t u (pair μ e f) h p o k b d =
      let q = same_pair o in
      let r = on_item b e (n + 1) (in_first p) q.0 in
      let s = on_item d f (n + 1 + size e) (in_second p) q.1 in
      record {
        reading = both r.reading s.reading;
        kept =
            (keeps_two μ (sym (words r)) (sym (words s)) (rw q.2 at k), (r.kept, s.kept));
        same =
            λ i. binary (sym h i) (r.same i) (s.same i);
      }
  node_binary L n m t u (optional e) h p o k b d =
      ⊎_elim (λ q. clash _ _ q (λ z. omega arith)) (λ q. clash _ _ q (λ z. omega arith)) o
  node_binary L n m t u (repeated from_one μ e) h p o k b d =
      ⊎_elim (λ q. clash _ _ q (λ z. omega arith)) (λ q. clash _ _ q (λ z. omega arith)) o
  node_binary L n m t u (repeated C.from_zero μ e) h p o k b d =
      ⊎_elim (λ q. clash _ _ q (λ z. omega arith)) (λ q. clash _ _ q (λ z. omega arith)) o

module _ {c : Clauses} {N : ℕ} {g : Rules} (x : Expands c N g) where
  -- a rule of a written nonterminal goes over to an alternative of one of its lines
  lined : (L : ℕ) (k : Clause) → L < N → Memᴰ (rule L k) g
      → (p : ClausePlace c) × (i : ℕ) × (left p ≡ L) × Among (right p) (start p N) i
      × (k ≡ Unary i UnaryMark.None)
  lined L k h m =
      let s = lines {N = N} c N (rule L k) x.under (omega arith) h (x.down _ m) in
      let a = choices_among (left s.0) (right s.0) (start s.0 N) (rule L k) s.1 in (
        s.0,
        a.0,
        sym (ap (λ (r : Rule). r.left) a.2),
        a.1,
        ap (λ (r : Rule). r.clause)
            a.2,
      )

  unlined : {P : Type 0} (L : ℕ) (k : Clause) → L < N → Memᴰ (rule L k) g → (kind k ≡ 2 → ⊥)
      → P
  unlined L k h m f = absurd (f (ap kind (lined L k h m).4))

  mem_at : {L n : ℕ} {k : Clause} → L ≡ n → Memᴰ (rule L k) g → Memᴰ (rule n k) g
  mem_at {k = k} h m = subst (λ (i : ℕ). Memᴰ (rule i k) g) h m

  own_at : (e : Expr made) (n L : ℕ) (k : Clause) → Placed N g e n → L ≡ n → Memᴰ (rule L k) g
      → Own e n k
  own_at e n L k p h m = own e n k p (made_grows e) (mem_at h m)

  written_unary : (L K n : ℕ) (m : UnaryMark) (t : Tree) → L < N → K ≡ L
      → Memᴰ (rule K (Unary (root t) m)) g → Backs c N g t
      → Back c N (nonterminal L) n (unary K t)
  written_unary L K n m t h q r b =
      let l = lined L (Unary (root t) m) h (mem_at q r) in
      let s = pick b (right l.0) (start l.0 N) (at x l.0)
      (subst (λ (i : ℕ). Among (right l.0) (start l.0 N) i) (sym (same_below l.4))
      l.3) in
      record {
        reading = clause l.0 l.2 s.reading;
        kept = s.kept;
        same =
            over_path q s.same;
      }

  fresh : {P : Type 0} (q : AtLeast) (μ : BinaryMark) (e : Expr item) (n L : ℕ) (k : Clause)
      → Placed N g (repeated q μ e) n → L ≡ n + 1 → Memᴰ (rule L k) g → (kind k ≡ 3 → ⊥) → P
  fresh q μ e n L k p h m f = absurd (f (ap kind (own_fresh q μ e n k p (mem_at h m))))

  rest_binary : (L : ℕ) (m : BinaryMark) (t u : Tree) (q : AtLeast) (μ : BinaryMark) (e : Expr item)
      (n : ℕ) → Placed N g (repeated q μ e) n → L ≡ n + 1
      → Memᴰ (rule L (Binary (root t) (root u) m)) g → Mark.Binary m (word t) (word u)
      → Backs c N g t → Backs c N g u → Rest c N q μ e n (binary L t u)
  rest_binary L m t u q μ e n p h r k b d =
      let z = same_pair (own_fresh q μ e n _ p (mem_at h r)) in
      let s = b.node (repeated q μ e) n p z.0 in
      let v = on_item d e (n + 2) (in_repeated p) z.1 in
      record {
        before = s.reading;
        next = v.reading;
        marks = keeps_two μ (sym (words s))
            (sym (words v)) (rw z.2 at k);
        kept₁ = s.kept;
        kept₂ = v.kept;
        same =
            λ i. binary (sym h i) (s.same i) (v.same i);
      }

  pub back : {t : Tree} → Valid g t → Backs c N g t
  back (valid_empty {A = L} h) =
      record {
        node = λ e n p q. node_empty L n e q (own_at e n L Empty p q h);
        written = λ K n l q.
            unlined K Empty l (mem_at q h) (λ z. omega arith);
        rest =
            λ i μ e n p q. fresh i μ e n L Empty p q h (λ z. omega arith);
      }
  back (valid_leaf {A = L} {t = t} h) =
      let x = h.low in
      let y = h.high in
      record {
        node = λ e n p q. node_leaf L n x y t e h.covers q
            (own_at e n L (Atom x y) p q h.rule);
        written = λ K n l q. unlined K (Atom x y) l (mem_at q h.rule) (λ z. omega arith);
        rest = λ i μ e n p q. fresh i μ e n L (Atom x y) p q h.rule (λ z. omega arith);
      }
  back (valid_unary {A = L} {t = t} m h k v) =
      let b = back v in
      record {
        node = λ e n p q. node_unary L n m t e q p (own_at e n L _ p q h) k b;
        written = λ K
            n l q. written_unary K L n m t l q h b;
        rest =
            λ i μ e n p q. fresh i μ e n L (Unary (root t) m) p q h (λ z. omega arith);
      }
  back (valid_binary {A = L} {s = t} {t = u} m h k v w) =
      let b = back v in
      let d = back w in
      record {
        node = λ e n p q. node_binary L n m t u e q p (own_at e n L _ p q h) k b d;
        written =
            λ K n l q. unlined K (Binary (root t) (root u) m) l (mem_at q h) (λ z. omega arith);
        rest = λ i μ e n p q. rest_binary L m t u i μ e n p q h k b d;
      }
