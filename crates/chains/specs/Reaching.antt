-- What follows by links from each nonterminal alone, found for all of them at once: a word for each
-- nonterminal, with a bit for each that it follows from (inner).
use Rattle.std.specs.Prelude.{◌≡◌, Bool, true, List, ◌⊎◌, ◌↔◌, ℕ, ◌<◌, length, get_or}
use Rattle.sets.specs.Sets.{In}
use Rattle.grammar.specs.declared.Clause.{Clause}
use Rattle.grammar.specs.declared.UnaryMark.{UnaryMark}
use Rattle.grammar.specs.Trees.{Rules}
use Rattle.grammar.specs.Choices.{Same}
use Rattle.tables.specs.Tables.{rule}
use Rattle.cuts.specs.declared.Pair.{Pair}
use Rattle.cuts.specs.Cuts.{words_of_of}
use Rattle.cuts.specs.Joining.{Joins}
use Rattle.chains.specs.SpanLinks.{Beside, LinkAt}

-- the word of A has B
abbrev pub Has : List ℕ → ℕ → ℕ → Type 0
Has ws A B = In (get_or ws A 0) B

-- each of the first m words has its own bit alone
pub record Selves (m : ℕ) (ws : List ℕ) : Type 0 where
  pub size : length ws ≡ 64
  pub own : (A : ℕ) → A < m → (B : ℕ) → Has ws A B ↔ (A ≡ B)

-- ---- links are counted

-- r is what a further way with this set doubles, `seen` being what was seen before
pub record Met (set seen : ℕ) (again : Bool) (r : ℕ) : Type 0 where
  pub members : (B : ℕ) → In r B ↔ (In set B × (In seen B ⊎ (again ≡ true)))

-- a link of a over b is counted, if it is one (fits): s and t become s' and t'; its empty word may
-- have two trees (doubled)
pub record LinkCounted (fits doubled : Type 0) (base : List ℕ) (a b : ℕ) (s s' t t' : List ℕ) : Type
    0 where
  pub adds : Joins (λ q B. fits × (q ≡ a) × Has base b B) s s'
  pub doubles : Joins (λ q B. fits × (q ≡ a) × Has base b B × (Has s q B ⊎ doubled)) t t'

-- the links of a clause for a are
abbrev pub RuleCounted : (UnaryMark → Type 0) → ℕ → ℕ → List ℕ → ℕ → Clause → List ℕ → List ℕ
    → List ℕ → List ℕ → Type 0
RuleCounted holds one two base a Clause.Empty s s' t t' = (s' ≡ s) × (t' ≡ t)
RuleCounted holds one two base a (Clause.Atom c d) s s' t t' = (s' ≡ s) × (t' ≡ t)
RuleCounted holds one two base a (Clause.Unary B m) s s' t t' =
    LinkCounted (holds m) ⊥ base a B s s' t t'
RuleCounted holds one two base a (Clause.Binary B C m) s s' t t' = (u : List ℕ) × (v : List ℕ)
    × LinkCounted (In one B) (In two B) base a C s u t v
    × LinkCounted (In one C) (In two C) base a B u s' v t'

-- of the choices D one is a link of A over what has B
pub record LinkStep (g : Rules) (holds : UnaryMark → Type 0) (one : ℕ) (base : List ℕ)
    (D : ℕ → ℕ → Type 0) (A B : ℕ) : Type 0 where
  pub index : ℕ
  pub side : ℕ
  pub over : ℕ
  pub done : D index side
  pub link : LinkAt g holds one A index side over
  pub has : Has base over B

-- A has B in two ways by the choices D
pub data Forks (g : Rules) (holds : UnaryMark → Type 0) (e : Pair) (base : List ℕ)
    (D : ℕ → ℕ → Type 0) (A B : ℕ) : Type 0 where
  fork_self : A ≡ B → LinkStep g holds e.one base D A B → Forks g holds e base D A B
  fork_both : (x y : LinkStep g holds e.one base D A B)
      → (Same x.index x.side y.index y.side → ⊥) → Forks g holds e base D A B
  fork_beside : (x : LinkStep g holds e.one base D A B)
      → Beside e.two (rule g x.index).clause x.side → Forks g holds e base D A B

-- the choices D are counted
pub record Branching (g : Rules) (holds : UnaryMark → Type 0) (e : Pair) (base : List ℕ)
    (D : ℕ → ℕ → Type 0) (s t : List ℕ) : Type 0 where
  pub wide : length s ≡ 64
  pub wide₂ : length t ≡ 64
  pub one : (A B : ℕ) → A < 64 → Has s A B ↔ ((A ≡ B) ⊎ LinkStep g holds e.one base D A B)
  pub two : (A B : ℕ) → A < 64 → Has t A B ↔ Forks g holds e base D A B

-- those of the first m rules
abbrev pub Branches : Rules → (UnaryMark → Type 0) → Pair → List ℕ → ℕ → List ℕ → List ℕ → Type 0
Branches g holds e base m s t = Branching g holds e base (λ i l. i < m) s t

-- ---- links of links

-- where one of the first m words has k, it gets what the word of k has
pub record Through (k : ℕ) (ws : List ℕ) (m : ℕ) (ws' : List ℕ) : Type 0 where
  pub joins : Joins (λ q B. (q < m) × Has ws q k × Has ws k B) ws ws'

-- from A down to B by words
pub data LeadsTo (ws : List ℕ) : ℕ → ℕ → Type 0 where
  lead_one : {A B : ℕ} → Has ws A B → LeadsTo ws A B
  lead_more : {A B C : ℕ} → LeadsTo ws A C → C < 64 → LeadsTo ws C B → LeadsTo ws A B

-- ws' has what ws leads to, by way of words below m at least
pub record Closes (ws : List ℕ) (m : ℕ) (ws' : List ℕ) : Type 0 where
  pub size : length ws' ≡ 64
  pub keeps : (A B : ℕ) → Has ws A B → Has ws' A B
  pub leads : (A B : ℕ) → Has ws' A B → LeadsTo ws A B
  pub via : (A C B : ℕ) → A < 64 → C < m → Has ws' A C → Has ws' C B → Has ws' A B

-- ---- the entries

-- r is the words of the members S put together
pub record Gathers (ws : List ℕ) (S : ℕ → Type 0) (r : ℕ) : Type 0 where
  pub members : (B : ℕ) → In r B ↔ ((C : ℕ) × S C × Has ws C B)

-- the bits of the first m words stand in the entries: s has what follows, t what does in two ways
-- where it is the last link
pub record Turned (s t : List ℕ) (m : ℕ) (ups : List ℕ) : Type 0 where
  pub size : length ups ≡ 128
  pub one : (A B : ℕ) → B < 64 → In (words_of_of ups 0 B).one A ↔ ((A < m) × Has s A B)
  pub two : (A B : ℕ) → B < 64 → In (words_of_of ups 0 B).two A
      ↔ ((A < m) × (C : ℕ) × Has s A C × Has t C B)
