-- How the pair of the empty word or of a token is found (inner: contracts of the functions that
-- fill the span sheet): first what stands by itself, then passes over the rules that have the whole
-- span on one side.
use Rattle.std.specs.Prelude.{◌≡◌, Bool, true, false, ◌⊎◌, ℕ, ◌+◌, ◌<◌, length}
use Rattle.sets.specs.Says.{Says}
use Rattle.sets.specs.Sets.{In}
use Rattle.grammar.specs.declared.Clause.{Clause}
use Rattle.grammar.specs.Trees.{Rules}
use Rattle.marks.specs.declared.SpanMarks.{SpanMarks}
use Rattle.marks.specs.Marked.{AtomBy, UnaryBy}
use Rattle.joins.specs.declared.Tally.{Tally}
use Rattle.tables.specs.Tables.{rule}
use Rattle.sets.specs.Insertion.{insert}

-- ---- a rule is tried

-- w is the set of t's nonterminals that have two trees, with a besides where a word below has two
-- or the rule meets another
abbrev pub Doubles : Tally → ℕ → Bool → ℕ → Type 0
Doubles t a again w = ((w ≡ insert t.two a) × (In t.seen a ⊎ (again ≡ true)))
    ⊎ ((w ≡ t.two) × (In t.seen a → ⊥) × (again ≡ false))

-- a rule for a is counted into t; again says that a word below has two trees
pub record Found (t : Tally) (a : ℕ) (again : Bool) (u : Tally) : Type 0 where
  pub seen : u.seen ≡ insert t.seen a
  pub one : u.one ≡ insert t.one a
  pub two : Doubles t a again u.two

-- a rule for a is tried: t is as it was, or the rule is counted
-- (fits: it stands; below: a word below has two trees)
pub data Took (fits below : Type 0) (a : ℕ) (t u : Tally) : Type 0 where
  fell : (fits → ⊥) → u ≡ t → Took fits below a t u
  stood : (again : Bool) → fits → Says again below → Found t a again u → Took fits below a t u

-- ---- what stands by itself

-- the tally before any rule
abbrev pub no_tally : Tally
no_tally = record { seen = 0; one = 0; two = 0 }

-- a clause stands over no token or one by itself
abbrev pub LeafFits : SpanMarks → ℕ → Clause → Type 0
LeafFits k len Clause.Empty = len ≡ 0
LeafFits k len (Clause.Atom a b) = (len ≡ 1) × AtomBy k a b
LeafFits k len (Clause.Unary B m) = ⊥
LeafFits k len (Clause.Binary B C m) = ⊥

-- the rules before i are tried so
pub data Leaves (k : SpanMarks) (len : ℕ) (g : Rules) : ℕ → Tally → Type 0 where
  leaves_none : Leaves k len g 0 no_tally
  leaves_more : {i : ℕ} {t u : Tally} → Leaves k len g i t
      → Took (LeafFits k len (rule g i).clause) ⊥ (rule g i).left t u → Leaves k len g (i + 1) u

-- ---- what has the whole span on one side

-- a binary clause is tried over the span and the empty word, whose pair is one and two
pub data Beside (one two len a b e : ℕ) (t v : Tally) : Type 0 where
  alone : len ≡ 0 → Took (In t.one b × In t.one e) (In t.two b ⊎ In t.two e) a t v
      → Beside one two len a b e t v
  both : 0 < len → (u : Tally) → Took (In one b × In t.one e) (In two b ⊎ In t.two e) a t u
      → Took (In u.one b × In one e) (In u.two b ⊎ In two e) a u v
      → Beside one two len a b e t v

-- a clause for a is tried with the whole span on one side
abbrev pub WholeSide : ℕ → ℕ → SpanMarks → ℕ → ℕ → Clause → Tally → Tally → Type 0
WholeSide one two k len a Clause.Empty t u = u ≡ t
WholeSide one two k len a (Clause.Atom c d) t u = u ≡ t
WholeSide one two k len a (Clause.Unary B m) t u =
    Took (In t.one B × UnaryBy k m) (In t.two B) a t u
WholeSide one two k len a (Clause.Binary B C m) t u = Beside one two len a B C t u

-- the rules from i on are tried so, the last one first
pub data Pass (one two : ℕ) (k : SpanMarks) (len : ℕ) (g : Rules) (t : Tally) : ℕ → Tally
    → Type 0 where
  pass_none : Pass one two k len g t (length g) t
  pass_more : {i : ℕ} {u v : Tally} → Pass one two k len g t (i + 1) u
      → WholeSide one two k len (rule g i).left (rule g i).clause u v → Pass one two k len g t i v

-- the rules that b has seen, and the sets of t
abbrev pub resumed : Tally → Tally → Tally
resumed b t = record { seen = b.seen; one = t.one; two = t.two }

-- passes from b on, one after the other
pub data Passes (one two : ℕ) (k : SpanMarks) (len : ℕ) (g : Rules) (b : Tally) : Tally
    → Type 0 where
  passes_none : Passes one two k len g b b
  passes_more : {t u : Tally} → Passes one two k len g b t → Pass one two k len g (resumed b t) 0 u
      → Passes one two k len g b u

-- until one adds nothing
pub record Saturated (one two : ℕ) (k : SpanMarks) (len : ℕ) (g : Rules) (b t : Tally) : Type
    0 where
  pub passes : Passes one two k len g b t
  pub last : Tally
  pub passed : Pass one two k len g (resumed b t) 0 last
  pub same_one : last.one ≡ t.one
  pub same_two : last.two ≡ t.two
