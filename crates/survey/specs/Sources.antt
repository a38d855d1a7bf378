-- Predicates of inner functions only: what a rule adds to a set of nonterminals, for each of the
-- sets that are looked for.
use Rattle.std.specs.Prelude.{◌≡◌, ◌⊎◌, ℕ, ◌≤◌}
use Rattle.sets.specs.Sets.{In}
use Rattle.grammar.specs.declared.UnaryMark.{UnaryMark}
use Rattle.grammar.specs.declared.Rule.{Rule}
use Rattle.grammar.specs.declared.Clause.{Clause}
use Rattle.grammar.specs.Trees.{Covers}
use Rattle.pairs.specs.Strength.{rank}

-- ns are the nullable nonterminals, ps the productive ones: A has a word
abbrev pub Worded : ℕ → ℕ → ℕ → Type 0
Worded ns ps A = In ns A ⊎ In ps A

-- 0, or a member
abbrev pub Under : ℕ → ℕ → Type 0
Under s A = (A ≡ 0) ⊎ In s A

-- a child that has tokens is a member of s, and any other child has a word
abbrev pub OnePart : ℕ → ℕ → ℕ → ℕ → ℕ → Type 0
OnePart ns ps s B C = (In s B × Worded ns ps C) ⊎ (In ns B × In s C)

-- the clause has a word with tokens, where the members of s have
abbrev pub Filled : ℕ → ℕ → Clause → Type 0
Filled ns s Clause.Empty = ⊥
Filled ns s (Clause.Atom a b) = a ≤ b
Filled ns s (Clause.Unary B m) = In s B
Filled ns s (Clause.Binary B C m) = OnePart ns s s B C

abbrev pub AddsFilled : ℕ → ℕ → Rule → ℕ → Type 0
AddsFilled ns s r Y = (r.left ≡ Y) × Filled ns s r.clause

-- the clause has a word that begins with x, where the members of s have
abbrev pub Begins : ℕ → ℕ → ℕ → ℕ → Clause → Type 0
Begins ns ps x s Clause.Empty = ⊥
Begins ns ps x s (Clause.Atom a b) = Covers a b x
Begins ns ps x s (Clause.Unary B m) = In s B
Begins ns ps x s (Clause.Binary B C m) = OnePart ns ps s B C

abbrev pub AddsBegins : ℕ → ℕ → ℕ → ℕ → Rule → ℕ → Type 0
AddsBegins ns ps x s r Y = (r.left ≡ Y) × Begins ns ps x s r.clause

-- Y is one of two nonterminals that both have words
abbrev pub BothStand : ℕ → ℕ → ℕ → ℕ → ℕ → Type 0
BothStand ns ps B C Y = (Worded ns ps B × Worded ns ps C) × ((B ≡ Y) ⊎ (C ≡ Y))

-- Y stands in the clause, all of whose nonterminals have words
abbrev pub Stands : ℕ → ℕ → Clause → ℕ → Type 0
Stands ns ps Clause.Empty Y = ⊥
Stands ns ps (Clause.Atom a b) Y = ⊥
Stands ns ps (Clause.Unary B m) Y = Worded ns ps B × (B ≡ Y)
Stands ns ps (Clause.Binary B C m) Y = BothStand ns ps B C Y

abbrev pub AddsStands : ℕ → ℕ → ℕ → Rule → ℕ → Type 0
AddsStands ns ps s r Y = Under s r.left × Stands ns ps r.clause Y

-- Y has tokens and begins the word: it inherits a mark of rank k or less where its parent does
abbrev pub ChildHeads : ℕ → ℕ → ℕ → UnaryMark → ℕ → Type 0
ChildHeads ps k B m Y = (In ps B × (rank m ≤ k)) × (B ≡ Y)

abbrev pub PairHeads : ℕ → ℕ → ℕ → ℕ → ℕ → Type 0
PairHeads ns ps B C Y = ((In ps B × Worded ns ps C) × (B ≡ Y)) ⊎ ((In ns B × In ps C) × (C ≡ Y))

abbrev pub Heads : ℕ → ℕ → ℕ → Clause → ℕ → Type 0
Heads ns ps k Clause.Empty Y = ⊥
Heads ns ps k (Clause.Atom a b) Y = ⊥
Heads ns ps k (Clause.Unary B m) Y = ChildHeads ps k B m Y
Heads ns ps k (Clause.Binary B C m) Y = PairHeads ns ps B C Y

abbrev pub AddsFront : ℕ → ℕ → ℕ → ℕ → Rule → ℕ → Type 0
AddsFront ns ps k s r Y = Under s r.left × Heads ns ps k r.clause Y

-- Y has tokens and stands behind others
abbrev pub PairFollows : ℕ → ℕ → ℕ → ℕ → Type 0
PairFollows ps B C Y = (In ps B × In ps C) × (C ≡ Y)

abbrev pub Follows : ℕ → Clause → ℕ → Type 0
Follows ps Clause.Empty Y = ⊥
Follows ps (Clause.Atom a b) Y = ⊥
Follows ps (Clause.Unary B m) Y = ⊥
Follows ps (Clause.Binary B C m) Y = PairFollows ps B C Y

-- `loose` has nonterminals that inherit a mark other than single
abbrev pub AddsFollow : ℕ → ℕ → ℕ → Rule → ℕ → Type 0
AddsFollow ps loose s r Y = (Under s r.left ⊎ In loose r.left) × Follows ps r.clause Y

abbrev pub AddsHeads : ℕ → ℕ → ℕ → ℕ → ℕ → Rule → ℕ → Type 0
AddsHeads ns ps k loose s r Y = AddsFront ns ps k s r Y ⊎ AddsFollow ps loose s r Y
