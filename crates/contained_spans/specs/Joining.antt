-- What lies beneath a choice is put into the words (inner: contracts of the functions that do so).
use Rattle.std.specs.Prelude.{◌≡◌, List, ◌⊎◌, ℕ, ◌+◌, ◌-◌, ◌≤◌, ◌<◌, length}
use Rattle.std.specs.Prelude.{Option, Some, None}
use Rattle.sets.specs.Sets.{In}
use Rattle.grammar.specs.declared.Rule.{Rule}
use Rattle.grammar.specs.declared.Clause.{Clause}
use Rattle.grammar.specs.Trees.{Rules}
use Rattle.grammar.specs.SpanSheet.{pairs, pair_at}
use Rattle.marks.specs.declared.SpanMarks.{SpanMarks}
use Rattle.tables.specs.Tables.{One, by_marks, Fits, Stand, rule}

-- the span lies among n tokens, and there is a word for each of their pairs
pub record Space (rs : List ℕ) (n s len : ℕ) : Type 0 where
  pub few : n ≤ 64
  pub fits : s + len ≤ n
  pub enough : pairs n ≤ length rs

-- B, at the pair q, lies beneath the clause over the span, with l tokens on its left
abbrev pub Kid : ℕ → ℕ → ℕ → Clause → ℕ → ℕ → ℕ → Type 0
Kid n s len Clause.Empty l q B = ⊥
Kid n s len (Clause.Atom a b) l q B = ⊥
Kid n s len (Clause.Unary C m) l q B = (q ≡ pair_at n s len) × (B ≡ C)
Kid n s len (Clause.Binary C D m) l q B =
    ((q ≡ pair_at n s l) × (B ≡ C)) ⊎ ((q ≡ pair_at n (s + l) (len - l)) × (B ≡ D))

-- where the clause fits so
abbrev pub LeftKids : List ℕ → ℕ → ℕ → ℕ → SpanMarks → Clause → ℕ → ℕ → ℕ → Type 0
LeftKids ws n s len k c l q B = Fits (One ws n) (by_marks k len) s len c l × Kid n s len c l q B

-- with some left length
abbrev pub ClauseKids : List ℕ → ℕ → ℕ → ℕ → SpanMarks → Clause → ℕ → ℕ → Type 0
ClauseKids ws n s len k c q B = (l : ℕ) × LeftKids ws n s len k c l q B

-- beneath a rule, where it is one of A
abbrev pub RuleKids : List ℕ → ℕ → ℕ → ℕ → SpanMarks → ℕ → Rule → ℕ → ℕ → Type 0
RuleKids ws n s len k A r q B = (r.left ≡ A) × ClauseKids ws n s len k r.clause q B

-- beneath some choice of A
abbrev pub ChoiceKids : List ℕ → Rules → ℕ → ℕ → ℕ → SpanMarks → ℕ → ℕ → ℕ → Type 0
ChoiceKids ws g n s len k A q B =
    (i : ℕ) × (l : ℕ) × Stand (One ws n) g (by_marks k len) s len A i l
    × Kid n s len (rule g i).clause l q B

-- a member of set that is not in done
abbrev pub Fresh : ℕ → ℕ → Option ℕ → Type 0
Fresh set done (Some a) = (a < 64) × In set a × (In done a → ⊥)
Fresh set done None = (a : ℕ) → a < 64 → In set a → In done a

-- beneath the clause at each cut of a set
abbrev pub CutKids : ℕ → ℕ → ℕ → Clause → ℕ → ℕ → ℕ → Type 0
CutKids n s len c set q B = (k : ℕ) × In set k × Kid n s len c (k - s) q B

-- each cut of the set lies within the span
abbrev pub Inner : ℕ → ℕ → ℕ → Type 0
Inner set s len = (c : ℕ) → In set c → (s < c) × (c < s + len)
