-- How high a clause stands over a span by a table of heights. For the contracts of inner functions
-- only.
use Rattle.std.specs.Prelude.{◌≡◌, List, [], ◌∷◌, ℕ, suc, ◌+◌, ◌-◌, ◌≤◌, ◌<◌, max, length}
use Rattle.grammar.specs.declared.Token.{Token}
use Rattle.grammar.specs.declared.Clause.{Clause}
use Rattle.grammar.specs.Layout.{Word}
use Rattle.grammar.specs.Layout as Mark
use Rattle.grammar.specs.Trees.{Covers}
use Rattle.grammar.specs.SpanSheet.{part}
use Rattle.tables.specs.Tables.{Leave}
use Rattle.heights.specs.Least.{number_at}

-- start, length, nonterminal
abbrev pub Heights : Type 0
Heights = ℕ → ℕ → ℕ → ℕ

-- the number that says that there is no tree
abbrev pub no_height : ℕ
no_height = 65535

abbrev pub table : List ℕ → ℕ → Heights
table l n s len A = number_at l n s len A

-- the clause stands over the span with l tokens on its left, h high by the table
abbrev pub Tall : Heights → Leave → ℕ → ℕ → Clause → ℕ → ℕ → Type 0
Tall hs v s len Clause.Empty l h = (len ≡ 0) × (l ≡ 0) × (h ≡ 1)
Tall hs v s len (Clause.Atom a b) l h = (len ≡ 1) × (l ≡ 0) × v.atom a b × (h ≡ 1)
Tall hs v s len (Clause.Unary B m) l h = v.unary m × (l ≡ 0) × (h ≡ suc (hs s len B))
Tall hs v s len (Clause.Binary B C m) l h =
    (l ≤ len) × v.binary m l × (h ≡ suc (max (hs s l B) (hs (s + l) (len - l) C)))

-- what the words leave to a clause
abbrev pub by_word : Word → ℕ → ℕ → Leave
by_word w s len =
    record {
      atom = λ a b. (t : Token) × (part w s len ≡ t ∷ []) × Covers a b t.terminal;
      unary = λ m. Mark.Unary m (part w s len);
      binary = λ m l. Mark.Binary m (part w s l) (part w (s + l) (len - l));
    }

-- r is how high the clause stands; `none` where it does not stand or stands on what has no height
pub record Measured (hs : Heights) (v : Leave) (s len : ℕ) (c : Clause) (l r : ℕ) : Type 0 where
  pub is : r < no_height → Tall hs v s len c l r
  pub low : (h : ℕ) → Tall hs v s len c l h → r ≤ h

-- r is how high the clause stands at least, with from `from` to below `to` tokens on its left
pub record Lowest (hs : Heights) (v : Leave) (s len : ℕ) (c : Clause) (from to r : ℕ) : Type 0 where
  pub is : r < no_height → (l : ℕ) × (from ≤ l) × (l < to) × Tall hs v s len c l r
  pub low : (l h : ℕ) → from ≤ l → l < to → Tall hs v s len c l h → r ≤ h

-- one more than the larger of a and b, where that is a height
pub record Over (a b r : ℕ) : Type 0 where
  pub is : r < no_height → r ≡ suc (max a b)
  pub low : r ≤ suc (max a b)

-- the numbers are enough, and the span lies among n tokens
pub record Room (l : List ℕ) (n start len : ℕ) : Type 0 where
  pub few : n ≤ 64
  pub fits : start + len ≤ n
  pub long : length l ≡ 133184
