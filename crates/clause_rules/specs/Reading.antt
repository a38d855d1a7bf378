-- For inner functions: what the readers of an expression have written when they are behind it.
use Rattle.std.specs.Prelude.{◌≡◌, false, List, ◌++◌, ℕ, ◌≤◌, length}
use Rattle.grammar.specs.Trees.{Rules}
use Rattle.clauses.specs.Clauses.{Expr, item, made, alternatives}
use Rattle.clauses.specs.Expansion.{size, name}
use Rattle.clauses.specs.Emission.{emit}
use Rattle.clauses.specs.Text.{Lex, an_atom, an_item, a_row, one, many, WrittenAs}
use Rattle.clauses.proofs.Legible.{NoSuffix, RowStop, Stop}
use Rattle.rule_output.specs.Emitting.{Emit, PartEmit, Adds}
use Rattle.clause_rules.specs.Ends.{Left}

-- the new rules and new nonterminals of a part; unless there was no room, its nonterminal and the
-- lexemes behind it
pub record Read (s : List ℕ) (out : Emit) (r : PartEmit) (a : ℕ) (new : Rules) (k : ℕ)
    (rest : List Lex) : Type 0 where
  pub adds : Adds out r.out new k
  pub left : r.out.over ≡ false → Left s r.at rest
  pub named : r.out.over ≡ false → r.name ≡ a

pub record AtomRead (s : List ℕ) (at : ℕ) (out : Emit) (r : PartEmit) : Type 0 where
  pub from : at ≤ r.at
  pub within : r.at ≤ length s
  pub room : r.out.over ≡ false → out.over ≡ false
  pub reads : (e : Expr item) (l k : List Lex) (L : ℕ) → WrittenAs (an_atom e) l
      → Left s at (l ++ k) → Read s out r (name e out.next) (emit e L out.next) (size e) k

pub record ItemRead (s : List ℕ) (at : ℕ) (out : Emit) (r : PartEmit) : Type 0 where
  pub from : at ≤ r.at
  pub within : r.at ≤ length s
  pub room : r.out.over ≡ false → out.over ≡ false
  pub reads : (e : Expr item) (l k : List Lex) (L : ℕ) → WrittenAs (an_item e) l → NoSuffix k
      → Left s at (l ++ k) → Read s out r (name e out.next) (emit e L out.next) (size e) k

pub record RestRead (s : List ℕ) (at : ℕ) (out : Emit) (r : PartEmit) : Type 0 where
  pub from : at ≤ r.at
  pub within : r.at ≤ length s
  pub room : r.out.over ≡ false → out.over ≡ false
  pub reads : (e : Expr item) (l k : List Lex) (L : ℕ) → WrittenAs (a_row e) l → RowStop k
      → Left s at (l ++ k) → Read s out r (name e out.next) (emit e L out.next) (size e) k

pub record SequenceRead (s : List ℕ) (at : ℕ) (out : Emit) (r : PartEmit) : Type 0 where
  pub from : at ≤ r.at
  pub within : r.at ≤ length s
  pub room : r.out.over ≡ false → out.over ≡ false
  pub reads : (e : Expr made) (l k : List Lex) (L : ℕ) → WrittenAs (one e) l → RowStop k
      → Left s at (l ++ k) → Read s out r out.next (emit e L out.next) (size e) k

pub record AlternativesRead (s : List ℕ) (at L : ℕ) (out : Emit) (r : PartEmit) : Type 0 where
  pub from : at ≤ r.at
  pub within : r.at ≤ length s
  pub room : r.out.over ≡ false → out.over ≡ false
  pub reads : (e : Expr alternatives) (l k : List Lex) → WrittenAs (many e) l → Stop k
      → Left s at (l ++ k) → Read s out r L (emit e L out.next) (size e) k
