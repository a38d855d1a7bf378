-- The closure table: an entry for each nonterminal and for each way in which unary marks can hold,
-- made once; over a span the entries of what stands by its parts are put together.
use mathlib.Core.Path.{◌≡◌, refl}
use mathlib.Core.Logic.{◌↔◌}
use Prim.Native.Nat.{ℕ, zero, suc, ◌<◌}
use lib.ListN.{length}
use Rattle.sets.specs.Sets.{In}
use Rattle.grammar.specs.declared.Clause.{Clause}
use Rattle.grammar.specs.declared.UnaryMark.{UnaryMark}
use Rattle.grammar.specs.Trees.{Rules}
use Rattle.marks.specs.declared.SpanMarks.{SpanMarks}
use Rattle.marks.specs.Marked.{UnaryBy}
use Rattle.tables.specs.Tables.{rule}
use Rattle.cuts.specs.declared.Pair.{Pair}
use Rattle.cuts.specs.Closure.{Follows, Doubles, Closure, ChainEntry, Just, Never, Unites}
use Rattle.cuts.proofs.ClosureLaws.{follows_as, doubles_as, table_closure}
use Rattle.chains.specs.SpanLinks.{Over, LinkAt, span_links}

-- a clause goes by its own mark alone
over_as : (p q : UnaryMark → Type 0) (one : ℕ) (c : Clause)
    → ((C : ℕ) (m : UnaryMark) → c ≡ Clause.Unary C m → p m → q m) → (l B : ℕ) → Over p one c l B
    → Over q one c l B
over_as p q one Clause.Empty f l B o = o
over_as p q one (Clause.Atom a b) f l B o = o
over_as p q one (Clause.Unary C m) f zero B o = (o.0, f C m refl o.1)
over_as p q one (Clause.Unary C m) f (suc l) B o = o
over_as p q one (Clause.Binary C D m) f zero B o = o
over_as p q one (Clause.Binary C D m) f (suc zero) B o = o
over_as p q one (Clause.Binary C D m) f (suc (suc l)) B o = o

module _ (g : Rules) (one two : ℕ) where
  -- an entry goes by the marks of unary rules that hold
  pub entry_as : (p q : UnaryMark → Type 0)
      → ((i : ℕ) → i < length g → (C : ℕ) (m : UnaryMark) → (rule g i).clause ≡ Clause.Unary C m
      → p m ↔ q m) → (B : ℕ) (u : Pair) → ChainEntry (span_links g p one two) B u
      → ChainEntry (span_links g q one two) B u
  entry_as p q f B u e = record {
    one = λ A. (λ i. there ((e.one A).0 i), λ x. (e.one A).1 (back x));
    two = λ A. (λ i. there₂ ((e.two A).0 i), λ x. (e.two A).1 (back₂ x));
  }
    where
      to : (A i l C : ℕ) → LinkAt g p one A i l C → LinkAt g q one A i l C
      to A i l C x = record {
        within = x.within;
        left = x.left;
        over = over_as p q one
            (rule g i).clause (λ D m e. (f i x.within D m e).0) l C x.over;
      }

      of : (A i l C : ℕ) → LinkAt g q one A i l C → LinkAt g p one A i l C
      of A i l C x = record {
        within = x.within;
        left = x.left;
        over = over_as q p one
            (rule g i).clause (λ D m e. (f i x.within D m e).1) l C x.over;
      }

      there : {A : ℕ} → Follows (span_links g p one two) (Just B) A
          → Follows (span_links g q one two) (Just B) A
      there = follows_as (span_links g p one two) (span_links g q one two) (Just B) (Just B) Never
          Never to (λ i l x. x) (λ A x. x) (λ A x. x)

      there₂ : {A : ℕ} → Doubles (span_links g p one two) (Just B) Never A
          → Doubles (span_links g q one two) (Just B) Never A
      there₂ = doubles_as (span_links g p one two) (span_links g q one two) (Just B) (Just B) Never
          Never to (λ i l x. x) (λ A x. x) (λ A x. x)

      back : {A : ℕ} → Follows (span_links g q one two) (Just B) A
          → Follows (span_links g p one two) (Just B) A
      back = follows_as (span_links g q one two) (span_links g p one two) (Just B) (Just B) Never
          Never of (λ i l x. x) (λ A x. x) (λ A x. x)

      back₂ : {A : ℕ} → Doubles (span_links g q one two) (Just B) Never A
          → Doubles (span_links g p one two) (Just B) Never A
      back₂ = doubles_as (span_links g q one two) (span_links g p one two) (Just B) (Just B) Never
          Never of (λ i l x. x) (λ A x. x) (λ A x. x)

  -- over a span with the marks k, by the table of a kind whose marks hold alike
  pub table_span : (holds : UnaryMark → Type 0) (k : SpanMarks)
      → ((m : UnaryMark) → holds m ↔ UnaryBy k m) → (up : ℕ → Pair) (p t : Pair)
      → ((B : ℕ) → In p.one B → ChainEntry (span_links g holds one two) B (up B))
      → ((A : ℕ) → In p.two A → In p.one A) → Unites up (In p.one) (In p.two) t
      → Closure (span_links g (UnaryBy k) one two) p t
  table_span holds k f up p t e sub u = table_closure (span_links g (UnaryBy k) one two) up p t
      (λ B i. entry_as holds (UnaryBy k) (λ i h C m z. f m) B (up B) (e B i)) sub u
