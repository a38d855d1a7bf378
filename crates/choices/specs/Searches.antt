-- The search for a choice by the marks of a span (inner: contracts of the functions that search).
use Rattle.std.specs.Prelude.{◌≡◌, List, ◌⊎◌, ℕ, ◌≤◌, ◌<◌, Option, Some, None}
use Rattle.grammar.specs.declared.Rule.{Rule}
use Rattle.grammar.specs.declared.Grammar.{Grammar}
use Rattle.grammar.specs.Content.{rules_of}
use Rattle.marks.specs.declared.SpanMarks.{SpanMarks}
use Rattle.choices.specs.declared.Pick.{Pick}
use Rattle.tables.specs.Tables.{One, by_marks, Fits, Stand}

-- the rule r stands over the span for A, with l tokens on its left
abbrev pub Serves : List ℕ → ℕ → ℕ → ℕ → SpanMarks → ℕ → Rule → ℕ → Type 0
Serves ws n start len m A r l =
    (r.left ≡ A) × Fits (One ws n) (by_marks m len) start len r.clause l

-- the first left length from l on with which the rule does
abbrev pub FirstSplit : List ℕ → ℕ → ℕ → ℕ → SpanMarks → ℕ → Rule → ℕ → Option ℕ
    → Type 0
FirstSplit ws n start len m A r l (Some k) = (l ≤ k) × Serves ws n start len m A r k
    × ((j : ℕ) → j < k → l ≤ j → Serves ws n start len m A r j → ⊥)
FirstSplit ws n start len m A r l None =
    (j : ℕ) → l ≤ j → Serves ws n start len m A r j → ⊥

-- (i, l) is not after (j, k)
abbrev pub Upon : ℕ → ℕ → ℕ → ℕ → Type 0
Upon i l j k = (i < j) ⊎ ((i ≡ j) × (l ≤ k))

-- the rule at i stands over the span for A, with l tokens on its left
abbrev pub Stood : List ℕ → Grammar → ℕ → ℕ → ℕ → SpanMarks → ℕ → ℕ → ℕ → Type 0
Stood ws g n start len m A i l = Stand (One ws n) (rules_of g) (by_marks m len) start len A i l

-- no rule that stands is passed before (i, l), from (p, k) on
pub record Reached (ws : List ℕ) (g : Grammar) (n start len : ℕ) (m : SpanMarks)
    (A p k i l : ℕ) : Type 0 where
  pub on : Upon p k i l
  pub rest : (i' l' : ℕ) → Upon p k i' l' → Stood ws g n start len m A i' l' → Upon i l i' l'

-- the first rule that stands from (p, k) on
abbrev pub FirstPick : List ℕ → Grammar → ℕ → ℕ → ℕ → SpanMarks → ℕ → ℕ → ℕ → Option Pick
    → Type 0
FirstPick ws g n start len m A p k (Some x) =
    Reached ws g n start len m A p k x.rule x.left × Stood ws g n start len m A x.rule x.left
FirstPick ws g n start len m A p k None =
    (i l : ℕ) → Upon p k i l → Stood ws g n start len m A i l → ⊥
