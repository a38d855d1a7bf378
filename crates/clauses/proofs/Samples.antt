-- Sheets expanded, as text and by hand.
use mathlib.Core.Path.{◌≡◌, refl}
use mathlib.Core.List.{[], ◌∷◌}
use Rattle.grammar.specs.declared.UnaryMark.{UnaryMark}
use Rattle.grammar.specs.declared.BinaryMark.TheVariants as BinaryMark
use Rattle.clauses.specs.Clauses.{item, made, from_one, from_zero, Expr, nonterminal, a_part}
use Rattle.clauses.specs.Clauses.{terminal, group, mark, pair, optional, repeated, only, or}
use Rattle.clauses.specs.Clauses.{Clauses, no_line, a_line}
use Rattle.clauses.specs.Expansion.{E, A, U, B, expansion}

-- an alternative of a single item
abbrev single : Expr item → Expr made
single e = mark UnaryMark.None e

-- 1 t0 | (t1 n0):offside
-- 0 n1+:align
block : Clauses
block =
    a_line 1 (or (single (a_part (terminal 0)))
    (only (single (a_part (mark UnaryMark.Offside
    (a_part (group (only (pair BinaryMark.None (a_part (terminal 1))
    (nonterminal 0)))))))))) (a_line 0
    (only (single (a_part (repeated from_one BinaryMark.Align (nonterminal 1)))))
    no_line)

block_expanded : expansion block ≡
    U 0 9 UnaryMark.None
    ∷ U 1 2 UnaryMark.None
    ∷ U 1 4 UnaryMark.None
    ∷ U 2 3 UnaryMark.None
    ∷ A 3 0
    ∷ U 4 5 UnaryMark.None
    ∷ U 5 6 UnaryMark.Offside
    ∷ U 6 7 UnaryMark.None
    ∷ B 7 8 0 BinaryMark.None
    ∷ A 8 1
    ∷ U 9 10 UnaryMark.None
    ∷ U 10 1 UnaryMark.None
    ∷ U 10 11 UnaryMark.None
    ∷ B 11 10 1 BinaryMark.Align
    ∷ []
unfolding block
block_expanded = refl

-- 0 (t0 :indent: n3? t1*) n0
deep : Clauses
deep =
    a_line 0 (only (pair BinaryMark.None
    (a_part (group (only (pair BinaryMark.Indent (a_part (terminal 0))
    (a_part (pair BinaryMark.None (a_part (optional (nonterminal 3)))
    (a_part (repeated from_zero BinaryMark.None (a_part (terminal 1))))))))))
    (nonterminal 0))) no_line

deep_expanded : expansion deep ≡
    U 0 4 UnaryMark.None
    ∷ B 4 5 0 BinaryMark.None
    ∷ U 5 6 UnaryMark.None
    ∷ B 6 7 8 BinaryMark.Indent
    ∷ A 7 0
    ∷ B 8 9 10 BinaryMark.None
    ∷ U 9 3 UnaryMark.None
    ∷ E 9
    ∷ E 10
    ∷ U 10 11 UnaryMark.None
    ∷ B 11 10 12 BinaryMark.None
    ∷ A 12 1
    ∷ []
unfolding deep
deep_expanded = refl
