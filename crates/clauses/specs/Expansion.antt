-- A clause sheet expanded to a rule sheet: its new nonterminals, their numbers, their rules and the
-- order of the rules. docs/FORMAT.md, "The clause sheet".
use Rattle.std.specs.Prelude.{true, false, [], ◌∷◌, ◌++◌, ℕ, zero, suc, ◌+◌, max, eqb}
use Rattle.grammar.specs.declared.Rule.{Rule}
use Rattle.grammar.specs.declared.UnaryMark.{UnaryMark}
use Rattle.grammar.specs.declared.BinaryMark.{BinaryMark}
use Rattle.grammar.specs.declared.Clause.TheVariants.{Empty, Atom, Unary, Binary}
use Rattle.grammar.specs.Trees.{Rules}
use Rattle.clauses.specs.Clauses as C
use Rattle.clauses.specs.Clauses.{Sort, item, alternatives, AtLeast, from_one, Expr}
use Rattle.clauses.specs.Clauses.{nonterminal, a_part, terminal, group, mark, pair, optional}
use Rattle.clauses.specs.Clauses.{repeated, only, or, Clauses, a_line}

-- rules by their letters
abbrev pub E : ℕ → Rule
E A = record { left = A; clause = Empty }

abbrev pub A : ℕ → ℕ → Rule
A B a = record { left = B; clause = Atom a a }

abbrev pub U : ℕ → ℕ → UnaryMark → Rule
U A B m = record { left = A; clause = Unary B m }

abbrev pub B : ℕ → ℕ → ℕ → BinaryMark → Rule
B A C D m = record { left = A; clause = Binary C D m }

-- How many new nonterminals a part gets: each alternative, terminal, group, repeat, fresh C of a
-- repeat, and rest of two or more items gets one, a marked group two. They are numbered by where
-- they begin, outer before inner, C right after its repeat: a part whose new nonterminals begin
-- with n is n itself (a repeat's C is n + 1), then come those of the parts in it, in the order of
-- the text
abbrev pub size : {s : Sort} → Expr s → ℕ
size (nonterminal A) = 0
size (a_part e) = size e
size (terminal a) = 1
size (group e) = 1 + size e
size (mark m e) = 1 + size e
size (pair m e f) = 1 + (size e + size f)
size (optional e) = 1 + size e
size (repeated q m e) = 2 + size e
size (only e) = size e
size (or e f) = size e + size f

-- the nonterminal of an item whose new ones begin with n; an `n` item stands for itself
abbrev pub name : Expr item → ℕ → ℕ
name (nonterminal A) n = A
name (a_part e) n = n

-- alternatives are reached by U rules with `none`, from a line's left or from a group
abbrev pub alternative_rules : ℕ → Expr alternatives → ℕ → Rules
alternative_rules L (only e) n = U L n UnaryMark.None ∷ []
alternative_rules L (or e f) n = U L n UnaryMark.None ∷ alternative_rules L f (n + size e)

-- how a repeat n of B begins: `+` with one B, `*` with none
abbrev pub repeat_begins : AtLeast → ℕ → ℕ → Rule
repeat_begins from_one n B = U n B UnaryMark.None
repeat_begins C.from_zero n B = E n

-- The rules of a part's new nonterminals, which begin with n. Longer sequences split off their
-- first item; the first nonterminal of a marked group has a U rule of that mark to the second.
-- Repeats expand as in the paper, section 3: A → B? gives A → B, A → ε; A → B+ gives A →
-- B, A → C, C → A B; A → B* gives A → ε, A → C, C → A B
abbrev pub expr_rules : {s : Sort} → Expr s → ℕ → Rules
expr_rules (nonterminal A) n = []
expr_rules (a_part e) n = expr_rules e n
expr_rules (terminal a) n = A n a ∷ []
expr_rules (group e) n = alternative_rules n e (n + 1) ++ expr_rules e (n + 1)
expr_rules (mark m e) n = U n (name e (n + 1)) m ∷ expr_rules e (n + 1)
expr_rules (pair m e f) n = B n (name e (n + 1)) (name f (n + 1 + size e)) m
    ∷ (expr_rules e (n + 1) ++ expr_rules f (n + 1 + size e))
expr_rules (optional e) n = U n (name e (n + 1)) UnaryMark.None ∷ E n ∷ expr_rules e (n + 1)
expr_rules (repeated q m e) n = repeat_begins q n (name e (n + 2)) ∷ U n (n + 1) UnaryMark.None
    ∷ B (n + 1) n (name e (n + 2)) m ∷ expr_rules e (n + 2)
expr_rules (only e) n = expr_rules e n
expr_rules (or e f) n = expr_rules e n ++ expr_rules f (n + size e)

-- the rules of a sheet whose new nonterminals begin with n, line by line
abbrev pub expand_from : Clauses → ℕ → Rules
expand_from C.no_line n = []
expand_from (a_line L e c) n =
    (alternative_rules L e n ++ expr_rules e n) ++ expand_from c (n + size e)

-- the rules of one left, in the order given
abbrev pub of : ℕ → Rules → Rules
of L [] = []
of L (r ∷ g) = elim (eqb r.left L) [ true ↦ r ∷ of L g | false ↦ of L g ]

-- the rules of the lefts below K by rising left, then in the order given
abbrev pub rising : ℕ → Rules → Rules
rising zero g = []
rising (suc L) g = rising L g ++ of L g

-- one past the largest nonterminal written in a part, and in a sheet, its lefts too
abbrev pub past_expr : {s : Sort} → Expr s → ℕ
past_expr (nonterminal A) = A + 1
past_expr (a_part e) = past_expr e
past_expr (terminal a) = 0
past_expr (group e) = past_expr e
past_expr (mark m e) = past_expr e
past_expr (pair m e f) = max (past_expr e) (past_expr f)
past_expr (optional e) = past_expr e
past_expr (repeated q m e) = past_expr e
past_expr (only e) = past_expr e
past_expr (or e f) = max (past_expr e) (past_expr f)

abbrev pub past_all : Clauses → ℕ
past_all C.no_line = 0
past_all (a_line L e c) = max (max (L + 1) (past_expr e)) (past_all c)

-- how many new nonterminals a sheet gets
abbrev pub size_all : Clauses → ℕ
size_all C.no_line = 0
size_all (a_line L e c) = size e + size_all c

-- a clause sheet's rules: the new nonterminals are numbered upward from one past the largest one
-- written, and the rules stand by rising left, then in the order of the text or of the paper's
-- expansion
abbrev pub expansion : Clauses → Rules
expansion c = rising (past_all c + size_all c) (expand_from c (past_all c))
