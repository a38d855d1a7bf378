-- For inner functions: what a lexeme is, by tests.
use Rattle.lexemes.specs.declared.Lexeme.{Lexeme}
use Rattle.std.specs.Prelude.{ℕ}

-- a number that tells lexemes apart where the readers do: 1 (, 2 ), 3 a bar, 4 what binds two
-- items, 5 what stands after an item, 6 none or no more; 0 else
abbrev pub sort_of_of : Lexeme → ℕ
sort_of_of (Lexeme.Nonterminal a) = 0
sort_of_of (Lexeme.Terminal a) = 0
sort_of_of Lexeme.Open = 1
sort_of_of Lexeme.Close = 2
sort_of_of Lexeme.Bar = 3
sort_of_of (Lexeme.Join m) = 4
sort_of_of Lexeme.Maybe = 5
sort_of_of (Lexeme.Plus m) = 5
sort_of_of (Lexeme.Star m) = 5
sort_of_of (Lexeme.Marked m) = 5
sort_of_of Lexeme.End = 6
sort_of_of Lexeme.Not = 6

-- how many new nonterminals what stands after an item has
abbrev pub heads_of : Lexeme → ℕ
heads_of Lexeme.Maybe = 1
heads_of (Lexeme.Plus m) = 2
heads_of (Lexeme.Star m) = 2
heads_of (Lexeme.Marked m) = 1
heads_of (Lexeme.Join m) = 0
heads_of (Lexeme.Nonterminal a) = 0
heads_of (Lexeme.Terminal a) = 0
heads_of Lexeme.Open = 0
heads_of Lexeme.Close = 0
heads_of Lexeme.Bar = 0
heads_of Lexeme.End = 0
heads_of Lexeme.Not = 0
