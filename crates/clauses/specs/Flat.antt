-- For inner functions: a flat test of a line's lexemes, by what may follow what and a count of open
-- parentheses.
use Rattle.std.specs.Prelude.{Bool, true, false, List, [], ◌∷◌, ℕ, zero, suc, ◌+◌, max, ltb}
use Rattle.clauses.specs.Text.{Suffix, maybe, repeats, marks, Lex, n, t, opening, closing}
use Rattle.clauses.specs.Text.{bar, suffix, join}

-- what stands just before: an item is due; or an n or t, a group, a suffix
pub data State : Type 0 where
  due plain grouped suffixed : State

abbrev pub fits : State → Suffix → Bool
fits due q = false
fits plain maybe = true
fits plain (repeats q m) = true
fits plain (marks m) = false
fits grouped q = true
fits suffixed q = false

abbrev pub zero? : ℕ → Bool
zero? zero = true
zero? (suc d) = false

abbrev pub both : Bool → Bool → Bool
both true b = b
both false b = false

abbrev pub is_due : State → Bool
is_due due = true
is_due plain = false
is_due grouped = false
is_due suffixed = false

abbrev pub past_item : State → Bool
past_item due = false
past_item plain = true
past_item grouped = true
past_item suffixed = true

-- the flat test: what is left, the state, open parentheses
abbrev pub run : List Lex → State → ℕ → Bool
run [] s d = both (past_item s) (zero? d)
run (n a ∷ l) s d = both (is_due s) (run l plain d)
run (t a ∷ l) s d = both (is_due s) (run l plain d)
run (opening ∷ l) s d = both (is_due s) (run l due (suc d))
run (closing ∷ l) s zero = false
run (closing ∷ l) s (suc d) = both (past_item s) (run l grouped d)
run (suffix q ∷ l) s d = both (fits s q) (run l suffixed d)
run (join m ∷ l) s d = both (past_item s) (run l due d)
run (bar ∷ l) s d = both (past_item s) (run l due d)

-- what follows the parenthesis that closes, d further ones being open
abbrev pub closes : List Lex → ℕ → List Lex
closes [] d = []
closes (n a ∷ l) d = closes l d
closes (t a ∷ l) d = closes l d
closes (opening ∷ l) d = closes l (suc d)
closes (closing ∷ l) zero = l
closes (closing ∷ l) (suc d) = closes l d
closes (suffix q ∷ l) d = closes l d
closes (join m ∷ l) d = closes l d
closes (bar ∷ l) d = closes l d

abbrev pub drop_one : ℕ → ℕ
drop_one zero = zero
drop_one (suc d) = d

-- never more than m open parentheses
abbrev pub shallow : ℕ → List Lex → ℕ → Bool
shallow m [] d = true
shallow m (n a ∷ l) d = shallow m l d
shallow m (t a ∷ l) d = shallow m l d
shallow m (opening ∷ l) d = both (ltb d m) (shallow m l (suc d))
shallow m (closing ∷ l) d = shallow m l (drop_one d)
shallow m (suffix q ∷ l) d = shallow m l d
shallow m (join b ∷ l) d = shallow m l d
shallow m (bar ∷ l) d = shallow m l d

-- one past the nonterminal of a lexeme; one past the largest in a list of them
abbrev pub past_lex : Lex → ℕ
past_lex (n a) = a + 1
past_lex (t a) = 0
past_lex opening = 0
past_lex closing = 0
past_lex bar = 0
past_lex (suffix q) = 0
past_lex (join m) = 0

abbrev pub past_lexes : List Lex → ℕ
past_lexes [] = 0
past_lexes (x ∷ l) = max (past_lex x) (past_lexes l)
