-- For inner functions: rules written one after the other, as long as there is room.
use Rattle.std.specs.Prelude.{◌≡◌, ◌⊎◌, Bool, true, false, List, [], ◌∷◌, ◌++◌, map, ℕ, ◌+◌, ◌≤◌}
use Rattle.std.specs.Prelude.{◌<◌, length, take}
use Rattle.grammar.specs.declared.Rule.{Rule}
use Rattle.grammar.specs.declared.UnaryMark.TheVariants as UnaryMark
use Rattle.grammar.specs.Trees.{Rules}
use Rattle.clauses.specs.Clauses as C
use Rattle.clauses.specs.Expansion.{E, A, U, B, repeat_begins}
use Rattle.lexemes.specs.declared.Lexeme.{Lexeme}
use Rattle.rule_words.specs.Words.{word_rule}
use Rattle.rule_output.specs.declared.Room.{Room}
use Rattle.rule_output.specs.declared.Step.{Step}

-- what is written: the rules, of which the first `count` stand, the next new nonterminal, and
-- whether there was no room
pub record Emit : Type 0 where
  pub rules : Rules
  pub count : ℕ
  pub next : ℕ
  pub over : Bool

-- the same, as the code has it: the rules as words, and the room
abbrev pub held : List ℕ → Room → Emit
held w o =
    record { rules = map word_rule w; count = o.count; next = o.next; over = o.over }

-- behind a part: the place, the part's nonterminal, and what is written
pub record PartEmit : Type 0 where
  pub at : ℕ
  pub name : ℕ
  pub out : Emit

abbrev pub part_held : List ℕ → Step → PartEmit
part_held w r = record { at = r.at; name = r.name; out = held w r.room }

abbrev pub listed : Emit → Rules
listed o = take o.count o.rules

-- why p is over: o was, or a new nonterminal is past 63, or there are over 128 rules
abbrev pub Cause : Emit → ℕ → ℕ → Type 0
Cause o k l = (o.over ≡ true) ⊎ ((64 < o.next + k) ⊎ (128 < o.count + l))

-- unless it is over, p has the new rules after o's, whose list has 128 places, and counts k new
-- nonterminals more; it is over only for a cause
pub record Adds (o p : Emit) (new : Rules) (k : ℕ) : Type 0 where
  pub why : p.over ≡ true → Cause o k (length new)
  pub count : p.over ≡ false → p.count ≡ o.count + length new
  pub room : p.over ≡ false → o.over ≡ false
  pub long : p.over ≡ false → length p.rules ≡ length o.rules
  pub rules : p.over ≡ false → 128 ≤ length o.rules → listed p ≡ listed o ++ new
  pub next : p.over ≡ false → p.next ≡ o.next + k
  pub low : p.over ≡ false → o.next ≤ 64 → p.next ≤ 64
  pub few : p.over ≡ false → o.count ≤ 128 → p.count ≤ 128

abbrev pub Pushed : Emit → Rule → Emit → Type 0
Pushed o r p = Adds o p (r ∷ []) 0

abbrev pub CountsOn : Emit → ℕ → Emit → Type 0
CountsOn o k p = Adds o p [] k

abbrev pub atom_rules : ℕ → ℕ → Rules
atom_rules n a = A n a ∷ []

-- the rules of what stands after an item B, where n is its first nonterminal
abbrev pub tail_rules : Lexeme → ℕ → ℕ → Rules
tail_rules Lexeme.Maybe n b = U n b UnaryMark.None ∷ E n ∷ []
tail_rules (Lexeme.Plus m) n b =
    repeat_begins C.from_one n b ∷ U n (n + 1) UnaryMark.None ∷ B (n + 1) n b m ∷ []
tail_rules (Lexeme.Star m) n b =
    repeat_begins C.from_zero n b ∷ U n (n + 1) UnaryMark.None ∷ B (n + 1) n b m ∷ []
tail_rules (Lexeme.Marked m) n b = U n b m ∷ []
tail_rules (Lexeme.Join m) n b = []
tail_rules (Lexeme.Nonterminal a) n b = []
tail_rules (Lexeme.Terminal a) n b = []
tail_rules Lexeme.Open n b = []
tail_rules Lexeme.Close n b = []
tail_rules Lexeme.Bar n b = []
tail_rules Lexeme.End n b = []
tail_rules Lexeme.Not n b = []

-- an item that is no group, by its lexeme
pub record LeafRead (l : Lexeme) (end : ℕ) (out : Emit) (r : PartEmit) : Type 0 where
  pub at : r.at ≡ end
  pub room : r.out.over ≡ false → out.over ≡ false
  pub nonterminal : (a : ℕ) → l ≡ Lexeme.Nonterminal a → (r.name ≡ a) × (r.out ≡ out)
  pub terminal : (a : ℕ) → l ≡ Lexeme.Terminal a
      → (r.name ≡ out.next) × Adds out r.out (A out.next a ∷ []) 1
