-- What the list writer reads: a bit for each two rules that may read one word, or one rule that
-- may part it twice.
use Rattle.std.specs.Prelude.{◌≡◌, ◌↔◌, List, [], ℕ, ◌+◌, ◌*◌, ◌/◌, ◌%◌, ◌≤◌, ◌<◌, length, get_or}
use Rattle.std.proofs.Math.Option.{some}
use Rattle.std.proofs.Math.ListN.{get_elem?}
use Rattle.sets.specs.Sets.{In}
use Rattle.grammar.specs.declared.Rule.{Rule}
use Rattle.grammar.specs.declared.Grammar.{Grammar}
use Rattle.grammar.specs.Content.{rules_of, Formed}
use Rattle.grammar.specs.Cycles.{Nullable}
use Rattle.grammar.specs.Trees.{Rules}
use Rattle.grammar.specs.Choices.{Choice}
use Rattle.acyclic.specs.Exact.{Exactly}
use Rattle.doubt_list.specs.declared.Sets.{Sets}
use Rattle.pairs.specs.Survey.{Occurs}
use Rattle.pairs.specs.Doubts.{Seen, TwoNodes}

-- bit q of the two words of p
abbrev pub Bit : List ℕ → ℕ → ℕ → Type 0
Bit t p q = In (get_or t (2 * p + q / 64) 0) (q % 64)

-- two rules of a nonterminal that may read one word, or a rule that may part one at two places
pub record Together (g : Rules) (p q : ℕ) : Type 0 where
  pub left : ℕ
  pub seen : Seen g left
  pub nodes : TwoNodes g left p q

pub record Marked (g : Rules) (t : List ℕ) : Type 0 where
  pub long : 256 ≤ length t
  pub is : (p q : ℕ) → p ≤ q → q < 128 → Bit t p q ↔ Together g p q

-- the rule at p has the left A
pub record RuleOf (g : Rules) (p A : ℕ) : Type 0 where
  pub rule : Rule
  pub stands : get_elem? g p ≡ some rule
  pub left : rule.left ≡ A

-- A occurs and has two rules for the empty word
pub record EmptyTwice (g : Rules) (A p q : ℕ) : Type 0 where
  pub occurs : Occurs g A
  pub first : Choice g A [] p 0
  pub second : Choice g A [] q 0

-- all that the writer reads
pub record Ground (g : Grammar) (s : Sets) (t : List ℕ) : Type 0 where
  pub formed : Formed g
  pub nulls : Exactly s.nulls (Nullable (rules_of g))
  pub occurs : Exactly s.occurring (Occurs (rules_of g))
  pub marked : Marked (rules_of g) t
