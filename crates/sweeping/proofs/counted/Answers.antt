-- `sweeping::counted` meets its contract: the terminals of the set are those of the sheet, and its
-- lengths those of nonterminal 0.
use mathlib.Core.Logic.{◌↔◌}
use Prim.Native.Nat.{ℕ, ◌≤◌}
use Rattle.sets.specs.Sets.{In}
use Rattle.grammar.specs.Trees.{Rules}
use Rattle.lengths.specs.Lengths.{CanHave}
use Rattle.sweeping.specs.Swept.{LengthsOf, Bounded}
use native.Mathlib.Omega.{arith}
use Rattle.grammar.specs.Content.{rules_of}
use Rattle.candidates.proofs.Counting.{counted}
use Rattle.candidates.proofs.TerminalSets.{among_terminal}
use Rattle.tried_count.proofs.Trying.{tried_over}
use Rattle.sweeping.proofs.Answers.{hit_of, fair_of}
use Rattle.tried_count.specs.Searched.{answer_of}
use Rattle.sweeping.proofs.counted.Goals as goal

-- the lengths up to k
within : {g : Rules} {s k : ℕ} → LengthsOf g s → Bounded g k → (n : ℕ) → n ≤ k
    → In s n ↔ CanHave g 0 n
within l b n h = l.is n (omega (arith, b.high))

pub tried-requires : goal.tried-requires
tried-requires c =
    let t = counted c.terminals-all.result (omega (arith, c.terminals-all.type_inv)) in record {
      fair = fair_of c.terminals-all.result c.requires.bounded
          (t.terminals (rules_of c.args.g) c.terminals-all.ensures) t.few;
      hit = hit_of c.args.k c.args.found
          (among_terminal c.args.g c.terminals-all.result c.requires.formed c.terminals-all.ensures)
          c.requires.lengths_of c.requires.bounded.high c.requires.found;
    }

pub returns : goal.returns
returns c =
    tried_over (λ n h. within c.requires.lengths_of c.requires.bounded n h)
    (among_terminal c.args.g c.terminals-all.result c.requires.formed c.terminals-all.ensures)
    (answer_of c.args.found) c.tried.ensures
