-- What is found is what the first tree takes; the heights that are lent on either kind of sheet;
-- the first tree beside a second.
use mathlib.Core.Path.{◌≡◌}
use mathlib.Core.Bool.{Bool, true, false}
use mathlib.Core.List.{List}
use Prim.Native.Nat.{ℕ}
use native.Mathlib.Omega.{arith}
use lib.ListN.{length}
use Rattle.grammar.specs.Layout.{Word}
use Rattle.grammar.specs.Trees.{Rules}
use Rattle.grammar.specs.declared.Grammar.{Grammar}
use Rattle.grammar.specs.declared.Sentence.{Sentence}
use Rattle.grammar.specs.Content.{rules_of}
use Rattle.grammar.specs.Cycles.{Cyclic}
use Rattle.heights.specs.Least.{HeightSheet}
use Rattle.tree_choices.specs.Wanted.{Charted, Ready, Wanted}
use Rattle.grammar.specs.Sentences.{spelled}

-- a sheet with no loop needs no heights
pub ready_flat : {g : Grammar} {s : Sentence} {ws hs : List ℕ} → Charted g s ws
    → (Cyclic (rules_of g) → ⊥) → length hs ≡ 0 → Ready g s ws hs
ready_flat r n e =
    record {
      formed = r.formed;
      positioned = r.positioned;
      sheet = r.sheet;
      lent = record { flat = λ _. n; looping = λ h. absurd (omega arith) };
    }

pub ready_low : {g : Grammar} {s : Sentence} {ws hs : List ℕ} → Charted g s ws → Cyclic (rules_of g)
    → HeightSheet (rules_of g) (spelled s) hs → Ready g s ws hs
ready_low r c h =
    record {
      formed = r.formed;
      positioned = r.positioned;
      sheet = r.sheet;
      lent = record { flat = λ e. absurd (omega (arith, h.long)); looping = λ _. (c, h) };
    }

-- beside the second tree there is the first
pub wanted_first : {g : Rules} {A : ℕ} {w : Word} (two : Bool) → Wanted g A w two
    → Wanted g A w false
wanted_first true x = record { tree = x.goal.tree; goal = x.goal.first }
wanted_first false x = x
