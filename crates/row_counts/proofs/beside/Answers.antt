-- `beside` meets its contract: the count of the first tree beside the way, and one more.
use mathlib.Core.Path.{ap, subst, ◌∙◌}
use Prim.Native.Nat.{ℕ, ◌+◌}
use native.Mathlib.Omega.{arith}
use Rattle.grammar.specs.Rows.{row_count}
use Rattle.row_counts.specs.Capped.{capped}
use Rattle.row_counts.specs.Seconds.{BesideThere}
use Rattle.row_counts.proofs.CappedLaws.{capped_le, capped_one}
use Rattle.row_counts.proofs.beside.Goals as goal

pub add-requires : goal.add-requires
add-requires c =
    let b = subst (BesideThere _ _) c.in-Some.is c.requires.beside_there in (
      omega arith,
      omega (
        arith,
        c.count_first.ensures b.there.tree b.there.first,
        capped_le
            (row_count b.there.tree),
      ),
    )

pub returns-in-Some : goal.returns-in-Some
returns-in-Some c = rw c.in-Some.is (λ t f. c.add.ensures
    ∙ ap (λ (y : ℕ). capped (1 + y)) (c.count_first.ensures t f) ∙ capped_one 1 (row_count t))
