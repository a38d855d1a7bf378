-- The list of doubts is settled: there is one at most, and it is empty exactly if the sheet passes
-- the test.
use mathlib.Core.Path.{◌≡◌, transport}
use mathlib.Core.List.{List}
use Prim.Native.Nat.{ℕ}
use lib.ListN.{length}
use Rattle.pairs.proofs.DoubtLaws.{doubts_same}
use Rattle.grammar.specs.Trees.{Rules}
use Rattle.std.specs.Prelude.{Option}
use Rattle.lists.specs.Lists.{bytes_of, GivesList}
use Rattle.lists.specs.Putting.{listed, unfit}
use Rattle.lists.proofs.Settled.{gives_settled}
use Rattle.doubt_list.specs.Entries.{doubt_bytes}
use Rattle.doubt_list.specs.Given.{DoubtsGiven}

pub given_settled : {g : Rules} {lent a b : List ℕ} {r s : Option ℕ} → DoubtsGiven g lent a r
    → DoubtsGiven g lent b s → (r ≡ s) × (a ≡ b)
given_settled {g} {lent} {a} {b} {r} {s} x y =
    let e = doubts_same x.doubts y.doubts in
    gives_settled
    (transport (λ i. GivesList listed unfit (bytes_of doubt_bytes (e i)) (length (e i)) lent a r)
    x.gives) y.gives
