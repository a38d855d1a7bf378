-- The readers that call each other: each call is at a later place, or at the same place to a reader
-- lower down.
use Prim.Native.Nat.{◌+◌, ◌*◌, ◌-◌}
use lib.ListN.{length}
use Rattle.clause_rules.proofs.+alternatives_atom_item_rest_sequence.Given as goal

abbrev pub decreases-alternatives : goal.decreases-alternatives
decreases-alternatives l = 4 * (length l.s.now - l.at) + 3

abbrev pub decreases-atom : goal.decreases-atom
decreases-atom l = 4 * (length l.s.now - l.at) + 0

abbrev pub decreases-item : goal.decreases-item
decreases-item l = 4 * (length l.s.now - l.at) + 1

abbrev pub decreases-rest : goal.decreases-rest
decreases-rest l = 4 * (length l.s.now - l.at) + 3

abbrev pub decreases-sequence : goal.decreases-sequence
decreases-sequence l = 4 * (length l.s.now - l.at) + 2
