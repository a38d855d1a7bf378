-- (laws of the steps) What a rule adds to nonterminals that 0 reaches is reached.
use mathlib.Core.Path.{sym, subst}
use mathlib.Core.Logic.{inl, inr, ⊎_elim}
use mathlib.Core.List.{Memᴰ}
use Prim.Native.Nat.{ℕ}
use Rattle.sets.specs.Sets.{In}
use Rattle.grammar.specs.declared.Rule.{Rule}
use Rattle.grammar.specs.declared.Clause.{Clause}
use Rattle.grammar.specs.Trees.{Rules}
use Rattle.reachable_rules.specs.Reach.{Reached, start, by_unary, by_left, by_right}
use Rattle.reachable_rules.specs.Steps.{HasPart, AddsParts}

part_reached : {g : Rules} (A : ℕ) (c : Clause) (Y : ℕ)
    → Memᴰ (record { left = A; clause = c }) g → Reached g A → HasPart c Y → Reached g Y
part_reached A Clause.Empty Y m h p = absurd p
part_reached A (Clause.Atom a b) Y m h p = absurd p
part_reached A (Clause.Unary B k) Y m h p = subst (Reached _) p (by_unary k h m)
part_reached A (Clause.Binary B C k) Y m h (inl p) = subst (Reached _) p (by_left C k h m)
part_reached A (Clause.Binary B C k) Y m h (inr p) = subst (Reached _) p (by_right B k h m)

pub reach_sound : {g : Rules} (s : ℕ) → ((Y : ℕ) → In s Y → Reached g Y) → (r : Rule)
    → Memᴰ r g → (Y : ℕ) → AddsParts s r Y → Reached g Y
reach_sound {g} s h r m Y t = part_reached r.left r.clause Y m
    (⊎_elim (λ e. subst (Reached g) (sym e) start) (h r.left) t.0) t.1
