use mathlib.Core.Path.{◌≡◌, sym, subst}
use Prim.Native.Nat.{ℕ, ◌+◌, ◌-◌}
use native.Mathlib.Omega.{arith}
use lib.ListN.{length}
use Rattle.grammar.specs.Content.{rules_of}
use Rattle.chains.specs.Chains.{Upto, Unranked}
use Rattle.chains.proofs.ChainLaws.{upto_copied}
use Rattle.chains.proofs.next_level.Goals as goal

pub returns-then-unranked : goal.returns-then-unranked
returns-then-unranked c =
    let a = c.args in
    let g = rules_of a.g in
    let v = c.copy_level in
    let d : a.l - 1 + 1 ≡ a.l =
    omega (arith, c.if-l-gt0.true) in
    subst (λ (x : ℕ). Upto g a.e v.new.table (x + 1)) d
    (upto_copied g a.e (a.l - 1)
    (subst (λ (x : ℕ). Unranked x g (length g)) (sym d)
    (subst (Unranked a.l g) (sym c.requires.formed.whole)
    (c.unranked.ensures
    c.if-unranked.true)))
    (subst (Upto g a.e a.table.now) (sym d) c.requires.upto) v.ensures)
