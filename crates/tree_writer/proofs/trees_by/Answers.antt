-- `trees_by` meets its contract, by what `write` ensures of each tree.
use mathlib.Core.Path.{subst}
use Rattle.tree_choices.specs.Wanted.{Wanted}
use Rattle.tree_choices.proofs.PreferLaws.{wanted_first}
use Rattle.tree_writer.proofs.WrittenLaws.{first_short, first_done, second_short}
use Rattle.tree_writer.proofs.WrittenLaws.{second_done}
use Rattle.tree_writer.proofs.trees_by.Goals as goal

pub write-requires-clause-wanted : goal.write-requires-clause-wanted
write-requires-clause-wanted c = wanted_first _ c.requires.wanted

pub returns-in_default : goal.returns-in_default
returns-in_default c = λ t u a b. first_short _ t (c.write.ensures t a) u c.in_default.is
    c.clear.ensures

pub returns-then-not-two : goal.returns-then-not-two
returns-then-not-two c = λ t u a b. first_done _ t (c.write.ensures t a) c.if-not-two.true b
    c.in-Some.is c.clear-then-not-two.ensures

pub write-requires-2-clause-wanted : goal.write-requires-2-clause-wanted
write-requires-2-clause-wanted c = subst (Wanted _ 0 _) c.if-not-two.false c.requires.wanted

pub returns-in_default-write : goal.returns-in_default-write
returns-in_default-write c = λ t u a b.
    second_short _ t (c.write.ensures t a) c.write-2.ensures c.if-not-two.false b
    c.in_default-write.is c.write.auto.out c.clear-in_default-write.ensures

pub returns : goal.returns
returns c = λ t u a b.
    second_done _ t (c.write.ensures t a) c.write-2.ensures c.if-not-two.false b
    c.in-Some.is c.in-Some-write.is
