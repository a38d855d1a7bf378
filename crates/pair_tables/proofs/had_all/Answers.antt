use mathlib.Core.Path.{sym}
use Rattle.sets.proofs.Says.{true_not_false}
use Rattle.pair_tables.proofs.TableLaws.{has_both, has_next}
use Rattle.pair_tables.proofs.had_all.Goals as goal

pub returns-then-one-two : goal.returns-then-one-two
returns-then-one-two c = record { is = λ e. absurd (true_not_false (sym e)) }

pub returns : goal.returns
returns c =
    let b = has_both c.shape_word-one.ensures
    c.sort_word-two.ensures
    c.relation_bits-bits.ensures
    c.if-one-two.false in
    record {
      is = λ e.
          record {
            nexts = c.nexts_of-n.result;
            read = c.nexts_of-n.ensures;
            node = λ z h. (b z h).0;
            sort = λ z h. (b z h).1;
            next = λ z l h.
                has_next c.args.t.now c.tokens_most-q.result
                c.next_place-c.ensures.0 e z
                (c.tokens_most-q.ensures.has z l h);
          };
    }
