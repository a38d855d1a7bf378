use Rattle.pair_tables.proofs.TableLaws.{nexts_by}
use Rattle.pair_tables.proofs.nexts_of.Goals as goal

pub next_word-dc-requires : goal.next_word-dc-requires
next_word-dc-requires c = let p = c.requires in (p.0, p.1.second, p.2.first)

pub next_word-dd-requires : goal.next_word-dd-requires
next_word-dd-requires c = let p = c.requires in (p.0, p.1.second, p.2.second)

pub returns : goal.returns
returns c =
    nexts_by _ _ _ _ _ c.first_stop-p.ensures
    c.first_stop-q.ensures c.second_stop-u.ensures
    c.second_stop-s.ensures (record {
      yc = c.next_word-yc.ensures;
      yd = c.next_word-yd.ensures;
      xc = c.next_word-xc.ensures;
      xd = c.next_word-xd.ensures;
      cc = c.next_word-cc.ensures;
      cd = c.next_word-cd.ensures;
      dc = c.next_word-dc.ensures;
      dd = c.next_word-dd.ensures;
    })
