use Rattle.column_search.proofs.nothing_new.Goals as goal

pub returns : goal.returns
returns c =
    let o = c.outlook-o.ensures in
    record {
      idles = record {
        finds = λ e. record { all = λ v y. c.covered.ensures e v (o.foreseen.finds.all v y) };
        leaving = o.foreseen.leaving;
      };
      beside_2 = o.beside_2;
    }
