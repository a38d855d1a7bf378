-- `list_two` meets its contract: 2,081 words are enough for the pairs of 64 tokens.
use Rattle.spans.proofs.Places.{pairs_few}
use Rattle.call_places.proofs.list_two.Goals as goal

pub find_places-requires : goal.find_places-requires
find_places-requires c =
    let t = c.requires.span_sheet.1 in
    let most = pairs_few c.args.s.count c.requires.positioned.few in
    record {
      count_bound = (c.requires.positioned.few, most);
      formed = c.requires.formed;
      span_sheet = (c.requires.span_sheet.0, record { tree = t.first; witness = t.witness₁ });
    }
