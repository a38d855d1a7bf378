use Rattle.cuts.proofs.try_rule.Goals as goal

pub returns-in-Binary : goal.returns-in-Binary
returns-in-Binary c =
    rw c.in-Binary.is
    (record { hits = c.binary.result; tells = c.binary.ensures; adds = c.added.ensures })
