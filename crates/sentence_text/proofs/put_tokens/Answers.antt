-- `put_tokens` meets its contract: each turn puts a token line more.
use mathlib.Core.Path.{◌≡◌}
use Prim.Native.Nat.{◌<◌}
use Rattle.std.proofs.lemmas.List.{get_or-take}
use native.Mathlib.Omega.{arith}
use borrow.Author.Rules.{rules}
use lib.ListN.{length}
use Rattle.grammar.specs.Sentences.{no_token}
use Rattle.printing.proofs.Writing.{wrote_then}
use Rattle.sentence_text.proofs.TokenLines.{tokens_more}
use Rattle.sentence_text.proofs.put_tokens.Goals as goal

pub loop-t-preserved : goal.loop-t-preserved
loop-t-preserved c =
    let n : length c.args.s.tokens ≡ 64 = search rules in
    let below : c.loop-t.t-index < c.args.s.count = search rules in
    let w = c.put_token-next.ensures in
    let e = get_or-take c.args.s.count c.args.s.tokens c.loop-t.t-index no_token below in (
      omega (arith, w.upper_bound, c.loop-t.invariant.0),
      rw (tokens_more c.args.s.tokens c.loop-t.t-index no_token (search rules))
          (wrote_then c.loop-t.invariant.1 (rw e at w.wrote)),
    )
