-- `expand_from` meets its contract: what both walks found says which end of the sheet it is.
use mathlib.Core.Path.{refl, sym, subst}
use mathlib.Core.Bool.{false}
use mathlib.Core.List.{List}
use Prim.Native.Nat.{ℕ, ◌≤◌}
use native.Mathlib.Omega.{arith}
use lib.ListN.{replicate, length-map, length-replicate}
use Rattle.rule_words.specs.Words.{word_rule}
use Rattle.rule_output.specs.Emitting.{Emit, held}
use Rattle.sheets.specs.Promises.{RulesRead}
use Rattle.clause_sheets.proofs.Closing.{Walked, out_over, out_few, out_long}
use Rattle.clause_sheets.proofs.Closing.{out_formed, out_end}
use Rattle.clause_sheets.specs.Ends.{AllSaid}
use Rattle.clause_sheets.specs.Checks.{LinesEmitted}
use Rattle.clause_sheets.proofs.expand_from.Goals as goal

walked : (ps : List (List ℕ)) (past : ℕ) (q : Emit) → AllSaid ps past → past ≤ 64
    → LinesEmitted ps (held (replicate 128 0) (record { count = 0; next = past; over = false })) q
    → Walked ps past (held (replicate 128 0) (record { count = 0; next = past; over = false })) q
walked ps past q a h e =
    record {
      said = a;
      low = h;
      begun = (
        refl,
        refl,
        refl,
        omega (arith, length-map (replicate 128 0) word_rule, length-replicate {A = ℕ} 128 0),
      );
      emitted = e;
    }

pub returns-then-out : goal.returns-then-out
returns-then-out c = record {
  is = out_over (walked _ _ _ c.requires.all_said (omega arith) c.lines_emit-out.ensures)
      c.if-out.true;
}

pub sorted-grammar-requires : goal.sorted-grammar-requires
sorted-grammar-requires c = let w =
    walked _ _ _ c.requires.all_said (omega arith) c.lines_emit-out.ensures in
    let f = c.if-out.false in
    (out_few w f, omega (arith, out_long w f, length-map c.lines_emit-out.new.rules word_rule))

pub index_of-index-requires : goal.index_of-index-requires
index_of-index-requires c = out_formed
    (walked _ _ _ c.requires.all_said (omega arith) c.lines_emit-out.ensures) c.if-out.false
    c.sorted-grammar.ensures

pub finished-requires : goal.finished-requires
finished-requires c = (
  out_formed (walked _ _ _ c.requires.all_said (omega arith) c.lines_emit-out.ensures)
      c.if-out.false c.sorted-grammar.ensures,
  c.index_of-index.ensures,
)

pub returns : goal.returns
returns c =
    subst (RulesRead c.finished.result)
    (sym (out_end (walked _ _ _ c.requires.all_said (omega arith)
    c.lines_emit-out.ensures) c.if-out.false c.sorted-grammar.ensures)) c.finished.ensures
