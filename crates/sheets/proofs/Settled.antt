-- The promise of `refused_line` settles what is handed back: two results that meet it are the same
-- part of the same sheet, with the same bytes.
use mathlib.Core.Path.{◌≡◌, sym, ◌∙◌}
use mathlib.Core.List.{List}
use Prim.Native.Nat.{ℕ}
use denote.Ref.{Bor}
use Rattle.fields.specs.Parts.{Part}
use Rattle.sheets.specs.Items.{Reading}
use Rattle.sheets.specs.RefusedLines.{HeldLine, in_rules, in_tokens, no_line, held_by}
use Rattle.sheets.specs.RefusedLines.{refused_line, Hands}
use Rattle.grammar.specs.Trees.{Rules}

-- both point to the same byte, and hold the same bytes
pub record SamePart (r s : Bor (List ℕ)) : Type 0 where
  pub block : r.ref_ptr.0 ≡ s.ref_ptr.0
  pub offset : r.ref_ptr.1 ≡ s.ref_ptr.1
  pub bytes : r.now ≡ s.now

part_settled : {sheet r s : Bor (List ℕ)} {from len : ℕ} → Part sheet from len r
    → Part sheet from len s → SamePart r s
part_settled x y = record {
  block = x.block ∙ sym y.block;
  offset = x.offset ∙ sym y.offset;
  bytes = x.holds ∙ sym y.holds;
}

module _ (rules tokens r s : Bor (List ℕ)) where
  hands_settled : (h : HeldLine) → Hands rules tokens r h → Hands rules tokens s h → SamePart r s
  hands_settled (in_rules n) x y = part_settled x.part y.part
  hands_settled (in_tokens n) x y = part_settled x.part y.part
  hands_settled no_line x y = part_settled x y

  -- whatever the sheets give
  pub held_settled : {A : Type 0} (given : Reading Rules) (read : Reading A)
      → Hands rules tokens r (held_by given read) → Hands rules tokens s (held_by given read)
      → SamePart r s
  held_settled given read = hands_settled (held_by given read)

  pub refused_line_settled : Hands rules tokens r (refused_line rules.now tokens.now)
      → Hands rules tokens s (refused_line rules.now tokens.now) → SamePart r s
  refused_line_settled = hands_settled (refused_line rules.now tokens.now)
