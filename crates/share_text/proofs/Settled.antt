-- The promise of the text of `share` settles the whole output.
use mathlib.Core.Path.{◌≡◌, sym, ap, ◌∙◌}
use mathlib.Core.List.{List}
use Prim.Native.Nat.{ℕ}
use Rattle.call_shares.proofs.ShareSettled.{share_reply}
use Rattle.share_text.specs.Shares.{report_text, ShareTextOf, answered}

pub share_text_settled : {n p i : ℕ} {rules a b : List ℕ} → ShareTextOf n p i rules a
    → ShareTextOf n p i rules b → a ≡ b
share_text_settled {n} {p} {i} {rules} (answered l x e) (answered m y d) =
    e ∙ ap report_text (share_reply (l ∙ sym m) rules n p i x y) ∙ sym d
