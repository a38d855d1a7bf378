-- `sheets::ordered` meets its contract: the last token stands before their number.
use mathlib.Core.Path.{◌≡◌, refl, sym, ◌∙◌}
use mathlib.Core.List.{[], ◌∷◌}
use Prim.Native.Nat.{◌-◌}
use native.Mathlib.Omega.{arith}
use native.Mathlib.Nat.{le_refl}
use lib.ListN.{length, get_or}
use lib.Seq.{take-length}
use Rattle.grammar.specs.declared.Token.{Token}
use Rattle.grammar.specs.Layout.{Word}
use Rattle.grammar.specs.Sentences.{no_token}
use Rattle.fields.proofs.Pick.{hit, miss}
use Rattle.sheets.specs.Items.{next}
use Rattle.sheets.specs.Following.{after, follows}
use Rattle.sheets.specs.TokenSheets.{order_step}
use Rattle.sheets.proofs.Accepted.{order_computed, follows_last}
use Rattle.sheets.proofs.ordered.Goals as goal

first : (l : Word) (t : Token) → length l ≡ 0 → next t ≡ order_step l t
first [] t e = refl
first (a ∷ l) t e = absurd (omega arith)

-- the last of all
last_follows : (l : Word) (t : Token) → (length l ≡ 0 → ⊥)
    → follows l t ≡ after (get_or l (length l - 1) no_token) t
last_follows l t h =
    rw take-length at (follows_last l (length l) no_token t h (le_refl (length l)))

pub returns-then-n-eq0 : goal.returns-then-n-eq0
returns-then-n-eq0 c = first c.args.tokens.now c.args.t c.if-n-eq0.true

pub returns-then-comes_after : goal.returns-then-comes_after
returns-then-comes_after c =
    let l = c.args.tokens.now in
    let e = last_follows l c.args.t c.if-n-eq0.false in
    sym (order_computed l c.args.t ∙ hit
    (e ∙ sym c.comes_after.ensures ∙ c.if-comes_after.true) _ _)

pub returns : goal.returns
returns c =
    let l = c.args.tokens.now in
    let e = last_follows l c.args.t c.if-n-eq0.false in
    sym (order_computed l c.args.t ∙ miss
    (e ∙ sym c.comes_after.ensures ∙ c.if-comes_after.false) _ _)
