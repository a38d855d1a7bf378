-- The promises of `show` and `change` settle the answer and the lent memory: two results that meet
-- a promise are the same.
use mathlib.Core.Path.{◌≡◌, refl, sym, ap, ◌∙◌}
use mathlib.Core.List.{List}
use Prim.Native.Nat.{ℕ}
use lib.ListN.{length}
use Rattle.grammar.specs.Trees.{Rules}
use Rattle.tree_view.specs.Shown.{View}
use Rattle.tree_writer.specs.Written.{seen_by}
use Rattle.sheets.specs.declared.Fault.{Fault}
use Rattle.sheets.proofs.Once.{apart, same_items, same_refusal}
use Rattle.sheets.proofs.Numbers.{same_fault}
use Rattle.rights.specs.RightSheets.{may_see_of}
use Rattle.std.specs.Prelude.{Result}
use Rattle.sheets.specs.declared.Refusal.{Refusal}
use Rattle.answering.specs.declared.TreeRows.{TreeRows}
use Rattle.sheets.specs.Results.{refusal}
use Rattle.answering.proofs.Settled.{Words, Same, same_sheets, sheets_apart, trees_on}
use Rattle.list_answers.proofs.ListSettled.{list_settled}
use Rattle.answering.proofs.Lent.{SameRows, refusal_rows, trees_on_reply}
use Rattle.list_answers.proofs.ListSettled.{SameBytes, bytes_same}
use Rattle.list_answers.proofs.ListSettled.{refusal_bytes, list_moved}
use Rattle.call_rights.specs.Show.{ShowOf}
use Rattle.call_rights.specs.Show as Show
use Rattle.call_rights.specs.Change.{ChangeDone, unfit, given, ChangeOn}
use Rattle.call_rights.specs.Change.{barred, allowed, ChangeOf}
use Rattle.call_rights.specs.Change as Change

-- 1. show

pub show_settled : {rules tokens rights : List ℕ} {user : ℕ} {ws a b one two m m' n n' : List ℕ}
    {r s : Result TreeRows Refusal} → Words a → Words b
    → ShowOf rules tokens rights user ws a one m two n r
    → ShowOf rules tokens rights user ws b one m' two n' s → (a ≡ b) × Same m m' n n' r s
show_settled p q (Show.refusing e x h i j) (Show.refusing d y k l o) =
    let z = same_refusal e d in
    (h ∙ sym k, (x ∙ rw (z.0, z.1) (sym y), (i ∙ sym l, j ∙ sym o)))
show_settled p q (Show.refusing e x h i j) (Show.barring d f y k l o) = absurd (apart e d)
show_settled p q (Show.refusing e x h i j) (Show.reading d f y) = absurd (apart e d)
show_settled p q (Show.barring d f y k l o) (Show.refusing e x h i j) = absurd (apart e d)
show_settled p q (Show.barring e f x h i j) (Show.barring d c y k l o) =
    let z = same_refusal f c in
    (h ∙ sym k, (x ∙ rw (z.0, z.1) (sym y), (i ∙ sym l, j ∙ sym o)))
show_settled p q (Show.barring e f x h i j) (Show.reading d c y) = absurd (apart f c)
show_settled p q (Show.reading d f y) (Show.refusing e x h i j) = absurd (apart e d)
show_settled p q (Show.reading d c y) (Show.barring e f x h i j) = absurd (apart f c)
show_settled {rules = rules} {tokens = tokens} {user = user} p q
    (Show.reading {g = g} {w = w} {rs = rs} e f x) (Show.reading d c y) =
    let z = same_sheets e d in
    let v = same_items f c in
    trees_on (seen_by (may_see_of rs user)) g w ((sheets_apart rules tokens).distinct g w e) p q x
    (rw (← z.0, ← z.1, ← v) at y)

-- 2. change

done_settled : {rules : List ℕ} {p : ℕ} {lay bytes a b : List ℕ} {r s : Result ℕ Refusal}
    → ChangeDone rules p lay bytes a r → ChangeDone rules p lay bytes b s → (r ≡ s) × (a ≡ b)
done_settled (unfit e x h) (unfit d y k) = let z = same_refusal e d in
    (x ∙ rw (z.0, z.1) (sym y), h ∙ sym k)
done_settled (unfit e x h) (given d y) = absurd (apart e d)
done_settled (given d y) (unfit e x h) = absurd (apart e d)
done_settled (given e x) (given d y) = list_settled x y

change_on : {may : View} {rules : List ℕ} {g : Rules} {p : ℕ} {lay bytes a b : List ℕ}
    {r s : Result ℕ Refusal} → ChangeOn may rules g p lay bytes a r
    → ChangeOn may rules g p lay bytes b s
    → (r ≡ s) × (a ≡ b)
change_on (barred {f = f} m n x h) (barred {f = f'} q o y k) =
    (x ∙ ap (λ (z : Fault). refusal z 0) (same_fault f f' 51 n o) ∙ sym y, h ∙ sym k)
change_on (barred m n x h) (allowed q y) = absurd (m q)
change_on (allowed q y) (barred m n x h) = absurd (m q)
change_on (allowed m x) (allowed q y) = done_settled x y

pub change_settled : {rules rights : List ℕ} {user p : ℕ} {lay bytes a b : List ℕ}
    {r s : Result ℕ Refusal}
    → ChangeOf rules rights user p lay bytes a r → ChangeOf rules rights user p lay bytes b s
    → (r ≡ s) × (a ≡ b)
change_settled (Change.refusing e x h) (Change.refusing d y k) = let z = same_refusal e d in
    (x ∙ rw (z.0, z.1) (sym y), h ∙ sym k)
change_settled (Change.refusing e x h) (Change.barring d f y k) = absurd (apart e d)
change_settled (Change.refusing e x h) (Change.reading d f y) = absurd (apart e d)
change_settled (Change.barring d f y k) (Change.refusing e x h) = absurd (apart e d)
change_settled (Change.barring e f x h) (Change.barring d c y k) = let z = same_refusal f c in
    (x ∙ rw (z.0, z.1) (sym y), h ∙ sym k)
change_settled (Change.barring e f x h) (Change.reading d c y) = absurd (apart f c)
change_settled (Change.reading d c y) (Change.refusing e x h) = absurd (apart e d)
change_settled (Change.reading d c y) (Change.barring e f x h) = absurd (apart f c)
change_settled (Change.reading e f x) (Change.reading d c y) =
    let z = same_items e d in
    let v = same_items f c in
    change_on x (rw (← z, ← v) at y)

-- 3. of what is lent only its length counts: the reply, and what it counts, are the same whatever
-- stood there before

module _ {ws vs one one₂ two two₂ : List ℕ} (e : length ws ≡ length vs)
    (d : length one ≡ length one₂) (c : length two ≡ length two₂) {a b m m' n n' : List ℕ}
    {r s : Result TreeRows Refusal} where
  pub show_reply : {rules tokens rights : List ℕ} {user : ℕ}
      → ShowOf rules tokens rights user ws a one m two n r
      → ShowOf rules tokens rights user vs b one₂ m' two₂ n' s → SameRows m m' n n' r s
  show_reply (Show.refusing p x h i j) (Show.refusing q y k l o) =
      refusal_rows m m' n n' (same_refusal p q) x y
  show_reply (Show.refusing p x h i j) (Show.barring q f y k l o) = absurd (apart p q)
  show_reply (Show.refusing p x h i j) (Show.reading q f y) = absurd (apart p q)
  show_reply (Show.barring q f y k l o) (Show.refusing p x h i j) = absurd (apart p q)
  show_reply (Show.barring p f x h i j) (Show.barring q f' y k l o) =
      refusal_rows m m' n n' (same_refusal f f') x y
  show_reply (Show.barring p f x h i j) (Show.reading q f' y) = absurd (apart f f')
  show_reply (Show.reading q f y) (Show.refusing p x h i j) = absurd (apart p q)
  show_reply (Show.reading q f' y) (Show.barring p f x h i j) = absurd (apart f f')
  show_reply {rules} {tokens} {user = user} (Show.reading {g = g} {w = w} {rs = rs} p f x)
      (Show.reading q f' y) =
      let z = same_sheets p q in
      let v = same_items f f' in
      trees_on_reply e d c (seen_by (may_see_of rs user)) g w
      ((sheets_apart rules tokens).distinct g w p)
      x (rw (← z.0, ← z.1, ← v) at y)

-- the same reply, and the same bytes, as many as it counts
module _ {out other : List ℕ} (e : length out ≡ length other) {m n : List ℕ}
    {r s : Result ℕ Refusal} where
  done_reply : {rules : List ℕ} {p : ℕ} {lay : List ℕ} → ChangeDone rules p lay out m r
      → ChangeDone rules p lay other n s → SameBytes m n r s
  done_reply (unfit q x h) (unfit d y k) = refusal_bytes m n (same_refusal q d) x y
  done_reply (unfit q x h) (given d y) = absurd (apart q d)
  done_reply (given d y) (unfit q x h) = absurd (apart q d)
  done_reply (given q x) (given d y) = bytes_same m n (list_settled (list_moved e x) y)

  change_on_reply : {may : View} {rules : List ℕ} {g : Rules} {p : ℕ} {lay : List ℕ}
      → ChangeOn may rules g p lay out m r → ChangeOn may rules g p lay other n s
      → SameBytes m n r s
  change_on_reply (barred {f = f} q v x h) (barred {f = f'} d o y k) =
      refusal_bytes m n (same_fault f f' 51 v o, refl) x y
  change_on_reply (barred q v x h) (allowed d y) = absurd (q d)
  change_on_reply (allowed d y) (barred q v x h) = absurd (q d)
  change_on_reply (allowed q x) (allowed d y) = done_reply x y

  pub change_reply : {rules rights : List ℕ} {user p : ℕ} {lay : List ℕ}
      → ChangeOf rules rights user p lay out m r → ChangeOf rules rights user p lay other n s
      → SameBytes m n r s
  change_reply (Change.refusing q x h) (Change.refusing d y k) =
      refusal_bytes m n (same_refusal q d) x y
  change_reply (Change.refusing q x h) (Change.barring d f y k) = absurd (apart q d)
  change_reply (Change.refusing q x h) (Change.reading d f y) = absurd (apart q d)
  change_reply (Change.barring d f y k) (Change.refusing q x h) = absurd (apart q d)
  change_reply (Change.barring q f x h) (Change.barring d f' y k) =
      refusal_bytes m n (same_refusal f f') x y
  change_reply (Change.barring q f x h) (Change.reading d f' y) = absurd (apart f f')
  change_reply (Change.reading d f y) (Change.refusing q x h) = absurd (apart q d)
  change_reply (Change.reading d f' y) (Change.barring q f x h) = absurd (apart f f')
  change_reply (Change.reading q f x) (Change.reading d f' y) =
      let z = same_items q d in
      let v = same_items f f' in
      change_on_reply x (rw (← z, ← v) at y)
