-- The promises of the C functions settle the number and the lent memory: two results that meet a
-- promise are the same. Those on clause sheets are cases of the first three, with `clauses-apart`
-- for the trees.
use mathlib.Core.Path.{◌≡◌, sym, ap, ◌∙◌}
use mathlib.Core.List.{List, [], ◌∷◌}
use Prim.Native.Nat.{ℕ}
use Rattle.std.specs.Prelude.{Result}
use Rattle.grammar.specs.declared.Verdict.{Verdict}
use Rattle.sheets.specs.declared.Refusal.{Refusal}
use Rattle.sheets.specs.Results.{told_line}
use Rattle.answering.specs.declared.TreeRows.{TreeRows}
use Rattle.answering.specs.Results.{verdict_told, trees_told, first_rows, second_rows}
use Rattle.sweep_answers.specs.declared.Swept.{Swept}
use Rattle.sweep_answers.specs.Sweep.{sweep_told, sweep_sentence, sweep_tried}
use Rattle.list_answers.specs.Lists.{list_told, entry_count}
use Rattle.call_rows.specs.declared.CountedRows.{CountedRows}
use Rattle.call_rows.specs.Rows.{rows_told, first_count, second_count}
use Rattle.call_places.specs.declared.ListedPlaces.{ListedPlaces}
use Rattle.call_places.specs.Places.{places_told, places_count}
use Rattle.column_search.specs.declared.Flags.{Flags}
use Rattle.call_columns.specs.Columns.{columns_told, flags_of}
use Rattle.call_shares.specs.Share.{ShareResult, share_told, share_sentence}
use Rattle.call_shares.specs.Share.{share_number, share_quotient, share_remainder}
use Rattle.call_always.specs.declared.Told.{Told}
use Rattle.call_always.specs.Always.{always_count}
use Rattle.answering.proofs.Settled.{Words, Apart, verdict_settled, trees_settled}
use Rattle.answering.specs.Answers.{Sheets}
use Rattle.c_interface.specs.Always.{AlwaysWord}
use Rattle.c_interface.specs.Calls.{VerdictWord, TreesWord, SweepWord}
use Rattle.c_interface.specs.Columns.{ColumnsWord}
use Rattle.c_interface.specs.Expand.{ExpandWord}
use Rattle.c_interface.specs.Places.{PlacesWord}
use Rattle.c_interface.specs.Rights.{ShowWord, ChangeWord}
use Rattle.c_interface.specs.Rows.{RowsWord}
use Rattle.c_interface.specs.Shares.{ShareWord}
use Rattle.c_words.proofs.Words.{front_settled}
use Rattle.c_words.specs.Codes.{packed, told_packed}
use Rattle.c_words.specs.Words.{found_words, count_words, sentence_words, count_word, share_words}
use Rattle.c_words.specs.Words.{flag_words}
use Rattle.call_always.proofs.Settled.{always_settled}
use Rattle.call_clauses.proofs.Settled.{expand_settled}
use Rattle.call_columns.proofs.Settled.{columns_settled}
use Rattle.call_places.proofs.Settled.{places_settled}
use Rattle.call_rights.proofs.Settled.{show_settled, change_settled}
use Rattle.call_rows.proofs.Settled.{rows_settled}
use Rattle.call_shares.proofs.ShareSettled.{share_settled}
use Rattle.grammar.specs.Trees.{Rules}
use Rattle.sheets.specs.Items.{Reading}
use Rattle.sweep_answers.proofs.SweepSettled.{sweep_settled}

pub verdict_word_settled : {given : Sheets} {ws a b : List ℕ} {r s : ℕ} → Words a → Words b
    → VerdictWord given ws a r → VerdictWord given ws b s → (r ≡ s) × (a ≡ b)
verdict_word_settled p q x y =
    let z = verdict_settled p q x.promise y.promise in (
      x.word ∙ ap (λ (v : Result Verdict Refusal). packed (verdict_told v) (told_line v)) z.0
          ∙ sym y.word,
      z.1,
    )

pub trees_word_settled : {given : Sheets} {ws a b one two m m' n n' counts k k' : List ℕ} {r s : ℕ}
    → Apart given → Words a → Words b
    → TreesWord given ws a one m two n counts k r → TreesWord given ws b one m' two n' counts k' s
    → (r ≡ s) × ((a ≡ b) × ((m ≡ m') × ((n ≡ n') × (k ≡ k'))))
trees_word_settled d p q x y =
    let z = trees_settled d p q x.promise y.promise in
    let e = z.1.0 in (
      x.word ∙ ap (λ (v : Result TreeRows Refusal). packed (trees_told v) (told_line v)) e
          ∙ sym y.word,
      (
        z.0,
        (
          z.1.1.0,
          (
            z.1.1.1,
            front_settled
                (ap (λ (v : Result TreeRows Refusal). count_words (first_rows v) (second_rows v)) e)
                x.rows y.rows,
          ),
        ),
      ),
    )

pub sweep_word_settled : {given : Reading Rules} {k : ℕ} {ws a b found f f' : List ℕ} {r s : ℕ}
    → SweepWord given k ws a found f r → SweepWord given k ws b found f' s
    → (r ≡ s) × ((a ≡ b) × (f ≡ f'))
sweep_word_settled x y =
    let z = sweep_settled x.promise y.promise in (
      x.word ∙ ap (λ (v : Result Swept Refusal). packed (sweep_told v) (told_line v)) z.0
          ∙ sym y.word,
      (
        z.1,
        front_settled (ap (λ (v : Result Swept Refusal). found_words (sweep_sentence v)
            (sweep_tried v)) z.0)
            x.sentence y.sentence,
      ),
    )

pub rows_word_settled : {rules tokens ws a b counts k k' : List ℕ} {r s : ℕ} → Words a → Words b
    → RowsWord rules tokens ws a counts k r → RowsWord rules tokens ws b counts k' s
    → (r ≡ s) × ((a ≡ b) × (k ≡ k'))
rows_word_settled p q x y =
    let z = rows_settled p q x.promise y.promise in
    let e = ap (λ (v : Result CountedRows Refusal). count_words (count_word (first_count v))
    (count_word (second_count v)))
    z.0 in (
      x.word ∙ ap (λ (v : Result CountedRows Refusal). packed (rows_told v) (told_line v)) z.0
          ∙ sym y.word,
      (z.1, front_settled e x.rows y.rows),
    )

pub places_word_settled : {rules tokens ws a b l m n count k k' : List ℕ} {r s : ℕ} → Words a
    → Words b
    → PlacesWord rules tokens ws a l m count k r → PlacesWord rules tokens ws b l n count k' s
    → (r ≡ s) × ((a ≡ b) × ((m ≡ n) × (k ≡ k')))
places_word_settled p q x y =
    let z = places_settled p q x.promise y.promise in
    let e = ap (λ (v : Result ListedPlaces Refusal). places_count v ∷ []) z.0 in (
      x.word ∙ ap (λ (v : Result ListedPlaces Refusal). packed (places_told v) (told_line v)) z.0
          ∙ sym y.word,
      (z.1.0, (z.1.1, front_settled e x.entries y.entries)),
    )

pub expand_word_settled : {clauses sheet a b count k k' : List ℕ} {r s : ℕ}
    → ExpandWord clauses sheet a count k r → ExpandWord clauses sheet b count k' s
    → (r ≡ s) × ((a ≡ b) × (k ≡ k'))
expand_word_settled x y =
    let z = expand_settled x.promise y.promise in
    let e = ap (λ (v : Result ℕ Refusal). entry_count v ∷ []) z.0 in (
      x.word ∙ ap (λ (v : Result ℕ Refusal). packed (list_told v) (told_line v)) z.0
          ∙ sym y.word,
      (z.1, front_settled e x.bytes y.bytes),
    )

pub show_word_settled : {rules tokens rights : List ℕ} {user : ℕ}
    {ws a b one two m m' n n' counts k k' : List ℕ} {r s : ℕ} → Words a → Words b
    → ShowWord rules tokens rights user ws a one m two n counts k r
    → ShowWord rules tokens rights user ws b one m' two n' counts k' s
    → (r ≡ s) × ((a ≡ b) × ((m ≡ m') × ((n ≡ n') × (k ≡ k'))))
show_word_settled p q x y =
    let z = show_settled p q x.promise y.promise in
    let e = ap (λ (v : Result TreeRows Refusal). count_words (first_rows v) (second_rows v))
    z.1.0 in (
      x.word ∙ ap (λ (v : Result TreeRows Refusal). packed (trees_told v) (told_line v)) z.1.0
          ∙ sym y.word,
      (z.0, (z.1.1.0, (z.1.1.1, front_settled e x.rows y.rows))),
    )

pub change_word_settled : {rules rights : List ℕ} {user rule : ℕ}
    {lay bytes a b count k k' : List ℕ} {r s : ℕ}
    → ChangeWord rules rights user rule lay bytes a count k r
    → ChangeWord rules rights user rule lay bytes b count k' s → (r ≡ s) × ((a ≡ b) × (k ≡ k'))
change_word_settled x y =
    let z = change_settled x.promise y.promise in
    let e = ap (λ (v : Result ℕ Refusal). entry_count v ∷ []) z.0 in (
      x.word ∙ ap (λ (v : Result ℕ Refusal). packed (list_told v) (told_line v)) z.0
          ∙ sym y.word,
      (z.1, front_settled e x.entries y.entries),
    )

pub share_word_settled : (rules : List ℕ) (n p i : ℕ) {ws a b numbers k k' found f f' : List ℕ}
    {r s : ℕ}
    → ShareWord rules n p i ws a numbers k found f r
    → ShareWord rules n p i ws b numbers k' found f' s
    → (r ≡ s) × ((a ≡ b) × ((k ≡ k') × (f ≡ f')))
share_word_settled rules n p i x y =
    let z = share_settled rules n p i x.promise y.promise in (
      x.word ∙ ap (λ (v : ShareResult). packed (share_told v) (told_line v)) z.0 ∙ sym y.word,
      (
        z.1,
        (
          front_settled (ap (λ (v : ShareResult). share_words (share_number v) (share_quotient v)
              (share_remainder v)) z.0) x.values y.values,
          front_settled (ap (λ (v : ShareResult). sentence_words (share_sentence v)) z.0) x.sentence
              y.sentence,
        ),
      ),
    )

pub columns_word_settled : (rules ranges : List ℕ) {ws a b found k k' : List ℕ} {r s : ℕ}
    → ColumnsWord rules ranges ws a found k r → ColumnsWord rules ranges ws b found k' s
    → (r ≡ s) × ((a ≡ b) × (k ≡ k'))
columns_word_settled rules ranges x y =
    let z = columns_settled rules ranges x.promise y.promise in
    let e = ap (λ (v : Result Flags Refusal). flag_words (flags_of v)) z.0 in (
      x.word ∙ ap (λ (v : Result Flags Refusal). packed (columns_told v) (told_line v)) z.0
          ∙ sym y.word,
      (z.1, front_settled e x.flags y.flags),
    )

pub always_word_settled : {given : Reading Rules} {ws a b l m n count k k' : List ℕ} {r s : ℕ}
    → AlwaysWord given ws a l m count k r → AlwaysWord given ws b l n count k' s
    → (r ≡ s) × ((a ≡ b) × ((m ≡ n) × (k ≡ k')))
always_word_settled x y =
    let z = always_settled x.promise y.promise in
    let e = ap (λ (v : Result Told Refusal). always_count v ∷ []) z.0 in (
      x.word ∙ ap told_packed z.0 ∙ sym y.word,
      (z.1.0, (z.1.1, front_settled e x.entries y.entries)),
    )
