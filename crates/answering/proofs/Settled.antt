-- The promises settle the answer and the lent memory: two results that meet a promise are the same.
use mathlib.Core.Path.{◌≡◌, refl, sym, ap, ◌∙◌}
use mathlib.Core.Logic.{◌⊎◌, ⊎_elim}
use mathlib.Core.List.{List, ◌++◌}
use Prim.Native.Nat.{ℕ, ◌-◌, ◌*◌, ◌^◌, ◌≤◌, ◌<◌}
use native.Mathlib.Omega.{arith}
use lib.ListN.{length, get_or, replicate, take-append-drop}
use Rattle.grammar.specs.Layout.{Word}
use Rattle.grammar.specs.Trees.{Tree, Rules, NoTree, OneTree, TwoTrees}
use Rattle.grammar.specs.Choices.{FirstTree, SecondTree}
use Rattle.grammar.proofs.VerdictLaws.{none_not_one, none_not_two, one_not_two, verdict_same}
use Rattle.sheets.specs.declared.Fault.{Fault}
use Rattle.sheets.specs.Refusals.{number_of}
use Rattle.sheets.proofs.Numbers.{same_fault}
use Rattle.sheets.specs.Items.{Reading, accepted, refused}
use Rattle.sheets.proofs.Once.{never_both, apart, same_items, same_refusal}
use Rattle.sheets.specs.RuleSheets.{rule_sheet}
use Rattle.sheets.specs.TokenSheets.{token_sheet}
use Rattle.sheets.proofs.Accepted.{rules_good}
use Rattle.spans.proofs.Uniqueness.{sheet_same}
use Rattle.std.specs.Prelude.{Result, Ok}
use Rattle.grammar.specs.declared.Verdict.{Verdict}
use Rattle.sheets.specs.declared.Refusal.{Refusal}
use Rattle.sheets.specs.Results.{refusal}
use Rattle.answering.specs.Answers.{Sheets, with_tokens, with_rules, sheets}
use Rattle.answering.specs.declared.TreeRows.{TreeRows}
use Rattle.answering.specs.Verdict.{needed, SheetFilled, VerdictOn, short, judging, VerdictBy}
use Rattle.answering.specs.Verdict.{refusing, reading}
use Rattle.answering.specs.Trees.{trees_reply_of, Shown, treeless, single, both, large_one}
use Rattle.answering.specs.Trees.{large_two, TreesOn, TreesBy}
use Rattle.answering.specs.Trees as Trees
use Rattle.tree_writer.specs.Written.{Display, in_full_of, filled}
use mathlib.Core.Option.{none, some}
use Rattle.grammar.proofs.ChoiceLaws.{first_unique, second_tree_unique}
use Rattle.grammar.specs.Distinct.{Distinct}

-- 1. words

-- words of the machine
abbrev pub Words : List ℕ → Type 0
Words ws = (q : ℕ) → get_or ws q 0 < 2 ^ 64

pub filled_same : {g : Rules} {w : Word} {ws a b : List ℕ} → Words a → Words b
    → SheetFilled g w ws a → SheetFilled g w ws b → a ≡ b
filled_same {g} {w} {ws} {a} {b} p q x y =
    let n = needed w in
    let front = sheet_same g w a b p q x.sheet y.sheet in
    sym (take-append-drop n a) ∙ (λ i. front i ++ (x.past ∙ sym y.past) i)
    ∙ take-append-drop n b

-- 2. the verdict

pub same_sheets : {o : Sheets} {g g' : Rules} {w w' : Word} → o ≡ accepted (g, w)
    → o ≡ accepted (g', w') → (g ≡ g') × (w ≡ w')
same_sheets e d = let z = same_items e d in
    (ap (λ (p : Rules × Word). p.0) z, ap (λ (p : Rules × Word). p.1) z)

-- both sheets are accepted: the rules are the first sheet's, the word is the token sheet's
pub both_sheets : (o : Reading Rules) (tokens : List ℕ) (g : Rules) (w : Word)
    → with_rules o tokens ≡ accepted (g, w) → (o ≡ accepted g) × (token_sheet tokens ≡ accepted w)
both_sheets (refused n l) tokens g w e = absurd (never_both refl e)
both_sheets (accepted h) tokens g w e = go (token_sheet tokens) e
  where
    go : (q : Reading Word) → with_tokens h q ≡ accepted (g, w)
        → (accepted h ≡ accepted g) × (q ≡ accepted w)
    go (refused n l) d = absurd (never_both refl d)
    go (accepted v) d =
        let z = same_items refl d in
        (ap (λ (p : Rules × Word). accepted p.0) z, ap (λ (p : Rules × Word). accepted p.1) z)

verdict_on : (g : Rules) (w : Word) {ws a b : List ℕ} {r s : Result Verdict Refusal} → Words a
    → Words b
    → VerdictOn g w ws a r → VerdictOn g w ws b s → (r ≡ s) × (a ≡ b)
verdict_on g w p q (short {f = f} l n x h) (short {f = f'} m o y k) =
    let z : f ≡ f' = same_fault f f' 21 n o in
    (x ∙ rw z (sym y), h ∙ sym k)
verdict_on g w p q (short l n x h) (judging y m k) =
    absurd (omega (arith, k.sheet.enough, k.long))
verdict_on g w p q (judging y m k) (short l n x h) =
    absurd (omega (arith, k.sheet.enough, k.long))
verdict_on g w p q (judging {v = v} x l h) (judging {v = v'} y m k) =
    let a : v ≡ v' = verdict_same g 0 w v v' x y in
    (l ∙ ap (λ (z : Verdict). Ok z) a ∙ sym m, filled_same p q h k)

pub verdict_settled : {given : Sheets} {ws a b : List ℕ} {r s : Result Verdict Refusal} → Words a
    → Words b
    → VerdictBy given ws a r → VerdictBy given ws b s → (r ≡ s) × (a ≡ b)
verdict_settled p q (refusing e x h) (refusing d y k) =
    let z = same_refusal e d in
    (x ∙ rw (z.0, z.1) (sym y), h ∙ sym k)
verdict_settled p q (refusing e x h) (reading d y) = absurd (apart e d)
verdict_settled p q (reading d y) (refusing e x h) = absurd (apart e d)
verdict_settled p q (reading {g = g} {w = w} e x) (reading d y) =
    let z = same_sheets e d in
    verdict_on g w p q x (rw (← z.0, ← z.1) at y)

-- 3. the trees

-- the same reply and the same memories
abbrev pub Same : (a b c d : List ℕ) (r s : Result TreeRows Refusal) → Type 0
Same a b c d r s = (r ≡ s) × ((a ≡ b) × (c ≡ d))

-- the same verdict, and first and second trees with the same rows
pub record SameTrees (dis : Display) (g g' : Rules) (w w' : Word) : Type 0 where
  pub no_tree : NoTree g 0 w → NoTree g' 0 w'
  pub one_tree : OneTree g 0 w → OneTree g' 0 w'
  pub two_trees : TwoTrees g 0 w → TwoTrees g' 0 w'
  pub first : {t t' : Tree} → FirstTree g 0 w t → FirstTree g' 0 w' t'
      → (dis.bytes t ≡ dis.bytes t') × (dis.number t ≡ dis.number t')
  pub second : {u u' : Tree} → SecondTree g 0 w u → SecondTree g' 0 w' u'
      → (dis.bytes u ≡ dis.bytes u') × (dis.number u ≡ dis.number u')

same_self : (dis : Display) (g : Rules) (w : Word) → Distinct g → SameTrees dis g g w w
same_self dis g w D =
    record {
      no_tree = λ p. p;
      one_tree = λ p. p;
      two_trees = λ p. p;
      first = λ a b. let e = first_unique a b in (ap dis.bytes e, ap dis.number e);
      second = λ a b. let e = second_tree_unique D a b in (ap dis.bytes e, ap dis.number e);
    }

-- of such sentences the reply is the same, and each byte of both tree memories
module _ (dis : Display) {g g' : Rules} {w w' : Word} (A : SameTrees dis g g' w w')
    (one two : List ℕ) where
  filled_alike : (l : List ℕ) {t u : Tree}
      → (dis.bytes t ≡ dis.bytes u) × (dis.number t ≡ dis.number u)
      → filled dis l (some t) ≡ filled dis l (some u)
  filled_alike l e = λ i. e.0 i ++ replicate (length l - 4 * e.1 i) 0

  -- both trees fit both times or neither
  never_two : {p p' q q' m n : ℕ} → p ≡ p' → q ≡ q' → p ≤ m → q ≤ n → (m < p') ⊎ (n < q') → ⊥
  never_two e f h k l = ⊎_elim (λ x. omega arith) (λ x. omega arith) l

  large_same : {f f' : Fault} {a b c d : List ℕ} {r s : Result TreeRows Refusal} → number_of f ≡ 22
      → number_of f' ≡ 22
      → r ≡ refusal f 0 → s ≡ refusal f' 0
      → a ≡ filled dis one none → b ≡ filled dis one none → c ≡ filled dis two none
      → d ≡ filled dis two none → Same a b c d r s
  large_same {f} {f'} m n x y h k i j = (
    x ∙ ap (λ (z : Fault). refusal z 0) (same_fault f f' 22 m n)
        ∙ sym y,
    (h ∙ sym k, i ∙ sym j),
  )

  pub shown_same : {a b c d : List ℕ} {r s : Result TreeRows Refusal} → Shown dis g w one a two c r
      → Shown dis g' w' one b two d s → Same a b c d r s
  shown_same (treeless p x h i) (treeless q y k j) = (x ∙ sym y, (h ∙ sym k, i ∙ sym j))
  shown_same (treeless p x h i) (single q t l y k j) = absurd (none_not_one (A.no_tree p) q)
  shown_same (treeless p x h i) (both q t u l m y k j) = absurd (none_not_two (A.no_tree p) q)
  shown_same (treeless p x h i) (large_one q t l n y k j) = absurd (none_not_one (A.no_tree p) q)
  shown_same (treeless p x h i) (large_two q t u l n y k j) = absurd (none_not_two (A.no_tree p) q)
  shown_same (single p t l x h i) (treeless q y k j) = absurd (none_not_one q (A.one_tree p))
  shown_same (single p a l x h i) (single q b m y k j) =
      let e = A.first a b in (
        x ∙ ap (λ (n : ℕ). trees_reply_of Verdict.One n 0) e.1
            ∙ sym y,
        (h ∙ filled_alike one e ∙ sym k, i ∙ sym j),
      )
  shown_same (single p a l x h i) (both q t u m n y k j) = absurd (one_not_two (A.one_tree p) q)
  shown_same (single p a l x h i) (large_one q b m n y k j) =
      absurd (omega (arith, (A.first a b).1))
  shown_same (single p a l x h i) (large_two q t u m n y k j) =
      absurd (one_not_two (A.one_tree p) q)
  shown_same (both p t u l m x h i) (treeless q y k j) = absurd (none_not_two q (A.two_trees p))
  shown_same (both p t u l m x h i) (single q a n y k j) = absurd (one_not_two q (A.two_trees p))
  shown_same (both p a c l m x h i) (both q b e n o y k j) =
      let v = A.first a b in
      let z = A.second c e in (
        x ∙ (λ i. trees_reply_of Verdict.Two (v.1 i) (z.1 i))
            ∙ sym y,
        (h ∙ filled_alike one v ∙ sym k, i ∙ filled_alike two z ∙ sym j),
      )
  shown_same (both p t u l m x h i) (large_one q a n o y k j) =
      absurd (one_not_two q (A.two_trees p))
  shown_same (both p a c l m x h i) (large_two q b e n o y k j) =
      absurd (never_two (A.first a b).1 (A.second c e).1 l m n)
  shown_same (large_one p t l n x h i) (treeless q y k j) = absurd (none_not_one q (A.one_tree p))
  shown_same (large_one p a l n x h i) (single q b m y k j) =
      absurd (omega (arith, (A.first a b).1))
  shown_same (large_one p a l n x h i) (both q t u m o y k j) =
      absurd (one_not_two (A.one_tree p) q)
  shown_same (large_one p a l m x h i) (large_one q b n o y k j) = large_same m o x y h k i j
  shown_same (large_one p a l m x h i) (large_two q t u n o y k j) =
      absurd (one_not_two (A.one_tree p) q)
  shown_same (large_two p t u l n x h i) (treeless q y k j) =
      absurd (none_not_two q (A.two_trees p))
  shown_same (large_two p t u l n x h i) (single q a m y k j) =
      absurd (one_not_two q (A.two_trees p))
  shown_same (large_two p b e n o x h i) (both q a c l m y k j) =
      absurd (never_two (sym (A.first b a).1) (sym (A.second e c).1) l m n)
  shown_same (large_two p t u l n x h i) (large_one q a m o y k j) =
      absurd (one_not_two q (A.two_trees p))
  shown_same (large_two p a c l m x h i) (large_two q b e n o y k j) = large_same m o x y h k i j

pub shown_settled : (dis : Display) (g : Rules) (w : Word) (one two : List ℕ) → Distinct g
    → {a b c d : List ℕ} {r s : Result TreeRows Refusal}
    → Shown dis g w one a two c r → Shown dis g w one b two d s → Same a b c d r s
shown_settled dis g w one two D = shown_same dis (same_self dis g w D) one two

pub trees_on : (dis : Display) (g : Rules) (w : Word) {ws a b one two m m' n n' : List ℕ}
    {r s : Result TreeRows Refusal} → Distinct g → Words a → Words b
    → TreesOn dis g w ws a one m two n r → TreesOn dis g w ws b one m' two n' s
    → (a ≡ b) × Same m m' n n' r s
trees_on dis g w D p q (Trees.short {f = f} u v x h i j) (Trees.short {f = f'} m n y k l o) = (
  h ∙ sym k,
  (
    x ∙ ap (λ (z : Fault). refusal z 0)
        (same_fault f f' 21 v n) ∙ sym y,
    (i ∙ sym l, j ∙ sym o),
  ),
)
trees_on dis g w D p q (Trees.short u v x h i j) (Trees.showing k y) =
    absurd (omega (arith, k.sheet.enough, k.long))
trees_on dis g w D p q (Trees.showing k y) (Trees.short u v x h i j) =
    absurd (omega (arith, k.sheet.enough, k.long))
trees_on dis g w {one = one} {two = two} D p q (Trees.showing h x) (Trees.showing k y) =
    (filled_same p q h k, shown_settled dis g w one two D x y)

-- the rules that sheets give are distinct: what refusal 5 sees to
pub record Apart (given : Sheets) : Type 0 where
  pub distinct : (g : Rules) (w : Word) → given ≡ accepted (g, w) → Distinct g

pub apart_of : (o : Reading Rules) (tokens : List ℕ) → ((g : Rules) → o ≡ accepted g → Distinct g)
    → Apart (with_rules o tokens)
apart_of o tokens d = record { distinct = λ g w e. d g (both_sheets o tokens g w e).0 }

pub sheets_apart : (rules tokens : List ℕ) → Apart (sheets rules tokens)
sheets_apart rules tokens =
    apart_of (rule_sheet rules) tokens (λ g e. (rules_good rules g e).distinct)

pub trees_settled : {given : Sheets} {ws a b one two m m' n n' : List ℕ}
    {r s : Result TreeRows Refusal}
    → Apart given → Words a → Words b
    → TreesBy given ws a one m two n r → TreesBy given ws b one m' two n' s
    → (a ≡ b) × Same m m' n n' r s
trees_settled d p q (Trees.refusing e x h i j) (Trees.refusing u y k l o) =
    let z = same_refusal e u in
    (h ∙ sym k, (x ∙ rw (z.0, z.1) (sym y), (i ∙ sym l, j ∙ sym o)))
trees_settled d p q (Trees.refusing e x h i j) (Trees.reading u y) = absurd (apart e u)
trees_settled d p q (Trees.reading u y) (Trees.refusing e x h i j) = absurd (apart e u)
trees_settled d p q (Trees.reading {g = g} {w = w} e x) (Trees.reading u y) =
    let z = same_sheets e u in
    trees_on in_full_of g w (d.distinct g w e) p q x (rw (← z.0, ← z.1) at y)
