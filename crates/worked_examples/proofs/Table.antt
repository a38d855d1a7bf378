-- P1 to P9 hold: one test for each kind of claim, computed over the table.
use mathlib.Core.Path.{◌≡◌, refl, sym, ◌∙◌, subst}
use mathlib.Core.Bool.{Bool, true, false}
use mathlib.Core.List.{List, [], ◌∷◌}
use mathlib.Core.Logic.{⊎_elim}
use Prim.Native.Nat.{ℕ, ◌-◌, ◌≤◌}
use native.Mathlib.Nat.{not-suc-le-zero, le_trans}
use native.Mathlib.Omega.{arith}
use lib.Dec.{T}
use lib.ListN.{length}
use Rattle.grammar.specs.declared.Cell.{Cell}
use Rattle.grammar.specs.declared.Clause.{Clause}
use Rattle.grammar.specs.declared.Clause.TheVariants.{Empty, Atom, Unary, Binary}
use Rattle.grammar.specs.Layout.{Word, Every, line, col}
use Rattle.grammar.specs.Trees.{Tree, empty, leaf, unary, binary, word, Rules, Valid, valid_empty}
use Rattle.grammar.specs.Trees.{valid_leaf, valid_unary, valid_binary, TwoTrees}
use Rattle.grammar.specs.Candidates.{Rising, sentence, Terminal, Candidate, Earlier}
use Rattle.grammar.specs.Sweeps.{Clear, FirstTwo}
use Rattle.grammar.proofs.Lists.{both?, le?, and, and_left, and_right, all, all_every, holds}
use Rattle.grammar.proofs.Lists.{holds_yes, mem_every}
use Rattle.grammar.proofs.SweepLaws.{clear_of}
use Rattle.grammar.proofs.Marks.{word?}
use Rattle.sheets.specs.Items.{Reading, accepted, refused}
use Rattle.sheets.specs.RuleSheets.{rule_sheet}
use Rattle.sheets.specs.TokenSheets.{token_sheet}
use Rattle.worked_examples.specs.Claims.{two_trees, Claim, verdict, lefts, sweep}
use Rattle.worked_examples.specs.Claims.{every_sweep_clear, clear, two_at, Gives, FoundAt}
use Rattle.worked_examples.specs.Claims.{ClaimHolds}
use Rattle.worked_examples.specs.Patches.{patches}
use Rattle.worked_examples.proofs.Enumerate.{rising?, earlier?, candidate?, up_to, mem_up_to}
use Rattle.worked_examples.proofs.Verdicts.{chart, chart_good, reads, read, at_most_one}
use Rattle.worked_examples.proofs.Verdicts.{not_two, left_lengths, lefts_right}

-- where P holds, the test is asked for
abbrev where_holds : {P : Type 0} → Dec P → Bool → Bool
where_holds (yes p) b = b
where_holds (no n) b = true

where_right : {P : Type 0} (d : Dec P) (b : Bool) → T (where_holds d b) → P → T b
where_right (yes p) b t q = t
where_right (no n) b t q = absurd (n q)

-- the test of an arrangement: where its positions rise, it has not two trees
abbrev single : Rules → List Cell → Bool
single g cs = let r = at_most_one 0 (sentence cs) (chart g (sentence cs)) in
    where_holds (rising? (sentence cs)) r

single_right : (g : Rules) (cs : List Cell) → T (single g cs) → Rising (sentence cs)
    → TwoTrees g 0 (sentence cs) → ⊥
single_right g cs t r =
    not_two g 0 (sentence cs) (chart g (sentence cs)) (chart_good g (sentence cs))
    (where_right (rising? (sentence cs)) (at_most_one 0 (sentence cs) (chart g (sentence cs))) t r)

no_double : (g : Rules) (k : ℕ) → T (all (single g) (up_to g k)) → (cs : List Cell) → 1 ≤ length cs
    → length cs ≤ k → Candidate (Terminal g) (length cs) cs → TwoTrees g 0 (sentence cs) → ⊥
no_double g k t cs l h c =
    mem_every (λ ds. Rising (sentence ds) → TwoTrees g 0 (sentence ds) → ⊥) (up_to g k)
    (all_every (single g) (single_right g) (up_to g k) t)
    (mem_up_to g k (length cs) cs l h c) c.rising

abbrev spared : Rules → List Cell → List Cell → Bool
spared g cs ds = let s = single g ds in where_holds (earlier? ds cs) s

abbrev first? : Rules → ℕ → List Cell → Bool
first? g k cs =
    let e = all (spared g cs) (up_to g k) in
    let r = and (reads two_trees 0 (sentence cs) (chart g (sentence cs))) e in
    and (holds (both? (candidate? g (length cs) cs)
    (both? (le? 1 (length cs)) (le? (length cs) k)))) r

earlier_length : (ds cs : List Cell) → Earlier ds cs → length ds ≤ length cs
earlier_length ds cs e = ⊎_elim (λ h. omega arith) (λ h. omega arith) e

first_right : (g : Rules) (k : ℕ) (cs : List Cell) → T (first? g k cs) → FirstTwo g k cs
first_right g k cs t =
    let a = holds (both? (candidate? g (length cs) cs)
    (both? (le? 1 (length cs)) (le? (length cs) k))) in
    let b = reads two_trees 0 (sentence cs) (chart g (sentence cs)) in
    let e = all (spared g cs) (up_to g k) in
    let h = holds_yes (both? (candidate? g (length cs) cs)
    (both? (le? 1 (length cs)) (le? (length cs) k))) (and_left a (and b e) t) in
    let r = and_right a (and b e) t in
    record {
      low = h.1.0;
      high = h.1.1;
      candidate = h.0;
      two = read g 0 (sentence cs) two_trees (chart g (sentence cs)) (chart_good g (sentence cs))
          (and_left b e r);
      earlier =
          λ ds l c f. mem_every (λ es. Earlier es cs → Rising (sentence es)
          → TwoTrees g 0 (sentence es) → ⊥) (up_to g k)
          (all_every (spared g cs) (λ es s q. single_right g es
          (where_right (earlier? es cs) (single g es) s q)) (up_to g k) (and_right b e r))
          (mem_up_to g k (length ds) ds l (le_trans (earlier_length ds cs f) h.1.1) c) f
          c.rising;
    }

-- no A rule: no tree has a word
abbrev no_atom : Clause → Bool
no_atom Empty = true
no_atom (Atom a b) = false
no_atom (Unary B m) = true
no_atom (Binary B C m) = true

abbrev no_atoms : Rules → Bool
no_atoms g = all (λ r. no_atom r.clause) g

wordless : (g : Rules) → T (no_atoms g) → (t : Tree) → Valid g t → word t ≡ []
wordless g n (empty A) (valid_empty h) = refl
wordless g n (leaf A t) (valid_leaf h) = absurd
    (mem_every (λ r. T (no_atom r.clause)) g
    (all_every (λ r. no_atom r.clause) (λ r k. k) g n) h.rule)
wordless g n (unary A t) (valid_unary m h μ v) = wordless g n t v
wordless g n (binary A s t) (valid_binary m h μ v u) = rw (wordless g n s v) (wordless g n t u)

silent : (g : Rules) → T (no_atoms g) → (k : ℕ) → Clear g k
silent g n k =
    record {
      absent =
          λ w s r some le pair. not-suc-le-zero
          (subst (λ (x : Word). 1 ≤ length x)
          (sym pair.witness₁.spelled ∙ wordless g n pair.first pair.witness₁.valid)
          some);
    }

-- the cells of a word whose lines rise from line 1 on
abbrev cells_from_of : ℕ → Word → List Cell
cells_from_of l [] = []
cells_from_of l (t ∷ w) =
    record { terminal = t.terminal; step = line t - l; column = col t } ∷ cells_from_of (line t) w

abbrev found_at : Rules → ℕ → Word → Bool
found_at g k w = let r = first? g k (cells_from_of 1 w) in
    and (holds (word? (sentence (cells_from_of 1 w)) w)) r

found_right : (g : Rules) (k : ℕ) (w : Word) → T (found_at g k w) → FoundAt g k w
found_right g k w t =
    let same = holds (word? (sentence (cells_from_of 1 w)) w) in
    let first = first? g k (cells_from_of 1 w) in
    record {
      cells = cells_from_of 1 w;
      spelled = holds_yes (word? (sentence (cells_from_of 1 w)) w) (and_left same first t);
      first = first_right g k (cells_from_of 1 w) (and_right same first t);
    }

-- what a sheet gives passes the test
abbrev given : {A : Type 0} → Reading A → (A → Bool) → Bool
given (accepted l) p = p l
given (refused f n) p = false

given_right : {A : Type 0} {P : A → Type 0} (o : Reading A) (p : A → Bool)
    → ((l : A) → T (p l) → P l) → T (given o p) → Gives o P
given_right (accepted l) p h t = record { content = l; reads = refl; holds = h l t }
given_right (refused f n) p h t = absurd t

-- the test of a claim
abbrev pub check : Claim → Bool
check (verdict rules tokens A v) =
    given (rule_sheet rules) (λ g. given (token_sheet tokens) (λ w. reads v A w (chart g w)))
check (lefts rules tokens A l) =
    given (rule_sheet rules) (λ g. given (token_sheet tokens) (λ w. left_lengths A w (chart g w) l))
check (sweep rules k clear) = given (rule_sheet rules) (λ g. all (single g) (up_to g k))
check (sweep rules k (two_at tokens)) =
    given (rule_sheet rules) (λ g. given (token_sheet tokens) (found_at g k))
check (every_sweep_clear rules) = given (rule_sheet rules) no_atoms

pub checked : (c : Claim) → T (check c) → ClaimHolds c
checked (verdict rules tokens A v) t =
    given_right (rule_sheet rules) _
    (λ g. given_right (token_sheet tokens) (λ w. reads v A w (chart g w))
    (λ w. read g A w v (chart g w) (chart_good g w))) t
checked (lefts rules tokens A l) t =
    given_right (rule_sheet rules) _
    (λ g. given_right (token_sheet tokens) (λ w. left_lengths A w (chart g w) l)
    (λ w. lefts_right g A w l (chart g w) (chart_good g w))) t
checked (sweep rules k clear) t =
    given_right (rule_sheet rules) _ (λ g h. clear_of k (no_double g k h)) t
checked (sweep rules k (two_at tokens)) t = given_right (rule_sheet rules) _
    (λ g. given_right (token_sheet tokens) (found_at g k) (found_right g k)) t
checked (every_sweep_clear rules) t = given_right (rule_sheet rules) no_atoms silent t

-- P1 to P9
pub patches_hold : Every ClaimHolds patches
patches_hold = all_every check checked patches tt
