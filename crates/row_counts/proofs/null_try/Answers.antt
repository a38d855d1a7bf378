-- `null_try` meets its contract: a nonterminal that derives the empty word has a first tree, whose
-- count is found where its children's are known.
use mathlib.Core.Path.{◌≡◌, sym, ap, ◌∙◌, subst}
use mathlib.Core.Bool.{true, false}
use mathlib.Core.List.{[]}
use Prim.Native.Nat.{ℕ, ◌*◌, ◌≤◌, ◌<◌}
use native.Mathlib.Omega.{arith}
use lib.ListN.{length, get_or}
use Rattle.sets.proofs.Basics.{not_zero}
use Rattle.sets.specs.Says.{Says}
use Rattle.sets.specs.Sets.{In}
use Rattle.grammar.specs.Trees.{Tree, Derives}
use Rattle.grammar.specs.Choices.{FirstTree}
use Rattle.grammar.specs.Content.{rules_of}
use Rattle.grammar.specs.SpanSheet.{pairs, first_word}
use Rattle.grammar.proofs.ChoiceLaws.{first_witness, takes_of}
use Rattle.tree_choices.specs.Picks.{HasChoice}
use Rattle.row_counts.proofs.NullLaws.{small, found_size, not_known, passed_none}
use Rattle.row_counts.proofs.NullLaws.{passed_found}
use Rattle.row_counts.proofs.SizeLaws.{chosen_small}
use Rattle.row_counts.proofs.null_try.Lts
use Rattle.row_counts.proofs.null_try.Reads
use Rattle.row_counts.proofs.null_try.Tie
use Rattle.row_counts.proofs.null_try.Goals as goal

-- the bit of the empty word says whether a derives it
bit : (z : Lts.Start Tie.the-claims Reads.Pre Reads.Post Tie.handed_clauses) {b : _} → Says b
    (In (first_word z.args.words.now z.args.s.count 0 0) z.args.a) → b ≡ true
    → Derives (rules_of z.args.g) z.args.a []
bit z x e =
    let r = z.requires.ready.0 in
    let y = subst (λ (n : ℕ). In (first_word z.args.words.now n 0 0) z.args.a)
    (sym r.positioned.whole) (x.is e) in
    (r.sheet.one 0 0 z.args.a (omega arith) z.requires.ready.1).0 y

not_there : (z : Lts.Start Tie.the-claims Reads.Pre Reads.Post Tie.handed_clauses) {b : _}
    → b ≡ false
    → Says b (In (first_word z.args.words.now z.args.s.count 0 0) z.args.a)
    → (t : Tree) → FirstTree (rules_of z.args.g) z.args.a [] t → ⊥
not_there z e x t f =
    let r = z.requires.ready.0 in
    let y = (r.sheet.one 0 0 z.args.a (omega arith) z.requires.ready.1).1
    (record { tree = t; witness = first_witness f }) in
    x.isnt e (subst (λ (n : ℕ). In (first_word z.args.words.now n 0 0) z.args.a)
    r.positioned.whole y)

tree : (z : Lts.Start Tie.the-claims Reads.Pre Reads.Post Tie.handed_clauses) {b : _} → b ≡ true
    → Says b (In (first_word z.args.words.now z.args.s.count 0 0) z.args.a)
    → (t : Tree) × FirstTree (rules_of z.args.g) z.args.a [] t
tree z e x = z.requires.has_firsts.first z.args.a [] (bit z x e)

there : (z : Lts.Start Tie.the-claims Reads.Pre Reads.Post Tie.handed_clauses) {b : _} → b ≡ true
    → Says b (In (first_word z.args.words.now z.args.s.count 0 0) z.args.a)
    → HasChoice (rules_of z.args.g) z.args.a []
there z e x = let d = bit z x e in let t = takes_of d.witness.valid in
    (t.0, t.1, record { tree = d.tree; witness = d.witness; takes = t.2 })

pub returns-then-z-at-ne0 : goal.returns-then-z-at-ne0
returns-then-z-at-ne0 c =
    let a = c.args in
    passed_none _ c.requires.sound
    (λ B t d f k. not_zero _ (λ q. c.if-z-at-ne0.true
    (ap (λ (y : ℕ). get_or a.z.now y 0) (sym d) ∙ q)))

pub in_first-requires : goal.in_first-requires
in_first-requires c =
    let a = c.args in
    let r = c.requires.ready.0 in
    record {
      few = r.positioned.few;
      fits = omega arith;
      enough = subst (λ (n : ℕ). 2 * pairs n ≤ length a.words.now) r.positioned.whole
          r.sheet.enough;
      small = c.requires.ready.1;
    }

pub returns-then-not-in_first : goal.returns-then-not-in_first
returns-then-not-in_first c =
    let a = c.args in
    passed_none _ c.requires.sound
    (λ B t d f k. absurd (not_there c.before.before.before.before.before.before.before.before
    c.if-not-in_first.true c.in_first.ensures t
    (subst (λ (x : ℕ). FirstTree (rules_of a.g) x [] t) d f)))

pub choose-st-requires : goal.choose-st-requires
choose-st-requires c =
    let a = c.args in record {
      ready = (c.requires.ready.0, omega arith);
      has_choice = there c.before.before.before.before.before.before.before.before
          c.if-not-in_first.false
          c.in_first.ensures;
    }

pub null_size-n-requires : goal.null_size-n-requires
null_size-n-requires c =
    let a = c.args in record {
      z_len = c.requires.sound.long;
      by_index = small a.z.now c.requires.sound;
      small = chosen_small c.requires.ready.0.formed
          c.choose-st.ensures;
    }

pub returns-then-n-eq0 : goal.returns-then-n-eq0
returns-then-n-eq0 c =
    let choose-here = c.choose-st in
    let choose = choose-here in
    let a = c.args in
    passed_none _ c.requires.sound
    (λ B t d f k. absurd (not_known a.z.now c.requires.sound c.requires.ready.0.formed.distinct
    a.a t (subst (λ (x : ℕ). FirstTree (rules_of a.g) x [] t) d f) choose.result
    choose.ensures (sym c.null_size-n.ensures ∙ c.if-n-eq0.true) k))

pub returns : goal.returns
returns c =
    let a = c.args in
    let f = tree
    c.before.before.before.before.before.before.before.before.before.before.before
    c.if-not-in_first.false c.in_first.ensures in
    let p : 0 < c.null_size-n.result = not_zero _ c.if-n-eq0.false in
    passed_found a.a c.null_size-n.result f.0 c.requires.sound c.requires.ready.1
    c.if-z-at-ne0.false p f.1
    (found_size a.z.now c.requires.sound c.requires.ready.0.formed.distinct a.a f.0
    f.1 c.choose-st.result c.choose-st.ensures _ c.null_size-n.ensures p)
