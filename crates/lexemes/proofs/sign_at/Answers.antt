use mathlib.Core.Path.{◌≡◌, refl, sym, ap, ◌∙◌}
use Rattle.std.proofs.Common.{[]}
use native.Mathlib.Omega.{arith}
use native.Mathlib.Numerals.{add-one}
use lib.ListN.{drop, length-drop, drop_of_length-le}
use Rattle.clauses.specs.Text.{opening}
use Rattle.lexemes.specs.Lexemes.{sign, signs, first_sign, items}
use Rattle.lexemes.specs.Answers.{lexed_at, sign_at_of}
use Rattle.lexemes.proofs.Laws.{signs_bytes, signs_many, standing_within, search_stands}
use Rattle.lexemes.proofs.Laws.{search_on}
use Rattle.lexemes.proofs.sign_at.Goals as goal

pub loop-i-init : goal.loop-i-init
loop-i-init c = (omega arith, refl)

pub overflow_add-result : goal.overflow_add-result
overflow_add-result c =
    let a = c.args in
    let z = standing_within (sign_at_of c.loop-i.i).bytes (drop a.at a.s.now) in
    omega (arith, c.sign_stands-k.ensures, length-drop a.at a.s.now)

pub returns-then-k-gt0 : goal.returns-then-k-gt0
returns-then-k-gt0 c =
    let a = c.args in
    let k = c.sign_stands-k.ensures in
    let f = search_stands signs (drop a.at a.s.now) c.loop-i.i (sign [] opening)
    (omega (arith, signs_many)) (omega (arith, k, c.if-k-gt0.true)) in
    let g = c.loop-i.invariant.1 ∙ f in
    rw (c.sign.ensures, k) (sym (ap (lexed_at a.at) g))

pub loop-i-preserved : goal.loop-i-preserved
loop-i-preserved c =
    let a = c.args in
    let k = c.sign_stands-k.ensures in
    let f = search_on signs (drop a.at a.s.now) c.loop-i.i (sign [] opening) signs_bytes
    (omega (arith, signs_many)) (omega (arith, k, c.if-k-gt0.false)) in
    (omega arith, rw (add-one c.loop-i.i) (c.loop-i.invariant.1 ∙ f))

pub returns : goal.returns
returns c =
    let a = c.args in
    let e : drop c.loop-i.i signs ≡ [] =
    drop_of_length-le signs {i = c.loop-i.i} (omega (arith, signs_many)) in
    let g : first_sign signs (drop a.at a.s.now) ≡ items (drop a.at a.s.now) =
    c.loop-i.invariant.1 ∙ rw e refl in
    c.item_at.ensures ∙ ap (lexed_at a.at) (sym g)
