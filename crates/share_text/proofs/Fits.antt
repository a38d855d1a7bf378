-- A found sentence has at most 7 tokens.
use mathlib.Core.Path.{◌≡◌, ap}
use mathlib.Core.List.{List}
use Prim.Native.Nat.{ℕ, ◌≤◌}
use native.Mathlib.Omega.{arith}
use Rattle.grammar.specs.Trees.{Rules}
use Rattle.grammar.proofs.SweepLaws.{sentence_length}
use Rattle.call_shares.specs.Share.{ShareOn, bound, many, racks, beyond, short, clear, two, ShareOf}
use Rattle.call_shares.specs.Share.{refusing, reading, ShareResult, share_sentence}

none_few : {r s : ShareResult} → r ≡ s → (share_sentence s).count ≤ 7 → (share_sentence r).count ≤ 7
none_few e h = omega (arith, ap (λ (x : ShareResult). (share_sentence x).count) e)

on_few : {g : Rules} {n p i : ℕ} {words words' : List ℕ} {r : ShareResult}
    → ShareOn g n p i words words' r → (share_sentence r).count ≤ 7
on_few (bound l m e h) = none_few e (omega arith)
on_few (many k u o q e h) = none_few e (omega arith)
on_few (racks k o q e h) = none_few e (omega arith)
on_few (beyond k u o q v e h) = none_few e (omega arith)
on_few (short k u o q v w e h) = none_few e (omega arith)
on_few (clear t c e h) = none_few e (omega arith)
on_few (two {cs = cs} t c e h) =
    none_few e (omega (arith, sentence_length 1 cs, c.candidate.arranged.size, t.size.high))

pub share_few : {rules : List ℕ} {n p i : ℕ} {words words' : List ℕ} {r : ShareResult}
    → ShareOf rules n p i words words' r → (share_sentence r).count ≤ 7
share_few (refusing e x h) = none_few x (omega arith)
share_few (reading e s) = on_few s
