-- `joined` meets its contract.
use mathlib.Core.Path.{◌≡◌, ap, ◌∙◌}
use Prim.Native.Nat.{ℕ, ◌<◌, ◌+◌, ◌*◌, ◌/◌, ◌%◌}
use native.Mathlib.Omega.{arith}
use Rattle.rule_words.specs.Words.{clause_of_of, word_rule}
use Rattle.rule_words.proofs.joined.Goals as goal

lowest : (a b : ℕ) → a < 256 → (a + 256 * b) % 256 ≡ a
lowest a b h = omega arith

pub returns : goal.returns
unfolding word_rule
returns c =
    let a = c.args in
    let w = a.left + 256 * a.kind + 65536 * a.first + 16777216 * a.second in
    let l : w % 256 ≡ a.left = omega arith in
    let k : w / 256 % 256 ≡ a.kind =
    ap (λ (n : ℕ). n % 256) (let z : w / 256 ≡ a.kind + 256 * (a.first + 256 * a.second) =
    omega arith in z) ∙ lowest _ _ (omega arith) in
    let f : w / 65536 % 256 ≡ a.first =
    ap (λ (n : ℕ). n % 256) (let z : w / 65536 ≡ a.first + 256 * a.second = omega arith in z)
    ∙ lowest _ _ (omega arith) in
    let s : w / 16777216 % 256 ≡ a.second =
    ap (λ (n : ℕ). n % 256) (let z : w / 16777216 ≡ a.second + 256 * 0 = omega arith in z)
    ∙ lowest _ 0 (omega arith) in
    λ i. record { left = l i; clause = clause_of_of (k i) (f i) (s i) }
