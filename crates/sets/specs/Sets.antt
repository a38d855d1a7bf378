-- Sets of numbers as the binary digits of a number: bit a is 1 exactly if a is a member.
use Rattle.std.specs.Prelude.{◌≡◌, ℕ, ◌/◌, ◌%◌, ◌^◌}

-- bit a of s is 1
pub record In (s a : ℕ) : Type 0 where
  pub digit : s / 2 ^ a % 2 ≡ 1
