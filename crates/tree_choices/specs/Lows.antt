-- The height that a choice gives, by the least heights of its children. For the contracts of inner
-- functions only.
use Rattle.std.specs.Prelude.{◌≡◌, List, ℕ, suc, ◌+◌, ◌-◌, ◌≤◌, max, length}
use Rattle.rows.specs.declared.Kind.{Kind}
use Rattle.rows.specs.Steps.{KidsSmall, LeftWithin}
use Rattle.heights.specs.Least.{number_at}

-- one more than the higher child, of a node over len tokens from s on
abbrev pub height_by : List ℕ → ℕ → Kind → ℕ → ℕ → ℕ
height_by hs n Kind.Empty s len = 1
height_by hs n Kind.Atom s len = 1
height_by hs n (Kind.Unary B) s len = suc (number_at hs n s len B)
height_by hs n (Kind.Binary B C k) s len =
    suc (max (number_at hs n s k B) (number_at hs n (s + k) (len - k) C))
height_by hs n Kind.Closed s len = 1

-- the node's children are in reach
pub record Inside (hs : List ℕ) (n : ℕ) (kind : Kind) (s len : ℕ) : Type 0 where
  pub few : n ≤ 64
  pub fits : s + len ≤ n
  pub long : length hs ≡ 133184
  pub small : KidsSmall kind
  pub split : LeftWithin kind len
