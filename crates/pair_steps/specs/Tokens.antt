-- The terminals at the points of a frame that two nodes and their children leave. For the contracts
-- of inner functions only.
use Rattle.std.specs.Prelude.{ℕ, ◌≤◌, ◌<◌, min, ◌≡◌}
use Rattle.sets.specs.Sets.{In}
use Rattle.pair_offsets.specs.declared.Frame.{Frame}
use Rattle.pair_steps.specs.declared.Node.{Node}
use Rattle.pair_steps.specs.declared.Words.{Words}
use Rattle.pair_steps.specs.Leaving.{first_stop_of, second_stop}

-- all 64 terminals
abbrev pub all_terminals : ℕ
all_terminals = 18446744073709551615

-- what is asked of the terminal at r: the set's, if r is p; if r is p and there are two children;
-- or if pieces from a to b and from c to d share a token and r is where the one ends and the other
-- goes on
abbrev pub AtPlace : ℕ → ℕ → ℕ → ℕ → Type 0
AtPlace p r set z = p ≡ r → In set z

abbrev pub AtCut : ℕ → ℕ → ℕ → ℕ → ℕ → Type 0
AtCut kids p r set z = 2 ≤ kids → p ≡ r → In set z

abbrev pub AtStop : ℕ → ℕ → ℕ → ℕ → ℕ → ℕ → ℕ → Type 0
AtStop a b c d r set z =
    a < d → c < b → (b < d → b ≡ r → In set z) × (d < b → d ≡ r → In set z)

-- of the nodes that start there, of a node and a child of the other, of two children
abbrev pub BeginsLeave : Frame → Node → Node → ℕ → ℕ → Type 0
BeginsLeave f x y r z =
    AtPlace f.start r x.begin z
    × AtCut x.kids f.cut r x.next z
    × AtPlace f.begin r y.begin z
    × AtCut y.kids f.split r y.next z

abbrev pub NodesLeave : Frame → ℕ → ℕ → ℕ → ℕ → Words → ℕ → ℕ → Type 0
NodesLeave f t v u s n r z =
    AtStop f.begin f.end f.start t r n.yc z
    × AtStop f.begin f.end f.cut u r n.yd z
    × AtStop f.start f.stop f.begin v r n.xc z
    × AtStop f.start f.stop f.split s r n.xd z

abbrev pub KidsLeave : Frame → ℕ → ℕ → ℕ → ℕ → Words → ℕ → ℕ → Type 0
KidsLeave f t v u s n r z =
    AtStop f.start t f.begin v r n.cc z
    × AtStop f.start t f.split s r n.cd z
    × AtStop f.cut u f.begin v r n.dc z
    × AtStop f.cut u f.split s r n.dd z

pub record TokensBy (f : Frame) (x y : Node) (n : Words) (t v u s r z : ℕ) : Type 0 where
  pub begins : BeginsLeave f x y r z
  pub nodes : NodesLeave f t v u s n r z
  pub kids : KidsLeave f t v u s n r z

abbrev pub TokensLeave : Frame → Node → Node → Words → ℕ → ℕ → Type 0
TokensLeave f x y n r z =
    TokensBy f x y n (first_stop_of x.kids f.cut f.stop)
    (first_stop_of y.kids f.split f.end)
    (second_stop x.kids f.stop) (second_stop y.kids f.end) r z

-- q has those left at the stop that comes first
pub record TokensMost (f : Frame) (x y : Node) (n : Words) (q : ℕ) : Type 0 where
  pub has : (z : ℕ) → z < 64 → TokensLeave f x y n (min f.stop f.end) z → In q z

-- some terminal is left at r
pub record SomeAt (f : Frame) (x y : Node) (n : Words) (r : ℕ) : Type 0 where
  pub terminal : ℕ
  pub low : terminal < 64
  pub leaves : TokensLeave f x y n r terminal

-- one is left at each point
pub record PointsHave (f : Frame) (x y : Node) (n : Words) : Type 0 where
  pub start : SomeAt f x y n f.start
  pub cut : SomeAt f x y n f.cut
  pub begin : SomeAt f x y n f.begin
  pub split : SomeAt f x y n f.split
  pub stop : SomeAt f x y n f.stop
  pub end : SomeAt f x y n f.end

-- r has those left at the stop that comes first, if one is left at each point
pub record TokensFound (f : Frame) (x y : Node) (n : Words) (r : ℕ) : Type 0 where
  pub all : PointsHave f x y n → (z : ℕ) → z < 64 → TokensLeave f x y n (min f.stop f.end) z
      → In r z
  pub only : (z : ℕ) → In r z
      → PointsHave f x y n × (z < 64) × TokensLeave f x y n (min f.stop f.end) z
