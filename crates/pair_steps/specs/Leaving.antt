-- What two nodes over a frame ask of the six offsets, and the offsets that are left. For the
-- contracts of inner functions only.
use Rattle.std.specs.Prelude.{◌≡◌, ℕ, zero, suc, ◌+◌, ◌*◌, ◌/◌, ◌%◌, ◌≤◌, ◌<◌, List, get_or}
use Rattle.sets.specs.Sets.{In}
use Rattle.pairs.specs.Relations.{order}
use Rattle.pair_offsets.specs.declared.Frame.{Frame}
use Rattle.pair_offsets.specs.Codes.{order_code}
use Rattle.pair_steps.specs.declared.Node.{Node}
use Rattle.pair_steps.specs.declared.Words.{Words}

pub record Coded (m n r : ℕ) : Type 0 where
  pub code : r ≡ order_code (order m n)
  pub low : r ≤ 2

-- r has the members of m with P
pub record Narrowed (m : ℕ) (P : ℕ → Type 0) (r : ℕ) : Type 0 where
  pub keeps : (k : ℕ) → In m k → P k → In r k
  pub only : (k : ℕ) → In r k → In m k × P k

-- what a word of relations says of the offset of pieces from a to b and from c to d
abbrev pub Narrows : ℕ → ℕ → ℕ → ℕ → ℕ → ℕ → Type 0
Narrows a b c d word k =
    a < d → c < b → In word (12 * order_code (order a c) + 4 * order_code (order b d) + k)

-- what is asked of the offset of the token at i and one at c inside from i to j, and of those at a
-- and b where a is before
abbrev pub AskedInside : ℕ → ℕ → ℕ → ℕ → ℕ → Type 0
AskedInside i j c mask k = i < c → c < j → In mask k

abbrev pub InFront : ℕ → ℕ → ℕ → ℕ → Type 0
InFront a b mask k = a < b → In mask k

-- of the two starts, a start and a cut, the two cuts, and a node's own start and cut; the first
-- children stop at t and v, the second at u and s
abbrev pub StartsLeave : Frame → Node → Node → ℕ → ℕ → Words → ℕ → Type 0
StartsLeave f x y t v w k =
    Narrows f.begin f.end f.start t w.yc k
    × Narrows f.start f.stop f.begin v w.xc k
    × Narrows f.start t f.begin v w.cc k
    × AskedInside f.start f.stop f.begin x.keep k
    × AskedInside f.begin f.end f.start y.keep k

abbrev pub StartCutLeave : Frame → Node → Node → ℕ → ℕ → Words → ℕ → Type 0
StartCutLeave f x y t s w k =
    Narrows f.start f.stop f.split s w.xd k
    × Narrows f.start t f.split s w.cd k
    × AskedInside f.start f.stop f.split x.keep k
    × InFront f.start f.split y.apart k

abbrev pub CutStartLeave : Frame → Node → Node → ℕ → ℕ → Words → ℕ → Type 0
CutStartLeave f x y u v w k =
    Narrows f.begin f.end f.cut u w.yd k
    × Narrows f.cut u f.begin v w.dc k
    × AskedInside f.begin f.end f.cut y.keep k
    × InFront f.begin f.cut x.apart k

abbrev pub CutsLeave : Frame → Node → Node → ℕ → ℕ → Words → ℕ → Type 0
CutsLeave f x y u s w k =
    Narrows f.cut u f.split s w.dd k
    × InFront f.split f.cut x.apart k
    × InFront f.cut f.split y.apart k

abbrev pub OwnLeave : ℕ → ℕ → ℕ → Node → ℕ → Type 0
OwnLeave i m j x k = AskedInside i j m x.keep k × In x.join k × InFront i m x.apart k

-- where the children stop, by how many there are: 0 where there is none
abbrev pub first_stop_of : ℕ → ℕ → ℕ → ℕ
first_stop_of zero m j = 0
first_stop_of (suc zero) m j = j
first_stop_of (suc (suc k)) m j = m

abbrev pub second_stop : ℕ → ℕ → ℕ
second_stop zero j = 0
second_stop (suc zero) j = 0
second_stop (suc (suc k)) j = j

-- the six of offsets is as the two nodes ask

pub record LeavesBy (f : Frame) (x y : Node) (w : Words) (t v u s n : ℕ) : Type 0 where
  pub ac : StartsLeave f x y t v w (n % 4)
  pub an : StartCutLeave f x y t s w (n / 4 % 4)
  pub mc : CutStartLeave f x y u v w (n / 16 % 4)
  pub mn : CutsLeave f x y u s w (n / 64 % 4)
  pub am : OwnLeave f.start f.cut f.stop x (n / 256 % 4)
  pub cn : OwnLeave f.begin f.split f.end y (n / 1024 % 4)

abbrev pub Leaves : Frame → Node → Node → Words → ℕ → Type 0
Leaves f x y w n =
    LeavesBy f x y w (first_stop_of x.kids f.cut f.stop)
    (first_stop_of y.kids f.split f.end)
    (second_stop x.kids f.stop) (second_stop y.kids f.end) n

-- r has what is left to the two starts
pub record StartsMost (f : Frame) (x y : Node) (w : Words) (r : ℕ) : Type 0 where
  pub has : (k : ℕ) → k < 4
      → StartsLeave f x y (first_stop_of x.kids f.cut f.stop)
      (first_stop_of y.kids f.split f.end) w k → In r k

-- a listed six that is as they ask, with k for the offset of the two starts
pub record FoundWith (f : Frame) (x y : Node) (w : Words) (list : List ℕ) (from end k : ℕ) : Type
    0 where
  pub place : ℕ
  pub low : from ≤ place
  pub high : place < end
  pub leaves : Leaves f x y w (get_or list place 0)
  pub starts : get_or list place 0 % 4 ≡ k

-- r has the offsets of the two starts in these
pub record OffsetsFound (f : Frame) (x y : Node) (w : Words) (list : List ℕ) (from end r : ℕ) : Type
    0 where
  pub all : (k : ℕ) → FoundWith f x y w list from end k → In r k
  pub only : (k : ℕ) → In r k → FoundWith f x y w list from end k
