-- The points of a frame. For the contracts of inner functions only.
use Rattle.std.specs.Prelude.{ℕ}
use Rattle.pairs.specs.Settings.{start₁, cut₁, start₂, cut₂, Point, at, stop₁, stop₂}
use Rattle.pair_offsets.specs.declared.Frame.{Frame}

abbrev pub rank_of : Frame → Point → ℕ
rank_of f (at start₁) = f.start
rank_of f (at cut₁) = f.cut
rank_of f (at start₂) = f.begin
rank_of f (at cut₂) = f.split
rank_of f stop₁ = f.stop
rank_of f stop₂ = f.end
