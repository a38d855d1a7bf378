-- Points between two others, and frames by number. For the contracts of inner functions only.
use Rattle.std.specs.Prelude.{ℕ, ◌/◌, ◌%◌, ◌<◌}
use Rattle.pairs.specs.Settings.{Point}
use Rattle.pair_offsets.specs.declared.Frame.{Frame}
use Rattle.pair_offsets.specs.Frames.{rank_of}

pub record Amid (i p j : ℕ) : Type 0 where
  pub low : i < p
  pub high : p < j

-- no point of the frame is after i and before j
pub record NoneAmid (f : Frame) (i j : ℕ) : Type 0 where
  pub absent : (p : Point) → i < rank_of f p → rank_of f p < j → ⊥

-- the frame of a number below 46656, a digit to the base 6 for each point
abbrev pub frame_at : ℕ → Frame
frame_at n =
    record {
      start = n / 7776 % 6;
      cut = n / 1296 % 6;
      stop = n / 6 % 6;
      begin = n / 216 % 6;
      split = n / 36 % 6;
      end = n % 6;
    }
