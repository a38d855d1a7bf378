-- Two nodes over one span, by the table. For the contracts of inner functions only.
use Rattle.std.specs.Prelude.{◌≡◌, List, ℕ, ◌/◌, ◌%◌, ◌<◌}
use Rattle.pairs.specs.Relations.{order}
use Rattle.pair_offsets.specs.declared.Frame.{Frame}
use Rattle.pair_offsets.specs.Evens.{EvenSix}
use Rattle.pair_steps.specs.declared.Node.{Node}
use Rattle.pair_steps.specs.declared.Words.{Words}
use Rattle.pair_steps.specs.Leaving.{first_stop_of, second_stop, Leaves}
use Rattle.pair_steps.specs.Tokens.{PointsHave}
use Rattle.pair_steps.specs.Tables.{shape_word, sort_word, next_word}
use Rattle.pair_steps.specs.Suiting.{Suits}
use Rattle.pair_nodes.specs.Slots.{node_at, Present}

-- the frame of two nodes over one span, by a number below 16: where each is cut
abbrev pub span_frame : ℕ → Frame
span_frame k = record { start = 0; cut = k / 4; stop = 4; begin = 0; split = k % 4; end = 4 }

-- what the table says of the children of two nodes, whose shapes have the numbers i and j
abbrev pub words_at : List ℕ → Node → Node → ℕ → ℕ → Words
words_at t x y i j =
    record {
      yc = shape_word t j x.first;
      yd = shape_word t j x.second;
      xc = shape_word t i y.first;
      xd = shape_word t i y.second;
      cc = sort_word t x.first y.first;
      cd = sort_word t x.first y.second;
      dc = sort_word t x.second y.first;
      dd = sort_word t x.second y.second;
    }

abbrev pub nexts_by_of : List ℕ → Frame → Node → Node → ℕ → ℕ → ℕ → ℕ → Words
nexts_by_of m f x y t v u s =
    record {
      yc = next_word m y.sort x.first (order f.begin f.start) (order f.end t);
      yd = next_word m y.sort x.second (order f.begin f.cut) (order f.end u);
      xc = next_word m x.sort y.first (order f.start f.begin) (order f.stop v);
      xd = next_word m x.sort y.second (order f.start f.split) (order f.stop s);
      cc = next_word m x.first y.first (order f.start f.begin) (order t v);
      cd = next_word m x.first y.second (order f.start f.split) (order t s);
      dc = next_word m x.second y.first (order f.cut f.begin) (order u v);
      dd = next_word m x.second y.second (order f.cut f.split) (order u s);
    }

abbrev pub nexts_at : List ℕ → Frame → Node → Node → Words
nexts_at m f x y =
    nexts_by_of m f x y (first_stop_of x.kids f.cut f.stop)
    (first_stop_of y.kids f.split f.end)
    (second_stop x.kids f.stop) (second_stop y.kids f.end)

-- a step finds offsets and terminals for the two nodes
pub record StandsBy (t : List ℕ) (f : Frame) (x y : Node) (i j : ℕ) : Type 0 where
  pub six : ℕ
  pub low : six < 4096
  pub even : EvenSix f six
  pub leaves : Leaves f x y (words_at t x y i j) six
  pub points : PointsHave f x y (nexts_at t f x y)

-- the shapes with the numbers i and j have nodes, of one nonterminal, that may stand so
pub record MayOver (ns t : List ℕ) (f : Frame) (i j : ℕ) : Type 0 where
  pub there₁ : Present ns i
  pub there₂ : Present ns j
  pub sort : (node_at ns i).sort ≡ (node_at ns j).sort
  pub suits : Suits f (node_at ns i).kids (node_at ns j).kids
  pub stands : StandsBy t f (node_at ns i) (node_at ns j) i j
