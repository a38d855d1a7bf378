-- Tests of frames, put together; each ranked frame has a number.
use mathlib.Core.Path.{◌≡◌}
use Prim.Native.Nat.{ℕ, ◌+◌, ◌*◌, ◌/◌, ◌%◌, ◌<◌}
use native.Mathlib.Omega.{arith}
use Rattle.pairs.specs.Settings.{start₁, cut₁, start₂, cut₂, Point, at, stop₁, stop₂}
use Rattle.pair_offsets.specs.declared.Frame.{Frame}
use Rattle.pair_offsets.specs.Frames.{rank_of}
use Rattle.pair_steps.specs.Ranks.{lower, numbers_of, Ranked}
use Rattle.pair_steps.proofs.RankLaws.{ranked_by}
use Rattle.pair_frames.specs.Numbering.{Amid, NoneAmid, frame_at}

-- each of six points
pub none_of : {f : Frame} {i j : ℕ} → (Amid i f.start j → ⊥) → (Amid i f.cut j → ⊥)
    → (Amid i f.begin j → ⊥) → (Amid i f.split j → ⊥) → (Amid i f.stop j → ⊥)
    → (Amid i f.end j → ⊥) → NoneAmid f i j
none_of {f} {i} {j} a b c d e g = record { absent = by }
  where
    by : (p : Point) → i < rank_of f p → rank_of f p < j → ⊥
    by (at start₁) h k = a (record { low = h; high = k })
    by (at cut₁) h k = b (record { low = h; high = k })
    by (at start₂) h k = c (record { low = h; high = k })
    by (at cut₂) h k = d (record { low = h; high = k })
    by stop₁ h k = e (record { low = h; high = k })
    by stop₂ h k = g (record { low = h; high = k })

pub ranked_of : (f : Frame) → lower (numbers_of (rank_of f)) f.start ≡ f.start
    → lower (numbers_of (rank_of f)) f.begin ≡ f.begin
    → lower (numbers_of (rank_of f)) f.cut ≡ f.cut
    → lower (numbers_of (rank_of f)) f.split ≡ f.split
    → lower (numbers_of (rank_of f)) f.stop ≡ f.stop
    → lower (numbers_of (rank_of f)) f.end ≡ f.end → Ranked (rank_of f)
ranked_of f a b c d e g = ranked_by (rank_of f) by
  where
    by : (p : Point) → lower (numbers_of (rank_of f)) (rank_of f p) ≡ rank_of f p
    by (at start₁) = a
    by (at cut₁) = c
    by (at start₂) = b
    by (at cut₂) = d
    by stop₁ = e
    by stop₂ = g

-- the number of a frame
pub frame_code : Frame → ℕ
frame_code f =
    7776 * f.start + 1296 * f.cut + 216 * f.begin + 36 * f.split + 6 * f.stop + f.end

pub code_low : (f : Frame) → Ranked (rank_of f) → frame_code f < 46656
unfolding frame_code
code_low f r =
    let a = r.small (at start₁) in
    let b = r.small (at cut₁) in
    let c = r.small (at start₂) in
    let d = r.small (at cut₂) in
    let e = r.small stop₁ in
    let g = r.small stop₂ in
    omega arith

pub code_frame : (f : Frame) → Ranked (rank_of f) → frame_at (frame_code f) ≡ f
unfolding frame_code
code_frame f r =
    let a = r.small (at start₁) in
    let b = r.small (at cut₁) in
    let c = r.small (at start₂) in
    let d = r.small (at cut₂) in
    let e = r.small stop₁ in
    let g = r.small stop₂ in
    let n = 7776 * f.start + 1296 * f.cut + 216 * f.begin + 36 * f.split + 6 * f.stop
    + f.end in
    let p₁ : n / 7776 % 6 ≡ f.start = omega arith in
    let p₂ : n / 1296 % 6 ≡ f.cut = omega arith in
    let p₃ : n / 216 % 6 ≡ f.begin = omega arith in
    let p₄ : n / 36 % 6 ≡ f.split = omega arith in
    let p₅ : n / 6 % 6 ≡ f.stop = omega arith in
    let p₆ : n % 6 ≡ f.end = omega arith in
    λ i. record { start = p₁ i; cut = p₂ i; stop = p₅ i; begin = p₃ i; split = p₄ i; end = p₆ i }
