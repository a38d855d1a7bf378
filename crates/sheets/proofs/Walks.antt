-- The walk to a line of a sheet, and that a refused line is one of its sheet's.
use mathlib.Core.Path.{◌≡◌, refl, sym, ap, ◌∙◌}
use mathlib.Core.List.{List, [], ◌∷◌}
use mathlib.Core.Bool.{Bool, true, false, not, cond, ◌&&◌}
use Prim.Native.Nat.{ℕ, zero, suc, ◌+◌, ◌-◌, ◌≤◌, ◌<◌, zero-le}
use native.Mathlib.Nat.{zero-add}
use native.Mathlib.Omega.{arith}
use lib.ListN.{length, drop, get_or, length-drop}
use lib.Seq.{length-take-le}
use lib.Dec.{leb}
use borrow.Author.Tests.{leb-true}
use denote.Ref.{Bor}
use Rattle.sets.proofs.Basics.{clash}
use Rattle.grammar.specs.Trees.{Rules}
use Rattle.fields.specs.declared.Cursor.{Cursor}
use Rattle.fields.specs.Pieces.{pieces, is_empty, same_bytes}
use Rattle.fields.specs.Parts.{Part}
use Rattle.fields.proofs.Pieces.{from_zero, pieces_first}
use Rattle.sheets.specs.Items.{Reading, accepted, refused, items_from, with_names}
use Rattle.sheets.specs.RuleSheets.{any_of, is_start, rule_step, finish, rules_from, rule_names}
use Rattle.sheets.specs.RuleSheets.{rule_sheet}
use Rattle.sheets.specs.TokenSheets.{token_step, token_names, wide_names, wide_sheet, token_sheet}
use Rattle.sheets.specs.RefusedLines.{piece_start, LinePart}
use Rattle.sheets.proofs.Loop.{line_in, line_cut}
use Rattle.sheets.proofs.Accepted.{items_line}
use Rattle.fields.specs.Cursors.{pieces_from, line_at, bytes_left}

-- the walk's invariant: the line with `left` lines before it from `at` on is the line with n lines
-- before it
pub record Walk (s : List ℕ) (n at left : ℕ) : Type 0 where
  pub low : at ≤ length s
  pub there : left < length (pieces_from 10 s at)
  pub same : get_or (pieces 10 s) n [] ≡ get_or (pieces_from 10 s at) left []
  pub start : piece_start (pieces 10 s) n ≡ at + piece_start (pieces_from 10 s at) left

pub walk_start : (s : List ℕ) (n : ℕ) → n < length (pieces 10 s) → Walk s n 0 n
walk_start s n h = record {
  low = zero-le;
  there = rw (from_zero 10 s) h;
  same = rw (from_zero 10 s)
      refl;
  start = rw (from_zero 10 s, zero-add (piece_start (pieces 10 s) n)) refl;
}

get_d_next : (p : List ℕ) (ps : List (List ℕ)) (n : ℕ) → 0 < n
    → get_or (p ∷ ps) n [] ≡ get_or ps (n - 1) []
get_d_next p ps zero h = absurd (omega arith)
get_d_next p ps (suc n) h = let e : suc n - 1 ≡ n = omega arith in rw e refl

start_of_next : (p : List ℕ) (ps : List (List ℕ)) (n : ℕ) → 0 < n
    → piece_start (p ∷ ps) n ≡ length p + 1 + piece_start ps (n - 1)
start_of_next p ps zero h = absurd (omega arith)
start_of_next p ps (suc n) h = let e : suc n - 1 ≡ n = omega arith in rw e refl

-- no piece is left past the end
some_left : (s : List ℕ) (at : ℕ) → 0 < length (pieces_from 10 s at) → at ≤ length s
some_left s at h = go (leb at (length s)) refl h
  where
    go : (b : Bool) → leb at (length s) ≡ b → 0 < length (cond b (pieces 10 (drop at s)) [])
        → at ≤ length s
    go true e h = leb-true at (length s) e
    go false e h = absurd (omega arith)

module _ {s : List ℕ} {n at left : ℕ} (w : Walk s n at left) {c : Cursor}
    (is : c ≡ line_at s at) where
  cut : pieces_from 10 s at ≡ bytes_left s c ∷ pieces_from 10 s (c.end + 1)
  cut = line_cut s at w.low c is

  starts : c.at ≡ at
  starts = ap (λ (x : Cursor). x.at) is

  long : at + length (bytes_left s c) ≡ c.end
  long =
      let i = line_in s at w.low c is in
      omega (
        arith,
        starts,
        length-take-le (c.end - c.at) (drop c.at s)
            (omega (arith, length-drop c.at s)),
      )

  module _ (more : 0 < left) where
    behind : left - 1 < length (pieces_from 10 s (c.end + 1))
    behind = let t = w.there in omega (arith, rw cut at t)

    pub walk_high : c.end < length s
    walk_high = omega (arith, some_left s (c.end + 1) (omega (arith, behind)))

    pub walk_more : Walk s n (c.end + 1) (left - 1)
    walk_more =
        let b = bytes_left s c in
        let ps = pieces_from 10 s (c.end + 1) in
        record {
          low = omega (arith, walk_high);
          there = behind;
          same = w.same ∙ rw cut (get_d_next b ps left more);
          start = w.start ∙ rw cut (omega (arith, long, start_of_next b ps left more));
        }

  module _ (none : left ≤ 0) where
    zero_left : left ≡ 0
    zero_left = omega arith

    here : bytes_left s c ≡ get_or (pieces 10 s) n []
    here = sym (w.same ∙ rw (cut, zero_left) refl)

    at_start : at ≡ piece_start (pieces 10 s) n
    at_start = sym (w.start ∙ rw (cut, zero_left) (omega arith))

    fits : c.end - c.at ≡ length (get_or (pieces 10 s) n [])
    fits = omega (arith, long, starts, ap length here)

-- the walk's end: the bytes of the cursor's line are the line's
pub walk_end : {sheet r : Bor (List ℕ)} {n at left : ℕ} (w : Walk sheet.now n at left)
    {c : Cursor} (is : c ≡ line_at sheet.now at) → left ≤ 0
    → Part sheet c.at (c.end - c.at) r → LinePart sheet n r
walk_end w is h p = record {
  part = rw (← fits w is h, ← (starts w is ∙ at_start w is h)) p;
  line = p.holds ∙ here w is h;
}

-- a refusal's line is a line of the sheet, or 0

pub names_line : {A : Type 0} (bad : Reading A) (names : List ℕ) (k : List (List ℕ) → Reading A)
    → ((ps : List (List ℕ)) (f : ℕ) (l : ℕ) → k ps ≡ refused f l → l ≤ 1 + length ps)
    → (ps : List (List ℕ)) (f : ℕ) (l : ℕ) → (bad ≡ refused f l → l ≤ length ps)
    → with_names bad names ps k ≡ refused f l → l ≤ length ps
names_line bad names k h [] f l o e = o e
names_line bad names k h (q ∷ qs) f l o e = go (not (is_empty qs) && same_bytes q names) e
  where
    go : (b : Bool) → cond b (k qs) bad ≡ refused f l → l ≤ length (q ∷ qs)
    go true e = omega (arith, h qs f l e)
    go false e = o e

-- a sheet has a line 1
pub first_line : {A : Type 0} (g : ℕ) (s : List ℕ) (f : ℕ) (l : ℕ)
    → ◌≡◌ {A = Reading A} (refused g 1) (refused f l) → l ≤ length (pieces 10 s)
first_line g s f l e = let j : 1 ≡ l = cc in omega (arith, ap length (pieces_first 10 s))

pub finish_line : (x : Reading Rules) (n : ℕ) (f : ℕ) (l : ℕ)
    → ((g : ℕ) (m : ℕ) → x ≡ refused g m → m ≤ n) → finish x ≡ refused f l → l ≤ n
finish_line (accepted w) n f l h e = go (any_of is_start w) e
  where
    go : (b : Bool) → cond b (accepted w) (refused 7 0) ≡ refused f l → l ≤ n
    go true e = absurd (clash cc)
    go false e = let j : ◌≡◌ {A = ℕ} 0 l = cc in omega arith
finish_line (refused g m) n f l h e = let j : m ≡ l = cc in omega (arith, h g m refl)

pub rule_exists : (s : List ℕ) (f : ℕ) (l : ℕ) → rule_sheet s ≡ refused f l
    → l ≤ length (pieces 10 s)
rule_exists s f l =
    names_line (refused 1 1) rule_names rules_from
    (λ ps f l. finish_line (items_from rule_step [] ps) (1 + length ps) f l
    (λ g m e. omega (arith, items_line rule_step [] ps g m e)))
    (pieces 10 s) f l (first_line 1 s f l)

pub token_exists : (s : List ℕ) (f : ℕ) (l : ℕ) → token_sheet s ≡ refused f l
    → l ≤ length (pieces 10 s)
token_exists s f l =
    names_line (wide_sheet s) token_names (items_from (token_step false) []) (lines false)
    (pieces 10 s)
    f l
    (names_line (refused 11 1) wide_names (items_from (token_step true) []) (lines true)
    (pieces 10 s)
    f l (first_line 11 s f l))
  where
    lines : (wide : Bool) (ps : List (List ℕ)) (f : ℕ) (l : ℕ)
        → items_from (token_step wide) [] ps ≡ refused f l → l ≤ 1 + length ps
    lines wide ps f l e = omega (arith, items_line (token_step wide) [] ps f l e)
