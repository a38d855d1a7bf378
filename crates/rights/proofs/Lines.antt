-- What a line gives, and the loop over the lines.
use mathlib.Core.Path.{◌≡◌, refl, sym, ap, ◌∙◌}
use mathlib.Core.List.{List, [], ◌∷◌, ◌++◌}
use mathlib.Core.Bool.{Bool, true, false, cond, ◌&&◌, ◌||◌}
use Rattle.std.specs.Prelude.{Option, None, Some}
use Prim.Native.Nat.{ℕ, ◌+◌, ◌-◌, ◌≤◌, ◌<◌}
use native.Mathlib.Omega.{arith}
use lib.ListN.{length, length-append}
use lib.Dec.{leb, ltb}
use borrow.Author.Tests.{leb-true, ltb-true}
use Rattle.sets.proofs.Basics.{clash}
use Rattle.fields.specs.declared.Cursor.{Cursor}
use Rattle.fields.specs.Pieces.{pieces, is_empty}
use Rattle.fields.specs.Words.{numeral_of}
use Rattle.fields.specs.Fields.{on_value}
use Rattle.fields.proofs.Fields.{with_holds}
use Rattle.fields.proofs.Lines.{more_left}
use Rattle.lines.specs.declared.Turn.{Turn}
use Rattle.lines.specs.Turns.{turn_of}
use Rattle.sheets.specs.Items.{Step, next, stop, end, accepted, refused, step_at_of, on_step}
use Rattle.sheets.specs.Items.{items_from}
use Rattle.sheets.specs.RuleSheets.{any_of}
use Rattle.sheets.proofs.Loop.{line_cut, line_less}
use Rattle.tree_view.proofs.Members.{member_none}
use Rattle.rights.specs.declared.Right.{Right}
use Rattle.rights.specs.RightLines.{may_of, last_of, right_of_of, after_high, after_low, after_user}
use Rattle.rights.specs.RightLines.{right_line}
use Rattle.rights.specs.RightSheets.{right_said, right_line_step, right_step, items_of, covers}
use Rattle.fields.specs.Cursors.{pieces_from, line_at, bytes_left}
use Rattle.tree_view.specs.Members.{member}
use Rattle.rights.specs.Answers.{RightsHeld}

-- 1. a line by what it is

pub step_turn : (line : List ℕ) (ended : Bool)
    → step_at_of 50 50 (right_said (right_line line)) (turn_of 1 0 line ended)
    ≡ right_line_step line ended
step_turn line true = refl
step_turn line false = go (is_empty line)
  where
    go : (b : Bool) → step_at_of 50 50 (right_said (right_line line)) (cond b Turn.End Turn.Open)
        ≡ cond b end (stop 50)
    go true = refl
    go false = refl

-- 2. a right's range

pub record RightRanged (r : Right) : Type 0 where
  pub rises : r.low ≤ r.high
  pub small : r.high < 64

abbrev RangedLine : Option Right → Type 0
RangedLine (Some r) = RightRanged r
RangedLine None = Unit {0}

of_ranged : (u l h : ℕ) (m : Bool) → RangedLine (right_of_of u l h m)
of_ranged u l h m = go (leb u 15) (leb h 63) refl (leb l h) refl
  where
    go : (a b : Bool) → leb h 63 ≡ b → (c : Bool) → leb l h ≡ c
        → RangedLine (cond (a && (b && c))
        (Some (record { user = u; low = l; high = h; change = m })) None)
    go true true e true f = let p = leb-true h 63 e in let q = leb-true l h f in
        record { rises = q; small = omega arith }
    go true true e false f = tt
    go true false e c f = tt
    go false b e c f = tt

high_ranged : (u l h : ℕ) (fs : List (List ℕ)) → RangedLine (after_high u l h fs)
high_ranged u l h fs = go (last_of may_of fs)
  where
    go : (o : Option Bool) → RangedLine (on_value None o (right_of_of u l h))
    go (Some m) = of_ranged u l h m
    go None = tt

line_ranged : (line : List ℕ) → RangedLine (right_line line)
line_ranged line =
    with_holds RangedLine None tt numeral_of after_user
    (λ u. with_holds RangedLine None tt numeral_of (after_low u)
    (λ l. with_holds RangedLine None tt numeral_of (after_high u l)
    (λ h. high_ranged u l h))) (pieces 32 line)

next_inj : (q r : Right) → next q ≡ next r → q ≡ r
next_inj q r e = cc

-- a line that gives a right is ended, and the right has a range
pub gives_right : (line : List ℕ) (ended : Bool) (r : Right) → next r ≡ right_line_step line ended
    → (ended ≡ true) × RightRanged r
gives_right line true r e = (refl, go (right_line line) (line_ranged line) e)
  where
    go : (x : Option Right) → RangedLine x → next r ≡ right_said x → RightRanged r
    go (Some q) h e = rw (next_inj r q e) h
    go None h e = absurd (clash cc)
gives_right line false r e = absurd (go (is_empty line) e)
  where
    go : (b : Bool) → next r ≡ cond b end (stop 50) → ⊥
    go true e = clash cc
    go false e = clash cc

-- 3. the sets after one right more

any_snoc : (p : Right → Bool) (l : List Right) (r : Right)
    → any_of p (l ++ r ∷ []) ≡ any_of p l || p r
any_snoc p [] r = go (p r)
  where
    go : (b : Bool) → b || false ≡ b
    go true = refl
    go false = refl
any_snoc p (q ∷ l) r = rw (any_snoc p l r) (go (p q) (any_of p l) (p r))
  where
    go : (a b c : Bool) → a || (b || c) ≡ (a || b) || c
    go true b c = refl
    go false b c = refl

pub holds_none : (u : ℕ) → RightsHeld [] u 0 0
holds_none u = record { see = member_none; change = member_none }

pub holds_more : {rs : List Right} {u a b a' b' : ℕ} (r : Right) → RightsHeld rs u a b
    → ((A : ℕ) → member a' A ≡ member a A || covers r u A)
    → ((A : ℕ) → member b' A ≡ member b A || (r.change && covers r u A))
    → RightsHeld (rs ++ r ∷ []) u a' b'
holds_more {rs} {u} r x f g = record {
  see = λ A. f A ∙ ap (λ (t : Bool). t || covers r u A) (x.see A)
      ∙ sym (any_snoc (λ q. covers q u A) rs r);
  change = λ A. g A ∙ ap (λ (t : Bool). t || (r.change && covers r u A)) (x.change A)
      ∙ sym (any_snoc (λ q. q.change && covers q u A) rs r);
}

-- 4. the loop: n rights are read, the sets are what they give, and the rest of the sheet says after
-- them what the sheet says

pub record Reading-on (s : List ℕ) (start u sees changes n at : ℕ) : Type 0 where
  pub low : at ≤ length s
  pub count : n + start ≤ at
  pub rights : List Right
  pub many : length rights ≡ n
  pub same : items_of (pieces_from 10 s start) ≡ items_from right_step rights (pieces_from 10 s at)
  pub holds : RightsHeld rights u sees changes

pub on_start : (s : List ℕ) (start u : ℕ) → start ≤ length s → Reading-on s start u 0 0 0 start
on_start s start u h = record {
  low = h;
  count = omega arith;
  rights = [];
  many = refl;
  same = refl;
  holds = holds_none u;
}

module _ {s : List ℕ} {start u sees changes n at : ℕ} (T : Reading-on s start u sees changes n at)
    {c : Cursor} (is : c ≡ line_at s at) where
  abbrev made : Step Right
  made = right_line_step (bytes_left s c) (ltb c.end (length s))

  turn : items_of (pieces_from 10 s start) ≡ on_step T.rights made
      (λ t. items_from right_step (T.rights ++ t ∷ []) (pieces_from 10 s (c.end + 1)))
  turn = T.same ∙ rw (line_cut s at T.low c is, more_left 10 s c.end) refl

  pub on_took : {r : Right} → next r ≡ made → (c.end < length s) × RightRanged r
  on_took {r} h = let g = gives_right (bytes_left s c) (ltb c.end (length s)) r h in
      (ltb-true c.end (length s) g.0, g.1)

  pub on_less : {r : Right} → next r ≡ made → length s - (c.end + 1) < length s - at
  on_less h = omega (arith, (on_took h).0, line_less s at T.low c is)

  pub on_more : {r : Right} → next r ≡ made → {sees' changes' : ℕ}
      → ((A : ℕ) → member sees' A ≡ member sees A || covers r u A)
      → ((A : ℕ) → member changes' A ≡ member changes A || (r.change && covers r u A))
      → Reading-on s start u sees' changes' (n + 1) (c.end + 1)
  on_more {r} h f g = record {
    low = omega (arith, (on_took h).0);
    count = omega (arith, T.count, line_less s at T.low c is);
    rights = T.rights ++ r ∷ [];
    many = omega (arith, length-append T.rights (r ∷ []), T.many);
    same = turn ∙ rw (← h) refl;
    holds = holds_more r T.holds f g;
  }

  pub on_stop : {f : ℕ} → stop f ≡ made → items_of (pieces_from 10 s start) ≡ refused f (n + 2)
  on_stop h = turn ∙ rw (← h, T.many) refl

  pub on_end : end ≡ made → items_of (pieces_from 10 s start) ≡ accepted T.rights
  on_end h = turn ∙ rw (← h) refl
