-- The refused line, from what the two readers answer.
use mathlib.Core.Path.{◌≡◌, refl, sym}
use mathlib.Core.List.{List}
use Prim.Native.Nat.{ℕ, zero, suc, ◌-◌, ◌≤◌}
use native.Mathlib.Omega.{arith}
use lib.ListN.{length}
use denote.Ref.{Bor}
use Rattle.std.specs.Prelude.{Option, Some, None, Result, Ok, Err}
use Rattle.std.specs.Result.{result_err}
use Rattle.fields.specs.Pieces.{pieces}
use Rattle.fields.specs.Parts.{Part}
use Rattle.sheets.specs.declared.Refusal.{Refusal}
use Rattle.sheets.specs.Refusals.{number_of}
use Rattle.sheets.specs.Items.{Reading, refused}
use Rattle.sheets.specs.Promises.{reading_of}
use Rattle.sheets.specs.RefusedLines.{HeldLine, in_rules, in_tokens, of_tokens_of, of_rules}
use Rattle.sheets.specs.RefusedLines.{held_by, LinePart, Hands}
use Rattle.sheets.specs.LinesIn.{LineIn, held_of, second_held, held_at}
use Rattle.grammar.specs.Trees.{Rules}

module _ (R T r : Bor (List ℕ)) where
  -- what is held, by the refusals
  by_refusals : {o o' p p' : Option Refusal} → o ≡ o' → p ≡ p' → Hands R T r (held_of o' p')
      → Hands R T r (held_of o p)
  by_refusals e f h = rw (e, f) h

  -- the line l counts from 1
  in_line : (S : Bor (List ℕ)) (held : ℕ → HeldLine)
      → ((n : ℕ) → LinePart S n r → Hands R T r (held n))
      → (l : ℕ) → (l ≡ 0 → ⊥) → LinePart S (l - 1) r → Hands R T r (held_at held l)
  in_line S held f zero n h = absurd (n refl)
  in_line S held f (suc l) n h = let k : suc l - 1 ≡ l = omega arith in f l (rw k at h)

  no_line : (held : ℕ → HeldLine) (l : ℕ) → l ≡ 0 → Part R 0 0 r → Hands R T r (held_at held l)
  no_line held l e h = rw e h

  pub hands_rules : {o : Option Refusal} (p : Option Refusal) (e : Refusal) → o ≡ Some e
      → (e.line ≡ 0 → ⊥) → LinePart R (e.line - 1) r → Hands R T r (held_of o p)
  hands_rules p e is n h = by_refusals is refl (in_line R in_rules (λ m x. x) e.line n h)

  pub hands_zero : {o : Option Refusal} {e : Refusal} (p : Option Refusal) → o ≡ Some e
      → e.line ≡ 0 → Part R 0 0 r → Hands R T r (held_of o p)
  hands_zero {e = e} p is n h = by_refusals is refl (no_line in_rules e.line n h)

  pub hands_tokens : {o p : Option Refusal} (e : Refusal) → o ≡ None → p ≡ Some e
      → (e.line ≡ 0 → ⊥) → LinePart T (e.line - 1) r → Hands R T r (held_of o p)
  hands_tokens e a is n h = by_refusals a is (in_line T in_tokens (λ m x. x) e.line n h)

  pub hands_tokens_zero : {o p : Option Refusal} {e : Refusal} → o ≡ None → p ≡ Some e
      → e.line ≡ 0 → Part R 0 0 r → Hands R T r (held_of o p)
  hands_tokens_zero {e = e} a is n h = by_refusals a is (no_line in_tokens e.line n h)

  pub hands_none : {o p : Option Refusal} → o ≡ None → p ≡ None → Part R 0 0 r
      → Hands R T r (held_of o p)
  hands_none a e h = by_refusals a e h

-- ---- what is held does not go by the items that were read

tokens_refused : (A : Type 0) (f l : ℕ) → held_at in_tokens l ≡ of_tokens_of {A = A} (refused f l)
tokens_refused A f zero = refl
tokens_refused A f (suc n) = refl

rules_refused : (f l : ℕ) (h : HeldLine) → held_at in_rules l ≡ of_rules (refused f l) h
rules_refused f zero h = refl
rules_refused f (suc n) h = refl

module _ {A B D : Type 0} (value : A → Rules) (seen : B → D) where
  tokens_held : (q : Result B Refusal)
      → second_held (result_err q) ≡ of_tokens_of (reading_of seen q)
  tokens_held (Ok x) = refl
  tokens_held (Err e) = tokens_refused D (number_of e.fault) e.line

  rules_held : (r : Result A Refusal) (q : Result B Refusal)
      → held_of (result_err r) (result_err q) ≡ held_by (reading_of value r) (reading_of seen q)
  rules_held (Ok x) q = tokens_held q
  rules_held (Err e) q =
      rules_refused (number_of e.fault) e.line (of_tokens_of (reading_of seen q))

  pub held_same : (r : Result A Refusal) (q : Result B Refusal) {rules : Reading Rules}
      {tokens : Reading D}
      → reading_of value r ≡ rules → reading_of seen q ≡ tokens
      → held_of (result_err r) (result_err q) ≡ held_by rules tokens
  held_same r q e f = rw (← e, ← f) (rules_held r q)

-- a refusal's line is a line of the sheet that gives it
pub line_in : {A B : Type 0} (value : A → B) (s : List ℕ) (r : Result A Refusal) {want : Reading B}
    → reading_of value r ≡ want
    → ((n l : ℕ) → want ≡ refused n l → l ≤ length (pieces 10 s)) → LineIn s (result_err r)
line_in value s (Ok x) e h = tt
line_in value s (Err e) d h = h (number_of e.fault) e.line (sym d)
