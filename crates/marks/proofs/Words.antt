-- Words and their spans: a span's word is cut in two, and what the marks ask of a span, token by
-- token.
use mathlib.Core.Path.{◌≡◌, refl, sym, ap, ◌∙◌, subst, subst₂, subst₃}
use mathlib.Core.Logic.{◌↔◌}
use mathlib.Core.List.{[], ◌∷◌, ◌++◌}
use Prim.Native.Nat.{ℕ, zero, suc, ◌+◌, ◌-◌, ◌≤◌, ◌<◌, zero-le, suc-le-suc}
use native.Mathlib.Nat.{le_of_suc-le-suc, not-suc-le-zero, lt_irrefl, le_refl, add-zero}
use native.Mathlib.Omega.{arith}
use lib.ListN.{length, take, drop, length-append, length-drop}
use lib.Seq.{take-add, drop-drop, take_at, drop_at, length-take-le, get_or-take, get_or-drop}
use lib.Seq.{ext_get_or}
use Rattle.grammar.specs.declared.Token.{Token}
use Rattle.grammar.specs.declared.UnaryMark.{UnaryMark}
use Rattle.grammar.specs.declared.BinaryMark.{BinaryMark}
use Rattle.grammar.specs.Layout.{Word, Every, Keeps, Pairs, last, line, col}
use Rattle.grammar.specs.Layout as Mark
use Rattle.grammar.specs.SpanSheet.{part}
use Rattle.marks.specs.Half.{token_at}
use Rattle.grammar.specs.Sentences.{no_token}

part_split : (ts : Word) (s l m : ℕ) → part ts s (l + m) ≡ part ts s l ++ part ts (s + l) m
part_split ts s l m =
    take-add l m (drop s ts) ∙ ap (λ (x : Word). take l (drop s ts) ++ take m x) (drop-drop l s ts)

pub part_cut : (ts : Word) (s len l : ℕ) → l ≤ len
    → part ts s len ≡ part ts s l ++ part ts (s + l) (len - l)
part_cut ts s len l h =
    ap (part ts s) (let e : len ≡ l + (len - l) = omega arith in e) ∙ part_split ts s l (len - l)

pub part_length : (ts : Word) (s len : ℕ) → s + len ≤ length ts → length (part ts s len) ≡ len
part_length ts s len h = length-take-le len (drop s ts) (rw length-drop (omega arith))

-- where a span is two words in a row, they are its parts
pub record Cut (ts u v : Word) (s len : ℕ) : Type 0 where
  pub fits : length u ≤ len
  pub front : u ≡ part ts s (length u)
  pub rest : v ≡ part ts (s + length u) (len - length u)

pub cut : (ts u v : Word) (s len : ℕ) → s + len ≤ length ts → u ++ v ≡ part ts s len
    → Cut ts u v s len
cut ts u v s len h e =
    let long : length u + length v ≡ len =
    sym (length-append u v) ∙ ap length e ∙ part_length ts s len h in
    let le : length u ≤ len = omega arith in
    let whole : u ++ v ≡ part ts s (length u) ++ part ts (s + length u) (len - length u) =
    e ∙ part_cut ts s len (length u) le in
    let same : length (part ts s (length u)) ≡ length u =
    part_length ts s (length u) (omega arith) in
    record {
      fits = le;
      front = sym (take_at u v (length u) refl) ∙ ap (take (length u)) whole
          ∙ take_at (part ts s (length u)) (part ts (s + length u) (len - length u)) (length u)
          same;
      rest = sym (drop_at u v (length u) refl) ∙ ap (drop (length u)) whole
          ∙ drop_at (part ts s (length u)) (part ts (s + length u) (len - length u)) (length u)
          same;
    }

pub part_at : (ts : Word) (s len k : ℕ) → k < len → token_at (part ts s len) k ≡ token_at ts (s + k)
part_at ts s len k h = get_or-take len (drop s ts) k no_token h ∙ get_or-drop s ts k no_token

pub every_at : (P : Token → Type 0) (w : Word) → Every P w → (k : ℕ) → k < length w
    → P (token_at w k)
every_at P [] e k h = absurd (not-suc-le-zero h)
every_at P (a ∷ w) e zero h = e.0
every_at P (a ∷ w) e (suc k) h = every_at P w e.1 k (le_of_suc-le-suc h)

at_every : (P : Token → Type 0) (w : Word) → ((k : ℕ) → k < length w → P (token_at w k)) → Every P w
at_every P [] f = tt
at_every P (a ∷ w) f = (f zero (suc-le-suc zero-le), at_every P w (λ k h. f (suc k) (suc-le-suc h)))

pub keeps_self : (m : UnaryMark) (a : Token) → Keeps m a a
keeps_self UnaryMark.None a = tt
keeps_self UnaryMark.Offside a = λ h. absurd (lt_irrefl (line a) h)
keeps_self UnaryMark.Offalign a = λ h. le_refl (col a)
keeps_self UnaryMark.Single a = refl

unary_at : (m : UnaryMark) (w : Word) → Mark.Unary m w → (k : ℕ) → k < length w
    → Keeps m (token_at w 0) (token_at w k)
unary_at m [] u k h = absurd (not-suc-le-zero h)
unary_at m (a ∷ w) u zero h = keeps_self m a
unary_at m (a ∷ w) u (suc k) h = every_at (Keeps m a) w u k (le_of_suc-le-suc h)

at_unary : (m : UnaryMark) (w : Word)
    → ((k : ℕ) → k < length w → Keeps m (token_at w 0) (token_at w k)) → Mark.Unary m w
at_unary m [] f = tt
at_unary m (a ∷ w) f = at_every (Keeps m a) w (λ k h. f (suc k) (suc-le-suc h))

-- a unary mark holds of a span, token by token
abbrev pub Spanned : UnaryMark → Word → ℕ → ℕ → Type 0
Spanned m ts s k = Keeps m (token_at ts s) (token_at ts (s + k))

pub unary_span : (m : UnaryMark) (ts : Word) (s len : ℕ) → s + len ≤ length ts
    → Mark.Unary m (part ts s len) → (k : ℕ) → k < len → Spanned m ts s k
unary_span m ts s len h u k l =
    subst₂ (Keeps m) (part_at ts s len 0 (omega arith) ∙ ap (token_at ts) (add-zero s))
    (part_at ts s len k l) (unary_at m (part ts s len) u k
    (omega (arith, part_length ts s len h)))

pub span_unary : (m : UnaryMark) (ts : Word) (s len : ℕ) → s + len ≤ length ts
    → ((k : ℕ) → k < len → Spanned m ts s k) → Mark.Unary m (part ts s len)
span_unary m ts s len h f = at_unary m (part ts s len) go
  where
    go : (k : ℕ) → k < length (part ts s len)
        → Keeps m (token_at (part ts s len) 0) (token_at (part ts s len) k)
    go k q =
        let l : k < len = omega (arith, part_length ts s len h) in
        subst₂ (Keeps m) (sym (part_at ts s len 0 (omega arith) ∙ ap (token_at ts) (add-zero s)))
        (sym (part_at ts s len k l)) (f k l)

-- ---- binary marks, by the tokens

last_at : (a : Token) (u : Word) → last a u ≡ token_at (a ∷ u) (length u)
last_at a [] = refl
last_at a (b ∷ u) = last_at b u

binary_at : (m : BinaryMark) (u v : Word) → 0 < length u → 0 < length v → (k : ℕ) → k + 1 ≡ length u
    → Mark.Binary m u v ↔ Pairs m (token_at u 0) (token_at u k) (token_at v 0)
binary_at m [] v h l k e = absurd (not-suc-le-zero h)
binary_at m (a ∷ u) [] h l k e = absurd (not-suc-le-zero l)
binary_at m (a ∷ u) (b ∷ v) h l k e =
    let z : last a u ≡ token_at (a ∷ u) k =
    last_at a u ∙ ap (token_at (a ∷ u)) (let n : length u ≡ k = omega arith in n) in
    (subst (λ (t : Token). Pairs m a t b) z, subst (λ (t : Token). Pairs m a t b) (sym z))

binary_empty_left : (m : BinaryMark) (u v : Word) → length u ≡ 0 → Mark.Binary m u v
binary_empty_left m [] v e = tt
binary_empty_left m (a ∷ u) v e = absurd (omega arith)

binary_empty_right : (m : BinaryMark) (u v : Word) → length v ≡ 0 → Mark.Binary m u v
binary_empty_right m [] v e = tt
binary_empty_right m (a ∷ u) [] e = tt
binary_empty_right m (a ∷ u) (b ∷ v) e = absurd (omega arith)

-- the two words below a binary clause: left tokens from start on, and right tokens after them
module _ (m : BinaryMark) (ts : Word) (start left right : ℕ)
    (h : start + left + right ≤ length ts) where
  pub no_left : left ≡ 0 → Mark.Binary m (part ts start left) (part ts (start + left) right)
  no_left e = binary_empty_left m (part ts start left) (part ts (start + left) right)
      (part_length ts start left (omega arith) ∙ e)

  pub no_right : right ≡ 0 → Mark.Binary m (part ts start left) (part ts (start + left) right)
  no_right e = binary_empty_right m (part ts start left) (part ts (start + left) right)
      (part_length ts (start + left) right (omega arith) ∙ e)

  pub binary_span : 0 < left → 0 < right
      → Pairs m (token_at ts start) (token_at ts (start + left - 1)) (token_at ts (start + left))
      ↔ Mark.Binary m (part ts start left) (part ts (start + left) right)
  binary_span hl hr =
      let pl = part_length ts start left (omega arith) in
      let pr = part_length ts (start + left) right (omega arith) in
      let q = binary_at m (part ts start left) (part ts (start + left) right) (omega arith)
      (omega arith) (left - 1) (omega arith) in
      let a : token_at (part ts start left) 0 ≡ token_at ts start =
      part_at ts start left 0 hl ∙ ap (token_at ts) (add-zero start) in
      let z : token_at (part ts start left) (left - 1) ≡ token_at ts (start + left - 1) = part_at ts
      start left (left - 1) (omega arith) ∙ ap (token_at ts)
      (let n : start + (left - 1) ≡ start + left - 1 = omega arith in n) in
      let b : token_at (part ts (start + left) right) 0 ≡ token_at ts (start + left) =
      part_at ts (start + left) right 0 hr ∙ ap (token_at ts) (add-zero (start + left)) in
      (λ p. q.1 (subst₃ (Pairs m) (sym a) (sym z) (sym b) p), λ p. subst₃ (Pairs m) a z b (q.0 p))

-- a span of one token, by the token
pub one_token : (ts : Word) (s : ℕ) → s + 1 ≤ length ts → part ts s 1 ≡ token_at ts s ∷ []
one_token ts s h = ext_get_or no_token (part ts s 1) (token_at ts s ∷ []) (part_length ts s 1 h)
    (λ i l. go i (omega (arith, part_length ts s 1 h)))
  where
    go : (i : ℕ) → i < 1 → token_at (part ts s 1) i ≡ token_at (token_at ts s ∷ []) i
    go zero l = part_at ts s 1 0 l ∙ ap (token_at ts) (add-zero s)
    go (suc i) l = absurd (not-suc-le-zero (le_of_suc-le-suc l))
