-- The least column on later lines: it grows with the span, the span settles it, and it decides
-- offside and offalign.
use mathlib.Core.Path.{◌≡◌, refl, sym, ap, ◌∙◌, subst}
use mathlib.Core.Logic.{◌↔◌}
use Prim.Native.Nat.{ℕ, ◌+◌, ◌≤◌, ◌<◌, min}
use native.Mathlib.Nat.{lt_irrefl}
use native.Mathlib.Omega.{arith}
use native.Mathlib.Decide.{dec_lt, dec_le, ℕ_discrete}
use Rattle.grammar.specs.declared.UnaryMark.{UnaryMark}
use Rattle.grammar.specs.declared.Column.{Column}
use Rattle.grammar.specs.Layout.{line, col}
use Rattle.std.specs.Prelude.{Option, Some, None}
use Rattle.marks.specs.Half.{Half, token_at, MayKeep}
use Rattle.marks.specs.Later.{Later, LeastLater, lesser, Grows, OffsideBy, OffalignBy}

-- one token has none on a later line
pub least_first : (h : Half) (s : ℕ) → LeastLater h s 1 None
least_first h s i q =
    let e : s + i ≡ s = omega (arith, q.inside) in
    lt_irrefl (line (token_at h.word s))
    (subst (λ (x : ℕ). line (token_at h.word s) < line (token_at h.word x)) e q.below)

module _ (h : Half) (s l : ℕ) where
  wide : (i : ℕ) → Later h s l i → Later h s (l + 1) i
  wide i q = record { inside = omega (arith, q.inside); known = q.known; below = q.below }

  -- the token at s + l is not meant
  less : (i : ℕ) → (i ≡ l → ⊥) → Later h s (l + 1) i → Later h s l i
  less i n q = record { inside = inner (dec_lt i l); known = q.known; below = q.below }
    where
      inner : Dec (i < l) → i < l
      inner (yes z) = z
      inner (no z) = absurd (n (omega (arith, q.inside, z)))

  -- a token that does not count leaves the value
  pub least_same : (v : Option Column) → (Later h s (l + 1) l → ⊥) → LeastLater h s l v
      → LeastLater h s (l + 1) v
  least_same None n f = λ i q. f i (less i (λ e. n (subst (Later h s (l + 1)) e q)) q)
  least_same (Some c) n f = (
    (f.0.0, wide f.0.0 f.0.1, f.0.2),
    λ i q. f.1 i (less i (λ e. n (subst (Later h s (l + 1)) e q)) q),
  )

  -- one that counts is compared with it
  least_new : (v : Option Column) → Later h s (l + 1) l → LeastLater h s l v
      → LeastLater h s (l + 1) (lesser v (token_at h.word (s + l)).column)
  least_new None p f = ((l, p, refl), λ i q. go i q (ℕ_discrete i l))
    where
      go : (i : ℕ) → Later h s (l + 1) i → Dec (i ≡ l)
          → col (token_at h.word (s + l)) ≤ col (token_at h.word (s + i))
      go i q (yes e) = subst (λ (x : ℕ). col (token_at h.word (s + l))
          ≤ col (token_at h.word (s + x))) (sym e) (omega arith)
      go i q (no n) = absurd (f i (less i n q))
  least_new (Some c) p f =
      (some (dec_le c.0 (col (token_at h.word (s + l)))), λ i q. go i q (ℕ_discrete i l))
    where
      some : Dec (c.0 ≤ col (token_at h.word (s + l)))
          → (i : ℕ) × Later h s (l + 1) i
          × (col (token_at h.word (s + i)) ≡ min c.0 (col (token_at h.word (s + l))))
      some (yes z) = (
        f.0.0,
        wide f.0.0 f.0.1,
        let e : c.0
            ≡ min c.0 (col (token_at h.word (s + l))) = omega (arith, z) in f.0.2 ∙ e,
      )
      some (no z) = (l, p, omega (arith, z))

      go : (i : ℕ) → Later h s (l + 1) i → Dec (i ≡ l)
          → min c.0 (col (token_at h.word (s + l))) ≤ col (token_at h.word (s + i))
      go i q (yes e) = subst (λ (x : ℕ). min c.0 (col (token_at h.word (s + l)))
          ≤ col (token_at h.word (s + x))) (sym e) (omega arith)
      go i q (no n) = omega (arith, f.1 i (less i n q))

  -- growing by a known token keeps the value right
  pub least_more : (v r : Option Column) → s + l < h.known → LeastLater h s l v
      → Grows v (token_at h.word s) (token_at h.word (s + l)) r → LeastLater h s (l + 1) r
  least_more v r k f g = go (dec_lt (line (token_at h.word s)) (line (token_at h.word (s + l))))
    where
      go : Dec (line (token_at h.word s) < line (token_at h.word (s + l)))
          → LeastLater h s (l + 1) r
      go (yes z) = subst (LeastLater h s (l + 1)) (sym (g.later z))
          (least_new v (record { inside = omega arith; known = k; below = z }) f)
      go (no z) = subst (LeastLater h s (l + 1)) (sym (g.other (omega (arith, z))))
          (least_same v (λ p. z p.below) f)

  -- an open token adds nothing
  pub least_open : (v : Option Column) → h.known ≤ s + l → LeastLater h s l v
      → LeastLater h s (l + 1) v
  least_open v k f = least_same v (λ p. omega (arith, p.known, k)) f

-- the span settles the value
pub least_settled : (h : Half) (s len : ℕ) (v u : Option Column) → LeastLater h s len v
    → LeastLater h s len u → v ≡ u
least_settled h s len None None f g = refl
least_settled h s len None (Some d) f g = absurd (f g.0.0 g.0.1)
least_settled h s len (Some c) None f g = absurd (g f.0.0 f.0.1)
least_settled h s len (Some c) (Some d) f g =
    ap (λ (x : ℕ). Some (record { 0 = x })) (let e : c.0 ≡ d.0 = omega
    (arith, f.0.2, g.0.2, f.1 g.0.0 g.0.1, g.1 f.0.0 f.0.1) in e)

-- both marks by it
pub offside_by : (h : Half) (s len : ℕ) (v : Option Column) → LeastLater h s len v
    → OffsideBy (token_at h.word s).column v ↔ MayKeep UnaryMark.Offside h s len
offside_by h s len None f = (
  λ t. record { keeps = λ i l k b. absurd (f i (record { inside = l; known = k; below = b })) },
  λ q. tt,
)
offside_by h s len (Some c) f = (
  λ t. record {
    keeps = λ i l k b. omega
        (arith, t, f.1 i (record { inside = l; known = k; below = b }));
  },
  λ q. omega (
    arith,
    f.0.2,
    q.keeps f.0.0 f.0.1.inside f.0.1.known
        f.0.1.below,
  ),
)

pub offalign_by : (h : Half) (s len : ℕ) (v : Option Column) → LeastLater h s len v
    → OffalignBy (token_at h.word s).column v ↔ MayKeep UnaryMark.Offalign h s len
offalign_by h s len None f = (
  λ t. record { keeps = λ i l k b. absurd (f i (record { inside = l; known = k; below = b })) },
  λ q. tt,
)
offalign_by h s len (Some c) f = (
  λ t. record {
    keeps = λ i l k b. omega
        (arith, t, f.1 i (record { inside = l; known = k; below = b }));
  },
  λ q. omega (
    arith,
    f.0.2,
    q.keeps f.0.0 f.0.1.inside f.0.1.known
        f.0.1.below,
  ),
)
