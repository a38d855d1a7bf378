-- The layout marks, and the equality of tokens and words, decided by computing.
use mathlib.Core.Path.{◌≡◌, ap}
use mathlib.Core.List.{[], ◌∷◌}
use Prim.Native.Nat.{suc}
use Rattle.grammar.specs.declared.Token.{Token}
use Rattle.grammar.specs.declared.UnaryMark.{UnaryMark}
use Rattle.grammar.specs.declared.BinaryMark.{BinaryMark}
use Rattle.grammar.specs.Layout.{Word, line, col, width, last}
use Rattle.grammar.specs.Layout as Mark
use Rattle.grammar.proofs.Lists.{eq?, le?, both?, imp?, map?, list?, every?}

abbrev pub keeps? : (m : UnaryMark) (a t : Token) → Dec (Mark.Keeps m a t)
keeps? UnaryMark.None a t = yes tt
keeps? UnaryMark.Offside a t = imp? (le? (suc (line a)) (line t)) (le? (suc (col a)) (col t))
keeps? UnaryMark.Offalign a t = imp? (le? (suc (line a)) (line t)) (le? (col a) (col t))
keeps? UnaryMark.Single a t = eq? (line t) (line a)

abbrev pub unary? : (m : UnaryMark) (w : Word) → Dec (Mark.Unary m w)
unary? m [] = yes tt
unary? m (a ∷ w) = every? (keeps? m a) w

abbrev pub pairs? : (m : BinaryMark) (a z b : Token) → Dec (Mark.Pairs m a z b)
pairs? BinaryMark.None a z b = yes tt
pairs? BinaryMark.Align a z b = eq? (col a) (col b)
pairs? BinaryMark.Indent a z b = both? (le? (suc (col a)) (col b)) (le? (suc (line z)) (line b))

abbrev pub binary? : (m : BinaryMark) (u v : Word) → Dec (Mark.Binary m u v)
binary? m [] v = yes tt
binary? m (a ∷ u) [] = yes tt
binary? m (a ∷ u) (b ∷ v) = pairs? m a (last a u) b

-- tokens and words
pub token_path : (s t : Token) → (s.terminal ≡ t.terminal)
    × ((line s ≡ line t) × ((col s ≡ col t) × (width s ≡ width t))) → s ≡ t
token_path s t p = λ i. record {
  terminal = p.0 i;
  line = record { 0 = p.1.0 i };
  column = record
      { 0 = p.1.1.0 i };
  width = record { 0 = p.1.1.1 i };
}

pub token_parts : (s t : Token) → s ≡ t
    → (s.terminal ≡ t.terminal) × ((line s ≡ line t) × ((col s ≡ col t) × (width s ≡ width t)))
token_parts s t p = (
  ap (λ (x : Token). x.terminal) p,
  (ap (λ (x : Token). line x) p, (ap (λ (x : Token). col x) p, ap (λ (x : Token). width x) p)),
)

abbrev pub token? : (s t : Token) → Dec (s ≡ t)
token? s t =
    let c = both? (eq? (col s) (col t)) (eq? (width s) (width t)) in
    let r = both? (eq? (line s) (line t)) c in
    map? (both? (eq? s.terminal t.terminal) r) (token_path s t) (token_parts s t)

-- words
abbrev pub word? : (u w : Word) → Dec (u ≡ w)
word? = list? token?
