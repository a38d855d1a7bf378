-- A terminal that a smaller one replaces has a twin with that one in its place, whatever the others
-- are.
use mathlib.Core.Path.{◌≡◌, refl, sym, ◌∙◌, ap, ap₂, subst}
use mathlib.Core.Bool.{Bool, true, false, cond, ◌&&◌}
use mathlib.Core.List.{List, [], ◌∷◌, map}
use mathlib.Core.Logic.{inl, inr, ◌↔◌}
use Prim.Native.Nat.{ℕ, zero, suc, ◌+◌, ◌≤◌, ◌<◌}
use native.Mathlib.Omega.{arith}
use native.Mathlib.Decide.{ℕ_discrete}
use lib.Dec.{eqb}
use lib.ListN.{length, take}
use borrow.Author.Tests.{eqb-true, eq-eqb}
use Rattle.grammar.proofs.Positions.{after_then}
use Rattle.grammar.specs.declared.Token.{Token}
use Rattle.grammar.specs.declared.Cell.{Cell}
use Rattle.grammar.specs.Layout.{Word, line, col, width, Every}
use Rattle.grammar.specs.Trees.{Rules, TwoTrees, HasAtom}
use Rattle.grammar.specs.Candidates.{After, RisingFrom, Rising, token, placed, sentence, Candidate}
use Rattle.grammar.specs.Candidates.{CellsBefore}
use Rattle.grammar.proofs.Transfer.{Alike, two_keeps}
use Rattle.candidates.specs.Terminals.{Among}
use Rattle.candidates.specs.Windows.{Fit}
use Rattle.candidates.proofs.ListOrder.{fit_candidate, candidate_fit}
use Rattle.dominance.specs.Dominance.{Replaces, Spared}
use Rattle.equivalents.specs.Twins.{Twin, Replaceable, TerminalAt, Renames}
use Rattle.equivalents.proofs.Places.{at_shared}
use Rattle.equivalents.proofs.Lowered.{twin_less}

-- ---- tokens that come after one another

every_after : (a b : Token) (w : Word) → After a b → Every (After b) w → Every (After a) w
every_after a b [] h e = tt
every_after a b (c ∷ w) h e = (after_then a b c h e.0, every_after a b w h e.1)

rising_after : (a : Token) (w : Word) → RisingFrom a w → Every (After a) w
rising_after a [] r = tt
rising_after a (b ∷ w) r = (r.0, every_after a b w r.0 (rising_after b w r.1))

-- ---- one token's terminal

module _ (u : Token) (y : ℕ) where
  -- t stands where u stands, and is u's terminal
  same : Token → Bool
  same t = eqb (line t) (line u) && (eqb (col t) (col u) && eqb t.terminal u.terminal)

  abbrev rename : Token → Token
  rename t = record {
    terminal = cond (same t) y t.terminal;
    line = t.line;
    column = t.column;
    width = t.width;
  }

  apart : (t : Token) → (line t ≡ line u → col t ≡ col u → ⊥) → rename t ≡ t
  unfolding same
  apart t n = go (eqb (line t) (line u)) refl (eqb (col t) (col u)) refl
    where
      go : (p : Bool) → eqb (line t) (line u) ≡ p → (q : Bool) → eqb (col t) (col u) ≡ q
          → record {
            terminal = cond (p && (q && eqb t.terminal u.terminal)) y t.terminal;
            line = t.line;
            column = t.column;
            width = t.width;
          } ≡ t
      go false e q f = refl
      go true e false f = refl
      go true e true f = absurd (n (eqb-true (line t) (line u) e) (eqb-true (col t) (col u) f))

  at_itself : rename u ≡ record {
    terminal = y;
    line = u.line;
    column = u.column;
    width = u.width;
  }
  unfolding same
  at_itself = rw (
    eq-eqb (line u) (line u) refl,
    eq-eqb (col u) (col u) refl,
    eq-eqb u.terminal
        u.terminal refl,
  )

  after_apart : (t : Token) → 1 ≤ width t → After t u → rename t ≡ t
  after_apart t k (inl h) = apart t (λ e f. omega arith)
  after_apart t k (inr h) = apart t (λ e f. omega (arith, h.1))

  apart_after : (t : Token) → 1 ≤ width u → After u t → rename t ≡ t
  apart_after t k (inl h) = apart t (λ e f. omega arith)
  apart_after t k (inr h) = apart t (λ e f. omega (arith, h.1))

  map_after : (w : Word) → 1 ≤ width u → Every (After u) w → map rename w ≡ w
  map_after [] k e = refl
  map_after (t ∷ w) k e = ap₂ ◌∷◌ (apart_after t k e.0) (map_after w k e.1)

  rename_alike : (g : Rules) → Replaces g y u.terminal → Alike g (λ t. Unit {0}) rename
  unfolding same
  rename_alike g r = record {
    atoms = λ a p A h. go a A h;
    keeps = λ a b p q. record { columns = (λ h. h, λ h. h); lines = (λ h. h, λ h. h) };
  }
    where
      go : (a : Token) (A : ℕ) → HasAtom g A a.terminal
          → HasAtom g A (cond (same a) y a.terminal)
      go a A h =
          by (eqb (line a) (line u)) (eqb (col a) (col u)) (eqb a.terminal u.terminal) refl
        where
          by : (p q z : Bool) → eqb a.terminal u.terminal ≡ z
              → HasAtom g A (cond (p && (q && z)) y a.terminal)
          by false q z e = h
          by true false z e = h
          by true true false e = h
          by true true true e =
              r.lefts A (subst (HasAtom g A) (eqb-true a.terminal u.terminal e) h)

every_unit : (w : Word) → Every (λ t. Unit {0}) w
every_unit [] = tt
every_unit (t ∷ w) = (tt, every_unit w)

-- ---- one cell's terminal

abbrev recell : ℕ → ℕ → List Cell → List Cell
recell y q [] = []
recell y zero (c ∷ cs) = record { terminal = y; step = c.step; column = c.column } ∷ cs
recell y (suc q) (c ∷ cs) = c ∷ recell y q cs

-- the token of the cell at q, the token before the first being on line l
abbrev token_at : ℕ → ℕ → List Cell → Token
token_at l q [] = token l (record { terminal = 0; step = 0; column = 0 })
token_at l zero (c ∷ cs) = token (l + c.step) c
token_at l (suc q) (c ∷ cs) = token_at (l + c.step) q cs

every_at : (P : Token → Type 0) (l q : ℕ) (cs : List Cell) → q < length cs → Every P (placed l cs)
    → P (token_at l q cs)
every_at P l q [] h e = absurd (omega arith)
every_at P l zero (c ∷ cs) h e = e.0
every_at P l (suc q) (c ∷ cs) h e = every_at P (l + c.step) q cs (omega arith) e.1

-- the sentence with the one token's terminal renamed
renamed : (y l q : ℕ) (cs : List Cell) → q < length cs → Rising (placed l cs)
    → map (rename (token_at l q cs) y) (placed l cs) ≡ placed l (recell y q cs)
renamed y l q [] h r = absurd (omega arith)
renamed y l zero (c ∷ cs) h r =
    let u : Token = token (l + c.step) c in
    ap₂ ◌∷◌ (at_itself u y) (map_after u y (placed (l + c.step) cs) (omega arith)
    (rising_after u (placed (l + c.step) cs) r))
renamed y l (suc q) (c ∷ cs) h r =
    let a : Token = token (l + c.step) c in
    ap₂ ◌∷◌ (after_apart (token_at (l + c.step) q cs) y a (omega arith)
    (every_at (After a) (l + c.step) q cs (omega arith)
    (rising_after a (placed (l + c.step) cs) r)))
    (renamed y (l + c.step) q cs (omega arith) (tail a (placed (l + c.step) cs) r))
  where
    tail : (a : Token) (w : Word) → RisingFrom a w → Rising w
    tail a [] r = tt
    tail a (b ∷ w) r = r.1

recell_long : (y q : ℕ) (cs : List Cell) → length (recell y q cs) ≡ length cs
recell_long y q [] = refl
recell_long y zero (c ∷ cs) = refl
recell_long y (suc q) (c ∷ cs) = ap suc (recell_long y q cs)

recell_kept : (y q : ℕ) (cs : List Cell) → take q (recell y q cs) ≡ take q cs
recell_kept y q [] = refl
recell_kept y zero (c ∷ cs) = refl
recell_kept y (suc q) (c ∷ cs) = ap (λ (x : List Cell). c ∷ x) (recell_kept y q cs)

recell_fit : (Q : ℕ → Type 0) (n m p y q : ℕ) (cs : List Cell) → Q y → Fit Q n m p cs
    → Fit Q n m p (recell y q cs)
recell_fit Q n m p y q [] h f = tt
recell_fit Q n m p y zero (c ∷ cs) h f = (
  record {
    ranged = record {
      terminal = h;
      step = f.0.ranged.step;
      low = f.0.ranged.low;
      high = f.0.ranged.high;
    };
    after = f.0.after;
  },
  f.1,
)
recell_fit Q n m p y (suc q) (c ∷ cs) h f = (f.0, recell_fit Q n 2 c.column y q cs h f.1)

recell_before : (x y q : ℕ) (cs : List Cell) → y < x → TerminalAt x q cs
    → CellsBefore (recell y q cs) cs
recell_before x y q [] h t = absurd t
recell_before x y zero (c ∷ cs) h t = inl (inl (omega arith))
recell_before x y (suc q) (c ∷ cs) h t = inr (refl, recell_before x y q cs h t)

terminal_token : (x l q : ℕ) (cs : List Cell) → TerminalAt x q cs
    → ((token_at l q cs).terminal ≡ x) × (q < length cs)
terminal_token x l q [] t = absurd t
terminal_token x l zero (c ∷ cs) t = (t, omega arith)
terminal_token x l (suc q) (c ∷ cs) t = let z = terminal_token x (l + c.step) q cs t in
    (z.0, omega (arith, z.1))

rename_twin : (g : Rules) (s n x y q : ℕ) (ds : List Cell) → Among s y → y < x → Replaces g y x
    → Candidate (Among s) n ds → TerminalAt x q ds → TwoTrees g 0 (sentence ds) → Twin g s n q ds
rename_twin g s n x y q ds m h r k t two =
    let z = terminal_token x 1 q ds t in
    record {
      cells = recell y q ds;
      candidate = fit_candidate (Among s) n (recell y q ds) (recell_long y q ds ∙ k.arranged.size)
          (recell_fit (Among s) n 0 0 y q ds m (candidate_fit (Among s) n ds k));
      kept = recell_kept y q ds;
      before = recell_before x y q ds h t;
      two = subst (TwoTrees g 0) (renamed y 1 q ds z.1 k.rising)
          (two_keeps g (λ t. Unit {0}) (rename (token_at 1 q ds) y)
          (rename_alike (token_at 1 q ds) y g (subst (Replaces g y) (sym z.0) r)) 0
          (sentence ds) (every_unit (sentence ds)) two);
    }

-- where a smaller terminal replaces each that is not kept, each of these has a twin
pub renames_of : {g : Rules} {s kept : ℕ} → Spared g s kept → Renames g s kept
renames_of {g} {s} {kept} sp =
    record { part = sp.part; twin = λ n q x ds k m o t two. go n q x ds k o t two (sp.each x m) }
  where
    go : (n q x : ℕ) (ds : List Cell) → Candidate (Among s) n ds → (Among kept x → ⊥)
        → TerminalAt x q ds → TwoTrees g 0 (sentence ds)
        → (y : ℕ) × Among kept y × (y ≤ x) × Replaces g y x → Twin g s n q ds
    go n q x ds k o t two z = at (ℕ_discrete z.0 x)
      where
        at : Dec (z.0 ≡ x) → Twin g s n q ds
        at (yes e) = absurd (o (subst (Among kept) e z.1))
        at (no e) = rename_twin g s n x z.0 q ds (sp.part z.0 z.1) (omega (arith, z.2))
            z.3 k t two

-- so it is of other rules that have the same sentences with two trees
pub renames_over : {g g' : Rules} {s kept : ℕ} → ((w : Word) → TwoTrees g 0 w ↔ TwoTrees g' 0 w)
    → Renames g s kept → Renames g' s kept
renames_over same r = record {
  part = r.part;
  twin = λ n q x ds k m o t two.
      let z = r.twin n q x ds k m o t ((same (sentence ds)).1 two) in
      record {
        cells = z.cells;
        candidate = z.candidate;
        kept = z.kept;
        before = z.before;
        two =
            (same (sentence z.cells)).0 z.two;
      };
}

-- a terminal of s at q that is not kept, past the p cells that are
pub terminal_replaceable : (g : Rules) (s kept n b p q x : ℕ) (cs : List Cell) → Renames g s kept
    → p ≤ q → q < b → Among s x → (Among kept x → ⊥) → TerminalAt x q cs → Replaceable g s n b p cs
terminal_replaceable g s kept n b p q x cs r h l m o t = record {
  twin = λ ds k e two. twin_less p h
      (r.twin n q x ds k m o (at_shared (λ c. c.terminal ≡ x) q b ds cs l e t) two);
}
