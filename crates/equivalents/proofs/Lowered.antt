-- A line step of 2 has a twin with a step of 1: every token from there on goes one line up, and
-- each mark that held holds.
use mathlib.Core.Path.{◌≡◌, refl, sym, ◌∙◌, ap, ap₂, subst}
use mathlib.Core.List.{List, [], ◌∷◌, map}
use mathlib.Core.Logic.{◌⊎◌, inl, inr}
use Prim.Native.Nat.{ℕ, zero, suc, ◌+◌, ◌-◌, ◌≤◌, ◌<◌, min}
use native.Mathlib.Omega.{arith}
use lib.ListN.{length, take}
use lib.Seq.{take-take}
use Rattle.grammar.specs.declared.Token.{Token}
use Rattle.grammar.specs.declared.Cell.{Cell}
use Rattle.grammar.specs.Layout.{line, Every}
use Rattle.grammar.specs.Trees.{Rules, TwoTrees}
use Rattle.grammar.specs.Candidates.{token, placed, sentence, Candidate, CellsBefore}
use Rattle.grammar.proofs.Transfer.{Alike, same_atoms, two_keeps}
use Rattle.candidates.specs.Terminals.{Among}
use Rattle.candidates.specs.Succession.{Shares}
use Rattle.candidates.specs.Windows.{Fit}
use Rattle.candidates.proofs.ListOrder.{fit_candidate, candidate_fit}
use Rattle.equivalents.specs.Twins.{At, Twin, Replaceable}
use Rattle.equivalents.proofs.Places.{at_shared}

-- from line L on one line up
abbrev up : ℕ → ℕ → ℕ
up L x = x - min 1 (suc x - L)

up_below : (L x : ℕ) → x < L → up L x ≡ x
up_below L x h = omega arith

up_above : (L x : ℕ) → L ≤ x → up L x ≡ x - 1
up_above L x h = omega arith

abbrev lift : ℕ → Token → Token
lift L t = record {
  terminal = t.terminal;
  line = record { 0 = up L (line t) };
  column = t.column;
  width = t.width;
}

-- no token is on the line before L
abbrev Clears : ℕ → Token → Type 0
Clears L t = (line t + 2 ≤ L) ⊎ (L ≤ line t)

-- the line of the token at p, the token before the first being on line l
abbrev line_of_token : ℕ → ℕ → List Cell → ℕ
line_of_token l p [] = l
line_of_token l zero (c ∷ cs) = l + c.step
line_of_token l (suc p) (c ∷ cs) = line_of_token (l + c.step) p cs

-- the cell at p has a step of 2
abbrev TwoAt : ℕ → List Cell → Type 0
TwoAt p cs = At (λ c. c.step ≡ 2) p cs

-- with the step of the cell at p one less
abbrev lower : ℕ → List Cell → List Cell
lower p [] = []
lower zero (c ∷ cs) = record { terminal = c.terminal; step = c.step - 1; column = c.column } ∷ cs
lower (suc p) (c ∷ cs) = c ∷ lower p cs

line_two : (l p : ℕ) (cs : List Cell) → TwoAt p cs → l + 2 ≤ line_of_token l p cs
line_two l p [] h = absurd h
line_two l zero (c ∷ cs) h = omega arith
line_two l (suc p) (c ∷ cs) h = omega (arith, line_two (l + c.step) p cs h)

lifted_rest : (L l : ℕ) (cs : List Cell) → L ≤ l → 1 ≤ L
    → map (lift L) (placed l cs) ≡ placed (l - 1) cs
lifted_rest L l [] h k = refl
lifted_rest L l (c ∷ cs) h k =
    let e : (l + c.step) - 1 ≡ (l - 1) + c.step = omega arith in
    ap₂ ◌∷◌ (ap (λ (x : ℕ). token x c) (up_above L (l + c.step) (omega arith) ∙ e))
    (lifted_rest L (l + c.step) cs (omega arith) k ∙ ap (λ (x : ℕ). placed x cs) e)

lifted : (l p : ℕ) (cs : List Cell) → TwoAt p cs
    → map (lift (line_of_token l p cs)) (placed l cs) ≡ placed l (lower p cs)
lifted l p [] h = absurd h
lifted l zero (c ∷ cs) h =
    let e : (l + c.step) - 1 ≡ l + (c.step - 1) = omega arith in
    ap₂ ◌∷◌ (ap (λ (x : ℕ). token x c) (up_above (l + c.step) (l + c.step) (omega arith) ∙ e))
    (lifted_rest (l + c.step) (l + c.step) cs (omega arith) (omega arith)
    ∙ ap (λ (x : ℕ). placed x cs) e)
lifted l (suc p) (c ∷ cs) h =
    ap₂ ◌∷◌ (ap (λ (x : ℕ). token x c)
    (up_below (line_of_token (l + c.step) p cs) (l + c.step)
    (omega (arith, line_two (l + c.step) p cs h)))) (lifted (l + c.step) p cs h)

clears_rest : (L l : ℕ) (cs : List Cell) → L ≤ l → Every (Clears L) (placed l cs)
clears_rest L l [] h = tt
clears_rest L l (c ∷ cs) h = (inr (omega arith), clears_rest L (l + c.step) cs (omega arith))

clears : (l p : ℕ) (cs : List Cell) → TwoAt p cs
    → Every (Clears (line_of_token l p cs)) (placed l cs)
clears l p [] h = absurd h
clears l zero (c ∷ cs) h =
    (inr (omega arith), clears_rest (l + c.step) (l + c.step) cs (omega arith))
clears l (suc p) (c ∷ cs) h = (inl (line_two (l + c.step) p cs h), clears (l + c.step) p cs h)

-- x goes to y
abbrev Up : ℕ → ℕ → ℕ → Type 0
Up L x y = ((y ≡ x) × (x + 2 ≤ L)) ⊎ ((y ≡ x - 1) × (L ≤ x) × (1 ≤ L))

up_lt : (L x y u v : ℕ) → Up L x u → Up L y v → x < y → u < v
up_lt L x y u v (inl a) (inl b) h = omega (arith, a.0, b.0)
up_lt L x y u v (inl a) (inr b) h = omega (arith, a.0, b.0, a.1, b.1)
up_lt L x y u v (inr a) (inl b) h = absurd (omega (arith, a.1, b.1))
up_lt L x y u v (inr a) (inr b) h = omega (arith, a.0, b.0, a.1, b.1, a.2)

lt_up : (L x y u v : ℕ) → Up L x u → Up L y v → u < v → x < y
lt_up L x y u v (inl a) (inl b) h = omega (arith, a.0, b.0)
lt_up L x y u v (inl a) (inr b) h = omega (arith, a.0, b.0, a.1, b.1)
lt_up L x y u v (inr a) (inl b) h = absurd (omega (arith, a.0, b.0, a.1, b.1))
lt_up L x y u v (inr a) (inr b) h = omega (arith, a.0, b.0, a.1, b.1)

up_at : (L : ℕ) (a : Token) → 1 ≤ L → Clears L a → Up L (line a) (up L (line a))
up_at L a k (inl h) = inl (up_below L (line a) (omega arith), h)
up_at L a k (inr h) = inr (up_above L (line a) h, h, k)

lift_alike : (g : Rules) (L : ℕ) → 1 ≤ L → Alike g (Clears L) (lift L)
lift_alike g L k = record {
  atoms = λ a p. same_atoms g a (lift L a) refl;
  keeps = λ a b p q. record {
    columns = (λ h. h, λ h. h);
    lines = (
      up_lt L (line a) (line b) (up L (line a)) (up L (line b)) (up_at L a k p) (up_at L b k q),
      lt_up L (line a) (line b) (up L (line a)) (up L (line b)) (up_at L a k p) (up_at L b k q),
    );
  };
}

lower_fit : (Q : ℕ → Type 0) (n m k p : ℕ) (cs : List Cell) → TwoAt p cs → Fit Q n m k cs
    → Fit Q n m k (lower p cs)
lower_fit Q n m k p [] h f = absurd h
lower_fit Q n m k zero (c ∷ cs) h f =
    let r = f.0.ranged in (
      record {
        ranged = record {
          terminal = r.terminal;
          step = omega (arith, r.step);
          low = r.low;
          high = r.high;
        };
        after = λ z. absurd (omega arith);
      },
      f.1,
    )
lower_fit Q n m k (suc p) (c ∷ cs) h f = (f.0, lower_fit Q n 2 c.column p cs h f.1)

lower_long : (p : ℕ) (cs : List Cell) → length (lower p cs) ≡ length cs
lower_long p [] = refl
lower_long zero (c ∷ cs) = refl
lower_long (suc p) (c ∷ cs) = ap suc (lower_long p cs)

lower_before : (p : ℕ) (cs : List Cell) → TwoAt p cs → CellsBefore (lower p cs) cs
lower_before p [] t = absurd t
lower_before zero (c ∷ cs) t = inl (inr (inl (refl, omega arith)))
lower_before (suc p) (c ∷ cs) t = inr (refl, lower_before p cs t)

lower_kept : (p : ℕ) (cs : List Cell) → take p (lower p cs) ≡ take p cs
lower_kept p [] = refl
lower_kept zero (c ∷ cs) = refl
lower_kept (suc p) (c ∷ cs) = ap (λ (x : List Cell). c ∷ x) (lower_kept p cs)

-- fewer cells are shared too
pub shares_less : (m b : ℕ) (ds cs : List Cell) → m ≤ b → Shares b ds cs → Shares m ds cs
shares_less m b ds cs h e = sym (take-take m b ds h) ∙ ap (take m) e ∙ take-take m b cs h

lower_twin : (g : Rules) (s n p : ℕ) (ds : List Cell) → Candidate (Among s) n ds → TwoAt p ds
    → TwoTrees g 0 (sentence ds) → Twin g s n p ds
lower_twin g s n p ds k t d =
    let L : ℕ = line_of_token 1 p ds in
    record {
      cells = lower p ds;
      candidate = fit_candidate (Among s) n (lower p ds) (lower_long p ds ∙ k.arranged.size)
          (lower_fit (Among s) n 0 0 p ds t (candidate_fit (Among s) n ds k));
      kept = lower_kept p ds;
      before = lower_before p ds t;
      two = subst (TwoTrees g 0) (lifted 1 p ds t)
          (two_keeps g (Clears L) (lift L) (lift_alike g L (omega (arith, line_two 1 p ds t))) 0
          (sentence ds) (clears 1 p ds t) d);
    }

pub twin_less : {g : Rules} {s n p : ℕ} {ds : List Cell} (m : ℕ) → m ≤ p → Twin g s n p ds
    → Twin g s n m ds
twin_less {g} {s} {n} {p} {ds} m h t =
    record {
      cells = t.cells;
      candidate = t.candidate;
      kept = shares_less m p t.cells ds h t.kept;
      before = t.before;
      two = t.two;
    }

-- a step of 2 at q, past the p cells that are kept
pub step_replaceable : (g : Rules) (s n b p q : ℕ) (cs : List Cell) → p ≤ q → q < b → TwoAt q cs
    → Replaceable g s n b p cs
step_replaceable g s n b p q cs h l t =
    record {
      twin = λ ds k e two. twin_less p h
          (lower_twin g s n q ds k (at_shared (λ c. c.step ≡ 2) q b ds cs l e t) two);
    }
