-- A terminal that a smaller one replaces can be renamed to that one: what had two trees still has,
-- and it does not come later.
use mathlib.Core.Path.{◌≡◌, refl, sym, ap, ◌∙◌, subst}
use mathlib.Core.Logic.{inl, inr, ⊎_elim}
use mathlib.Core.List.{List, [], ◌∷◌, map}
use Prim.Native.Nat.{ℕ, suc, ◌+◌, ◌≤◌, ◌<◌}
use native.Mathlib.Omega.{arith}
use native.Mathlib.Decide.{ℕ_discrete, dec_lt}
use lib.ListN.{length}
use Rattle.sets.specs.Sets.{In}
use Rattle.sets.proofs.Sets.{in_dec}
use Rattle.grammar.specs.declared.Token.{Token}
use Rattle.grammar.specs.declared.Cell.{Cell}
use Rattle.grammar.specs.Layout.{Word, Every}
use Rattle.grammar.specs.Trees.{Rules, TwoTrees}
use Rattle.grammar.specs.Candidates.{Candidate, CellsBefore, CellBefore, placed, sentence}
use Rattle.grammar.proofs.Transfer.{Alike, two_keeps}
use Rattle.candidates.specs.Terminals.{Among}
use Rattle.candidates.specs.Windows.{Fit}
use Rattle.candidates.proofs.ListOrder.{fit_candidate, candidate_fit}
use Rattle.dominance.specs.Dominance.{Replaces, Spared}

module _ (g : Rules) (s kept : ℕ) (sp : Spared g s kept) where
  -- what a terminal is renamed to
  pub record Chosen (x : ℕ) : Type 0 where
    pub to : ℕ
    pub low : to ≤ x
    pub replaces : Replaces g to x
    pub among : Among s x → Among kept to

  among? : (x : ℕ) → Dec (Among s x)
  among? x = go (dec_lt x 64) (in_dec s x)
    where
      go : Dec (x < 64) → Dec (In s x) → Dec (Among s x)
      go (yes a) (yes b) = yes (a, b)
      go (yes a) (no b) = no (λ q. b q.1)
      go (no a) b = no (λ q. a q.0)

  pub chosen : (x : ℕ) → Chosen x
  chosen x = go (among? x)
    where
      go : Dec (Among s x) → Chosen x
      go (yes m) = let q = sp.each x m in
          record { to = q.0; low = q.2; replaces = q.3; among = λ z. q.1 }
      go (no n) = record {
        to = x;
        low = omega arith;
        replaces = record { lefts = λ A a. a };
        among = λ z. absurd (n z);
      }

  abbrev rename : ℕ → ℕ
  rename x = (chosen x).to

  abbrev cell : Cell → Cell
  cell c = record { terminal = rename c.terminal; step = c.step; column = c.column }

  abbrev token : Token → Token
  token t = record {
    terminal = rename t.terminal;
    line = t.line;
    column = t.column;
    width = t.width;
  }

  -- the renamed cells
  abbrev pub renamed : List Cell → List Cell
  renamed [] = []
  renamed (c ∷ cs) = cell c ∷ renamed cs

  renamed_long : (cs : List Cell) → length (renamed cs) ≡ length cs
  renamed_long [] = refl
  renamed_long (c ∷ cs) = ap suc (renamed_long cs)

  renamed_fit : (n m p : ℕ) (cs : List Cell) → Fit (Among s) n m p cs
      → Fit (Among kept) n m p (renamed cs)
  renamed_fit n m p [] f = tt
  renamed_fit n m p (c ∷ cs) f = (
    record {
      ranged = record {
        terminal = (chosen c.terminal).among f.0.ranged.terminal;
        step = f.0.ranged.step;
        low = f.0.ranged.low;
        high = f.0.ranged.high;
      };
      after =
          f.0.after;
    },
    renamed_fit n 2 c.column cs f.1,
  )

  pub renamed_candidate : (n : ℕ) (cs : List Cell) → Candidate (Among s) n cs
      → Candidate (Among kept) n (renamed cs)
  renamed_candidate n cs c = fit_candidate (Among kept) n (renamed cs)
      (renamed_long cs ∙ c.arranged.size) (renamed_fit n 0 0 cs (candidate_fit (Among s) n cs c))

  -- its sentence, token by token
  renamed_placed : (l : ℕ) (cs : List Cell) → placed l (renamed cs) ≡ map token (placed l cs)
  renamed_placed l [] = refl
  renamed_placed l (c ∷ cs) = ap (λ (w : Word). ◌∷◌
      (token (record {
        terminal = c.terminal;
        line = record { 0 = l + c.step };
        column = record
            { 0 = c.column };
        width = record { 0 = 1 };
      })) w) (renamed_placed (l + c.step) cs)

  alike : Alike g (λ t. Unit {0}) token
  alike = record {
    atoms = λ a p. (chosen a.terminal).replaces.lefts;
    keeps = λ a b p q. record { columns = (λ h. h, λ h. h); lines = (λ h. h, λ h. h) };
  }

  all_tokens : (w : Word) → Every (λ t. Unit {0}) w
  all_tokens [] = tt
  all_tokens (a ∷ w) = (tt, all_tokens w)

  pub renamed_two : (cs : List Cell) → TwoTrees g 0 (sentence cs)
      → TwoTrees g 0 (sentence (renamed cs))
  renamed_two cs t = subst (TwoTrees g 0) (sym (renamed_placed 1 cs))
      (two_keeps g (λ t. Unit {0}) token alike 0 (sentence cs) (all_tokens (sentence cs)) t)

  -- ---- it comes before whatever the cells come before

  cell_same : (c : Cell) → rename c.terminal ≡ c.terminal → cell c ≡ c
  cell_same c e i = record { terminal = e i; step = c.step; column = c.column }

  cell_before : (c d : Cell) → CellBefore c d → CellBefore (cell c) d
  cell_before c d (inl h) = inl (omega (arith, (chosen c.terminal).low))
  cell_before c d (inr h) = go (ℕ_discrete (rename c.terminal) c.terminal)
    where
      equal : c.terminal ≡ d.terminal
      equal = ⊎_elim (λ x. x.0) (λ x. x.0) h

      go : Dec (rename c.terminal ≡ c.terminal) → CellBefore (cell c) d
      go (yes e) = inr (⊎_elim (λ x. inl (e ∙ x.0, x.1)) (λ x. inr (e ∙ x.0, x.1, x.2)) h)
      go (no n) = inl (omega (arith, (chosen c.terminal).low, equal))

  pub renamed_before : (ds cs : List Cell) → CellsBefore ds cs → CellsBefore (renamed ds) cs
  renamed_before [] cs b = b
  renamed_before (d ∷ ds) [] b = b
  renamed_before (d ∷ ds) (c ∷ cs) (inl b) = inl (cell_before d c b)
  renamed_before (d ∷ ds) (c ∷ cs) (inr b) =
      go (ℕ_discrete (rename d.terminal) d.terminal) (renamed_before ds cs b.1)
    where
      go : Dec (rename d.terminal ≡ d.terminal) → CellsBefore (renamed ds) cs
          → CellsBefore (renamed (d ∷ ds)) (c ∷ cs)
      go (yes e) h = inr (cell_same d e ∙ b.0, h)
      go (no n) h = inl (inl (omega (
        arith,
        (chosen d.terminal).low,
        ap
            (λ (x : Cell). x.terminal) b.0,
      )))
