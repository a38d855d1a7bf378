-- Numbers one after the other: pairs, token lines, and what follows a report's names.
use mathlib.Core.Path.{◌≡◌, refl, sym, ap, ◌∙◌}
use mathlib.Core.List.{List, ◌∷◌, ◌++◌}
use Prim.Native.Nat.{ℕ, ◌<◌}
use native.Mathlib.Omega.{arith}
use lib.ListN.{drop}
use Rattle.grammar.specs.declared.Token.{Token}
use Rattle.grammar.specs.Layout.{line, col}
use Rattle.printing.specs.Printing.{decimal, token_text_of}
use Rattle.sweep_answers.specs.Sweep.{sweep_limit}
use Rattle.scanning.specs.Scanned.{Numbered, Unnumbered}
use Rattle.scanning.proofs.Numbers.{decimal_same}
use Rattle.reports.specs.Rests.{TokenTo, NoToken, PairTo, NoPair}
use Rattle.reports.proofs.TokenTexts.{token_text}

-- the number that was read is the only one there
pub behind : {s : List ℕ} {at most end v next : ℕ} (w : ℕ) (t : List ℕ) → end < 48
    → Numbered s at most end v next → drop at s ≡ decimal w ++ (end ∷ t)
    → (v ≡ w) × (drop next s ≡ t)
behind {s} {at} {most} {end} {v} {next} w t l x e =
    decimal_same v w end end (drop next s) t l l (sym x.is ∙ e)

module _ (s : List ℕ) (at : ℕ) where
  -- 1. a pair

  pub pair_there : {q m a b : ℕ} → Numbered s at sweep_limit 32 q a
      → Numbered s a sweep_limit 32 m b
      → PairTo s at b
  pair_there {q} {m} x y =
      record {
        quotient = q;
        remainder = m;
        low = x.small;
        small = y.small;
        inside = y.inside;
        is = x.is ∙ ap (λ (l : List ℕ). decimal q ++ (32 ∷ l)) y.is;
      }

  pub pair_first : Unnumbered s at sweep_limit 32 → NoPair s at
  pair_first x = record { absent = λ q m rest h k e. x.absent q (decimal m ++ (32 ∷ rest)) h e }

  pub pair_second : {q a : ℕ} → Numbered s at sweep_limit 32 q a → Unnumbered s a sweep_limit 32
      → NoPair s at
  pair_second x y = record {
    absent = λ q m rest h k e. y.absent m rest k
        (behind q (decimal m ++ (32 ∷ rest)) (omega arith) x e).1;
  }

  -- 2. a token line

  pub token_there : {t l k a b c : ℕ} → Numbered s at 63 32 t a → Numbered s a 65535 32 l b
      → Numbered s b 65535 10 k c → TokenTo s at c
  token_there {t} {l} {k} {a} {b} {c} x y z =
      let token : Token = record {
        terminal = t;
        line = record { 0 = l };
        column = record { 0 = k };
        width = record { 0 = 1 };
      } in
      record {
        token = token;
        good = record {
          terminal_most = x.small;
          line_most = y.small;
          column_most = z.small;
          one = refl;
        };
        inside = z.inside;
        is =
            x.is
            ∙ ap (λ (r : List ℕ). decimal t ++ (32 ∷ r))
            (y.is ∙ ap (λ (r : List ℕ). decimal l ++ (32 ∷ r)) z.is)
            ∙ sym (token_text token (drop c s));
      }

  parts : (t : Token) (rest : List ℕ) → drop at s ≡ token_text_of t ++ rest
      → drop at s ≡ decimal t.terminal
      ++ (32 ∷ (decimal (line t) ++ (32 ∷ (decimal (col t) ++ (10 ∷ rest)))))
  parts t rest e = e ∙ token_text t rest

  pub token_first : Unnumbered s at 63 32 → NoToken s at
  token_first x = record {
    absent = λ t rest g e. x.absent t.terminal
        (decimal (line t) ++ (32 ∷ (decimal (col t) ++ (10 ∷ rest)))) g.terminal_most
        (parts t rest e);
  }

  pub token_second : {v a : ℕ} → Numbered s at 63 32 v a → Unnumbered s a 65535 32 → NoToken s at
  token_second x y =
      record {
        absent = λ t rest g e.
            y.absent (line t) (decimal (col t) ++ (10 ∷ rest)) g.line_most
            (behind t.terminal (decimal (line t) ++ (32 ∷ (decimal (col t) ++ (10 ∷ rest))))
            (omega arith) x (parts t rest e)).1;
      }

  pub token_third : {v l a b : ℕ} → Numbered s at 63 32 v a → Numbered s a 65535 32 l b
      → Unnumbered s b 65535 10 → NoToken s at
  token_third x y z =
      record {
        absent = λ t rest g e.
            let p = (behind t.terminal (decimal (line t)
            ++ (32 ∷ (decimal (col t) ++ (10 ∷ rest)))) (omega arith) x (parts t rest e)).1 in
            z.absent (col t) rest g.column_most
            (behind (line t) (decimal (col t) ++ (10 ∷ rest)) (omega arith) y p).1;
      }
