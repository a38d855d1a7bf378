-- Token lines one after the other: what they write is settled, line by line.
use mathlib.Core.Path.{◌≡◌, refl, sym, ap, ◌∙◌}
use mathlib.Core.List.{List, [], ◌∷◌, ◌++◌, append_assoc}
use Prim.Native.Nat.{ℕ, ◌≤◌}
use native.Mathlib.Omega.{arith}
use lib.ListN.{length, length-append}
use Rattle.grammar.specs.declared.Token.{Token}
use Rattle.grammar.specs.Layout.{Word, Every, line, col}
use Rattle.printing.specs.Printing.{decimal, token_text_of, token_lines}
use Rattle.scanning.proofs.Numbers.{decimal_same, decimal_some}
use Rattle.reports.specs.Reports.{ReportToken}

pub token_text : (t : Token) (rest : List ℕ)
    → token_text_of t ++ rest ≡ decimal t.terminal
    ++ (32 ∷ (decimal (line t) ++ (32 ∷ (decimal (col t) ++ (10 ∷ rest)))))
unfolding token_text_of
token_text t rest = simp append_assoc

-- two tokens of width 1 with the same text
same_token : {t u : Token} → ReportToken t → ReportToken u → t.terminal ≡ u.terminal
    → line t ≡ line u → col t ≡ col u → t ≡ u
same_token p q a b c = λ i. record {
  terminal = a i;
  line = record { 0 = b i };
  column = record { 0 = c i };
  width =
      record { 0 = (p.one ∙ sym q.one) i };
}

pub token_same : (t u : Token) (x y : List ℕ) → ReportToken t → ReportToken u
    → token_text_of t ++ x ≡ token_text_of u ++ y → (t ≡ u) × (x ≡ y)
token_same t u x y p q e =
    let a = decimal_same t.terminal u.terminal 32 32
    (decimal (line t) ++ (32 ∷ (decimal (col t) ++ (10 ∷ x))))
    (decimal (line u) ++ (32 ∷ (decimal (col u) ++ (10 ∷ y)))) (omega arith) (omega arith)
    (sym (token_text t x) ∙ e ∙ token_text u y) in
    let b = decimal_same (line t) (line u) 32 32 (decimal (col t) ++ (10 ∷ x))
    (decimal (col u) ++ (10 ∷ y)) (omega arith) (omega arith) a.1 in
    let c = decimal_same (col t) (col u) 10 10 x y (omega arith) (omega arith) b.1 in
    (same_token p q a.0 b.0 c.0, c.1)

pub token_some : (t : Token) (x : List ℕ) → 1 ≤ length (token_text_of t ++ x)
token_some t x = rw (token_text t x, length-append) (omega (arith, decimal_some t.terminal))

-- what is left of token lines that begin with these
pub record Left (w : Word) (x : List ℕ) (all : Word) : Type 0 where
  pub left : Word
  pub good : Every ReportToken left
  pub whole : all ≡ w ++ left
  pub is : x ≡ token_lines left

pub lines_left : (w v : Word) (x : List ℕ) → Every ReportToken w → Every ReportToken v
    → token_lines w ++ x ≡ token_lines v → Left w x v
lines_left [] v x p q e = record { left = v; good = q; whole = refl; is = e }
lines_left (t ∷ w) [] x p q e = absurd
    (omega (
      arith,
      token_some t (token_lines w ++ x),
      ap length
          (sym (append_assoc (token_text_of t) (token_lines w) x) ∙ e),
    ))
lines_left (t ∷ w) (u ∷ v) x p q e =
    let s = token_same t u (token_lines w ++ x) (token_lines v) p.0 q.0
    (sym (append_assoc (token_text_of t) (token_lines w) x) ∙ e) in
    let l = lines_left w v x p.1 q.1 s.1 in
    record {
      left = l.left;
      good = l.good;
      whole = let a = l.whole in let b = s.0 in cc;
      is =
          l.is;
    }

-- a token line more
pub lines_more : (w : Word) (t : Token) (x : List ℕ)
    → token_lines (w ++ (t ∷ [])) ++ x ≡ token_lines w ++ (token_text_of t ++ x)
lines_more [] t x = append_assoc (token_text_of t) [] x
lines_more (u ∷ w) t x =
    append_assoc (token_text_of u) (token_lines (w ++ (t ∷ []))) x
    ∙ ap (λ (l : List ℕ). token_text_of u ++ l) (lines_more w t x)
    ∙ sym (append_assoc (token_text_of u) (token_lines w) (token_text_of t ++ x))

pub every_more : (w : Word) (t : Token) → Every ReportToken w → ReportToken t
    → Every ReportToken (w ++ (t ∷ []))
every_more [] t p q = (q, tt)
every_more (u ∷ w) t p q = (p.0, every_more w t p.1 q)
