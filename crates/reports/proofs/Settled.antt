-- A text is the text of one report at most, and the promise of `merge_text` settles the whole
-- output.
use Rattle.std.specs.Prelude.{Some, None}
use mathlib.Core.Path.{◌≡◌, refl, sym, ap, ◌∙◌}
use mathlib.Core.List.{List, [], ◌∷◌, ◌++◌}
use Prim.Native.Nat.{ℕ}
use native.Mathlib.Omega.{arith}
use lib.ListN.{drop, get_or, length}
use Rattle.grammar.specs.Layout.{Word, Every}
use Rattle.printing.specs.Printing.{decimal, token_lines}
use Rattle.sheets.specs.declared.Fault.{Fault}
use Rattle.sheets.specs.Refusals.{number_of}
use Rattle.sheets.specs.TokenSheets.{token_names}
use Rattle.sheets.proofs.Numbers.{same_fault}
use Rattle.call_shares.specs.Share.{ShareResult}
use Rattle.call_shares.specs.Share.{share_reply_of}
use Rattle.sheets.specs.Results.{refusal}
use Rattle.call_shares.proofs.Merging.{merged_settled}
use Rattle.share_text.specs.Shares.{report_text}
use Rattle.scanning.proofs.Numbers.{decimal_same}
use Rattle.reports.specs.Reports.{ReportToken, Report, a_refusal, a_clear, a_two, ReportOf}
use Rattle.reports.specs.Reports.{MergeText, one_unwritten, two_unwritten, merging}
use Rattle.reports.specs.Rests.{pair_text}
use Rattle.reports.proofs.Beginnings.{clear_begins, two_begins, refusal_begins}
use Rattle.reports.proofs.TokenTexts.{token_same, token_some}

words_same : (w v : Word) → Every ReportToken w → Every ReportToken v
    → token_lines w ≡ token_lines v
    → w ≡ v
words_same [] [] p q e = refl
words_same [] (t ∷ v) p q e = absurd (omega (arith, token_some t (token_lines v), ap length e))
words_same (t ∷ w) [] p q e = absurd (omega (arith, token_some t (token_lines w), ap length e))
words_same (t ∷ w) (u ∷ v) p q e =
    let s = token_same t u (token_lines w) (token_lines v) p.0 q.0 e in
    let h = s.0 in
    let k = words_same w v p.1 q.1 s.1 in
    cc

pair_same : (q m r n : ℕ) (x y : List ℕ) → pair_text q m x ≡ pair_text r n y
    → (q ≡ r) × (m ≡ n) × (x ≡ y)
pair_same q m r n x y e =
    let a = decimal_same q r 32 32 (decimal m ++ (32 ∷ x)) (decimal n ++ (32 ∷ y)) (omega arith)
    (omega arith) e in
    let b = decimal_same m n 32 32 x y (omega arith) (omega arith) a.1 in
    (a.0, b.0, b.1)

-- three kinds of report, by the thirteenth byte of their texts
differ : {x y : List ℕ} {a b : ℕ} → x ≡ y → get_or x 12 0 ≡ a → get_or y 12 0 ≡ b → (a ≡ b → ⊥) → ⊥
differ e p q f = f (sym p ∙ ap (λ (l : List ℕ). get_or l 12 0) e ∙ q)

refused_at : (f : Fault) (l : ℕ) → get_or (report_text (refusal f l)) 12 0 ≡ 114
refused_at f l = ap (λ (t : List ℕ). get_or t 12 0) (refusal_begins f l)

clear_at : (q m : ℕ) → get_or (report_text (share_reply_of 0 q m None)) 12 0 ≡ 99
clear_at q m = ap (λ (t : List ℕ). get_or t 12 0) (clear_begins q m)

two_at : (N q m : ℕ) (w : Word)
    → get_or (report_text (share_reply_of N q m (Some w))) 12 0 ≡ 116
two_at N q m w = ap (λ (t : List ℕ). get_or t 12 0) (two_begins N q m w)

texts_same : {a b : ShareResult} → Report a → Report b → report_text a ≡ report_text b → a ≡ b
texts_same (a_refusal {f = f} {l = l} h e) (a_refusal {f = g} {l = k} j d) x =
    let p = ap (drop 20) (sym (refusal_begins f l) ∙ ap report_text (sym e) ∙ x ∙ ap report_text d
    ∙ refusal_begins g k) in
    let q = decimal_same (number_of f) (number_of g) 32 32 (decimal l ++ (10 ∷ []))
    (decimal k ++ (10 ∷ [])) (omega arith) (omega arith) p in
    let r = decimal_same l k 10 10 [] [] (omega arith) (omega arith) q.1 in
    e ∙ ap (λ (z : Fault). refusal z l) (same_fault f g (number_of g) q.0 refl)
    ∙ ap (refusal g) r.0 ∙ sym d
texts_same (a_refusal {f = f} {l = l} h e) (a_clear {q = q} {m = m} j k d) x =
    absurd (differ (ap report_text (sym e) ∙ x ∙ ap report_text d) (refused_at f l) (clear_at q m)
    (λ z. omega arith))
texts_same (a_refusal {f = f} {l = l} h e) (a_two {N = N} {q = q} {m = m} w a b c g k j d) x =
    absurd (differ (ap report_text (sym e) ∙ x ∙ ap report_text d) (refused_at f l) (two_at N q m w)
    (λ z. omega arith))
texts_same (a_clear {q = q} {m = m} j k d) (a_refusal {f = f} {l = l} h e) x =
    absurd (differ (ap report_text (sym d) ∙ x ∙ ap report_text e) (clear_at q m) (refused_at f l)
    (λ z. omega arith))
texts_same (a_clear {q = q} {m = m} h k e) (a_clear {q = r} {m = n} i j d) x =
    let p = ap (drop 46) (sym (clear_begins q m) ∙ ap report_text (sym e) ∙ x ∙ ap report_text d
    ∙ clear_begins r n) in
    let s = pair_same q m r n (45 ∷ 10 ∷ []) (45 ∷ 10 ∷ []) p in
    e ∙ ap (λ (z : ℕ). share_reply_of 0 z m None) s.0
    ∙ ap (λ (z : ℕ). share_reply_of 0 r z None) s.1 ∙ sym d
texts_same (a_clear {q = r} {m = n} i o e) (a_two {N = N} {q = q} {m = m} w a b c g k j d) x =
    absurd (differ (ap report_text (sym e) ∙ x ∙ ap report_text d) (clear_at r n) (two_at N q m w)
    (λ z. omega arith))
texts_same (a_two {N = N} {q = q} {m = m} w a b c g k j d) (a_refusal {f = f} {l = l} h e) x =
    absurd (differ (ap report_text (sym d) ∙ x ∙ ap report_text e) (two_at N q m w) (refused_at f l)
    (λ z. omega arith))
texts_same (a_two {N = N} {q = q} {m = m} w a b c g k j d) (a_clear {q = r} {m = n} i o e) x =
    absurd (differ (ap report_text (sym d) ∙ x ∙ ap report_text e) (two_at N q m w) (clear_at r n)
    (λ z. omega arith))
texts_same (a_two {N = N} {q = q} {m = m} w a b c g k j d)
    (a_two {N = M} {q = r} {m = n} v a' b' c' g' k' j' e) x =
    let p = ap (drop 44) (sym (two_begins N q m w) ∙ ap report_text (sym d) ∙ x ∙ ap report_text e
    ∙ two_begins M r n v) in
    let s = pair_same q m r n (decimal N ++ (10 ∷ (token_names ++ (10 ∷ token_lines w))))
    (decimal M ++ (10 ∷ (token_names ++ (10 ∷ token_lines v)))) p in
    let t = decimal_same N M 10 10 (token_names ++ (10 ∷ token_lines w))
    (token_names ++ (10 ∷ token_lines v)) (omega arith) (omega arith) s.2 in
    let u = words_same w v j j' (ap (drop 14) t.1) in
    d
    ∙ ap (λ (z : ℕ). share_reply_of z q m (Some w)) t.0
    ∙ ap (λ (z : ℕ). share_reply_of M z m (Some w)) s.0
    ∙ ap (λ (z : ℕ). share_reply_of M r z (Some w)) s.1
    ∙ ap (λ (z : Word). share_reply_of M r n (Some z)) u
    ∙ sym e

pub report_one : {s : List ℕ} {a b : ShareResult} → ReportOf s a → ReportOf s b → a ≡ b
report_one x y = texts_same x.report y.report (sym x.written ∙ y.written)

pub merge_text_settled : {s t a b : List ℕ} → MergeText s t a → MergeText s t b → a ≡ b
merge_text_settled (one_unwritten f x) (one_unwritten g y) = x ∙ sym y
merge_text_settled (one_unwritten f x) (two_unwritten g y) = x ∙ sym y
merge_text_settled (one_unwritten f x) (merging {a = a} p q m y) = absurd (f a p)
merge_text_settled (two_unwritten f x) (one_unwritten g y) = x ∙ sym y
merge_text_settled (two_unwritten f x) (two_unwritten g y) = x ∙ sym y
merge_text_settled (two_unwritten f x) (merging {b = b} p q m y) = absurd (f b q)
merge_text_settled (merging {a = a} p q m y) (one_unwritten f x) = absurd (f a p)
merge_text_settled (merging {b = b} p q m y) (two_unwritten f x) = absurd (f b q)
merge_text_settled (merging {a = a} {b = b} {r = r} p q m x)
    (merging {a = c} {b = d} {r = s} i j n y) =
    let k = rw (sym (report_one p i), sym (report_one q j)) at n in
    x ∙ ap report_text (merged_settled m k) ∙ sym y
