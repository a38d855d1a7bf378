-- What a text tells, from its fixed beginning and what follows it.
use mathlib.Core.Path.{◌≡◌, refl, sym, ap, ◌∙◌}
use mathlib.Core.Bool.{Bool, true, false}
use mathlib.Core.List.{List, [], ◌∷◌, ◌++◌}
use Prim.Native.Nat.{ℕ}
use native.Mathlib.Omega.{arith}
use lib.ListN.{drop, get_or}
use Rattle.printing.specs.Printing.{decimal, token_lines}
use Rattle.sheets.specs.Refusals.{number_of}
use Rattle.sheets.specs.TokenSheets.{token_names}
use Rattle.call_shares.specs.Share.{ShareResult}
use Rattle.call_shares.specs.Share.{share_reply_of}
use Rattle.sheets.specs.Results.{refusal}
use Rattle.share_text.specs.Shares.{report_text}
use Rattle.std.specs.Prelude.{Option, Some, None}
use Rattle.std.specs.Bool.{then_some}
use Rattle.sets.specs.Says.{Says}
use Rattle.scanning.specs.Scanned.{Starts}
use Rattle.reports.specs.declared.Told.{Told}
use Rattle.reports.specs.Reports.{Report, a_refusal, a_clear, a_two, ReportOf}
use Rattle.reports.specs.Rests.{pair_text, ClearRest, TwoRest, RefusedRest, TwoTold, Found}
use Rattle.reports.specs.Rests.{Refused, TellsOf}
use Rattle.reports.proofs.Beginnings.{clear_start, two_start, refused_start, clear_begins}
use Rattle.reports.proofs.Beginnings.{two_begins, refusal_begins}

module _ (s : List ℕ) where
  -- how a report begins, and what follows
  pub data Begins : Type 0 where
    with_refusal : Starts s refused_start → RefusedRest (drop 20 s) → Begins
    with_clear : Starts s clear_start → ClearRest (drop 46 s) → Begins
    with_two : {n N : ℕ} → Starts s two_start → TwoRest (drop 44 s) n N → Begins

  pub begins : {r : ShareResult} → ReportOf s r → Begins
  begins {r} x = go x.report
    where
      go : Report r → Begins
      go (a_refusal {f = f} {l = l} h e) =
          let p = x.written ∙ ap report_text e ∙ refusal_begins f l in
          with_refusal (record {
            rest = decimal (number_of f)
                ++ (32 ∷ (decimal l ++ (10 ∷ [])));
            is = p;
          })
          (record { fault = f; line = l; low = h; is = ap (drop 20) p })
      go (a_clear {q = q} {m = m} h k e) =
          let p = x.written ∙ ap report_text e ∙ clear_begins q m in
          with_clear (record { rest = pair_text q m (45 ∷ 10 ∷ []); is = p })
          (record { quotient = q; remainder = m; low = h; small = k; is = ap (drop 46) p })
      go (a_two {N = N} {q = q} {m = m} w h k j a b g e) =
          let p = x.written ∙ ap report_text e ∙ two_begins N q m w in
          with_two
          (record {
            rest = pair_text q m (decimal N ++ (10 ∷ (token_names ++ (10 ∷ token_lines w))));
            is = p;
          })
          (record {
            quotient = q;
            remainder = m;
            low = k;
            small = j;
            least = h;
            word = w;
            tokens = record { nonempty = a; few = b; good = g };
            count = refl;
            is = ap (drop 44) p;
          })

  -- no text begins in two of these ways
  apart : {a b : ℕ} → get_or s 12 0 ≡ a → get_or s 12 0 ≡ b → (a ≡ b → ⊥) → ⊥
  apart x y f = f (sym x ∙ y)

  clear_at : Starts s clear_start → get_or s 12 0 ≡ 99
  clear_at x = ap (λ (l : List ℕ). get_or l 12 0) x.is

  two_at : Starts s two_start → get_or s 12 0 ≡ 116
  two_at x = ap (λ (l : List ℕ). get_or l 12 0) x.is

  refused_at : Starts s refused_start → get_or s 12 0 ≡ 114
  refused_at x = ap (λ (l : List ℕ). get_or l 12 0) x.is

  -- 1. clear

  clear_tells : Starts s clear_start → ClearRest (drop 46 s) → Found s 0 0
  clear_tells x y =
      record {
        reply = share_reply_of 0 y.quotient y.remainder None;
        of =
            record {
              report = a_clear y.low y.small refl;
              written =
                  x.is ∙ ap (λ (l : List ℕ). clear_start ++ l) (sym (ap (drop 46) x.is) ∙ y.is)
                  ∙ sym (clear_begins y.quotient y.remainder);
            };
        taken = λ z. z;
        count = refl;
        number = refl;
      }

  clear_not : Starts s clear_start → (ClearRest (drop 46 s) → ⊥) → TellsOf s None
  clear_not x f r y = go (begins y)
    where
      go : Begins → ⊥
      go (with_refusal z w) = apart (clear_at x) (refused_at z) (λ e. omega arith)
      go (with_clear z w) = f w
      go (with_two z w) = apart (clear_at x) (two_at z) (λ e. omega arith)

  pub clear_told : (b : Bool) → Starts s clear_start → Says b (ClearRest (drop 46 s))
      → TellsOf s (then_some b Told.Clear)
  clear_told true x y = clear_tells x (y.is refl)
  clear_told false x y = clear_not x (y.isnt refl)

  -- 2. two

  pub two_tells : Starts s two_start → (o : Option Told) → TwoTold (drop 44 s) o → TellsOf s o
  two_tells x None f = λ r y. go (begins y)
    where
      go : Begins → ⊥
      go (with_refusal z w) = apart (two_at x) (refused_at z) (λ e. omega arith)
      go (with_clear z w) = apart (two_at x) (clear_at z) (λ e. omega arith)
      go (with_two {n = n} {N = N} z w) = f n N w
  two_tells x (Some Told.Refused) f = absurd f
  two_tells x (Some Told.Clear) f = absurd f
  two_tells x (Some (Told.Found n N)) y = (
    omega (arith, y.count, y.tokens.nonempty),
    record {
      reply = share_reply_of N y.quotient y.remainder (Some y.word);
      of =
          record {
            report = a_two y.word y.least y.low y.small y.tokens.nonempty
                y.tokens.few y.tokens.good refl;
            written =
                x.is ∙ ap (λ (l : List ℕ). two_start ++ l) (sym (ap (drop 44) x.is) ∙ y.is)
                ∙ sym (two_begins N y.quotient y.remainder y.word);
          };
      taken = λ z. z;
      count = y.count;
      number = refl;
    },
  )

  -- 3. a refusal

  refused_tells : Starts s refused_start → RefusedRest (drop 20 s) → Refused s
  refused_tells x y =
      record {
        reply = refusal y.fault y.line;
        of =
            record {
              report = a_refusal y.low refl;
              written =
                  x.is ∙ ap (λ (l : List ℕ). refused_start ++ l)
                  (sym (ap (drop 20) x.is) ∙ y.is)
                  ∙ sym (refusal_begins y.fault y.line);
            };
        refuses = tt;
      }

  refused_not : Starts s refused_start → (RefusedRest (drop 20 s) → ⊥) → TellsOf s None
  refused_not x f r y = go (begins y)
    where
      go : Begins → ⊥
      go (with_refusal z w) = f w
      go (with_clear z w) = apart (refused_at x) (clear_at z) (λ e. omega arith)
      go (with_two z w) = apart (refused_at x) (two_at z) (λ e. omega arith)

  pub refused_told : (b : Bool) → Starts s refused_start → Says b (RefusedRest (drop 20 s))
      → TellsOf s (then_some b Told.Refused)
  refused_told true x y = refused_tells x (y.is refl)
  refused_told false x y = refused_not x (y.isnt refl)

  -- 4. none of these

  pub none_tells : (Starts s clear_start → ⊥) → (Starts s two_start → ⊥)
      → (Starts s refused_start → ⊥)
      → TellsOf s None
  none_tells a b c r y = go (begins y)
    where
      go : Begins → ⊥
      go (with_refusal z w) = c z
      go (with_clear z w) = a z
      go (with_two z w) = b z
