-- A report's text is fixed bytes and what follows them.
use Rattle.std.specs.Prelude.{Some, None}
use mathlib.Core.Path.{◌≡◌, ap, ◌∙◌}
use mathlib.Core.List.{List, [], ◌∷◌, ◌++◌, append-nil, append_assoc}
use Prim.Native.Nat.{ℕ, ◌-◌}
use native.Mathlib.Omega.{arith}
use lib.ListN.{length, replicate}
use lib.Seq.{take-append_seam}
use Rattle.grammar.specs.Layout.{Word}
use Rattle.grammar.specs.Sentences.{no_token}
use Rattle.printing.specs.Printing.{decimal, token_lines}
use Rattle.printing.proofs.Decimals.{decimal_one}
use Rattle.sheets.specs.declared.Fault.{Fault}
use Rattle.sheets.specs.Refusals.{number_of}
use Rattle.sheets.specs.TokenSheets.{token_names}
use Rattle.text.specs.Output.{answer_names, refused_text_of, head}
use Rattle.call_shares.specs.Share.{share_reply_of}
use Rattle.sheets.specs.Results.{refusal}
use Rattle.share_text.specs.Shares.{share_lines, report_text}
use Rattle.reports.specs.Rests.{pair_text}

-- `answer line`, `clear 0`, `quotient remainder number`
abbrev pub clear_start : List ℕ
clear_start =
    97 ∷ 110 ∷ 115 ∷ 119 ∷ 101 ∷ 114 ∷ 32 ∷ 108 ∷ 105 ∷ 110 ∷ 101 ∷ 10
    ∷ 99 ∷ 108 ∷ 101 ∷ 97 ∷ 114 ∷ 32 ∷ 48 ∷ 10
    ∷ 113 ∷ 117 ∷ 111 ∷ 116 ∷ 105 ∷ 101 ∷ 110 ∷ 116 ∷ 32 ∷ 114 ∷ 101 ∷ 109 ∷ 97 ∷ 105 ∷ 110 ∷ 100
    ∷ 101 ∷ 114 ∷ 32 ∷ 110 ∷ 117 ∷ 109 ∷ 98 ∷ 101 ∷ 114 ∷ 10 ∷ []

-- `answer line`, `two 0`, `quotient remainder number`
abbrev pub two_start : List ℕ
two_start =
    97 ∷ 110 ∷ 115 ∷ 119 ∷ 101 ∷ 114 ∷ 32 ∷ 108 ∷ 105 ∷ 110 ∷ 101 ∷ 10
    ∷ 116 ∷ 119 ∷ 111 ∷ 32 ∷ 48 ∷ 10
    ∷ 113 ∷ 117 ∷ 111 ∷ 116 ∷ 105 ∷ 101 ∷ 110 ∷ 116 ∷ 32 ∷ 114 ∷ 101 ∷ 109 ∷ 97 ∷ 105 ∷ 110 ∷ 100
    ∷ 101 ∷ 114 ∷ 32 ∷ 110 ∷ 117 ∷ 109 ∷ 98 ∷ 101 ∷ 114 ∷ 10 ∷ []

-- `answer line`, `refused-`
abbrev pub refused_start : List ℕ
refused_start = 97 ∷ 110 ∷ 115 ∷ 119 ∷ 101 ∷ 114 ∷ 32 ∷ 108 ∷ 105 ∷ 110 ∷ 101 ∷ 10 ∷ 114 ∷ 101 ∷ 102
    ∷ 117 ∷ 115 ∷ 101 ∷ 100 ∷ 45 ∷ []

abbrev refused_word : List ℕ
refused_word = 114 ∷ 101 ∷ 102 ∷ 117 ∷ 115 ∷ 101 ∷ 100 ∷ 45 ∷ []

nought : decimal 0 ≡ 48 ∷ []
nought = decimal_one 0 (omega arith)

pub clear_begins : (q m : ℕ) → report_text (share_reply_of 0 q m None) ≡ clear_start
    ++ pair_text q m (45 ∷ 10 ∷ [])
unfolding share_lines
clear_begins q m = simp (nought, append_assoc, append-nil)

pub two_begins : (N q m : ℕ) (w : Word)
    → report_text (share_reply_of N q m (Some w)) ≡ two_start
    ++ pair_text q m (decimal N ++ (10 ∷ (token_names ++ (10 ∷ token_lines w))))
unfolding share_lines
two_begins N q m w =
    rw (take-append_seam w (replicate (64 - length w) no_token)) (simp (nought, append_assoc))

pub refusal_begins : (f : Fault) (l : ℕ)
    → report_text (refusal f l) ≡ refused_start
    ++ (decimal (number_of f) ++ (32 ∷ (decimal l ++ (10 ∷ []))))
refusal_begins f l =
    let h = head (refused_text_of (number_of f)) l in
    append-nil (h ++ []) ∙ append-nil h ∙ ap (λ (x : List ℕ). answer_names ++ x)
    (append_assoc refused_word (decimal (number_of f)) (32 ∷ (decimal l ++ (10 ∷ []))))
