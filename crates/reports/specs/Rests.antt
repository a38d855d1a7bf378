-- For the contracts of inner functions only. What the readers of reports tell.
use Rattle.std.specs.Prelude.{◌≡◌, List, [], ◌∷◌, ◌++◌, ℕ, ◌≤◌, length, drop, Option, Some, None}
use Rattle.std.specs.Prelude.{Bool}
use Rattle.std.specs.Ordering.{partial_lt}
use Rattle.grammar.specs.declared.Token.{Token}
use Rattle.grammar.specs.Layout.{Word, Every}
use Rattle.printing.specs.Printing.{decimal, token_text_of, token_lines}
use Rattle.sheets.specs.declared.Fault.{Fault}
use Rattle.sheets.specs.Refusals.{number_of}
use Rattle.sheets.specs.TokenSheets.{token_names}
use Rattle.sweep_answers.specs.Sweep.{sweep_limit}
use Rattle.call_shares.specs.Share.{ShareResult, share_sentence, share_number}
use Rattle.call_shares.specs.Merge.{Refuses}
use Rattle.reports.specs.contracts.ToldPartialOrd.TheImpl as Order
use Rattle.reports.specs.declared.Told.{Told}
use Rattle.reports.specs.Reports.{ReportToken, ReportOf}

-- a token line stands at a place, and the text goes on at `next`
pub record TokenTo (s : List ℕ) (at next : ℕ) : Type 0 where
  pub token : Token
  pub good : ReportToken token
  pub inside : next ≤ length s
  pub is : drop at s ≡ token_text_of token ++ drop next s

pub record NoToken (s : List ℕ) (at : ℕ) : Type 0 where
  pub absent : (t : Token) (rest : List ℕ) → ReportToken t → drop at s ≡ token_text_of t ++ rest → ⊥

abbrev pub TokenAt : List ℕ → ℕ → Option ℕ → Type 0
TokenAt s at (Some next) = TokenTo s at next
TokenAt s at None = NoToken s at

-- the tokens of a report
pub record Tokens (w : Word) : Type 0 where
  pub nonempty : 1 ≤ length w
  pub few : length w ≤ 7
  pub good : Every ReportToken w

-- n token lines, and nothing else
abbrev pub Lines : List ℕ → Option ℕ → Type 0
Lines text (Some n) = (w : Word) × Tokens w × (length w ≡ n) × (text ≡ token_lines w)
Lines text None = (w : Word) → Tokens w → text ≡ token_lines w → ⊥

-- two numbers, each with a blank behind it
abbrev pub pair_text : ℕ → ℕ → List ℕ → List ℕ
pair_text q m rest = decimal q ++ (32 ∷ (decimal m ++ (32 ∷ rest)))

pub record PairTo (s : List ℕ) (at next : ℕ) : Type 0 where
  pub quotient : ℕ
  pub remainder : ℕ
  pub low : quotient ≤ sweep_limit
  pub small : remainder ≤ sweep_limit
  pub inside : next ≤ length s
  pub is : drop at s ≡ pair_text quotient remainder (drop next s)

pub record NoPair (s : List ℕ) (at : ℕ) : Type 0 where
  pub absent : (q m : ℕ) (rest : List ℕ) → q ≤ sweep_limit → m ≤ sweep_limit
      → drop at s ≡ pair_text q m rest → ⊥

abbrev pub PairAt : List ℕ → ℕ → Option ℕ → Type 0
PairAt s at (Some next) = PairTo s at next
PairAt s at None = NoPair s at

-- what follows the line of names in a clear report
pub record ClearRest (text : List ℕ) : Type 0 where
  pub quotient : ℕ
  pub remainder : ℕ
  pub low : quotient ≤ sweep_limit
  pub small : remainder ≤ sweep_limit
  pub is : text ≡ pair_text quotient remainder (45 ∷ 10 ∷ [])

-- what follows it in a report of n tokens with the number N
pub record TwoRest (text : List ℕ) (n N : ℕ) : Type 0 where
  pub quotient : ℕ
  pub remainder : ℕ
  pub low : quotient ≤ sweep_limit
  pub small : remainder ≤ sweep_limit
  pub least : N ≤ sweep_limit
  pub word : Word
  pub tokens : Tokens word
  pub count : length word ≡ n
  pub is : text ≡ pair_text quotient remainder
      (decimal N ++ (10 ∷ (token_names ++ (10 ∷ token_lines word))))

-- what follows `refused-`
pub record RefusedRest (text : List ℕ) : Type 0 where
  pub fault : Fault
  pub line : ℕ
  pub low : line ≤ sweep_limit
  pub is : text ≡ decimal (number_of fault) ++ (32 ∷ (decimal line ++ (10 ∷ [])))

-- the number is that of a refusal
pub record OfFault (n : ℕ) : Type 0 where
  pub fault : Fault
  pub is : number_of fault ≡ n

-- what a reader of the rest of a report of two trees tells
abbrev pub TwoTold : List ℕ → Option Told → Type 0
TwoTold text None = (n N : ℕ) → TwoRest text n N → ⊥
TwoTold text (Some Told.Refused) = ⊥
TwoTold text (Some (Told.Found n N)) = TwoRest text n N
TwoTold text (Some Told.Clear) = ⊥

-- a report that is no refusal, of n tokens with the number N; a clear one has neither
pub record Found (text : List ℕ) (n N : ℕ) : Type 0 where
  pub reply : ShareResult
  pub of : ReportOf text reply
  pub taken : Refuses reply → ⊥
  pub count : (share_sentence reply).count ≡ n
  pub number : share_number reply ≡ N

pub record Refused (text : List ℕ) : Type 0 where
  pub reply : ShareResult
  pub of : ReportOf text reply
  pub refuses : Refuses reply

-- what a text tells
abbrev pub TellsOf : List ℕ → Option Told → Type 0
TellsOf text None = (r : ShareResult) → ReportOf text r → ⊥
TellsOf text (Some Told.Refused) = Refused text
TellsOf text (Some (Told.Found n N)) = (1 ≤ n) × Found text n N
TellsOf text (Some Told.Clear) = Found text 0 0

-- the order of what reports tell: refusals, then sentences by their numbers of tokens and their own
-- numbers, then clear
abbrev pub less : Told → Told → Bool
less = partial_lt Order.partial_cmp-value.it
