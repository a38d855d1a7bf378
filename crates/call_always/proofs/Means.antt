-- What the reply means: clear says that the sheet is clear at every length.
use mathlib.Core.Path.{◌≡◌, refl, ◌∙◌, sym, subst}
use mathlib.Core.List.{List, [], ◌∷◌}
use Prim.Native.Nat.{ℕ}
use lib.ListN.{length}
use Rattle.pairs.proofs.DoubtLaws.{doubts_empty}
use Rattle.grammar.specs.Trees.{Rules}
use Rattle.grammar.specs.Sweeps.{Clear}
use Rattle.lists.specs.Lists.{bytes_of, GivesList, fits, large}
use Rattle.sheets.specs.declared.Fault.{Fault}
use Rattle.sheets.specs.Items.{Reading, accepted}
use Rattle.sheets.proofs.Once.{same_items}
use Rattle.pairs.specs.Always.{AlwaysClear}
use Rattle.pairs.specs.Doubts.{Doubt, AllDoubts}
use Rattle.pairs.proofs.ClearLaws.{passes_clear, always_sweeps}
use Rattle.doubt_list.specs.Entries.{doubt_bytes}
use Rattle.std.specs.Prelude.{Result, Ok, Err}
use Rattle.sheets.specs.declared.Refusal.{Refusal}
use Rattle.sheets.specs.Results.{refusal}
use Rattle.call_always.specs.declared.Told.{Told}
use Rattle.call_always.specs.Always.{always_reply_of, short, listing}
use Rattle.call_always.specs.Always.{AlwaysBy, refusing, reading}
use Rattle.call_always.specs.Meaning.{AlwaysMeans, clear, unknown}
use Rattle.call_always.specs.Meaning as Meaning

listed : {given : Reading Rules} {g : Rules} {f : Fault} {lent lent' : List ℕ}
    {r : Result Told Refusal}
    → given ≡ accepted g → (ds : List Doubt) → AllDoubts g ds
    → GivesList always_reply_of (refusal f 0) (bytes_of doubt_bytes ds) (length ds) lent
    lent' r
    → AlwaysMeans given r
listed e ds a (large h x p) = Meaning.refusing x
listed e [] a (fits h x p) = clear e (passes_clear ((doubts_empty a).0 refl)) x
listed e (d ∷ ds) a (fits h x p) = unknown d e a.each.0 x

pub always_means : {given : Reading Rules} {words words' list list' : List ℕ}
    {r : Result Told Refusal}
    → AlwaysBy given words words' list list' r → AlwaysMeans given r
always_means (refusing e x h i) = Meaning.refusing x
always_means (reading e (short h n x j k)) = Meaning.refusing x
always_means (reading e (listing {ds = ds} h a n x w)) = listed e ds a x

-- the rules of a sheet that is told clear
abbrev pub ClearRules : Reading Rules → Type 0
ClearRules given = (g : Rules) × (given ≡ accepted g) × AlwaysClear g

abbrev IsClear : Result Told Refusal → Type 0
IsClear (Ok Told.Clear) = Unit {0}
IsClear (Ok (Told.Unknown n)) = ⊥
IsClear (Err e) = ⊥

pub clear_given : {given : Reading Rules} {r : Result Told Refusal} → AlwaysMeans given r
    → r ≡ Ok Told.Clear → ClearRules given
clear_given (Meaning.refusing x) c = absurd (subst IsClear (sym c ∙ x) tt)
clear_given (clear {g = g} d a x) c = (g, d, a)
clear_given (unknown d e a x) c = absurd (subst IsClear (sym c ∙ x) tt)

-- CLEAR SAYS THAT NO SEQUENCE OF TOKENS HAS TWO TREES, whatever its length
pub clear_always : {given : Reading Rules} {words words' list list' : List ℕ}
    {r : Result Told Refusal}
    → AlwaysBy given words words' list list' r → r ≡ Ok Told.Clear → ClearRules given
clear_always x c = clear_given (always_means x) c

-- then every sweep of the sheet is clear, whatever its bound
pub clear_sweeps : {given : Reading Rules} {words words' list list' : List ℕ}
    {r : Result Told Refusal}
    → AlwaysBy given words words' list list' r → r ≡ Ok Told.Clear
    → (g : Rules) → given ≡ accepted g → (k : ℕ) → Clear g k
clear_sweeps x c g e k =
    let z = clear_always x c in
    always_sweeps (subst AlwaysClear (same_items z.1 e) z.2) k
