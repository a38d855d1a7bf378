-- Clear of a clause sheet says that no sequence of tokens has two readings under its own clauses.
use mathlib.Core.Path.{◌≡◌}
use mathlib.Core.List.{List}
use Prim.Native.Nat.{ℕ}
use Rattle.grammar.specs.Trees.{Rules}
use Rattle.sheets.specs.Items.{accepted}
use Rattle.clauses.proofs.Verdicts.{two_trees}
use Rattle.clause_sheets.specs.ClauseSheets.{clause_sheet}
use Rattle.clause_sheets.proofs.Meaning.{meant}
use Rattle.pairs.specs.Always.{AlwaysClear}
use Rattle.std.specs.Prelude.{Result, Ok}
use Rattle.sheets.specs.declared.Refusal.{Refusal}
use Rattle.call_always.specs.declared.Told.{Told}
use Rattle.call_always.specs.declared.Told.TheVariants as Told
use Rattle.call_always.proofs.Means.{clear_always}
use Rattle.call_always.specs.Clauses.{ClauseAlways}
use Rattle.call_always.specs.ClauseMeaning.{ClearSheet}

pub clear_sheet : (s : List ℕ) (g : Rules) → clause_sheet s ≡ accepted g → AlwaysClear g
    → ClearSheet s
clear_sheet s g e a =
    let m = meant s g e in
    record {
      own = m.clauses;
      are = m.own;
      clear = record { absent = λ w rise wide t. a.clear w rise wide (two_trees m.match w t) };
    }

pub clear_readings : (s : List ℕ) {words words' list list' : List ℕ} {r : Result Told Refusal}
    → ClauseAlways s words words' list list' r → r ≡ Ok Told.Clear → ClearSheet s
clear_readings s x c = let z = clear_always x c in clear_sheet s z.0 z.1 z.2
