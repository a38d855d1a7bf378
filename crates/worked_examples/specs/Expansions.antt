-- Clause sheets and the rule sheets that they stand for (docs/FORMAT.md, "The clause sheet"), both
-- as they are printed, as one table.
use Rattle.std.specs.Prelude.{◌≡◌, List, [], ◌∷◌, ◌++◌}
use Prim.Native.String.{String}
use Rattle.sheets.specs.Items.{Reading, accepted, refused}
use Rattle.sheets.specs.RuleSheets.{rule_sheet}
use Rattle.clause_sheets.specs.ClauseSheets.{clause_sheet}
use Rattle.worked_examples.specs.Bytes.{bytes}
use Rattle.worked_examples.specs.Patches.{rules}

-- the lines of a clause sheet, and those of the rule sheet
pub record Sample : Type 0 where
  pub clauses : String
  pub expanded : String

abbrev pub Taken : {A : Type 0} → Reading A → Type 0
Taken (accepted l) = Unit {0}
Taken (refused f l) = ⊥

-- the clause sheet is accepted and gives the rules of the rule sheet
pub record Expands (s : Sample) : Type 0 where
  pub taken : Taken (clause_sheet (bytes "left clause\n" ++ bytes s.clauses))
  pub same : clause_sheet (bytes "left clause\n" ++ bytes s.clauses)
      ≡ rule_sheet (rules s.expanded)

abbrev pub expansions : List Sample
expansions =
    -- one item
    record { clauses = "0 n1\n"; expanded = "0 U 2 - none\n2 U 1 - none\n" }
    -- two lines of one left, and alternatives
    ∷ record {
      clauses = "0 t0\n1 n0 | t1\n0 t2\n";
      expanded =
          "0 U 2 - none\n0 U 7 - none\n1 U 4 - none\n1 U 5 - none\n2 U 3 - none\n3 A 0 - none\n4 U 0 - none\n5 U 6 - none\n6 A 1 - none\n7 U 8 - none\n8 A 2 - none\n";
    }
    -- `?`, whose E rule comes last, and `*`, whose E rule comes first; a rest
    ∷ record {
      clauses = "0 t0 n0? t1*\n";
      expanded =
          "0 U 1 - none\n1 B 2 3 none\n2 A 0 - none\n3 B 4 5 none\n4 U 0 - none\n4 E - - none\n5 E - - none\n5 U 6 - none\n6 B 5 7 none\n7 A 1 - none\n";
    }
    -- a marked group, `:indent:` that binds its left item to all that follows, `+:align`
    ∷ record {
      clauses = "0 (n0 :indent: t0 n1):offside\n1 n0+:align\n";
      expanded =
          "0 U 2 - none\n1 U 8 - none\n2 U 3 - none\n3 U 4 - offside\n4 U 5 - none\n5 B 0 6 indent\n6 B 7 1 none\n7 A 0 - none\n8 U 9 - none\n9 U 0 - none\n9 U 10 - none\n10 B 9 0 align\n";
    }
    ∷ []
