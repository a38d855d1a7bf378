-- What the three flags say: docs/FORMAT.md, "The range sheet".
use Rattle.std.specs.Prelude.{Bool}
use Rattle.sets.specs.Says.{Says}
use Rattle.grammar.specs.Trees.{Rules}
use Rattle.grammar.specs.declared.Verdict.{Verdict}
use Rattle.column_ranges.specs.Ranges.{Ranges, SomeChoiceGives}
use Rattle.column_search.specs.declared.Flags.{Flags}

-- the flag of a verdict
abbrev pub flag : Flags → Verdict → Bool
flag f Verdict.None = f.none
flag f Verdict.One = f.one
flag f Verdict.Two = f.two

-- each flag says if some rising choice gives its verdict; if no choice rises, all three are false
pub record FlagsSay (g : Rules) (rs : Ranges) (f : Flags) : Type 0 where
  pub says : (v : Verdict) → Says (flag f v) (SomeChoiceGives g rs v)
