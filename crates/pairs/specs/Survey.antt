-- What the rules of a sheet let a nonterminal do, marks left aside; and the unary marks that nodes
-- inherit.
use Rattle.std.specs.Prelude.{◌⊎◌, ℕ}
use Rattle.grammar.specs.declared.UnaryMark.{UnaryMark}
use Rattle.grammar.specs.declared.BinaryMark.{BinaryMark}
use Rattle.grammar.specs.Trees.{Rules, HasAtom, HasUnary, HasBinary}
use Rattle.grammar.specs.Cycles.{Nullable}

-- A has a word with tokens
pub data Productive (g : Rules) : ℕ → Type 0 where
  by_atom : {A x : ℕ} → HasAtom g A x → Productive g A
  by_unary : {A C : ℕ} (m : UnaryMark) → HasUnary g A C m → Productive g C → Productive g A
  by_both : {A C D : ℕ} (m : BinaryMark) → HasBinary g A C D m
      → Productive g C → Productive g D → Productive g A
  by_first : {A C D : ℕ} (m : BinaryMark) → HasBinary g A C D m
      → Productive g C → Nullable g D → Productive g A
  by_second : {A C D : ℕ} (m : BinaryMark) → HasBinary g A C D m
      → Nullable g C → Productive g D → Productive g A

-- A has a word
abbrev pub HasWord : Rules → ℕ → Type 0
HasWord g A = Nullable g A ⊎ Productive g A

-- A stands in a tree of 0
pub data Occurs (g : Rules) : ℕ → Type 0 where
  at_top : Occurs g 0
  in_unary : {A C : ℕ} (m : UnaryMark) → HasUnary g A C m → Occurs g A → HasWord g C → Occurs g C
  in_first : {A C D : ℕ} (m : BinaryMark) → HasBinary g A C D m
      → Occurs g A → HasWord g C → HasWord g D → Occurs g C
  in_second : {A C D : ℕ} (m : BinaryMark) → HasBinary g A C D m
      → Occurs g A → HasWord g C → HasWord g D → Occurs g D

-- the terminal x begins a word of A
pub data CanBegin (g : Rules) : ℕ → ℕ → Type 0 where
  with_atom : {A x : ℕ} → HasAtom g A x → CanBegin g A x
  with_unary : {A C x : ℕ} (m : UnaryMark) → HasUnary g A C m → CanBegin g C x → CanBegin g A x
  with_first : {A C D x : ℕ} (m : BinaryMark) → HasBinary g A C D m
      → CanBegin g C x → HasWord g D → CanBegin g A x
  with_second : {A C D x : ℕ} (m : BinaryMark) → HasBinary g A C D m
      → Nullable g C → CanBegin g D x → CanBegin g A x

abbrev pub stronger : UnaryMark → UnaryMark → UnaryMark
stronger UnaryMark.None m = m
stronger UnaryMark.Offalign UnaryMark.None = UnaryMark.Offalign
stronger UnaryMark.Offalign UnaryMark.Offalign = UnaryMark.Offalign
stronger UnaryMark.Offalign UnaryMark.Offside = UnaryMark.Offside
stronger UnaryMark.Offalign UnaryMark.Single = UnaryMark.Single
stronger UnaryMark.Offside UnaryMark.None = UnaryMark.Offside
stronger UnaryMark.Offside UnaryMark.Offalign = UnaryMark.Offside
stronger UnaryMark.Offside UnaryMark.Offside = UnaryMark.Offside
stronger UnaryMark.Offside UnaryMark.Single = UnaryMark.Single
stronger UnaryMark.Single m = UnaryMark.Single

-- what is left of the mark of a word for a part of it that is not its front
abbrev pub onward_mark : UnaryMark → UnaryMark
onward_mark UnaryMark.None = UnaryMark.None
onward_mark UnaryMark.Offalign = UnaryMark.None
onward_mark UnaryMark.Offside = UnaryMark.None
onward_mark UnaryMark.Single = UnaryMark.Single

-- a node of A with tokens, in a tree of 0, may inherit the mark l: its word keeps it, by the nodes
-- above
pub data Inherits (g : Rules) : ℕ → UnaryMark → Type 0 where
  none_at_top : Inherits g 0 UnaryMark.None
  from_unary : {A C : ℕ} {l : UnaryMark} (m : UnaryMark) → HasUnary g A C m
      → Inherits g A l → Productive g C → Inherits g C (stronger l m)
  to_first : {A C D : ℕ} {l : UnaryMark} (m : BinaryMark) → HasBinary g A C D m
      → Inherits g A l → Productive g C → HasWord g D → Inherits g C l
  to_only : {A C D : ℕ} {l : UnaryMark} (m : BinaryMark) → HasBinary g A C D m
      → Inherits g A l → Nullable g C → Productive g D → Inherits g D l
  to_second : {A C D : ℕ} {l : UnaryMark} (m : BinaryMark) → HasBinary g A C D m
      → Inherits g A l → Productive g C → Productive g D → Inherits g D (onward_mark l)
