-- The mark none asks nothing.
use mathlib.Core.List.{[], ◌∷◌}
use Rattle.grammar.specs.declared.Token.{Token}
use Rattle.grammar.specs.declared.UnaryMark.TheVariants as UnaryMark
use Rattle.grammar.specs.declared.BinaryMark.TheVariants as BinaryMark
use Rattle.grammar.specs.Layout.{Word}
use Rattle.grammar.specs.Layout as Mark

none_keeps : (a : Token) (w : Word) → Mark.Every (Mark.Keeps UnaryMark.None a) w
none_keeps a [] = tt
none_keeps a (b ∷ w) = (tt, none_keeps a w)

pub none_unary : (w : Word) → Mark.Unary UnaryMark.None w
none_unary [] = tt
none_unary (a ∷ w) = none_keeps a w

pub none_binary : (u v : Word) → Mark.Binary BinaryMark.None u v
none_binary [] v = tt
none_binary (a ∷ u) [] = tt
none_binary (a ∷ u) (b ∷ v) = tt
