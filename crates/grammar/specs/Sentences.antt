-- A sentence's token places: its word, and what fills the others.
use Rattle.std.specs.Prelude.{take}
use Rattle.grammar.specs.declared.Sentence.{Sentence}
use Rattle.grammar.specs.Layout.{Word}
use Rattle.grammar.specs.declared.Token.{Token}

-- the word of a sentence: the first `count` tokens
abbrev pub spelled : Sentence → Word
spelled s = take s.count s.tokens

-- a token place past a sentence: all 0
abbrev pub no_token : Token
no_token = record {
  terminal = 0;
  line = record { 0 = 0 };
  column = record { 0 = 0 };
  width = record
      { 0 = 0 };
}
