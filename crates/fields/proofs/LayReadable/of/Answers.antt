-- `fields::Lay::of` meets its contract: the bytes of an arm are those of a word.
use Prim.Native.Nat.{ℕ}
use mathlib.Core.Path.{sym, ap}
use Rattle.std.proofs.Common.{rules, List, [], ◌∷◌}
use Rattle.std.proofs.lemmas.Slice.Eq.{text_from_reads}
use Rattle.fields.specs.Words.{lay_of}
use Rattle.fields.proofs.LayReadable.of.Goals as goal

pub returns-in-single : goal.returns-in-single
returns-in-single c =
    let w : List ℕ = 115 ∷ 105 ∷ 110 ∷ 103 ∷ 108 ∷ 101 ∷ [] in
    sym (ap lay_of (text_from_reads c.args.f.now w (search rules) (search rules)))

pub returns-in-indent : goal.returns-in-indent
returns-in-indent c =
    let w : List ℕ = 105 ∷ 110 ∷ 100 ∷ 101 ∷ 110 ∷ 116 ∷ [] in
    sym (ap lay_of (text_from_reads c.args.f.now w (search rules) (search rules)))

pub returns-in-offside : goal.returns-in-offside
returns-in-offside c =
    let w : List ℕ = 111 ∷ 102 ∷ 102 ∷ 115 ∷ 105 ∷ 100 ∷ 101 ∷ [] in
    sym (ap lay_of (text_from_reads c.args.f.now w (search rules) (search rules)))

pub returns-in-offalign : goal.returns-in-offalign
returns-in-offalign c =
    let w : List ℕ = 111 ∷ 102 ∷ 102 ∷ 97 ∷ 108 ∷ 105 ∷ 103 ∷ 110 ∷ [] in
    sym (ap lay_of (text_from_reads c.args.f.now w (search rules) (search rules)))
