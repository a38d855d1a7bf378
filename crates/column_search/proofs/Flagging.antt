-- Flags that are set one after the other.
use mathlib.Core.Path.{◌≡◌, refl, sym, subst}
use mathlib.Core.Bool.{true}
use mathlib.Core.Logic.{◌⊎◌, inl, inr, ⊎_elim}
use Rattle.grammar.specs.Trees.{Rules}
use Rattle.grammar.specs.declared.Verdict.{Verdict}
use Rattle.column_ranges.specs.Ranges.{Ranges}
use Rattle.column_search.specs.declared.Flags.{Flags}
use Rattle.column_search.specs.Answers.{flag}
use Rattle.column_search.specs.Searching.{FlagsGiven, With}

pub grown_none : {g : Rules} {rs : Ranges} (f : Flags) → FlagsGiven g rs f f
grown_none f = record { kept = λ v e. e; given = λ v e. inl e }

pub grown_more : {g : Rules} {rs : Ranges} {f r s : Flags} → FlagsGiven g rs f r
    → FlagsGiven g rs r s
    → FlagsGiven g rs f s
grown_more x y = record {
  kept = λ v e. y.kept v (x.kept v e);
  given = λ v e. ⊎_elim
      (λ z. x.given v z) inr (y.given v e);
}

-- ---- one verdict more

pub with_none : (f : Flags) (v : Verdict) → v ≡ Verdict.None
    → With f v (record { none = true; one = f.one; two = f.two })
with_none f v e =
    subst (λ (u : Verdict). With f u r) (sym e) (record { set = refl; kept = kept; given = given })
  where
    r : Flags
    r = record { none = true; one = f.one; two = f.two }

    kept : (u : Verdict) → flag f u ≡ true → flag r u ≡ true
    kept Verdict.None h = refl
    kept Verdict.One h = h
    kept Verdict.Two h = h

    given : (u : Verdict) → flag r u ≡ true → (flag f u ≡ true) ⊎ (u ≡ Verdict.None)
    given Verdict.None h = inr refl
    given Verdict.One h = inl h
    given Verdict.Two h = inl h

pub with_one : (f : Flags) (v : Verdict) → v ≡ Verdict.One
    → With f v (record { none = f.none; one = true; two = f.two })
with_one f v e =
    subst (λ (u : Verdict). With f u r) (sym e) (record { set = refl; kept = kept; given = given })
  where
    r : Flags
    r = record { none = f.none; one = true; two = f.two }

    kept : (u : Verdict) → flag f u ≡ true → flag r u ≡ true
    kept Verdict.None h = h
    kept Verdict.One h = refl
    kept Verdict.Two h = h

    given : (u : Verdict) → flag r u ≡ true → (flag f u ≡ true) ⊎ (u ≡ Verdict.One)
    given Verdict.None h = inl h
    given Verdict.One h = inr refl
    given Verdict.Two h = inl h

pub with_two : (f : Flags) (v : Verdict) → v ≡ Verdict.Two
    → With f v (record { none = f.none; one = f.one; two = true })
with_two f v e =
    subst (λ (u : Verdict). With f u r) (sym e) (record { set = refl; kept = kept; given = given })
  where
    r : Flags
    r = record { none = f.none; one = f.one; two = true }

    kept : (u : Verdict) → flag f u ≡ true → flag r u ≡ true
    kept Verdict.None h = h
    kept Verdict.One h = h
    kept Verdict.Two h = refl

    given : (u : Verdict) → flag r u ≡ true → (flag f u ≡ true) ⊎ (u ≡ Verdict.Two)
    given Verdict.None h = inl h
    given Verdict.One h = inl h
    given Verdict.Two h = inr refl

-- ---- all three

pub all_set : (f : Flags) → f.none ≡ true → f.one ≡ true → f.two ≡ true → (v : Verdict)
    → flag f v ≡ true
all_set f a b c Verdict.None = a
all_set f a b c Verdict.One = b
all_set f a b c Verdict.Two = c
