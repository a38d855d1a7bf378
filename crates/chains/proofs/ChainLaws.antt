-- The levels of spans, and the table's entries one after the other.
use mathlib.Core.Path.{◌≡◌, sym, ap, ◌∙◌, subst}
use mathlib.Core.List.{List}
use mathlib.Core.Bool.{true}
use mathlib.Core.Logic.{◌↔◌}
use Prim.Native.Nat.{ℕ, zero, suc, ◌+◌, ◌*◌, ◌≤◌, ◌<◌}
use native.Mathlib.Omega.{arith}
use native.Mathlib.Decide.{ℕ_discrete}
use lib.ListN.{length, get_or}
use Rattle.sets.specs.Sets.{In}
use Rattle.grammar.specs.declared.Clause.{Clause}
use Rattle.grammar.specs.declared.UnaryMark.{UnaryMark}
use Rattle.grammar.specs.Trees.{Rules}
use Rattle.marks.specs.declared.SpanMarks.{SpanMarks}
use Rattle.std.specs.Prelude.{Option, Some, None}
use Rattle.grammar.specs.declared.Column.{Column}
use Rattle.marks.specs.Later.{OffsideBy, OffalignBy}
use Rattle.marks.specs.Marked.{UnaryBy}
use Rattle.tables.specs.Tables.{rule}
use Rattle.cuts.specs.declared.Pair.{Pair}
use Rattle.cuts.specs.Cuts.{words_of_of}
use Rattle.cuts.specs.Closure.{Follows, Doubles, ChainEntry, Just, Never}
use Rattle.chains.specs.SpanLinks.{Over, Beside, LinkAt, span_links}
use Rattle.chains.specs.Chains.{rank, HoldsAt, Leveled, Upto, Level, Chains, Ranked, Unranked}
use Rattle.chains.specs.Chains.{Stored, Copied}
use Rattle.cuts.proofs.ClosureLaws.{follows_as, doubles_as}
use Rattle.chains.proofs.TableLaws.{entry_as}

-- ---- levels

offside_align : (c : Column) (v : Option Column) → OffsideBy c v → OffalignBy c v
offside_align c None h = tt
offside_align c (Some l) h = omega arith

module _ (k : SpanMarks) where
  below : UnaryBy k UnaryMark.Offside → UnaryBy k UnaryMark.Offalign
  below = offside_align k.first k.least

  pub level_three : k.single ≡ true → Leveled k 3
  level_three s = record { small = omega arith; holds = go }
    where
      go : (UnaryBy k UnaryMark.Single → UnaryBy k UnaryMark.Offside) → (m : UnaryMark)
          → HoldsAt 3 m ↔ UnaryBy k m
      go f UnaryMark.None = (λ x. tt, λ x. omega arith)
      go f UnaryMark.Offside = (λ x. f s, λ x. omega arith)
      go f UnaryMark.Offalign = (λ x. below (f s), λ x. omega arith)
      go f UnaryMark.Single = (λ x. s, λ x. omega arith)

  pub level_two : (k.single ≡ true → ⊥) → UnaryBy k UnaryMark.Offside → Leveled k 2
  level_two s o = record { small = omega arith; holds = λ f. go }
    where
      go : (m : UnaryMark) → HoldsAt 2 m ↔ UnaryBy k m
      go UnaryMark.None = (λ x. tt, λ x. omega arith)
      go UnaryMark.Offside = (λ x. o, λ x. omega arith)
      go UnaryMark.Offalign = (λ x. below o, λ x. omega arith)
      go UnaryMark.Single = (λ x. absurd (omega arith), λ x. absurd (s x))

  pub level_one : (k.single ≡ true → ⊥) → (UnaryBy k UnaryMark.Offside → ⊥)
      → UnaryBy k UnaryMark.Offalign → Leveled k 1
  level_one s o a = record { small = omega arith; holds = λ f. go }
    where
      go : (m : UnaryMark) → HoldsAt 1 m ↔ UnaryBy k m
      go UnaryMark.None = (λ x. tt, λ x. omega arith)
      go UnaryMark.Offside = (λ x. absurd (omega arith), λ x. absurd (o x))
      go UnaryMark.Offalign = (λ x. a, λ x. omega arith)
      go UnaryMark.Single = (λ x. absurd (omega arith), λ x. absurd (s x))

  pub level_none : (k.single ≡ true → ⊥) → (UnaryBy k UnaryMark.Offside → ⊥)
      → (UnaryBy k UnaryMark.Offalign → ⊥) → Leveled k 0
  level_none s o a = record { small = omega arith; holds = λ f. go }
    where
      go : (m : UnaryMark) → HoldsAt 0 m ↔ UnaryBy k m
      go UnaryMark.None = (λ x. tt, λ x. omega arith)
      go UnaryMark.Offside = (λ x. absurd (omega arith), λ x. absurd (o x))
      go UnaryMark.Offalign = (λ x. absurd (omega arith), λ x. absurd (a x))
      go UnaryMark.Single = (λ x. absurd (omega arith), λ x. absurd (s x))

-- ---- no mark tells the level l from the one below

pub entry_below : (g : Rules) (e : Pair) (l : ℕ) → Unranked (l + 1) g (length g)
    → (B : ℕ) (u : Pair) → ChainEntry (span_links g (HoldsAt l) e.one e.two) B u
    → ChainEntry (span_links g (HoldsAt (l + 1)) e.one e.two) B u
entry_below g e l n = entry_as g e.one e.two (HoldsAt l) (HoldsAt (l + 1)) same
  where
    same : (i : ℕ) → i < length g → (C : ℕ) (m : UnaryMark) → (rule g i).clause ≡ Clause.Unary C m
        → HoldsAt l m ↔ HoldsAt (l + 1) m
    same i h C m z = (λ x. omega arith, λ x. go (ℕ_discrete (rank m) (l + 1)) x)
      where
        go : Dec (rank m ≡ l + 1) → rank m ≤ l + 1 → rank m ≤ l
        go (yes y) x = absurd (n.absent i h (subst (Ranked (l + 1)) (sym z) y))
        go (no y) x = omega arith

-- ---- one level after the other

pub upto_none : (g : Rules) (e : Pair) (table : List ℕ) → length table ≡ 512 → Upto g e table 0
upto_none g e table s = record { size = s; entry = λ i B h k. absurd (omega arith) }

pub upto_all : {g : Rules} {e : Pair} {table : List ℕ} {l : ℕ} → 4 ≤ l → Upto g e table l
    → Chains g e table
upto_all h t = record { size = t.size; entry = λ i B a k. t.entry i B (omega arith) k }

upto_next : (g : Rules) (e : Pair) {ws ws' : List ℕ} (l : ℕ) → Upto g e ws l
    → length ws' ≡ length ws → ((q : ℕ) → q < 128 * l → get_or ws' q 0 ≡ get_or ws q 0)
    → ((B : ℕ) → B < 64 → ChainEntry (span_links g (HoldsAt l) e.one e.two) B
    (words_of_of ws' (128 * l) B)) → Upto g e ws' (l + 1)
upto_next g e {ws} {ws'} l t s same new =
    record { size = s ∙ t.size; entry = λ i B h k. go i B h k (ℕ_discrete i l) }
  where
    go : (i B : ℕ) → i < l + 1 → B < 64 → Dec (i ≡ l)
        → ChainEntry (span_links g (HoldsAt i) e.one e.two) B (words_of_of ws' (128 * i) B)
    go i B h k (yes z) = subst (λ (x : ℕ). ChainEntry (span_links g (HoldsAt x) e.one e.two) B
        (words_of_of ws' (128 * x) B)) (sym z) (new B k)
    go i B h k (no z) =
        subst (ChainEntry (span_links g (HoldsAt i) e.one e.two) B)
        (λ x. record {
          one = sym (same (128 * i + 2 * B) (omega arith)) x;
          two = sym
              (same (128 * i + 2 * B + 1) (omega arith)) x;
        }) (t.entry i B (omega arith) k)

-- ---- a level stored

pub upto_stored : (g : Rules) (e : Pair) {ups ws ws' : List ℕ} (l : ℕ) → Level g e l ups
    → Upto g e ws l → Stored ups ws ws' l 128 → Upto g e ws' (l + 1)
upto_stored g e {ups} {ws} {ws'} l v t c = upto_next g e l t c.size c.else new
  where
    new : (B : ℕ) → B < 64 → ChainEntry (span_links g (HoldsAt l) e.one e.two) B
        (words_of_of ws' (128 * l) B)
    new B k = subst (ChainEntry (span_links g (HoldsAt l) e.one e.two) B)
        (λ x. record { one = first x; two = second x }) (v.entry B k)
      where
        first : get_or ups (0 + 2 * B) 0 ≡ get_or ws' (128 * l + 2 * B) 0
        first = ap (λ (q : ℕ). get_or ups q 0) (let y : 0 + 2 * B ≡ 2 * B = omega arith in y)
            ∙ sym (c.here (2 * B) (omega arith))

        second : get_or ups (0 + 2 * B + 1) 0 ≡ get_or ws' (128 * l + 2 * B + 1) 0
        second = ap (λ (q : ℕ). get_or ups q 0)
            (let y : 0 + 2 * B + 1 ≡ 2 * B + 1 = omega arith in y)
            ∙ sym (c.here (2 * B + 1) (omega arith)) ∙ ap (λ (q : ℕ). get_or ws' q 0)
            (let y : 128 * l + (2 * B + 1) ≡ 128 * l + 2 * B + 1 = omega arith in y)

-- ---- a level copied

pub upto_copied : (g : Rules) (e : Pair) {ws ws' : List ℕ} (l : ℕ) → Unranked (l + 1) g (length g)
    → Upto g e ws (l + 1) → Copied ws ws' l 128 → Upto g e ws' (l + 1 + 1)
upto_copied g e {ws} {ws'} l n t c =
    upto_next g e (l + 1) t c.size (λ q h. c.else q (omega arith)) new
  where
    new : (B : ℕ) → B < 64 → ChainEntry (span_links g (HoldsAt (l + 1)) e.one e.two) B
        (words_of_of ws' (128 * (l + 1)) B)
    new B k = subst (ChainEntry (span_links g (HoldsAt (l + 1)) e.one e.two) B)
        (λ x. record { one = first x; two = second x })
        (entry_below g e l n B (words_of_of ws (128 * l) B) (t.entry l B (omega arith) k))
      where
        first : get_or ws (128 * l + 2 * B) 0 ≡ get_or ws' (128 * (l + 1) + 2 * B) 0
        first = sym (ap (λ (q : ℕ). get_or ws' q 0)
            (let y : 128 * (l + 1) + 2 * B ≡ 128 * l + 2 * B + 128 = omega arith in y)
            ∙ c.here (2 * B) (omega arith))

        second : get_or ws (128 * l + 2 * B + 1) 0 ≡ get_or ws' (128 * (l + 1) + 2 * B + 1) 0
        second = sym (ap (λ (q : ℕ). get_or ws' q 0)
            (let y : 128 * (l + 1) + 2 * B + 1 ≡ 128 * l + (2 * B + 1) + 128 = omega arith in y)
            ∙ c.here (2 * B + 1) (omega arith) ∙ ap (λ (q : ℕ). get_or ws q 0)
            (let y : 128 * l + (2 * B + 1) ≡ 128 * l + 2 * B + 1 = omega arith in y))

-- ---- a pair of the empty word that has the same members

over_for : (holds : UnaryMark → Type 0) (one one' : ℕ) → ((A : ℕ) → In one A → In one' A)
    → (c : Clause) (l B : ℕ) → Over holds one c l B → Over holds one' c l B
over_for holds one one' f Clause.Empty l B o = o
over_for holds one one' f (Clause.Atom a b) l B o = o
over_for holds one one' f (Clause.Unary C m) zero B o = o
over_for holds one one' f (Clause.Unary C m) (suc l) B o = o
over_for holds one one' f (Clause.Binary C D m) zero B o = (o.0, f C o.1)
over_for holds one one' f (Clause.Binary C D m) (suc zero) B o = (o.0, f D o.1)
over_for holds one one' f (Clause.Binary C D m) (suc (suc l)) B o = o

beside_for : (two two' : ℕ) → ((A : ℕ) → In two A → In two' A) → (c : Clause) (l : ℕ)
    → Beside two c l → Beside two' c l
beside_for two two' f Clause.Empty l b = b
beside_for two two' f (Clause.Atom a b') l b = b
beside_for two two' f (Clause.Unary C m) l b = b
beside_for two two' f (Clause.Binary C D m) zero b = f C b
beside_for two two' f (Clause.Binary C D m) (suc zero) b = f D b
beside_for two two' f (Clause.Binary C D m) (suc (suc l)) b = b

module _ (g : Rules) (holds : UnaryMark → Type 0) (e e' : Pair)
    (one : (A : ℕ) → In e.one A → In e'.one A)
    (two : (A : ℕ) → In e.two A → In e'.two A) (B : ℕ) where
  link_for : (A i l C : ℕ) → LinkAt g holds e.one A i l C → LinkAt g holds e'.one A i l C
  link_for A i l C x = record {
    within = x.within;
    left = x.left;
    over = over_for holds e.one
        e'.one one (rule g i).clause l C x.over;
  }

  follows_for : {A : ℕ} → Follows (span_links g holds e.one e.two) (Just B) A
      → Follows (span_links g holds e'.one e'.two) (Just B) A
  follows_for = follows_as (span_links g holds e.one e.two)
      (span_links g holds e'.one e'.two) (Just B) (Just B) Never Never link_for
      (λ i l. beside_for e.two e'.two two (rule g i).clause l) (λ A x. x) (λ A x. x)

  doubles_for : {A : ℕ} → Doubles (span_links g holds e.one e.two) (Just B) Never A
      → Doubles (span_links g holds e'.one e'.two) (Just B) Never A
  doubles_for = doubles_as (span_links g holds e.one e.two)
      (span_links g holds e'.one e'.two) (Just B) (Just B) Never Never link_for
      (λ i l. beside_for e.two e'.two two (rule g i).clause l) (λ A x. x) (λ A x. x)

pub chains_for : {g : Rules} {e e' : Pair} {table : List ℕ}
    → ((A : ℕ) → In e.one A ↔ In e'.one A) → ((A : ℕ) → In e.two A ↔ In e'.two A)
    → Chains g e table → Chains g e' table
chains_for {g} {e} {e'} one two t = record {
  size = t.size;
  entry = λ i B h k. let x = t.entry i B h k in record {
    one = λ A. (
      λ y. follows_for g (HoldsAt i) e e' (λ C. (one C).0) (λ C. (two C).0) B
          ((x.one A).0 y),
      λ f. (x.one A).1
          (follows_for g (HoldsAt i) e' e (λ C. (one C).1) (λ C. (two C).1) B f),
    );
    two = λ A. (
      λ y. doubles_for g (HoldsAt i) e e' (λ C. (one C).0) (λ C. (two C).0) B
          ((x.two A).0 y),
      λ f. (x.two A).1
          (doubles_for g (HoldsAt i) e' e (λ C. (one C).1) (λ C. (two C).1) B f),
    );
  };
}
