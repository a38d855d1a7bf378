-- Nodes made of masks and sets, and put into words.
use mathlib.Core.Path.{◌≡◌, sym, ap, ◌∙◌, subst}
use mathlib.Core.Logic.{⊎_elim}
use mathlib.Core.List.{List}
use Prim.Native.Nat.{ℕ, ◌+◌, ◌*◌, ◌/◌, ◌%◌, ◌≤◌, ◌<◌}
use native.Mathlib.Omega.{arith}
use native.Mathlib.Decide.{ℕ_discrete}
use lib.Bits.{bit_and}
use lib.ListN.{length, get_or, set, length-set}
use lib.Seq.{get_or-set_same, get_or-set_other}
use Rattle.sets.specs.Sets.{In}
use Rattle.sets.specs.Insertion.{insert}
use Rattle.sets.proofs.Sets.{in_zero, insert_same, insert_keeps, insert_only}
use Rattle.sets.proofs.Bits.{in_and}
use Rattle.grammar.specs.Trees.{Rules, Covers}
use Rattle.pairs.specs.Survey.{CanBegin}
use Rattle.pairs.specs.Shapes.{Form}
use Rattle.pairs.specs.Relations.{Offset}
use Rattle.firsts.specs.Rows.{ByNonterminal}
use Rattle.pair_offsets.specs.Codes.{offset_code}
use Rattle.pair_offsets.proofs.SayLaws.{offset_low}
use Rattle.pair_steps.specs.declared.Node.{Node}
use Rattle.pair_steps.specs.Nodes.{Mask, SetOf}
use Rattle.pair_steps.proofs.NarrowLaws.{fifteen}
use Rattle.pair_nodes.specs.Putting.{Fits, Describes, KeptTo, Stored, Cleared, Shows, RangeTo}

-- 1. masks

low_code : (o : Offset) → In 15 (offset_code o)
low_code o = fifteen (offset_code o) (omega (arith, offset_low o))

pub mask_any : Mask 15 (λ o. Unit {0})
mask_any = record { has = λ o u. low_code o; only = λ o i. tt }

pub mask_four : {P : Offset → Type 0} (r : ℕ) → Mask r P → Mask (bit_and r 15) P
mask_four r m =
    record {
      has = λ o p. (in_and r 15 (offset_code o)).1 (m.has o p, low_code o);
      only = λ o i. m.only o ((in_and r 15 (offset_code o)).0 i).0;
    }

pub mask_both : {P Q : Offset → Type 0} (r s : ℕ) → Mask r P → Mask s Q → Mask (bit_and r s)
    (λ o. P o × Q o)
mask_both r s m n =
    record {
      has = λ o p. (in_and r s (offset_code o)).1 (m.has o p.0, n.has o p.1);
      only = λ o i. let j = (in_and r s (offset_code o)).0 i in (m.only o j.0, n.only o j.1);
    }

-- 2. sets of terminals

pub range_none : (a b : ℕ) → RangeTo a b a 0
range_none a b = record { has = λ z l h. absurd (omega arith); only = λ z i. absurd (in_zero z i) }

pub range_more : {a b x s : ℕ} → a ≤ x → x ≤ b → RangeTo a b x s → RangeTo a b (x + 1) (insert s x)
range_more {a} {b} {x} {s} l h r = record { has = has; only = only }
  where
    has : (z : ℕ) → a ≤ z → z < x + 1 → In (insert s x) z
    has z p q = by (ℕ_discrete z x)
      where
        by : Dec (z ≡ x) → In (insert s x) z
        by (yes e) = rw e (insert_same s x)
        by (no n) = insert_keeps s x (r.has z p (omega (arith, n)))

    only : (z : ℕ) → In (insert s x) z → Covers a b z
    only z i =
        ⊎_elim (r.only z) (λ e. record { low = omega arith; high = omega arith })
        (insert_only s x z i)

pub range_all : {a b x s : ℕ} → b < x → RangeTo a b x s → SetOf s (Covers a b)
range_all l r = record { has = λ z c. r.has z c.low (omega (arith, c.high)); only = r.only }

pub begin_of : {ts : List ℕ} {C : ℕ} → C < 64 → (g : Rules) → ByNonterminal g 64 ts
    → SetOf (get_or ts C 0) (CanBegin g C)
begin_of {ts} {C} l g h = record { has = (h.each C l).all; only = (h.each C l).is }

-- 3. four words

module _ (old : List ℕ) (i a b c d : ℕ) (h : 4 * i + 3 < length old) where
  abbrev one : List ℕ
  one = set old (4 * i) a

  abbrev two : List ℕ
  two = set (set old (4 * i) a) (4 * i + 1) b

  abbrev three : List ℕ
  three = set (set (set old (4 * i) a) (4 * i + 1) b) (4 * i + 2) c

  abbrev new : List ℕ
  new = set (set (set (set old (4 * i) a) (4 * i + 1) b) (4 * i + 2) c) (4 * i + 3) d

  size₁ : length one ≡ length old
  size₁ = length-set old (4 * i) a

  size₂ : length two ≡ length old
  size₂ = length-set one (4 * i + 1) b ∙ size₁

  size₃ : length three ≡ length old
  size₃ = length-set two (4 * i + 2) c ∙ size₂

  -- a word that is none of the four; the first; the second; the third; the fourth
  other : (n : ℕ) → n < 4 * i → get_or new n 0 ≡ get_or old n 0
  other n l =
      get_or-set_other three (4 * i + 3) n d 0 (λ e. omega (arith, e))
      ∙ (get_or-set_other two (4 * i + 2) n c 0 (λ e. omega (arith, e))
      ∙ (get_or-set_other one (4 * i + 1) n b 0 (λ e. omega (arith, e))
      ∙ get_or-set_other old (4 * i) n a 0 (λ e. omega (arith, e))))

  word₀ : get_or new (4 * i) 0 ≡ a
  word₀ =
      get_or-set_other three (4 * i + 3) (4 * i) d 0 (λ e. omega (arith, e))
      ∙ (get_or-set_other two (4 * i + 2) (4 * i) c 0 (λ e. omega (arith, e))
      ∙ (get_or-set_other one (4 * i + 1) (4 * i) b 0 (λ e. omega (arith, e))
      ∙ get_or-set_same old (4 * i) a 0 (omega arith)))

  word₁ : get_or new (4 * i + 1) 0 ≡ b
  word₁ =
      get_or-set_other three (4 * i + 3) (4 * i + 1) d 0 (λ e. omega (arith, e))
      ∙ (get_or-set_other two (4 * i + 2) (4 * i + 1) c 0 (λ e. omega (arith, e))
      ∙ get_or-set_same one (4 * i + 1) b 0 (omega (arith, size₁)))

  word₂ : get_or new (4 * i + 2) 0 ≡ c
  word₂ =
      get_or-set_other three (4 * i + 3) (4 * i + 2) d 0 (λ e. omega (arith, e))
      ∙ get_or-set_same two (4 * i + 2) c 0 (omega (arith, size₂))

  word₃ : get_or new (4 * i + 3) 0 ≡ d
  word₃ = get_or-set_same three (4 * i + 3) d 0 (omega (arith, size₃))

  kept : KeptTo old new i
  kept = record { size = length-set three (4 * i + 3) d ∙ size₃; kept = other }

-- a node's first and second word
abbrev pub count_word : Node → ℕ
count_word v = v.kids + (4 * v.sort + 256 * v.first + 16384 * v.second) + 1048576

abbrev pub mask_word : Node → ℕ
mask_word v = v.keep + 16 * v.join + 256 * v.apart

module _ (old : List ℕ) (i : ℕ) (v : Node) (f : Fits v) (h : 4 * i + 3 < length old) where
  abbrev put : List ℕ
  put = new old i (count_word v) (mask_word v) v.begin v.next h

  w₀ : get_or put (4 * i) 0 ≡ count_word v
  w₀ = word₀ old i (count_word v) (mask_word v) v.begin v.next h

  w₁ : get_or put (4 * i + 1) 0 ≡ mask_word v
  w₁ = word₁ old i (count_word v) (mask_word v) v.begin v.next h

  kids : get_or put (4 * i) 0 % 4 ≡ v.kids
  kids = ap (λ (n : ℕ). n % 4) w₀ ∙ omega (arith, f.kids)

  sort : get_or put (4 * i) 0 / 4 % 64 ≡ v.sort
  sort = ap (λ (n : ℕ). n / 4 % 64) w₀ ∙ omega (arith, f.kids, f.sort)

  first : get_or put (4 * i) 0 / 256 % 64 ≡ v.first
  first = ap (λ (n : ℕ). n / 256 % 64) w₀ ∙ omega (arith, f.kids, f.sort, f.first)

  second : get_or put (4 * i) 0 / 16384 % 64 ≡ v.second
  second = ap (λ (n : ℕ). n / 16384 % 64) w₀ ∙ omega (arith, f.kids, f.sort, f.first, f.second)

  keep : get_or put (4 * i + 1) 0 % 16 ≡ v.keep
  keep = ap (λ (n : ℕ). n % 16) w₁ ∙ omega (arith, f.keep)

  join : get_or put (4 * i + 1) 0 / 16 % 16 ≡ v.join
  join = ap (λ (n : ℕ). n / 16 % 16) w₁ ∙ omega (arith, f.keep, f.join)

  apart : get_or put (4 * i + 1) 0 / 256 % 16 ≡ v.apart
  apart = ap (λ (n : ℕ). n / 256 % 16) w₁ ∙ omega (arith, f.keep, f.join, f.apart)

  pub stored : Stored old put i v
  stored =
      record {
        before = kept old i (count_word v) (mask_word v) v.begin v.next h;
        there = record { there = omega (arith, w₀) };
        is = λ z.
            record {
              kids = kids z;
              sort = sort z;
              first = first z;
              second = second z;
              keep = keep z;
              join = join z;
              apart = apart z;
              begin = word₂ old i (count_word v) (mask_word v) v.begin v.next h z;
              next = word₃ old i (count_word v) (mask_word v) v.begin v.next h z;
            };
      }

pub cleared : (old : List ℕ) (i : ℕ) → 4 * i < length old → Cleared old (set old (4 * i) 0) i
cleared old i h =
    record {
      before =
          record {
            size = length-set old (4 * i) 0;
            kept = λ n l. get_or-set_other old (4 * i) n 0 0 (λ e. omega (arith, e));
          };
      gone = λ p. omega (arith, p.there, get_or-set_same old (4 * i) 0 0 h);
    }

pub shows : {ts old new : List ℕ} {A i : ℕ} {f : Form} {v : Node} → Describes ts A f v
    → Stored old new i v
    → Shows ts A f new i
shows {ts} {A = A} {f = f} d s =
    record { there = s.there; describes = subst (Describes ts A f) (sym s.is) d }
