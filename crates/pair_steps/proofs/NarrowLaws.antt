-- What is left of sets, and the masks of the marks.
use mathlib.Core.Path.{◌≡◌, refl, sym, ap, ◌∙◌}
use Prim.Native.Nat.{ℕ, zero, suc, ◌+◌, ◌*◌, ◌/◌, ◌%◌, ◌^◌, ◌≤◌, ◌<◌}
use native.Mathlib.Omega.{arith}
use native.Mathlib.Nat.{div-div-eq-div-mul}
use lib.Bits.{bit_and}
use lib.Pow.{pow-add}
use Rattle.sets.specs.Sets.{In}
use Rattle.sets.proofs.Bits.{in_and}
use Rattle.grammar.specs.declared.UnaryMark.TheVariants as UnaryMark
use Rattle.grammar.specs.declared.BinaryMark.TheVariants as BinaryMark
use Rattle.pairs.specs.Relations.{less, equal, more, Offset, beside, below}
use Rattle.pairs.specs.Settings.{AllowsOffset}
use Rattle.pairs.proofs.OffsetLaws.{is_order}
use Rattle.pair_offsets.specs.Codes.{order_code, offset_code}
use Rattle.pair_steps.specs.Nodes.{Mask, Joint, Parted}
use Rattle.pair_steps.specs.Leaving.{Coded, Narrowed, Narrows, first_stop_of, second_stop}

-- 1. orders

pub code_less : (m n : ℕ) → m < n → Coded m n 0
code_less m n h = record { code = sym (ap order_code (is_order less m n h)); low = omega arith }

pub code_more : (m n : ℕ) → n < m → Coded m n 2
code_more m n h = record { code = sym (ap order_code (is_order more m n h)); low = omega arith }

pub code_equal : (m n : ℕ) → m ≡ n → Coded m n 1
code_equal m n h = record { code = sym (ap order_code (is_order equal m n h)); low = omega arith }

-- 2. what is left

shifted : (x b k : ℕ) → x / 2 ^ b / 2 ^ k % 2 ≡ x / 2 ^ (b + k) % 2
shifted x b k =
    ap (λ (n : ℕ). n % 2)
    (div-div-eq-div-mul x (2 ^ b) (2 ^ k) ∙ ap (λ (n : ℕ). x / n) (sym (pow-add 2 b k)))

in_shift : (x b k : ℕ) → In x (b + k) → In (x / 2 ^ b) k
in_shift x b k h = record { digit = shifted x b k ∙ h.digit }

pub shift_in : (x b k : ℕ) → In (x / 2 ^ b) k → In x (b + k)
shift_in x b k h = record { digit = sym (shifted x b k) ∙ h.digit }

pub narrow_and : (m x : ℕ) (P : ℕ → Type 0) → ((k : ℕ) → P k → In x k) → ((k : ℕ) → In x k → P k)
    → Narrowed m P (bit_and m x)
narrow_and m x P f h =
    record {
      keeps = λ k i p. (in_and m x k).1 (i, f k p);
      only = λ k i. let j = (in_and m x k).0 i in (j.0, h k j.1);
    }

pub narrow_none : (m : ℕ) (P : ℕ → Type 0) → ((k : ℕ) → P k) → Narrowed m P m
narrow_none m P f = record { keeps = λ k i p. i; only = λ k i. (i, f k) }

pub narrow_then : {m a b : ℕ} {P Q : ℕ → Type 0} → Narrowed m P a → Narrowed a Q b
    → Narrowed m (λ k. P k × Q k) b
narrow_then x y =
    record {
      keeps = λ k i p. y.keeps k (x.keeps k i p.0) p.1;
      only = λ k i. let q = y.only k i in let p = x.only k q.0 in (p.0, (p.1, q.1));
    }

pub narrow_as : {m r : ℕ} {P Q : ℕ → Type 0} → ((k : ℕ) → P k → Q k) → ((k : ℕ) → Q k → P k)
    → Narrowed m P r → Narrowed m Q r
narrow_as f h n =
    record {
      keeps = λ k i q. n.keeps k i (h k q);
      only = λ k i. let p = n.only k i in
          (p.0, f k p.1);
    }

pub narrow_pair : (m a b c d word o p : ℕ) → a < d → c < b → Coded a c o → Coded b d p
    → Narrowed m (Narrows a b c d word) (bit_and m (word / 2 ^ (12 * o + 4 * p)))
narrow_pair m a b c d word o p h l e f =
    narrow_and m (word / 2 ^ (12 * o + 4 * p)) (Narrows a b c d word)
    (λ k q. in_shift word (12 * o + 4 * p) k (rw (e.code, f.code) (q h l)))
    (λ k i x y. rw (e.code, f.code) at (shift_in word (12 * o + 4 * p) k i))

-- 3. masks

pub fifteen : (k : ℕ) → k < 4 → In 15 k
fifteen zero h = record { digit = refl }
fifteen (suc zero) h = record { digit = refl }
fifteen (suc (suc zero)) h = record { digit = refl }
fifteen (suc (suc (suc zero))) h = record { digit = refl }
fifteen (suc (suc (suc (suc k)))) h = absurd (omega arith)

any : (l : Offset) → In 15 (offset_code l)
any beside = record { digit = refl }
any (below less) = record { digit = refl }
any (below equal) = record { digit = refl }
any (below more) = record { digit = refl }

pub all_mask : {P : Offset → Type 0} → ((o : Offset) → P o) → Mask 15 P
all_mask f = record { has = λ o p. any o; only = λ o i. f o }

pub keep_none : (o : Offset) → AllowsOffset UnaryMark.None o
keep_none beside = tt
keep_none (below o) = tt

pub keep_offside : Mask 9 (AllowsOffset UnaryMark.Offside)
keep_offside = record { has = to; only = of }
  where
    to : (o : Offset) → AllowsOffset UnaryMark.Offside o → In 9 (offset_code o)
    to beside a = record { digit = refl }
    to (below o) e = rw e (record { digit = refl })

    of : (o : Offset) → In 9 (offset_code o) → AllowsOffset UnaryMark.Offside o
    of beside i = tt
    of (below less) i = absurd (omega (arith, i.digit))
    of (below equal) i = absurd (omega (arith, i.digit))
    of (below more) i = refl

pub keep_offalign : Mask 13 (AllowsOffset UnaryMark.Offalign)
keep_offalign = record { has = to; only = of }
  where
    to : (o : Offset) → AllowsOffset UnaryMark.Offalign o → In 13 (offset_code o)
    to beside a = record { digit = refl }
    to (below less) n = absurd (n refl)
    to (below equal) n = record { digit = refl }
    to (below more) n = record { digit = refl }

    of : (o : Offset) → In 13 (offset_code o) → AllowsOffset UnaryMark.Offalign o
    of beside i = tt
    of (below less) i = absurd (omega (arith, i.digit))
    of (below equal) i = λ e. omega (arith, ap order_code e)
    of (below more) i = λ e. omega (arith, ap order_code e)

pub keep_single : Mask 1 (AllowsOffset UnaryMark.Single)
keep_single = record { has = to; only = of }
  where
    to : (o : Offset) → AllowsOffset UnaryMark.Single o → In 1 (offset_code o)
    to beside a = record { digit = refl }
    to (below o) a = absurd a

    of : (o : Offset) → In 1 (offset_code o) → AllowsOffset UnaryMark.Single o
    of beside i = tt
    of (below less) i = absurd (omega (arith, i.digit))
    of (below equal) i = absurd (omega (arith, i.digit))
    of (below more) i = absurd (omega (arith, i.digit))

pub join_align : Mask 4 (Joint BinaryMark.Align)
join_align = record { has = λ o e. rw e (record { digit = refl }); only = of }
  where
    of : (o : Offset) → In 4 (offset_code o) → o ≡ below equal
    of beside i = absurd (omega (arith, i.digit))
    of (below less) i = absurd (omega (arith, i.digit))
    of (below equal) i = refl
    of (below more) i = absurd (omega (arith, i.digit))

pub join_indent : Mask 8 (Joint BinaryMark.Indent)
join_indent = record { has = λ o e. rw e (record { digit = refl }); only = of }
  where
    of : (o : Offset) → In 8 (offset_code o) → o ≡ below more
    of beside i = absurd (omega (arith, i.digit))
    of (below less) i = absurd (omega (arith, i.digit))
    of (below equal) i = absurd (omega (arith, i.digit))
    of (below more) i = refl

pub part_indent : Mask 14 (Parted BinaryMark.Indent)
part_indent = record { has = to; only = of }
  where
    to : (o : Offset) → (o ≡ beside → ⊥) → In 14 (offset_code o)
    to beside n = absurd (n refl)
    to (below less) n = record { digit = refl }
    to (below equal) n = record { digit = refl }
    to (below more) n = record { digit = refl }

    of : (o : Offset) → In 14 (offset_code o) → o ≡ beside → ⊥
    of beside i e = omega (arith, i.digit)
    of (below o) i e = omega (arith, ap offset_code e)

-- 4. where children stop

pub first_more : (k m j : ℕ) → (k ≡ 0 → ⊥) → (k ≡ 1 → ⊥) → m ≡ first_stop_of k m j
first_more zero m j p q = absurd (p refl)
first_more (suc zero) m j p q = absurd (q refl)
first_more (suc (suc k)) m j p q = refl

pub second_less : (k j : ℕ) → k < 2 → 0 ≡ second_stop k j
second_less zero j h = refl
second_less (suc zero) j h = refl
second_less (suc (suc k)) j h = absurd (omega arith)

pub second_more : (k j : ℕ) → 2 ≤ k → j ≡ second_stop k j
second_more zero j h = absurd (omega arith)
second_more (suc zero) j h = absurd (omega arith)
second_more (suc (suc k)) j h = refl
