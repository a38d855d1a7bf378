-- Words for all nonterminals, changed one after the other.
use mathlib.Core.Path.{◌≡◌, refl, sym, ap, ◌∙◌, subst}
use mathlib.Core.List.{List}
use mathlib.Core.Logic.{◌⊎◌, inl, inr, ⊎_elim, ◌↔◌}
use Prim.Native.Nat.{ℕ, ◌+◌, ◌-◌, ◌*◌, ◌<◌}
use native.Mathlib.Omega.{arith}
use native.Mathlib.Decide.{ℕ_discrete}
use lib.Bits.{bit_and, bit_or}
use lib.ListN.{length, get_or, set, length-set}
use lib.Seq.{get_or-set_same, get_or-set_other}
use Rattle.sets.proofs.Bits.{in_or}
use Rattle.sets.specs.Sets.{In}
use Rattle.sets.specs.Insertion.{insert}
use Rattle.sets.proofs.Sets.{in_zero, insert_same, insert_only}
use Rattle.spans.specs.Changes.{Cleared}
use Rattle.cuts.specs.Cuts.{words_of_of}
use Rattle.cuts.specs.Puts.{Least, PutPair}
use Rattle.cuts.specs.Joining.{Joins}
use Rattle.cuts.proofs.Bits.{in_word}
use Rattle.cuts.proofs.ClosureLaws.{Done}
use Rattle.cuts.proofs.JoinLaws.{joins_none, joins_then, joins_as}
use Rattle.chains.specs.Reaching.{Has, Selves, Through, Gathers, Turned}

-- a number up to m is below it, or m
upto : (m q : ℕ) → q < m + 1 → (q < m) ⊎ (q ≡ m)
upto m q h = go (ℕ_discrete q m)
  where
    go : Dec (q ≡ m) → (q < m) ⊎ (q ≡ m)
    go (yes z) = inr z
    go (no z) = inl (omega arith)

-- ---- own bits

pub selves_none : (ws : List ℕ) → length ws ≡ 64 → Selves 0 ws
selves_none ws h = record { size = h; own = λ A k B. absurd (omega arith) }

pub selves_more : {ws : List ℕ} {a : ℕ} (v : ℕ) → v ≡ insert 0 a → a < 64 → Selves a ws
    → Selves (a + 1) (set ws a v)
selves_more {ws} {a} v e h s =
    record { size = length-set ws a v ∙ s.size; own = λ A k B. go A B (upto a A k) }
  where
    mine : get_or (set ws a v) a 0 ≡ insert 0 a
    mine = get_or-set_same ws a v 0 (omega (arith, s.size)) ∙ e

    go : (A B : ℕ) → (A < a) ⊎ (A ≡ a) → Has (set ws a v) A B ↔ (A ≡ B)
    go A B (inl k) =
        let z = get_or-set_other ws a A v 0 (omega arith) in
        (λ x. (s.own A k B).0 (in_word z x), λ x. in_word (sym z) ((s.own A k B).1 x))
    go A B (inr k) =
        let z : get_or (set ws a v) A 0 ≡ insert 0 a =
        ap (λ (x : ℕ). get_or (set ws a v) x 0) k ∙ mine in (
          λ x. ⊎_elim (λ y. absurd (in_zero B y)) (λ y. k ∙ sym y)
              (insert_only 0 a B (in_word z x)),
          λ x. in_word (sym z) (subst (In (insert 0 a)) (sym k ∙ x) (insert_same 0 a)),
        )

-- ---- links of links

pub through_none : (k : ℕ) (ws : List ℕ) → Through k ws 0 ws
through_none k ws =
    record { joins = joins_as (λ q B x. absurd x) (λ q B x. omega (arith, x.0)) (joins_none ws) }

pub through_more : {k m s : ℕ} {ws us vs : List ℕ} → s ≡ get_or ws k 0 → Through k ws m us
    → Joins (λ q B. (q ≡ m) × Has us m k × In s B) us vs → Through k ws (m + 1) vs
through_more {k} {m} {s} {ws} {us} e t j =
    record { joins = joins_as there back (joins_then t.joins j) }
  where
    there : (q B : ℕ) → ((q < m) × Has ws q k × Has ws k B) ⊎ ((q ≡ m) × Has us m k × In s B)
        → (q < m + 1) × Has ws q k × Has ws k B
    there q B (inl x) = (omega (arith, x.0), x.1, x.2)
    there q B (inr x) = (
      omega (arith, x.0),
      subst (λ (p : ℕ). Has ws p k) (sym x.0)
          (⊎_elim (λ y. y) (λ y. absurd (omega (arith, y.0))) (t.joins.only m k x.1)),
      in_word e x.2,
    )

    back : (q B : ℕ) → (q < m + 1) × Has ws q k × Has ws k B
        → ((q < m) × Has ws q k × Has ws k B) ⊎ ((q ≡ m) × Has us m k × In s B)
    back q B x = ⊎_elim (λ y. inl (y, x.1, x.2))
        (λ y. inr (
          y,
          t.joins.keeps m k (subst (λ (p : ℕ). Has ws p k) y x.1),
          in_word (sym e)
              x.2,
        )) (upto m q x.0)

-- k has but itself
pub through_skip : {k s : ℕ} (ws : List ℕ) → s ≡ get_or ws k 0 → s ≡ insert 0 k → Through k ws 64 ws
through_skip {k} ws e z = record {
  joins = record {
    long = refl;
    keeps = λ q B x. x;
    only = λ q B x. inl x;
    all = λ q B x. subst (Has ws q)
        (⊎_elim (λ y. absurd (in_zero B y)) sym (insert_only 0 k B (in_word (sym e ∙ z) x.2)))
        x.1;
  };
}

-- ---- words put together

pub gathers_next : {ws : List ℕ} {s left c r : ℕ} (v : ℕ) → v ≡ get_or ws c 0
    → ((A : ℕ) → In left A → In s A) → Least left c → Gathers ws (Done s left) r
    → Gathers ws (Done s (bit_and left (left - 1))) (bit_or r v)
gathers_next {ws} {s} {left} {c} {r} v e sub l g = record {
  members = λ B. (
    λ x. there B ((in_or r v B).0 x),
    λ x. (in_or r v B).1
        (back B x (ℕ_discrete x.0 c)),
  );
}
  where
    there : (B : ℕ) → In r B ⊎ In v B → (C : ℕ) × Done s (bit_and left (left - 1)) C × Has ws C B
    there B (inl x) = let y = (g.members B).0 x in
        (y.0, (y.1.0, λ i. y.1.1 ((l.others y.0).0 i).0), y.2)
    there B (inr x) = (c, (sub c l.member, λ i. ((l.others c).0 i).1 refl), in_word e x)

    back : (B : ℕ) (x : (C : ℕ) × Done s (bit_and left (left - 1)) C × Has ws C B) → Dec (x.0 ≡ c)
        → In r B ⊎ In v B
    back B x (yes z) = inr (in_word (sym e) (subst (λ (p : ℕ). Has ws p B) z x.2))
    back B x (no z) =
        inl ((g.members B).1 (x.0, (x.1.0, λ i. x.1.1 ((l.others x.0).1 (i, z))), x.2))

-- ---- the bits stand in the entries

pub turned_none : {ups ups' : List ℕ} (s t : List ℕ) → length ups ≡ 128 → Cleared ups ups' 128
    → Turned s t 0 ups'
turned_none {ups} {ups'} s t h c = record {
  size = c.past.long ∙ h;
  one = λ A B k. (
    λ x. absurd (in_zero A (in_word (c.zeros (0 + 2 * B) (omega arith)) x)),
    λ x.
        absurd (omega (arith, x.0)),
  );
  two = λ A B k. (
    λ x. absurd (in_zero A (in_word (c.zeros (0 + 2 * B + 1) (omega arith)) x)),
    λ x.
        absurd (omega (arith, x.0)),
  );
}

pub turned_more : {s t ups ups' : List ℕ} {a : ℕ} (one two : ℕ) → one ≡ get_or s a 0
    → Gathers t (In one) two → PutPair ups ups' 0 (record { one = one; two = two }) a
    → Turned s t a ups → Turned s t (a + 1) ups'
turned_more {s} {t} {ups} {ups'} {a} one two e g p u = record {
  size = p.size ∙ u.size;
  one = λ A B k. (
    λ x. one_to A B k ((p.once B A k).0 x),
    λ x. (p.once B A k).1
        (one_of A B k x (upto a A x.0)),
  );
  two = λ A B k. (
    λ x. two_to A B k ((p.twice B A k).0 x),
    λ x. (p.twice B A k).1
        (two_of A B k x.0 (x.1, x.2, x.3) (upto a A x.0)),
  );
}
  where
    one_to : (A B : ℕ) → B < 64 → In (words_of_of ups 0 B).one A ⊎ ((A ≡ a) × In one B)
        → (A < a + 1) × Has s A B
    one_to A B k (inl x) = let y = (u.one A B k).0 x in (omega (arith, y.0), y.1)
    one_to A B k (inr x) =
        (omega (arith, x.0), subst (λ (q : ℕ). Has s q B) (sym x.0) (in_word e x.1))

    one_of : (A B : ℕ) → B < 64 → (A < a + 1) × Has s A B → (A < a) ⊎ (A ≡ a)
        → In (words_of_of ups 0 B).one A ⊎ ((A ≡ a) × In one B)
    one_of A B k x (inl h) = inl ((u.one A B k).1 (h, x.1))
    one_of A B k x (inr h) = inr (h, in_word (sym e) (subst (λ (q : ℕ). Has s q B) h x.1))

    two_to : (A B : ℕ) → B < 64 → In (words_of_of ups 0 B).two A ⊎ ((A ≡ a) × In two B)
        → (A < a + 1) × (C : ℕ) × Has s A C × Has t C B
    two_to A B k (inl x) = let y = (u.two A B k).0 x in (omega (arith, y.0), y.1, y.2, y.3)
    two_to A B k (inr x) = let y = (g.members B).0 x.1 in (
      omega (arith, x.0),
      y.0,
      subst (λ (q : ℕ). Has s q y.0) (sym x.0)
          (in_word e y.1),
      y.2,
    )

    two_of : (A B : ℕ) → B < 64 → A < a + 1 → (C : ℕ) × Has s A C × Has t C B → (A < a) ⊎ (A ≡ a)
        → In (words_of_of ups 0 B).two A ⊎ ((A ≡ a) × In two B)
    two_of A B k l x (inl h) = inl ((u.two A B k).1 (h, x.0, x.1, x.2))
    two_of A B k l x (inr h) = inr (
      h,
      (g.members B).1
          (x.0, in_word (sym e) (subst (λ (q : ℕ). Has s q x.0) h x.1), x.2),
    )
