-- Passes over the shapes, until no more nonterminals are seen.
use mathlib.Core.Path.{◌≡◌, refl, sym, ap, ◌∙◌, subst}
use mathlib.Core.Logic.{inl, inr, ⊎_elim}
use mathlib.Core.List.{List}
use Prim.Native.Nat.{ℕ, ◌+◌, ◌*◌, ◌<◌}
use native.Mathlib.Nat.{le_refl}
use native.Mathlib.Omega.{arith}
use native.Mathlib.Decide.{ℕ_discrete}
use lib.ListN.{get_or}
use Rattle.sets.specs.Sets.{In}
use Rattle.sets.specs.Insertion.{insert}
use Rattle.sets.proofs.Sets.{in_zero, insert_only}
use Rattle.acyclic.specs.Exact.{Exactly}
use Rattle.acyclic.specs.Passes.{Extended}
use Rattle.acyclic.proofs.Growth.{grown_none, grown_with, grown_both}
use Rattle.pair_steps.specs.declared.Node.{Node}
use Rattle.pair_nodes.specs.Slots.{node_at, Present}
use Rattle.doubt_marks.specs.Marking.{ChildOf, AddsSeen, SeenBy, by_top, by_child, SeenPass}

-- the nonterminal of a node that was read
pub sort_to : (ns : List ℕ) (i : ℕ) {s : ℕ} {x : Node} → x ≡ node_at ns i → In s x.sort → In s
    (node_at ns i).sort
sort_to ns i {s} e = subst (λ (v : Node). In s v.sort) e

pub sort_back : (ns : List ℕ) (i : ℕ) {s : ℕ} {x : Node} → x ≡ node_at ns i → In s
    (node_at ns i).sort → In s x.sort
sort_back ns i {s} e = subst (λ (v : Node). In s v.sort) (sym e)

module _ (ns al : List ℕ) where
  -- 1. one shape

  module _ (s i : ℕ) where
    pub not_there : (Present ns i → ⊥) → Extended (AddsSeen ns al s i) s s
    not_there n = grown_none (λ Y a. absurd (n a.there))

    pub not_self : (In (get_or al (2 * i) 0) 0 → ⊥) → Extended (AddsSeen ns al s i) s s
    not_self n = grown_none
        (λ Y a. absurd (n (subst (λ (k : ℕ). In (get_or al k 0) 0) (omega arith) a.self)))

    module _ {x : Node} (e : x ≡ node_at ns i) where
      pub not_seen : (In s x.sort → ⊥) → Extended (AddsSeen ns al s i) s s
      not_seen n = grown_none
          (λ Y a. absurd (n (subst (λ (v : Node). In s v.sort) (sym e) a.sort)))

      kids : (node_at ns i).kids ≡ x.kids
      kids = ap (λ (v : Node). v.kids) (sym e)

      pub no_child : x.kids ≡ 0 → Extended (AddsSeen ns al s i) s s
      no_child k =
          grown_none
          (λ Y a.
          ⊎_elim (λ h. absurd (omega (arith, h.0, kids))) (λ h. absurd (omega (arith, h.0, kids)))
          a.child)

      module _ (there : Present ns i) (self : In (get_or al (2 * i) 0) 0)
          (sort : In s x.sort) where
        adds : {Y : ℕ} → ChildOf (node_at ns i) Y → AddsSeen ns al s i Y
        adds c =
            record {
              there = there;
              self = subst (λ (k : ℕ). In (get_or al k 0) 0) (omega arith) self;
              sort = subst (λ (v : Node). In s v.sort) e sort;
              child = c;
            }

        first : x.first ≡ (node_at ns i).first
        first = ap (λ (v : Node). v.first) e

        second : x.second ≡ (node_at ns i).second
        second = ap (λ (v : Node). v.second) e

        pub one_child : x.kids ≡ 1 → Extended (AddsSeen ns al s i) s (insert s x.first)
        one_child k =
            grown_with s x.first (adds (inl (omega (arith, kids), sym first)))
            (λ Y a. ⊎_elim (λ h. first ∙ h.1) (λ h. absurd (omega (arith, h.0, kids))) a.child)

        pub two_children : 1 < x.kids
            → Extended (AddsSeen ns al s i) s (insert (insert s x.first) x.second)
        two_children k =
            grown_both (grown_with {P = λ Y. x.first ≡ Y} s x.first refl (λ Y a. a))
            (grown_with {P = λ Y. x.second ≡ Y} (insert s x.first) x.second refl (λ Y a. a))
            (λ Y a. ⊎_elim (λ h. inl (first ∙ h.1)) (λ h. inr (second ∙ h.1)) a.child)
            (λ Y h.
            adds
            (⊎_elim (λ f. inl (omega (arith, kids), sym first ∙ f))
            (λ f. inr (omega (arith, kids), sym second ∙ f)) h))

  -- 2. a pass

  pub pass_none : (s : ℕ) → SeenPass ns al 0 s s
  pass_none s =
      record {
        more = le_refl s;
        keeps = λ Y i. i;
        sound = λ h. h;
        still = λ e i l Y a. absurd
            (omega (arith, l));
      }

  pub pass_more : {i s t u : ℕ} → i < 384 → SeenPass ns al i s t → Extended (AddsSeen ns al t i) t u
      → SeenPass ns al (i + 1) s u
  pass_more {i} {s} {t} {u} l x y =
      record {
        more = omega (arith, x.more, y.more);
        keeps = λ Y j. y.keeps Y (x.keeps Y j);
        sound = λ h Y j.
            ⊎_elim (x.sound h Y)
            (λ a. by_child i l a.there a.self (x.sound h (node_at ns i).sort a.sort)
            a.child)
            (y.only Y j);
        still = still;
      }
    where
      still : u ≡ s → (k : ℕ) → k < i + 1 → (Y : ℕ) → AddsSeen ns al s k Y → In s Y
      still e k b Y a = go (ℕ_discrete k i)
        where
          same : t ≡ s
          same = omega (arith, x.more, y.more)

          go : Dec (k ≡ i) → In s Y
          go (yes j) =
              let c : AddsSeen ns al t i Y =
              subst (λ (n : ℕ). AddsSeen ns al n i Y) (omega (arith, same))
              (subst (λ (n : ℕ). AddsSeen ns al s n Y) j a) in
              rw e at (y.adds Y c)
          go (no j) = x.still same k (omega (arith, b, j)) Y a

  -- 3. until nothing is added

  pub seen_start : (Y : ℕ) → In 1 Y → SeenBy ns al Y
  unfolding insert
  seen_start Y i = ⊎_elim (λ j. absurd (in_zero Y j)) (λ e. rw e by_top) (insert_only 0 0 Y i)

  pub seen_exactly : {s t : ℕ} → In s 0 → ((Y : ℕ) → In s Y → SeenBy ns al Y)
      → SeenPass ns al 384 s t
      → t ≡ s → Exactly s (SeenBy ns al)
  seen_exactly {s} {t} top sound x e = record { is = sound; all = λ Y h. all h }
    where
      all : {Y : ℕ} → SeenBy ns al Y → In s Y
      all by_top = top
      all (by_child i {Y} l p b h c) =
          x.still e i l Y (record { there = p; self = b; sort = all h; child = c })
