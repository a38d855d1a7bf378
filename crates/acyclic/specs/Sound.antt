-- (laws of the steps) What a rule adds to a set whose members have the property has it: the
-- nullable
-- nonterminals, and what chains reach.
use mathlib.Core.Path.{refl, subst}
use mathlib.Core.Logic.{inl, inr, ⊎_elim}
use mathlib.Core.List.{Memᴰ}
use Prim.Native.Nat.{ℕ}
use Rattle.sets.specs.Sets.{In}
use Rattle.grammar.specs.declared.Rule.{Rule}
use Rattle.grammar.specs.declared.Clause.{Clause}
use Rattle.grammar.specs.Trees.{empty, unary, binary, Rules, valid_empty, valid_unary, valid_binary}
use Rattle.grammar.specs.Cycles.{Nullable, Edge, by_unary, by_left, by_right, Chain, one, more}
use Rattle.acyclic.specs.Exact.{Exactly}
use Rattle.acyclic.specs.Passes.{Ready, AddsLeft, LeadsTo, AddsTargets}

module _ {g : Rules} where
  null_by : (s : ℕ) → ((Y : ℕ) → In s Y → Nullable g Y) → (A : ℕ) (c : Clause)
      → Memᴰ (record { left = A; clause = c }) g → Ready s c → Nullable g A
  null_by s h A Clause.Empty m r = record
      { tree = empty A; witness = record { rooted = refl; spelled = refl; valid = valid_empty m } }
  null_by s h A (Clause.Atom a b) m r = absurd r
  null_by s h A (Clause.Unary B k) m r =
      let n = h B r in
      record {
        tree = unary A n.tree;
        witness = record {
          rooted = refl;
          spelled = n.witness.spelled;
          valid = valid_unary {A = A} {t = n.tree} k (rw n.witness.rooted m)
              (rw n.witness.spelled tt) n.witness.valid;
        };
      }
  null_by s h A (Clause.Binary B C k) m r =
      let n = h B r.0 in
      let o = h C r.1 in
      record {
        tree = binary A n.tree o.tree;
        witness = record {
          rooted = refl;
          spelled = rw n.witness.spelled o.witness.spelled;
          valid =
              valid_binary {A = A} {s = n.tree} {t = o.tree} k
              (rw (n.witness.rooted, o.witness.rooted) m)
              (rw n.witness.spelled tt) n.witness.valid o.witness.valid;
        };
      }

  pub null_sound : (s : ℕ) → ((Y : ℕ) → In s Y → Nullable g Y) → (r : Rule) → Memᴰ r g
      → (Y : ℕ) → AddsLeft s r Y → Nullable g Y
  null_sound s h r m Y a = subst (Nullable g) a.0 (null_by s h r.left r.clause m a.1)

-- ns are the nullable nonterminals
module _ {g : Rules} {ns : ℕ} (x : Exactly ns (Nullable g)) where
  edge_by : (A : ℕ) (c : Clause) (Y : ℕ) → Memᴰ (record { left = A; clause = c }) g
      → LeadsTo ns c Y → Edge g A Y
  edge_by A Clause.Empty Y m h = elim h [ ]
  edge_by A (Clause.Atom _ _) Y m h = elim h [ ]
  edge_by A (Clause.Unary B k) Y m h = rw h at (by_unary k m)
  edge_by A (Clause.Binary B C k) Y m (inl h) = rw h.0 at (by_left C k m (x.is C h.1))
  edge_by A (Clause.Binary B C k) Y m (inr h) = rw h.0 at (by_right B k m (x.is B h.1))

  snoc : {A B C : ℕ} → Chain g A B → Edge g B C → Chain g A C
  snoc (one e) f = more e (one f)
  snoc (more e c) f = more e (snoc c f)

  pub chain_sound : (a s : ℕ) → ((Y : ℕ) → In s Y → Chain g a Y) → (r : Rule) → Memᴰ r g
      → (Y : ℕ) → AddsTargets ns a s r Y → Chain g a Y
  chain_sound a s h r m Y t =
      let e = edge_by r.left r.clause Y m t.1 in
      ⊎_elim (λ i. one (rw i at e)) (λ i. snoc (h r.left i) e) t.0
