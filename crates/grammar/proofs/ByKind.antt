-- The choices of a nonterminal at a word, by the kind of their rule.
use mathlib.Core.Path.{◌≡◌, refl, sym, ap, ◌∙◌}
use mathlib.Core.List.{[], ◌∷◌}
use mathlib.Core.Option.{some}
use Prim.Native.Nat.{ℕ, zero, suc, ◌≤◌, ◌<◌}
use native.Mathlib.Omega.{arith}
use lib.ListN.{length, get_elem?, take, drop, length-append, take-append-drop, length-take}
use lib.Seq.{take_at, drop_at}
use Rattle.sets.proofs.Basics.{clash}
use Rattle.grammar.specs.declared.Token.{Token}
use Rattle.grammar.specs.declared.Rule.{Rule}
use Rattle.grammar.specs.declared.Clause.{Clause}
use Rattle.grammar.specs.Layout.{Word}
use Rattle.grammar.specs.Layout as Mark
use Rattle.grammar.specs.Trees.{Tree, empty, leaf, unary, binary, root, word, Rules, Covers}
use Rattle.grammar.specs.Trees.{Valid, valid_empty, valid_leaf, valid_unary, valid_binary}
use Rattle.grammar.specs.Trees.{Derives}
use Rattle.grammar.specs.Choices.{Top, Choice}
use Rattle.grammar.proofs.ChoiceLaws.{member_at}

-- a rule with this clause can stand at the top of a valid tree of w, with a left word of length k
abbrev pub Can : Rules → Word → Clause → ℕ → Type 0
Can g w Clause.Empty k = (w ≡ []) × (k ≡ 0)
Can g w (Clause.Atom a b) k = (t : Token) × (w ≡ t ∷ []) × Covers a b t.terminal × (k ≡ 0)
Can g w (Clause.Unary B m) k = Derives g B w × Mark.Unary m w × (k ≡ 0)
Can g w (Clause.Binary B C m) k =
    (k ≤ length w) × Derives g B (take k w) × Derives g C (drop k w)
    × Mark.Binary m (take k w) (drop k w)

pub derives_of : {g : Rules} {t : Tree} → Valid g t → Derives g (root t) (word t)
derives_of {t = t} v =
    record { tree = t; witness = record { rooted = refl; spelled = refl; valid = v } }

pub can_of : {g : Rules} {t : Tree} → Valid g t → (r : Rule) (k : ℕ) → Top r k t
    → Can g (word t) r.clause k
can_of (valid_empty h) r k e = rw e.0 (refl, e.1)
can_of (valid_leaf {t = t} h) r k e = rw e.2 (t, refl, e.3, e.4)
can_of (valid_unary m h x v) r k e = rw e.1 (derives_of v, e.3, e.2)
can_of (valid_binary {s = s} {t = t} m h x u v) r k e =
    rw (e.1, take_at (word s) (word t) k (sym e.2), drop_at (word s) (word t) k (sym e.2))
    (omega (arith, e.2, length-append (word s) (word t)), derives_of u, derives_of v, e.3)

pub top_left : (t : Tree) (r : Rule) (k : ℕ) → Top r k t → r.left ≡ root t
top_left (empty A) r k e = ap (λ (x : Rule). x.left) e.0
top_left (leaf A t) r k e = ap (λ (x : Rule). x.left) e.2
top_left (unary A t) r k e = ap (λ (x : Rule). x.left) e.1
top_left (binary A s t) r k e = ap (λ (x : Rule). x.left) e.1

-- the choices of A at w, by the rule at their place
pub choice_can : {g : Rules} {A : ℕ} {w : Word} {p k : ℕ} → Choice g A w p k
    → (r : Rule) × (get_elem? g p ≡ some r) × (r.left ≡ A) × Can g w r.clause k
choice_can {g} {A} {w} {p} {k} c = (
  c.takes.rule,
  c.takes.stands,
  top_left c.tree c.takes.rule k c.takes.top
      ∙ c.witness.rooted,
  rw (← c.witness.spelled)
      (can_of c.witness.valid c.takes.rule k c.takes.top),
)

pub can_choice : (g : Rules) (p A : ℕ) (c : Clause) (w : Word) (k : ℕ)
    → get_elem? g p ≡ some (record { left = A; clause = c }) → Can g w c k → Choice g A w p k
can_choice g p A Clause.Empty w k st e =
    record {
      tree = empty A;
      witness =
          record { rooted = refl; spelled = sym e.0; valid = valid_empty (member_at g p st) };
      takes = record { rule = _; stands = st; top = (refl, e.1) };
    }
can_choice g p A (Clause.Atom a b) w k st e =
    record {
      tree = leaf A e.0;
      witness = record {
        rooted = refl;
        spelled = sym e.1;
        valid = valid_leaf
            (record { low = a; high = b; rule = member_at g p st; covers = e.2 });
      };
      takes = record { rule = _; stands = st; top = (a, b, refl, e.2, e.3) };
    }
can_choice g p A (Clause.Unary B m) w k st e =
    record {
      tree = unary A e.0.tree;
      witness =
          record {
            rooted = refl;
            spelled = e.0.witness.spelled;
            valid = valid_unary {A = A} {t = e.0.tree} m
                (rw e.0.witness.rooted (member_at g p st)) (rw e.0.witness.spelled e.1)
                e.0.witness.valid;
          };
      takes = record {
        rule = _;
        stands = st;
        top =
            (m, rw e.0.witness.rooted, e.2, rw e.0.witness.spelled e.1);
      };
    }
can_choice g p A (Clause.Binary B C m) w k st e =
    record {
      tree = binary A e.1.tree e.2.tree;
      witness =
          record {
            rooted = refl;
            spelled = rw (e.1.witness.spelled, e.2.witness.spelled) (take-append-drop k w);
            valid =
                valid_binary {A = A} {s = e.1.tree} {t = e.2.tree} m
                (rw (e.1.witness.rooted, e.2.witness.rooted) (member_at g p st))
                (rw (e.1.witness.spelled, e.2.witness.spelled) e.3) e.1.witness.valid
                e.2.witness.valid;
          };
      takes =
          record {
            rule = _;
            stands = st;
            top = (
              m,
              rw (e.1.witness.rooted, e.2.witness.rooted),
              rw
                  (e.1.witness.spelled, length-take) (omega (arith, e.0)),
              rw
                  (e.1.witness.spelled, e.2.witness.spelled) e.3,
            );
          };
    }

pub get_elem?_lt : (g : Rules) (p : ℕ) {r : Rule} → get_elem? g p ≡ some r → p < length g
get_elem?_lt [] p {r} e = absurd (clash cc)
get_elem?_lt (x ∷ g) zero e = omega arith
get_elem?_lt (x ∷ g) (suc p) e = omega (arith, get_elem?_lt g p e)

pub no_word : (w : Word) → length w ≡ 0 → w ≡ []
no_word [] e = refl
no_word (t ∷ w) e = absurd (omega arith)

can_le : (g : Rules) (w : Word) (c : Clause) (k : ℕ) → Can g w c k → k ≤ length w
can_le g w Clause.Empty k e = omega (arith, e.1)
can_le g w (Clause.Atom a b) k e = omega (arith, e.3)
can_le g w (Clause.Unary B m) k e = omega (arith, e.2)
can_le g w (Clause.Binary B C m) k e = e.0

pub inside : {g : Rules} (A : ℕ) (w : Word) (p k : ℕ) → Choice g A w p k
    → (p < length g) × (k ≤ length w)
inside {g} A w p k c = let x = choice_can c in
    (get_elem?_lt g p x.1, can_le g w x.0.clause k x.3)
