-- Trees of bounded height are decided, so each word that is derived has a lowest tree, and one that
-- takes low choices at each node.
use mathlib.Core.Path.{◌≡◌, refl, sym, ◌∙◌}
use mathlib.Core.Logic.{◌⊎◌, inl, inr}
use mathlib.Core.Option.{Option, none, some}
use Prim.Native.Nat.{ℕ, zero, suc, ◌≤◌, ◌<◌}
use native.Mathlib.Omega.{arith}
use native.Mathlib.Decide.{dec_lt, ℕ_discrete, map_dec}
use lib.ListN.{length, get_elem?, take, drop, take-append-drop, length-take}
use Rattle.sets.proofs.Basics.{clash}
use Rattle.grammar.specs.declared.Rule.{Rule}
use Rattle.grammar.specs.declared.Clause.{Clause}
use Rattle.grammar.specs.Layout.{Word}
use Rattle.grammar.specs.Trees.{Tree, empty, leaf, unary, binary, root, word, Rules, Valid}
use Rattle.grammar.specs.Trees.{valid_empty, valid_leaf, valid_unary, valid_binary, Witness}
use Rattle.grammar.specs.Trees.{Derives}
use Rattle.grammar.specs.Choices.{Top, Takes, Choice, height, LowChoice, Ask, Node, Each}
use Rattle.grammar.specs.Choices.{Beneath}
use Rattle.grammar.proofs.ChoiceLaws.{member_at, takes_of, each_of}
use Rattle.grammar.proofs.ByKind.{top_left, inside}
use Rattle.grammar.proofs.Least.{Least, seek, Least₂, seek₂}
use Rattle.grammar.proofs.CanBy.{CanBy, KidsBy, kids_can, can?}

-- 1. a tree that takes P at each node, over given ones

abbrev pub TreeBy : Rules → Ask → ℕ → Word → Type 0
TreeBy g P A w = (t : Tree) × (root t ≡ A) × (word t ≡ w) × Each g P t

-- the same top as t, over trees that take P
pub over : {g : Rules} (P : Ask) (Ok : ℕ → Word → Type 0)
    → ((B : ℕ) (v : Word) → Ok B v → TreeBy g P B v) → (t : Tree) → KidsBy Ok t
    → (u : Tree) × (root u ≡ root t) × (word u ≡ word t)
    × ((r : Rule) (k : ℕ) → Top r k t → Top r k u) × Beneath g P u
over P Ok b (empty A) l = (empty A, refl, refl, λ r k e. e, tt)
over P Ok b (leaf A t) l = (leaf A t, refl, refl, λ r k e. e, tt)
over P Ok b (unary A t) l =
    let f = b (root t) (word t) l in (
      unary A f.0,
      refl,
      f.2,
      λ r k e. (e.0, rw f.1 e.1, e.2, rw f.2 e.3),
      f.3,
    )
over P Ok b (binary A s t) l =
    let f = b (root s) (word s) l.0 in
    let f' = b (root t) (word t) l.1 in (
      binary A f.0 f'.0,
      refl,
      rw (f.2, f'.2) refl,
      λ r k e. (e.0, rw (f.1, f'.1) e.1, rw f.2 e.2, rw (f.2, f'.2) e.3),
      (f.3, f'.3),
    )

-- with the choice (p, k) at the top
pub built : {g : Rules} (P : Ask) (Ok : ℕ → Word → Type 0)
    → ((B : ℕ) (v : Word) → Ok B v → TreeBy g P B v)
    → {A : ℕ} {w : Word} {p k : ℕ} (c : Choice g A w p k) → KidsBy Ok c.tree
    → (u : Tree) × (root u ≡ A) × (word u ≡ w) × Takes g u p k × Beneath g P u
built P Ok b {k = k} c l =
    let x = over P Ok b c.tree l in (
      x.0,
      x.1 ∙ c.witness.rooted,
      x.2 ∙ c.witness.spelled,
      record {
        rule = c.takes.rule;
        stands = c.takes.stands;
        top =
            x.3 c.takes.rule k c.takes.top;
      },
      x.4,
    )

-- and P there too
pub grown_up : {g : Rules} (P : Ask) (Ok : ℕ → Word → Type 0)
    → ((B : ℕ) (v : Word) → Ok B v → TreeBy g P B v)
    → {A : ℕ} {w : Word} {p k : ℕ} (c : Choice g A w p k) → KidsBy Ok c.tree → P A w p k
    → TreeBy g P A w
grown_up {g} P Ok b {p = p} {k = k} c l h =
    let x = built P Ok b c l in
    let n : Node g P x.0 =
    record { place = p; split = k; takes = x.3; holds = rw (x.1, x.2) h } in
    (x.0, x.1, x.2, each_of g P x.0 n x.4)

-- 2. trees of at most a height

pub record LowTree (g : Rules) (h A : ℕ) (w : Word) : Type 0 where
  pub tree : Tree
  pub witness : Witness g A w tree
  pub high : height tree ≤ h

pub record GivesIn (g : Rules) (h A : ℕ) (w : Word) (p k : ℕ) : Type 0 where
  pub tree : Tree
  pub witness : Witness g A w tree
  pub takes : Takes g tree p k
  pub high : height tree ≤ h

pub height_pos : (t : Tree) → 0 < height t
height_pos (empty A) = omega arith
height_pos (leaf A t) = omega arith
height_pos (unary A t) = omega arith
height_pos (binary A s t) = omega arith

grown_of : {g : Rules} {t : Tree} {h : ℕ} → Valid g t → height t ≤ h → LowTree g h (root t) (word t)
grown_of {t = t} v e =
    record { tree = t; witness = record { rooted = refl; spelled = refl; valid = v }; high = e }

-- the children of a tree are lower
lower_kids : {g : Rules} {t : Tree} (h : ℕ) → Valid g t → height t ≤ suc h → KidsBy (LowTree g h) t
lower_kids h (valid_empty x) l = tt
lower_kids h (valid_leaf x) l = tt
lower_kids h (valid_unary m x y v) l = grown_of v (omega arith)
lower_kids h (valid_binary {s = s} {t = t} m x y u v) l =
    (grown_of u (omega arith), grown_of v (omega arith))

gives_can : {g : Rules} {h A : ℕ} {w : Word} {p k : ℕ} → GivesIn g (suc h) A w p k
    → (r : Rule) × (get_elem? g p ≡ some r) × (r.left ≡ A) × CanBy (LowTree g h) w r.clause k
gives_can {g} {h} {A} {w} {p} {k} c = (
  c.takes.rule,
  c.takes.stands,
  top_left c.tree c.takes.rule k c.takes.top ∙ c.witness.rooted,
  rw (← c.witness.spelled) (kids_can (LowTree g h) c.tree
      (lower_kids h c.witness.valid c.high) c.takes.rule k c.takes.top),
)

can_gives : (g : Rules) (h p A : ℕ) (c : Clause) (w : Word) (k : ℕ)
    → get_elem? g p ≡ some (record { left = A; clause = c }) → CanBy (LowTree g h) w c k
    → GivesIn g (suc h) A w p k
can_gives g h p A Clause.Empty w k st e =
    record {
      tree = empty A;
      witness =
          record { rooted = refl; spelled = sym e.0; valid = valid_empty (member_at g p st) };
      takes = record { rule = _; stands = st; top = (refl, e.1) };
      high = omega arith;
    }
can_gives g h p A (Clause.Atom a b) w k st e =
    record {
      tree = leaf A e.0;
      witness = record {
        rooted = refl;
        spelled = sym e.1;
        valid = valid_leaf
            (record { low = a; high = b; rule = member_at g p st; covers = e.2 });
      };
      takes = record { rule = _; stands = st; top = (a, b, refl, e.2, e.3) };
      high = omega arith;
    }
can_gives g h p A (Clause.Unary B m) w k st e =
    record {
      tree = unary A e.0.tree;
      witness =
          record {
            rooted = refl;
            spelled = e.0.witness.spelled;
            valid = valid_unary {A = A} {t = e.0.tree} m
                (rw e.0.witness.rooted (member_at g p st)) (rw e.0.witness.spelled e.1)
                e.0.witness.valid;
          };
      takes = record {
        rule = _;
        stands = st;
        top =
            (m, rw e.0.witness.rooted, e.2, rw e.0.witness.spelled e.1);
      };
      high = omega (arith, e.0.high);
    }
can_gives g h p A (Clause.Binary B C m) w k st e =
    record {
      tree = binary A e.1.tree e.2.tree;
      witness =
          record {
            rooted = refl;
            spelled = rw (e.1.witness.spelled, e.2.witness.spelled) (take-append-drop k w);
            valid =
                valid_binary {A = A} {s = e.1.tree} {t = e.2.tree} m
                (rw (e.1.witness.rooted, e.2.witness.rooted) (member_at g p st))
                (rw (e.1.witness.spelled, e.2.witness.spelled) e.3) e.1.witness.valid
                e.2.witness.valid;
          };
      takes =
          record {
            rule = _;
            stands = st;
            top = (
              m,
              rw (e.1.witness.rooted, e.2.witness.rooted),
              rw
                  (e.1.witness.spelled, length-take) (omega (arith, e.0)),
              rw
                  (e.1.witness.spelled, e.2.witness.spelled) e.3,
            );
          };
      high = omega (arith, e.1.high, e.2.high);
    }

gives_choice : {g : Rules} {h A : ℕ} {w : Word} {p k : ℕ} → GivesIn g h A w p k → Choice g A w p k
gives_choice x = record { tree = x.tree; witness = x.witness; takes = x.takes }

gives_inside : {g : Rules} (h A : ℕ) (w : Word) (p k : ℕ) → GivesIn g h A w p k
    → (p < length g) × (k ≤ length w)
gives_inside h A w p k c = inside A w p k (gives_choice c)

module _ (g : Rules) where
  gives_suc? : (h : ℕ) → ((B : ℕ) (v : Word) → Dec (LowTree g h B v)) → (A : ℕ) (w : Word) (p k : ℕ)
      → Dec (GivesIn g (suc h) A w p k)
  gives_suc? h d A w p k = go (get_elem? g p) refl
    where
      back : (r : Rule) → get_elem? g p ≡ some r → GivesIn g (suc h) A w p k
          → CanBy (LowTree g h) w r.clause k
      back r e c = let x = gives_can c in let y = x.1 in let q : x.0.clause ≡ r.clause = cc in
          rw q at x.3

      named : (r : Rule) → get_elem? g p ≡ some r → Dec (r.left ≡ A)
          → Dec (GivesIn g (suc h) A w p k)
      named r e (no f) = no (λ c. let x = gives_can c in let y = x.1 in let z = x.2 in f (cc))
      named r e (yes f) =
          let st : get_elem? g p ≡ some (record { left = A; clause = r.clause }) = rw f at e in
          map_dec (can_gives g h p A r.clause w k st) (back r e)
          (can? (LowTree g h) w r.clause k (λ B. d B w) (λ B. d B (take k w))
          (λ B. d B (drop k w)))

      go : (o : Option Rule) → get_elem? g p ≡ o → Dec (GivesIn g (suc h) A w p k)
      go none e = no (λ c. let x = (gives_can c).1 in clash cc)
      go (some r) e = named r e (ℕ_discrete r.left A)

  of_grown : {h A : ℕ} {w : Word} → LowTree g h A w → (p : ℕ) × (k : ℕ) × GivesIn g h A w p k
  of_grown x = let t = takes_of x.witness.valid in
      (t.0, t.1, record { tree = x.tree; witness = x.witness; takes = t.2; high = x.high })

  pub grown? : (h A : ℕ) (w : Word) → Dec (LowTree g h A w)
  grown? zero A w = no (λ x. omega (arith, x.high, height_pos x.tree))
  grown? (suc h) A w = go (seek₂ (GivesIn g (suc h) A w) (gives_suc? h (λ B v. grown? h B v) A w)
      (length g) (length w) (gives_inside (suc h) A w))
    where
      go : Least₂ (GivesIn g (suc h) A w) ⊎ ((p k : ℕ) → GivesIn g (suc h) A w p k → ⊥)
          → Dec (LowTree g (suc h) A w)
      go (inl l) =
          yes (record { tree = l.holds.tree; witness = l.holds.witness; high = l.holds.high })
      go (inr f) = no (λ x. let y = of_grown x in f y.0 y.1 y.2)

  gives? : (h A : ℕ) (w : Word) (p k : ℕ) → Dec (GivesIn g h A w p k)
  gives? zero A w p k = no (λ x. omega (arith, x.high, height_pos x.tree))
  gives? (suc h) A w p k = gives_suc? h (grown? h) A w p k

  -- 3. the low choice

  pub low_choice : {A : ℕ} {w : Word} {n : ℕ} → LowTree g n A w
      → (p : ℕ) × (k : ℕ) × (c : LowChoice g A w p k) × (c.least ≤ n)
  low_choice {A} {w} {n} x = height_at (seek (λ h. LowTree g h A w) (λ h. grown? h A w) (suc n))
    where
      least_of : (l : Least (λ h. LowTree g h A w)) (t : Tree) → Witness g A w t → l.at ≤ height t
      least_of l t y = go (dec_lt (height t) l.at)
        where
          go : Dec (height t < l.at) → l.at ≤ height t
          go (yes h) =
              absurd (l.before (height t) h (record { tree = t; witness = y; high = omega arith }))
          go (no h) = omega arith

      choice_at : (l : Least (λ h. LowTree g h A w)) → (l.at ≤ n)
          → Least₂ (GivesIn g l.at A w) ⊎ ((p k : ℕ) → GivesIn g l.at A w p k → ⊥)
          → (p : ℕ) × (k : ℕ) × (c : LowChoice g A w p k) × (c.least ≤ n)
      choice_at l b (inl s) = (
        s.place,
        s.split,
        record {
          least = l.at;
          gives = record {
            tree = s.holds.tree;
            witness = s.holds.witness;
            takes = s.holds.takes;
            high =
                omega (arith, s.holds.high, least_of l s.holds.tree s.holds.witness);
          };
          lowest = least_of l;
          earliest = λ q m y. s.before q m
              (record {
                tree = y.tree;
                witness = y.witness;
                takes = y.takes;
                high =
                    omega (arith, y.high);
              });
        },
        b,
      )
      choice_at l b (inr f) = let y = of_grown l.holds in absurd (f y.0 y.1 y.2)

      height_at : Least (λ h. LowTree g h A w) ⊎ ((j : ℕ) → j < suc n → LowTree g j A w → ⊥)
          → (p : ℕ) × (k : ℕ) × (c : LowChoice g A w p k) × (c.least ≤ n)
      height_at (inl l) = bounded (dec_lt n l.at)
        where
          bounded : Dec (n < l.at) → (p : ℕ) × (k : ℕ) × (c : LowChoice g A w p k) × (c.least ≤ n)
          bounded (yes h) = absurd (l.before n h x)
          bounded (no h) = choice_at l (omega arith)
              (seek₂ (GivesIn g l.at A w) (gives? l.at A w) (length g) (length w)
              (gives_inside l.at A w))
      height_at (inr f) = absurd (f n (omega arith) x)

  -- 4. the tree that takes low choices at each node

  low_tree : (n : ℕ) {A : ℕ} {w : Word} → LowTree g n A w → TreeBy g (LowChoice g) A w
  low_tree zero x = absurd (omega (arith, x.high, height_pos x.tree))
  low_tree (suc n) {A} {w} x = go (low_choice x) (λ B v. low_tree n {A = B} {w = v})
    where
      go : ((p : ℕ) × (k : ℕ) × (c : LowChoice g A w p k) × (c.least ≤ suc n))
          → ((B : ℕ) (v : Word) → LowTree g n B v → TreeBy g (LowChoice g) B v)
          → TreeBy g (LowChoice g) A w
      go c below =
          let y = c.2.gives in
          grown_up (LowChoice g) (LowTree g n) below
          (record { tree = y.tree; witness = y.witness; takes = y.takes })
          (lower_kids n y.witness.valid (omega (arith, y.high, c.3))) c.2

  -- what derives w has such a tree
  pub low_exists : {A : ℕ} {w : Word} → Derives g A w → TreeBy g (LowChoice g) A w
  low_exists d = low_tree (height d.tree)
      (record { tree = d.tree; witness = d.witness; high = omega arith })
