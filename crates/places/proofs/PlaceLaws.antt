-- The places of a sentence in the paper's sense, and when there are none.
use mathlib.Core.Path.{◌≡◌, refl, sym, ap, ◌∙◌, subst, subst₂}
use mathlib.Core.Logic.{inl, inr, ◌↔◌}
use mathlib.Core.List.{[], ◌∷◌, ◌++◌}
use Prim.Native.Nat.{ℕ, zero, suc, ◌+◌, ◌-◌, ◌≤◌, ◌<◌}
use native.Mathlib.Omega.{arith}
use native.Mathlib.Decide.{dec_lt}
use lib.ListN.{length, take, drop, length-append}
use lib.Seq.{drop-cons, take_all}
use Rattle.grammar.proofs.Positions.{after_then}
use Rattle.grammar.specs.declared.Token.{Token}
use Rattle.grammar.specs.Layout.{Word, width}
use Rattle.grammar.specs.Trees.{Tree, unary, binary, root, word, Rules, Witness, TwoTrees}
use Rattle.grammar.specs.Rows.{start_of}
use Rattle.grammar.specs.SpanSheet.{part}
use Rattle.grammar.specs.Candidates.{After, RisingFrom, Rising, Wide}
use Rattle.marks.specs.Half.{token_at}
use Rattle.marks.proofs.Words.{part_length, every_at, cut}
use Rattle.places.specs.LocalAmbiguity as Paper
use Rattle.places.specs.LocalAmbiguity.{Reaches, Within, Dissimilar}
use Rattle.places.specs.Places as Pl
use Rattle.places.specs.Places.{Several, StandsIn, Contains, Place}
use Rattle.places.proofs.PaperLaws.{reaches_sub, within_reaches, several_dissimilar}
use Rattle.places.proofs.PaperLaws.{dissimilar_several, several_two, reaches_two, two_found}
use Rattle.grammar.specs.Distinct.{Distinct}
use Rattle.grammar.specs.Sentences.{no_token}

-- ---- a nonempty word stands at one place: tokens rise, and each has a width

not_after : (a : Token) → 1 ≤ width a → After a a → ⊥
not_after a h (inl x) = omega arith
not_after a h (inr x) = omega (arith, x.1)

after_at : (a : Token) (w : Word) → RisingFrom a w → (k : ℕ) → k < length w → After a (token_at w k)
after_at a [] r k h = absurd (omega arith)
after_at a (b ∷ w) r zero h = r.0
after_at a (b ∷ w) r (suc k) h =
    after_then a b (token_at w k) r.0 (after_at b w r.1 k (omega arith))

rising_rest : (a : Token) (w : Word) → RisingFrom a w → Rising w
rising_rest a [] r = tt
rising_rest a (b ∷ w) r = r.1

pub later_after : (w : Word) → Rising w → (i j : ℕ) → i < j → j < length w
    → After (token_at w i) (token_at w j)
later_after [] r i j l h = absurd (omega arith)
later_after (a ∷ w) r i zero l h = absurd (omega arith)
later_after (a ∷ w) r zero (suc j) l h = after_at a w r j (omega arith)
later_after (a ∷ w) r (suc i) (suc j) l h =
    later_after w (rising_rest a w r) i j (omega arith) (omega arith)

apart : (w : Word) → Wide w → Rising w → (i j : ℕ) → i < length w → j < length w
    → token_at w i ≡ token_at w j → i ≡ j
apart w v r i j h k e = go (dec_lt i j) (dec_lt j i)
  where
    never : (m : ℕ) → m < length w → After (token_at w m) (token_at w m) → ⊥
    never m l = not_after (token_at w m) (every_at (λ t. 1 ≤ width t) w v m l)

    go : Dec (i < j) → Dec (j < i) → i ≡ j
    go (yes l) q = absurd (never j k
        (subst (λ (x : Token). After x (token_at w j)) e (later_after w r i j l k)))
    go (no l) (yes m) = absurd (never i h
        (subst (λ (x : Token). After x (token_at w i)) (sym e) (later_after w r j i m h)))
    go (no l) (no m) = omega arith

part_same : (ts : Word) → Wide ts → Rising ts → (s s' len : ℕ) → 0 < len → s + len ≤ length ts
    → s' + len ≤ length ts → part ts s len ≡ part ts s' len → s ≡ s'
part_same ts v a s s' zero p h h' e = absurd (omega arith)
part_same ts v a s s' (suc len) p h h' e =
    let x : drop s ts ≡ _ = drop-cons ts s no_token (omega arith) in
    let y : drop s' ts ≡ _ = drop-cons ts s' no_token (omega arith) in
    let z = sym (ap (take (suc len)) x) ∙ e ∙ ap (take (suc len)) y in
    apart ts v a s s' (omega arith) (omega arith) (cc)

-- ---- where a node's word lies

pub record Lies (ts : Word) (t : Tree) (j : ℕ) : Type 0 where
  pub fits : j + length (word t) ≤ length ts
  pub spelled : word t ≡ part ts j (length (word t))

pub part_whole : (ts : Word) → part ts 0 (length ts) ≡ ts
part_whole ts = take_all (length ts) ts (omega arith)

pub lies_left : (ts : Word) (u w : Tree) (i A : ℕ) → Lies ts (binary A u w) i → Lies ts u i
lies_left ts u w i A a =
    let n = length-append (word u) (word w) in
    let z = cut ts (word u) (word w) i (length (word u ++ word w)) a.fits a.spelled in
    record { fits = omega (arith, a.fits); spelled = z.front }

pub lies_right : (ts : Word) (u w : Tree) (i A : ℕ) → Lies ts (binary A u w) i
    → Lies ts w (i + length (word u))
lies_right ts u w i A a =
    let n = length-append (word u) (word w) in
    let z = cut ts (word u) (word w) i (length (word u ++ word w)) a.fits a.spelled in
    let e : length (word u ++ word w) - length (word u) ≡ length (word w) = omega arith in
    record {
      fits = omega (arith, a.fits);
      spelled =
          z.rest ∙ ap (part ts (i + length (word u))) e;
    }

pub lies_whole : {g : Rules} {ts : Word} {T : Tree} → Witness g 0 ts T → Lies ts T 0
lies_whole {ts = ts} x =
    record { fits = rw x.spelled (omega arith); spelled = rw x.spelled (sym (part_whole ts)) }

inside_lies : {t : Tree} (ts : Word) (T : Tree) (i j : ℕ) → StandsIn t i T j → Lies ts T i
    → Lies ts t j
inside_lies ts T i j Pl.top a = a
inside_lies ts (unary A s) i j (Pl.below x) a =
    inside_lies ts s i j x (record { fits = a.fits; spelled = a.spelled })
inside_lies ts (binary A u w) i j (Pl.left x) a = inside_lies ts u i j x (lies_left ts u w i A a)
inside_lies ts (binary A u w) i j (Pl.right x) a =
    inside_lies ts w (i + length (word u)) j x (lies_right ts u w i A a)

pub node_lies : {g : Rules} {ts : Word} {A start len : ℕ} (p : Contains g ts A start len)
    → Lies ts p.node p.from
node_lies {ts = ts} p = inside_lies ts p.whole 0 p.from p.inside (lies_whole p.witness)

-- the word of a place is that of its span
pub node_word : {g : Rules} {ts : Word} {A start len : ℕ} (p : Contains g ts A start len)
    → word p.node ≡ part ts start len
node_word {ts = ts} {start = start} {len = len} p = at len p.long p.starts
  where
    l : Lies ts p.node p.from
    l = node_lies p

    at : (n : ℕ) → length (word p.node) ≡ n → start_of p.from n ≡ start
        → word p.node ≡ part ts start n
    at zero e f = l.spelled ∙ ap (part ts p.from) e
    at (suc n) e f = l.spelled ∙ ap (part ts p.from) e ∙ ap (λ (x : ℕ). part ts x (suc n)) f

-- it lies in the sentence, and an empty one at its start
pub span_fits : {g : Rules} {ts : Word} {A start len : ℕ} → Contains g ts A start len
    → (start + len ≤ length ts) × (start_of start len ≡ start)
span_fits {ts = ts} {start = start} {len = len} p = at len p.long p.starts
  where
    at : (n : ℕ) → length (word p.node) ≡ n → start_of p.from n ≡ start
        → (start + n ≤ length ts) × (start_of start n ≡ start)
    at zero e f = (omega (arith, f), f)
    at (suc n) e f = (omega (arith, f, e, (node_lies p).fits), refl)

-- ---- places in the paper's sense

within_of : {t T : Tree} {i j : ℕ} → StandsIn t i T j → Within t T
within_of Pl.top = Paper.here
within_of (Pl.below x) = Paper.below (within_of x)
within_of (Pl.left x) = Paper.left (within_of x)
within_of (Pl.right x) = Paper.right (within_of x)

inside_of : {t T : Tree} (i : ℕ) → Within t T → (j : ℕ) × StandsIn t i T j
inside_of i Paper.here = (i, Pl.top)
inside_of i (Paper.below x) = let y = inside_of i x in (y.0, Pl.below y.1)
inside_of i (Paper.left x) = let y = inside_of i x in (y.0, Pl.left y.1)
inside_of i (Paper.right {u = u} x) = let y = inside_of (i + length (word u)) x in
    (y.0, Pl.right y.1)

-- what a whole tree contains is reached
pub contains_reached : {g : Rules} {ts : Word} {A start len : ℕ} → Contains g ts A start len
    → Reaches g 0 ts A (part ts start len)
contains_reached {g} {ts} {A} {start} {len} p =
    let r = (within_reaches (within_of p.inside) p.witness.valid).0 in
    let r₁ : Reaches g 0 ts (root p.node) (word p.node) = subst₂
    (λ (X : ℕ) (x : Word). Reaches g X x (root p.node) (word p.node)) p.witness.rooted
    p.witness.spelled r in
    subst₂ (λ (X : ℕ) (x : Word). Reaches g 0 ts X x) p.rooted (node_word p) r₁

-- what is reached and has a tree is contained in a whole tree
pub reached_contains : {g : Rules} {ts : Word} → Wide ts → Rising ts → {A start len : ℕ}
    → start + len ≤ length ts → start_of start len ≡ start
    → Reaches g 0 ts A (part ts start len) → (t : Tree) → Witness g A (part ts start len) t
    → Contains g ts A start len
reached_contains {g} {ts} v a {A} {start} {len} b s r t x =
    let T = (reaches_sub r).extend t x in
    let n = inside_of 0 T.2 in
    let k : length (word t) ≡ len = ap length x.spelled ∙ part_length ts start len b in
    let l = inside_lies ts T.0 0 n.0 n.1 (lies_whole T.1) in
    let e : part ts n.0 len ≡ part ts start len =
    sym (l.spelled ∙ ap (part ts n.0) k) ∙ x.spelled in
    record {
      whole = T.0;
      witness = T.1;
      node = t;
      from = n.0;
      inside = n.1;
      rooted = x.rooted;
      long = k;
      starts = starts n.0 len refl (omega (arith, l.fits, k)) e;
    }
  where
    starts : (f n : ℕ) → n ≡ len → f + n ≤ length ts → part ts f n ≡ part ts start n
        → start_of f n ≡ start
    starts f zero e h q = sym (sym (ap (start_of start) e)) ∙ s
    starts f (suc n) e h q = part_same ts v a f start (suc n) (omega arith) h (omega arith) q

-- THE THEOREM: the request's words and the paper's say the same
pub place_iff : {g : Rules} {ts : Word} → Distinct g → Wide ts → Rising ts → (A start len : ℕ)
    → start + len ≤ length ts → start_of start len ≡ start
    → Place g ts A start len ↔ (Reaches g 0 ts A (part ts start len)
    × Dissimilar g A (part ts start len))
place_iff d v a A start len b s = (
  λ p. (contains_reached p.contained, several_dissimilar d p.several),
  λ x. record {
    contained = reached_contains v a b s x.0 x.1.first x.1.witness₁;
    several = dissimilar_several x.1;
  },
)

-- ---- there are places exactly if the sentence has two trees

pub place_two : {g : Rules} {ts : Word} {A start len : ℕ} → Distinct g → Place g ts A start len
    → TwoTrees g 0 ts
place_two d p = reaches_two (contains_reached p.contained) (several_two d p.several)

-- what is reached and has a tree stands somewhere in the sentence
pub reached_stands : {g : Rules} {ts : Word} {A : ℕ} {v : Word} → Reaches g 0 ts A v → (t : Tree)
    → Witness g A v t
    → (start : ℕ) × Contains g ts A start (length v) × (part ts start (length v) ≡ v)
reached_stands {g} {ts} {A} {v} r t x =
    let T = (reaches_sub r).extend t x in
    let n = inside_of 0 T.2 in
    let p : Contains g ts A (start_of n.0 (length v)) (length v) =
    record {
      whole = T.0;
      witness = T.1;
      node = t;
      from = n.0;
      inside = n.1;
      rooted = x.rooted;
      long =
          ap length x.spelled;
      starts = refl;
    }
    in (start_of n.0 (length v), p, sym (node_word p) ∙ x.spelled)

-- where it has two dissimilar trees, that is a place
pub reached_place : {g : Rules} {ts : Word} {A : ℕ} {v : Word} → Reaches g 0 ts A v → Several g A v
    → (start : ℕ) × Place g ts A start (length v) × (part ts start (length v) ≡ v)
reached_place {g} {A = A} r d =
    let c = d.choice₁ in
    let f = reached_stands r c.tree c.witness in
    (f.0, record { contained = f.1; several = subst (Several g A) (sym f.2) d }, f.2)

pub two_place : {g : Rules} {ts : Word} → TwoTrees g 0 ts
    → (A : ℕ) × (start : ℕ) × (len : ℕ) × Place g ts A start len
two_place t = let f = two_found t in let p = reached_place f.reached f.several in
    (f.nonterminal, p.0, length f.part, p.1)
