-- The list while it is written, from one position to the next.
use mathlib.Core.Path.{◌≡◌, refl, sym, ap, ◌∙◌, subst, subst₂}
use mathlib.Core.Logic.{◌⊎◌, inl, inr, ⊎_elim}
use mathlib.Core.List.{List, [], ◌∷◌, ◌++◌, Memᴰ}
use Prim.Native.Nat.{ℕ, zero, suc, ◌+◌, ◌-◌, ◌≤◌, ◌<◌}
use native.Mathlib.Omega.{arith}
use native.Mathlib.Decide.{dec_lt}
use lib.ListN.{length, length-append}
use Rattle.grammar.specs.declared.Rule.{Rule}
use Rattle.grammar.specs.declared.Grammar.{Grammar}
use Rattle.grammar.specs.Layout.{Word, Every}
use Rattle.grammar.specs.Content.{rules_of, Formed}
use Rattle.grammar.specs.Trees.{Rules}
use Rattle.grammar.specs.Rows.{start_of}
use Rattle.grammar.proofs.Lists.{every_append}
use Rattle.grammar.proofs.ByKind.{choice_can, get_elem?_lt}
use Rattle.tables.proofs.Places.{there}
use Rattle.tables.specs.Tables.{rule}
use Rattle.tables.proofs.RulePlaces.{small_at}
use Rattle.lists.specs.declared.Listing.{Listing}
use Rattle.lists.specs.Putting.{Puts, PutMore, Begun}
use Rattle.lists.proofs.Entries.{bytes_snoc}
use Rattle.places.specs.Places.{Place, Entry, Sooner, Ordered, AllPlaces, entry_bytes}
use Rattle.places.proofs.PlaceLaws.{span_fits}
use Rattle.place_list.specs.Steps.{entry, ListedTo, Lists}

-- ---- lists with one entry more

every_snoc : (P : Entry → Type 0) (es : List Entry) (e : Entry) → Every P es → P e
    → Every P (es ++ e ∷ [])
every_snoc P es e x p = every_append P es (e ∷ []) x (p, tt)

every_as : (P Q : Entry → Type 0) (es : List Entry) → ((e : Entry) → P e → Q e) → Every P es
    → Every Q es
every_as P Q [] f x = tt
every_as P Q (e ∷ es) f x = (f e x.0, every_as P Q es f x.1)

every_both : (P Q : Entry → Type 0) (es : List Entry) → Every P es → Every Q es
    → Every (λ e. P e × Q e) es
every_both P Q [] x y = tt
every_both P Q (e ∷ es) x y = ((x.0, y.0), every_both P Q es x.1 y.1)

ordered_snoc : (es : List Entry) (e : Entry) → Ordered es → Every (λ f. Sooner f e) es
    → Ordered (es ++ e ∷ [])
ordered_snoc [] e o b = (tt, tt)
ordered_snoc (f ∷ es) e o b =
    (every_snoc (Sooner f) es e o.0 b.0, ordered_snoc es e o.1 b.1)

mem_left : {e : Entry} (es fs : List Entry) → Memᴰ e es → Memᴰ e (es ++ fs)
mem_left {e = e} [] fs x' = elim x' [ ]
mem_left (f ∷ es) fs (Memᴰ.head h) = Memᴰ.head h
mem_left (f ∷ es) fs (Memᴰ.tail m) = Memᴰ.tail (mem_left es fs m)

mem_last : (es : List Entry) (e : Entry) → Memᴰ e (es ++ e ∷ [])
mem_last [] e = Memᴰ.head refl
mem_last (f ∷ es) e = Memᴰ.tail (mem_last es e)

-- ---- positions

-- what comes sooner than the next nonterminal comes sooner than this one or is it
next_sooner : (x : Entry) (A s l : ℕ) → Sooner x (entry (A + 1) s l)
    → Sooner x (entry A s l) ⊎ (x ≡ entry A s l)
next_sooner x A s l (inl h) = inl (inl h)
next_sooner x A s l (inr (inl h)) = inl (inr (inl h))
next_sooner x A s l (inr (inr h)) = go (dec_lt x.nonterminal A)
  where
    go : Dec (x.nonterminal < A) → Sooner x (entry A s l) ⊎ (x ≡ entry A s l)
    go (yes k) = inl (inr (inr (h.0, h.1, k)))
    go (no k) = let e : x.nonterminal ≡ A = omega (arith, h.2) in
        inr (λ i. record { nonterminal = e i; start = h.1 i; len = h.0 i })

sooner_next : (x : Entry) (A s l : ℕ) → Sooner x (entry A s l) → Sooner x (entry (A + 1) s l)
sooner_next x A s l (inl h) = inl h
sooner_next x A s l (inr (inl h)) = inr (inl h)
sooner_next x A s l (inr (inr h)) = inr (inr (h.0, h.1, omega (arith, h.2)))

here_next : (A s l : ℕ) → Sooner (entry A s l) (entry (A + 1) s l)
here_next A s l = inr (inr (refl, refl, omega arith))

-- ---- from one position to another

abbrev PlaceAt : Rules → Word → Entry → Type 0
PlaceAt g w e = Place g w e.nonterminal e.start e.len

module _ {g : Rules} {w : Word} where
  pub lists_none : {out : List ℕ} {l : Listing} (c : Entry) → l.count ≤ l.at
      → Lists g w out out l l c c
  lists_none c h = record { few = h; long = refl; goes = λ x. x }

  pub lists_then : {a b c : List ℕ} {l m r : Listing} {x y z : Entry} → Lists g w a b l m x y
      → Lists g w b c m r y z → Lists g w a c l r x z
  lists_then p q =
      record { few = q.few; long = q.long ∙ p.long; goes = λ h. q.goes (p.goes h) }

  -- the same places come sooner than d as sooner than c
  lists_move : {out : List ℕ} {l : Listing} (c d : Entry) → l.count ≤ l.at
      → ((A s len : ℕ) → Place g w A s len → Sooner (entry A s len) d → Sooner (entry A s len) c)
      → ((A s len : ℕ) → Place g w A s len → Sooner (entry A s len) c → Sooner (entry A s len) d)
      → Lists g w out out l l c d
  lists_move c d h f b =
      record {
        few = h;
        long = refl;
        goes = λ x.
            let both =
            every_both (PlaceAt g w) (λ e. Sooner e c) x.entries x.each x.before in
            record {
              entries = x.entries;
              each = x.each;
              all = λ A s len p k. x.all A s len p (f A s len p k);
              ordered = x.ordered;
              before =
                  every_as (λ e. PlaceAt g w e × Sooner e c) (λ e. Sooner e d) x.entries
                  (λ e y. b e.nonterminal e.start e.len y.0 y.1) both;
              puts = x.puts;
            };
      }

  -- no place here
  pub lists_skip : {out : List ℕ} {l : Listing} (A s len : ℕ) → l.count ≤ l.at
      → (Place g w A s len → ⊥) → Lists g w out out l l (entry A s len) (entry (A + 1) s len)
  lists_skip A s len h n =
      lists_move (entry A s len) (entry (A + 1) s len) h
      (λ B t k p y. ⊎_elim (λ z. z) (λ e. absurd
      (n (subst (λ (z : Entry). Place g w z.nonterminal z.start z.len) e p)))
      (next_sooner (entry B t k) A s len y))
      (λ B t k p y. sooner_next (entry B t k) A s len y)

  -- a place is put
  pub lists_put : {old new : List ℕ} {l r : Listing} (A s len : ℕ) → Place g w A s len
      → length new ≡ length old → PutMore (entry_bytes (entry A s len)) 1 old new l r
      → Lists g w old new l r (entry A s len) (entry (A + 1) s len)
  lists_put {old} {new} {l} {r} A s len p h q = record { few = q.few; long = h; goes = goes }
    where
      e : Entry
      e = entry A s len

      goes : {lent : List ℕ} → ListedTo g w lent old l e
          → ListedTo g w lent new r (entry (A + 1) s len)
      goes {lent} x =
          record {
            entries = x.entries ++ e ∷ [];
            each = every_snoc (PlaceAt g w) x.entries e x.each p;
            all = λ B t k y z.
                ⊎_elim (λ z. mem_left x.entries (e ∷ []) (x.all B t k y z))
                (λ z. subst (λ (f : Entry). Memᴰ f (x.entries ++ e ∷ [])) (sym z)
                (mem_last x.entries e)) (next_sooner (entry B t k) A s len z);
            ordered = ordered_snoc x.entries e x.ordered x.before;
            before =
                every_snoc (λ f. Sooner f (entry (A + 1) s len)) x.entries e
                (every_as (λ f. Sooner f e) (λ f. Sooner f (entry (A + 1) s len)) x.entries
                (λ f y. sooner_next f A s len y) x.before) (here_next A s len);
            puts =
                subst₂ (λ (b : List ℕ) (n : ℕ). Puts b n lent new r)
                (sym (bytes_snoc entry_bytes x.entries e))
                (sym (length-append x.entries (e ∷ []))) (q.puts x.puts);
          }

-- ---- from span to span

-- a nonterminal of the rules is below 64
place_small : (g : Grammar) (w : Word) (A s l : ℕ) → Formed g → Place (rules_of g) w A s l → A < 64
place_small g w A s l f p =
    let y = choice_can p.several.choice₁ in
    let i = p.several.place₁ in
    let h = get_elem?_lt (rules_of g) i y.1 in
    let e : y.0 ≡ rule (rules_of g) i = let a = y.1 in let b = there (rules_of g) i h in cc in
    omega (arith, (small_at f i h).left, ap (λ (r : Rule). r.left) e, y.2)

module _ (g : Grammar) (w : Word) (formed : Formed g) {out : List ℕ} {l : Listing}
    (few : l.count ≤ l.at) where
  -- the next start
  pub lists_right : (start len : ℕ)
      → Lists (rules_of g) w out out l l (entry 64 start len) (entry 0 (start + 1) len)
  lists_right start len =
      lists_move (entry 64 start len) (entry 0 (start + 1) len) few
      (λ A s k p h. to A s k (place_small g w A s k formed p) h) (λ A s k p h. of A s k h)
    where
      to : (A s l : ℕ) → A < 64 → Sooner (entry A s l) (entry 0 (start + 1) len)
          → Sooner (entry A s l) (entry 64 start len)
      to A s l k (inl h) = inl h
      to A s l k (inr (inl h)) = go (dec_lt s start)
        where
          go : Dec (s < start) → Sooner (entry A s l) (entry 64 start len)
          go (yes q) = inr (inl (h.0, q))
          go (no q) = inr (inr (h.0, omega (arith, h.1), k))
      to A s l k (inr (inr h)) = absurd (omega (arith, h.2))

      of : (A s l : ℕ) → Sooner (entry A s l) (entry 64 start len)
          → Sooner (entry A s l) (entry 0 (start + 1) len)
      of A s l (inl h) = inl h
      of A s l (inr (inl h)) = inr (inl (h.0, omega (arith, h.1)))
      of A s l (inr (inr h)) = inr (inl (h.0, omega (arith, h.1)))

  -- the next length
  pub lists_down : (start len : ℕ) → 0 < len → length w < start + len
      → Lists (rules_of g) w out out l l (entry 0 start len) (entry 0 0 (len - 1))
  lists_down start len z e =
      lists_move (entry 0 start len) (entry 0 0 (len - 1)) few
      (λ A s k p h. to A s k (span_fits p.contained).0 h) (λ A s k p h. of A s k h)
    where
      to : (A s l : ℕ) → s + l ≤ length w → Sooner (entry A s l) (entry 0 0 (len - 1))
          → Sooner (entry A s l) (entry 0 start len)
      to A s l k (inl h) = go (dec_lt len l)
        where
          go : Dec (len < l) → Sooner (entry A s l) (entry 0 start len)
          go (yes q) = inl q
          go (no q) = inr (inl (omega arith, omega arith))
      to A s l k (inr (inl h)) = absurd (omega (arith, h.1))
      to A s l k (inr (inr h)) = absurd (omega (arith, h.2))

      of : (A s l : ℕ) → Sooner (entry A s l) (entry 0 start len)
          → Sooner (entry A s l) (entry 0 0 (len - 1))
      of A s l (inl h) = inl (omega arith)
      of A s l (inr (inl h)) = inl (omega (arith, h.0))
      of A s l (inr (inr h)) = absurd (omega (arith, h.2))

-- ---- the first position and the last

module _ (g : Grammar) (w : Word) (formed : Formed g) {lent : List ℕ} {l : Listing} where
  pub listed_first : (n : ℕ) → length w ≡ n → Begun l
      → ListedTo (rules_of g) w lent lent l (entry 0 0 n)
  listed_first n e b =
      record {
        entries = [];
        each = tt;
        all = λ A s k p h. absurd
            (none A s k (span_fits p.contained).0 h);
        ordered = tt;
        before = tt;
        puts =
            b.puts lent;
      }
    where
      none : (A s l : ℕ) → s + l ≤ length w → Sooner (entry A s l) (entry 0 0 n) → ⊥
      none A s l k (inl h) = omega arith
      none A s l k (inr (inl h)) = omega (arith, h.1)
      none A s l k (inr (inr h)) = omega (arith, h.2)

  -- the empty word is the last: all places are listed
  pub listed_all : {out : List ℕ} (x : ListedTo (rules_of g) w lent out l (entry 64 0 0))
      → AllPlaces (rules_of g) w x.entries
  listed_all x =
      record {
        each = x.each;
        all = λ A s k p. x.all A s k p
            (last A s k (place_small g w A s k formed p) (span_fits p.contained).1);
        ordered = x.ordered;
      }
    where
      last : (A s l : ℕ) → A < 64 → start_of s l ≡ s → Sooner (entry A s l) (entry 64 0 0)
      last A s zero k e = inr (inr (refl, sym e, k))
      last A s (suc l) k e = inl (omega arith)

-- a word that is not empty stands where it starts
pub start_some : (s len : ℕ) → 0 < len → start_of s len ≡ s
start_some s zero h = absurd (omega arith)
start_some s (suc l) h = refl
