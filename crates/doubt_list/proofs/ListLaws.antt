-- The list while it is written, from one number to the next.
use mathlib.Core.Path.{◌≡◌, refl, sym, ◌∙◌, subst, subst₂}
use mathlib.Core.Logic.{inl, inr}
use mathlib.Core.List.{List, [], ◌∷◌, ◌++◌, Memᴰ}
use mathlib.Core.Bool.{Bool, true, false}
use Prim.Native.Nat.{ℕ, suc, ◌≤◌, ◌<◌}
use native.Mathlib.Omega.{arith}
use native.Mathlib.Decide.{dec_lt}
use lib.ListN.{length, length-append}
use Rattle.sets.specs.Says.{Says}
use Rattle.grammar.specs.declared.Grammar.{Grammar}
use Rattle.grammar.specs.Layout.{Every}
use Rattle.grammar.specs.Content.{rules_of, Formed}
use Rattle.grammar.proofs.Lists.{every_append}
use Rattle.lists.specs.declared.Listing.{Listing}
use Rattle.lists.specs.Putting.{Puts, PutMore, Begun}
use Rattle.lists.proofs.Entries.{bytes_snoc}
use Rattle.pairs.specs.Doubts.{Why, two_rules, two_cuts, two_empty, Doubt, Doubted, why_code}
use Rattle.pairs.specs.Doubts.{DoubtBefore, DoubtsInOrder, AllDoubts}
use Rattle.doubt_list.specs.Entries.{doubt_bytes}
use Rattle.doubt_list.specs.Steps.{at, doubt_number, ListedTo, Lists, PutIf}
use Rattle.doubt_list.proofs.Doubting.{OfRules, doubt_rules}

-- ---- lists with one entry more

module _ {A : Type 0} where
  every_as : (P Q : A → Type 0) (l : List A) → ((a : A) → P a → Q a) → Every P l → Every Q l
  every_as P Q [] f x = tt
  every_as P Q (a ∷ l) f x = (f a x.0, every_as P Q l f x.1)

  every_both : (P Q : A → Type 0) (l : List A) → Every P l → Every Q l → Every (λ a. P a × Q a) l
  every_both P Q [] x y = tt
  every_both P Q (a ∷ l) x y = ((x.0, y.0), every_both P Q l x.1 y.1)

  mem_left : {a : A} (l m : List A) → Memᴰ a l → Memᴰ a (l ++ m)
  mem_left {a = a} [] m x' = elim x' [ ]
  mem_left (b ∷ l) m (Memᴰ.head h) = Memᴰ.head h
  mem_left (b ∷ l) m (Memᴰ.tail h) = Memᴰ.tail (mem_left l m h)

  mem_last : (l : List A) (a : A) → Memᴰ a (l ++ a ∷ [])
  mem_last [] a = Memᴰ.head refl
  mem_last (b ∷ l) a = Memᴰ.tail (mem_last l a)

ordered_snoc : (l : List Doubt) (d : Doubt) → DoubtsInOrder l → Every (λ e. DoubtBefore e d) l
    → DoubtsInOrder (l ++ d ∷ [])
ordered_snoc [] d o b = (tt, tt)
ordered_snoc (e ∷ l) d o b =
    (every_append (DoubtBefore e) l (d ∷ []) o.0 (b.0, tt), ordered_snoc l d o.1 b.1)

-- ---- numbers and order

pub why_small : (y : Why) → why_code y < 3
why_small two_rules = omega arith
why_small two_cuts = omega arith
why_small two_empty = omega arith

why_same : (x y : Why) → why_code x ≡ why_code y → x ≡ y
why_same two_rules two_rules e = refl
why_same two_rules two_cuts e = absurd (omega (arith, e))
why_same two_rules two_empty e = absurd (omega (arith, e))
why_same two_cuts two_rules e = absurd (omega (arith, e))
why_same two_cuts two_cuts e = refl
why_same two_cuts two_empty e = absurd (omega (arith, e))
why_same two_empty two_rules e = absurd (omega (arith, e))
why_same two_empty two_cuts e = absurd (omega (arith, e))
why_same two_empty two_empty e = refl

-- the rules of a doubt have places below 128
pub record Few (d : Doubt) : Type 0 where
  pub first : d.first < 128
  pub second : d.second < 128

number_before : (d e : Doubt) → Few d → Few e → doubt_number d < doubt_number e → DoubtBefore d e
number_before d e x y h = go (dec_lt d.nonterminal e.nonterminal)
  where
    small : why_code d.why < 3
    small = why_small d.why

    small' : why_code e.why < 3
    small' = why_small e.why

    go₃ : d.nonterminal ≡ e.nonterminal → d.first ≡ e.first → Dec (d.second < e.second)
        → DoubtBefore d e
    go₃ a b (yes k) = inr (inr (inl (a, b, k)))
    go₃ a b (no k) =
        let s : d.second ≡ e.second = omega
        (arith, x.first, x.second, y.first, y.second, small, small', a, b, h, k) in
        inr (inr (inr (a, b, s, omega (arith, a, b, s, h))))

    go₂ : d.nonterminal ≡ e.nonterminal → Dec (d.first < e.first) → DoubtBefore d e
    go₂ a (yes k) = inr (inl (a, k))
    go₂ a (no k) =
        go₃ a (omega (arith, x.first, x.second, y.first, y.second, small, small', a, h, k))
        (dec_lt d.second e.second)

    go : Dec (d.nonterminal < e.nonterminal) → DoubtBefore d e
    go (yes k) = inl k
    go (no k) =
        go₂ (omega (arith, x.first, x.second, y.first, y.second, small, small', h, k))
        (dec_lt d.first e.first)

number_same : (d e : Doubt) → Few d → Few e → doubt_number d ≡ doubt_number e → d ≡ e
number_same d e x y h =
    λ i. record {
      nonterminal = a i;
      first = b i;
      second = s i;
      why = why_same d.why e.why w
          i;
    }
  where
    small : why_code d.why < 3
    small = why_small d.why

    small' : why_code e.why < 3
    small' = why_small e.why

    a : d.nonterminal ≡ e.nonterminal
    a = omega (arith, x.first, x.second, y.first, y.second, small, small', h)

    b : d.first ≡ e.first
    b = omega (arith, x.first, x.second, y.first, y.second, small, small', h, a)

    s : d.second ≡ e.second
    s = omega (arith, x.first, x.second, y.first, y.second, small, small', h, a, b)

    w : why_code d.why ≡ why_code e.why
    w = omega (arith, h, a, b, s)

-- ---- from one number to another

module _ {g : Grammar} (f : Formed g) where
  few_of : (d : Doubt) → Doubted (rules_of g) d → Few d
  few_of d h = let r = doubt_rules f d h in record { first = r.small.place; second = r.few }

  pub lists_none : {out : List ℕ} {l : Listing} {n : ℕ} → l.count ≤ l.at
      → Lists (rules_of g) out out l l n n
  lists_none h = record { few = h; long = refl; goes = λ x. x }

  pub lists_then : {a b c : List ℕ} {l m r : Listing} {i j k : ℕ} → Lists (rules_of g) a b l m i j
      → Lists (rules_of g) b c m r j k → Lists (rules_of g) a c l r i k
  lists_then p q =
      record { few = q.few; long = q.long ∙ p.long; goes = λ h. q.goes (p.goes h) }

  -- no doubt has a number from m on and below n
  pub lists_skip : {out : List ℕ} {l : Listing} (m n : ℕ) → l.count ≤ l.at → m ≤ n
      → ((d : Doubt) → OfRules g d → Doubted (rules_of g) d → m ≤ doubt_number d
      → doubt_number d < n
      → ⊥) → Lists (rules_of g) out out l l m n
  lists_skip m n h k none =
      record {
        few = h;
        long = refl;
        goes = λ x.
            record {
              entries = x.entries;
              each = x.each;
              all = λ d p i. all x d p i (dec_lt (doubt_number d) m);
              ordered = x.ordered;
              before =
                  every_as (λ d. doubt_number d < m) (λ d. doubt_number d < n) x.entries
                  (λ d i. omega (arith, i, k)) x.before;
              puts = x.puts;
            };
      }
    where
      all : {lent out : List ℕ} {l : Listing} (x : ListedTo (rules_of g) lent out l m) (d : Doubt)
          → Doubted (rules_of g) d → doubt_number d < n → Dec (doubt_number d < m)
          → Memᴰ d x.entries
      all x d p i (yes j) = x.all d p j
      all x d p i (no j) = absurd (none d (doubt_rules f d p) p (omega (arith, j)) i)

  lists_put : {old new : List ℕ} {l r : Listing} (d : Doubt) → Doubted (rules_of g) d
      → length new ≡ length old
      → PutMore (doubt_bytes d) 1 old new l r → Lists (rules_of g) old new l r (doubt_number d)
      (suc (doubt_number d))
  lists_put {old} {new} {l} {r} d p h q = record { few = q.few; long = h; goes = goes }
    where
      goes : {lent : List ℕ} → ListedTo (rules_of g) lent old l (doubt_number d)
          → ListedTo (rules_of g) lent new r (suc (doubt_number d))
      goes {lent} x =
          record {
            entries = x.entries ++ d ∷ [];
            each = every_append (Doubted (rules_of g)) x.entries (d ∷ []) x.each (p, tt);
            all = λ e y i. all e y i (dec_lt (doubt_number e) (doubt_number d));
            ordered =
                ordered_snoc x.entries d x.ordered
                (every_as (λ e. Doubted (rules_of g) e × (doubt_number e < doubt_number d))
                (λ e. DoubtBefore e d) x.entries
                (λ e y. number_before e d (few_of e y.0) (few_of d p) y.1)
                (every_both (Doubted (rules_of g)) (λ e. doubt_number e < doubt_number d) x.entries
                x.each x.before));
            before =
                every_append (λ e. doubt_number e < suc (doubt_number d)) x.entries (d ∷ [])
                (every_as (λ e. doubt_number e < doubt_number d)
                (λ e. doubt_number e < suc (doubt_number d)) x.entries
                (λ e i. omega (arith, i)) x.before) (omega arith, tt);
            puts =
                subst₂ (λ (b : List ℕ) (k : ℕ). Puts b k lent new r)
                (sym (bytes_snoc doubt_bytes x.entries d))
                (sym (length-append x.entries (d ∷ [])))
                (q.puts x.puts);
          }
        where
          all : (e : Doubt) → Doubted (rules_of g) e → doubt_number e < suc (doubt_number d)
              → Dec (doubt_number e < doubt_number d) → Memᴰ e (x.entries ++ d ∷ [])
          all e y i (yes j) = mem_left x.entries (d ∷ []) (x.all e y j)
          all e y i (no j) =
              let same = number_same e d (few_of e y) (few_of d p) (omega (arith, i, j)) in
              subst (λ (z : Doubt). Memᴰ z (x.entries ++ d ∷ [])) (sym same)
              (mem_last x.entries d)

  -- an entry was put exactly if it is a doubt
  pub lists_if : {yes : Bool} {old new : List ℕ} {l r : Listing} (d : Doubt) → Few d
      → Says yes (Doubted (rules_of g) d) → l.count ≤ l.at
      → PutIf yes (doubt_bytes d) old new l r → Lists (rules_of g) old new l r (doubt_number d)
      (suc (doubt_number d))
  lists_if {yes} {old} {new} {l} {r} d x s h q = go yes s q
    where
      go : (b : Bool) → Says b (Doubted (rules_of g) d) → PutIf b (doubt_bytes d) old new l r
          → Lists (rules_of g) old new l r (doubt_number d) (suc (doubt_number d))
      go true s q = let p = q.put refl in lists_put d (s.is refl) p.1 p.0
      go false s q =
          let p = q.same refl in
          rw (p.0, p.1)
          (lists_skip (doubt_number d) (suc (doubt_number d)) h (omega arith)
          (λ e o y i j. absurd (s.isnt refl
          (subst (Doubted (rules_of g)) (number_same e d (few_of e y) x (omega (arith, i, j))) y))))

  -- ---- the first number and the last

  pub listed_first : {lent : List ℕ} {l : Listing} → Begun l → ListedTo (rules_of g) lent lent l 0
  listed_first {lent} b =
      record {
        entries = [];
        each = tt;
        all = λ d p i. absurd (omega (arith, i));
        ordered = tt;
        before = tt;
        puts = b.puts lent;
      }

  pub listed_all : {lent out : List ℕ} {l : Listing}
      (x : ListedTo (rules_of g) lent out l (at 64 0 0 0)) → AllDoubts (rules_of g) x.entries
  listed_all x =
      record {
        each = x.each;
        all = λ d p. x.all d p (last d (doubt_rules f d p));
        ordered = x.ordered;
      }
    where
      last : (d : Doubt) → OfRules g d → doubt_number d < at 64 0 0 0
      last d o = omega (arith, o.small.left, o.small.place, o.few, why_small d.why)
