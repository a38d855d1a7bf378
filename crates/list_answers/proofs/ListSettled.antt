-- A list that a call gives: from the one that puts it, that it settles the answer and the lent
-- bytes, of which only the number counts, and that its entries are no more than those bytes.
use mathlib.Core.Path.{◌≡◌, refl, sym, ap, ◌∙◌}
use mathlib.Core.List.{List}
use Prim.Native.Nat.{ℕ, ◌≤◌}
use native.Mathlib.Nat.{le_refl}
use native.Mathlib.Omega.{arith}
use lib.ListN.{length, take}
use Rattle.std.specs.Prelude.{Option, Result}
use Rattle.lists.specs.Lists.{GivesList, fits, large}
use Rattle.lists.specs.Putting.{listed, unfit}
use Rattle.lists.proofs.Settled.{gives_settled, gives_map, gives_moved}
use Rattle.sheets.specs.declared.Fault.{Fault}
use Rattle.sheets.specs.declared.Refusal.{Refusal}
use Rattle.sheets.specs.Results.{refusal}
use Rattle.sheets.proofs.Numbers.{same_fault}
use Rattle.list_answers.specs.Lists.{entry_count, ListOn}
use Rattle.list_answers.specs.ListReplies.{on_list}

module _ {bytes : List ℕ} {n : ℕ} {lent : List ℕ} where
  pub list_on : {lent' : List ℕ} {l : Option ℕ} → GivesList listed unfit bytes n lent lent' l
      → ListOn bytes n lent lent' (on_list l)
  list_on g = record { fault = Fault.FewRows; number = refl; gives = gives_map on_list g }

  pub list_settled : {x y : List ℕ} {r s : Result ℕ Refusal} → ListOn bytes n lent x r
      → ListOn bytes n lent y s → (r ≡ s) × (x ≡ y)
  list_settled p q =
      let e = same_fault p.fault q.fault 22 p.number q.number in
      gives_settled (rw e at p.gives) q.gives

-- ---- whatever stood in the lent bytes before

pub list_moved : {bytes : List ℕ} {n : ℕ} {lent other l : List ℕ} {r : Result ℕ Refusal}
    → length lent ≡ length other → ListOn bytes n lent l r → ListOn bytes n other l r
list_moved e x = record { fault = x.fault; number = x.number; gives = gives_moved e x.gives }

-- the same reply, and the same bytes, as many as it counts
abbrev pub SameBytes : (m n : List ℕ) (r s : Result ℕ Refusal) → Type 0
SameBytes m n r s = (r ≡ s) × (take (entry_count r) m ≡ take (entry_count s) n)

module _ (m n : List ℕ) {r s : Result ℕ Refusal} where
  pub bytes_same : (r ≡ s) × (m ≡ n) → SameBytes m n r s
  bytes_same e = (e.0, λ i. take (entry_count (e.0 i)) (e.1 i))

  pub refusal_bytes : {f f' : Fault} {l l' : ℕ} → (f ≡ f') × (l ≡ l')
      → r ≡ refusal f l → s ≡ refusal f' l'
      → SameBytes m n r s
  refusal_bytes e x y = (
    x ∙ (λ i. refusal (e.0 i) (e.1 i)) ∙ sym y,
    ap (λ (z : Result ℕ Refusal). take (entry_count z) m) x
        ∙ sym (ap (λ (z : Result ℕ Refusal). take (entry_count z) n) y),
  )

-- ---- how many bytes are given

pub count_of : {r s : Result ℕ Refusal} {n : ℕ} → r ≡ s → entry_count s ≤ n
    → entry_count r ≤ n
count_of e h = omega (arith, ap entry_count e)

gives_count : {given : ℕ → Result ℕ Refusal} {refused : Result ℕ Refusal} {bytes : List ℕ} {n : ℕ}
    {lent lent' : List ℕ} {r : Result ℕ Refusal}
    → ((m : ℕ) → entry_count (given m) ≡ m) → entry_count refused ≡ 0 → n ≤ length bytes
    → GivesList given refused bytes n lent lent' r → entry_count r ≤ length lent
gives_count {n = n} g z h (fits l e p) = count_of e (omega (arith, g n))
gives_count g z h (large l e p) = count_of e (omega (arith, z))

pub list_count : {bytes lent lent' : List ℕ} {r : Result ℕ Refusal}
    → ListOn bytes (length bytes) lent lent' r → entry_count r ≤ length lent
list_count l = gives_count (λ m. refl) refl (le_refl _) l.gives
