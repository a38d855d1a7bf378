-- The promise settles the reply, the words and the bytes: two results that meet it are the same.
use mathlib.Core.Path.{◌≡◌, refl, sym, ap, ◌∙◌, transport}
use mathlib.Core.List.{List}
use Prim.Native.Nat.{ℕ, ◌*◌}
use native.Mathlib.Omega.{arith}
use lib.ListN.{length, take}
use Rattle.pairs.proofs.DoubtLaws.{doubts_same}
use Rattle.grammar.specs.Trees.{Rules}
use Rattle.lists.specs.Lists.{bytes_of, GivesList}
use Rattle.lists.proofs.Settled.{gives_settled, gives_moved}
use Rattle.sheets.specs.declared.Fault.{Fault}
use Rattle.sheets.specs.Items.{Reading}
use Rattle.sheets.proofs.Numbers.{same_fault}
use Rattle.sheets.proofs.Once.{apart, same_items, same_refusal}
use Rattle.pairs.specs.Doubts.{Doubt}
use Rattle.doubt_list.specs.Entries.{doubt_bytes}
use Rattle.std.specs.Prelude.{Result}
use Rattle.sheets.specs.declared.Refusal.{Refusal}
use Rattle.call_always.specs.declared.Told.{Told}
use Rattle.sheets.specs.Results.{refusal}
use Rattle.call_always.specs.Always.{always_reply_of, always_count, AlwaysOn, short, listing}
use Rattle.call_always.specs.Always.{AlwaysBy, refusing, reading}

-- the same reply, the same words and the same bytes
abbrev Same : (a b c d : List ℕ) (r s : Result Told Refusal) → Type 0
Same a b c d r s = (r ≡ s) × ((a ≡ b) × (c ≡ d))

same_list : {f h : Fault} {ds es : List Doubt} {lent l : List ℕ} {r : Result Told Refusal} → f ≡ h
    → ds ≡ es
    → GivesList always_reply_of (refusal f 0) (bytes_of doubt_bytes ds) (length ds) lent l r
    → GivesList always_reply_of (refusal h 0) (bytes_of doubt_bytes es) (length es) lent l r
same_list {lent = lent} {l} {r} q e x =
    transport
    (λ i.
    GivesList always_reply_of (refusal (q i) 0) (bytes_of doubt_bytes (e i)) (length (e i))
    lent
    l r)
    x

module _ {ws a b l m n : List ℕ} {r s : Result Told Refusal} where
  always_on : (g : Rules) → AlwaysOn g ws a l m r → AlwaysOn g ws b l n s → Same a b m n r s
  always_on g (short {f = f} h i x j k) (short {f = f'} h' i' y j' k') =
      let z = same_fault f f' 21 i i' in
      (x ∙ ap (λ (v : Fault). refusal v 0) z ∙ sym y, (j ∙ sym j', k ∙ sym k'))
  always_on g (short h i x j k) (listing h' t u y e) = absurd (omega (arith, h, h'))
  always_on g (listing h' t u y e) (short h i x j k) = absurd (omega (arith, h, h'))
  always_on g (listing {f = f} h t u x e) (listing {f = f'} h' t' u' y e') =
      let z = gives_settled (same_list (same_fault f f' 22 u u') (doubts_same t t') x) y in
      (z.0, (e ∙ sym e', z.1))

  pub always_settled : {given : Reading Rules} → AlwaysBy given ws a l m r
      → AlwaysBy given ws b l n s → Same a b m n r s
  always_settled (refusing e x h i) (refusing d y j k) =
      let z = same_refusal e d in
      (x ∙ (λ i. refusal (z.0 i) (z.1 i)) ∙ sym y, (h ∙ sym j, i ∙ sym k))
  always_settled (refusing e x h i) (reading d y) = absurd (apart e d)
  always_settled (reading d y) (refusing e x h i) = absurd (apart e d)
  always_settled (reading {g = g} e x) (reading d y) = always_on g x (rw (← same_items e d) at y)

-- of what is lent only its length counts: the reply, and the entries that it counts, are the same
-- whatever stood there before
abbrev pub SameDoubts : (m n : List ℕ) (r s : Result Told Refusal) → Type 0
SameDoubts m n r s = (r ≡ s) × (take (4 * always_count r) m ≡ take (4 * always_count s) n)

module _ (m n : List ℕ) {r s : Result Told Refusal} where
  refusal_doubts : {f f' : Fault} {l l' : ℕ} → (f ≡ f') × (l ≡ l') → r ≡ refusal f l
      → s ≡ refusal f' l' → SameDoubts m n r s
  refusal_doubts e x y = (
    x ∙ (λ i. refusal (e.0 i) (e.1 i)) ∙ sym y,
    ap (λ (z : Result Told Refusal). take (4 * always_count z) m) x
        ∙ sym (ap (λ (z : Result Told Refusal). take (4 * always_count z) n) y),
  )

  module _ {ws vs list other : List ℕ} (e : length ws ≡ length vs)
      (d : length list ≡ length other) {a b : List ℕ} where
    always_on_reply : (g : Rules) → AlwaysOn g ws a list m r → AlwaysOn g vs b other n s
        → SameDoubts m n r s
    always_on_reply g (short {f = f} h i x j k) (short {f = f'} h' i' y j' k') =
        refusal_doubts (same_fault f f' 21 i i', refl) x y
    always_on_reply g (short h i x j k) (listing h' t u y o) = absurd (omega (arith, h, h', e))
    always_on_reply g (listing h' t u y o) (short h i x j k) = absurd (omega (arith, h, h', e))
    always_on_reply g (listing {f = f} h t u x o) (listing {f = f'} h' t' u' y o') =
        let v = same_list (same_fault f f' 22 u u') (doubts_same t t') x in
        let z = gives_settled (gives_moved d v) y in
        (z.0, λ i. take (4 * always_count (z.0 i)) (z.1 i))

    pub always_reply : {given : Reading Rules} → AlwaysBy given ws a list m r
        → AlwaysBy given vs b other n s → SameDoubts m n r s
    always_reply (refusing p x h i) (refusing q y k j) = refusal_doubts (same_refusal p q) x y
    always_reply (refusing p x h i) (reading q y) = absurd (apart p q)
    always_reply (reading q y) (refusing p x h i) = absurd (apart p q)
    always_reply (reading {g = g} p x) (reading q y) =
        always_on_reply g x (rw (← same_items p q) at y)
