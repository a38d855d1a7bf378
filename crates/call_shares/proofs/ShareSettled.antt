-- The promise of a share settles its whole answer and the lent words.
use mathlib.Core.Path.{◌≡◌, refl, sym, ap, ◌∙◌}
use mathlib.Core.Logic.{◌⊎◌, inr, ⊎_elim}
use mathlib.Core.List.{List}
use Prim.Native.Nat.{ℕ, ◌/◌, ◌%◌, ◌≤◌, ◌<◌}
use native.Mathlib.Omega.{arith}
use lib.ListN.{length}
use Rattle.grammar.specs.declared.Cell.{Cell}
use Rattle.grammar.specs.Trees.{Rules}
use Rattle.grammar.specs.Candidates.{Terminal, sentence}
use Rattle.grammar.specs.Content.{SmallRule}
use Rattle.grammar.proofs.Lists.{mem_every}
use Rattle.grammar.proofs.SweepLaws.{before_total}
use Rattle.arrangement_numbers.specs.Numbers.{number}
use Rattle.arrangement_numbers.specs.Shares.{total, NoneIn, LowestIn}
use Rattle.arrangement_numbers.proofs.ShareLaws.{number_before}
use Rattle.sheets.specs.declared.Fault.{Fault}
use Rattle.sheets.specs.Refusals.{number_of}
use Rattle.sheets.specs.Items.{accepted}
use Rattle.sheets.proofs.Once.{apart, same_items, same_refusal}
use Rattle.sheets.specs.RuleSheets.{rule_sheet}
use Rattle.sheets.proofs.Accepted.{rules_good}
use Rattle.std.specs.Prelude.{Some}
use Rattle.sheets.specs.Results.{refusal}
use Rattle.sheets.proofs.Numbers.{same_fault}
use Rattle.call_shares.specs.Share.{ShareResult, share_reply_of, ShareTaken, ShareOn, bound}
use Rattle.call_shares.specs.Share.{many, racks, beyond, short, clear, two, ShareOf, refusing}
use Rattle.call_shares.specs.Share.{reading}

refusal_same : {f f' : Fault} {a b ws : List ℕ} {r s : ShareResult} (n : ℕ) → number_of f ≡ n
    → number_of f' ≡ n → r ≡ refusal f 0 → s ≡ refusal f' 0 → a ≡ ws → b ≡ ws
    → (r ≡ s) × (a ≡ b)
refusal_same {f} {f'} n m o x y h k =
    (x ∙ ap (λ (z : Fault). refusal z 0) (same_fault f f' n m o) ∙ sym y, h ∙ sym k)

-- outside lo to hi
pub off : {lo hi k : ℕ} → (k < lo) ⊎ (hi < k) → lo ≤ k → k ≤ hi → ⊥
off h l u = ⊎_elim (λ x. omega arith) (λ x. omega arith) h

-- the lowest is one
lowest_same : (g : Rules) → ((x : ℕ) → Terminal g x → x < 64) → {n lo hi : ℕ} {cs ds : List Cell}
    → LowestIn g n lo hi cs → LowestIn g n lo hi ds → cs ≡ ds
lowest_same g small {n} {lo} {hi} {cs} {ds} a b =
    ⊎_elim (λ x. absurd (b.lowest.absent cs a.candidate a.low
    (number_before g small n cs ds a.candidate b.candidate (inr (same, x))) a.two))
    (λ o. ⊎_elim (λ q. q) (λ x. absurd
    (a.lowest.absent ds b.candidate b.low
    (number_before g small n ds cs b.candidate a.candidate (inr (sym same, x)))
    b.two)) o) (before_total cs ds same)
  where
    same : length cs ≡ length ds
    same = a.candidate.arranged.size ∙ sym b.candidate.arranged.size

never_both : {g : Rules} {n lo hi : ℕ} {cs : List Cell} → NoneIn g n lo hi → LowestIn g n lo hi cs
    → ⊥
never_both {g} {n} {lo} {hi} {cs} c f = c.absent cs f.candidate f.low f.high f.two

module _ (g : Rules) (small : (x : ℕ) → Terminal g x → x < 64) (n p i : ℕ) where
  share_on : {ws a b : List ℕ} {r s : ShareResult} → ShareOn g n p i ws a r → ShareOn g n p i ws b s
      → (r ≡ s) × (a ≡ b)
  share_on (bound l m x h) (bound k o y e) = refusal_same 23 m o x y h e
  share_on (bound l m x h) (many k u o q y e) = absurd (off l k u)
  share_on (bound l m x h) (racks k o q y e) = absurd (off l k.low k.high)
  share_on (bound l m x h) (beyond k u o q v y e) = absurd (off l k.low k.high)
  share_on (bound l m x h) (short k u o q v w y e) = absurd (off l k.low k.high)
  share_on (bound l m x h) (clear t c y e) = absurd (off l t.size.low t.size.high)
  share_on (bound l m x h) (two t c y e) = absurd (off l t.size.low t.size.high)
  share_on (many k u o q y e) (bound l m x h) = absurd (off l k u)
  share_on (many k u o q y e) (many l v m w x h) = refusal_same 24 q w y x e h
  share_on (many k u o q y e) (racks l m w x h) = absurd (omega (arith, o, l.few))
  share_on (many k u o q y e) (beyond l m v w z x h) = absurd (omega (arith, o, l.few))
  share_on (many k u o q y e) (short l m v w z f x h) = absurd (omega (arith, o, l.few))
  share_on (many k u o q y e) (clear t c x h) = absurd (omega (arith, o, t.size.few))
  share_on (many k u o q y e) (two t c x h) = absurd (omega (arith, o, t.size.few))
  share_on (racks k o q y e) (bound l m x h) = absurd (off l k.low k.high)
  share_on (racks k o q y e) (many l v m w x h) = absurd (omega (arith, m, k.few))
  share_on (racks k o q y e) (racks l m w x h) = refusal_same 45 q w y x e h
  share_on (racks k o q y e) (beyond l m v w z x h) = absurd (off o m v)
  share_on (racks k o q y e) (short l m v w z f x h) = absurd (off o m v)
  share_on (racks k o q y e) (clear t c x h) = absurd (off o t.least t.most)
  share_on (racks k o q y e) (two t c x h) = absurd (off o t.least t.most)
  share_on (beyond k u o q v y e) (bound l m x h) = absurd (off l k.low k.high)
  share_on (beyond k u o q v y e) (many l w m z x h) = absurd (omega (arith, m, k.few))
  share_on (beyond k u o q v y e) (racks l m w x h) = absurd (off m u o)
  share_on (beyond k u o q v y e) (beyond l m w z f x h) = refusal_same 46 v f y x e h
  share_on (beyond k u o q v y e) (short l m w z f j x h) = absurd (omega arith)
  share_on (beyond k u o q v y e) (clear t c x h) = absurd (omega (arith, t.below))
  share_on (beyond k u o q v y e) (two t c x h) = absurd (omega (arith, t.below))
  share_on (short k u o q v w y e) (bound l m x h) = absurd (off l k.low k.high)
  share_on (short k u o q v w y e) (many l z m f x h) = absurd (omega (arith, m, k.few))
  share_on (short k u o q v w y e) (racks l m z x h) = absurd (off m u o)
  share_on (short k u o q v w y e) (beyond l m z f j x h) = absurd (omega arith)
  share_on (short k u o q v w y e) (short l m z f j b x h) = refusal_same 21 w b y x e h
  share_on (short k u o q v w y e) (clear t c x h) = absurd (omega (arith, t.enough))
  share_on (short k u o q v w y e) (two t c x h) = absurd (omega (arith, t.enough))
  share_on (clear t c y e) (bound l m x h) = absurd (off l t.size.low t.size.high)
  share_on (clear t c y e) (many k u o q x h) = absurd (omega (arith, o, t.size.few))
  share_on (clear t c y e) (racks k o q x h) = absurd (off o t.least t.most)
  share_on (clear t c y e) (beyond k u o q v x h) = absurd (omega (arith, t.below))
  share_on (clear t c y e) (short k u o q v w x h) = absurd (omega (arith, t.enough))
  share_on (clear t c y e) (clear u d x h) = (y ∙ sym x, e ∙ sym h)
  share_on (clear t c y e) (two u d x h) = absurd (never_both c d)
  share_on (two t c y e) (bound l m x h) = absurd (off l t.size.low t.size.high)
  share_on (two t c y e) (many k u o q x h) = absurd (omega (arith, o, t.size.few))
  share_on (two t c y e) (racks k o q x h) = absurd (off o t.least t.most)
  share_on (two t c y e) (beyond k u o q v x h) = absurd (omega (arith, t.below))
  share_on (two t c y e) (short k u o q v w x h) = absurd (omega (arith, t.enough))
  share_on (two t c y e) (clear u d x h) = absurd (never_both d c)
  share_on (two {cs = cs} t c y e) (two {cs = ds} u d x h) = (
    y ∙ ap (λ (z : List Cell). share_reply_of (number g n z) (total g n / p)
        (total g n % p) (Some (sentence z))) (lowest_same g small c d) ∙ sym x,
    e ∙ sym h,
  )

-- the terminals of a sheet that was read are below 64
pub small_terminals : (rules : List ℕ) (g : Rules) → rule_sheet rules ≡ accepted g → (x : ℕ)
    → Terminal g x → x < 64
small_terminals rules g e x t = let h = t.1 in
    let s = (mem_every SmallRule g (rules_good rules g e).small h.rule).clause in
    omega (arith, h.covers.high, s.1)

pub share_settled : (rules : List ℕ) (n p i : ℕ) {ws a b : List ℕ} {r s : ShareResult}
    → ShareOf rules n p i ws a r → ShareOf rules n p i ws b s → (r ≡ s) × (a ≡ b)
share_settled rules n p i (refusing e x h) (refusing d y k) = let z = same_refusal e d in
    (x ∙ rw (z.0, z.1) (sym y), h ∙ sym k)
share_settled rules n p i (refusing e x h) (reading d y) = absurd (apart e d)
share_settled rules n p i (reading d y) (refusing e x h) = absurd (apart e d)
share_settled rules n p i (reading {g = g} e x) (reading d y) =
    let z = same_items e d in
    share_on g (small_terminals rules g e) n p i x (rw (← z) at y)

-- of the lent words only their number counts: the reply is the same whatever stood there before
module _ {ws vs : List ℕ} (e : length ws ≡ length vs) where
  taken_moved : {g : Rules} {n p i : ℕ} → ShareTaken g n p i ws → ShareTaken g n p i vs
  taken_moved t = record {
    size = t.size;
    least = t.least;
    most = t.most;
    below = t.below;
    enough = omega (arith, t.enough);
  }

  pub share_reply : (rules : List ℕ) (n p i : ℕ) {a b : List ℕ} {r s : ShareResult}
      → ShareOf rules n p i ws a r → ShareOf rules n p i vs b s → r ≡ s
  share_reply rules n p i (refusing d x h) y = (share_settled rules n p i (refusing d x refl) y).0
  share_reply rules n p i (reading d (bound l m x h)) y =
      (share_settled rules n p i (reading d (bound l m x refl)) y).0
  share_reply rules n p i (reading d (many k u o q x h)) y =
      (share_settled rules n p i (reading d (many k u o q x refl)) y).0
  share_reply rules n p i (reading d (racks k o q x h)) y =
      (share_settled rules n p i (reading d (racks k o q x refl)) y).0
  share_reply rules n p i (reading d (beyond k u o q v x h)) y =
      (share_settled rules n p i (reading d (beyond k u o q v x refl)) y).0
  share_reply rules n p i (reading d (short k u o q v w x h)) y =
      (share_settled rules n p i (reading d (short k u o q (omega arith) w x refl)) y).0
  share_reply rules n p i (reading d (clear t c x h)) y =
      (share_settled rules n p i (reading d (clear (taken_moved t) c x refl)) y).0
  share_reply rules n p i (reading d (two t c x h)) y =
      (share_settled rules n p i (reading d (two (taken_moved t) c x refl)) y).0
