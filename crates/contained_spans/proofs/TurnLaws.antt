-- The loop over what a span has: rule by rule of a nonterminal, then the next nonterminal.
use mathlib.Core.Path.{◌≡◌, refl, sym, ap, ◌∙◌, subst}
use mathlib.Core.Logic.{◌⊎◌, inl, inr}
use mathlib.Core.List.{List}
use Prim.Native.Nat.{ℕ, ◌+◌, ◌≤◌, ◌<◌}
use native.Mathlib.Omega.{arith}
use native.Mathlib.Decide.{ℕ_discrete, dec_lt}
use lib.ListN.{length, get_or}
use Rattle.sets.specs.Insertion.{insert}
use Rattle.grammar.specs.Trees.{Rules}
use Rattle.marks.specs.declared.SpanMarks.{SpanMarks}
use Rattle.tables.specs.Tables.{One, by_marks, Fits, rule}
use Rattle.rule_lists.specs.RuleLists.{Listed, IsOf}
use Rattle.cuts.specs.Joining.{Joins}
use Rattle.cuts.proofs.JoinLaws.{joins_as}
use Rattle.cut_tables.proofs.TurnLaws.{Under, joins_zero, joins_next, joins_jump, joins_all}
use Rattle.contained_spans.specs.Reached.{Bit}
use Rattle.contained_spans.specs.Joining.{RuleKids}
use Rattle.contained_spans.specs.Counting.{CountTells, Plus, Noted, Spot}
use Rattle.contained_spans.specs.Trying.{ClauseSpread}
use Rattle.contained_spans.specs.Spreading.{Works}
use Rattle.contained_spans.proofs.CountLaws.{tells_as, tells_same, tells_none, tells_sum}
use Rattle.contained_spans.proofs.WorkLaws.{Smalls, Spots, works_none, works_more}

-- what lies beneath the rule at i
abbrev Turn : List ℕ → Rules → ℕ → ℕ → ℕ → SpanMarks → ℕ → ℕ → ℕ → ℕ → Type 0
Turn ws g n s len k A i q B = (i < length g) × RuleKids ws n s len k A (rule g i) q B

-- the choices of A by the rules before i
abbrev Before : List ℕ → Rules → ℕ → ℕ → ℕ → SpanMarks → ℕ → ℕ → Spot → Type 0
Before ws g n s len k A i p = (p.place < i) × Spots ws g n s len k A p

-- `done` is worked off but for the rules of a from i on
pub data Trying (ws : List ℕ) (g : Rules) (n s len : ℕ) (k : SpanMarks) (rs rs' : List ℕ)
    (done ps a count i : ℕ) : Type 0 where
  resting : length g ≤ i → count ≡ 0 → Works ws g n s len k rs rs' done ps
      → Trying ws g n s len k rs rs' done ps a count i
  turning : (rs₁ : List ℕ) (before : ℕ) → Works ws g n s len k rs rs₁ before ps
      → Bit rs₁ n s len a → done ≡ insert before a → IsOf g a i
      → Joins (Under (Turn ws g n s len k a) i) rs₁ rs'
      → CountTells (Before ws g n s len k a i) count
      → Trying ws g n s len k rs rs' done ps a count i

pub trying_long : {ws : List ℕ} {g : Rules} {n s len : ℕ} {k : SpanMarks} {rs rs' : List ℕ}
    {done ps a count i : ℕ} → Trying ws g n s len k rs rs' done ps a count i
    → length rs' ≡ length rs
trying_long (resting h e x) = x.long
trying_long (turning rs₁ before x b e o j t) = j.long ∙ x.long

pub trying_few : {ws : List ℕ} {g : Rules} {n s len : ℕ} {k : SpanMarks} {rs rs' : List ℕ}
    {done ps a count i : ℕ} → Trying ws g n s len k rs rs' done ps a count i → count ≤ 2
trying_few (resting h e x) = omega arith
trying_few (turning rs₁ before x b e o j t) = t.few

pub trying_start : (ws : List ℕ) (g : Rules) (n s len : ℕ) (k : SpanMarks) (rs : List ℕ) (a i : ℕ)
    → length g ≤ i → Trying ws g n s len k rs rs 0 0 a 0 i
trying_start ws g n s len k rs a i h = resting h refl (works_none ws g n s len k rs)

-- the next nonterminal
pub trying_begin : (ws : List ℕ) (g : Rules) (n s len : ℕ) (k : SpanMarks) {rs rs' l : List ℕ}
    {done ps : ℕ} (a : ℕ) → a < 64 → Listed g l → Works ws g n s len k rs rs' done ps
    → Bit rs' n s len a → Trying ws g n s len k rs rs' (insert done a) ps a 0 (get_or l a 0)
trying_begin ws g n s len k {rs' = rs'} {done = done} a h l x b =
    let f = l.firsts.first a h in
    turning rs' done x b refl f.is
    (joins_jump (Turn ws g n s len k a) 0 _ f.low
    (λ j q B u v w. f.skips j u v w.0 w.1.0)
    (joins_zero (Turn ws g n s len k a) rs'))
    (tells_none (λ p q. f.skips p.place (omega arith) q.0 q.1.within q.1.left))

-- one rule more
pub trying_turn : {ws : List ℕ} {g : Rules} {n s len : ℕ} {k : SpanMarks}
    {rs rs' rs'' sn l : List ℕ}
    {done ps a count i r count' : ℕ} → i < length g → Listed g l
    → Trying ws g n s len k rs rs' done ps a count i
    → ClauseSpread ws n s len k (rule g i).clause rs' rs'' sn r → Plus count r count'
    → Trying ws g n s len k rs rs'' done ps a count' (get_or l (64 + i) 0)
trying_turn h l (resting m e x) c p = absurd (omega arith)
trying_turn {ws} {g} {n} {s} {len} {k} {l = ls} {a = a} {count} {i} {r} {count'} h l
    (turning rs₁ before x b e o j t) c p =
    let f = l.nexts.next i h in
    let q = o h in
    turning rs₁ before x b e (λ u. f.is u ∙ q)
    (joins_jump (Turn ws g n s len k a) (i + 1) _ f.low
    (λ d y B u v w. f.skips d u v w.0 (w.1.0 ∙ sym q))
    (joins_next (Turn ws g n s len k a) i j
    (joins_as (λ y B u. (h, (q, u))) (λ y B u. u.1.1) c.joins)))
    (tells_same (λ d. to d) (λ d. back d)
    (tells_sum count r count' (λ d u v. omega (arith, u.0, v.0)) p t here))
  where
    own : Spot → Type 0
    own d = (d.place ≡ i)
        × Fits (One ws n) (by_marks k len) s len (rule g i).clause d.left

    here : CountTells own r
    here = tells_as (λ (y : ℕ). record { place = i; left = y }) (λ (d : Spot). d.left)
        (λ y u. (refl, u)) (λ d u. u.1) (λ y z u v w. ap (λ (d : Spot). d.left) w)
        (λ y z u v w. λ m. record { place = (u.0 ∙ sym v.0) m; left = w m }) c.tells

    next : ℕ
    next = get_or ls (64 + i) 0

    to : (d : Spot) → Before ws g n s len k a i d ⊎ own d → Before ws g n s len k a next d
    to d (inl u) = (omega (arith, u.0, (l.nexts.next i h).low), u.1)
    to d (inr u) = (
      omega (arith, u.0, (l.nexts.next i h).low),
      record {
        within = omega (arith, u.0);
        left = ap (λ (z : ℕ). (rule g z).left) u.0 ∙ o h;
        fits = subst (λ (z : ℕ). Fits (One ws n) (by_marks k len) s len (rule g z).clause d.left)
            (sym u.0) u.1;
      },
    )

    back : (d : Spot) → Before ws g n s len k a next d → Before ws g n s len k a i d ⊎ own d
    back d u = go (dec_lt d.place i) (ℕ_discrete d.place i)
      where
        go : Dec (d.place < i) → Dec (d.place ≡ i) → Before ws g n s len k a i d ⊎ own d
        go (yes v) w = inl (v, u.1)
        go (no v) (yes w) = inr (
          w,
          subst (λ (z : ℕ). Fits (One ws n) (by_marks k len) s len (rule g z).clause d.left) w
              u.1.fits,
        )
        go (no v) (no w) = absurd ((l.nexts.next i h).skips d.place (omega arith) u.0
            u.1.within (u.1.left ∙ sym (o h)))

-- all rules of a are tried
pub trying_end : {ws : List ℕ} {g : Rules} {n s len : ℕ} {k : SpanMarks} {rs rs' : List ℕ}
    {done ps a count i ps' : ℕ} → Smalls g → s + len ≤ n → length g ≤ i
    → Trying ws g n s len k rs rs' done ps a count i → Noted ps a count ps'
    → Works ws g n s len k rs rs' done ps'
trying_end {ws} {g} {n} {s} {len} {k} {rs} {rs'} {done} small fit h (resting m e x) p =
    subst (Works ws g n s len k rs rs' done) (sym (p.less (omega arith))) x
trying_end {ws} {g} {n} {s} {len} {k} {rs} {rs'} {done} {ps} {a} {count} {i} {ps'} small fit h
    (turning rs₁ before x b e o j t) p =
    subst (λ (z : ℕ). Works ws g n s len k rs rs' z ps') (sym e)
    (works_more ws g n s len k small fit rs rs₁ rs' before a count ps ps' x b
    (joins_as (λ q B u. (
      u.0,
      u.1.1.1.0,
      record { within = u.1.0; left = u.1.1.0; fits = u.1.1.1.1.0 },
      u.1.1.1.1.1,
    ))
    (λ q B u. (u.0, (u.2.within, (u.2.left, (u.1, (u.2.fits, u.3))))))
    (joins_all (Turn ws g n s len k a) i j (λ d q B u. omega (arith, u.0))))
    (tells_same (λ d u. u.1) (λ d u. (omega (arith, u.within), u)) t) p)
