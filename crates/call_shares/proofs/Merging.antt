-- Over the lengths 1 to k, the merged reports of all shares are the sweep's answer.
use mathlib.Core.Path.{◌≡◌, refl, sym, ap, ◌∙◌, subst}
use mathlib.Core.Logic.{◌⊎◌, inl, inr, ⊎_elim}
use mathlib.Core.List.Memᴰ
use mathlib.Core.List.{List, [], ◌∷◌, Memᴰ}
use mathlib.Core.Option.{none, some}
use Prim.Native.Nat.{ℕ, suc, ◌≤◌, ◌<◌}
use native.Mathlib.Omega.{arith}
use native.Mathlib.Decide.{dec_lt}
use lib.ListN.{length}
use Rattle.grammar.specs.declared.Cell.{Cell}
use Rattle.grammar.specs.Trees.{Rules, TwoTrees}
use Rattle.grammar.specs.Candidates.{Terminal, Candidate, Earlier, sentence}
use Rattle.grammar.proofs.SweepLaws.{sentence_length}
use Rattle.arrangement_numbers.specs.Numbers.{number}
use Rattle.arrangement_numbers.specs.Shares.{first_of_share, total, Reports}
use Rattle.arrangement_numbers.proofs.ShareLaws.{number_before, share_of, shares_clear}
use Rattle.sheets.specs.declared.Answer.{Answer}
use Rattle.std.specs.Prelude.{Ok, Err}
use Rattle.sets.proofs.Basics.{clash}
use Rattle.sweep_answers.specs.Sweep.{padded}
use Rattle.call_shares.specs.Share.{ShareResult, share_told, share_number, share_sentence}
use Rattle.call_shares.specs.Share.{ShareOn, bound, many, racks, beyond, short, clear, two}
use Rattle.call_shares.specs.Merge.{Refuses, Leads, Ahead, Merged, first_refuses}
use Rattle.call_shares.specs.Merge.{second_refuses, second, first}
use Rattle.call_shares.specs.MergedAll.{MergedAll, Answered, Sweeps, some_refused, all_clear}
use Rattle.call_shares.specs.MergedAll.{first_found}

-- ---- two reports give one

pub merged_settled : {a b r s : ShareResult} → Merged a b r → Merged a b s → r ≡ s
merged_settled (first_refuses x e) (first_refuses y d) = e ∙ sym d
merged_settled (first_refuses x e) (second_refuses n y d) = absurd (n x)
merged_settled (first_refuses x e) (second n y l d) = absurd (n x)
merged_settled (first_refuses x e) (first n y l d) = absurd (n x)
merged_settled (second_refuses n x e) (first_refuses y d) = absurd (n y)
merged_settled (second_refuses n x e) (second_refuses m y d) = e ∙ sym d
merged_settled (second_refuses n x e) (second m y l d) = absurd (y x)
merged_settled (second_refuses n x e) (first m y l d) = absurd (y x)
merged_settled (second n x l e) (first_refuses y d) = absurd (n y)
merged_settled (second n x l e) (second_refuses m y d) = absurd (x y)
merged_settled (second n x l e) (second m y k d) = e ∙ sym d
merged_settled (second n x l e) (first m y k d) = absurd (k l)
merged_settled (first n x l e) (first_refuses y d) = absurd (n y)
merged_settled (first n x l e) (second_refuses m y d) = absurd (x y)
merged_settled (first n x l e) (second m y k d) = absurd (l k)
merged_settled (first n x l e) (first m y k d) = e ∙ sym d

-- ---- none leads the merged one

leads_then : {n N m M k K : ℕ} → Leads n N m M → Leads m M k K → Leads n N k K
leads_then {n} {N} {m} {M} {k} {K} a b =
    record { reports = a.reports; sooner = go a.sooner b.sooner }
  where
    go : (m ≡ 0) ⊎ ((n < m) ⊎ ((n ≡ m) × (N < M))) → (k ≡ 0) ⊎ ((m < k) ⊎ ((m ≡ k) × (M < K)))
        → (k ≡ 0) ⊎ ((n < k) ⊎ ((n ≡ k) × (N < K)))
    go x (inl z) = inl z
    go (inl z) (inr y) = absurd (omega (arith, b.reports))
    go (inr (inl x)) (inr (inl y)) = inr (inl (omega arith))
    go (inr (inl x)) (inr (inr y)) = inr (inl (omega (arith, y.0)))
    go (inr (inr x)) (inr (inl y)) = inr (inl (omega (arith, x.0)))
    go (inr (inr x)) (inr (inr y)) = inr (inr (x.0 ∙ y.0, omega (arith, x.1, y.1)))

leads_not : {n N : ℕ} → Leads n N n N → ⊥
leads_not {n} {N} a = go a.sooner
  where
    go : (n ≡ 0) ⊎ ((n < n) ⊎ ((n ≡ n) × (N < N))) → ⊥
    go (inl z) = omega (arith, a.reports)
    go (inr (inl x)) = omega arith
    go (inr (inr x)) = omega (arith, x.1)

-- m is one of those with S, and if it is no refusal, none of them is, and none leads it
record Top (S : ShareResult → Type 0) (m : ShareResult) : Type 0 where
  one : S m
  rest : (Refuses m → ⊥) → (r : ShareResult) → S r
      → (Refuses r → ⊥) × (Ahead r m → ⊥)

top_more : {S : ShareResult → Type 0} {a b m : ShareResult} → Top S a → Merged a b m
    → Top (λ r. S r ⊎ (r ≡ b)) m
top_more {S} {a} {b} {m} t (first_refuses x e) = record {
  one = inl (subst S (sym e) t.one);
  rest =
      λ n. absurd (n (subst (λ (r : ShareResult). Refuses r) (sym e) x));
}
top_more {S} {a} {b} {m} t (second_refuses n x e) = record {
  one = inr e;
  rest =
      λ k. absurd (k (subst (λ (r : ShareResult). Refuses r) (sym e) x));
}
top_more {S} {a} {b} {m} t (second n x l e) =
    subst (Top (λ r. S r ⊎ (r ≡ b))) (sym e) (record { one = inr refl; rest = λ k r. go r })
  where
    go : (r : ShareResult) → S r ⊎ (r ≡ b) → (Refuses r → ⊥) × (Ahead r b → ⊥)
    go r (inl s) = let q = t.rest n r s in (q.0, λ y. q.1 (leads_then y l))
    go r (inr i) = (
      λ y. x (subst (λ (z : ShareResult). Refuses z) i y),
      λ y. leads_not
          (subst (λ (z : ShareResult). Ahead z b) i y),
    )
top_more {S} {a} {b} {m} t (first n x l e) =
    subst (Top (λ r. S r ⊎ (r ≡ b))) (sym e) (record { one = inl t.one; rest = λ k r. go r })
  where
    go : (r : ShareResult) → S r ⊎ (r ≡ b) → (Refuses r → ⊥) × (Ahead r a → ⊥)
    go r (inl s) = t.rest n r s
    go r (inr i) = (
      λ y. x (subst (λ (z : ShareResult). Refuses z) i y),
      λ y. l
          (subst (λ (z : ShareResult). Ahead z a) i y),
    )

top_over : {S T : ShareResult → Type 0} {m : ShareResult} → ((r : ShareResult) → S r → T r)
    → ((r : ShareResult) → T r → S r) → Top S m → Top T m
top_over {S} {T} {m} f g t = record { one = f m t.one; rest = λ n r s. t.rest n r (g r s) }

top_all : {S : ShareResult → Type 0} {a m : ShareResult} (rs : List ShareResult) → Top S a
    → MergedAll a rs m → Top (λ r. S r ⊎ Memᴰ r rs) m
top_all {S} {a} {m} [] t e = subst (Top (λ r. S r ⊎ Memᴰ r [])) (sym e)
    (top_over (λ r s. inl s) (λ r s. ⊎_elim (λ x. x) (λ x. absurd (Memᴰ.not-nil x)) s) t)
top_all {S} {a} {m} (b ∷ rs) t q = top_over to of (top_all rs (top_more t q.1) q.2)
  where
    to : (r : ShareResult) → (S r ⊎ (r ≡ b)) ⊎ Memᴰ r rs → S r ⊎ Memᴰ r (b ∷ rs)
    to r (inl (inl s)) = inl s
    to r (inl (inr e)) = inr (Memᴰ.head e)
    to r (inr h) = inr (Memᴰ.tail h)

    of : (r : ShareResult) → S r ⊎ Memᴰ r (b ∷ rs) → (S r ⊎ (r ≡ b)) ⊎ Memᴰ r rs
    of r (inl s) = inl (inl s)
    of r (inr h) = ⊎_elim (λ e. inl (inr e)) (λ x. inr x) (Memᴰ.cases_cons h)

-- ---- what a share's reply is

-- one that tells clear or two is no refusal
pub clear_not : (r : ShareResult) → share_told r ≡ Answer.Clear → Refuses r → ⊥
clear_not (Ok x) e n = n
clear_not (Err q) e n = clash cc

pub two_not : (r : ShareResult) → share_told r ≡ Answer.Two → Refuses r → ⊥
two_not (Ok x) e n = n
two_not (Err q) e n = clash cc

-- refused, clear, or the lowest number and its sentence
data Told (g : Rules) (n p i : ℕ) (r : ShareResult) : Type 0 where
  refused : Refuses r → Told g n p i r
  nothing : Reports g n p i none → share_told r ≡ Answer.Clear → (share_sentence r).count ≡ 0
      → Told g n p i r
  lowest : {cs : List Cell} → Reports g n p i (some cs) → share_told r ≡ Answer.Two
      → share_number r ≡ number g n cs → (share_sentence r).count ≡ n
      → share_sentence r ≡ padded (sentence cs) → Told g n p i r

told : {g : Rules} {n p i : ℕ} {r : ShareResult} → Answered g n p i r → Told g n p i r
told {g} {n} {p} {i} {r} a = go a.on
  where
    go : ShareOn g n p i a.words a.after r → Told g n p i r
    go (bound l m e h) = refused (subst (λ (z : ShareResult). Refuses z) (sym e) tt)
    go (many k u o q e h) = refused (subst (λ (z : ShareResult). Refuses z) (sym e) tt)
    go (racks k o q e h) = refused (subst (λ (z : ShareResult). Refuses z) (sym e) tt)
    go (beyond k u o q v e h) = refused (subst (λ (z : ShareResult). Refuses z) (sym e) tt)
    go (short k u o q v w e h) =
        refused (subst (λ (z : ShareResult). Refuses z) (sym e) tt)
    go (clear t c e h) = nothing c (ap share_told e)
        (ap (λ (z : ShareResult). (share_sentence z).count) e)
    go (two {cs = cs} t c e h) =
        lowest c (ap share_told e) (ap share_number e)
        (ap (λ (z : ShareResult). (share_sentence z).count) e ∙ sentence_length 1 cs
        ∙ c.candidate.arranged.size) (ap share_sentence e)

-- ---- the sweep's answer

module _ (g : Rules) (small : (x : ℕ) → Terminal g x → x < 64) (k : ℕ) (p : ℕ → ℕ)
    (pos : (n : ℕ) → 1 ≤ p n) {S : ShareResult → Type 0}
    -- each share of each length has its reply among them, and no other reply is
    (each : (n i : ℕ) → 1 ≤ n → n ≤ k → i < p n → (r : ShareResult) × S r × Answered g n (p n) i r)
    (only : (r : ShareResult) → S r → (n : ℕ) × (i : ℕ) × (1 ≤ n) × (n ≤ k) × (i < p n)
    × Answered g n (p n) i r) where
  -- a candidate with two trees, and a report of its length that is not higher
  report_of : {m : ShareResult} → Top S m → (Refuses m → ⊥) → (n : ℕ) (ds : List Cell)
      → 1 ≤ n → n ≤ k → Candidate (Terminal g) n ds → TwoTrees g 0 (sentence ds)
      → (r : ShareResult) × S r × ((share_sentence r).count ≡ n) × (share_number r ≤ number g n ds)
  report_of {m} t ok n ds l u d two' =
      let q = share_of g small n (p n) ds l (pos n) d in
      let y = each n q.0 l u q.1 in
      let z = go y.0 y.1 q.2 q.3 (told y.2) in (y.0, y.1, z.0, z.1)
    where
      go : {i : ℕ} (r : ShareResult) → S r → first_of_share (total g n) (p n) i ≤ number g n ds
          → number g n ds < first_of_share (total g n) (p n) (suc i) → Told g n (p n) i r
          → ((share_sentence r).count ≡ n) × (share_number r ≤ number g n ds)
      go r s a b (refused x) = absurd ((t.rest ok r s).0 x)
      go r s a b (nothing c e z) = absurd (c.absent ds d a b two')
      go r s a b (lowest {cs = cs} c e v z w) = (z, least (dec_lt (number g n ds) (number g n cs)))
        where
          least : Dec (number g n ds < number g n cs) → share_number r ≤ number g n ds
          least (yes h) = absurd (c.lowest.absent ds d a h two')
          least (no h) = omega (arith, v)

  top_sweep : {m : ShareResult} → Top S m → Sweeps g k m
  top_sweep {m} t = let o = only m t.one in go o.0 o.1 o.2 o.3 (told o.5)
    where
      none_two : (Refuses m → ⊥) → (share_sentence m).count ≡ 0 → (n i : ℕ) → 1 ≤ n → n ≤ k
          → i < p n → Reports g n (p n) i none
      none_two ok z n i l u h = let y = each n i l u h in by y.0 y.1 (told y.2)
        where
          by : (r : ShareResult) → S r → Told g n (p n) i r → Reports g n (p n) i none
          by r s (refused x) = absurd ((t.rest ok r s).0 x)
          by r s (nothing c e q) = c
          by r s (lowest c e v q w) =
              absurd ((t.rest ok r s).1 (record { reports = omega (arith, q, l); sooner = inl z }))

      go : (n i : ℕ) → 1 ≤ n → n ≤ k → Told g n (p n) i m → Sweeps g k m
      go n i l u (refused x) = some_refused x
      go n i l u (nothing c e z) =
          all_clear (shares_clear g small k p pos (none_two (clear_not m e) z)) e z
      go n i l u (lowest {cs = cs} c e v z w) = first_found {cs = cs} (record {
        low = omega (arith, size);
        high = omega (arith, size);
        candidate = subst (λ (x : ℕ). Candidate (Terminal g) x cs) (sym size) c.candidate;
        two = c.two;
        earlier = earlier;
      }) e (v ∙ ap (λ (x : ℕ). number g x cs) (sym size)) w
        where
          size : length cs ≡ n
          size = c.candidate.arranged.size

          ok : Refuses m → ⊥
          ok x = two_not m e x

          earlier : (ds : List Cell) → 1 ≤ length ds → Candidate (Terminal g) (length ds) ds
              → Earlier ds cs → TwoTrees g 0 (sentence ds) → ⊥
          earlier ds a d b x = by (dec_lt (length ds) n)
            where
              by : Dec (length ds < n) → ⊥
              by (yes h) =
                  let y = report_of t ok (length ds) ds a (omega arith) d x in
                  (t.rest ok y.0 y.1).1 (record {
                    reports = omega (arith, y.2, a);
                    sooner =
                        inr (inl (omega (arith, y.2, z, h)));
                  })
              by (no h) =
                  let f : length ds ≡ n =
                  ⊎_elim (λ q. absurd (omega (arith, size))) (λ q. q.0 ∙ size) b in
                  let d' : Candidate (Terminal g) n ds =
                  subst (λ (q : ℕ). Candidate (Terminal g) q ds) f d in
                  let y = report_of t ok n ds l u d' x in
                  (t.rest ok y.0 y.1).1 (record {
                    reports = omega (arith, y.2, l);
                    sooner = inr
                        (inr (
                          y.2 ∙ sym z,
                          omega (
                            arith,
                            y.3,
                            v,
                            number_before g small n ds cs
                                d' c.candidate b,
                          ),
                        ));
                  })

-- whatever their order: reports of all shares of the lengths 1 to k, each merged with what the
-- others before it came to
pub merged_sweep : (g : Rules) → ((x : ℕ) → Terminal g x → x < 64) → (k : ℕ) (p : ℕ → ℕ)
    → ((n : ℕ) → 1 ≤ p n) → (a : ShareResult) (rs : List ShareResult) {m : ShareResult}
    → ((n i : ℕ) → 1 ≤ n → n ≤ k → i < p n
    → (r : ShareResult) × Memᴰ r (a ∷ rs) × Answered g n (p n) i r)
    → ((r : ShareResult) → Memᴰ r (a ∷ rs)
    → (n : ℕ) × (i : ℕ) × (1 ≤ n) × (n ≤ k) × (i < p n) × Answered g n (p n) i r)
    → MergedAll a rs m → Sweeps g k m
merged_sweep g small k p pos a rs {m} each only q =
    top_sweep g small k p pos each only (top_over to of (top_all rs start q))
  where
    start : Top (λ r. r ≡ a) a
    start = record {
      one = refl;
      rest = λ n r e. (
        λ x. n (subst (λ (z : ShareResult). Refuses z) e x),
        λ x. leads_not
            (subst (λ (z : ShareResult). Ahead z a) e x),
      );
    }

    to : (r : ShareResult) → (r ≡ a) ⊎ Memᴰ r rs → Memᴰ r (a ∷ rs)
    to r (inl e) = Memᴰ.head e
    to r (inr h) = Memᴰ.tail h

    of : (r : ShareResult) → Memᴰ r (a ∷ rs) → (r ≡ a) ⊎ Memᴰ r rs
    of r h = Memᴰ.cases_cons h
