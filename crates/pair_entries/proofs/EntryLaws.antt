-- Entries, as the loops make them.
use mathlib.Core.Path.{◌≡◌, refl, sym, ap, ◌∙◌, subst}
use mathlib.Core.Logic.{inl, inr, ⊎_elim}
use mathlib.Core.Bool.{Bool, false}
use mathlib.Core.List.{List}
use Prim.Native.Nat.{ℕ, ◌+◌, ◌*◌, ◌/◌, ◌%◌, ◌≤◌, ◌<◌}
use native.Mathlib.Omega.{arith}
use native.Mathlib.Numerals.{lt_of_le_of_ne}
use native.Mathlib.Decide.{dec_lt}
use lib.ListN.{length, get_or, set, length-set}
use lib.Seq.{get_or-set_same, get_or-set_other}
use Rattle.sets.specs.Sets.{In}
use Rattle.sets.specs.Insertion.{insert}
use Rattle.sets.proofs.Sets.{in_zero, insert_same, insert_keeps, insert_only}
use Rattle.pairs.specs.Settings.{Corner, start₁, cut₁, start₂, cut₂, at}
use Rattle.pair_offsets.specs.declared.Frame.{Frame}
use Rattle.pair_offsets.specs.Frames.{rank_of}
use Rattle.pair_offsets.specs.Evens.{EvenSix}
use Rattle.pair_offsets.specs.Lists.{Listing, ListsEvens}
use Rattle.pair_offsets.proofs.ListLaws.{lists_alike}
use Rattle.pair_steps.specs.Ranks.{Ranked}
use Rattle.pair_steps.specs.Suiting.{Placed, Suits}
use Rattle.pair_frames.specs.Numbering.{frame_at}
use Rattle.pair_entries.specs.Entries.{KindsOf, code_at, kinds_at, from_at, end_at, EntryAt}
use Rattle.pair_entries.specs.Entries.{Useful, EntriesOf}
use Rattle.pair_entries.specs.Entries.{SameTable}
use Rattle.pair_entries.specs.declared.Stage.{Stage}
use Rattle.pair_entries.specs.Entering.{KindAdded, KindsTo, KindsIf, NoneUseful, EntryPut}
use Rattle.pair_entries.specs.Entering.{Entered, StartsAdded, Prepared}

-- 1. numbers of children

pub kind_added : (f : Frame) (k s : ℕ) → Suits f (k / 4) (k % 4) → KindAdded f k s (insert s k)
kind_added f k s h =
    record {
      keeps = λ n i. insert_keeps s k i;
      adds = λ h. insert_same s k;
      only = λ n i. ⊎_elim (λ j. inl j) (λ e. inr (e, h)) (insert_only s k n i);
    }

pub kind_left : (f : Frame) (k s : ℕ) → (Suits f (k / 4) (k % 4) → ⊥) → KindAdded f k s s
kind_left f k s h = record { keeps = λ n i. i; adds = λ q. absurd (h q); only = λ n i. inl i }

pub kinds_none : (f : Frame) → KindsTo f 0 0
kinds_none f = record { has = λ n h. absurd (omega arith); only = λ n i. absurd (in_zero n i) }

pub kinds_more : {f : Frame} {k s r : ℕ} → KindsTo f k s → KindAdded f k s r → KindsTo f (k + 1) r
kinds_more {f} {k} {s} {r} t a =
    record {
      has = λ n h q. by n q (dec_lt n k) h;
      only = λ n i. ⊎_elim (t.only n) (of n) (a.only n i);
    }
  where
    by : (n : ℕ) → Suits f (n / 4) (n % 4) → Dec (n < k) → n < k + 1 → In r n
    by n q (yes h) l = a.keeps n (t.has n h q)
    by n q (no h) l =
        let e : n ≡ k = omega arith in
        subst (In r) (sym e) (a.adds (subst (λ (m : ℕ). Suits f (m / 4) (m % 4)) e q))

    of : (n : ℕ) → (n ≡ k) × Suits f (k / 4) (k % 4) → Suits f (n / 4) (n % 4)
    of n h = subst (λ (m : ℕ). Suits f (m / 4) (m % 4)) (sym h.0) h.1

pub kinds_all : {f : Frame} {s : ℕ} → KindsTo f 16 s → KindsOf f s
kinds_all {f} {s} t =
    record {
      has = λ kx ky h k q. t.has (4 * kx + ky) (omega arith) (to kx ky k q);
      only = λ kx ky h k i. from kx ky k (t.only (4 * kx + ky) i);
    }
  where
    to : (kx ky : ℕ) → ky < 4 → Suits f kx ky → Suits f ((4 * kx + ky) / 4) ((4 * kx + ky) % 4)
    to kx ky h q =
        let a : kx ≡ (4 * kx + ky) / 4 = omega arith in
        let b : ky ≡ (4 * kx + ky) % 4 = omega arith in
        subst (λ (m : ℕ). Suits f m ((4 * kx + ky) % 4)) a (subst (Suits f kx) b q)

    from : (kx ky : ℕ) → ky < 4 → Suits f ((4 * kx + ky) / 4) ((4 * kx + ky) % 4) → Suits f kx ky
    from kx ky h q =
        let a : (4 * kx + ky) / 4 ≡ kx = omega arith in
        let b : (4 * kx + ky) % 4 ≡ ky = omega arith in
        subst (Suits f kx) b (subst (λ (m : ℕ). Suits f m ((4 * kx + ky) % 4)) a q)

pub kinds_if : {c s : ℕ} → KindsOf (frame_at c) s → KindsIf c s
kinds_if {c} {s} k =
    record {
      absent = λ e u.
          in_zero (4 * u.kx + u.ky)
          (subst (λ (n : ℕ). In n (4 * u.kx + u.ky)) e
          (k.has u.kx u.ky u.low₁ u.low₂ u.suits));
      present = λ e. k;
    }

pub kinds_unranked : {c : ℕ} → (Ranked (rank_of (frame_at c)) → ⊥) → KindsIf c 0
kinds_unranked n = record { absent = λ e u. n u.ranked; present = λ e. absurd (e refl) }

pub none_yet : (a : ℕ) → NoneUseful a (a + 0) false
none_yet a = record { absent = λ e c h k. absurd (omega arith) }

pub none_more : {a : ℕ} (s : ℕ) {set : ℕ} → NoneUseful a (a + s) false → KindsIf (a + s) set
    → set ≡ 0 → NoneUseful a (a + (s + 1)) false
none_more {a} s n k z = record { absent = λ e c h l u. by c h l u (dec_lt c (a + s)) }
  where
    by : (c : ℕ) → a ≤ c → c < a + (s + 1) → Useful c → Dec (c < a + s) → ⊥
    by c h l u (yes q) = n.absent refl c h q u
    by c h l u (no q) = let e : c ≡ a + s = omega arith in k.absent z (subst Useful e u)

-- 2. an entry

module _ (t : List ℕ) (n c s from end : ℕ) (h : 73728 ≤ length t) (k : n < 256) where
  abbrev put₁ : List ℕ
  put₁ = set t (65536 + 4 * n) c

  abbrev put₂ : List ℕ
  put₂ = set put₁ (65537 + 4 * n) s

  abbrev put₃ : List ℕ
  put₃ = set put₂ (65538 + 4 * n) from

  abbrev put₄ : List ℕ
  put₄ = set put₃ (65539 + 4 * n) end

  size₁ : length put₁ ≡ length t
  size₁ = length-set t (65536 + 4 * n) c

  size₂ : length put₂ ≡ length t
  size₂ = length-set put₁ (65537 + 4 * n) s ∙ size₁

  size₃ : length put₃ ≡ length t
  size₃ = length-set put₂ (65538 + 4 * n) from ∙ size₂

  other : (i : ℕ) → (i ≡ 65536 + 4 * n → ⊥) → (i ≡ 65537 + 4 * n → ⊥) → (i ≡ 65538 + 4 * n → ⊥)
      → (i ≡ 65539 + 4 * n → ⊥) → get_or put₄ i 0 ≡ get_or t i 0
  other i a b d e =
      get_or-set_other put₃ (65539 + 4 * n) i end 0 e
      ∙ (get_or-set_other put₂ (65538 + 4 * n) i from 0 d
      ∙ (get_or-set_other put₁ (65537 + 4 * n) i s 0 b ∙ get_or-set_other t (65536 + 4 * n) i c 0
      a))

  pub entry_put : EntryPut t put₄ n c s from end
  entry_put =
      record {
        size = length-set put₃ (65539 + 4 * n) end ∙ size₃;
        before = λ i l. other i (λ e. omega arith) (λ e. omega arith) (λ e. omega arith)
            (λ e. omega arith);
        behind = λ i l. other i (λ e. omega arith) (λ e. omega arith) (λ e. omega arith)
            (λ e. omega arith);
        code =
            get_or-set_other put₃ (65539 + 4 * n) (65536 + 4 * n) end 0 (λ e. omega arith)
            ∙ (get_or-set_other put₂ (65538 + 4 * n) (65536 + 4 * n) from 0 (λ e. omega arith)
            ∙ (get_or-set_other put₁ (65537 + 4 * n) (65536 + 4 * n) s 0 (λ e. omega arith)
            ∙ get_or-set_same t (65536 + 4 * n) c 0 (omega arith)));
        kinds =
            get_or-set_other put₃ (65539 + 4 * n) (65537 + 4 * n) end 0 (λ e. omega arith)
            ∙ (get_or-set_other put₂ (65538 + 4 * n) (65537 + 4 * n) from 0 (λ e. omega arith)
            ∙ get_or-set_same put₁ (65537 + 4 * n) s 0 (omega (arith, size₁)));
        begins =
            get_or-set_other put₃ (65539 + 4 * n) (65538 + 4 * n) end 0 (λ e. omega arith)
            ∙ get_or-set_same put₂ (65538 + 4 * n) from 0 (omega (arith, size₂));
        ends = get_or-set_same put₃ (65539 + 4 * n) end 0 (omega (arith, size₃));
      }

-- 3. entries where only other words are changed

pub lists_same : {f : Frame} {t u : List ℕ} {from end : ℕ}
    → ((i : ℕ) → from ≤ i → i < end → get_or u i 0 ≡ get_or t i 0) → ListsEvens f t from end
    → ListsEvens f u from end
lists_same {f} {t} {u} {from} {end} e l =
    record {
      low = l.low;
      all = λ s h v. let p = l.all s h v in (p.0, p.1, p.2, e p.0 p.1 p.2 ∙ p.3);
      only = λ i h k. subst (EvenSix f) (sym (e i h k)) (l.only i h k);
    }

pub entry_same : {t u : List ℕ} {top high k : ℕ}
    → ((i : ℕ) → i < 65540 + 4 * k → 65536 ≤ i → get_or u i 0 ≡ get_or t i 0)
    → ((i : ℕ) → 66560 ≤ i → i < top → get_or u i 0 ≡ get_or t i 0) → top ≤ high → EntryAt t top k
    → EntryAt u high k
entry_same {t} {u} {top} {high} {k} e l m h =
    let e₁ : code_at u k ≡ code_at t k = e (65536 + 4 * k) (omega arith) (omega arith) in
    let e₂ : kinds_at u k ≡ kinds_at t k = e (65537 + 4 * k) (omega arith) (omega arith) in
    let e₃ : from_at u k ≡ from_at t k = e (65538 + 4 * k) (omega arith) (omega arith) in
    let e₄ : end_at u k ≡ end_at t k = e (65539 + 4 * k) (omega arith) (omega arith) in
    let ls = lists_same (λ i p q. l i (omega (arith, h.low)) (omega (arith, h.high)))
    h.lists in
    record {
      kinds = rw (e₁, e₂) h.kinds;
      lists = rw (e₁, e₃, e₄) ls;
      low = omega (arith, h.low);
      high = omega (arith, h.high);
    }

entries_same : {t u : List ℕ} {n top high a b : ℕ} → n ≤ 256
    → ((i : ℕ) → i < 65536 + 4 * n → 65536 ≤ i → get_or u i 0 ≡ get_or t i 0)
    → ((i : ℕ) → 66560 ≤ i → i < top → get_or u i 0 ≡ get_or t i 0) → top ≤ high
    → EntriesOf t n top a b
    → EntriesOf u n high a b
entries_same {t} {u} {n} m e l o h =
    record {
      each = λ k p. entry_same (λ i q. e i (omega arith)) l o (h.each k p);
      all = λ c p q s.
          let z = h.all c p q s in
          let y = z.1 in
          (z.0, z.1, e (65536 + 4 * z.0) (omega arith) (omega arith) ∙ z.2);
    }

-- 4. frames entered one after the other

pub entered_zero : (t : List ℕ) (n a end : ℕ) → Entered t t n n a (a + 0) end
entered_zero t n a end =
    record {
      size = refl;
      before = λ i h. refl;
      behind = λ i h. refl;
      high = omega arith;
      entries = λ c top h k e. record { each = e.each; all = λ d p q u. e.all d p (omega arith) u };
    }

pub entered_none : (t : List ℕ) (n c end : ℕ) → (Useful c → ⊥) → Entered t t n n c (c + 1) end
entered_none t n c end h =
    record {
      size = refl;
      before = λ i h. refl;
      behind = λ i h. refl;
      high = omega arith;
      entries = λ a top l k e. record { each = e.each; all = λ d p q u. e.all d p (less d q u) u };
    }
  where
    less : (d : ℕ) → d < c + 1 → Useful d → d < c
    less d q u = by (dec_lt d c)
      where
        by : Dec (d < c) → d < c
        by (yes p) = p
        by (no p) = let e : d ≡ c = omega arith in absurd (h (subst Useful e u))

pub entered_one : {t u : List ℕ} {n c s from end : ℕ} → n < 256 → EntryPut t u n c s from end
    → KindsOf (frame_at c) s → ListsEvens (frame_at c) t from end → 66560 ≤ from
    → Entered t u n (n + 1) c (c + 1) end
entered_one {t} {u} {n} {c} {s} {from} {end} h p k l m =
    record {
      size = p.size;
      before = λ i q. p.before i (omega arith);
      behind = λ i q. p.behind i (omega arith);
      high = omega arith;
      entries = λ a top q o e. record {
        each = λ j r. one top o a e j r (dec_lt j n);
        all = λ d r v w. has top a e d r v w (dec_lt d c);
      };
    }
  where
    new : (top : ℕ) → end ≤ top → EntryAt u top n
    new top o =
        let e₁ = p.code in
        let e₂ = p.kinds in
        let e₃ = p.begins in
        let e₄ = p.ends in
        let ls = lists_same {u = u} (λ i v w. p.behind i (omega arith)) l in
        record {
          kinds = rw (e₁, e₂) k;
          lists = rw (e₁, e₃, e₄) ls;
          low = omega arith;
          high = omega arith;
        }

    one : (top : ℕ) → end ≤ top → (a : ℕ) → EntriesOf t n top a c → (j : ℕ) → j < n + 1
        → Dec (j < n) → EntryAt u top j
    one top o a e j r (yes q) =
        entry_same (λ i v w. p.before i (omega arith)) (λ i v w. p.behind i (omega arith))
        (omega arith) (e.each j q)
    one top o a e j r (no q) = let z : j ≡ n = omega arith in
        subst (EntryAt u top) (sym z) (new top o)

    has : (top a : ℕ) → EntriesOf t n top a c → (d : ℕ) → a ≤ d → d < c + 1 → Useful d → Dec (d < c)
        → (j : ℕ) × (j < n + 1) × (code_at u j ≡ d)
    has top a e d r v w (yes q) =
        let z = e.all d r q w in
        let y = z.1 in
        (z.0, omega arith, p.before (65536 + 4 * z.0) (omega arith) ∙ z.2)
    has top a e d r v w (no q) = let z : d ≡ c = omega arith in (n, omega arith, p.code ∙ sym z)

pub entered_then : {t u v : List ℕ} {n m r a b c end : ℕ} → a ≤ b → Entered t u n m a b end
    → Entered u v m r b c end → Entered t v n r a c end
entered_then o p q =
    record {
      size = q.size ∙ p.size;
      before = λ i h. q.before i h ∙ p.before i h;
      behind = λ i h. q.behind i h ∙ p.behind i h;
      high = omega (arith, p.high, q.high);
      entries = λ d top h k e. q.entries d top (omega arith) k (p.entries d top h k e);
    }

pub entered_more : {t u v : List ℕ} {n m r a : ℕ} (s : ℕ) {end : ℕ} → Entered t u n m a (a + s) end
    → Entered u v m r (a + s) (a + s + 1) end → Entered t v n r a (a + (s + 1)) end
entered_more {t} {v = v} {n} {r = r} {a} s {end} p q =
    let e : a + s + 1 ≡ a + (s + 1) = omega arith in
    subst (λ (b : ℕ). Entered t v n r a b end) e (entered_then (omega arith) p q)

-- 5. frames with the same four starts

-- the starts of frames with numbers from 36 p on and below 36 p + 36
starts_same : (p c : ℕ) → 36 * p ≤ c → c < 36 * p + 36 → (d : Corner)
    → rank_of (frame_at (36 * p)) (at d) ≡ rank_of (frame_at c) (at d)
starts_same p c h k start₁ = let e : 36 * p / 7776 ≡ c / 7776 = omega arith in
    ap (λ (n : ℕ). n % 6) e
starts_same p c h k cut₁ = let e : 36 * p / 1296 ≡ c / 1296 = omega arith in ap (λ (n : ℕ). n % 6) e
starts_same p c h k start₂ = let e : 36 * p / 216 ≡ c / 216 = omega arith in ap (λ (n : ℕ). n % 6) e
starts_same p c h k cut₂ = let e : 36 * p / 36 ≡ c / 36 = omega arith in ap (λ (n : ℕ). n % 6) e

pub list_of : {t : List ℕ} (p c : ℕ) {from end : ℕ} → 36 * p ≤ c → c < 36 * p + 36
    → ListsEvens (frame_at (36 * p)) t from end → ListsEvens (frame_at c) t from end
list_of p c h k l = lists_alike (starts_same p c h k) l

-- a node is not cut before it starts
not_before : {f : Frame} {kids i m j : ℕ} → Placed f kids i m j → m < i → ⊥
not_before {kids = kids} q h = by (dec_lt kids 2)
  where
    by : Dec (kids < 2) → ⊥
    by (yes l) = omega (arith, q.one l)
    by (no l) = omega (arith, (q.two (omega arith)).0)

pub none_cut₁ : (p : ℕ) → (frame_at (36 * p)).cut < (frame_at (36 * p)).start
    → NoneUseful (36 * p) (36 * p + 36) false
none_cut₁ p l =
    record {
      absent = λ e c h k u.
          not_before u.suits.placed₁
          (rw (← starts_same p c h k cut₁, ← starts_same p c h k start₁) l);
    }

pub none_cut₂ : (p : ℕ) → (frame_at (36 * p)).split < (frame_at (36 * p)).begin
    → NoneUseful (36 * p) (36 * p + 36) false
none_cut₂ p l =
    record {
      absent = λ e c h k u.
          not_before u.suits.placed₂
          (rw (← starts_same p c h k cut₂, ← starts_same p c h k start₂) l);
    }

-- the next four starts
module _ {t : List ℕ} {s : Stage} where
  pub starts_none : {r : Bool} → NoneUseful (36 * s.starts) (36 * s.starts + 36) r → r ≡ false
      → StartsAdded t t s (record { starts = s.starts + 1; entries = s.entries; free = s.free })
  starts_none n f =
      record {
        same = record { size = refl; table = λ i h. refl; past = λ i h. refl };
        next = refl;
        few = omega arith;
        low = omega arith;
        high = omega arith;
        entries = λ c h e. record { each = e.each; all = λ d p q u. e.all d p (less d q u) u };
      }
    where
      less : (d : ℕ) → d < 36 * (s.starts + 1) → Useful d → d < 36 * s.starts
      less d q u = by (dec_lt d (36 * s.starts))
        where
          by : Dec (d < 36 * s.starts) → d < 36 * s.starts
          by (yes p) = p
          by (no p) = absurd (n.absent f d (omega arith) (omega arith) u)

  pub starts_one : {u v : List ℕ} {r end : ℕ} → s.entries ≤ 220 → 66560 ≤ s.free → s.free ≤ 69632
      → Listing (frame_at (36 * s.starts)) t u s.free 4096 end
      → Entered u v s.entries r (36 * s.starts) (36 * s.starts + 36) end
      → StartsAdded t v s (record { starts = s.starts + 1; entries = r; free = end })
  starts_one {u} {v} {r} {end} h k m l p =
      record {
        same =
            record {
              size = p.size ∙ l.size;
              table = λ i q. p.before i q ∙ l.kept i (omega arith);
              past = λ i q. p.behind i (omega arith) ∙ l.beyond i (omega arith);
            };
        next = refl;
        few = omega (arith, p.high);
        low = l.low;
        high = l.high;
        entries = λ c q e.
            subst (EntriesOf v r end c) last
            (p.entries c end q (omega arith)
            (entries_same {u = u} (omega arith) (λ i a b. l.kept i (omega arith))
            (λ i a b. l.kept i b) l.low e));
      }
    where
      last : 36 * s.starts + 36 ≡ 36 * (s.starts + 1)
      last = omega arith

-- 6. the frames from some four starts on

pub record Preparing (old new : List ℕ) (p : ℕ) (s : Stage) : Type 0 where
  pub same : SameTable old new
  pub least : p ≤ s.starts
  pub most : s.starts < 1296
  pub few : s.entries ≤ 220
  pub low : 66560 ≤ s.free
  pub high : s.free ≤ 69632
  pub entries : EntriesOf new s.entries s.free (36 * p) (36 * s.starts)

pub preparing : (t : List ℕ) (p : ℕ) → p < 1296
    → Preparing t t p (record { starts = p; entries = 0; free = 66560 })
preparing t p h =
    record {
      same = record { size = refl; table = λ i k. refl; past = λ i k. refl };
      least = omega arith;
      most = h;
      few = omega arith;
      low = omega arith;
      high = omega arith;
      entries =
          record { each = λ k l. absurd (omega arith); all = λ c k l u. absurd (omega arith) };
    }

same_then : {t u v : List ℕ} → SameTable t u → SameTable u v → SameTable t v
same_then a b =
    record {
      size = b.size ∙ a.size;
      table = λ i h. b.table i h ∙ a.table i h;
      past = λ i h. b.past i h ∙ a.past i h;
    }

pub prepared : {t u v : List ℕ} {p : ℕ} {s r : Stage} → Preparing t u p s → StartsAdded u v s r
    → Prepared t v p r
prepared {p = p} {s} a b =
    let n = b.next in
    record {
      same = same_then a.same b.same;
      more = omega (arith, a.least);
      most = omega (arith, a.most);
      few = omega (arith, a.few, b.few);
      low = omega (arith, a.low, b.low);
      high = omega (arith, a.high, b.high);
      entries = b.entries (36 * p) (omega (arith, a.least)) a.entries;
    }

pub prepares : {t u : List ℕ} {p : ℕ} {r : Stage} → Prepared t u p r → (r.starts ≡ 1296 → ⊥)
    → r.entries ≤ 220 → r.free ≤ 69632 → Preparing t u p r
prepares a n h k =
    record {
      same = a.same;
      least = omega (arith, a.more);
      most = lt_of_le_of_ne a.most n;
      few = h;
      low = a.low;
      high = k;
      entries = a.entries;
    }
