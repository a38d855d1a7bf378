-- What follows by links of links, and the entries of a level.
use mathlib.Core.Path.{◌≡◌, refl, sym, ◌∙◌, subst}
use mathlib.Core.List.{List}
use mathlib.Core.Logic.{◌⊎◌, inl, inr, ⊎_elim, ◌↔◌}
use Prim.Native.Nat.{ℕ, zero, suc, ◌+◌, ◌<◌}
use native.Mathlib.Omega.{arith}
use native.Mathlib.Decide.{ℕ_discrete}
use lib.ListN.{length}
use Rattle.grammar.proofs.Lists.{every_at}
use Rattle.grammar.specs.declared.Clause.{Clause}
use Rattle.grammar.specs.declared.UnaryMark.{UnaryMark}
use Rattle.grammar.specs.declared.Grammar.{Grammar}
use Rattle.grammar.specs.Content.{rules_of, SmallClause, SmallRule, Formed}
use Rattle.tables.specs.Tables.{no_rule, rule}
use Rattle.cuts.specs.declared.Pair.{Pair}
use Rattle.cuts.specs.Cuts.{words_of_of}
use Rattle.cuts.specs.Closure.{Links, Follows, by_parts, by_link, Doubles, both_parts}
use Rattle.cuts.specs.Closure.{part_and_link, both_links, link_below, link_beside, ChainEntry, Just}
use Rattle.cuts.specs.Closure.{Never}
use Rattle.chains.specs.SpanLinks.{Over, LinkAt, span_links}
use Rattle.chains.specs.Reaching.{Has, Selves, LinkStep, Forks, fork_self, fork_both}
use Rattle.chains.specs.Reaching.{fork_beside, Branches, Through, LeadsTo, lead_one}
use Rattle.chains.specs.Reaching.{lead_more, Closes, Turned}
use Rattle.chains.specs.Chains.{HoldsAt, Level}

-- ---- links of links

pub closes_none : (ws : List ℕ) → length ws ≡ 64 → Closes ws 0 ws
closes_none ws h = record {
  size = h;
  keeps = λ A B x. x;
  leads = λ A B x. lead_one x;
  via = λ A C B
      h k x y. absurd (omega arith);
}

pub closes_more : {ws us vs : List ℕ} {k : ℕ} → k < 64 → Closes ws k us → Through k us 64 vs
    → Closes ws (k + 1) vs
closes_more {ws} {us} {vs} {k} b c t = record {
  size = t.joins.long ∙ c.size;
  keeps = λ A B x. t.joins.keeps A B (c.keeps A B x);
  leads = λ A B x. ⊎_elim (λ y. c.leads A B y)
      (λ y. lead_more (c.leads A k y.1) b (c.leads k B y.2)) (t.joins.only A B x);
  via = λ A C B h l x y. via A C B h l (t.joins.only A C x) (t.joins.only C B y)
      (ℕ_discrete C k);
}
  where
    via : (A C B : ℕ) → A < 64 → C < k + 1 → Has us A C ⊎ ((A < 64) × Has us A k × Has us k C)
        → Has us C B ⊎ ((C < 64) × Has us C k × Has us k B) → Dec (C ≡ k) → Has vs A B
    via A C B h l x y (yes z) = t.joins.all A B (
      h,
      ⊎_elim (λ p. subst (Has us A) z p) (λ p. p.1) x,
      ⊎_elim
          (λ p. subst (λ (q : ℕ). Has us q B) z p) (λ p. p.2) y,
    )
    via A C B h l (inl x) (inl y) (no z) = t.joins.keeps A B (c.via A C B h (omega arith) x y)
    via A C B h l (inl x) (inr y) (no z) =
        t.joins.all A B (h, c.via A C k h (omega arith) x y.1, y.2)
    via A C B h l (inr x) (inl y) (no z) =
        t.joins.all A B (h, x.1, c.via k C B b (omega arith) x.2 y)
    via A C B h l (inr x) (inr y) (no z) = t.joins.all A B (h, x.1, y.2)

follows_then : (k : Links) {B C A : ℕ} → Follows k (Just C) A → Follows k (Just B) C
    → Follows k (Just B) A
follows_then k {B} {A = A} (by_parts z) f = subst (Follows k (Just B)) (sym z) f
follows_then k (by_link i l D x g) f = by_link i l D x (follows_then k g f)

doubles_then : (k : Links) {B C A : ℕ} → Follows k (Just C) A → Follows k (Just B) C
    → Doubles k (Just B) Never C → Doubles k (Just B) Never A
doubles_then k {B} {A = A} (by_parts z) f d = subst (Doubles k (Just B) Never) (sym z) d
doubles_then k (by_link i l D x g) f d =
    link_below i l D x (follows_then k g f) (doubles_then k g f d)

module _ (g : Grammar) (formed : Formed g) (holds : UnaryMark → Type 0) (e : Pair) where
  abbrev links : Links
  links = span_links (rules_of g) holds e.one e.two

  abbrev Link : ℕ → ℕ → ℕ → ℕ → Type 0
  Link A i l C = LinkAt (rules_of g) holds e.one A i l C

  small_over : (c : Clause) (l C : ℕ) → SmallClause c → Over holds e.one c l C → C < 64
  small_over Clause.Empty l C s o = absurd o
  small_over (Clause.Atom a b) l C s o = absurd o
  small_over (Clause.Unary B m) zero C s o = subst (λ (x : ℕ). x < 64) (sym o.0) s
  small_over (Clause.Unary B m) (suc l) C s o = absurd o
  small_over (Clause.Binary B D m) zero C s o = subst (λ (x : ℕ). x < 64) (sym o.0) s.1
  small_over (Clause.Binary B D m) (suc zero) C s o = subst (λ (x : ℕ). x < 64) (sym o.0) s.0
  small_over (Clause.Binary B D m) (suc (suc l)) C s o = absurd o

  small : (A i l C : ℕ) → Link A i l C → (A < 64) × (C < 64)
  small A i l C x =
      let r = every_at SmallRule no_rule (rules_of g) formed.small i x.within in (
        subst (λ (y : ℕ). y < 64) x.left r.left,
        small_over (rule (rules_of g) i).clause l C
            r.clause x.over,
      )

  -- what follows from B is small if B is, and the other way round
  small_up : {A B : ℕ} → B < 64 → Follows links (Just B) A → A < 64
  small_up {A} h (by_parts z) = subst (λ (x : ℕ). x < 64) (sym z) h
  small_up {A} h (by_link i l C x f) = (small A i l C x).0

  small_down : {B A : ℕ} → A < 64 → Follows links (Just B) A → B < 64
  small_down h (by_parts z) = subst (λ (x : ℕ). x < 64) z h
  small_down {A = A} h (by_link i l C x f) = small_down (small A i l C x).1 f

  within : {A B : ℕ} {base : List ℕ}
      (x : LinkStep (rules_of g) holds e.one base (λ i l. i < g.count) A B) → x.over < 64
  within {A} x = (small A x.index x.side x.over x.link).1

  count : {A i l C : ℕ} → Link A i l C → i < g.count
  count x = omega (arith, x.within, formed.whole)

  -- the words have what follows
  abbrev Reached : List ℕ → Type 0
  Reached ws = (A B : ℕ) → A < 64 → Has ws A B ↔ Follows links (Just B) A

  pub reached : {base s t ws : List ℕ} → Selves 64 base
      → Branches (rules_of g) holds e base g.count s t → Closes s 64 ws → Reached ws
  reached {base} {s} {t} {ws} o b c A B h = (λ x. of h (c.leads A B x), λ f. to h f)
    where
      of : {A B : ℕ} → A < 64 → LeadsTo s A B → Follows links (Just B) A
      of {A} {B} h (lead_one x) = ⊎_elim by_parts
          (λ y. by_link y.index y.side y.over y.link
          (by_parts ((o.own y.over (within y) B).0 y.has))) ((b.one A B h).0 x)
      of h (lead_more x k y) = follows_then links (of h x) (of k y)

      to : {B A : ℕ} → A < 64 → Follows links (Just B) A → Has ws A B
      to {B} {A} h (by_parts z) = c.keeps A B ((b.one A B h).1 (inl z))
      to {B} {A} h (by_link i l C x f) =
          let k = (small A i l C x).1 in
          c.via A C B h k (c.keeps A C ((b.one A C h).1
          (inr (record {
            index = i;
            side = l;
            over = C;
            done = count x;
            link = x;
            has = (o.own C
                k C).1 refl;
          })))) (to k f)

  -- ---- the entries

  module _ {base s t : List ℕ} (r : Reached base)
      (b : Branches (rules_of g) holds e base g.count s t) where
    abbrev step : {A B i l C : ℕ} → Link A i l C → Follows links (Just B) C
        → LinkStep (rules_of g) holds e.one base (λ i l. i < g.count) A B
    step {A} {B} {i} {l} {C} x f = record {
      index = i;
      side = l;
      over = C;
      done = count x;
      link = x;
      has =
          (r C B (small A i l C x).1).1 f;
    }

    below : {A B : ℕ} (x : LinkStep (rules_of g) holds e.one base (λ i l. i < g.count) A B)
        → Follows links (Just B) x.over
    below {A} {B} x = (r x.over B (within x)).0 x.has

    one_is : Reached s
    one_is A B h = (
      λ x. ⊎_elim by_parts
          (λ y. by_link y.index y.side y.over y.link (below y)) ((b.one A B h).0 x),
      back,
    )
      where
        back : Follows links (Just B) A → Has s A B
        back (by_parts z) = (b.one A B h).1 (inl z)
        back (by_link i l C x f) = (b.one A B h).1 (inr (step x f))

    forked : {A B : ℕ} → Forks (rules_of g) holds e base (λ i l. i < g.count) A B
        → Follows links (Just B) A × Doubles links (Just B) Never A
    forked (fork_self z x) =
        (by_parts z, part_and_link x.index x.side x.over z x.link (below x))
    forked (fork_both x y n) = (
      by_link x.index x.side x.over x.link (below x),
      both_links x.index x.side
          x.over y.index y.side y.over x.link (below x) y.link (below y) n,
    )
    forked (fork_beside x d) = (
      by_link x.index x.side x.over x.link (below x),
      link_beside x.index x.side x.over x.link (below x) d,
    )

    abbrev Last : ℕ → ℕ → Type 0
    Last A B = (C : ℕ) × Has s A C × Has t C B

    two_of : {A B : ℕ} → A < 64 → Last A B → Doubles links (Just B) Never A
    two_of {A} {B} h (C, x, y) =
        let f = (one_is A C h).0 x in
        let d = forked ((b.two C B (small_down h f)).0 y) in
        doubles_then links f d.0 d.1

    here : {A B : ℕ} → A < 64 → Forks (rules_of g) holds e base (λ i l. i < g.count) A B → Last A B
    here {A} {B} h x = (A, (one_is A A h).1 (by_parts refl), (b.two A B h).1 x)

    two_to : {B A : ℕ} → A < 64 → Doubles links (Just B) Never A → Last A B
    two_to h (both_parts x) = absurd x
    two_to h (part_and_link i l C z x f) = here h (fork_self z (step x f))
    two_to h (both_links i l C j m D x f y k n) = here h (fork_both (step x f) (step y k) n)
    two_to {B} {A} h (link_below i l C x f d) =
        let k = (small A i l C x).1 in
        let q = two_to k d in
        (q.0, (one_is A q.0 h).1 (by_link i l C x ((one_is C q.0 k).0 q.1)), q.2)
    two_to h (link_beside i l C x f d) = here h (fork_beside (step x f) d)

    entries : {ups : List ℕ} → Turned s t 64 ups → (B : ℕ) → B < 64
        → ChainEntry links B (words_of_of ups 0 B)
    entries u B k = record {
      one = λ A. (
        λ x. let y = (u.one A B k).0 x in
            (one_is A B y.0).0 y.1,
        λ f. let h = small_up k f in
            (u.one A B k).1 (h, (one_is A B h).1 f),
      );
      two = λ A. (
        λ x. let y = (u.two A B k).0 x in
            two_of y.0 (y.1, y.2, y.3),
        λ d. let h = above d in let q = two_to h d in
            (u.two A B k).1 (h, q.0, q.1, q.2),
      );
    }
      where
        above : {A : ℕ} → Doubles links (Just B) Never A → A < 64
        above (both_parts x) = absurd x
        above {A} (part_and_link i l C z x f) = (small A i l C x).0
        above {A} (both_links i l C j m D x f y h n) = (small A i l C x).0
        above {A} (link_below i l C x f d) = (small A i l C x).0
        above {A} (link_beside i l C x f d) = (small A i l C x).0

pub level_done : (g : Grammar) → Formed g → (e : Pair) (l : ℕ) {first s s' t ws t' ups : List ℕ}
    → Selves 64 first → Branches (rules_of g) (HoldsAt l) e first g.count s t → Closes s 64 ws
    → Branches (rules_of g) (HoldsAt l) e ws g.count s' t' → Turned s' t' 64 ups
    → Level (rules_of g) e l ups
level_done g f e l o b c d u = record
    { size = u.size; entry = entries g f (HoldsAt l) e (reached g f (HoldsAt l) e o b c) d u }
