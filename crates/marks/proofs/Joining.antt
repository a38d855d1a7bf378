-- The marks of a span, token after token.
use borrow.Author.Count.{below_more}
use mathlib.Core.Path.{◌≡◌, refl, sym, ap, ◌∙◌, subst, subst₂, subst₃}
use lib.ListN.{get_or}
use mathlib.Core.Bool.{Bool, true}
use mathlib.Core.Logic.{◌↔◌}
use Prim.Native.Nat.{ℕ, ◌+◌, ◌-◌, ◌≤◌, ◌<◌}
use native.Mathlib.Omega.{arith}
use native.Mathlib.Decide.{dec_lt}
use Rattle.sets.specs.Says.{Says}
use Rattle.sets.proofs.Says.{holds, says_iff, true_not_false}
use Rattle.grammar.specs.declared.Token.{Token}
use Rattle.grammar.specs.declared.Column.{Column}
use Rattle.grammar.specs.declared.UnaryMark.{UnaryMark}
use Rattle.grammar.specs.declared.BinaryMark.{BinaryMark}
use Rattle.grammar.specs.Layout.{Keeps, Pairs}
use Rattle.grammar.specs.Trees.{Covers}
use Rattle.marks.specs.declared.SpanMarks.{SpanMarks}
use Rattle.marks.specs.declared.Draft.{Draft}
use Rattle.marks.specs.Drafts.{half}
use Rattle.marks.specs.Half.{Half, token_at, MayKeep, MayPair}
use Rattle.marks.specs.Later.{OffsideBy, OffalignBy}
use Rattle.marks.proofs.DraftLaws.{drafted_at}
use Rattle.marks.specs.Marked.{Included, IncludedIf, Joined, opened, Advanced, alone, Pairing}
use Rattle.marks.specs.Marked.{Carried, Growing, Marked}
use Rattle.marks.proofs.Columns.{least_first, least_more, least_open, offside_by}
use Rattle.marks.proofs.Columns.{offalign_by}
use Rattle.marks.proofs.Pairings.{pairing_none, pairing_more, flagged, unary_marked}
use Rattle.marks.proofs.Pairings.{binary_marked}
use Rattle.sets.specs.Insertion.{insert}
use Rattle.grammar.specs.Sentences.{no_token}

-- ---- one token

-- all of it stands on one line
keep_one : (h : Half) (s : ℕ) → MayKeep UnaryMark.Single h s 1
keep_one h s = record {
  keeps = λ i l k. ap (λ (x : ℕ). (token_at h.word x).line.0)
      (let e : s + i ≡ s = omega arith in e);
}

pub carried_first : (h : Half) (s t : ℕ) (c : Column) → t ≡ (token_at h.word s).terminal
    → c ≡ (token_at h.word s).column → Carried h s 1 (alone t c)
carried_first h s t c b d = record {
  first = d;
  least = least_first h s;
  single = holds (keep_one h s);
  align = pairing_none _ h s 1 (omega arith);
  indent = pairing_none _ h s 1 (omega arith);
  terminal = b;
}

-- ---- one token more

-- what the token at s + l adds to the first l
abbrev pub NextJoined : Half → ℕ → ℕ → SpanMarks → SpanMarks → Type 0
NextJoined h s l k r = Advanced k l (s + l) h.known (token_at h.word s)
    (token_at h.word (s + l - 1)) (token_at h.word (s + l)) r

-- a known token is asked for its line
line_more : (h : Half) (s l : ℕ) (b c : Bool) → s + l < h.known
    → Says b (MayKeep UnaryMark.Single h s l)
    → Says c ((b ≡ true) × Keeps UnaryMark.Single (token_at h.word s)
    (token_at h.word (s + l))) → Says c (MayKeep UnaryMark.Single h s (l + 1))
line_more h s l b c known p q =
    says_iff (λ t. record { keeps = below_more _ _ (p.is t.0).keeps (λ k. t.1) })
    (λ t. (
      (flagged p).1 (record { keeps = λ i x. t.keeps i (omega arith) }),
      t.keeps l
          (omega arith) known,
    )) q

-- an open one is not
line_open : (h : Half) (s l : ℕ) (b : Bool) → h.known ≤ s + l
    → Says b (MayKeep UnaryMark.Single h s l) → Says b (MayKeep UnaryMark.Single h s (l + 1))
line_open h s l b known p =
    says_iff (λ t. record {
      keeps = below_more _ _ t.keeps
          (λ k. absurd (omega (arith, k, known)));
    })
    (λ t. record { keeps = λ i x. t.keeps i (omega arith) }) p

pair_more : (m : BinaryMark) (h : Half) (s l set r : ℕ) → 0 < l → s + l < h.known
    → IncludedIf set l (Pairs m (token_at h.word s) (token_at h.word (s + l - 1))
    (token_at h.word (s + l))) r → Pairing m h s l set → Pairing m h s (l + 1) r
pair_more m h s l set r pos known g p =
    pairing_more m h s l set r g.flag pos
    (says_iff (λ f. record { pairs = λ x y k. f })
    (λ t. t.pairs (omega arith) (omega arith) known) g.says) g.included p

pair_open : (m : BinaryMark) (h : Half) (s l set : ℕ) → 0 < l → h.known ≤ s + l
    → Pairing m h s l set → Pairing m h s (l + 1) (insert set l)
pair_open m h s l set pos known p =
    pairing_more m h s l set (insert set l) true pos (holds free) all p
  where
    free : MayPair m h s l 1
    free = record { pairs = λ x y k. absurd (omega (arith, k, known)) }

    all : Included set l true (insert set l)
    all = record { is = λ y. refl; isnt = λ n. absurd (true_not_false n) }

known_more : (h : Half) (s l : ℕ) (k r : SpanMarks) → 0 < l → s + l < h.known → Carried h s l k
    → Joined k l (token_at h.word s) (token_at h.word (s + l - 1)) (token_at h.word (s + l)) r
    → Carried h s (l + 1) r
known_more h s l k r pos known p j = record {
  first = j.first ∙ p.first;
  least = least_more h s l k.least r.least known p.least j.least;
  single = line_more h s l _ _ known p.single j.single;
  align = pair_more _ h s l _ _ pos known j.align p.align;
  indent = pair_more _ h s l _ _ pos known j.indent p.indent;
  terminal = j.terminal ∙ p.terminal;
}

open_more : (h : Half) (s l : ℕ) (k : SpanMarks) → 0 < l → h.known ≤ s + l → Carried h s l k
    → Carried h s (l + 1) (opened k l)
open_more h s l k pos known p = record {
  first = p.first;
  least = least_open h s l k.least known p.least;
  single = line_open h s l _ known p.single;
  align = pair_open _ h s l _ pos known p.align;
  indent = pair_open _ h s l _ pos known p.indent;
  terminal = p.terminal;
}

pub carried_more : (h : Half) (s l : ℕ) (k r : SpanMarks) → 0 < l → Carried h s l k
    → NextJoined h s l k r → Carried h s (l + 1) r
carried_more h s l k r pos p j = go (dec_lt (s + l) h.known)
  where
    go : Dec (s + l < h.known) → Carried h s (l + 1) r
    go (yes z) = known_more h s l k r pos z p (j.counts z)
    go (no z) = let known : h.known ≤ s + l = omega (arith, z) in
        subst (Carried h s (l + 1)) (sym (j.open_one known)) (open_more h s l k pos known p)

-- three tokens of the word are asked
pub grown : {k r : SpanMarks} {l at known : ℕ} {a z t : Token} → Advanced k l at known a z t r
    → Growing k l at known a z t r
grown {k} {r} {l} {at} {known} {a} {z} {t} j = record {
  advanced = j;
  carried = λ h s pos e f x y v p. carried_more h s l k r pos p
      (subst₃ (λ (b c d : Token). Advanced k l (s + l) h.known b c d r) (sym x) (sym y) (sym v)
      (subst₂ (λ (b c : ℕ). Advanced k l b c a z t r) (sym e) (sym f) j));
}

-- three tokens of a draft are
pub next_carried : {N : ℕ} (d : Draft N) (s l : ℕ) (k r : SpanMarks) → 0 < l → s + l < d.count
    → Growing k l (s + l) d.known (get_or d.tokens s no_token)
    (get_or d.tokens (s + l - 1) no_token) (get_or d.tokens (s + l) no_token) r
    → Carried (half d) s l k → Carried (half d) s (l + 1) r
next_carried d s l k r pos h j =
    j.carried (half d) s pos refl refl (drafted_at d s (omega arith))
    (drafted_at d (s + l - 1) (omega arith)) (drafted_at d (s + l) (omega arith))

-- ---- the whole span

pub carried_all : (h : Half) (s len : ℕ) (k : SpanMarks) → Carried h s len k → Marked h s len k
carried_all h s len k p = record {
  least = λ pos. p.least;
  atom = λ e a b. (
    λ x. record { terminal = subst (Covers a b) p.terminal x },
    λ x. subst
        (Covers a b) (sym p.terminal) x.terminal,
  );
  unary = unary_marked h s len k
      (subst (λ (c : Column). OffsideBy c k.least ↔ MayKeep UnaryMark.Offside h s len)
      (sym p.first) (offside_by h s len k.least p.least))
      (subst (λ (c : Column). OffalignBy c k.least ↔ MayKeep UnaryMark.Offalign h s len)
      (sym p.first) (offalign_by h s len k.least p.least)) p.single;
  binary = binary_marked h s len k p.align p.indent;
}

pub no_tokens : (h : Half) (s len t : ℕ) (c : Column) → len ≡ 0 → Marked h s len (alone t c)
no_tokens h s len t c e = record {
  least = λ pos. absurd (omega arith);
  atom = λ f. absurd (omega arith);
  unary = unary_marked h s len (alone t c) (λ x. keep_none _, λ x. tt) (λ x. keep_none _, λ x. tt)
      (holds (keep_none _));
  binary = binary_marked h s len (alone t c) (pairing_none _ h s len (omega arith))
      (pairing_none _ h s len (omega arith));
}
  where
    keep_none : (m : UnaryMark) → MayKeep m h s len
    keep_none m = record { keeps = λ i l. absurd (omega arith) }
