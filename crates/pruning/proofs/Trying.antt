-- What a try of one position tells.
use mathlib.Core.Path.{◌≡◌, sym, ◌∙◌, subst, subst₂}
use mathlib.Core.Bool.{Bool, true, false}
use mathlib.Core.List.{List}
use Prim.Native.Nat.{ℕ, ◌+◌, ◌-◌, ◌*◌, ◌≤◌, ◌<◌}
use native.Mathlib.Omega.{arith}
use lib.ListN.{length}
use Rattle.sets.specs.Says.{Says}
use Rattle.sets.specs.Sets.{In}
use Rattle.sets.proofs.Says.{true_not_false, says_iff}
use Rattle.grammar.specs.declared.Cell.{Cell}
use Rattle.grammar.specs.Layout.{Word}
use Rattle.grammar.specs.Trees.{Rules, TwoTrees}
use Rattle.grammar.specs.Candidates.{Candidate, sentence}
use Rattle.candidates.specs.Terminals.{Among}
use Rattle.grammar.proofs.SweepLaws.{sentence_length}
use Rattle.grammar.specs.SpanSheet.{pairs, pair_at, second_word}
use Rattle.marks.specs.declared.Draft.{Draft}
use Rattle.marks.specs.Drafts.{half, drafted}
use Rattle.spans.specs.Changes.{Past, WrotePair}
use Rattle.spans.proofs.ChangeLaws.{past_same, past_then, kept_past}
use Rattle.chart.specs.Sheets.{Exact, Ready, Settles, Charted}
use Rattle.chart.proofs.SheetLaws.{reads_second}
use Rattle.chart.proofs.OpenLaws.{open_none, open_less}
use Rattle.pruning.specs.Refuting.{terminal_at_of, Twinned, PositionsFilled, TerminalOpen}
use Rattle.pruning.specs.Refuting.{TerminalsFilled}
use Rattle.pruning.specs.Refuting.{PositionTried, TerminalsTwinned, PositionsSearched}
use Rattle.pruning.specs.Refuting.{AllPositionsSearched, TerminalTried, Done}
use Rattle.chart.specs.Leaves.{Leaf, Allows, LeafAt}
use Rattle.pruning.specs.Tables.{Tabled, LeavesPut}
use Rattle.pruning.proofs.TableLaws.{among_cells, laid_empty, laid_leaf, laid_free}
use Rattle.pruning.proofs.RefutingLaws.{refuted_hopeless, below_all}
use Rattle.pruning.proofs.WordLaws.{right_leaf, leaves_of, may_given, standing_ready}
use Rattle.pruning.proofs.WordLaws.{standing_on, standing_back, standing_poised}
use Rattle.pruning.proofs.WordLaws.{with_terminal_self}
use Rattle.pruning.proofs.WordLaws.{loose_kept, loose_ready, loose_fixed, loose_filled}
use Rattle.pruning.proofs.WordLaws.{loose_free, poised_loose, poised_standing}

module _ {g : Rules} {n i : ℕ} {cs : List Cell} where
  -- no fill
  pub tried_out : {hold : ℕ} {ws : List ℕ} → ((s : ℕ) → Twinned g s n hold (i + 1) (i + 1) cs)
      → PositionsFilled g n i cs ws → PositionTried true g n hold i cs ws ws
  tried_out {hold} {ws} r st = record {
    out = λ e. r;
    stays = λ e. st;
    on = λ e. absurd (true_not_false e);
    past =
        past_same (2 * pairs n) ws;
  }

  pub ready_draft : {ws : List ℕ} (d : Draft 7) → i < n → length cs ≡ n → drafted d ≡ sentence cs
      → d.count ≡ n → d.known ≡ i + 1 → PositionsFilled g n i cs ws
      → Ready g (half d) d.count ws i n
  ready_draft {ws} d h size e c k st =
      subst (λ (y : ℕ). Ready g (record { word = drafted d; known = y }) d.count ws i n) (sym k)
      (subst (λ (m : ℕ). Ready g (record { word = drafted d; known = i + 1 }) m ws i n) (sym c)
      (standing_ready h size e st))

  pub tried_settled : {hold : ℕ} {ws ws' : List ℕ} {r : Bool} (d : Draft 7) → i < n → length cs ≡ n
      → drafted d ≡ sentence cs → d.count ≡ n → d.known ≡ i + 1 → PositionsFilled g n i cs ws
      → Settles r g (half d) d.count ws ws' → PositionTried r g n hold i cs ws ws'
  tried_settled {hold} {ws} {ws'} {r} d h size e c k st y = record {
    out = λ q s. refuted_hopeless e size (z.absent q) (λ a b u l. st.fixed a (omega arith) l)
        (λ a b l. absurd (omega arith));
    stays = λ q. standing_back h size on;
    on = λ q. on;
    past = z.past;
  }
    where
      z : Settles r g (record { word = drafted d; known = i + 1 }) n ws ws'
      z = subst (λ (x : ℕ). Settles r g (record { word = drafted d; known = x }) n ws ws') k
          (subst (λ (m : ℕ). Settles r g (half d) m ws ws') c y)

      on : PositionsFilled g n (i + 1) cs ws'
      on = standing_on h size e st z.right z.given

-- a draft is a half-known word
ready_at : {g : Rules} {n k from to : ℕ} {ws : List ℕ} (d : Draft 7) → d.count ≡ n → d.known ≡ k
    → Ready g (record { word = drafted d; known = k }) n ws from to
    → Ready g (half d) d.count ws from to
ready_at {g} {n} {k} {from} {to} {ws} d c e x = subst
    (λ (y : ℕ). Ready g (record { word = drafted d; known = y }) d.count ws from to) (sym e)
    (subst (λ (m : ℕ). Ready g (record { word = drafted d; known = k }) m ws from to) (sym c) x)

settles_at : {r : Bool} {g : Rules} {n k : ℕ} {ws ws' : List ℕ} (d : Draft 7) → d.count ≡ n
    → d.known ≡ k → Settles r g (half d) d.count ws ws'
    → Settles r g (record { word = drafted d; known = k }) n ws ws'
settles_at {r} {g} {n} {k} {ws} {ws'} d c e y = subst
    (λ (x : ℕ). Settles r g (record { word = drafted d; known = x }) n ws ws') e
    (subst (λ (m : ℕ). Settles r g (half d) m ws ws') c y)

module _ {g : Rules} {n b : ℕ} {cs : List Cell} where
  -- the words are ready to be filled from token b on
  pub ready_again : {ws : List ℕ} (d : Draft 7) → b ≤ n → length cs ≡ n → drafted d ≡ sentence cs
      → d.count ≡ n → d.known ≡ b → PositionsFilled g n b cs ws
      → Ready g (half d) d.count ws b n
  ready_again {ws} d h size e c k st = ready_at d c k (record {
    low = omega arith;
    high = h;
    within = omega arith;
    right = subst (λ (v : Word). Exact g v n ws b) (sym e) st.right;
    leaves = leaves_of g n ws cs size h e (right_leaf cs size h st.right);
    beyond = open_none g n ws n (omega arith);
  })

  pub spent : {hold : ℕ} {r r₀ : Bool} {ws ws₁ ws₂ : List ℕ} (d : Draft 7) → r₀ ≡ false
      → drafted d ≡ sentence cs → d.count ≡ n → d.known ≡ b
      → PositionsSearched r₀ g n hold b cs ws ws₁
      → Settles r g (half d) d.count ws₁ ws₂ → AllPositionsSearched false g n hold b cs ws ws₂
  spent {hold} {r} {r₀} {ws} {ws₁} {ws₂} d no_more e c k q y =
      let z = settles_at d c k y in
      record {
        out = λ u. q.out no_more;
        stays = λ u s. standing_poised e (q.stays no_more)
            z.right z.beyond z.given;
        past = past_then q.past z.past;
      }

module _ {g : Rules} {s n b j : ℕ} {cs : List Cell} (low : b ≤ j) (h : j < n) where
  -- the pair of the token at j is written
  pub wrote_loose : {ws ws' : List ℕ} {p q : ℕ} → WrotePair ws ws' (pair_at n j 1) p q
      → TerminalOpen g s n b j cs ws → TerminalOpen g s n b j cs ws'
  wrote_loose w l = loose_kept low h w.kept l

  pub ready_loose : {ws : List ℕ} (d : Draft 7) → length cs ≡ n → drafted d ≡ sentence cs
      → d.count ≡ n → d.known ≡ b → TerminalOpen g s n b j cs ws
      → Ready g (half d) d.count ws b (j + 1)
  ready_loose d size e c k l = ready_at d c k (loose_ready low h (with_terminal_self j cs) size e l)

  pub try_terminal_settled : {r : Bool} {ws ws₁ ws₂ : List ℕ} {x p q : ℕ} (d : Draft 7)
      → length cs ≡ n
      → drafted d ≡ sentence cs → d.count ≡ n → d.known ≡ b → terminal_at_of cs j ≡ x
      → WrotePair ws ws₁ (pair_at n j 1) p q → Leaf g x p q → TerminalOpen g s n b j cs ws
      → Settles r g (half d) d.count ws₁ ws₂ → TerminalTried r g s n b j cs ws ws₂
  try_terminal_settled {r} {ws} {ws₁} {ws₂} {x} {p} {q} d size e c k t w al lo y =
      let z = settles_at d c k y in
      let l = wrote_loose w lo in
      record {
        out = λ u hold. refuted_hopeless e size (z.absent u)
            (λ i a v v'. loose_fixed low h (with_terminal_self j cs) m l i v v')
            (λ i a v. l.free i a v);
        stays = loose_filled low h (with_terminal_self j cs) e m l z.right z.beyond
            z.given;
        past = past_then (kept_past n j 1 (omega arith) w.kept) z.past;
      }
    where
      m : LeafAt g n ws₁ j (terminal_at_of cs j)
      m = subst (LeafAt g n ws₁ j) (sym t) (subst₂ (Leaf g x) (sym w.first) (sym w.second) al)

-- ---- all terminals of a token

next_up : (i j b : ℕ) → i ≡ j - 1 → b ≤ j → (j ≡ b → ⊥) → i + 1 ≡ j
next_up i j b e low far = omega arith

module _ {g : Rules} {s n b j i : ℕ} {cs : List Cell} (e : i ≡ j - 1) (low : b ≤ j) (high : j ≤ n)
    (far : j ≡ b → ⊥) where
  pub poised_down : {ws : List ℕ} → TerminalsFilled g s n b j cs ws → TerminalOpen g s n b i cs ws
  poised_down {ws} p = poised_loose (let z : b ≤ i = omega arith in z)
      (let z : i < n = omega arith in z)
      (subst (λ (k : ℕ). TerminalsFilled g s n b k cs ws) (sym (next_up i j b e low far)) p)

  -- the last write: the token is free again
  pub done_full : {hold : ℕ} {ws ws₁ ws₂ : List ℕ} {p q : ℕ} → Past (2 * pairs n) ws ws₁
      → TerminalOpen g s n b i cs ws₁ → TerminalsTwinned g s n hold b i 64 cs
      → WrotePair ws₁ ws₂ (pair_at n i 1) p q
      → ((x : ℕ) → Among s x → Allows g x p q) → Done false g s n hold b j cs ws ws₂
  done_full {hold} {ws} {ws₁} {ws₂} {p} {q} pa l be w f = record {
    out = λ u. subst (λ (k : ℕ). Twinned g s n hold b k cs) (next_up i j b e low far)
        (below_all h be);
    stays = λ u. subst (λ (k : ℕ). TerminalsFilled g s n b k cs ws₂) (next_up i j b e low far)
        (loose_free (let z : b ≤ i = omega arith in z) h
        (λ x a. subst₂ (Allows g x) (sym w.first) (sym w.second) (f x a))
        (wrote_loose (let z : b ≤ i = omega arith in z) h w l));
    past = past_then pa (kept_past n i 1 (omega arith) w.kept);
  }
    where
      h : i < n
      h = omega arith

-- the positions decide
pub done_of : {r : Bool} {g : Rules} {s n hold b j : ℕ} {cs : List Cell} {ws ws' : List ℕ} → j ≡ b
    → AllPositionsSearched r g n hold b cs ws ws' → Done r g s n hold b j cs ws ws'
done_of {r} {g} {s} {n} {hold} {b} {j} {cs} {ws} {ws'} e q = record {
  out = λ u. subst (λ (k : ℕ). Twinned g s n hold b k cs) (sym e) (q.out u s);
  stays = λ u. subst (λ (k : ℕ). TerminalsFilled g s n b k cs ws') (sym e) (q.stays u s);
  past = q.past;
}

pub standing_of : {g : Rules} {s n b j : ℕ} {cs : List Cell} {ws : List ℕ} → j ≡ b
    → TerminalsFilled g s n b j cs ws → PositionsFilled g n b cs ws
standing_of {g} {s} {n} {b} {j} {cs} {ws} e p =
    poised_standing (subst (λ (k : ℕ). TerminalsFilled g s n b k cs ws) e p)

-- ---- the start

-- the words that are laid may be filled
pub laid_ready : {g : Rules} {s n b : ℕ} {table : List ℕ} {cs : List Cell} {ws ws₁ : List ℕ}
    (d : Draft 7) → b ≤ n → Candidate (Among s) n cs → drafted d ≡ sentence cs → d.count ≡ n
    → d.known ≡ b → Tabled g s table → LeavesPut table cs n b ws ws₁
    → Ready g (half d) d.count ws₁ 0 n
laid_ready {g} {s} {n} {b} {cs = cs} {ws₁ = ws₁} d low k e c kn t l = ready_at d c kn (record {
  low = omega arith;
  high = low;
  within = omega arith;
  right = laid_empty t l (drafted d);
  leaves = leaves_of g n ws₁ cs k.arranged.size low e
      (λ i h. laid_leaf t l i h (omega arith) (among_cells k i (omega arith)));
  beyond = open_none g n ws₁ n (omega arith);
})

-- and are poised then, all terminals from b on being open
pub poised_start : {g : Rules} {s n b : ℕ} {table : List ℕ} {cs : List Cell} {ws ws₁ ws₂ : List ℕ}
    (d : Draft 7) → b ≤ n → drafted d ≡ sentence cs → d.count ≡ n → d.known ≡ b → Tabled g s table
    → LeavesPut table cs n b ws ws₁ → Charted ws₁ ws₂ g (half d) d.count
    → TerminalsFilled g s n b n cs ws₂
poised_start {g} {s} {n} {b} {cs = cs} {ws} {ws₁} {ws₂} d low e c k t l y = record {
  right = subst (λ (u : Word). Exact g u n ws₂ b) e z.exact;
  beyond = open_less n low z.beyond;
  fixed = λ i a h. absurd (omega arith);
  free = λ i a h x m. may_given g i x z.given h (laid_free t l i a h x m);
}
  where
    z : Charted ws₁ ws₂ g (record { word = drafted d; known = b }) n
    z = subst (λ (x : ℕ). Charted ws₁ ws₂ g (record { word = drafted d; known = x }) n) k
        (subst (λ (m : ℕ). Charted ws₁ ws₂ g (half d) m) c y)

pub charted_past : {g : Rules} {n : ℕ} {ws ws' : List ℕ} (d : Draft 7) → d.count ≡ n
    → Charted ws ws' g (half d) d.count → Past (2 * pairs n) ws ws'
charted_past {g} {n} {ws} {ws'} d c y = subst (λ (m : ℕ). Past (2 * pairs m) ws ws') c y.past

-- all is known: the sheet says if there are two trees
pub two_read : {g : Rules} {s n : ℕ} {ws : List ℕ} {r : Bool} (cs : List Cell) → length cs ≡ n
    → TerminalsFilled g s n n n cs ws → Says r (In (second_word ws n 0 n) 0)
    → Says r (TwoTrees g 0 (sentence cs))
two_read cs size p = let q = reads_second (sentence_length 1 cs ∙ size) p.right in
    says_iff q.0 q.1
