-- Readings and trees match one to one.
use mathlib.Core.Path.{◌≡◌, sym, ◌∙◌, ap}
use mathlib.Core.List.Memᴰ
use Prim.Native.Nat.{ℕ, ◌<◌}
use native.Mathlib.Omega.{arith}
use Rattle.grammar.specs.Layout.{Word}
use Rattle.grammar.specs.Trees.{Rules, Tree, word, Witness}
use Rattle.clauses.specs.Clauses.{item, nonterminal, Clauses}
use Rattle.clauses.specs.Readings.{ClauseReading, Reads}
use Rattle.clauses.specs.Expansion.{past_all, expansion}
use Rattle.clauses.specs.Matching.{OneToOne}
use Rattle.clauses.proofs.Placed.{Placed}
use Rattle.clauses.proofs.Forward.{tree, tree_word, root_item, Expands, valid}
use Rattle.clauses.proofs.Backward.{back}
use Rattle.clauses.proofs.Unique.{unique}
use Rattle.clauses.proofs.Sorted.{expands}

module _ {c : Clauses} {N : ℕ} {g : Rules} (x : Expands c N g) (L : ℕ) (h : L < N) where
  here_placed : Placed N g (nonterminal L) N
  here_placed = record {
    up = λ m. absurd (Memᴰ.not-nil m);
    down = λ m k l. absurd
        (omega arith);
    under = h;
    above = omega arith;
  }

  complete : (w : Word) (t : Tree) → Witness g L w t
      → (r : ClauseReading c item (nonterminal L)) × Reads c L w r × (tree N N r ≡ t)
  complete w t v =
      let b = (back x v.valid).written L N h v.rooted in (
        b.reading,
        record {
          spelled = sym (tree_word N N b.reading) ∙ ap word b.same
              ∙ v.spelled;
          kept = b.kept;
        },
        b.same,
      )

  pub one_to_one : OneToOne c g L
  one_to_one =
      record {
        tree = tree N N;
        sound = λ w r k. record {
          rooted = root_item N N r;
          spelled = tree_word N N r
              ∙ k.spelled;
          valid = valid x N r here_placed k.kept;
        };
        complete = complete;
        faithful = λ r s e. unique x N r s here_placed e;
      }

-- Request 2's wish, of the expansion itself and every written nonterminal
pub clauses_match : (c : Clauses) (L : ℕ) → L < past_all c → OneToOne c (expansion c) L
clauses_match c L h = one_to_one (expands c) L h
