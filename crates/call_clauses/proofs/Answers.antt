-- A verdict on a clause sheet is a verdict on the readings under its own clauses, and so is a
-- sweep.
use mathlib.Core.Path.{subst}
use mathlib.Core.List.{List, [], ◌∷◌}
use Prim.Native.Nat.{ℕ, ◌+◌}
use lib.ListN.{length}
use Rattle.grammar.specs.declared.Cell.{Cell}
use Rattle.grammar.specs.Layout.{Word, Every}
use Rattle.grammar.specs.Trees.{Tree, Rules, word, Valid, valid_empty, valid_leaf, valid_unary}
use Rattle.grammar.specs.Trees.{valid_binary, TwoTrees}
use Rattle.grammar.specs.Candidates.{Terminal, Cells, Candidate, placed, sentence}
use Rattle.grammar.proofs.Lists.{every_append}
use Rattle.grammar.specs.Sweeps.{Clear, FirstTwo}
use Rattle.clauses.specs.Clauses.{Clauses}
use Rattle.clauses.specs.Matching.{OneToOne}
use Rattle.clauses.proofs.Verdicts.{no_reading, one_reading, two_readings, two_trees}
use Rattle.clause_sheets.specs.ClauseSheets.{clause_sheet}
use Rattle.clause_sheets.proofs.Meaning.{meant}
use Rattle.std.specs.Prelude.{Result}
use Rattle.grammar.specs.declared.Verdict.{Verdict}
use Rattle.grammar.specs.declared.Verdict.TheVariants as Verdicts
use Rattle.grammar.specs.Verdicts.{Holds}
use Rattle.sheets.specs.declared.Refusal.{Refusal}
use Rattle.sweep_answers.specs.declared.Swept.{Swept}
use Rattle.answering.proofs.Settled.{both_sheets}
use Rattle.answering.specs.Verdict as Call
use Rattle.sweep_answers.specs.Sweep as Sweep
use Rattle.call_clauses.specs.Calls.{ClauseVerdict, ClauseSweep}
use Rattle.call_clauses.specs.Meaning.{SaysReadings, VerdictReads, ClearReadings, AnyTerminal}
use Rattle.call_clauses.specs.Meaning.{FirstTwoReadings, SweepReads}
use Rattle.call_clauses.specs.Meaning as Meaning

said_readings : (c : Clauses) (g : Rules) (w : Word) → OneToOne c g 0 → (v : Verdict)
    → Holds v g 0 w → SaysReadings v c w
said_readings c g w m Verdicts.None s = no_reading m w s
said_readings c g w m Verdicts.One s = one_reading m w s
said_readings c g w m Verdicts.Two s = two_readings m w s

-- 1. the verdict

pub verdict_reads : (s t : List ℕ) {ws ws' : List ℕ} {r : Result Verdict Refusal}
    → ClauseVerdict s t ws ws' r
    → VerdictReads s t r
verdict_reads s t (Call.refusing e x h) = Meaning.refusing x
verdict_reads s t (Call.reading e (Call.short l n x h)) =
    Meaning.refusing x
verdict_reads s t (Call.reading {g = g} {w = w} e (Call.judging {v = v} a n h)) =
    let o = both_sheets (clause_sheet s) t g w e in
    let m = meant s g o.0 in
    Meaning.saying m.own o.1 (said_readings m.clauses g w m.match v a) n

-- 2. the sweep

-- a candidate's terminals: any, or those that the sentence's tree has
module _ (g : Rules) where
  cells_any : (n m : ℕ) (cs : List Cell) → Cells (Terminal g) n m cs → Cells AnyTerminal n m cs
  cells_any n m [] h = tt
  cells_any n m (c ∷ cs) h = (
    record
        { terminal = tt; step = h.0.step; low = h.0.low; high = h.0.high },
    cells_any n 2 cs
        h.1,
  )

  cells_of : (l n m : ℕ) (cs : List Cell) → Cells AnyTerminal n m cs
      → Every (λ x. Terminal g x.terminal) (placed l cs) → Cells (Terminal g) n m cs
  cells_of l n m [] h k = tt
  cells_of l n m (c ∷ cs) h k = (
    record
        { terminal = k.0; step = h.0.step; low = h.0.low; high = h.0.high },
    cells_of
        (l + c.step) n 2 cs h.1 k.1,
  )

  tree_terminals : {t : Tree} → Valid g t → Every (λ x. Terminal g x.terminal) (word t)
  tree_terminals (valid_empty r) = tt
  tree_terminals (valid_leaf {A = A} r) = ((A, r), tt)
  tree_terminals (valid_unary k r h v) = tree_terminals v
  tree_terminals (valid_binary {s = s} {t = t} k r h u v) = every_append
      (λ x. Terminal g x.terminal) (word s) (word t) (tree_terminals u) (tree_terminals v)

  candidate_of : (ds : List Cell) → Candidate AnyTerminal (length ds) ds
      → TwoTrees g 0 (sentence ds) → Candidate (Terminal g) (length ds) ds
  candidate_of ds d y =
      let k = subst (Every (λ x. Terminal g x.terminal)) y.witness₁.spelled
      (tree_terminals y.witness₁.valid) in
      record {
        arranged = record {
          size = d.arranged.size;
          cells = cells_of 1 (length ds) 0 ds
              d.arranged.cells k;
        };
        rising = d.rising;
      }

module _ {c : Clauses} {g : Rules} (m : OneToOne c g 0) where
  clear_readings : {k : ℕ} → Clear g k → ClearReadings c k
  clear_readings x = record { no_two = λ w a b l h t. x.absent w a b l h (two_trees m w t) }

  first_readings : {k : ℕ} {cs : List Cell} → FirstTwo g k cs → FirstTwoReadings c k cs
  first_readings {cs = cs} x =
      record {
        low = x.low;
        high = x.high;
        candidate = record {
          arranged = record {
            size = x.candidate.arranged.size;
            cells = cells_any g (length cs) 0 cs
                x.candidate.arranged.cells;
          };
          rising = x.candidate.rising;
        };
        two = two_readings m (sentence cs) x.two;
        earlier = λ ds l d b t. let y = two_trees m (sentence ds) t in
            x.earlier ds l (candidate_of g ds d y) b y;
      }

pub sweep_reads : (s : List ℕ) (k : ℕ) {ws ws' : List ℕ} {r : Result Swept Refusal}
    → ClauseSweep s k ws ws' r
    → SweepReads s k r
sweep_reads s k (Sweep.refusing e x h) = Meaning.refusing x
sweep_reads s k (Sweep.reading e (Sweep.bound l n x h)) =
    Meaning.refusing x
sweep_reads s k (Sweep.reading e (Sweep.many l u m n x h)) =
    Meaning.refusing x
sweep_reads s k (Sweep.reading e (Sweep.short l u m o n x h)) =
    Meaning.refusing x
sweep_reads s k (Sweep.reading {g = g} e (Sweep.clear t c q x h)) =
    let m = meant s g e in
    Meaning.saying_clear m.own (clear_readings m.match c) x
sweep_reads s k (Sweep.reading {g = g} e (Sweep.two t c o q x h)) =
    let m = meant s g e in
    Meaning.saying_two m.own (first_readings m.match c) (clear_readings m.match o) x
