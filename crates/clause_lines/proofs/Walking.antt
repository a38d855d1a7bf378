-- The flat walk over an expression's lexemes answers what the expression says.
use mathlib.Core.Path.{◌≡◌, refl, sym, ◌∙◌, ap}
use mathlib.Core.Bool.{Bool, true, false, cond, not, ◌&&◌, ◌||◌}
use mathlib.Core.List.{List, ◌∷◌}
use Rattle.std.specs.Prelude.{Option, None, Some}
use Prim.Native.Nat.{ℕ, zero, suc, ◌+◌, ◌-◌, ◌≤◌, ◌<◌, max}
use native.Mathlib.Omega.{arith}
use native.Mathlib.Numerals.{add-one}
use lib.ListN.{drop}
use lib.Dec.{leb, eqb, ltb, ltb→lt, nltb→le, leb→le, nleb→lt}
use borrow.Author.Tests.{le-leb, lt-leb, ne_eqb}
use Rattle.sets.proofs.Basics.{never}
use Rattle.grammar.specs.declared.BinaryMark.TheVariants as BinaryMark
use Rattle.clauses.specs.Clauses as C
use Rattle.clauses.specs.Expansion.{past_expr}
use Rattle.clauses.specs.Text.{maybe, repeats, marks, Lex, n, t, opening, closing, bar, suffix}
use Rattle.clauses.specs.Text.{join, IsExpression, depth}
use Rattle.clauses.specs.Flat as F
use Rattle.clauses.specs.Flat.{due, grouped, run, shallow, both, zero?, past_lexes, is_due}
use Rattle.clauses.specs.Flat.{past_item}
use Rattle.clauses.proofs.Accepts.{accepted, accepts}
use Rattle.clauses.proofs.Depth.{shallow_in, shallow_out}
use Rattle.clauses.proofs.Deciding.{says?, max_is, max_assoc, max_zero, past_written}
use Rattle.lexemes.specs.declared.Lexeme.{Lexeme}
use Rattle.lexemes.specs.declared.Lexed.{Lexed}
use Rattle.lexemes.specs.Lexemes.{lexemes, onto_lexemes}
use Rattle.lexemes.specs.Answers.{lexeme_of, Front, LexemeTells, Lexes}
use Rattle.clause_lines.specs.declared.State.{State}
use Rattle.clause_lines.specs.declared.Walk.{Walk}
use Rattle.std.specs.Prelude.{Result, Ok, Err}
use Rattle.clause_lines.specs.declared.ExpressionFault.{ExpressionFault}
use Rattle.clause_lines.specs.ClauseLines.{good, deep, shallow_only, lexemes_say, expression}
use Rattle.clause_lines.specs.Walks as W
use Rattle.clause_lines.specs.Walks.{state_of, is_due_of, takes_repeat, takes_mark, is_end, may}
use Rattle.clause_lines.specs.Walks.{state_after, stepped, answer, answer_at, checked_of, begun}
use Rattle.clause_lines.specs.Loops.{Walks}

leb_le : {a b : ℕ} → leb a b ≡ true → a ≤ b
leb_le {a} {b} e = leb→le a b (rw e tt)

leb_gt : {a b : ℕ} → leb a b ≡ false → b < a
leb_gt {a} {b} e = nleb→lt a b (rw e tt)

due_same : (s : State) → is_due (state_of s) ≡ is_due_of s
due_same State.Due = refl
due_same State.Plain = refl
due_same State.Grouped = refl
due_same State.Suffixed = refl

past_same : (s : State) → past_item (state_of s) ≡ not (is_due_of s)
past_same State.Due = refl
past_same State.Plain = refl
past_same State.Grouped = refl
past_same State.Suffixed = refl

repeat_same : (s : State) (q : C.AtLeast) (m : _)
    → (F.fits (state_of s) maybe ≡ takes_repeat s)
    × (F.fits (state_of s) (repeats q m) ≡ takes_repeat s)
repeat_same State.Due q m = (refl, refl)
repeat_same State.Plain q m = (refl, refl)
repeat_same State.Grouped q m = (refl, refl)
repeat_same State.Suffixed q m = (refl, refl)

mark_same : (s : State) (m : _) → F.fits (state_of s) (marks m) ≡ takes_mark s
mark_same State.Due m = refl
mark_same State.Plain m = refl
mark_same State.Grouped m = refl
mark_same State.Suffixed m = refl

-- a test that comes out so
both_is : (a c b : Bool) → a ≡ c → both a b ≡ both c b
both_is a c b e = ap (λ (x : Bool). both x b) e

-- how many parentheses are open behind a lexeme
abbrev opens : Lex → ℕ → ℕ
opens (n a) d = d
opens (t a) d = d
opens opening d = d + 1
opens closing d = d - 1
opens bar d = d
opens (suffix q) d = d
opens (join m) d = d

-- the flat test at one lexeme: may it stand, and the rest
run_step : (x : Lex) (l : List Lex) (s : State) (d : ℕ)
    → run (x ∷ l) (state_of s) d ≡ both (may s d (lexeme_of x))
    (run l (state_of (state_after (lexeme_of x))) (opens x d))
run_step (n a) l s d = both_is _ _ _ (due_same s)
run_step (t a) l s d = both_is _ _ _ (due_same s)
run_step opening l s d =
    both_is _ _ _ (due_same s) ∙ ap (λ (k : ℕ). both (is_due_of s) (run l due k)) (sym (add-one d))
run_step closing l s zero = refl
run_step closing l s (suc d) =
    both_is _ _ _ (past_same s ∙ one_more (not (is_due_of s)))
    ∙ ap (λ (k : ℕ). both (may s (suc d) Lexeme.Close) (run l grouped k)) (less d)
  where
    one_more : (b : Bool) → b ≡ (not (eqb (suc d) 0) && b)
    one_more b = ap (λ (x : Bool). not x && b) (sym (ne_eqb (suc d) 0 (λ e. omega arith)))

    less : (c : ℕ) → c ≡ suc c - 1
    less c = omega arith
run_step bar l s d = both_is _ _ _ (past_same s)
run_step (suffix maybe) l s d = both_is _ _ _ (repeat_same s C.from_one BinaryMark.None).0
run_step (suffix (repeats C.from_one m)) l s d = both_is _ _ _ (repeat_same s C.from_one m).1
run_step (suffix (repeats C.from_zero m)) l s d = both_is _ _ _ (repeat_same s C.from_zero m).1
run_step (suffix (marks m)) l s d = both_is _ _ _ (mark_same s m)
run_step (join m) l s d = both_is _ _ _ (past_same s)

run_on : (x : Lex) (l : List Lex) (s : State) (d : ℕ) → may s d (lexeme_of x) ≡ true
    → run (x ∷ l) (state_of s) d ≡ run l (state_of (state_after (lexeme_of x))) (opens x d)
run_on x l s d h = run_step x l s d ∙ both_is (may s d (lexeme_of x)) true
    (run l (state_of (state_after (lexeme_of x))) (opens x d)) h

run_off : (x : Lex) (l : List Lex) (s : State) (d : ℕ) → may s d (lexeme_of x) ≡ false
    → run (x ∷ l) (state_of s) d ≡ false
run_off x l s d h = run_step x l s d ∙ both_is (may s d (lexeme_of x)) false
    (run l (state_of (state_after (lexeme_of x))) (opens x d)) h

-- the answer by its parts
abbrev pick : Bool → Bool → ℕ → Result ℕ ExpressionFault
pick r h p = cond r (cond h (Ok p) (Err ExpressionFault.Deep)) (Err ExpressionFault.Unwritten)

not_le : (d : ℕ) → ltb d 16 ≡ not (leb 16 d)
not_le d = go (ltb d 16) refl
  where
    go : (b : Bool) → ltb d 16 ≡ b → b ≡ not (leb 16 d)
    go true e = sym (ap not (lt-leb 16 d (ltb→lt d 16 (rw e tt))))
    go false e = sym (ap not (le-leb 16 d (nltb→le d 16 (rw e tt))))

deeper : (b c y : Bool) → (not b && both (not c) y) ≡ (not (b || c) && y)
deeper true c y = refl
deeper false true y = refl
deeper false false y = refl

drop_less : (d : ℕ) → F.drop_one d ≡ d - 1
drop_less zero = refl
drop_less (suc d) = let z : d ≡ suc d - 1 = omega arith in z

-- a lexeme that may stand: the answer from behind it
module _ (w : Walk) (e : ℕ) where
  on_step : (x : Lex) (o : Option (List Lex)) → may w.state w.deep (lexeme_of x) ≡ true
      → answer (onto_lexemes x o) (state_of w.state) w.deep w.over w.past
      ≡ answer o (state_of (stepped w (lexeme_of x) e).state)
      (stepped w (lexeme_of x) e).deep (stepped w (lexeme_of x) e).over
      (stepped w (lexeme_of x) e).past
  on_step x None h = refl
  on_step (n a) (Some l) h =
      λ i. pick (run_on (n a) l w.state w.deep h i) (not w.over && shallow 16 l w.deep)
      (max_assoc w.past (a + 1) (past_lexes l) i)
  on_step (t a) (Some l) h = λ i. pick (run_on (t a) l w.state w.deep h i)
      (not w.over && shallow 16 l w.deep) (max w.past (nothing l i))
    where
      nothing : (l : List Lex) → max 0 (past_lexes l) ≡ past_lexes l
      nothing l = max_is 0 (past_lexes l) (past_lexes l) (omega arith) (omega arith) (λ k p q. q)
  on_step opening (Some l) h = λ i.
      pick (run_on opening l w.state w.deep h i)
      ((ap (λ (b : Bool). not w.over && both b (shallow 16 l (suc w.deep))) (not_le w.deep)
      ∙ deeper w.over (leb 16 w.deep) _ ∙ ap
      (λ (k : ℕ). not (w.over || leb 16 w.deep) && shallow 16 l k)
      (sym (add-one w.deep))) i) (max w.past
      (max_is 0 (past_lexes l) (past_lexes l) (omega arith) (omega arith) (λ k p q. q)
      i))
  on_step closing (Some l) h = λ i.
      pick (run_on closing l w.state w.deep h i)
      (not w.over && shallow 16 l (drop_less w.deep i))
      (max w.past (max_is 0 (past_lexes l) (past_lexes l) (omega arith) (omega arith) (λ k p q. q)
      i))
  on_step bar (Some l) h =
      λ i. pick (run_on bar l w.state w.deep h i) (not w.over && shallow 16 l w.deep)
      (max w.past (max_is 0 (past_lexes l) (past_lexes l) (omega arith) (omega arith) (λ k p q. q)
      i))
  on_step (suffix maybe) (Some l) h =
      λ i. pick (run_on (suffix maybe) l w.state w.deep h i)
      (not w.over && shallow 16 l w.deep)
      (max w.past (max_is 0 (past_lexes l) (past_lexes l) (omega arith) (omega arith) (λ k p q. q)
      i))
  on_step (suffix (repeats C.from_one m)) (Some l) h =
      λ i. pick (run_on (suffix (repeats C.from_one m)) l w.state w.deep h i)
      (not w.over && shallow 16 l w.deep)
      (max w.past (max_is 0 (past_lexes l) (past_lexes l) (omega arith) (omega arith) (λ k p q. q)
      i))
  on_step (suffix (repeats C.from_zero m)) (Some l) h =
      λ i. pick (run_on (suffix (repeats C.from_zero m)) l w.state w.deep h i)
      (not w.over && shallow 16 l w.deep)
      (max w.past (max_is 0 (past_lexes l) (past_lexes l) (omega arith) (omega arith) (λ k p q. q)
      i))
  on_step (suffix (marks m)) (Some l) h =
      λ i. pick (run_on (suffix (marks m)) l w.state w.deep h i)
      (not w.over && shallow 16 l w.deep)
      (max w.past (max_is 0 (past_lexes l) (past_lexes l) (omega arith) (omega arith) (λ k p q. q)
      i))
  on_step (join m) (Some l) h =
      λ i. pick (run_on (join m) l w.state w.deep h i)
      (not w.over && shallow 16 l w.deep)
      (max w.past (max_is 0 (past_lexes l) (past_lexes l) (omega arith) (omega arith) (λ k p q. q)
      i))

  off_step : (x : Lex) (o : Option (List Lex)) → may w.state w.deep (lexeme_of x) ≡ false
      → answer (onto_lexemes x o) (state_of w.state) w.deep w.over w.past
      ≡ (Err ExpressionFault.Unwritten)
  off_step x None h = refl
  off_step x (Some l) h =
      ap (λ (r : Bool). pick r (not w.over && shallow 16 (x ∷ l) w.deep)
      (max w.past (past_lexes (x ∷ l)))) (run_off x l w.state w.deep h)

  front_on : (s : List ℕ) (x : Lex) → Front s w.at x e
      → may w.state w.deep (lexeme_of x) ≡ true
      → answer_at s w ≡ answer (lexemes (drop e s)) (state_of (stepped w (lexeme_of x) e).state)
      (stepped w (lexeme_of x) e).deep
      (stepped w (lexeme_of x) e).over (stepped w (lexeme_of x) e).past
  front_on s x f h = ap (λ (o : Option (List Lex)). answer o (state_of w.state) w.deep
      w.over w.past) f.front ∙ on_step x (lexemes (drop e s)) h

  front_off : (s : List ℕ) (x : Lex) → Front s w.at x e
      → may w.state w.deep (lexeme_of x) ≡ false → answer_at s w ≡ (Err ExpressionFault.Unwritten)
  front_off s x f h = ap (λ (o : Option (List Lex)). answer o (state_of w.state) w.deep
      w.over w.past) f.front ∙ off_step x (lexemes (drop e s)) h

-- the walk at a lexeme that may stand, and at one that may not
pub told_on : (s : List ℕ) (w : Walk) (l : Lexeme) (e : ℕ) → LexemeTells s w.at l e
    → may w.state w.deep l ≡ true → answer_at s w ≡ answer_at s (stepped w l e)
told_on s w (Lexeme.Nonterminal a) e f h = front_on w e s (n a) f h
told_on s w (Lexeme.Terminal a) e f h = front_on w e s (t a) f h
told_on s w Lexeme.Open e f h = front_on w e s opening f h
told_on s w Lexeme.Close e f h = front_on w e s closing f h
told_on s w Lexeme.Bar e f h = front_on w e s bar f h
told_on s w Lexeme.Maybe e f h = front_on w e s (suffix maybe) f h
told_on s w (Lexeme.Plus m) e f h = front_on w e s (suffix (repeats C.from_one m)) f h
told_on s w (Lexeme.Star m) e f h = front_on w e s (suffix (repeats C.from_zero m)) f h
told_on s w (Lexeme.Marked m) e f h = front_on w e s (suffix (marks m)) f h
told_on s w (Lexeme.Join m) e f h = front_on w e s (join m) f h
told_on s w Lexeme.End e f h = never h
told_on s w Lexeme.Not e f h = never h

pub told_off : (s : List ℕ) (w : Walk) (l : Lexeme) (e : ℕ) → LexemeTells s w.at l e
    → is_end l ≡ false → may w.state w.deep l ≡ false
    → answer_at s w ≡ (Err ExpressionFault.Unwritten)
told_off s w (Lexeme.Nonterminal a) e f g h = front_off w e s (n a) f h
told_off s w (Lexeme.Terminal a) e f g h = front_off w e s (t a) f h
told_off s w Lexeme.Open e f g h = front_off w e s opening f h
told_off s w Lexeme.Close e f g h = front_off w e s closing f h
told_off s w Lexeme.Bar e f g h = front_off w e s bar f h
told_off s w Lexeme.Maybe e f g h = front_off w e s (suffix maybe) f h
told_off s w (Lexeme.Plus m) e f g h = front_off w e s (suffix (repeats C.from_one m)) f h
told_off s w (Lexeme.Star m) e f g h = front_off w e s (suffix (repeats C.from_zero m)) f h
told_off s w (Lexeme.Marked m) e f g h = front_off w e s (suffix (marks m)) f h
told_off s w (Lexeme.Join m) e f g h = front_off w e s (join m) f h
told_off s w Lexeme.End e f g h = never (sym g)
told_off s w Lexeme.Not e f g h = ap
    (λ (o : Option (List Lex)). answer o (state_of w.state) w.deep w.over w.past)
    f.front

told_further : (s : List ℕ) (w : Walk) (l : Lexeme) (e : ℕ) → LexemeTells s w.at l e
    → may w.state w.deep l ≡ true → w.at < e
told_further s w (Lexeme.Nonterminal a) e f h = f.further
told_further s w (Lexeme.Terminal a) e f h = f.further
told_further s w Lexeme.Open e f h = f.further
told_further s w Lexeme.Close e f h = f.further
told_further s w Lexeme.Bar e f h = f.further
told_further s w Lexeme.Maybe e f h = f.further
told_further s w (Lexeme.Plus m) e f h = f.further
told_further s w (Lexeme.Star m) e f h = f.further
told_further s w (Lexeme.Marked m) e f h = f.further
told_further s w (Lexeme.Join m) e f h = f.further
told_further s w Lexeme.End e f h = never h
told_further s w Lexeme.Not e f h = never h

stepped_at : (w : Walk) (l : Lexeme) (e : ℕ)
    → ((stepped w l e).at ≡ e) × ((stepped w l e).deep ≤ w.deep + 1)
stepped_at w (Lexeme.Nonterminal a) e = (refl, omega arith)
stepped_at w (Lexeme.Terminal a) e = (refl, omega arith)
stepped_at w Lexeme.Open e = (refl, omega arith)
stepped_at w Lexeme.Close e = (refl, omega arith)
stepped_at w Lexeme.Bar e = (refl, omega arith)
stepped_at w Lexeme.Maybe e = (refl, omega arith)
stepped_at w (Lexeme.Plus m) e = (refl, omega arith)
stepped_at w (Lexeme.Star m) e = (refl, omega arith)
stepped_at w (Lexeme.Marked m) e = (refl, omega arith)
stepped_at w (Lexeme.Join m) e = (refl, omega arith)
stepped_at w Lexeme.End e = (refl, omega arith)
stepped_at w Lexeme.Not e = (refl, omega arith)

last_of : (st : State) (d : ℕ) (b : Bool) (p : ℕ)
    → pick (both (past_item (state_of st)) (zero? d)) (not b && true) (max p 0)
    ≡ cond (not (is_due_of st) && eqb d 0) (cond b (Err ExpressionFault.Deep) (Ok p))
    (Err ExpressionFault.Unwritten)
last_of st d b p = ap (λ (r : Bool). pick (both r (zero? d)) (not b && true) (max p 0))
    (past_same st) ∙ go (is_due_of st) d b
  where
    go : (u : Bool) (d : ℕ) (b : Bool)
        → pick (both (not u) (zero? d)) (not b && true) (max p 0)
        ≡ cond (not u && eqb d 0) (cond b (Err ExpressionFault.Deep) (Ok p))
        (Err ExpressionFault.Unwritten)
    go true d b = refl
    go false (suc d) b = ap (λ (x : Bool). cond x (cond b (Err ExpressionFault.Deep) (Ok p))
        (Err ExpressionFault.Unwritten)) (sym (ne_eqb (suc d) 0 (λ e. omega arith)))
    go false zero true = refl
    go false zero false = ap Ok (max_zero p)

pub told_last : (s : List ℕ) (w : Walk) (l : Lexeme) (e : ℕ) → LexemeTells s w.at l e
    → is_end l ≡ true → answer_at s w ≡ W.closing w
told_last s w (Lexeme.Nonterminal a) e f h = never h
told_last s w (Lexeme.Terminal a) e f h = never h
told_last s w Lexeme.Open e f h = never h
told_last s w Lexeme.Close e f h = never h
told_last s w Lexeme.Bar e f h = never h
told_last s w Lexeme.Maybe e f h = never h
told_last s w (Lexeme.Plus m) e f h = never h
told_last s w (Lexeme.Star m) e f h = never h
told_last s w (Lexeme.Marked m) e f h = never h
told_last s w (Lexeme.Join m) e f h = never h
told_last s w Lexeme.Not e f h = never h
told_last s w Lexeme.End e f h =
    ap (λ (o : Option (List Lex)). answer o (state_of w.state) w.deep w.over w.past)
    f.front ∙ last_of w.state w.deep w.over w.past

-- the whole walk answers what the expression says
said : (l : List Lex) (d : Dec (IsExpression l))
    → pick (run l due 0) (shallow 16 l 0) (max 0 (past_lexes l)) ≡ checked_of (shallow_only d)
said l (no f) = go (run l due 0) refl
  where
    go : (b : Bool) → run l due 0 ≡ b
        → pick b (shallow 16 l 0) (max 0 (past_lexes l)) ≡ (Err ExpressionFault.Unwritten)
    go true e = let a = accepted l e in absurd (f (record { expr = a.0; written = a.1 }))
    go false e = refl
said l (yes y) = ap (λ (r : Bool). pick r (shallow 16 l 0) (max 0 (past_lexes l)))
    (accepts y.expr l y.written) ∙ go (leb (depth y.expr) 16) refl
  where
    good_past : max 0 (past_lexes l) ≡ past_expr y.expr
    good_past = max_is 0 (past_lexes l) (past_lexes l) (omega arith) (omega arith) (λ k p q. q)
        ∙ past_written y.written

    go : (b : Bool) → leb (depth y.expr) 16 ≡ b
        → cond (shallow 16 l 0) (Ok (max 0 (past_lexes l))) (Err ExpressionFault.Deep)
        ≡ checked_of (cond b (good y.expr) deep)
    go true e = ap (λ (h : Bool). cond h (Ok (max 0 (past_lexes l))) (Err ExpressionFault.Deep))
        (shallow_in 16 y.written (leb_le e)) ∙ ap Ok good_past
    go false e = ap (λ (h : Bool). cond h (Ok (max 0 (past_lexes l))) (Err ExpressionFault.Deep))
        (shallow_out 16 y.written (leb_gt e))

begins : (o : Option (List Lex)) → answer o due 0 false 0 ≡ checked_of (lexemes_say o)
begins None = refl
begins (Some l) = said l (says? l)

pub walk_answers : (s : List ℕ) → answer_at s begun ≡ checked_of (expression s)
walk_answers s = begins (lexemes s)

pub walks_begin : (s : List ℕ) → Walks s begun
walks_begin s = record { within = omega arith; few = omega arith; same = refl }

pub walks_on : (s : List ℕ) (w : Walk) (x : Lexed) → Walks s w → Lexes s w.at x
    → may w.state w.deep x.lexeme ≡ true → Walks s (stepped w x.lexeme x.end)
walks_on s w x W₁ X h =
    let z = stepped_at w x.lexeme x.end in
    let y = told_further s w x.lexeme x.end X.tells h in
    record {
      within = omega (arith, X.within, z.0);
      few = omega (arith, W₁.few, z.0, z.1);
      same = W₁.same ∙ told_on s w x.lexeme x.end X.tells h;
    }

pub walk_further : (s : List ℕ) (w : Walk) (x : Lexed) → Lexes s w.at x
    → may w.state w.deep x.lexeme ≡ true → w.at < (stepped w x.lexeme x.end).at
walk_further s w x X h = let z = stepped_at w x.lexeme x.end in let y =
    told_further s w x.lexeme x.end X.tells h in omega (arith, z.0)

pub walks_off : (s : List ℕ) (w : Walk) (x : Lexed) → Walks s w → Lexes s w.at x
    → is_end x.lexeme ≡ false
    → may w.state w.deep x.lexeme ≡ false
    → (Err ExpressionFault.Unwritten) ≡ checked_of (expression s)
walks_off s w x W₁ X g h =
    sym (told_off s w x.lexeme x.end X.tells g h) ∙ sym W₁.same ∙ walk_answers s

pub walks_last : (s : List ℕ) (w : Walk) (x : Lexed) → Walks s w → Lexes s w.at x
    → is_end x.lexeme ≡ true → W.closing w ≡ checked_of (expression s)
walks_last s w x W₁ X g =
    sym (told_last s w x.lexeme x.end X.tells g) ∙ sym W₁.same ∙ walk_answers s
