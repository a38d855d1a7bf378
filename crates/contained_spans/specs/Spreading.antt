-- A span is worked off (inner: contracts of the functions that do so).
use Rattle.std.specs.Prelude.{◌≡◌, List, ◌⊎◌, ◌↔◌, ℕ, ◌+◌, ◌-◌, ◌≤◌, ◌<◌, length, get_or, set}
use Rattle.sets.specs.Sets.{In}
use Rattle.grammar.specs.declared.Clause.{Clause}
use Rattle.grammar.specs.Layout.{Word}
use Rattle.grammar.specs.Trees.{Tree, Rules, Witness, Derives}
use Rattle.grammar.specs.Choices.{Choice}
use Rattle.grammar.specs.Rows.{start_of}
use Rattle.grammar.specs.SpanSheet.{part, pairs, pair_at, SpanSheet}
use Rattle.marks.specs.declared.Draft.{Draft}
use Rattle.marks.specs.declared.SpanMarks.{SpanMarks}
use Rattle.marks.specs.Drafts.{drafted}
use Rattle.marks.specs.Marked.{Marked}
use Rattle.tables.specs.Tables.{Table, rule}
use Rattle.places.specs.Places.{StandsIn, Several}
use Rattle.cut_tables.specs.Tables.{Columns}
use Rattle.contained_spans.specs.Reached.{Bit}
use Rattle.contained_spans.specs.Seeing.{SeenAt, SeenColumns}

-- the words are the span sheet of a draft that is known whole
pub record Known (ws : List ℕ) (g : Rules) (d : Draft 64) : Type 0 where
  pub few : d.count ≤ 64
  pub long : length (drafted d) ≡ d.count
  pub known : d.known ≡ d.count
  pub sheet : SpanSheet g (drafted d) ws

-- what lies beneath a clause is in the table
abbrev pub Kids : Table → ℕ → ℕ → Clause → ℕ → Type 0
Kids R s len Clause.Empty l = Unit {0}
Kids R s len (Clause.Atom a b) l = Unit {0}
Kids R s len (Clause.Unary B m) l = R s len B
Kids R s len (Clause.Binary B C m) l = R s l B × R (s + l) (len - l) C

-- A has a tree over the span, and each tree of it there stands in a whole tree of w
pub record Held (g : Rules) (w : Word) (s len A : ℕ) : Type 0 where
  pub derives : Derives g A (part w s len)
  pub extends : (t : Tree) → Witness g A (part w s len) t
      → (T : Tree) × Witness g 0 w T × (from : ℕ) × StandsIn t 0 T from
      × (start_of from len ≡ start_of s len)

-- all that the words rs have is so
pub record Sound (g : Rules) (w : Word) (n : ℕ) (rs : List ℕ) : Type 0 where
  pub held : (s len A : ℕ) → s + len ≤ n → Bit rs n s len A → Held g w s len A

-- what lies beneath each choice of what rs has of the span is in rs
abbrev pub Spread : Rules → Word → ℕ → List ℕ → ℕ → ℕ → Type 0
Spread g w n rs s len = (A i l : ℕ) → Bit rs n s len A → Choice g A (part w s len) i l
    → Kids (Bit rs n) s len (rule g i).clause l

-- the span of b tokens from a on comes before that of len tokens from s on: the starts from the
-- first on, the longest first, the empty word last
abbrev pub SpanBefore : ℕ → ℕ → ℕ → ℕ → Type 0
SpanBefore a b s len = (0 < b) × ((len ≡ 0) ⊎ (a < s) ⊎ ((a ≡ s) × (len < b)))

-- the span is being worked off, all of `done` is: nothing is lost, nothing is added to a span that
-- comes before, and all that is added is held; ps has those of `done` that have two choices
pub record Working (g : Rules) (w : Word) (n s len : ℕ) (rs rs' : List ℕ) (done ps : ℕ) : Type
    0 where
  pub long : length rs' ≡ length rs
  pub keeps : (q B : ℕ) → In (get_or rs q 0) B → In (get_or rs' q 0) B
  pub apart : (a b B : ℕ) → a + b ≤ n → SpanBefore a b s len → Bit rs' n a b B → Bit rs n a b B
  pub sound : Sound g w n rs → Sound g w n rs'
  pub tried : (A i l : ℕ) → In done A → Choice g A (part w s len) i l
      → Kids (Bit rs' n) s len (rule g i).clause l
  pub mine : (A : ℕ) → In done A → Bit rs' n s len A
  pub parts : (A : ℕ) → In ps A ↔ (In done A × Several g A (part w s len))

-- it is worked off
pub record Spreads (g : Rules) (w : Word) (n s len : ℕ) (rs rs' : List ℕ) (ps : ℕ) : Type 0 where
  pub long : length rs' ≡ length rs
  pub keeps : (q B : ℕ) → In (get_or rs q 0) B → In (get_or rs' q 0) B
  pub apart : (a b B : ℕ) → a + b ≤ n → SpanBefore a b s len → Bit rs' n a b B → Bit rs n a b B
  pub sound : Sound g w n rs → Sound g w n rs'
  pub spread : Spread g w n rs' s len
  pub parts : (A : ℕ) → In ps A ↔ (Bit rs' n s len A × Several g A (part w s len))

-- the same, of any sentence whose span sheet the words ws are and whose marks over the span are k
pub record Works (ws : List ℕ) (g : Rules) (n s len : ℕ) (k : SpanMarks) (rs rs' : List ℕ)
    (done ps : ℕ) : Type 0 where
  pub long : length rs' ≡ length rs
  pub working : (w : Word) → length w ≡ n → SpanSheet g w ws
      → Marked (record { word = w; known = n }) s len k → Working g w n s len rs rs' done ps

pub record Worked (ws : List ℕ) (g : Rules) (n s len : ℕ) (k : SpanMarks) (rs rs' sn' : List ℕ)
    (ps : ℕ) : Type 0 where
  pub long : length sn' ≡ 4160
  pub seen : 0 < len → SeenAt n s rs' sn'
  pub spreads : (w : Word) → length w ≡ n → SpanSheet g w ws
      → Marked (record { word = w; known = n }) s len k → Spreads g w n s len rs rs' ps

-- and the word of its places is written
pub record SpanDone (g : Rules) (w : Word) (n s len : ℕ) (rs rs' sn' ps ps' : List ℕ) : Type
    0 where
  pub long : length sn' ≡ 4160
  pub seen : 0 < len → SeenAt n s rs' sn'
  pub word : ℕ
  pub wrote : ps' ≡ set ps (pair_at n s len) word
  pub spreads : Spreads g w n s len rs rs' word

-- only the whole sentence has a member, the start
pub record Begun (n : ℕ) (rs : List ℕ) : Type 0 where
  pub long : pairs n ≤ length rs
  pub start : Bit rs n 0 n 0
  pub only : (q B : ℕ) → q < pairs n → In (get_or rs q 0) B → (q ≡ pair_at n 0 n) × (B ≡ 0)

-- the span is worked off, and ps says which of its nonterminals have two choices
pub record Settled (g : Rules) (w : Word) (n : ℕ) (rs ps : List ℕ) (a b : ℕ) : Type 0 where
  pub spread : Spread g w n rs a b
  pub parts : (A : ℕ) → Bit ps n a b A ↔ (Bit rs n a b A × Several g A (part w a b))

-- all spans from starts before s are, and those from s on that are longer than len
pub record Done (g : Rules) (w : Word) (n s len : ℕ) (rs ps : List ℕ) : Type 0 where
  pub long : pairs n ≤ length rs
  pub wide : pairs n ≤ length ps
  pub begun : Bit rs n 0 n 0
  pub sound : Sound g w n rs
  pub settled : (a b : ℕ) → a + b ≤ n → 0 < b → (a < s) ⊎ ((a ≡ s) × (len < b))
      → Settled g w n rs ps a b

-- those from s on, too
pub record StartDone (ws : List ℕ) (g : Rules) (w : Word) (n s : ℕ) (cs rs sn ps : List ℕ) : Type
    0 where
  pub columns : Columns ws n cs
  pub seen : SeenColumns n rs sn
  pub done : Done g w n (s + 1) n rs ps

-- all are
pub record AllDone (g : Rules) (w : Word) (n : ℕ) (rs ps : List ℕ) : Type 0 where
  pub long : pairs n ≤ length rs
  pub wide : pairs n ≤ length ps
  pub begun : Bit rs n 0 n 0
  pub sound : Sound g w n rs
  pub settled : (a b : ℕ) → a + b ≤ n → Settled g w n rs ps a b
