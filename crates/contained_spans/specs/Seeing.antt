-- Words of cuts: where a B clause stands, and what was put in already (inner).
use Rattle.std.specs.Prelude.{◌≡◌, List, ◌⊎◌, ◌↔◌, ℕ, ◌+◌, ◌-◌, ◌*◌, ◌≤◌, ◌<◌, length, get_or}
use Rattle.sets.specs.Sets.{In}
use Rattle.grammar.specs.declared.BinaryMark.{BinaryMark}
use Rattle.marks.specs.declared.SpanMarks.{SpanMarks}
use Rattle.marks.specs.Marked.{BinaryBy}
use Rattle.cuts.specs.Joining.{Joins}
use Rattle.cut_tables.specs.Tables.{CutTable}
use Rattle.contained_spans.specs.Reached.{Bit}

-- r has, of a span from s on, the cuts at which the mark holds
pub record MaskBy (k : SpanMarks) (s : ℕ) (m : BinaryMark) (r : ℕ) : Type 0 where
  pub holds : (len l : ℕ) → 0 < l → l < len → s + l < 64 → In r (s + l) ↔ BinaryBy k len m l

-- r has the cuts of the row of b and of the column of e at which the mark holds
pub record HitsBy (cs : List ℕ) (b e : ℕ) (m : BinaryMark) (s len : ℕ) (k : SpanMarks)
    (r : ℕ) : Type 0 where
  pub mask : ℕ
  pub by : MaskBy k s m mask
  pub is : (c : ℕ) → In r c
      ↔ (In (get_or cs b 0) c × In (get_or cs (64 * (s + len) + e) 0) c × In mask c)

-- a cut of a row lies behind the start, one of a column before the end
pub record Bounded (n s : ℕ) (cs : List ℕ) : Type 0 where
  pub long : length cs ≡ 4160
  pub row : (B c : ℕ) → B < 64 → In (get_or cs B 0) c → s < c
  pub column : (j C c : ℕ) → 0 < j → j ≤ n → C < 64 → In (get_or cs (64 * j + C) 0) c → c < j

-- the set was noted in the words p and q, and r has what was not in both
pub record Unseen (sn sn' : List ℕ) (p q set r : ℕ) : Type 0 where
  pub notes : Joins (λ x c. ((x ≡ p) ⊎ (x ≡ q)) × In set c) sn sn'
  pub rest : (c : ℕ) → In r c ↔ (In set c × ((In (get_or sn p 0) c × In (get_or sn q 0) c) → ⊥))

-- what the columns have seen is in the words rs
pub record SeenColumns (n : ℕ) (rs sn : List ℕ) : Type 0 where
  pub long : length sn ≡ 4160
  pub second : (j C c : ℕ) → 0 < j → C < 64 → In (get_or sn (64 * j + C) 0) c → Bit rs n c (j - c) C

-- and so is what the row of the start s has seen
pub record SeenAt (n s : ℕ) (rs sn : List ℕ) : Type 0 where
  pub columns : SeenColumns n rs sn
  pub first : (B c : ℕ) → B < 64 → In (get_or sn B 0) c → Bit rs n s (c - s) B

-- the words of cuts are those of the start; the empty word asks for none
pub record Ready (ws : List ℕ) (n s len : ℕ) (cs rs sn : List ℕ) : Type 0 where
  pub long : length sn ≡ 4160
  pub table : 0 < len → CutTable ws n s cs
  pub seen : 0 < len → SeenAt n s rs sn
