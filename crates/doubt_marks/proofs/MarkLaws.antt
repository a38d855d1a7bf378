-- THE MARKS ARE THOSE OF THE SHEET: the bit of two rules is set exactly if they may read one word.
use mathlib.Core.Path.{◌≡◌, refl, sym, ap, ◌∙◌, subst}
use mathlib.Core.Logic.{⊎_elim}
use mathlib.Core.List.{List}
use Prim.Native.Nat.{ℕ, ◌+◌, ◌*◌, ◌/◌, ◌%◌, ◌≤◌, ◌<◌}
use native.Mathlib.Omega.{arith}
use lib.ListN.{length, get_or}
use Rattle.pair_steps.proofs.ShapeNumbers.{shape_one, shape_low}
use Rattle.sets.specs.Sets.{In}
use Rattle.sets.proofs.Sets.{in_zero}
use Rattle.grammar.specs.Trees.{Rules}
use Rattle.acyclic.specs.Exact.{Exactly}
use Rattle.pairs.specs.Shapes.{rule_of_shape, Head}
use Rattle.pairs.specs.Relations.{equal, order}
use Rattle.pairs.specs.Settings.{start₁, start₂, at, stop₁, stop₂, Setting, setting}
use Rattle.pairs.specs.Doubts.{OneSpan, Seen, seen_top, seen_child}
use Rattle.pairs.proofs.OffsetLaws.{is_order, is_of}
use Rattle.pair_offsets.specs.Frames.{rank_of}
use Rattle.pair_steps.specs.Nodes.{shape_number}
use Rattle.pair_steps.specs.Tables.{LowTable, SoundTable}
use Rattle.pair_steps.specs.Closing.{ClosedTable}
use Rattle.pair_nodes.specs.Slots.{node_at, SlotOf}
use Rattle.pair_nodes.specs.Putting.{NodesMade}
use Rattle.pair_nodes.proofs.SlotLaws.{number_rule}
use Rattle.doubt_list.specs.Marks.{Bit, Together, Marked}
use Rattle.doubt_marks.specs.Standing.{span_frame, MayOver}
use Rattle.doubt_marks.specs.Growing.{Grows}
use Rattle.doubt_marks.specs.Marking.{Self, SeenBy, by_top, by_child}
use Rattle.doubt_marks.specs.Marking.{PairsFound, MarksFor}
use Rattle.doubt_marks.proofs.StandLaws.{standing, over_span, child_of}
use Rattle.doubt_marks.proofs.StandLaws.{sort_of, there, place₁, place₂, has_child}

-- nothing is set yet
pub record Blank (l : List ℕ) (rows : ℕ) : Type 0 where
  pub blank : (n : ℕ) → n < 2 * rows → get_or l n 0 ≡ 0

none_set : {l : List ℕ} {rows p q : ℕ} → Blank l rows → p < rows → q < 128 → Bit l p q → ⊥
none_set {l} {rows} {p} {q} b h k i =
    in_zero (q % 64) (subst (λ (w : ℕ). In w (q % 64)) (b.blank (2 * p + q / 64) (omega arith)) i)

module _ {g : Rules} {ns t : List ℕ} (made : NodesMade g ns) (so : SoundTable g t)
    (closed : ClosedTable g t)
    (low : LowTable t) where
  same_start : (k : ℕ) → order (rank_of (span_frame k) (at start₁))
      (rank_of (span_frame k) (at start₂)) ≡ equal
  same_start k = is_order equal 0 0 refl

  same_stop : (k : ℕ) → order (rank_of (span_frame k) stop₁) (rank_of (span_frame k) stop₂) ≡ equal
  same_stop k = is_order equal 4 4 refl

  rule_of : {i : ℕ} (a : SlotOf g ns i) → i % 128 ≡ rule_of_shape a.head.shape
  rule_of a =
      ap (λ (n : ℕ). n % 128) (sym a.number) ∙ number_rule a.head.shape a.node.place

  module _ {zero own : List ℕ} (blank : Blank zero 384) (selves : Grows (Self ns t) zero own) where
    -- 1. the nonterminals seen

    record Own (i : ℕ) : Type 0 where
      number : ℕ
      may : MayOver ns t (span_frame number) i i

    own_may : (i : ℕ) → i < 384 → Bit own i 0 → Own i
    own_may i l b =
        ⊎_elim (λ z. absurd (none_set {q = 0} blank l (omega arith) z))
        (λ d.
        let s = d.is.holds.is in
        record {
          number = d.place;
          may = subst (λ (n : ℕ). MayOver ns t (span_frame d.place) n n) (sym s.row) s.may;
        }) (selves.only i 0 (omega arith) b)

    seen_is : {A : ℕ} → SeenBy ns own A → Seen g A
    seen_is by_top = seen_top
    seen_is (by_child i {Y} l p b h c) =
        let o = own_may i l b in
        let a = made.nodes.only i l p in
        let s = standing so a a o.may in
        seen_child {x = a.head} (subst (Seen g) a.node.sort (seen_is h))
        (record { may = s.may; starts = same_start o.number; stops = same_stop o.number })
        (child_of a.node c)

    own_bit : {σ : Setting} {x : Head} → OneSpan g σ x x → Bit own (shape_number x.shape) 0
    own_bit {σ} {x} o =
        let s = over_span made closed low o.may refl o.starts o.stops in
        selves.has (shape_number x.shape) 0
        (record {
          place = s.number;
          low = s.low;
          is =
              record {
                ranked = s.ranked;
                holds =
                    record {
                      place = shape_number x.shape;
                      low = shape_low x.shape (place₁ made closed low o.may);
                      is = record { row = refl; column = refl; may = s.may };
                    };
              };
        })

    seen_all : {A : ℕ} → Seen g A → SeenBy ns own A
    seen_all seen_top = by_top
    seen_all (seen_child {C} {σ} {x} h o m) =
        by_child (shape_number x.shape) (shape_low x.shape (place₁ made closed low o.may))
        (there made closed low o.may) (own_bit o)
        (subst (SeenBy ns own) (sym (sort_of made closed low o.may)) (seen_all h))
        (has_child made closed low o.may m)

    -- 2. the marks

    module _ {seen : ℕ} (exact : Exactly seen (SeenBy ns own)) {old marks : List ℕ}
        (clear : Blank old 128)
        (pairs : Grows (PairsFound ns t seen) old marks) where
      together : (p q : ℕ) → PairsFound ns t seen p q → Together g p q
      together p q d =
          let row = d.is.holds in
          let pair = row.is.holds in
          let e = pair.is in
          let m = e.may in
          let a = made.nodes.only row.place row.low m.there₁ in
          let b = made.nodes.only pair.place pair.low m.there₂ in
          let s = standing so a b m in
          record {
            left = (node_at ns row.place).sort;
            seen = seen_is (exact.is (node_at ns row.place).sort row.is.seen);
            nodes =
                record {
                  σ = setting (rank_of (span_frame d.place)) s.offset s.next;
                  x = a.head;
                  y = b.head;
                  sort₁ = sym a.node.sort;
                  sort₂ = sym b.node.sort ∙ sym m.sort;
                  rule₁ = sym (rule_of a) ∙ sym e.row;
                  rule₂ = sym (rule_of b) ∙ sym e.column;
                  over =
                      record {
                        may = s.may;
                        starts = same_start d.place;
                        stops = same_stop
                            d.place;
                      };
                  differ = λ u v.
                      e.differ (sym a.number ∙ (ap shape_number u ∙ b.number))
                      (is_of (span_frame d.place).cut (span_frame d.place).split equal v);
                };
          }

      pair_of : (p q : ℕ) → p ≤ q → (x : Together g p q) → PairsFound ns t seen p q
      pair_of p q l z =
          let n = z.nodes in
          let m = n.over.may in
          let s = over_span made closed low m (n.sort₁ ∙ sym n.sort₂) n.over.starts
          n.over.stops in
          record {
            place = s.number;
            low = s.low;
            is =
                record {
                  ranked = s.ranked;
                  holds =
                      record {
                        place = shape_number n.x.shape;
                        low = shape_low n.x.shape (place₁ made closed low m);
                        is =
                            record {
                              seen =
                                  exact.all (node_at ns (shape_number n.x.shape)).sort
                                  (subst (SeenBy ns own)
                                  (sym (sort_of made closed low m ∙ n.sort₁))
                                  (seen_all z.seen));
                              holds =
                                  record {
                                    place = shape_number n.y.shape;
                                    low = shape_low n.y.shape (place₂ made closed low m);
                                    is =
                                        record {
                                          row =
                                              sym (number_rule n.x.shape
                                              (place₁ made closed low m) ∙ n.rule₁);
                                          column =
                                              sym (number_rule n.y.shape
                                              (place₂ made closed low m) ∙ n.rule₂);
                                          up = l;
                                          differ = λ e d.
                                              n.differ
                                              (shape_one n.x.shape n.y.shape
                                              (place₁ made closed low m)
                                              (place₂ made closed low m) e) (s.cuts d);
                                          may = s.may;
                                        };
                                  };
                            };
                      };
                };
          }

      marked : 256 ≤ length marks → Marked g marks
      marked long =
          record {
            long = long;
            is = λ p q l h. (
              λ b.
                  ⊎_elim (λ z. absurd (none_set clear (omega arith) h z)) (together p q)
                  (pairs.only p q h b),
              λ z. pairs.has p q (pair_of p q l z),
            );
          }

-- for every sheet
pub marks_for : {ns t zero own first old marks : List ℕ} {seen : ℕ} → Blank zero 384 → Grows
    (Self ns t) zero own
    → Exactly seen (SeenBy ns own) → Blank old 128 → length old ≡ length first
    → Grows (PairsFound ns t seen) old marks → 256 ≤ length first → MarksFor ns t first marks
marks_for blank selves exact clear size pairs long =
    record {
      size = pairs.size ∙ size;
      marked = λ g made so closed low.
          marked made so closed low blank selves exact clear pairs
          (omega (arith, pairs.size, size));
    }
