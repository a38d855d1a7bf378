-- An arm for each kind: the members are its operands.
use mathlib.Core.Path.{◌≡◌, sym, ◌∙◌, subst}
use mathlib.Core.Logic.{◌⊎◌, inl, inr}
use Prim.Native.Nat.{ℕ, ◌+◌, ◌-◌}
use native.Mathlib.Omega.{arith}
use Rattle.grammar.specs.Content.{SmallClause}
use Rattle.spans.proofs.Places.{pair_at_below}
use Rattle.cuts.proofs.JoinLaws.{joins_none, joins_then, joins_as}
use Rattle.contained_spans.proofs.add_kids.Goals as goal

pub add-requires : goal.add-requires
add-requires c =
    let a = c.args in record {
      p_in_bounds = omega (
        arith,
        c.pair_at-p.ensures,
        pair_at_below a.n a.start a.len c.requires.space.0.fits,
        c.requires.space.0.enough,
      );
      a_bound = subst SmallClause c.in-Unary.is c.requires.small_clause;
    }

pub add-requires-in-Binary : goal.add-requires-in-Binary
add-requires-in-Binary c =
    let a = c.args in record {
      p_in_bounds = omega (
        arith,
        c.pair_at-p-in-Binary.ensures,
        pair_at_below a.n a.start a.left (omega (arith, c.requires.space)),
        c.requires.space.0.enough,
      );
      a_bound = (subst SmallClause c.in-Binary.is c.requires.small_clause).0;
    }

pub add-requires-in-Binary-2 : goal.add-requires-in-Binary-2
add-requires-in-Binary-2 c =
    let a = c.args in record {
      p_in_bounds = omega (
        arith,
        c.add-in-Binary.ensures.long,
        c.pair_at-q.ensures,
        pair_at_below a.n
            (a.start + a.left) (a.len - a.left) (omega (arith, c.requires.space)),
        c.requires.space.0.enough,
      );
      a_bound = (subst SmallClause c.in-Binary.is c.requires.small_clause).1;
    }

pub returns-in-Empty : goal.returns-in-Empty
returns-in-Empty c = rw c.in-Empty.is (joins_as (λ q B x. x) (λ q B x. x) (joins_none _))

pub returns-in-Atom : goal.returns-in-Atom
returns-in-Atom c = rw c.in-Atom.is (joins_as (λ q B x. x) (λ q B x. x) (joins_none _))

pub returns-in-Unary : goal.returns-in-Unary
returns-in-Unary c =
    let e = c.pair_at-p.ensures in
    rw c.in-Unary.is
    (joins_as (λ q B x. (x.0 ∙ e, x.1)) (λ q B x. (x.0 ∙ sym e, x.1)) c.add.ensures)

pub returns-in-Binary : goal.returns-in-Binary
returns-in-Binary c =
    let e = c.pair_at-p-in-Binary.ensures in
    let e₂ = c.pair_at-q.ensures in
    rw c.in-Binary.is
    (joins_as (⊎_map e e₂) (⊎_map (sym e) (sym e₂))
    (joins_then c.add-in-Binary.ensures c.add-in-Binary-2.ensures))
  where
    ⊎_map : {p p' r r' b e : ℕ} → p ≡ p' → r ≡ r' → (q B : ℕ)
        → ((q ≡ p) × (B ≡ b)) ⊎ ((q ≡ r) × (B ≡ e)) → ((q ≡ p') × (B ≡ b)) ⊎ ((q ≡ r') × (B ≡ e))
    ⊎_map x y q B (inl z) = inl (z.0 ∙ x, z.1)
    ⊎_map x y q B (inr z) = inr (z.0 ∙ y, z.1)
