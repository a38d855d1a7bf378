-- `call_shares::taken` meets its contract: M, the share's ends, and what is found between them.
use mathlib.Core.Path.{◌≡◌, ◌∙◌}
use Prim.Native.Nat.{◌<◌, ◌^◌}
use native.Mathlib.Omega.{arith}
use borrow.Author.Rules.{rules}
use Rattle.grammar.specs.Content.{rules_of}
use Rattle.arrangement_numbers.specs.Shares.{total}
use Rattle.call_shares.proofs.Sharing.{total_of, shared_clear, shared_two}
use Rattle.call_shares.proofs.taken.Goals as goal

pub all_numbers-m-requires : goal.all_numbers-m-requires
all_numbers-m-requires c =
    let w : c.terminals-set.result < 2 ^ 64 = search rules in
    let t = c.requires.share_taken in record {
      le_n = (t.size.low, t.size.high);
      n_bound = omega (
        arith,
        t.size.few,
        total_of _ _ c.args.n w
            c.terminals-set.ensures,
      );
    }

pub begins_at-start-requires : goal.begins_at-start-requires
begins_at-start-requires c =
    let w : c.terminals-set.result < 2 ^ 64 = search rules in
    let m : c.all_numbers-m.result ≡ total (rules_of c.args.g) c.args.n =
    c.all_numbers-m.ensures ∙ total_of _ _ c.args.n w c.terminals-set.ensures in
    let t = c.requires.share_taken in
    (omega (arith, m, t.size.few), t.least, omega (arith, t.below, t.most))

pub begins_at-end-requires : goal.begins_at-end-requires
begins_at-end-requires c =
    let w : c.terminals-set.result < 2 ^ 64 = search rules in
    let m : c.all_numbers-m.result ≡ total (rules_of c.args.g) c.args.n =
    c.all_numbers-m.ensures ∙ total_of _ _ c.args.n w c.terminals-set.ensures in
    let t = c.requires.share_taken in
    (omega (arith, m, t.size.few), t.least, omega (arith, t.below, t.most))

pub share_rules-requires : goal.share_rules-requires
share_rules-requires c =
    let t = c.requires.share_taken in
    record {
      le_n = (t.size.low, t.size.high);
      formed = c.requires.formed;
      n_bound = t.size.few;
      n_in_bounds = t.enough;
    }

pub returns-in-None : goal.returns-in-None
returns-in-None c =
    let w : c.terminals-set.result < 2 ^ 64 = search rules in
    let m : c.all_numbers-m.result ≡ total (rules_of c.args.g) c.args.n =
    c.all_numbers-m.ensures ∙ total_of _ _ c.args.n w c.terminals-set.ensures in
    shared_clear c.requires.share_taken c.in-None.ensures.words_after m
    c.begins_at-start.ensures c.begins_at-end.ensures c.in-None.ensures.shared

pub returns-in-Some : goal.returns-in-Some
returns-in-Some c =
    let w : c.terminals-set.result < 2 ^ 64 = search rules in
    let m : c.all_numbers-m.result ≡ total (rules_of c.args.g) c.args.n =
    c.all_numbers-m.ensures ∙ total_of _ _ c.args.n w c.terminals-set.ensures in
    shared_two c.requires.share_taken c.in-Some.ensures.words_after m
    c.begins_at-start.ensures c.begins_at-end.ensures c.in-Some.ensures.shared
