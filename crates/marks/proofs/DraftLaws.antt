-- A draft's word, token by token.
use mathlib.Core.Path.{◌≡◌}
use Prim.Native.Nat.{ℕ, ◌≤◌, ◌<◌}
use native.Mathlib.Omega.{arith}
use lib.ListN.{length, get_or}
use lib.Seq.{get_or-take, length-take-le}
use Rattle.marks.specs.declared.Draft.{Draft}
use Rattle.marks.specs.Half.{token_at}
use Rattle.marks.specs.Drafts.{drafted}
use Rattle.grammar.specs.Sentences.{no_token}

pub drafted_at : {N : ℕ} (d : Draft N) (i : ℕ) → i < d.count
    → token_at (drafted d) i ≡ get_or d.tokens i no_token
drafted_at d i h = get_or-take d.count d.tokens i no_token h

-- a draft is as long as its count says
pub drafted_length : {N : ℕ} (d : Draft N) → length d.tokens ≡ N → d.count ≤ N
    → length (drafted d) ≡ d.count
drafted_length d e h = length-take-le d.count d.tokens (omega arith)
