use Rattle.sets.proofs.Says.{says_iff, says_eqb}
use Rattle.pair_offsets.proofs.member.Goals as goal

pub returns : goal.returns
returns c = says_iff (λ e. record { digit = e }) (λ h. h.digit) (says_eqb _ 1)
