use Rattle.sets.proofs.Says.{fails, says_iff}
use Rattle.pair_offsets.proofs.held.Goals as goal

pub returns-then-member-5 : goal.returns-then-member-5
returns-then-member-5 c =
    says_iff
    (λ e.
    record {
      ac = c.member.ensures.is c.if-member.true;
      an = c.member-then-member.ensures.is
          c.if-member-2.true;
      mc = c.member-then-member-2.ensures.is
          c.if-member-3.true;
      mn = c.member-then-member-3.ensures.is
          c.if-member-4.true;
      am = c.member-then-member-4.ensures.is c.if-member-5.true;
      cn = e;
    }) (λ h. h.cn) c.member-then-member-5.ensures

pub returns-else-member-5 : goal.returns-else-member-5
returns-else-member-5 c = fails (λ h. c.member-then-member-4.ensures.isnt c.if-member-5.false h.am)

pub returns-else-member-4 : goal.returns-else-member-4
returns-else-member-4 c = fails (λ h. c.member-then-member-3.ensures.isnt c.if-member-4.false h.mn)

pub returns-else-member-3 : goal.returns-else-member-3
returns-else-member-3 c = fails (λ h. c.member-then-member-2.ensures.isnt c.if-member-3.false h.mc)

pub returns-else-member-2 : goal.returns-else-member-2
returns-else-member-2 c = fails (λ h. c.member-then-member.ensures.isnt c.if-member-2.false h.an)

pub returns-else-member : goal.returns-else-member
returns-else-member c = fails (λ h. c.member.ensures.isnt c.if-member.false h.ac)
