use Rattle.std.proofs.Common.{subst}
use Rattle.td_giop.specs.Header.{JudgesHeader}
use Rattle.td_giop.proofs.Judged.{judged, good_at, cut_at, fault_at}
use Rattle.td_giop.proofs.laws.header_is_judged.Goals as goal

pub returns-clause-good : goal.returns-clause-good
returns-clause-good c =
    λ limit bytes h. (
      λ e. subst (JudgesHeader limit bytes) e (judged limit bytes),
      λ g. good_at limit bytes h.minor h.order h.kind h.size g,
    )

pub returns-clause-cut : goal.returns-clause-cut
returns-clause-cut c =
    λ limit bytes. (λ e. subst (JudgesHeader limit bytes) e (judged limit bytes), λ h. cut_at limit bytes h)

pub returns-clause-refused : goal.returns-clause-refused
returns-clause-refused c =
    λ limit bytes f. (λ e. subst (JudgesHeader limit bytes) e (judged limit bytes), λ h. fault_at limit bytes f h.0 h.1)
