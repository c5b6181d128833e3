-- A reply to an Ask that passes tells what one walk finds.
use Rattle.std.proofs.Common.{◌≡◌, ℕ, List, length, slice_get, Option, None, Some, Ok, refl, sym, ap, ◌∙◌}
use Rattle.std.specs.Option.{option_and_then}
use Rattle.td_audit.specs.Auditing.{EndedIn, RepliedIn, AuditState, asked_of, opening_of}
use Rattle.td_log.specs.Words.{lines_of}
use Rattle.td_audit.specs.declared.asked.AskedQuery.{AskedQuery}
use Rattle.td_audit_laws.proofs.Roots.{HasRoot, asked-keeps, root-fixed, run-keeps}
use Rattle.td_audit_laws.proofs.Schedules.{passes-move, run-of}
use Rattle.td_audit_laws.specs.Laws.{RepliesAreOfOneWalk, TellsVisit}
use Rattle.td_log.specs.declared.message.Recorded.{Recorded}
use Rattle.td_net.specs.Supplies.{without_zeros}
use Rattle.td_net.specs.Worlds.{visit_at, visit_in}
use Rattle.td_net.specs.declared.call.Call.{Call}
use Rattle.td_net.specs.declared.call.Stage.{Stage}
use Rattle.td_net.specs.declared.call.Stage.TheVariants.{Sent, Running, Evaluating, Waiting, Ended}
use Rattle.td_net_laws.specs.Premises.{AllTrees, OneTree}
use Rattle.td_walk.specs.declared.trace.Visit.{Visit}

-- ---- what passes

ended-in : (s t : AuditState) (c : ℕ) (a : AskedQuery) (reply : Recorded) (o : Option Visit) → asked_of c s.asked ≡ Some a
    → visit_at s.net.calls c ≡ o → EndedIn s a reply o (Ok t) → (v : Visit) × TellsVisit s c reply v
ended-in s t c a reply None is at h = absurd (cc)
ended-in s t c a reply (Some v) is at h = (v, record { asked = a; is = is; ended = at; content = h.0 })

replied-in : (s t : AuditState) (c : ℕ) (reply : Recorded) (o : Option AskedQuery) → asked_of c s.asked ≡ o
    → RepliedIn s c reply o (Ok t) → (v : Visit) × TellsVisit s c reply v
replied-in s t c reply None is h = absurd (cc)
replied-in s t c reply (Some a) is h = ended-in s t c a reply (visit_at s.net.calls c) is refl h

-- ---- the call of an ended visit

stage-ended : (s : Stage) (v : Visit) → visit_in s ≡ Some v → s ≡ Ended v
stage-ended Sent v e = absurd cc
stage-ended Running v e = absurd cc
stage-ended (Evaluating f) v e = absurd cc
stage-ended (Waiting f d) v e = absurd cc
stage-ended (Ended a) v e = let same : a ≡ v = cc in ap Ended same

-- the call of a visit that has ended
pub record EndedCall (calls : List Call) (c : ℕ) (v : Visit) : Type 0 where
  pub call : Call
  pub is : slice_get calls c ≡ Some call
  pub stage : call.stage ≡ Ended v

pub ended-call : (calls : List Call) (c : ℕ) (v : Visit) (o : Option Call) → slice_get calls c ≡ o
    → visit_at calls c ≡ Some v → EndedCall calls c v
ended-call calls c v None is at = absurd (let e : visit_at calls c ≡ None =
    ap (λ (o : Option Call). option_and_then (λ (k : Call). visit_in k.stage) o) is in cc)
ended-call calls c v (Some k) is at =
    let e : visit_at calls c ≡ visit_in k.stage =
    ap (λ (o : Option Call). option_and_then (λ (k : Call). visit_in k.stage) o) is in
    record { call = k; is = is; stage = stage-ended k.stage v (sym e ∙ at) }

module _ (one-tree : OneTree) where
  pub replies-of-one-walk : RepliesAreOfOneWalk
  replies-of-one-walk traders home log names before between s t u v n form q reply reached first ask later content
      premises =
      let c = length s.net.calls in
      let earlier = passes-move home names _ s before first in
      let more = passes-move home names t u between later in
      let trees : AllTrees c u.net =
      one-tree traders home (without_zeros (opening_of (lines_of log)).words) earlier.events more.events s.net t.net u.net n q
      reached (run-of _ s.net earlier.events earlier.accepted) ask.1 (run-of t.net u.net more.events more.accepted)
      premises in
      let root =
      run-keeps (HasRoot c) (root-fixed c) c t.net u.net more.events
      (asked-keeps (HasRoot c) (root-fixed c) s.net t.net n q refl ask.0 ask.1)
      (run-of t.net u.net more.events more.accepted) in
      let answer = replied-in u v c reply (asked_of c u.asked) refl content in
      let call = ended-call u.net.calls c answer.0 (slice_get u.net.calls c) refl answer.1.ended in
      record {
        visit = answer.0;
        tells = answer.1;
        walk = trees c call.call answer.0 call.is (root.holds call.call call.is) call.stage;
      }
