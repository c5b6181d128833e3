-- The references that calls mean to a visit can be written, as what was read.
use Rattle.std.proofs.Common.{◌≡◌, ℕ, List, Bool, true, false, nat_eq, Result, Ok, Err, IfOk, sym, subst}
use Rattle.td_call.specs.Readings.{AdmitsAnswered}
use Rattle.td_cdr.specs.Sound.{either}
use Rattle.td_client.specs.Meanings.{reference_meant, register_call, resolve_call, with_meaning}
use Rattle.td_typecode.specs.References.{reference}
use Rattle.td_typecode.specs.declared.reference.Ior.{Ior}
use Rattle.td_ops.specs.Answers.{done_answer, no_answer, system_answer, user_answer}
use Rattle.td_ops.specs.declared.outcome.Answered.{Answered}
use Rattle.td_ops.specs.declared.outcome.Answered.TheVariants.{Done, User, System}
use Rattle.td_ops.specs.declared.outcome.Reply.{Reply}
use Rattle.td_ops.specs.declared.outcome.Reply.TheVariants as reply
use Rattle.td_ops.specs.declared.shape.Shape.TheVariants as shape
use Rattle.td_walk.specs.declared.fault.PeerFault.{PeerFault}

-- a body by what its status is
content-reference : (done user system : Bool) (r : Ior)
    → (either done (done_answer shape.Reference) (either user user_answer (either system system_answer
    no_answer))).format.admits (Done (reply.Reference r)) → reference.format.admits r
content-reference true user system r h =
    let one : Done (reply.Reference h.2.0) ≡ Done (reply.Reference r) = subst (λ (x : Reply). Done x ≡ Done
    (reply.Reference r)) (sym h.2.1) h.1 in
    let same : h.2.0 ≡ r = cc in
    subst reference.format.admits same h.2.2
content-reference false true system r h =
    let bad : User h.0 ≡ Done (reply.Reference r) = h.1 in absurd (let no : ⊥ = cc in no)
content-reference false false true r h =
    let bad : System h.0.0 h.0.1.0 h.0.1.1 ≡ Done (reply.Reference r) = h.1 in absurd (let no : ⊥ = cc in no)
content-reference false false false r h = absurd h

-- what an answer to a call of this result means
module _ (status : ℕ) where
  abbrev Admits : Answered → Type 0
  Admits a =
      (either (nat_eq status 0) (done_answer shape.Reference) (either (nat_eq status 1) user_answer (either (nat_eq
      status 2) system_answer no_answer))).format.admits a

  meant-of : (a : Answered) → Admits a → IfOk (reference_meant a) (λ r. reference.format.admits r)
  meant-of (Done (reply.Reference r)) h = content-reference (nat_eq status 0) (nat_eq status 1) (nat_eq status 2) r h
  meant-of (Done reply.Nothing) h = tt
  meant-of (Done (reply.Id i)) h = tt
  meant-of (Done (reply.Number n)) h = tt
  meant-of (Done (reply.Truth b)) h = tt
  meant-of (Done (reply.Follow f)) h = tt
  meant-of (Done (reply.Stem s)) h = tt
  meant-of (Done (reply.Incarnation i)) h = tt
  meant-of (Done (reply.Names ns)) h = tt
  meant-of (Done (reply.Offer o)) h = tt
  meant-of (Done (reply.Link l)) h = tt
  meant-of (Done (reply.Proxy p)) h = tt
  meant-of (Done (reply.Typed t)) h = tt
  meant-of (Done (reply.Found offers iterator limits)) h = tt
  meant-of (Done (reply.Ids ids iterator)) h = tt
  meant-of (Done (reply.Batch more offers)) h = tt
  meant-of (Done (reply.IdBatch more ids)) h = tt
  meant-of (User id) h = tt
  meant-of (System id minor completion) h = tt

abbrev IsAdmitted : Result Ior PeerFault → Type 0
IsAdmitted r = IfOk r (λ x. reference.format.admits x)

register-of : (r : Result Answered PeerFault) → IfOk r (λ a. AdmitsAnswered register_call a)
    → IsAdmitted (with_meaning reference_meant r)
register-of (Ok a) h = meant-of h.0 a h.1
register-of (Err e) h = tt

pub register_admitted : (r : Result Answered PeerFault) (x : Result Ior PeerFault) → x ≡ with_meaning reference_meant r
    → IfOk r (λ a. AdmitsAnswered register_call a) → IsAdmitted x
register_admitted r x is h = subst IsAdmitted (sym is) (register-of r h)

resolved-of : (name : List (List ℕ)) (r : Result Answered PeerFault) → IfOk r (λ a. AdmitsAnswered (resolve_call name) a)
    → IsAdmitted (with_meaning reference_meant r)
resolved-of name (Ok a) h = meant-of h.0 a h.1
resolved-of name (Err e) h = tt

pub resolved_admitted : (name : List (List ℕ)) (r : Result Answered PeerFault) (x : Result Ior PeerFault)
    → x ≡ with_meaning reference_meant r → IfOk r (λ a. AdmitsAnswered (resolve_call name) a) → IsAdmitted x
resolved_admitted name r x is h = subst IsAdmitted (sym is) (resolved-of name r h)
