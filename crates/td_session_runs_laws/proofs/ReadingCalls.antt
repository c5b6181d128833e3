-- What is read of octets can be written: the call that the body of a Request spells.
use Rattle.std.proofs.Common.{◌≡◌, ℕ, ◌-◌, ◌≤◌, List, Option, None, Some, Ok, Err, refl, sym, subst, arith}
use Rattle.td_cdr.specs.Format.{Read}
use Rattle.td_cdr.specs.Lawful.{AreOctets}
use Rattle.td_cdr.specs.LawfulFormats.{read-admitted}
use Rattle.td_cdr.specs.Place.{At}
use Rattle.td_cdr.specs.declared.value_fault.ValueFault.{ValueFault}
use Rattle.td_giop.specs.Heads.{Request, request, request_at}
use Rattle.td_iter.specs.Desks.{Live}
use Rattle.td_ops.proofs.Tags.{called}
use Rattle.td_ops.specs.Calls.{AdmitsCall, body_of, read_under}
use Rattle.td_ops.specs.Operations.{operation_named, row}
use Rattle.td_ops.specs.Refusals.{reading_of}
use Rattle.td_ops.specs.declared.call.Call.{Call as Asked}
use Rattle.td_ops.specs.declared.operation.Operation.{Operation}
use Rattle.td_servant.specs.Judging.{judge_request, judged_by, judged_reading}
use Rattle.td_servant.specs.Objects.{object_at}
use Rattle.td_servant.specs.declared.judging.Judged.TheVariants.{Call}
use Rattle.td_servant.specs.declared.objects.Object.{Object}
use Rattle.td_trader.specs.Worlds.{View}
use Rattle.td_stream.specs.Messages.{behind, minor_of}

-- a body of octets that stands within its message
pub record IsBody (body : At) : Type 0 where
  pub octets : AreOctets body.rest
  pub within : body.origin ≤ body.place

pub request-body : (message : List ℕ) (head : Request) (body : At) → AreOctets body.rest
    → request_at (minor_of message) (behind message) ≡ Ok (head, body) → IsBody body
unfolding request_at
request-body message head body octets is =
    let w = (request (minor_of message)).lawful.found (behind message) head body (omega arith) is in
    record {
      octets = octets;
      within = rw w.moved (omega arith);
    }

-- what is read under an operation is a call of it
reading-admits : (operation : Operation) (a : At) (r : Read ValueFault Asked) → (body_of operation).reads a ≡ r
    → IsBody a → (x y : Object) (c : Asked) → judged_reading x (reading_of r) ≡ Call y c → AdmitsCall c
reading-admits operation a (Ok read) is h x y c e =
    let same : read.0 ≡ c = cc in
    let f = (row operation).body.lawful.found a read.0 read.1 h.within is in
    subst AdmitsCall same
    (subst (λ (o : Operation). (body_of o).admits read.0)
    (sym (called operation a.order (a.place - a.origin) read.0 f.bytes f.spelled))
    (read-admitted (body_of operation) (row operation).body.lawful a read.0 read.1 h.within h.octets is))
reading-admits operation a (Err f) is h x y c e = absurd (let bad : ⊥ = cc in bad)

named-admits : (o : Option Operation) (a : At) → IsBody a → (x y : Object) (c : Asked)
    → judged_reading x (read_under o a) ≡ Call y c → AdmitsCall c
named-admits (Some operation) a h x y c e = reading-admits operation a ((body_of operation).reads a) refl h x y c e
named-admits None a h x y c e = absurd (let bad : ⊥ = cc in bad)

object-admits : (o : Option Object) (operation : List ℕ) (a : At) → IsBody a → (y : Object) (c : Asked)
    → judged_by o operation a ≡ Call y c → AdmitsCall c
object-admits (Some x) operation a h y c e = named-admits (operation_named x.kind operation) a h x y c e
object-admits None operation a h y c e = absurd (let bad : ⊥ = cc in bad)

pub judged-admits : (w : List View) (d : Live) (key operation : List ℕ) (body : At) → IsBody body → (x : Object)
    (c : Asked) → judge_request w d key operation body ≡ Call x c → AdmitsCall c
judged-admits w d key operation body h x c e = object-admits (object_at w d key) operation body h x c e
