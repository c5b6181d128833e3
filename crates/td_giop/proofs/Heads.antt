-- Heads: what is read is spelled so, what is spelled so is read, what is faulty is refused, and no reading runs
-- out of memory.
use Rattle.std.proofs.Common.{◌≡◌, ◌≤◌, ℕ, zero, suc, Result, Ok, Err, ap}
use Rattle.td_cdr.specs.declared.fault.CdrFault.{CdrFault}
use Rattle.td_cdr.specs.declared.fault.CdrFault.TheVariants.{Memory}
use Rattle.td_cdr.specs.Place.{At}
use Rattle.td_cdr.specs.Spelling.{Joins}
use Rattle.td_cdr.specs.Faults.{ThenFault}
use Rattle.td_cdr.specs.Joined.{ok_is}
use Rattle.td_cdr.specs.Sound.{Sound, ◌&◌}
use Rattle.td_giop.specs.Fields.{ulong, octet, boolean, octets, text, sequence}
use Rattle.td_giop.specs.Heads.{alone, context, contexts, principal, reserved_field, request, reply, locate_request}
use Rattle.td_giop.specs.Heads.{locate_reply}
use Rattle.td_giop.specs.Heads.{cancel_request}
use Rattle.td_cdr.proofs.Items.{number-takes_none, octets-takes_none, boolean-takes_none, string-takes_none}
use Rattle.td_giop.specs.Alone.{SpellsAlone, IsReadAlone}

pub joins : {Y : Type 0} (g : Sound CdrFault Y) → Joins g.format.spells g.format.reads
joins g = record { found = g.lawful.found; only = g.lawful.only }

-- ---- fields alone

alone-ok : {Y : Type 0} (r : Result (Y × At) CdrFault) (v : Y) → alone r ≡ Ok v → (next : At) × (r ≡ Ok (v, next))
alone-ok {Y = Y} (Ok w) v e =
    let same : w.0 ≡ v = ok_is w.0 v e in
    let made : Y → Result (Y × At) CdrFault = λ y. Ok (y, w.1) in
    (w.1, ap made same)
alone-ok (Err f) v e = absurd cc

alone-err : {Y : Type 0} (r : Result (Y × At) CdrFault) (f : CdrFault) → alone r ≡ Err f → r ≡ Err f
alone-err (Ok v) f e = absurd cc
alone-err (Err g) f e = cc

alone-found : {Y : Type 0} (g : Sound CdrFault Y) (a : At) (v : Y) → a.origin ≤ a.place
    → alone (g.format.reads a) ≡ Ok v → SpellsAlone g a v
alone-found g a v h e =
    let r = alone-ok (g.format.reads a) v e in
    record { next = r.0; found = g.lawful.found a v r.0 h r.1 }

pub read-alone : {Y : Type 0} (g : Sound CdrFault Y) → IsReadAlone g (λ a. alone (g.format.reads a))
read-alone {Y = Y} g = record {
  found = alone-found g;
  only = λ a v b rest h s e. ap (λ (r : Result (Y × At) CdrFault). alone r) (g.lawful.only a v b rest h s e);
  content = λ a f h e. g.refuses.content a f h (alone-err (g.format.reads a) f e);
  refused = λ a f h d. ap (λ (r : Result (Y × At) CdrFault). alone r) (g.refuses.only a f h d);
}

-- ---- no reading runs out of memory

-- no fault is running out of memory
abbrev TakesNone : {Y : Type 0} → Sound CdrFault Y → Type 0
TakesNone g = (a : At) → g.faults a Memory → ⊥

pair-takes_none : {X Y : Type 0} (f : Sound CdrFault X) (g : Sound CdrFault Y) → TakesNone f → TakesNone g
    → TakesNone (f & g)
pair-takes_none f g one two a (ThenFault.first d) = one a d
pair-takes_none f g one two a (ThenFault.second v next found d) = two next d

sequence-takes_none : {X : Type 0} (g : Sound CdrFault X) → TakesNone g → TakesNone (sequence g)
sequence-takes_none g none a (ThenFault.first d) = cc (d.holds.fault, d.fault)
sequence-takes_none g none a (ThenFault.second v next found d) = none d.next d.holds

contexts-takes_none : TakesNone contexts
contexts-takes_none = sequence-takes_none context (pair-takes_none ulong octets (number-takes_none 4) octets-takes_none)

reserved-takes_none : (minor : ℕ) → TakesNone (reserved_field minor)
reserved-takes_none zero = λ a d. d
reserved-takes_none (suc newer) =
    pair-takes_none octet (octet & octet) (number-takes_none 1)
    (pair-takes_none octet octet (number-takes_none 1) (number-takes_none 1))

pub request-takes_none : (minor : ℕ) → TakesNone (request minor)
request-takes_none minor =
    pair-takes_none contexts (ulong & boolean & reserved_field minor & octets & text & principal) contexts-takes_none
    (pair-takes_none ulong (boolean & reserved_field minor & octets & text & principal) (number-takes_none 4)
    (pair-takes_none boolean (reserved_field minor & octets & text & principal) boolean-takes_none
    (pair-takes_none (reserved_field minor) (octets & text & principal) (reserved-takes_none minor)
    (pair-takes_none octets (text & principal) octets-takes_none
    (pair-takes_none text principal string-takes_none octets-takes_none)))))

pub reply-takes_none : TakesNone reply
reply-takes_none =
    pair-takes_none contexts (ulong & ulong) contexts-takes_none
    (pair-takes_none ulong ulong (number-takes_none 4) (number-takes_none 4))

pub locate_request-takes_none : TakesNone locate_request
locate_request-takes_none = pair-takes_none ulong octets (number-takes_none 4) octets-takes_none

pub locate_reply-takes_none : TakesNone locate_reply
locate_reply-takes_none = pair-takes_none ulong ulong (number-takes_none 4) (number-takes_none 4)

pub cancel_request-takes_none : TakesNone cancel_request
cancel_request-takes_none = number-takes_none 4

pub reading-takes_none : {Y : Type 0} (g : Sound CdrFault Y) → TakesNone g → (a : At) → a.origin ≤ a.place
    → g.format.reads a ≡ Err Memory → ⊥
reading-takes_none g none a h e = none a (g.refuses.content a Memory h e)

pub alone-takes_none : {Y : Type 0} (g : Sound CdrFault Y) → TakesNone g → (a : At) → a.origin ≤ a.place
    → alone (g.format.reads a) ≡ Err Memory → ⊥
alone-takes_none g none a h e = reading-takes_none g none a h (alone-err (g.format.reads a) Memory e)
