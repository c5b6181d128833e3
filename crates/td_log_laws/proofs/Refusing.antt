-- Where a drill's query is refused, the reply has few bytes.
use Rattle.std.proofs.Common.{◌≡◌, ℕ, ◌≤◌, Bool, true, false, if◌then◌else◌, List, codes, length, nat_le, Option, None}
use Rattle.std.proofs.Common.{Some, Result, Ok, Err, refl, sym, ap, subst, ◌∙◌}
use Rattle.std.proofs.lemmas.Bool.{leb-true}
use Rattle.td_audit.specs.Making.{form}
use Rattle.td_audit.specs.Replies.{spelled_reply}
use Rattle.td_cdr.specs.Names.{word_name}
use Rattle.td_changes.specs.declared.bounds.Bounds.{Bounds}
use Rattle.td_drill.specs.Drills.{drill_query}
use Rattle.td_exceptions.specs.declared.exception.UserException.TheVariants as user
use Rattle.td_giop.specs.Written.{reply_start}
use Rattle.td_lang.specs.Constraints.{constraint_of}
use Rattle.td_lang.specs.Preferences.{preference_of}
use Rattle.td_lang.specs.declared.expr.Constraint.{Constraint}
use Rattle.td_lang.specs.declared.expr.Preference.{Preference}
use Rattle.td_lang.specs.declared.fault.LangFault.{LangFault}
use Rattle.td_log_laws.proofs.Lasting.{RefusedSo}
use Rattle.td_ops.specs.declared.call.Query.{Query}
use Rattle.td_ops.specs.declared.outcome.Outcome.{Outcome}
use Rattle.td_register.specs.Causes.{Cause, with_cause, limit_if, raise, refusal_outcome, there, ◌otherwise◌}
use Rattle.td_register.specs.Named.{type_found}
use Rattle.td_register.specs.Registers.{constraint_found, no_more}
use Rattle.td_register.specs.Stores.{Store}
use Rattle.td_register.specs.declared.refusal.Refusal.{Refusal}
use Rattle.td_register.specs.declared.refusal.Refusal.TheVariants.{Raised, Limit}
use Rattle.td_store.specs.declared.record.LinkRecord.{LinkRecord}
use Rattle.td_trader.specs.Queries.{others_cause, parts_cause, parts_of, preference_found, refusal}
use Rattle.td_types.specs.Repository.{type_named}
use Rattle.td_types.specs.declared.entry.ServiceType.{ServiceType}

-- the whole reply has at most 256 bytes
abbrev pub IsBrief : Outcome → Type 0
IsBrief o = length (spelled_reply form o) ≤ 256

-- ---- the replies

abbrev unknown : Outcome
unknown = refusal_outcome (Raised (user.UnknownServiceType (codes "Base")))

abbrev illegal : Outcome
illegal = refusal_outcome (Raised (user.IllegalServiceType (codes "Base")))

abbrev no_constraint : Outcome
no_constraint = refusal_outcome (Raised (user.IllegalConstraint (codes "Cost < 6")))

abbrev no_preference : Outcome
no_preference = refusal_outcome (Raised (user.IllegalPreference (codes "min Cost")))

abbrev limited : Outcome
limited = refusal_outcome Limit

unknown-brief : IsBrief unknown
unfolding reply_start
unknown-brief = leb-true (length (spelled_reply form unknown)) 256 refl

illegal-brief : IsBrief illegal
unfolding reply_start
illegal-brief = leb-true (length (spelled_reply form illegal)) 256 refl

constraint-brief : IsBrief no_constraint
unfolding reply_start
constraint-brief = leb-true (length (spelled_reply form no_constraint)) 256 refl

preference-brief : IsBrief no_preference
unfolding reply_start
preference-brief = leb-true (length (spelled_reply form no_preference)) 256 refl

limit-brief : IsBrief limited
unfolding reply_start
limit-brief = leb-true (length (spelled_reply form limited)) 256 refl

-- ---- the causes

abbrev BriefCause : Cause → Type 0
BriefCause None = Unit {0}
BriefCause (Some f) = IsBrief (refusal_outcome f)

first-brief : (a b : Cause) → BriefCause a → BriefCause b → BriefCause (a otherwise b)
first-brief None b h k = k
first-brief (Some f) b h k = h

type-brief : (legal : Bool) (o : Option ServiceType)
    → BriefCause (with_cause (if legal then there o (user.UnknownServiceType (codes "Base"))
    else raise (user.IllegalServiceType (codes "Base"))) no_more)
type-brief true (Some t) = tt
type-brief true None = unknown-brief
type-brief false o = illegal-brief

asked-brief : (r : Result Constraint LangFault) → BriefCause (with_cause (constraint_found (codes "Cost < 6") r) no_more)
asked-brief (Ok c) = tt
asked-brief (Err f) = constraint-brief

preferred-brief : (r : Result Preference LangFault) → BriefCause (with_cause (preference_found (codes "min Cost") r) no_more)
preferred-brief (Ok p) = tt
preferred-brief (Err f) = preference-brief

bound-brief : (over : Bool) → BriefCause (limit_if over)
bound-brief true = limit-brief
bound-brief false = tt

parts-brief : BriefCause (parts_cause drill_query)
parts-brief =
    first-brief _ _ (asked-brief (constraint_of (codes "Cost < 6")))
    (first-brief _ _ (preferred-brief (preference_of (codes "min Cost"))) tt)

others-brief : (bounds : Bounds) (count : ℕ) (links : List LinkRecord)
    → BriefCause (others_cause bounds count links drill_query (parts_of drill_query).stated)
others-brief bounds count links = bound-brief (nat_le bounds.begins count)

refusal-brief : (bounds : Bounds) (count : ℕ) (s : Store) → BriefCause (refusal bounds count s drill_query)
unfolding refusal
refusal-brief bounds count s =
    first-brief (with_cause (type_found s.types.types (codes "Base")) no_more) _
    (type-brief (word_name (codes "Base")) (type_named s.types.types (codes "Base")))
    (first-brief (parts_cause drill_query) _ parts-brief (others-brief bounds count s.links))

-- ---- an outcome

cause-brief : (cause : Cause) (f : Refusal) → cause ≡ Some f → BriefCause cause → IsBrief (refusal_outcome f)
cause-brief None f e h = absurd cc
cause-brief (Some g) f e h = subst (λ (x : Refusal). IsBrief (refusal_outcome x)) (let same : g ≡ f = cc in same) h

-- which trader refused it makes no difference
pub refused-brief : (q : Query) (o : Outcome) → q ≡ drill_query → RefusedSo q o → IsBrief o
refused-brief q o e so =
    let why = so.3 in
    subst IsBrief (sym why.content)
    (cause-brief (refusal so.0 so.2.count so.1 drill_query) why.cause
    (sym (ap (refusal so.0 so.2.count so.1) e) ∙ why.first) (refusal-brief so.0 so.2.count so.1))
