-- With what an accepted change is answered (OMG's Trading Object Service: what the operations of Register, Link, Proxy,
-- Admin and CosTradingRepos::ServiceTypeRepository that change a trader return).
use Rattle.std.specs.Prelude.{Bool, true, false}
use Rattle.td_ops.specs.declared.outcome.Reply.{Reply}
use Rattle.td_ops.specs.declared.outcome.Reply.TheVariants as reply
use Rattle.td_register.specs.Ids.{id_of}
use Rattle.td_register.specs.declared.change_reply.Kind.{Kind}
use Rattle.td_register.specs.declared.change_reply.Kind.TheVariants as kind

-- the reply that is kept in short
abbrev pub reply_of : Kind → Reply
reply_of kind.Nothing = reply.Nothing
reply_of (kind.Id number) = reply.Id (id_of number)
reply_of (kind.Number value) = reply.Number value
reply_of (kind.Truth value) = reply.Truth value
reply_of (kind.Follow value) = reply.Follow value
reply_of (kind.Stem value) = reply.Stem value
reply_of (kind.Incarnation value) = reply.Incarnation value

-- The reply may be that of a change: what only a look, a query or an iterator is answered with isn't among these.
abbrev pub answers_change : Reply → Bool
answers_change reply.Nothing = true
answers_change (reply.Id id) = true
answers_change (reply.Number value) = true
answers_change (reply.Truth value) = true
answers_change (reply.Follow value) = true
answers_change (reply.Stem value) = true
answers_change (reply.Incarnation value) = true
answers_change (reply.Reference value) = false
answers_change (reply.Names names) = false
answers_change (reply.Offer info) = false
answers_change (reply.Link info) = false
answers_change (reply.Proxy info) = false
answers_change (reply.Typed described) = false
answers_change (reply.Found offers iterator limits) = false
answers_change (reply.Ids ids iterator) = false
answers_change (reply.Batch more offers) = false
answers_change (reply.IdBatch more ids) = false
