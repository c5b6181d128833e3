-- What the words ask for is answered with lines.
use Rattle.std.proofs.Common.{◌≡◌, ℕ, Bool, true, false, cond, refl, List, [], Option, Some, None, subst}
use Rattle.std.specs.Prelude.{IfSome, is_some, ⊤, Ok}
use Rattle.std.specs.List.{list_any}
use Rattle.clap.specs.Words.{Text}
use Rattle.td_cdr.specs.Text.{has_nul}
use Rattle.td_typecode.specs.declared.reference.Ior.{Ior}
use Rattle.td_forms.specs.Words.{rule_named}
use Rattle.td_ior.specs.Keys.{◌>>=◌}
use Rattle.td_ior.specs.Profiles.{iiop_of}
use Rattle.td_ior.specs.Texts.{reference_in}
use Rattle.td_ior.specs.declared.profile.Iiop.{Iiop}
use Rattle.td_ops.specs.Called.{operation_in}
use Rattle.td_ops.specs.Operations.{row}
use Rattle.td_ops.specs.declared.call.Call.{Call}
use Rattle.td_ops.specs.declared.call.Call.TheVariants as call
use Rattle.td_ops.specs.declared.call.Change.TheVariants as change
use Rattle.td_ops.specs.declared.call.Look.TheVariants as look
use Rattle.td_ops.specs.declared.outcome.Answered.{Answered as Told}
use Rattle.td_value.specs.declared.structures.Property.{Property}
use Rattle.td_value.specs.declared.unions.SpecifiedServiceTypes.TheVariants as which
use Rattle.td_cli_request.specs.Askings.{asking_of, call_of_word}
use Rattle.td_cli_request.specs.Forms.{target_in}
use Rattle.td_cli_request.specs.Properties.{properties_behind}
use Rattle.td_cli_request.specs.Queries.{query_in}
use Rattle.td_cli_request.specs.Types.{items_behind, nothing_yet}
use Rattle.td_cli_request.specs.declared.making.Asking.{Asking}
use Rattle.td_cli_request.specs.declared.making.Asking.TheVariants as wish
use Rattle.td_cli_args.specs.Answers.{asked_of}
use Rattle.td_cli_args.specs.Wishes.{CommandWords, AskedExport, query, export, withdraw, describe, link, links, types}
use Rattle.td_cli_args.specs.Wishes.{addtype}
use Rattle.td_wire.specs.Connections.{Traffic}
use Rattle.td_call.specs.Calling.{NewConnectionAnswers, first_id, next_given}
use Rattle.td_call.specs.Readings.{outcome_in_reply}
use Rattle.td_call.specs.Replies.{ReplyResult}
use Rattle.td_call.specs.Requests.{request_of}
use Rattle.td_remote_query.specs.Querying.{AsksBy, query_answer, second_given}
use Rattle.td_remote_query.specs.Draining.{raised}
use Rattle.td_remote_query.specs.declared.gathered.Gathered.TheVariants.{Offers, Refused}
use Rattle.td_cli_program.specs.Outcomes.{outcome_lines}
use Rattle.td_cli_program.specs.Sending.{Line, SendsAsked}
use Rattle.td_cli_program.specs.Words.{asking_in}
use Rattle.td_cli_program.specs.declared.outcome.Outcome.{Outcome}
use Rattle.td_cli_program.specs.declared.outcome.Outcome.TheVariants.{Gathered, Answered}
use Rattle.td_cli_program.proofs.Coming.{AllContent, replied_content}
use Rattle.td_cli_program.proofs.Endings.{raised_lined}
use Rattle.td_cli_program.proofs.Results.{HasLines, is_lined, outcome_lined}

-- a query, or a call of an operation whose result has lines
abbrev IsLined : Asking → Type 0
IsLined (wish.Query target q) = ⊤
IsLined (wish.Call target c) = is_lined (row (operation_in c)).result ≡ true

bound : {A : Type 0} (o : Option A) (f : A → Option Asking) → ((a : A) → IfSome (f a) IsLined)
    → IfSome (o >>= f) IsLined
bound (Some a) f h = h a
bound None f h = tt

called_lined : (reference : List ℕ) (c : Call) → is_lined (row (operation_in c)).result ≡ true
    → IfSome (call_of_word reference c) IsLined
called_lined reference c e = bound (target_in reference) _ (λ target. e)

exported : (object : Option Ior) (properties : Option (List Property)) (e : AskedExport)
    → IfSome ((object >>= λ o. (properties >>= λ ps. Some (change.Export o e.service ps)))
    >>= λ c. call_of_word e.reference (call.Change c)) IsLined
exported (Some o) (Some ps) e = called_lined e.reference (call.Change (change.Export o e.service ps)) refl
exported (Some o) None e = tt
exported None properties e = tt

asked_lined : (a : CommandWords) → IfSome (asking_of a) IsLined
asked_lined (query q) = bound (query_in q) _ (λ p. bound (target_in q.reference) _ (λ target. tt))
asked_lined (export e) = exported (reference_in e.object) (properties_behind [] e.properties) e
asked_lined (withdraw reference number) = called_lined reference (call.Change (change.Withdraw number)) refl
asked_lined (describe reference number) = called_lined reference (call.Look (look.Describe number)) refl
asked_lined (link l) =
    bound (rule_named l.def_pass_on) _
    (λ d. bound (rule_named l.limiting) _
    (λ m. bound (reference_in l.target) _
    (λ o. called_lined l.reference
    (call.AddLink (record { name = l.name; target = o; def_pass_on = d; limiting = m })) refl)))
asked_lined (links reference) = called_lined reference (call.Look look.ListLinks) refl
asked_lined (types reference) = called_lined reference (call.Look (look.ListTypes which.All)) refl
asked_lined (addtype t) =
    bound (items_behind nothing_yet t.items) _
    (λ i. called_lined t.reference (call.Change (change.AddType t.name t.interface i.props i.supers)) refl)

read_lined : (b : Bool) (o : Option CommandWords) → IfSome (cond b None (o >>= asking_of)) IsLined
read_lined true o = tt
read_lined false o = bound o asking_of asked_lined

words_lined : (words : List Text) → IfSome (asking_in words) IsLined
unfolding asking_in
words_lined words = read_lined (list_any has_nul words) (asked_of words)

-- ---- what comes back

refused_lined : (o : Option Iiop) (c : Call) (t : Traffic) (before after : Option Traffic) (f0 f1 : ℕ) (answer : Told)
    → before ≡ Some t → AsksBy o c before after f0 f1 (Ok (Refused answer)) → HasLines answer
refused_lined (Some p) c t before after f0 f1 answer tells x =
    raised_lined p c (next_given t) (second_given t) answer
    (subst
    (λ (b : Option Traffic). IfSome b (λ u. query_answer p c (next_given u) (second_given u) ≡ raised answer)) tells x)
refused_lined None c t before after f0 f1 answer tells x = absurd x

sent : (asking : Asking) (t : Traffic) (v w : Line) (o : Outcome) → IsLined asking → v.content ≡ Some t
    → SendsAsked asking v w (Ok o) → is_some (outcome_lines o) ≡ true
sent (wish.Query target q) t v w (Gathered (Offers found)) known tells s = refl
sent (wish.Query target q) t v w (Gathered (Refused answer)) known tells s =
    refused_lined (iiop_of target) (call.Query q) t v.content w.content v.faults w.faults answer tells s.asks
sent (wish.Query target q) t v w (Answered a) known tells s = absurd s
sent (wish.Call target c) t v w (Gathered g) known tells s = absurd s
sent (wish.Call target c) t v w (Answered a) known tells s =
    let p = s.called.0 in
    let came =
    subst
    (λ (before : Option Traffic).
    IfSome before (λ u. NewConnectionAnswers (outcome_in_reply c) (request_of first_id p c) p u w.content a))
    tells s.called.2 in
    subst (λ (x : ReplyResult Told). AllContent HasLines x) came.is
    (replied_content HasLines (outcome_in_reply c) (λ status at. outcome_lined c status at known) first_id (next_given t))

pub lined : (words : List Text) (asking : Asking) (t : Traffic) (v w : Line) (o : Outcome)
    → asking_in words ≡ Some asking → v.content ≡ Some t → SendsAsked asking v w (Ok o) → is_some (outcome_lines o) ≡ true
lined words asking t v w o e tells s =
    sent asking t v w o (subst (λ (x : Option Asking). IfSome x IsLined) e (words_lined words)) tells s
