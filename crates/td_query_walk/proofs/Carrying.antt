-- Each query that a search passes on carries the search's identifier, and states it where its policies can be read.
use Rattle.std.proofs.Common.{◌≡◌, ℕ, List, Option, Some, None, is_some, refl, ◌∙◌, codes}
use Rattle.td_typecode.specs.declared.reference.Ior.{Ior}
use Rattle.td_ops.specs.declared.call.Query.{Query}
use Rattle.td_policy.specs.Rules.{pass_on}
use Rattle.td_store.specs.declared.local.Local.{Local}
use Rattle.td_store.specs.declared.record.LinkRecord.{LinkRecord}
use Rattle.td_store.specs.declared.record.ProxyPart.{ProxyPart}
use Rattle.td_walk.specs.Passing.{with_search_policies}
use Rattle.td_walk.specs.SubQueries.{link_query, proxy_query, path_query, path_left, stated_rule, wanted_behind}
use Rattle.td_walk.specs.Visits.{next_of}
use Rattle.td_walk.specs.declared.answer.Next.TheVariants.{Forward}
use Rattle.td_walk.specs.declared.answer.StepAnswer.{StepAnswer}
use Rattle.td_query_walk.specs.Reach.{IsPassed, over_link, to_proxy, along_path}
use Rattle.td_query_walk.specs.SubQueryLaws.{CarriesIdentifier, StatesIdentifier}
use Rattle.td_query_walk.proofs.Passed.{along_a_path as states_along, identifier-kept, over_a_link, to_a_proxy}
use Rattle.td_query_walk.proofs.Questions.{only_passed}
use Rattle.td_query_walk.proofs.Replaced.{identifier-there, path-stays}

over-a-link : (l : Local) (wanted : Option ℕ) (link : LinkRecord) → CarriesIdentifier None l (link_query l wanted link)
unfolding link_query
over-a-link l wanted link id is =
    rw is
    (identifier-there l.effective.hops (Some (pass_on l.stated l.attributes link.limiting link.def_pass_on)) id
    wanted l.query.policies)

to-a-proxy : (l : Local) (wanted : Option ℕ) (part : ProxyPart) (constraint : List ℕ)
    → CarriesIdentifier None l (proxy_query l wanted part constraint)
unfolding proxy_query
to-a-proxy l wanted part constraint id is =
    let r = stated_rule l.stated.follow l.attributes.max_follow_policy in
    identifier-kept (is_some wanted) part.policies
    (with_search_policies l.effective.hops r l.identifier wanted l.query.policies)
    ∙ rw is (identifier-there l.effective.hops r id wanted l.query.policies)

along-a-path : (l : Local) (link : LinkRecord) → CarriesIdentifier (Some link) l (path_query l)
unfolding path_query
along-a-path l link = path-stays (codes "request_id") (path_left l.stated.start) l.query.policies refl refl

carries : (l : Local) (target : Ior) (sub : Query) (p : Option LinkRecord) → l.path ≡ p → IsPassed l target sub
    → CarriesIdentifier p l sub
carries l target sub None is (over_link link gathered none hops some) = over-a-link l (wanted_behind l gathered) link
carries l target sub None is (to_proxy o part constraint gathered none hops some) =
    to-a-proxy l (wanted_behind l gathered) part constraint
carries l target sub None is (along_path link other) = absurd cc
carries l target sub (Some link) is (over_link other gathered none hops some) = absurd cc
carries l target sub (Some link) is (to_proxy o part constraint gathered none hops some) = absurd cc
carries l target sub (Some link) is (along_path other at) = along-a-path l link

pub carry : (l : Local) (answers : List StepAnswer) (target : Ior) (sub : Query)
    → next_of l answers ≡ Forward target sub → CarriesIdentifier l.path l sub
carry l answers target sub asked = carries l target sub l.path refl (only_passed l answers target sub asked)

-- ---- where its policies can be read

states : (l : Local) (target : Ior) (sub : Query) (p : Option LinkRecord) → l.path ≡ p → IsPassed l target sub
    → StatesIdentifier p l sub
unfolding path_query
states l target sub None is (over_link link gathered none hops some) = λ id s named read.
    (over_a_link l (wanted_behind l gathered) link s read).identifier id named
states l target sub None is (to_proxy o part constraint gathered none hops some) = λ id s named read.
    (to_a_proxy l (wanted_behind l gathered) part constraint s read).identifier id named
states l target sub None is (along_path link other) = absurd cc
states l target sub (Some link) is (over_link other gathered none hops some) = absurd cc
states l target sub (Some link) is (to_proxy o part constraint gathered none hops some) = absurd cc
states l target sub (Some link) is (along_path other at) = λ own s stated_so read.
    (states_along (path_left l.stated.start) l.query.policies own s stated_so read).identifier

pub state : (l : Local) (answers : List StepAnswer) (target : Ior) (sub : Query)
    → next_of l answers ≡ Forward target sub → StatesIdentifier l.path l sub
state l answers target sub asked = states l target sub l.path refl (only_passed l answers target sub asked)
