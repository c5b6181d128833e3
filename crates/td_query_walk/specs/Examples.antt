-- Worked examples of a visit's questions, of properties as resolved, and of a visit's answer.
use Rattle.std.specs.Prelude.{◌≡◌, ℕ, false, List, [], ◌∷◌, Option, None, Some, codes}
use Rattle.td_typecode.specs.declared.code.Any.{Any}
use Rattle.td_typecode.specs.declared.code.TypeCode.TheVariants as code
use Rattle.td_typecode.specs.declared.code.Value.TheVariants as value
use Rattle.td_typecode.specs.declared.reference.Ior.{Ior}
use Rattle.td_lang.specs.declared.expr.Constraint.TheVariants as constraint
use Rattle.td_lang.specs.declared.expr.Preference.TheVariants as preference
use Rattle.td_ops.specs.declared.call.Query.{Query}
use Rattle.td_policy.specs.Effective.{effective_of}
use Rattle.td_policy.specs.Stated.{nothing}
use Rattle.td_store.specs.Examples.{dynamic_property, plain_property, nobody, nothing_more, offer, printer, as_proxy}
use Rattle.td_store.specs.Examples.{usual}
use Rattle.td_store.specs.declared.local.Local.{Local}
use Rattle.td_store.specs.declared.record.LinkRecord.{LinkRecord}
use Rattle.td_store.specs.declared.record.OfferRecord.{OfferRecord}
use Rattle.td_store.specs.declared.record.ProxyPart.{ProxyPart}
use Rattle.td_value.specs.declared.enumerations.FollowOption.{FollowOption}
use Rattle.td_value.specs.declared.enumerations.FollowOption.TheVariants.{IfNoLocal, Always}
use Rattle.td_value.specs.declared.structures.DynamicProp.{DynamicProp}
use Rattle.td_value.specs.declared.structures.Offer.{Offer}
use Rattle.td_value.specs.declared.structures.Property.{Property}
use Rattle.td_value.specs.declared.unions.SpecifiedProps.TheVariants as props
use Rattle.td_walk.specs.Answers.{IsAnswer}
use Rattle.td_walk.specs.Resolving.{resolved, value_from}
use Rattle.td_walk.specs.SubQueries.{link_query, path_query, proxy_query}
use Rattle.td_walk.specs.Visits.{next_of}
use Rattle.td_walk.specs.declared.answer.Next.TheVariants.{Done, Evaluate, Forward}
use Rattle.td_walk.specs.declared.answer.StepAnswer.TheVariants.{Evaluated, Offers, Failed}
use Rattle.td_walk.specs.declared.answer.SubAnswer.{SubAnswer}
use Rattle.td_walk.specs.declared.evaluation.Evaluation.{Evaluation}

-- ---- visits

-- all offers of Printer, with all their properties, in any order
abbrev pub example_query : Query
example_query = record {
  service_type = printer;
  constraint = [];
  preference = [];
  policies = [];
  desired = props.All;
  how_many = 10;
}

-- a search of a new trader's, with the identifier q
abbrev pub search : List OfferRecord → List LinkRecord → Local
search candidates links = record {
  point = 0;
  mark = 1;
  path = None;
  query = example_query;
  identifier = Some (codes "q");
  stated = nothing;
  effective = effective_of nothing usual;
  attributes = usual;
  constraint = constraint.Empty;
  preference = preference.Empty;
  candidates = candidates;
  links = links;
}

abbrev pub elsewhere : Ior
elsewhere = record { id = codes "IDL:B:1.0"; profiles = [] }

abbrev pub link : (limiting : FollowOption) → LinkRecord
link limiting = record {
  name = codes "b";
  target = elsewhere;
  register = nobody;
  def_pass_on = IfNoLocal;
  limiting = limiting;
}

-- an offer without properties
abbrev pub plain : OfferRecord
plain = offer 1 printer 1 []

-- a proxy offer that passes on the constraint as it is
abbrev pub proxy : OfferRecord
proxy = as_proxy (offer 2 printer 1 [])

abbrev pub as_it_is : ProxyPart
as_it_is = record { if_match_all = false; recipe = codes "$*"; policies = [] }

abbrev pub queue_offer : OfferRecord
queue_offer = offer 3 printer 1 (dynamic_property (codes "Queue") ∷ [])

-- a search over one link
abbrev pub over : FollowOption → (candidates : List OfferRecord) → Local
over limiting candidates = search candidates (link limiting ∷ [])

-- the same visit, which returns so many offers at most
abbrev pub with_return_card : ℕ → Local → Local
with_return_card n l = record l { effective = record l.effective { return_card = n } }

-- and in any order
abbrev pub randomly : Local → Local
randomly l = record l { preference = preference.Random }

abbrev pub along : Local
along = record (search [] []) {
  path = Some (link Always);
  stated = record nothing { start = Some (codes "b" ∷ []) };
}

pub record WorkedVisits : Type 0 where
  -- nothing to ask
  pub alone : next_of (search (plain ∷ []) []) [] ≡ Done
  -- a link is followed once
  pub followed : next_of (over Always (plain ∷ [])) []
      ≡ Forward elsewhere (link_query (over Always (plain ∷ [])) (Some 999) (link Always))
  pub answered : next_of (over Always (plain ∷ [])) (Failed ∷ []) ≡ Done
  -- a link of if_no_local, where an ordinary offer matched and where none did
  pub with_match : next_of (over IfNoLocal (plain ∷ [])) [] ≡ Done
  pub without_match : next_of (over IfNoLocal []) []
      ≡ Forward elsewhere (link_query (over IfNoLocal []) (Some 1000) (link IfNoLocal))
  -- along a path the one trader is asked
  pub on_the_way : next_of along [] ≡ Forward elsewhere (path_query along)
  pub on_the_way_back : next_of along (Failed ∷ []) ≡ Done
  -- however many offers are to be returned
  pub on_any_way : next_of (with_return_card 0 along) []
      ≡ Forward elsewhere (path_query (with_return_card 0 along))
  -- where enough offers matched, nobody is asked, unless they get another order
  pub enough : next_of (with_return_card 1 (over Always (plain ∷ []))) [] ≡ Done
  pub none_wanted : next_of (with_return_card 0 (over Always [])) [] ≡ Done
  pub at_random : next_of (randomly (with_return_card 1 (over Always (plain ∷ [])))) []
      ≡ Forward elsewhere (link_query (randomly (with_return_card 1 (over Always (plain ∷ []))))
      None
      (link Always))

pub record WorkedProxies : Type 0 where
  -- a proxy offer comes before a link, and isn't a match of if_no_local; an empty constraint goes on as TRUE
  pub called : next_of (over IfNoLocal (proxy ∷ [])) []
      ≡ Forward nobody (proxy_query (over IfNoLocal (proxy ∷ []))
      (Some 1000) as_it_is (codes "TRUE"))
  pub behind_it : next_of (over IfNoLocal (proxy ∷ [])) (Failed ∷ [])
      ≡ Forward elsewhere (link_query (over IfNoLocal (proxy ∷ [])) (Some 1000) (link IfNoLocal))

pub record WorkedEvaluations : Type 0 where
  -- a desired property is evaluated
  pub asked_for : next_of (search (queue_offer ∷ []) []) []
      ≡ Evaluate nobody (codes "Queue") code.ULong nothing_more
  pub failed : next_of (search (queue_offer ∷ []) []) (Failed ∷ []) ≡ Done

-- ---- properties

abbrev pub seven : Any
seven = record { code = code.ULong; value = value.ULong 7 }

abbrev pub under : (name : List ℕ) → Option Any → Evaluation
under name value = record { name = name; value = value }

abbrev pub queue_and_serial : List Property
queue_and_serial = dynamic_property (codes "Queue") ∷ plain_property (codes "Serial") ∷ []

abbrev pub unreachable : DynamicProp
unreachable = record { eval_if = nobody; returned_type = code.ULong; extra_info = nothing_more }

pub record WorkedResolving : Type 0 where
  -- a dynamic property that isn't evaluated, and one whose evaluation gave nothing, are absent
  pub not_evaluated : resolved [] queue_and_serial ≡ plain_property (codes "Serial") ∷ []
  pub without_value : resolved (under (codes "Queue") None ∷ []) queue_and_serial
      ≡ plain_property (codes "Serial") ∷ []
  -- a value stands in the property's place
  pub with_value : resolved (under (codes "Queue") (Some seven) ∷ []) queue_and_serial
      ≡ plain_property (codes "Queue") ∷ plain_property (codes "Serial") ∷ []
  -- an evaluator without an IIOP profile gives no value
  pub not_reached : (a : Any) → value_from unreachable (Evaluated a) ≡ None

-- ---- answers

abbrev pub here : Offer
here = record { reference = nobody; properties = [] }

abbrev pub far : Offer
far = record { reference = elsewhere; properties = [] }

-- what another trader answers, which was limited too
abbrev pub given_there : SubAnswer
given_there = record { offers = far ∷ []; limits = codes "hop_count" ∷ [] }

-- and gives more than one offer
abbrev pub more_given : SubAnswer
more_given = record { offers = far ∷ here ∷ []; limits = [] }

pub record WorkedAnswers (word : ℕ → ℕ) : Type 0 where
  -- the offer that matched here, and then the other trader's
  pub both : IsAnswer (over Always (plain ∷ [])) (Offers given_there ∷ []) word
      (record { offers = here ∷ far ∷ []; limits = codes "hop_count" ∷ [] })
  -- the other trader gives none
  pub failed : IsAnswer (over Always (plain ∷ []))
      (Failed ∷ []) word (record { offers = here ∷ []; limits = [] })
  -- the answer is cut, where the other trader gives more than was wanted
  pub cut : IsAnswer (with_return_card 2 (over Always (plain ∷ []))) (Offers more_given ∷ []) word
      (record { offers = here ∷ far ∷ []; limits = [] })
  -- and where enough matched, nobody is asked
  pub enough : IsAnswer (with_return_card 1 (over Always (plain ∷ []))) [] word
      (record { offers = here ∷ []; limits = [] })
