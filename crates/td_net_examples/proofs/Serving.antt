-- How the queries of the examples are served, and the trees of their calls.
use Rattle.std.proofs.Common.{◌≡◌, ℕ, suc, ◌+◌, ◌≤◌, Bool, true, false, not, List, [], ◌∷◌, length, map}
use Rattle.std.proofs.Common.{slice_get, Option, Some, None, Result, Ok, refl, sym, ap, ◌∙◌, subst, arith, codes}
use Rattle.std.specs.Result.{result_unwrap_or}
use Rattle.td_cdr.specs.Marks.{Marks}
use Rattle.td_typecode.specs.declared.reference.Ior.{Ior}
use Rattle.td_lang.specs.Constraints.{constraint_of}
use Rattle.td_lang.specs.Preferences.{preference_of}
use Rattle.td_lang.specs.declared.expr.Constraint.TheVariants as constraint
use Rattle.td_lang.specs.declared.expr.Preference.TheVariants as preference
use Rattle.td_net.specs.Supplies.{words_from}
use Rattle.td_net.specs.Worlds.{delivery_of}
use Rattle.td_net.specs.declared.call.Call.{Call}
use Rattle.td_net.specs.declared.call.Delivery.{Delivery}
use Rattle.td_net.specs.declared.call.QuestionStep.{QuestionStep}
use Rattle.td_net.specs.declared.call.QuestionStep.TheVariants as step
use Rattle.td_net_examples.specs.Fixtures.{asks, asks_under}
use Rattle.td_net_laws.specs.Arrivals.{Here, Way, head_of, identifier_at, search_at, way_by, way_of}
use Rattle.td_net_laws.specs.Steps.{GivesAnswer, AsksEach, IsSubCall, HasSteps, given, lost, nothing_yet}
use Rattle.td_net_laws.specs.Trees.{IsTree, TreeAt, TreeBy, is_visited}
use Rattle.td_ops.specs.declared.call.Query.{Query}
use Rattle.td_policy.proofs.ReadBack.{number_back, octets_back, rule_back}
use Rattle.td_policy.specs.Effective.{effective_of}
use Rattle.td_policy.specs.Stated.{nothing, stated}
use Rattle.td_policy.specs.declared.fault.PolicyFault.{PolicyFault}
use Rattle.td_policy.specs.declared.stated.Stated.{Stated}
use Rattle.td_register.specs.Causes.{Cause, with_cause as where_given, ◌otherwise◌}
use Rattle.td_register.specs.Named.{type_found}
use Rattle.td_register.specs.Registers.{asked_in, no_more}
use Rattle.td_register.specs.Stores.{Store}
use Rattle.td_store.specs.declared.local.Local.{Local}
use Rattle.td_trader.specs.Beginning.{query_identifier}
use Rattle.td_trader.specs.PlainTraders.{PlainTrader, store_of}
use Rattle.td_trader.specs.Queries.{others_cause, path_link, preferred_in, refusal, unless_fault}
use Rattle.td_trader.specs.Serving.{candidates_of, local_of}
use Rattle.td_value.specs.declared.enumerations.FollowOption.TheVariants.{Always}
use Rattle.td_walk.specs.Answers.{IsAnswer}
use Rattle.td_walk.specs.Visits.{next_of}
use Rattle.td_walk.specs.declared.answer.Next.TheVariants.{Done, Forward}
use Rattle.td_walk.specs.declared.answer.StepAnswer.{StepAnswer}
use Rattle.td_walk.specs.declared.answer.StepAnswer.TheVariants as answer
use Rattle.td_walk.specs.declared.answer.SubAnswer.{SubAnswer}
use Rattle.td_query_walk.specs.Walks.{no_offers as no_offers}

-- ---- what the queries state

abbrev pub states : (identifier : List ℕ) → (hops card : ℕ) → Stated
states identifier hops card = record nothing {
  hops = Some hops;
  follow = Some Always;
  request_id = Some identifier;
  return_card = Some card;
}

pub asks-states : (identifier : List ℕ) (hops card : ℕ) → length identifier ≤ 256
    → stated (asks_under identifier hops card).policies ≡ Ok (states identifier hops card)
asks-states identifier hops card few =
    let first = number_back (codes "hop_count") hops in
    let second = rule_back (codes "link_follow_rule") Always in
    let third = octets_back (codes "request_id") identifier 256 few in
    let fourth = number_back (codes "return_card") card in
    rw (first, second, third, fourth) refl

-- ---- how they are served, by what their policies state

-- what a query is searched with
abbrev pub served : Store → (point : ℕ) → Marks → Query → Result Stated PolicyFault → Local
served s point m q r =
    let says = result_unwrap_or r nothing in
    record {
      point = point;
      mark = m.count + 1;
      path = None;
      query = q;
      identifier = Some (query_identifier m s.attributes.request_id_stem says.request_id).identifier;
      stated = says;
      effective = effective_of says s.attributes;
      attributes = s.attributes;
      constraint = result_unwrap_or (constraint_of q.constraint) constraint.Empty;
      preference = result_unwrap_or (preference_of q.preference) preference.Empty;
      candidates = candidates_of s q says;
      links = s.links;
    }

abbrev pub served_at : PlainTrader → Query → Result Stated PolicyFault → Local
served_at t q r = served (store_of t) (length t.history) t.marks q r

pub search-is : (t : PlainTrader) (q : Query) (r : Result Stated PolicyFault) → stated q.policies ≡ r
    → search_at t q ≡ served_at t q r
unfolding identifier_at local_of
search-is t q r is = ap (served_at t q) is

-- under which identifier
pub identifier-is : (t : PlainTrader) (identifier : List ℕ) (hops card : ℕ) → length identifier ≤ 256
    → identifier_at t (asks_under identifier hops card) ≡ identifier
unfolding identifier_at
identifier-is t identifier hops card few =
    ap
    (λ (r : Result Stated PolicyFault).
    (query_identifier t.marks (store_of t).attributes.request_id_stem (result_unwrap_or r nothing).request_id).identifier)
    (asks-states identifier hops card few)

-- why a query is refused, if it is
abbrev pub cause_at : PlainTrader → Query → Result Stated PolicyFault → Cause
cause_at t q r =
    where_given (type_found (store_of t).types.types q.service_type) no_more
    otherwise (where_given (asked_in q.constraint) no_more
    otherwise where_given (preferred_in q.preference) no_more
    otherwise where_given (unless_fault r) no_more)
    otherwise others_cause t.bounds t.marks.count (store_of t).links q (result_unwrap_or r nothing)

-- where it goes
abbrev pub way_at : PlainTrader → Query → Result Stated PolicyFault → Way
way_at t q r = way_by (cause_at t q r) (path_link (store_of t).links (result_unwrap_or r nothing))

pub way-is : (t : PlainTrader) (q : Query) (r : Result Stated PolicyFault) → stated q.policies ≡ r
    → way_of t q ≡ way_at t q r
unfolding way_of refusal
way-is t q r is = ap (way_at t q) is

-- what a query of the examples is searched with
abbrev pub local : PlainTrader → (hops card : ℕ) → Local
local t hops card = served_at t (asks hops card) (Ok (states (codes "q") hops card))

-- a trader that takes a query of the examples is visited by it
pub is-here : (t : PlainTrader) (hops card : ℕ) → way_at t (asks hops card) (Ok (states (codes "q") hops card)) ≡ Here
    → way_of t (asks hops card) ≡ Here
is-here t hops card way = way-is t (asks hops card) (Ok (states (codes "q") hops card)) (asks-states (codes "q") hops card (omega arith)) ∙ way

-- ---- the tree of a call that came so to its trader

-- a call that was opened by another one
pub opened : (calls : List Call) (c d : ℕ) (o : Call) → slice_get calls d ≡ Some o → o.caller ≡ Some c
    → IsSubCall calls c o.target o.query d
opened calls c d o is by = record { call = o; is = is; at = refl; asks = refl; by = by }

module _ (calls : List Call) (inside : Ior → Option ℕ) (words : List ℕ) (f c : ℕ) (k : Call) (t : PlainTrader)
    (serial hops card : ℕ) (is : slice_get calls c ≡ Some k) (delivered : k.delivery ≡ Some (delivery_of serial t))
    (asked : k.query ≡ asks hops card) (way : way_at t (asks hops card) (Ok (states (codes "q") hops card)) ≡ Here) where
  abbrev Sub : ℕ → SubAnswer → Type 0
  Sub = IsTree f calls inside words

  here : way_of t k.query ≡ Here
  here = ap (way_of t) asked ∙ is-here t hops card way

  at-search : search_at t k.query ≡ local t hops card
  at-search =
      ap (search_at t) asked
      ∙ search-is t (asks hops card) (Ok (states (codes "q") hops card)) (asks-states (codes "q") hops card (omega arith))

  -- from what it gives where it visits its trader, for the first time or again
  by-visit : (a : SubAnswer) (b : Bool) → is_visited (map head_of calls) k.target k.root serial ≡ not b
      → GivesAnswer calls inside c Sub words k t a Here b → IsTree (suc f) calls inside words c a
  by-visit a b before gives =
      let flipped : not (is_visited (map head_of calls) k.target k.root serial) ≡ b = ap not before ∙ twice b in
      let by_way : GivesAnswer calls inside c Sub words k t a (way_of t k.query) b =
      subst (λ (w : Way). GivesAnswer calls inside c Sub words k t a w b) (sym here) gives in
      let by_marks : GivesAnswer calls inside c Sub words k t a (way_of t k.query)
      (not (is_visited (map head_of calls) k.target k.root serial)) =
      subst (λ (x : Bool). GivesAnswer calls inside c Sub words k t a (way_of t k.query) x) (sym flipped) by_way in
      let by_delivery : TreeBy calls inside c Sub words a k k.delivery =
      subst (λ (d : Option Delivery). TreeBy calls inside c Sub words a k d) (sym delivered) by_marks in
      subst (TreeAt calls inside c Sub words a) (sym is) by_delivery
    where
      twice : (x : Bool) → not (not x) ≡ x
      twice true = refl
      twice false = refl

  -- one that comes to a trader that was visited has nothing
  pub repeat-tree : is_visited (map head_of calls) k.target k.root serial ≡ true
      → IsTree (suc f) calls inside words c no_offers
  repeat-tree before = by-visit no_offers false before refl

  -- one that comes to a new one has the answer of its questions
  pub new-tree : (a : SubAnswer) → is_visited (map head_of calls) k.target k.root serial ≡ false
      → AsksEach calls inside c Sub words k a (local t hops card) → IsTree (suc f) calls inside words c a
  new-tree a before questions =
      by-visit a true before (subst (λ (l : Local). AsksEach calls inside c Sub words k a l) (sym at-search) questions)

  -- no question
  pub none-tree : (a : SubAnswer) → is_visited (map head_of calls) k.target k.root serial ≡ false → k.steps ≡ []
      → next_of (local t hops card) [] ≡ Done → IsAnswer (local t hops card) [] (words_from words k.drawn) a
      → IsTree (suc f) calls inside words c a
  none-tree a before steps done gives =
      new-tree a before
      (record {
        answers = [];
        content = subst (λ (ss : List QuestionStep). HasSteps calls inside c (local t hops card) Sub [] ss) (sym steps) nothing_yet;
        none_left = done;
        is_answer = gives;
      })

  -- what came of the first question
  abbrev pub AnswersFirst : QuestionStep → StepAnswer → Type 0
  AnswersFirst s r = HasSteps calls inside c (local t hops card) Sub (r ∷ []) (s ∷ [])

  pub first-given : (d place : ℕ) (other : Ior) (q : Query) (b : SubAnswer)
      → next_of (local t hops card) [] ≡ Forward other q → inside other ≡ Some place → IsSubCall calls c place q d
      → IsTree f calls inside words d b → AnswersFirst (step.Given d) (answer.Offers b)
  first-given d place other q b asks_other within opened tree = given nothing_yet asks_other within opened tree

  pub first-lost : (d place : ℕ) (other : Ior) (q : Query) → next_of (local t hops card) [] ≡ Forward other q
      → inside other ≡ Some place → IsSubCall calls c place q d → AnswersFirst (step.Lost d) answer.Failed
  first-lost d place other q asks_other within opened = lost nothing_yet asks_other within opened

  -- one question
  pub once-tree : (a : SubAnswer) (s : QuestionStep) (r : StepAnswer)
      → is_visited (map head_of calls) k.target k.root serial ≡ false → k.steps ≡ s ∷ [] → AnswersFirst s r
      → next_of (local t hops card) (r ∷ []) ≡ Done → IsAnswer (local t hops card) (r ∷ []) (words_from words k.drawn) a
      → IsTree (suc f) calls inside words c a
  once-tree a s r before steps content done gives =
      new-tree a before
      (record {
        answers = r ∷ [];
        content = subst (λ (ss : List QuestionStep). HasSteps calls inside c (local t hops card) Sub (r ∷ []) ss) (sym steps) content;
        none_left = done;
        is_answer = gives;
      })

  -- two questions
  pub twice-tree : (a : SubAnswer) (s : QuestionStep) (r : StepAnswer) (d place : ℕ) (other : Ior) (q : Query) (b : SubAnswer)
      → is_visited (map head_of calls) k.target k.root serial ≡ false → k.steps ≡ s ∷ step.Given d ∷ []
      → AnswersFirst s r → next_of (local t hops card) (r ∷ []) ≡ Forward other q → inside other ≡ Some place
      → IsSubCall calls c place q d → IsTree f calls inside words d b
      → next_of (local t hops card) (r ∷ answer.Offers b ∷ []) ≡ Done
      → IsAnswer (local t hops card) (r ∷ answer.Offers b ∷ []) (words_from words k.drawn) a
      → IsTree (suc f) calls inside words c a
  twice-tree a s r d place other q b before steps content asks_other within opened tree done gives =
      let both : HasSteps calls inside c (local t hops card) Sub (r ∷ answer.Offers b ∷ []) (s ∷ step.Given d ∷ []) =
      given content asks_other within opened tree in
      new-tree a before
      (record {
        answers = r ∷ answer.Offers b ∷ [];
        content = subst (λ (ss : List QuestionStep). HasSteps calls inside c (local t hops card) Sub (r ∷ answer.Offers b ∷ []) ss)
            (sym steps) both;
        none_left = done;
        is_answer = gives;
      })
