-- A reply of a hundred offers at most, whose references are small, has few bytes.
use Rattle.std.proofs.Common.{◌≡◌, ℕ, ◌+◌, ◌*◌, ◌≤◌, List, [], ◌∷◌, ◌++◌, length, map, take, drop, refl, sym, subst}
use Rattle.std.proofs.Common.{arith, length-append}
use Rattle.std.proofs.lemmas.List.{length-take}
use Rattle.std.specs.List.{AllByRecursion}
use Rattle.td_audit.specs.Making.{IsOutcomeOfVisit, form}
use Rattle.td_audit.specs.Replies.{spelled_reply}
use Rattle.td_cdr.specs.Format.{row, number as number_format}
use Rattle.td_cdr.specs.Names.{IsTraderName}
use Rattle.td_cdr.specs.declared.order.Order.{Order}
use Rattle.td_cdr.specs.declared.order.Order.TheVariants.{Big}
use Rattle.td_typecode.specs.Formats.{is_nonempty}
use Rattle.td_typecode.specs.References.{reference}
use Rattle.td_drill.specs.Drills.{drill_query}
use Rattle.td_giop.proofs.Lengths.{reply_start_length}
use Rattle.td_giop.specs.Written.{reply_start}
use Rattle.td_iter.proofs.Endings.{ending, ending-short, reference-short}
use Rattle.td_iter.proofs.Lengths.{number-length}
use Rattle.td_iter.specs.Filling.{count_before}
use Rattle.td_iter.specs.Heads.{AreLimits, IsSmallReference, given_or_nil}
use Rattle.td_log_laws.proofs.Carrying.{EndedRefers}
use Rattle.td_log_laws.proofs.Given.{reference-small}
use Rattle.td_log_laws.proofs.Lasting.{EndedSo}
use Rattle.td_log_laws.proofs.Refusing.{refused-brief}
use Rattle.td_log_laws.proofs.Whole.{sealed-length}
use Rattle.td_lookup.specs.Choosing.{chosen}
use Rattle.td_lookup.specs.Querying.{first_offers}
use Rattle.td_objects.specs.References.{IsAddress, offer_iterator}
use Rattle.td_ops.specs.Outcomes.{outcome_piece}
use Rattle.td_ops.specs.declared.call.Query.{Query}
use Rattle.td_ops.specs.declared.outcome.Outcome.{Outcome}
use Rattle.td_session_runs_laws.proofs.Parts.{each-front}
use Rattle.td_types.proofs.Sequences.{each-map}
use Rattle.td_value.specs.Structures.{offer, property}
use Rattle.td_value.specs.declared.structures.Offer.{Offer}
use Rattle.td_value.specs.declared.structures.Property.{Property}
use Rattle.td_walk.specs.declared.trace.Address.{Address}
use Rattle.td_walk.specs.declared.trace.Visit.{Visit}
use Rattle.td_walk.specs.declared.trace.Visit.TheVariants as visit

-- an offer as the drill's query asks for it
record IsBare (o : Offer) : Type 0 where
  small : IsSmallReference o.reference
  bare : o.properties ≡ []

none-short : (order : Order) (place : ℕ) → length (count_before property.format.writes [] order place) ≤ 7
none-short order place =
    omega (
      arith,
      number-length 4 order place 0,
      length-append ((number_format 4).writes 0 order place) [],
    )

offer-short : (o : Offer) → IsBare o → (order : Order) (place : ℕ) → length (offer.format.writes o order place) ≤ 4106
offer-short o h order place =
    let first = reference.format.writes o.reference order place in
    let next = place + length first in
    let whole : length (offer.format.writes o order place)
    ≡ length first + length (count_before property.format.writes o.properties order next) =
    length-append first (count_before property.format.writes o.properties order next) in
    let none : length (count_before property.format.writes o.properties order next) ≤ 7 =
    subst (λ (ps : List Property). length (count_before property.format.writes ps order next) ≤ 7) (sym h.bare)
    (none-short order next) in
    omega (arith, reference-short o.reference h.small order place, whole, none)

offers-short : (offers : List Offer) → AllByRecursion IsBare offers → (order : Order) (place : ℕ)
    → length (row (map offer.format.writes offers) order place) ≤ 4106 * length offers
offers-short [] all order place = omega arith
offers-short (o ∷ offers) all order place =
    let first = offer.format.writes o order place in
    let later = offers-short offers all.1 order (place + length first) in
    let whole = length-append first (row (map offer.format.writes offers) order (place + length first)) in
    omega (arith, offer-short o all.0 order place, later, whole)

module _ (home : Address) (name : List ℕ) (here : IsAddress home) (named : IsTraderName name)
    (limits : List (List ℕ)) (named_limits : AreLimits limits) where
  found-fits : (offers : List Offer) → AllByRecursion IsBare offers → (count : ℕ) → count ≤ 100
      → length (spelled_reply form (first_offers home name 1 limits offers count)) ≤ 414935
  found-fits offers bare count few =
      let start = reply_start Big 0 1 0 in
      let some : List Offer = take count offers in
      let r = given_or_nil (offer_iterator home name 1) (is_nonempty (drop count offers)) in
      let front = reply_start_length Big 0 1 0 in
      let place = length start in
      let number = (number_format 4).writes (length some) Big place in
      let items = row (map offer.format.writes some) Big (place + length number) in
      let first = count_before offer.format.writes some Big place in
      let last = ending limits r Big (place + length first) in
      let body = outcome_piece (first_offers home name 1 limits offers count) Big place in
      let is : length body ≡ length first + length last = length-append first last in
      let list : length first ≡ length number + length items = length-append number items in
      let digits = number-length 4 Big place (length some) in
      let each = offers-short some (each-front IsBare count offers bare) Big (place + length number) in
      let taken = length-take count offers in
      let end = ending-short limits r named_limits
      (reference-small home name here named (is_nonempty (drop count offers))) Big (place + length first) in
      let both = length-append start body in
      let whole = sealed-length Big (start ++ body) (omega (arith, front, both)) in
      omega (arith, front, is, list, digits, each, taken, end, both, whole, few)

-- what the query has ended with is answered in few bytes
pub visit-fits : (home : Address) (name : List ℕ) (q : Query) (v : Visit) (o : Outcome) → IsAddress home
    → IsTraderName name → q ≡ drill_query → EndedSo q v → EndedRefers IsSmallReference q v → IsOutcomeOfVisit home name v o
    → length (spelled_reply form o) ≤ 414935
visit-fits home name q (visit.Refused r) o here named e so refers is =
    subst (λ (x : Outcome). length (spelled_reply form x) ≤ 414935) (sym is)
    (let brief = refused-brief q r e so in omega (arith, brief))
visit-fits home name q (visit.Answered a max_list) o here named e so refers is =
    let few = is.1.asked in
    let bare = each-map (λ (x : Offer). IsSmallReference x.reference) IsBare (chosen drill_query.desired) a.offers
    (λ x small. record { small = small; bare = refl }) refers.0 in
    subst (λ (x : Outcome). length (spelled_reply form x) ≤ 414935) (sym is.2)
    (found-fits home name here named a.limits refers.1 (map (chosen drill_query.desired) a.offers) bare is.0
    (omega (arith, few)))
