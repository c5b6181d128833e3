-- What queries are told can be written, where the traders' values, what a connection keeps for its iterators and what
-- peers gave can be.
use Rattle.std.proofs.Common.{ℕ, ◌^◌, ◌<◌, Bool, true, false, if◌then◌else◌, List, [], ◌∷◌, length, map}
use Rattle.std.proofs.Common.{take, drop, refl, sym, subst, arith}
use Rattle.std.specs.List.{AllByRecursion}
use Rattle.td_cdr.specs.Marks.{Marks}
use Rattle.td_cdr.specs.Sound.{sequence, text}
use Rattle.td_cdr.specs.Writing.{Draft}
use Rattle.td_typecode.specs.Formats.{is_nonempty}
use Rattle.td_typecode.specs.References.{reference}
use Rattle.td_fed.proofs.Members.{Beginnings, Insides}
use Rattle.td_objects.specs.Interfaces.{interface_id}
use Rattle.td_objects.specs.References.{offer_iterator}
use Rattle.td_objects.specs.declared.interface.Interface.TheVariants as interface
use Rattle.td_targets.specs.Targets.{inside_group}
use Rattle.td_fed.specs.Visiting.{BeginsVisit, Walks, course}
use Rattle.td_ior.proofs.Texts.{made-admitted}
use Rattle.td_ior.specs.Keys.{written_key}
use Rattle.td_iter.specs.Desks.{Live, with_added}
use Rattle.td_iter.specs.Heads.{AreLimits, IsLimit, given_or_nil}
use Rattle.td_iter.specs.Heads.{hop_count, link_follow_rule, match_card, return_card, search_card}
use Rattle.td_iter.specs.declared.item.Item.TheVariants.{Offers}
use Rattle.td_lookup.proofs.Limited.{walk_limits}
use Rattle.td_lookup.specs.Choosing.{chosen}
use Rattle.td_lookup.specs.Querying.{QueryComes, AnswersVisit, first_offers}
use Rattle.td_lookup.specs.Scenes.{Scene}
use Rattle.td_lookup.specs.Answering.{HasLimits}
use Rattle.td_lookup.specs.NoMemory.{gave_in}
use Rattle.td_ops.specs.Answers.{AdmitsOutcome}
use Rattle.td_ops.specs.Parameters.{query}
use Rattle.td_ops.specs.declared.call.Query.{Query}
use Rattle.td_ops.specs.declared.operation.Operation.TheVariants as operation
use Rattle.td_ops.specs.declared.outcome.Outcome.{Outcome}
use Rattle.td_register.specs.declared.history.Accepted.{Accepted}
use Rattle.td_servant.specs.declared.entry.Entry.{Entry}
use Rattle.td_trader.specs.Worlds.{View, name_at}
use Rattle.td_trader_laws.specs.WritableWorlds.{IsWritableWorld, OthersAreAdmitted}
use Rattle.td_types.proofs.Sequences.{sequence-from}
use Rattle.td_value.specs.Structures.{offer}
use Rattle.td_value.specs.declared.key.Kind.TheVariants as kind
use Rattle.td_walk.specs.Peering.{AdmitsGifts}
use Rattle.td_walk.specs.declared.trace.Address.{Address}
use Rattle.td_walk.specs.declared.trace.TraceItem.{TraceItem}
use Rattle.td_walk.specs.declared.trace.Visit.{Visit}
use Rattle.td_walk.specs.declared.trace.Visit.TheVariants as visit
use Rattle.td_query_walk.specs.Walks.{WalkState, Refused, Start, Walk, asking, refused, repeat, peer_answers}
use Rattle.td_session_runs_laws.proofs.Desks.{added-writes}
use Rattle.td_session_runs_laws.proofs.Parts.{given-writes, sequence-behind, sequence-front}
use Rattle.td_session_runs_laws.proofs.Walking.{GivesOffers, StaysWritable, walk-writes}
use Rattle.td_session_runs_laws.proofs.WalkingChosen.{offers-chosen}
use Rattle.td_session_runs_laws.proofs.WalkingStarts.{TellsRefused, start-refused, start-world, start-writes}
use Rattle.td_session_runs_laws.specs.Writable.{IsWritableDesk, IsWritableScene}

-- ---- limits

limit-text : (name : List ℕ) → IsLimit name → text.format.admits name
limit-text name (hop_count e) = subst text.format.admits (sym e) refl
limit-text name (link_follow_rule e) = subst text.format.admits (sym e) refl
limit-text name (match_card e) = subst text.format.admits (sym e) refl
limit-text name (return_card e) = subst text.format.admits (sym e) refl
limit-text name (search_card e) = subst text.format.admits (sym e) refl

limits-text : (limits : List (List ℕ)) → AllByRecursion IsLimit limits → AllByRecursion text.format.admits limits
limits-text [] h = tt
limits-text (name ∷ limits) h = (limit-text name h.0, limits-text limits h.1)

limits-written : (limits : List (List ℕ)) → AreLimits limits → (sequence text).format.admits limits
limits-written limits h =
    let few = h.few in
    let short : length limits < 2 ^ 32 = omega (arith, few) in
    sequence-from text limits short (limits-text limits h.each)

-- ---- the visit of a query

-- what a visit gives can be written
abbrev pub AdmitsVisit : Visit → Type 0
AdmitsVisit (visit.Refused o) = AdmitsOutcome operation.Query o
AdmitsVisit (visit.Answered a max_list) =
    (sequence offer).format.admits a.offers × (sequence text).format.admits a.limits

-- where it is told an outcome that can be written if it is refused
visit-writes : (B : Beginnings) (inside : Insides) {s : WalkState (List View)} {k : ℕ} {q : Query} {t : List TraceItem}
    {v : Visit} {u : WalkState (List View)} → Walk B inside s k q t v u
    → ((w : List View) (start : Start) → B s.world k q start w → TellsRefused start) → GivesOffers v → HasLimits v
    → AdmitsVisit v
visit-writes B inside (refused {point = p} {o = o} {w = w} b) tells h limits = tells w (Refused p o) b
visit-writes B inside (repeat b) tells h limits = (h, limits-written [] limits)
visit-writes B inside (asking {a = a} b o steps ends) tells h limits = (h, limits-written a.limits limits)

stays : (others : List Accepted → Type 0) (later : Marks → Marks → Type 0) → OthersAreAdmitted others
    → StaysWritable (BeginsVisit others later)
stays others later admitted = record {
  world = λ w u k q start h b. start-world others later admitted w u k q start h b;
  start = λ w u k q start h b. start-writes others later admitted w u k q start h b;
}

pub walks-write : (others : List Accepted → Type 0) (later : Marks → Marks → Type 0) (home : Address)
    (s u : WalkState (List View)) (k : ℕ) (q : Query) (t : List TraceItem) (v : Visit) → OthersAreAdmitted others
    → IsWritableWorld s.world → query.format.admits q → Walks others later home s k q t v u → AdmitsGifts (peer_answers t)
    → AdmitsVisit v × IsWritableWorld u.world
walks-write others later home s u k q t v admitted world asked walk gifts =
    let B = BeginsVisit others later in
    let inside = inside_group home in
    let h = walk-writes B inside (stays others later admitted) walk world gifts in (
      visit-writes B inside walk
          (λ w start b. start-refused others later admitted s.world w k q start world asked b) h.0 (walk_limits walk),
      h.1,
    )

-- ---- what is told

iterator-admitted : (home : Address) (name : List ℕ) (n : ℕ) → reference.format.admits (offer_iterator home name n)
iterator-admitted home name n =
    made-admitted (interface_id interface.OfferIterator) home.host
    (written_key (record { trader = name; kind = kind.Iterator n })) home.port home.minor refl

desk-when : (b : Bool) (x d : Live) → IsWritableDesk x → IsWritableDesk d → IsWritableDesk (if b then x else d)
desk-when true x d h k = h
desk-when false x d h k = k

content-writes : (home : Address) (name : List ℕ) (q : Query) (v : Visit) (draft : Draft) (d : Live) (o : Outcome)
    (e : Live) → query.format.admits q → AdmitsVisit v → IsWritableDesk d → AnswersVisit home name q v draft d o e
    → AdmitsOutcome operation.Query o × IsWritableDesk e
content-writes home name q (visit.Refused r) draft d o e asked h desk is =
    (subst (AdmitsOutcome operation.Query) (sym is.0) h, subst IsWritableDesk (sym is.1) desk)
content-writes home name q (visit.Answered a max_list) draft d o e asked h desk is =
    let offers = map (chosen q.desired) a.offers in
    let all = offers-chosen q.desired a.offers asked.1.1.1.1.0 h.0 in
    let left = drop is.count offers in
    let iterator = given_or_nil (offer_iterator home name d.1) (is_nonempty left) in
    let result : AdmitsOutcome operation.Query (first_offers home name d.1 a.limits offers is.count) = (
      refl,
      (
        (take is.count offers, (iterator, a.limits)),
        refl,
        (
          sequence-front offer is.count offers all,
          (
            given-writes (offer_iterator home name d.1) (is_nonempty left) (iterator-admitted home name d.1),
            h.1,
          ),
        ),
      ),
    ) in (
      subst (AdmitsOutcome operation.Query) (sym is.outcome) result,
      subst IsWritableDesk (sym is.kept)
          (desk-when (is_nonempty left) (with_added name (Offers left) d) d
          (added-writes name (Offers left) d desk (sequence-behind offer is.count offers all)) desk),
    )

pub query-writes : (others : List Accepted → Type 0) (later : Marks → Marks → Type 0) (home : Address) (s t : Scene)
    (k : ℕ) (q : Query) (draft : Draft) (o : Outcome) (e : Entry) → OthersAreAdmitted others → IsWritableScene s
    → query.format.admits q → QueryComes others later home s k q draft o e t → AdmitsGifts (gave_in e)
    → AdmitsOutcome operation.Query o × IsWritableScene t
query-writes others later home s t k q draft o e admitted h asked is gifts =
    let walked =
    walks-write others later home (course s.world s.words s.peers.calls) (course t.world t.words t.peers.calls) k q
    is.items is.visit admitted h.world asked is.walk (subst (λ (x : Entry). AdmitsGifts (gave_in x)) is.noted gifts) in
    let content =
    content-writes home (name_at t.world k) q is.visit draft s.desk o t.desk asked walked.0 h.desk is.answer in
    (content.0, record { world = walked.1; desk = content.1 })
