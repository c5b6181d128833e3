-- A Request whose outcome is no result: what it leaves, by what it asks for.
use Rattle.std.proofs.Common.{◌≡◌, inl, inr, not, ℕ, Bool, true, false, cond, ◌&&◌, List, [], ◌∷◌, ◌++◌, Option}
use Rattle.std.proofs.Common.{None, Some, Result, refl, sym, ap, subst, ◌∙◌, append-nil, true≢false}
use Rattle.td_cdr.specs.Marks.{Marks}
use Rattle.td_cdr.specs.Writing.{Draft}
use Rattle.td_changes.specs.Histories.{is_done}
use Rattle.td_typecode.specs.declared.reference.Ior.{Ior}
use Rattle.td_fed.proofs.Members.{Beginnings, Insides}
use Rattle.td_targets.specs.Targets.{inside_group}
use Rattle.td_fed.specs.Trails.{Goes, began, marks_of, own_at, own_marks_at, stays, watched}
use Rattle.td_fed.specs.Visiting.{BeginsVisit, course}
use Rattle.td_iter.specs.Desks.{Live, item_of}
use Rattle.td_iter.specs.declared.item.Item.TheVariants.{Ids, Offers}
use Rattle.td_iter.specs.declared.item.Item.{Item}
use Rattle.td_lookup.specs.Naming.{NameComes, name_entry}
use Rattle.td_lookup.specs.Querying.{QueryComes, AnswersVisit}
use Rattle.td_lookup.specs.Scenes.{Scene}
use Rattle.td_lookup.specs.Answering.{is_no_memory}
use Rattle.td_ops.specs.declared.call.AddLink.{AddLink}
use Rattle.td_ops.specs.declared.call.Call.TheVariants as call
use Rattle.td_ops.specs.declared.call.Call.{Call as Asking}
use Rattle.td_ops.specs.declared.call.Change.{Change}
use Rattle.td_ops.specs.declared.call.IterCall.TheVariants as iter
use Rattle.td_ops.specs.declared.call.IterCall.{IterCall}
use Rattle.td_ops.specs.declared.call.Query.{Query}
use Rattle.td_ops.specs.declared.outcome.Outcome.TheVariants.{Done, User, System}
use Rattle.td_ops.specs.declared.outcome.Outcome.{Outcome}
use Rattle.td_ops.specs.declared.outcome.Reply.{Reply}
use Rattle.td_register.specs.declared.history.Accepted.{Accepted}
use Rattle.td_servant.specs.Changing.{ChangeComes}
use Rattle.td_servant.specs.Iterating.{IteratorDone, NextOf}
use Rattle.td_servant.specs.Linking.{AddLinkBy}
use Rattle.td_servant.specs.Looking.{CutsList, ids_in}
use Rattle.td_servant.specs.Targets.{target_of}
use Rattle.td_servant.specs.declared.entry.Entry.TheVariants.{Plain, Walk}
use Rattle.td_servant.specs.declared.entry.Entry.{Entry}
use Rattle.td_servant.specs.declared.judging.Judged.TheVariants.{Call, Refused}
use Rattle.td_servant.specs.declared.judging.Judged.{Judged}
use Rattle.td_servant.specs.declared.objects.Object.{Object}
use Rattle.td_servant.specs.declared.target.Target.TheVariants.{Inside, Outside, Unreachable}
use Rattle.td_servant.specs.declared.target.Target.{Target}
use Rattle.td_dispatch.specs.Requests.{AnswersRequest, OutcomeOfRequest, number_in}
use Rattle.td_trader.specs.Worlds.{ChangesTrader, View, name_at}
use Rattle.td_session_runs.proofs.Acting.{Does, note}
use Rattle.td_session_runs.proofs.Resting.{resolves-goes}
use Rattle.td_session_runs.specs.Journals.{asks_change, is_refusal, marks_in, places_in, points_in}
use Rattle.td_session_runs.specs.Laws.{KeepsIterators, KeepsAll}
use Rattle.td_walk.specs.declared.fault.PeerFault.{PeerFault}
use Rattle.td_walk.specs.declared.trace.Address.{Address}
use Rattle.td_walk.specs.declared.trace.TraceItem.TheVariants as item
use Rattle.td_walk.specs.declared.trace.TraceItem.{TraceItem}
use Rattle.td_walk.specs.declared.trace.Visit.TheVariants as visit
use Rattle.td_walk.specs.declared.trace.Visit.{Visit}
use Rattle.td_query_walk.specs.Walks.{WalkState, Walk as Visits, asking, refused, repeat, with_world}
use Rattle.td_query_walk.specs.Walks.{Refused as Turned}

-- ---- outcomes

done-not : (o : Outcome) (content : Reply) → o ≡ Done content → is_done o ≡ false → ⊥
done-not o content e other = true≢false (sym (ap is_done e) ∙ other)

first-not : (a b : Bool) → not a && not b ≡ true → a ≡ false
first-not true b e = absurd (true≢false (sym e))
first-not false b e = refl

second-not : (a b : Bool) → not a && not b ≡ true → b ≡ false
second-not true b e = absurd (true≢false (sym e))
second-not false true e = absurd (true≢false (sym e))
second-not false false e = refl

pub refusal-not_done : (o : Outcome) → is_refusal o ≡ true → is_done o ≡ false
refusal-not_done o e = first-not (is_done o) (is_no_memory o) e

pub no_memory_outcome-not_done : (o : Outcome) → is_no_memory o ≡ true → is_done o ≡ false
no_memory_outcome-not_done (Done content) e = absurd (true≢false (sym e))
no_memory_outcome-not_done (User x) e = refl
no_memory_outcome-not_done (System kind minor completion) e = refl

refusal-or-no_memory_outcome : (o : Outcome) → is_refusal o ≡ true → is_no_memory o ≡ true → ⊥
refusal-or-no_memory_outcome o e wants = true≢false (sym wants ∙ second-not (is_done o) (is_no_memory o) e)

-- ---- what it leaves

record Still (others : List Accepted → Type 0) (later : Marks → Marks → Type 0) (s : Scene) (e : Entry) (t : Scene)
    : Type 0 where
  goes : Goes others later s.world t.world
  desk : t.desk ≡ s.desk
  unmarked : (k : ℕ) → marks_in k e ≡ []

-- a walk that is refused is its beginning alone
record TurnedAway (B : Beginnings) (s : WalkState (List View)) (k : ℕ) (q : Query) (t : List TraceItem)
    (u : WalkState (List View)) : Type 0 where
  point : ℕ
  outcome : Outcome
  world : List View
  begins : B s.world k q (Turned point outcome) world
  items : t ≡ item.Refused k point ∷ []
  left : u ≡ with_world s world

turned-away : (B : Beginnings) (inside : Insides) {s : WalkState (List View)} {k : ℕ} {q : Query} {t : List TraceItem}
    {v : Visit} {u : WalkState (List View)} → Visits B inside s k q t v u → (r : Outcome) → v ≡ visit.Refused r
    → TurnedAway B s k q t u
turned-away B inside (refused {point = p} {o = o} {w = w} b) r e = record {
  point = p;
  outcome = o;
  world = w;
  begins = b;
  items = refl;
  left = refl;
}
turned-away B inside (repeat b) r e = absurd (let bad : ⊥ = cc in bad)
turned-away B inside (asking b o steps en) r e = absurd (let bad : ⊥ = cc in bad)

module _ (others : List Accepted → Type 0) (later : Marks → Marks → Type 0) where
  same-still : (s : Scene) (e : Entry) (t : Scene) → e ≡ Plain → t ≡ s → Still others later s e t
  same-still s e t plain same = record {
    goes = subst (λ (x : Scene). Goes others later s.world x.world) (sym same) stays;
    desk = ap (λ (x : Scene). x.desk) same;
    unmarked = λ k. ap (λ (x : Entry). marks_in k x) plain;
  }

  -- a change that isn't accepted
  unchanged : (w : List View) (k : ℕ) (c : Change) (o : Outcome) (u : List View) → ChangesTrader others later w k c o u
      → is_done o ≡ false → Goes others later w u
  unchanged w k c (Done content) u h other = absurd (true≢false other)
  unchanged w k c (User x) u h other =
      watched k (record { seen = h.seen; meanwhile = h.meanwhile; world = h.world }) stays
  unchanged w k c (System kind minor completion) u h other =
      watched k (record { seen = h.seen; meanwhile = h.meanwhile; world = h.world }) stays

  change-still : (s : Scene) (k : ℕ) (c : Change) (o : Outcome) (e : Entry) (t : Scene)
      → ChangeComes others later s.world k c o e t.world → is_done o ≡ false → t.desk ≡ s.desk
      → Still others later s e t
  change-still s k c o e t h other desk = record {
    goes = unchanged s.world k c o t.world h.changes other;
    desk = desk;
    unmarked = λ j. ap (λ (x : Entry). marks_in j x) h.noted;
  }

module _ (home : Address) (trader : List ℕ) (n : ℕ) where
  cuts-still : (ids : Option (List (List ℕ))) (found : Outcome) (draft : Draft) (d : Live) (o : Outcome) (e : Live)
      → CutsList home trader n ids found draft d o e → is_done o ≡ false → e ≡ d
  cuts-still None found draft d o e h other = h.1
  cuts-still (Some ids) found draft d o e h other = absurd (done-not o _ h.outcome other)

next-not : (n : ℕ) (left : Item) (draft : Draft) (o : Outcome) (after : Item) → NextOf n left draft o after
    → is_done o ≡ false → ⊥
next-not n (Offers left) draft o after h other = done-not o _ h.outcome other
next-not n (Ids left) draft o after h other = done-not o _ h.outcome other

iterator-still : (trader : List ℕ) (number : ℕ) (found : Option Item) (i : IterCall) (d : Live) (draft : Draft)
    (o : Outcome) (e : Live) → IteratorDone trader number found i d draft o e → is_done o ≡ false → e ≡ d
iterator-still trader number None i d draft o e h other = h.1
iterator-still trader number (Some left) iter.MaxLeft d draft o e h other = h.1
iterator-still trader number (Some left) (iter.NextN n) d draft o e h other =
    absurd (next-not n left draft o h.0 h.1 other)
iterator-still trader number (Some left) iter.Destroy d draft o e h other = absurd (done-not o _ h.0 other)

module _ (others : List Accepted → Type 0) (later : Marks → Marks → Type 0) (home : Address) where
  name-unmarked : (trader point : ℕ) (asked : Option (Result Ior PeerFault)) (k : ℕ)
      → marks_in k (name_entry trader point asked) ≡ []
  name-unmarked trader point None k = refl
  name-unmarked trader point (Some gave) k = refl

  name-still : (s : Scene) (k : ℕ) (names : List (List ℕ)) (o : Outcome) (e : Entry) (t : Scene)
      → NameComes others later home s k names o e t → Still others later s e t
  name-still s k names o e t h = record {
    goes =
        resolves-goes others later home s.world s.peers.calls k names h.answer t.world t.peers.calls h.resolves;
    desk = h.desk;
    unmarked = λ j.
        ap (λ (x : Entry). marks_in j x) h.noted ∙ name-unmarked k h.answer.point h.answer.asked j;
  }

  -- a query that is refused
  refused-still : (s : Scene) (k : ℕ) (q : Query) (items : List TraceItem) (r : Outcome) (e : Entry) (t : Scene)
      → TurnedAway (BeginsVisit others later) (course s.world s.words s.peers.calls) k q items
      (course t.world t.words t.peers.calls) → t.desk ≡ s.desk → e ≡ Walk (record { items = items })
      → Still others later s e t
  refused-still s k q items r e t h desk noted = record {
    goes =
        subst (λ (w : List View). Goes others later s.world w)
        (sym (ap (λ (c : WalkState (List View)). c.world) h.left))
        (began k q h.begins.begin h.begins.begun stays);
    desk = desk;
    unmarked = λ j.
        ap (λ (x : Entry). marks_in j x) noted ∙ ap (λ (x : List TraceItem). marks_of j x) h.items;
  }

  query-still : (s : Scene) (k : ℕ) (q : Query) (draft : Draft) (o : Outcome) (e : Entry) (t : Scene)
      → (h : QueryComes others later home s k q draft o e t) → is_done o ≡ false → (v : Visit) → h.visit ≡ v
      → AnswersVisit home (name_at t.world k) q v draft s.desk o t.desk → Still others later s e t
  query-still s k q draft o e t h other (visit.Refused r) is content =
      refused-still s k q h.items r e t
      (turned-away (BeginsVisit others later) (inside_group home) h.walk r is) content.1 h.noted
  query-still s k q draft o e t h other (visit.Answered a max_list) is content =
      absurd (done-not o _ content.outcome other)

  link-still : (s : Scene) (k : ℕ) (l : AddLink) (o : Outcome) (e : Entry) (t : Scene) (where_to : Target)
      → AddLinkBy others later where_to home s.world k l s.peers t.peers o e t.world → is_done o ≡ false
      → t.desk ≡ s.desk → Still others later s e t
  link-still s k l o e t (Inside j) h other desk = change-still others later s k _ o e t h.0 other desk
  link-still s k l o e t Unreachable h other desk = change-still others later s k _ o e t h.0 other desk
  link-still s k l o e t Outside h other desk = record {
    goes = unchanged others later s.world k _ o t.world h.linked.changes other;
    desk = desk;
    unmarked = λ j. ap (λ (x : Entry). marks_in j x) h.linked.noted;
  }

  call-still : (x : Object) (c : Asking) (draft : Draft) (s t : Scene) (o : Outcome) (e : Entry)
      → OutcomeOfRequest others later home (Call x c) draft s o e t → is_done o ≡ false → Still others later s e t
  call-still x (call.Change c) draft s t o e h other =
      change-still others later s x.trader c o e t h.0 other (ap (λ (y : Scene). y.desk) h.1)
  call-still x (call.Look l) draft s t o e h other =
      let looks = h.0.looks in
      record {
        goes =
            watched x.trader
            (record { seen = looks.seen; meanwhile = looks.meanwhile; world = looks.world }) stays;
        desk = cuts-still home _ _ (ids_in h.0.found) h.0.found draft s.desk o t.desk h.0.cuts other;
        unmarked = λ j. ap (λ (y : Entry). marks_in j y) h.0.noted;
      }
  call-still x (call.AddLink l) draft s t o e h other =
      link-still s x.trader l o e t (target_of home s.world l.target) h.0 other h.1
  call-still x (call.Iter i) draft s t o e h other = record {
    goes = subst (λ (y : Scene). Goes others later s.world y.world) (sym h.1) stays;
    desk =
        iterator-still (name_at s.world x.trader) (number_in x.kind)
        (item_of (name_at s.world x.trader) (number_in x.kind) s.desk) i s.desk draft o t.desk h.0.is_done other;
    unmarked = λ j. ap (λ (y : Entry). marks_in j y) h.0.noted;
  }
  call-still x (call.IsA id) draft s t o e h other = same-still others later s e t h.1 h.2
  call-still x call.NonExistent draft s t o e h other = same-still others later s e t h.1 h.2
  call-still x (call.Query q) draft s t o e h other =
      query-still s x.trader q draft o e t h other h.visit refl h.answer
  call-still x (call.Resolve names) draft s t o e h other = name-still s x.trader names o e t h

  comes-still : (j : Judged) (draft : Draft) (s t : Scene) (o : Outcome) (e : Entry)
      → OutcomeOfRequest others later home j draft s o e t → is_done o ≡ false → Still others later s e t
  comes-still (Refused r) draft s t o e h other = same-still others later s e t h.1 h.2
  comes-still (Call x c) draft s t o e h other = call-still x c draft s t o e h other

  -- ---- no change is one's own

  and-false : (a b : Bool) → b ≡ false → a && b ≡ false
  and-false true b h = h
  and-false false b h = refl

  no-places : (j : Judged) (o : Outcome) (e : Entry) → is_done o ≡ false → (k : ℕ) → places_in k (note j o e) ≡ []
  no-places j o e other k =
      ap (λ (b : Bool). cond b (points_in k e) []) (and-false (asks_change j) (is_done o) other)

  own-stays : (j : Judged) (o : Outcome) (e : Entry) (s t : Scene) → Does j o e s t → is_done o ≡ false → (k : ℕ)
      → own_at t.world k ≡ own_at s.world k
  own-stays j o e s t d other k =
      d.moves.own k
      ∙ (ap (λ (y : List ℕ). own_at s.world k ++ y) (no-places j o e other k) ∙ append-nil (own_at s.world k))

  marks-stay : (j : Judged) (o : Outcome) (e : Entry) (s t : Scene) → Does j o e s t → Still others later s e t
      → (k : ℕ) → own_marks_at t.world k ≡ own_marks_at s.world k
  marks-stay j o e s t d still k =
      d.moves.own_marks k
      ∙ (ap (λ (y : List ℕ). own_marks_at s.world k ++ y) (still.unmarked k) ∙ append-nil (own_marks_at s.world k))

  pub refused-keeps : (j : Judged) (draft : Draft) (s t : Scene) (o : Outcome) (e : Entry) → Does j o e s t
      → AnswersRequest others later home j draft s o e t → is_refusal o ≡ true → KeepsAll others later s t
  refused-keeps j draft s t o e d (inl h) refusal =
      let other = refusal-not_done o refusal in
      let still = comes-still j draft s t o e h other in
      record {
        goes = still.goes;
        own = λ k. own-stays j o e s t d other k;
        own_marks = λ k. marks-stay j o e s t d still k;
        desk = still.desk;
      }
  refused-keeps j draft s t o e d (inr h) refusal =
      absurd (refusal-or-no_memory_outcome o refusal (ap is_no_memory h.outcome))

  pub no_memory_outcome-keeps : (j : Judged) (draft : Draft) (s t : Scene) (o : Outcome) (e : Entry) → Does j o e s t
      → AnswersRequest others later home j draft s o e t → is_no_memory o ≡ true
      → KeepsIterators others later s (λ k. marks_in k e) t
  no_memory_outcome-keeps j draft s t o e d (inl h) wants =
      let other = no_memory_outcome-not_done o wants in
      let still = comes-still j draft s t o e h other in
      record {
        goes = still.goes;
        own = λ k. own-stays j o e s t d other k;
        own_marks = d.moves.own_marks;
        desk = still.desk;
      }
  no_memory_outcome-keeps j draft s t o e d (inr h) wants = record {
    goes = h.goes;
    own = λ k. own-stays j o e s t d (no_memory_outcome-not_done o wants) k;
    own_marks = h.marks;
    desk = h.desk;
  }
