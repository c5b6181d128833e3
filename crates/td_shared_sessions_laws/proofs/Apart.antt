-- The calls of the sessions of a server, and what they give.
use Rattle.std.proofs.Common.{inl, inr, ℕ, List, [], ◌∷◌}
use Rattle.td_cdr.specs.Marks.{In}
use Rattle.td_desk.proofs.Apart.{passes_apart}
use Rattle.td_desk.specs.Acting.{ExtendsHistory}
use Rattle.td_desk.specs.Giving.{places_through}
use Rattle.td_desk.specs.declared.event.Event.{Event}
use Rattle.td_iter.specs.declared.desk.DeskEntry.{DeskEntry}
use Rattle.td_iter.specs.declared.item.Item.{Item}
use Rattle.td_server.specs.Whole.{AreApart, Every, HasChangedOnce}
use Rattle.td_shared_sessions.specs.Sessions.{SharedWorld, WorldContinues, sharing, the_desk}
use Rattle.td_shared_sessions.specs.Whole.{Visit}
use Rattle.td_shared_sessions_laws.specs.OneDesk.{CallApart, GivenApart, HasCalled, IsGivenBySession, NoItemGoesToTwo}
use Rattle.td_shared_sessions_laws.specs.OneDesk.{ShareOneHistory, calls_of, seen_by}

module _ {X : Type 0} where
  -- ---- calls

  called : (place : ℕ) (vs : List (Visit X)) → HasCalled place vs → HasChangedOnce {k = sharing} {X = X} the_desk place vs
  called place [] h = h
  called place (v ∷ vs) (inl h) = inl h
  called place (v ∷ vs) (inr h) = inr (called place vs h)

  call_apart : (vs : List (Visit X)) → AreApart {k = sharing} {X = X} vs → CallApart vs
  call_apart [] a = tt
  call_apart (v ∷ vs) a = ((λ place h i. a.0 the_desk place h (called place vs i)), call_apart vs a.1)

  fronts : (w : SharedWorld) (vs : List (Visit X)) → Every (λ (v : Visit X). WorldContinues v.ended.last w) vs
      → Every (λ (v : Visit X). ExtendsHistory (seen_by v) w.desk.history) vs
  fronts w [] h = tt
  fronts w (v ∷ vs) h = (h.0.1, fronts w vs h.1)

  -- ---- what they give

  apart_from : (v w : Visit X) (vs : List (Visit X))
      → ((place : ℕ) → In place (calls_of v) → HasCalled place (w ∷ vs) → ⊥)
      → ((place : ℕ) → In place (calls_of v) → In place (calls_of w) → ⊥)
  apart_from v w vs f place h i = f place h (inl i)

  given_by : (h : List Event) (e : DeskEntry Item) (k : ℕ) (v : Visit X) (vs : List (Visit X))
      → ((place : ℕ) → In place (calls_of v) → HasCalled place vs → ⊥)
      → In k (places_through h e (calls_of v)) → IsGivenBySession h e k vs → ⊥
  given_by h e k v [] f g i = i
  given_by h e k v (w ∷ vs) f g (inl i) =
      passes_apart h e (calls_of v) (calls_of w) (apart_from v w vs f) k g i
  given_by h e k v (w ∷ vs) f g (inr i) = given_by h e k v vs (λ place p q. f place p (inr q)) g i

  given_apart : (h : List Event) (e : DeskEntry Item) (vs : List (Visit X)) → CallApart vs → GivenApart h e vs
  given_apart h e [] a = tt
  given_apart h e (v ∷ vs) a = ((λ k g i. given_by h e k v vs a.0 g i), given_apart h e vs a.1)

-- ---- the laws

pub one_history : (X : Type 0) → ShareOneHistory X
one_history X outside_of seeded opened start door_after content_after s = record {
  fronts = fronts s.end.world s.whole.visits s.whole.seen;
  apart = call_apart s.whole.visits s.whole.apart;
}

pub no_two : (X : Type 0) → NoItemGoesToTwo X
no_two X outside_of seeded opened start door_after content_after s e =
    given_apart s.end.world.desk.history e s.whole.visits (call_apart s.whole.visits s.whole.apart)
