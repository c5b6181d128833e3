-- What stands in place of an answer when memory runs out.
use Rattle.std.proofs.Common.{◌≡◌, inl, inr, ℕ, false, true, List, [], ◌∷◌, ◌++◌, length, Ok, Err, IfErr}
use Rattle.std.proofs.Common.{◌≤◌, append-nil, arith, refl, sym, ap, subst, ◌∙◌}
use Rattle.td_cdr.specs.Marks.{Marks}
use Rattle.td_fed.proofs.Moving.{draws-none}
use Rattle.td_fed.proofs.Points.{goes-length}
use Rattle.td_fed.proofs.Quiet.{quiet-watched}
use Rattle.td_fed.specs.Trails.{Goes, own_marks_at, stays, watched}
use Rattle.td_iter.specs.Desks.{Live}
use Rattle.td_lookup.specs.Scenes.{Scene, scene}
use Rattle.td_lookup.specs.Answering.{no_memory_entry}
use Rattle.td_lookup.specs.NoMemory.{PeersGive, IsWalkSoFar, AnswersNoMemory, NoMemoryEntry, gave_in, unbegun_entry}
use Rattle.td_lookup.specs.NoMemory.{no_memory_outcome}
use Rattle.td_lookup.specs.NoMemory.{link, name, nothing, trace, unread}
use Rattle.td_ops.specs.declared.call.AddLink.{AddLink}
use Rattle.td_ops.specs.declared.call.Call.TheVariants as call
use Rattle.td_register.specs.declared.history.Accepted.{Accepted}
use Rattle.td_servant.specs.Answers.{no_memory}
use Rattle.td_servant.specs.Changing.{Rests}
use Rattle.td_servant.specs.Classes.{IsOfClass, is_query}
use Rattle.td_servant.specs.Linking.{Gave, PeersSeen}
use Rattle.td_servant.specs.declared.class.RequestClass.{RequestClass}
use Rattle.td_servant.specs.declared.class.RequestClass.TheVariants as class
use Rattle.td_servant.specs.declared.entry.Entry.{Entry}
use Rattle.td_servant.specs.declared.entry.Entry.TheVariants.{Asked, Plain}
use Rattle.td_servant.specs.declared.judging.Judged.{Judged}
use Rattle.td_servant.specs.declared.judging.Judged.TheVariants.{Call, Refused}
use Rattle.td_servant.specs.declared.objects.Object.{Object}
use Rattle.td_trader.specs.Worlds.{View, history_at}
use Rattle.td_walk.specs.Peering.{Failed, IsNoted, PeerCall, Referred, is_memory}
use Rattle.td_walk.specs.declared.fault.PeerFault.TheVariants as fault
use Rattle.td_walk.specs.declared.trace.Address.{Address}
use Rattle.td_query_walk.specs.Beginnings.{unbegun}

-- ---- peers

none_given : (before after : PeersSeen) → after.calls ≡ before.calls → before.faults ≤ after.faults
    → PeersGive before [] after
none_given before after same later = record {
  made = [];
  calls = same ∙ sym (append-nil before.calls);
  given = refl;
  count = later;
}

-- a peer that was asked gave what is noted
pub one_given : (k point : ℕ) (c : PeerCall) (before after : PeersSeen) (gave : Gave)
    → IsNoted (λ r. Referred r) c before.calls after.calls before.faults after.faults gave
    → IfErr gave (λ f. is_memory f ≡ false) → PeersGive before (gave_in (Asked k point gave)) after
one_given k point c before after (Ok r) asked answered = record {
  made = record { call = c; gave = Referred r } ∷ [];
  calls = asked.calls;
  given = refl;
  count = (after.faults, asked.later, tt, omega arith);
}
one_given k point c before after (Err fault.Wire) asked answered = record {
  made = record { call = c; gave = Failed fault.Wire } ∷ [];
  calls = asked.calls;
  given = refl;
  count = (after.faults, asked.later, asked.cause, omega arith);
}
one_given k point c before after (Err fault.Grammar) asked answered = record {
  made = record { call = c; gave = Failed fault.Grammar } ∷ [];
  calls = asked.calls;
  given = refl;
  count = (after.faults, asked.later, asked.cause, omega arith);
}
one_given k point c before after (Err fault.Exception) asked answered = record {
  made = record { call = c; gave = Failed fault.Exception } ∷ [];
  calls = asked.calls;
  given = refl;
  count = (after.faults, asked.later, asked.cause, omega arith);
}
one_given k point c before after (Err fault.Memory) asked answered = absurd cc

-- ---- traders

module _ (others : List Accepted → Type 0) (later : Marks → Marks → Type 0) (home : Address) where
  rests_goes : (w u : List View) (k : ℕ) → Rests others later w k u → Goes others later w u
  rests_goes w u k (inl same) = subst (λ (x : List View). Goes others later w x) (sym same) stays
  rests_goes w u k (inr seen) = watched k seen stays

  rests_marks : (w u : List View) (k : ℕ) → Rests others later w k u → (i : ℕ)
      → own_marks_at u i ≡ own_marks_at w i ++ []
  rests_marks w u k (inl same) i = ap (λ (x : List View). own_marks_at x i) same ∙ sym (append-nil (own_marks_at w i))
  rests_marks w u k (inr seen) i =
      (quiet-watched others later w u k seen).own_marks i ∙ sym (append-nil (own_marks_at w i))

  -- ---- what is noted

  -- only a query's walk is noted
  no_walk : (j : Judged) (s : Scene) (e : Entry) (t : Scene) → is_query j ≡ false → IsWalkSoFar others later home j s e t
  no_walk (Call x (call.Change c)) s e t none = tt
  no_walk (Call x (call.Look l)) s e t none = tt
  no_walk (Call x (call.AddLink l)) s e t none = tt
  no_walk (Call x (call.Iter i)) s e t none = tt
  no_walk (Call x (call.IsA id)) s e t none = tt
  no_walk (Call x call.NonExistent) s e t none = tt
  no_walk (Call x (call.Query q)) s e t none = absurd (let bad : ⊥ = cc in bad)
  no_walk (Call x (call.Resolve names)) s e t none = tt
  no_walk (Refused o) s e t none = tt

  -- nothing was done but by others, and nothing is noted; memory may have been wanted in a call of a peer
  pub none_answered : (j : Judged) (w u : List View) (k : ℕ) (d e : Live) (before after : PeersSeen) (words : ℕ → ℕ)
      → Rests others later w k u → e ≡ d → after.calls ≡ before.calls → before.faults ≤ after.faults
      → is_query j ≡ false
      → AnswersNoMemory others later home j (scene w d before words) (no_memory_outcome Plain) Plain (scene u e after words)
  none_answered j w u k d e before after words rests same unasked counted none = record {
    entry = nothing none;
    walk = no_walk j (scene w d before words) Plain (scene u e after words) none;
    outcome = refl;
    desk = same;
    goes = rests_goes w u k rests;
    marks = rests_marks w u k rests;
    points = goes-length others later (rests_goes w u k rests);
    peers = none_given before after unasked counted;
    draws = draws-none words;
    words = λ q. refl;
  }

  -- nor was a peer called
  pub nothing_done : (j : Judged) (w u : List View) (k : ℕ) (d e : Live) (before after : PeersSeen) (words : ℕ → ℕ)
      → Rests others later w k u → e ≡ d → after ≡ before
      → is_query j ≡ false
      → AnswersNoMemory others later home j (scene w d before words) (no_memory_outcome Plain) Plain (scene u e after words)
  nothing_done j w u k d e before after words rests same unasked none =
      none_answered j w u k d e before after words rests same (ap (λ (p : PeersSeen). p.calls) unasked)
      (subst (λ (p : PeersSeen). before.faults ≤ p.faults) (sym unasked) (omega arith)) none

  -- nothing was done, and an empty trace is noted
  empty_noted : (j : Judged) (s : Scene) → NoMemoryEntry s.world j (unbegun_entry class.Query)
      → IsWalkSoFar others later home j s (unbegun_entry class.Query) s
      → AnswersNoMemory others later home j s no_memory (unbegun_entry class.Query) s
  empty_noted j s entry walk = record {
    entry = entry;
    walk = walk;
    outcome = refl;
    desk = refl;
    goes = stays;
    marks = λ k. sym (append-nil (own_marks_at s.world k));
    points = goes-length others later stays;
    peers = none_given s.peers s.peers refl (omega arith);
    draws = draws-none s.words;
    words = λ q. refl;
  }

  -- nothing was done for a Request of a class
  pub not_begun : (c : RequestClass) (j : Judged) (s : Scene) → IsOfClass c j
      → AnswersNoMemory others later home j s no_memory (unbegun_entry c) s
  not_begun class.Query (Call x (call.Query q)) s h =
      empty_noted (Call x (call.Query q)) s (trace (record { items = [] })) unbegun
  not_begun class.Query (Call x c) s h = absurd (let bad : ⊥ = cc in bad)
  not_begun class.Query (Refused o) s h = empty_noted (Refused o) s unread tt
  not_begun class.Other j s h =
      nothing_done j s.world s.world 0 s.desk s.desk s.peers s.peers s.words (inl refl) refl refl h

  -- nothing was done but by others and that a peer was asked for a register
  pub asked_without_memory : (x : Object) (l : AddLink) (w u : List View) (c : PeerCall) (d : Live) (before after : PeersSeen)
      (words : ℕ → ℕ) (gave : Gave) → Rests others later w x.trader u
      → IsNoted (λ r. Referred r) c before.calls after.calls before.faults after.faults gave
      → IfErr gave (λ f. is_memory f ≡ false)
      → AnswersNoMemory others later home (Call x (call.AddLink l)) (scene w d before words)
      (no_memory_outcome (Asked x.trader (length (history_at u x.trader)) gave))
      (Asked x.trader (length (history_at u x.trader)) gave) (scene u d after words)
  asked_without_memory x l w u c d before after words gave rests asked answered = record {
    entry = link gave;
    walk = tt;
    outcome = refl;
    desk = refl;
    goes = rests_goes w u x.trader rests;
    marks = rests_marks w u x.trader rests;
    points = goes-length others later (rests_goes w u x.trader rests);
    peers = one_given x.trader (length (history_at u x.trader)) c before after gave asked answered;
    draws = draws-none words;
    words = λ q. refl;
  }

-- what a query notes is noted where it is taken back
pub query_kept : (w v : List View) (k : ℕ) (j : Judged) (e : Entry) → NoMemoryEntry w j e → is_query j ≡ true
    → no_memory_entry v k e ≡ e
query_kept w v k j e (nothing none) q = refl
query_kept w v k j e unread q = refl
query_kept w v k j e (trace t) q = refl
query_kept w v k j e (link gave) q = absurd cc
query_kept w v k j e (name gave) q = absurd cc
