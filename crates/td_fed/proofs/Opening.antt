-- What a visit goes by that asks questions: its query was read, and so its reach falls with each that begins in it.
use Rattle.std.proofs.Common.{◌≡◌, ℕ, ◌+◌, ◌^◌, ◌<◌, ◌≤◌, List, [], ◌∷◌, Option, None, Some, Result, Ok, Err, length}
use Rattle.std.proofs.Common.{refl, sym, ap, subst, ◌∙◌, arith}
use Rattle.std.specs.Option.{option_and_then}
use Rattle.std.specs.Prelude.{slice_get}
use Rattle.std.specs.Result.{result_unwrap_or}
use Rattle.td_cdr.specs.Marks.{Marks}
use Rattle.td_changes.specs.declared.bounds.Bounds.{Bounds}
use Rattle.td_typecode.specs.declared.reference.Ior.{Ior}
use Rattle.td_fed.specs.Entering.{EntersTrader, IsEntered}
use Rattle.td_fed.specs.Entering.{opens, refused, repeated}
use Rattle.td_fed.specs.Visiting.{BeginsVisit, start_of}
use Rattle.td_fed.specs.declared.entering.VisitStart.{VisitStart}
use Rattle.td_fed.specs.declared.entering.VisitStart.TheVariants as entry
use Rattle.td_ops.specs.declared.call.Query.{Query}
use Rattle.td_policy.specs.Effective.{effective_of}
use Rattle.td_policy.specs.Stated.{nothing, stated}
use Rattle.td_policy.specs.declared.fault.PolicyFault.{PolicyFault}
use Rattle.td_policy.specs.declared.stated.Stated.{Stated}
use Rattle.td_register.specs.Causes.{Cause, with_cause, ◌otherwise◌}
use Rattle.td_register.specs.Registers.{asked_in, no_more}
use Rattle.td_register.specs.Named.{type_found}
use Rattle.td_register.specs.Stores.{Store}
use Rattle.td_register.specs.declared.history.Accepted.{Accepted}
use Rattle.td_store.specs.LinkLists.{link_of}
use Rattle.td_store.specs.declared.local.Local.{Local}
use Rattle.td_store.specs.declared.record.LinkRecord.{LinkRecord}
use Rattle.td_trader.specs.Beginning.{begin_along, begin_here, begin_of, begin_unless, repeated_in, searched_under}
use Rattle.td_trader.specs.Queries.{others_cause, parts_cause, parts_of, path_link, preferred_in, refusal}
use Rattle.td_trader.specs.Queries.{stated_in, unless_fault}
use Rattle.td_trader.specs.Serving.{local_of, path_of}
use Rattle.td_trader.specs.Worlds.{View, history_at, store_seen}
use Rattle.td_visit.specs.Standing.{FrameState as Frame}
use Rattle.td_walk.specs.Visits.{next_of}
use Rattle.td_walk.specs.declared.answer.Next.TheVariants.{Forward}
use Rattle.td_walk.specs.declared.trace.TraceItem.{TraceItem}
use Rattle.td_query_walk.proofs.Weights.{falls_at_each, reaches_no_farther}
use Rattle.td_query_walk.specs.Reach.{HasReadPath, StartsPath, reach_of}
use Rattle.td_query_walk.specs.Walks.{OpensWith, Path, Refused, Repeat, Search, Start, passing, searching}

-- the visit was begun with this query, whose policies could be read
pub record IsBegun (q : Query) (l : Local) : Type 0 where
  pub read : HasReadPath l
  pub stated_so : stated q.policies ≡ Ok l.stated
  pub effective : l.effective ≡ effective_of l.stated l.attributes

abbrev pub IsBegunAt : Query → Start → Type 0
IsBegunAt q (Refused point o) = Unit {0}
IsBegunAt q (Repeat point mark) = Unit {0}
IsBegunAt q (Search l) = IsBegun q l
IsBegunAt q (Path l) = IsBegun q l

-- ---- a query that isn't refused was read

neither : (a b : Cause) → (a otherwise b) ≡ None → (a ≡ None) × (b ≡ None)
neither None b h = (refl, h)
neither (Some f) b h = absurd (let bad : ⊥ = cc in bad)

is-stated : (r : Result Stated PolicyFault) → with_cause (unless_fault r) no_more ≡ None
    → r ≡ Ok (result_unwrap_or r nothing)
is-stated (Ok s) h = refl
is-stated (Err f) h = absurd (let bad : ⊥ = cc in bad)

was-read : (bounds : Bounds) (count : ℕ) (s : Store) (q : Query) → refusal bounds count s q ≡ None
    → stated q.policies ≡ Ok (parts_of q).stated
unfolding refusal
was-read bounds count s q h =
    let a = neither (with_cause (type_found s.types.types q.service_type) no_more)
    (parts_cause q otherwise others_cause bounds count s.links q (parts_of q).stated) h in
    let b = neither (parts_cause q) (others_cause bounds count s.links q (parts_of q).stated) a.1 in
    let c = neither (with_cause (asked_in q.constraint) no_more)
    (with_cause (preferred_in q.preference) no_more otherwise with_cause (stated_in q.policies) no_more) b.0 in
    let d = neither (with_cause (preferred_in q.preference) no_more) (with_cause (stated_in q.policies) no_more) c.1 in
    is-stated (stated q.policies) d.1

starts : (links : List LinkRecord) (start : Option (List (List ℕ))) (link : LinkRecord)
    → option_and_then (link_of links) (option_and_then (λ names. slice_get names 0) start) ≡ Some link
    → StartsPath start
starts links None link h = absurd (let bad : ⊥ = cc in bad)
starts links (Some []) link h = absurd (let bad : ⊥ = cc in bad)
starts links (Some (name ∷ names)) link h = tt

searched : (s : Store) (point mark : ℕ) (i : List ℕ) (q : Query) → stated q.policies ≡ Ok (parts_of q).stated
    → IsBegun q (local_of s point mark i q)
unfolding local_of
searched s point mark i q h = record { read = tt; stated_so = h; effective = refl }

passed : (s : Store) (point : ℕ) (link : LinkRecord) (q : Query) → stated q.policies ≡ Ok (parts_of q).stated
    → path_link s.links (parts_of q).stated ≡ Some link → IsBegun q (path_of s point link q)
unfolding path_of
passed s point link q h is = record {
  read = (h, starts s.links (parts_of q).stated.start link is);
  stated_so = h;
  effective = refl;
}

module _ (s : Store) (seen_at point : ℕ) (m : Marks) (q : Query)
    (read : stated q.policies ≡ Ok (parts_of q).stated) where
  here : (found : Option ℕ) → IsBegunAt q (start_of seen_at (begin_here s point m q found))
  here (Some number) = tt
  here None = searched s point (m.count + 1) (searched_under s m q).identifier q read

  along : (found : Option LinkRecord) → path_link s.links (parts_of q).stated ≡ found
      → IsBegunAt q (start_of seen_at (begin_along s point m q found))
  along (Some link) is = passed s point link q read is
  along None is = here (repeated_in m (parts_of q).stated)

by-cause : (bounds : Bounds) (s : Store) (seen_at point : ℕ) (m : Marks) (q : Query) (cause : Cause)
    → refusal bounds m.count s q ≡ cause → IsBegunAt q (start_of seen_at (begin_unless cause s point m q))
by-cause bounds s seen_at point m q (Some f) h = tt
by-cause bounds s seen_at point m q None h =
    along s seen_at point m q (was-read bounds m.count s q h) (path_link s.links (parts_of q).stated) refl

begun-at : (bounds : Bounds) (s : Store) (seen_at point : ℕ) (m : Marks) (q : Query)
    → IsBegunAt q (start_of seen_at (begin_of bounds s point m q))
unfolding begin_of
begun-at bounds s seen_at point m q = by-cause bounds s seen_at point m q (refusal bounds m.count s q) refl

opens-so : (q : Query) (k : ℕ) (l : Local) (start : Start) (head : TraceItem) → OpensWith k l start head
    → IsBegunAt q start → IsBegun q l
opens-so q k l start head searching h = h
opens-so q k l start head passing h = h

module _ (others : List Accepted → Type 0) (later : Marks → Marks → Type 0) where
  pub is-begun : (w u : List View) (k : ℕ) (q : Query) (start : Start) (l : Local) (head : TraceItem)
      → BeginsVisit others later w k q start u → OpensWith k l start head → IsBegun q l
  is-begun w u k q start l head h o =
      let seen = h.begun.seen in
      let so =
      begun-at seen.bounds (store_seen seen) (length (history_at u k)) (length seen.history) seen.marks q in
      opens-so q k l start head o
      (subst (IsBegunAt q) (sym (h.is ∙ ap (start_of (length (history_at u k))) h.begun.begin)) so)

  -- of an entry that opens a visit
  abbrev ReadOf : VisitStart → Type 0
  ReadOf (entry.Ended v) = Unit {0}
  ReadOf (entry.Open f) = HasReadPath f.local

  read-of : (w u : List View) (k : ℕ) (q : Query) (e : VisitStart) (head : TraceItem)
      → EntersTrader (BeginsVisit others later) w k q e head u → ReadOf e
  read-of w u k q e head (refused b) = tt
  read-of w u k q e head (repeated b) = tt
  read-of w u k q e head (opens b o) = (is-begun w u k q _ _ _ b o).read

  pub entered-read : (w u : List View) (k : ℕ) (q : Query) (f : Frame) (x y : List TraceItem)
      → IsEntered (BeginsVisit others later) w k q (entry.Open f) x y u → HasReadPath f.local
  entered-read w u k q f x y h = read-of w u k q (entry.Open f) h.head h.enters

-- ---- a visit that begins in another one goes less far

pub goes-less-far : (top : Frame) (target : Ior) (q : Query) (l : Local) → HasReadPath top.local
    → Forward target q ≡ next_of top.local top.answers → IsBegun q l → l.attributes.max_hop_count < 2 ^ 32
    → reach_of l < reach_of top.local
goes-less-far top target q l read asked h few =
    let weight = falls_at_each top.local top.answers target q l.stated read (sym asked) h.stated_so in
    let most : l.attributes.max_hop_count ≤ 2 ^ 32 = omega (arith, few) in
    let reach = reaches_no_farther l h.effective most in
    omega (arith, weight, reach)
