-- How the events of the examples are taken.
use Rattle.std.proofs.Common.{◌≡◌, ℕ, suc, ◌+◌, ◌≤◌, List, [], ◌∷◌, ◌++◌, length, slice_set, Option, Some, None, Result}
use Rattle.std.proofs.Common.{Ok, sym, ap, ◌∙◌, subst, arith, Bool, if◌then◌else◌}
use Rattle.std.proofs.lemmas.Bool.{le-leb}
use Rattle.std.specs.Result.{result_unwrap_or}
use Rattle.td_cdr.specs.Marks.{add_mark}
use Rattle.td_typecode.specs.declared.reference.Ior.{Ior}
use Rattle.td_net.specs.Supplies.{drawn_after, words_from}
use Rattle.td_net.specs.Worlds.{World, Becomes, EventResult, Moved, Closing, begun_by, end_call, deliver_to}
use Rattle.td_net.specs.Worlds.{deliver_call, delivery_of}
use Rattle.td_net.specs.Worlds.{forward_by, goes_on, inside, place_visit, sent, settle, settle_by, visit_progress}
use Rattle.td_net.specs.Worlds.{waiting_call, with_calls}
use Rattle.td_net.specs.declared.call.Call.{Call}
use Rattle.td_net.specs.declared.call.QuestionStep.{QuestionStep}
use Rattle.td_net.specs.declared.advancing.Pending.TheVariants as pending
use Rattle.td_net_examples.proofs.Serving.{asks-states, cause_at, search-is, served_at, states}
use Rattle.td_net_examples.specs.Fixtures.{asks_under}
use Rattle.td_net_laws.specs.Arrivals.{identifier_at, search_at}
use Rattle.td_ops.specs.declared.call.Query.{Query}
use Rattle.td_policy.specs.Stated.{nothing, stated}
use Rattle.td_policy.specs.declared.fault.PolicyFault.{PolicyFault}
use Rattle.td_policy.specs.declared.stated.Stated.{Stated}
use Rattle.td_register.specs.Causes.{Cause}
use Rattle.td_store.specs.declared.local.Local.{Local}
use Rattle.td_trader.specs.Beginning.{after_begin as marks_after, begin_along, begin_here, begin_of, begin_unless}
use Rattle.td_trader.specs.Beginning.{query_identifier, repeated_in}
use Rattle.td_trader.specs.PlainTraders.{PlainTrader, after_begin, begin_at, store_of}
use Rattle.td_trader.specs.Queries.{path_link, refusal}
use Rattle.td_trader.specs.declared.begin.Begin.{Begin}
use Rattle.td_trader.specs.declared.begin.Begin.TheVariants.{Search, Repeat}
use Rattle.td_walk.specs.Answers.{IsAnswer}
use Rattle.td_walk.specs.Visits.{next_of}
use Rattle.td_walk.specs.declared.answer.Next.TheVariants.{Done, Forward}
use Rattle.td_walk.specs.declared.answer.StepAnswer.{StepAnswer}
use Rattle.td_walk.specs.declared.answer.SubAnswer.{SubAnswer}
use Rattle.td_query_walk.specs.Reach.{turns_of}

-- where none was drawn, none is
pub none-drawn : (words : List ℕ) → drawn_after words 0 0 ≡ 0
none-drawn words =
    ap (λ (b : Bool). if b then 0 else length words) (le-leb 0 (length words) (omega arith))

-- ---- how a query begins

-- a query that is taken, and isn't passed on, begins by what is remembered
begins : (t : PlainTrader) (q : Query) (s : Stated) (o : Option ℕ) → stated q.policies ≡ Ok s
    → cause_at t q (Ok s) ≡ None → path_link (store_of t).links s ≡ None → repeated_in t.marks s ≡ o
    → begin_at t q ≡ begin_here (store_of t) (length t.history) t.marks q o
unfolding begin_of refusal
begins t q s o is taken no_path marks =
    let st = store_of t in
    let p = length t.history in
    ap (λ (c : Cause). begin_unless c st p t.marks q) (ap (cause_at t q) is ∙ taken)
    ∙ (ap (begin_along st p t.marks q)
    (ap (λ (r : Result Stated PolicyFault). path_link st.links (result_unwrap_or r nothing)) is ∙ no_path)
    ∙ ap (begin_here st p t.marks q)
    (ap (λ (r : Result Stated PolicyFault). repeated_in t.marks (result_unwrap_or r nothing)) is ∙ marks))

-- ---- how far a visit goes

settle-waits : (n : ℕ) (inside : Ior → Option ℕ) (l : Local) (rs : List StepAnswer) (ss : List QuestionStep) (other : Ior)
    (sub : Query) (m : ℕ) → next_of l rs ≡ Forward other sub → inside other ≡ Some m
    → settle (n + 1) inside l rs ss ≡ visit_progress rs ss (pending.SubQuery m sub)
settle-waits n inside l rs ss other sub m asks within =
    let more : n + 1 ≡ suc n = omega arith in
    ap (λ (x : ℕ). settle x inside l rs ss) more
    ∙ (ap (settle_by (settle n inside l) inside rs ss) asks ∙ ap (forward_by (settle n inside l) rs ss sub) within)

settle-done : (n : ℕ) (inside : Ior → Option ℕ) (l : Local) (rs : List StepAnswer) (ss : List QuestionStep) → next_of l rs ≡ Done
    → settle (n + 1) inside l rs ss ≡ visit_progress rs ss pending.Nothing
settle-done n inside l rs ss done =
    let more : n + 1 ≡ suc n = omega arith in
    ap (λ (x : ℕ). settle x inside l rs ss) more ∙ ap (settle_by (settle n inside l) inside rs ss) done

module _ (t : PlainTrader) (id : List ℕ) (hops card : ℕ) (few : length id ≤ 256)
    (taken : cause_at t (asks_under id hops card) (Ok (states id hops card)) ≡ None)
    (no_path : path_link (store_of t).links (states id hops card) ≡ None) where
  abbrev asked : Query
  asked = asks_under id hops card

  pub begin-search : repeated_in t.marks (states id hops card) ≡ None → begin_at t asked ≡ Search (search_at t asked)
  unfolding identifier_at
  begin-search new = begins t asked (states id hops card) None (asks-states id hops card few) taken no_path new

  begin-repeat : (n : ℕ) → repeated_in t.marks (states id hops card) ≡ Some n → begin_at t asked ≡ Repeat n
  begin-repeat n held = begins t asked (states id hops card) (Some n) (asks-states id hops card few) taken no_path held

  -- the trader once it is searched
  abbrev now : PlainTrader
  now = record t { marks = add_mark t.marks id t.marks.counter }

  after-search : (l : Local) → after_begin t asked (Search l) ≡ now
  unfolding marks_after
  after-search l =
      ap
      (λ (r : Result Stated PolicyFault). let made =
      query_identifier t.marks (store_of t).attributes.request_id_stem (result_unwrap_or r nothing).request_id in
      record t { marks = add_mark t.marks made.identifier made.counter }) (asks-states id hops card few)

  at-search : search_at t asked ≡ served_at t asked (Ok (states id hops card))
  at-search = search-is t asked (Ok (states id hops card)) (asks-states id hops card few)

  -- ---- how the call of such a query is delivered

  module _ (w0 w : World) (c target root : ℕ) (caller : Option ℕ) where
    abbrev call : Call
    call = sent target asked root caller

    abbrev come : Call
    come = deliver_call call (delivery_of w.clock t)

    abbrev behind : World
    behind = record w { traders = slice_set w.traders target now; clock = w.clock + 1 }

    abbrev by : Begin → EventResult
    by b =
        begun_by (record w { traders = slice_set w.traders target (after_begin t asked b); clock = w.clock + 1 }) c come b

    come-search : (u : World) → repeated_in t.marks (states id hops card) ≡ None
        → Becomes w0 (goes_on behind c come (search_at t asked) [] []) u → Becomes w0 (deliver_to w c call (Some t)) u
    come-search u new goes =
        let l = search_at t asked in
        let searched : Becomes w0 (by (Search l)) u =
        subst
        (λ (x : PlainTrader). Becomes w0
        (goes_on (record w { traders = slice_set w.traders target x; clock = w.clock + 1 }) c come l [] []) u)
        (sym (after-search l)) goes in
        subst (λ (b : Begin). Becomes w0 (by b) u) (sym (begin-search new)) searched

    -- it is a repeat
    pub come-repeat : (u : World) (n : ℕ) → repeated_in t.marks (states id hops card) ≡ Some n
        → Becomes w0 (by (Repeat n)) u → Becomes w0 (deliver_to w c call (Some t)) u
    come-repeat u n held goes = subst (λ (b : Begin). Becomes w0 (by b) u) (sym (begin-repeat n held)) goes

    -- its visit waits for its first question
    pub come-waits : (u : World) (other : Ior) (sub : Query) (m : ℕ) → repeated_in t.marks (states id hops card) ≡ None
        → next_of (served_at t asked (Ok (states id hops card))) [] ≡ Forward other sub
        → inside (slice_set w.traders target now) w.home other ≡ Some m
        → u ≡ with_calls behind
        (slice_set w.calls c (waiting_call come (search_at t asked) [] [] (length w.calls)) ++ sent m sub root (Some c) ∷ [])
        → Becomes w0 (deliver_to w c call (Some t)) u
    come-waits u other sub m new asks within is =
        let l = search_at t asked in
        let next : next_of l [] ≡ Forward other sub = ap (λ (x : Local). next_of x []) at-search ∙ asks in
        let settles = settle-waits (turns_of l) (inside behind.traders behind.home) l [] [] other sub m next within in
        let moves : goes_on behind c come l [] []
        ≡ Moved (with_calls behind
        (slice_set w.calls c (waiting_call come l [] [] (length w.calls)) ++ sent m sub root (Some c) ∷ [])) =
        ap (place_visit behind c come l) settles in
        come-search u new (subst (λ (x : EventResult). Becomes w0 x u) (sym moves) is)

    -- it ends
    pub come-ends : (u : World) (a : SubAnswer) → repeated_in t.marks (states id hops card) ≡ None
        → next_of (served_at t asked (Ok (states id hops card))) [] ≡ Done
        → IsAnswer (served_at t asked (Ok (states id hops card))) [] (words_from w.words w.drawn) a
        → u ≡ end_call behind c come (served_at t asked (Ok (states id hops card))) [] [] a
        → Becomes w0 (deliver_to w c call (Some t)) u
    come-ends u a new done gives is =
        let l = served_at t asked (Ok (states id hops card)) in
        let settles = settle-done (turns_of l) (inside behind.traders behind.home) l [] [] done in
        let ends : goes_on behind c come l [] [] ≡ Closing behind c come l [] [] = ap (place_visit behind c come l) settles in
        let here : Becomes w0 (goes_on behind c come l [] []) u =
        subst (λ (x : EventResult). Becomes w0 x u) (sym ends) (a, gives, is) in
        come-search u new (subst (λ (x : Local). Becomes w0 (goes_on behind c come x [] []) u) (sym at-search) here)
