-- Two Asks under one identifier.
use Rattle.std.proofs.Common.{◌≡◌, ℕ, false, List, [], ◌∷◌, map, Some, None, refl}
use Rattle.std.proofs.Common.{sym, ap, ◌∙◌, arith, codes}
use Rattle.td_changes.specs.Histories.{after_all}
use Rattle.td_typecode.specs.declared.reference.Ior.{Ior}
use Rattle.td_eval.specs.Mentioning.{with_names}
use Rattle.td_net.specs.Schedules.{Run, over, then}
use Rattle.td_net.specs.Worlds.{delivery_of, drawn_by, inside, open_call, sent, start, world}
use Rattle.td_net.specs.declared.event.Event.TheVariants.{Ask, Deliver}
use Rattle.td_net_examples.proofs.Running.{come-ends, come-repeat, come-waits, none-drawn}
use Rattle.td_net_examples.proofs.Serving.{identifier-is, is-here, none-tree}
use Rattle.td_net_examples.specs.Fixtures.{answer_stage, asks, found, repeat_stage, after_search}
use Rattle.td_net_examples.specs.Without.{AreLookups, WithoutAlone, trader_asked}
use Rattle.td_net_examples.specs.Without.{trader_asking, call_of}
use Rattle.td_net_examples.specs.Without.{shared_calls, waits_at}
use Rattle.td_net_laws.specs.Arrivals.{ArrivesAt, arrival_of, head_of, identifier_at, is_here}
use Rattle.td_net_laws.specs.Premises.{IsAlone, CallVisits}
use Rattle.td_net_laws.specs.Trees.{IsTree, is_visited}
use Rattle.td_targets.specs.Targets.{keyed_in, place_of}
use Rattle.td_trader.specs.Beginning.{after_begin as marks_after}
use Rattle.td_trader.specs.PlainTraders.{PlainTrader}
use Rattle.td_trader.specs.Serving.{local_of}
use Rattle.td_trader.specs.Solos.{solo_view}
use Rattle.td_walk.specs.Answers.{IsAnswer}
use Rattle.td_walk.specs.Resolving.{resolved}
use Rattle.td_walk.specs.SubQueries.{link_query, link_step, proxy_step}
use Rattle.td_walk.specs.Visits.{next_of, steps, visit_of}
use Rattle.td_walk.specs.declared.trace.Address.{Address}

module _ (to : List ℕ → Ior) (home : Address) (words : List ℕ) (at : AreLookups home to) where
  b-inside : (a b : PlainTrader) → a.name ≡ codes "A" → b.name ≡ codes "B"
      → inside (a ∷ b ∷ []) home (to (codes "B")) ≡ Some 1
  unfolding place_of
  b-inside a b named also =
      ap (keyed_in (map solo_view (a ∷ b ∷ []))) at.b ∙ rw (named, also) refl

  alone-run : Run (start (trader_asking to ∷ trader_asked ∷ []) home words) (Ask 0 (asks 1 9) ∷ Ask 1 (asks 1 9) ∷ Deliver 1 ∷ [])
      (world (after_search (codes "q") (trader_asking to) ∷ after_search (codes "q") trader_asked ∷ []) home (shared_calls to) 3 words 0)
  unfolding next_of visit_of steps link_step link_query proxy_step with_names resolved IsAnswer after_all marks_after
      drawn_by local_of identifier_at
  alone-run =
      let a = trader_asking to in
      let b = trader_asked in
      let sa = after_search (codes "q") a in
      let sb = after_search (codes "q") b in
      let w0 = start (a ∷ b ∷ []) home words in
      let first = call_of 0 (asks 1 9) 0 None 0 a (waits_at a (asks 1 9) 1) in
      let second = sent 1 (asks 0 8) 0 (Some 0) in
      let third = call_of 1 (asks 1 9) 2 None 1 b (answer_stage (codes "b")) in
      let w1 = world (sa ∷ b ∷ []) home (first ∷ second ∷ []) 1 words 0 in
      let w2 = world (sa ∷ sb ∷ []) home (first ∷ second ∷ third ∷ []) 2 words 0 in
      let w3 = world (sa ∷ sb ∷ []) home (shared_calls to) 3 words 0 in
      let k = sent 0 (asks 1 9) 0 None in
      let m = sent 1 (asks 1 9) 2 None in
      let one = come-waits a (codes "q") 1 9 (omega arith) refl refl w0 (open_call w0 k) 0 0 0 None w1 (to (codes "B")) (asks 0 8) 1
      refl refl (b-inside sa b refl refl) refl in
      let two = come-ends b (codes "q") 1 9 (omega arith) refl refl w1 (open_call w1 m) 2 1 2 None w2 (found (codes "b")) refl refl
      (record { ranked = (found (codes "b")).offers; in_order = refl; cut = refl; limits = refl })
      (ap (λ (n : ℕ). world (sa ∷ sb ∷ []) home (first ∷ second ∷ third ∷ []) 2 words n) (sym (none-drawn words))) in
      let three = come-repeat sb (codes "q") 0 8 (omega arith) refl refl w2 w2 1 1 0 (Some 0) w3 1 refl refl in
      then one (then two (then three over))

  alone-tree : IsTree 3 (shared_calls to) (inside (trader_asking to ∷ trader_asked ∷ []) home) words 1 (found (codes "b"))
  unfolding next_of visit_of steps link_step link_query proxy_step with_names resolved IsAnswer after_all
  alone-tree =
      let sb = after_search (codes "q") trader_asked in
      let here = is-here sb 0 8 refl in
      let before : is_visited (map head_of (shared_calls to)) 1 0 2 ≡ false = rw here refl in
      let k = call_of 1 (asks 0 8) 0 (Some 0) 2 sb repeat_stage in
      none-tree (shared_calls to) (inside (trader_asking to ∷ trader_asked ∷ []) home) words 2 1 k sb 2 0 8 refl refl refl refl
      (found (codes "b")) before refl refl
      (record { ranked = (found (codes "b")).offers; in_order = refl; cut = refl; limits = refl })

  not-alone : IsAlone 0 (map head_of (shared_calls to)) → ⊥
  unfolding after_all
  not-alone alone =
      let sb = after_search (codes "q") trader_asked in
      let k = call_of 1 (asks 0 8) 0 (Some 0) 2 sb repeat_stage in
      let m = call_of 1 (asks 1 9) 2 None 1 trader_asked (answer_stage (codes "b")) in
      let d = arrival_of (asks 0 8) (delivery_of 2 sb) in
      let e = arrival_of (asks 1 9) (delivery_of 1 trader_asked) in
      let visits : CallVisits 0 (map head_of (shared_calls to)) (head_of k) d = record {
        at = record { place = 1; is = refl; has_arrived = refl };
        root = refl;
        visits = ap is_here (is-here sb 0 8 refl);
      } in
      let other : ArrivesAt (map head_of (shared_calls to)) (head_of m) e =
      record { place = 2; is = refl; has_arrived = refl } in
      let same : e.identifier ≡ d.identifier =
      identifier-is trader_asked (codes "q") 1 9 (omega arith) ∙ sym (identifier-is sb (codes "q") 0 8 (omega arith)) in
      let one : 2 ≡ 0 = alone (head_of k) (head_of m) d e visits other (ap is_here (is-here trader_asked 1 9 refl)) same in
      absurd (omega (arith, one))

  pub without-alone : WithoutAlone to home words
  without-alone = record { run = alone-run; not_alone = not-alone; tree = alone-tree; gives = refl }
