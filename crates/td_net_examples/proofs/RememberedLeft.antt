-- An identifier that is forgotten between two calls.
use Rattle.std.proofs.Common.{◌≡◌, ℕ, ◌+◌, ◌<◌, true, List, [], ◌∷◌, map, Some, None, refl}
use Rattle.std.proofs.Common.{sym, ap, ◌∙◌, arith, codes}
use Rattle.td_changes.specs.Histories.{after_all}
use Rattle.td_typecode.specs.declared.reference.Ior.{Ior}
use Rattle.td_eval.specs.Mentioning.{with_names}
use Rattle.td_net.specs.Schedules.{Run, over, then}
use Rattle.td_net.specs.Worlds.{delivery_of, drawn_by, inside, open_call, sent, start, world}
use Rattle.td_net.specs.declared.event.Event.TheVariants.{Ask, Deliver}
use Rattle.td_net_examples.proofs.Running.{begin-search, come-ends, come-waits, none-drawn}
use Rattle.td_net_examples.proofs.Serving.{is-here, repeat-tree}
use Rattle.td_net_examples.specs.Fixtures.{answer_stage, asks, asks_under, found, after_search}
use Rattle.td_net_examples.specs.Without.{AreLookups, WithoutRemembered}
use Rattle.td_net_examples.specs.Without.{call_of}
use Rattle.td_net_examples.specs.Without.{trader_forgetting, forgot, forgotten_calls, waits_at}
use Rattle.td_net_laws.specs.Arrivals.{arrival_of, head_of, identifier_at, is_here}
use Rattle.td_net_laws.specs.Premises.{IsRemembered, CallVisits}
use Rattle.td_net_laws.specs.Trees.{IsTree, is_visited}
use Rattle.td_targets.specs.Targets.{keyed_in, place_of}
use Rattle.td_trader.specs.Beginning.{after_begin as marks_after, is_search}
use Rattle.td_trader.specs.PlainTraders.{PlainTrader}
use Rattle.td_trader.specs.Serving.{local_of}
use Rattle.td_trader.specs.Solos.{solo_view}
use Rattle.td_walk.specs.Answers.{IsAnswer}
use Rattle.td_walk.specs.Resolving.{resolved}
use Rattle.td_walk.specs.SubQueries.{link_query, link_step, proxy_step}
use Rattle.td_walk.specs.Visits.{next_of, steps, visit_of}
use Rattle.td_walk.specs.declared.trace.Address.{Address}

module _ (to : List ℕ → Ior) (home : Address) (words : List ℕ) (at : AreLookups home to) where
  a-inside : (a : PlainTrader) → a.name ≡ codes "A" → inside (a ∷ []) home (to (codes "A")) ≡ Some 0
  unfolding place_of
  a-inside a named = ap (keyed_in (map solo_view (a ∷ []))) at.a ∙ rw named refl

  remembered-run : Run (start (trader_forgetting to ∷ []) home words)
      (Ask 0 (asks 1 9) ∷ Ask 0 (asks_under (codes "r") 0 9) ∷ Deliver 1 ∷ [])
      (world (after_search (codes "q") (forgot to) ∷ []) home (forgotten_calls to) 3 words 0)
  unfolding next_of visit_of steps link_step link_query proxy_step with_names resolved IsAnswer after_all marks_after
      drawn_by local_of identifier_at
  remembered-run =
      let a = trader_forgetting to in
      let sa = after_search (codes "q") a in
      let ra = forgot to in
      let w0 = start (a ∷ []) home words in
      let first = call_of 0 (asks 1 9) 0 None 0 a (waits_at a (asks 1 9) 1) in
      let second = sent 0 (asks 0 8) 0 (Some 0) in
      let third = call_of 0 (asks_under (codes "r") 0 9) 2 None 1 sa (answer_stage (codes "a")) in
      let w1 = world (sa ∷ []) home (first ∷ second ∷ []) 1 words 0 in
      let w2 = world (ra ∷ []) home (first ∷ second ∷ third ∷ []) 2 words 0 in
      let w3 = world (after_search (codes "q") ra ∷ []) home (forgotten_calls to) 3 words 0 in
      let k = sent 0 (asks 1 9) 0 None in
      let m = sent 0 (asks_under (codes "r") 0 9) 2 None in
      let one = come-waits a (codes "q") 1 9 (omega arith) refl refl w0 (open_call w0 k) 0 0 0 None w1 (to (codes "A")) (asks 0 8) 0
      refl refl (a-inside sa refl) refl in
      let two = come-ends sa (codes "r") 0 9 (omega arith) refl refl w1 (open_call w1 m) 2 0 2 None w2 (found (codes "a")) refl refl
      (record { ranked = (found (codes "a")).offers; in_order = refl; cut = refl; limits = refl })
      (ap (λ (n : ℕ). world (ra ∷ []) home (first ∷ second ∷ third ∷ []) 2 words n) (sym (none-drawn words))) in
      let three = come-ends ra (codes "q") 0 8 (omega arith) refl refl w2 w2 1 0 0 (Some 0) w3 (found (codes "a")) refl refl
      (record { ranked = (found (codes "a")).offers; in_order = refl; cut = refl; limits = refl })
      (ap (λ (n : ℕ). world (after_search (codes "q") ra ∷ []) home (forgotten_calls to) 3 words n)
      (sym (none-drawn words))) in
      then one (then two (then three over))

  remembered-tree : IsTree 3 (forgotten_calls to) (inside (trader_forgetting to ∷ []) home) words 1 (found [])
  unfolding after_all
  remembered-tree =
      let here = is-here (trader_forgetting to) 1 9 refl in
      let before : is_visited (map head_of (forgotten_calls to)) 0 0 2 ≡ true = rw here refl in
      let k = call_of 0 (asks 0 8) 0 (Some 0) 2 (forgot to) (answer_stage (codes "a")) in
      repeat-tree (forgotten_calls to) (inside (trader_forgetting to ∷ []) home) words 2 1 k (forgot to) 2 0 8 refl refl refl refl before

  not-remembered : IsRemembered 0 (map head_of (forgotten_calls to)) → ⊥
  unfolding after_all
  not-remembered remembered =
      let a = trader_forgetting to in
      let ra = forgot to in
      let k = call_of 0 (asks 1 9) 0 None 0 a (waits_at a (asks 1 9) 1) in
      let m = call_of 0 (asks 0 8) 0 (Some 0) 2 ra (answer_stage (codes "a")) in
      let d = arrival_of (asks 1 9) (delivery_of 0 a) in
      let e = arrival_of (asks 0 8) (delivery_of 2 ra) in
      let first : CallVisits 0 (map head_of (forgotten_calls to)) (head_of k) d = record {
        at = record { place = 0; is = refl; has_arrived = refl };
        root = refl;
        visits = ap is_here (is-here a 1 9 refl);
      } in
      let second : CallVisits 0 (map head_of (forgotten_calls to)) (head_of m) e = record {
        at = record { place = 1; is = refl; has_arrived = refl };
        root = refl;
        visits = ap is_here (is-here ra 0 8 refl);
      } in
      let searches : d.searches ≡ true =
      ap is_search (begin-search a (codes "q") 1 9 (omega arith) refl refl refl) in
      let within : 2 < 0 + 1 + 1 =
      remembered (head_of k) (head_of m) d e first second refl (omega arith) searches in
      absurd (omega (arith, within))

  pub without-remembered : WithoutRemembered to home words
  without-remembered = record { run = remembered-run; not_remembered = not-remembered; tree = remembered-tree; gives = refl }
