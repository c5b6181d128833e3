-- The trees of the ring, from the last call on.
use Rattle.std.proofs.Common.{◌≡◌, ℕ, suc, true, false, List, [], ◌∷◌, map, Option, Some, None, refl, codes}
use Rattle.td_changes.specs.Histories.{after_all}
use Rattle.td_typecode.specs.declared.reference.Ior.{Ior}
use Rattle.td_eval.specs.Mentioning.{with_names}
use Rattle.td_net.specs.declared.call.QuestionStep.TheVariants.{Given}
use Rattle.td_net_examples.proofs.Serving.{first-given, is-here, none-tree, once-tree, opened, repeat-tree}
use Rattle.td_net_examples.specs.Fixtures.{AreInside, answer_stage, asks, call, found, trader_with_link, repeat_stage}
use Rattle.td_net_examples.specs.Fixtures.{after_search}
use Rattle.td_net_examples.specs.Trees.{WorkedRing, WorkedStop, ring, stopped_calls}
use Rattle.td_net_laws.specs.Arrivals.{head_of}
use Rattle.td_net_laws.specs.Trees.{IsTree, is_visited}
use Rattle.td_walk.specs.Answers.{IsAnswer}
use Rattle.td_walk.specs.Resolving.{resolved}
use Rattle.td_walk.specs.SubQueries.{link_query, link_step, proxy_step}
use Rattle.td_walk.specs.Visits.{next_of, steps, visit_of}
use Rattle.td_walk.specs.declared.answer.StepAnswer.TheVariants.{Offers}

module _ (to : List ℕ → Ior) (inside : Ior → Option ℕ) (words : List ℕ) (at : AreInside inside to) where
  ring-3 : (f : ℕ) → IsTree (suc f) (ring to) inside words 3 (found [])
  unfolding next_of visit_of steps link_step link_query proxy_step with_names resolved IsAnswer after_all
  ring-3 f =
      let here = is-here (trader_with_link to (codes "A") (codes "a") (codes "B")) 3 9 refl in
      let before : is_visited (map head_of (ring to)) 0 0 3 ≡ true = rw here refl in
      let t = after_search (codes "q") (trader_with_link to (codes "A") (codes "a") (codes "B")) in
      let k = call 0 0 6 (Some 2) 3 t [] repeat_stage in
      repeat-tree (ring to) inside words f 3 k t 3 0 6 refl refl refl refl before

  ring-2 : (f : ℕ) → IsTree (suc (suc f)) (ring to) inside words 2 (found (codes "c"))
  unfolding next_of visit_of steps link_step link_query proxy_step with_names resolved IsAnswer after_all
  ring-2 f =
      let here = is-here (trader_with_link to (codes "C") (codes "c") (codes "A")) 1 7 refl in
      let before : is_visited (map head_of (ring to)) 2 0 2 ≡ false = rw here refl in
      let t = trader_with_link to (codes "C") (codes "c") (codes "A") in
      let k = call 2 1 7 (Some 1) 2 t (Given 3 ∷ []) (answer_stage (codes "c")) in
      let o3 = call 0 0 6 (Some 2) 3 (after_search (codes "q") (trader_with_link to (codes "A") (codes "a") (codes "B"))) []
      repeat_stage in
      let content = first-given (ring to) inside words (suc f) 2 k t 2 1 7 refl refl refl refl 3 0 (to (codes "A"))
      (asks 0 6) (found []) refl at.a
      (opened (ring to) 2 3 o3 refl refl) (ring-3 f) in
      once-tree (ring to) inside words (suc f) 2 k t 2 1 7 refl refl refl refl (found (codes "c")) (Given 3)
      (Offers (found [])) before refl content refl
      (record { ranked = (found (codes "c")).offers; in_order = refl; cut = refl; limits = refl })

  ring-1 : (f : ℕ) → IsTree (suc (suc (suc f))) (ring to) inside words 1 (found (codes "bc"))
  unfolding next_of visit_of steps link_step link_query proxy_step with_names resolved IsAnswer after_all
  ring-1 f =
      let here = is-here (trader_with_link to (codes "B") (codes "b") (codes "C")) 2 8 refl in
      let before : is_visited (map head_of (ring to)) 1 0 1 ≡ false = rw here refl in
      let t = trader_with_link to (codes "B") (codes "b") (codes "C") in
      let k = call 1 2 8 (Some 0) 1 t (Given 2 ∷ []) (answer_stage (codes "bc")) in
      let o2 = call 2 1 7 (Some 1) 2 (trader_with_link to (codes "C") (codes "c") (codes "A")) (Given 3 ∷ [])
      (answer_stage (codes "c")) in
      let content = first-given (ring to) inside words (suc (suc f)) 1 k t 1 2 8 refl refl refl refl 2 2 (to (codes "C"))
      (asks 1 7) (found (codes "c")) refl at.c
      (opened (ring to) 1 2 o2 refl refl) (ring-2 f) in
      once-tree (ring to) inside words (suc (suc f)) 1 k t 1 2 8 refl refl refl refl (found (codes "bc")) (Given 2)
      (Offers (found (codes "c"))) before refl content refl
      (record { ranked = (found (codes "bc")).offers; in_order = refl; cut = refl; limits = refl })

  ring-0 : (f : ℕ) → IsTree (suc (suc (suc (suc f)))) (ring to) inside words 0 (found (codes "abc"))
  unfolding next_of visit_of steps link_step link_query proxy_step with_names resolved IsAnswer after_all
  ring-0 f =
      let here = is-here (trader_with_link to (codes "A") (codes "a") (codes "B")) 3 9 refl in
      let here2 = is-here (after_search (codes "q") (trader_with_link to (codes "A") (codes "a") (codes "B"))) 0 6 refl in
      let before : is_visited (map head_of (ring to)) 0 0 0 ≡ false = rw (here, here2) refl in
      let t = trader_with_link to (codes "A") (codes "a") (codes "B") in
      let k = call 0 3 9 None 0 t (Given 1 ∷ []) (answer_stage (codes "abc")) in
      let o1 = call 1 2 8 (Some 0) 1 (trader_with_link to (codes "B") (codes "b") (codes "C")) (Given 2 ∷ [])
      (answer_stage (codes "bc")) in
      let content = first-given (ring to) inside words (suc (suc (suc f))) 0 k t 0 3 9 refl refl refl refl 1 1
      (to (codes "B")) (asks 2 8) (found (codes "bc")) refl at.b
      (opened (ring to) 0 1 o1 refl refl) (ring-1 f) in
      once-tree (ring to) inside words (suc (suc (suc f))) 0 k t 0 3 9 refl refl refl refl (found (codes "abc"))
      (Given 1) (Offers (found (codes "bc"))) before refl content refl
      (record { ranked = (found (codes "abc")).offers; in_order = refl; cut = refl; limits = refl })

  pub worked-ring : WorkedRing to inside words
  worked-ring = record { at_a = ring-0 0; at_b = ring-1 1; at_c = ring-2 2; again_at_a = ring-3 3 }

  -- ---- with two offers

  stop-1 : (f : ℕ) → IsTree (suc f) (stopped_calls to) inside words 1 (found (codes "b"))
  unfolding next_of visit_of steps link_step link_query proxy_step with_names resolved IsAnswer after_all
  stop-1 f =
      let here = is-here (trader_with_link to (codes "B") (codes "b") (codes "C")) 2 1 refl in
      let before : is_visited (map head_of (stopped_calls to)) 1 0 1 ≡ false = rw here refl in
      let t = trader_with_link to (codes "B") (codes "b") (codes "C") in
      let k = call 1 2 1 (Some 0) 1 t [] (answer_stage (codes "b")) in
      none-tree (stopped_calls to) inside words f 1 k t 1 2 1 refl refl refl refl (found (codes "b")) before refl refl
      (record { ranked = (found (codes "b")).offers; in_order = refl; cut = refl; limits = refl })

  stop-0 : (f : ℕ) → IsTree (suc (suc f)) (stopped_calls to) inside words 0 (found (codes "ab"))
  unfolding next_of visit_of steps link_step link_query proxy_step with_names resolved IsAnswer after_all
  stop-0 f =
      let here = is-here (trader_with_link to (codes "A") (codes "a") (codes "B")) 3 2 refl in
      let before : is_visited (map head_of (stopped_calls to)) 0 0 0 ≡ false = rw here refl in
      let t = trader_with_link to (codes "A") (codes "a") (codes "B") in
      let k = call 0 3 2 None 0 t (Given 1 ∷ []) (answer_stage (codes "ab")) in
      let o1 = call 1 2 1 (Some 0) 1 (trader_with_link to (codes "B") (codes "b") (codes "C")) [] (answer_stage (codes "b")) in
      let content = first-given (stopped_calls to) inside words (suc f) 0 k t 0 3 2 refl refl refl refl 1 1
      (to (codes "B")) (asks 2 1) (found (codes "b")) refl at.b
      (opened (stopped_calls to) 0 1 o1 refl refl) (stop-1 f) in
      once-tree (stopped_calls to) inside words (suc f) 0 k t 0 3 2 refl refl refl refl (found (codes "ab"))
      (Given 1) (Offers (found (codes "b"))) before refl content refl
      (record { ranked = (found (codes "ab")).offers; in_order = refl; cut = refl; limits = refl })

  pub worked-stop : WorkedStop to inside words
  worked-stop = record { at_a = stop-0 0; at_b = stop-1 1 }
