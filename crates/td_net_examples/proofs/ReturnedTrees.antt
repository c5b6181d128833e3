-- The trees of a call that comes back, from the last call on.
use Rattle.std.proofs.Common.{◌≡◌, ℕ, suc, true, false, List, [], ◌∷◌, map, Option, Some, None, refl, codes}
use Rattle.td_changes.specs.Applying.{comes_to, count_change}
use Rattle.td_changes.specs.Histories.{after_all}
use Rattle.td_typecode.specs.declared.reference.Ior.{Ior}
use Rattle.td_eval.specs.Mentioning.{with_names}
use Rattle.td_ior.specs.Number.{number_below}
use Rattle.td_net.specs.declared.call.QuestionStep.TheVariants.{Given}
use Rattle.td_net_examples.proofs.Serving.{first-given, is-here, once-tree, opened, repeat-tree}
use Rattle.td_net_examples.specs.Fixtures.{AreInside, answer_stage, asks, call, found, trader_with_link, repeat_stage}
use Rattle.td_net_examples.specs.Fixtures.{after_search}
use Rattle.td_net_examples.specs.Fixtures.{without_first}
use Rattle.td_net_examples.specs.Trees.{WorkedReturn, returned_calls}
use Rattle.td_net_laws.specs.Arrivals.{head_of}
use Rattle.td_net_laws.specs.Trees.{IsTree, is_visited}
use Rattle.td_walk.specs.Answers.{IsAnswer}
use Rattle.td_walk.specs.Resolving.{resolved}
use Rattle.td_walk.specs.SubQueries.{link_query, link_step, proxy_step}
use Rattle.td_walk.specs.Visits.{next_of, steps, visit_of}
use Rattle.td_walk.specs.declared.answer.StepAnswer.TheVariants.{Offers}

module _ (to : List ℕ → Ior) (inside : Ior → Option ℕ) (words : List ℕ) (at : AreInside inside to) where
  returned-2 : (f : ℕ) → IsTree (suc f) (returned_calls to) inside words 2 (found [])
  unfolding next_of visit_of steps link_step link_query proxy_step with_names resolved IsAnswer after_all comes_to
      count_change number_below
  returned-2 f =
      let here = is-here (trader_with_link to (codes "A") (codes "a") (codes "B")) 3 9 refl in
      let before : is_visited (map head_of (returned_calls to)) 0 0 2 ≡ true = rw here refl in
      let t = without_first (after_search (codes "q") (trader_with_link to (codes "A") (codes "a") (codes "B"))) in
      let k = call 0 1 7 (Some 1) 2 t [] repeat_stage in
      repeat-tree (returned_calls to) inside words f 2 k t 2 1 7 refl refl refl refl before

  returned-1 : (f : ℕ) → IsTree (suc (suc f)) (returned_calls to) inside words 1 (found (codes "b"))
  unfolding next_of visit_of steps link_step link_query proxy_step with_names resolved IsAnswer after_all comes_to
      count_change number_below
  returned-1 f =
      let here = is-here (trader_with_link to (codes "B") (codes "b") (codes "A")) 2 8 refl in
      let before : is_visited (map head_of (returned_calls to)) 1 0 1 ≡ false = rw here refl in
      let t = trader_with_link to (codes "B") (codes "b") (codes "A") in
      let k = call 1 2 8 (Some 0) 1 t (Given 2 ∷ []) (answer_stage (codes "b")) in
      let o2 = call 0 1 7 (Some 1) 2
      (without_first (after_search (codes "q") (trader_with_link to (codes "A") (codes "a") (codes "B")))) [] repeat_stage in
      let content = first-given (returned_calls to) inside words (suc f) 1 k t 1 2 8 refl refl refl refl 2 0 (to (codes "A"))
      (asks 1 7) (found []) refl at.a
      (opened (returned_calls to) 1 2 o2 refl refl) (returned-2 f) in
      once-tree (returned_calls to) inside words (suc f) 1 k t 1 2 8 refl refl refl refl (found (codes "b")) (Given 2)
      (Offers (found [])) before refl content refl
      (record { ranked = (found (codes "b")).offers; in_order = refl; cut = refl; limits = refl })

  returned-0 : (f : ℕ) → IsTree (suc (suc (suc f))) (returned_calls to) inside words 0 (found (codes "ab"))
  unfolding next_of visit_of steps link_step link_query proxy_step with_names resolved IsAnswer after_all comes_to
      count_change number_below
  returned-0 f =
      let here = is-here (trader_with_link to (codes "A") (codes "a") (codes "B")) 3 9 refl in
      let here2 = is-here (without_first (after_search (codes "q") (trader_with_link to (codes "A") (codes "a") (codes "B")))) 1 7
      refl in
      let before : is_visited (map head_of (returned_calls to)) 0 0 0 ≡ false = rw (here, here2) refl in
      let t = trader_with_link to (codes "A") (codes "a") (codes "B") in
      let k = call 0 3 9 None 0 t (Given 1 ∷ []) (answer_stage (codes "ab")) in
      let o1 = call 1 2 8 (Some 0) 1 (trader_with_link to (codes "B") (codes "b") (codes "A")) (Given 2 ∷ [])
      (answer_stage (codes "b")) in
      let content = first-given (returned_calls to) inside words (suc (suc f)) 0 k t 0 3 9 refl refl refl refl 1 1
      (to (codes "B")) (asks 2 8) (found (codes "b")) refl at.b
      (opened (returned_calls to) 0 1 o1 refl refl) (returned-1 f) in
      once-tree (returned_calls to) inside words (suc (suc f)) 0 k t 0 3 9 refl refl refl refl (found (codes "ab"))
      (Given 1) (Offers (found (codes "b"))) before refl content refl
      (record { ranked = (found (codes "ab")).offers; in_order = refl; cut = refl; limits = refl })

  pub worked-return : WorkedReturn to inside words
  worked-return = record { at_a = returned-0 0; at_b = returned-1 1; again_at_a = returned-2 2 }
