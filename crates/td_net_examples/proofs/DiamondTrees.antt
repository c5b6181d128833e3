-- The trees of the diamond, from the last calls on.
use Rattle.std.proofs.Common.{◌≡◌, ℕ, suc, true, false, List, [], ◌∷◌, map, Option, Some, None, refl, codes}
use Rattle.td_changes.specs.Histories.{after_all}
use Rattle.td_typecode.specs.declared.reference.Ior.{Ior}
use Rattle.td_eval.specs.Mentioning.{with_names}
use Rattle.td_net.specs.declared.call.QuestionStep.TheVariants.{Given, Lost}
use Rattle.td_net_examples.proofs.Serving.{first-given, first-lost, is-here, none-tree, once-tree, opened}
use Rattle.td_net_examples.proofs.Serving.{repeat-tree, twice-tree}
use Rattle.td_net_examples.specs.Fixtures.{AreInside, answer_stage, asks, call, found, repeat_stage, after_search}
use Rattle.td_net_examples.specs.Trees.{WorkedDiamond, bottom, in_turn, left, left_first, right, right_first, top}
use Rattle.td_net_laws.specs.Arrivals.{head_of}
use Rattle.td_net_laws.specs.Trees.{IsTree, is_visited}
use Rattle.td_walk.specs.Answers.{IsAnswer}
use Rattle.td_walk.specs.Resolving.{resolved}
use Rattle.td_walk.specs.SubQueries.{link_query, link_step, proxy_step}
use Rattle.td_walk.specs.Visits.{next_of, steps, visit_of}
use Rattle.td_walk.specs.declared.answer.StepAnswer.TheVariants.{Failed, Offers}

module _ (to : List ℕ → Ior) (inside : Ior → Option ℕ) (words : List ℕ) (at : AreInside inside to) where
  -- ---- one after the other

  in-turn-4 : (f : ℕ) → IsTree (suc f) (in_turn to) inside words 4 (found [])
  unfolding next_of visit_of steps link_step link_query proxy_step with_names resolved IsAnswer after_all
  in-turn-4 f =
      let here = is-here (bottom) 1 7 refl in
      let before : is_visited (map head_of (in_turn to)) 3 0 4 ≡ true = rw here refl in
      let t = after_search (codes "q") bottom in
      let k = call 3 1 5 (Some 3) 4 t [] repeat_stage in
      repeat-tree (in_turn to) inside words f 4 k t 4 1 5 refl refl refl refl before

  in-turn-3 : (f : ℕ) → IsTree (suc (suc f)) (in_turn to) inside words 3 (found (codes "c"))
  unfolding next_of visit_of steps link_step link_query proxy_step with_names resolved IsAnswer after_all
  in-turn-3 f =
      let here = is-here (right to) 2 6 refl in
      let before : is_visited (map head_of (in_turn to)) 2 0 3 ≡ false = rw here refl in
      let t = right to in
      let k = call 2 2 6 (Some 0) 3 t (Given 4 ∷ []) (answer_stage (codes "c")) in
      let o4 = call 3 1 5 (Some 3) 4 (after_search (codes "q") bottom) [] repeat_stage in
      let content = first-given (in_turn to) inside words (suc f) 3 k t 3 2 6 refl refl refl refl 4 3 (to (codes "D"))
      (asks 1 5) (found []) refl at.d
      (opened (in_turn to) 3 4 o4 refl refl) (in-turn-4 f) in
      once-tree (in_turn to) inside words (suc f) 3 k t 3 2 6 refl refl refl refl (found (codes "c")) (Given 4)
      (Offers (found [])) before refl content refl
      (record { ranked = (found (codes "c")).offers; in_order = refl; cut = refl; limits = refl })

  in-turn-2 : (f : ℕ) → IsTree (suc f) (in_turn to) inside words 2 (found (codes "d"))
  unfolding next_of visit_of steps link_step link_query proxy_step with_names resolved IsAnswer after_all
  in-turn-2 f =
      let here = is-here (bottom) 1 7 refl in
      let here2 = is-here (after_search (codes "q") bottom) 1 5 refl in
      let before : is_visited (map head_of (in_turn to)) 3 0 2 ≡ false = rw (here, here2) refl in
      let t = bottom in
      let k = call 3 1 7 (Some 1) 2 t [] (answer_stage (codes "d")) in
      none-tree (in_turn to) inside words f 2 k t 2 1 7 refl refl refl refl (found (codes "d")) before refl refl
      (record { ranked = (found (codes "d")).offers; in_order = refl; cut = refl; limits = refl })

  in-turn-1 : (f : ℕ) → IsTree (suc (suc f)) (in_turn to) inside words 1 (found (codes "bd"))
  unfolding next_of visit_of steps link_step link_query proxy_step with_names resolved IsAnswer after_all
  in-turn-1 f =
      let here = is-here (left to) 2 8 refl in
      let before : is_visited (map head_of (in_turn to)) 1 0 1 ≡ false = rw here refl in
      let t = left to in
      let k = call 1 2 8 (Some 0) 1 t (Given 2 ∷ []) (answer_stage (codes "bd")) in
      let o2 = call 3 1 7 (Some 1) 2 bottom [] (answer_stage (codes "d")) in
      let content = first-given (in_turn to) inside words (suc f) 1 k t 1 2 8 refl refl refl refl 2 3 (to (codes "D"))
      (asks 1 7) (found (codes "d")) refl at.d
      (opened (in_turn to) 1 2 o2 refl refl) (in-turn-2 f) in
      once-tree (in_turn to) inside words (suc f) 1 k t 1 2 8 refl refl refl refl (found (codes "bd")) (Given 2)
      (Offers (found (codes "d"))) before refl content refl
      (record { ranked = (found (codes "bd")).offers; in_order = refl; cut = refl; limits = refl })

  in-turn-0 : (f : ℕ) → IsTree (suc (suc (suc f))) (in_turn to) inside words 0 (found (codes "abdc"))
  unfolding next_of visit_of steps link_step link_query proxy_step with_names resolved IsAnswer after_all
  in-turn-0 f =
      let here = is-here (top to) 3 9 refl in
      let before : is_visited (map head_of (in_turn to)) 0 0 0 ≡ false = rw here refl in
      let t = top to in
      let k = call 0 3 9 None 0 t (Given 1 ∷ Given 3 ∷ []) (answer_stage (codes "abdc")) in
      let o1 = call 1 2 8 (Some 0) 1 (left to) (Given 2 ∷ []) (answer_stage (codes "bd")) in
      let o3 = call 2 2 6 (Some 0) 3 (right to) (Given 4 ∷ []) (answer_stage (codes "c")) in
      let content = first-given (in_turn to) inside words (suc (suc f)) 0 k t 0 3 9 refl refl refl refl 1 1
      (to (codes "B")) (asks 2 8) (found (codes "bd")) refl at.b
      (opened (in_turn to) 0 1 o1 refl refl) (in-turn-1 f) in
      twice-tree (in_turn to) inside words (suc (suc f)) 0 k t 0 3 9 refl refl refl refl (found (codes "abdc"))
      (Given 1) (Offers (found (codes "bd"))) 3 2 (to (codes "C")) (asks 2 6)
      (found (codes "c")) before refl content refl at.c
      (opened (in_turn to) 0 3 o3 refl refl) (in-turn-3 f) refl
      (record { ranked = (found (codes "abdc")).offers; in_order = refl; cut = refl; limits = refl })

  -- ---- where C comes to D first

  right-first-2 : (f : ℕ) → IsTree (suc f) (right_first to) inside words 2 (found [])
  unfolding next_of visit_of steps link_step link_query proxy_step with_names resolved IsAnswer after_all
  right-first-2 f =
      let here = is-here (after_search (codes "q") bottom) 1 7 refl in
      let here2 = is-here (bottom) 1 7 refl in
      let before : is_visited (map head_of (right_first to)) 3 0 4 ≡ true = rw (here, here2) refl in
      let t = after_search (codes "q") bottom in
      let k = call 3 1 7 (Some 1) 4 t [] repeat_stage in
      repeat-tree (right_first to) inside words f 2 k t 4 1 7 refl refl refl refl before

  right-first-4 : (f : ℕ) → IsTree (suc f) (right_first to) inside words 4 (found (codes "d"))
  unfolding next_of visit_of steps link_step link_query proxy_step with_names resolved IsAnswer after_all
  right-first-4 f =
      let here = is-here (after_search (codes "q") bottom) 1 7 refl in
      let here2 = is-here (bottom) 1 7 refl in
      let before : is_visited (map head_of (right_first to)) 3 0 3 ≡ false = rw (here, here2) refl in
      let t = bottom in
      let k = call 3 1 7 (Some 3) 3 t [] (answer_stage (codes "d")) in
      none-tree (right_first to) inside words f 4 k t 3 1 7 refl refl refl refl (found (codes "d")) before refl refl
      (record { ranked = (found (codes "d")).offers; in_order = refl; cut = refl; limits = refl })

  right-first-3 : (f : ℕ) → IsTree (suc (suc f)) (right_first to) inside words 3 (found (codes "cd"))
  unfolding next_of visit_of steps link_step link_query proxy_step with_names resolved IsAnswer after_all
  right-first-3 f =
      let here = is-here (right to) 2 8 refl in
      let before : is_visited (map head_of (right_first to)) 2 0 2 ≡ false = rw here refl in
      let t = right to in
      let k = call 2 2 8 (Some 0) 2 t (Given 4 ∷ []) (answer_stage (codes "cd")) in
      let o4 = call 3 1 7 (Some 3) 3 bottom [] (answer_stage (codes "d")) in
      let content = first-given (right_first to) inside words (suc f) 3 k t 2 2 8 refl refl refl refl 4 3
      (to (codes "D")) (asks 1 7) (found (codes "d")) refl at.d
      (opened (right_first to) 3 4 o4 refl refl) (right-first-4 f) in
      once-tree (right_first to) inside words (suc f) 3 k t 2 2 8 refl refl refl refl (found (codes "cd")) (Given 4)
      (Offers (found (codes "d"))) before refl content refl
      (record { ranked = (found (codes "cd")).offers; in_order = refl; cut = refl; limits = refl })

  right-first-1 : (f : ℕ) → IsTree (suc (suc f)) (right_first to) inside words 1 (found (codes "b"))
  unfolding next_of visit_of steps link_step link_query proxy_step with_names resolved IsAnswer after_all
  right-first-1 f =
      let here = is-here (left to) 2 8 refl in
      let before : is_visited (map head_of (right_first to)) 1 0 1 ≡ false = rw here refl in
      let t = left to in
      let k = call 1 2 8 (Some 0) 1 t (Given 2 ∷ []) (answer_stage (codes "b")) in
      let o2 = call 3 1 7 (Some 1) 4 (after_search (codes "q") bottom) [] repeat_stage in
      let content = first-given (right_first to) inside words (suc f) 1 k t 1 2 8 refl refl refl refl 2 3
      (to (codes "D")) (asks 1 7) (found []) refl at.d
      (opened (right_first to) 1 2 o2 refl refl) (right-first-2 f) in
      once-tree (right_first to) inside words (suc f) 1 k t 1 2 8 refl refl refl refl (found (codes "b")) (Given 2)
      (Offers (found [])) before refl content refl
      (record { ranked = (found (codes "b")).offers; in_order = refl; cut = refl; limits = refl })

  right-first-0 : (f : ℕ) → IsTree (suc (suc (suc f))) (right_first to) inside words 0 (found (codes "acd"))
  unfolding next_of visit_of steps link_step link_query proxy_step with_names resolved IsAnswer after_all
  right-first-0 f =
      let here = is-here (top to) 3 9 refl in
      let before : is_visited (map head_of (right_first to)) 0 0 0 ≡ false = rw here refl in
      let t = top to in
      let k = call 0 3 9 None 0 t (Lost 1 ∷ Given 3 ∷ []) (answer_stage (codes "acd")) in
      let o1 = call 1 2 8 (Some 0) 1 (left to) (Given 2 ∷ []) (answer_stage (codes "b")) in
      let o3 = call 2 2 8 (Some 0) 2 (right to) (Given 4 ∷ []) (answer_stage (codes "cd")) in
      let content = first-lost (right_first to) inside words (suc (suc f)) 0 k t 0 3 9 refl refl refl refl 1 1
      (to (codes "B")) (asks 2 8) refl at.b
      (opened (right_first to) 0 1 o1 refl refl) in
      twice-tree (right_first to) inside words (suc (suc f)) 0 k t 0 3 9 refl refl refl refl (found (codes "acd"))
      (Lost 1) Failed 3 2 (to (codes "C")) (asks 2 8)
      (found (codes "cd")) before refl content refl at.c
      (opened (right_first to) 0 3 o3 refl refl) (right-first-3 f) refl
      (record { ranked = (found (codes "acd")).offers; in_order = refl; cut = refl; limits = refl })

  -- ---- where B does

  left-first-4 : (f : ℕ) → IsTree (suc f) (left_first to) inside words 4 (found [])
  unfolding next_of visit_of steps link_step link_query proxy_step with_names resolved IsAnswer after_all
  left-first-4 f =
      let here = is-here (bottom) 1 7 refl in
      let before : is_visited (map head_of (left_first to)) 3 0 4 ≡ true = rw here refl in
      let t = after_search (codes "q") bottom in
      let k = call 3 1 7 (Some 3) 4 t [] repeat_stage in
      repeat-tree (left_first to) inside words f 4 k t 4 1 7 refl refl refl refl before

  left-first-2 : (f : ℕ) → IsTree (suc f) (left_first to) inside words 2 (found (codes "d"))
  unfolding next_of visit_of steps link_step link_query proxy_step with_names resolved IsAnswer after_all
  left-first-2 f =
      let here = is-here (bottom) 1 7 refl in
      let here2 = is-here (after_search (codes "q") bottom) 1 7 refl in
      let before : is_visited (map head_of (left_first to)) 3 0 3 ≡ false = rw (here, here2) refl in
      let t = bottom in
      let k = call 3 1 7 (Some 1) 3 t [] (answer_stage (codes "d")) in
      none-tree (left_first to) inside words f 2 k t 3 1 7 refl refl refl refl (found (codes "d")) before refl refl
      (record { ranked = (found (codes "d")).offers; in_order = refl; cut = refl; limits = refl })

  left-first-3 : (f : ℕ) → IsTree (suc (suc f)) (left_first to) inside words 3 (found (codes "c"))
  unfolding next_of visit_of steps link_step link_query proxy_step with_names resolved IsAnswer after_all
  left-first-3 f =
      let here = is-here (right to) 2 8 refl in
      let before : is_visited (map head_of (left_first to)) 2 0 2 ≡ false = rw here refl in
      let t = right to in
      let k = call 2 2 8 (Some 0) 2 t (Given 4 ∷ []) (answer_stage (codes "c")) in
      let o4 = call 3 1 7 (Some 3) 4 (after_search (codes "q") bottom) [] repeat_stage in
      let content = first-given (left_first to) inside words (suc f) 3 k t 2 2 8 refl refl refl refl 4 3 (to (codes "D"))
      (asks 1 7) (found []) refl at.d
      (opened (left_first to) 3 4 o4 refl refl) (left-first-4 f) in
      once-tree (left_first to) inside words (suc f) 3 k t 2 2 8 refl refl refl refl (found (codes "c")) (Given 4)
      (Offers (found [])) before refl content refl
      (record { ranked = (found (codes "c")).offers; in_order = refl; cut = refl; limits = refl })

  left-first-1 : (f : ℕ) → IsTree (suc (suc f)) (left_first to) inside words 1 (found (codes "bd"))
  unfolding next_of visit_of steps link_step link_query proxy_step with_names resolved IsAnswer after_all
  left-first-1 f =
      let here = is-here (left to) 2 8 refl in
      let before : is_visited (map head_of (left_first to)) 1 0 1 ≡ false = rw here refl in
      let t = left to in
      let k = call 1 2 8 (Some 0) 1 t (Given 2 ∷ []) (answer_stage (codes "bd")) in
      let o2 = call 3 1 7 (Some 1) 3 bottom [] (answer_stage (codes "d")) in
      let content = first-given (left_first to) inside words (suc f) 1 k t 1 2 8 refl refl refl refl 2 3 (to (codes "D"))
      (asks 1 7) (found (codes "d")) refl at.d
      (opened (left_first to) 1 2 o2 refl refl) (left-first-2 f) in
      once-tree (left_first to) inside words (suc f) 1 k t 1 2 8 refl refl refl refl (found (codes "bd")) (Given 2)
      (Offers (found (codes "d"))) before refl content refl
      (record { ranked = (found (codes "bd")).offers; in_order = refl; cut = refl; limits = refl })

  left-first-0 : (f : ℕ) → IsTree (suc (suc (suc f))) (left_first to) inside words 0 (found (codes "ac"))
  unfolding next_of visit_of steps link_step link_query proxy_step with_names resolved IsAnswer after_all
  left-first-0 f =
      let here = is-here (top to) 3 9 refl in
      let before : is_visited (map head_of (left_first to)) 0 0 0 ≡ false = rw here refl in
      let t = top to in
      let k = call 0 3 9 None 0 t (Lost 1 ∷ Given 3 ∷ []) (answer_stage (codes "ac")) in
      let o1 = call 1 2 8 (Some 0) 1 (left to) (Given 2 ∷ []) (answer_stage (codes "bd")) in
      let o3 = call 2 2 8 (Some 0) 2 (right to) (Given 4 ∷ []) (answer_stage (codes "c")) in
      let content = first-lost (left_first to) inside words (suc (suc f)) 0 k t 0 3 9 refl refl refl refl 1 1
      (to (codes "B")) (asks 2 8) refl at.b
      (opened (left_first to) 0 1 o1 refl refl) in
      twice-tree (left_first to) inside words (suc (suc f)) 0 k t 0 3 9 refl refl refl refl (found (codes "ac"))
      (Lost 1) Failed 3 2 (to (codes "C")) (asks 2 8)
      (found (codes "c")) before refl content refl at.c
      (opened (left_first to) 0 3 o3 refl refl) (left-first-3 f) refl
      (record { ranked = (found (codes "ac")).offers; in_order = refl; cut = refl; limits = refl })

  pub worked-diamond : WorkedDiamond to inside words
  worked-diamond = record {
    in_turn_at_a = in-turn-0 2;
    in_turn_at_b = in-turn-1 3;
    in_turn_at_c = in-turn-3 3;
    right_at_a = right-first-0 2;
    right_at_b = right-first-1 3;
    right_at_c = right-first-3 3;
    left_at_a = left-first-0 2;
    left_at_b = left-first-1 3;
    left_at_c = left-first-3 3;
  }
