-- The trees of calls between which traders are changed, from the last call on.
use Rattle.std.proofs.Common.{◌≡◌, ℕ, suc, false, List, [], ◌∷◌, map, Option, Some, None, refl, codes}
use Rattle.td_changes.specs.Applying.{comes_to, count_change}
use Rattle.td_changes.specs.Histories.{after_all}
use Rattle.td_typecode.specs.declared.reference.Ior.{Ior}
use Rattle.td_eval.specs.Mentioning.{with_names}
use Rattle.td_ior.specs.Number.{number_below}
use Rattle.td_net.specs.declared.call.QuestionStep.TheVariants.{Given}
use Rattle.td_net_examples.proofs.Serving.{first-given, is-here, none-tree, opened, twice-tree}
use Rattle.td_net_examples.specs.Fixtures.{AreInside, answer_stage, asks, call, found, offer_numbered}
use Rattle.td_net_examples.specs.Fixtures.{trader_without_links, without_first}
use Rattle.td_net_examples.specs.Trees.{WorkedChanges, changed_calls, top}
use Rattle.td_net_laws.specs.Arrivals.{head_of}
use Rattle.td_net_laws.specs.Trees.{IsTree, is_visited}
use Rattle.td_walk.specs.Answers.{IsAnswer}
use Rattle.td_walk.specs.Resolving.{resolved}
use Rattle.td_walk.specs.SubQueries.{link_query, link_step, proxy_step}
use Rattle.td_walk.specs.Visits.{next_of, steps, visit_of}
use Rattle.td_walk.specs.declared.answer.StepAnswer.TheVariants.{Offers}

module _ (to : List ℕ → Ior) (inside : Ior → Option ℕ) (words : List ℕ) (at : AreInside inside to) where
  changed-2 : (f : ℕ) → IsTree (suc f) (changed_calls to) inside words 2 (found (codes "e"))
  unfolding next_of visit_of steps link_step link_query proxy_step with_names resolved IsAnswer after_all comes_to
      count_change number_below
  changed-2 f =
      let here = is-here (without_first (trader_without_links (codes "C") (offer_numbered 1 (codes "c") ∷ offer_numbered 2 (codes "e") ∷ []))) 2 7
      refl in
      let before : is_visited (map head_of (changed_calls to)) 2 0 2 ≡ false = rw here refl in
      let t = without_first (trader_without_links (codes "C") (offer_numbered 1 (codes "c") ∷ offer_numbered 2 (codes "e") ∷ [])) in
      let k = call 2 2 7 (Some 0) 2 t [] (answer_stage (codes "e")) in
      none-tree (changed_calls to) inside words f 2 k t 2 2 7 refl refl refl refl (found (codes "e")) before refl refl
      (record { ranked = (found (codes "e")).offers; in_order = refl; cut = refl; limits = refl })

  changed-1 : (f : ℕ) → IsTree (suc f) (changed_calls to) inside words 1 (found (codes "b"))
  unfolding next_of visit_of steps link_step link_query proxy_step with_names resolved IsAnswer after_all comes_to
      count_change number_below
  changed-1 f =
      let here = is-here (trader_without_links (codes "B") (offer_numbered 1 (codes "b") ∷ [])) 2 8 refl in
      let before : is_visited (map head_of (changed_calls to)) 1 0 1 ≡ false = rw here refl in
      let t = trader_without_links (codes "B") (offer_numbered 1 (codes "b") ∷ []) in
      let k = call 1 2 8 (Some 0) 1 t [] (answer_stage (codes "b")) in
      none-tree (changed_calls to) inside words f 1 k t 1 2 8 refl refl refl refl (found (codes "b")) before refl refl
      (record { ranked = (found (codes "b")).offers; in_order = refl; cut = refl; limits = refl })

  changed-0 : (f : ℕ) → IsTree (suc (suc f)) (changed_calls to) inside words 0 (found (codes "abe"))
  unfolding next_of visit_of steps link_step link_query proxy_step with_names resolved IsAnswer after_all comes_to
      count_change number_below
  changed-0 f =
      let here = is-here (top to) 3 9 refl in
      let before : is_visited (map head_of (changed_calls to)) 0 0 0 ≡ false = rw here refl in
      let t = top to in
      let k = call 0 3 9 None 0 t (Given 1 ∷ Given 2 ∷ []) (answer_stage (codes "abe")) in
      let o1 = call 1 2 8 (Some 0) 1 (trader_without_links (codes "B") (offer_numbered 1 (codes "b") ∷ [])) [] (answer_stage (codes "b")) in
      let o2 = call 2 2 7 (Some 0) 2
      (without_first (trader_without_links (codes "C") (offer_numbered 1 (codes "c") ∷ offer_numbered 2 (codes "e") ∷ []))) []
      (answer_stage (codes "e")) in
      let content = first-given (changed_calls to) inside words (suc f) 0 k t 0 3 9 refl refl refl refl 1 1 (to (codes "B"))
      (asks 2 8) (found (codes "b")) refl at.b
      (opened (changed_calls to) 0 1 o1 refl refl) (changed-1 f) in
      twice-tree (changed_calls to) inside words (suc f) 0 k t 0 3 9 refl refl refl refl (found (codes "abe")) (Given 1)
      (Offers (found (codes "b"))) 2 2 (to (codes "C")) (asks 2 7)
      (found (codes "e")) before refl content refl at.c
      (opened (changed_calls to) 0 2 o2 refl refl) (changed-2 f) refl
      (record { ranked = (found (codes "abe")).offers; in_order = refl; cut = refl; limits = refl })

  pub worked-changes : WorkedChanges to inside words
  worked-changes = record { at_a = changed-0 1; at_b = changed-1 2; at_c = changed-2 2 }
