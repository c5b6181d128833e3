-- An Ask whose identifier is remembered.
use Rattle.std.proofs.Common.{◌≡◌, ℕ, false, List, [], ◌∷◌, map, None, refl}
use Rattle.std.proofs.Common.{sym, ap, subst, arith, inl, codes}
use Rattle.td_changes.specs.Histories.{after_all}
use Rattle.td_eval.specs.Mentioning.{with_names}
use Rattle.td_net.specs.Schedules.{Run, over, then}
use Rattle.td_net.specs.Worlds.{delivery_of, inside, open_call, sent, start, world}
use Rattle.td_net.specs.declared.event.Event.TheVariants.{Ask}
use Rattle.td_net_examples.proofs.Running.{come-repeat}
use Rattle.td_net_examples.proofs.Serving.{identifier-is, is-here, none-tree}
use Rattle.td_net_examples.specs.Fixtures.{asks, found, repeat_stage}
use Rattle.td_net_examples.specs.Without.{WithoutFresh}
use Rattle.td_net_examples.specs.Without.{call_of}
use Rattle.td_net_examples.specs.Without.{trader_remembering, unfresh}
use Rattle.td_net_laws.specs.Arrivals.{arrival_of, head_of, identifier_at, is_here}
use Rattle.td_net_laws.specs.Premises.{IsFresh, CallVisits}
use Rattle.td_net_laws.specs.Trees.{IsTree, is_visited}
use Rattle.td_cdr.specs.Marks.{RemembersAs}
use Rattle.td_trader.specs.Beginning.{after_begin as marks_after}
use Rattle.td_walk.specs.Answers.{IsAnswer}
use Rattle.td_walk.specs.Resolving.{resolved}
use Rattle.td_walk.specs.SubQueries.{link_query, link_step, proxy_step}
use Rattle.td_walk.specs.Visits.{next_of, steps, visit_of}
use Rattle.td_walk.specs.declared.trace.Address.{Address}

fresh-run : (home : Address) (words : List ℕ)
    → Run (start (trader_remembering ∷ []) home words) (Ask 0 (asks 1 9) ∷ []) (world (trader_remembering ∷ []) home unfresh 1 words 0)
unfolding marks_after after_all
fresh-run home words =
    let w0 = start (trader_remembering ∷ []) home words in
    let w1 = world (trader_remembering ∷ []) home unfresh 1 words 0 in
    let k = sent 0 (asks 1 9) 0 None in
    then (come-repeat trader_remembering (codes "q") 1 9 (omega arith) refl refl w0 (open_call w0 k) 0 0 0 None w1 1 refl refl) over

fresh-tree : (home : Address) (words : List ℕ)
    → IsTree 1 unfresh (inside (trader_remembering ∷ []) home) words 0 (found (codes "a"))
unfolding next_of visit_of steps link_step link_query proxy_step with_names resolved IsAnswer after_all
fresh-tree home words =
    let here = is-here trader_remembering 1 9 refl in
    let before : is_visited (map head_of unfresh) 0 0 0 ≡ false = rw here refl in
    let k = call_of 0 (asks 1 9) 0 None 0 trader_remembering repeat_stage in
    none-tree unfresh (inside (trader_remembering ∷ []) home) words 0 0 k trader_remembering 0 1 9 refl refl refl refl
    (found (codes "a")) before refl refl
    (record { ranked = (found (codes "a")).offers; in_order = refl; cut = refl; limits = refl })

pub without-fresh : (home : Address) (words : List ℕ) → WithoutFresh home words
unfolding after_all
without-fresh home words = record {
  run = fresh-run home words;
  not_fresh = λ (fresh : IsFresh (trader_remembering ∷ []) 0 (map head_of unfresh)).
      let k = call_of 0 (asks 1 9) 0 None 0 trader_remembering repeat_stage in
      let d = arrival_of (asks 1 9) (delivery_of 0 trader_remembering) in
      let visits : CallVisits 0 (map head_of unfresh) (head_of k) d = record {
        at = record { place = 0; is = refl; has_arrived = refl };
        root = refl;
        visits = ap is_here (is-here trader_remembering 1 9 refl);
      } in
      let held : RemembersAs trader_remembering.marks (identifier_at trader_remembering (asks 1 9)) 1 =
      subst (λ (id : List ℕ). RemembersAs trader_remembering.marks id 1)
      (sym (identifier-is trader_remembering (codes "q") 1 9 (omega arith))) (inl refl) in
      fresh (head_of k) d visits 0 trader_remembering 1 refl held;
  tree = fresh-tree home words;
  gives = refl;
}
