-- What ended calls give is their trees: the equation of each call, unrolled by the calls' numbers.
use Rattle.std.proofs.Common.{◌≡◌, ℕ, zero, suc, ◌+◌, ◌≤◌, List, map, length, not, slice_get, Option, Some, Bool}
use Rattle.std.proofs.Common.{true, false}
use Rattle.std.proofs.Common.{refl, sym, ◌∙◌, ap, subst, arith}
use Rattle.std.proofs.lemmas.Option.{slice_get_within}
use Rattle.td_typecode.specs.declared.reference.Ior.{Ior}
use Rattle.td_net.specs.declared.call.Call.{Call}
use Rattle.td_net.specs.declared.call.Delivery.{Delivery}
use Rattle.td_net.specs.declared.call.Stage.TheVariants.{Ended}
use Rattle.td_net.specs.declared.call.QuestionStep.{QuestionStep}
use Rattle.td_net_laws.proofs.Apart.{call-at}
use Rattle.td_net_laws.proofs.Rights.{CallerRight, Over, Rights, StageRight, seeks, visits_by}
use Rattle.td_net_laws.specs.Arrivals.{Arrival, ArrivesAt, CallHead, Way, Nowhere, Along, Here, arrival_of, head_of}
use Rattle.td_net_laws.specs.Arrivals.{is_here}
use Rattle.td_net_laws.specs.Arrivals.{path_at}
use Rattle.td_net_laws.specs.Arrivals.{search_at, way_of}
use Rattle.td_net_laws.specs.Steps.{GivesAnswer, AsksEach, EndedAs, IsSubCall, HasSteps, given, lost, nothing_yet}
use Rattle.td_net_laws.specs.Steps.{outside}
use Rattle.td_net_laws.specs.Steps.{unreachable}
use Rattle.td_net_laws.specs.Steps.{unvalued, valued}
use Rattle.td_net_laws.specs.Trees.{IsTree, TreeAt, TreeBy, is_visited}
use Rattle.td_ops.specs.declared.call.Query.{Query}
use Rattle.td_store.specs.declared.local.Local.{Local}
use Rattle.td_trader.specs.PlainTraders.{PlainTrader}
use Rattle.td_walk.specs.declared.answer.StepAnswer.{StepAnswer}
use Rattle.td_walk.specs.declared.answer.SubAnswer.{SubAnswer}
use Rattle.td_walk.specs.declared.trace.Visit.{Visit}
use Rattle.td_query_walk.specs.Walks.{answer_in}

-- what the sub-calls give may be said otherwise
pub content-map : {calls : List Call} {inside : Ior → Option ℕ} {c : ℕ} {l : Local} {S T : ℕ → SubAnswer → Type 0}
    {rs : List StepAnswer} {ss : List QuestionStep}
    → ((k : ℕ) (q : Query) (d : ℕ) (a : SubAnswer) → IsSubCall calls c k q d → S d a → T d a)
    → HasSteps calls inside c l S rs ss → HasSteps calls inside c l T rs ss
content-map go nothing_yet = nothing_yet
content-map go (outside s is out) = outside (content-map go s) is out
content-map go (unreachable s is far) = unreachable (content-map go s) is far
content-map go (unvalued s is near) = unvalued (content-map go s) is near
content-map go (valued v s is near) = valued v (content-map go s) is near
content-map go (lost s is at o) = lost (content-map go s) is at o
content-map go (given {k = k} {q = q} {d = d} {a = a} s is at o e) = given (content-map go s) is at o (go k q d a o e)

module _ (calls : List Call) (inside : Ior → Option ℕ) (r : ℕ) (ws : List ℕ) (rights : Rights calls inside ws)
    (exactly : (h : CallHead) (d : Arrival) → ArrivesAt (map head_of calls) h d → h.root ≡ r → d.visits ≡ true → (s : Bool)
    → d.searches ≡ s → not (is_visited (map head_of calls) h.target h.root d.serial) ≡ s) where
  abbrev Below : ℕ → ℕ → Type 0
  Below f c =
      (d : ℕ) (k : Call) (v : Visit) → slice_get calls d ≡ Some k → k.caller ≡ Some c → k.stage ≡ Ended v
      → IsTree f calls inside ws d (answer_in v)

  one : (f c : ℕ) (k : Call) (v : Visit) → slice_get calls c ≡ Some k → k.root ≡ r → k.stage ≡ Ended v → Below f c
      → IsTree (suc f) calls inside ws c (answer_in v)
  one f c k v is root ended below =
      let x : Over calls inside c ws k v =
      subst (λ s. StageRight calls inside c ws k s) ended (rights c k is).stage in
      let d = x.delivery in
      let a = arrival_of k.query d in
      let tree : TreeBy calls inside c (IsTree f calls inside ws) ws (answer_in v) k (Some d) =
      by_way d.seen.value (way_of d.seen.value k.query) (seeks d.seen.value k.query)
      (not (is_visited (map head_of calls) k.target k.root d.serial))
      (λ visits. exactly (head_of k) a (call-at calls c k d is x.delivered) root visits
      (seeks d.seen.value k.query) refl)
      x.is in
      subst (λ o. TreeAt calls inside c (IsTree f calls inside ws) ws (answer_in v) o) (sym is)
      (subst (λ o. TreeBy calls inside c (IsTree f calls inside ws) ws (answer_in v) k o) (sym x.delivered) tree)
    where
      asked : (l : Local) → AsksEach calls inside c (EndedAs calls) ws k (answer_in v) l
          → AsksEach calls inside c (IsTree f calls inside ws) ws k (answer_in v) l
      asked l x = record {
        answers = x.answers;
        content =
            content-map (λ n q d b o e. subst (IsTree f calls inside ws d) (sym e.gives)
            (below d o.call e.visit o.is o.by
            (let i = o.is in let j = e.is in let same : e.call ≡ o.call = cc in
            subst (λ (z : Call). z.stage ≡ Ended e.visit) same e.ended))) x.content;
        none_left = x.none_left;
        is_answer = x.is_answer;
      }

      by_way : (t : PlainTrader) (w : Way) (s u : Bool) → (is_here w ≡ true → u ≡ s)
          → GivesAnswer calls inside c (EndedAs calls) ws k t (answer_in v) w s
          → GivesAnswer calls inside c (IsTree f calls inside ws) ws k t (answer_in v) w u
      by_way t Nowhere s u same x = x
      by_way t (Along link) s u same x = asked (path_at t link k.query) x
      by_way t Here false u same x =
          subst (λ z. GivesAnswer calls inside c (IsTree f calls inside ws) ws k t (answer_in v) Here z)
          (sym (same refl)) x
      by_way t Here true u same x =
          subst (λ z. GivesAnswer calls inside c (IsTree f calls inside ws) ws k t (answer_in v) Here z)
          (sym (same refl))
          (asked (search_at t k.query) x)

  pub unroll : (f c : ℕ) (k : Call) (v : Visit) → slice_get calls c ≡ Some k → k.root ≡ r → k.stage ≡ Ended v
      → length calls ≤ c + f → IsTree f calls inside ws c (answer_in v)
  unroll zero c k v is root ended far = absurd (let w = slice_get_within calls c k is in omega arith)
  unroll (suc f) c k v is root ended far =
      one f c k v is root ended (λ d k2 v2 is2 by ended2.
      let from : CallerRight calls d k2 (Some c) =
      subst (λ s. CallerRight calls d k2 s) by (rights d k2 is2).caller in
      let same : k ≡ from.call = (let x = from.is in cc) in
      let greater = from.before in
      unroll f d k2 v2 is2 (sym from.root ∙ (ap (λ (z : Call). z.root) (sym same) ∙ root)) ended2 (omega arith))
