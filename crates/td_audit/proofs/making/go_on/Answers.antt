use Rattle.std.proofs.Common.{◌≡◌, ◌++◌, ◌∷◌, [], Some, None, List, ℕ, refl, ap, codes, decimal, ◌∙◌}
use Rattle.td_net.specs.Worlds.{state_at}
use Rattle.td_net.specs.declared.event.CallState.TheVariants as state
use Rattle.td_net.specs.declared.event.Event.TheVariants as event
use Rattle.td_audit.proofs.Going.{ends-line, goes-by}
use Rattle.td_audit.specs.Making.{answer_line, deliver_line, no_value_line}
use Rattle.td_audit.proofs.making.go_on.Goals as goal

pub returns-in_ok-put-in-Some-Sent-clause-goes : goal.returns-in_ok-put-in-Some-Sent-clause-goes
returns-in_ok-put-in-Some-Sent-clause-goes c =
    let is : state_at c.args.net.now.calls c.args.call ≡ Some state.Sent = cc in
    let content : c.put.new.text.items ≡ c.args.text.now.items ++ deliver_line c.args.call ++ 10 ∷ [] =
    c.in_ok-put-in-Some-Sent.ensures ∙ ap (λ (t : List ℕ). t ++ 10 ∷ []) c.in_ok-put_counted-in-Some-Sent.ensures in
    goes-by c.args.net.now c.take.new.net c.args.call state.Sent (record {
      event = event.Deliver c.args.call;
      line = deliver_line c.args.call;
    })
    c.args.text.now.items c.put.new.text.items c.take.result is refl content c.take.ensures.accepts

pub returns-in_ok-put-in-Some-Evaluating-clause-goes : goal.returns-in_ok-put-in-Some-Evaluating-clause-goes
returns-in_ok-put-in-Some-Evaluating-clause-goes c =
    let is : state_at c.args.net.now.calls c.args.call ≡ Some state.Evaluating = cc in
    let content : c.put-in-Some-Evaluating.new.text.items ≡ c.args.text.now.items ++ no_value_line c.args.call ++ 10 ∷ [] =
    c.in_ok-put-in-Some-Evaluating.ensures
    ∙ ap (λ (t : List ℕ). t ++ 32 ∷ 45 ∷ 10 ∷ []) c.in_ok-put_counted-in-Some-Evaluating.ensures
    ∙ ends-line c.args.text.now.items (codes "value " ++ decimal c.args.call) (32 ∷ 45 ∷ []) in
    goes-by c.args.net.now c.take-in-Some-Evaluating.new.net c.args.call state.Evaluating (record {
      event = event.Value c.args.call None;
      line = no_value_line c.args.call;
    })
    c.args.text.now.items c.put-in-Some-Evaluating.new.text.items c.take-in-Some-Evaluating.result is refl content
    c.take-in-Some-Evaluating.ensures.accepts

pub returns-in_ok-put-in-Some-Ended-clause-goes : goal.returns-in_ok-put-in-Some-Ended-clause-goes
returns-in_ok-put-in-Some-Ended-clause-goes c =
    let is : state_at c.args.net.now.calls c.args.call ≡ Some state.Ended = cc in
    let content : c.put-in-Some-Ended.new.text.items ≡ c.args.text.now.items ++ answer_line c.args.call ++ 10 ∷ [] =
    c.in_ok-put-in-Some-Ended.ensures ∙ ap (λ (t : List ℕ). t ++ 10 ∷ []) c.in_ok-put_counted-in-Some-Ended.ensures in
    goes-by c.args.net.now c.take-in-Some-Ended.new.net c.args.call state.Ended (record {
      event = event.Answer c.args.call;
      line = answer_line c.args.call;
    })
    c.args.text.now.items c.put-in-Some-Ended.new.text.items c.take-in-Some-Ended.result is refl content
    c.take-in-Some-Ended.ensures.accepts
