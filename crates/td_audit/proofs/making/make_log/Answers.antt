use Rattle.std.proofs.Common.{◌≡◌, ◌+◌, ℕ, List, refl, drop, sym, ap, subst, ◌∙◌, arith}
use Rattle.std.proofs.lemmas.List.{drop_all}
use Rattle.td_cdr.specs.Names.{trader_name}
use Rattle.td_walk.specs.declared.trace.Address.{Address}
use Rattle.td_audit.proofs.Going.{AheadAll, all-init, all-more, all-over, all-passed, name-next}
use Rattle.td_audit.proofs.making.make_log.Goals.{then-is_trader_name+in_ok-ask_trader, else-is_trader_name}
use Rattle.td_audit.proofs.making.make_log.Goals as goal
use Rattle.td_audit.specs.Events.{IsWithinLimits}
use Rattle.td_audit.specs.Following.{AsksOne}

pub loop-trader-init : goal.loop-trader-init
loop-trader-init c = record {
  ahead =
      all-init c.args.solo.traders.items c.from_vec.result c.as_slice.result.now c.args.home c.new-net.result
      c.new.result c.as_slice-name-items.result.now c.new-text.result.items c.from_vec.ensures c.as_slice.ensures.value
      c.new.ensures c.new-net.ensures (c.as_slice-name-items.ensures ∙ c.in_ok-group.ensures.names)
      c.new-text.ensures.items;
  sound = subst IsWithinLimits (sym c.new-net.ensures) (record { no_memory_outcome = refl; limits = tt });
}

pub ask_trader-requires-clause-sound : goal.ask_trader-requires-clause-sound
ask_trader-requires-clause-sound c = c.loop-trader.invariant.sound

pub loop-trader-preserved : goal.loop-trader-preserved
loop-trader-preserved c =
    let traders = c.args.solo.traders.items in
    let home = c.args.home in
    let i = c.loop-trader.trader in
    let name = c.name-item.result in
    let left = drop (i + 1) c.as_slice-name-items.result.now in
    let ahead = subst
    (λ (ns : List (List ℕ)). AheadAll traders home c.loop-trader.net i ns c.loop-trader.text.items)
    (name-next c.as_slice-name-items.result.now i name c.loop-trader-test.true c.name-item.is)
    c.loop-trader.invariant.ahead in
    let content : c.is_trader_name.result ≡ trader_name name =
    c.is_trader_name.ensures ∙ ap trader_name c.as_slice-in-loop-trader.ensures in
    elim c.if-is_trader_name.branch [
      | then-is_trader_name+in_ok-ask_trader w ↦
          let asks = subst (λ (a : Address). AsksOne a i name c.loop-trader.net c.loop-trader.text.items
          w.ask_trader.new.text.items w.ask_trader.new.net) c.in_ok-group.ensures.home
          w.in_ok-ask_trader.ensures.asks in
          rw (w.net-is, w.text-is) (record {
            ahead =
                all-more traders home c.loop-trader.net w.ask_trader.new.net i name left c.loop-trader.text.items
                w.ask_trader.new.text.items (sym content ∙ w.if-is_trader_name.true) asks ahead;
            sound = w.in_ok-ask_trader.ensures.sound;
          })
      | else-is_trader_name w ↦
          rw (w.net-is, w.text-is) (record {
            ahead =
                all-passed traders home c.loop-trader.net i name left c.loop-trader.text.items
                (sym content ∙ w.if-is_trader_name.false) ahead;
            sound = c.loop-trader.invariant.sound;
          })
    ]

pub returns : goal.returns
returns c =
    let traders = c.args.solo.traders.items in
    let home = c.args.home in
    let over = drop_all c.loop-trader.trader c.as_slice-name-items.result.now (omega arith) in
    let ahead = subst (λ (ns : List (List ℕ)). AheadAll traders home c.loop-trader.net c.loop-trader.trader ns
    c.loop-trader.text.items) over c.loop-trader.invariant.ahead in
    rw c.from_vec-2.ensures
    (all-over traders home c.loop-trader.net c.loop-trader.trader c.loop-trader.text.items ahead)
