use Rattle.std.proofs.Common.{◌∙◌, [], sym, refl, arith, inr, append-nil, ap}
use Rattle.td_stream.specs.declared.end.End.TheVariants.{Long, ReadFault, WriteFault}
use Rattle.td_stream.proofs.Ends.{idles, ends_so, moves_by, input_ends, came, lost, none_whole, is_sent}
use Rattle.td_stream.proofs.transport.Transport.take.Goals as goal

pub returns-then-has_failed-clause-takes : goal.returns-then-has_failed-clause-takes
returns-then-has_failed-clause-takes g c =
    ends_so WriteFault _ _ _ _ _ _ _ _ _ _ _ (idles _ _ _ _ _ _ _ c.send.ensures.sends.puts)
    (sym c.has_failed.ensures ∙ c.if-has_failed.true) refl c.args.self.now.short
    (let few = c.requires.open in omega arith)

pub returns-then-self-eq-BYTES_LIMIT-clause-takes : goal.returns-then-self-eq-BYTES_LIMIT-clause-takes
returns-then-self-eq-BYTES_LIMIT-clause-takes g c =
    ends_so Long _ _ _ _ _ _ _ _ _ _ _ (idles _ _ _ _ _ _ _ c.send.ensures.sends.puts)
    (record {
      reason = inr (c.if-self-eq-BYTES_LIMIT.true, none_whole _ c.requires.served);
      sent = is_sent _ _ c.send.ensures.sends (sym c.has_failed.ensures ∙ c.if-has_failed.false);
    })
    refl c.args.self.now.short (let few = c.requires.open in omega arith)

pub returns-in-Came-clause-takes : goal.returns-in-Came-clause-takes
returns-in-Came-clause-takes g c =
    let brought = c.in-Came.ensures.brings in
    came _ _ _ _ _ brought.0 _ _ _ _ _ _ brought.1.consumed c.in-Came.ensures.later (ap (λ s. s.rest) brought.4)
    (let e = brought.2 in omega arith) (let e = brought.2 in let some = brought.3 in omega arith)
    (let e = brought.2 in let within = brought.1.within in let short = c.args.self.now.short in omega arith)
    c.send.ensures.sends.puts (sym c.has_failed.ensures ∙ c.if-has_failed.false)

pub returns-in-Ended-clause-takes : goal.returns-in-Ended-clause-takes
returns-in-Ended-clause-takes g c =
    let brought = c.in-Ended.ensures.brings in
    rw brought.2
    (input_ends c.end_of_input.result _ _ _ _ c.args.self.now.framer _ _ _ _ (rw brought.2 at c.end_of_input.ensures)
    brought.0 brought.1 c.in-Ended.ensures.later c.requires.served c.args.self.now.counted
    (let short = c.args.self.now.short in omega (arith, c.if-self-eq-BYTES_LIMIT.false)) c.requires.open
    c.send.ensures.sends.puts
    (is_sent _ _ c.send.ensures.sends (sym c.has_failed.ensures ∙ c.if-has_failed.false)))

pub returns-in-Failed-clause-takes : goal.returns-in-Failed-clause-takes
returns-in-Failed-clause-takes g c =
    let brought = c.in-Failed.ensures.brings in
    rw brought.2
    (ends_so ReadFault _ _ _ _ _ _ _ _ _ _ _
    (moves_by _ _ _ _ _ [] _ _ _ _ _ _ brought.0 c.in-Failed.ensures.later (sym (append-nil _)) (omega arith)
    c.send.ensures.sends.puts)
    (record {
      reason = (
        c.requires.open,
        record {
          few = let short = c.args.self.now.short in omega (arith, c.if-self-eq-BYTES_LIMIT.false);
          not_whole = c.requires.served;
          rose = brought.1;
        },
      );
      sent = is_sent _ _ c.send.ensures.sends (sym c.has_failed.ensures ∙ c.if-has_failed.false);
    })
    refl c.args.self.now.short (let few = c.requires.open in omega arith))

pub returns-in-Memory-clause-takes : goal.returns-in-Memory-clause-takes
returns-in-Memory-clause-takes g c =
    let brought = c.in-Memory.ensures.brings in
    rw brought.2
    (lost _ _ _ _ _ brought.0 _ _ _ _ brought.1.consumed c.in-Memory.ensures.later
    (let within = brought.1.within in let short = c.args.self.now.short in omega arith)
    (let few = c.requires.open in omega arith) c.send.ensures.sends.puts
    (is_sent _ _ c.send.ensures.sends (sym c.has_failed.ensures ∙ c.if-has_failed.false)))
