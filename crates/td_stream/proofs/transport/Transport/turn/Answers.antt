use Rattle.std.proofs.Common.{◌+◌, ◌∙◌, Some, None, arith, inl, inr, refl, sym, ap}
use Rattle.td_stream.specs.OutboundLaws.{puts-none}
use Rattle.td_stream.specs.declared.end.End.TheVariants.{Long, Closed, WriteFault, Memory}
use Rattle.td_stream.proofs.Ends.{finished, broken, bad, answered, less_left, byte_of, one_at_most}
use Rattle.td_stream.proofs.Leading.{proceeds, passes, keeps}
use Rattle.td_stream.proofs.transport.Transport.turn.Goals as goal

pub returns-then-self-eq-REQUEST_LIMIT-clause-proceeds : goal.returns-then-self-eq-REQUEST_LIMIT-clause-proceeds
returns-then-self-eq-REQUEST_LIMIT-clause-proceeds g c =
    passes g.V.Servant.serves g.V.Servant.stays _ _ _ _ _ _ _ _ _ _ _ g.met.V.Servant.stays_itself refl refl
    (finished Long c.finish.result _ _ _ _ _ _ _ _ _ (puts-none _) c.finish.ensures.sends refl c.finish.ensures.end
    (λ sent. record { reason = inl c.if-self-eq-REQUEST_LIMIT.true; sent = sent }) refl c.args.self.now.short
    c.args.self.now.few)

pub returns-in-Nothing-clause-proceeds : goal.returns-in-Nothing-clause-proceeds
returns-in-Nothing-clause-proceeds g c =
    let f = c.in-Nothing.ensures.finds in
    passes g.V.Servant.serves g.V.Servant.stays _ _ _ _ _ _ _ _ _ _ _ g.met.V.Servant.stays_itself f.1 f.2
    (rw c.in-Nothing.ensures.framer at c.take.ensures.takes)

pub returns-in-Bad-clause-proceeds : goal.returns-in-Bad-clause-proceeds
returns-in-Bad-clause-proceeds g c =
    let f = c.in-Bad.ensures.finds in
    rw c.in-Bad.ensures.framer
    (passes g.V.Servant.serves g.V.Servant.stays _ _ _ _ _ _ _ _ _ _ _ g.met.V.Servant.stays_itself f.1 f.2
    (bad _ c.in-Bad.fault c.end_at_bad_header.result _ _ _ _ _ _ _
    (rw c.in-Bad.ensures.framer at c.end_at_bad_header.ensures.ends) f.0 c.args.self.now.counted
    c.args.self.now.short (let few = c.args.self.now.few in omega (arith, c.if-self-eq-REQUEST_LIMIT.false))))

pub returns-in-Closes-clause-proceeds : goal.returns-in-Closes-clause-proceeds
returns-in-Closes-clause-proceeds g c =
    let f = c.in-Closes.ensures.finds in
    rw c.in-Closes.ensures.framer
    (passes g.V.Servant.serves g.V.Servant.stays _ _ _ _ _ _ _ _ _ _ _ g.met.V.Servant.stays_itself f.1 f.2
    (finished Closed c.finish-in-Closes.result _ _ _ _ _ _ _ _ _ (puts-none _) c.finish-in-Closes.ensures.sends refl
    c.finish-in-Closes.ensures.end
    (λ sent. record {
      reason = (
        (let few = c.args.self.now.few in omega (arith, c.if-self-eq-REQUEST_LIMIT.false)),
        inr f.0,
      );
      sent = sent;
    })
    refl c.args.self.now.short c.args.self.now.few))

pub returns-in-Breaks-clause-proceeds : goal.returns-in-Breaks-clause-proceeds
returns-in-Breaks-clause-proceeds g c =
    let f = c.in-Breaks.ensures.finds in
    rw c.in-Breaks.ensures.framer
    (passes g.V.Servant.serves g.V.Servant.stays _ _ _ _ _ _ _ _ _ _ _ g.met.V.Servant.stays_itself f.1 f.2
    (broken _ c.in-Breaks.cause c.break_off.result _ _ _ _ _ _ _
    (rw c.in-Breaks.ensures.framer at c.break_off.ensures.breaks) c.args.self.now.counted c.args.self.now.short
    (let few = c.args.self.now.few in omega (arith, c.if-self-eq-REQUEST_LIMIT.false)) (inr f.0)))

pub returns-in-Full-clause-proceeds : goal.returns-in-Full-clause-proceeds
returns-in-Full-clause-proceeds g c =
    let f = c.in-Full.ensures.finds in
    rw c.in-Full.ensures.framer
    (keeps g.V.Servant.serves g.V.Servant.stays _ _ _ _ _ f.0
    (finished Memory c.finish-in-Full.result _ _ _ _ _ _ _ _ _ f.1 c.finish-in-Full.ensures.sends refl
    c.finish-in-Full.ensures.end (λ sent. record { reason = tt; sent = sent }) refl c.args.self.now.short
    c.args.self.now.few))

pub returns-then-has_failed-clause-proceeds : goal.returns-then-has_failed-clause-proceeds
returns-then-has_failed-clause-proceeds g c =
    let f = c.in-Answered.ensures.finds in
    proceeds g.V.Servant.serves g.V.Servant.stays f.exchange _ _ _ _ (Some WriteFault) g.met.V.Servant.stays_itself f.done
    (record {
      at = _;
      moves =
          answered g.V.Servant.serves g.V.Servant.stays _ _ _ _ c.args.self.now.framer _ _ _ _ _ _ _ f c.args.self.now.limited
          (rw c.in-Answered.ensures.framer at c.drop_message.ensures.dropped)
          (ap (λ n. c.args.self.now.requests + n) (c.from.ensures ∙ byte_of c.in-Answered.request));
      goes =
          record {
            ends = sym c.has_failed.ensures ∙ c.if-has_failed.true;
            bytes = c.args.self.now.short;
            few = omega (
              arith,
              c.args.self.now.few,
              c.if-self-eq-REQUEST_LIMIT.false,
              one_at_most c.in-Answered.request,
              c.from.ensures,
              byte_of c.in-Answered.request,
            );
            left = refl;
            reads = refl;
            last = refl;
          };
    })

pub returns-else-has_failed-clause-proceeds : goal.returns-else-has_failed-clause-proceeds
returns-else-has_failed-clause-proceeds g c =
    let f = c.in-Answered.ensures.finds in
    proceeds g.V.Servant.serves g.V.Servant.stays f.exchange _ _ _ _ None g.met.V.Servant.stays_itself f.done
    (record {
      at = _;
      moves =
          answered g.V.Servant.serves g.V.Servant.stays _ _ _ _ c.args.self.now.framer _ _ _ _ _ _ _ f c.args.self.now.limited
          (rw c.in-Answered.ensures.framer at c.drop_message.ensures.dropped)
          (ap (λ n. c.args.self.now.requests + n) (c.from.ensures ∙ byte_of c.in-Answered.request));
      goes =
          record {
            here = refl;
            works = sym c.has_failed.ensures ∙ c.if-has_failed.false;
            less =
                omega (
                  arith,
                  less_left g.V.Servant.serves g.V.Servant.stays _ _ c.args.self.now.framer _ _ _ _ f c.args.self.now.limited
                      (rw c.in-Answered.ensures.framer at c.drop_message.ensures.dropped),
                );
          };
    })
