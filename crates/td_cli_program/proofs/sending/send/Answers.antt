use Rattle.td_cli_program.proofs.sending.send.Goals as goal

pub returns-in-Ok-call_over : goal.returns-in-Ok-call_over
returns-in-Ok-call_over g c =
    rw c.in-Call.is (record {
      called = c.in-Ok-call_over.ensures.called;
      leaves = c.in-Ok-call_over.ensures.leaves;
      disconnected = c.in-Ok-call_over.ensures.disconnected;
    })

pub returns-in-Err-call_over : goal.returns-in-Err-call_over
returns-in-Err-call_over g c =
    rw c.in-Call.is (record {
      called = c.in-Err-call_over.ensures.called;
      leaves = c.in-Err-call_over.ensures.leaves;
      disconnected = c.in-Err-call_over.ensures.disconnected;
    })

pub returns-in-Ok : goal.returns-in-Ok
returns-in-Ok g c =
    rw c.in-Query.is (record {
      asks = c.in-Ok.ensures.asks;
      leaves = c.in-Ok.ensures.leaves;
      disconnected = c.in-Ok.ensures.disconnected;
    })

pub returns-in-Err : goal.returns-in-Err
returns-in-Err g c =
    rw c.in-Query.is (record {
      asks = c.in-Err.ensures.asks;
      leaves = c.in-Err.ensures.leaves;
      disconnected = c.in-Err.ensures.disconnected;
    })
