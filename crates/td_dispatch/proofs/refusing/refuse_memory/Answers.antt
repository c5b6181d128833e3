use Rattle.td_dispatch.proofs.Replying.{memory_served}
use Rattle.td_dispatch.proofs.refusing.refuse_memory.Goals as goal

pub returns : goal.returns
returns g c = record {
  served = λ home j s of_class.
      memory_served g.B.Backend.others g.B.Backend.later home c.args.to s c.args.class j c.unbegun_entry.result
      c.tell_no_memory.new.replies of_class c.unbegun_entry.ensures c.tell_no_memory.ensures;
  entry = c.unbegun_entry.ensures;
}
