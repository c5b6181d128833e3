use Rattle.td_cdr.specs.LawfulFormats.{read-admitted}
use Rattle.td_cdr.proofs.whole.read_whole.Goals as goal

pub returns : goal.returns
returns g c =
    let copied = c.copied-next.ensures in
    let is = rw copied.same at c.in_ok-value.ensures in
    let lawful = g.met.T.Spelled.lawful in
    record {
      gives = is;
      unchanged = tt;
      admitted = read-admitted g.T.Spelled.format lawful c.args.r.now c.in_ok-value.value c.read.new.r copied.inside
          copied.octets is;
    }
