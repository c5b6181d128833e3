use Rattle.std.proofs.Common.{[], length, sym, ◌∙◌, arith}
use Rattle.std.proofs.lemmas.Bool.{eqb-true}
use Rattle.std.proofs.lemmas.List.{nil_from_length}
use Rattle.td_audit.proofs.Carrying.{carries-on, carries-over, carries-stop}
use Rattle.td_audit.proofs.FirstLine.{line-within, no-lines}
use Rattle.td_audit.specs.Auditing.{state}
use Rattle.td_audit.proofs.auditing.audit_rest.Goals as goal
use Rattle.td_log.specs.Words.{lines_of}

pub take_line-requires-clause-short : goal.take_line-requires-clause-short
take_line-requires-clause-short c =
    omega (
      arith,
      line-within c.lines.rest.now c.next_line.result.0.now (lines_of c.next_line.result.1.now) c.next_line.ensures.cut,
    )

pub returns-in-Err : goal.returns-in-Err
returns-in-Err c =
    let home = c.args.group.now.home in
    let names = c.args.group.now.names in
    let rest = lines_of c.lines.rest.now in
    let all = lines_of c.args.log.now in
    rw c.verdict_of.ensures
    (carries-stop home names (state c.lines.net c.lines.asked) (state c.take_line.new.net c.take_line.new.asked)
    (state c.args.net []) c.lines.number c.args.number c.next_line.result.0.now rest
    (lines_of c.next_line.result.1.now) all c.in-Err.halt c.next_line.ensures.cut c.in-Err.ensures.takes
    c.lines.invariant.carries)

pub lines-preserved : goal.lines-preserved
lines-preserved c =
    let home = c.args.group.now.home in
    let names = c.args.group.now.names in
    let rest = lines_of c.lines.rest.now in
    let all = lines_of c.args.log.now in
    record {
      carries =
          carries-on home names (state c.lines.net c.lines.asked) (state c.take_line.new.net c.take_line.new.asked)
          (state c.args.net []) c.lines.number c.args.number c.next_line.result.0.now rest
          (lines_of c.next_line.result.1.now) all c.next_line.ensures.cut c.in-Ok.ensures.takes
          c.lines.invariant.carries;
      few = omega arith;
      sound = c.in-Ok.ensures.sound;
    }

pub returns : goal.returns
returns c =
    let home = c.args.group.now.home in
    let names = c.args.group.now.names in
    let rest = lines_of c.lines.rest.now in
    let all = lines_of c.args.log.now in
    let none = nil_from_length c.lines.rest.now
    (eqb-true (length c.lines.rest.now) 0 (sym c.is_empty.ensures ∙ c.lines-test.false)) in
    carries-over home names (state c.lines.net c.lines.asked) (state c.args.net []) c.lines.number c.args.number rest
    all (no-lines c.lines.rest.now none) c.lines.invariant.carries
