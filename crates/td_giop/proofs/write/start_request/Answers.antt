use Rattle.std.proofs.Common.{◌≡◌, ◌≤◌, ◌∙◌, length, arith, ap}
use Rattle.td_giop.specs.Written.{request_size}
use Rattle.td_giop.proofs.Room.{key_written, text_fits, principal_fits}
use Rattle.td_giop.proofs.write.start_request.Goals as goal

pub returns-in_err-string : goal.returns-in_err-string
returns-in_err-string c =
    let r = c.in_ok-reserve.ensures.ok in
    let key =
    key_written c.reserve.new.self c.put_header.new.w c.u32.new.self c.u32-2.new.self c.octet.new.self
    c.put_reserved.new.w c.octets.new.self c.args.minor c.args.id c.from.result c.args.key.now
    (r.0 ∙ c.requires.empty) c.in_ok-put_header.ensures.done.0 c.in_ok-u32.ensures.done.0
    c.in_ok-u32-2.ensures.done.0 c.in_ok-octet.ensures.done.0 c.in_ok-put_reserved.ensures.done.0
    c.in_ok-octets.ensures.done.0 in
    absurd (text_fits c.octets.new.self c.args.key.now c.args.operation.now c.reserve.new.self.room key
    (omega (arith, r.2, c.request_size.ensures))
    (omega (
      arith,
      c.in_ok-put_header.ensures.done.2,
      c.in_ok-u32.ensures.done.2,
      c.in_ok-u32-2.ensures.done.2,
      c.in_ok-octet.ensures.done.2,
      c.in_ok-put_reserved.ensures.done.2,
      c.in_ok-octets.ensures.done.2,
    ))
    c.in_err-string.ensures.refused.1)

pub returns-in_err-octets-2 : goal.returns-in_err-octets-2
returns-in_err-octets-2 c =
    let r = c.in_ok-reserve.ensures.ok in
    let key =
    key_written c.reserve.new.self c.put_header.new.w c.u32.new.self c.u32-2.new.self c.octet.new.self
    c.put_reserved.new.w c.octets.new.self c.args.minor c.args.id c.from.result c.args.key.now
    (r.0 ∙ c.requires.empty) c.in_ok-put_header.ensures.done.0 c.in_ok-u32.ensures.done.0
    c.in_ok-u32-2.ensures.done.0 c.in_ok-octet.ensures.done.0 c.in_ok-put_reserved.ensures.done.0
    c.in_ok-octets.ensures.done.0 in
    absurd (principal_fits c.octets.new.self c.string.new.self c.args.key.now c.args.operation.now
    c.reserve.new.self.room key c.in_ok-string.ensures.done.0 (omega (arith, r.2, c.request_size.ensures))
    (omega (
      arith,
      c.in_ok-put_header.ensures.done.2,
      c.in_ok-u32.ensures.done.2,
      c.in_ok-u32-2.ensures.done.2,
      c.in_ok-octet.ensures.done.2,
      c.in_ok-put_reserved.ensures.done.2,
      c.in_ok-octets.ensures.done.2,
      c.in_ok-string.ensures.done.2,
    ))
    c.in_err-octets-2.ensures.refused.1)
