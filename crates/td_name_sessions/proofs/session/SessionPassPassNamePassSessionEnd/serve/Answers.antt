use Rattle.td_name_sessions.proofs.Served.{new_room}
use Rattle.td_name_sessions.proofs.session.SessionPassPassNamePassSessionEnd.serve.Goals as goal

pub serve_visitor-end-requires : goal.serve_visitor-end-requires
serve_visitor-end-requires g c =
    let s = c.args.self in
    record { new = new_room s.room (s.no_iterator, s.first) s.nothing_noted }
