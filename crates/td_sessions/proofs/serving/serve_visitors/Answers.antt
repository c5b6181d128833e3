use denote.Exit.{no}
use denote.Param.Send.{param_send, arg_send}
use Rattle.std.proofs.Common.{ap, map, refl}
use Rattle.td_server.proofs.Flags.{Keeps, Meet, Splits, Stays, place_of}
use Rattle.td_workers.proofs.Mapping.{working_maps}
use Rattle.td_sessions.proofs.AllMet.{all_are_met, flags_of, meets_flags, number_of, splits_flags}
use Rattle.td_sessions.proofs.Closing.{if_ok}
use Rattle.td_group.proofs.Sends.{group_pass_send}
use Rattle.td_sessions.proofs.Sends.{pass_send, session_end_send}
use Rattle.td_sessions.proofs.serving.serve_visitors.Goals as goal

pub serve_all-requires-send-P : goal.serve_all-requires-send-P
serve_all-requires-send-P g c κs within =
    let b = c.type_bounds in
    param_send _ _ (arg_send _ no _ (pass_send _ g.N.J.Journal b.send-N-J _ _ b.sync-R))

pub serve_all-requires-send-Q : goal.serve_all-requires-send-Q
serve_all-requires-send-Q g c κs within =
    param_send _ _ (arg_send _ no _ (group_pass_send _ _ c.type_bounds.sync-R))

pub serve_all-requires-send-E : goal.serve_all-requires-send-E
serve_all-requires-send-E g c κs within =
    param_send _ _ (arg_send _ no _ (session_end_send _ g.N.J.Journal c.type_bounds.send-N-J))

pub returns-clause-met : goal.returns-clause-met
returns-clause-met g c =
    if_ok c.serve_all.result.0 c.serve_all.ensures.steps
    (λ w. all_are_met c.args.service.passes.items c.serve_all.result.1.passes.items c.requires.met
    (working_maps w Splits Stays Keeps place_of Meet (λ a. map flags_of a.passes.items)
    (λ p. map number_of p.pass.passes.items) (λ q. (map number_of q.0.passes.items, q.1))
    (λ a n p b x. splits_flags _ _ _ x) (λ a b x. ap (λ s. map flags_of s.passes.items) x) (λ p q x. x.1) (λ q. refl)
    (λ a n q b x. meets_flags _ _ _ x)))
