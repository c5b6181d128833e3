use denote.Exit.{no}
use denote.Param.Send.{param_send, arg_send}
use Rattle.std.proofs.Common.{ap, map, refl}
use Rattle.td_server.proofs.Flags.{Keeps, Meet, Splits, Stays, place_of}
use Rattle.td_sessions.proofs.AllMet.{all_are_met, flags_of, meets_flags, number_of, splits_flags}
use Rattle.td_shared_sessions.proofs.Closing.{if_ok}
use Rattle.td_shared_sessions.proofs.Sends.{passes_left_send, session_end_send, shared_pass_send}
use Rattle.td_shared_sessions.proofs.serving.serve_visitors.Goals as goal
use Rattle.td_workers.proofs.Mapping.{working_maps}

pub serve_all-requires-send-P : goal.serve_all-requires-send-P
serve_all-requires-send-P g c κs within = param_send _ _ (arg_send _ no _ (shared_pass_send _ _ c.type_bounds.sync-R))

pub serve_all-requires-send-Q : goal.serve_all-requires-send-Q
serve_all-requires-send-Q g c κs within = param_send _ _ (arg_send _ no _ (passes_left_send _ _ c.type_bounds.sync-R))

pub serve_all-requires-send-E : goal.serve_all-requires-send-E
serve_all-requires-send-E g c κs within = param_send _ _ (arg_send _ no _ (session_end_send _ c.type_bounds.send-N-J))

pub returns-clause-met : goal.returns-clause-met
returns-clause-met g c =
    if_ok c.serve_all.result.0 c.serve_all.ensures.steps
    (λ w. all_are_met c.args.service.passes.items c.serve_all.result.1.passes.items c.requires.met
    (working_maps w Splits Stays Keeps place_of Meet (λ a. map flags_of a.passes.items)
    (λ p. map number_of p.traders.passes.items) (λ q. (map number_of q.0.traders.passes.items, q.1))
    (λ a n p b x. splits_flags _ _ _ x) (λ a b x. ap (λ s. map flags_of s.passes.items) x) (λ p q x. x.0.1) (λ q. refl)
    (λ a n q b x. meets_flags _ _ _ x)))
