use denote.Exit.{no, yes}
use denote.Param.Send.{param_send, arg_send}
use Rattle.std.proofs.Common.{[], ◌∷◌, ap, refl}
use Rattle.td_name_sessions.proofs.AllMet.{all_are_met, flags_of, numbers_of, split_flags}
use Rattle.td_name_sessions.proofs.Closing.{if_ok}
use Rattle.td_name_sessions.proofs.session.SessionEnd.TheSendSync as end_cross
use Rattle.td_name_sessions.proofs.session.SessionPass.TheSendSync as session_cross
use Rattle.td_server.proofs.Flags.{Keeps, Meet, Splits, Stays, place_of}
use Rattle.td_shared_names.proofs.pass.NamePass.TheSendSync as pass_cross
use Rattle.td_workers.proofs.Mapping.{working_maps}
use Rattle.td_name_sessions.proofs.serving.serve_visitors.Goals as goal

pub serve_all-requires-send-P : goal.serve_all-requires-send-P
serve_all-requires-send-P g c κs within =
    param_send _ _ (arg_send _ no _ (session_cross.the_send _ _ c.type_bounds.sync-R))

pub serve_all-requires-send-Q : goal.serve_all-requires-send-Q
serve_all-requires-send-Q g c κs within =
    param_send _ _ (arg_send _ no _ (pass_cross.the_send _ _ c.type_bounds.sync-R))

pub serve_all-requires-send-E : goal.serve_all-requires-send-E
serve_all-requires-send-E g c κs within = param_send _ _ (arg_send _ yes _ end_cross.the_send)

pub returns-clause-met : goal.returns-clause-met
returns-clause-met g c =
    if_ok c.serve_all.result.0 c.serve_all.ensures.steps
    (λ w. all_are_met c.args.service.pass c.serve_all.result.1.pass c.requires.met
    (working_maps w Splits Stays Keeps place_of Meet (λ a. flags_of a.pass) (λ p. numbers_of p.pass.pass)
    (λ q. (numbers_of q.0.pass, q.1)) (λ a n p b x. (split_flags _ _ _ x, tt)) (λ a b x. ap (λ s. flags_of s.pass) x)
    (λ p q x. ap (λ n. n ∷ []) x.1) (λ q. refl) (λ a n q b x. (x.met, tt))))
