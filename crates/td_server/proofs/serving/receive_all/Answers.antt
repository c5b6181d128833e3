use Rattle.std.proofs.Common.{ap, is_some, refl}
use Rattle.td_server.proofs.Closing.{ends_at, if_ok}
use Rattle.td_server.proofs.Coming.{begun, ended, stand}
use Rattle.td_server.proofs.Counting.{whole}
use Rattle.td_server.specs.Sessions.{ComesIn, ComesToAnEnd, GoesOut, ServesSession, was_limited}
use Rattle.td_server.specs.Steps.{BeginsSession, EndsSession, KeepsSame, Stays, served_here}
use Rattle.td_workers.proofs.Mapping.{working_maps}
use Rattle.td_server.proofs.serving.receive_all.Goals as goal

pub returns-clause-steps : goal.returns-clause-steps
returns-clause-steps g c =
    if_ok c.work_all.result.0 c.work_all.ensures.worked
    (λ w. working_maps w (BeginsSession g.F.Service.begins) Stays (KeepsSame g.P.Pass.same) served_here (EndsSession g.F.Service.ends)
    (λ r. r.service) (λ s. s.pass) (λ s. (s.pass, is_some s.limited)) (λ a n j b x. x.1) (λ a b x. x.1)
    (λ j d x. x.0) (λ d. refl) (λ a n d b x. x.1))

pub returns-clause-whole : goal.returns-clause-whole
returns-clause-whole g c =
    if_ok c.work_all.result.0 c.work_all.ensures.worked
    (λ w. ends_at g.F.Service.kind _ (λ x. g.A.W.Words.word_after x.words) _ _ _ _ _ _ _ _
    (g.met.F.Service.goes_given _ _ c.work_all.ensures.goes.1) (ap (λ z. z.now) c.work_all.ensures.goes.2)
    (whole {k = g.F.Service.kind} g.met.F.Service.laws _ (λ x. g.A.W.Words.word_after x.words) _ _
    (working_maps w (ComesIn {k = g.F.Service.kind}) (ComesToAnEnd {k = g.F.Service.kind})
    (ServesSession {k = g.F.Service.kind} _ (λ x. g.A.W.Words.word_after x.words)) (was_limited {k = g.F.Service.kind})
    (GoesOut {k = g.F.Service.kind})
    (λ r. stand g.F.Service.kind (g.F.Service.given r.service) r.seed.now (g.A.Accept.content r.accept.now)
    (g.F.Service.content r.service) (g.F.Service.seen r.service))
    (λ s. begun g.F.Service.kind s.number (g.F.Service.gives s.pass) s.seed.now s.visitor (g.F.Service.sees s.pass))
    (λ s. ended g.F.Service.kind s.visitor (is_some s.limited) (g.F.Service.kept s.kept) (g.F.Service.saw s.pass))
    (λ a n j b x. x.0) (λ a b x. x.0) (λ j d x. g.met.F.Service.serves _ _ _ _ _ _ x.1) (λ d. refl)
    (λ a n d b x. x.0))))
