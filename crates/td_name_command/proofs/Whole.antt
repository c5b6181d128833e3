-- A run over messages to a server answers 0 or 9.
use Rattle.std.proofs.Common.{◌≡◌, ℕ, List, Some, refl, sym, ap, subst, inl, inr}
use Rattle.td_name_session.proofs.Complete.{complete}
use Rattle.td_names.specs.declared.address.Address.{Address}
use Rattle.td_naming.specs.Alone.{no_changes}
use Rattle.td_stream.specs.Completeness.{IsServable, NoneFailed}
use Rattle.td_stream.specs.Outside.{Outside}
use Rattle.td_stream.specs.declared.end.End.{End}
use Rattle.td_name_command.specs.Completeness.{Completes, IsAnswered}
use Rattle.td_name_command.specs.Ends.{end_status, status_of}
use Rattle.td_name_command.specs.Runs.{Obeys, ObeysAt, ServesNew, first_scene}
use Rattle.td_name_command.specs.Words.{home_of}
use Rattle.td_name_command.specs.declared.ended.Ended.{Ended}
use Rattle.td_name_command.specs.declared.ended.Ended.TheVariants.{Usage, Memory, Served}

session_answered : (home : Address) (end : End) (before after : Outside) (stream : List ℕ) (messages : List (List ℕ))
    → ServesNew home end before after → before.left ≡ Some stream → IsServable stream messages
    → NoneFailed before after → IsAnswered home before after messages (end_status end)
session_answered home end before after stream messages s input servable unhurt =
    elim (complete no_changes (first_scene home) s.later s.journal end before after s.serves stream messages input servable
    unhurt) [
      | inl closed ↦ inl (ap end_status closed.0, s.later, closed.1)
      | inr memory ↦ inr (ap end_status memory)
    ]

home_answered : (home : Address) (ended : Ended) (before after : Outside) (stream : List ℕ)
    (messages : List (List ℕ)) → ObeysAt home ended before after → before.left ≡ Some stream
    → IsServable stream messages → NoneFailed before after → IsAnswered home before after messages (status_of ended)
home_answered home (Served end) before after stream messages h input servable unhurt =
    session_answered home end before after stream messages h input servable unhurt
home_answered home Memory before after stream messages h input servable unhurt = inr refl
home_answered home Usage before after stream messages h input servable unhurt = absurd h

pub answered : (words : List (List ℕ)) (ended : Ended) (before after : Outside) (status : ℕ)
    → status ≡ status_of ended → Obeys (home_of words) ended before after → Completes words before after status
answered words ended before after status e obeys home stream messages named input servable unhurt =
    let h : Obeys (Some home) ended before after = subst (λ f. Obeys f ended before after) named obeys in
    subst (λ (k : ℕ). IsAnswered home before after messages k) (sym e)
    (home_answered home ended before after stream messages h input servable unhurt)
