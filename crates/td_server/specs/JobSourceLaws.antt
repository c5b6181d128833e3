-- Counts of faults that go up, sessions that are handed on, and what a stop says from before on.
use Rattle.std.proofs.Common.{◌≡◌, ℕ, ◌≤◌, List, [], ◌++◌, Option, None, Some, option_map, refl, sym, ap, ◌∙◌, arith}
use Rattle.std.proofs.Common.{append_assoc, append-nil}
use Rattle.td_out.proofs.Steps.{Rose-later}
use Rattle.td_server.specs.Kinds.{ServerKind}
use Rattle.td_server.specs.Sessions.{HandedSession, HandsSome, StopsSo, HandedSessions, with_sessions}
use Rattle.td_workers.specs.declared.source.Stop.{Stop}
use Rattle.td_workers.specs.declared.source.Stop.TheVariants.{Failed, Memory}

pub stays_as : (n : ℕ) → n ≤ n
stays_as n = omega arith

pub goes_up : (a b c : ℕ) → a ≤ b → b ≤ c → a ≤ c
goes_up a b c p q = omega arith

pub stops_later : (a b c : ℕ) (why : Stop) → a ≤ b → StopsSo why b c → StopsSo why a c
stops_later a b c Failed p q = Rose-later a b c p q
stops_later a b c Memory p q = tt

module _ {k : ServerKind} {X : Type 0} where
  pub handed_none : (content : Option (HandedSessions k X)) → content
      ≡ option_map (with_sessions {k = k} []) content
  handed_none None = refl
  handed_none (Some t) =
      ap (λ (l : List (HandedSession k X)). Some (record t { sessions = l }))
      (sym (append-nil t.sessions))

  pub handed_all : (content : Option (HandedSessions k X)) (hs js : List (HandedSession k X))
      → option_map (with_sessions {k = k} (hs ++ js)) content
      ≡ option_map (with_sessions {k = k} js) (option_map (with_sessions {k = k} hs) content)
  handed_all None hs js = refl
  handed_all (Some t) hs js =
      ap (λ (l : List (HandedSession k X)). Some (record t { sessions = l }))
      (sym (append_assoc t.sessions hs js))

  pub hands_none : (content after : Option (HandedSessions k X)) → after ≡ content
      → HandsSome {k = k} content after
  hands_none content after e = record { sessions = []; handed_on = e ∙ handed_none content }

  pub hands_on : (a b c : Option (HandedSessions k X)) → HandsSome {k = k} a b
      → HandsSome {k = k} b c
      → HandsSome {k = k} a c
  hands_on a b c p q = record {
    sessions = p.sessions ++ q.sessions;
    handed_on =
        q.handed_on ∙ ap (option_map (with_sessions {k = k} q.sessions)) p.handed_on
        ∙ sym (handed_all a p.sessions q.sessions);
  }
