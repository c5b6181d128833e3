-- Runs over messages to a server, of which none is lost.
use Rattle.std.specs.Prelude.{◌≡◌, ◌⊎◌, ℕ, List, Some}
use Rattle.td_name_session.specs.Completeness.{AnswersAll}
use Rattle.td_name_session.specs.Scenes.{Scene}
use Rattle.td_names.specs.declared.address.Address.{Address}
use Rattle.td_naming.specs.Alone.{no_changes}
use Rattle.td_stream.specs.Completeness.{IsServable, NoneFailed}
use Rattle.td_stream.specs.Outside.{Outside}
use Rattle.td_name_command.specs.Runs.{first_scene}
use Rattle.td_name_command.specs.Words.{home_of}

-- the status is 0, and the messages up to the first that closes the session were served, or it is 9
abbrev pub IsAnswered : Address → Outside → Outside → List (List ℕ) → ℕ → Type 0
IsAnswered home before after messages status =
    ((status ≡ 0) × (later : Scene)
    × AnswersAll no_changes (first_scene home) later before after messages) ⊎ (status ≡ 9)

-- so it is wherever the words are such, the input is such messages and nothing failed
abbrev pub Completes : List (List ℕ) → Outside → Outside → ℕ → Type 0
Completes words before after status =
    (home : Address) (stream : List ℕ) (messages : List (List ℕ)) → home_of words ≡ Some home
    → before.left ≡ Some stream → IsServable stream messages → NoneFailed before after
    → IsAnswered home before after messages status
