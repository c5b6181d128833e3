-- Runs over messages to a server, of which none is lost.
use Rattle.std.specs.Prelude.{◌≡◌, ◌⊎◌, ℕ, ◌≤◌, List, length, Some, Ok}
use Rattle.td_file.specs.Files.{Opening, opening_of}
use Rattle.td_lookup.specs.Scenes.{Scene}
use Rattle.td_out.specs.Causes.{Rose}
use Rattle.td_out.specs.Texts.{NamedText, text_named, longest_text}
use Rattle.td_session.specs.Completeness.{AnswersAll}
use Rattle.td_stream.specs.Completeness.{IsServable, NoneFailed}
use Rattle.td_stream.specs.Outside.{Outside}
use Rattle.td_trader.specs.Solos.{no_changes, same_marks}
use Rattle.td_command.specs.Commands.{Pipe, command_of}
use Rattle.td_command.specs.Runs.{WordsBySeeding, Shelves, first_scene}

-- the words are `pipe` and the name of a text that opens this
pub record NamesOpening (words : List (List ℕ)) (texts : Shelves) (o : Opening) : Type 0 where
  pub name : List ℕ
  pub command : command_of words ≡ Some (Pipe name)
  pub shelf : List NamedText
  pub content : texts.content ≡ Some shelf
  pub text : List ℕ
  pub found : text_named name shelf ≡ Some text
  pub size : length text ≤ longest_text
  pub accepted : opening_of text ≡ Ok o

-- neither the texts nor the source nor the sink failed
pub record NothingFailed (texts : Shelves) (before after : Outside) : Type 0 where
  pub files : Rose texts.before texts.after → ⊥
  pub session : NoneFailed before after

-- the status is 0, and the messages up to the first that closes the session were served, or it is 9
abbrev pub IsAnswered : Opening → WordsBySeeding → Outside → Outside → List (List ℕ) → ℕ → Type 0
IsAnswered o seeded before after messages status =
    ((status ≡ 0) × (later : Scene)
    × AnswersAll no_changes same_marks o.home (first_scene o seeded) later before after messages)
    ⊎ (status ≡ 9)

-- so it is wherever the file is accepted, the input is such messages and nothing failed
abbrev pub Completes : List (List ℕ) → Shelves → WordsBySeeding → Outside → Outside → ℕ → Type 0
Completes words texts seeded before after status =
    (o : Opening) (stream : List ℕ) (messages : List (List ℕ)) → NamesOpening words texts o
    → before.left ≡ Some stream → IsServable stream messages → NothingFailed texts before after
    → IsAnswered o seeded before after messages status
