-- Each reply of a session spells its outcome, where what its traders opened with can be written.
use Rattle.std.specs.Prelude.{◌≡◌, List, Option, None, Some, Ok}
use Rattle.std.specs.List.{AllByRecursion}
use Rattle.td_cdr.specs.Marks.{Marks}
use Rattle.td_cdr.specs.Place.{At}
use Rattle.td_giop.specs.Heads.{Request, request_at}
use Rattle.td_lookup.specs.Scenes.{Scene}
use Rattle.td_register.specs.declared.history.Accepted.{Accepted}
use Rattle.td_dispatch.specs.ReplyBytes.{reply_to}
use Rattle.td_session_runs.specs.Journals.{all_gave}
use Rattle.td_stream.specs.Messages.{behind, minor_of, order_of}
use Rattle.td_session_runs.specs.Turns.{ServedRequest, Run, Turn, noted_of}
use Rattle.td_session_runs_laws.specs.Spelled.{HasAdmittedAnswer, SpellsReply}
use Rattle.td_session_runs_laws.specs.Writable.{IsWritableScene}
use Rattle.td_walk.specs.Peering.{AdmitsGifts}
use Rattle.td_walk.specs.declared.trace.Address.{Address}

-- what a turn answers a Request with, by its head: a Reply under its id that spells the outcome, or nothing
pub record AnswersRequest (n : ServedRequest) (t : Turn) : Type 0 where
  pub head : Request
  pub body : At
  pub read : request_at (minor_of t.message) (behind t.message) ≡ Ok (head, body)
  pub content : SpellsReply (reply_to (order_of t.message) (minor_of t.message) head) n t.reply

abbrev pub AnswersNoted : Option ServedRequest → Turn → Type 0
AnswersNoted None t = Unit {0}
AnswersNoted (Some n) t = AnswersRequest n t

abbrev pub AnswersTurn : Turn → Type 0
AnswersTurn t = AnswersNoted t.request t

-- each reply spells the outcome of its Request
abbrev pub SpellsReplies : List Turn → Type 0
SpellsReplies ts = AllByRecursion AnswersTurn ts

-- Where a session begins at traders whose values can be written, and peers give only such values.
pub record BeginsWritably (s : Scene) (ts : List Turn) : Type 0 where
  pub scene : IsWritableScene s
  pub gifts : AdmitsGifts (all_gave (noted_of ts))

module _ (others : List Accepted → Type 0) (later : Marks → Marks → Type 0) where
  -- each Request has an outcome that can be written, and what it leaves can be written again
  abbrev pub OutcomesAreWritable : Type 0
  OutcomesAreWritable =
      (home : Address) (s u : Scene) (ts : List Turn) → BeginsWritably s ts
      → Run others later home s ts u → AllByRecursion HasAdmittedAnswer (noted_of ts)
      × IsWritableScene u

  -- each reply spells it
  abbrev pub RepliesSpell : Type 0
  RepliesSpell =
      (home : Address) (s u : Scene) (ts : List Turn) → BeginsWritably s ts
      → Run others later home s ts u → SpellsReplies ts
