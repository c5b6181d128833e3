-- What a Request comes to: an outcome, what is noted of it, and how everything stands then (OMG's Trading Object
-- Service; CORBA, chapter "ORB Interface" for the calls of all objects).
use Rattle.std.specs.Prelude.{◌≡◌, ◌⊎◌, ◌<◌, ◌^◌, ℕ, false, List}
use Rattle.td_cdr.specs.Marks.{Marks}
use Rattle.td_cdr.specs.Writing.{Draft}
use Rattle.td_lookup.specs.Naming.{NameComes}
use Rattle.td_lookup.specs.Querying.{QueryComes}
use Rattle.td_lookup.specs.Scenes.{Scene}
use Rattle.td_lookup.specs.NoMemory.{AnswersNoMemory, unbegun_entry}
use Rattle.td_objects.specs.Interfaces.{is_a}
use Rattle.td_ops.specs.declared.call.Call.TheVariants as call
use Rattle.td_ops.specs.declared.outcome.Outcome.{Outcome}
use Rattle.td_ops.specs.declared.outcome.Outcome.TheVariants.{Done, System}
use Rattle.td_ops.specs.declared.outcome.Reply.TheVariants.{Truth}
use Rattle.td_register.specs.declared.history.Accepted.{Accepted}
use Rattle.td_servant.specs.Changing.{ChangeComes}
use Rattle.td_servant.specs.Iterating.{IteratorComes}
use Rattle.td_servant.specs.Linking.{AddLinkComes}
use Rattle.td_servant.specs.Looking.{LookComes}
use Rattle.td_servant.specs.declared.class.RequestClass.{RequestClass}
use Rattle.td_servant.specs.declared.entry.Entry.{Entry}
use Rattle.td_servant.specs.declared.entry.Entry.TheVariants.{Plain}
use Rattle.td_servant.specs.declared.judging.Judged.{Judged}
use Rattle.td_servant.specs.declared.judging.Judged.TheVariants.{Call, Refused}
use Rattle.td_dispatch.specs.ReplyBytes.{BeginsReply, reply_for}
use Rattle.td_dispatch.specs.declared.reply_to.ReplyTo.{ReplyTo}
use Rattle.td_trader.specs.Worlds.{name_at}
use Rattle.td_value.specs.declared.key.Kind.{Kind}
use Rattle.td_value.specs.declared.key.Kind.TheVariants as kind
use Rattle.td_walk.specs.declared.trace.Address.{Address}

-- the number of an iterator, which are counted from 1
abbrev pub number_in : Kind → ℕ
number_in (kind.Iterator n) = n
number_in other = 0

-- Of a Request of a class that spells no call nothing is noted, or what is noted where nothing was done for its class.
abbrev pub NotesNoCall : RequestClass → Judged → Entry → Type 0
NotesNoCall c (Refused r) e = (e ≡ Plain) ⊎ (e ≡ unbegun_entry c)
NotesNoCall c (Call x asked) e = Unit {0}

-- the minor code of a system exception (CORBA, chapter "Standard Exceptions"); nothing else has one
abbrev pub minor_code : Outcome → ℕ
minor_code (System kind minor completion) = minor
minor_code other = 0

-- Of a Request that spells no call it is a ulong.
abbrev pub FitsCode : Judged → Outcome → Type 0
FitsCode (Refused r) o = minor_code o < 2 ^ 32
FitsCode (Call x c) o = Unit {0}

module _ (others : List Accepted → Type 0) (later : Marks → Marks → Type 0) (home : Address) where
  -- A call of an object, where what it doesn't name stays as it was. A Request that spells no call is refused, and that
  -- is all.
  abbrev pub OutcomeOfRequest : Judged → (draft : Draft) → Scene → Outcome → Entry → Scene → Type 0
  OutcomeOfRequest (Refused r) draft s o e t = (o ≡ r) × (e ≡ Plain) × (t ≡ s)
  OutcomeOfRequest (Call x (call.Change c)) draft s o e t =
      ChangeComes others later s.world x.trader c o e t.world × (t ≡ record s { world = t.world })
  OutcomeOfRequest (Call x (call.Look l)) draft s o e t =
      LookComes others later home s.world s.desk x.trader l draft o e t.world t.desk
      × (t.peers ≡ s.peers) × (t.words ≡ s.words)
  OutcomeOfRequest (Call x (call.AddLink l)) draft s o e t =
      AddLinkComes others later home s.world x.trader l s.peers t.peers o e t.world
      × (t.desk ≡ s.desk) × (t.words ≡ s.words)
  OutcomeOfRequest (Call x (call.Iter i)) draft s o e t =
      IteratorComes (name_at s.world x.trader) (number_in x.kind) i s.desk draft o e t.desk
      × (t ≡ record s { desk = t.desk })
  OutcomeOfRequest (Call x (call.IsA id)) draft s o e t = (o ≡ Done (Truth (is_a x.interface id)))
      × (e ≡ Plain) × (t ≡ s)
  OutcomeOfRequest (Call x call.NonExistent) draft s o e t = (o ≡ Done (Truth false)) × (e ≡ Plain)
      × (t ≡ s)
  OutcomeOfRequest (Call x (call.Query q)) draft s o e t =
      QueryComes others later home s x.trader q draft o e t
  OutcomeOfRequest (Call x (call.Resolve names)) draft s o e t =
      NameComes others later home s x.trader names o e t

  -- that, or memory ran out
  abbrev pub AnswersRequest : Judged → (draft : Draft) → Scene → Outcome → Entry → Scene → Type 0
  AnswersRequest j draft s o e t = OutcomeOfRequest j draft s o e t
      ⊎ AnswersNoMemory others later home j s o e t

  -- The Request was answered so, and these are the bytes of its Reply: none where it expects none. Where it spells no
  -- call, the minor code that it is told is a ulong.
  pub record RepliesTo (to : ReplyTo) (j : Judged) (s : Scene) (o : Outcome) (e : Entry)
      (bytes : List ℕ) (t : Scene) : Type 0 where
    pub draft : Draft
    pub begun : BeginsReply to draft
    pub answers : AnswersRequest j draft s o e t
    pub reply : bytes ≡ reply_for to o
    pub code : FitsCode j o
