-- What can be written of a trader, as it goes into replies (CORBA, chapter on the General Inter-ORB Protocol, "CDR
-- Transfer Syntax"): no text has a NUL, each any, TypeCode and reference has a spelling, and numbers fit their fields.
use Rattle.std.specs.Prelude.{ℕ, ◌≤◌, List}
use Rattle.std.specs.List.{AllByRecursion}
use Rattle.td_cdr.specs.Sound.{text, ulong}
use Rattle.td_policy.specs.declared.attributes.Attributes.{Attributes}
use Rattle.td_ops.specs.Answers.{AdmitsOutcome}
use Rattle.td_ops.specs.Called.{change_operation, look_operation}
use Rattle.td_ops.specs.declared.call.Change.{Change}
use Rattle.td_ops.specs.declared.call.Look.{Look}
use Rattle.td_ops.specs.declared.call.Look.TheVariants as look
use Rattle.td_ops.specs.declared.outcome.Outcome.TheVariants.{Done}
use Rattle.td_store.specs.Stores.{IsStore}
use Rattle.td_types.specs.Adding.{last_incarnation}
use Rattle.td_register.specs.Causes.{Effect}
use Rattle.td_register.specs.Registers.{last_number}
use Rattle.td_register.specs.Stores.{Store}
use Rattle.td_register.specs.declared.history.Accepted.{Accepted}
use Rattle.td_changes.specs.Applying.{apply, apply_counted, seen}
use Rattle.td_changes.specs.Histories.{LegalFrom, at}
use Rattle.td_changes.specs.declared.bounds.Bounds.{Bounds}
use Rattle.td_trader.specs.Admitted.{AdmitsChange, AreAdmitted}

-- ---- stores

-- the numbers among the attributes are ulongs
pub record AreUlongs (a : Attributes) : Type 0 where
  pub def_search_card : ulong.format.admits a.def_search_card
  pub max_search_card : ulong.format.admits a.max_search_card
  pub def_match_card : ulong.format.admits a.def_match_card
  pub max_match_card : ulong.format.admits a.max_match_card
  pub def_return_card : ulong.format.admits a.def_return_card
  pub max_return_card : ulong.format.admits a.max_return_card
  pub max_list : ulong.format.admits a.max_list
  pub def_hop_count : ulong.format.admits a.def_hop_count
  pub max_hop_count : ulong.format.admits a.max_hop_count

-- a store all of whose values can be written, its numbers among them
pub record IsWritableStore (s : Store) : Type 0 where
  pub store : IsStore s
  pub numbers : AreUlongs s.attributes
  pub last_offer : s.last_offer ≤ last_number
  pub incarnation : s.types.last ≤ last_incarnation

-- ---- looks: their parameters, as they stand in a request

abbrev pub AdmitsLook : Look → Type 0
AdmitsLook (look.Describe id) = text.format.admits id
AdmitsLook (look.DescribeLink name) = text.format.admits name
AdmitsLook look.ListLinks = Unit {0}
AdmitsLook (look.DescribeProxy id) = text.format.admits id
AdmitsLook (look.ListOffers how_many) = Unit {0}
AdmitsLook (look.ListProxies how_many) = Unit {0}
AdmitsLook (look.ListTypes which) = Unit {0}
AdmitsLook (look.DescribeType name) = text.format.admits name
AdmitsLook (look.FullyDescribeType name) = text.format.admits name
AdmitsLook (look.Get attribute) = Unit {0}

-- ---- what holds of each

-- the outcome is one of the change's operation that can be written, and so can the store behind it
pub record IsWritten (c : Change) (a : Effect) : Type 0 where
  pub outcome : AdmitsOutcome (change_operation c) a.outcome
  pub store : IsWritableStore a.store

abbrev pub ChangesStayWritable : Type 0
ChangesStayWritable = (s : Store) (c : Change) → IsWritableStore s → AdmitsChange c
    → IsWritten c (apply s c)

abbrev pub CountedChangesStayWritable : Type 0
CountedChangesStayWritable =
    (bounds : Bounds) (count : ℕ) (s : Store) (c : Change) → IsWritableStore s → AdmitsChange c
    → IsWritten c (apply_counted bounds count s c)

abbrev pub LooksAreWritable : Type 0
LooksAreWritable =
    (s : Store) (l : Look) → IsWritableStore s → AdmitsLook l
    → AdmitsOutcome (look_operation l) (seen s l)

-- from a store that can be written on, each store that a history leads to can be
abbrev pub HistoriesStayWritable : Type 0
HistoriesStayWritable =
    (opening : Store) (history : List Accepted) (point : ℕ) → IsWritableStore opening
    → AreAdmitted history → IsWritableStore (at opening history point)

-- an entry's reply, as one of its change's operation
abbrev pub IsReplyWritten : Accepted → Type 0
IsReplyWritten e = AdmitsOutcome (change_operation e.change) (Done e.reply)

-- and so can each reply of a legal one
abbrev pub RepliesAreWritable : Type 0
RepliesAreWritable =
    (bounds : Bounds) (count : ℕ) (s : Store) (history : List Accepted) → IsWritableStore s
    → AreAdmitted history → LegalFrom bounds count s history → AllByRecursion IsReplyWritten history
