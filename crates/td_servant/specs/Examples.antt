-- Worked examples: which object a key names in a group of the trader A alone, which interfaces it has, how a Request is
-- judged, how many changes had come before one, and what is told of a list and kept of it.
use Rattle.std.specs.Prelude.{◌≡◌, true, false, [], ◌∷◌, codes, None, Some}
use Rattle.td_cdr.specs.Place.{At}
use Rattle.td_iter.specs.Desks.{Live}
use Rattle.td_iter.specs.Heads.{nil}
use Rattle.td_iter.specs.declared.item.Item.TheVariants.{Ids}
use Rattle.td_objects.specs.Interfaces.{is_a}
use Rattle.td_objects.specs.References.{iterator_reference}
use Rattle.td_objects.specs.declared.interface.Interface.TheVariants as interface
use Rattle.td_ops.specs.declared.call.Look.TheVariants as look
use Rattle.td_ops.specs.declared.outcome.Outcome.TheVariants.{Done, System}
use Rattle.td_ops.specs.declared.outcome.Reply.TheVariants as reply
use Rattle.td_ops.specs.declared.outcome.SystemKind.TheVariants.{BadOperation, ImpLimit, ObjectNotExist}
use Rattle.td_trader.specs.Worlds.{View}
use Rattle.td_value.specs.declared.key.Kind.TheVariants.{Iterator, Lookup}
use Rattle.td_walk.specs.declared.trace.Address.{Address}
use Rattle.td_servant.specs.Changing.{changes_before}
use Rattle.td_servant.specs.Judging.{judge_request}
use Rattle.td_servant.specs.Looking.{first_ids, how_many, kept_for}
use Rattle.td_servant.specs.Objects.{object_at, object_with}
use Rattle.td_servant.specs.declared.judging.Judged.TheVariants.{Refused}

-- no iterator is kept, and the next number is 1
abbrev pub bare : Live
bare = ([], 1)

-- the iterator 1 of A is kept, over one id
abbrev pub with_iterator : Live
with_iterator = (record { trader = codes "A"; number = 1; item = Ids (codes "7" ∷ []) } ∷ [], 2)

pub record WorkedKeys (v : View) : Type 0 where
  pub lookup : object_at (v ∷ []) bare (codes "A/L") ≡ Some (object_with 0 Lookup interface.Lookup)
  pub of_none : object_at (v ∷ []) bare (codes "B/L") ≡ None
  pub not_kept : object_at (v ∷ []) bare (codes "A/I/1") ≡ None
  pub kept : object_at (v ∷ []) with_iterator (codes "A/I/1")
      ≡ Some (object_with 0 (Iterator 1) interface.OfferIdIterator)

pub record WorkedRequests (v : View) (a : At) : Type 0 where
  pub unknown_key : judge_request (v ∷ []) bare (codes "B/L") (codes "query") a
      ≡ Refused (System ObjectNotExist 0 1)
  pub unknown_operation : judge_request (v ∷ []) bare (codes "A/L") (codes "export") a
      ≡ Refused (System BadOperation 0 1)

pub record WorkedInterfaces : Type 0 where
  pub inherits : is_a interface.Lookup (codes "IDL:omg.org/CosTrading/ImportAttributes:1.0") ≡ true
  pub lacks : is_a interface.Register (codes "IDL:omg.org/CosTrading/ImportAttributes:1.0") ≡ false
  pub every : is_a interface.OfferIterator (codes "IDL:omg.org/CORBA/Object:1.0") ≡ true

pub record WorkedPoints : Type 0 where
  pub accepted : changes_before (Done reply.Nothing) 3 ≡ 2
  pub refused : changes_before (System ImpLimit 0 1) 3 ≡ 3

-- of two ids the first is told, or both
pub record WorkedLists (home : Address) : Type 0 where
  pub asked : how_many (look.ListProxies 1) ≡ 1
  pub first : first_ids home (codes "A") 1 (codes "7" ∷ codes "8" ∷ []) 1
      ≡ Done (reply.Ids (codes "7" ∷ []) (iterator_reference home (codes "A") 1))
  pub both : first_ids home (codes "A") 1 (codes "7" ∷ codes "8" ∷ []) 2
      ≡ Done (reply.Ids (codes "7" ∷ codes "8" ∷ []) nil)
  pub rest : kept_for (codes "A") (codes "8" ∷ []) bare
      ≡ (record { trader = codes "A"; number = 1; item = Ids (codes "8" ∷ []) } ∷ [], 2)
  pub none_left : kept_for (codes "A") [] bare ≡ bare
