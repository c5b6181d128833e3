-- What can be written of all that a session stands on, so that it can go into replies (CORBA, chapter on General
-- Inter-ORB Protocol, "CDR Transfer Syntax").
use Rattle.std.specs.List.{AllByRecursion}
use Rattle.td_cdr.specs.Sound.{sequence, text}
use Rattle.td_iter.specs.Desks.{Live}
use Rattle.td_iter.specs.declared.item.Item.{Item}
use Rattle.td_iter.specs.declared.item.Item.TheVariants.{Offers, Ids}
use Rattle.td_lookup.specs.Scenes.{Scene}
use Rattle.td_trader_laws.specs.WritableWorlds.{IsWritableWorld}
use Rattle.td_value.specs.Structures.{offer}

-- ---- what is left to iterators

abbrev pub AdmitsItem : Item → Type 0
AdmitsItem (Offers left) = (sequence offer).format.admits left
AdmitsItem (Ids left) = (sequence text).format.admits left

abbrev pub IsWritableDesk : Live → Type 0
IsWritableDesk d = AllByRecursion (λ e. AdmitsItem e.item) d.0

-- the traders as they are seen, and what is left to the iterators
pub record IsWritableScene (s : Scene) : Type 0 where
  pub world : IsWritableWorld s.world
  pub desk : IsWritableDesk s.desk
