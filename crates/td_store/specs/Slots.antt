-- What stands at a place.
use Rattle.std.specs.Prelude.{Option, Some, None}
use Rattle.td_store.specs.declared.slot.Slot.{Slot}
use Rattle.td_store.specs.declared.slot.Slot.TheVariants.{Vacant, Occupied}

abbrev pub value_of : {T : Type 0} → Slot T → Option T
value_of Vacant = None
value_of (Occupied value) = Some value
