-- The minor numbers of GIOP's versions (CORBA, chapter on General Inter-ORB Protocol, "GIOP Message Header").
use Rattle.std.specs.Prelude.{ℕ}
use Rattle.td_log.specs.declared.message.Version.{Version}
use Rattle.td_log.specs.declared.message.Version.TheVariants.{V1_0, V1_1}

abbrev pub minor_of : Version → ℕ
minor_of V1_0 = 0
minor_of V1_1 = 1
