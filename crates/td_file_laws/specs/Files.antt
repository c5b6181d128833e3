-- Files open traders that calls reach (this project's own form of a server's file), and that can be written.
use Rattle.std.specs.Prelude.{◌≡◌, ℕ, List, Ok}
use Rattle.std.specs.List.{AllByRecursion}
use Rattle.td_cdr.specs.Lawful.{AreOctets}
use Rattle.td_file.specs.Files.{Opening, opening_of}
use Rattle.td_trader_laws.specs.Reaching.{AreReached}
use Rattle.td_trader_laws.specs.WritableTraders.{IsWritableTrader}

abbrev pub FilesOpenReachedTraders : Type 0
FilesOpenReachedTraders = (text : List ℕ) (o : Opening) → opening_of text ≡ Ok o
    → AreReached o.traders

abbrev pub FilesOpenWritableTraders : Type 0
FilesOpenWritableTraders =
    (text : List ℕ) (o : Opening) → AreOctets text → opening_of text ≡ Ok o
    → AllByRecursion IsWritableTrader o.traders
