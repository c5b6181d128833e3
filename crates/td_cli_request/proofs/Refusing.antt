-- A word that is refused among others.
use Rattle.std.proofs.Common.{◌≡◌, Option, None, Err}
use Rattle.td_cli_request.specs.Forms.{ParsesTo}
use Rattle.td_cli_request.specs.declared.fault.AskFault.{AskFault}
use Rattle.td_cli_request.specs.declared.fault.AskFault.TheVariants.{Form, Memory}

-- what is told of all of them is then none
pub refused : {A B : Type 0} (content : Option A) (whole : Option B) (fault : AskFault) → (content ≡ None → whole ≡ None)
    → ParsesTo content (Err fault) → ParsesTo whole (Err fault)
refused content whole Form h g = h g
refused content whole Memory h g = tt
