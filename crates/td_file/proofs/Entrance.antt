-- The entries of a trader, one by one.
use Rattle.std.proofs.Common.{◌≡◌, List, ◌∷◌, Result, sym, ap, ◌∙◌}
use Rattle.td_cdr.specs.Reading.{◌>>=◌}
use Rattle.td_lines.specs.declared.entry.Numbered.{Numbered}
use Rattle.td_lines.specs.declared.entry.Refused.{Refused}
use Rattle.td_register.specs.Stores.{Store}
use Rattle.td_walk.specs.declared.trace.Address.{Address}
use Rattle.td_file.specs.Openings.{behind, store_after}
use Rattle.td_file.specs.Stages.{IsRefusedFor}
use Rattle.td_file.specs.declared.fault.FileFault.{FileFault}
use Rattle.td_file.specs.declared.fault.FileFault.TheVariants.{Line, Memory}

-- what is refused first stays refused, whatever would follow
pub refused_on : {A B : Type 0} (content : Result A Refused) (f : A → Result B Refused) (fault : FileFault)
    → IsRefusedFor content fault → IsRefusedFor (content >>= f) fault
refused_on content f (Line n cause) h = ap (λ t. t >>= f) h
refused_on content f Memory h = tt

-- the same, of what is the same
pub refused_as : {A : Type 0} (content other : Result A Refused) (fault : FileFault) → content ≡ other → IsRefusedFor content fault
    → IsRefusedFor other fault
refused_as content other (Line n cause) e h = sym e ∙ h
refused_as content other Memory e h = tt

-- one entry more is refused
pub entry_refused : (home : Address) (s : Store) (one : Numbered) (before after : List Numbered)
    (whole : Result Store Refused) (fault : FileFault) → before ≡ one ∷ after → IsRefusedFor (behind home s one) fault
    → store_after home s before ≡ whole → IsRefusedFor whole fault
entry_refused home s one before after whole fault e h same =
    refused_as (store_after home s (one ∷ after)) whole fault (sym (ap (store_after home s) e) ∙ same)
    (refused_on (behind home s one) (λ (more : Store). store_after home more after) fault h)
