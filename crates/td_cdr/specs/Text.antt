-- CORBA, General Inter-ORB Protocol, "CDR Transfer Syntax", "Strings and Wide Strings": bytes of which the last is a
-- NUL and no other. That no bytes at all are an empty string is a leniency of this reader.
use Rattle.std.specs.Prelude.{◌≡◌, ◌-◌, ◌&&◌, nat_eq, if◌then◌else◌, take, Bool, false, not, ℕ, length, List, []}
use Rattle.std.specs.Prelude.{Result, Ok, Err}
use Rattle.std.specs.List.{slice_index, list_any}
use Rattle.td_cdr.specs.declared.fault.CdrFault.{CdrFault}
use Rattle.td_cdr.specs.declared.fault.CdrFault.TheVariants.{BadString}

-- whether a byte of it is 0
abbrev pub has_nul : List ℕ → Bool
has_nul text = list_any (λ b. nat_eq b 0) text

-- what a string can spell
abbrev pub HasNoNul : List ℕ → Type 0
HasNoNul text = has_nul text ≡ false

-- the bytes before the last one
abbrev pub front : List ℕ → List ℕ
front bytes = take (length bytes - 1) bytes

-- the last byte is a NUL and no other is
abbrev pub ends_in_nul : List ℕ → Bool
ends_in_nul bytes = nat_eq (slice_index bytes (length bytes - 1)) 0 && not (has_nul (front bytes))

-- what a string's bytes, its length at place, say: no bytes are no text
abbrev pub text_of : ℕ → List ℕ → Result (List ℕ) CdrFault
text_of place bytes =
    if nat_eq (length bytes) 0 then Ok [] else if ends_in_nul bytes then Ok (front bytes) else Err
    (BadString place)
