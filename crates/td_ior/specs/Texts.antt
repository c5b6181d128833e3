-- The two text forms of a reference: `IOR:` and hexadecimal digits (CORBA's chapter on ORB
-- interoperability, "Stringified Object References"), and `ref:ID,HOST,PORT,KEY`, which is only read.
use Rattle.std.specs.Prelude.{codes, ◌≡◌, ℕ, nat_eq, ◌||◌, false, List, [], ◌∷◌, ◌++◌, take, drop, if◌then◌else◌}
use Rattle.std.specs.Prelude.{Option, Some, None, Result, Ok, Err}
use Rattle.std.specs.List.{list_any}
use Rattle.std.specs.Result.{result_ok}
use Rattle.std.specs.Str.{bytes_eq}
use Rattle.hex.specs.Hex.{decode_of, encode_lower}
use Rattle.td_cdr.specs.Text.{has_nul, HasNoNul}
use Rattle.td_typecode.specs.declared.reference.Ior.{Ior}
use Rattle.td_typecode.specs.References.{reference}
use Rattle.td_ior.specs.declared.fault.IorFault.{IorFault}
use Rattle.td_ior.specs.declared.fault.IorFault.TheVariants.{NotIor, Memory}
use Rattle.td_ior.specs.Enclosed.{Encloses, enclosed_in, encapsulate_value}
use Rattle.td_ior.specs.Keys.{◌>>=◌}
use Rattle.td_ior.specs.Number.{SpellsBelow, port_of}
use Rattle.td_ior.specs.Profiles.{made_reference}

-- `IOR:` and the digits, of either case, of an encapsulation that holds the reference
pub record IsHexForm (text : List ℕ) (r : Ior) : Type 0 where
  pub digits : List ℕ
  pub octets : List ℕ
  pub whole : text ≡ codes "IOR:" ++ digits
  pub decoded : decode_of digits ≡ Ok octets
  pub holds : Encloses reference octets r

abbrev pub HasNoComma : List ℕ → Type 0
HasNoComma word = list_any (λ b. nat_eq b 44) word ≡ false

-- `ref:ID,HOST,PORT,KEY`, cut at its last three commas: a reference with a profile of IIOP 1.0
pub record IsPlainForm (text : List ℕ) (r : Ior) : Type 0 where
  pub id : List ℕ
  pub host : List ℕ
  pub port_word : List ℕ
  pub port : ℕ
  pub key : List ℕ
  pub whole : text ≡ codes "ref:" ++ (id ++ 44 ∷ (host ++ 44 ∷ (port_word ++ 44 ∷ key)))
  pub in_host : HasNoComma host
  pub in_port : HasNoComma port_word
  pub in_key : HasNoComma key
  pub id_plain : HasNoNul id
  pub host_plain : HasNoNul host
  pub number : SpellsBelow 65536 port_word port
  pub made : r ≡ made_reference id host port key 0

pub data IsReferenceText (text : List ℕ) (r : Ior) : Type 0 where
  hex : IsHexForm text r → IsReferenceText text r
  plain : IsPlainForm text r → IsReferenceText text r

-- ---- how a text is read

abbrev pub hex_form : List ℕ → Option Ior
hex_form digits = result_ok (decode_of digits) >>= enclosed_in reference

abbrev pub cut_before : ℕ → List ℕ → Option (List ℕ × List ℕ) → Option (List ℕ × List ℕ)
cut_before b bytes (Some cut) = Some (b ∷ cut.0, cut.1)
cut_before b bytes None = if nat_eq b 44 then Some ([], bytes) else None

-- what stands before the last comma and what stands after it
unfoldable pub cut_last : List ℕ → Option (List ℕ × List ℕ)
cut_last [] = None
cut_last (b ∷ bytes) = cut_before b bytes (cut_last bytes)

-- what follows `ref:`
abbrev pub without_mark : List ℕ → Option (List ℕ)
without_mark text = if bytes_eq (take 4 text) (codes "ref:") then Some (drop 4 text) else None

pub record IorParts : Type 0 where
  pub id : List ℕ
  pub host : List ℕ
  pub port : ℕ
  pub key : List ℕ

abbrev pub with_port : List ℕ × List ℕ → List ℕ → ℕ → Option IorParts
with_port first key port =
    if has_nul first.0 || has_nul first.1 then None
    else Some (record { id = first.0; host = first.1; port = port; key = key })

unfoldable pub parts_of : List ℕ → Option IorParts
parts_of text = do
  parts ← without_mark text
  last ← cut_last parts
  before ← cut_last last.0
  first ← cut_last before.0
  port ← port_of before.1
  with_port first last.1 port

abbrev pub plain_form : List ℕ → Option Ior
plain_form text = parts_of text >>= λ p. Some (made_reference p.id p.host p.port p.key 0)

abbrev pub reference_in : List ℕ → Option Ior
reference_in text = if bytes_eq (take 4 text) (codes "IOR:") then hex_form (drop 4 text)
    else plain_form text

-- the reference, and NotIor exactly where the text is in neither form
abbrev pub ReadsText : Option Ior → Result Ior IorFault → Type 0
ReadsText found (Ok r) = found ≡ Some r
ReadsText found (Err NotIor) = found ≡ None
ReadsText found (Err Memory) = Unit {0}
ReadsText found (Err e) = ⊥

-- ---- how a reference is printed

abbrev pub printed_ior : Ior → List ℕ
printed_ior r = codes "IOR:" ++ encode_lower (encapsulate_value reference r)
