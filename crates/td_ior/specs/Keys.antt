-- The keys of a trader's objects: NAME/L for the Lookup, and so on, NAME being the trader's name.
use Rattle.std.specs.Prelude.{codes, ◌≡◌, ℕ, ◌+◌, ◌<◌, ◌^◌, nat_eq, List, [], ◌∷◌, ◌++◌, take, drop, if◌then◌else◌}
use Rattle.std.specs.Prelude.{Option, Some, None, Result, Ok, Err}
use Rattle.std.specs.Fmt.{decimal}
use Rattle.std.specs.List.{position}
use Rattle.std.specs.Option.{IsSome}
use Rattle.std.specs.Str.{bytes_eq}
use Rattle.td_cdr.specs.Names.{trader_name, IsTraderName}
use Rattle.td_value.specs.declared.key.Kind.{Kind}
use Rattle.td_value.specs.declared.key.Kind.TheVariants.{Lookup, Register, Link, Proxy, Admin, Types, Iterator}
use Rattle.td_value.specs.declared.key.ObjectKey.{ObjectKey}
use Rattle.td_ior.specs.declared.fault.IorFault.{IorFault}
use Rattle.td_ior.specs.declared.fault.IorFault.TheVariants.{BadKey, Memory}
use Rattle.td_ior.specs.Number.{number_of}

-- what stands behind the trader's name and a slash
abbrev pub kind_piece : Kind → List ℕ
kind_piece Lookup = codes "L"
kind_piece Register = codes "R"
kind_piece Link = codes "K"
kind_piece Proxy = codes "P"
kind_piece Admin = codes "A"
kind_piece Types = codes "T"
kind_piece (Iterator n) = codes "I/" ++ decimal n

abbrev pub written_key : ObjectKey → List ℕ
written_key key = key.trader ++ 47 ∷ kind_piece key.kind

-- iterators are counted from 1
abbrev pub IsKind : Kind → Type 0
IsKind (Iterator n) = (0 < n) × (n < 2 ^ 64)
IsKind _ = Unit {0}

-- the octets are the key of this object of a trader
pub record SpellsKey (octets : List ℕ) (key : ObjectKey) : Type 0 where
  pub trader : IsTraderName key.trader
  pub kind : IsKind key.kind
  pub written : octets ≡ written_key key

-- ---- how a key is read

infixl 10 ◌>>=◌
abbrev pub ◌>>=◌ : {A B : Type 0} → Option A → (A → Option B) → Option B
(Some x) >>= f = f x
None >>= f = None

abbrev pub letter_kind : ℕ → Option Kind
letter_kind b =
    if nat_eq b 76 then Some Lookup
    else if nat_eq b 82 then Some Register
    else if nat_eq b 75 then Some Link
    else if nat_eq b 80 then Some Proxy
    else if nat_eq b 65 then Some Admin
    else if nat_eq b 84 then Some Types
    else None

abbrev pub one_letter : List ℕ → Option Kind
one_letter [] = None
one_letter (b ∷ []) = letter_kind b
one_letter (b ∷ c ∷ more) = None

abbrev pub iterator_of : List ℕ → Option Kind
iterator_of word = number_of word >>= λ n. if nat_eq n 0 then None else Some (Iterator n)

abbrev pub kind_of : List ℕ → Option Kind
kind_of object = if bytes_eq (take 2 object) (codes "I/") then iterator_of (drop 2 object)
    else one_letter object

-- what stands before the first slash and what stands after it
abbrev pub at_slash : List ℕ → Option (List ℕ × List ℕ)
at_slash octets = position (λ b. nat_eq b 47) octets >>= λ i.
    Some (take i octets, drop (i + 1) octets)

abbrev pub named_key : List ℕ → Kind → Option ObjectKey
named_key name kind = if trader_name name then Some (record { trader = name; kind = kind })
    else None

unfoldable pub key_of : List ℕ → Option ObjectKey
key_of octets = do
  parts ← at_slash octets
  kind ← kind_of parts.1
  named_key parts.0 kind

-- What a reader of keys answers: the key, and BadKey exactly where there is none. Memory wants only for
-- a key's copy.
abbrev pub ReadsKey : Option ObjectKey → Result ObjectKey IorFault → Type 0
ReadsKey found (Ok key) = found ≡ Some key
ReadsKey found (Err BadKey) = found ≡ None
ReadsKey found (Err Memory) = IsSome found
ReadsKey found (Err e) = ⊥
