-- What is told of what a server's file opens: of each trader in order its name, how many types, offers and links it
-- has, and the references of its six objects as text (OMG's Trading Object Service, TraderComponents).
use Rattle.std.specs.Prelude.{ℕ, List, [], ◌∷◌, ◌++◌, codes, length}
use Rattle.td_file.specs.Files.{Opening}
use Rattle.td_ior.specs.Texts.{printed_ior}
use Rattle.td_objects.specs.References.{own_reference}
use Rattle.td_objects.specs.declared.interface.Interface.TheVariants as interface
use Rattle.td_objects.specs.declared.interface.Interface.{Interface}
use Rattle.td_forms.specs.Counted.{label_number}
use Rattle.td_trader.specs.PlainTraders.{PlainTrader, store_of}
use Rattle.td_value.specs.declared.key.Kind.{Kind}
use Rattle.td_value.specs.declared.key.Kind.TheVariants as kind
use Rattle.td_walk.specs.declared.trace.Address.{Address}
use Rattle.td_check.specs.declared.objects.Own.{Own}
use Rattle.td_check.specs.declared.objects.Own.TheVariants.{Lookup, Register, Link, Proxy, Admin, Types}

-- ---- how much a trader has

abbrev pub count_line : (name : List ℕ) → (types offers links : ℕ) → List ℕ
count_line name types offers links =
    codes "trader " ++ name ++ label_number (codes " types ") types
    ++ label_number (codes " offers ") offers
    ++ label_number (codes " links ") links ++ codes "\n"

-- ---- its objects

abbrev pub word_of : Own → List ℕ
word_of Lookup = codes "lookup "
word_of Register = codes "register "
word_of Link = codes "link "
word_of Proxy = codes "proxy "
word_of Admin = codes "admin "
word_of Types = codes "types "

abbrev pub interface_of : Own → Interface
interface_of Lookup = interface.Lookup
interface_of Register = interface.Register
interface_of Link = interface.Link
interface_of Proxy = interface.Proxy
interface_of Admin = interface.Admin
interface_of Types = interface.ServiceTypeRepository

abbrev pub kind_of : Own → Kind
kind_of Lookup = kind.Lookup
kind_of Register = kind.Register
kind_of Link = kind.Link
kind_of Proxy = kind.Proxy
kind_of Admin = kind.Admin
kind_of Types = kind.Types

-- the object's reference, as it is printed
unfoldable pub reference_text : Address → (name : List ℕ) → Own → List ℕ
reference_text home name own = printed_ior (own_reference home (interface_of own) name
    (kind_of own))

abbrev pub reference_line : Address → (name : List ℕ) → Own → List ℕ
reference_line home name own = word_of own ++ reference_text home name own ++ codes "\n"

abbrev pub reference_lines : Address → (name : List ℕ) → List ℕ
reference_lines home name =
    reference_line home name Lookup ++ reference_line home name Register
    ++ reference_line home name Link
    ++ reference_line home name Proxy ++ reference_line home name Admin
    ++ reference_line home name Types

-- ---- a trader, and all of them

-- proxy offers are among the offers
abbrev pub trader_lines : Address → PlainTrader → List ℕ
trader_lines home t =
    count_line t.name (length (store_of t).types.types) (length (store_of t).offers)
    (length (store_of t).links)
    ++ reference_lines home t.name

abbrev pub all_lines : Address → List PlainTrader → List ℕ
all_lines home [] = []
all_lines home (t ∷ ts) = trader_lines home t ++ all_lines home ts

-- the lines for what a file opens
abbrev pub check_lines : Opening → List ℕ
check_lines o = all_lines o.home o.traders
