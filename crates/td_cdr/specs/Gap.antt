-- CORBA, General Inter-ORB Protocol, "CDR Transfer Syntax": alignment, and the bytes of a number in either order.
use Rattle.std.specs.Prelude.{ℕ, ◌-◌, ◌%◌, List}
use Rattle.byteorder.specs.Endian.{big_bytes, little_bytes}
use Rattle.td_cdr.specs.declared.order.Order.{Order}
use Rattle.td_cdr.specs.declared.order.Order.TheVariants.{Big, Little}

-- Alignment: how many bytes there are from a place up to the next multiple of size
abbrev pub gap : ℕ → ℕ → ℕ
gap size place = (size - place % size) % size

-- Integer Data Types: the n bytes of a number, that of most weight first, or last
abbrev pub bytes_of : Order → ℕ → ℕ → List ℕ
bytes_of Big n x = big_bytes n x
bytes_of Little n x = little_bytes n x

-- Encapsulation: the octet that tells the order of the others
abbrev pub flag : Order → ℕ
flag Big = 0
flag Little = 1
