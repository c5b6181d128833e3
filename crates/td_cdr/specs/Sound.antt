-- Formats with their laws: a way to build one is a way to build the other too. A structure, a union or an
-- operation's parameters is then one line of definition (CORBA, General Inter-ORB Protocol, "CDR Transfer Syntax").
use Rattle.std.specs.Prelude.{◌≡◌, true, false, ℕ, ℤ, ◌+◌, ◌^◌, ◌++◌, Bool, List, length, map, Option, Some}
use Rattle.std.proofs.Common.{refl, ap, sym, ◌∙◌}
use Rattle.std.specs.Int.{Width, w16, w32, w64}
use mir.Val.{bits}
use Rattle.td_cdr.specs.declared.order.Order.{Order}
use Rattle.td_cdr.specs.Place.{At}
use Rattle.td_cdr.specs.Reading.{next_aligned}
use Rattle.td_cdr.specs.Format.{Format, Piece, row, ◌then◌, number as a_number, signed as a_signed}
use Rattle.td_cdr.specs.Format.{boolean as a_boolean, octets as some_octets, text as a_text, with_fault, dependent_pair}
use Rattle.td_cdr.specs.Format.{◌&◌ as ◌and◌, structure_format, variant_format, constant_format, placeholder_format}
use Rattle.td_cdr.specs.Format.{failure_format, restriction_format, encapsulation_format, array_format, union_format}
use Rattle.td_cdr.specs.Format.{nth, upwards, partial_format, enumeration_format}
use Rattle.td_cdr.specs.Format.{other_writing as otherwise_written, sequence_format}
use Rattle.td_cdr.specs.Lawful.{Lawful}
use Rattle.td_cdr.specs.LawfulFormats.{number-lawful, signed-lawful, boolean-lawful, octets-lawful, text-lawful}
use Rattle.td_cdr.specs.LawfulFormats.{with_fault-lawful, dependent_pair-lawful, ◌&&&◌, structure_format-lawful}
use Rattle.td_cdr.specs.LawfulFormats.{variant_format-lawful, constant_format-lawful, placeholder_format-lawful}
use Rattle.td_cdr.specs.LawfulFormats.{failure_format-lawful, restriction_format-lawful, encapsulation_format-lawful}
use Rattle.td_cdr.specs.LawfulFormats.{array_format-lawful, union_format-lawful}
use Rattle.td_cdr.specs.LawfulFormats.{enumeration_format-lawful, other_writing-lawful, times-length}
use Rattle.td_cdr.specs.LawfulFormats.{times-row, sequence_format-lawful}
use Rattle.td_cdr.specs.Faults.{NumberFault, BooleanFault, OctetsFault, StringFault, OuterFault, WithinFault, ThenFault}
use Rattle.td_cdr.specs.Faults.{Refuses}
use Rattle.td_cdr.specs.FormatFaults.{Faults, no_fault, each_fault, RestrictionFault, PartialFault, ArrayFault}
use Rattle.td_cdr.specs.FormatFaults.{SequenceFault}
use Rattle.td_cdr.specs.Refused.{number-refuses, signed-refuses, boolean-refuses, octets-refuses, string-refuses}
use Rattle.td_cdr.specs.RefusedFormats.{with_fault-refuses, dependent_pair-refuses, union_format-refuses}
use Rattle.td_cdr.specs.RefusedFormats.{structure_format-refuses, variant_format-refuses, placeholder_format-refuses}
use Rattle.td_cdr.specs.RefusedFormats.{constant_format-refuses, failure_format-refuses, restriction_format-refuses}
use Rattle.td_cdr.specs.RefusedFormats.{partial_format-refuses, encapsulation_format-refuses, array_format-refuses}
use Rattle.td_cdr.specs.RefusedFormats.{sequence_format-refuses}
use Rattle.td_cdr.specs.declared.value_fault.ValueFault.{ValueFault}
use Rattle.td_cdr.specs.declared.value_fault.ValueFault.TheVariants.{Cdr, BadValue}

-- how a value is spelled, where the bytes are none and which fault that is, and the laws of both
pub record Sound (F Y : Type 0) : Type 1 where
  pub format : Format F Y
  pub lawful : Lawful format
  pub faults : Faults F
  pub refuses : Refuses faults format.reads

-- ---- the items of the common data representation, with the faults of values

-- an unsigned number of so many bytes
abbrev pub number : ℕ → Sound ValueFault ℕ
number size = record {
  format = with_fault Cdr (a_number size);
  lawful = with_fault-lawful Cdr (a_number size) (number-lawful size);
  faults = OuterFault Cdr (NumberFault size);
  refuses = with_fault-refuses Cdr (a_number size) (NumberFault size) (number-refuses size);
}

abbrev pub ulong : Sound ValueFault ℕ
ulong = number 4

-- a signed number of so many bytes, in two's complement
abbrev pub signed : (width : Width) (size : ℕ) → 256 ^ size ≡ 2 ^ bits width → Sound ValueFault ℤ
signed width size same = record {
  format = with_fault Cdr (a_signed width size);
  lawful = with_fault-lawful Cdr (a_signed width size) (signed-lawful width size same);
  faults = OuterFault Cdr (NumberFault size);
  refuses = with_fault-refuses Cdr (a_signed width size) (NumberFault size)
      (signed-refuses width size);
}

abbrev pub short : Sound ValueFault ℤ
short = signed w16 2 refl

abbrev pub long : Sound ValueFault ℤ
long = signed w32 4 refl

abbrev pub longlong : Sound ValueFault ℤ
longlong = signed w64 8 refl

abbrev pub boolean : Sound ValueFault Bool
boolean = record {
  format = with_fault Cdr a_boolean;
  lawful = with_fault-lawful Cdr a_boolean boolean-lawful;
  faults = OuterFault Cdr BooleanFault;
  refuses = with_fault-refuses Cdr a_boolean BooleanFault boolean-refuses;
}

abbrev pub octets : Sound ValueFault (List ℕ)
octets = record {
  format = with_fault Cdr some_octets;
  lawful = with_fault-lawful Cdr some_octets octets-lawful;
  faults = OuterFault Cdr OctetsFault;
  refuses = with_fault-refuses Cdr some_octets OctetsFault octets-refuses;
}

abbrev pub text : Sound ValueFault (List ℕ)
text = record {
  format = with_fault Cdr a_text;
  lawful = with_fault-lawful Cdr a_text text-lawful;
  faults = OuterFault Cdr StringFault;
  refuses = with_fault-refuses Cdr a_text StringFault string-refuses;
}

abbrev pub sequence : {X : Type 0} → Sound ValueFault X → Sound ValueFault (List X)
sequence g = record {
  format = sequence_format Cdr g.format;
  lawful = sequence_format-lawful Cdr g.format g.lawful;
  faults = SequenceFault Cdr g.format g.faults;
  refuses = sequence_format-refuses Cdr g.format g.faults g.lawful g.refuses;
}

-- so many values
abbrev pub array : {F X : Type 0} → Sound F X → ℕ → Sound F (List X)
array g n = record {
  format = array_format g.format n;
  lawful = array_format-lawful g.format g.lawful n;
  faults = ArrayFault g.format g.faults n;
  refuses = array_format-refuses g.format g.faults g.lawful g.refuses n;
}

-- inside an encapsulation, in the order of what it stands in
abbrev pub encapsulation : {X : Type 0} → Sound ValueFault X → Sound ValueFault X
encapsulation g = record {
  format = encapsulation_format Cdr g.format;
  lawful = encapsulation_format-lawful Cdr g.format g.lawful;
  faults = WithinFault Cdr g.faults;
  refuses = encapsulation_format-refuses Cdr g.format g.faults g.refuses;
}

-- ---- ways to build one

infixr 5 ◌&◌
abbrev pub ◌&◌ : {F X Y : Type 0} → Sound F X → Sound F Y → Sound F (X × Y)
j & k = record {
  format = j.format and k.format;
  lawful = j.lawful &&& k.lawful;
  faults = ThenFault j.format.spells j.faults (λ _. k.faults);
  refuses =
      dependent_pair-refuses j.format (λ _. k.format) j.faults (λ _. k.faults) j.lawful j.refuses
      (λ _. k.refuses);
}

-- one after another, the second of which depends on the first
abbrev pub pair_on : {F X Y : Type 0} → Sound F X → (X → Sound F Y) → Sound F (X × Y)
pair_on first second = record {
  format = dependent_pair first.format (λ x. (second x).format);
  lawful = dependent_pair-lawful first.format (λ x. (second x).format) first.lawful
      (λ x. (second x).lawful);
  faults = ThenFault first.format.spells first.faults (λ x. (second x).faults);
  refuses =
      dependent_pair-refuses first.format (λ x. (second x).format) first.faults
      (λ x. (second x).faults) first.lawful first.refuses (λ x. (second x).refuses);
}

-- a structure, from its members and to them
abbrev pub structure : {F X Y : Type 0} (to : X → Y) (from : Y → X) → ((x : X) → from (to x) ≡ x)
    → ((y : Y) → to (from y) ≡ y) → Sound F X → Sound F Y
structure to from back forth g = record {
  format = structure_format to from g.format;
  lawful = structure_format-lawful to from g.format back forth g.lawful;
  faults = g.faults;
  refuses = structure_format-refuses to from g.format g.faults g.refuses;
}

-- an enumeration: each value by its place in the list of all
abbrev pub bad_value : ℕ → At → ValueFault
bad_value n a = BadValue (next_aligned 4 a)

abbrev pub enumeration : {Y : Type 0} (ys : List Y) (number_of : Y → ℕ)
    → ((y : Y) → nth ys (number_of y) ≡ Some y)
    → map number_of ys ≡ upwards 0 (length ys) → Sound ValueFault Y
enumeration ys number_of forth all = record {
  format = enumeration_format ys number_of bad_value ulong.format;
  lawful = enumeration_format-lawful ys number_of bad_value ulong.format forth all ulong.lawful;
  faults = PartialFault ulong.format.spells (nth ys) bad_value ulong.faults;
  refuses = partial_format-refuses (nth ys) number_of bad_value ulong.format ulong.faults
      ulong.lawful ulong.refuses;
}

-- only such values; the fault of another may name where it stands
abbrev pub restriction : {F X : Type 0} → (X → Bool) → (X → At → F) → Sound F X → Sound F X
restriction good bad g = record {
  format = restriction_format good bad g.format;
  lawful = restriction_format-lawful good bad g.format g.lawful;
  faults = RestrictionFault g.format.spells good bad g.faults;
  refuses = restriction_format-refuses good bad g.format g.faults g.lawful g.refuses;
}

-- no value
abbrev pub failure : {F X : Type 0} → (At → F) → Sound F X
failure bad = record {
  format = failure_format bad;
  lawful = failure_format-lawful bad;
  faults = each_fault bad;
  refuses = failure_format-refuses bad;
}

-- any value of g is passed over; x is written
abbrev pub placeholder : {F X : Type 0} (x : X) (g : Sound F X) → g.format.admits x
    → Sound F (Unit {0})
placeholder x g ok = record {
  format = placeholder_format x g.format;
  lawful = placeholder_format-lawful x g.format ok g.lawful;
  faults = g.faults;
  refuses = placeholder_format-refuses x g.format g.faults g.refuses;
}

-- the values of one variant
abbrev pub variant : {F X Y : Type 0} (to : X → Y) (from : Y → Option X)
    → ((x : X) → from (to x) ≡ Some x) → Sound F X → Sound F Y
variant to from back g = record {
  format = variant_format to from g.format;
  lawful = variant_format-lawful to from g.format back g.lawful;
  faults = g.faults;
  refuses = variant_format-refuses to from g.format g.faults g.refuses;
}

-- one value, with no bytes
abbrev pub constant : {F Y : Type 0} → Y → Sound F Y
constant y = record {
  format = constant_format y;
  lawful = constant_format-lawful y;
  faults = no_fault;
  refuses = constant_format-refuses y;
}

-- ---- unions

-- the values of one tag
pub record FormatArm (F K Y : Type 0) (tag_of : Y → K) : Type 1 where
  pub format : Format F Y
  pub lawful : Lawful format
  pub faults : Faults F
  pub refuses : Refuses faults format.reads
  pub tag : K
  pub content : (order : Order) (place : ℕ) (y : Y) (b : List ℕ) → format.spells order place y b
      → tag ≡ tag_of y

-- those of one variant, by its members
abbrev pub arm : {F K X Y : Type 0} {tag_of : Y → K} (k : K) (to : X → Y) (from : Y → Option X)
    → ((x : X) → from (to x) ≡ Some x) → ((x : X) → k ≡ tag_of (to x)) → Sound F X
    → FormatArm F K Y tag_of
arm {tag_of = tag_of} k to from back content g = record {
  format = variant_format to from g.format;
  lawful = variant_format-lawful to from g.format back g.lawful;
  faults = g.faults;
  refuses = variant_format-refuses to from g.format g.faults g.refuses;
  tag = k;
  content = λ order place y b s. content s.0 ∙ ap tag_of s.1;
}

-- one value, with no bytes
abbrev pub bare_arm : {F K Y : Type 0} {tag_of : Y → K} (y : Y) → FormatArm F K Y tag_of
bare_arm {tag_of = tag_of} y = record {
  format = constant_format y;
  lawful = constant_format-lawful y;
  faults = no_fault;
  refuses = constant_format-refuses y;
  tag = tag_of y;
  content = λ order place z b s. ap tag_of s.0;
}

-- each arm has its own tag
abbrev pub IsTable : {F K Y : Type 0} {tag_of : Y → K} → (K → FormatArm F K Y tag_of) → Type 0
IsTable {K = K} arms = (k : K) → (arms k).tag ≡ k

-- a union: its discriminator, and then the arm that this chooses
abbrev pub union : {F K Y : Type 0} → Sound F K → (tag_of : Y → K)
    → (arms : K → FormatArm F K Y tag_of)
    → IsTable arms → Sound F Y
union tag tag_of arms table = record {
  format = union_format tag.format tag_of (λ k. (arms k).format);
  lawful =
      union_format-lawful tag.format tag_of (λ k. (arms k).format) tag.lawful (λ k. (arms k).lawful)
      (λ k order place y b s. sym (table k) ∙ (arms k).content order place y b s);
  faults = ThenFault tag.format.spells tag.faults (λ k. (arms k).faults);
  refuses =
      union_format-refuses tag.format tag_of (λ k. (arms k).format) tag.faults
      (λ k. (arms k).faults) tag.lawful tag.refuses (λ k. (arms k).refuses);
}

-- a value of the format that the value before it selects, where the value tells which that was
abbrev pub selection : {F K Y : Type 0} (tag : Sound F K) (tag_of : Y → K) (arms : K → Sound F Y)
    → ((k : K) (order : Order) (place : ℕ) (y : Y) (b : List ℕ)
    → (arms k).format.spells order place y b → k ≡ tag_of y) → Sound F Y
selection tag tag_of arms content = record {
  format = union_format tag.format tag_of (λ k. (arms k).format);
  lawful = union_format-lawful tag.format tag_of (λ k. (arms k).format) tag.lawful
      (λ k. (arms k).lawful) content;
  faults = ThenFault tag.format.spells tag.faults (λ k. (arms k).faults);
  refuses =
      union_format-refuses tag.format tag_of (λ k. (arms k).format) tag.faults
      (λ k. (arms k).faults) tag.lawful tag.refuses (λ k. (arms k).refuses);
}

-- ---- choices that no byte tells

-- one of two
abbrev pub either : {F Y : Type 0} → Bool → Sound F Y → Sound F Y → Sound F Y
either true g k = g
either false g k = k

-- ---- the same bytes, written in another way

abbrev pub other_writing : {F Y : Type 0} (w : Y → Piece) (g : Sound F Y)
    → ((y : Y) (order : Order) (place : ℕ) → g.format.admits y → g.format.writes y order place
    ≡ w y order place) → Sound F Y
other_writing w g same = record {
  format = otherwise_written w g.format;
  lawful = other_writing-lawful w g.format g.lawful same;
  faults = g.faults;
  refuses = g.refuses;
}

-- values behind their number, which is spelled by a format of its own
abbrev pub sequence_with : {F X : Type 0} → Sound F ℕ → Sound F X → Sound F (List X)
sequence_with count g =
    other_writing (λ xs. count.format.writes (length xs) then row (map g.format.writes xs))
    (selection count length (array g) (times-length g.format))
    (λ xs order place ok. let number = count.format.writes (length xs) order place in
    ap (λ (b : List ℕ). number ++ b) (times-row g.format xs order (place + length number)))
