-- The format of TypeCodes (CORBA's chapter on the General Inter-ORB Protocol, "TypeCode"): the kind as an
-- unsigned long, and then the kind's parameters.
use Rattle.std.specs.Prelude.{◌≡◌, ℕ, ℤ, int_lt, pos, negsuc, zero, suc, nat_lt, not, ◌||◌, List, []}
use Rattle.std.specs.Prelude.{◌∷◌, ◌++◌, ◌+◌, length, map, Option, Some, None, refl}
use Rattle.std.proofs.Common.{sym, ap, subst, ◌∙◌}
use Rattle.std.proofs.lemmas.List.{append-nil, length-map}
use Rattle.td_cdr.specs.declared.order.Order.{Order}
use Rattle.td_cdr.specs.Format.{Piece, ◌then◌, row, array_format}
use Rattle.td_cdr.specs.Sound.{Sound, FormatArm as Arm_of, ◌&◌, pair_on, structure, variant, ulong, long, text}
use Rattle.td_cdr.specs.Sound.{sequence}
use Rattle.td_cdr.specs.Sound.{array, encapsulation, restriction, failure, union, selection, other_writing, arm}
use Rattle.td_cdr.specs.Sound.{bare_arm}
use Rattle.td_cdr.specs.LawfulFormats.{times-length, times-row}
use Rattle.td_cdr.specs.declared.value_fault.ValueFault.{ValueFault}
use Rattle.tc_graph.specs.declared.node.Node.{Node}
use Rattle.td_typecode.specs.declared.code.TypeCode.{TypeCode, out-TypeCode}
use Rattle.td_typecode.specs.declared.code.TypeCode.TheVariants as code
use Rattle.td_typecode.specs.declared.code.TypeCode.TheOpen as c
use Rattle.td_typecode.specs.declared.code.Value.{Value}
use Rattle.td_typecode.specs.declared.code.Arm.{Arm}
use Rattle.td_typecode.specs.declared.code.Member.{Member}
use Rattle.td_typecode.specs.declared.kinds.CodeKind.{CodeKind}
use Rattle.td_typecode.specs.declared.kinds.CodeKind.TheVariants as kind
use Rattle.td_typecode.specs.declared.mode.Mode.{Mode}
use Rattle.td_typecode.specs.declared.mode.Mode.TheVariants.{Inner, Switch}
use Rattle.td_typecode.specs.Formats.{nonempty_sequence}
use Rattle.td_typecode.specs.Kinds.{kind_at, deep_kind, under}
use Rattle.td_typecode.specs.Labels.{Layer, no_value, bad_value, labels, plain_piece}
use Rattle.td_typecode.specs.Layers.{code-null, code-void, code-short, code-long, code-ushort, code-ulong, code-boolean}
use Rattle.td_typecode.specs.Layers.{code-char, code-octet, code-any, code-code, code-object, code-struct, code-union}
use Rattle.td_typecode.specs.Layers.{code-enum, code-str, code-sequence, code-array, code-alias, code-except}
use Rattle.td_typecode.specs.Layers.{code-longlong, code-ulonglong}
use Rattle.td_typecode.specs.WritingCodes.{kind_of_layer, kind_piece, header_piece, head_piece, encapsulation_piece}
use Rattle.td_typecode.specs.WritingCodes.{code_piece, member_piece, arm_piece, layer_pieces, code_layer}
use Rattle.td_typecode.specs.WritingCodes.{code_piece-layer}
use Rattle.td_typecode.specs.WritingCodes.{member_piece-is, arm_piece-is}

abbrev pub kind_of : TypeCode → CodeKind
kind_of t = kind_of_layer (out-TypeCode t)

-- ---- what stands behind a kind

-- the repository id and the name
abbrev pub header : Sound ValueFault (List ℕ × List ℕ)
header = text & text

-- a number that is not 0
abbrev pub positive : Sound ValueFault ℕ
positive = restriction (λ n. nat_lt 0 n) bad_value ulong

abbrev pub member : Sound ValueFault TypeCode → Sound ValueFault Member
member inner =
    structure (λ p. record { name = p.0; code = p.1 }) (λ m. (m.name, m.code)) (λ _. refl)
    (λ _. refl) (text & inner)

abbrev pub arm_of : Sound ValueFault Value → Sound ValueFault TypeCode → Sound ValueFault Arm
arm_of label inner =
    structure (λ p. record { label = p.0; name = p.1.name; code = p.1.code })
    (λ a. (a.label, record { name = a.name; code = a.code })) (λ _. refl) (λ _. refl)
    (label & member inner)

-- the index of a union's default arm: -1 for none
abbrev pub default_index : Sound ValueFault ℤ
default_index = restriction (λ d. not (int_lt d (negsuc 0))) bad_value long

-- the count behind it: there is an arm, be it the default
abbrev pub arm_count : ℤ → Sound ValueFault ℕ
arm_count default = restriction (λ n. not (int_lt default (pos 0)) || nat_lt 0 n) bad_value ulong

-- the default index and the count of arms: the index is below the count
abbrev pub head : Sound ValueFault (ℤ × ℕ)
head = restriction (λ h. int_lt h.0 (pos h.1)) bad_value (pair_on default_index arm_count)

map-same : {X Y : Type 0} (f g : X → Y) → ((x : X) → f x ≡ g x) → (xs : List X)
    → map f xs ≡ map g xs
map-same f g is [] = refl
map-same {Y = Y} f g is (x ∷ xs) =
    ap (λ (y : Y). y ∷ map f xs) (is x) ∙ ap (λ (ys : List Y). g x ∷ ys) (map-same f g is xs)

abbrev pub head_of : ℤ × List Arm → ℤ × ℕ
head_of p = (p.0, length p.1)

-- as many arms as the head says
abbrev pub arms_after : Sound ValueFault Arm → (h : ℤ × ℕ) → Sound ValueFault (ℤ × List Arm)
arms_after g h = variant (λ arms. (h.0, arms)) (λ p. Some p.1) (λ _. refl) (array g h.1)

pub arms_after-head : (g : Sound ValueFault Arm) (h : ℤ × ℕ) (order : Order) (place : ℕ)
    (p : ℤ × List Arm) (b : List ℕ)
    → (arms_after g h).format.spells order place p b → h ≡ head_of p
arms_after-head g h order place p b s =
    ap (λ (n : ℕ). (h.0, n)) (times-length g.format h.1 order place s.0 b s.2) ∙ ap head_of s.1

abbrev pub counted_arms : Sound ValueFault Arm → Sound ValueFault (ℤ × List Arm)
counted_arms g = selection head head_of (arms_after g) (arms_after-head g)

-- a union's id, name and discriminator, its default index and its arms
abbrev pub union_parameters : ℕ → (Mode → Sound ValueFault TypeCode)
    → Sound ValueFault (((List ℕ × List ℕ) × TypeCode) × (ℤ × List Arm))
union_parameters levels inner =
    pair_on (header & inner Switch) (λ p. counted_arms (arm_of (labels levels p.1) (inner Inner)))

-- ---- the parameters that a layer holds

abbrev pub bound_in : Layer → Option ℕ
bound_in (c.TypeCode::Str bound) = Some bound
bound_in l = None

abbrev pub object_in : Layer → Option (List ℕ × List ℕ)
object_in (c.TypeCode::ObjRef id name) = Some (id, name)
object_in l = None

abbrev pub fields_in : Layer → Option ((List ℕ × List ℕ) × List Member)
fields_in (c.TypeCode::Struct id name members) = Some ((id, name), members)
fields_in (c.Except id name members) = Some ((id, name), members)
fields_in l = None

abbrev pub union_in : Layer → Option (((List ℕ × List ℕ) × TypeCode) × (ℤ × List Arm))
union_in (c.TypeCode::Union id name switch default arms) = Some
    (((id, name), switch), (default, arms))
union_in l = None

abbrev pub names_in : Layer → Option ((List ℕ × List ℕ) × List (List ℕ))
names_in (c.TypeCode::Enum id name names) = Some ((id, name), names)
names_in l = None

abbrev pub item_in : Layer → Option (TypeCode × ℕ)
item_in (c.Sequence item bound) = Some (item, bound)
item_in (c.Array item len) = Some (item, len)
item_in l = None

abbrev pub alias_in : Layer → Option ((List ℕ × List ℕ) × TypeCode)
alias_in (c.Alias id name item) = Some ((id, name), item)
alias_in l = None

-- ---- the kinds whose parameters stand in an encapsulation

abbrev pub object_code : Sound ValueFault TypeCode
object_code =
    variant (λ p. code.ObjRef p.0 p.1) (λ t. object_in (out-TypeCode t))
    (λ p. ap object_in (code-object p.0 p.1)) (text & text)

abbrev pub struct_code : Sound ValueFault TypeCode → Sound ValueFault TypeCode
struct_code inner =
    variant (λ p. code.Struct p.0.0 p.0.1 p.1) (λ t. fields_in (out-TypeCode t))
    (λ p. ap fields_in (code-struct p.0.0 p.0.1 p.1)) (header & nonempty_sequence (member inner))

abbrev pub except_code : Sound ValueFault TypeCode → Sound ValueFault TypeCode
except_code inner =
    variant (λ p. code.Except p.0.0 p.0.1 p.1) (λ t. fields_in (out-TypeCode t))
    (λ p. ap fields_in (code-except p.0.0 p.0.1 p.1)) (header & sequence (member inner))

abbrev pub enum_code : Sound ValueFault TypeCode
enum_code =
    variant (λ p. code.Enum p.0.0 p.0.1 p.1) (λ t. names_in (out-TypeCode t))
    (λ p. ap names_in (code-enum p.0.0 p.0.1 p.1)) (header & nonempty_sequence text)

abbrev pub sequence_code : Sound ValueFault TypeCode → Sound ValueFault TypeCode
sequence_code inner =
    variant (λ p. code.Sequence p.0 p.1) (λ t. item_in (out-TypeCode t))
    (λ p. ap item_in (code-sequence p.0 p.1)) (inner & ulong)

abbrev pub array_code : Sound ValueFault TypeCode → Sound ValueFault TypeCode
array_code inner =
    variant (λ p. code.Array p.0 p.1) (λ t. item_in (out-TypeCode t))
    (λ p. ap item_in (code-array p.0 p.1)) (inner & positive)

abbrev pub alias_code : Sound ValueFault TypeCode → Sound ValueFault TypeCode
alias_code inner =
    variant (λ p. code.Alias p.0.0 p.0.1 p.1) (λ t. alias_in (out-TypeCode t))
    (λ p. ap alias_in (code-alias p.0.0 p.0.1 p.1)) (header & inner)

abbrev pub union_code : ℕ → (Mode → Sound ValueFault TypeCode) → Sound ValueFault TypeCode
union_code levels inner =
    variant (λ p. code.Union p.0.0.0 p.0.0.1 p.0.1 p.1.0 p.1.1) (λ t. union_in (out-TypeCode t))
    (λ p. ap union_in (code-union p.0.0.0 p.0.0.1 p.0.1 p.1.0 p.1.1))
    (union_parameters levels inner)

-- where what is inside tells the kind, so does the encapsulation
abbrev pub encapsulation_arm : (k : CodeKind) (g : Sound ValueFault TypeCode)
    → ((order : Order) (place : ℕ) (t : TypeCode) (b : List ℕ) → g.format.spells order place t b
    → k ≡ kind_of t) → Arm_of ValueFault CodeKind TypeCode kind_of
encapsulation_arm k g content = record {
  format = (encapsulation g).format;
  lawful = (encapsulation g).lawful;
  faults = (encapsulation g).faults;
  refuses = (encapsulation g).refuses;
  tag = k;
  content = λ order place t b s. content _ _ t _ s.spelled;
}

-- the parameters of each kind, where a TypeCode inside may hold so many levels
module _ (levels : ℕ) (inner : Mode → Sound ValueFault TypeCode) (mode : Mode) where
  abbrev pub parameters : CodeKind → Arm_of ValueFault CodeKind TypeCode kind_of
  parameters kind.Null = bare_arm code.Null
  parameters kind.Void = bare_arm code.Void
  parameters kind.Short = bare_arm code.Short
  parameters kind.Long = bare_arm code.Long
  parameters kind.UShort = bare_arm code.UShort
  parameters kind.ULong = bare_arm code.ULong
  parameters kind.Boolean = bare_arm code.Boolean
  parameters kind.Char = bare_arm code.Char
  parameters kind.Octet = bare_arm code.Octet
  parameters kind.AnyCode = bare_arm code.AnyCode
  parameters kind.Code = bare_arm code.Code
  parameters kind.ObjRef =
      encapsulation_arm kind.ObjRef object_code
      (λ order place t b s. sym (ap kind_of_layer (code-object s.0.0 s.0.1)) ∙ ap kind_of s.1)
  parameters kind.Struct =
      encapsulation_arm kind.Struct (struct_code (inner Inner))
      (λ order place t b s. sym (ap kind_of_layer (code-struct s.0.0.0 s.0.0.1 s.0.1))
      ∙ ap kind_of s.1)
  parameters kind.Union =
      encapsulation_arm kind.Union (union_code levels inner)
      (λ order place t b s. sym
      (ap kind_of_layer (code-union s.0.0.0.0 s.0.0.0.1 s.0.0.1 s.0.1.0 s.0.1.1))
      ∙ ap kind_of s.1)
  parameters kind.Enum =
      encapsulation_arm kind.Enum enum_code
      (λ order place t b s. sym (ap kind_of_layer (code-enum s.0.0.0 s.0.0.1 s.0.1))
      ∙ ap kind_of s.1)
  parameters kind.Str =
      arm kind.Str (λ n. code.Str n) (λ t. bound_in (out-TypeCode t))
      (λ n. ap bound_in (code-str n)) (λ n. sym (ap kind_of_layer (code-str n))) ulong
  parameters kind.Sequence =
      encapsulation_arm kind.Sequence (sequence_code (inner Inner))
      (λ order place t b s. sym (ap kind_of_layer (code-sequence s.0.0 s.0.1)) ∙ ap kind_of s.1)
  parameters kind.Array =
      encapsulation_arm kind.Array (array_code (inner Inner))
      (λ order place t b s. sym (ap kind_of_layer (code-array s.0.0 s.0.1)) ∙ ap kind_of s.1)
  parameters kind.Alias =
      encapsulation_arm kind.Alias (alias_code (inner (under mode)))
      (λ order place t b s. sym (ap kind_of_layer (code-alias s.0.0.0 s.0.0.1 s.0.1))
      ∙ ap kind_of s.1)
  parameters kind.Except =
      encapsulation_arm kind.Except (except_code (inner Inner))
      (λ order place t b s. sym (ap kind_of_layer (code-except s.0.0.0 s.0.0.1 s.0.1))
      ∙ ap kind_of s.1)
  parameters kind.LongLong = bare_arm code.LongLong
  parameters kind.ULongLong = bare_arm code.ULongLong

  pub is-table : (k : CodeKind) → (parameters k).tag ≡ k
  is-table kind.Null = ap kind_of_layer code-null
  is-table kind.Void = ap kind_of_layer code-void
  is-table kind.Short = ap kind_of_layer code-short
  is-table kind.Long = ap kind_of_layer code-long
  is-table kind.UShort = ap kind_of_layer code-ushort
  is-table kind.ULong = ap kind_of_layer code-ulong
  is-table kind.Boolean = ap kind_of_layer code-boolean
  is-table kind.Char = ap kind_of_layer code-char
  is-table kind.Octet = ap kind_of_layer code-octet
  is-table kind.AnyCode = ap kind_of_layer code-any
  is-table kind.Code = ap kind_of_layer code-code
  is-table kind.ObjRef = refl
  is-table kind.Struct = refl
  is-table kind.Union = refl
  is-table kind.Enum = refl
  is-table kind.Str = refl
  is-table kind.Sequence = refl
  is-table kind.Array = refl
  is-table kind.Alias = refl
  is-table kind.Except = refl
  is-table kind.LongLong = ap kind_of_layer code-longlong
  is-table kind.ULongLong = ap kind_of_layer code-ulonglong

  -- the kind and its parameters, before it is known how they are written
  abbrev pub kind_and_parameters : Sound ValueFault TypeCode
  kind_and_parameters = union (kind_at mode) kind_of parameters is-table

  -- ---- what is written

  module _ (w : (m : Mode) → (inner m).format.writes ≡ code_piece) where
    members-same : (ms : List Member) → map (member (inner Inner)).format.writes ms
        ≡ map member_piece ms
    members-same ms =
        map-same _ _ (λ m. ap (λ (v : TypeCode → Piece). text.format.writes m.name then v m.code)
        (w Inner)
        ∙ sym (member_piece-is m))
        ms

    arms-same : (switch : TypeCode) (arms : List Arm)
        → map (arm_of (labels levels switch) (inner Inner)).format.writes arms ≡ map arm_piece arms
    arms-same switch arms =
        map-same _ _ (λ a. ap (λ (v : TypeCode → Piece).
        plain_piece a.label then text.format.writes a.name then v a.code)
        (w Inner)
        ∙ sym (arm_piece-is a))
        arms

    union-same : (id name : List ℕ) (switch : TypeCode) (default : ℤ) (arms : List Arm)
        (order : Order) (place : ℕ)
        → (encapsulation (union_parameters levels inner)).format.writes
        (((id, name), switch), (default, arms)) order place
        ≡ encapsulation_piece ((header_piece id name then code_piece switch)
        then (head_piece default (length arms) then row (map arm_piece arms)))
        order place
    union-same id name switch default arms order place =
        let g = (arm_of (labels levels switch) (inner Inner)).format in
        let rows : (p : ℕ) → (array_format g (length arms)).writes arms order p
        ≡ row (map arm_piece arms) order p =
        λ p. times-row g arms order p ∙ ap (λ (ps : List Piece). row ps order p)
        (arms-same switch arms) in
        rw (w Switch, rows) refl

    -- no format of these spells a graph
    pub no-graph : (t : TypeCode) (graph : List Node) → out-TypeCode t ≡ c.Linked graph
        → kind_and_parameters.format.admits t → ⊥
    no-graph t graph e ok =
        let null : code.Null ≡ t =
        subst (λ (l : Layer). (parameters (kind_of_layer l)).format.admits t) e ok.1 in
        let same : ◌≡◌ {A = Layer} c.Null (c.Linked graph) = sym code-null ∙ ap out-TypeCode null
        ∙ e in
        absurd cc

    same-at : (t : TypeCode) (l : Layer) → out-TypeCode t ≡ l → kind_and_parameters.format.admits t
        → (order : Order) (place : ℕ)
        → kind_and_parameters.format.writes t order place
        ≡ code_layer (layer_pieces (out-TypeCode t)) order place
    same-at t c.Null e ok order place = rw e (append-nil (kind_piece kind.Null order place))
    same-at t c.Void e ok order place = rw e (append-nil (kind_piece kind.Void order place))
    same-at t c.TypeCode::Short e ok order place = rw e
        (append-nil (kind_piece kind.Short order place))
    same-at t c.TypeCode::Long e ok order place = rw e
        (append-nil (kind_piece kind.Long order place))
    same-at t c.TypeCode::UShort e ok order place = rw e
        (append-nil (kind_piece kind.UShort order place))
    same-at t c.TypeCode::ULong e ok order place = rw e
        (append-nil (kind_piece kind.ULong order place))
    same-at t c.TypeCode::Boolean e ok order place = rw e
        (append-nil (kind_piece kind.Boolean order place))
    same-at t c.TypeCode::Char e ok order place = rw e
        (append-nil (kind_piece kind.Char order place))
    same-at t c.TypeCode::Octet e ok order place = rw e
        (append-nil (kind_piece kind.Octet order place))
    same-at t c.AnyCode e ok order place = rw e (append-nil (kind_piece kind.AnyCode order place))
    same-at t c.TypeCode::Code e ok order place = rw e
        (append-nil (kind_piece kind.Code order place))
    same-at t (c.TypeCode::ObjRef id name) e ok order place = rw (e, e) refl
    same-at t (c.TypeCode::Struct id name members) e ok order place =
        rw (e, e, members-same members, length-map members member_piece) refl
    same-at t (c.TypeCode::Union id name switch default arms) e ok order place =
        rw (e, e, length-map arms arm_piece)
        (ap (λ (b : List ℕ). kind_piece kind.Union order place ++ b)
        (union-same id name switch default arms order
        (place + length (kind_piece kind.Union order place))))
    same-at t (c.TypeCode::Enum id name names) e ok order place = rw (e, e) refl
    same-at t (c.TypeCode::Str bound) e ok order place = rw (e, e) refl
    same-at t (c.Sequence item bound) e ok order place = rw (e, e, w Inner) refl
    same-at t (c.Array item len) e ok order place = rw (e, e, w Inner) refl
    same-at t (c.Alias id name item) e ok order place = rw (e, e, w (under mode)) refl
    same-at t (c.Except id name members) e ok order place =
        rw (e, e, members-same members, length-map members member_piece) refl
    same-at t c.TypeCode::LongLong e ok order place = rw e
        (append-nil (kind_piece kind.LongLong order place))
    same-at t c.TypeCode::ULongLong e ok order place = rw e
        (append-nil (kind_piece kind.ULongLong order place))
    same-at t (c.Linked graph) e ok order place = absurd (no-graph t graph e ok)

    pub same : (t : TypeCode) (order : Order) (place : ℕ) → kind_and_parameters.format.admits t
        → kind_and_parameters.format.writes t order place ≡ code_piece t order place
    same t order place ok =
        same-at t (out-TypeCode t) refl ok order place
        ∙ sym (ap (λ (p : Piece). p order place) (code_piece-layer t))

-- a format of TypeCodes that are written so
pub record CodeFormat : Type 1 where
  pub sound : Sound ValueFault TypeCode
  pub writes : sound.format.writes ≡ code_piece

abbrev pub no_arm : CodeKind → Arm_of ValueFault CodeKind TypeCode kind_of
no_arm k = record {
  format = (failure {X = TypeCode} no_value).format;
  lawful = (failure {X = TypeCode} no_value).lawful;
  faults = (failure {X = TypeCode} no_value).faults;
  refuses = (failure {X = TypeCode} no_value).refuses;
  tag = k;
  content = λ order place y b s. absurd s;
}

-- a TypeCode that may hold so many levels, itself one of them
unfoldable pub code_formats : ℕ → Mode → CodeFormat
code_formats zero mode = record {
  sound =
      other_writing code_piece (union (deep_kind mode) kind_of no_arm (λ _. refl))
      (λ t order place ok. absurd ok.1);
  writes = refl;
}
code_formats (suc levels) mode = record {
  sound =
      other_writing code_piece
      (kind_and_parameters levels (λ m. (code_formats levels m).sound) mode)
      (same levels (λ m. (code_formats levels m).sound) mode (λ m. (code_formats levels m).writes));
  writes = refl;
}

abbrev pub codes : ℕ → Mode → Sound ValueFault TypeCode
codes levels mode = (code_formats levels mode).sound

-- no format of these admits a graph
pub no-linked : (levels : ℕ) (mode : Mode) (t : TypeCode) (graph : List Node)
    → out-TypeCode t ≡ c.Linked graph → (codes levels mode).format.admits t → ⊥
unfolding code_formats
no-linked zero mode t graph e ok = absurd ok.1
no-linked (suc levels) mode t graph e ok =
    no-graph levels (λ m. (code_formats levels m).sound) mode (λ m. (code_formats levels m).writes)
    t graph e ok
