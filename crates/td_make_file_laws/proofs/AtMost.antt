-- How long what is written is at most, at any place and in either order.
use Rattle.std.proofs.Common.{◌≡◌, ℕ, zero, suc, ◌+◌, ◌≤◌, ◌<◌, ◌^◌, Bool, List, [], ◌∷◌, ◌++◌, codes, length, map, refl, sym}
use Rattle.std.proofs.Common.{ap, subst, ◌∙◌, arith, length-append}
use Rattle.std.proofs.lemmas.Fmt.{length-decimal-le_succ}
use Rattle.std.specs.Fmt.{decimal}
use Rattle.std.specs.Int.{from_bool}
use Rattle.td_cdr.specs.Format.{Piece, number, row, ◌then◌}
use Rattle.td_cdr.specs.Sound.{Sound, sequence, text}
use Rattle.td_cdr.specs.Writing.{written_octets}
use Rattle.td_cdr.specs.declared.order.Order.{Order}
use Rattle.td_cdr.specs.declared.order.Order.TheVariants.{Big}
use Rattle.td_cdr.specs.declared.value_fault.ValueFault.{ValueFault}
use Rattle.td_typecode.specs.Labels.{Layer}
use Rattle.td_typecode.specs.Layers.{code-ulong, value-ulong}
use Rattle.td_typecode.specs.References.{profile, reference}
use Rattle.tc_graph.specs.declared.node.Node.{Node}
use Rattle.td_typecode.specs.Outermost.{outer, outer_layer, type_code}
use Rattle.td_typecode.specs.Values.{any_value, anys, left, values, code_values, graph_values}
use Rattle.td_typecode.specs.WritingCodes.{code_layer, code_piece, code_piece-layer, kind_piece, layer_pieces}
use Rattle.td_typecode.specs.declared.code.Any.{Any}
use Rattle.td_typecode.specs.declared.code.TypeCode.{TypeCode}
use Rattle.td_typecode.specs.declared.code.TypeCode.TheVariants as code
use Rattle.td_typecode.specs.declared.code.Value.{Value}
use Rattle.td_typecode.specs.declared.code.Value.TheVariants as value
use Rattle.td_typecode.specs.declared.kinds.CodeKind.TheVariants as kind
use Rattle.td_typecode.specs.declared.reference.Ior.{Ior}
use Rattle.td_ior.specs.Profiles.{front, made_octets, made_reference}
use Rattle.td_ior.specs.declared.profile.Iiop.{Iiop}
use Rattle.td_iter.proofs.Lengths.{number-length, octets-length}
use Rattle.td_make_laws.specs.Said.{cost_property, item}
use Rattle.td_forms.specs.Counted.{label_number}
use Rattle.td_value.specs.Enumerations.{property_mode_number}
use Rattle.td_value.specs.Structures.{offer, prop_struct, property, type_struct}
use Rattle.td_value.specs.declared.enumerations.PropertyMode.{PropertyMode}
use Rattle.td_value.specs.declared.structures.IncarnationNumber.{IncarnationNumber}
use Rattle.td_value.specs.declared.structures.TypeStruct.{TypeStruct}

pub record IsAtMost (n : ℕ) (p : Piece) : Type 0 where
  pub short : (order : Order) (place : ℕ) → length (p order place) ≤ n

-- ---- numbers, octets and rows

one-short : (v : ℕ) → IsAtMost 1 ((number 1).writes v)
one-short v = record { short = λ order place. omega (arith, number-length 1 order place v) }

two-short : (v : ℕ) → IsAtMost 3 ((number 2).writes v)
two-short v = record { short = λ order place. omega (arith, number-length 2 order place v) }

four-short : (v : ℕ) → IsAtMost 7 ((number 4).writes v)
four-short v = record { short = λ order place. omega (arith, number-length 4 order place v) }

octets-short : (v : List ℕ) → IsAtMost (7 + length v) (λ order place. written_octets order place v)
octets-short v = record { short = λ order place. omega (arith, octets-length order place v) }

text-short : (v : List ℕ) → IsAtMost (8 + length v) (text.format.writes v)
text-short v =
    record {
      short = λ order place. omega (
        arith,
        octets-length order place (v ++ 0 ∷ []),
        length-append v (0 ∷ []),
      );
    }

then-short : (m n : ℕ) (p q : Piece) → IsAtMost m p → IsAtMost n q → IsAtMost (m + n) (p then q)
then-short m n p q a b = record {
  short = λ order place.
      let first = a.short order place in
      let second = b.short order (place + length (p order place)) in
      omega (arith, first, second, length-append (p order place) (q order (place + length (p order place))));
}

none-short : IsAtMost 0 (row [])
none-short = record { short = λ order place. omega arith }

single-short : (n : ℕ) (p : Piece) → IsAtMost n p → IsAtMost n (row (p ∷ []))
single-short n p a = record {
  short = λ order place. omega (arith, a.short order place, length-append (p order place) []);
}

-- one item behind its number
one-item-short : {X : Type 0} (n : ℕ) (g : Sound ValueFault X) (x : X) → IsAtMost n (g.format.writes x)
    → IsAtMost (7 + n) ((sequence g).format.writes (x ∷ []))
one-item-short n g x a =
    then-short 7 n ((number 4).writes 1) (row (g.format.writes x ∷ [])) (four-short 1)
    (single-short n (g.format.writes x) a)

no-item-short : {X : Type 0} (g : Sound ValueFault X) → IsAtMost 7 ((sequence g).format.writes [])
no-item-short g = then-short 7 0 ((number 4).writes 0) (row []) (four-short 0) none-short

-- ---- a TypeCode of an unsigned long, and an any that holds one

code-is : code_piece code.ULong ≡ kind_piece kind.ULong
code-is = code_piece-layer code.ULong ∙ ap (λ (l : Layer). code_layer (layer_pieces l)) code-ulong

code-short : (levels : ℕ) → IsAtMost 7 ((outer levels).format.writes code.ULong)
code-short levels =
    let is : (outer levels).format.writes code.ULong ≡ kind_piece kind.ULong =
    ap (λ (l : Layer). outer_layer levels (code_piece code.ULong) l) code-ulong ∙ code-is in
    subst (λ (p : Piece). IsAtMost 7 p) (sym is) (four-short 5)

value-short : (any : Sound ValueFault Any) (codes : Sound ValueFault TypeCode)
    (graphs : List Node → Sound ValueFault Value) (n amount : ℕ)
    → IsAtMost 7 ((values any codes graphs (suc n) code.ULong).format.writes (value.ULong amount))
unfolding values
value-short any codes graphs n amount = rw (code-ulong, value-ulong amount) (four-short amount)

any-short : (n amount : ℕ)
    → IsAtMost 14 ((anys (suc n)).format.writes (record { code = code.ULong; value = value.ULong amount }))
unfolding left
any-short n amount =
    then-short 7 7 ((outer (suc n)).format.writes code.ULong)
    ((code_values n (suc n) code.ULong).format.writes (value.ULong amount))
    (code-short (suc n)) (value-short (anys n) (outer n) (graph_values n) n amount)

-- ---- names of traders and keys of objects, by numbers up to 64

decimal-short : (n : ℕ) → n ≤ 64 → length (decimal n) ≤ 65
decimal-short n most =
    let low : n < 2 ^ 64 = omega (arith, most) in
    let short : length (decimal n) ≤ n + 1 = length-decimal-le_succ n low in
    omega (arith, most, short)

pub counted-short : (label : List ℕ) (n : ℕ) → n ≤ 64 → length (label_number label n) ≤ length label + 65
counted-short label n most = omega (arith, length-append label (decimal n), decimal-short n most)

body-short : (host key : List ℕ) (port : ℕ)
    → IsAtMost (1 + (1 + ((8 + length host) + (3 + (7 + length key)))))
    (front.format.writes (record { minor = 0; host = host; port = port; key = key }))
body-short host key port =
    then-short 1 (1 + ((8 + length host) + (3 + (7 + length key)))) ((number 1).writes 1)
    ((number 1).writes 0 then text.format.writes host then (number 2).writes port
    then (λ order place. written_octets order place key))
    (one-short 1)
    (then-short 1 ((8 + length host) + (3 + (7 + length key))) ((number 1).writes 0)
    (text.format.writes host then (number 2).writes port then (λ order place. written_octets order place key))
    (one-short 0)
    (then-short (8 + length host) (3 + (7 + length key)) (text.format.writes host)
    ((number 2).writes port then (λ order place. written_octets order place key)) (text-short host)
    (then-short 3 (7 + length key) ((number 2).writes port) (λ order place. written_octets order place key)
    (two-short port) (octets-short key))))

-- a profile of version 1.0 has nothing behind them
pub made-short : (host key : List ℕ) (port : ℕ) → length (made_octets host port key 0) ≤ 21 + length host + length key
made-short host key port =
    let body : List ℕ = front.format.writes (record { minor = 0; host = host; port = port; key = key }) Big 1 in
    omega (arith, (body-short host key port).short Big 1, length-append body [])

-- ---- offers

reference-short : (id : List ℕ) (host key : List ℕ) (port : ℕ)
    → IsAtMost ((8 + length id) + (7 + (7 + (7 + length (made_octets host port key 0)))))
    (reference.format.writes (made_reference id host port key 0))
reference-short id host key port =
    let octets : List ℕ = made_octets host port key 0 in
    then-short (8 + length id) (7 + (7 + (7 + length octets))) (text.format.writes id)
    ((sequence profile).format.writes (record { tag = 0; octets = octets } ∷ [])) (text-short id)
    (one-item-short (7 + (7 + length octets)) profile (record { tag = 0; octets = octets })
    (then-short 7 (7 + length octets) ((number 4).writes 0) (λ order place. written_octets order place octets)
    (four-short 0) (octets-short octets)))

key-short : (trader number : ℕ) → trader ≤ 64 → number ≤ 64
    → length (label_number (label_number [] trader ++ codes ".") number) ≤ 131
key-short trader number t n =
    let front = counted-short [] trader t in
    let dot = length-append (label_number [] trader) (codes ".") in
    let whole = counted-short (label_number [] trader ++ codes ".") number n in
    omega (arith, front, dot, whole)

costing-short : (amount : ℕ) → IsAtMost 26 (property.format.writes (cost_property amount))
costing-short amount =
    then-short 12 14 (text.format.writes (codes "Cost")) (any_value.format.writes (cost_property amount).value)
    (text-short (codes "Cost")) (any-short 15 amount)

pub offer-short : (trader number amount : ℕ) → trader ≤ 64 → number ≤ 64
    → length (offer.format.writes (record { reference = item trader number; properties = cost_property amount ∷ [] }) Big 0)
    ≤ 1048576
offer-short trader number amount t n =
    let key : List ℕ = label_number (label_number [] trader ++ codes ".") number in
    let first : ℕ = (8 + 12) + (7 + (7 + (7 + length (made_octets (codes "h") 9 key 0)))) in
    let octets = made-short (codes "h") key 9 in
    let keyed = key-short trader number t n in
    let whole : IsAtMost (first + 33)
    (offer.format.writes (record { reference = item trader number; properties = cost_property amount ∷ [] })) =
    then-short first 33 (reference.format.writes (item trader number))
    ((sequence property).format.writes (cost_property amount ∷ [])) (reference-short (codes "IDL:Item:1.0") (codes "h") key 9)
    (one-item-short 26 property (cost_property amount) (costing-short amount)) in
    bounded (length (offer.format.writes (record { reference = item trader number; properties = cost_property amount ∷ [] })
    Big 0)) (length (made_octets (codes "h") 9 key 0)) (length key) (whole.short Big 0) octets keyed
  where
    bounded : (whole octets key : ℕ) → whole ≤ ((8 + 12) + (7 + (7 + (7 + octets)))) + 33
        → octets ≤ 21 + length (codes "h") + key → key ≤ 131 → whole ≤ 1048576
    bounded whole octets key a b c = omega (arith, a, b, c)

-- ---- types with a cost

prop-short : (mode : PropertyMode)
    → IsAtMost 26 (prop_struct.format.writes (record { name = codes "Cost"; value_type = code.ULong; mode = mode }))
unfolding type_code
prop-short mode =
    then-short 12 14 (text.format.writes (codes "Cost"))
    (type_code.format.writes code.ULong then (number 4).writes (property_mode_number mode))
    (text-short (codes "Cost"))
    (then-short 7 7 (type_code.format.writes code.ULong) ((number 4).writes (property_mode_number mode))
    (code-short 16) (four-short (property_mode_number mode)))

-- what it costs is demanded of a type that has these supertypes
abbrev pub typed : PropertyMode → List (List ℕ) → Bool → IncarnationNumber → TypeStruct
typed mode supers masked incarnation = record {
  if_name = [];
  props = record { name = codes "Cost"; value_type = code.ULong; mode = mode } ∷ [];
  super_types = supers;
  masked = masked;
  incarnation = incarnation;
}

type-short : (mode : PropertyMode) (supers : List (List ℕ)) (n : ℕ) (masked : Bool) (i : IncarnationNumber)
    → IsAtMost n ((sequence text).format.writes supers)
    → IsAtMost (8 + (33 + (n + (1 + 14)))) (type_struct.format.writes (typed mode supers masked i))
type-short mode supers n masked i h =
    then-short 8 (33 + (n + (1 + 14))) (text.format.writes [])
    ((sequence prop_struct).format.writes (typed mode supers masked i).props then (sequence text).format.writes supers
    then (number 1).writes (from_bool masked) then (number 4).writes i.high then (number 4).writes i.low)
    (text-short [])
    (then-short 33 (n + (1 + 14)) ((sequence prop_struct).format.writes (typed mode supers masked i).props)
    ((sequence text).format.writes supers
    then (number 1).writes (from_bool masked) then (number 4).writes i.high then (number 4).writes i.low)
    (one-item-short 26 prop_struct (record { name = codes "Cost"; value_type = code.ULong; mode = mode })
    (prop-short mode))
    (then-short n (1 + 14) ((sequence text).format.writes supers)
    ((number 1).writes (from_bool masked) then (number 4).writes i.high then (number 4).writes i.low) h
    (then-short 1 14 ((number 1).writes (from_bool masked)) ((number 4).writes i.high then (number 4).writes i.low)
    (one-short (from_bool masked))
    (then-short 7 7 ((number 4).writes i.high) ((number 4).writes i.low) (four-short i.high) (four-short i.low)))))

pub root-short : (mode : PropertyMode) (masked : Bool) (i : IncarnationNumber)
    → length (type_struct.format.writes (typed mode [] masked i) Big 0) ≤ 1048576
root-short mode masked i =
    let h = (type-short mode [] 7 masked i (no-item-short text)).short Big 0 in
    omega (arith, h)

pub sub-short : (mode : PropertyMode) (masked : Bool) (i : IncarnationNumber)
    → length (type_struct.format.writes (typed mode (codes "Base" ∷ []) masked i) Big 0) ≤ 1048576
sub-short mode masked i =
    let base = one-item-short 12 text (codes "Base") (text-short (codes "Base")) in
    let h = (type-short mode (codes "Base" ∷ []) 19 masked i base).short Big 0 in
    omega (arith, h)
