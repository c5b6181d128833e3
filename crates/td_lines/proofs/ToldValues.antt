-- The values and the TypeCodes that the lines of a file tell have a spelling.
use Rattle.std.proofs.Common.{◌≡◌, ℕ, zero, suc, ◌+◌, ◌-◌, ◌^◌, ◌<◌, ◌≤◌, nat_eq, Bool, true, false, cond, List, []}
use Rattle.std.proofs.Common.{◌∷◌, ◌++◌, length, map, replicate, take, drop, ℤ, pos, negsuc, Option, Some, None, refl}
use Rattle.std.proofs.Common.{arith, codes as letters, inl, inr, ◌⊎◌, sym, ap, subst}
use Rattle.hex.proofs.HexLemmas.{decode_of-ok}
use Rattle.std.proofs.lemmas.List.{length-append}
use Rattle.std.specs.Int.{w16, w32, w64}
use Rattle.std.specs.List.{AllByRecursion, onto_first, slice_split}
use Rattle.std.specs.Option.{option_map}
use Rattle.std.specs.Int.RustNames.{FitsSigned}
use Rattle.std.specs.Str.{bytes_eq}
use Rattle.td_cdr.specs.Format.{Format, Piece, array_format, number, row, ◌then◌}
use Rattle.td_cdr.specs.Gap.{bytes_of, gap}
use Rattle.td_cdr.specs.Joined.{length-bytes_of}
use Rattle.td_cdr.specs.Lawful.{AreOctets}
use Rattle.td_cdr.specs.Octets.{octets-back, octets-front}
use Rattle.td_cdr.specs.Sound.{Sound, sequence, text}
use Rattle.td_cdr.specs.Text.{has_nul}
use Rattle.td_cdr.specs.Truth.{order_of}
use Rattle.td_cdr.specs.Writing.{written_number}
use Rattle.td_cdr.specs.declared.order.Order.{Order}
use Rattle.td_cdr.specs.declared.value_fault.ValueFault.{ValueFault}
use Rattle.td_typecode.specs.Codes.{code_formats, codes, kind_of, member as member_format, parameters}
use Rattle.td_typecode.specs.Kinds.{kind_at}
use Rattle.td_typecode.specs.Labels.{Layer, label_of, label_piece}
use Rattle.td_typecode.specs.Layers.{code-any, code-code, code-null, code-object, code-struct, value-items, value-str}
use Rattle.td_typecode.specs.Layers.{code-boolean, code-char, code-long, code-longlong, code-octet, code-sequence}
use Rattle.td_typecode.specs.Layers.{code-short}
use Rattle.td_typecode.specs.Layers.{code-str, code-ulong, code-ulonglong, code-ushort}
use Rattle.td_typecode.specs.References.{reference}
use Rattle.tc_graph.specs.declared.node.Node.{Node}
use Rattle.td_typecode.specs.Outermost.{outer, type_code}
use Rattle.td_typecode.specs.Values.{any_value, anys, left, graph_values, code_values, layer, values}
use Rattle.td_typecode.specs.WritingCodes.{kind_of_layer}
use Rattle.td_typecode.specs.declared.code.Any.{Any}
use Rattle.td_typecode.specs.declared.code.Member.{Member}
use Rattle.td_typecode.specs.declared.code.TypeCode.{TypeCode, out-TypeCode}
use Rattle.td_typecode.specs.declared.code.TypeCode.TheOpen as c
use Rattle.td_typecode.specs.declared.code.TypeCode.TheVariants as code
use Rattle.td_typecode.specs.declared.code.Value.{Value}
use Rattle.td_typecode.specs.declared.code.Value.TheVariants as value
use Rattle.td_typecode.specs.declared.kinds.CodeKind.{CodeKind}
use Rattle.td_typecode.specs.declared.kinds.CodeKind.TheVariants as kind
use Rattle.td_typecode.specs.declared.label.Label.{Label}
use Rattle.td_typecode.specs.declared.label.Label.TheVariants.{One, Two, Four, Eight}
use Rattle.td_typecode.specs.declared.mode.Mode.{Mode}
use Rattle.td_typecode.specs.declared.mode.Mode.TheVariants.{Outer, Inner, Switch}
use Rattle.td_typecode.specs.declared.reference.Ior.{Ior}
use Rattle.td_forms.specs.Items.{item_code}
use Rattle.td_forms.specs.Numbers.{minus, negative, positive, signed_below}
use Rattle.td_forms.specs.Types.{code_of}
use Rattle.td_forms.specs.Values.{all_values, is_comma, item_value, items_of, texts_of, value_of}
use Rattle.td_forms.specs.Words.{truth_named}
use Rattle.td_forms.specs.declared.item.ItemType.{ItemType}
use Rattle.td_forms.specs.declared.item.ItemType.TheVariants as item
use Rattle.td_forms.specs.declared.value_type.ValueType.{ValueType}
use Rattle.td_forms.specs.declared.value_type.ValueType.TheVariants.{Plain, Sequence}
use Rattle.td_ior.proofs.Keys.{bind-Some, some-is}
use Rattle.td_ior.proofs.Numbers.{below-parts}
use Rattle.td_ior.proofs.Texts.{made-admitted, texts-agree}
use Rattle.td_ior.specs.Keys.{◌>>=◌}
use Rattle.td_ior.specs.Number.{number_below}
use Rattle.td_ior.specs.Texts.{IsReferenceText, reference_in}
use Rattle.td_lines.specs.Properties.{dynamic_any, dynamic_code, evaluator_code, member, null_any, plain_any}
use Rattle.td_lines.specs.Parsing.{IsParsedValue}
use Rattle.td_value.specs.Dynamic.{dynamic_id}

-- ---- lists

array-from : {X : Type 0} (g : Format ValueFault X) (xs : List X) → AllByRecursion g.admits xs
    → (array_format g (length xs)).admits xs
array-from g [] h = refl
array-from g (x ∷ xs) h = ((x, xs), refl, (h.0, array-from g xs h.1))

pub sequence-from : {X : Type 0} (g : Sound ValueFault X) (xs : List X) → length xs < 2 ^ 32
    → AllByRecursion g.format.admits xs → (sequence g).format.admits xs
sequence-from g xs n h = (n, array-from g.format xs h)

then-second : (p q : Piece) (order : Order) (place n : ℕ) → ((at : ℕ) → n ≤ length (q order at))
    → n ≤ length ((p then q) order place)
then-second p q order place n h =
    let e = length-append (p order place) (q order (place + length (p order place))) in
    let k = h (place + length (p order place)) in
    omega (arith, e, k)

-- ---- TypeCodes

-- by its kind, and the parameters that stand behind it
coded : (levels : ℕ) (mode : Mode) (t : TypeCode) (k : CodeKind) → kind_of t ≡ k → (kind_at mode).format.admits k
    → (parameters levels (λ m. codes levels m) mode k).format.admits t → (codes (suc levels) mode).format.admits t
unfolding code_formats
coded levels mode t k e h p = (
  subst (λ (x : CodeKind). (kind_at mode).format.admits x) (sym e) h,
  subst (λ (x : CodeKind). (parameters levels (λ m. codes levels m) mode x).format.admits t) (sym e) p,
)

-- of a single value, where it isn't a union's discriminator
item-coded : (levels : ℕ) (mode : Mode) (i : ItemType) → (mode ≡ Outer) ⊎ (mode ≡ Inner)
    → (codes (suc levels) mode).format.admits (item_code i)
item-coded levels Switch i (inl e) = absurd (let bad : ⊥ = cc in bad)
item-coded levels Switch i (inr e) = absurd (let bad : ⊥ = cc in bad)
item-coded levels Outer item.Short o =
    coded levels Outer code.Short kind.Short (ap kind_of_layer code-short) (refl, omega arith) refl
item-coded levels Outer item.Long o =
    coded levels Outer code.Long kind.Long (ap kind_of_layer code-long) (refl, omega arith) refl
item-coded levels Outer item.UShort o =
    coded levels Outer code.UShort kind.UShort (ap kind_of_layer code-ushort) (refl, omega arith) refl
item-coded levels Outer item.ULong o =
    coded levels Outer code.ULong kind.ULong (ap kind_of_layer code-ulong) (refl, omega arith) refl
item-coded levels Outer item.LongLong o =
    coded levels Outer code.LongLong kind.LongLong (ap kind_of_layer code-longlong) (refl, omega arith) refl
item-coded levels Outer item.ULongLong o =
    coded levels Outer code.ULongLong kind.ULongLong (ap kind_of_layer code-ulonglong) (refl, omega arith) refl
item-coded levels Outer item.Octet o =
    coded levels Outer code.Octet kind.Octet (ap kind_of_layer code-octet) (refl, omega arith) refl
item-coded levels Outer item.Char o =
    coded levels Outer code.Char kind.Char (ap kind_of_layer code-char) (refl, omega arith) refl
item-coded levels Outer item.Boolean o =
    coded levels Outer code.Boolean kind.Boolean (ap kind_of_layer code-boolean) (refl, omega arith) refl
item-coded levels Outer item.Str o =
    coded levels Outer (code.Str 0) kind.Str (ap kind_of_layer (code-str 0)) (refl, omega arith)
    (0, refl, omega arith)
item-coded levels Inner item.Short o =
    coded levels Inner code.Short kind.Short (ap kind_of_layer code-short) (refl, omega arith) refl
item-coded levels Inner item.Long o =
    coded levels Inner code.Long kind.Long (ap kind_of_layer code-long) (refl, omega arith) refl
item-coded levels Inner item.UShort o =
    coded levels Inner code.UShort kind.UShort (ap kind_of_layer code-ushort) (refl, omega arith) refl
item-coded levels Inner item.ULong o =
    coded levels Inner code.ULong kind.ULong (ap kind_of_layer code-ulong) (refl, omega arith) refl
item-coded levels Inner item.LongLong o =
    coded levels Inner code.LongLong kind.LongLong (ap kind_of_layer code-longlong) (refl, omega arith) refl
item-coded levels Inner item.ULongLong o =
    coded levels Inner code.ULongLong kind.ULongLong (ap kind_of_layer code-ulonglong) (refl, omega arith) refl
item-coded levels Inner item.Octet o =
    coded levels Inner code.Octet kind.Octet (ap kind_of_layer code-octet) (refl, omega arith) refl
item-coded levels Inner item.Char o =
    coded levels Inner code.Char kind.Char (ap kind_of_layer code-char) (refl, omega arith) refl
item-coded levels Inner item.Boolean o =
    coded levels Inner code.Boolean kind.Boolean (ap kind_of_layer code-boolean) (refl, omega arith) refl
item-coded levels Inner item.Str o =
    coded levels Inner (code.Str 0) kind.Str (ap kind_of_layer (code-str 0)) (refl, omega arith)
    (0, refl, omega arith)

sequence-coded : (levels : ℕ) (i : ItemType)
    → (codes (suc (suc levels)) Outer).format.admits (code.Sequence (item_code i) 0)
sequence-coded levels i =
    coded (suc levels) Outer (code.Sequence (item_code i) 0) kind.Sequence
    (ap kind_of_layer (code-sequence (item_code i) 0)) (refl, omega arith)
    ((item_code i, 0), refl, (item-coded levels Inner i (inr refl), omega arith))

coded-at : (levels : ℕ) (t : ValueType) → (codes (suc (suc levels)) Outer).format.admits (code_of t)
coded-at levels (Plain i) = item-coded (suc levels) Outer i (inl refl)
coded-at levels (Sequence i) = sequence-coded levels i

pub code-content : (t : ValueType) → type_code.format.admits (code_of t)
unfolding type_code
code-content t = inl (coded-at 14 t)

-- ---- single values

from-map : {A B : Type 0} (f : A → B) (o : Option A) (b : B) → option_map f o ≡ Some b
    → (a : A) × (o ≡ Some a) × (f a ≡ b)
from-map f None b e = absurd (let bad : ⊥ = cc in bad)
from-map f (Some a) b e = (a, refl, (let same : f a ≡ b = cc in same))

minus-when : (n : ℕ) (is_zero : Bool) (limit : ℕ) (z : ℤ) → n < limit + 1 → nat_eq n 0 ≡ is_zero
    → cond is_zero None (Some (negsuc (n - 1))) ≡ Some z → (k : ℕ) × (negsuc k ≡ z) × (k < limit)
minus-when n true limit z low e h = absurd (let bad : ⊥ = cc in bad)
minus-when zero false limit z low e h = absurd (let bad : ⊥ = cc in bad)
minus-when (suc n) false limit z low e h = (suc n - 1, some-is (negsuc (suc n - 1)) z h, omega (arith, low))

minus-low : (limit n : ℕ) (z : ℤ) → n < limit + 1 → minus n ≡ Some z → (k : ℕ) × (negsuc k ≡ z) × (k < limit)
minus-low limit n z low e = minus-when n (nat_eq n 0) limit z low refl e

from-bind : {A B : Type 0} (o : Option A) (f : A → Option B) (b : B) → (o >>= f) ≡ Some b
    → (a : A) × (o ≡ Some a) × (f a ≡ Some b)
from-bind None f b e = absurd (let bad : ⊥ = cc in bad)
from-bind (Some a) f b e = (a, refl, e)

-- between -limit and limit - 1
IsWithin : ℕ → ℤ → Type 0
IsWithin limit (pos n) = n < limit
IsWithin limit (negsuc n) = n < limit

negative-within : (limit : ℕ) (digits : List ℕ) (z : ℤ) → negative limit digits ≡ Some z → IsWithin limit z
unfolding IsWithin
negative-within limit digits z e =
    let n = from-bind (number_below (limit + 1) digits) minus z e in
    let low = (below-parts (limit + 1) digits n.0 n.1).below in
    let k = minus-low limit n.0 z low n.2 in
    subst (IsWithin limit) k.1 k.2

positive-within : (limit : ℕ) (word : List ℕ) (z : ℤ) → positive limit word ≡ Some z → IsWithin limit z
unfolding IsWithin
positive-within limit word z e =
    let n = from-bind (number_below limit word) (λ (m : ℕ). Some (pos m)) z e in
    let low = (below-parts limit word n.0 n.1).below in
    let same : pos n.0 ≡ z = cc in
    subst (IsWithin limit) same low

signed-when : (b : Bool) (limit : ℕ) (word : List ℕ) (z : ℤ)
    → cond b (negative limit (drop 1 word)) (positive limit word) ≡ Some z → IsWithin limit z
signed-when true limit word z e = negative-within limit (drop 1 word) z e
signed-when false limit word z e = positive-within limit word z e

signed-within : (limit : ℕ) (word : List ℕ) (z : ℤ) → signed_below limit word ≡ Some z → IsWithin limit z
signed-within limit word z e = signed-when (bytes_eq (take 1 word) (letters "-")) limit word z e

fits-16 : (z : ℤ) → IsWithin 32768 z → FitsSigned w16 z
unfolding IsWithin
fits-16 (pos n) h = record { sfits = omega (arith, h) }
fits-16 (negsuc n) h = record { sfits = omega (arith, h) }

fits-32 : (z : ℤ) → IsWithin 2147483648 z → FitsSigned w32 z
unfolding IsWithin
fits-32 (pos n) h = record { sfits = omega (arith, h) }
fits-32 (negsuc n) h = record { sfits = omega (arith, h) }

fits-64 : (z : ℤ) → IsWithin 9223372036854775808 z → FitsSigned w64 z
unfolding IsWithin
fits-64 (pos n) h = record { sfits = omega (arith, h) }
fits-64 (negsuc n) h = record { sfits = omega (arith, h) }

module _ (any : Sound ValueFault Any) (inside : Sound ValueFault TypeCode)
    (graphs : List Node → Sound ValueFault Value) (n : ℕ) where
  valued : (t : TypeCode) (l : Layer) (v : Value) → out-TypeCode t ≡ l
      → (layer any inside (values any inside graphs n) graphs n l).format.admits v
      → (values any inside graphs (suc n) t).format.admits v
  unfolding values
  valued t l v e h =
      subst (λ (x : Layer). (layer any inside (values any inside graphs n) graphs n x).format.admits v) (sym e) h

  string-when : (nul : Bool) (text : List ℕ) (v : Value) → has_nul text ≡ nul
      → cond nul None (Some (value.Str text)) ≡ Some v
      → (values any inside graphs (suc n) (code.Str 0)).format.admits v
  string-when true text v is e = absurd (let bad : ⊥ = cc in bad)
  string-when false text v is e =
      valued (code.Str 0) (c.TypeCode::Str 0) v (code-str 0)
      (text, (let same : value.Str text ≡ v = cc in same), (refl, is))

  -- a byte is below 256
  char-content : (text : List ℕ) (v : Value) → AllByRecursion (λ b. b < 256) text → item_value item.Char text ≡ Some v
      → (values any inside graphs (suc n) code.Char).format.admits v
  unfolding item_value
  char-content [] v bytes e = absurd (let bad : ⊥ = cc in bad)
  char-content (b ∷ []) v bytes e =
      valued code.Char c.TypeCode::Char v code-char (b, (let same : value.Char b ≡ v = cc in same), bytes.0)
  char-content (a ∷ b ∷ others) v bytes e = absurd (let bad : ⊥ = cc in bad)

  pub item-content : (i : ItemType) (text : List ℕ) (v : Value) → AllByRecursion (λ b. b < 256) text
      → item_value i text ≡ Some v → (values any inside graphs (suc n) (item_code i)).format.admits v
  unfolding item_value
  item-content item.Short text v bytes e =
      let m = from-map value.Short (signed_below 32768 text) v e in
      valued code.Short c.TypeCode::Short v code-short (m.0, m.2, fits-16 m.0 (signed-within 32768 text m.0 m.1))
  item-content item.Long text v bytes e =
      let m = from-map value.Long (signed_below 2147483648 text) v e in
      valued code.Long c.TypeCode::Long v code-long (m.0, m.2, fits-32 m.0 (signed-within 2147483648 text m.0 m.1))
  item-content item.LongLong text v bytes e =
      let m = from-map value.LongLong (signed_below 9223372036854775808 text) v e in
      valued code.LongLong c.TypeCode::LongLong v code-longlong
      (m.0, m.2, fits-64 m.0 (signed-within 9223372036854775808 text m.0 m.1))
  item-content item.UShort text v bytes e =
      let m = from-map value.UShort (number_below 65536 text) v e in
      let low = (below-parts 65536 text m.0 m.1).below in
      valued code.UShort c.TypeCode::UShort v code-ushort (m.0, m.2, omega (arith, low))
  item-content item.ULong text v bytes e =
      let m = from-map value.ULong (number_below 4294967296 text) v e in
      let low = (below-parts 4294967296 text m.0 m.1).below in
      valued code.ULong c.TypeCode::ULong v code-ulong (m.0, m.2, omega (arith, low))
  item-content item.ULongLong text v bytes e =
      let m = from-map value.ULongLong (number_below 18446744073709551616 text) v e in
      let low = (below-parts 18446744073709551616 text m.0 m.1).below in
      valued code.ULongLong c.TypeCode::ULongLong v code-ulonglong (m.0, m.2, omega (arith, low))
  item-content item.Octet text v bytes e =
      let m = from-map value.Octet (number_below 256 text) v e in
      let low = (below-parts 256 text m.0 m.1).below in
      valued code.Octet c.TypeCode::Octet v code-octet (m.0, m.2, omega (arith, low))
  item-content item.Char text v bytes e = char-content text v bytes e
  item-content item.Boolean text v bytes e =
      let m = from-map value.Boolean (truth_named text) v e in
      valued code.Boolean c.TypeCode::Boolean v code-boolean (m.0, m.2, tt)
  item-content item.Str text v bytes e = string-when (has_nul text) text v refl e

-- ---- sequences of them

abbrev pub AreBytes : List ℕ → Type 0
AreBytes xs = AllByRecursion (λ b. b < 256) xs

split-when : (cut : Bool) (x : ℕ) (parts : List (List ℕ)) → x < 256 → AllByRecursion AreBytes parts
    → AllByRecursion AreBytes (cond cut ([] ∷ parts) (onto_first x parts))
split-when true x parts h k = (tt, k)
split-when false x [] h k = ((h, tt), tt)
split-when false x (part ∷ parts) h k = ((h, k.0), k.1)

pub split-bytes : (p : ℕ → Bool) (xs : List ℕ) → AreBytes xs → AllByRecursion AreBytes (slice_split p xs)
split-bytes p [] h = (tt, tt)
split-bytes p (x ∷ xs) h = split-when (p x) x (slice_split p xs) h.0 (split-bytes p xs h.1)

texts-bytes : (text : List ℕ) → AreBytes text → AllByRecursion AreBytes (texts_of text)
texts-bytes [] h = tt
texts-bytes (b ∷ bytes) h = split-bytes is_comma (b ∷ bytes) h

number-long : (size : ℕ) (order : Order) (place v : ℕ) → 1 ≤ size → 1 ≤ length (written_number size order place v)
number-long size order place v h =
    let e = length-append (replicate (gap size place) 0) (bytes_of order size v) in
    let f = length-bytes_of order size v in
    omega (arith, e, f, h)

label-long : (l : Label) (order : Order) (place : ℕ) → 1 ≤ length (label_piece l order place)
label-long (One n) order place = number-long 1 order place n (omega arith)
label-long (Two n) order place = number-long 2 order place n (omega arith)
label-long (Four n) order place = number-long 4 order place n (omega arith)
label-long (Eight n) order place = number-long 8 order place n (omega arith)

text-long : (x : List ℕ) (order : Order) (place : ℕ) → 1 ≤ length (text.format.writes x order place)
text-long x order place =
    let count = written_number 4 order place (length (x ++ 0 ∷ [])) in
    let e = length-append count (x ++ 0 ∷ []) in
    let f = length-append x (0 ∷ []) in
    omega (arith, e, f)

module _ (any : Sound ValueFault Any) (inside : Sound ValueFault TypeCode)
    (graphs : List Node → Sound ValueFault Value) (n : ℕ) where
  -- each takes a byte or more
  written : (least : ℕ) (t : TypeCode) (l : Layer) (v : Value) (order : Order) (place : ℕ) → out-TypeCode t ≡ l
      → least ≤ length ((layer any inside (values any inside graphs n) graphs n l).format.writes v order place)
      → least ≤ length ((values any inside graphs (suc n) t).format.writes v order place)
  unfolding values
  written least t l v order place e h =
      subst (λ (x : Layer).
      least ≤ length ((layer any inside (values any inside graphs n) graphs n x).format.writes v order place))
      (sym e) h

  string-long : (nul : Bool) (x : List ℕ) (v : Value) (order : Order) (place : ℕ)
      → cond nul None (Some (value.Str x)) ≡ Some v
      → 1 ≤ length ((values any inside graphs (suc n) (code.Str 0)).format.writes v order place)
  string-long true x v order place e = absurd (let bad : ⊥ = cc in bad)
  string-long false x v order place e =
      written 1 (code.Str 0) (c.TypeCode::Str 0) v order place (code-str 0)
      (subst (λ (u : Value).
      1 ≤ length ((layer any inside (values any inside graphs n) graphs n (c.TypeCode::Str 0)).format.writes u order place))
      (some-is (value.Str x) v e) (rw (value-str x) (text-long x order place)))

  item-long : (i : ItemType) (x : List ℕ) (v : Value) (order : Order) (place : ℕ) → item_value i x ≡ Some v
      → 1 ≤ length ((values any inside graphs (suc n) (item_code i)).format.writes v order place)
  unfolding item_value
  item-long item.Short x v order place e =
      written 1 code.Short c.TypeCode::Short v order place code-short (label-long (label_of v) order place)
  item-long item.Long x v order place e =
      written 1 code.Long c.TypeCode::Long v order place code-long (label-long (label_of v) order place)
  item-long item.UShort x v order place e =
      written 1 code.UShort c.TypeCode::UShort v order place code-ushort (label-long (label_of v) order place)
  item-long item.ULong x v order place e =
      written 1 code.ULong c.TypeCode::ULong v order place code-ulong (label-long (label_of v) order place)
  item-long item.LongLong x v order place e =
      written 1 code.LongLong c.TypeCode::LongLong v order place code-longlong (label-long (label_of v) order place)
  item-long item.ULongLong x v order place e =
      written 1 code.ULongLong c.TypeCode::ULongLong v order place code-ulonglong (label-long (label_of v) order place)
  item-long item.Octet x v order place e =
      written 1 code.Octet c.TypeCode::Octet v order place code-octet (label-long (label_of v) order place)
  item-long item.Char x v order place e =
      written 1 code.Char c.TypeCode::Char v order place code-char (label-long (label_of v) order place)
  item-long item.Boolean x v order place e =
      written 1 code.Boolean c.TypeCode::Boolean v order place code-boolean (label-long (label_of v) order place)
  item-long item.Str x v order place e = string-long (has_nul x) x v order place e

  abbrev one : ItemType → Sound ValueFault Value
  one i = values any inside graphs (suc n) (item_code i)

  items-content : (i : ItemType) (texts : List (List ℕ)) (vs : List Value) → AllByRecursion AreBytes texts
      → all_values i texts ≡ Some vs → AllByRecursion (one i).format.admits vs
  items-content i [] vs bytes e = subst (AllByRecursion (one i).format.admits) (some-is [] vs e) tt
  items-content i (x ∷ texts) vs bytes e =
      let first =
      bind-Some (item_value i x) (λ (v : Value). all_values i texts >>= λ (ws : List Value). Some (v ∷ ws)) vs e in
      let rest = bind-Some (all_values i texts) (λ (ws : List Value). Some (first.0 ∷ ws)) vs first.2 in
      subst (AllByRecursion (one i).format.admits) (some-is (first.0 ∷ rest.0) vs rest.2)
      (item-content any inside graphs n i x first.0 bytes.0 first.1, items-content i texts rest.0 bytes.1 rest.1)

  items-long : (i : ItemType) (texts : List (List ℕ)) (vs : List Value) → all_values i texts ≡ Some vs
      → (order : Order) (place : ℕ) → length vs ≤ length (row (map (one i).format.writes vs) order place)
  items-long i [] vs e order place =
      subst (λ (ws : List Value). length ws ≤ length (row (map (one i).format.writes ws) order place))
      (some-is [] vs e) (omega arith)
  items-long i (x ∷ texts) vs e order place =
      let first =
      bind-Some (item_value i x) (λ (v : Value). all_values i texts >>= λ (ws : List Value). Some (v ∷ ws)) vs e in
      let rest = bind-Some (all_values i texts) (λ (ws : List Value). Some (first.0 ∷ ws)) vs first.2 in
      let front : List ℕ = (one i).format.writes first.0 order place in
      let here = item-long i x first.0 order place first.1 in
      let there = items-long i texts rest.0 rest.1 order (place + length front) in
      let joined = length-append front (row (map (one i).format.writes rest.0) order (place + length front)) in
      subst (λ (ws : List Value). length ws ≤ length (row (map (one i).format.writes ws) order place))
      (some-is (first.0 ∷ rest.0) vs rest.2) (omega (arith, here, there, joined))

module _ (any : Sound ValueFault Any) (inside : Sound ValueFault TypeCode)
    (graphs : List Node → Sound ValueFault Value) (n : ℕ) (i : ItemType)
    (texts : List (List ℕ)) (vs : List Value) (e : all_values i texts ≡ Some vs) where
  sequence-content : AllByRecursion AreBytes texts → length vs < 2 ^ 32
      → (values any inside graphs (suc (suc n)) (code.Sequence (item_code i) 0)).format.admits (value.Items vs)
  sequence-content bytes low =
      valued any inside graphs (suc n) (code.Sequence (item_code i) 0) (c.Sequence (item_code i) 0) (value.Items vs)
      (code-sequence (item_code i) 0) (
        vs,
        refl,
        (
          (refl, low),
          (sequence-from (one any inside graphs n i) vs low (items-content any inside graphs n i texts vs bytes e)).1,
        ),
      )

  sequence-long : (order : Order) (place : ℕ)
      → length vs
      ≤ length ((values any inside graphs (suc (suc n)) (code.Sequence (item_code i) 0)).format.writes (value.Items vs) order
      place)
  sequence-long order place =
      written any inside graphs (suc n) (length vs) (code.Sequence (item_code i) 0) (c.Sequence (item_code i) 0)
      (value.Items vs) order place (code-sequence (item_code i) 0)
      (rw (value-items vs)
      (then-second ((number 4).writes (length vs)) (row (map (one any inside graphs n i).format.writes vs)) order place
      (length vs) (items-long any inside graphs n i texts vs e order)))

-- ---- anys

any-content : (t : TypeCode) (v : Value) → type_code.format.admits t
    → (code_values 15 16 t).format.admits v
    → any_value.format.admits (record { code = t; value = v })
unfolding left type_code
any-content t v h k = (h, k)

any-long : (t : TypeCode) (v : Value) (least : ℕ)
    → ((order : Order) (place : ℕ)
    → least ≤ length ((code_values 15 16 t).format.writes v order place))
    → (order : Order) (place : ℕ) → least ≤ length (any_value.format.writes (record { code = t; value = v }) order place)
unfolding left type_code
any-long t v least h order place =
    then-second (type_code.format.writes t) ((code_values 15 16 t).format.writes v) order place least
    (h order)

pub plain-content : (t : ValueType) (text : List ℕ) (v : Value) → AreBytes text → value_of t text ≡ Some v
    → IsParsedValue (plain_any t v)
plain-content (Plain i) text v bytes e = record {
  items = 0;
  long = λ order place. omega arith;
  admitted = λ _.
      any-content (item_code i) v (code-content (Plain i))
      (item-content (anys 15) (outer 15) (graph_values 15) 15 i text v bytes e);
}
plain-content (Sequence i) text v bytes e =
    let m = from-map value.Items (items_of i text) v e in
    let t : TypeCode = code.Sequence (item_code i) 0 in
    subst (λ (x : Value). IsParsedValue (plain_any (Sequence i) x)) m.2
    (record {
      items = length m.0;
      long =
          any-long t (value.Items m.0) (length m.0)
          (sequence-long (anys 15) (outer 15) (graph_values 15) 14 i (texts_of text) m.0 m.1);
      admitted = λ low.
          any-content t (value.Items m.0) (code-content (Sequence i))
          (sequence-content (anys 15) (outer 15) (graph_values 15) 14 i (texts_of text) m.0 m.1 (texts-bytes text bytes) low);
    })

-- ---- dynamic properties

evaluator-coded : (levels : ℕ) → (codes (suc levels) Inner).format.admits evaluator_code
evaluator-coded levels =
    let id : List ℕ = letters "IDL:omg.org/CosTradingDynamic/DynamicPropEval:1.0" in
    let name : List ℕ = letters "DynamicPropEval" in
    coded levels Inner evaluator_code kind.ObjRef (ap kind_of_layer (code-object id name)) (refl, omega arith)
    ((id, name), refl, (refl, refl))

abbrev dynamic_members : List Member
dynamic_members =
    member (letters "eval_if") evaluator_code ∷ member (letters "returned_type") code.Code
    ∷ member (letters "extra_info") code.AnyCode ∷ []

dynamic-coded : type_code.format.admits dynamic_code
unfolding type_code
dynamic-coded =
    let name : List ℕ = letters "DynamicProp" in
    let inner = codes 15 Inner in
    let code_in = coded 14 Inner code.Code kind.Code (ap kind_of_layer code-code) (refl, omega arith) refl in
    let any_in = coded 14 Inner code.AnyCode kind.AnyCode (ap kind_of_layer code-any) (refl, omega arith) refl in
    inl (coded 15 Outer dynamic_code kind.Struct (ap kind_of_layer (code-struct dynamic_id name dynamic_members))
    (refl, omega arith) (
      ((dynamic_id, name), dynamic_members),
      refl,
      (
        (refl, refl),
        (
          refl,
          sequence-from (member_format inner) dynamic_members (omega arith)
              ((refl, evaluator-coded 14), ((refl, code_in), ((refl, any_in), tt))),
        ),
      ),
    ))

null-content : (anys 15).format.admits null_any
unfolding left
null-content = (
  inl (coded 14 Outer code.Null kind.Null (ap kind_of_layer code-null) (refl, omega arith) refl),
  valued (anys 14) (outer 14) (graph_values 14) 14 code.Null c.Null value.Empty code-null refl,
)

pub dynamic-content : (evaluator : Ior) (t : ValueType) → reference.format.admits evaluator
    → IsParsedValue (dynamic_any evaluator (code_of t))
dynamic-content evaluator t h =
    let a = anys 15 in
    let k = outer 15 in
    let g = graph_values 15 in
    let id : List ℕ = letters "IDL:omg.org/CosTradingDynamic/DynamicPropEval:1.0" in
    let name : List ℕ = letters "DynamicPropEval" in
    let one =
    valued a k g 14 evaluator_code (c.TypeCode::ObjRef id name) (value.ObjRef evaluator) (code-object id name)
    (evaluator, refl, h) in
    let two = valued a k g 14 code.Code c.TypeCode::Code (value.Code (code_of t)) code-code (code_of t, refl, inl (coded-at 13 t)) in
    let three = valued a k g 14 code.AnyCode c.AnyCode (value.AnyValue null_any) code-any (null_any, refl, null-content) in
    let vs : List Value = value.ObjRef evaluator ∷ value.Code (code_of t) ∷ value.AnyValue null_any ∷ [] in
    record {
      items = 0;
      long = λ order place. omega arith;
      admitted = λ _.
          any-content dynamic_code (value.Struct vs) dynamic-coded
          (valued a k g 15 dynamic_code (c.TypeCode::Struct dynamic_id (letters "DynamicProp") dynamic_members)
          (value.Struct vs) (code-struct dynamic_id (letters "DynamicProp") dynamic_members) (
            vs,
            refl,
            ((_, _), refl, (one, ((_, _), refl, (two, ((_, _), refl, (three, refl)))))),
          ));
    }

-- ---- references

text-admitted : (word : List ℕ) (r : Ior) → IsReferenceText word r → reference.format.admits r
text-admitted word r (IsReferenceText.hex s) =
    let read : AreOctets s.octets = record { each = (decode_of-ok s.digits s.octets s.decoded).3 } in
    let behind : AreOctets (s.holds.body ++ s.holds.ignored) =
    octets-back (s.holds.order_octet ∷ []) (s.holds.body ++ s.holds.ignored) (subst AreOctets s.holds.parts read) in
    reference.lawful.admitted (order_of s.holds.little) 1 r s.holds.body
    (octets-front s.holds.body s.holds.ignored behind) s.holds.spelled
text-admitted word r (IsReferenceText.plain s) =
    subst reference.format.admits (sym s.made) (made-admitted s.id s.host s.key s.port 0 s.id_plain)

pub reference-content : (word : List ℕ) (r : Ior) → reference_in word ≡ Some r → reference.format.admits r
reference-content word r e = text-admitted word r (texts-agree.found word r e)
