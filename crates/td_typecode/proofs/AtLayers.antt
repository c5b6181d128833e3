-- The formats at a TypeCode that is one of the variants.
use Rattle.std.proofs.Common.{◌≡◌, ℕ, ℤ, zero, suc, ◌+◌, ◌-◌, ◌<◌, ◌≤◌, Bool, true, false, Result, Ok, Err, List, []}
use Rattle.std.proofs.Common.{◌∷◌, ◌++◌, length, drop, min, map, get_or, refl, sym, ap, ◌∙◌, arith}
use Rattle.std.specs.Prelude.{Option, None}
use Rattle.std.proofs.lemmas.List.{drop_more, drop_all, length-map}
use Rattle.td_cdr.specs.declared.order.Order.{Order}
use Rattle.td_cdr.specs.Place.{At}
use Rattle.td_cdr.specs.Format.{Piece, row, none, number, text, ◌then◌, Gives, Unless, Puts}
use Rattle.td_cdr.specs.ValueFaults.{is_memory}
use Rattle.td_cdr.specs.Gap.{flag}
use Rattle.td_cdr.specs.Writing.{Draft}
use Rattle.td_cdr.proofs.Appending.{puts-then}
use Rattle.td_cdr.specs.Sound.{Sound, ◌&◌}
use Rattle.td_cdr.specs.declared.value_fault.ValueFault.{ValueFault}
use Rattle.tc_graph.specs.declared.node.Node.{Node}
use Rattle.td_typecode.specs.declared.code.TypeCode.{TypeCode, out-TypeCode}
use Rattle.td_typecode.specs.declared.code.TypeCode.TheVariants as code
use Rattle.td_typecode.specs.declared.code.TypeCode.TheOpen as layer_of
use Rattle.td_typecode.specs.declared.code.Value.{Value}
use Rattle.td_typecode.specs.declared.code.Any.{Any}
use Rattle.td_typecode.specs.declared.code.Arm.{Arm}
use Rattle.td_typecode.specs.declared.code.Member.{Member}
use Rattle.td_typecode.specs.declared.kinds.CodeKind.{CodeKind}
use Rattle.td_typecode.specs.declared.kinds.CodeKind.TheVariants as kind
use Rattle.td_typecode.specs.declared.mode.Mode.{Mode}
use Rattle.td_typecode.specs.declared.mode.Mode.TheVariants.{Inner, Switch}
use Rattle.td_typecode.specs.Labels.{Layer, labels, spelled_labels, label_layer, no_value}
use Rattle.td_typecode.specs.Layers.{code-object, code-struct, code-union, code-enum, code-str, code-sequence}
use Rattle.td_typecode.specs.Layers.{code-array}
use Rattle.td_typecode.specs.Layers.{code-alias, code-except, code-linked}
use Rattle.td_typecode.specs.Kinds.{kind_at}
use Rattle.td_typecode.specs.Codes.{codes, code_formats, kind_and_parameters, parameters, header, counted_arms, arm_of}
use Rattle.td_typecode.specs.Codes.{union_code}
use Rattle.td_typecode.specs.WritingCodes.{code_piece, arm_piece, member_piece, layer_pieces, code_piece-layer}
use Rattle.td_typecode.specs.WritingCodes.{code_layer}
use Rattle.td_typecode.specs.WritingCodes.{kind_piece, header_piece, head_piece, encapsulation_piece}
use Rattle.td_typecode.specs.Outermost.{outer, outer_piece, outer-written}
use Rattle.td_typecode.specs.ValueLayers.{LayerParts, each}
use Rattle.td_typecode.specs.Values.{values, code_values, anys, left, layer, first_arm, is_chosen, default_arm}
use Rattle.td_typecode.specs.Values.{branch_of}

pub labels-reads : (n : ℕ) (t : TypeCode) (l : Layer) → (n ≡ 0 → ⊥) → out-TypeCode t ≡ l
    → (a : At) → (spelled_labels n t).format.reads a ≡ (label_layer (spelled_labels (n - 1)) l).format.reads a
unfolding spelled_labels
labels-reads zero t l some is a = absurd (some refl)
labels-reads (suc n) t l some is a =
    let less : suc n - 1 ≡ n = omega arith in
    rw less (ap (λ (x : Layer). (label_layer (spelled_labels n) x).format.reads a) is)

-- ---- TypeCodes

pub codes-reads : (levels : ℕ) (mode : Mode) (a : At) → (levels ≡ 0 → ⊥)
    → (codes levels mode).format.reads a ≡ (kind_and_parameters (levels - 1) (codes (levels - 1)) mode).format.reads a
unfolding code_formats
codes-reads zero mode a some = absurd (some refl)
codes-reads (suc levels) mode a some =
    let less : suc levels - 1 ≡ levels = omega arith in
    rw less refl

unless-map : (b : Bool) (P Q : Type 0) → (P → Q) → Unless b P → Unless b Q
unless-map true P Q f u = tt
unless-map false P Q f u = f u

abbrev error : {A : Type 0} → ValueFault → Result A ValueFault
error e = Err e

-- no kind is read
pub kind-fails : (levels : ℕ) (inner : Mode → Sound ValueFault TypeCode) (mode : Mode) (a b : At) (e : ValueFault)
    → Gives is_memory b (error e) ((kind_at mode).format.reads a)
    → Gives is_memory b (error e) ((kind_and_parameters levels inner mode).format.reads a)
kind-fails levels inner mode a b e = unless-map (is_memory e) _ _ (λ h. rw h refl)

-- a kind is read, and its parameters behind it
pub kind-read : (levels : ℕ) (inner : Mode → Sound ValueFault TypeCode) (mode : Mode) (a b : At) (k : CodeKind)
    → (kind_at mode).format.reads a ≡ Ok (k, b)
    → (kind_and_parameters levels inner mode).format.reads a ≡ (parameters levels inner mode k).format.reads b
kind-read levels inner mode a b k h = rw h refl

-- what stands before a union's arms is read, and then no arms are
pub union-fails : (levels : ℕ) (inner : Mode → Sound ValueFault TypeCode) (a b new : At)
    (p : (List ℕ × List ℕ) × TypeCode) (e : ValueFault)
    → (header & inner Switch).format.reads a ≡ Ok (p, b)
    → Gives is_memory new (error e) ((counted_arms (arm_of (labels levels p.1) (inner Inner))).format.reads b)
    → Gives is_memory new (error e) ((union_code levels inner).format.reads a)
union-fails levels inner a b new p e h = unless-map (is_memory e) _ _ (λ g. rw (h, g) refl)

pub union-read : (levels : ℕ) (inner : Mode → Sound ValueFault TypeCode) (a b new : At)
    (p : (List ℕ × List ℕ) × TypeCode) (q : ℤ × List Arm)
    → (header & inner Switch).format.reads a ≡ Ok (p, b)
    → (counted_arms (arm_of (labels levels p.1) (inner Inner))).format.reads b ≡ Ok (q, new)
    → (union_code levels inner).format.reads a ≡ Ok (code.Union p.0.0 p.0.1 p.1 q.0 q.1, new)
union-read levels inner a b new p q h g = rw (h, g) refl

-- what is written for each kind
pub code_piece-at : (t : TypeCode) (l : Layer) → out-TypeCode t ≡ l → code_piece t ≡ code_layer (layer_pieces l)
code_piece-at t l is = code_piece-layer t ∙ ap (λ (x : Layer). code_layer (layer_pieces x)) is

pub object-piece : (id name : List ℕ)
    → code_piece (code.ObjRef id name) ≡ kind_piece kind.ObjRef then encapsulation_piece (header_piece id name)
object-piece id name = code_piece-at (code.ObjRef id name) (layer_of.TypeCode::ObjRef id name) (code-object id name)

pub struct-piece : (id name : List ℕ) (ms : List Member)
    → code_piece (code.Struct id name ms)
    ≡ kind_piece kind.Struct then encapsulation_piece
    (header_piece id name then (number 4).writes (length ms) then row (map member_piece ms))
struct-piece id name ms =
    code_piece-at (code.Struct id name ms) (layer_of.TypeCode::Struct id name ms) (code-struct id name ms)
    ∙ ap (λ (n : ℕ). kind_piece kind.Struct
    then encapsulation_piece (header_piece id name then (number 4).writes n then row (map member_piece ms)))
    (length-map ms member_piece)

pub except-piece : (id name : List ℕ) (ms : List Member)
    → code_piece (code.Except id name ms)
    ≡ kind_piece kind.Except then encapsulation_piece
    (header_piece id name then (number 4).writes (length ms) then row (map member_piece ms))
except-piece id name ms =
    code_piece-at (code.Except id name ms) (layer_of.Except id name ms) (code-except id name ms)
    ∙ ap (λ (n : ℕ). kind_piece kind.Except
    then encapsulation_piece (header_piece id name then (number 4).writes n then row (map member_piece ms)))
    (length-map ms member_piece)

pub graph-piece : (t : TypeCode) (graph : List Node) → t ≡ code.Linked graph → code_piece t ≡ none
graph-piece t graph is = code_piece-at t (layer_of.Linked graph) (ap out-TypeCode is ∙ code-linked graph)

pub union-piece : (id name : List ℕ) (switch : TypeCode) (default : ℤ) (arms : List Arm)
    → code_piece (code.Union id name switch default arms)
    ≡ kind_piece kind.Union then encapsulation_piece
    ((header_piece id name then code_piece switch)
    then (head_piece default (length arms) then row (map arm_piece arms)))
union-piece id name switch default arms =
    code_piece-at (code.Union id name switch default arms) (layer_of.TypeCode::Union id name switch default arms)
    (code-union id name switch default arms)
    ∙ ap (λ (n : ℕ). kind_piece kind.Union
    then encapsulation_piece ((header_piece id name then code_piece switch)
    then (head_piece default n then row (map arm_piece arms))))
    (length-map arms arm_piece)

pub enum-piece : (id name : List ℕ) (names : List (List ℕ))
    → code_piece (code.Enum id name names)
    ≡ kind_piece kind.Enum then encapsulation_piece
    (header_piece id name then (number 4).writes (length names) then row (map text.writes names))
enum-piece id name names =
    code_piece-at (code.Enum id name names) (layer_of.TypeCode::Enum id name names) (code-enum id name names)

pub sequence-piece : (item : TypeCode) (bound : ℕ)
    → code_piece (code.Sequence item bound) ≡ kind_piece kind.Sequence
    then encapsulation_piece (code_piece item then (number 4).writes bound)
sequence-piece item bound =
    code_piece-at (code.Sequence item bound) (layer_of.Sequence item bound) (code-sequence item bound)

pub array-piece : (item : TypeCode) (len : ℕ)
    → code_piece (code.Array item len) ≡ kind_piece kind.Array
    then encapsulation_piece (code_piece item then (number 4).writes len)
array-piece item len = code_piece-at (code.Array item len) (layer_of.Array item len) (code-array item len)

pub alias-piece : (id name : List ℕ) (item : TypeCode)
    → code_piece (code.Alias id name item) ≡ kind_piece kind.Alias
    then encapsulation_piece (header_piece id name then code_piece item)
alias-piece id name item =
    code_piece-at (code.Alias id name item) (layer_of.Alias id name item) (code-alias id name item)

pub str-piece : (bound : ℕ) → code_piece (code.Str bound) ≡ kind_piece kind.Str then (number 4).writes bound
str-piece bound = code_piece-at (code.Str bound) (layer_of.TypeCode::Str bound) (code-str bound)

-- two pieces that were written into an encapsulation
pub encapsulation-two : (p q : Piece) (order : Order) (start mid new : Draft) → start.bytes ≡ flag order ∷ []
    → start.order ≡ order → mid.bytes ≡ start.bytes ++ p start.order (length start.bytes) → mid.order ≡ start.order
    → new.bytes ≡ mid.bytes ++ q mid.order (length mid.bytes) → new.bytes ≡ flag order ∷ (p then q) order 1
encapsulation-two p q order start mid new s o e m f =
    let second : Puts {E = Unit {0}} q mid (record mid { bytes = new.bytes }) (Ok tt) =
    record { done = f; order = refl; kept = tt } in
    let whole = puts-then p q start mid (record mid { bytes = new.bytes }) (Ok tt) e m second in
    rw (s, o) at whole.done

-- ---- values

-- an any's TypeCode is read, and then its value is not
pub any-fails : (levels : ℕ) (a b new : At) (t : TypeCode) (e : ValueFault) → (levels ≡ 0 → ⊥)
    → (outer levels).format.reads a ≡ Ok (t, b)
    → Gives is_memory new (error e) ((code_values (levels - 1) levels t).format.reads b)
    → Gives is_memory new (error e) ((anys levels).format.reads a)
unfolding left
any-fails zero a b new t e some h = absurd (some refl)
any-fails (suc levels) a b new t e some h =
    let less : suc levels - 1 ≡ levels = omega arith in
    rw less (unless-map (is_memory e) _ _ (λ g. rw (h, g) refl))

-- no TypeCode is read for an any
pub any-codeless : (levels : ℕ) (a new : At) (e : ValueFault)
    → Gives is_memory new (error e) ((outer levels).format.reads a)
    → Gives is_memory new (error e) ((anys levels).format.reads a)
unfolding left
any-codeless zero a new e = unless-map (is_memory e) _ _ (λ g. rw g refl)
any-codeless (suc levels) a new e = unless-map (is_memory e) _ _ (λ g. rw g refl)

-- no value is read where no level is left
pub any-none : (levels : ℕ) (a b : At) (t : TypeCode) → levels ≡ 0 → (outer levels).format.reads a ≡ Ok (t, b)
    → (anys levels).format.reads a ≡ Err (no_value b)
unfolding left
any-none zero a b t none h = rw h refl
any-none (suc levels) a b t none h = absurd (let e : ⊥ = omega arith in e)

-- its TypeCode and its value are read
pub any-read : (levels : ℕ) (a b new : At) (t : TypeCode) (v : Value) → (levels ≡ 0 → ⊥)
    → (outer levels).format.reads a ≡ Ok (t, b)
    → (code_values (levels - 1) levels t).format.reads b ≡ Ok (v, new)
    → (anys levels).format.reads a ≡ Ok (record { code = t; value = v }, new)
unfolding left
any-read zero a b new t v some h = absurd (some refl)
any-read (suc levels) a b new t v some h =
    let less : suc levels - 1 ≡ levels = omega arith in
    rw less (λ g. rw (h, g) refl)

pub values-reads : (any : Sound ValueFault Any) (code : Sound ValueFault TypeCode)
    (graphs : List Node → Sound ValueFault Value) (n : ℕ) (t : TypeCode) (l : Layer)
    → (n ≡ 0 → ⊥) → out-TypeCode t ≡ l → (a : At)
    → (values any code graphs n t).format.reads a
    ≡ (layer any code (values any code graphs (n - 1)) graphs (n - 1) l).format.reads a
unfolding values
values-reads any code graphs zero t l some is a = absurd (some refl)
values-reads any code graphs (suc n) t l some is a =
    let less : suc n - 1 ≡ n = omega arith in
    rw less (ap (λ (x : Layer). (layer any code (values any code graphs n) graphs n x).format.reads a) is)

-- a value stands under a graph as that says
pub graph-reads : (any : Sound ValueFault Any) (inner : Sound ValueFault TypeCode)
    (graphs : List Node → Sound ValueFault Value) (n : ℕ) (t : TypeCode) (graph : List Node)
    → (n ≡ 0 → ⊥) → t ≡ code.Linked graph → (a : At)
    → (values any inner graphs n t).format.reads a ≡ (graphs graph).format.reads a
graph-reads any inner graphs n t graph some is a =
    values-reads any inner graphs n t (layer_of.Linked graph) some (ap out-TypeCode is ∙ code-linked graph) a

pub values-writes : (any : Sound ValueFault Any) (code : Sound ValueFault TypeCode)
    (graphs : List Node → Sound ValueFault Value) (n : ℕ) (t : TypeCode) (l : Layer) (v : Value)
    → (n ≡ 0 → ⊥) → out-TypeCode t ≡ l
    → (values any code graphs n t).format.writes v
    ≡ (layer any code (values any code graphs (n - 1)) graphs (n - 1) l).format.writes v
unfolding values
values-writes any code graphs zero t l v some is = absurd (some refl)
values-writes any code graphs (suc n) t l v some is =
    let less : suc n - 1 ≡ n = omega arith in
    rw less (ap (λ (x : Layer). (layer any code (values any code graphs n) graphs n x).format.writes v) is)

pub graph-writes : (any : Sound ValueFault Any) (inner : Sound ValueFault TypeCode)
    (graphs : List Node → Sound ValueFault Value) (n : ℕ) (t : TypeCode) (graph : List Node) (v : Value)
    → (n ≡ 0 → ⊥) → t ≡ code.Linked graph
    → (values any inner graphs n t).format.writes v ≡ (graphs graph).format.writes v
graph-writes any inner graphs n t graph v some is =
    values-writes any inner graphs n t (layer_of.Linked graph) v some (ap out-TypeCode is ∙ code-linked graph)

pub any-writes : (levels : ℕ) (a : Any) → (levels ≡ 0 → ⊥)
    → (anys levels).format.writes a ≡ outer_piece levels a.code
    then (code_values (levels - 1) levels a.code).format.writes a.value
unfolding left
any-writes zero a some = absurd (some refl)
any-writes (suc levels) a some =
    let less : suc levels - 1 ≡ levels = omega arith in
    rw less (ap (λ (w : TypeCode → Piece).
    w a.code then (code_values levels (suc levels) a.code).format.writes a.value)
    (outer-written (suc levels)))

pub any-writes-none : (levels : ℕ) (a : Any) → levels ≡ 0 → (anys levels).format.writes a ≡ outer_piece levels a.code then none
unfolding left
any-writes-none zero a is = ap (λ (w : TypeCode → Piece). w a.code then none) (outer-written zero)
any-writes-none (suc levels) a is = absurd (let e : ⊥ = omega arith in e)

-- ---- the branch of a union

pub first-next : (default : Option ℕ) (i : ℕ) (label : Value) (arms : List Arm) (arm : Arm) → i < length arms
    → arm ≡ get_or arms i arm → is_chosen default label i arm ≡ false
    → first_arm default label (i + 1) (drop (i + 1) arms) ≡ first_arm default label i (drop i arms)
first-next default i label arms arm lt is no_match =
    let one : drop i arms ≡ arm ∷ drop (i + 1) arms =
    drop_more arms i arm lt ∙ ap (λ (x : Arm). x ∷ drop (i + 1) arms) (sym is) in
    rw (one, no_match) refl

pub branch-last : (default : Option ℕ) (i : ℕ) (label : Value) (arms : List Arm) → length arms ≤ i
    → first_arm default label i (drop i arms) ≡ first_arm default label 0 arms
    → default_arm default arms ≡ branch_of default label arms
branch-last default i label arms le so_far =
    let none_left : drop i arms ≡ [] = drop_all i arms le in
    let none_first : first_arm default label 0 arms ≡ None = sym so_far ∙ ap (first_arm default label i) none_left in
    rw none_first refl

-- ---- the members' values

-- what stands for the members' TypeCodes, with their values
abbrev pub pairs : {T M : Type 0} → (M → T) → List M → List Value → List (T × Value)
pairs code_of [] vs = []
pairs code_of (m ∷ ms) [] = []
pairs code_of (m ∷ ms) (v ∷ vs) = (code_of m, v) ∷ pairs code_of ms vs

abbrev pub member_pairs : List Member → List Value → List (TypeCode × Value)
member_pairs = pairs (λ m. m.code)

pub each-row : {T R M : Type 0} (parts : LayerParts T R M) (any : Sound ValueFault Any) (code : Sound ValueFault TypeCode)
    (inner : T → Sound ValueFault Value) (ms : List M) (vs : List Value) (order : Order) (place : ℕ)
    → (each parts any code inner ms).format.writes vs order place
    ≡ row (map (λ p. (inner p.0).format.writes p.1) (pairs parts.member_code ms vs)) order place
each-row parts any code inner [] vs order place = refl
each-row parts any code inner (m ∷ ms) [] order place = refl
each-row parts any code inner (m ∷ ms) (v ∷ vs) order place =
    let first = (inner (parts.member_code m)).format.writes v order place in
    ap (λ (b : List ℕ). first ++ b) (each-row parts any code inner ms vs order (place + length first))

pub pairs-at : {T M : Type 0} (code_of : M → T) (ms : List M) (vs : List Value) (i : ℕ) (m : M) (v : Value)
    → i < length ms → i < length vs → m ≡ get_or ms i m → v ≡ get_or vs i v
    → (code_of m, v) ≡ get_or (pairs code_of ms vs) i (code_of m, v)
pairs-at code_of [] vs i m v lm lv em ev = absurd (let e : ⊥ = omega arith in e)
pairs-at code_of (n ∷ ms) [] i m v lm lv em ev = absurd (let e : ⊥ = omega arith in e)
pairs-at code_of (n ∷ ms) (w ∷ vs) zero m v lm lv em ev = cc
pairs-at code_of (n ∷ ms) (w ∷ vs) (suc i) m v lm lv em ev =
    pairs-at code_of ms vs i m v (omega arith) (omega arith) em ev

pub pairs-length : {T M : Type 0} (code_of : M → T) (ms : List M) (vs : List Value)
    → length (pairs code_of ms vs) ≡ min (length ms) (length vs)
pairs-length code_of [] vs = omega arith
pairs-length code_of (n ∷ ms) [] = omega arith
pairs-length code_of (n ∷ ms) (w ∷ vs) = omega (arith, pairs-length code_of ms vs)
