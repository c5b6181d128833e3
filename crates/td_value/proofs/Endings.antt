-- Where what is written of an any big-endian from a place on ends.
use Rattle.std.proofs.Common.{◌≡◌, ℕ, ◌+◌, length, replicate, true, Option, Some, None, refl, sym, ap, ◌∙◌}
use Rattle.std.proofs.Common.{length-append, arith, true≢false}
use Rattle.std.specs.Option.{IfSome}
use Rattle.std.proofs.lemmas.List.{length-replicate}
use Rattle.td_cdr.specs.declared.order.Order.TheVariants.{Big}
use Rattle.td_cdr.specs.Gap.{gap, bytes_of}
use Rattle.td_cdr.specs.Format.{Piece, ◌then◌, none_or, number, text}
use Rattle.td_cdr.specs.Joined.{length-bytes_of}
use Rattle.td_cdr.specs.Writing.{written_number}
use Rattle.td_typecode.specs.declared.code.TypeCode.{out-TypeCode}
use Rattle.td_typecode.specs.declared.code.TypeCode.TheVariants as code
use Rattle.td_typecode.specs.declared.code.TypeCode.TheOpen as layer_of
use Rattle.td_typecode.specs.declared.code.Value.{out-Value}
use Rattle.td_typecode.specs.declared.code.Any.{Any}
use Rattle.td_typecode.specs.declared.kinds.CodeKind.TheVariants as kind
use Rattle.td_typecode.specs.Codes.{kind_of}
use Rattle.td_typecode.specs.Kinds.{number_of}
use Rattle.td_typecode.specs.Labels.{Layer, plain_piece}
use Rattle.td_typecode.specs.Layers.{code-str}
use Rattle.td_typecode.specs.Outermost.{outer, outer_layer, layer-plain}
use Rattle.td_typecode.specs.Values.{anys, any_value, code_values, graph_values, text_in}
use Rattle.td_typecode.specs.WritingCodes.{code_piece, kind_piece}
use Rattle.td_typecode.proofs.AtLayers.{any-writes, code_piece-at, values-writes}
use Rattle.td_typecode.proofs.OfPlainKind.{is_plain, is_number, plain-piece, number-piece}

number_ends : (size place v end : ℕ) → end ≡ place + (gap size place + size)
    → end ≡ place + length (written_number size Big place v)
number_ends size place v end e =
    let zeros : length {A = ℕ} (replicate (gap size place) 0) ≡ gap size place = length-replicate (gap size place) 0 in
    omega (
      arith,
      e,
      length-append (replicate (gap size place) 0) (bytes_of Big size v),
      zeros,
      length-bytes_of Big size v,
    )

then_ends : (p q : Piece) (place mid end : ℕ) → mid ≡ place + length (p Big place)
    → end ≡ mid + length (q Big mid) → end ≡ place + length ((p then q) Big place)
then_ends p q place mid end e f =
    let there : length (q Big mid) ≡ length (q Big (place + length (p Big place))) =
    ap (λ (k : ℕ). length (q Big k)) e in
    omega (
      arith,
      e,
      f,
      there,
      length-append (p Big place) (q Big (place + length (p Big place))),
    )

-- of the same pieces, one ends where the other does
same_ends : (p q : Piece) (place end : ℕ) → p ≡ q → end ≡ place + length (q Big place)
    → end ≡ place + length (p Big place)
same_ends p q place end is e = e ∙ ap (λ (w : Piece). place + length (w Big place)) (sym is)

-- ---- anys of a kind that has no parameters, whose value is a number

plain_any : (a : Any) → is_plain (out-TypeCode a.code) ≡ true → is_number (out-TypeCode a.code) ≡ true
    → any_value.format.writes a ≡ kind_piece (kind_of a.code) then plain_piece a.value
plain_any a p n =
    let l = out-TypeCode a.code in
    let some : ◌≡◌ {A = ℕ} 16 0 → ⊥ = λ e. omega (arith, e) in
    let value : (code_values 15 16 a.code).format.writes a.value ≡ plain_piece a.value =
    values-writes (anys 15) (outer 15) (graph_values 15) 16 a.code l a.value some refl
    ∙ number-piece (anys 15) (outer 15) (code_values 15 15) (graph_values 15) 15 l a.value n in
    any-writes 16 a some
    ∙ ap (λ (p : Piece). p then (code_values 15 16 a.code).format.writes a.value)
    (layer-plain 16 (code_piece a.code) l (λ graph e. true≢false (sym p ∙ ap is_plain e)) ∙ plain-piece a.code p)
    ∙ ap (λ (q : Piece). kind_piece (kind_of a.code) then q) value

pub plain_any_ends : (a : Any) (place behind : ℕ) (r : Option ℕ) → is_plain (out-TypeCode a.code) ≡ true
    → is_number (out-TypeCode a.code) ≡ true → behind ≡ place + (gap 4 place + 4)
    → IfSome r (λ end. end ≡ behind + length (plain_piece a.value Big behind))
    → IfSome r (λ end. end ≡ place + length (any_value.format.writes a Big place))
plain_any_ends a place behind None p n e s = tt
plain_any_ends a place behind (Some end) p n e s =
    let k = kind_piece (kind_of a.code) in
    let first : behind ≡ place + length (k Big place) = number_ends 4 place (number_of (kind_of a.code)) behind e in
    same_ends (any_value.format.writes a) (k then plain_piece a.value) place end (plain_any a p n)
    (then_ends k (plain_piece a.value) place behind end first s)

-- ---- strings

string_any : (a : Any) (bound : ℕ) → a.code ≡ code.Str bound
    → any_value.format.writes a
    ≡ (kind_piece kind.Str then (number 4).writes bound) then none_or text.writes (text_in (out-Value a.value))
string_any a bound is =
    let l = layer_of.TypeCode::Str bound in
    let out : out-TypeCode a.code ≡ l = ap out-TypeCode is ∙ code-str bound in
    let some : ◌≡◌ {A = ℕ} 16 0 → ⊥ = λ e. omega (arith, e) in
    let value : (code_values 15 16 a.code).format.writes a.value
    ≡ none_or text.writes (text_in (out-Value a.value)) =
    values-writes (anys 15) (outer 15) (graph_values 15) 16 a.code l a.value some out in
    any-writes 16 a some
    ∙ ap (λ (p : Piece). p then (code_values 15 16 a.code).format.writes a.value)
    (ap (λ (x : Layer). outer_layer 16 (code_piece a.code) x) out ∙ code_piece-at a.code l out)
    ∙ ap (λ (q : Piece). (kind_piece kind.Str then (number 4).writes bound) then q) value

pub string_any_ends : (a : Any) (bound place mid behind : ℕ) (r : Option ℕ) → a.code ≡ code.Str bound
    → mid ≡ place + (gap 4 place + 4) → behind ≡ mid + (gap 4 mid + 4)
    → IfSome r (λ end. end ≡ behind + length (none_or text.writes (text_in (out-Value a.value)) Big behind))
    → IfSome r (λ end. end ≡ place + length (any_value.format.writes a Big place))
string_any_ends a bound place mid behind None is e f s = tt
string_any_ends a bound place mid behind (Some end) is e f s =
    let k = kind_piece kind.Str in
    let b = (number 4).writes bound in
    let v = none_or text.writes (text_in (out-Value a.value)) in
    let first : mid ≡ place + length (k Big place) = number_ends 4 place (number_of kind.Str) mid e in
    let second : behind ≡ mid + length (b Big mid) = number_ends 4 mid bound behind f in
    same_ends (any_value.format.writes a) ((k then b) then v) place end (string_any a bound is)
    (then_ends (k then b) v place behind end (then_ends k b place mid behind first second) s)
