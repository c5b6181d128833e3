-- An any of the type unsigned long, read from its octets.
use Rattle.std.proofs.Common.{◌≡◌, ℕ, List, [], ◌∷◌, Option, refl, ap, ◌∙◌, Some, None, Ok}
use Rattle.td_cdr.specs.Format.{Read, ◌>>=◌}
use Rattle.td_cdr.specs.Place.{At}
use Rattle.td_cdr.specs.Reading.{number_at, cell_at}
use Rattle.td_cdr.specs.declared.order.Order.TheVariants.{Big}
use Rattle.td_cdr.specs.declared.value_fault.ValueFault.{ValueFault}
use Rattle.td_typecode.specs.Codes.{code_formats}
use Rattle.td_typecode.specs.Labels.{Layer, ulong_value}
use Rattle.td_typecode.specs.Layers.{code-ulong}
use Rattle.td_typecode.specs.Outermost.{outer}
use Rattle.td_typecode.specs.Values.{anys, left, layer, values, code_values, graph_values}
use Rattle.td_typecode.specs.declared.code.Any.{Any}
use Rattle.td_typecode.specs.declared.code.TypeCode.{TypeCode}
use Rattle.td_typecode.specs.declared.code.TypeCode.TheVariants as code
use Rattle.td_typecode.specs.declared.code.Value.{Value}
use Rattle.td_typecode.specs.declared.code.Value.TheVariants as value
use Rattle.td_log.specs.Lines.{alone, any_of, start}

-- behind the TypeCode's octets
abbrev pub behind_code : List ℕ → At
behind_code rest = record { rest = rest; place = 4; origin = 0; order = Big }

abbrev pub is_ulong : List ℕ → Read ValueFault TypeCode
is_ulong rest = Ok (code.ULong, behind_code rest)

abbrev valued : TypeCode → At → Read ValueFault Value
valued t a = (code_values 15 16 t).format.reads a

-- the steps of the format
abbrev pub join : TypeCode → Value × At → Read ValueFault (TypeCode × Value)
join t v = Ok ((t, v.0), v.1)

abbrev pairing : TypeCode × At → Read ValueFault (TypeCode × Value)
pairing t = valued t.0 t.1 >>= join t.0

abbrev pub to_any : (TypeCode × Value) × At → Read ValueFault Any
to_any p = Ok (record { code = p.0.0; value = p.0.1 }, p.1)

-- what is read behind the code is an unsigned long
abbrev pub any_with : Read ValueFault Value → Option Any
any_with v = alone ((v >>= join code.ULong) >>= to_any)

valued-ulong : (a : At) → valued code.ULong a ≡ ulong_value.format.reads a
unfolding values
valued-ulong a =
    ap (λ (l : Layer). (layer (anys 15) (outer 15) (code_values 15 15) (graph_values 15) 15 l).format.reads a)
    code-ulong

pub any-ulong : (octets rest : List ℕ) → (outer 16).format.reads (start octets) ≡ is_ulong rest
    → any_of octets ≡ any_with (ulong_value.format.reads (behind_code rest))
unfolding any_of left
any-ulong octets rest e =
    ap (λ (r : Read ValueFault TypeCode). alone ((r >>= pairing) >>= to_any)) e
    ∙ ap any_with (valued-ulong (behind_code rest))

-- four octets that spell 7
abbrev pub seven : List ℕ
seven = 0 ∷ 0 ∷ 0 ∷ 7 ∷ []

-- the octets of the examples
pub whole : any_of (0 ∷ 0 ∷ 0 ∷ 5 ∷ seven) ≡ Some (record { code = code.ULong; value = value.ULong 7 })
unfolding code_formats number_at cell_at
whole = any-ulong (0 ∷ 0 ∷ 0 ∷ 5 ∷ seven) seven refl

pub cut : any_of (0 ∷ 0 ∷ 0 ∷ 5 ∷ 0 ∷ 0 ∷ 0 ∷ []) ≡ None
unfolding code_formats number_at cell_at
cut = any-ulong (0 ∷ 0 ∷ 0 ∷ 5 ∷ 0 ∷ 0 ∷ 0 ∷ []) (0 ∷ 0 ∷ 0 ∷ []) refl

pub more : any_of (0 ∷ 0 ∷ 0 ∷ 5 ∷ 0 ∷ 0 ∷ 0 ∷ 7 ∷ 0 ∷ []) ≡ None
unfolding code_formats number_at cell_at
more = any-ulong (0 ∷ 0 ∷ 0 ∷ 5 ∷ 0 ∷ 0 ∷ 0 ∷ 7 ∷ 0 ∷ []) (0 ∷ 0 ∷ 0 ∷ 7 ∷ 0 ∷ []) refl
