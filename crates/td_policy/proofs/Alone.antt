-- No type of a policy is a graph, or has one in it.
use Rattle.std.specs.Prelude.{◌≡◌, ℕ, None, refl, codes, []}
use Rattle.std.proofs.Common.{◌∷◌}
use Rattle.td_typecode.specs.declared.code.TypeCode.{TypeCode}
use Rattle.td_typecode.specs.declared.code.TypeCode.TheVariants as code
use Rattle.td_typecode.specs.declared.code.TypeCode.TheOpen as c
use Rattle.td_typecode.specs.Layers.{code-boolean, code-ulong, code-octet, code-str, code-enum, code-sequence}
use Rattle.td_typecode.specs.Same.{graph_of}
use Rattle.td_sameness.specs.Graphs.{StandsAlone}
use Rattle.td_sameness.proofs.Alone.{none-at, tree-at, alone-at, sequence-alone}
use Rattle.td_policy.specs.Values.{truth, number, rule, texts, octets}

-- ---- none is a graph

pub truth_none : graph_of truth.code ≡ None
truth_none = none-at code.Boolean c.TypeCode::Boolean code-boolean refl

pub number_none : graph_of number.code ≡ None
number_none = none-at code.ULong c.TypeCode::ULong code-ulong refl

pub rule_none : graph_of rule.code ≡ None
rule_none =
    let id = codes "IDL:omg.org/CosTrading/FollowOption:1.0" in
    let name = codes "FollowOption" in
    let names = codes "local_only" ∷ codes "if_no_local" ∷ codes "always" ∷ [] in
    none-at (code.Enum id name names) (c.TypeCode::Enum id name names) (code-enum id name names) refl

pub texts_none : (most : ℕ) → graph_of (texts most).code ≡ None
texts_none most = none-at (code.Sequence (code.Str 0) 0) (c.Sequence (code.Str 0) 0) (code-sequence (code.Str 0) 0) refl

pub octets_none : (most : ℕ) → graph_of (octets most).code ≡ None
octets_none most = none-at (code.Sequence code.Octet 0) (c.Sequence code.Octet 0) (code-sequence code.Octet 0) refl

-- ---- and none has one in it

pub truth_alone : StandsAlone truth.code
truth_alone =
    alone-at code.Boolean c.TypeCode::Boolean code-boolean refl
    (tree-at code.Boolean c.TypeCode::Boolean code-boolean refl)

pub number_alone : StandsAlone number.code
number_alone =
    alone-at code.ULong c.TypeCode::ULong code-ulong refl (tree-at code.ULong c.TypeCode::ULong code-ulong refl)

pub rule_alone : StandsAlone rule.code
rule_alone =
    let id = codes "IDL:omg.org/CosTrading/FollowOption:1.0" in
    let name = codes "FollowOption" in
    let names = codes "local_only" ∷ codes "if_no_local" ∷ codes "always" ∷ [] in
    alone-at (code.Enum id name names) (c.TypeCode::Enum id name names) (code-enum id name names) refl
    (tree-at (code.Enum id name names) (c.TypeCode::Enum id name names) (code-enum id name names) refl)

pub texts_alone : (most : ℕ) → StandsAlone (texts most).code
texts_alone most = sequence-alone (code.Str 0) 0 (tree-at (code.Str 0) (c.TypeCode::Str 0) (code-str 0) refl)

pub octets_alone : (most : ℕ) → StandsAlone (octets most).code
octets_alone most = sequence-alone code.Octet 0 (tree-at code.Octet c.TypeCode::Octet code-octet refl)
