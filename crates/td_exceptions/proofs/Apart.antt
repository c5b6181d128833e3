-- An exception's repository id tells which one it is, and its members follow.
use Rattle.std.proofs.Common.{◌≡◌, ℕ, ◌-◌, ◌≤◌, List, [], ◌∷◌, ◌++◌, Some, Result, Ok, Err, refl, sym, ap, subst, ◌∙◌}
use Rattle.std.proofs.Common.{arith}
use Rattle.td_cdr.specs.declared.order.Order.{Order}
use Rattle.td_cdr.specs.Place.{At}
use Rattle.td_cdr.specs.Format.{Read, ◌>>=◌, value_named}
use Rattle.td_cdr.specs.Sound.{◌&◌, text}
use Rattle.td_cdr.specs.LawfulFormats.{reads_back}
use Rattle.td_typecode.specs.declared.code.Any.{Any}
use Rattle.td_typecode.specs.declared.code.TypeCode.TheVariants as code
use Rattle.td_typecode.specs.declared.code.Value.TheVariants as value
use Rattle.td_typecode.specs.declared.reference.Ior.{Ior}
use Rattle.td_value.specs.declared.enumerations.FollowOption.TheVariants.{LocalOnly}
use Rattle.td_value.specs.declared.enumerations.PropertyMode.TheVariants.{Normal}
use Rattle.td_value.specs.declared.structures.Property.{Property}
use Rattle.td_value.specs.declared.structures.Policy.{Policy}
use Rattle.td_value.specs.declared.structures.PropStruct.{PropStruct}
use Rattle.td_exceptions.specs.declared.exception.UserException.{UserException}
use Rattle.td_exceptions.specs.declared.exception.UserException.TheVariants as user
use Rattle.td_exceptions.specs.Exceptions.{row_of, user_id, exception_piece}
use Rattle.td_exceptions.specs.Laws.{IsWritable}
use Rattle.td_exceptions.proofs.NoNul.{user_id-clean}

-- ---- one exception of each variant

abbrev any : Any
any = record { code = code.Null; value = value.Empty }

abbrev property : Property
property = record { name = []; value = any }

abbrev policy : Policy
policy = record { name = []; value = any }

abbrev prop_struct : PropStruct
prop_struct = record { name = []; value_type = code.Null; mode = Normal }

abbrev reference : Ior
reference = record { id = []; profiles = [] }

abbrev samples : List UserException
samples =
    user.NotImplemented ∷ (user.IllegalServiceType []) ∷ (user.UnknownServiceType []) ∷
    (user.IllegalPropertyName []) ∷ (user.DuplicatePropertyName []) ∷ (user.PropertyTypeMismatch [] property) ∷
    (user.MissingMandatoryProperty [] []) ∷ (user.ReadonlyDynamicProperty [] []) ∷ (user.IllegalConstraint []) ∷
    (user.InvalidLookupRef reference) ∷ (user.IllegalOfferId []) ∷ (user.UnknownOfferId []) ∷
    (user.DuplicatePolicyName []) ∷ (user.IllegalPreference []) ∷ (user.IllegalPolicyName []) ∷
    (user.PolicyTypeMismatch policy) ∷ (user.InvalidPolicyValue policy) ∷ (user.InvalidObjectRef reference) ∷
    (user.UnknownPropertyName []) ∷ (user.InterfaceTypeMismatch [] reference) ∷ (user.ProxyOfferId []) ∷
    (user.MandatoryProperty [] []) ∷ (user.ReadonlyProperty [] []) ∷ (user.NoMatchingOffers []) ∷
    (user.IllegalTraderName []) ∷ (user.UnknownTraderName []) ∷ (user.IllegalLinkName []) ∷
    (user.UnknownLinkName []) ∷ (user.DuplicateLinkName []) ∷ (user.DefaultFollowTooPermissive LocalOnly LocalOnly) ∷
    (user.LimitingFollowTooPermissive LocalOnly LocalOnly) ∷ (user.IllegalRecipe []) ∷ (user.NotProxyOfferId []) ∷
    (user.DPEvalFailure [] code.Null any) ∷ (user.ServiceTypeExists []) ∷
    (user.ReposInterfaceTypeMismatch [] [] [] []) ∷ (user.HasSubTypes [] []) ∷ (user.AlreadyMasked []) ∷
    (user.NotMasked []) ∷ (user.ValueTypeRedefinition [] prop_struct [] prop_struct) ∷
    (user.DuplicateServiceTypeName []) ∷ []

-- the one that an id finds has the members of each exception of that id
record Sampled (e : UserException) : Type 0 where
  sample : UserException
  found : value_named user_id samples (user_id e) ≡ Some sample
  alike : (a : At) → (row_of sample).members.format.reads a ≡ (row_of e).members.format.reads a

sampled : (e : UserException) → Sampled e
sampled user.NotImplemented = record { sample = user.NotImplemented; found = refl; alike = λ a. refl }
sampled (user.IllegalServiceType _) = record { sample = user.IllegalServiceType []; found = refl; alike = λ a. refl }
sampled (user.UnknownServiceType _) = record { sample = user.UnknownServiceType []; found = refl; alike = λ a. refl }
sampled (user.IllegalPropertyName _) = record { sample = user.IllegalPropertyName []; found = refl; alike = λ a. refl }
sampled (user.DuplicatePropertyName _) = record {
  sample = user.DuplicatePropertyName [];
  found = refl;
  alike = λ a. refl;
}
sampled (user.PropertyTypeMismatch _ _) = record {
  sample = user.PropertyTypeMismatch [] property;
  found = refl;
  alike = λ a. refl;
}
sampled (user.MissingMandatoryProperty _ _) = record {
  sample = user.MissingMandatoryProperty [] [];
  found = refl;
  alike = λ a. refl;
}
sampled (user.ReadonlyDynamicProperty _ _) = record {
  sample = user.ReadonlyDynamicProperty [] [];
  found = refl;
  alike = λ a. refl;
}
sampled (user.IllegalConstraint _) = record { sample = user.IllegalConstraint []; found = refl; alike = λ a. refl }
sampled (user.InvalidLookupRef _) = record { sample = user.InvalidLookupRef reference; found = refl; alike = λ a. refl }
sampled (user.IllegalOfferId _) = record { sample = user.IllegalOfferId []; found = refl; alike = λ a. refl }
sampled (user.UnknownOfferId _) = record { sample = user.UnknownOfferId []; found = refl; alike = λ a. refl }
sampled (user.DuplicatePolicyName _) = record { sample = user.DuplicatePolicyName []; found = refl; alike = λ a. refl }
sampled (user.IllegalPreference _) = record { sample = user.IllegalPreference []; found = refl; alike = λ a. refl }
sampled (user.IllegalPolicyName _) = record { sample = user.IllegalPolicyName []; found = refl; alike = λ a. refl }
sampled (user.PolicyTypeMismatch _) = record {
  sample = user.PolicyTypeMismatch policy;
  found = refl;
  alike = λ a. refl;
}
sampled (user.InvalidPolicyValue _) = record {
  sample = user.InvalidPolicyValue policy;
  found = refl;
  alike = λ a. refl;
}
sampled (user.InvalidObjectRef _) = record { sample = user.InvalidObjectRef reference; found = refl; alike = λ a. refl }
sampled (user.UnknownPropertyName _) = record { sample = user.UnknownPropertyName []; found = refl; alike = λ a. refl }
sampled (user.InterfaceTypeMismatch _ _) = record {
  sample = user.InterfaceTypeMismatch [] reference;
  found = refl;
  alike = λ a. refl;
}
sampled (user.ProxyOfferId _) = record { sample = user.ProxyOfferId []; found = refl; alike = λ a. refl }
sampled (user.MandatoryProperty _ _) = record { sample = user.MandatoryProperty [] []; found = refl; alike = λ a. refl }
sampled (user.ReadonlyProperty _ _) = record { sample = user.ReadonlyProperty [] []; found = refl; alike = λ a. refl }
sampled (user.NoMatchingOffers _) = record { sample = user.NoMatchingOffers []; found = refl; alike = λ a. refl }
sampled (user.IllegalTraderName _) = record { sample = user.IllegalTraderName []; found = refl; alike = λ a. refl }
sampled (user.UnknownTraderName _) = record { sample = user.UnknownTraderName []; found = refl; alike = λ a. refl }
sampled (user.IllegalLinkName _) = record { sample = user.IllegalLinkName []; found = refl; alike = λ a. refl }
sampled (user.UnknownLinkName _) = record { sample = user.UnknownLinkName []; found = refl; alike = λ a. refl }
sampled (user.DuplicateLinkName _) = record { sample = user.DuplicateLinkName []; found = refl; alike = λ a. refl }
sampled (user.DefaultFollowTooPermissive _ _) = record {
  sample = user.DefaultFollowTooPermissive LocalOnly LocalOnly;
  found = refl;
  alike = λ a. refl;
}
sampled (user.LimitingFollowTooPermissive _ _) = record {
  sample = user.LimitingFollowTooPermissive LocalOnly LocalOnly;
  found = refl;
  alike = λ a. refl;
}
sampled (user.IllegalRecipe _) = record { sample = user.IllegalRecipe []; found = refl; alike = λ a. refl }
sampled (user.NotProxyOfferId _) = record { sample = user.NotProxyOfferId []; found = refl; alike = λ a. refl }
sampled (user.DPEvalFailure _ _ _) = record {
  sample = user.DPEvalFailure [] code.Null any;
  found = refl;
  alike = λ a. refl;
}
sampled (user.ServiceTypeExists _) = record { sample = user.ServiceTypeExists []; found = refl; alike = λ a. refl }
sampled (user.ReposInterfaceTypeMismatch _ _ _ _) = record {
  sample = user.ReposInterfaceTypeMismatch [] [] [] [];
  found = refl;
  alike = λ a. refl;
}
sampled (user.HasSubTypes _ _) = record { sample = user.HasSubTypes [] []; found = refl; alike = λ a. refl }
sampled (user.AlreadyMasked _) = record { sample = user.AlreadyMasked []; found = refl; alike = λ a. refl }
sampled (user.NotMasked _) = record { sample = user.NotMasked []; found = refl; alike = λ a. refl }
sampled (user.ValueTypeRedefinition _ _ _ _) = record {
  sample = user.ValueTypeRedefinition [] prop_struct [] prop_struct;
  found = refl;
  alike = λ a. refl;
}
sampled (user.DuplicateServiceTypeName _) = record {
  sample = user.DuplicateServiceTypeName [];
  found = refl;
  alike = λ a. refl;
}

some_is : {X : Type 0} (x y : X) → Some x ≡ Some y → x ≡ y
some_is x y e = cc

pub id-tells : (e f : UserException) → user_id e ≡ user_id f → (a : At)
    → (row_of e).members.format.reads a ≡ (row_of f).members.format.reads a
id-tells e f same a =
    let one = sampled e in
    let two = sampled f in
    let is = some_is one.sample two.sample (sym one.found ∙ ap (value_named user_id samples) same ∙ two.found) in
    sym (one.alike a) ∙ ap (λ (s : UserException). (row_of s).members.format.reads a) is ∙ two.alike a

-- ---- an exception behind its id

abbrev done : {F X : Type 0} → X → Result X F
done x = Ok x

ok_is : {F X : Type 0} (x y : X) → done {F = F} x ≡ done y → x ≡ y
ok_is x y e = cc

-- a name, and what was read behind it
abbrev named : {F Y : Type 0} → List ℕ → Y × At → Read F (List ℕ × Y)
named name v = Ok ((name, v.0), v.1)

abbrev behind : {F Y : Type 0} → Read F Y → List ℕ → Read F (List ℕ × Y)
behind r name = r >>= λ v. named name v

abbrev both_read : {F Y : Type 0} → Read F (List ℕ) → (At → Read F Y) → Read F (List ℕ × Y)
both_read r k = r >>= λ x. behind (k x.1) x.0

behind-parts : {F Y : Type 0} (r : Read F Y) (name id : List ℕ) (y : Y) (last : At) → behind r name ≡ named id (y, last)
    → (name ≡ id) × (r ≡ Ok (y, last))
behind-parts {Y = Y} (Ok v) name id y last e =
    let one : (List ℕ × Y) × At = ((name, v.0), v.1) in
    let two : (List ℕ × Y) × At = ((id, y), last) in
    let p = ok_is one two e in
    (ap (λ (z : (List ℕ × Y) × At). z.0.0) p, ap (λ (z : (List ℕ × Y) × At). done (z.0.1, z.1)) p)
behind-parts (Err d) name id y last e = absurd cc

parts : {F Y : Type 0} (r : Read F (List ℕ)) (k : At → Read F Y) (id : List ℕ) (y : Y) (last : At)
    → both_read r k ≡ named id (y, last) → (next : At) × (r ≡ Ok (id, next)) × (k next ≡ Ok (y, last))
parts (Ok x) k id y last e =
    let b = behind-parts (k x.1) x.0 id y last e in
    (x.1, ap (λ (n : List ℕ). done (n, x.1)) b.0, b.1)
parts (Err d) k id y last e = absurd cc

abbrev start : Order → ℕ → List ℕ → At
start order place rest = record { rest = rest; place = place; origin = 0; order = order }

-- the id is read, and the exception where the id ends
record ReadBack (e : UserException) (a : At) : Type 0 where
  next : At
  last : At
  id : text.format.reads a ≡ Ok (user_id e, next)
  members : (row_of e).members.format.reads next ≡ Ok (e, last)

read-back : (e : UserException) (a : At) (more : List ℕ) → a.origin ≤ a.place
    → IsWritable e a.order (a.place - a.origin) → a.rest ≡ exception_piece e a.order (a.place - a.origin) ++ more
    → ReadBack e a
read-back e a more h w is =
    let both = text & (row_of e).members in
    let p = parts (text.format.reads a) (row_of e).members.format.reads (user_id e) e _
    (reads_back both.format both.lawful (user_id e, e) a more (user_id-clean e, w.0) h w.1 is) in
    record { next = p.0; last = _; id = p.1; members = p.2 }

apart : (e f : UserException) (a : At) (more others : List ℕ) → a.origin ≤ a.place
    → IsWritable e a.order (a.place - a.origin) → IsWritable f a.order (a.place - a.origin)
    → a.rest ≡ exception_piece e a.order (a.place - a.origin) ++ more
    → a.rest ≡ exception_piece f a.order (a.place - a.origin) ++ others → e ≡ f
apart e f a more others h v w here there =
    let one = read-back e a more h v here in
    let two = read-back f a others h w there in
    let met = ok_is (user_id e, one.next) (user_id f, two.next) (sym one.id ∙ two.id) in
    let content = id-tells e f (ap (λ (p : List ℕ × At). p.0) met) one.next in
    let ends = ap (λ (p : List ℕ × At). (row_of f).members.format.reads p.1) met in
    ap (λ (p : UserException × At). p.0)
    (ok_is (e, one.last) (f, two.last) (sym one.members ∙ content ∙ ends ∙ two.members))

pub written-apart : (e f : UserException) (order : Order) (place : ℕ) (more others : List ℕ) → IsWritable e order place
    → IsWritable f order place → exception_piece e order place ++ more ≡ exception_piece f order place ++ others → e ≡ f
written-apart e f order place more others v w same =
    let bytes = exception_piece e order place ++ more in
    let a = start order place bytes in
    let here : place ≡ place - 0 = omega arith in
    apart e f a more others (omega arith) (subst (IsWritable e order) here v) (subst (IsWritable f order) here w)
    (subst (λ (n : ℕ). bytes ≡ exception_piece e order n ++ more) here refl)
    (subst (λ (n : ℕ). bytes ≡ exception_piece f order n ++ others) here same)
