-- Each operation of an object is found by its name.
use Rattle.std.proofs.Common.{◌≡◌, ℕ, List, [], ◌∷◌, ◌++◌, Bool, true, false, if◌then◌else◌, Option, Some, None, Err}
use Rattle.std.proofs.Common.{codes, refl, map, sym, subst, ◌∙◌}
use Rattle.std.proofs.lemmas.Slice.Eq.{bytes_eq-Decides}
use Rattle.std.specs.List.{IsDistinct, AllByRecursion}
use Rattle.std.specs.Str.{bytes_eq}
use Rattle.td_cdr.specs.Place.{At}
use Rattle.td_cdr.specs.Format.{value_named}
use Rattle.td_value.specs.declared.key.Kind.{Kind}
use Rattle.td_value.specs.declared.key.Kind.TheVariants as kind
use Rattle.td_ops.specs.declared.fault.OpsFault.TheVariants.{NoImplement}
use Rattle.td_ops.specs.declared.operation.Operation.{Operation}
use Rattle.td_ops.specs.declared.operation.Operation.TheVariants.{IsA, NonExistent}
use Rattle.td_ops.specs.Operations.{name_of, object_operations, operations, operation_named}
use Rattle.td_ops.specs.Calls.{call_read}

-- ---- a list in two parts

abbrev pub or_named : {K : Type 0} → Option K → Option K → Option K
or_named (Some x) y = Some x
or_named None y = y

if_or : {K : Type 0} (b : Bool) (x : K) (y z : Option K)
    → (if b then Some x else or_named y z) ≡ or_named (if b then Some x else y) z
if_or true x y z = refl
if_or false x y z = refl

pub value_named_append : {K : Type 0} (name_of : K → List ℕ) (xs ys : List K) (name : List ℕ)
    → value_named name_of (xs ++ ys) name ≡ or_named (value_named name_of xs name) (value_named name_of ys name)
value_named_append name_of [] ys name = refl
value_named_append name_of (x ∷ xs) ys name =
    rw (value_named_append name_of xs ys name)
    (if_or (bytes_eq name (name_of x)) x (value_named name_of xs name) (value_named name_of ys name))

-- ---- no name twice

abbrev unless : Bool → Bool → Bool
unless true b = false
unless false b = b

unless-both : (a b : Bool) → unless a b ≡ true → (a ≡ false) × (b ≡ true)
unless-both true b e = absurd cc
unless-both false b e = (refl, e)

abbrev differs : List ℕ → List (List ℕ) → Bool
differs x [] = true
differs x (y ∷ ys) = unless (bytes_eq x y) (differs x ys)

differs-all : (x : List ℕ) (ys : List (List ℕ)) → differs x ys ≡ true → AllByRecursion (λ y. bytes_eq x y ≡ false) ys
differs-all x [] e = tt
differs-all x (y ∷ ys) e = let p = unless-both (bytes_eq x y) (differs x ys) e in (p.0, differs-all x ys p.1)

abbrev both : Bool → Bool → Bool
both true b = b
both false b = false

both-hold : (a b : Bool) → both a b ≡ true → (a ≡ true) × (b ≡ true)
both-hold true b e = (refl, e)
both-hold false b e = absurd cc

abbrev are_apart : List (List ℕ) → Bool
are_apart [] = true
are_apart (x ∷ xs) = both (differs x xs) (are_apart xs)

distinct : (xs : List (List ℕ)) → are_apart xs ≡ true → IsDistinct bytes_eq xs
unfolding IsDistinct
distinct [] e = tt
distinct (x ∷ xs) e = let p = both-hold (differs x xs) (are_apart xs) e in (differs-all x xs p.0, distinct xs p.1)

pub names-distinct : (k : Kind) → IsDistinct bytes_eq (map name_of (operations k))
names-distinct kind.Lookup = distinct (map name_of (operations kind.Lookup)) refl
names-distinct kind.Register = distinct (map name_of (operations kind.Register)) refl
names-distinct kind.Link = distinct (map name_of (operations kind.Link)) refl
names-distinct kind.Proxy = distinct (map name_of (operations kind.Proxy)) refl
names-distinct kind.Admin = distinct (map name_of (operations kind.Admin)) refl
names-distinct kind.Types = distinct (map name_of (operations kind.Types)) refl
names-distinct (kind.Iterator n) = distinct (map name_of (operations (kind.Iterator n))) refl

-- ---- the tables

pub operations-found : (k : Kind)
    → map (λ o. operation_named k (name_of o)) (operations k) ≡ map (λ o. Some o) (operations k)
operations-found kind.Lookup = refl
operations-found kind.Register = refl
operations-found kind.Link = refl
operations-found kind.Proxy = refl
operations-found kind.Admin = refl
operations-found kind.Types = refl
operations-found (kind.Iterator n) = refl

pub second-found : (k : Kind) → operation_named k (codes "_not_existent") ≡ Some NonExistent
second-found kind.Lookup = refl
second-found kind.Register = refl
second-found kind.Link = refl
second-found kind.Proxy = refl
second-found kind.Admin = refl
second-found kind.Types = refl
second-found (kind.Iterator n) = refl

pub repository-kept : (a : At) → call_read kind.Admin (codes "set_type_repos") a ≡ Err NoImplement
repository-kept a = refl

-- ---- what is asked of every object

is_a-found : (k : Kind) → value_named name_of (operations k) (codes "_is_a") ≡ Some IsA
is_a-found kind.Lookup = refl
is_a-found kind.Register = refl
is_a-found kind.Link = refl
is_a-found kind.Proxy = refl
is_a-found kind.Admin = refl
is_a-found kind.Types = refl
is_a-found (kind.Iterator n) = refl

non_existent-found : (k : Kind) → value_named name_of (operations k) (codes "_non_existent") ≡ Some NonExistent
non_existent-found kind.Lookup = refl
non_existent-found kind.Register = refl
non_existent-found kind.Link = refl
non_existent-found kind.Proxy = refl
non_existent-found kind.Admin = refl
non_existent-found kind.Types = refl
non_existent-found (kind.Iterator n) = refl

of_two : (k : Kind) (name : List ℕ) (o : Operation) (a b : Bool) → bytes_eq name (codes "_is_a") ≡ a
    → bytes_eq name (codes "_non_existent") ≡ b
    → (if a then Some IsA else if b then Some NonExistent else None) ≡ Some o
    → value_named name_of (operations k) name ≡ Some o
of_two k name o true b e f h =
    subst (λ (n : List ℕ). value_named name_of (operations k) n ≡ Some o)
    (sym ((bytes_eq-Decides name (codes "_is_a")).0 e)) (is_a-found k ∙ h)
of_two k name o false true e f h =
    subst (λ (n : List ℕ). value_named name_of (operations k) n ≡ Some o)
    (sym ((bytes_eq-Decides name (codes "_non_existent")).0 f)) (non_existent-found k ∙ h)
of_two k name o false false e f h = absurd cc

-- is in the table of each kind, and nothing else is there under its name
pub every_object : (k : Kind) (name : List ℕ) (o : Operation)
    → value_named name_of object_operations name ≡ Some o → value_named name_of (operations k) name ≡ Some o
every_object k name o h =
    of_two k name o (bytes_eq name (codes "_is_a")) (bytes_eq name (codes "_non_existent")) refl refl h
